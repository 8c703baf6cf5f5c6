use Rattle.std.proofs.Common.{◌≡◌, ◌<◌, length, refl, arith}
use Rattle.c_parse.proofs.Outcomes.{tree, trailing}
use Rattle.c_parse.proofs.tree_of.Goals as goal

pub returns-in-Ok-default-empty : goal.returns-in-Ok-default-empty
returns-in-Ok-default-empty c =
    let none : length c.in-Ok-default-empty.field-0-1.now ≡ 0 = omega arith in
    tree c.args.text.now c.args.tokens.now _ c.in-Ok-default-empty.field-0-1.now c.requires.short c.requires.scanned c.in-Ok-default-empty.ensures.reads none refl c.names_any.ensures

pub returns-in-Ok : goal.returns-in-Ok
returns-in-Ok c =
    let some : 0 < length c.in-Ok.rest.now = omega arith in
    trailing c.args.text.now c.args.tokens.now _ c.in-Ok.rest.now _ c.requires.short c.requires.scanned c.in-Ok.ensures.reads some c.place_of.ensures
