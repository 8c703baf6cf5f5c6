use Rattle.std.proofs.Common.{◌∙◌, Bool, ap}
use Rattle.c_rules.specs.Scope.{scope_of}
use Rattle.c_check.specs.Statement.{walked_items}
use Rattle.c_check.specs.Told.{table, within}
use Rattle.c_check.proofs.Bodies.{in_body}
use Rattle.c_check.proofs.Steps.{led_same}
use Rattle.c_check.proofs.walker.Walker.body_items.Goals as goal

pub returns : goal.returns
returns c =
    let a = c.args.around in
    let s = scope_of c.args.self.now.scope in
    led_same c.block_items.result c.args.self.now c.block_items.new.self _ _
    (ap (λ (b : Bool). within a walked_items b c.args.items.now s) c.requires
    ∙ in_body (table a.known) a.known.structs.now a.result_type c.args.items.now s)
    c.block_items.ensures
