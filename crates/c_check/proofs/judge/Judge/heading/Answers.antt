use Rattle.std.proofs.Common.{◌∙◌, ℕ, length, ap, sym}
use Rattle.std.specs.Prelude.{nat_lt}
use Rattle.c_check.specs.Functions.{name_rules, type_rules, parts_rules}
use Rattle.c_check.specs.Told.{table}
use Rattle.c_check.proofs.Silences.{silent}
use Rattle.c_check.proofs.judge.Judge.heading.Goals as goal

pub returns-then-broke-clause-breaches : goal.returns-then-broke-clause-breaches
returns-then-broke-clause-breaches c =
    let f = table c.args.known in
    let structs = c.args.known.structs.now in
    let parts = c.parts.new.self.breaches.items in
    silent c.args.self.now.breaches.items parts c.note_name.new.self.breaches.items
    (parts_rules structs c.args.defined c.args.h.now) (name_rules f c.args.k c.args.defined c.args.h.now) (type_rules f structs c.args.h.now)
    c.in_ok-scope.ensures.breaches
    (ap (λ (n : ℕ). nat_lt n (length parts)) (sym c.mark-mark.ensures) ∙ sym c.broke-broke.ensures ∙ c.if-broke.true)
    c.in_ok-note_name.ensures
