use Rattle.std.proofs.Common.{◌≡◌, drop, map}
use Rattle.std.specs.Prelude.{fold}
use Rattle.std.specs.Option.{option_copied}
use Rattle.c_rules.specs.Scope.{nearer, in_block, in_blocks, entries}
use Rattle.c_rules.proofs.scope.Scope.find.Given as goal

abbrev pub invariant-loop-block : goal.invariant-loop-block
invariant-loop-block l =
    fold (λ far block. nearer (in_block block l.name) far) (option_copied l.found) (map (λ b. entries b.entries) (drop l.block-index l.self.around.items))
    ≡ in_blocks (map (λ b. entries b.entries) l.self.around.items) l.name
