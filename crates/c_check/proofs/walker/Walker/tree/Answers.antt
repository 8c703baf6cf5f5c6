use Rattle.std.proofs.Common.{◌≡◌, ℕ, Bool, List, ◌++◌, Option, ap, ◌∙◌, append_assoc}
use Rattle.std.specs.Prelude.{option_map}
use mathlib.Core.Path.{fun_ext}
use Rattle.c_tree.specs.declared.tree.Item.{Item}
use Rattle.c_kernel.specs.declared.program.Function.{Function}
use Rattle.c_kernel.specs.declared.program.Program.{Program}
use Rattle.c_kernel.specs.declared.types.Struct.{Struct}
use Rattle.c_rules.specs.declared.breach.Breach.{Breach}
use Rattle.c_rules.specs.declared.signature.Signature.{Signature}
use Rattle.c_rules.specs.Judged.{Judged, both, pair_of}
use Rattle.c_rules.specs.Rules.{main_name}
use Rattle.c_rules.specs.Scope.{Bytes}
use Rattle.c_rules.specs.Table.{called}
use Rattle.c_rules.specs.Types.{first_structs}
use Rattle.c_check.specs.Functions.{signatures, number_in}
use Rattle.c_check.specs.Program.{items_judged, main_in}
use Rattle.c_check.specs.Structs.{all_structs}
use Rattle.c_check.proofs.walker.Walker.tree.Goals as goal

-- a tree of these items, by a table of functions
abbrev by_table : (Bytes → Option Signature) → List Item → ℕ → Judged (List Function × ℕ)
by_table f items length = pair_of (items_judged f first_structs 0 items) (main_in length (number_in (f main_name)))

abbrev program : List Struct → Bool → List Function × ℕ → Program
program structs any p = record { structs = structs; functions = p.0; main = p.1; any_source = any }

same_table : (f : Bytes → Option Signature) (xs ys items : List Item) (length : ℕ) → ((name : Bytes) → f name ≡ signatures first_structs 0 xs name) → xs ≡ items → ys ≡ items → by_table f ys length ≡ by_table (signatures first_structs 0 items) items length
same_table f xs ys items length e p q =
    ap (λ (g : Bytes → Option Signature). by_table g ys length) (fun_ext e)
    ∙ ap (λ (zs : List Item). by_table (signatures first_structs 0 zs) ys length) p
    ∙ ap (λ (zs : List Item). by_table (signatures first_structs 0 items) zs length) q

-- what is noted in order
noted : (before first second a b : List Breach) → first ≡ before ++ a → second ≡ first ++ b → second ≡ before ++ (a ++ b)
noted before first second a b p q = q ∙ ap (λ (fs : List Breach). fs ++ b) p ∙ append_assoc before a b

pub returns : goal.returns
returns c =
    let f = called c.in_ok-functions.functions.entries in
    let any = c.args.tree.now.any_source in
    let items = c.as_slice-2.result.now in
    let same = same_table f c.as_slice.result.now items c.args.tree.now.items c.args.tree.now.length c.in_ok-functions.ensures c.as_slice.ensures c.as_slice-2.ensures in
    record {
      found =
          c.whole.ensures
          ∙ ap (λ (ss : List Struct). option_map (program ss any) (both c.in_ok-defined.defined.functions c.in_ok-main.main)) (c.in_ok-defined.ensures.structs ∙ ap (all_structs first_structs) c.as_slice-2.ensures)
          ∙ ap (λ (o : Option (List Function)). option_map (program (all_structs first_structs c.args.tree.now.items) any) (both o c.in_ok-main.main)) c.in_ok-defined.ensures.told.found
          ∙ ap (λ (o : Option ℕ). option_map (program (all_structs first_structs c.args.tree.now.items) any) (both (items_judged f first_structs 0 items).found o)) c.in_ok-main.ensures.found
          ∙ ap (λ (j : Judged (List Function × ℕ)). option_map (program (all_structs first_structs c.args.tree.now.items) any) j.found) same;
      breaches =
          noted c.args.self.now.judge.breaches.items c.items.new.self.judge.breaches.items c.main_of.new.self.breaches.items
          (items_judged f first_structs 0 items).breaches (main_in c.args.tree.now.length (number_in (f main_name))).breaches
          c.in_ok-defined.ensures.told.breaches c.in_ok-main.ensures.breaches
          ∙ ap (λ (j : Judged (List Function × ℕ)). c.args.self.now.judge.breaches.items ++ j.breaches) same;
    }
