-- A tree that breaks no rule has a typed form.
use Rattle.std.proofs.Common.{◌≡◌, ℕ, Bool, not, ◌&&◌, List, [], ◌∷◌, ◌++◌, length, ◌==◌, Option, Some, None, true, false, refl, if◌then◌else◌}
use Rattle.std.specs.Prelude.{is_some, option_map}
use Rattle.std.specs.Str.{bytes_eq}
use Rattle.c_tree.specs.declared.kind.Kind.TheVariants as kind
use Rattle.c_tree.specs.declared.tree.BlockItem.{BlockItem}
use Rattle.c_tree.specs.declared.tree.BlockItem.TheVariants as block_item
use Rattle.c_tree.specs.declared.tree.Heading.{Heading}
use Rattle.c_tree.specs.declared.tree.Item.{Item}
use Rattle.c_tree.specs.declared.tree.Item.TheVariants as item
use Rattle.c_tree.specs.declared.tree.Stmt.{Stmt}
use Rattle.c_tree.specs.declared.tree.Tree.{Tree}
use Rattle.c_kernel.specs.declared.types.CType.{CType}
use Rattle.c_kernel.specs.declared.types.Struct.{Struct}
use Rattle.c_rules.specs.declared.breach.Breach.{Breach}
use Rattle.c_rules.specs.declared.signature.Signature.{Signature}
use Rattle.c_rules.specs.Judged.{breaks, unless_broken}
use Rattle.c_rules.specs.Rules.{main_name}
use Rattle.c_rules.specs.Scope.{Bytes, start}
use Rattle.c_rules.specs.Types.{first_structs}
use Rattle.c_check.specs.Functions.{is_main, parameters_of, result_of, with_parameters, parts_rules, is_bad_result, is_sound, heading_in, is_definition, next_number, signature_of, said_by, joined, signatures, number_in, name_rules, type_rules, heading_rules}
use Rattle.c_check.specs.Program.{body_item, body, item_judged, items_judged, main_in, judged_tree, program_of}
use Rattle.c_check.specs.Statement.{declaration}
use Rattle.c_check.specs.Structs.{with_item}
use Rattle.c_check.proofs.TypedExpressions.{IsSound, AreSound}
use Rattle.c_check.proofs.TypedParts.{IsTold, not_none, none_before, none_behind, map_some, told_by, told_refused, told_after, told_parts, told_pair, told_as}
use Rattle.c_check.proofs.TypedStatements.{IsToldWalk, told_all, told_each, told_walk_as, told_declaration, told_statement}

-- ---- where no header breaks a rule, each function's is sound

sound_first : (a b : Option Signature) → IsSound a → IsSound b → IsSound (joined a b)
sound_first None b h k = k
sound_first (Some f) None h k = h
sound_first (Some f) (Some g) h k = h

none_long : (fs : List Breach) (b : Bool) (at : ℕ) → fs ≡ [] → breaks b kind.IncompleteType at ≡ [] → ((length fs == 0) && not b) ≡ true
none_long [] true at e h = absurd (not_none _ _ h)
none_long [] false at e h = refl
none_long (f ∷ fs) b at e h = absurd (not_none f fs e)

unless_none : (fs gs : List Breach) → fs ≡ [] → unless_broken fs gs ≡ [] → gs ≡ []
unless_none [] gs e h = h
unless_none (f ∷ fs) gs e h = absurd (not_none f fs e)

module _ (functions : Bytes → Option Signature) where
  sound_heading : (structs : List Struct) (k : ℕ) (defined : Bool) (h : Heading) → heading_rules functions structs k defined h ≡ [] → is_sound structs defined h ≡ true
  sound_heading structs k defined h e =
      let parts = parts_rules structs defined h in
      let names = name_rules functions k defined h in
      let types = type_rules functions structs h in
      let none = none_before parts names (none_before (parts ++ names) (unless_broken parts types) e) in
      none_long parts (is_bad_result (result_of structs h)) h.name.at none (none_before _ _ (unless_none parts types none (none_behind (parts ++ names) (unless_broken parts types) e)))

  sound_said : (structs : List Struct) (k : ℕ) (defined : Bool) (h : Heading) (name : Bytes) → heading_rules functions structs k defined h ≡ [] → IsSound (said_by structs k defined (Some h) name)
  sound_said structs k defined h name e = of_name (bytes_eq h.name.bytes name)
    where
      of_name : (b : Bool) → IsSound (if b then Some (signature_of structs k defined h) else None)
      of_name true = sound_heading structs k defined h e
      of_name false = tt

  sound_item : (structs : List Struct) (k : ℕ) (i : Item) (name : Bytes) → (item_judged functions structs k i).breaches ≡ [] → IsSound (said_by structs k (is_definition i) (heading_in i) name)
  sound_item structs k (item.Include at header) name e = tt
  sound_item structs k (item.Struct at n members) name e = tt
  sound_item structs k (item.Prototype h) name e = sound_said structs k false h name e
  sound_item structs k (item.Function h b) name e = sound_said structs k true h name (none_before (heading_rules functions structs k true h) _ e)

  sound_items : (structs : List Struct) (k : ℕ) (is : List Item) → (items_judged functions structs k is).breaches ≡ [] → AreSound (signatures structs k is)
  sound_items structs k [] e name = tt
  sound_items structs k (i ∷ is) e name =
      let here = (item_judged functions structs k i).breaches in
      let later = (items_judged functions (with_item structs i) (next_number k i) is).breaches in
      let none = none_before (here ++ later) _ e in
      sound_first _ (signatures (with_item structs i) (next_number k i) is name) (sound_item structs k i name (none_before here later none)) (sound_items (with_item structs i) (next_number k i) is (none_behind here later none) name)

module _ (functions : Bytes → Option Signature) (structs : List Struct) (sound : AreSound functions) where
  told_item_of_body : (result : CType) (x : BlockItem Stmt) → IsToldWalk (body_item functions structs result x)
  told_item_of_body result (block_item.Declaration d) = told_walk_as _ (declaration functions structs d) (told_declaration functions structs sound d)
  told_item_of_body result (block_item.Statement x) = told_statement functions structs sound result x false

  told_body : (h : Heading) (items : List (BlockItem Stmt)) → IsTold (body functions structs h items)
  told_body h items =
      let result = result_of structs h in
      told_as _ _ (told_all _ (told_each (body_item functions structs result) (told_item_of_body result) items) (with_parameters structs (is_main h) start (parameters_of h.parameters)))

  told_item : (k : ℕ) (i : Item) → IsTold (item_judged functions structs k i)
  told_item k (item.Include at header) = λ e. refl
  told_item k (item.Struct at name members) = told_by _ _
  told_item k (item.Prototype h) = told_by _ _
  told_item k (item.Function h b) = told_after (heading_rules functions structs k true h) _ (told_as _ (body functions structs h b.items) (told_body h b.items))

told_items : (functions : Bytes → Option Signature) → AreSound functions → (structs : List Struct) (k : ℕ) (is : List Item) → IsTold (items_judged functions structs k is)
told_items functions sound structs k [] = λ e. refl
told_items functions sound structs k (i ∷ is) =
    told_parts (item_judged functions structs k i) (items_judged functions (with_item structs i) (next_number k i) is) _
    (told_item functions structs sound k i) (told_items functions sound (with_item structs i) (next_number k i) is) (λ fs gs e. refl)

told_main : (length : ℕ) (number : Option ℕ) → IsTold (main_in length number)
told_main length None = told_refused _
told_main length (Some k) = λ e. refl

told_tree : (tree : Tree) → IsTold (judged_tree tree)
told_tree tree e =
    let functions = signatures first_structs 0 tree.items in
    let items = items_judged functions first_structs 0 tree.items in
    let main = main_in tree.length (number_in (functions main_name)) in
    let sound = sound_items functions first_structs 0 tree.items (none_before items.breaches main.breaches e) in
    told_pair items main (told_items functions sound first_structs 0 tree.items) (told_main tree.length (number_in (functions main_name))) e

pub typed_form : (tree : Tree) → (judged_tree tree).breaches ≡ [] → is_some (option_map (program_of tree) (judged_tree tree).found) ≡ true
typed_form tree e = map_some (program_of tree) (judged_tree tree).found (told_tree tree e)
