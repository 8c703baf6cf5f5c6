-- An expression that breaks no rule has a typed form.
use Rattle.std.proofs.Common.{◌≡◌, ℕ, List, [], ◌∷◌, ◌++◌, map, Bool, true, false, Option, Some, None, refl, ap, sym, subst, if◌then◌else◌}
use Rattle.std.specs.Prelude.{is_some, option_map}
use Rattle.c_tree.specs.declared.tree.Expr.{Expr}
use Rattle.c_tree.specs.declared.tree.Expr.TheFolds.{fold-roll-Expr, ind-Expr, map-Expr}
use Rattle.c_tree.specs.declared.tree.Expr.TheOpen.{Expr-F}
use Rattle.c_tree.specs.declared.tree.Expr.TheViews.{roll-Expr}
use Rattle.c_tree.specs.declared.tree.Access.{Access}
use Rattle.c_tree.specs.declared.tree.Access.TheVariants as access
use Rattle.c_tree.specs.declared.tree.Constant.{Constant}
use Rattle.c_tree.specs.declared.tree.Constant.TheVariants as word
use Rattle.c_tree.specs.declared.tree.Link.{Link}
use Rattle.c_tree.specs.declared.tree.MemberName.{MemberName}
use Rattle.c_tree.specs.declared.tree.Name.{Name}
use Rattle.c_tree.specs.declared.tree.Primary.{Primary}
use Rattle.c_tree.specs.declared.tree.Primary.TheVariants as primary
use Rattle.c_tree.specs.declared.tree.Suffix.{Suffix}
use Rattle.c_tree.specs.declared.tree.Suffix.TheVariants as suffix
use Rattle.c_tree.specs.declared.tree.TypeName.{TypeName}
use Rattle.c_tree.specs.declared.token.Operator.{Operator}
use Rattle.c_tree.specs.declared.token.Operator.TheVariants as operator
use Rattle.c_tree.specs.declared.kind.Kind.TheVariants.{UnknownName, NotStruct, CallPlace}
use Rattle.c_kernel.specs.declared.types.CType.{CType}
use Rattle.c_kernel.specs.declared.types.Member.{Member}
use Rattle.c_kernel.specs.declared.types.Struct.{Struct}
use Rattle.c_kernel.specs.declared.program.Expr.{Expr as Term}
use Rattle.c_kernel.specs.declared.program.Place.{Place}
use Rattle.c_kernel.specs.declared.program.Selection.TheVariants as selection
use Rattle.c_rules.specs.declared.found.Form.{Form}
use Rattle.c_rules.specs.declared.found.Form.TheVariants as form
use Rattle.c_rules.specs.declared.found.Found.{Found}
use Rattle.c_rules.specs.declared.found.Run.{Run}
use Rattle.c_rules.specs.declared.found.Invocation.{Invocation}
use Rattle.c_rules.specs.declared.found.Right.{Right}
use Rattle.c_rules.specs.declared.found.Right.TheVariants as right_side
use Rattle.c_rules.specs.declared.scope.Entity.{Entity}
use Rattle.c_rules.specs.declared.scope.Entity.TheVariants.{Variable, Parameter}
use Rattle.c_rules.specs.declared.signature.Signature.{Signature}
use Rattle.c_rules.specs.Judged.{Judged, by, refused, silent, both, as_part, together, perhaps}
use Rattle.c_rules.specs.Rules as rules
use Rattle.c_rules.specs.Scope.{Bytes, Scope, visible}
use Rattle.c_rules.specs.Types.{member_bytes, member_at, target}
use Rattle.c_check.specs.Expression as walk
use Rattle.c_check.specs.Expression.{Called, Allocated, Seen, seen, node, is_main, primary_of, suffix_of, suffixed, call_alone, call_in, malloc_alone, malloc_in, judged, judged_all, parts, part_link, chain, whole_chain, whole_choice, whole_prefix, whole_index, whole_cast, named_type, function_of, callee, invoked, misplaced, right}
use Rattle.c_check.proofs.Least.{never}
use Rattle.c_check.proofs.TypedParts.{IsTold, AreTold, none_before, none_behind, both_some, map_some, told_by, told_refused, told_after, told_given, told_part, told_parts, told_parts_where, told_as, told_together}

-- ---- one node

told_name : (at : ℕ) (x : Option Entity) → IsTold (rules.name at x)
told_name at (Some (Variable v)) = λ e. refl
told_name at (Some (Parameter k)) = told_refused _
told_name at None = told_refused _

told_constant : (at : ℕ) (c : Constant) → IsTold (rules.constant_word at c)
told_constant at word.Null = λ e. refl
told_constant at word.AnySource = λ e. refl
told_constant at word.AnyTag = λ e. refl
told_constant at word.ProcNull = λ e. refl

told_addressed : (at operand : ℕ) (f : Form) → IsTold (rules.addressed at operand f)
told_addressed at operand (form.Zero kind) = told_refused _
told_addressed at operand (form.Value c_type e) = told_refused _
told_addressed at operand (form.Place kind p) = told_by _ _

module _ (structs : List Struct) where
  told_operator : (at : ℕ) (o : Operator) (a : Option Found) → is_some a ≡ true → IsTold (rules.prefix structs at o a)
  unfolding rules.unary rules.negation rules.dereference rules.address
  told_operator at operator.Plus a h = told_given a _ h (λ x. told_by _ _)
  told_operator at operator.Minus a h = told_given a _ h (λ x. told_by _ _)
  told_operator at operator.Tilde a h = told_given a _ h (λ x. told_by _ _)
  told_operator at operator.Not a h = told_given a _ h (λ x. told_by _ _)
  told_operator at operator.Star a h = told_given a _ h (λ x. told_by _ _)
  told_operator at operator.And a h = told_given a _ h (λ x. told_addressed at x.at x.form)
  told_operator at _ a h = told_refused _

  told_prefix : (at : ℕ) (o : Operator) (a : Judged Found) → IsTold a → IsTold (whole_prefix structs at o a)
  told_prefix at o a h e =
      let rest = (rules.prefix structs at o a.found).breaches in
      told_operator at o a.found (h (none_before a.breaches rest e)) (none_behind a.breaches rest e)

  told_named_type : (t : TypeName) → IsTold (named_type structs t)
  told_named_type t = told_by _ _

  told_cast : (at : ℕ) (t : TypeName) (a : Judged Found) → IsTold a → IsTold (whole_cast at (named_type structs t) a)
  unfolding rules.cast
  told_cast at t a h = told_parts (named_type structs t) a (rules.cast at) (told_named_type t) h (λ x y. told_by _ _)

  told_size_of : (at : ℕ) (k : CType) → IsTold (rules.size_of structs at k)
  unfolding rules.size_of
  told_size_of at k = told_by _ _

  told_index : (a i : Judged Found) → IsTold a → IsTold i → IsTold (whole_index structs a i)
  unfolding rules.index
  told_index a i h k = told_parts a i (rules.index structs) h k (λ x y. told_by _ _)

  -- ---- members

  told_selected : (at : ℕ) (t : CType) (p : Place Term) (n : MemberName) → IsTold (rules.selected structs at t p n)
  told_selected at t p n = of_member (rules.member_in structs t (member_bytes n))
    where
      of_member : (m : Option (ℕ × (ℕ × Member))) → IsTold (elim m as (λ m. Judged Found) [
        | None ↦ refused UnknownName (member_at n)
        | Some x ↦ by [] (rules.place at x.1.1.kind (rules.step_to p (selection.Member x.0 x.1.0 x.1.1.place)))
      ])
      of_member None = told_refused _
      of_member (Some x) = λ e. refl

  told_dot : (a : Found) (n : MemberName) → IsTold (rules.dot structs a n)
  unfolding rules.dot
  told_dot a n = of_struct (rules.struct_place a)
    where
      of_struct : (p : Option (CType × Place Term)) → IsTold (elim p as (λ p. Judged Found) [ None ↦ refused NotStruct a.at | Some x ↦ rules.selected structs a.at x.0 x.1 n ])
      of_struct None = told_refused _
      of_struct (Some x) = told_selected a.at x.0 x.1 n

  told_arrow : (a : Found) (n : MemberName) → IsTold (rules.arrow structs a n)
  unfolding rules.arrow
  told_arrow a n = told_part (by (rules.arrow_rules a) (rules.target_place a)) _ (told_by _ _) (λ p. told_selected a.at (target (rules.c_type_of a)) p n)

  told_member : (how : Access) (a : Found) (n : MemberName) → IsTold (rules.member structs how a n)
  told_member access.Dot a n = told_dot a n
  told_member access.Arrow a n = told_arrow a n

-- ---- chains

pub told_link : (structs : List Struct) (o : Operator) (a : Run) (b : Found) → IsTold (rules.link structs o a b)
unfolding rules.arithmetic rules.plus rules.minus rules.shift rules.comparison rules.logical
told_link structs operator.Not a b = told_refused _
told_link structs operator.Tilde a b = told_refused _
told_link structs _ a b = told_by _ _

abbrev AreToldOperands : List (Link (Judged Found)) → Type 0
AreToldOperands [] = Unit {0}
AreToldOperands (l ∷ ls) = IsTold l.operand × AreToldOperands ls

module _ (structs : List Struct) where
  told_chain : (a : Option Run) (ls : List (Link (Judged Found))) → is_some a ≡ true → AreToldOperands ls → IsTold (chain structs a ls)
  told_chain a [] h all e = h
  told_chain a (l ∷ ls) h all e =
      let here = walk.next structs l.operator a l.operand.found in
      let rest = (chain structs here.found ls).breaches in
      let none = none_before (l.operand.breaches ++ here.breaches) rest e in
      let operand = all.0 (none_before l.operand.breaches here.breaches none) in
      let link = told_given (both a l.operand.found) _ (both_some a l.operand.found h operand) (λ p. told_link structs l.operator p.0 p.1) (none_behind l.operand.breaches here.breaches none) in
      told_chain here.found ls link all.1 (none_behind (l.operand.breaches ++ here.breaches) rest e)

  told_whole_chain : (a : Judged Found) (ls : List (Link (Judged Found))) → IsTold a → AreToldOperands ls → IsTold (whole_chain structs a ls)
  told_whole_chain a ls h all e =
      let first = option_map rules.begin a.found in
      let run = chain structs first ls in
      map_some _ run.found (told_chain first ls (map_some rules.begin a.found (h (none_before a.breaches run.breaches e))) all (none_behind a.breaches run.breaches e))

told_choice : (c a b : Found) → IsTold (rules.choice c a b)
unfolding rules.choice
told_choice c a b = told_by _ _

told_whole_choice : (c a b : Judged Found) → IsTold c → IsTold a → IsTold b → IsTold (whole_choice c a b)
told_whole_choice c a b h k m e =
    let rest = (walk.choice_of c.found a.found b.found).breaches in
    let none = none_before (c.breaches ++ a.breaches ++ b.breaches) rest e in
    let front = none_before (c.breaches ++ a.breaches) b.breaches none in
    told_given (both c.found (both a.found b.found)) _
    (both_some c.found (both a.found b.found) (h (none_before c.breaches a.breaches front))
    (both_some a.found b.found (k (none_behind c.breaches a.breaches front)) (m (none_behind (c.breaches ++ a.breaches) b.breaches none))))
    (λ p. told_choice p.0 p.1.0 p.1.1)
    (none_behind (c.breaches ++ a.breaches ++ b.breaches) rest e)

-- ---- expressions, as parts, as calls and as mallocs

abbrev OfCall : Option Called → Type 0
OfCall None = Unit {0}
OfCall (Some c) = AreTold c.arguments

abbrev OfCast : Option (ℕ × Judged CType) → Type 0
OfCast None = Unit {0}
OfCast (Some c) = IsTold c.1

abbrev OfMalloc : Option Allocated → Type 0
OfMalloc None = Unit {0}
OfMalloc (Some m) = OfCast m.cast × IsTold m.bytes

abbrev pub IsToldSeen : Seen → Type 0
IsToldSeen x = IsTold x.part × (OfCall x.called × OfMalloc x.allocated)

called_in_group : (at : ℕ) (c : Option Called) → OfCall c → OfCall (option_map (walk.in_group at) c)
called_in_group at None h = tt
called_in_group at (Some c) h = h

malloc_in_group : (at : ℕ) (m : Option Allocated) → OfMalloc m → OfMalloc (option_map (walk.grouped at) m)
malloc_in_group at None h = tt
malloc_in_group at (Some m) h = h

malloc_in_cast : (m : Option Allocated) (at : ℕ) (t : Judged CType) → IsTold t → OfMalloc m → OfMalloc (walk.cast_before m at t)
malloc_in_cast None at t k h = tt
malloc_in_cast (Some m) at t k h = of_cast m.cast
  where
    of_cast : (c : Option (ℕ × Judged CType)) → OfMalloc (elim c as (λ c. Option Allocated) [
      | None ↦ Some (record { at = at; malloc = m.malloc; cast = Some (at, t); bytes = m.bytes })
      | Some other ↦ None
    ])
    of_cast None = (k, h.1)
    of_cast (Some other) = tt

told_cast_of : (c : Option (ℕ × Judged CType)) → OfCast c → IsTold (perhaps walk.cast_of c)
told_cast_of None h = λ e. refl
told_cast_of (Some c) h = told_as Some (walk.cast_of c) (told_as _ c.1 h)

pub told_allocation : (m : Allocated) → OfMalloc (Some m) → IsTold (walk.allocation m)
told_allocation m h = told_parts (perhaps walk.cast_of m.cast) m.bytes _ (told_cast_of m.cast h.0) h.1 (λ c b e. refl)

-- each header breaks no rule
abbrev pub IsSound : Option Signature → Type 0
IsSound None = Unit {0}
IsSound (Some f) = f.sound ≡ true

abbrev pub AreSound : (Bytes → Option Signature) → Type 0
AreSound functions = (name : Bytes) → IsSound (functions name)

module _ (functions : Bytes → Option Signature) (structs : List Struct) (s : Scope) where
  told_signature : (n : Name) (f : Option Signature) → IsTold (elim f as (λ f. Judged Signature) [ Some f ↦ by [] f | None ↦ refused UnknownName n.at ])
  told_signature n (Some f) = λ e. refl
  told_signature n None = told_refused _

  told_function : (n : Name) (x : Option Entity) → IsTold (function_of functions s n x)
  told_function n (Some x) = told_refused _
  told_function n None = told_signature n (functions n.bytes)

  sound_signature : (n : Name) (f : Option Signature) (g : Signature) → IsSound f → (elim f as (λ f. Judged Signature) [ Some f ↦ by [] f | None ↦ refused UnknownName n.at ]).found ≡ Some g → g.sound ≡ true
  sound_signature n (Some f) g sound is = subst (λ (o : Option Signature). IsSound o) is sound
  sound_signature n None g sound is = absurd (never (ap is_some is))

  sound_function : AreSound functions → (n : Name) (x : Option Entity) (f : Signature) → (function_of functions s n x).found ≡ Some f → f.sound ≡ true
  sound_function sound n (Some x) f is = absurd (never (ap is_some is))
  sound_function sound n None f is = sound_signature n (functions n.bytes) f (sound n.bytes) is

  told_call : (main : Bool) (at called : ℕ) (f : Signature) (vs : List Found) → f.sound ≡ true → IsTold (rules.call main at called f vs)
  unfolding rules.call
  told_call main at called f vs sound = told_part (by (rules.call_rules main called f vs) _) _ (told_by _ _) (λ i. known i f.sound sound)
    where
      known : (i : Invocation) (b : Bool) → b ≡ true → IsTold (if b then by [] i else silent)
      known i true is e = refl
      known i false is e = absurd (never is)

  pub told_invoked : AreSound functions → (c : Called) → AreTold c.arguments → IsTold (invoked functions structs s c)
  told_invoked sound c all =
      let entity = visible s c.name.bytes in
      told_parts_where (callee functions s c.name) (together c.arguments) (rules.call (is_main c.name) c.at c.name.at) (told_function c.name entity) (told_together c.arguments all)
      (λ f vs is. told_call (is_main c.name) c.at c.name.at f vs (sound_function sound c.name entity f is))

  told_misplaced : (c : Called) → AreTold c.arguments → IsTold (misplaced functions structs s c)
  unfolding rules.misplaced
  told_misplaced c all = told_parts (callee functions s c.name) (together c.arguments) (rules.misplaced (is_main c.name) c.name.at) (told_function c.name (visible s c.name.bytes)) (told_together c.arguments all) (λ f vs. told_after {A = Found} (rules.call_rules (is_main c.name) c.name.at f vs) (refused CallPlace c.name.at) (told_refused _))

  abbrev Told : Type 0
  Told = (e : Expr) × IsToldSeen (seen functions structs s e)

  told_arguments : (es : List Told) → AreTold (parts (map (seen functions structs s) (map (λ (e : Told). e.0) es)))
  told_arguments [] = tt
  told_arguments (e ∷ es) = (e.1.0, told_arguments es)

  told_operands : (h : Link Told → Link Expr) (k : Link Expr → Link Seen) → ((l : Link Told) → IsTold (k (h l)).operand.part) → (ls : List (Link Told)) → AreToldOperands (map part_link (map k (map h ls)))
  told_operands h k same [] = tt
  told_operands h k same (l ∷ ls) = (same l, told_operands h k same ls)

  abbrev here : Told → Judged Found
  here a = judged functions structs s a.0

  -- ---- a primary expression, and what is selected from it

  abbrev IsToldSuffix : Suffix Seen → Type 0
  IsToldSuffix (suffix.Index at i) = IsTold i.part
  IsToldSuffix (suffix.Member at how n) = Unit {0}

  told_suffix : (a : Judged Found) (x : Suffix Seen) → IsTold a → IsToldSuffix x → IsTold (suffix_of functions structs s a x)
  told_suffix a (suffix.Index at i) h k = told_index structs a i.part h k
  told_suffix a (suffix.Member at how n) h k = told_part a _ h (λ x. told_member structs how x n)

  abbrev IsToldPrimary : Primary Seen → Type 0
  IsToldPrimary p = IsTold (primary_of functions structs s p) × (OfCall (call_alone functions structs s p) × OfMalloc (malloc_alone functions structs s p))

  alone_called : (p : Primary Seen) (xs : List (Suffix Seen)) → OfCall (call_alone functions structs s p) → OfCall (call_in functions structs s (Expr-F.Postfix p xs))
  alone_called p [] h = h
  alone_called p (x ∷ xs) h = tt

  alone_malloc : (p : Primary Seen) (xs : List (Suffix Seen)) → OfMalloc (malloc_alone functions structs s p) → OfMalloc (malloc_in functions structs s (Expr-F.Postfix p xs))
  alone_malloc p [] h = h
  alone_malloc p (x ∷ xs) h = tt

  module _ (h : Suffix Told → Suffix Expr) (k : Suffix Expr → Suffix Seen)
      (of_index : (at : ℕ) (e : Told) → IsToldSuffix (k (h (suffix.Index at e)))) (of_member : (at : ℕ) (how : Access) (n : MemberName) → IsToldSuffix (k (h (suffix.Member at how n)))) where
    told_suffixed : (a : Judged Found) → IsTold a → (xs : List (Suffix Told)) → IsTold (suffixed functions structs s a (map k (map h xs)))
    told_suffixed a told [] = told
    told_suffixed a told (suffix.Index at e ∷ xs) = told_suffixed (suffix_of functions structs s a (k (h (suffix.Index at e)))) (told_suffix a _ told (of_index at e)) xs
    told_suffixed a told (suffix.Member at how n ∷ xs) = told_suffixed (suffix_of functions structs s a (k (h (suffix.Member at how n)))) (told_suffix a _ told (of_member at how n)) xs

    told_postfix : (p : Primary Seen) → IsToldPrimary p → (xs : List (Suffix Told)) → IsToldSeen (node functions structs s (Expr-F.Postfix p (map k (map h xs))))
    told_postfix p told xs = (told_suffixed (primary_of functions structs s p) told.0 xs, (alone_called p _ told.1.0, alone_malloc p _ told.1.1))

  layer : (y : Expr-F Told) → IsToldSeen (node functions structs s (map-Expr Expr Seen (seen functions structs s) (map-Expr Told Expr (λ e. e.0) y)))
  layer (Expr-F.Postfix (primary.Number n) xs) = told_postfix _ _ (λ at e. e.1.0) (λ at how n. tt) (primary.Number n) (λ e. refl, (tt, tt)) xs
  layer (Expr-F.Postfix (primary.Character at v) xs) = told_postfix _ _ (λ at e. e.1.0) (λ at how n. tt) (primary.Character at v) (λ e. refl, (tt, tt)) xs
  layer (Expr-F.Postfix (primary.Constant at c) xs) = told_postfix _ _ (λ at e. e.1.0) (λ at how n. tt) (primary.Constant at c) (told_constant at c, (tt, tt)) xs
  layer (Expr-F.Postfix (primary.Name n) xs) = told_postfix _ _ (λ at e. e.1.0) (λ at how n. tt) (primary.Name n) (told_name n.at (visible s n.bytes), (tt, tt)) xs
  layer (Expr-F.Postfix (primary.Call n es) xs) =
      let arguments = map (seen functions structs s) (map (λ (e : Told). e.0) es) in
      let all = told_arguments es in
      told_postfix _ _ (λ at e. e.1.0) (λ at how n. tt) (primary.Call n arguments) (told_misplaced (record { at = n.at; name = n; arguments = parts arguments }) all, (all, tt)) xs
  layer (Expr-F.Postfix (primary.Malloc at a) xs) = told_postfix _ _ (λ at e. e.1.0) (λ at how n. tt) (primary.Malloc at (seen functions structs s a.0)) (told_part (here a) _ a.1.0 (λ x. told_refused _), (tt, (tt, a.1.0))) xs
  layer (Expr-F.Postfix (primary.Group at a) xs) =
      let x = seen functions structs s a.0 in
      told_postfix _ _ (λ at e. e.1.0) (λ at how n. tt) (primary.Group at x) (told_part x.part (rules.group at) a.1.0 (λ x e. refl), (called_in_group at x.called a.1.1.0, malloc_in_group at x.allocated a.1.1.1)) xs
  layer (Expr-F.SizeOf at t) = (told_part (named_type structs t) (rules.size_of structs at) (told_named_type structs t) (told_size_of structs at), (tt, tt))
  layer (Expr-F.Cast at t a) =
      let x = seen functions structs s a.0 in
      (told_cast structs at t x.part a.1.0, (tt, malloc_in_cast x.allocated at (named_type structs t) (told_named_type structs t) a.1.1.1))
  layer (Expr-F.Prefix at o a) = (told_prefix structs at o (here a) a.1.0, (tt, tt))
  layer (Expr-F.Chain first rest) = (told_whole_chain structs (here first) _ first.1.0 (told_operands _ _ (λ l. l.operand.1.0) rest), (tt, tt))
  layer (Expr-F.Choice c a b) = (told_whole_choice (here c) (here a) (here b) c.1.0 a.1.0 b.1.0, (tt, tt))

  pub told_seen : (e : Expr) → IsToldSeen (seen functions structs s e)
  told_seen = ind-Expr (λ e. IsToldSeen (seen functions structs s e)) (λ x y is.
      subst (λ (z : Expr-F Expr). IsToldSeen (seen functions structs s (roll-Expr z))) is
      (subst IsToldSeen (sym (fold-roll-Expr Seen (node functions structs s) (map-Expr Told Expr (λ e. e.0) y))) (layer y)))

  pub told_expression : (e : Expr) → IsTold (judged functions structs s e)
  told_expression e = (told_seen e).0

  pub told_expressions : (es : List Expr) → AreTold (judged_all functions structs s es)
  told_expressions [] = tt
  told_expressions (e ∷ es) = (told_expression e, told_expressions es)

  told_right_of : AreSound functions → (x : Seen) → IsToldSeen x → IsTold (walk.right_of functions structs s x)
  told_right_of sound x h = of_malloc x.allocated h.1.1
    where
      of_called : (c : Option Called) → OfCall c → IsTold (elim c as (λ c. Judged Right) [ None ↦ as_part right_side.Value x.part | Some c ↦ as_part right_side.Result (invoked functions structs s c) ])
      of_called None all = told_as right_side.Value x.part h.0
      of_called (Some c) all = told_as right_side.Result (invoked functions structs s c) (told_invoked sound c all)

      of_malloc : (m : Option Allocated) → OfMalloc m → IsTold (elim m as (λ m. Judged Right) [
        | Some m ↦ as_part right_side.Memory (walk.allocation m)
        | None ↦ elim x.called [ None ↦ as_part right_side.Value x.part | Some c ↦ as_part right_side.Result (invoked functions structs s c) ]
      ])
      of_malloc None k = of_called x.called h.1.0
      of_malloc (Some m) k = told_as right_side.Memory (walk.allocation m) (told_allocation m k)

  pub told_right : AreSound functions → (e : Expr) → IsTold (right functions structs s e)
  told_right sound e = told_right_of sound (seen functions structs s e) (told_seen e)
