-- A tree has one verdict.
use Rattle.std.proofs.Common.{◌≡◌, List, [], ◌++◌, Option, Some, None, IfSome, ap, sym, ◌∙◌, subst}
use Rattle.std.specs.Prelude.{is_some, option_map, unwrap_or}
use Rattle.c_tree.specs.declared.tree.Tree.{Tree}
use Rattle.c_kernel.specs.declared.program.Program.{Program}
use Rattle.c_rules.specs.declared.breach.Breach.{Breach}
use Rattle.c_check.specs.Check.{Verdict, Accepted, Refused, Judges}
use Rattle.c_check.specs.Program.{judged_tree, program_of, first, Among, Accepts, Refuses}
use Rattle.c_check.proofs.Least.{never, first_none, first_least, one_least}
use Rattle.c_check.proofs.TypedTree.{typed_form}

not_both : (fs : List Breach) (f : Breach) → fs ≡ [] → Among fs f → ⊥
not_both fs f e a = subst (λ (gs : List Breach). Among gs f) e a

pub one_verdict : (tree : Tree) (v w : Verdict) → Judges tree v → Judges tree w → v ≡ w
one_verdict tree (Accepted p) (Accepted q) a b = ap (λ o. Accepted (unwrap_or o p)) (sym a.1 ∙ b.1)
one_verdict tree (Accepted p) (Refused kind at) a b = absurd (not_both _ _ a.0 b.0)
one_verdict tree (Refused kind at) (Accepted p) a b = absurd (not_both _ _ b.0 a.0)
one_verdict tree (Refused kind at) (Refused other other_at) a b = ap (λ (f : Breach). Refused f.kind f.at) (one_least (judged_tree tree).breaches _ _ a b)

-- what is right is all that is
pub only : (tree : Tree) (o : Option Verdict) → IfSome o (Judges tree) → (v : Verdict) → Judges tree v → IfSome o (λ w. w ≡ v)
only tree None h v k = tt
only tree (Some w) h v k = one_verdict tree w v h k

-- ---- from what was noted to the answer

pub noted : (given all before breaches : List Breach) → given ≡ all → all ≡ before ++ breaches → before ≡ [] → given ≡ breaches
noted given all before breaches p q r = p ∙ q ∙ ap (λ (fs : List Breach). fs ++ breaches) r

pub refuses : (tree : Tree) (breaches : List Breach) (f : Breach) → breaches ≡ (judged_tree tree).breaches → first breaches ≡ Some f → Refuses tree f
refuses tree breaches f e h = first_least (judged_tree tree).breaches f (ap first (sym e) ∙ h)

abbrev typed : Tree → Option Program
typed tree = option_map (program_of tree) (judged_tree tree).found

pub accepts : (tree : Tree) (breaches : List Breach) (p : Program) → breaches ≡ (judged_tree tree).breaches → first breaches ≡ None → Some p ≡ typed tree → Accepts tree p
accepts tree breaches p e h g = (sym e ∙ first_none breaches h, sym g)

pub some_form : (tree : Tree) (breaches : List Breach) → breaches ≡ (judged_tree tree).breaches → first breaches ≡ None → None ≡ typed tree → ⊥
some_form tree breaches e h g = never (ap is_some g ∙ typed_form tree (sym e ∙ first_none breaches h))
