-- From the descent over all tokens to what is answered.
use Rattle.std.proofs.Common.{◌≡◌, ◌<◌, List, [], ◌∷◌, ◌++◌, length, refl, sym, ap, subst, arith, ◌∙◌, length-append, inl, inr}
use Rattle.c_tree.specs.declared.token.Token.{Token}
use Rattle.c_grammar.specs.Grammar.{Rule, Ref, Program}
use Rattle.c_grammar.specs.Meaning.{Forest, Spelled, tokens, Within, Reason}
use Rattle.c_grammar.specs.Descent.{Reads, Read, Fault, Bad, Unfit, Outcome}
use Rattle.c_grammar.specs.Program.{IsProgram, HasTree, NoFurther, UnfitHere, SyntaxAt, UnfitAt, IsExact, IsOne}
use Rattle.c_grammar.proofs.Exact.{same, complete, sound, Verdict, sunk_over}
use Rattle.c_grammar.proofs.Local.{local, Local, dead_bad, dead_end, dead_rest, append_none}
use Rattle.c_grammar.proofs.Viable.{viable, TooLow, d_follows}

abbrev pub start : Rule
start = Ref Program

pub front_same : (ts : List Token) (a b zs : List Token) → ts ≡ a ++ zs → ts ≡ b ++ zs → a ≡ b
front_same ts a b zs e f = cancel a b zs (sym e ∙ f)
  where
    cancel : (a b zs : List Token) → a ++ zs ≡ b ++ zs → a ≡ b
    cancel [] [] zs e = refl
    cancel [] (y ∷ b) zs e = absurd (omega (arith, ap length e, length-append b zs))
    cancel (x ∷ a) [] zs e = absurd (omega (arith, ap length e, length-append a zs))
    cancel (x ∷ a) (y ∷ b) zs e = let q : x ≡ y = cc e in let t : a ++ zs ≡ b ++ zs = cc e in λ i. q i ∷ cancel a b zs t i

unfit_here : (w : Reason) (front back : List Spelled) (f : Forest) (zs : List Token) → IsProgram f (front ++ back) → Within front → TooLow w back zs → UnfitHere w (tokens front) zs
unfit_here w front [] f zs d q h = absurd h
unfit_here w front (s ∷ back) f [] d q h = absurd h
unfit_here w front (s ∷ back) f (t ∷ zs) d q h = record { forest = f; spelled = front; next = s; more = back; behind = zs; program = d; all = refl; token = ap (λ (x : Token). x ∷ zs) (sym h.0); within = q; unfit = h.1 }

no_further : (ts zs : List Token) (x : Local 0 start ts (Fault Bad zs)) → NoFurther x.front zs
no_further ts [] x = λ f ss d e. dead_end 0 start ts x f ss d (e ∙ (sym (append_none x.front) ∙ sym x.all))
no_further ts (c ∷ us) x = λ f ss more d e. dead_bad 0 start ts c us x f ss more d e

pub bad_is : (ts zs : List Token) → Reads 0 start ts (Fault Bad zs) → SyntaxAt ts (length zs)
bad_is ts zs h =
    let v = viable 0 start ts Bad zs h [] refl refl in
    let x = local 0 start ts (Fault Bad zs) h in
    record {
      front = x.front;
      rest = zs;
      all = x.all;
      place = refl;
      so_far = record { forest = v.forest; spelled = v.front; more = v.back; program = v.derives; all = front_same ts (tokens v.front) x.front zs v.all x.all; within = v.within };
      no_further = no_further ts zs x;
    }

pub unfit_is : (w : Reason) (ts zs : List Token) → Reads 0 start ts (Fault (Unfit w) zs) → UnfitAt w ts (length zs)
unfit_is w ts zs h =
    let v = viable 0 start ts (Unfit w) zs h [] refl refl in
    record { front = tokens v.front; rest = zs; all = v.all; place = refl; here = unfit_here w v.front v.back v.forest zs v.derives v.within (v.deep w refl) }

pub rest_is : (ts : List Token) (f : Forest) (zs : List Token) → 0 < length zs → Reads 0 start ts (Read f zs) → SyntaxAt ts (length zs)
rest_is ts f [] p h = absurd (omega arith)
rest_is ts f (c ∷ us) p h =
    let s = sound 0 start ts f (c ∷ us) h in
    let x = local 0 start ts (Read f (c ∷ us)) h in
    record {
      front = x.front;
      rest = c ∷ us;
      all = x.all;
      place = refl;
      so_far = record {
        forest = f;
        spelled = s.spelled;
        more = [];
        program = subst (λ (w : List Spelled). IsProgram f w) (sym (none_behind s.spelled)) (d_follows 0 start f s.spelled (c ∷ us) refl s.derives [] refl);
        all = front_same ts (tokens s.spelled) x.front (c ∷ us) s.all x.all;
        within = s.within;
      };
      no_further = λ g ss more d e. dead_rest 0 start ts f c us x g ss more d e;
    }
  where
    none_behind : (ss : List Spelled) → ss ++ [] ≡ ss
    none_behind [] = refl
    none_behind (s ∷ ss) = ap (λ w. s ∷ w) (none_behind ss)

pub tree_is : (ts : List Token) (f : Forest) (zs : List Token) → length zs ≡ 0 → Reads 0 start ts (Read f zs) → HasTree ts f
tree_is ts f [] p h = let s = sound 0 start ts f [] h in record { spelled = s.spelled; program = s.derives; all = sym (append_none (tokens s.spelled)) ∙ sym s.all; within = s.within }
tree_is ts f (c ∷ us) p h = absurd (omega arith)

-- where the tokens have a tree, a descent reads it
pub tree_read : (ts : List Token) (f : Forest) → HasTree ts f → Reads 0 start ts (Read f [])
tree_read ts f h = by (complete 0 start f h.spelled [] h.program)
  where
    by : Verdict 0 start f h.spelled [] → Reads 0 start ts (Read f [])
    by (inl v) = subst (λ (w : List Token). Reads 0 start w (Read f [])) (append_none (tokens h.spelled) ∙ h.all) v.0
    by (inr v) = absurd (sunk_over 0 start h.spelled [] v h.within)

-- and nothing else comes of them
pub whole : (ts : List Token) (f : Forest) → HasTree ts f → (o : Outcome) → Reads 0 start ts o → o ≡ Read f []
whole ts f h o r = same 0 start ts o (Read f []) r (tree_read ts f h)

pub is_exact : IsExact
is_exact ts (Read f []) h = tree_is ts f [] refl h
is_exact ts (Read f (t ∷ rest)) h = rest_is ts f (t ∷ rest) (omega arith) h
is_exact ts (Fault Bad zs) h = bad_is ts zs h
is_exact ts (Fault (Unfit w) zs) h = unfit_is w ts zs h

pub is_one : IsOne
is_one ts o p x y = same 0 start ts o p x y
