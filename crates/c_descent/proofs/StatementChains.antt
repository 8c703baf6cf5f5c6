-- What follows the branch of an if, arm by arm.
use Rattle.std.proofs.Common.{◌≡◌, ℕ, List, [], ◌∷◌, ◌++◌, Option, sym, subst, append_assoc}
use Rattle.std.proofs.lemmas.List.{append-nil}
use Rattle.c_tree.specs.declared.token.Token.{Token}
use Rattle.c_tree.specs.declared.tree.Arm.{Arm}
use Rattle.c_tree.specs.declared.tree.Stmt.{Stmt}
use Rattle.c_grammar.specs.Grammar.{Ref, ElsePart}
use Rattle.c_grammar.specs.Descent.{Reads, Read, Fault, Kind}
use Rattle.c_grammar.specs.Trees.{else_tree, statement_row}

-- After these arms, what follows the branch of an if and began at ts stands at us.
pub record Chained (l : ℕ) (ts us : List Token) (arms : List (Arm Stmt)) : Type 0 where
  pub reads : (more : List (Arm Stmt)) (last : Option Stmt) (zs : List Token) → Reads l (Ref ElsePart) us (Read (else_tree statement_row more last) zs) → Reads l (Ref ElsePart) ts (Read (else_tree statement_row (arms ++ more) last) zs)
  pub fails : (k : Kind) (zs : List Token) → Reads l (Ref ElsePart) us (Fault k zs) → Reads l (Ref ElsePart) ts (Fault k zs)

-- One arm stands between us and vs.
pub record OneArm (l : ℕ) (us vs : List Token) (arm : Arm Stmt) : Type 0 where
  pub reads : (more : List (Arm Stmt)) (last : Option Stmt) (zs : List Token) → Reads l (Ref ElsePart) vs (Read (else_tree statement_row more last) zs) → Reads l (Ref ElsePart) us (Read (else_tree statement_row (arm ∷ more) last) zs)
  pub fails : (k : Kind) (zs : List Token) → Reads l (Ref ElsePart) vs (Fault k zs) → Reads l (Ref ElsePart) us (Fault k zs)

pub chain_start : (l : ℕ) (ts : List Token) (arms : List (Arm Stmt)) → arms ≡ [] → Chained l ts ts arms
chain_start l ts arms e = subst (Chained l ts ts) (sym e) (record { reads = λ more last zs h. h; fails = λ k zs h. h })

pub chain_step : (l : ℕ) (ts us vs : List Token) (arms grown : List (Arm Stmt)) (arm : Arm Stmt) → grown ≡ arms ++ arm ∷ [] → Chained l ts us arms → OneArm l us vs arm → Chained l ts vs grown
chain_step l ts us vs arms grown arm e before one =
    subst (Chained l ts vs) (sym e) (record {
      reads = λ more last zs h. subst (λ (xs : List (Arm Stmt)). Reads l (Ref ElsePart) ts (Read (else_tree statement_row xs last) zs)) (sym (append_assoc arms (arm ∷ []) more)) (before.reads (arm ∷ more) last zs (one.reads more last zs h));
      fails = λ k zs h. before.fails k zs (one.fails k zs h);
    })

pub chain_end : {l : ℕ} {ts us zs : List Token} {arms : List (Arm Stmt)} (last : Option Stmt) → Chained l ts us arms → Reads l (Ref ElsePart) us (Read (else_tree statement_row [] last) zs) → Reads l (Ref ElsePart) ts (Read (else_tree statement_row arms last) zs)
chain_end {l} {ts} {us} {zs} {arms} last before h = subst (λ (xs : List (Arm Stmt)). Reads l (Ref ElsePart) ts (Read (else_tree statement_row xs last) zs)) (append-nil arms) (before.reads [] last zs h)
