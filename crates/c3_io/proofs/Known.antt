-- Known bytes over several calls.
use Rattle.std.proofs.Common.{ℕ, ◌<◌, List, [], ◌++◌, length, drop, None, Some, sym, ap, ◌∙◌, append_assoc, length-append, arith, refl}
use Rattle.std.specs.Prelude.{Option}
use Rattle.std.proofs.lemmas.List.{append-nil, drop_at}
use Rattle.std.specs.Io.KnownBytes.{Keeps, Appends, Consumes, IsAtEnd}
use Rattle.c3_io.specs.Streams.{AreAll, HasMoreThan, Took}

pub Appends-nil : (a : Option (List ℕ)) → Appends a a []
Appends-nil None = tt
Appends-nil (Some x) = sym (append-nil x)

pub Appends-then : (a b c : Option (List ℕ)) (bs cs : List ℕ) → Appends a b bs → Appends b c cs → Appends a c (bs ++ cs)
Appends-then None b c bs cs p q = tt
Appends-then (Some x) None c bs cs p q = absurd p
Appends-then (Some x) (Some y) None bs cs p q = absurd q
Appends-then (Some x) (Some y) (Some z) bs cs p q = q ∙ ap (λ l. l ++ cs) p ∙ append_assoc x bs cs

pub Appends-kept : (a b c : Option (List ℕ)) (bs : List ℕ) → Appends a b bs → Keeps b c → Appends a c bs
Appends-kept None b c bs p q = tt
Appends-kept (Some x) None c bs p q = absurd p
Appends-kept (Some x) (Some y) None bs p q = absurd q
Appends-kept (Some x) (Some y) (Some z) bs p q = q ∙ p

pub Consumes-nil : (a : Option (List ℕ)) → Consumes a a []
Consumes-nil None = tt
Consumes-nil (Some x) = refl

pub Consumes-then : (a b c : Option (List ℕ)) (bs cs : List ℕ) → Consumes a b bs → Consumes b c cs → Consumes a c (bs ++ cs)
Consumes-then None b c bs cs p q = tt
Consumes-then (Some x) None c bs cs p q = absurd p
Consumes-then (Some x) (Some y) None bs cs p q = absurd q
Consumes-then (Some x) (Some y) (Some z) bs cs p q = p ∙ ap (λ l. bs ++ l) q ∙ sym (append_assoc bs cs z)

pub Consumes-kept : (a b c : Option (List ℕ)) (bs : List ℕ) → Consumes a b bs → Keeps b c → Consumes a c bs
Consumes-kept None b c bs p q = tt
Consumes-kept (Some x) None c bs p q = absurd p
Consumes-kept (Some x) (Some y) None bs p q = absurd q
Consumes-kept (Some x) (Some y) (Some z) bs p q = p ∙ ap (λ l. bs ++ l) (sym q)

pub Keeps-refl : (a : Option (List ℕ)) → Keeps a a
Keeps-refl None = tt
Keeps-refl (Some x) = refl

pub Keeps-then : (a b c : Option (List ℕ)) → Keeps a b → Keeps b c → Keeps a c
Keeps-then None b c p q = tt
Keeps-then (Some x) None c p q = absurd p
Keeps-then (Some x) (Some y) None p q = absurd q
Keeps-then (Some x) (Some y) (Some z) p q = q ∙ p

pub kept-Consumes : (a b c : Option (List ℕ)) (bs : List ℕ) → Keeps a b → Consumes b c bs → Consumes a c bs
kept-Consumes None b c bs p q = tt
kept-Consumes (Some x) None c bs p q = absurd p
kept-Consumes (Some x) (Some y) None bs p q = absurd q
kept-Consumes (Some x) (Some y) (Some z) bs p q = sym p ∙ q

-- at its end a source has given all that it had
pub AreAll-from_end : (a b : Option (List ℕ)) (bs : List ℕ) → Consumes a b bs → IsAtEnd b → AreAll a bs
AreAll-from_end None b bs p e = tt
AreAll-from_end (Some x) None bs p e = absurd p
AreAll-from_end (Some x) (Some y) bs p e = sym (p ∙ ap (λ l. bs ++ l) e ∙ append-nil bs)

pub HasMoreThan-from_Consumes : (a b : Option (List ℕ)) (bs : List ℕ) (limit : ℕ) → Consumes a b bs → limit < length bs → HasMoreThan limit a
HasMoreThan-from_Consumes None b bs limit p lt = (bs, tt, lt)
HasMoreThan-from_Consumes (Some x) None bs limit p lt = absurd p
HasMoreThan-from_Consumes (Some x) (Some y) bs limit p lt = (x, refl, omega (arith, ap length p, length-append bs y))

-- what was taken is the front of what was there
pub Took-from_Consumes : (a b : Option (List ℕ)) (bs : List ℕ) → Consumes a b bs → Took a b (length bs)
Took-from_Consumes None b bs p = tt
Took-from_Consumes (Some x) None bs p = absurd p
Took-from_Consumes (Some x) (Some y) bs p = (omega (arith, ap length p, length-append bs y), ap Some (sym (ap (λ l. drop (length bs) l) p ∙ drop_at bs y (length bs) refl)))
