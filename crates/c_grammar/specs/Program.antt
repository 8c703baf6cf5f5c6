-- Programs, and the first fault of tokens that are none.
use Rattle.std.specs.Prelude.{ℕ, ◌≡◌, List, [], ◌∷◌, ◌++◌, length, Some}
use Rattle.c_tree.specs.declared.token.Token.{Token}
use Rattle.c_grammar.specs.Grammar.{Program, Ref}
use Rattle.c_grammar.specs.Meaning.{Forest, Spelled, tokens, Derives, Within, Reason, refused}
use Rattle.c_grammar.specs.Descent.{Outcome, Read, Fault, Bad, Unfit, Reads}

-- a program's parse tree, and its tokens with their levels
abbrev pub IsProgram : Forest → List Spelled → Type 0
IsProgram f ss = Derives 0 (Ref Program) f ss []

-- the tokens are those of this program, none of them refused
pub record HasTree (ts : List Token) (f : Forest) : Type 0 where
  pub spelled : List Spelled
  pub program : IsProgram f spelled
  pub all : tokens spelled ≡ ts
  pub within : Within spelled

-- these tokens, none of them refused, begin a program
pub record BeginsProgram (front : List Token) : Type 0 where
  pub forest : Forest
  pub spelled : List Spelled
  pub more : List Spelled
  pub program : IsProgram forest (spelled ++ more)
  pub all : tokens spelled ≡ front
  pub within : Within spelled

-- with the next token, or where they end, they begin no program, or are none
abbrev pub NoFurther : List Token → List Token → Type 0
NoFurther front [] = (f : Forest) (ss : List Spelled) → IsProgram f ss → tokens ss ≡ front → ⊥
NoFurther front (t ∷ rest) = (f : Forest) (ss : List Spelled) (more : List Token) → IsProgram f ss → tokens ss ≡ front ++ (t ∷ more) → ⊥

-- the next token begins a program with them, but is refused
pub record UnfitHere (why : Reason) (front rest : List Token) : Type 0 where
  pub forest : Forest
  pub spelled : List Spelled
  pub next : Spelled
  pub more : List Spelled
  pub behind : List Token
  pub program : IsProgram forest (spelled ++ next ∷ more)
  pub all : tokens spelled ≡ front
  pub token : rest ≡ next.token ∷ behind
  pub within : Within spelled
  pub unfit : refused next.level next.token ≡ Some why

-- with n tokens left, what begins a program does so no further
pub record SyntaxAt (ts : List Token) (n : ℕ) : Type 0 where
  pub front : List Token
  pub rest : List Token
  pub all : ts ≡ front ++ rest
  pub place : length rest ≡ n
  pub so_far : BeginsProgram front
  pub no_further : NoFurther front rest

-- with n tokens left, what begins a program is refused
pub record UnfitAt (why : Reason) (ts : List Token) (n : ℕ) : Type 0 where
  pub front : List Token
  pub rest : List Token
  pub all : ts ≡ front ++ rest
  pub place : length rest ≡ n
  pub here : UnfitHere why front rest

-- what a descent over all tokens tells: the tree, or the first fault
abbrev pub Tells : List Token → Outcome → Type 0
Tells ts (Read f []) = HasTree ts f
Tells ts (Read f (t ∷ rest)) = SyntaxAt ts (length (t ∷ rest))
Tells ts (Fault Bad zs) = SyntaxAt ts (length zs)
Tells ts (Fault (Unfit why) zs) = UnfitAt why ts (length zs)

-- what a descent tells is so
abbrev pub IsExact : Type 0
IsExact = (ts : List Token) (o : Outcome) → Reads 0 (Ref Program) ts o → Tells ts o

-- a descent has one outcome
abbrev pub IsOne : Type 0
IsOne = (ts : List Token) (o p : Outcome) → Reads 0 (Ref Program) ts o → Reads 0 (Ref Program) ts p → o ≡ p
