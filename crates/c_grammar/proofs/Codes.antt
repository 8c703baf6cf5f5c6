-- No two classes have one number.
use Rattle.std.proofs.Common.{◌≡◌, ℕ, zero, suc, List, [], ◌∷◌, Option, Some, None, refl, sym, ap, ◌∙◌}
use Rattle.c_tree.specs.declared.token.Class.{Class}
use Rattle.c_tree.specs.declared.token.Class.TheVariants as class
use Rattle.c_tree.specs.declared.token.Header.TheVariants as header
use Rattle.c_tree.specs.declared.token.Operator.TheVariants as operator
use Rattle.c_tree.specs.declared.token.Call.TheVariants as call
use Rattle.c_tree.specs.declared.token.Datatype.TheVariants as datatype
use Rattle.c_tree.specs.declared.token.Reduction.TheVariants as reduction
use Rattle.c_tree.specs.Codes.{code}

-- the classes by their numbers
abbrev classes : List Class
classes =
    class.Name
    ∷ class.Number
    ∷ class.LongNumber
    ∷ class.HugeNumber
    ∷ class.Character
    ∷ class.Text
    ∷ class.Checkpoint
    ∷ class.Reserved
    ∷ class.Broken
    ∷ class.Struct
    ∷ class.Char
    ∷ class.Int
    ∷ class.Long
    ∷ class.Void
    ∷ class.If
    ∷ class.Else
    ∷ class.While
    ∷ class.Do
    ∷ class.For
    ∷ class.Return
    ∷ class.Break
    ∷ class.Continue
    ∷ class.SizeOf
    ∷ class.Null
    ∷ class.Malloc
    ∷ class.Free
    ∷ class.Printf
    ∷ class.PotentialCheckpoint
    ∷ class.StatusType
    ∷ class.SourceField
    ∷ class.TagField
    ∷ class.AnySource
    ∷ class.AnyTag
    ∷ class.ProcNull
    ∷ class.StatusIgnore
    ∷ class.World
    ∷ class.LeftParen
    ∷ class.RightParen
    ∷ class.LeftBracket
    ∷ class.RightBracket
    ∷ class.LeftBrace
    ∷ class.RightBrace
    ∷ class.Semicolon
    ∷ class.Comma
    ∷ class.Question
    ∷ class.Colon
    ∷ class.Dot
    ∷ class.Arrow
    ∷ class.Equal
    ∷ class.PlusPlus
    ∷ class.MinusMinus
    ∷ class.Include header.Mpi
    ∷ class.Include header.Stdio
    ∷ class.Include header.Stdlib
    ∷ class.Mpi call.Init
    ∷ class.Mpi call.Finalize
    ∷ class.Mpi call.CommRank
    ∷ class.Mpi call.CommSize
    ∷ class.Mpi call.Send
    ∷ class.Mpi call.Recv
    ∷ class.Mpi call.GetCount
    ∷ class.Mpi call.Barrier
    ∷ class.Mpi call.Bcast
    ∷ class.Mpi call.Reduce
    ∷ class.Mpi call.Allreduce
    ∷ class.Mpi call.Gather
    ∷ class.Mpi call.Scatter
    ∷ class.Mpi call.Allgather
    ∷ class.Element datatype.Chars
    ∷ class.Element datatype.Ints
    ∷ class.Element datatype.Longs
    ∷ class.Fold reduction.Sum
    ∷ class.Fold reduction.Product
    ∷ class.Fold reduction.Greatest
    ∷ class.Fold reduction.Least
    ∷ class.Sign operator.Star
    ∷ class.Sign operator.Slash
    ∷ class.Sign operator.Percent
    ∷ class.Sign operator.Plus
    ∷ class.Sign operator.Minus
    ∷ class.Sign operator.ShiftLeft
    ∷ class.Sign operator.ShiftRight
    ∷ class.Sign operator.Less
    ∷ class.Sign operator.Greater
    ∷ class.Sign operator.LessEqual
    ∷ class.Sign operator.GreaterEqual
    ∷ class.Sign operator.EqualEqual
    ∷ class.Sign operator.NotEqual
    ∷ class.Sign operator.And
    ∷ class.Sign operator.Caret
    ∷ class.Sign operator.Or
    ∷ class.Sign operator.AndAnd
    ∷ class.Sign operator.OrOr
    ∷ class.Sign operator.Not
    ∷ class.Sign operator.Tilde
    ∷ class.Compound operator.Star
    ∷ class.Compound operator.Slash
    ∷ class.Compound operator.Percent
    ∷ class.Compound operator.Plus
    ∷ class.Compound operator.Minus
    ∷ class.Compound operator.ShiftLeft
    ∷ class.Compound operator.ShiftRight
    ∷ class.Compound operator.Less
    ∷ class.Compound operator.Greater
    ∷ class.Compound operator.LessEqual
    ∷ class.Compound operator.GreaterEqual
    ∷ class.Compound operator.EqualEqual
    ∷ class.Compound operator.NotEqual
    ∷ class.Compound operator.And
    ∷ class.Compound operator.Caret
    ∷ class.Compound operator.Or
    ∷ class.Compound operator.AndAnd
    ∷ class.Compound operator.OrOr
    ∷ class.Compound operator.Not
    ∷ class.Compound operator.Tilde
    ∷ []

abbrev nth : List Class → ℕ → Option Class
nth [] i = None
nth (c ∷ cs) zero = Some c
nth (c ∷ cs) (suc i) = nth cs i

place_of : (c : Class) → nth classes (code c) ≡ Some c
place_of class.Name = refl
place_of class.Number = refl
place_of class.LongNumber = refl
place_of class.HugeNumber = refl
place_of class.Character = refl
place_of class.Text = refl
place_of class.Checkpoint = refl
place_of class.Reserved = refl
place_of class.Broken = refl
place_of class.Struct = refl
place_of class.Char = refl
place_of class.Int = refl
place_of class.Long = refl
place_of class.Void = refl
place_of class.If = refl
place_of class.Else = refl
place_of class.While = refl
place_of class.Do = refl
place_of class.For = refl
place_of class.Return = refl
place_of class.Break = refl
place_of class.Continue = refl
place_of class.SizeOf = refl
place_of class.Null = refl
place_of class.Malloc = refl
place_of class.Free = refl
place_of class.Printf = refl
place_of class.PotentialCheckpoint = refl
place_of class.StatusType = refl
place_of class.SourceField = refl
place_of class.TagField = refl
place_of class.AnySource = refl
place_of class.AnyTag = refl
place_of class.ProcNull = refl
place_of class.StatusIgnore = refl
place_of class.World = refl
place_of class.LeftParen = refl
place_of class.RightParen = refl
place_of class.LeftBracket = refl
place_of class.RightBracket = refl
place_of class.LeftBrace = refl
place_of class.RightBrace = refl
place_of class.Semicolon = refl
place_of class.Comma = refl
place_of class.Question = refl
place_of class.Colon = refl
place_of class.Dot = refl
place_of class.Arrow = refl
place_of class.Equal = refl
place_of class.PlusPlus = refl
place_of class.MinusMinus = refl
place_of (class.Include header.Mpi) = refl
place_of (class.Include header.Stdio) = refl
place_of (class.Include header.Stdlib) = refl
place_of (class.Mpi call.Init) = refl
place_of (class.Mpi call.Finalize) = refl
place_of (class.Mpi call.CommRank) = refl
place_of (class.Mpi call.CommSize) = refl
place_of (class.Mpi call.Send) = refl
place_of (class.Mpi call.Recv) = refl
place_of (class.Mpi call.GetCount) = refl
place_of (class.Mpi call.Barrier) = refl
place_of (class.Mpi call.Bcast) = refl
place_of (class.Mpi call.Reduce) = refl
place_of (class.Mpi call.Allreduce) = refl
place_of (class.Mpi call.Gather) = refl
place_of (class.Mpi call.Scatter) = refl
place_of (class.Mpi call.Allgather) = refl
place_of (class.Element datatype.Chars) = refl
place_of (class.Element datatype.Ints) = refl
place_of (class.Element datatype.Longs) = refl
place_of (class.Fold reduction.Sum) = refl
place_of (class.Fold reduction.Product) = refl
place_of (class.Fold reduction.Greatest) = refl
place_of (class.Fold reduction.Least) = refl
place_of (class.Sign operator.Star) = refl
place_of (class.Sign operator.Slash) = refl
place_of (class.Sign operator.Percent) = refl
place_of (class.Sign operator.Plus) = refl
place_of (class.Sign operator.Minus) = refl
place_of (class.Sign operator.ShiftLeft) = refl
place_of (class.Sign operator.ShiftRight) = refl
place_of (class.Sign operator.Less) = refl
place_of (class.Sign operator.Greater) = refl
place_of (class.Sign operator.LessEqual) = refl
place_of (class.Sign operator.GreaterEqual) = refl
place_of (class.Sign operator.EqualEqual) = refl
place_of (class.Sign operator.NotEqual) = refl
place_of (class.Sign operator.And) = refl
place_of (class.Sign operator.Caret) = refl
place_of (class.Sign operator.Or) = refl
place_of (class.Sign operator.AndAnd) = refl
place_of (class.Sign operator.OrOr) = refl
place_of (class.Sign operator.Not) = refl
place_of (class.Sign operator.Tilde) = refl
place_of (class.Compound operator.Star) = refl
place_of (class.Compound operator.Slash) = refl
place_of (class.Compound operator.Percent) = refl
place_of (class.Compound operator.Plus) = refl
place_of (class.Compound operator.Minus) = refl
place_of (class.Compound operator.ShiftLeft) = refl
place_of (class.Compound operator.ShiftRight) = refl
place_of (class.Compound operator.Less) = refl
place_of (class.Compound operator.Greater) = refl
place_of (class.Compound operator.LessEqual) = refl
place_of (class.Compound operator.GreaterEqual) = refl
place_of (class.Compound operator.EqualEqual) = refl
place_of (class.Compound operator.NotEqual) = refl
place_of (class.Compound operator.And) = refl
place_of (class.Compound operator.Caret) = refl
place_of (class.Compound operator.Or) = refl
place_of (class.Compound operator.AndAnd) = refl
place_of (class.Compound operator.OrOr) = refl
place_of (class.Compound operator.Not) = refl
place_of (class.Compound operator.Tilde) = refl

some_same : {X : Type 0} (a b : X) → Some a ≡ Some b → a ≡ b
some_same a b e = cc e

pub code_injective : (a b : Class) → code a ≡ code b → a ≡ b
code_injective a b e = some_same a b (sym (place_of a) ∙ (ap (λ (n : ℕ). nth classes n) e ∙ place_of b))
