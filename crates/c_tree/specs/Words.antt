-- The bytes, words and operators of a program text (ISO C99 6.4).
use Rattle.std.specs.Prelude.{ℕ, ◌+◌, ◌*◌, ◌-◌, List, [], ◌∷◌, Bool, true, false, ◌||◌, ◌&&◌, not, nat_eq, nat_lt, Option, Some, None, codes}
use Rattle.c_tree.specs.declared.token.Class.{Class}
use Rattle.c_tree.specs.declared.token.Class.TheVariants as class
use Rattle.c_tree.specs.declared.token.Operator.TheVariants as operator
use Rattle.c_tree.specs.declared.token.Call.TheVariants as call
use Rattle.c_tree.specs.declared.token.Datatype.TheVariants as datatype
use Rattle.c_tree.specs.declared.token.Reduction.TheVariants as reduction
use Rattle.c_tree.specs.declared.token.Header.TheVariants as header
use Rattle.c_tree.specs.declared.token.Value.{Value}
use Rattle.c_tree.specs.declared.token.Value.TheVariants as value

-- ---- bytes

abbrev pub between : ℕ → ℕ → ℕ → Bool
between a z b = not (nat_lt b a) && not (nat_lt z b)

-- a space or a tab
abbrev pub is_blank : ℕ → Bool
is_blank b = nat_eq b 32 || nat_eq b 9

-- a blank, a carriage return or a line feed
abbrev pub is_white : ℕ → Bool
is_white b = is_blank b || (nat_eq b 13 || nat_eq b 10)

abbrev pub is_digit : ℕ → Bool
is_digit b = between 48 57 b

-- a letter or _ (C99 6.4.2.1)
abbrev pub is_letter : ℕ → Bool
is_letter b = between 65 90 b || (between 97 122 b || nat_eq b 95)

-- what a name goes on with
abbrev pub is_name_byte : ℕ → Bool
is_name_byte b = is_letter b || is_digit b

-- all but a line feed
abbrev pub in_line : ℕ → Bool
in_line b = not (nat_eq b 10)

-- a byte that stands for itself in a string (6.4.5)
abbrev pub is_text : ℕ → Bool
is_text b = (between 32 126 b && not (nat_eq b 34 || nat_eq b 92)) || (nat_eq b 9 || between 128 255 b)

-- a byte that stands for itself in a character (6.4.4.4)
abbrev pub is_character : ℕ → Bool
is_character b = between 32 126 b && not (nat_eq b 39 || nat_eq b 92)

-- ---- escapes (6.4.4.4)

-- the byte that an escape's letter stands for
abbrev pub escape : ℕ → Option ℕ
escape b = elim (nat_eq b 110) as (λ _. Option ℕ) [
  | true ↦ Some 10
  | false ↦
      elim (nat_eq b 116) as (λ _. Option ℕ) [
        | true ↦ Some 9
        | false ↦
            elim (nat_eq b 92) as (λ _. Option ℕ) [ true ↦ Some 92 | false ↦ None ]
      ]
]

-- with one letter more
abbrev pub escape_or : ℕ → ℕ → ℕ → Option ℕ
escape_or other value b = elim (nat_eq b other) as (λ _. Option ℕ) [ true ↦ Some value | false ↦ escape b ]

-- in a character, which has two letters more
abbrev pub character_escape : ℕ → Option ℕ
character_escape b = elim (nat_eq b 48) as (λ _. Option ℕ) [ true ↦ Some 0 | false ↦ escape_or 39 39 b ]

-- in a string, which has one letter more
abbrev pub string_escape : ℕ → Option ℕ
string_escape = escape_or 34 34

-- ---- tables

abbrev pub same : List ℕ → List ℕ → Bool
same [] [] = true
same [] (y ∷ ys) = false
same (x ∷ xs) [] = false
same (x ∷ xs) (y ∷ ys) = nat_eq x y && same xs ys

abbrev pub begins_with : List ℕ → List ℕ → Bool
begins_with [] ys = true
begins_with (x ∷ xs) [] = false
begins_with (x ∷ xs) (y ∷ ys) = nat_eq x y && begins_with xs ys

abbrev pub Table : Type 0
Table = List (List ℕ × Class)

-- the class of the whole text in a table
abbrev pub look : Table → List ℕ → Option Class
look [] w = None
look (r ∷ rs) w = elim (same r.0 w) as (λ _. Option Class) [ true ↦ Some r.1 | false ↦ look rs w ]

-- the words that have a class of their own (6.4.1, and names of the library)
abbrev pub words : Table
words =
    (codes "char", class.Char)
    ∷ (codes "int", class.Int)
    ∷ (codes "long", class.Long)
    ∷ (codes "void", class.Void)
    ∷ (codes "struct", class.Struct)
    ∷ (codes "if", class.If)
    ∷ (codes "else", class.Else)
    ∷ (codes "while", class.While)
    ∷ (codes "do", class.Do)
    ∷ (codes "for", class.For)
    ∷ (codes "return", class.Return)
    ∷ (codes "break", class.Break)
    ∷ (codes "continue", class.Continue)
    ∷ (codes "sizeof", class.SizeOf)
    ∷ (codes "NULL", class.Null)
    ∷ (codes "malloc", class.Malloc)
    ∷ (codes "free", class.Free)
    ∷ (codes "printf", class.Printf)
    ∷ (codes "potentialCheckpoint", class.PotentialCheckpoint)
    ∷ (codes "MPI_Status", class.StatusType)
    ∷ (codes "MPI_SOURCE", class.SourceField)
    ∷ (codes "MPI_TAG", class.TagField)
    ∷ (codes "MPI_ANY_SOURCE", class.AnySource)
    ∷ (codes "MPI_ANY_TAG", class.AnyTag)
    ∷ (codes "MPI_PROC_NULL", class.ProcNull)
    ∷ (codes "MPI_STATUS_IGNORE", class.StatusIgnore)
    ∷ (codes "MPI_COMM_WORLD", class.World)
    ∷ (codes "MPI_Init", class.Mpi call.Init)
    ∷ (codes "MPI_Finalize", class.Mpi call.Finalize)
    ∷ (codes "MPI_Comm_rank", class.Mpi call.CommRank)
    ∷ (codes "MPI_Comm_size", class.Mpi call.CommSize)
    ∷ (codes "MPI_Send", class.Mpi call.Send)
    ∷ (codes "MPI_Recv", class.Mpi call.Recv)
    ∷ (codes "MPI_Get_count", class.Mpi call.GetCount)
    ∷ (codes "MPI_Barrier", class.Mpi call.Barrier)
    ∷ (codes "MPI_Bcast", class.Mpi call.Bcast)
    ∷ (codes "MPI_Reduce", class.Mpi call.Reduce)
    ∷ (codes "MPI_Allreduce", class.Mpi call.Allreduce)
    ∷ (codes "MPI_Gather", class.Mpi call.Gather)
    ∷ (codes "MPI_Scatter", class.Mpi call.Scatter)
    ∷ (codes "MPI_Allgather", class.Mpi call.Allgather)
    ∷ (codes "MPI_CHAR", class.Element datatype.Chars)
    ∷ (codes "MPI_INT", class.Element datatype.Ints)
    ∷ (codes "MPI_LONG", class.Element datatype.Longs)
    ∷ (codes "MPI_SUM", class.Fold reduction.Sum)
    ∷ (codes "MPI_PROD", class.Fold reduction.Product)
    ∷ (codes "MPI_MAX", class.Fold reduction.Greatest)
    ∷ (codes "MPI_MIN", class.Fold reduction.Least)
    ∷ []

-- C99's keywords that no program uses (6.4.1)
abbrev pub reserved : List (List ℕ)
reserved =
    codes "auto"
    ∷ codes "case"
    ∷ codes "const"
    ∷ codes "default"
    ∷ codes "double"
    ∷ codes "enum"
    ∷ codes "extern"
    ∷ codes "float"
    ∷ codes "goto"
    ∷ codes "inline"
    ∷ codes "register"
    ∷ codes "restrict"
    ∷ codes "short"
    ∷ codes "signed"
    ∷ codes "static"
    ∷ codes "switch"
    ∷ codes "typedef"
    ∷ codes "union"
    ∷ codes "unsigned"
    ∷ codes "volatile"
    ∷ codes "_Bool"
    ∷ codes "_Complex"
    ∷ codes "_Imaginary"
    ∷ []

-- the operators and punctuators (6.4.6), the longest first
abbrev pub signs : Table
signs =
    (codes "<<=", class.Compound operator.ShiftLeft)
    ∷ (codes ">>=", class.Compound operator.ShiftRight)
    ∷ (codes "<<", class.Sign operator.ShiftLeft)
    ∷ (codes ">>", class.Sign operator.ShiftRight)
    ∷ (codes "<=", class.Sign operator.LessEqual)
    ∷ (codes ">=", class.Sign operator.GreaterEqual)
    ∷ (codes "==", class.Sign operator.EqualEqual)
    ∷ (codes "!=", class.Sign operator.NotEqual)
    ∷ (codes "&&", class.Sign operator.AndAnd)
    ∷ (codes "||", class.Sign operator.OrOr)
    ∷ (codes "+=", class.Compound operator.Plus)
    ∷ (codes "-=", class.Compound operator.Minus)
    ∷ (codes "*=", class.Compound operator.Star)
    ∷ (codes "/=", class.Compound operator.Slash)
    ∷ (codes "%=", class.Compound operator.Percent)
    ∷ (codes "&=", class.Compound operator.And)
    ∷ (codes "|=", class.Compound operator.Or)
    ∷ (codes "^=", class.Compound operator.Caret)
    ∷ (codes "->", class.Arrow)
    ∷ (codes "++", class.PlusPlus)
    ∷ (codes "--", class.MinusMinus)
    ∷ (codes "*", class.Sign operator.Star)
    ∷ (codes "/", class.Sign operator.Slash)
    ∷ (codes "%", class.Sign operator.Percent)
    ∷ (codes "+", class.Sign operator.Plus)
    ∷ (codes "-", class.Sign operator.Minus)
    ∷ (codes "<", class.Sign operator.Less)
    ∷ (codes ">", class.Sign operator.Greater)
    ∷ (codes "&", class.Sign operator.And)
    ∷ (codes "^", class.Sign operator.Caret)
    ∷ (codes "|", class.Sign operator.Or)
    ∷ (codes "!", class.Sign operator.Not)
    ∷ (codes "~", class.Sign operator.Tilde)
    ∷ (codes "(", class.LeftParen)
    ∷ (codes ")", class.RightParen)
    ∷ (codes "[", class.LeftBracket)
    ∷ (codes "]", class.RightBracket)
    ∷ (codes "{", class.LeftBrace)
    ∷ (codes "}", class.RightBrace)
    ∷ (codes ";", class.Semicolon)
    ∷ (codes ",", class.Comma)
    ∷ (codes "?", class.Question)
    ∷ (codes ":", class.Colon)
    ∷ (codes ".", class.Dot)
    ∷ (codes "=", class.Equal)
    ∷ []

-- the lines that begin with #, with one blank for each run of blanks
abbrev pub lines : Table
lines =
    (codes "#include <mpi.h>", class.Include header.Mpi)
    ∷ (codes "#include <stdio.h>", class.Include header.Stdio)
    ∷ (codes "#include <stdlib.h>", class.Include header.Stdlib)
    ∷ (codes "#include<mpi.h>", class.Include header.Mpi)
    ∷ (codes "#include<stdio.h>", class.Include header.Stdio)
    ∷ (codes "#include<stdlib.h>", class.Include header.Stdlib)
    ∷ (codes "#pragma ccc checkpoint", class.Checkpoint)
    ∷ []

-- ---- what a token stands for

abbrev pub among : List (List ℕ) → List ℕ → Bool
among [] w = false
among (x ∷ xs) w = same x w || among xs w

-- what no table names is a name, but for keywords and what begins with MPI_
abbrev pub word_class : List ℕ → Class
word_class w = elim (look words w) as (λ _. Class) [
  | Some c ↦ c
  | None ↦ elim (among reserved w || begins_with (codes "MPI_") w) as (λ _. Class) [ true ↦ class.Reserved | false ↦ class.Name ]
]

-- a name keeps its bytes
abbrev pub word_value : Class → List ℕ → Value
word_value class.Name w = value.Bytes w
word_value _ w = value.Nothing

abbrev pub number_value : ℕ → List ℕ → ℕ
number_value v [] = v
number_value v (d ∷ ds) = number_value (v * 10 + (d - 48)) ds

-- the class of a number by its suffix and value (6.4.4.1)
abbrev pub number_class : Bool → ℕ → Class
number_class suffix v = elim (nat_lt v 9223372036854775808) as (λ _. Class) [
  | true ↦ elim (suffix || nat_lt 2147483647 v) as (λ _. Class) [ true ↦ class.LongNumber | false ↦ class.Number ]
  | false ↦ class.HugeNumber
]

-- a number of 2^63 or more has no value
abbrev pub number_kept : ℕ → Value
number_kept v = elim (nat_lt v 9223372036854775808) as (λ _. Value) [ true ↦ value.Number v | false ↦ value.Nothing ]
