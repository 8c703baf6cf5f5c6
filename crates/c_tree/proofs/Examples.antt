-- Texts and their tokens.
use Rattle.std.proofs.Common.{ℕ, List, [], ◌∷◌, ◌≡◌, refl, codes}
use Rattle.c_tree.specs.declared.token.Class.{Class}
use Rattle.c_tree.specs.declared.token.Class.TheVariants as class
use Rattle.c_tree.specs.declared.token.Header.TheVariants as header
use Rattle.c_tree.specs.declared.token.Operator.TheVariants as operator
use Rattle.c_tree.specs.declared.token.Token.{Token}
use Rattle.c_tree.specs.declared.token.Value.TheVariants as value
use Rattle.c_tree.specs.Scan.{tokens_of}

abbrev t : Class → ℕ → Token
t c p = record { class = c; value = value.Nothing; place = p }

abbrev number : Class → ℕ → ℕ → Token
number c v p = record { class = c; value = value.Number v; place = p }

abbrev bytes : Class → List ℕ → ℕ → Token
bytes c v p = record { class = c; value = value.Bytes v; place = p }

abbrev name : List ℕ → ℕ → Token
name v p = bytes class.Name v p

longest : tokens_of (codes "a+==b<<=c--->d") ≡ name (codes "a") 0 ∷ t (class.Compound operator.Plus) 1 ∷ t class.Equal 3 ∷ name (codes "b") 4 ∷ t (class.Compound operator.ShiftLeft) 5 ∷ name (codes "c") 8 ∷ t class.MinusMinus 9 ∷ t class.Arrow 11 ∷ name (codes "d") 13 ∷ []
longest = refl

numbers : tokens_of (codes "012 1lu 2147483648 9223372036854775808 7L") ≡ number class.Number 0 0 ∷ number class.Number 12 1 ∷ number class.LongNumber 1 4 ∷ name (codes "u") 6 ∷ number class.LongNumber 2147483648 8 ∷ t class.HugeNumber 19 ∷ number class.LongNumber 7 39 ∷ []
numbers = refl

gaps : tokens_of (codes "// x\n  # include <mpi.h>\n#include   <mpi.h> \r\n/* a * / b **/int/**/x") ≡ t class.Broken 7 ∷ []
gaps = refl

lines : tokens_of (codes "  #include   <mpi.h> \r\n\t#pragma ccc\tcheckpoint\nint #") ≡ t (class.Include header.Mpi) 2 ∷ t class.Checkpoint 24 ∷ t class.Int 47 ∷ t class.Broken 51 ∷ []
lines = refl

forms : tokens_of (codes "#include <mpi.h>\n#include \t<stdio.h>\t\r\n#include<stdlib.h>\r\n#include<mpi.h>\n#include<stdio.h>\n#include <stdlib.h>\n\t #pragma \tccc  checkpoint \t\r") ≡ t (class.Include header.Mpi) 0 ∷ t (class.Include header.Stdio) 17 ∷ t (class.Include header.Stdlib) 39 ∷ t (class.Include header.Mpi) 59 ∷ t (class.Include header.Stdio) 75 ∷ t (class.Include header.Stdlib) 93 ∷ t class.Checkpoint 115 ∷ []
forms = refl

-- a blank inside a name or after a carriage return, a second carriage return, a word too many, a form that stops early
wrong_lines : (tokens_of (codes "#include < mpi.h>") ≡ t class.Broken 0 ∷ []) × (tokens_of (codes "#include <mpi.h>\r ") ≡ t class.Broken 0 ∷ []) × (tokens_of (codes "#include <mpi.h>\r\r\n") ≡ t class.Broken 0 ∷ []) × (tokens_of (codes " #pragma ccc checkpoint x") ≡ t class.Broken 1 ∷ []) × (tokens_of (codes "#pragma cccx") ≡ t class.Broken 0 ∷ []) × (tokens_of (codes "#pragmaccc checkpoint") ≡ t class.Broken 0 ∷ [])
wrong_lines = (refl, refl, refl, refl, refl, refl)

-- a carriage return or a comment is no blank before the form
not_fresh : (tokens_of (codes "\r#include <mpi.h>") ≡ t class.Broken 1 ∷ []) × (tokens_of (codes "/*\n*/#include <mpi.h>") ≡ t class.Broken 5 ∷ []) × (tokens_of (codes "//\n #include <mpi.h>") ≡ t (class.Include header.Mpi) 4 ∷ [])
not_fresh = (refl, refl, refl)

comments : tokens_of (codes "/* a * / b **/int/**/x/*/") ≡ t class.Int 14 ∷ name (codes "x") 21 ∷ t class.Broken 22 ∷ []
comments = refl

strings : tokens_of (codes "\"a\\n\\\"b\"'\\0''x'\"ab\\q\"") ≡ bytes class.Text (97 ∷ 10 ∷ 34 ∷ 98 ∷ []) 0 ∷ number class.Character 0 8 ∷ number class.Character 120 12 ∷ t class.Broken 18 ∷ []
strings = refl

unclosed : (tokens_of (codes "'ab'") ≡ t class.Broken 0 ∷ []) × (tokens_of (codes "''") ≡ t class.Broken 0 ∷ []) × (tokens_of (codes "x\"a\\") ≡ name (codes "x") 0 ∷ t class.Broken 1 ∷ []) × (tokens_of (codes "\"a\nb\"") ≡ t class.Broken 0 ∷ []) × (tokens_of (codes "'\\\"'") ≡ t class.Broken 1 ∷ []) × (tokens_of (codes "\"\\'\"") ≡ t class.Broken 1 ∷ [])
unclosed = (refl, refl, refl, refl, refl, refl)

-- bytes from 128 on: in a string, a comment, a character, and alone
high : (tokens_of (34 ∷ 195 ∷ 169 ∷ 34 ∷ 47 ∷ 42 ∷ 255 ∷ 42 ∷ 47 ∷ 39 ∷ 195 ∷ 39 ∷ []) ≡ bytes class.Text (195 ∷ 169 ∷ []) 0 ∷ t class.Broken 9 ∷ []) × (tokens_of (97 ∷ 195 ∷ []) ≡ name (codes "a") 0 ∷ t class.Broken 1 ∷ [])
high = (refl, refl)

words : tokens_of (codes "MPI_Foo MPI_SOURCE auto _x9") ≡ t class.Reserved 0 ∷ t class.SourceField 8 ∷ t class.Reserved 19 ∷ name (codes "_x9") 24 ∷ []
words = refl
