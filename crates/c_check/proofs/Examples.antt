-- Small programs: their typed forms, and what is said of calls and of malloc.
use Rattle.std.proofs.Common.{◌≡◌, refl, [], ◌∷◌, pos, negsuc, Some, None, false, codes}
use Rattle.c_tree.specs.declared.tree.Item.TheVariants as item
use Rattle.c_tree.specs.declared.tree.TypeSpecifier.TheVariants as specifier
use Rattle.c_tree.specs.declared.tree.PlainType.TheVariants as plain
use Rattle.c_tree.specs.declared.tree.BlockItem.TheVariants as block_item
use Rattle.c_tree.specs.declared.tree.ForStart.TheVariants as for_start
use Rattle.c_tree.specs.declared.tree.SimpleStatement.TheVariants as simple_form
use Rattle.c_tree.specs.declared.tree.MpiCall.TheVariants as mpi
use Rattle.c_tree.specs.declared.tree.Status.TheVariants as status
use Rattle.c_tree.specs.declared.tree.Constant.TheVariants as constant
use Rattle.c_tree.specs.declared.tree.Access.TheVariants as access
use Rattle.c_tree.specs.declared.tree.MemberName.TheVariants as member_name
use Rattle.c_tree.specs.declared.tree.Primary.TheVariants as primary
use Rattle.c_tree.specs.declared.tree.Suffix.TheVariants as suffix
use Rattle.c_tree.specs.declared.token.Operator.TheVariants as operator
use Rattle.c_tree.specs.declared.token.Datatype.TheVariants as types
use Rattle.c_tree.specs.declared.kind.Kind.TheVariants as kind
use Rattle.c_kernel.specs.declared.types.IntegerType.TheVariants as integer
use Rattle.c_kernel.specs.declared.program.Stmt.TheVariants as typed
use Rattle.c_kernel.specs.declared.program.Action.TheVariants as action
use Rattle.c_kernel.specs.declared.program.Piece.TheVariants as piece
use Rattle.c_kernel.specs.declared.program.Expr.TheVariants as term
use Rattle.c_kernel.specs.declared.program.Scalar.TheVariants as scalar
use Rattle.c_kernel.specs.declared.program.Selection.TheVariants as selection
use Rattle.c_kernel.specs.declared.program.BinaryOperator.TheVariants as binary
use Rattle.c_kernel.specs.declared.program.Arithmetic.TheVariants as arithmetic_operator
use Rattle.c_kernel.specs.declared.program.Comparison.TheVariants as compare
use Rattle.c_kernel.specs.declared.program.Way.TheVariants as way
use Rattle.mpi_words.specs.declared.message.Datatype.TheVariants as datatype_kind
use Rattle.c_kernel.specs.declared.program.MpiFunction.TheVariants as function
use Rattle.c_check.proofs.SmallTrees.{EachRule, judging, named, figure, parameter, heading, declared, members, variable, declaration, path, number, character, word, name, call, allocated, size, group, cast, prefix, link, chain, block, empty, compound, arm, branch, do_while, for, return, print, freed, datatype, buffer, called, simple, main_at, fault, broken, whole, accepted, char, int, long, structure, to, single, object, program_with, program_of, zero, mpi_call, three, within, behind, read, followed, c, i, l, bond, sets, two}

-- ---- typed forms: conversions

-- int main(void){char c;int i;long l;l=i+c-l;}
mixed_chain : whole ((main_at 0 ((block_item.Declaration (declaration (specifier.Plain 15 plain.Char) ((variable 0 (named 20 (codes "c")) [] None) ∷ []))) ∷ (block_item.Declaration (declaration (specifier.Plain 22 plain.Int) ((variable 0 (named 26 (codes "i")) [] None) ∷ []))) ∷ (block_item.Declaration (declaration (specifier.Plain 28 plain.Long) ((variable 0 (named 33 (codes "l")) [] None) ∷ []))) ∷ (block_item.Statement (simple (simple_form.Assign (name (named 35 (codes "l"))) 36 None (chain (name (named 37 (codes "i"))) ((link operator.Plus (name (named 39 (codes "c")))) ∷ (link operator.Minus (name (named 41 (codes "l")))) ∷ []))))) ∷ [])) ∷ []) 44 ≡ accepted (three (sets 2 (term.Chain i (bond None (binary.Arithmetic arithmetic_operator.Add integer.Int) (term.Convert integer.Int c) ∷ bond (Some integer.Long) (binary.Arithmetic arithmetic_operator.Subtract integer.Long) l ∷ [])) ∷ []))
unfolding EachRule
mixed_chain = simp judging refl

-- int main(void){char c;int i;long l;c+=l;}
added : whole ((main_at 0 ((block_item.Declaration (declaration (specifier.Plain 15 plain.Char) ((variable 0 (named 20 (codes "c")) [] None) ∷ []))) ∷ (block_item.Declaration (declaration (specifier.Plain 22 plain.Int) ((variable 0 (named 26 (codes "i")) [] None) ∷ []))) ∷ (block_item.Declaration (declaration (specifier.Plain 28 plain.Long) ((variable 0 (named 33 (codes "l")) [] None) ∷ []))) ∷ (block_item.Statement (simple (simple_form.Assign (name (named 35 (codes "c"))) 36 (Some operator.Plus) (name (named 38 (codes "l")))))) ∷ [])) ∷ []) 41 ≡ accepted (three (sets 0 (term.Convert integer.Char (two c (bond (Some integer.Long) (binary.Arithmetic arithmetic_operator.Add integer.Long) l))) ∷ []))
unfolding EachRule
added = simp judging refl

-- ---- statements and calls

-- int main(void){printf("a%d%%\n",1);}
printed_pieces : whole ((main_at 0 ((block_item.Statement (print 15 22 (97 ∷ 37 ∷ 100 ∷ 37 ∷ 37 ∷ 10 ∷ []) ((number (figure 32 1 false)) ∷ []))) ∷ [])) ∷ []) 36 ≡ accepted (program_of [] [] (typed.Print (piece.Byte 97 ∷ piece.Decimal ∷ piece.Byte 37 ∷ piece.Byte 10 ∷ []) (term.Number (pos 1) integer.Int ∷ []) ∷ []))
unfolding EachRule
printed_pieces = simp judging refl

-- long f(char a){int b=a;return b;}int main(void){char c=f(300);f(c);}
called_function : whole ((item.Function (heading (specifier.Plain 0 plain.Long) 0 (named 5 (codes "f")) ((parameter (specifier.Plain 7 plain.Char) 0 (Some (named 12 (codes "a"))) None) ∷ [])) (block 14 ((block_item.Declaration (declaration (specifier.Plain 15 plain.Int) ((variable 0 (named 19 (codes "b")) [] (Some (name (named 21 (codes "a"))))) ∷ []))) ∷ (block_item.Statement (return 23 (Some (name (named 30 (codes "b")))))) ∷ []))) ∷ (main_at 33 ((block_item.Declaration (declaration (specifier.Plain 48 plain.Char) ((variable 0 (named 53 (codes "c")) [] (Some (call (named 55 (codes "f")) ((number (figure 57 300 false)) ∷ [])))) ∷ []))) ∷ (block_item.Statement (simple (simple_form.Expression (call (named 62 (codes "f")) ((name (named 64 (codes "c"))) ∷ []))))) ∷ [])) ∷ []) 68 ≡ accepted (program_with [] (record { name = codes "f"; result = long; parameters = 1; variables = single char ∷ single int ∷ []; body = typed.Actions (action.Set (within 1 []) (term.Convert integer.Int c) ∷ []) ∷ typed.Return (Some (term.Convert integer.Long i)) ∷ [] } ∷ record { name = codes "main"; result = int; parameters = 0; variables = single char ∷ []; body = typed.Actions (action.Call (Some (record { place = within 0 []; kind = scalar.Number integer.Char })) 0 (term.Convert integer.Char (term.Number (pos 300) integer.Int) ∷ []) ∷ []) ∷ typed.Actions (action.Call None 0 (c ∷ []) ∷ []) ∷ [] } ∷ []) 1)
unfolding EachRule
called_function = simp judging refl

-- int main(int a,char **b){for(int i=0,j;i<9;){do;while(1);}if(2);else if(3)return 4;}
loop_forms : whole ((item.Function (heading (specifier.Plain 0 plain.Int) 0 (named 4 (codes "main")) ((parameter (specifier.Plain 9 plain.Int) 0 (Some (named 13 (codes "a"))) None) ∷ (parameter (specifier.Plain 15 plain.Char) 2 (Some (named 22 (codes "b"))) None) ∷ [])) (block 24 ((block_item.Statement (for 25 (Some (for_start.Declaration (declaration (specifier.Plain 29 plain.Int) ((variable 0 (named 33 (codes "i")) [] (Some (number (figure 35 0 false)))) ∷ (variable 0 (named 37 (codes "j")) [] None) ∷ [])))) (Some (chain (name (named 39 (codes "i"))) ((link operator.Less (number (figure 41 9 false))) ∷ []))) None (compound (block 44 ((block_item.Statement (do_while 45 (empty 47) (number (figure 54 1 false)))) ∷ []))))) ∷ (block_item.Statement (branch 58 (number (figure 61 2 false)) (empty 63) ((arm (number (figure 72 3 false)) (return 74 (Some (number (figure 81 4 false))))) ∷ []) None)) ∷ []))) ∷ []) 84 ≡ accepted (program_of [] (single int ∷ single int ∷ []) (typed.For (action.Set (within 0 []) (term.Number (pos 0) integer.Int) ∷ action.Zero 1 ∷ []) (Some (two (read integer.Int (within 0 [])) (bond None (binary.Comparison compare.Less) (term.Number (pos 9) integer.Int)))) [] (typed.Block (typed.DoWhile (typed.Actions [] ∷ []) (term.Number (pos 1) integer.Int) ∷ []) ∷ []) ∷ typed.If ((record { test = term.Number (pos 2) integer.Int; body = typed.Actions [] ∷ [] }) ∷ (record { test = term.Number (pos 3) integer.Int; body = typed.Return (Some (term.Number (pos 4) integer.Int)) ∷ [] }) ∷ []) [] ∷ []))
unfolding EachRule
loop_forms = simp judging refl

-- ---- places

-- int main(void){char a[2],b[2][3],*p=a;p=b[1];*a=*p;p[1]=0;p=a+1;}
array_as_pointer : whole ((main_at 0 ((block_item.Declaration (declaration (specifier.Plain 15 plain.Char) ((variable 0 (named 20 (codes "a")) ((figure 22 2 false) ∷ []) None) ∷ (variable 0 (named 25 (codes "b")) ((figure 27 2 false) ∷ (figure 30 3 false) ∷ []) None) ∷ (variable 1 (named 34 (codes "p")) [] (Some (name (named 36 (codes "a"))))) ∷ []))) ∷ (block_item.Statement (simple (simple_form.Assign (name (named 38 (codes "p"))) 39 None (path (primary.Name (named 40 (codes "b"))) (suffix.Index 41 (number (figure 42 1 false)) ∷ []))))) ∷ (block_item.Statement (simple (simple_form.Assign (prefix 45 operator.Star (name (named 46 (codes "a")))) 47 None (prefix 48 operator.Star (name (named 49 (codes "p"))))))) ∷ (block_item.Statement (simple (simple_form.Assign (path (primary.Name (named 51 (codes "p"))) (suffix.Index 52 (number (figure 53 1 false)) ∷ [])) 55 None (number (figure 56 0 false))))) ∷ (block_item.Statement (simple (simple_form.Assign (name (named 58 (codes "p"))) 59 None (chain (name (named 60 (codes "a"))) ((link operator.Plus (number (figure 62 1 false))) ∷ []))))) ∷ [])) ∷ []) 65 ≡ accepted (program_of [] (object char (2 ∷ []) 2 ∷ object char (2 ∷ 3 ∷ []) 6 ∷ single (to char) ∷ []) (typed.Actions (action.Zero 0 ∷ action.Zero 1 ∷ action.Set (within 2 []) (term.Address (within 0 (selection.Element (term.Number (pos 0) integer.Int) 1 ∷ []))) ∷ []) ∷ typed.Actions (action.Set (within 2 []) (term.Address (within 1 (selection.Element (term.Number (pos 1) integer.Int) 3 ∷ selection.Element (term.Number (pos 0) integer.Int) 1 ∷ []))) ∷ []) ∷ typed.Actions (action.Set (within 0 (selection.Element (term.Number (pos 0) integer.Int) 1 ∷ selection.Checked ∷ [])) (read integer.Char (within 2 (selection.Follow ∷ []))) ∷ []) ∷ typed.Actions (action.Set (within 2 (selection.Follow ∷ selection.Element (term.Number (pos 1) integer.Int) 1 ∷ [])) (term.Convert integer.Char (term.Number (pos 0) integer.Int)) ∷ []) ∷ typed.Actions (action.Set (within 2 []) (two (term.Address (within 0 (selection.Element (term.Number (pos 0) integer.Int) 1 ∷ []))) (bond None (binary.Advance way.Forward 1) (term.Number (pos 1) integer.Int))) ∷ []) ∷ []))
unfolding EachRule
array_as_pointer = simp judging refl

-- int main(void){char **p=malloc('a'),c;p[1]=((char*)(malloc(c)));free(NULL);}
allocated_pointers : whole ((main_at 0 ((block_item.Declaration (declaration (specifier.Plain 15 plain.Char) ((variable 2 (named 22 (codes "p")) [] (Some (allocated 24 (character 31 97)))) ∷ (variable 0 (named 36 (codes "c")) [] None) ∷ []))) ∷ (block_item.Statement (simple (simple_form.Assign (path (primary.Name (named 38 (codes "p"))) (suffix.Index 39 (number (figure 40 1 false)) ∷ [])) 42 None (group 43 (cast 44 (specifier.Plain 45 plain.Char) 1 (group 51 (allocated 52 (name (named 59 (codes "c")))))))))) ∷ (block_item.Statement (freed 64 (word 69 constant.Null))) ∷ [])) ∷ []) 76 ≡ accepted (program_of [] (single (to (to char)) ∷ single char ∷ []) (typed.Actions (action.Malloc (within 0 []) (term.Number (pos 97) integer.Int) (record { cells = 1; size = 16 }) ∷ action.Zero 1 ∷ []) ∷ typed.Actions (action.Malloc (within 0 (selection.Follow ∷ selection.Element (term.Number (pos 1) integer.Int) 1 ∷ [])) (read integer.Char (within 1 [])) (record { cells = 1; size = 1 }) ∷ []) ∷ typed.Free term.Null ∷ []))
unfolding EachRule
allocated_pointers = simp judging refl

-- struct s{int v;struct s *next;};int main(void){struct s *p;int x;x=p->next->v;p->next=malloc(sizeof(struct s));}
followed_list : whole ((item.Struct 0 (named 7 (codes "s")) ((members (specifier.Plain 9 plain.Int) ((declared 0 (member_name.Name (named 13 (codes "v"))) []) ∷ [])) ∷ (members (specifier.Struct 15 (named 22 (codes "s"))) ((declared 1 (member_name.Name (named 25 (codes "next"))) []) ∷ [])) ∷ [])) ∷ (main_at 32 ((block_item.Declaration (declaration (specifier.Struct 47 (named 54 (codes "s"))) ((variable 1 (named 57 (codes "p")) [] None) ∷ []))) ∷ (block_item.Declaration (declaration (specifier.Plain 59 plain.Int) ((variable 0 (named 63 (codes "x")) [] None) ∷ []))) ∷ (block_item.Statement (simple (simple_form.Assign (name (named 65 (codes "x"))) 66 None (path (primary.Name (named 67 (codes "p"))) (suffix.Member 68 access.Arrow (member_name.Name (named 70 (codes "next"))) ∷ suffix.Member 74 access.Arrow (member_name.Name (named 76 (codes "v"))) ∷ []))))) ∷ (block_item.Statement (simple (simple_form.Assign (path (primary.Name (named 78 (codes "p"))) (suffix.Member 79 access.Arrow (member_name.Name (named 81 (codes "next"))) ∷ [])) 85 None (allocated 86 (size 93 (specifier.Struct 100 (named 107 (codes "s"))) 0))))) ∷ [])) ∷ []) 112 ≡ accepted (program_of (record { name = codes "s"; members = (record { name = codes "v"; kind = single int; place = 0 } ∷ record { name = codes "next"; kind = single (to (structure 1)); place = 1 } ∷ []); extent = record { cells = 2; size = 20 } } ∷ []) (single (to (structure 1)) ∷ single int ∷ []) (zero 0 ∷ zero 1 ∷ typed.Actions (action.Set (within 1 []) (read integer.Int (within 0 (selection.Follow ∷ selection.Member 1 1 1 ∷ selection.Follow ∷ selection.Member 1 0 0 ∷ []))) ∷ []) ∷ typed.Actions (action.Malloc (within 0 (selection.Follow ∷ selection.Member 1 1 1 ∷ [])) (term.Number (pos 20) integer.Long) (record { cells = 2; size = 20 }) ∷ []) ∷ []))
unfolding EachRule
followed_list = simp judging refl

-- struct s{int v;struct s *next;};int main(void){struct s a[3];a[1].next=&a[2];*&a[0].v=a->v;}
addresses_of_members : whole ((item.Struct 0 (named 7 (codes "s")) ((members (specifier.Plain 9 plain.Int) ((declared 0 (member_name.Name (named 13 (codes "v"))) []) ∷ [])) ∷ (members (specifier.Struct 15 (named 22 (codes "s"))) ((declared 1 (member_name.Name (named 25 (codes "next"))) []) ∷ [])) ∷ [])) ∷ (main_at 32 ((block_item.Declaration (declaration (specifier.Struct 47 (named 54 (codes "s"))) ((variable 0 (named 56 (codes "a")) ((figure 58 3 false) ∷ []) None) ∷ []))) ∷ (block_item.Statement (simple (simple_form.Assign (path (primary.Name (named 61 (codes "a"))) (suffix.Index 62 (number (figure 63 1 false)) ∷ suffix.Member 65 access.Dot (member_name.Name (named 66 (codes "next"))) ∷ [])) 70 None (prefix 71 operator.And (path (primary.Name (named 72 (codes "a"))) (suffix.Index 73 (number (figure 74 2 false)) ∷ [])))))) ∷ (block_item.Statement (simple (simple_form.Assign (prefix 77 operator.Star (prefix 78 operator.And (path (primary.Name (named 79 (codes "a"))) (suffix.Index 80 (number (figure 81 0 false)) ∷ suffix.Member 83 access.Dot (member_name.Name (named 84 (codes "v"))) ∷ [])))) 85 None (path (primary.Name (named 86 (codes "a"))) (suffix.Member 87 access.Arrow (member_name.Name (named 89 (codes "v"))) ∷ []))))) ∷ [])) ∷ []) 92 ≡ accepted (program_of (record { name = codes "s"; members = (record { name = codes "v"; kind = single int; place = 0 } ∷ record { name = codes "next"; kind = single (to (structure 1)); place = 1 } ∷ []); extent = record { cells = 2; size = 20 } } ∷ []) (object (structure 1) (3 ∷ []) 6 ∷ []) (zero 0 ∷ typed.Actions (action.Set (within 0 (selection.Element (term.Number (pos 1) integer.Int) 2 ∷ selection.Member 1 1 1 ∷ [])) (term.Address (within 0 (selection.Element (term.Number (pos 2) integer.Int) 2 ∷ []))) ∷ []) ∷ typed.Actions (action.Set (behind (term.Address (within 0 (selection.Element (term.Number (pos 0) integer.Int) 2 ∷ selection.Member 1 0 0 ∷ []))) []) (read integer.Int (within 0 (selection.Element (term.Number (pos 0) integer.Int) 2 ∷ selection.Checked ∷ selection.Member 1 0 0 ∷ []))) ∷ []) ∷ []))
unfolding EachRule
addresses_of_members = simp judging refl

-- struct s{char c,*p;long a[2][3];};struct t{int MPI_TAG;struct s b[2];struct t *next;struct s s;};int main(void){struct t t;t.b[1].a[0][2]=t.MPI_TAG;(*t.next).s.p=&t.b->c;t.next=t.next-1;}
members_of_members : whole ((item.Struct 0 (named 7 (codes "s")) ((members (specifier.Plain 9 plain.Char) ((declared 0 (member_name.Name (named 14 (codes "c"))) []) ∷ (declared 1 (member_name.Name (named 17 (codes "p"))) []) ∷ [])) ∷ (members (specifier.Plain 19 plain.Long) ((declared 0 (member_name.Name (named 24 (codes "a"))) ((figure 26 2 false) ∷ (figure 29 3 false) ∷ [])) ∷ [])) ∷ [])) ∷ (item.Struct 34 (named 41 (codes "t")) ((members (specifier.Plain 43 plain.Int) ((declared 0 (member_name.Tag 47) []) ∷ [])) ∷ (members (specifier.Struct 55 (named 62 (codes "s"))) ((declared 0 (member_name.Name (named 64 (codes "b"))) ((figure 66 2 false) ∷ [])) ∷ [])) ∷ (members (specifier.Struct 69 (named 76 (codes "t"))) ((declared 1 (member_name.Name (named 79 (codes "next"))) []) ∷ [])) ∷ (members (specifier.Struct 84 (named 91 (codes "s"))) ((declared 0 (member_name.Name (named 93 (codes "s"))) []) ∷ [])) ∷ [])) ∷ (main_at 97 ((block_item.Declaration (declaration (specifier.Struct 112 (named 119 (codes "t"))) ((variable 0 (named 121 (codes "t")) [] None) ∷ []))) ∷ (block_item.Statement (simple (simple_form.Assign (path (primary.Name (named 123 (codes "t"))) (suffix.Member 124 access.Dot (member_name.Name (named 125 (codes "b"))) ∷ suffix.Index 126 (number (figure 127 1 false)) ∷ suffix.Member 129 access.Dot (member_name.Name (named 130 (codes "a"))) ∷ suffix.Index 131 (number (figure 132 0 false)) ∷ suffix.Index 134 (number (figure 135 2 false)) ∷ [])) 137 None (path (primary.Name (named 138 (codes "t"))) (suffix.Member 139 access.Dot (member_name.Tag 140) ∷ []))))) ∷ (block_item.Statement (simple (simple_form.Assign (path (primary.Group 148 (prefix 149 operator.Star (path (primary.Name (named 150 (codes "t"))) (suffix.Member 151 access.Dot (member_name.Name (named 152 (codes "next"))) ∷ [])))) (suffix.Member 157 access.Dot (member_name.Name (named 158 (codes "s"))) ∷ suffix.Member 159 access.Dot (member_name.Name (named 160 (codes "p"))) ∷ [])) 161 None (prefix 162 operator.And (path (primary.Name (named 163 (codes "t"))) (suffix.Member 164 access.Dot (member_name.Name (named 165 (codes "b"))) ∷ suffix.Member 166 access.Arrow (member_name.Name (named 168 (codes "c"))) ∷ [])))))) ∷ (block_item.Statement (simple (simple_form.Assign (path (primary.Name (named 170 (codes "t"))) (suffix.Member 171 access.Dot (member_name.Name (named 172 (codes "next"))) ∷ [])) 176 None (chain (path (primary.Name (named 177 (codes "t"))) (suffix.Member 178 access.Dot (member_name.Name (named 179 (codes "next"))) ∷ [])) ((link operator.Minus (number (figure 184 1 false))) ∷ []))))) ∷ [])) ∷ []) 187 ≡ accepted (program_of (record { name = codes "s"; members = (record { name = codes "c"; kind = single char; place = 0 } ∷ record { name = codes "p"; kind = single (to char); place = 1 } ∷ record { name = codes "a"; kind = object long (2 ∷ 3 ∷ []) 6; place = 2 } ∷ []); extent = record { cells = 8; size = 65 } } ∷ record { name = codes "t"; members = (record { name = codes "MPI_TAG"; kind = single int; place = 0 } ∷ record { name = codes "b"; kind = object (structure 1) (2 ∷ []) 16; place = 1 } ∷ record { name = codes "next"; kind = single (to (structure 2)); place = 17 } ∷ record { name = codes "s"; kind = object (structure 1) [] 8; place = 18 } ∷ []); extent = record { cells = 26; size = 215 } } ∷ []) (object (structure 2) [] 26 ∷ []) (zero 0 ∷ typed.Actions (action.Set (within 0 (selection.Member 2 1 1 ∷ selection.Element (term.Number (pos 1) integer.Int) 8 ∷ selection.Member 1 2 2 ∷ selection.Element (term.Number (pos 0) integer.Int) 3 ∷ selection.Element (term.Number (pos 2) integer.Int) 1 ∷ [])) (term.Convert integer.Long (read integer.Int (within 0 (selection.Member 2 0 0 ∷ [])))) ∷ []) ∷ typed.Actions (action.Set (within 0 (selection.Member 2 2 17 ∷ selection.Follow ∷ selection.Member 2 3 18 ∷ selection.Member 1 1 1 ∷ [])) (term.Address (within 0 (selection.Member 2 1 1 ∷ selection.Element (term.Number (pos 0) integer.Int) 8 ∷ selection.Checked ∷ selection.Member 1 0 0 ∷ []))) ∷ []) ∷ typed.Actions (action.Set (within 0 (selection.Member 2 2 17 ∷ [])) (two (followed (within 0 (selection.Member 2 2 17 ∷ []))) (bond None (binary.Advance way.Back 26) (term.Number (pos 1) integer.Int))) ∷ []) ∷ []))
unfolding EachRule
members_of_members = simp judging refl

-- ---- calls of MPI

-- int main(int a,char **b){int r;MPI_Init(&a,&b);MPI_Comm_rank(MPI_COMM_WORLD,&r);MPI_Comm_size(MPI_COMM_WORLD,&r);MPI_Finalize();}
start_and_end : whole ((item.Function (heading (specifier.Plain 0 plain.Int) 0 (named 4 (codes "main")) ((parameter (specifier.Plain 9 plain.Int) 0 (Some (named 13 (codes "a"))) None) ∷ (parameter (specifier.Plain 15 plain.Char) 2 (Some (named 22 (codes "b"))) None) ∷ [])) (block 24 ((block_item.Declaration (declaration (specifier.Plain 25 plain.Int) ((variable 0 (named 29 (codes "r")) [] None) ∷ []))) ∷ (block_item.Statement (called (mpi.Init 31 (Some (named 41 (codes "a"), named 44 (codes "b")))))) ∷ (block_item.Statement (called (mpi.CommRank 47 (prefix 76 operator.And (name (named 77 (codes "r"))))))) ∷ (block_item.Statement (called (mpi.CommSize 80 (prefix 109 operator.And (name (named 110 (codes "r"))))))) ∷ (block_item.Statement (called (mpi.Finalize 113))) ∷ []))) ∷ []) 129 ≡ accepted (program_of [] (single int ∷ []) (zero 0 ∷ typed.Mpi (record { function = function.Init; names = codes "a" ∷ codes "b" ∷ []; arguments = [] }) ∷ mpi_call function.CommRank (term.Address (within 0 []) ∷ []) ∷ mpi_call function.CommSize (term.Address (within 0 []) ∷ []) ∷ mpi_call function.Finalize [] ∷ []))
unfolding EachRule
start_and_end = simp judging refl

-- int main(void){int n,x[4];MPI_Status s;MPI_Recv(&x[1],3,MPI_INT,MPI_ANY_SOURCE,MPI_ANY_TAG,MPI_COMM_WORLD,&s);MPI_Get_count(&s,MPI_INT,&n);}
received : whole ((main_at 0 ((block_item.Declaration (declaration (specifier.Plain 15 plain.Int) ((variable 0 (named 19 (codes "n")) [] None) ∷ (variable 0 (named 21 (codes "x")) ((figure 23 4 false) ∷ []) None) ∷ []))) ∷ (block_item.Declaration (declaration (specifier.Plain 26 plain.Status) ((variable 0 (named 37 (codes "s")) [] None) ∷ []))) ∷ (block_item.Statement (called (mpi.Recv 39 (buffer (prefix 48 operator.And (path (primary.Name (named 49 (codes "x"))) (suffix.Index 50 (number (figure 51 1 false)) ∷ []))) (number (figure 54 3 false)) (datatype 56 types.Ints)) (word 64 constant.AnySource) (word 79 constant.AnyTag) (status.Given (prefix 106 operator.And (name (named 107 (codes "s")))))))) ∷ (block_item.Statement (called (mpi.GetCount 110 (status.Given (prefix 124 operator.And (name (named 125 (codes "s"))))) (datatype 127 types.Ints) (prefix 135 operator.And (name (named 136 (codes "n"))))))) ∷ [])) ∷ []) 140 ≡ accepted (program_of [] (single int ∷ object int (4 ∷ []) 4 ∷ object (structure 0) [] 4 ∷ []) (typed.Actions (action.Zero 0 ∷ action.Zero 1 ∷ []) ∷ zero 2 ∷ mpi_call (function.Recv datatype_kind.Int) (term.Address (within 1 (selection.Element (term.Number (pos 1) integer.Int) 1 ∷ [])) ∷ term.Number (pos 3) integer.Int ∷ term.Number (negsuc 0) integer.Int ∷ term.Number (negsuc 0) integer.Int ∷ term.Address (within 2 []) ∷ []) ∷ mpi_call (function.GetCount datatype_kind.Int) (term.Address (within 2 []) ∷ term.Address (within 0 []) ∷ []) ∷ []))
unfolding EachRule
received = simp judging refl

-- ---- a call that is a part

-- int f(void);int main(void){int x;x=f()+1;return 0;}
undefined_part : broken ((item.Prototype (heading (specifier.Plain 0 plain.Int) 0 (named 4 (codes "f")) ((parameter (specifier.Plain 6 plain.Void) 0 None None) ∷ []))) ∷ (main_at 12 ((block_item.Declaration (declaration (specifier.Plain 27 plain.Int) ((variable 0 (named 31 (codes "x")) [] None) ∷ []))) ∷ (block_item.Statement (simple (simple_form.Assign (name (named 33 (codes "x"))) 34 None (chain (call (named 35 (codes "f")) []) ((link operator.Plus (number (figure 39 1 false))) ∷ []))))) ∷ (block_item.Statement (return 41 (Some (number (figure 48 0 false))))) ∷ [])) ∷ []) 51 ≡ fault kind.Undefined 35 ∷ fault kind.CallPlace 35 ∷ []
unfolding EachRule
undefined_part = simp judging refl

-- int f(int a){return a;}int main(void){int*p;int x;x=f(p)+1;return 0;}
mistyped_part : broken ((item.Function (heading (specifier.Plain 0 plain.Int) 0 (named 4 (codes "f")) ((parameter (specifier.Plain 6 plain.Int) 0 (Some (named 10 (codes "a"))) None) ∷ [])) (block 12 ((block_item.Statement (return 13 (Some (name (named 20 (codes "a")))))) ∷ []))) ∷ (main_at 23 ((block_item.Declaration (declaration (specifier.Plain 38 plain.Int) ((variable 1 (named 42 (codes "p")) [] None) ∷ []))) ∷ (block_item.Declaration (declaration (specifier.Plain 44 plain.Int) ((variable 0 (named 48 (codes "x")) [] None) ∷ []))) ∷ (block_item.Statement (simple (simple_form.Assign (name (named 50 (codes "x"))) 51 None (chain (call (named 52 (codes "f")) ((name (named 54 (codes "p"))) ∷ [])) ((link operator.Plus (number (figure 57 1 false))) ∷ []))))) ∷ (block_item.Statement (return 59 (Some (number (figure 66 0 false))))) ∷ [])) ∷ []) 69 ≡ fault kind.TypeMismatch 54 ∷ fault kind.CallPlace 52 ∷ []
unfolding EachRule
mistyped_part = simp judging refl

-- int f(int a){return a;}int main(void){int x;x=f(zq)+1;return 0;}
broken_part : broken ((item.Function (heading (specifier.Plain 0 plain.Int) 0 (named 4 (codes "f")) ((parameter (specifier.Plain 6 plain.Int) 0 (Some (named 10 (codes "a"))) None) ∷ [])) (block 12 ((block_item.Statement (return 13 (Some (name (named 20 (codes "a")))))) ∷ []))) ∷ (main_at 23 ((block_item.Declaration (declaration (specifier.Plain 38 plain.Int) ((variable 0 (named 42 (codes "x")) [] None) ∷ []))) ∷ (block_item.Statement (simple (simple_form.Assign (name (named 44 (codes "x"))) 45 None (chain (call (named 46 (codes "f")) ((name (named 48 (codes "zq"))) ∷ [])) ((link operator.Plus (number (figure 52 1 false))) ∷ []))))) ∷ (block_item.Statement (return 54 (Some (number (figure 61 0 false))))) ∷ [])) ∷ []) 64 ≡ fault kind.UnknownName 48 ∷ []
unfolding EachRule
broken_part = simp judging refl

-- ---- a cast before a malloc

-- int main(void){int x;x=(int*)malloc(4);return 0;}
cast_to_a_pointer : broken ((main_at 0 ((block_item.Declaration (declaration (specifier.Plain 15 plain.Int) ((variable 0 (named 19 (codes "x")) [] None) ∷ []))) ∷ (block_item.Statement (simple (simple_form.Assign (name (named 21 (codes "x"))) 22 None (cast 23 (specifier.Plain 24 plain.Int) 1 (allocated 29 (number (figure 36 4 false))))))) ∷ (block_item.Statement (return 39 (Some (number (figure 46 0 false))))) ∷ [])) ∷ []) 49 ≡ fault kind.MallocPlace 29 ∷ fault kind.TypeMismatch 23 ∷ []
unfolding EachRule
cast_to_a_pointer = simp judging refl

-- int main(void){int x;x=(int)malloc(4);return 0;}
cast_to_the_number : broken ((main_at 0 ((block_item.Declaration (declaration (specifier.Plain 15 plain.Int) ((variable 0 (named 19 (codes "x")) [] None) ∷ []))) ∷ (block_item.Statement (simple (simple_form.Assign (name (named 21 (codes "x"))) 22 None (cast 23 (specifier.Plain 24 plain.Int) 0 (allocated 28 (number (figure 35 4 false))))))) ∷ (block_item.Statement (return 38 (Some (number (figure 45 0 false))))) ∷ [])) ∷ []) 48 ≡ fault kind.MallocPlace 28 ∷ []
unfolding EachRule
cast_to_the_number = simp judging refl

-- ---- a header that breaks a rule

-- int main(void){int x;f(x);return 0;}int f(struct u *p){return 0;}
header_behind : broken ((main_at 0 ((block_item.Declaration (declaration (specifier.Plain 15 plain.Int) ((variable 0 (named 19 (codes "x")) [] None) ∷ []))) ∷ (block_item.Statement (simple (simple_form.Expression (call (named 21 (codes "f")) ((name (named 23 (codes "x"))) ∷ []))))) ∷ (block_item.Statement (return 26 (Some (number (figure 33 0 false))))) ∷ [])) ∷ (item.Function (heading (specifier.Plain 36 plain.Int) 0 (named 40 (codes "f")) ((parameter (specifier.Struct 42 (named 49 (codes "u"))) 1 (Some (named 52 (codes "p"))) None) ∷ [])) (block 54 ((block_item.Statement (return 55 (Some (number (figure 62 0 false))))) ∷ []))) ∷ []) 65 ≡ fault kind.UnknownName 49 ∷ []
unfolding EachRule
header_behind = simp judging refl

-- int main(void){int*p;p=f();return 0;}int f(struct u *p);
undefined_header_behind : broken ((main_at 0 ((block_item.Declaration (declaration (specifier.Plain 15 plain.Int) ((variable 1 (named 19 (codes "p")) [] None) ∷ []))) ∷ (block_item.Statement (simple (simple_form.Assign (name (named 21 (codes "p"))) 22 None (call (named 23 (codes "f")) [])))) ∷ (block_item.Statement (return 27 (Some (number (figure 34 0 false))))) ∷ [])) ∷ (item.Prototype (heading (specifier.Plain 37 plain.Int) 0 (named 41 (codes "f")) ((parameter (specifier.Struct 43 (named 50 (codes "u"))) 1 (Some (named 53 (codes "p"))) None) ∷ []))) ∷ []) 56 ≡ fault kind.Undefined 23 ∷ fault kind.UnknownName 50 ∷ []
unfolding EachRule
undefined_header_behind = simp judging refl
