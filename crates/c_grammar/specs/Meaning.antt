-- What a grammar's rules mean: which tokens they spell, at which levels, with which parse tree.
use Rattle.std.specs.Prelude.{ℕ, suc, ◌≡◌, Option, Some, None, nat_lt, List, [], ◌∷◌, ◌++◌, Bool, true, false, ◌||◌, ◌&&◌, nat_eq}
use Rattle.c_tree.specs.declared.token.Class.{Class}
use Rattle.c_tree.specs.declared.token.Class.TheVariants as class
use Rattle.c_tree.specs.declared.token.Operator.TheVariants as operator
use Rattle.c_tree.specs.declared.token.Call.TheVariants as call
use Rattle.c_tree.specs.declared.token.Token.{Token}
use Rattle.c_tree.specs.declared.token.Value.{Value}
use Rattle.c_tree.specs.declared.token.Value.TheVariants as value
use Rattle.c_tree.specs.Codes.{code}
use Rattle.c_grammar.specs.Grammar.{Part, Program, Item, Function, Parameters, Parameter, TypeSpecifier, StructBody, MemberDeclaration, MemberDeclarator, Declaration, InitDeclarator, Block, BlockItem, Statement, PlainStatement, IfStatement, ElsePart, WhileStatement, DoStatement, ForStatement, ReturnStatement, PrintStatement, FreeStatement, Mark, SimpleStatement, MpiCall, InitCall, FinalizeCall, BarrierCall, CommunicatorCall, SendCall, RecvCall, GetCountCall, BcastCall, ReduceCall, AllreduceCall, GatherScatterCall, AllgatherCall, Buffer, Status, Expression, Unary, Arguments, Suffix, Binary, Keep, Nothing, Kind, Place, All, Rule, Word, Ref, Then, Either, Many, Maybe, Deeper, rule, headers}

-- A parse tree's nodes in a row.
pub data Forest : Type 0 where
  none : Forest
  leaf : (class : Class) (value : Value) (place : ℕ) (rest : Forest) → Forest
  node : (part : Part) (kids rest : Forest) → Forest

-- one row after the other
infixr 6 ◌+++◌
abbrev pub ◌+++◌ : Forest → Forest → Forest
none +++ g = g
(leaf c v p rest) +++ g = leaf c v p (rest +++ g)
(node p kids rest) +++ g = node p kids (rest +++ g)

-- the bytes of a value, none where it has none
abbrev pub bytes_of : Value → List ℕ
bytes_of (value.Bytes bs) = bs
bytes_of _ = []

-- the number of a value, 0 where it has none
abbrev pub number_of : Value → ℕ
number_of (value.Number n) = n
number_of _ = 0

-- what a token of the class has for a value; those of a text have no other
abbrev pub fitting : Class → Value → Value
fitting class.Name v = value.Bytes (bytes_of v)
fitting class.Text v = value.Bytes (bytes_of v)
fitting class.Number v = value.Number (number_of v)
fitting class.LongNumber v = value.Number (number_of v)
fitting class.Character v = value.Number (number_of v)
fitting _ v = value.Nothing

-- what of a token stands in the tree
abbrev pub kept : Keep → Token → Forest
kept Nothing t = none
kept Kind t = leaf t.class value.Nothing 0 none
kept Place t = leaf t.class value.Nothing t.place none
kept All t = leaf t.class (fitting t.class t.value) t.place none

-- a class of this code is among them
abbrev pub has : List Class → ℕ → Bool
has [] n = false
has (c ∷ cs) n = nat_eq n (code c) || has cs n

-- the next token is of one of these classes
abbrev pub next_in : List Class → List Token → Bool
next_in cs [] = false
next_in cs (t ∷ ts) = has cs (code t.class)

-- what can begin an operand
abbrev operand_first : List Class
operand_first = class.Name ∷ class.Number ∷ class.LongNumber ∷ class.HugeNumber ∷ class.Character ∷ class.SizeOf ∷ class.Null ∷ class.Malloc ∷ class.AnySource ∷ class.AnyTag ∷ class.ProcNull ∷ class.LeftParen ∷ class.Sign operator.Star ∷ class.Sign operator.Plus ∷ class.Sign operator.Minus ∷ class.Sign operator.And ∷ class.Sign operator.Not ∷ class.Sign operator.Tilde ∷ []

-- what can begin a type
abbrev type_first : List Class
type_first = class.Struct ∷ class.Char ∷ class.Int ∷ class.Long ∷ class.Void ∷ class.StatusType ∷ []

-- what can begin a call of MPI
abbrev mpi_first : List Class
mpi_first = class.Mpi call.Init ∷ class.Mpi call.Finalize ∷ class.Mpi call.CommRank ∷ class.Mpi call.CommSize ∷ class.Mpi call.Send ∷ class.Mpi call.Recv ∷ class.Mpi call.GetCount ∷ class.Mpi call.Barrier ∷ class.Mpi call.Bcast ∷ class.Mpi call.Reduce ∷ class.Mpi call.Allreduce ∷ class.Mpi call.Gather ∷ class.Mpi call.Scatter ∷ class.Mpi call.Allgather ∷ []

-- what can begin a statement that is no if
abbrev plain_first : List Class
plain_first = operand_first ++ mpi_first ++ (class.Checkpoint ∷ class.While ∷ class.Do ∷ class.For ∷ class.Return ∷ class.Break ∷ class.Continue ∷ class.Free ∷ class.Printf ∷ class.PotentialCheckpoint ∷ class.LeftBrace ∷ class.Semicolon ∷ class.PlusPlus ∷ class.MinusMinus ∷ [])

-- the classes of the tokens that can begin the part
abbrev pub begins : Part → List Class
begins Program = type_first ++ headers
begins Item = type_first ++ headers
begins Function = class.Name ∷ class.Sign operator.Star ∷ []
begins Parameters = class.LeftParen ∷ []
begins Parameter = type_first
begins TypeSpecifier = type_first
begins StructBody = class.LeftBrace ∷ []
begins MemberDeclaration = type_first
begins MemberDeclarator = class.Name ∷ class.SourceField ∷ class.TagField ∷ class.Sign operator.Star ∷ []
begins Declaration = type_first
begins InitDeclarator = class.Name ∷ class.Sign operator.Star ∷ []
begins Block = class.LeftBrace ∷ []
begins BlockItem = type_first ++ plain_first ++ (class.If ∷ [])
begins Statement = plain_first ++ (class.If ∷ [])
begins PlainStatement = plain_first
begins IfStatement = class.If ∷ []
begins ElsePart = class.Else ∷ []
begins WhileStatement = class.While ∷ []
begins DoStatement = class.Do ∷ []
begins ForStatement = class.For ∷ []
begins ReturnStatement = class.Return ∷ []
begins PrintStatement = class.Printf ∷ []
begins FreeStatement = class.Free ∷ []
begins Mark = class.Checkpoint ∷ class.PotentialCheckpoint ∷ []
begins SimpleStatement = operand_first ++ (class.PlusPlus ∷ class.MinusMinus ∷ [])
begins MpiCall = mpi_first
begins InitCall = class.Mpi call.Init ∷ []
begins FinalizeCall = class.Mpi call.Finalize ∷ []
begins BarrierCall = class.Mpi call.Barrier ∷ []
begins CommunicatorCall = class.Mpi call.CommRank ∷ class.Mpi call.CommSize ∷ []
begins SendCall = class.Mpi call.Send ∷ []
begins RecvCall = class.Mpi call.Recv ∷ []
begins GetCountCall = class.Mpi call.GetCount ∷ []
begins BcastCall = class.Mpi call.Bcast ∷ []
begins ReduceCall = class.Mpi call.Reduce ∷ []
begins AllreduceCall = class.Mpi call.Allreduce ∷ []
begins GatherScatterCall = class.Mpi call.Gather ∷ class.Mpi call.Scatter ∷ []
begins AllgatherCall = class.Mpi call.Allgather ∷ []
begins Buffer = operand_first
begins Status = operand_first ++ (class.StatusIgnore ∷ [])
begins Expression = operand_first
begins Unary = operand_first
begins Arguments = class.LeftParen ∷ []
begins Suffix = class.LeftBracket ∷ class.Dot ∷ class.Arrow ∷ []
begins (Binary (suc (suc (suc (suc (suc (suc (suc (suc (suc (suc g))))))))))) = class.Broken ∷ []
begins (Binary g) = operand_first

-- the part may spell nothing
abbrev pub nullable_part : Part → Bool
nullable_part Program = true
nullable_part ElsePart = true
nullable_part _ = false

-- the rule may spell nothing
abbrev pub nullable : Rule → Bool
nullable (Word k cs) = false
nullable (Ref p) = nullable_part p
nullable (Then a b) = nullable a && nullable b
nullable (Either a b) = nullable a || nullable b
nullable (Many r) = true
nullable (Maybe r) = true
nullable (Deeper r) = nullable r

-- the next token can begin what the rule spells
abbrev pub starts : Rule → List Token → Bool
starts (Word k cs) ts = next_in cs ts
starts (Ref p) ts = next_in (begins p) ts
starts (Then a b) ts = (nullable a && starts b ts) || starts a ts
starts (Either a b) ts = starts a ts || starts b ts
starts (Many r) ts = starts r ts
starts (Maybe r) ts = starts r ts
starts (Deeper r) ts = starts r ts

-- a token with the level at which it stands
pub record Spelled : Type 0 where
  pub token : Token
  pub level : ℕ

-- without the levels
abbrev pub tokens : List Spelled → List Token
tokens [] = []
tokens (s ∷ ss) = s.token ∷ tokens ss

-- Derives l r f ss rest: at level l the rule r spells the tokens ss, with the parse tree f, before the tokens
-- rest. An alternative, a repetition and an option are taken where the next token can begin them, and where
-- it can't they are not, so an else belongs to the nearest if.
pub data Derives : ℕ → Rule → Forest → List Spelled → List Token → Type 0 where
  d_word : (l : ℕ) (k : Keep) (cs : List Class) (t : Token) (rest : List Token) → has cs (code t.class) ≡ true → Derives l (Word k cs) (kept k t) (record { token = t; level = l } ∷ []) rest
  d_ref : (l : ℕ) (p : Part) (f : Forest) (ss : List Spelled) (rest : List Token) → Derives l (rule p) f ss rest → Derives l (Ref p) (node p f none) ss rest
  d_then : (l : ℕ) (a b : Rule) (f g : Forest) (ss zs : List Spelled) (rest : List Token) → Derives l a f ss (tokens zs ++ rest) → Derives l b g zs rest → Derives l (Then a b) (f +++ g) (ss ++ zs) rest
  d_left : (l : ℕ) (a b : Rule) (f : Forest) (ss : List Spelled) (rest : List Token) → starts a (tokens ss ++ rest) ≡ true → Derives l a f ss rest → Derives l (Either a b) f ss rest
  d_right : (l : ℕ) (a b : Rule) (f : Forest) (ss : List Spelled) (rest : List Token) → starts a (tokens ss ++ rest) ≡ false → Derives l b f ss rest → Derives l (Either a b) f ss rest
  d_stop : (l : ℕ) (r : Rule) (rest : List Token) → starts r rest ≡ false → Derives l (Many r) none [] rest
  d_go : (l : ℕ) (r : Rule) (f : Forest) (ss : List Spelled) (rest : List Token) → starts r (tokens ss ++ rest) ≡ true → Derives l (Then r (Many r)) f ss rest → Derives l (Many r) f ss rest
  d_no : (l : ℕ) (r : Rule) (rest : List Token) → starts r rest ≡ false → Derives l (Maybe r) none [] rest
  d_yes : (l : ℕ) (r : Rule) (f : Forest) (ss : List Spelled) (rest : List Token) → starts r (tokens ss ++ rest) ≡ true → Derives l r f ss rest → Derives l (Maybe r) f ss rest
  d_deeper : (l : ℕ) (r : Rule) (f : Forest) (ss : List Spelled) (rest : List Token) → Derives (suc l) r f ss rest → Derives l (Deeper r) f ss rest

-- the greatest level
abbrev pub limit : ℕ
limit = 64

-- why a token may not stand where the grammar allows it
pub data Reason : Type 0 where
  TooDeep : Reason
  TooLarge : Reason

-- whether a number is too large
abbrev pub if_large : Bool → Option Reason
if_large true = Some TooLarge
if_large false = None

-- whether a token is too deep, which comes first
abbrev pub if_deep : Bool → Option Reason → Option Reason
if_deep true why = Some TooDeep
if_deep false why = why

-- why a token is refused at a level
abbrev pub refused : ℕ → Token → Option Reason
refused l t = if_deep (nat_lt limit l) (if_large (has (class.HugeNumber ∷ []) (code t.class)))

-- no token is refused
abbrev pub Within : List Spelled → Type 0
Within [] = Unit {0}
Within (s ∷ ss) = (refused s.level s.token ≡ None) × Within ss
