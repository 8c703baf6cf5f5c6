-- The classes of tokens, numbered, so that two are compared by their numbers.
use Rattle.std.specs.Prelude.{ℕ, ◌+◌}
use Rattle.c_tree.specs.declared.token.Class.{Class}
use Rattle.c_tree.specs.declared.token.Class.TheVariants as class
use Rattle.c_tree.specs.declared.token.Header.{Header}
use Rattle.c_tree.specs.declared.token.Header.TheVariants as header
use Rattle.c_tree.specs.declared.token.Operator.{Operator}
use Rattle.c_tree.specs.declared.token.Operator.TheVariants as operator
use Rattle.c_tree.specs.declared.token.Call.{Call}
use Rattle.c_tree.specs.declared.token.Call.TheVariants as call
use Rattle.c_tree.specs.declared.token.Datatype.{Datatype}
use Rattle.c_tree.specs.declared.token.Datatype.TheVariants as datatype
use Rattle.c_tree.specs.declared.token.Reduction.{Reduction}
use Rattle.c_tree.specs.declared.token.Reduction.TheVariants as reduction

abbrev pub header_code : Header → ℕ
header_code header.Mpi = 0
header_code header.Stdio = 1
header_code header.Stdlib = 2

abbrev pub operator_code : Operator → ℕ
operator_code operator.Star = 0
operator_code operator.Slash = 1
operator_code operator.Percent = 2
operator_code operator.Plus = 3
operator_code operator.Minus = 4
operator_code operator.ShiftLeft = 5
operator_code operator.ShiftRight = 6
operator_code operator.Less = 7
operator_code operator.Greater = 8
operator_code operator.LessEqual = 9
operator_code operator.GreaterEqual = 10
operator_code operator.EqualEqual = 11
operator_code operator.NotEqual = 12
operator_code operator.And = 13
operator_code operator.Caret = 14
operator_code operator.Or = 15
operator_code operator.AndAnd = 16
operator_code operator.OrOr = 17
operator_code operator.Not = 18
operator_code operator.Tilde = 19

abbrev pub call_code : Call → ℕ
call_code call.Init = 0
call_code call.Finalize = 1
call_code call.CommRank = 2
call_code call.CommSize = 3
call_code call.Send = 4
call_code call.Recv = 5
call_code call.GetCount = 6
call_code call.Barrier = 7
call_code call.Bcast = 8
call_code call.Reduce = 9
call_code call.Allreduce = 10
call_code call.Gather = 11
call_code call.Scatter = 12
call_code call.Allgather = 13

abbrev pub datatype_code : Datatype → ℕ
datatype_code datatype.Chars = 0
datatype_code datatype.Ints = 1
datatype_code datatype.Longs = 2

abbrev pub reduction_code : Reduction → ℕ
reduction_code reduction.Sum = 0
reduction_code reduction.Product = 1
reduction_code reduction.Greatest = 2
reduction_code reduction.Least = 3

abbrev pub code : Class → ℕ
code class.Name = 0
code class.Number = 1
code class.LongNumber = 2
code class.HugeNumber = 3
code class.Character = 4
code class.Text = 5
code class.Checkpoint = 6
code class.Reserved = 7
code class.Broken = 8
code class.Struct = 9
code class.Char = 10
code class.Int = 11
code class.Long = 12
code class.Void = 13
code class.If = 14
code class.Else = 15
code class.While = 16
code class.Do = 17
code class.For = 18
code class.Return = 19
code class.Break = 20
code class.Continue = 21
code class.SizeOf = 22
code class.Null = 23
code class.Malloc = 24
code class.Free = 25
code class.Printf = 26
code class.PotentialCheckpoint = 27
code class.StatusType = 28
code class.SourceField = 29
code class.TagField = 30
code class.AnySource = 31
code class.AnyTag = 32
code class.ProcNull = 33
code class.StatusIgnore = 34
code class.World = 35
code class.LeftParen = 36
code class.RightParen = 37
code class.LeftBracket = 38
code class.RightBracket = 39
code class.LeftBrace = 40
code class.RightBrace = 41
code class.Semicolon = 42
code class.Comma = 43
code class.Question = 44
code class.Colon = 45
code class.Dot = 46
code class.Arrow = 47
code class.Equal = 48
code class.PlusPlus = 49
code class.MinusMinus = 50
code (class.Include x) = 51 + header_code x
code (class.Mpi x) = 54 + call_code x
code (class.Element x) = 68 + datatype_code x
code (class.Fold x) = 71 + reduction_code x
code (class.Sign x) = 75 + operator_code x
code (class.Compound x) = 95 + operator_code x
