-- What can go on with each part, and the rank of each, which Tables checks against the rules.
use Rattle.std.specs.Prelude.{ℕ, zero, suc, List, [], ◌∷◌, ◌++◌}
use Rattle.c_tree.specs.declared.token.Class.{Class}
use Rattle.c_tree.specs.declared.token.Class.TheVariants as class
use Rattle.c_tree.specs.declared.token.Operator.TheVariants as operator
use Rattle.c_grammar.specs.Grammar.{Part, Program, Item, Function, Parameters, Parameter, TypeSpecifier, StructBody, MemberDeclaration, MemberDeclarator, Declaration, InitDeclarator, Block, BlockItem, Statement, PlainStatement, IfStatement, ElsePart, WhileStatement, DoStatement, ForStatement, ReturnStatement, PrintStatement, FreeStatement, Mark, SimpleStatement, MpiCall, InitCall, FinalizeCall, BarrierCall, CommunicatorCall, SendCall, RecvCall, GetCountCall, BcastCall, ReduceCall, AllreduceCall, GatherScatterCall, AllgatherCall, Buffer, Status, Expression, Unary, Arguments, Suffix, Binary, operators, headers}

abbrev more_unary : List Class
more_unary = class.LeftParen ∷ class.LeftBracket ∷ class.Dot ∷ class.Arrow ∷ []

abbrev end_unary : List Class
end_unary = class.LeftBracket ∷ class.Dot ∷ class.Arrow ∷ []

abbrev more_grade : ℕ → List Class
more_grade zero = operators zero ++ more_unary
more_grade (suc g) = operators (suc g) ++ more_grade g

abbrev end_grade : ℕ → List Class
end_grade zero = operators zero ++ end_unary
end_grade (suc g) = operators (suc g) ++ end_grade g

-- the classes of the tokens that could go on with what the part spells
abbrev pub more_part : Part → List Class
more_part Program = headers ++ (class.Struct ∷ class.Char ∷ class.Int ∷ class.Long ∷ class.Void ∷ class.StatusType ∷ [])
more_part Item = []
more_part Function = []
more_part Parameters = []
more_part Parameter = class.Name ∷ class.Int ∷ class.LeftBracket ∷ class.Sign operator.Star ∷ []
more_part TypeSpecifier = class.Int ∷ []
more_part StructBody = []
more_part MemberDeclaration = []
more_part MemberDeclarator = class.LeftBracket ∷ []
more_part Declaration = more_grade 9 ++ (class.Comma ∷ class.Question ∷ class.Equal ∷ [])
more_part InitDeclarator = more_grade 9 ++ (class.Question ∷ class.Equal ∷ [])
more_part Block = []
more_part BlockItem = class.Else ∷ []
more_part Statement = class.Else ∷ []
more_part PlainStatement = class.Else ∷ []
more_part IfStatement = class.Else ∷ []
more_part ElsePart = class.Else ∷ []
more_part WhileStatement = class.Else ∷ []
more_part DoStatement = []
more_part ForStatement = class.Else ∷ []
more_part ReturnStatement = []
more_part PrintStatement = []
more_part FreeStatement = []
more_part Mark = []
more_part SimpleStatement = more_grade 9 ++ (class.Question ∷ class.Equal ∷ class.PlusPlus ∷ class.MinusMinus ∷ class.Compound operator.Star ∷ class.Compound operator.Slash ∷ class.Compound operator.Percent ∷ class.Compound operator.Plus ∷ class.Compound operator.Minus ∷ class.Compound operator.ShiftLeft ∷ class.Compound operator.ShiftRight ∷ class.Compound operator.And ∷ class.Compound operator.Caret ∷ class.Compound operator.Or ∷ [])
more_part MpiCall = []
more_part InitCall = []
more_part FinalizeCall = []
more_part BarrierCall = []
more_part CommunicatorCall = []
more_part SendCall = []
more_part RecvCall = []
more_part GetCountCall = []
more_part BcastCall = []
more_part ReduceCall = []
more_part AllreduceCall = []
more_part GatherScatterCall = []
more_part AllgatherCall = []
more_part Buffer = []
more_part Status = more_grade 9 ++ (class.Question ∷ [])
more_part Expression = more_grade 9 ++ (class.Question ∷ [])
more_part Unary = more_unary
more_part Arguments = []
more_part Suffix = []
more_part (Binary g) = more_grade g

-- the same, where what goes on is a repetition at its end
abbrev pub end_part : Part → List Class
end_part Program = headers ++ (class.Struct ∷ class.Char ∷ class.Int ∷ class.Long ∷ class.Void ∷ class.StatusType ∷ [])
end_part Item = []
end_part Function = []
end_part Parameters = []
end_part Parameter = class.Sign operator.Star ∷ []
end_part TypeSpecifier = []
end_part StructBody = []
end_part MemberDeclaration = []
end_part MemberDeclarator = class.LeftBracket ∷ []
end_part Declaration = end_grade 9 ++ (class.Comma ∷ [])
end_part InitDeclarator = end_grade 9
end_part Block = []
end_part BlockItem = []
end_part Statement = []
end_part PlainStatement = []
end_part IfStatement = []
end_part ElsePart = []
end_part WhileStatement = []
end_part DoStatement = []
end_part ForStatement = []
end_part ReturnStatement = []
end_part PrintStatement = []
end_part FreeStatement = []
end_part Mark = []
end_part SimpleStatement = end_grade 9
end_part MpiCall = []
end_part InitCall = []
end_part FinalizeCall = []
end_part BarrierCall = []
end_part CommunicatorCall = []
end_part SendCall = []
end_part RecvCall = []
end_part GetCountCall = []
end_part BcastCall = []
end_part ReduceCall = []
end_part AllreduceCall = []
end_part GatherScatterCall = []
end_part AllgatherCall = []
end_part Buffer = []
end_part Status = end_grade 9
end_part Expression = end_grade 9
end_part Unary = end_unary
end_part Arguments = []
end_part Suffix = []
end_part (Binary g) = end_grade g

-- the shortest that a part spells has only parts of lower rank
abbrev pub rank : Part → ℕ
rank Program = 0
rank Item = 0
rank Function = 1
rank Parameters = 0
rank Parameter = 1
rank TypeSpecifier = 0
rank StructBody = 2
rank MemberDeclaration = 1
rank MemberDeclarator = 0
rank Declaration = 1
rank InitDeclarator = 0
rank Block = 0
rank BlockItem = 2
rank Statement = 1
rank PlainStatement = 0
rank IfStatement = 12
rank ElsePart = 0
rank WhileStatement = 12
rank DoStatement = 12
rank ForStatement = 2
rank ReturnStatement = 0
rank PrintStatement = 0
rank FreeStatement = 12
rank Mark = 0
rank SimpleStatement = 1
rank MpiCall = 1
rank InitCall = 0
rank FinalizeCall = 0
rank BarrierCall = 0
rank CommunicatorCall = 12
rank SendCall = 13
rank RecvCall = 13
rank GetCountCall = 12
rank BcastCall = 13
rank ReduceCall = 13
rank AllreduceCall = 13
rank GatherScatterCall = 13
rank AllgatherCall = 13
rank Buffer = 12
rank Status = 0
rank Expression = 11
rank Unary = 0
rank Arguments = 0
rank Suffix = 0
rank (Binary g) = suc g
