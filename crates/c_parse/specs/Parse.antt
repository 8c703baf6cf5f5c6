-- What a parser's answer says of the text.
use Rattle.std.specs.Prelude.{Option, Some, None, Result, Ok, Err}
use Rattle.c_tree.specs.declared.tree.Tree.{Tree}
use Rattle.c_tree.specs.declared.kind.Kind.TheVariants as kind
use Rattle.c_grammar.specs.Text.{Parsed, Whole, Refused, text_limit}
use Rattle.c_parse.specs.declared.fault.ParseFault.{ParseFault}
use Rattle.c_parse.specs.declared.fault.ParseFault.TheVariants as fault

-- nothing, where memory ran out
abbrev pub said : Result Tree ParseFault → Option Parsed
said (Ok tree) = Some (Whole tree)
said (Err fault.TextLimit) = Some (Refused kind.TextLimit text_limit)
said (Err (fault.Syntax at)) = Some (Refused kind.Syntax at)
said (Err (fault.TooDeep at)) = Some (Refused kind.TooDeep at)
said (Err (fault.NumberRange at)) = Some (Refused kind.NumberRange at)
said (Err fault.NoMemory) = None
