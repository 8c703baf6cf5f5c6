-- What is written where a text is no program.
use Rattle.std.specs.Prelude.{ℕ, List, ◌++◌, codes}
use Rattle.std.specs.Fmt.{decimal}
use Rattle.c_tree.specs.declared.kind.Kind.{Kind}
use Rattle.c_tree.specs.declared.kind.Kind.TheVariants as kind

abbrev pub name_of : Kind → List ℕ
name_of kind.NotYet = codes "NotYet"
name_of kind.TextLimit = codes "TextLimit"
name_of kind.Syntax = codes "Syntax"
name_of kind.TooDeep = codes "TooDeep"
name_of kind.NumberRange = codes "NumberRange"
name_of kind.UnknownName = codes "UnknownName"
name_of kind.Redeclared = codes "Redeclared"
name_of kind.NoMain = codes "NoMain"
name_of kind.BadMain = codes "BadMain"
name_of kind.NotScalar = codes "NotScalar"
name_of kind.NotInteger = codes "NotInteger"
name_of kind.NotPointer = codes "NotPointer"
name_of kind.NotStruct = codes "NotStruct"
name_of kind.NotPlace = codes "NotPlace"
name_of kind.TypeMismatch = codes "TypeMismatch"
name_of kind.ArgumentCount = codes "ArgumentCount"
name_of kind.CallPlace = codes "CallPlace"
name_of kind.MallocPlace = codes "MallocPlace"
name_of kind.ReturnValue = codes "ReturnValue"
name_of kind.LoopWord = codes "LoopWord"
name_of kind.ArraySize = codes "ArraySize"
name_of kind.IncompleteType = codes "IncompleteType"
name_of kind.PrototypeDiffers = codes "PrototypeDiffers"
name_of kind.Undefined = codes "Undefined"
name_of kind.FormatMismatch = codes "FormatMismatch"
name_of kind.Datatype = codes "Datatype"

-- `refused KIND at A`
abbrev pub refusal : Kind → ℕ → List ℕ
refusal kind at = codes "refused " ++ name_of kind ++ codes " at " ++ decimal at ++ codes "\n"
