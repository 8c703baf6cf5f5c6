-- What can begin a statement.
use Rattle.std.specs.Prelude.{List, [], ◌∷◌}
use Rattle.c_tree.specs.declared.token.Class.{Class}
use Rattle.c_tree.specs.declared.token.Class.TheVariants as class
use Rattle.c_grammar.specs.Grammar.{MpiCall}
use Rattle.c_grammar.specs.Meaning.{begins}

-- the first tokens of the statements that hold others, but for if
abbrev pub holders : List Class
holders = class.LeftBrace ∷ class.While ∷ class.Do ∷ class.For ∷ []

-- the first tokens of the statements that hold none, but for simple ones
abbrev pub leaves : List Class
leaves = class.Semicolon ∷ class.Break ∷ class.Continue ∷ class.Return ∷ class.Printf ∷ class.Free ∷ class.Checkpoint ∷ class.PotentialCheckpoint ∷ begins MpiCall
