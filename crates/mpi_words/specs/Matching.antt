-- Which messages a receive takes.
use Rattle.std.specs.Prelude.{ℕ, ℤ, Bool, true, ◌&&◌, ◌==◌, Option, Some, None}
use Rattle.std.specs.Ordering.{int_eq}
use Rattle.mpi_words.specs.declared.message.Message.{Message}
use Rattle.mpi_words.specs.declared.pattern.Pattern.{Pattern}

-- a named source or any
abbrev pub allows_source : Option ℕ → ℕ → Bool
allows_source None source = true
allows_source (Some named) source = named == source

-- a named tag or any
abbrev pub allows_tag : Option ℤ → ℤ → Bool
allows_tag None tag = true
allows_tag (Some named) tag = int_eq named tag

-- a message from a source that is allowed, in the same context, with a tag that is allowed
abbrev pub matches : Pattern → ℕ → Message → Bool
matches p source m = allows_source p.source source && p.context == m.context && allows_tag p.tag m.tag
