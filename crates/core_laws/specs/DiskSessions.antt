-- Sessions over files: the core with its files, and each new session from what the files have.
use Rattle.std.specs.Prelude.{ℕ, List, [], ◌∷◌, ◌==◌, if◌then◌else◌}
use Rattle.core_laws.specs.Process.{Ranks}
use Rattle.core_laws.specs.Core.{Core}
use Rattle.core_laws.specs.CoreEvents.{Session_event, Core_does, Restart, next_of, start_of, restart_from, nothing_written}
use Rattle.core_laws.specs.Effects.{effects_of}
use Rattle.core_laws.specs.Files.{Files, with_effects, cut_back}

pub record OnDisk (S : Type 0) : Type 0 where
  pub files : Files S
  pub core : Core S

-- no line is committed, and no output written
abbrev pub empty_disk : {S : Type 0} → Ranks S → OnDisk S
empty_disk P = record { files = record { new = nothing_written P; committed = nothing_written P; line = 0; output = λ r. [] }; core = start_of P }

-- the files take an event's effects; a new session knows nothing but the files
abbrev pub disk_next : {S : Type 0} → Ranks S → ℕ → OnDisk S → Session_event → OnDisk S
disk_next P n d (Core_does e) = record { files = with_effects d.files (effects_of P n d.core e); core = next_of P n d.core e }
disk_next P n d Restart = record { files = cut_back d.files; core = if d.files.line == 0 then start_of P else restart_from d.files.line d.files.committed }

abbrev pub disk_sessions : {S : Type 0} → Ranks S → ℕ → OnDisk S → List Session_event → OnDisk S
disk_sessions P n d [] = d
disk_sessions P n d (e ∷ es) = disk_sessions P n (disk_next P n d e) es
