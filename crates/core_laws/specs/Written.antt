-- What a rank writes in a wave: its image, and its log.
use Rattle.std.specs.Prelude.{ℕ, suc, Bool, true, false, List, [], ◌∷◌, ◌++◌, if◌then◌else◌}
use Rattle.late_logs.specs.declared.entry.Entry.{Entry}
use Rattle.late_logs.specs.declared.entry.Entry.TheVariants.{Late as Late_entry, Intra as Intra_entry}
use Rattle.mpi_words.specs.declared.message.Message.{Message}
use Rattle.core_laws.specs.Protocol.{Protocol, Class, Late, Intra, Early, early_more}
use Rattle.core_laws.specs.Process.{Rank, Turned, arrive, is_operation}

-- What a rank has saved: its image with the early counts in it, its log so far, and its operations since. Before its save it goes along with the rank.
pub record Written (S : Type 0) : Type 0 where
  pub image : Rank S
  pub early : ℕ → ℕ
  pub log : List Entry
  pub ops : ℕ

-- after a turn and after an arrival, by whether the rank has stopped, and whether it has saved
abbrev pub written_turn : {S : Type 0} → Bool → Bool → Written S → Turned S → Written S
written_turn true saved w t = w
written_turn false true w t = record w { ops = if is_operation t.did then suc w.ops else w.ops }
written_turn false false w t = record w { image = t.rank }

-- late and intra arrivals are logged
abbrev pub log_more : Class → List Entry → ℕ → Message → List Entry
log_more Late log s m = log ++ Late_entry s m ∷ []
log_more Intra log s m = log ++ Intra_entry s ∷ []
log_more Early log s m = log

abbrev pub written_arrive : {S : Type 0} → Bool → Bool → Class → Written S → ℕ → Message → Written S
written_arrive true saved cl w s m = w
written_arrive false true cl w s m = record w { log = log_more cl w.log s m }
written_arrive false false cl w s m = record w { image = arrive w.image s m; early = early_more cl w.early s }

abbrev pub written_now : {S : Type 0} → (ℕ → Rank S) → Protocol → ℕ → Written S
written_now rank p r = record { image = rank r; early = (p.layer r).early; log = []; ops = 0 }
