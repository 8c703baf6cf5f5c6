-- The example's values.
use Rattle.std.proofs.Common.{◌≡◌, refl, [], ◌∷◌, ◌++◌, true, false}
use Rattle.late_logs.specs.declared.entry.Entry.TheVariants.{Late as Late_entry, Intra as Intra_entry}
use Rattle.core_laws.specs.Rows.{set_at}
use Rattle.core_laws.specs.Process.{ranks, turn}
use Rattle.core_laws.specs.CoreEvents.{Sweep, session, start}
use Rattle.core_laws.specs.Core.{last_line, is_back}
use Rattle.core_laws.proofs.Example.{two, wave_events, restart_events, replay_events, letter, plain_events, all_effects, kinds}

committed : (session two 2 (start two) wave_events).protocol.wave.line ≡ 1
unfolding set_at turn last_line
committed = refl

logged : ((session two 2 (start two) wave_events).saved 1).log ≡ Late_entry 0 (letter 7) ∷ []
unfolding set_at turn last_line
logged = refl

logged_too : ((session two 2 (start two) wave_events).saved 0).log ≡ Intra_entry 1 ∷ []
unfolding set_at turn last_line
logged_too = refl

made : ((session two 2 (start two) wave_events).saved 1).ops ≡ 2
unfolding set_at turn last_line
made = refl

restores : is_back ((session two 2 (start two) restart_events).one 0) ≡ false
unfolding set_at turn last_line
restores = refl

restored : is_back ((session two 2 (start two) replay_events).one 0) ≡ true
unfolding set_at turn last_line
restored = refl

begun : (session two 2 (start two) replay_events).protocol.wave.under_way ≡ true
unfolding set_at turn last_line
begun = refl

not_begun : (session two 2 (start two) restart_events).protocol.wave.under_way ≡ false
unfolding set_at turn last_line
not_begun = refl

-- Save of rank 0, save of rank 1, log of rank 0, log of rank 1, commit of line 1
written : kinds (all_effects (ranks two) 2 (start two) (plain_events ++ Sweep ∷ [])) ≡ (1, 0) ∷ (1, 1) ∷ (2, 0) ∷ (2, 1) ∷ (3, 1) ∷ []
unfolding set_at turn last_line
written = refl

-- after three sweeps the line isn't committed
not_yet : kinds (all_effects (ranks two) 2 (start two) plain_events) ≡ (1, 0) ∷ (1, 1) ∷ (2, 0) ∷ (2, 1) ∷ []
unfolding set_at turn last_line
not_yet = refl
