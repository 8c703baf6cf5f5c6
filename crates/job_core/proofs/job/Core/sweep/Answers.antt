use Rattle.std.proofs.Common.{[], length, sym, refl}
use Rattle.core_laws.specs.Pausing.{stepping}
use Rattle.job_network.specs.Members.{stepping_of}
use Rattle.job_core.proofs.Sweeps.{counted, still_now, still_then, swept_both}
use Rattle.job_core.proofs.job.Core.sweep.Goals as goal

pub lengths-requires : goal.lengths-requires
lengths-requires g c = let h = c.requires.stands.3 in (c.requires.stands.2.protocol.control, rw h.ranks h.holds.network.controls)

pub lengths-requires-2 : goal.lengths-requires-2
lengths-requires-2 g c = let h = c.requires.stands.3 in (c.requires.stands.2.protocol.channel, rw h.ranks h.holds.network.channels)

pub pairs-requires-clause-counts : goal.pairs-requires-clause-counts
pairs-requires-clause-counts g c =
    let m = c.requires.stands.2 in
    let h = c.requires.stands.3 in
    (λ s r. length (m.protocol.control s r), counted c.args.self.now.network.ranks c.requires.stands.0 c.args.self.now.network.ranks c.args.self.now.network.controls m.protocol.control c.in_ok-controls.controls c.as_slice.result.now h.ranks refl (c.as_slice.ensures) h.holds.network.controls (c.in_ok-controls.ensures m.protocol.control))

pub pairs-requires-2-clause-counts : goal.pairs-requires-2-clause-counts
pairs-requires-2-clause-counts g c =
    let m = c.requires.stands.2 in
    let h = c.requires.stands.3 in
    (λ s r. length (m.protocol.channel s r), counted c.args.self.now.network.ranks c.requires.stands.0 c.pairs.new.self.network.ranks c.args.self.now.network.channels m.protocol.channel c.in_ok-messages.messages c.as_slice-2.result.now h.ranks c.in_ok-pairs.ensures.ranks (c.as_slice-2.ensures) h.holds.network.channels (c.in_ok-messages.ensures m.protocol.channel))

pub returns-clause-comes : goal.returns-clause-comes
returns-clause-comes g c begin n first m kept h = swept_both g.P.Process.ended g.P.Process.bytes g.P.Process.among g.P.Process.saved (stepping (stepping_of begin g.P.Process.turned g.P.Process.answered g.P.Process.again)) n first m c.args.self.now c.pairs.new.self c.pairs-2.new.self c.new-effects.result c.pairs.new.effects c.pairs-2.new.effects c.new-effects.ensures h
    (λ was. c.in_ok-pairs.ensures.comes begin n first m [] (λ s r. length (m.protocol.control s r)) kept (counted c.args.self.now.network.ranks n n c.args.self.now.network.controls m.protocol.control c.in_ok-controls.controls c.as_slice.result.now h.ranks (sym h.ranks) (c.as_slice.ensures) h.holds.network.controls (c.in_ok-controls.ensures m.protocol.control)) was)
    (λ es was. c.in_ok-pairs-2.ensures.comes begin n first m es (λ s r. length (m.protocol.channel s r)) kept (counted c.args.self.now.network.ranks n n c.args.self.now.network.channels m.protocol.channel c.in_ok-messages.messages c.as_slice-2.result.now h.ranks (sym h.ranks) (c.as_slice-2.ensures) h.holds.network.channels (c.in_ok-messages.ensures m.protocol.channel)) was)

pub pairs-requires-2-clause-stands : goal.pairs-requires-2-clause-stands
pairs-requires-2-clause-stands g c = still_now g.P.Process.ended g.P.Process.bytes g.P.Process.among g.P.Process.serial g.P.Process.turned g.P.Process.answered g.P.Process.again c.args.self.now c.pairs.new.self (record { stands = c.in_ok-pairs.ensures.stands; events = c.in_ok-pairs.ensures.events; ranks = c.in_ok-pairs.ensures.ranks })

pub returns-clause-stands : goal.returns-clause-stands
returns-clause-stands g c = (still_then g.P.Process.ended g.P.Process.bytes g.P.Process.among g.P.Process.serial g.P.Process.turned g.P.Process.answered g.P.Process.again c.args.self.now c.pairs.new.self c.pairs-2.new.self (record { stands = c.in_ok-pairs.ensures.stands; events = c.in_ok-pairs.ensures.events; ranks = c.in_ok-pairs.ensures.ranks }) c.in_ok-pairs-2.ensures.stands c.in_ok-pairs-2.ensures.events c.in_ok-pairs-2.ensures.ranks).stands
