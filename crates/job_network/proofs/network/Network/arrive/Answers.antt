use Rattle.std.proofs.Common.{List, ◌≡◌, ◌∷◌, refl, sym, subst}
use Rattle.core_laws.specs.Rows.{set_pair}
use Rattle.core_laws.specs.Protocol.{Packet, Protocol}
use Rattle.core_laws.specs.CoreTies.{Pairs}
use Rattle.job_network.specs.Networks.{IsNet, network_of, logs_with}
use Rattle.core_laws.specs.Handling.{then_ready}
use Rattle.job_network.proofs.Places.{at_some}
use Rattle.job_network.proofs.Arrivals.{channel_put, in_one}
use Rattle.job_network.proofs.network.Network.arrive.Goals as goal

pub returns-in-None : goal.returns-in-None
returns-in-None c n p logs h a b =
    let popped = c.in-None.ensures.none n p.channel h.stands.channels a b in
    (popped.0, record { ranks = h.ranks; stands = channel_put n (network_of c.args.self.now) p logs c.pop.new.self p.channel (subst (λ z. Pairs n z p.channel) (sym popped.1) h.stands.channels) h.stands })

pub take_in-requires : goal.take_in-requires
take_in-requires c =
    let n = c.requires.0 in
    let p = c.requires.1 in
    let logs = c.requires.2 in
    let h = c.requires.3 in
    let room = c.requires.4 in
    let popped = at_some c.pop.result (λ item. (rest : List Packet) × (p.channel c.args.from c.args.to ≡ item ∷ rest) × Pairs n c.pop.new.self (set_pair p.channel c.args.from c.args.to rest)) (c.in-Some.message, c.in-Some.label) c.in-Some.is (c.pop.ensures.some n p.channel h.stands.channels room.sender room.receiver) in (
      n,
      record p { channel = set_pair p.channel c.args.from c.args.to popped.0 },
      logs,
      record { ranks = h.ranks; stands = channel_put n (network_of c.args.self.now) p logs c.pop.new.self (set_pair p.channel c.args.from c.args.to popped.0) popped.2 h.stands },
      record { sender = room.sender; receiver = room.receiver; got = room.got; old = room.old; early = room.early },
    )

pub returns-in_ok-log-in-Some : goal.returns-in_ok-log-in-Some
returns-in_ok-log-in-Some c n p logs h a b =
    let popped = at_some c.pop.result (λ item. (rest : List Packet) × (p.channel c.args.from c.args.to ≡ item ∷ rest) × Pairs n c.pop.new.self (set_pair p.channel c.args.from c.args.to rest)) (c.in-Some.message, c.in-Some.label) c.in-Some.is (c.pop.ensures.some n p.channel h.stands.channels a b) in
    let taken = c.in_ok-log-in-Some.ensures n (record p { channel = set_pair p.channel c.args.from c.args.to popped.0 }) logs
    (record { ranks = h.ranks; stands = channel_put n (network_of c.args.self.now) p logs c.pop.new.self (set_pair p.channel c.args.from c.args.to popped.0) popped.2 h.stands }) a b in
    record {
      packet = (c.in-Some.message, c.in-Some.label);
      rest = popped.0;
      channel = popped.1;
      message = refl;
      log = taken.0;
      net = subst (λ (q : Protocol). IsNet n c.take_in.new.self (then_ready n q c.args.to) (logs_with p logs c.args.from c.args.to c.in-Some.label c.in-Some.message)) (in_one p c.args.from c.args.to (c.in-Some.message, c.in-Some.label) popped.0) taken.1;
    }
