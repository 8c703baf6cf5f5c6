use Rattle.std.proofs.Common.{arith}
use Rattle.job_network.specs.Networks.{network_of, logs_with, counted}
use Rattle.job_network.proofs.Nets.{layer_there, its_log}
use Rattle.job_network.proofs.Arrivals.{after_stop_on, taken_in, has_room}
use Rattle.job_network.proofs.network.Network.take_in.Goals as goal

pub index_mut-requires : goal.index_mut-requires
index_mut-requires c =
    let stopped = c.in_ok-log.ensures c.requires.0 c.requires.1 c.requires.2 c.requires.3 c.requires.4.receiver in
    omega (arith, c.from.ensures, stopped.1.stands.layers.size, c.requires.4.receiver)

pub arrive-requires-clause-inside : goal.arrive-requires-clause-inside
arrive-requires-clause-inside c =
    let n = c.requires.0 in
    let p = c.requires.1 in
    let logs = c.requires.2 in
    let q = after_stop_on p c.args.to c.args.label in
    let stopped = c.in_ok-log.ensures n p logs c.requires.3 c.requires.4.receiver in
    let was = layer_there n (network_of c.stop_on.new.self) q logs c.from.result c.args.to c.index_mut.result.now c.from.ensures c.index_mut.ensures.value c.requires.4.receiver stopped.1.stands in
    omega (arith, was.ranks, c.requires.4.sender)

pub arrive-requires-clause-room : goal.arrive-requires-clause-room
arrive-requires-clause-room c =
    let n = c.requires.0 in
    let p = c.requires.1 in
    let logs = c.requires.2 in
    let q = after_stop_on p c.args.to c.args.label in
    let stopped = c.in_ok-log.ensures n p logs c.requires.3 c.requires.4.receiver in
    let was = layer_there n (network_of c.stop_on.new.self) q logs c.from.result c.args.to c.index_mut.result.now c.from.ensures c.index_mut.ensures.value c.requires.4.receiver stopped.1.stands in
    has_room n c.args.from c.args.to p c.args.label c.index_mut.result.now (its_log q logs c.args.to) c.requires.4 was

pub ready-requires : goal.ready-requires
ready-requires c =
    let n = c.requires.0 in
    let p = c.requires.1 in
    let logs = c.requires.2 in
    let b = c.requires.4.receiver in
    let q = after_stop_on p c.args.to c.args.label in
    let stopped = c.in_ok-log.ensures n p logs c.requires.3 b in
    let was = layer_there n (network_of c.stop_on.new.self) q logs c.from.result c.args.to c.index_mut.result.now c.from.ensures c.index_mut.ensures.value b stopped.1.stands in
    let now = c.in_ok-arrive.ensures.ok n c.args.to (q.layer c.args.to) (its_log q logs c.args.to) was in (
      n,
      counted q c.args.from c.args.to c.args.label.epoch,
      logs_with p logs c.args.from c.args.to c.args.label c.args.message.now,
      record { ranks = stopped.1.ranks; stands = taken_in n (network_of c.stop_on.new.self) p logs c.from.result c.args.from c.args.to c.args.label c.args.message.now c.arrive.new.self c.from.ensures b now.1 stopped.1.stands },
      b,
    )

pub returns : goal.returns
returns c n p logs h a b =
    let q = after_stop_on p c.args.to c.args.label in
    let stopped = c.in_ok-log.ensures n p logs h b in
    let was = layer_there n (network_of c.stop_on.new.self) q logs c.from.result c.args.to c.index_mut.result.now c.from.ensures c.index_mut.ensures.value b stopped.1.stands in
    let now = c.in_ok-arrive.ensures.ok n c.args.to (q.layer c.args.to) (its_log q logs c.args.to) was in (
      stopped.0,
      c.in_ok-ready.ensures n (counted q c.args.from c.args.to c.args.label.epoch) (logs_with p logs c.args.from c.args.to c.args.label c.args.message.now)
          (record { ranks = stopped.1.ranks; stands = taken_in n (network_of c.stop_on.new.self) p logs c.from.result c.args.from c.args.to c.args.label c.args.message.now c.arrive.new.self c.from.ensures b now.1 stopped.1.stands }) b,
    )
