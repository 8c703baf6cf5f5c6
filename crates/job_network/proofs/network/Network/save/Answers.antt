use Rattle.std.proofs.Common.{[], ℕ, suc, length, ap, ◌∙◌}
use Rattle.mpi_words.specs.declared.control.Control.TheVariants.{Count}
use Rattle.core_laws.specs.Rows.{set_at}
use Rattle.core_laws.specs.Protocol.{layer_save}
use Rattle.job_network.specs.Networks.{network_of}
use Rattle.job_network.proofs.Nets.{layer_there, its_log, layer_and_log_put, saves}
use Rattle.job_network.proofs.network.Network.save.Goals as goal

pub tell-requires : goal.tell-requires
tell-requires c =
    let n : ℕ = c.requires.0 in
    let p = c.requires.1 in
    let logs = c.requires.2 in
    let h = c.requires.3 in
    let was = layer_there n (network_of c.args.self.now) p logs c.from.result c.args.rank c.index_mut.result.now c.from.ensures c.index_mut.ensures.value c.requires.4.0 h.stands in
    let now = c.in_ok-counts.ensures.ok n c.args.rank (p.layer c.args.rank) (its_log p logs c.args.rank) was in (
      n,
      record p { layer = set_at p.layer c.args.rank (layer_save (p.layer c.args.rank)) },
      set_at logs c.args.rank [],
      record { ranks = h.ranks; stands = layer_and_log_put n (network_of c.args.self.now) p logs c.from.result c.args.rank c.checkpoint.new.self (layer_save (p.layer c.args.rank)) [] c.from.ensures c.requires.4.0 now.1 h.stands },
      (c.requires.4.0, ap length c.deref.ensures.value ∙ now.0.size),
    )

pub returns : goal.returns
returns c n p logs h b none =
    let was = layer_there n (network_of c.args.self.now) p logs c.from.result c.args.rank c.index_mut.result.now c.from.ensures c.index_mut.ensures.value b h.stands in
    let now = c.in_ok-counts.ensures.ok n c.args.rank (p.layer c.args.rank) (its_log p logs c.args.rank) was in
    c.tell.ensures n (record p { layer = set_at p.layer c.args.rank (layer_save (p.layer c.args.rank)) }) logs (λ x. Count (suc (p.layer c.args.rank).epoch) ((p.layer c.args.rank).sent x))
    (record { ranks = h.ranks; stands = saves n (network_of c.args.self.now) p logs c.from.result c.args.rank c.checkpoint.new.self c.from.ensures b none now.1 h.stands }) b (rw c.deref.ensures.value now.0)
