use Rattle.epoch_protocol.proofs.layer.Layer.control.Goals as goal

pub returns-in-Count : goal.returns-in-Count
returns-in-Count c n r l log h = rw c.in-Count.is (c.take_count.ensures n r 0 l log h)
