use Rattle.c_rules.proofs.Sizes.{narrow_sizes}
use Rattle.c_rules.proofs.types.object_type.Goals as goal

pub narrowed-requires : goal.narrowed-requires
narrowed-requires c = narrow_sizes c.element_cells.result c.in-Some.cells c.args.sizes.now (cc)
