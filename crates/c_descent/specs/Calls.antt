-- Calls of MPI that share a rule.
use Rattle.std.specs.Prelude.{List, [], ◌∷◌}
use Rattle.c_tree.specs.declared.token.Class.{Class}
use Rattle.c_tree.specs.declared.token.Class.TheVariants as class
use Rattle.c_tree.specs.declared.token.Call.TheVariants as call
use Rattle.c_descent.specs.declared.ahead.Inquiry.{Inquiry}
use Rattle.c_descent.specs.declared.ahead.Inquiry.TheVariants as inquiry
use Rattle.c_descent.specs.declared.ahead.Distribution.{Distribution}
use Rattle.c_descent.specs.declared.ahead.Distribution.TheVariants as distribution

-- the calls that ask for the rank or for the size
abbrev pub inquiries : List Class
inquiries = class.Mpi call.CommRank ∷ class.Mpi call.CommSize ∷ []

abbrev pub inquiry_class : Inquiry → Class
inquiry_class inquiry.Rank = class.Mpi call.CommRank
inquiry_class inquiry.Size = class.Mpi call.CommSize

-- the calls that gather or scatter
abbrev pub distributions : List Class
distributions = class.Mpi call.Gather ∷ class.Mpi call.Scatter ∷ []

abbrev pub distribution_class : Distribution → Class
distribution_class distribution.Gather = class.Mpi call.Gather
distribution_class distribution.Scatter = class.Mpi call.Scatter
