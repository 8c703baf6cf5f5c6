-- The elements of messages (MPI 3.1 3.2.2).
use Rattle.mpi_words.specs.declared.message.Datatype.{Datatype}
use Rattle.mpi_words.specs.declared.message.Datatype.TheVariants as datatype
use Rattle.c_kernel.specs.declared.types.IntegerType.{IntegerType}
use Rattle.c_kernel.specs.declared.types.IntegerType.TheVariants.{Char, Int, Long}

abbrev pub element_type : Datatype → IntegerType
element_type datatype.Char = Char
element_type datatype.Int = Int
element_type datatype.Long = Long
