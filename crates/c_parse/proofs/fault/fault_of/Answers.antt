use Rattle.std.proofs.Common.{Err}
use Rattle.c_grammar.specs.Text.{Parses}
use Rattle.c_parse.specs.Parse.{said}
use Rattle.c_parse.proofs.Outcomes.{told}
use Rattle.c_parse.proofs.fault.fault_of.Goals as goal

pub first_fault-requires-clause-stops : goal.first_fault-requires-clause-stops
first_fault-requires-clause-stops c = rw c.in-Unread.is at c.requires.fails

pub returns-in-Unread : goal.returns-in-Unread
returns-in-Unread c = told (said (Err c.first_fault.result)) (Parses c.args.text.now) c.first_fault.ensures
