use Rattle.std.proofs.Common.{subst}
use Rattle.std.specs.Io.KnownBytes.{Appends}
use Rattle.c3_top.specs.declared.status.Status.TheVariants.{Done, Unfinished, Refused, BadSchedule, TooMany, InputLimit}
use Rattle.c3_top.proofs.Exact.{written_from_due, exact_from_due, fault_in_place}
use Rattle.c3_top.proofs.top.c3_top.Goals as goal

pub returns-in-Ok-write_all_to-clause-written : goal.returns-in-Ok-write_all_to-clause-written
returns-in-Ok-write_all_to-clause-written g c = written_from_due _ _ _ _ _ _ c.in-Ok.answer.status c.in-Ok.answer.text.items c.in-Ok.ensures.due (subst (λ l. Appends (g.K.Sink.out c.args.sink.now) (g.K.Sink.out c.write_all_to.new.sink) l) c.deref.ensures.value c.in-Ok-write_all_to.ensures.all)

pub returns-in-Ok-write_all_to-clause-refused : goal.returns-in-Ok-write_all_to-clause-refused
returns-in-Ok-write_all_to-clause-refused g c kind at = exact_from_due _ _ _ _ (Refused kind at) c.in-Ok.answer.status c.in-Ok.answer.text.items (λ words i due. due) c.in-Ok.ensures.due

pub returns-in-Ok-write_all_to-clause-bad_schedule : goal.returns-in-Ok-write_all_to-clause-bad_schedule
returns-in-Ok-write_all_to-clause-bad_schedule g c at = exact_from_due _ _ _ _ (BadSchedule at) c.in-Ok.answer.status c.in-Ok.answer.text.items (λ words i due. due) c.in-Ok.ensures.due

pub returns-in-Ok-write_all_to-clause-too_many : goal.returns-in-Ok-write_all_to-clause-too_many
returns-in-Ok-write_all_to-clause-too_many g c count = exact_from_due _ _ _ _ (TooMany count) c.in-Ok.answer.status c.in-Ok.answer.text.items (λ words i due. due) c.in-Ok.ensures.due

pub returns-in-Ok-write_all_to-clause-done : goal.returns-in-Ok-write_all_to-clause-done
returns-in-Ok-write_all_to-clause-done g c = exact_from_due _ _ _ _ Done c.in-Ok.answer.status c.in-Ok.answer.text.items (λ words i due. due) c.in-Ok.ensures.due

pub returns-in-Ok-write_all_to-clause-unfinished : goal.returns-in-Ok-write_all_to-clause-unfinished
returns-in-Ok-write_all_to-clause-unfinished g c = exact_from_due _ _ _ _ Unfinished c.in-Ok.answer.status c.in-Ok.answer.text.items (λ words i due. due) c.in-Ok.ensures.due

pub returns-in-Ok-write_all_to-clause-input_limit : goal.returns-in-Ok-write_all_to-clause-input_limit
returns-in-Ok-write_all_to-clause-input_limit g c = exact_from_due _ _ _ _ InputLimit c.in-Ok.answer.status c.in-Ok.answer.text.items (λ words i due. due) c.in-Ok.ensures.due

pub returns-clause-done : goal.returns-clause-done
returns-clause-done g c = fault_in_place (g.S.Source.left c.args.source.now) _ Done _ (λ e. cc) tt

pub returns-clause-unfinished : goal.returns-clause-unfinished
returns-clause-unfinished g c = fault_in_place (g.S.Source.left c.args.source.now) _ Unfinished _ (λ e. cc) tt

pub returns-clause-input_limit : goal.returns-clause-input_limit
returns-clause-input_limit g c = fault_in_place (g.S.Source.left c.args.source.now) _ InputLimit _ (λ e. cc) tt
