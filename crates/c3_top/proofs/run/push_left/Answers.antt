use Rattle.std.proofs.Common.{◌∙◌, ap}
use Rattle.std.proofs.lemmas.Result.{on_ok_weaker}
use Rattle.std.specs.Prelude.{is_some}
use Rattle.plain_job.specs.Plain.{job_of}
use Rattle.c3_top.proofs.Texts.{left_pushed}
use Rattle.c3_top.proofs.run.push_left.Goals as goal

pub returns : goal.returns
returns c =
    on_ok_weaker c.push_bytes.result (λ e. left_pushed (job_of c.args.job.now).ranks c.args.rank c.ops.result c.is_some.result c.output.result.now c.args.text.now.items c.push_name.new.text.items c.push_going.new.text.items c.append_number.new.text.items c.push_bytes.new.text.items
    c.requires c.in_ok-push_name.ensures c.in_ok-push_going.ensures (c.is_some.ensures ∙ ap is_some c.end.ensures) c.in_ok-append_number.ensures c.ops.ensures e c.output.ensures) c.push_bytes.ensures
