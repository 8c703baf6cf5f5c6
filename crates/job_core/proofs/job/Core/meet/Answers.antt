use Rattle.std.proofs.Common.{refl, sym, ap, ◌∙◌, subst, arith, get_or, slice_set}
use Rattle.std.proofs.lemmas.Result.{on_ok_weaker}
use Rattle.core_laws.specs.Core.{is_back, landed}
use Rattle.job_network.specs.Members.{IsMember, running_of}
use Rattle.job_core.proofs.Deliveries.{member_landed, back_is, told_back, member_at}
use Rattle.job_core.proofs.job.Core.meet.Goals as goal

pub returns-clause-met : goal.returns-clause-met
returns-clause-met g c n one p logs members net b =
    let v = one c.args.to in
    let was = subst (λ k. IsMember g.P.Process.ended g.P.Process.bytes g.P.Process.among n k v) (sym (c.index_mut-member.ensures.value ∙ ap (λ z. get_or c.args.self.now.members.items z c.index_mut-member.result.now) c.from.ensures)) (members.each c.args.to c.index_mut-member.result.now b) in
    let landed_is = c.in_ok-arrive.ensures.lands v was.running in
    let is = member_landed g.P.Process.ended g.P.Process.bytes g.P.Process.among n c.index_mut-member.result.now c.arrive.new.self v c.args.from c.args.message was landed_is c.in_ok-arrive.ensures.same.1 in
    on_ok_weaker c.tell_back.result
    (λ told. record {
      member = c.arrive.new.self;
      members = ap (λ z. slice_set c.args.self.now.members.items z c.arrive.new.self) c.from.ensures;
      killed = refl;
      is = is;
      ops = c.in_ok-arrive.ensures.same.0 ∙ ap (λ k. k.ops) (member_at c.args.self.now.members.items c.from.result c.args.to c.index_mut-member.result.now c.arrive.new.self c.from.ensures c.index_mut-member.ensures.value (omega (arith, b, members.size)));
      net = told_back n c.tell_back.new.network p logs c.args.to c.is_back-was_back.result c.is_back-is_back.result (is_back v) (is_back (landed v v.log c.args.from c.args.message)) (back_is (running_of c.index_mut-member.result.now) v c.is_back-was_back.result c.is_back-was_back.ensures was.running) (back_is (running_of c.arrive.new.self) (landed v v.log c.args.from c.args.message) c.is_back-is_back.result c.is_back-is_back.ensures landed_is) told;
    })
    (c.tell_back.ensures n p logs net b)
