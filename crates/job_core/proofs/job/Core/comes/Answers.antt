use Rattle.std.proofs.Common.{suc, subst, arith}
use Rattle.std.proofs.lemmas.Result.{on_ok_weaker}
use Rattle.core_laws.specs.CoreEvents.{Kill, Single, Sweep}
use Rattle.core_laws.specs.Pausing.{stepping}
use Rattle.core_laws.specs.Quiet.{Begin_wave, Deliver, Handle, Turn}
use Rattle.core_laws.proofs.Regularity.{regular_pausing}
use Rattle.job_network.specs.Members.{stepping_of}
use Rattle.job_core.specs.Cores.{EventIs}
use Rattle.job_core.proofs.Nexts.{comes_as, comes_quiet}
use Rattle.job_core.proofs.Standing.{stands_more}
use Rattle.job_core.proofs.job.Core.comes.Goals as goal

pub returns-in-Turn-clause-comes : goal.returns-in-Turn-clause-comes
returns-in-Turn-clause-comes g c begin n first m e is kept h = comes_as g.P.Process.ended g.P.Process.bytes g.P.Process.among g.P.Process.saved (stepping (stepping_of begin g.P.Process.turned g.P.Process.answered g.P.Process.again)) n first m e (Single (Turn c.in-Turn.rank)) c.turn.new.self c.turn.result (subst (λ z. EventIs z e) c.in-Turn.is is) (c.turn.ensures.comes begin n first m (regular_pausing (stepping_of begin g.P.Process.turned g.P.Process.answered g.P.Process.again) n m kept) h)

pub returns-in-Deliver-clause-comes : goal.returns-in-Deliver-clause-comes
returns-in-Deliver-clause-comes g c begin n first m e is kept h = comes_as g.P.Process.ended g.P.Process.bytes g.P.Process.among g.P.Process.saved (stepping (stepping_of begin g.P.Process.turned g.P.Process.answered g.P.Process.again)) n first m e (Single (Deliver c.in-Deliver.from c.in-Deliver.to)) c.deliver.new.self c.deliver.result (subst (λ z. EventIs z e) c.in-Deliver.is is) (c.deliver.ensures.comes (stepping (stepping_of begin g.P.Process.turned g.P.Process.answered g.P.Process.again)) n first m (regular_pausing (stepping_of begin g.P.Process.turned g.P.Process.answered g.P.Process.again) n m kept) h)

pub returns-in-Deliver-clause-stands : goal.returns-in-Deliver-clause-stands
returns-in-Deliver-clause-stands g c = on_ok_weaker c.deliver.result (stands_more g.P.Process.ended g.P.Process.bytes g.P.Process.among g.P.Process.serial g.P.Process.turned g.P.Process.answered g.P.Process.again c.args.self.now.events (suc c.args.self.now.events) c.deliver.new.self (omega arith)) c.deliver.ensures.stands

pub returns-in-Control-clause-comes : goal.returns-in-Control-clause-comes
returns-in-Control-clause-comes g c begin n first m e is kept h = comes_as g.P.Process.ended g.P.Process.bytes g.P.Process.among g.P.Process.saved (stepping (stepping_of begin g.P.Process.turned g.P.Process.answered g.P.Process.again)) n first m e (Single (Handle c.in-Control.from c.in-Control.to)) c.control.new.self c.control.result (subst (λ z. EventIs z e) c.in-Control.is is) (c.control.ensures.comes (stepping (stepping_of begin g.P.Process.turned g.P.Process.answered g.P.Process.again)) n first m h)

pub returns-in-Control-clause-stands : goal.returns-in-Control-clause-stands
returns-in-Control-clause-stands g c = on_ok_weaker c.control.result (stands_more g.P.Process.ended g.P.Process.bytes g.P.Process.among g.P.Process.serial g.P.Process.turned g.P.Process.answered g.P.Process.again c.args.self.now.events (suc c.args.self.now.events) c.control.new.self (omega arith)) c.control.ensures.stands

pub returns-in-Sweep-clause-comes : goal.returns-in-Sweep-clause-comes
returns-in-Sweep-clause-comes g c begin n first m e is kept h = comes_as g.P.Process.ended g.P.Process.bytes g.P.Process.among g.P.Process.saved (stepping (stepping_of begin g.P.Process.turned g.P.Process.answered g.P.Process.again)) n first m e (Sweep) c.sweep.new.self c.sweep.result (subst (λ z. EventIs z e) c.in-Sweep.is is) (c.sweep.ensures.comes begin n first m kept h)

pub returns-in-Sweep-clause-stands : goal.returns-in-Sweep-clause-stands
returns-in-Sweep-clause-stands g c = on_ok_weaker c.sweep.result (stands_more g.P.Process.ended g.P.Process.bytes g.P.Process.among g.P.Process.serial g.P.Process.turned g.P.Process.answered g.P.Process.again c.args.self.now.events (suc c.args.self.now.events) c.sweep.new.self (omega arith)) c.sweep.ensures.stands

pub returns-in_ok-wave-in-Wave-clause-comes : goal.returns-in_ok-wave-in-Wave-clause-comes
returns-in_ok-wave-in-Wave-clause-comes g c begin n first m e is kept h = comes_quiet g.P.Process.ended g.P.Process.bytes g.P.Process.among g.P.Process.saved (stepping (stepping_of begin g.P.Process.turned g.P.Process.answered g.P.Process.again)) n first m e (Single Begin_wave) c.wave.new.self c.new.result (subst (λ z. EventIs z e) c.in-Wave.is is) c.new.ensures (c.in_ok-wave-in-Wave.ensures.comes (stepping (stepping_of begin g.P.Process.turned g.P.Process.answered g.P.Process.again)) n first m (regular_pausing (stepping_of begin g.P.Process.turned g.P.Process.answered g.P.Process.again) n m kept) h)

pub returns-in_ok-wave-in-Wave-clause-stands : goal.returns-in_ok-wave-in-Wave-clause-stands
returns-in_ok-wave-in-Wave-clause-stands g c = stands_more g.P.Process.ended g.P.Process.bytes g.P.Process.among g.P.Process.serial g.P.Process.turned g.P.Process.answered g.P.Process.again c.args.self.now.events (suc c.args.self.now.events) c.wave.new.self (omega arith) c.in_ok-wave-in-Wave.ensures.stands

pub returns-in-Kill-clause-comes : goal.returns-in-Kill-clause-comes
returns-in-Kill-clause-comes g c begin n first m e is kept h = comes_quiet g.P.Process.ended g.P.Process.bytes g.P.Process.among g.P.Process.saved (stepping (stepping_of begin g.P.Process.turned g.P.Process.answered g.P.Process.again)) n first m e (Kill c.in-Kill.rank) c.kill.new.self c.new-in-Kill.result (subst (λ z. EventIs z e) c.in-Kill.is is) c.new-in-Kill.ensures (c.kill.ensures.comes (stepping (stepping_of begin g.P.Process.turned g.P.Process.answered g.P.Process.again)) n first m h)

pub returns-in-Kill-clause-stands : goal.returns-in-Kill-clause-stands
returns-in-Kill-clause-stands g c = stands_more g.P.Process.ended g.P.Process.bytes g.P.Process.among g.P.Process.serial g.P.Process.turned g.P.Process.answered g.P.Process.again c.args.self.now.events (suc c.args.self.now.events) c.kill.new.self (omega arith) c.kill.ensures.stands

pub unreachable-requires : goal.unreachable-requires
unreachable-requires g c = c.requires.given c.in-Restart.is
