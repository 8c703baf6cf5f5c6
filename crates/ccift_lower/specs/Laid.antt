-- When code is that of statements, from one place to another. A break among them goes to a third place, and a continue to a fourth.
use Rattle.std.specs.Prelude.{◌≡◌, ℕ, ◌+◌, List, [], ◌∷◌, Option, Some, None, slice_get}
use Rattle.c_kernel.specs.declared.program.Action.{Action}
use Rattle.c_kernel.specs.declared.program.Arm.{Arm}
use Rattle.c_kernel.specs.declared.program.Expr.{Expr}
use Rattle.c_kernel.specs.declared.program.MpiCall.{MpiCall}
use Rattle.c_kernel.specs.declared.program.Piece.{Piece}
use Rattle.c_kernel.specs.declared.program.Stmt.{Stmt, out-Stmt}
use Rattle.c_kernel.specs.declared.program.Stmt.TheOpen.{Stmt-F}
use Rattle.c_kernel.specs.declared.program.Stmt.TheOpen as stmt
use Rattle.flat_code.specs.declared.code.Instr.{Instr}
use Rattle.flat_code.specs.declared.code.Instr.TheVariants.{Step, Free, Goto, Unless, Return, Mark, Print, Mpi}
use Rattle.ccift_lower.specs.Lowered.{instr_of}

-- an instruction stands at a place
abbrev pub At : List Instr → ℕ → Instr → Type 0
At code p i = slice_get code p ≡ Some i

-- jumps lead from one place to another
pub data Leads (code : List Instr) : ℕ → ℕ → Type 0 where
  here : (p : ℕ) → Leads code p p
  jump : (p q r : ℕ) → At code p (Goto q) → Leads code q r → Leads code p r

pub data Acts (code : List Instr) : List Action → ℕ → ℕ → Type 0 where
  done : (p : ℕ) → Acts code [] p p
  act : (a : Action) (al : List Action) (p end : ℕ) → At code p (instr_of a) → Acts code al (p + 1) end → Acts code (a ∷ al) p end

mutual
  -- statements
  pub data Laid (code : List Instr) : List Stmt → ℕ → ℕ → ℕ → ℕ → Type 0 where
    empty : (p leave again : ℕ) → Laid code [] p p leave again
    cons : (x : Stmt) (xs : List Stmt) (p mid end leave again : ℕ) → At code p Step → Formed code (out-Stmt x) (p + 1) mid leave again → Laid code xs mid end leave again → Laid code (x ∷ xs) p end leave again

  -- the arms of an if, and its last branch
  pub data Chosen (code : List Instr) : List (Arm Stmt) → List Stmt → ℕ → ℕ → ℕ → ℕ → Type 0 where
    otherwise : (ss : List Stmt) (p end leave again : ℕ) → Laid code ss p end leave again → Chosen code [] ss p end leave again
    arm : (a : Arm Stmt) (arms : List (Arm Stmt)) (ss : List Stmt) (p mid next end leave again : ℕ) → At code p (Unless a.test next) → Laid code a.body (p + 1) mid leave again → Leads code mid end → Chosen code arms ss next end leave again → Chosen code (a ∷ arms) ss p end leave again

  -- a loop: where its test stands, where a continue leads, and its end
  pub data Looped (code : List Instr) : Stmt-F Stmt → ℕ → ℕ → ℕ → Type 0 where
    while_loop : (e : Expr) (ss : List Stmt) (p mid end : ℕ) → At code p (Unless e end) → Laid code ss (p + 1) mid end p → At code mid (Goto p) → Looped code (stmt.While e ss) p p end
    do_loop : (ss : List Stmt) (e : Expr) (p start end : ℕ) → Laid code ss start p end p → At code p (Unless e end) → At code (p + 1) (Goto start) → Looped code (stmt.DoWhile ss e) p p end
    for_loop : (start last : List Action) (e : Expr) (ss : List Stmt) (p step back end : ℕ) → At code p (Unless e end) → Laid code ss (p + 1) step end step → Acts code last step back → At code back (Goto p) → Looped code (stmt.For start (Some e) last ss) p step end
    forever_loop : (start last : List Action) (ss : List Stmt) (p step back end : ℕ) → Laid code ss p step end step → Acts code last step back → At code back (Goto p) → Looped code (stmt.For start None last ss) p step end

  -- a statement after its Step
  pub data Formed (code : List Instr) : Stmt-F Stmt → ℕ → ℕ → ℕ → ℕ → Type 0 where
    actions : (al : List Action) (p end leave again : ℕ) → Acts code al p end → Formed code (stmt.Actions al) p end leave again
    block : (ss : List Stmt) (p end leave again : ℕ) → Laid code ss p end leave again → Formed code (stmt.Block ss) p end leave again
    choice : (arms : List (Arm Stmt)) (ss : List Stmt) (p end leave again : ℕ) → Chosen code arms ss p end leave again → Formed code (stmt.If arms ss) p end leave again
    while : (e : Expr) (ss : List Stmt) (p end leave again : ℕ) → Looped code (stmt.While e ss) p p end → Formed code (stmt.While e ss) p end leave again
    do_while : (ss : List Stmt) (e : Expr) (p test end leave again : ℕ) → Laid code ss p test end test → Looped code (stmt.DoWhile ss e) test test end → Formed code (stmt.DoWhile ss e) p end leave again
    for : (start last : List Action) (e : Option Expr) (ss : List Stmt) (p test step end leave again : ℕ) → Acts code start p test → Looped code (stmt.For start e last ss) test step end → Formed code (stmt.For start e last ss) p end leave again
    break : (p end leave again : ℕ) → At code p (Goto leave) → Formed code stmt.Break p end leave again
    continue : (p end leave again : ℕ) → At code p (Goto again) → Formed code stmt.Continue p end leave again
    return : (e : Option Expr) (p end leave again : ℕ) → At code p (Return e) → Formed code (stmt.Return e) p end leave again
    print : (format : List Piece) (arguments : List Expr) (p leave again : ℕ) → At code p (Print format arguments) → Formed code (stmt.Print format arguments) p (p + 1) leave again
    free : (e : Expr) (p leave again : ℕ) → At code p (Free e) → Formed code (stmt.Free e) p (p + 1) leave again
    mpi : (call : MpiCall) (p leave again : ℕ) → At code p (Mpi call) → Formed code (stmt.Mpi call) p (p + 1) leave again
    mark : (site p leave again : ℕ) → At code p (Mark site) → Formed code stmt.Mark p (p + 1) leave again
