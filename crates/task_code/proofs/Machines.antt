-- The machine of a program's code follows that of its tree.
use Rattle.std.proofs.Common.{ℕ, List, Option, Some, None, inl, inr, refl, sym, ap, ◌∙◌}
use Rattle.std.specs.Prelude.{ℤ, slice_set}
use Rattle.gp_base.specs.declared.feed.Feed.{Feed}
use Rattle.task_ast.specs.declared.sync.SyncOp.TheVariants as sync
use Rattle.task_ast.specs.meaning.Tree.{Program}
use Rattle.task_ast.specs.meaning.Control.{Point, with_number, beginning, size, step}
use Rattle.task_ast.specs.meaning.Plain.{setting_of}
use Rattle.task_ast.specs.Plain.{tree_machine}
use Rattle.task_ast.proofs.Sizes.{tree_sized}
use Rattle.task_ast.proofs.Following.{bodies_agree}
use Rattle.task_ast.proofs.SameRuns.{same_run}
use Rattle.task_ast.proofs.Slots.{sets_number}
use Rattle.task_code.specs.Instructions.{Assign, GoOn, Unless, Again, Lock, Unlock, Fork, Join, Barrier, Settle, Do, Instr, At}
use Rattle.task_code.specs.Reading.{Place, step_instr, instr_at, code_begins, code_size, code_step, code_body, code_machine}
use Rattle.task_code.specs.Lowering.{lowered}
use Rattle.task_code.specs.Relation.{Corresponds, IsNoJump, Rests, BodiesLaw, FollowsLaw, RunLaw}
use Rattle.task_code.proofs.Following.{following}
use Rattle.task_code.proofs.Beginning.{begins_alike, starts_alike}
use Rattle.task_code.proofs.CodeSizes.{code_sized}
use Rattle.task_code.proofs.Stopping.{Halts, halts}

-- where the step is not silent, there is no jump
no_jump : (feeds : List Feed) (q : Place) (o : Option Instr) → Halts (step_instr feeds o q) → IsNoJump o
no_jump feeds q None h = tt
no_jump feeds q (Some (At line (Assign k c))) h = tt
no_jump feeds q (Some (At line (GoOn n))) h = elim h [ ]
no_jump feeds q (Some (At line (Unless c n))) h = tt
no_jump feeds q (Some (At line (Again c n))) h = tt
no_jump feeds q (Some (At line (Lock cells i))) h = tt
no_jump feeds q (Some (At line (Unlock cells i))) h = tt
no_jump feeds q (Some (At line (Fork f))) h = tt
no_jump feeds q (Some (At line (Join c into))) h = tt
no_jump feeds q (Some (At line (Barrier b))) h = tt
no_jump feeds q (Some (At line (Settle k c))) h = tt
no_jump feeds q (Some (At line (Do d))) h = tt

pub bodies : BodiesLaw
bodies program inputs turns p q r =
    let b =
    bodies_agree (Corresponds program) (step (setting_of program inputs)) (code_step (lowered program).tasks inputs.feeds) size
    (code_size (lowered program).tasks)
    (tree_sized (setting_of program inputs)) (code_sized (lowered program).tasks inputs.feeds) (following program inputs) turns p q r in
    let at = (code_body (lowered program).tasks inputs.feeds turns q).at in
    record {
      actions = b.actions;
      next = b.next;
      at = record {
        corresponds = b.at;
        stopped = inr (no_jump inputs.feeds at (instr_at (lowered program).tasks at at.at.pc)
            (halts (code_step (lowered program).tasks inputs.feeds) (code_size (lowered program).tasks)
            (code_sized (lowered program).tasks inputs.feeds) turns q));
      };
    }

-- a point and a place stand for each other still where a control variable gets the same value in both
set_alike : (program : Program) (register control : ℕ) (v : ℤ) (p : Point) (q : Place) → Rests program (sync.Settle register control) p q
    → Rests program (sync.Settle register control) (record p { names = with_number p.names control v })
    (record q { ctl = slice_set q.ctl control v })
set_alike program register control v p q rests =
    record {
      corresponds = record {
        task = rests.corresponds.task;
        left = rests.corresponds.left;
        names = (sets_number p.names control v).0 ∙ rests.corresponds.names;
        values = ap (λ values. slice_set values control v) rests.corresponds.values ∙ sym (sets_number p.names control v).1;
        me = rests.corresponds.me;
      };
      stopped = rests.stopped;
    }

pub follows : FollowsLaw
follows program inputs limits =
    record {
      first = λ op p q rests. (begins_alike program inputs None p q rests.corresponds op rests.stopped).1;
      bodies = λ op child p q rests.
          bodies program inputs limits.turns (beginning op child p) (code_begins (lowered program).tasks op child q)
          (begins_alike program inputs child p q rests.corresponds op rests.stopped).0;
      starts = λ task thread arguments. record { corresponds = starts_alike program task thread arguments; stopped = inl refl };
      sets = λ register control v p q rests. set_alike program register control v p q rests;
    }

pub run : RunLaw
run program inputs limits =
    same_run (Rests program) (tree_machine program inputs limits) (code_machine (lowered program) inputs.feeds limits.turns)
    (follows program inputs limits) program limits inputs
