use Rattle.std.proofs.Common.{◌∙◌, ap, sym, subst, refl, rules, w64, SFits}
use Rattle.std.specs.Prelude.{◌∷◌}
use Rattle.std.proofs.lemmas.Int.{to_z-of_z}
use Rattle.task_ast.specs.declared.sync.SyncOp.TheVariants as sync
use Rattle.task_ast.specs.meaning.Tree as plain
use Rattle.task_ast.specs.meaning.Value.{value}
use Rattle.task_ast.specs.meaning.Control.{step, lock_number}
use Rattle.task_ast.specs.View.{plain_expr, plain_exprs, plain_what, plain_block}
use Rattle.task_ast.proofs.Views.{stmt_At, what_SetCtl, what_While, what_If, what_Lock, what_Unlock, what_Fork, what_Join, what_Barrier, what_Settle}
use Rattle.one_thread.specs.inner.Remaining.{rest_of}
use Rattle.one_thread.specs.Walking.{setting_of, point_of, Stepped}
use Rattle.one_thread.proofs.OtherKinds.{data-other}
use Rattle.one_thread.proofs.Steps.{env_is}
use Rattle.one_thread.proofs.Walks.{with_left, at_first, at_first_ok, at_fork, stops_with, stops_without}
use Rattle.one_thread.proofs.walk.Walk.step.Goals as goal

pub turn-requires-clause-first : goal.turn-requires-clause-first
turn-requires-clause-first g c =
    c.in-Some.ensures.one ∙ ap (λ st. st ∷ rest_of c.first.new.self)
    (stmt_At c.in-Some.s.now ∙ ap (plain.At c.in-Some.s.now.line)
    (ap plain_what c.in-While.is ∙ what_While c.in-While.e c.in-While.body
    ∙ ap (λ b. plain.While (plain_expr c.in-While.e) (plain_block b)) (sym c.as_slice.ensures)))

pub act-requires-clause-data : goal.act-requires-clause-data
act-requires-clause-data g c =
    let no = c.in_default-what in
    data-other c.in-Some.s.now.what no.not-SetCtl no.not-While no.not-If no.not-Lock no.not-Unlock no.not-Fork no.not-Join no.not-Barrier
    no.not-Settle

pub returns-in-SetCtl : goal.returns-in-SetCtl
returns-in-SetCtl g c =
    at_first c.args.self.now c.first.new.self c.set_control.new.self c.in-Some.ensures.same c.in-Some.s.now
    (plain.SetCtl c.in-SetCtl.x (plain_expr c.in-SetCtl.e)) c.set_control.result c.in-Some.ensures.one
    (ap plain_what c.in-SetCtl.is ∙ what_SetCtl c.in-SetCtl.x c.in-SetCtl.e)
    c.set_control.ensures

pub returns-in-While : goal.returns-in-While
returns-in-While g c =
    at_first c.args.self.now c.first.new.self c.turn.new.self c.in-Some.ensures.same c.in-Some.s.now
    (plain.While (plain_expr c.in-While.e) (plain_block c.as_slice.result.now)) c.turn.result c.in-Some.ensures.one
    (ap plain_what c.in-While.is ∙ what_While c.in-While.e c.in-While.body
    ∙ ap (λ b. plain.While (plain_expr c.in-While.e) (plain_block b)) (sym c.as_slice.ensures))
    c.turn.ensures

pub returns-in-If : goal.returns-in-If
returns-in-If g c =
    at_first_ok c.args.self.now c.first.new.self c.choose.new.self c.in-Some.ensures.same c.in-Some.s.now
    (plain.If (plain_expr c.in-If.e) (plain_block c.as_slice-in-If.result.now) (plain_block c.as_slice-in-If-2.result.now))
    c.choose.result c.in-Some.ensures.one (ap plain_what c.in-If.is ∙ what_If c.in-If.e c.in-If.first c.in-If.second
    ∙ ap (λ b. plain.If (plain_expr c.in-If.e) (plain_block b) (plain_block c.in-If.second)) (sym c.as_slice-in-If.ensures)
    ∙ ap (λ b. plain.If (plain_expr c.in-If.e) (plain_block c.as_slice-in-If.result.now) (plain_block b))
    (sym c.as_slice-in-If-2.ensures))
    c.choose.ensures

pub returns-in-Some-lock_at : goal.returns-in-Some-lock_at
returns-in-Some-lock_at g c =
    subst (λ r. Stepped (step (setting_of c.args.self.now) (point_of c.args.self.now)) r c.args.self.now
    (with_left c.args.self.now c.first.new.self)) (sym c.stop-in-Some-lock_at.ensures)
    (at_first c.args.self.now c.first.new.self (with_left c.args.self.now c.first.new.self) c.in-Some.ensures.same c.in-Some.s.now
    (plain.Lock c.in-Lock.a c.in-Lock.i) _ c.in-Some.ensures.one (ap plain_what c.in-Lock.is ∙ what_Lock c.in-Lock.a c.in-Lock.i)
    (stops_with (with_left c.args.self.now c.first.new.self) c.in-Some.s.now.line _ sync.Lock c.in-Some-lock_at.lock c.requires.clean
    (ap (lock_number (setting_of (with_left c.args.self.now c.first.new.self)) c.in-Lock.a c.in-Lock.i)
    (env_is (with_left c.args.self.now c.first.new.self) c.requires.clean) ∙ sym c.in-Some-lock_at.ensures)))

pub returns-in-None : goal.returns-in-None
returns-in-None g c =
    subst (λ r. Stepped (step (setting_of c.args.self.now) (point_of c.args.self.now)) r c.args.self.now
    (with_left c.args.self.now c.first.new.self)) (sym c.fault.ensures)
    (at_first c.args.self.now c.first.new.self (with_left c.args.self.now c.first.new.self) c.in-Some.ensures.same c.in-Some.s.now
    (plain.Lock c.in-Lock.a c.in-Lock.i) _ c.in-Some.ensures.one (ap plain_what c.in-Lock.is ∙ what_Lock c.in-Lock.a c.in-Lock.i)
    (stops_without (with_left c.args.self.now c.first.new.self) c.in-Some.s.now.line _ sync.Lock c.requires.clean
    (ap (lock_number (setting_of (with_left c.args.self.now c.first.new.self)) c.in-Lock.a c.in-Lock.i)
    (env_is (with_left c.args.self.now c.first.new.self) c.requires.clean) ∙ sym c.in-None.ensures)))

pub returns-in-Some-lock_at-2 : goal.returns-in-Some-lock_at-2
returns-in-Some-lock_at-2 g c =
    subst (λ r. Stepped (step (setting_of c.args.self.now) (point_of c.args.self.now)) r c.args.self.now
    (with_left c.args.self.now c.first.new.self)) (sym c.stop-in-Some-lock_at-2.ensures)
    (at_first c.args.self.now c.first.new.self (with_left c.args.self.now c.first.new.self) c.in-Some.ensures.same c.in-Some.s.now
    (plain.Unlock c.in-Unlock.a c.in-Unlock.i) _ c.in-Some.ensures.one
    (ap plain_what c.in-Unlock.is ∙ what_Unlock c.in-Unlock.a c.in-Unlock.i)
    (stops_with (with_left c.args.self.now c.first.new.self) c.in-Some.s.now.line _ sync.Unlock c.in-Some-lock_at-2.lock c.requires.clean
    (ap (lock_number (setting_of (with_left c.args.self.now c.first.new.self)) c.in-Unlock.a c.in-Unlock.i)
    (env_is (with_left c.args.self.now c.first.new.self) c.requires.clean) ∙ sym c.in-Some-lock_at-2.ensures)))

pub returns-in-None-lock_at : goal.returns-in-None-lock_at
returns-in-None-lock_at g c =
    subst (λ r. Stepped (step (setting_of c.args.self.now) (point_of c.args.self.now)) r c.args.self.now
    (with_left c.args.self.now c.first.new.self)) (sym c.fault-in-None-lock_at.ensures)
    (at_first c.args.self.now c.first.new.self (with_left c.args.self.now c.first.new.self) c.in-Some.ensures.same c.in-Some.s.now
    (plain.Unlock c.in-Unlock.a c.in-Unlock.i) _ c.in-Some.ensures.one
    (ap plain_what c.in-Unlock.is ∙ what_Unlock c.in-Unlock.a c.in-Unlock.i)
    (stops_without (with_left c.args.self.now c.first.new.self) c.in-Some.s.now.line _ sync.Unlock c.requires.clean
    (ap (lock_number (setting_of (with_left c.args.self.now c.first.new.self)) c.in-Unlock.a c.in-Unlock.i)
    (env_is (with_left c.args.self.now c.first.new.self) c.requires.clean) ∙ sym c.in-None-lock_at.ensures)))

pub returns-in-Some-of_control : goal.returns-in-Some-of_control
returns-in-Some-of_control g c =
    let fits : SFits w64 c.in-Some-of_control.h = search rules in
    let stops = rw (to_z-of_z w64 c.in-Some-of_control.h fits) at c.stop-in-Some-of_control.ensures in
    subst (λ r. Stepped (step (setting_of c.args.self.now) (point_of c.args.self.now)) r c.args.self.now
    (with_left c.args.self.now c.first.new.self)) (sym stops)
    (at_first c.args.self.now c.first.new.self (with_left c.args.self.now c.first.new.self) c.in-Some.ensures.same c.in-Some.s.now
    (plain.Join (plain_expr c.in-Join.e) c.in-Join.field-1) _ c.in-Some.ensures.one
    (ap plain_what c.in-Join.is ∙ what_Join c.in-Join.e c.in-Join.field-1)
    (stops_with (with_left c.args.self.now c.first.new.self) c.in-Some.s.now.line _ sync.Join c.in-Some-of_control.h c.requires.clean
    (ap (value (plain_expr c.in-Join.e)) (env_is (with_left c.args.self.now c.first.new.self) c.requires.clean)
    ∙ sym c.in-Some-of_control.ensures)))

pub returns-in-None-of_control : goal.returns-in-None-of_control
returns-in-None-of_control g c =
    let stops = c.fault-in-None-of_control.ensures in
    subst (λ r. Stepped (step (setting_of c.args.self.now) (point_of c.args.self.now)) r c.args.self.now
    (with_left c.args.self.now c.first.new.self)) (sym stops)
    (at_first c.args.self.now c.first.new.self (with_left c.args.self.now c.first.new.self) c.in-Some.ensures.same c.in-Some.s.now
    (plain.Join (plain_expr c.in-Join.e) c.in-Join.field-1) _ c.in-Some.ensures.one
    (ap plain_what c.in-Join.is ∙ what_Join c.in-Join.e c.in-Join.field-1)
    (stops_without (with_left c.args.self.now c.first.new.self) c.in-Some.s.now.line _ sync.Join c.requires.clean
    (ap (value (plain_expr c.in-Join.e)) (env_is (with_left c.args.self.now c.first.new.self) c.requires.clean)
    ∙ sym c.in-None-of_control.ensures)))

pub returns-in-Fork : goal.returns-in-Fork
returns-in-Fork g c =
    at_fork c.args.self.now c.first.new.self (with_left c.args.self.now c.first.new.self) c.in-Some.ensures.same c.in-Some.s.now c.in-Fork.t
    (plain_exprs c.as_slice-in-Fork.result.now) c.in-Fork.field-2 c.fork.result c.in-Some.ensures.one
    (ap plain_what c.in-Fork.is ∙ what_Fork c.in-Fork.t c.in-Fork.es c.in-Fork.field-2
    ∙ ap (λ es. plain.Fork c.in-Fork.t (plain_exprs es) c.in-Fork.field-2) (sym c.as_slice-in-Fork.ensures)) c.fork.ensures

pub returns-in-Barrier : goal.returns-in-Barrier
returns-in-Barrier g c =
    at_first_ok c.args.self.now c.first.new.self (with_left c.args.self.now c.first.new.self) c.in-Some.ensures.same c.in-Some.s.now
    (plain.Barrier c.in-Barrier.b) c.barrier.result c.in-Some.ensures.one (ap plain_what c.in-Barrier.is ∙ what_Barrier c.in-Barrier.b)
    c.barrier.ensures

pub returns-in-Settle : goal.returns-in-Settle
returns-in-Settle g c =
    at_first_ok c.args.self.now c.first.new.self (with_left c.args.self.now c.first.new.self) c.in-Some.ensures.same c.in-Some.s.now
    (plain.Settle c.in-Settle.x c.in-Settle.c) c.settle.result c.in-Some.ensures.one
    (ap plain_what c.in-Settle.is ∙ what_Settle c.in-Settle.x c.in-Settle.c)
    c.settle.ensures

pub returns-in_default-what : goal.returns-in_default-what
returns-in_default-what g c =
    at_first_ok c.args.self.now c.first.new.self c.act.new.self c.in-Some.ensures.same c.in-Some.s.now
    (plain_what c.in-Some.s.now.what) c.act.result c.in-Some.ensures.one (refl)
    c.act.ensures
