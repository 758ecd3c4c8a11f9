use Rattle.std.proofs.Common.{◌∙◌, ap, sym}
use Rattle.task_ast.specs.meaning.Tree as plain
use Rattle.task_ast.specs.meaning.Check.{fails_at}
use Rattle.task_ast.specs.View.{plain_exprs, plain_what}
use Rattle.task_ast.proofs.Views.{what_SetCtl, what_While, what_If, what_Lock, what_Unlock, what_Fork, what_Join, what_Barrier, what_Settle, what_SetReg, what_Read, what_Write, what_Print, what_When}
use Rattle.lock_checker.specs.inner.Scopes.{scope_of}
use Rattle.lock_checker.specs.inner.Pairs.{pairs_in}
use Rattle.lock_checker.specs.inner.Faults.{lowest}
use Rattle.lock_checker.proofs.rules.rule_at.Goals as goal

pub returns-in-SetCtl : goal.returns-in-SetCtl
returns-in-SetCtl c =
    let scope = scope_of c.args.scope.now in
    let held = pairs_in c.args.held.now in
    c.set_control_rule.ensures
    ∙ sym (ap (λ w. lowest (fails_at scope (plain_what w) held)) c.in-SetCtl.is
    ∙ ap (λ w. lowest (fails_at scope w held)) (what_SetCtl c.in-SetCtl.x c.in-SetCtl.e))

pub returns-in-While : goal.returns-in-While
returns-in-While c =
    let scope = scope_of c.args.scope.now in
    let held = pairs_in c.args.held.now in
    c.condition_rule.ensures
    ∙ sym (ap (λ w. lowest (fails_at scope (plain_what w) held)) c.in-While.is
    ∙ ap (λ w. lowest (fails_at scope w held)) (what_While c.in-While.e c.in-While.field-1))

pub returns-in-If : goal.returns-in-If
returns-in-If c =
    let scope = scope_of c.args.scope.now in
    let held = pairs_in c.args.held.now in
    c.condition_rule-in-If.ensures
    ∙ sym (ap (λ w. lowest (fails_at scope (plain_what w) held)) c.in-If.is
    ∙ ap (λ w. lowest (fails_at scope w held)) (what_If c.in-If.e c.in-If.field-1 c.in-If.field-2))

pub returns-in-Lock : goal.returns-in-Lock
returns-in-Lock c =
    let scope = scope_of c.args.scope.now in
    let held = pairs_in c.args.held.now in
    c.lock_rule.ensures
    ∙ sym (ap (λ w. lowest (fails_at scope (plain_what w) held)) c.in-Lock.is
    ∙ ap (λ w. lowest (fails_at scope w held)) (what_Lock c.in-Lock.array c.in-Lock.index))

pub returns-in-Unlock : goal.returns-in-Unlock
returns-in-Unlock c =
    let scope = scope_of c.args.scope.now in
    let held = pairs_in c.args.held.now in
    c.unlock_rule.ensures
    ∙ sym (ap (λ w. lowest (fails_at scope (plain_what w) held)) c.in-Unlock.is
    ∙ ap (λ w. lowest (fails_at scope w held)) (what_Unlock c.in-Unlock.array c.in-Unlock.index))

pub returns-in-Fork : goal.returns-in-Fork
returns-in-Fork c =
    let scope = scope_of c.args.scope.now in
    let held = pairs_in c.args.held.now in
    c.fork_rule.ensures
    ∙ ap (λ es. lowest (fails_at scope (plain.Fork c.in-Fork.t (plain_exprs es) c.in-Fork.into) held)) c.as_slice.ensures
    ∙ sym (ap (λ w. lowest (fails_at scope (plain_what w) held)) c.in-Fork.is
    ∙ ap (λ w. lowest (fails_at scope w held)) (what_Fork c.in-Fork.t c.in-Fork.arguments c.in-Fork.into))

pub returns-in-Join : goal.returns-in-Join
returns-in-Join c =
    let scope = scope_of c.args.scope.now in
    let held = pairs_in c.args.held.now in
    c.join_rule.ensures
    ∙ sym (ap (λ w. lowest (fails_at scope (plain_what w) held)) c.in-Join.is
    ∙ ap (λ w. lowest (fails_at scope w held)) (what_Join c.in-Join.e c.in-Join.into))

pub returns-in-Barrier : goal.returns-in-Barrier
returns-in-Barrier c =
    let scope = scope_of c.args.scope.now in
    let held = pairs_in c.args.held.now in
    c.barrier_rule.ensures
    ∙ sym (ap (λ w. lowest (fails_at scope (plain_what w) held)) c.in-Barrier.is
    ∙ ap (λ w. lowest (fails_at scope w held)) (what_Barrier c.in-Barrier.b))

pub returns-in-Settle : goal.returns-in-Settle
returns-in-Settle c =
    let scope = scope_of c.args.scope.now in
    let held = pairs_in c.args.held.now in
    c.settle_rule.ensures
    ∙ sym (ap (λ w. lowest (fails_at scope (plain_what w) held)) c.in-Settle.is
    ∙ ap (λ w. lowest (fails_at scope w held)) (what_Settle c.in-Settle.from c.in-Settle.into))

pub returns-in-SetReg : goal.returns-in-SetReg
returns-in-SetReg c =
    let scope = scope_of c.args.scope.now in
    let held = pairs_in c.args.held.now in
    c.set_register_rule.ensures
    ∙ sym (ap (λ w. lowest (fails_at scope (plain_what w) held)) c.in-SetReg.is
    ∙ ap (λ w. lowest (fails_at scope w held)) (what_SetReg c.in-SetReg.x c.in-SetReg.e))

pub returns-in-Read : goal.returns-in-Read
returns-in-Read c =
    let scope = scope_of c.args.scope.now in
    let held = pairs_in c.args.held.now in
    c.read_rule.ensures
    ∙ sym (ap (λ w. lowest (fails_at scope (plain_what w) held)) c.in-Read.is
    ∙ ap (λ w. lowest (fails_at scope w held)) (what_Read c.in-Read.r c.in-Read.index c.in-Read.into))

pub returns-in-Write : goal.returns-in-Write
returns-in-Write c =
    let scope = scope_of c.args.scope.now in
    let held = pairs_in c.args.held.now in
    c.write_rule.ensures
    ∙ sym (ap (λ w. lowest (fails_at scope (plain_what w) held)) c.in-Write.is
    ∙ ap (λ w. lowest (fails_at scope w held)) (what_Write c.in-Write.r c.in-Write.index c.in-Write.e))

pub returns-in-Print : goal.returns-in-Print
returns-in-Print c =
    let scope = scope_of c.args.scope.now in
    let held = pairs_in c.args.held.now in
    c.print_rule.ensures
    ∙ ap (λ es. lowest (fails_at scope (plain.Print (plain_exprs es)) held)) c.as_slice-in-Print.ensures
    ∙ sym (ap (λ w. lowest (fails_at scope (plain_what w) held)) c.in-Print.is
    ∙ ap (λ w. lowest (fails_at scope w held)) (what_Print c.in-Print.es))

pub returns-in-When : goal.returns-in-When
returns-in-When c =
    let scope = scope_of c.args.scope.now in
    let held = pairs_in c.args.held.now in
    c.choice_rule.ensures
    ∙ sym (ap (λ w. lowest (fails_at scope (plain_what w) held)) c.in-When.is
    ∙ ap (λ w. lowest (fails_at scope w held)) (what_When c.in-When.e c.in-When.field-1 c.in-When.field-2))
