use Rattle.std.proofs.Common.{◌≡◌, None, unwrap_or, sym, subst}
use Rattle.std.specs.Prelude.{IfOk, slice_get}
use Rattle.task_ast.specs.meaning.Names.{task_number}
use Rattle.task_ast.specs.View.{plain_exprs, plain_program}
use Rattle.lock_checker.specs.Accepted.{program_of}
use Rattle.task_code.specs.Lowering.{forking}
use Rattle.task_code.specs.View.{plain_forking}
use Rattle.task_code.specs.inner.Scopes.{scope_here}
use Rattle.task_code.proofs.Forks.{task_at_place, no_task_there}
use Rattle.task_code.proofs.control.lower_fork.Goals as goal

pub known_forking-requires : goal.known_forking-requires
known_forking-requires c =
    record {
      scope = c.requires;
      within = (task_at_place c.args.t.now (plain_program (program_of c.args.scope.now.checked.now)).tasks c.in-Some.task (sym c.in-Some.ensures)).0;
    }

pub returns-in-Some : goal.returns-in-Some
returns-in-Some c =
    let s = scope_here c.args.scope.now in
    let there = task_at_place c.args.t.now s.program.tasks c.in-Some.task (sym c.in-Some.ensures) in
    subst (λ o. IfOk c.known_forking.result (λ f. plain_forking f
    ≡ forking s o (unwrap_or (task_number s.program c.args.t.now) 0) (plain_exprs c.args.es.now) c.args.into)) (sym there.1)
    (subst (λ o. IfOk c.known_forking.result (λ f. plain_forking f
    ≡ forking s (slice_get s.program.tasks c.in-Some.task) (unwrap_or o 0) (plain_exprs c.args.es.now) c.args.into))
    c.in-Some.ensures c.known_forking.ensures)

pub returns-in-None : goal.returns-in-None
returns-in-None c =
    let s = scope_here c.args.scope.now in
    subst (λ o. IfOk c.no_forking.result (λ f. plain_forking f
    ≡ forking s o (unwrap_or (task_number s.program c.args.t.now) 0) (plain_exprs c.args.es.now) c.args.into))
    (sym (no_task_there c.args.t.now s.program.tasks (sym c.in-None.ensures)))
    (subst (λ o. IfOk c.no_forking.result (λ f. plain_forking f ≡ forking s None (unwrap_or o 0) (plain_exprs c.args.es.now) c.args.into))
    c.in-None.ensures c.no_forking.ensures)
