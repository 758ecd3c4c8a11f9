use Rattle.std.proofs.Common.{◌≡◌, ◌<◌, ◌∙◌, ap, sym, subst}
use Rattle.task_ast.specs.Turn.{Issue, next_issue}
use Rattle.one_thread.specs.Moves.{Stepped}
use Rattle.one_thread.specs.View.{table_of, gave}
use Rattle.one_thread.proofs.Running.{issue-inside, issue-stays, issue-goes}
use Rattle.one_thread.proofs.threads.Run.next.Goals as goal

pub trace-requires-clause-exists : goal.trace-requires-clause-exists
trace-requires-clause-exists g c =
    let is : next_issue (table_of c.args.self.now.table)
    ≡ Issue c.in-Issue.t c.in-Issue.begins c.in-Issue.child (table_of c.next_issue.new.self) =
    c.in_ok-t.ensures.turn ∙ ap (λ turn. gave turn (table_of c.next_issue.new.self)) c.in-Issue.is in
    subst (λ n. c.in-Issue.t < n) (sym c.requires.alike)
    (issue-inside c.args.self.now.table c.next_issue.new.self c.in-Issue.t c.in-Issue.begins c.in-Issue.child is)

pub trace-requires-clause-seated : goal.trace-requires-clause-seated
trace-requires-clause-seated g c =
    let is : next_issue (table_of c.args.self.now.table)
    ≡ Issue c.in-Issue.t c.in-Issue.begins c.in-Issue.child (table_of c.next_issue.new.self) =
    c.in_ok-t.ensures.turn ∙ ap (λ turn. gave turn (table_of c.next_issue.new.self)) c.in-Issue.is in
    issue-stays c.args.self.now.table c.next_issue.new.self c.in-Issue.t c.in-Issue.begins c.in-Issue.child is

pub returns-in_ok-trace-in-Issue : goal.returns-in_ok-trace-in-Issue
returns-in_ok-trace-in-Issue g c = λ inputs limits plain holds.
    let is : next_issue (table_of c.args.self.now.table)
    ≡ Issue c.in-Issue.t c.in-Issue.begins c.in-Issue.child (table_of c.next_issue.new.self) =
    c.in_ok-t.ensures.turn ∙ ap (λ turn. gave turn (table_of c.next_issue.new.self)) c.in-Issue.is in
    issue-goes c.args.self.now.program.now.program inputs limits c.args.self.now plain holds c.next_issue.new.self c.in-Issue.t
    c.in-Issue.begins c.in-Issue.child
    c.begun_by.result c.trace.new.self c.in_ok-t.ensures.held c.in_ok-t.ensures.walks c.requires.alike is
    (subst (λ step. Stepped (record c.args.self.now { table = c.next_issue.new.self }) c.in-Issue.t c.in-Issue.begins c.in-Issue.child step
    c.trace.new.self) (sym c.begun_by.ensures) c.in_ok-trace-in-Issue.ensures)
