use Rattle.std.proofs.Common.{rules, ◌≡◌, ◌++◌, ℕ, List, inl, sym, subst}
use Rattle.command_line.specs.meaning.Words.{texts}
use Rattle.call_cases.specs.meaning.Work.{Files}
use Rattle.memory_batch.specs.Runs.{IsRunOver}
use Rattle.memory_batch.specs.Comes.{ComesTo}
use Rattle.memory_batch.proofs.Joins.{comes_to}
use Rattle.memory_batch.proofs.batch.finish.Goals as goal

pub returns-clause-finished : goal.returns-clause-finished
returns-clause-finished g c =
    let words = texts c.args.words.now in
    let files = c.args.own.now ++ c.args.tables.now in
    let ended = c.in_ok-ended.ended in
    let finished = c.in-Some-2.finished in
    let zero : ended.status ≡ 0 = search rules in
    let same : c.in-Some.files ≡ files = rw c.in-Some.is at c.in_ok-files.ensures.files in
    let ran : IsRunOver words files ended = subst (λ (fs : Files). IsRunOver words fs ended) same c.in_ok-ended.ensures in
    let told = rw c.in-Some-2.is at c.in_ok-finished.ensures in
    let comes = comes_to words files c.in-Some-run_asked.request ended finished.lines finished.cells (ran.whole (inl zero)) c.in-Some-run_asked.ensures.case
    c.in-Some-run_asked.ensures.run told.0 in
    subst (λ (t : List ℕ). ComesTo words files finished.lines finished.cells t) (sym told.1) comes
