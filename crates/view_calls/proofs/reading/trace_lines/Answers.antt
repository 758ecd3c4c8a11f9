use Rattle.std.proofs.Common.{ℕ, List, [], ◌∷◌, subst}
use Rattle.call_cases.specs.Decided.{work_of}
use Rattle.call_cases.specs.Refusals.{ReadsAmong}
use Rattle.view_calls.proofs.Readings.{file_told, unread_told}
use Rattle.view_calls.proofs.reading.trace_lines.Goals as goal

pub returns-in-Err-clause-told : goal.returns-in-Err-clause-told
returns-in-Err-clause-told g c = λ names position.
    unread_told names c.args.name.now position (work_of c.args.request.now) (List ℕ) (g.H.Shelf.files c.args.shelf.now)
    (g.H.Shelf.failed c.args.shelf.now) (g.H.Shelf.failed c.read_file.new.shelf)
    c.in-Err.refusal c.in-Err.ensures.told c.in-Err.ensures.failed

pub returns-clause-told : goal.returns-clause-told
returns-clause-told g c = λ names position.
    file_told names c.args.name.now position (work_of c.args.request.now)
    (g.H.Shelf.files c.args.shelf.now) c.in-Ok.text c.lines_in.result c.in-Ok.ensures.told
    (c.lines_in.ensures.told names position)

pub returns-clause-failed : goal.returns-clause-failed
returns-clause-failed g c =
    let failed = g.H.Shelf.failed c.read_file.new.shelf in
    subst (λ before. ReadsAmong (c.args.name.now ∷ []) before failed c.lines_in.result) c.in-Ok.ensures.failed
    (c.lines_in.ensures.unread (c.args.name.now ∷ []) failed)
