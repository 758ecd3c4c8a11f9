use Rattle.std.proofs.Common.{◌∙◌, List, ℕ, ap, subst}
use Rattle.std.specs.declared.option.Option.TheVariants.{Some}
use Rattle.command_line.specs.declared.asked.Asked.{Asked}
use Rattle.call_cases.specs.Decided.{program_in, files_read, work_of}
use Rattle.call_cases.specs.Refusals.{RefusesShelf}
use Rattle.resume_calls.specs.meaning.ResumeCommands.{MayRead}
use Rattle.resume_calls.proofs.HaltedCases.{run_refuses, text_read, file_refuses, run_reads, log_reads}
use Rattle.resume_calls.proofs.reading.read_resumed.Goals as goal

pub returns-in-Err-clause-shelf : goal.returns-in-Err-clause-shelf
returns-in-Err-clause-shelf g c =
    run_reads c.args.resumed (g.H.Shelf.failed c.args.shelf.now)
    (g.H.Shelf.failed c.read_asked.new.shelf) c.in-Err.refusal c.in-Err.ensures.shelf

pub returns-in-Err-clause-case : goal.returns-in-Err-clause-case
returns-in-Err-clause-case g c =
    λ reader. run_refuses c.args.resumed (g.H.Shelf.files c.args.shelf.now) c.in-Err.refusal c.in-Err.ensures.case

pub returns-in-Ok-read_file-clause-shelf : goal.returns-in-Ok-read_file-clause-shelf
returns-in-Ok-read_file-clause-shelf g c = c.in-Ok-read_file.ensures.failed ∙ c.in-Ok.ensures.shelf

pub returns-in-Ok-read_file-clause-case : goal.returns-in-Ok-read_file-clause-case
returns-in-Ok-read_file-clause-case g c = λ reader.
    let request = c.in-Ok.request in
    text_read reader c.args.resumed (g.H.Shelf.files c.args.shelf.now) (g.H.Shelf.files c.read_asked.new.shelf)
    (files_read request.asked (program_in request)) (work_of request)
    c.in-Ok-read_file.text c.in-Ok.ensures.kept c.in-Ok.ensures.case c.in-Ok-read_file.ensures.told

pub returns-in-Ok-read_file-clause-resumed : goal.returns-in-Ok-read_file-clause-resumed
returns-in-Ok-read_file-clause-resumed g c = ap (λ (asked : Asked). record { run = asked; log = c.args.resumed.log }) c.in-Ok.ensures.asked

pub returns-in-Err-read_file-clause-shelf : goal.returns-in-Err-read_file-clause-shelf
returns-in-Err-read_file-clause-shelf g c =
    subst (λ before. RefusesShelf MayRead (Some c.args.resumed) before (g.H.Shelf.failed c.read_file.new.shelf) c.in-Err-read_file.refusal)
    c.in-Ok.ensures.shelf
    (log_reads c.args.resumed (g.H.Shelf.failed c.read_asked.new.shelf) (g.H.Shelf.failed c.read_file.new.shelf)
    (List ℕ) c.in-Err-read_file.refusal c.in-Err-read_file.ensures.failed)

pub returns-in-Err-read_file-clause-case : goal.returns-in-Err-read_file-clause-case
returns-in-Err-read_file-clause-case g c = λ reader.
    let request = c.in-Ok.request in
    file_refuses c.args.resumed (List ℕ) (g.H.Shelf.files c.args.shelf.now) (g.H.Shelf.files c.read_asked.new.shelf)
    (files_read request.asked (program_in request)) (work_of request)
    (g.H.Shelf.failed c.read_asked.new.shelf)
    (g.H.Shelf.failed c.read_file.new.shelf) c.in-Err-read_file.refusal c.in-Ok.ensures.kept c.in-Ok.ensures.case
    c.in-Err-read_file.ensures.told c.in-Err-read_file.ensures.failed
