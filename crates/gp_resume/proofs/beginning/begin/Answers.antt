use Rattle.std.proofs.Common.{◌∙◌, ap, length, refl}
use Rattle.task_ast.specs.meaning.Names.{registers_of}
use Rattle.task_ast.specs.meaning.Plain.{main_task}
use Rattle.record_store.specs.Stored.{with_thread, without_threads}
use Rattle.subthread.specs.Tasks.{program_in}
use Rattle.gp_resume.proofs.Openings.{stands-opening}
use Rattle.gp_resume.proofs.beginning.begin.Goals as goal

pub returns : goal.returns
returns c =
    let first = c.in_ok-spots.ensures in
    stands-opening c.args.plan.now c.requires.suits c.args.cells c.requires.layout _ first.spot c.in_ok-ring.ensures first.alone first.starts
    (c.in_ok-store.ensures
    ∙ ap (λ records. with_thread (length (registers_of (main_task (program_in c.args.plan.now.work.now))))
    (without_threads records c.args.cells.under)) c.requires.records)
    refl
