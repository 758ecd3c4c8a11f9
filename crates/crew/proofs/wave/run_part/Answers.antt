use Rattle.std.proofs.Common.{◌++◌, map, refl, ap, sym, ◌∙◌}
use Rattle.std.proofs.lemmas.List.{append-nil, nil_from_length}
use Rattle.std.proofs.lemmas.List.Elements.{All-nil, All-head, All-push, All-tail}
use Rattle.subthread.specs.Tasks.{Fits, IsRun, task_of}
use Rattle.crew.proofs.Parts.{one_more}
use Rattle.crew.proofs.wave.run_part.Goals as goal

pub loop-task-preserved : goal.loop-task-preserved
loop-task-preserved g c =
    let w = c.args.work.now in
    let t = c.in-Some.task in
    let done = c.in_ok-done.done in
    let before = c.loop-task.runs.items in
    let rest = c.next.new.self.rest.items in
    let front = c.in-Some.ensures.steps.0 in
    let pushed = c.in_ok-push.ensures.items in
    record {
      tasks = rw pushed (one_more w before done t rest c.args.part c.in_ok-done.ensures.0 (rw front at c.loop-task.invariant.tasks));
      runs = rw pushed (All-push (IsRun w) before done c.loop-task.invariant.runs c.in_ok-done.ensures.1);
      fits = All-tail (Fits w) t rest (rw front at c.loop-task.invariant.fits);
    }

pub loop-task-init : goal.loop-task-init
loop-task-init g c =
    let gives = c.into_iter-task-iterator.ensures.into_iter_gives.0 in
    let whole = c.into_vec-task-items.ensures in
    let runs = c.in_ok-runs.ensures.items in
    record {
      tasks = rw (runs, gives, whole) refl;
      runs = rw runs (All-nil (IsRun c.args.work.now));
      fits = rw (gives, whole) c.requires;
    }

pub run_noted-requires : goal.run_noted-requires
run_noted-requires g c =
    All-head (Fits c.args.work.now) c.in-Some.task c.next.new.self.rest.items (rw c.in-Some.ensures.steps.0 at c.loop-task.invariant.fits)

pub returns : goal.returns
returns g c =
    let w = c.args.work.now in
    let runs = c.loop-task.runs.items in
    let none = nil_from_length c.loop-task.task-iterator.rest.items (sym c.loop-task.task-iterator.rest.ok.0 ∙ c.in-None.ensures.steps.0) in
    rw c.from_vec.ensures (record {
      tasks = sym (append-nil (map (task_of w) runs)) ∙ (ap (λ r. map (task_of w) runs ++ r) (sym none) ∙ c.loop-task.invariant.tasks);
      runs = c.loop-task.invariant.runs;
    })
