use Rattle.std.proofs.Common.{◌≡◌, ◌++◌, [], map, rules, refl, sym, ap, ◌∙◌, append_assoc}
use Rattle.std.proofs.lemmas.List.{append-nil, map-append, nil_from_length, take-append-drop}
use Rattle.std.proofs.lemmas.List.Elements.{All-nil, All-append, All-take, All-drop}
use Rattle.subthread.specs.Tasks.{Fits, IsRun, task_of}
use Rattle.pipe_crew.proofs.Taken.{greater_within}
use Rattle.pipe_crew.proofs.boards.run_board.Goals as goal

pub loop-alloc-init : goal.loop-alloc-init
loop-alloc-init g c = record {
  tasks = rw (c.new-runs.ensures.items, c.into_vec-rest.ensures) refl;
  runs = rw c.new-runs.ensures.items (All-nil (IsRun c.args.work.now));
  fits = rw c.into_vec-rest.ensures c.requires;
  most = search rules;
}

pub run_some-requires-clause-fits : goal.run_some-requires-clause-fits
run_some-requires-clause-fits g c κs within =
    rw (c.from_vec-first.ensures, c.in_ok-later.ensures.items)
    (All-take (Fits c.args.work.now) _ c.loop-alloc.rest.items c.loop-alloc.invariant.fits)

pub loop-alloc-preserved : goal.loop-alloc-preserved
loop-alloc-preserved g c =
    let was = c.loop-alloc.invariant in
    let more = c.in_ok-more.ensures in
    let appended = c.in_ok-append.ensures.items in
    record {
      tasks =
          rw (
            appended,
            map-append,
            more.runs.tasks,
            c.from_vec-first.ensures,
            c.in_ok-later.ensures.items,
            c.in_ok-later.ensures.tail,
            append_assoc,
            take-append-drop,
          ) was.tasks;
      runs = rw appended (All-append (IsRun c.args.work.now) c.loop-alloc.runs.items c.in_ok-more.more.items was.runs more.runs.runs);
      fits = rw c.in_ok-later.ensures.tail (All-drop (Fits c.args.work.now) _ c.loop-alloc.rest.items was.fits);
      most = greater_within c.loop-alloc.most c.in_ok-more.passes c.max-most.result _ c.max-most.ensures was.most more.passes;
    }

pub returns-clause-runs : goal.returns-clause-runs
returns-clause-runs g c =
    let was = c.loop-alloc.invariant in
    let runs = c.loop-alloc.runs.items in
    let tasks = map (task_of c.args.work.now) runs in
    let rest = c.loop-alloc.rest.items in
    let none : rest ≡ [] = nil_from_length rest (search rules) in
    record {
      tasks = rw c.from_vec.ensures (sym (append-nil tasks) ∙ (ap (λ r. tasks ++ r) (sym none) ∙ was.tasks));
      runs = rw c.from_vec.ensures was.runs;
    }
