use Rattle.std.proofs.Common.{◌<◌, rules, refl, sym, ◌∙◌}
use Rattle.std.proofs.lemmas.List.{map-append, take_all}
use Rattle.std.proofs.lemmas.List.Elements.{All-nil, All-push}
use Rattle.desk_board.specs.Held.{about}
use Rattle.subthread.specs.Tasks.{IsRun}
use Rattle.pipe_crew.proofs.Taken.{take-more}
use Rattle.pipe_crew.proofs.boards.collect.Goals as goal

pub loop-desk-preserved : goal.loop-desk-preserved
loop-desk-preserved c =
    let was = c.loop-desk.invariant in
    let collected = c.in_ok-done.ensures in
    let run = collected.run in
    let pushed = c.push_reserved.ensures.items in
    record {
      of = collected.of;
      whole = collected.whole;
      taken = collected.taken;
      count = search rules;
      room = search rules;
      tasks = rw (pushed, map-append, was.tasks, run.2.0) (sym (take-more (about c.args.board.now).jobs c.loop-desk.desk run.0 run.1));
      runs = rw pushed (All-push (IsRun (about c.args.board.now).with) c.loop-desk.runs.items c.in_ok-done.done was.runs run.2.1);
    }

pub run_at-requires-clause-of : goal.run_at-requires-clause-of
run_at-requires-clause-of c = c.loop-desk.invariant.of

pub run_at-requires-clause-whole : goal.run_at-requires-clause-whole
run_at-requires-clause-whole c = c.loop-desk.invariant.whole

pub run_at-requires-clause-first : goal.run_at-requires-clause-first
run_at-requires-clause-first c = c.loop-desk.invariant.taken

pub run_at-requires-clause-desk : goal.run_at-requires-clause-desk
run_at-requires-clause-desk c = rw c.count-desk-end.ensures at c.loop-desk-test.true

pub loop-desk-init : goal.loop-desk-init
loop-desk-init c =
    let items = c.in_ok-runs.ensures.items in
    record {
      of = c.requires.of;
      whole = c.requires.whole;
      taken = rw c.requires.first (All-nil (λ d. d < 0));
      count = c.in_ok-runs.ensures.len;
      room = search rules;
      tasks = rw items refl;
      runs = rw items (All-nil (IsRun (about c.args.board.now).with));
    }

pub returns : goal.returns
returns c =
    let was = c.loop-desk.invariant in
    record {
      tasks = was.tasks ∙ take_all c.loop-desk.desk (about c.args.board.now).jobs (rw c.count-desk-end.ensures at c.loop-desk-test.false);
      runs = was.runs;
    }
