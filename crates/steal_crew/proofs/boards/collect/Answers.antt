use Rattle.std.proofs.Common.{rules, length, sym, ap, ◌∙◌, subst}
use Rattle.std.proofs.lemmas.List.{map-append}
use Rattle.std.proofs.lemmas.List.Elements.{All-push}
use Rattle.gp_steal.specs.Held.{about}
use Rattle.gp_steal.specs.Told.{IsWhole}
use Rattle.subthread.specs.Tasks.{IsRun}
use Rattle.steal_crew.proofs.Claimed.{take-more}
use Rattle.steal_crew.proofs.boards.collect.Goals as goal

pub run_at-requires-clause-whole : goal.run_at-requires-clause-whole
run_at-requires-clause-whole c =
    subst (IsWhole (length (about c.args.board.now).jobs)) (sym c.loop-desk.invariant.same) c.requires.whole

pub loop-desk-preserved : goal.loop-desk-preserved
loop-desk-preserved c =
    let was = c.loop-desk.invariant in
    let collected = c.in_ok-done.ensures in
    let run = collected.run in
    let pushed = c.push_reserved.ensures.items in
    let same = collected.same ∙ was.same in
    record {
      of = collected.of;
      same = same;
      taken = collected.taken;
      count = search rules;
      room = search rules;
      tasks = rw (pushed, map-append, was.tasks, run.2.0) (sym (take-more (about c.args.board.now).jobs c.loop-desk.desk run.0 run.1));
      runs = rw pushed (All-push (IsRun (about c.args.board.now).with) c.loop-desk.runs.items c.in_ok-done.done was.runs run.2.1);
      once = λ _. sym (ap (λ h. length h.claimed) same) ∙ collected.once;
    }
