use Rattle.std.proofs.Common.{◌∙◌, ap, arith}
use Rattle.gp_base.specs.declared.ending.End.TheVariants.{Finished}
use Rattle.task_ast.specs.meaning.Repeat.{go_on}
use Rattle.task_ast.specs.Turn.{Ended, turn, turns_left, next_issue}
use Rattle.task_ast.proofs.Turns.{turn-IsFalling, next_issue_step}
use Rattle.one_thread.specs.View.{table_of, gives}
use Rattle.one_thread.proofs.Turning.{last-turn}
use Rattle.one_thread.proofs.seats.Table.next_issue.Goals as goal

pub loop-self-smaller : goal.loop-self-smaller
loop-self-smaller c =
    let falls =
    turn-IsFalling.falls (table_of c.skip.new.self) (table_of c.turn.new.self)
    (c.in_ok-turn.ensures.turn ∙ ap (λ r. gives r (table_of c.turn.new.self)) c.in-Pass.is) in
    let left = c.in_ok-skip.ensures.left in
    omega (arith, falls, left)

pub loop-self-preserved : goal.loop-self-preserved
loop-self-preserved c = record {
  same =
      c.loop-self.invariant.same ∙ c.in_ok-skip.ensures.issue ∙ next_issue_step (table_of c.skip.new.self)
      ∙ ap (go_on turn turns_left (Ended Finished) next_issue)
      (c.in_ok-turn.ensures.turn ∙ ap (λ r. gives r (table_of c.turn.new.self)) c.in-Pass.is);
  held = c.in_ok-turn.ensures.held;
  walks = c.in_ok-turn.ensures.walks;
}

pub returns-in_default : goal.returns-in_default
returns-in_default c = record {
  turn =
      c.loop-self.invariant.same ∙ c.in_ok-skip.ensures.issue ∙ next_issue_step (table_of c.skip.new.self)
      ∙ ap (go_on turn turns_left (Ended Finished) next_issue) c.in_ok-turn.ensures.turn
      ∙ last-turn c.in_ok-turn.turn (table_of c.turn.new.self) c.in_default.not-Pass;
  held = c.in_ok-turn.ensures.held;
  walks = c.in_ok-turn.ensures.walks;
}
