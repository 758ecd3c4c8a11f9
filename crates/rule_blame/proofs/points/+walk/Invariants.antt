use Rattle.std.proofs.Common.{◌≡◌, drop}
use Rattle.std.specs.List.{Contains}
use Rattle.task_ast.specs.meaning.Held.{held_at_end}
use Rattle.task_ast.specs.View.{plain_block}
use Rattle.rule_blame.specs.Points.{Point, points_in}
use Rattle.rule_blame.specs.Views.{pairs_of}
use Rattle.rule_blame.proofs.points.+walk.Given as goal

-- what is left of the block has the points of the block, and its end
abbrev pub invariant-walk_block-loop-s : goal.invariant-walk_block-loop-s
invariant-walk_block-loop-s l = record {
  ends : held_at_end (plain_block (drop l.s-index l.block)) (pairs_of l.held.items)
      ≡ held_at_end (plain_block l.block) (pairs_of l.initial.held.items);
  among : (p : Point) → Contains (points_in (plain_block (drop l.s-index l.block)) (pairs_of l.held.items)) p
      → Contains (points_in (plain_block l.block) (pairs_of l.initial.held.items)) p;
}
