use Rattle.std.proofs.Common.{◌≡◌, ◌∙◌, ◌<◌, take, drop, ◌+◌, arith, sym}
use Rattle.task_ast.specs.View.{plain_program}
use Rattle.rule_blame.specs.Blames.{count_with, limit_of}
use Rattle.rule_blame.proofs.Blaming.{split_at, head_passes}
use Rattle.rule_blame.proofs.heads.too_many.Goals as goal

pub returns-then-count-limit_of : goal.returns-then-count-limit_of
returns-then-count-limit_of c =
    let heads = c.as_slice-heads.result.now in
    let at = c.loop-at.at in
    let head = c.index-heads-at.result in
    let count : c.in_ok-count.count ≡ count_with (take at heads) head = c.in_ok-count.ensures in
    let more : limit_of head < count_with (take at heads) head = omega (arith, c.if-count-limit_of.true, c.limit_of.ensures, count) in
    rw (c.many_of.ensures, c.head_name.ensures, count)
    (head_passes (plain_program c.args.program.now) c.args.line (take at heads) head (drop (at + 1) heads)
    (sym c.as_slice-heads.ensures ∙ split_at heads at head c.loop-at-test.true c.index-heads-at.is)
    (sym c.head_line.ensures ∙ c.if-head_line-line.true) more)
