-- Each turn of the loop takes one piece.
use Rattle.std.proofs.Common.{◌≡◌, false, length, nat_lt, sym, arith}
use Rattle.std.proofs.lemmas.Grind.{common_steps}
use Rattle.std.proofs.lemmas.List.{take_rest}
use Rattle.gp_base.specs.declared.limits.TheConstants.{MOST_PROGRAM_BYTES}
use Rattle.task_parser.proofs.LexProgress.{skipped, taken, too_big_at, bad_at}
use Rattle.task_parser.proofs.lexer.lex.Goals as goal
use Rattle.task_parser.proofs.lexer.lex.Goals.{in-Skip, in-Take+in_ok-push-in-Take}

pub loop-from-preserved : goal.loop-from-preserved
loop-from-preserved c =
    elim c.match-piece_of.branch [
      | in-Skip w ↦ rw (c.line_ends-line.ensures, w.tokens-is, w.length-is)
          (skipped _ _ _ _ c.loop-from.invariant c.loop-from-test.true w.in-Skip.length (rw take_rest at w.in-Skip.ensures.piece))
      | in-Take+in_ok-push-in-Take w ↦ rw (c.line_ends-line.ensures, w.tokens-is, w.in_ok-push-in-Take.ensures.ok, w.length-is)
          (taken _ _ _ _ c.loop-from.invariant c.loop-from-test.true w.in-Take.kind w.in-Take.length
          (rw take_rest at w.in-Take.ensures.piece))
    ]

pub returns-in-TooBig-clause-fault : goal.returns-in-TooBig-clause-fault
returns-in-TooBig-clause-fault c =
    let short : nat_lt MOST_PROGRAM_BYTES (length c.args.bytes.now) ≡ false = grind (arith, common_steps) in
    rw short (sym (too_big_at _ _ _ _ c.loop-from.invariant c.loop-from-test.true (rw take_rest at c.in-TooBig.ensures.piece)))

pub returns-in-Bad-clause-fault : goal.returns-in-Bad-clause-fault
returns-in-Bad-clause-fault c =
    let short : nat_lt MOST_PROGRAM_BYTES (length c.args.bytes.now) ≡ false = grind (arith, common_steps) in
    rw short
    (sym (bad_at _ _ _ _ c.loop-from.invariant c.loop-from-test.true c.in-Bad.length (rw take_rest at c.in-Bad.ensures.piece)))

pub returns-clause-spans : goal.returns-clause-spans
returns-clause-spans c = c.loop-from.invariant.spans
