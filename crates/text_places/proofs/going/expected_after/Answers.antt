use Rattle.std.proofs.Common.{◌≡◌, sym, subst, arith}
use Rattle.text_places.specs.Expected.{AreExpected, GoesOn, kind_of}
use Rattle.text_places.proofs.NextTokens.{none_yet, one_more, no_more}
use Rattle.text_places.proofs.going.expected_after.Goals as goal
use Rattle.text_places.proofs.going.expected_after.Goals.{then-branch+in_ok-push, else-branch}

pub loop-number-init : goal.loop-number-init
loop-number-init c =
    subst (AreExpected c.args.text.now c.args.front.now 0) (sym c.new-kinds.ensures.items) (none_yet c.args.text.now c.args.front.now)

pub loop-number-preserved : goal.loop-number-preserved
loop-number-preserved c =
    let text = c.args.text.now in
    let front = c.args.front.now in
    let number = c.loop-number.number in
    let kind : c.kind_of-kind.result ≡ kind_of number = c.kind_of-kind.ensures in
    let answer = c.in_ok-goes_on.ensures in
    elim c.if-branch.branch [
      | then-branch+in_ok-push w ↦
          let goes : GoesOn text front (kind_of number) = subst (GoesOn text front) kind (answer.0 w.if-branch.true) in
          rw (w.kinds-is, w.in_ok-push.ensures.items, kind)
          (one_more text front number c.loop-number.kinds.items c.loop-number.invariant goes)
      | else-branch w ↦
          rw w.kinds-is (no_more text front number c.loop-number.kinds.items c.loop-number.invariant
          (λ g. let yes = answer.1 (subst (GoesOn text front) (sym kind) g) in absurd (cc w.if-branch.false)))
    ]

pub returns : goal.returns
returns c =
    let all : c.loop-number.number ≡ 49 = omega arith in
    subst (λ n. AreExpected c.args.text.now c.args.front.now n c.loop-number.kinds.items) all c.loop-number.invariant
