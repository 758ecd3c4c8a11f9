use Rattle.std.proofs.Common.{◌≡◌, ◌+◌, ◌∙◌, ◌++◌, drop, map, ap, sym, append_assoc, List, arith, rules}
use Rattle.std.specs.Prelude.{[], ◌∷◌}
use Rattle.task_ast.specs.declared.tree.Head.{Head}
use Rattle.task_ast.specs.meaning.Names.{barriers_of, natural}
use Rattle.task_ast.proofs.Arms.{from-here}
use Rattle.one_thread.proofs.cells.barrier_numbers.Goals as goal
use Rattle.one_thread.proofs.cells.barrier_numbers.Goals.{in-BarrierHead+in_ok-push, in_default}

pub loop-head-preserved : goal.loop-head-preserved
loop-head-preserved c =
    let heads = c.args.heads.now in
    let before = c.loop-head.numbers.items in
    let rest = drop (c.loop-head.head-index + 1) heads in
    let here =
    sym (from-here (λ (l : List Head). map (λ b. b.1) (barriers_of l)) heads c.loop-head.head-index c.head-item.result c.loop-head-test.true
    c.head-item.is) in
    elim c.match-head.branch [
      | in-BarrierHead+in_ok-push w ↦
          let pushed : c.match-head.numbers.items ≡ before ++ natural w.in-BarrierHead.number ∷ [] = search rules in
          ap (λ l. l ++ map (λ b. b.1) (barriers_of rest)) pushed
          ∙ append_assoc before (natural w.in-BarrierHead.number ∷ []) (map (λ b. b.1) (barriers_of rest))
          ∙ ap (λ l. before ++ l) (ap (λ (h : Head). map (λ b. b.1) (barriers_of (h ∷ rest))) (sym w.in-BarrierHead.is) ∙ here)
          ∙ c.loop-head.invariant
      | in_default w ↦
          let past : barriers_of rest ≡ barriers_of (c.head-item.result ∷ rest) = grind arith in
          ap (λ v. v.items ++ map (λ b. b.1) (barriers_of rest)) w.numbers-is
          ∙ ap (λ l. before ++ l) (ap (map (λ b. b.1)) past ∙ here)
          ∙ c.loop-head.invariant
    ]
