-- How a run comes to a position.
use Rattle.std.proofs.Common.{◌≡◌, ℕ, zero, suc, ◌+◌, ◌-◌, ◌<◌, ◌≤◌, length, refl, sym, ap, ◌∙◌, arith}
use Rattle.gp_base.specs.declared.ending.End.{End}
use Rattle.gp_base.specs.declared.limits.Limits.{Limits}
use Rattle.gp_base.specs.declared.feed.Inputs.{Inputs}
use Rattle.task_ast.specs.declared.tree.Program.{Program as Code}
use Rattle.task_ast.specs.meaning.Repeat.{steps, state_after}
use Rattle.task_ast.specs.Plain.{Plain, move, opening, order}
use Rattle.task_ast.specs.Position.{before}
use Rattle.task_ast.specs.View.{plain_program}
use Rattle.one_thread.specs.declared.threads.Run.{Run}
use Rattle.one_thread.specs.declared.run.Step.{Step}
use Rattle.one_thread.specs.Runs.{Holds}
use Rattle.one_thread.specs.Moves.{Went, Halted}
use Rattle.one_thread.proofs.Running.{state-goes, steps-goes, steps-ends, ahead-start}

module _ (code : Code) (inputs : Inputs) (limits : Limits) (position : ℕ) where
  -- so many subthreads are performed, and those up to the position lead to the state before it
  pub record Nears (at : ℕ) (run : Run) : Type 0 where
    pub plain : Plain
    pub left : ℕ
    pub holds : Holds code inputs limits run plain
    pub alike : length run.threads.items ≡ length run.table.seats.items
    pub order_is : at + length (steps (move (plain_program code) inputs limits) left plain)
        ≡ length (order (plain_program code) inputs limits)
    pub last_is : state_after (move (plain_program code) inputs limits) (position - at) plain
        ≡ before (plain_program code) inputs limits position
    pub count_is : left + plain.table.issued ≡ suc limits.subthreads
    pub limit_is : plain.table.limit ≡ limits.subthreads

  pub nears-more : (at : ℕ) (step : Step) (old new : Run) → at < position → (nears : Nears at old)
      → Went code inputs limits nears.plain step new → Nears (at + 1) new
  nears-more at step old new below nears went = go nears.left refl
    where
      go : (left : ℕ) → nears.left ≡ left → Nears (at + 1) new
      go zero is = absurd (let c = nears.count_is in let b = went.below in let l = nears.limit_is in omega arith)
      go (suc l) is =
          let less : position - at ≡ suc (position - (at + 1)) = omega arith in
          let one : length (steps (move (plain_program code) inputs limits) nears.left nears.plain)
          ≡ suc (length (steps (move (plain_program code) inputs limits) l went.then)) =
          ap (λ n. length (steps (move (plain_program code) inputs limits) n nears.plain)) is
          ∙ ap length (steps-goes code inputs limits l nears.plain went.then went.subthread went.moves) in
          record {
            plain = went.then;
            left = l;
            holds = went.holds;
            alike = went.alike;
            order_is = let o = nears.order_is in omega arith;
            last_is =
                sym (ap (λ n. state_after (move (plain_program code) inputs limits) n nears.plain) less
                ∙ state-goes code inputs limits (position - (at + 1)) nears.plain went.then went.subthread went.moves)
                ∙ nears.last_is;
            count_is = let c = nears.count_is in let i = went.issued_is in omega arith;
            limit_is = went.limit_is ∙ nears.limit_is;
          }

  -- where no more is left to the position, it stands as the run does before it
  pub nears-there : (at : ℕ) (run : Run) → position ≤ at → (nears : Nears at run)
      → nears.plain ≡ before (plain_program code) inputs limits position
  unfolding state_after
  nears-there at run past nears =
      let none : position - at ≡ 0 = omega (arith, past) in
      sym (ap (λ n. state_after (move (plain_program code) inputs limits) n nears.plain) none) ∙ nears.last_is

  -- a run that ends before the position is shorter than that
  pub nears-short : (at : ℕ) (run : Run) (e : End) → at < position → (nears : Nears at run) → Halted code inputs limits nears.plain e
      → length (order (plain_program code) inputs limits) < position
  nears-short at run e below nears halted =
      let o = nears.order_is in
      let none = ap length (steps-ends code inputs limits nears.left nears.plain e halted.moves) in
      omega arith

  pub nears-start : (run : Run) → Holds code inputs limits run (opening (plain_program code) inputs limits) → Nears 0 run
  nears-start run holds =
      let whole : position - 0 ≡ position = omega arith in
      record {
        plain = opening (plain_program code) inputs limits;
        left = suc limits.subthreads;
        holds = holds;
        alike = (ahead-start code inputs limits run holds).alike;
        order_is = omega arith;
        last_is =
            ap (λ n. state_after (move (plain_program code) inputs limits) n (opening (plain_program code) inputs limits)) whole;
        count_is = omega arith;
        limit_is = refl;
      }
