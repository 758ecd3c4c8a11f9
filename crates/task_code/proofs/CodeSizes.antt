-- Each step of code but a loop turn goes forward.
use Rattle.std.proofs.Common.{◌≡◌, ℕ, zero, suc, ◌+◌, ◌-◌, ◌<◌, List, length, Option, Some, None, refl, subst, arith}
use Rattle.std.specs.Prelude.{ℤ, pos, negsuc}
use Rattle.std.proofs.lemmas.Option.{slice_get_within}
use Rattle.gp_base.specs.declared.feed.Feed.{Feed}
use Rattle.task_ast.specs.declared.sync.Next.{Next}
use Rattle.task_ast.specs.meaning.Action.{Action}
use Rattle.task_ast.specs.meaning.Body.{Step, Silent, Iteration, Act, Stop}
use Rattle.task_ast.specs.Body.{IsSized}
use Rattle.task_code.specs.Instructions.{Does, Assign, GoOn, Unless, Again, Lock, Unlock, Fork, Join, Barrier, Settle, Do, Instr, At}
use Rattle.task_code.specs.Reading.{Place, given_value, either, step_does, step_instr, instrs_of, instr_at, code_step, code_size}

module _ (tasks : List (List Instr)) (feeds : List Feed) where
  -- the place that a step without a loop turn leads to is nearer to the end than n
  data Falls (n : ℕ) : Step Place → Type 0 where
    silently : {q : Place} → code_size tasks q < n → Falls n (Silent q)
    by_turn : {q : Place} → Falls n (Iteration q)
    acting : {a : Action} {q : Place} → code_size tasks q < n → Falls n (Act a q)
    stopping : {next : Next} → Falls n (Stop next)

  falls-silent : {n : ℕ} {q : Place} → Falls n (Silent q) → code_size tasks q < n
  falls-silent (silently less) = less

  falls-act : {n : ℕ} {a : Action} {q : Place} → Falls n (Act a q) → code_size tasks q < n
  falls-act (acting less) = less

  given_falls : {A : Type 0} (n line : ℕ) (o : Option A) (go : A → Step Place) → ((v : A) → Falls n (go v))
      → Falls n (given_value line o go)
  given_falls n line None go falls = stopping
  given_falls n line (Some v) go falls = falls v

  either_falls : (n : ℕ) (v : ℤ) (a b : Step Place) → Falls n a → Falls n b → Falls n (either v a b)
  either_falls n (pos zero) a b at_a at_b = at_b
  either_falls n (pos (suc k)) a b at_a at_b = at_a
  either_falls n (negsuc k) a b at_a at_b = at_a

  does_falls : (line : ℕ) (d : Does) (q : Place) → q.at.pc < length (instrs_of tasks q.at.task)
      → Falls (length (instrs_of tasks q.at.task) - q.at.pc) (step_does feeds line d q)
  does_falls line d q within = go d within
    where
      next : (all : ℕ) → q.at.pc < all → all - (q.at.pc + 1) < all - q.at.pc
      next all within = omega arith

      far : (all n : ℕ) → q.at.pc < all → all - (q.at.pc + 1 + n) < all - q.at.pc
      far all n within = omega arith

      go : (d : Does) → q.at.pc < length (instrs_of tasks q.at.task)
          → Falls (length (instrs_of tasks q.at.task) - q.at.pc) (step_does feeds line d q)
      go (Assign k c) within = given_falls _ line _ _ (λ v. silently (next (length (instrs_of tasks q.at.task)) within))
      go (GoOn n) within = silently (far (length (instrs_of tasks q.at.task)) n within)
      go (Unless c n) within =
          given_falls _ line _ _ (λ v. either_falls _ v _ _ (silently (next (length (instrs_of tasks q.at.task)) within))
          (silently (far (length (instrs_of tasks q.at.task)) n within)))
      go (Again c n) within =
          given_falls _ line _ _ (λ v. either_falls _ v _ _ by_turn (silently (next (length (instrs_of tasks q.at.task)) within)))
      go (Lock cells i) within = given_falls _ line _ _ (λ v. stopping)
      go (Unlock cells i) within = given_falls _ line _ _ (λ v. stopping)
      go (Fork f) within = given_falls _ line _ _ (λ v. stopping)
      go (Join c into) within = given_falls _ line _ _ (λ v. stopping)
      go (Barrier b) within = stopping
      go (Settle k c) within = stopping
      go (Do x) within = given_falls _ line _ _ (λ v. acting (next (length (instrs_of tasks q.at.task)) within))

  instr_falls : (o : Option Instr) (q : Place) → instr_at tasks q q.at.pc ≡ o → Falls (code_size tasks q) (step_instr feeds o q)
  instr_falls None q is = stopping
  instr_falls (Some (At line d)) q is = does_falls line d q (slice_get_within (instrs_of tasks q.at.task) q.at.pc (At line d) is)

  pub code_sized : IsSized (code_step tasks feeds) (code_size tasks)
  code_sized = record {
    silent = λ p q is. falls-silent (subst (Falls (code_size tasks p)) is (instr_falls (instr_at tasks p p.at.pc) p refl));
    acts = λ p q a is. falls-act (subst (Falls (code_size tasks p)) is (instr_falls (instr_at tasks p p.at.pc) p refl));
  }
