-- What two of three walks come to is right, where no two err alike.
use Rattle.std.proofs.Common.{◌≡◌, ◌⊎◌, inl, inr, ℕ, ◌<◌, List, [], length, Option, Some, None, IfSome, unwrap_or, Result, Ok, Err, IfOk, arith, sym, subst}
use Rattle.record_store.specs.declared.given.Bundle.{Bundle}
use Rattle.subthread.specs.declared.flaw.Flaw.{Flaw}
use Rattle.subthread.specs.declared.flaw.Made.{Made}
use Rattle.subthread.specs.declared.ground.Ground.{Ground}
use Rattle.subthread.specs.declared.task.Work.{Work}
use Rattle.subthread.specs.declared.task.Task.{Task}
use Rattle.subthread.specs.declared.attempts.Walk.{Walk}
use Rattle.subthread.specs.meaning.Flaws.{Strikes, Spares}
use Rattle.subthread.specs.inner.Running.{Holds}
use Rattle.subthread.specs.inner.Attempts.{IsWalk, IsRight, Makes, erring, right, IsAgreed, flaws_of, made_of}

-- a machine that never errs is spared
pub none_spared : Spares []
none_spared p a j k made flaw too = absurd (let less = flaw.1 in omega arith)

spared_flaws : (flaws : Option (List Flaw)) → IfSome flaws Spares → Spares (unwrap_or flaws [])
spared_flaws (Some flaws) spares = spares
spared_flaws None spares = none_spared

module _ (work : Work) (task : Task) where
  agreed_right : (made : Made) → Spares (flaws_of work) → IsAgreed work task made → IsRight work task made
  agreed_right made spares agreed = go agreed.of_one agreed.of_other
    where
      go : Makes work task agreed.one made → Makes work task agreed.other made → IsRight work task made
      go (right none is) other = is
      go (erring flaw) (right none is) = is
      go (erring flaw) (erring too) =
          absurd (let same = spares task.pos task.attempt agreed.one agreed.other made flaw too in omega (arith, same, agreed.apart))

  -- a walk to which two come is the task's
  pub agreed_walk : (ground : Ground) (walk : Walk) → IfSome work.recheck Spares → IsAgreed work task (made_of walk) → Holds ground walk.doing
      → IsWalk work task ground walk
  agreed_walk ground walk spares agreed holds = record { walked = agreed_right (made_of walk) (spared_flaws work.recheck spares) agreed; holds = holds }

  -- a walk that no flaw can strike
  pub agreed_once : (ground : Ground) (walk : Walk) → work.recheck ≡ None → IsWalk work task ground walk
      → IsAgreed work task (made_of walk)
  agreed_once ground walk none is =
      record {
        one = 0;
        other = 1;
        apart = omega arith;
        among = omega arith;
        of_one = right (unstruck 0) is.walked;
        of_other = right (unstruck 1) is.walked;
      }
    where
      unstruck : (k : ℕ) (made : Made) → Strikes (flaws_of work) task.pos task.attempt k made → ⊥
      unstruck k made strikes = let less = subst (λ (flaws : Option (List Flaw)). strikes.0 < length (unwrap_or flaws [])) none strikes.1 in omega (arith, less)

  -- two walks come to what both of these are
  both : (one other : ℕ) (first made : Made) → one < other → other < 3 → made ≡ first → Makes work task one first
      → Makes work task other made → IsAgreed work task made
  both one other first made apart among same of_first of_other =
      record {
        one = one;
        other = other;
        apart = apart;
        among = among;
        of_one = subst (Makes work task one) (sym same) of_first;
        of_other = of_other;
      }

  -- the third left what one of them did
  pub third_agrees : (r : Result Walk (List Bundle)) (third : Walk) (one two : Made) → IfOk r (λ walk. walk ≡ third)
      → IfOk r (λ walk. (made_of walk ≡ one) ⊎ (made_of walk ≡ two)) → Makes work task 0 one → Makes work task 1 two
      → Makes work task 2 (made_of third) → IfOk r (λ walk. IsAgreed work task (made_of walk))
  third_agrees (Err bundles) third one two same like first second made = tt
  third_agrees (Ok walk) third one two same like first second made = go like
    where
      now : Makes work task 2 (made_of walk)
      now = subst (λ (w : Walk). Makes work task 2 (made_of w)) (sym same) made

      go : (made_of walk ≡ one) ⊎ (made_of walk ≡ two) → IsAgreed work task (made_of walk)
      go (inl is) = both 0 2 one (made_of walk) (omega arith) (omega arith) is first now
      go (inr is) = both 1 2 two (made_of walk) (omega arith) (omega arith) is second now
