-- What each of the two calls is promised to do is what is promised where it takes the words.
use Rattle.std.proofs.Common.{◌≡◌, ℕ, Bool, true, false, List, sym, subst}
use Rattle.call_cases.specs.meaning.Headline.{Call}
use Rattle.gprs_twice.specs.meaning.Promises.{logs, TwicePromised}

module _ (words : List (List ℕ)) (call : Call) where
  pub kept : (b : Bool) → logs words ≡ b → TwicePromised b call → TwicePromised (logs words) call
  kept b is promised = subst (λ b. TwicePromised b call) (sym is) promised
