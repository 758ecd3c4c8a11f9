-- Jobs in slots, and back: `todo` is the slot that holds a job.
use Rattle.std.proofs.Common.{◌≡◌, ℕ, zero, suc, List, [], ◌∷◌, ◌++◌, map, refl, ap, arith}
use Rattle.std.specs.Prelude.{slice_get, Option, Some, None}
use Rattle.std.proofs.lemmas.Option.{slice_get_within}
use mathlib.Core.Option.{some}
use mathlib.Core.Option as maybe
use lib.ListN.{get_elem?}

module _ {J S : Type 0} (todo : J → S) where
  -- each slot that was laid out holds a job
  pub holds_job : (front : List S) (s : S) (back : List S) (js : List J) → front ++ s ∷ back ≡ map todo js → (j : J) × (s ≡ todo j)
  holds_job [] s back [] e = absurd (cc)
  holds_job [] s back (j ∷ js) e = (j, cc)
  holds_job (f ∷ fs) s back [] e = absurd (cc)
  holds_job (f ∷ fs) s back (j ∷ js) e = holds_job fs s back js (cc)

  pub laid_once : ((a b : J) → todo a ≡ todo b → a ≡ b) → (xs ys : List J) → map todo xs ≡ map todo ys → xs ≡ ys
  laid_once same [] [] e = refl
  laid_once same [] (y ∷ ys) e = absurd (cc)
  laid_once same (x ∷ xs) [] e = absurd (cc)
  laid_once same (x ∷ xs) (y ∷ ys) e =
      let head : todo x ≡ todo y = cc in let tail : map todo xs ≡ map todo ys = cc in
      let first = same x y head in let rest = laid_once same xs ys tail in cc

  -- slot k holds job k
  pub laid_at : (js : List J) (k : ℕ) (job : J) → slice_get js k ≡ Some job → get_elem? (map some (map todo js)) k ≡ some (some (todo job))
  laid_at [] k job e = absurd (let h = slice_get_within [] k job e in omega arith)
  laid_at (j ∷ js) zero job e =
      ap (λ (o : Option J). let x : maybe.Option (maybe.Option S) =
      elim o [ None ↦ some (some (todo j)) | Some y ↦ some (some (todo y)) ] in x) e
  laid_at (j ∷ js) (suc k) job e = laid_at js k job e
