-- Lines have one verdict.
use Rattle.std.proofs.Common.{◌≡◌, inl, inr, ℕ, ◌<◌, ◌≤◌, List, [], ◌∷◌, ◌++◌, length, length-append, refl, sym, ap, subst, ◌∙◌, arith, append_assoc}
use Rattle.std.proofs.lemmas.Bool.{cases_lt, cases_eq}
use Rattle.gp_base.specs.declared.fault.Fault.{Fault}
use Rattle.gp_base.specs.declared.journal.Event.{Event}
use Rattle.dependence.specs.meaning.Restarts.{Dependence}
use Rattle.dependence.specs.meaning.Journal.{initial_stage, Lawful}
use Rattle.dependence.proofs.Journals.{LawfulFrom-front}
use Rattle.gp_audit.specs.declared.line.TraceLine.{TraceLine}
use Rattle.gp_audit.specs.declared.line.TraceLine.TheVariants as line
use Rattle.gp_audit.specs.declared.verdict.Verdict.{Verdict}
use Rattle.gp_audit.specs.declared.verdict.Verdict.TheVariants.{Lawful as IsLawful, Unlawful, Incomplete}
use Rattle.gp_audit.specs.meaning.Verdicts.{IsVerdict}
use Rattle.gp_audit.specs.ToldLines.{event_of, made_after, events_from, events_of, restarts_told, TellLawful, IsFirstUnlawful, IsToldVerdict}
use Rattle.gp_audit.proofs.ToldVerdicts.{verdict-told}

told-append : (xs ys : List TraceLine) → restarts_told (xs ++ ys) ≡ restarts_told xs ++ restarts_told ys
told-append [] ys = refl
told-append (line.Issue p ∷ xs) ys = told-append xs ys
told-append (line.Post p a ∷ xs) ys = told-append xs ys
told-append (line.Take p a x ∷ xs) ys = told-append xs ys
told-append (line.Restart r ∷ xs) ys = ap (λ rs. r ∷ rs) (told-append xs ys)
told-append (line.Retire p ∷ xs) ys = told-append xs ys

events-append : (made : ℕ) (xs ys : List TraceLine) → (rest : List Event) × (events_from made (xs ++ ys) ≡ events_from made xs ++ rest)
events-append made [] ys = (events_from made ys, refl)
events-append made (x ∷ xs) ys = let h = events-append (made_after made x) xs ys in (h.0, ap (λ es. event_of made x ∷ es) h.1)

-- of two beginnings of one list, the longer begins with the shorter
front_of : {A : Type 0} (xs xs' ys ys' : List A) → xs ++ xs' ≡ ys ++ ys' → length xs ≤ length ys → (zs : List A) × (ys ≡ xs ++ zs)
front_of [] xs' ys ys' e l = (ys, refl)
front_of (x ∷ xs) xs' [] ys' e l = absurd (omega arith)
front_of (x ∷ xs) xs' (y ∷ ys) ys' e l =
    let heads : x ≡ y = cc e in
    let tails : xs ++ xs' ≡ ys ++ ys' = cc e in
    let h = front_of xs xs' ys ys' tails (omega arith) in
    let rest = h.1 in
    (h.0, λ i. sym heads i ∷ rest i)

module _ (dependence : Dependence) (faults : List Fault) where
  lawful-front : (xs ys : List TraceLine) → TellLawful dependence faults (xs ++ ys) → TellLawful dependence faults xs
  lawful-front xs ys lawful =
      let events = events-append 0 xs ys in
      record {
        lawful =
            LawfulFrom-front dependence faults initial_stage (events_of xs) events.0
            (subst (Lawful dependence faults) events.1 lawful.lawful);
        first = (
          restarts_told ys ++ lawful.first.0,
          lawful.first.1 ∙ (ap (λ rs. rs ++ lawful.first.0) (told-append xs ys)
              ∙ append_assoc (restarts_told xs) (restarts_told ys) lawful.first.0),
        );
      }

  never : (lines : List TraceLine) (n : ℕ) → TellLawful dependence faults lines → IsFirstUnlawful dependence faults lines n → ⊥
  never lines n lawful first =
      first.unlawful (lawful-front (first.before ++ first.line ∷ []) first.later
      (subst (TellLawful dependence faults) (first.lines_are ∙ sym (append_assoc first.before (first.line ∷ []) first.later)) lawful))

  not_before : (lines : List TraceLine) (n m : ℕ) → IsFirstUnlawful dependence faults lines n → IsFirstUnlawful dependence faults lines m
      → n < m → ⊥
  not_before lines n m a b l =
      let na = a.numbered in
      let nb = b.numbered in
      let long = length-append a.before (a.line ∷ []) in
      let within = front_of (a.before ++ a.line ∷ []) a.later b.before (b.line ∷ b.later)
      (append_assoc a.before (a.line ∷ []) a.later ∙ (sym a.lines_are ∙ b.lines_are)) (omega arith) in
      a.unlawful (lawful-front (a.before ++ a.line ∷ []) within.0 (subst (TellLawful dependence faults) within.1 b.lawful))

  told_once : (lines : List TraceLine) (v w : Verdict) → IsToldVerdict dependence faults lines v → IsToldVerdict dependence faults lines w
      → v ≡ w
  told_once lines IsLawful IsLawful a b = refl
  told_once lines IsLawful (Unlawful n) a b = absurd (never lines n a.0 b)
  told_once lines IsLawful Incomplete a b = absurd (b.1 a.1)
  told_once lines (Unlawful n) IsLawful a b = absurd (never lines n b.0 a)
  told_once lines (Unlawful n) Incomplete a b = absurd (never lines n b.0 a)
  told_once lines (Unlawful n) (Unlawful m) a b =
      elim (cases_lt n m) [
        | inl l ↦ absurd (not_before lines n m a b l)
        | inr h ↦ elim (cases_eq n m) [ inl same ↦ ap Unlawful same | inr other ↦ absurd (not_before lines m n b a (omega arith)) ]
      ]
  told_once lines Incomplete IsLawful a b = absurd (a.1 b.1)
  told_once lines Incomplete (Unlawful n) a b = absurd (never lines n a.0 b)
  told_once lines Incomplete Incomplete a b = refl

  pub verdict_once : (lines : List TraceLine) (v w : Verdict) → IsVerdict dependence faults lines v → IsVerdict dependence faults lines w
      → v ≡ w
  verdict_once lines v w a b =
      told_once lines v w (verdict-told dependence faults lines v a) (verdict-told dependence faults lines w b)
