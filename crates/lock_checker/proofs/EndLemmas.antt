-- The ends of statements with blocks.
use Rattle.std.proofs.Common.{◌≡◌, ℕ, List, [], ◌∷◌, ◌++◌, Bool, true, false, Some, None, refl, ap, ◌∙◌, sym, subst}
use Rattle.std.specs.Prelude.{not, if◌then◌else◌}
use Rattle.task_ast.specs.declared.check_kind.CheckKind.TheVariants.{BranchesDiffer}
use Rattle.task_ast.specs.meaning.Held.{Pair, same_pairs}
use Rattle.task_ast.specs.meaning.Visit.{Visit, visit, fails_if, first_fault}
use Rattle.lock_checker.specs.declared.fault.CheckFault.{CheckFault}
use Rattle.lock_checker.specs.Accepted.{Told}
use Rattle.lock_checker.specs.inner.Pairs.{Leads, HaveSame, Moves, TellsAlike}
use Rattle.lock_checker.proofs.ChangeLemmas.{leads_same}
use Rattle.lock_checker.proofs.SamePairs.{same_from_test}
use Rattle.lock_checker.proofs.VisitLemmas.{or_later, first_fault-append, told_first}

none_both : (earlier visits : List Visit) → first_fault earlier ≡ None → first_fault visits ≡ None → first_fault (earlier ++ visits) ≡ None
none_both earlier visits first later_none = first_fault-append earlier visits ∙ ap (λ o. or_later o (first_fault visits)) first ∙ later_none

-- a fault in between is found before what comes later
pub told_between : (fault : CheckFault) (earlier visits later : List Visit) → first_fault earlier ≡ None → Told fault (first_fault visits)
    → Told fault (first_fault ((earlier ++ visits) ++ later))
told_between fault earlier visits later none told =
    subst (Told fault) (sym (first_fault-append (earlier ++ visits) later
    ∙ ap (λ o. or_later o (first_fault later))
    (first_fault-append earlier visits ∙ ap (λ o. or_later o (first_fault visits)) none)))
    (told_first fault (first_fault visits) (first_fault later) told)

-- a fault at first is found before all that comes later
pub told_early : (fault : CheckFault) (first second later : List Visit) → Told fault (first_fault first)
    → Told fault (first_fault ((first ++ second) ++ later))
told_early fault first second later told =
    subst (Told fault) (sym (first_fault-append (first ++ second) later))
    (told_first fault (first_fault (first ++ second)) (first_fault later)
    (subst (Told fault) (sym (first_fault-append first second)) (told_first fault (first_fault first) (first_fault second) told)))

-- visits after which nothing is tested
pub none_after : (line : ℕ) (earlier visits : List Visit) → first_fault earlier ≡ None → first_fault visits ≡ None
    → first_fault ((earlier ++ visits) ++ visit line [] ∷ []) ≡ None
none_after line earlier visits first later_none =
    none_both (earlier ++ visits) (visit line [] ∷ []) (none_both earlier visits first later_none) refl

module _ (line : ℕ) (alike : Bool) (old new first second : List Pair) (earlier visits : List Visit) (a b : List Pair)
    (tells : TellsAlike alike first second) (to_a : Leads old first a) (to_b : Moves old second new b) where
  is_same : alike ≡ same_pairs a b
  is_same = tells old a b to_a (leads_same old old new b second to_b.0 (λ q. refl) to_b.1)

  -- the end of two branches, after visits without a fault
  pub end_told : first_fault earlier ≡ None → first_fault visits ≡ None
      → first_fault ((earlier ++ visits) ++ visit line (fails_if (not (same_pairs a b)) BranchesDiffer) ∷ [])
      ≡ (if alike then None else Some (BranchesDiffer, line))
  end_told none later_none =
      ap (λ t. first_fault ((earlier ++ visits) ++ visit line (fails_if (not t) BranchesDiffer) ∷ [])) (sym is_same)
      ∙ first_fault-append (earlier ++ visits) (visit line (fails_if (not alike) BranchesDiffer) ∷ [])
      ∙ ap (λ o. or_later o (first_fault (visit line (fails_if (not alike) BranchesDiffer) ∷ [])))
      (none_both earlier visits none later_none)
      ∙ by alike
    where
      by : (t : Bool) → first_fault (visit line (fails_if (not t) BranchesDiffer) ∷ []) ≡ (if t then None else Some (BranchesDiffer, line))
      by true = refl
      by false = refl

  -- where they end alike, what is held is that of both
  pub both_held : alike ≡ true → HaveSame new a
  both_held is q = to_b.1 q ∙ sym ((same_from_test a b (sym is_same ∙ is)).members q)

-- nothing was changed, from a list to another with the same members
pub unchanged : (old new changes : List Pair) → Moves old changes old old → HaveSame new old → Moves old changes new old
unchanged old new changes none same = (leads_same old old old new changes none.0 (λ q. refl) (λ q. sym (same q)), same)
