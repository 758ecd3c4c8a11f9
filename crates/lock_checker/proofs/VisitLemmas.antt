-- The first fault of visits that follow one another.
use Rattle.std.proofs.Common.{◌≡◌, ℕ, List, [], ◌∷◌, ◌++◌, Option, Some, None, refl, ap, ◌∙◌, sym, subst}
use Rattle.task_ast.specs.declared.check_kind.CheckKind.{CheckKind}
use Rattle.task_ast.specs.meaning.Visit.{Visit, fault_at, first_fault}
use Rattle.lock_checker.specs.declared.fault.CheckFault.{CheckFault}
use Rattle.lock_checker.specs.declared.fault.CheckFault.TheVariants.{Bad, OutOfMemory}
use Rattle.lock_checker.specs.Accepted.{Told}
use Rattle.lock_checker.specs.inner.Faults.{lowest}

-- the first of two, where there is one
abbrev pub or_later : Option (CheckKind × ℕ) → Option (CheckKind × ℕ) → Option (CheckKind × ℕ)
or_later None later = later
or_later (Some f) later = Some f

-- a rule that fails at a line
abbrev pub on_line : ℕ → Option CheckKind → Option (CheckKind × ℕ)
on_line line None = None
on_line line (Some kind) = Some (kind, line)

pub fault_at-lowest : (line : ℕ) (kinds : List CheckKind) (later : Option (CheckKind × ℕ))
    → fault_at line kinds later ≡ or_later (on_line line (lowest kinds)) later
fault_at-lowest line [] later = refl
fault_at-lowest line (k ∷ kinds) later = refl

or_later-assoc : (a b c : Option (CheckKind × ℕ)) → or_later a (or_later b c) ≡ or_later (or_later a b) c
or_later-assoc None b c = refl
or_later-assoc (Some f) b c = refl

pub first_fault-append : (a b : List Visit) → first_fault (a ++ b) ≡ or_later (first_fault a) (first_fault b)
first_fault-append [] b = refl
first_fault-append (v ∷ a) b =
    ap (fault_at v.line v.fails) (first_fault-append a b)
    ∙ fault_at-lowest v.line v.fails (or_later (first_fault a) (first_fault b))
    ∙ or_later-assoc (on_line v.line (lowest v.fails)) (first_fault a) (first_fault b)
    ∙ ap (λ o. or_later o (first_fault b)) (sym (fault_at-lowest v.line v.fails (first_fault a)))

-- a fault that is found is found before all that comes later
pub told_first : (fault : CheckFault) (found later : Option (CheckKind × ℕ)) → Told fault found → Told fault (or_later found later)
told_first (Bad kind line) found later told = ap (λ o. or_later o later) told
told_first OutOfMemory found later told = tt

-- where nothing fails at first, what comes later tells all
pub found_after : (all first later : List Visit) → all ≡ first ++ later → first_fault first ≡ None → first_fault later ≡ first_fault all
found_after all first later splits none =
    sym (ap first_fault splits ∙ first_fault-append first later ∙ ap (λ o. or_later o (first_fault later)) none)

-- where something does, it tells all
pub told_before : (fault : CheckFault) (all first later : List Visit) (found : Option (CheckKind × ℕ)) → all ≡ first ++ later
    → first_fault all ≡ found → Told fault (first_fault first) → Told fault found
told_before fault all first later found splits is told =
    subst (Told fault) (sym (ap first_fault splits ∙ first_fault-append first later) ∙ is)
    (told_first fault (first_fault first) (first_fault later) told)

pub ruleset first_told = fault_at-lowest

pub ruleset inside_told = (first_fault-append, told_first)
