-- Whether the block of a position is open and whether it is looked at, as it is counted how many positions are applied
-- before the first that is not.
use Rattle.std.proofs.Common.{◌≡◌, ◌↔◌, inl, inr, ℕ, ◌+◌, ◌<◌, ◌≤◌, true, List, refl, sym, ◌∙◌, arith}
use Rattle.std.proofs.lemmas.Bool.{cases_lt, leb-true, le-leb, false≢true}
use Rattle.gp_base.specs.declared.fault.Fault.{Fault}
use Rattle.task_ast.specs.meaning.State.{State}
use Rattle.task_ast.specs.meaning.Plain.{Subthread}
use Rattle.dependence.specs.meaning.Journal.{Stage}
use Rattle.dependence.specs.meaning.Runs.{dependence_of}
use Rattle.rollback.specs.meaning.Cuts.{cut_at, cuts_of}
use Rattle.rollback.specs.Driving.{multiple_at}
use Rattle.rollback.proofs.Backs.{cut-rises}
use Rattle.rollback.proofs.Multiples.{whole-cut}
use Rattle.record_store.specs.Stored.{Stored}
use Rattle.reorder_list.specs.declared.entry.Entry.{Entry}
use Rattle.whole_run.specs.declared.recovery.Recovery.{Recovery}
use Rattle.whole_run.specs.declared.recovery.Recovery.TheVariants.{Selective, Rollback}
use Rattle.whole_run.specs.declared.parts.closing.TheConstants.{WINDOW}
use Rattle.whole_run.specs.declared.parts.backing.Backup.{Backup}
use Rattle.whole_run.specs.Gives.{BlockIsOpen, IsNear}
use Rattle.whole_run.specs.inner.Backed.{is_open, window_end, BackedBy, StandsBy}

-- the block of an earlier position is open where that of a later one is
pub open-earlier : (recovery : Recovery) (run : List Subthread) (at : Stage) (p q : ℕ) → p ≤ q → BlockIsOpen recovery run at q
    → BlockIsOpen recovery run at p
open-earlier Selective run at p q before whole = tt
open-earlier (Rollback every) run at p q before whole =
    λ r below. whole r (let rises = cut-rises (cuts_of every run) p q before in omega arith)

-- the count tells whether it is open
pub open-is : (recovery : Recovery) (run : List Subthread) (faults : List Fault) (start : State) (at : Stage) (entries : List Entry)
    (store : Stored) (backup : Backup) → StandsBy run faults recovery at → BackedBy run faults start recovery at entries store backup
    → (p : ℕ) → p < at.progress.front → (is_open recovery backup.whole p ≡ true) ↔ BlockIsOpen recovery run at p
open-is Selective run faults start at entries store backup stands backed p issued = ((λ h. tt), (λ h. refl))
open-is (Rollback every) run faults start at entries store backup stands backed p issued = (
  (λ h. whole.1
      (λ q below. backed.whole.below q (let within = leb-true (multiple_at every p) backup.whole h in omega arith))),
  counted,
)
  where
    whole : ((q : ℕ) → q < cut_at (cuts_of every run) p → at.applied q ≡ true) ↔ ((q : ℕ) → q < multiple_at every p → at.applied q ≡ true)
    whole = whole-cut every stands.2 (dependence_of run) at stands.1 stands.0.stands.retired_applied p issued

    counted : BlockIsOpen (Rollback every) run at p → is_open (Rollback every) backup.whole p ≡ true
    counted all = elim (cases_lt backup.whole (multiple_at every p)) [
      | inl short ↦ absurd (false≢true (sym backed.whole.next ∙ whole.0 all backup.whole short))
      | inr within ↦ le-leb (multiple_at every p) backup.whole within
    ]

-- a position that is looked at is before the end of the window, by the same count
pub near-within : (recovery : Recovery) (run : List Subthread) (faults : List Fault) (start : State) (at : Stage) (entries : List Entry)
    (store : Stored) (backup : Backup) → BackedBy run faults start recovery at entries store backup
    → (p : ℕ) → p < 4294967295 → IsNear recovery at p → p < window_end recovery backup.whole
near-within Selective run faults start at entries store backup backed p few near = few
near-within (Rollback every) run faults start at entries store backup backed p few near = elim (cases_lt p (backup.whole + WINDOW)) [
  | inl within ↦ omega arith
  | inr far ↦ absurd (false≢true (sym backed.whole.next ∙ near backup.whole far))
]
