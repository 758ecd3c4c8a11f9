-- Which position is struck, as the entries tell it and as the stage does.
use Rattle.std.proofs.Common.{◌≡◌, inl, inr, ℕ, ◌<◌, Bool, true, false, cond, ◌&&◌, nat_eq, nat_lt, List, [], ◌∷◌, Contains, Option, Some, None, refl, sym, ap, ◌∙◌, arith}
use Rattle.std.specs.Prelude.{is_some}
use Rattle.std.specs.Option.{option_or}
use Rattle.std.proofs.lemmas.Bool.{false_from_ne_true, and_parts, ltb-true, lt-ltb, eqb-true, cases_lt}
use Rattle.gp_base.specs.declared.fault.Fault.{Fault}
use Rattle.dependence.specs.meaning.Restarts.{attempt_of, is_live, is_due, least_struck}
use Rattle.dependence.specs.meaning.Journal.{Stage}
use Rattle.dependence.specs.Standing.{present}
use Rattle.dependence.proofs.Struck.{Contains-head, Contains-later}
use Rattle.reorder_list.specs.declared.entry.Entry.{Entry}
use Rattle.reorder_list.specs.Entries.{entry_at}
use Rattle.reorder_list.proofs.Changes.{from-first, is-there}
use Rattle.whole_run.specs.declared.parts.Parts.{Parts}
use Rattle.whole_run.specs.View.{Batch}
use Rattle.whole_run.specs.Gives.{struck_now}
use Rattle.whole_run.specs.inner.Kept.{view_of, stage_of, Kept}
use Rattle.whole_run.specs.inner.Striking.{strikes_entry, strikes, struck_in}
use Rattle.whole_run.proofs.Kepts.{stage_stands}

-- tests that agree on the faults of a list strike the same
least-same : (test other : Fault → Bool) (faults : List Fault) → ((fault : Fault) → Contains faults fault → test fault ≡ other fault)
    → least_struck test faults ≡ least_struck other faults
least-same test other [] same = refl
least-same test other (x ∷ faults) same =
    let rest = least-same test other faults (λ fault h. same fault (Contains-later x faults fault h)) in
    rw (same x (Contains-head x faults), rest) refl

and-true : (b : Bool) → (b && true) ≡ b
and-true true = refl
and-true false = refl

module _ (batch : Batch) (parts : Parts) (kept : Kept batch parts) where
  abbrev at : Stage
  at = stage_of batch parts.events.items

  -- the entry of a position has its attempt, and where that began; the position is below the front
  there-below : (p : ℕ) (e : Entry) → entry_at parts.rol.entries p ≡ Some e → p < at.progress.front
  there-below p e is =
      let l = (from-first at.retired parts.rol.entries p e kept.window.entries_are.row is).1 in
      let front = kept.window.entries_are.front in
      omega arith

  -- without an entry no fault is live
  none-there : (fault : Fault) → Contains batch.faults fault → entry_at parts.rol.entries fault.pos ≡ None
      → is_live at.progress fault ≡ false
  none-there fault member is = false_from_ne_true (is_live at.progress fault) impossible
    where
      impossible : is_live at.progress fault ≡ true → ⊥
      impossible live =
          let both = and_parts (nat_lt fault.pos at.progress.front) (nat_eq fault.attempt (attempt_of at.progress.made fault.pos)) live in
          let below = ltb-true fault.pos at.progress.front both.0 in
          elim (cases_lt fault.pos at.retired) [
            | inl old ↦ (stage_stands batch parts.events.items kept.fit kept.journal).retired_clean fault.pos old
                (fault, member, refl, eqb-true fault.attempt (present at fault.pos) both.1)
            | inr young ↦
                (let front = kept.window.entries_are.front in
                let found = is-there at.retired parts.rol.entries fault.pos kept.window.entries_are.row young (omega arith) in
                absurd (cc (is, found.1)))
          ]

  live-same : (fault : Fault) → Contains batch.faults fault → strikes true parts.rol.entries parts.issued fault ≡ is_live at.progress fault
  live-same fault member = go (entry_at parts.rol.entries fault.pos) refl
    where
      go : (o : Option Entry) → entry_at parts.rol.entries fault.pos ≡ o
          → strikes_entry true parts.issued fault o ≡ is_live at.progress fault
      go None is = sym (none-there fault member is)
      go (Some e) is =
          and-true (nat_eq fault.attempt e.attempt)
          ∙ rw (lt-ltb fault.pos at.progress.front (there-below fault.pos e is))
          (ap (nat_eq fault.attempt) (kept.window.entries_are.each fault.pos e is).attempt)

  due-same : (fault : Fault) → Contains batch.faults fault → strikes false parts.rol.entries parts.issued fault ≡ is_due at.progress fault
  due-same fault member = go (entry_at parts.rol.entries fault.pos) refl
    where
      go : (o : Option Entry) → entry_at parts.rol.entries fault.pos ≡ o
          → strikes_entry false parts.issued fault o ≡ is_due at.progress fault
      go None is = rw (none-there fault member is) refl
      go (Some e) is =
          let entry = kept.window.entries_are.each fault.pos e is in
          rw (lt-ltb fault.pos at.progress.front (there-below fault.pos e is), entry.attempt, entry.begun, kept.journal.issued_are) refl

  pub due-is : least_struck (strikes false parts.rol.entries parts.issued) batch.faults ≡ least_struck (is_due at.progress) batch.faults
  due-is = least-same (strikes false parts.rol.entries parts.issued) (is_due at.progress) batch.faults due-same

  pub live-is : least_struck (strikes true parts.rol.entries parts.issued) batch.faults ≡ least_struck (is_live at.progress) batch.faults
  live-is = least-same (strikes true parts.rol.entries parts.issued) (is_live at.progress) batch.faults live-same

  -- what the entries tell is what the stage does
  pub struck-same : (known : Bool) → known ≡ is_some parts.ended
      → struck_in known parts.rol.entries parts.issued batch.faults ≡ struck_now (view_of batch parts)
  struck-same known is = λ i. option_or (due-is i) (cond (is i) (live-is i) None)
