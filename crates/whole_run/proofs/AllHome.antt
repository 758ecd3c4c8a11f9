-- Whether all that a restart waits for is back, as the entries tell it and as the stage does: each lock is at home, or
-- nothing is out. An entry that is out is that of a present attempt that is out, and each such attempt has one. So an
-- entry that is out holds a lock exactly where such an attempt does; and a lock is away exactly where an entry that is
-- out holds it.
use Rattle.std.proofs.Common.{◌≡◌, ◌↔◌, inl, inr, ℕ, suc, ◌≤◌, Bool, true, false, cond, not, ◌&&◌, ◌||◌, nat_eq, List, [], ◌∷◌, get_or, Contains, Some, refl, sym, ap, ◌∙◌, subst, arith, slice_get}
use Rattle.std.specs.Prelude.{IsTrue}
use Rattle.std.specs.List.{list_any}
use Rattle.std.proofs.lemmas.Bool.{cases_lt, eqb-true, eq-eqb, false≢true}
use Rattle.std.proofs.lemmas.Option.{slice_get-get_or}
use Rattle.task_ast.specs.meaning.Plain.{Subthread}
use Rattle.dependence.specs.meaning.Journal.{Stage}
use Rattle.dependence.specs.RunBuffer.{IsOut}
use Rattle.dependence.specs.Standing.{present, StageStands}
use Rattle.record_store.specs.Stored.{IsAllHome}
use Rattle.reorder_list.specs.declared.entry.Entry.{Entry}
use Rattle.reorder_list.specs.declared.entry.State.{State}
use Rattle.reorder_list.specs.declared.entry.State.TheVariants.{Out, Applied, Waiting}
use Rattle.reorder_list.specs.Entries.{StandFrom, entry_at, is_out, is_out_entry, is_nil, lends}
use Rattle.reorder_list.proofs.Changes.{from-first, is-there}
use Rattle.whole_run.specs.declared.parts.Parts.{Parts}
use Rattle.whole_run.specs.View.{Batch, run_in, dependence_in}
use Rattle.whole_run.specs.Gives.{NoneHolds, NoneOut}
use Rattle.whole_run.specs.inner.Kept.{stage_of, Kept}
use Rattle.whole_run.proofs.Kepts.{stage_stands}
use Rattle.whole_run.proofs.Locks as locks
use Rattle.whole_run.proofs.Taken.{state-out}

-- ---- entries that pass a test

module _ (test : Entry → Bool) where
  -- where none passes, the one at a position doesn't
  none-passes : (entries : List Entry) (p : ℕ) (e : Entry) → list_any test entries ≡ false → entry_at entries p ≡ Some e → test e ≡ false
  none-passes [] p e none there = absurd (cc there)
  none-passes (x ∷ entries) p e none there = at (nat_eq x.pos p) (test x) refl none there (none-passes entries p e)
    where
      at : (t b : Bool) → test x ≡ b → (b || list_any test entries) ≡ false → cond t (Some x) (entry_at entries p) ≡ Some e
          → (list_any test entries ≡ false → entry_at entries p ≡ Some e → test e ≡ false) → test e ≡ false
      at t true is none found rest = absurd (false≢true (sym none))
      at true false is none found rest = let same : x ≡ e = cc found in subst (λ y. test y ≡ false) same is
      at false false is none found rest = rest none found

  -- where some entry passes, it stands at a position
  some-passes : (b : ℕ) (entries : List Entry) → StandFrom b entries → list_any test entries ≡ true
      → (p : ℕ) × (e : Entry) × (entry_at entries p ≡ Some e) × (test e ≡ true)
  some-passes b [] row some = absurd (false≢true some)
  some-passes b (x ∷ entries) row some = go (test x) refl some (some-passes (suc b) entries row.1)
    where
      later : (p : ℕ) (e : Entry) → entry_at entries p ≡ Some e → (t : Bool) → nat_eq x.pos p ≡ t
          → cond t (Some x) (entry_at entries p) ≡ Some e
      later p e there true same =
          absurd
          (let low = (from-first (suc b) entries p e row.1 there).0 in
          let first = row.0 in
          let here = eqb-true x.pos p same in
          omega arith)
      later p e there false differ = there

      go : (t : Bool) → test x ≡ t → (t || list_any test entries) ≡ true
          → (list_any test entries ≡ true → (p : ℕ) × (e : Entry) × (entry_at entries p ≡ Some e) × (test e ≡ true))
          → (p : ℕ) × (e : Entry) × (entry_at (x ∷ entries) p ≡ Some e) × (test e ≡ true)
      go true this some rest = (x.pos, x, ap (λ t. cond t (Some x) (entry_at entries x.pos)) (eq-eqb x.pos x.pos refl), this)
      go false this some rest = let r = rest some in (r.0, r.1, later r.0 r.1 r.2 (nat_eq x.pos r.0) refl, r.3)

-- an entry that is out and doesn't lend holds nothing
holds-none : (z : State) (held : List ℕ) → (is_out z && not (is_nil held)) ≡ false → z ≡ Out → held ≡ []
holds-none z [] lacks out = refl
holds-none z (x ∷ held) lacks out = absurd (false≢true (sym lacks ∙ ap (λ y. is_out y && true) out))

holds-some : (z : State) (held : List ℕ) → (is_out z && not (is_nil held)) ≡ true → (z ≡ Out) × (held ≡ [] → ⊥)
holds-some Out [] is = absurd (false≢true is)
holds-some Out (x ∷ held) is = (refl, λ none. cc none)
holds-some Waiting held is = absurd (false≢true is)
holds-some Applied held is = absurd (false≢true is)

is-out : (z : State) → is_out z ≡ true → z ≡ Out
is-out Out is = refl
is-out Waiting is = absurd (false≢true is)
is-out Applied is = absurd (false≢true is)

module _ (batch : Batch) (parts : Parts) (kept : Kept batch parts) where
  abbrev at : Stage
  at = stage_of batch parts.events.items

  stage : StageStands (dependence_in batch) batch.faults at
  stage = stage_stands batch parts.events.items kept.fit kept.journal

  -- an entry that is out is that of a present attempt that is out
  entry-out : (p : ℕ) (e : Entry) → entry_at parts.rol.entries p ≡ Some e → e.state ≡ Out → IsOut at p (present at p)
  entry-out p e there out = locks.out-is (run_in batch) at parts.rol.entries kept.window.entries_are batch.faults stage p e there out

  -- and such an attempt has an entry that is out
  out-entry : (p : ℕ) → IsOut at p (present at p) → (e : Entry) × (entry_at parts.rol.entries p ≡ Some e) × (e.state ≡ Out)
  out-entry p out =
      let low : at.retired ≤ p = elim (cases_lt p at.retired) [
        | inl less ↦ absurd (out.untaken (stage.applied_taken p (stage.retired_applied p less) out.posted))
        | inr most ↦ most
      ] in
      let high = (stage.posted_low p (present at p) out.posted).0 in
      let whole = kept.window.entries_are.front in
      let found = is-there at.retired parts.rol.entries p kept.window.entries_are.row low (omega arith) in
      let each = kept.window.entries_are.each p found.0 found.1 in (
        found.0,
        found.1,
        state-out found.0.state (λ w. each.waits.0 w out.posted) (λ a. out.untaken (stage.applied_taken p (each.applied.0 a) out.posted)),
      )

  -- what an entry that is out holds, a present attempt that is out holds
  held-out : NoneHolds (run_in batch) at → (p : ℕ) (e : Entry) → entry_at parts.rol.entries p ≡ Some e → e.state ≡ Out → e.held ≡ []
  held-out none p e there out =
      let is = kept.window.entries_are.each p e there in
      let is_out = entry-out p e there out in
      is.is_of.held ∙ none p is.subthread is.is_there is_out.posted is_out.untaken

  -- where no present attempt that is out holds a lock, each lock is at home
  pub all-home : NoneHolds (run_in batch) at → IsAllHome parts.store
  all-home none k d less = go (get_or parts.store.away k d) (slice_get-get_or parts.store.away k d less)
    where
      go : (b : Bool) → slice_get parts.store.away k ≡ Some b → b ≡ false
      go false is = refl
      go true is =
          let lent = (kept.window.locks k).0 is in
          let nothing = held-out none lent.position lent.entry lent.there lent.out in
          absurd (let within = (subst (λ held. Contains held k) nothing lent.holds).1 in omega arith)

  -- what the entries tell of locks is what the stage does
  pub home-is : (lends_some : Bool) → lends_some ≡ list_any lends parts.rol.entries → IsTrue (not lends_some) ↔ NoneHolds (run_in batch) at
  home-is lends_some same = (to lends_some same, from lends_some same)
    where
      to : (b : Bool) → b ≡ list_any lends parts.rol.entries → IsTrue (not b) → NoneHolds (run_in batch) at
      to true same is = absurd (false≢true is)
      to false same is = λ p s there posted untaken.
          let found = out-entry p (record { posted = posted; untaken = untaken; present = refl }) in
          let each = kept.window.entries_are.each p found.0 found.1 in
          let one : s ≡ each.subthread = (let both = sym there ∙ each.is_there in cc both) in
          let lends_none = none-passes lends parts.rol.entries p found.0 (sym same) found.1 in
          ap (λ (x : Subthread). x.held) one ∙ (sym each.is_of.held ∙ holds-none found.0.state found.0.held lends_none found.2)

      from : (b : Bool) → b ≡ list_any lends parts.rol.entries → NoneHolds (run_in batch) at → IsTrue (not b)
      from false same none = refl
      from true same none =
          let some = some-passes lends at.retired parts.rol.entries kept.window.entries_are.row (sym same) in
          let holds = holds-some some.1.state some.1.held some.3 in
          absurd (holds.1 (held-out none some.0 some.1 some.2 holds.0))

  -- and so is what they tell of attempts that are out
  pub out-is : (some_out : Bool) → some_out ≡ list_any is_out_entry parts.rol.entries → IsTrue (not some_out) ↔ NoneOut at
  out-is some_out same = (to some_out same, from some_out same)
    where
      to : (b : Bool) → b ≡ list_any is_out_entry parts.rol.entries → IsTrue (not b) → NoneOut at
      to true same is = absurd (false≢true is)
      to false same is = λ p attempt out.
          let found = out-entry p (subst (IsOut at p) out.present out) in
          false≢true (sym (none-passes is_out_entry parts.rol.entries p found.0 (sym same) found.1) ∙ ap is_out found.2)

      from : (b : Bool) → b ≡ list_any is_out_entry parts.rol.entries → NoneOut at → IsTrue (not b)
      from false same none = refl
      from true same none =
          let some = some-passes is_out_entry at.retired parts.rol.entries kept.window.entries_are.row (sym same) in
          absurd (none some.0 (present at some.0) (entry-out some.0 some.1 some.2 (is-out some.1.state some.3)))
