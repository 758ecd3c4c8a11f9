-- What a store and entries hold after each event.
use Rattle.std.proofs.Common.{◌≡◌, ℕ, ℤ, ◌+◌, ◌≤◌, Bool, true, false, cond, nat_eq, List, [], ◌∷◌, ◌++◌, Option, Some, None, refl, sym, ap, ◌∙◌, arith}
use Rattle.std.specs.Prelude.{option_map, unwrap_or}
use Rattle.std.specs.Option.{option_and_then, option_or}
use Rattle.std.proofs.lemmas.Bool.{eqb-true, ne_eqb}
use Rattle.std.proofs.Math.Path.{fun_ext}
use Rattle.gp_base.specs.declared.fault.Fault.{Fault}
use Rattle.gp_base.specs.declared.footprint.Footprint.{Footprint}
use Rattle.gp_base.specs.declared.journal.Event.TheVariants as event
use Rattle.task_ast.specs.declared.effect.Effect.{Effect}
use Rattle.task_ast.specs.meaning.Plain.{Subthread}
use Rattle.task_ast.specs.meaning.State.{State}
use Rattle.task_ast.specs.meaning.Effect.{after}
use Rattle.task_ast.specs.History.{old_of}
use Rattle.dependence.specs.Removal.{undone_part}
use Rattle.dependence.specs.meaning.Journal.{Stage, happens}
use Rattle.dependence.specs.meaning.Runs.{dependence_of}
use Rattle.dependence.specs.Buffer.{Buffer, buffer_with, buffer_without}
use Rattle.dependence.specs.RunBuffer.{RunStands}
use Rattle.record_store.specs.Stored.{Stored, state_of}
use Rattle.reorder_list.specs.declared.entry.Entry.{Entry}
use Rattle.reorder_list.specs.Entries.{IsFresh, entry_at, with_change, with_change_at, out_entry, known_entry, applied_entry, raised_entry, histories_of, lines_of}
use Rattle.reorder_list.specs.Stages.{EntriesStand, buffer_of}
use Rattle.reorder_list.proofs.Changes.{changed_where, changed, pushed}

abbrev history_in : Option Entry → Option Effect
history_in o = option_and_then (λ e. e.hist) o

abbrev lines_in : Option Entry → List (List ℤ)
lines_in o = unwrap_or (option_map (λ e. e.prints) o) []

same-buffer : {left right : State} {olds news : ℕ → Option Effect} {before later : ℕ → List (List ℤ)} → left ≡ right
    → ((p : ℕ) → olds p ≡ news p) → ((p : ℕ) → before p ≡ later p)
    → ◌≡◌ {A = Buffer} (record { state = left; histories = olds; lines = before })
    (record { state = right; histories = news; lines = later })
same-buffer state histories lines = λ i. record { state = state i; histories = fun_ext histories i; lines = fun_ext lines i }

pub pushed-holds : (store : Stored) (entries : List Entry) (e : Entry) → IsFresh e
    → buffer_of store (entries ++ e ∷ []) ≡ buffer_of store entries
pushed-holds store entries e fresh =
    same-buffer refl (λ p. ap history_in (pushed entries e p) ∙ histories (entry_at entries p) (nat_eq e.pos p))
    (λ p. ap lines_in (pushed entries e p) ∙ lines (entry_at entries p) (nat_eq e.pos p))
  where
    histories : (o : Option Entry) (b : Bool) → history_in (option_or o (cond b (Some e) None)) ≡ history_in o
    histories (Some x) b = refl
    histories None true = fresh.no_history
    histories None false = refl

    lines : (o : Option Entry) (b : Bool) → lines_in (option_or o (cond b (Some e) None)) ≡ lines_in o
    lines (Some x) b = refl
    lines None true = fresh.no_lines
    lines None false = refl

pub sent-holds : (store : Stored) (entries : List Entry) (p : ℕ)
    → buffer_of store (with_change_at p out_entry entries) ≡ buffer_of store entries
sent-holds store entries p =
    same-buffer refl
    (λ q. ap history_in (changed (λ r. nat_eq r p) out_entry entries q (λ e. refl)) ∙ histories (nat_eq q p) (entry_at entries q))
    (λ q. ap lines_in (changed (λ r. nat_eq r p) out_entry entries q (λ e. refl)) ∙ lines (nat_eq q p) (entry_at entries q))
  where
    histories : (b : Bool) (o : Option Entry) → history_in (option_map (changed_where b out_entry) o) ≡ history_in o
    histories b None = refl
    histories true (Some x) = refl
    histories false (Some x) = refl

    lines : (b : Bool) (o : Option Entry) → lines_in (option_map (changed_where b out_entry) o) ≡ lines_in o
    lines b None = refl
    lines true (Some x) = refl
    lines false (Some x) = refl

pub learnt-holds : (store : Stored) (entries : List Entry) (p : ℕ) (foot : Footprint)
    → buffer_of store (with_change_at p (known_entry foot) entries) ≡ buffer_of store entries
learnt-holds store entries p foot =
    same-buffer refl
    (λ q. ap history_in (changed (λ r. nat_eq r p) (known_entry foot) entries q (λ e. refl)) ∙ histories (nat_eq q p) (entry_at entries q))
    (λ q. ap lines_in (changed (λ r. nat_eq r p) (known_entry foot) entries q (λ e. refl)) ∙ lines (nat_eq q p) (entry_at entries q))
  where
    histories : (b : Bool) (o : Option Entry) → history_in (option_map (changed_where b (known_entry foot)) o) ≡ history_in o
    histories b None = refl
    histories true (Some x) = refl
    histories false (Some x) = refl

    lines : (b : Bool) (o : Option Entry) → lines_in (option_map (changed_where b (known_entry foot)) o) ≡ lines_in o
    lines b None = refl
    lines true (Some x) = refl
    lines false (Some x) = refl

-- the entry whose attempt has done this on the store
abbrev left_by : Stored → Effect → Entry → Entry
left_by store done = applied_entry (Some (old_of done (state_of store))) done.prints

pub taken-holds : (store later : Stored) (entries : List Entry) (p : ℕ) (e : Entry) (done : Effect) → entry_at entries p ≡ Some e
    → state_of later ≡ after done (state_of store)
    → buffer_of later (with_change_at p (applied_entry (Some (old_of done (state_of store))) done.prints) entries)
    ≡ buffer_with p done (buffer_of store entries)
taken-holds store later entries p e done there state =
    same-buffer state
    (λ q. ap history_in (changed (λ r. nat_eq r p) (left_by store done) entries q (λ e. refl)) ∙ histories q (nat_eq q p) refl)
    (λ q. ap lines_in (changed (λ r. nat_eq r p) (left_by store done) entries q (λ e. refl)) ∙ lines q (nat_eq q p) refl)
  where
    here : (q : ℕ) → nat_eq q p ≡ true → entry_at entries q ≡ Some e
    here q is = ap (entry_at entries) (eqb-true q p is) ∙ there

    same_history : (o : Option Entry) → history_in (option_map (changed_where false (left_by store done)) o) ≡ history_in o
    same_history None = refl
    same_history (Some x) = refl

    same_lines : (o : Option Entry) → lines_in (option_map (changed_where false (left_by store done)) o) ≡ lines_in o
    same_lines None = refl
    same_lines (Some x) = refl

    histories : (q : ℕ) (b : Bool) → nat_eq q p ≡ b
        → history_in (option_map (changed_where b (left_by store done)) (entry_at entries q))
        ≡ cond b (Some (old_of done (state_of store))) (histories_of entries q)
    histories q true is = ap (λ o. history_in (option_map (left_by store done) o)) (here q is)
    histories q false is = same_history (entry_at entries q)

    lines : (q : ℕ) (b : Bool) → nat_eq q p ≡ b
        → lines_in (option_map (changed_where b (left_by store done)) (entry_at entries q)) ≡ cond b done.prints (lines_of entries q)
    lines q true is = ap (λ o. lines_in (option_map (left_by store done) o)) (here q is)
    lines q false is = same_lines (entry_at entries q)

pub raised-holds : (store later : Stored) (entries : List Entry) (part : ℕ → Bool) (front begun : ℕ)
    → state_of later ≡ undone_part (histories_of entries) part front (state_of store)
    → buffer_of later (with_change part (raised_entry begun) entries) ≡ buffer_without part front (buffer_of store entries)
raised-holds store later entries part front begun state =
    same-buffer state
    (λ q. ap history_in (changed part (raised_entry begun) entries q (λ e. refl)) ∙ histories (part q) (entry_at entries q))
    (λ q. ap lines_in (changed part (raised_entry begun) entries q (λ e. refl)) ∙ lines (part q) (entry_at entries q))
  where
    histories : (b : Bool) (o : Option Entry)
        → history_in (option_map (changed_where b (raised_entry begun)) o) ≡ cond b None (history_in o)
    histories true None = refl
    histories false None = refl
    histories true (Some x) = refl
    histories false (Some x) = refl

    lines : (b : Bool) (o : Option Entry) → lines_in (option_map (changed_where b (raised_entry begun)) o) ≡ cond b [] (lines_in o)
    lines true None = refl
    lines false None = refl
    lines true (Some x) = refl
    lines false (Some x) = refl

pub dropped-holds : (run : List Subthread) (faults : List Fault) (start : State) (at : Stage) (store : Stored) (e : Entry)
    (entries : List Entry) → EntriesStand run at (e ∷ entries)
    → RunStands run faults start at (buffer_of store (e ∷ entries))
    → RunStands run faults start (happens (dependence_of run) faults at (event.Retire at.retired)) (buffer_of store entries)
dropped-holds run faults start at store e entries stand held =
    record {
      state_is = held.state_is;
      histories_are = λ p low is. ap history_in (sym (later p low)) ∙ held.histories_are p (omega arith) is;
      lines_are = λ p low is. ap lines_in (sym (later p low)) ∙ held.lines_are p (omega arith) is;
      others_have_none = λ p low is. ap history_in (sym (later p low)) ∙ held.others_have_none p (omega arith) is;
      closed = held.closed;
      below = held.below;
    }
  where
    later : (p : ℕ) → at.retired + 1 ≤ p → entry_at (e ∷ entries) p ≡ entry_at entries p
    later p low = rw (ne_eqb e.pos p (λ same. let first = stand.row.0 in omega arith)) refl
