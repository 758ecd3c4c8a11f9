-- No turn leaves more threads than may exist; which thread is needed.
use Rattle.std.proofs.Common.{◌≡◌, inl, inr, ℕ, zero, suc, ◌+◌, ◌<◌, ◌≤◌, true, cond, length, Option, Some, None, unwrap_or, refl, sym, ap, ◌∙◌, subst, arith}
use Rattle.std.proofs.lemmas.Bool.{cases_lt, false≢true}
use Rattle.gp_base.specs.declared.limits.TheConstants.{MOST_THREADS}
use Rattle.task_ast.specs.declared.sync.SyncOp.{SyncOp}
use Rattle.task_ast.specs.declared.sync.SyncOp.TheVariants as sync
use Rattle.task_ast.specs.declared.sync.Next.{Next}
use Rattle.task_ast.specs.meaning.Repeat.{Again, More, Done}
use Rattle.task_ast.specs.meaning.Table.{numbers}
use Rattle.task_ast.specs.Table.{Table, next_of, is_known_end}
use Rattle.task_ast.specs.meaning.Turn.{child_of}
use Rattle.task_ast.specs.Turn.{Turn, Issue, Needs, Ended, Look, Unknown, look_at, look, tried, deadlocked, at_look, turn}
use Rattle.task_ast.specs.Reached.{Reached, at_start, by_pass, by_issue, by_learning}
use Rattle.task_ast.specs.laws.Threads.{MayBegin, with_child, table_after, SeatsLaw, MostThreadsLaw, NeedsLaw, NeededLaw}
use Rattle.task_ast.specs.laws.Less.{Alike, passes, issues, needs, ends}
use Rattle.task_ast.proofs.LessSeats.{seats_same}
use Rattle.task_ast.proofs.LessTurns.{turn_alike}
use Rattle.task_ast.proofs.IssuedTables.{learnt_length}
use Rattle.task_ast.proofs.TurnLaws.{pass_law, issue_law}

-- a child has room
room_for : (op : SyncOp) (table : Table) → MayBegin table op → length table.seats ≤ MOST_THREADS
    → with_child (child_of op (length table.seats)) (length table.seats) ≤ MOST_THREADS
room_for (sync.Fork task arguments) table may l = may
room_for sync.Start table may l = l
room_for (sync.Lock k) table may l = l
room_for (sync.Unlock k) table may l = l
room_for (sync.Join h) table may l = l
room_for (sync.Settle register control) table may l = l
room_for (sync.Barrier b) table may l = l
room_for sync.End table may l = l
room_for sync.BadIndex table may l = l
room_for sync.Spent table may l = l

passed_seats : (table after : Table) → turn table ≡ More after → length table.seats ≤ MOST_THREADS → length after.seats ≤ MOST_THREADS
passed_seats table after e l = subst (λ n. n ≤ MOST_THREADS) (sym (pass_law table after e).threads) l

issued_seats : (table : Table) (t : ℕ) (next : Next) (child : Option ℕ) (after : Table) → turn table ≡ Done (Issue t next child after)
    → length table.seats ≤ MOST_THREADS → length after.seats ≤ MOST_THREADS
issued_seats table t next child after e l =
    let begun = issue_law table t next child after e in
    subst (λ n. n ≤ MOST_THREADS) (sym (begun.threads ∙ ap (λ c. with_child c (length table.seats)) begun.child_is))
    (room_for next.sync table begun.may l)

some_same : {X : Type 0} {a b : X} → Some a ≡ Some b → a ≡ b
some_same {a = a} e = ap (λ o. unwrap_or o a) e

pub seats_law : SeatsLaw
seats_law table after l e = go (turn table) refl e
  where
    go : (r : Again Table Turn) → turn table ≡ r → table_after r ≡ Some after → length after.seats ≤ MOST_THREADS
    go (More there) is same = passed_seats table after (is ∙ ap More (some_same same)) l
    go (Done (Issue t next child there)) is same =
        issued_seats table t next child after (is ∙ ap (λ x. Done (Issue t next child x)) (some_same same)) l
    go (Done (Needs t)) is same = absurd (cc same)
    go (Done (Ended ending)) is same = absurd (cc same)

most : {table : Table} → Reached table → length table.seats ≤ MOST_THREADS
most at_start = omega arith
most (by_pass {table = table} {after = after} reached e) = passed_seats table after e (most reached)
most (by_issue {table = table} {after = after} {t = t} {next = next} {child = child} reached e) =
    issued_seats table t next child after e (most reached)
most (by_learning {table = table} t next reached e) = subst (λ n. n ≤ MOST_THREADS) (sym (learnt_length table t next)) (most reached)

pub most_threads_law : MostThreadsLaw
most_threads_law table reached = most reached

-- ---- what is needed

not_ended : {o : Option Next} → o ≡ None → is_known_end o ≡ true → ⊥
not_ended none e = false≢true (sym (ap is_known_end none) ∙ e)

-- a thread that has ended is passed over, and an unknown one is found
first_unknown : (table : Table) (a u : ℕ) (o : Option Next) (others : Look) → a ≤ u → next_of table a ≡ o → next_of table u ≡ None
    → (a < u → is_known_end (next_of table a) ≡ true) → (a < u → others ≡ Unknown u) → look_at a o others ≡ Unknown u
first_unknown table a u None others l is none ended rest = elim (cases_lt a u) [
  | inl k ↦ absurd (not_ended is (ended k))
  | inr k ↦ (let same : a ≡ u = omega arith in ap Unknown same)
]
first_unknown table a u (Some next) others l is none ended rest = elim (cases_lt a u) [
  | inl k ↦ rw (sym (ap is_known_end is) ∙ ended k) (rest k)
  | inr k ↦ (let same : a ≡ u = omega arith in absurd (no (sym is ∙ (ap (next_of table) same ∙ none))))
]
  where
    no : {X : Type 0} {x : X} → Some x ≡ None → ⊥
    no e = cc e

found_unknown : (table : Table) (a n u : ℕ) → a ≤ u → u < a + n → next_of table u ≡ None
    → ((v : ℕ) → v < u → is_known_end (next_of table v) ≡ true) → look table (numbers a n) ≡ Unknown u
found_unknown table a zero u l m none before = absurd (omega arith)
found_unknown table a (suc n) u l m none before =
    first_unknown table a u (next_of table a) (look table (numbers (suc a) n)) l refl none (before a)
    (λ k. found_unknown table (suc a) n u k (omega arith) none before)

pub needs_law : NeedsLaw
needs_law table t next is passed u l none before =
    ap (λ l. at_look l table) is
    ∙ (ap (λ b. cond b (deadlocked (look table (numbers 0 (length table.seats)))) (tried next.sync table t next)) passed
    ∙ ap deadlocked (found_unknown table 0 (length table.seats) u (omega arith) (omega arith) none before))

abbrev Needed : Table → Again Table Turn → ℕ → Type 0
Needed table r t = r ≡ Done (Needs t) → (t < length table.seats) × (next_of table t ≡ None)

pub needed_law : NeededLaw
needed_law table reached t =
    go (turn_alike table table reached (record {
      seats = seats_same table.seats;
      limit = refl;
      barriers = refl;
      owners = refl;
      token = refl;
      issued = refl;
    }))
  where
    go : {r s : Again Table Turn} → Alike table r s → Needed table r t
    go (passes k) e = absurd (cc e)
    go (issues k) e = absurd (cc e)
    go (needs {t = u} l none) e =
        let same : u ≡ t = cc e in
        (subst (λ v. v < length table.seats) same l, ap (next_of table) (sym same) ∙ none)
    go ends e = absurd (cc e)
