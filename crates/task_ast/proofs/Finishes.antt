-- A run is finished only where every thread has ended, and a thread that is needed is there.
use Rattle.std.proofs.Common.{◌≡◌, inl, inr, ℕ, zero, suc, ◌+◌, ◌-◌, ◌<◌, ◌≤◌, Bool, true, false, cond, List, [], ◌++◌, length, Option, Some, None, is_none, nat_lt, refl, sym, ap, ◌∙◌, subst, arith, option_and_then}
use Rattle.std.specs.Prelude.{⊤, pos, negsuc}
use Rattle.std.specs.List.{list_all}
use Rattle.std.proofs.lemmas.Bool.{cases_lt}
use Rattle.std.proofs.lemmas.List.{append-nil}
use Rattle.gp_base.specs.declared.limits.TheConstants.{MOST_THREADS}
use Rattle.gp_base.specs.declared.ending.End.TheVariants.{Finished}
use Rattle.task_ast.specs.declared.sync.SyncOp.{SyncOp}
use Rattle.task_ast.specs.declared.sync.SyncOp.TheVariants as sync
use Rattle.task_ast.specs.declared.sync.Next.{Next}
use Rattle.task_ast.specs.meaning.Repeat.{Again, Done}
use Rattle.task_ast.specs.meaning.Table.{Stand, Away, Waits, Released, numbers, ring, is_end}
use Rattle.task_ast.specs.Table.{Table, next_of, is_known_end, has_ended, owner_in}
use Rattle.task_ast.specs.Turn.{Turn, Ended, Look, To, Unknown, NoThread, look_at, look, issuing, stand_of, come_to, at_barrier, at_join, tried, has_passed, deadlocked, at_look}
use Rattle.task_ast.specs.Reached.{FinishedLaw}
use Rattle.task_ast.proofs.Rounds.{all_from, some_below}

-- no turn of the rules finishes the run
abbrev NotFinished : Again Table Turn → Type 0
NotFinished (Done (Ended Finished)) = ⊥
NotFinished _ = ⊤

cond_not : (b : Bool) (f g : Again Table Turn) → NotFinished f → NotFinished g → NotFinished (cond b f g)
cond_not true f g first second = first
cond_not false f g first second = second

issuing_not : (table : Table) (t : ℕ) (next : Next) → NotFinished (issuing table t next)
issuing_not table t next = cond_not (nat_lt table.issued table.limit) _ _ tt tt

barrier_not : (stand : Stand) (table : Table) (t : ℕ) (next : Next) → NotFinished (at_barrier stand table t next)
barrier_not Away table t next = tt
barrier_not Waits table t next = tt
barrier_not Released table t next = issuing_not table t next

joining_not : (h : ℕ) (o : Option Next) (table : Table) (t : ℕ) (next : Next) → NotFinished (at_join h o table t next)
joining_not h None table t next = tt
joining_not h (Some other) table t next = cond_not (is_end other.sync) _ _ (issuing_not table t next) tt

tried_not : (op : SyncOp) (table : Table) (t : ℕ) (next : Next) → NotFinished (tried op table t next)
tried_not sync.Start table t next = issuing_not table t next
tried_not (sync.Settle register control) table t next = issuing_not table t next
tried_not (sync.Lock l) table t next = cond_not (is_none (owner_in table.owners l)) _ _ (issuing_not table t next) tt
tried_not (sync.Unlock l) table t next = issuing_not table t next
tried_not (sync.Fork task arguments) table t next = cond_not (nat_lt (length table.seats) MOST_THREADS) _ _ (issuing_not table t next) tt
tried_not (sync.Join (pos h)) table t next = cond_not (nat_lt h (length table.seats)) _ _ (joining_not h (next_of table h) table t next) tt
tried_not (sync.Join (negsuc h)) table t next = tt
tried_not (sync.Barrier b) table t next = let there = come_to (stand_of table t) table t b in barrier_not (stand_of there t) there t next
tried_not sync.End table t next = issuing_not table t next
tried_not sync.BadIndex table t next = tt
tried_not sync.Spent table t next = tt

-- ---- the threads that a look passed over

-- no thread was found
abbrev IsNoThread : Look → Type 0
IsNoThread l = l ≡ NoThread

none_at : (table : Table) (t : ℕ) (o : Option Next) (others : Look) → next_of table t ≡ o → IsNoThread (look_at t o others)
    → (is_known_end (next_of table t) ≡ true) × IsNoThread others
none_at table t None others is e = absurd (cc e)
none_at table t (Some next) others is e = go (is_end next.sync) refl e
  where
    go : (b : Bool) → is_end next.sync ≡ b → IsNoThread (cond b others (To t next))
        → (is_known_end (next_of table t) ≡ true) × IsNoThread others
    go true ends none = (ap is_known_end is ∙ ends, none)
    go false ends none = absurd (cc none)

none_of : (table : Table) (a n : ℕ) (rest : List ℕ) → IsNoThread (look table (numbers a n ++ rest))
    → ((t : ℕ) → a ≤ t → t < a + n → is_known_end (next_of table t) ≡ true) × IsNoThread (look table rest)
none_of table a zero rest e = (λ t l m. absurd (omega arith), e)
none_of table a (suc n) rest e =
    let first = none_at table a (next_of table a) (look table (numbers (suc a) n ++ rest)) refl e in
    let later = none_of table (suc a) n rest first.1 in (
      λ t l m. elim (cases_lt a t) [
        | inl k ↦ later.0 t k (omega arith)
        | inr k ↦ (let same : a ≡ t = omega arith in subst (λ u. is_known_end (next_of table u) ≡ true) same first.0)
      ],
      later.1,
    )

none_from : (table : Table) (n : ℕ) → IsNoThread (look table (numbers 0 n)) → (t : ℕ) → t < n → is_known_end (next_of table t) ≡ true
none_from table n e t l =
    (none_of table 0 n [] (subst (λ ts. IsNoThread (look table ts)) (sym (append-nil (numbers 0 n))) e)).0 t (omega arith) (omega arith)

none_in_ring : (table : Table) (token : Option ℕ) (n : ℕ) → IsNoThread (look table (ring token n)) → (t : ℕ) → t < n
    → is_known_end (next_of table t) ≡ true
none_in_ring table None n e t l = none_from table n e t l
none_in_ring table (Some last) n e t l =
    let parts = none_of table (suc last) (n - suc last) (numbers 0 (suc last)) e in
    elim (cases_lt last t) [
      | inl k ↦ parts.0 t k (omega arith)
      | inr k ↦ none_from table (suc last) parts.1 t (omega arith)
    ]

all_ended : (table : Table) → ((t : ℕ) → t < length table.seats → is_known_end (next_of table t) ≡ true)
    → list_all has_ended table.seats ≡ true
all_ended table each =
    all_from has_ended table.seats (λ t seat at. ap (λ o. is_known_end (option_and_then (λ s. s.next) o)) (sym at)
    ∙ each t (some_below table.seats t seat at))

abbrev IsFinished : Again Table Turn → Type 0
IsFinished r = r ≡ Done (Ended Finished)

stuck_finished : (table : Table) (l : Look) → look table (numbers 0 (length table.seats)) ≡ l → IsFinished (deadlocked l)
    → list_all has_ended table.seats ≡ true
stuck_finished table (To t next) is e = absurd (cc e)
stuck_finished table (Unknown t) is e = absurd (cc e)
stuck_finished table NoThread is e = all_ended table (none_from table (length table.seats) is)

look_finished : (table : Table) (l : Look) → look table (ring table.token (length table.seats)) ≡ l → IsFinished (at_look l table)
    → list_all has_ended table.seats ≡ true
look_finished table NoThread is e = all_ended table (none_in_ring table table.token (length table.seats) is)
look_finished table (Unknown t) is e = absurd (cc e)
look_finished table (To t next) is e = go (has_passed table t) e
  where
    go : (b : Bool) → IsFinished (cond b (deadlocked (look table (numbers 0 (length table.seats)))) (tried next.sync table t next))
        → list_all has_ended table.seats ≡ true
    go true e = stuck_finished table (look table (numbers 0 (length table.seats))) refl e
    go false e = absurd (subst NotFinished e (tried_not next.sync table t next))

pub finished_law : FinishedLaw
finished_law table e = look_finished table _ refl e
