-- Laws of a turn and the threads.
use Rattle.std.proofs.Common.{◌≡◌, ℕ, suc, ◌<◌, Bool, true, false, cond, length, Option, Some, None, is_none, nat_lt, unwrap_or, refl, sym, ap, ◌∙◌, subst, arith, option_and_then}
use Rattle.std.specs.Prelude.{⊤, pos, negsuc}
use Rattle.gp_base.specs.declared.limits.TheConstants.{MOST_THREADS}
use Rattle.task_ast.specs.Table.{owner_in, Table, next_of}
use Rattle.task_ast.specs.declared.sync.SyncOp.{SyncOp}
use Rattle.task_ast.specs.declared.sync.SyncOp.TheVariants as sync
use Rattle.task_ast.specs.declared.sync.Next.{Next}
use Rattle.task_ast.specs.meaning.Repeat.{Again, More, Done}
use Rattle.task_ast.specs.meaning.Table.{Stand, Away, Waits, Released, ring, is_end, numbers}
use Rattle.task_ast.specs.meaning.Turn.{child_of, owners_after}
use Rattle.task_ast.specs.Turn.{Turn, Issue, Look, To, Unknown, NoThread, look, issuing, stand_of, come_to, at_barrier, at_join, tried, has_passed, at_look, turn, deadlocked}
use Rattle.task_ast.proofs.Turns.{Known, known_to, look_known}
use Rattle.task_ast.specs.laws.Threads.{with_child, SameThreads, tries, ahead, HasBegun, AheadLaw, PassLaw, IssueLaw}
use Rattle.task_ast.proofs.LessTurns.{inside_of}
use Rattle.task_ast.proofs.TurnForms.{Form, turn_form, passes, issues, needs, ends}
use Rattle.task_ast.proofs.IssuedTables.{changed, changed_length, issued_here, issued_other, issued_past, grown_is, grown_by, grown_seat}

-- ---- only the thread that is tried is issued

abbrev IssuesAs : ℕ → Next → Again Table Turn → Type 0
IssuesAs t next (Done (Issue other there child after)) = (t ≡ other) × (next ≡ there)
IssuesAs t next _ = ⊤

cond_as : (t : ℕ) (next : Next) (b : Bool) (f g : Again Table Turn) → IssuesAs t next f → IssuesAs t next g → IssuesAs t next (cond b f g)
cond_as t next true f g first second = first
cond_as t next false f g first second = second

issuing_as : (table : Table) (t : ℕ) (next : Next) → IssuesAs t next (issuing table t next)
issuing_as table t next = cond_as t next (nat_lt table.issued table.limit) _ _ (refl, refl) tt

barrier_as : (stand : Stand) (table : Table) (t : ℕ) (next : Next) → IssuesAs t next (at_barrier stand table t next)
barrier_as Away table t next = tt
barrier_as Waits table t next = tt
barrier_as Released table t next = issuing_as table t next

joining_as : (h : ℕ) (o : Option Next) (table : Table) (t : ℕ) (next : Next) → IssuesAs t next (at_join h o table t next)
joining_as h None table t next = tt
joining_as h (Some other) table t next = cond_as t next (is_end other.sync) _ _ (issuing_as table t next) tt

tried_as : (op : SyncOp) (table : Table) (t : ℕ) (next : Next) → IssuesAs t next (tried op table t next)
tried_as sync.Start table t next = issuing_as table t next
tried_as (sync.Settle register control) table t next = issuing_as table t next
tried_as (sync.Lock l) table t next = cond_as t next (is_none (owner_in table.owners l)) _ _ (issuing_as table t next) tt
tried_as (sync.Unlock l) table t next = issuing_as table t next
tried_as (sync.Fork task arguments) table t next =
    cond_as t next (nat_lt (length table.seats) MOST_THREADS) _ _ (issuing_as table t next) tt
tried_as (sync.Join (pos h)) table t next =
    cond_as t next (nat_lt h (length table.seats)) _ _ (joining_as h (next_of table h) table t next) tt
tried_as (sync.Join (negsuc h)) table t next = tt
tried_as (sync.Barrier b) table t next = let there = come_to (stand_of table t) table t b in barrier_as (stand_of there t) there t next
tried_as sync.End table t next = issuing_as table t next
tried_as sync.BadIndex table t next = tt
tried_as sync.Spent table t next = tt

abbrev IsIssue : ℕ → Next → Option ℕ → Table → Again Table Turn → Type 0
IsIssue t next child after r = r ≡ Done (Issue t next child after)

stuck_issues : {t : ℕ} {next : Next} {child : Option ℕ} {after : Table} (l : Look) → IsIssue t next child after (deadlocked l) → ⊥
stuck_issues (To u there) e = cc e
stuck_issues (Unknown u) e = cc e
stuck_issues NoThread e = cc e

look_tried : (table : Table) (l : Look) (t : ℕ) (next : Next) (child : Option ℕ) (after : Table)
    → IsIssue t next child after (at_look l table) → tries l table ≡ Some (t, next)
look_tried table NoThread t next child after e = absurd (cc e)
look_tried table (Unknown u) t next child after e = absurd (cc e)
look_tried table (To u there) t next child after e = go (has_passed table u) e
  where
    go : (b : Bool) → IsIssue t next child after
        (cond b (deadlocked (look table (numbers 0 (length table.seats)))) (tried there.sync table u there))
        → cond {A = Option (ℕ × Next)} b None (Some (u, there)) ≡ Some (t, next)
    go true e = absurd (stuck_issues (look table (numbers 0 (length table.seats))) e)
    go false e = let h = subst (IssuesAs u there) e (tried_as there.sync table u there) in rw (h.0, h.1) refl

look_ahead : (table : Table) (l : Look) → Known table l → (t : ℕ) (next : Next) → tries l table ≡ Some (t, next)
    → next_of table t ≡ Some next
look_ahead table NoThread known t next e = absurd (cc e)
look_ahead table (Unknown u) known t next e = absurd (cc e)
look_ahead table (To u there) (known_to is live) t next e = go (has_passed table u) e
  where
    go : (b : Bool) → cond {A = Option (ℕ × Next)} b None (Some (u, there)) ≡ Some (t, next) → next_of table t ≡ Some next
    go true e = absurd (cc e)
    go false e =
        let same : ◌≡◌ {A = ℕ × Next} (u, there) (t, next) = ap (λ o. unwrap_or o (u, there)) e in
        subst (λ x. next_of table x.0 ≡ Some x.1) same is

pub ahead_law : AheadLaw
ahead_law table t next e =
    let known = look_ahead table _ (look_known table (ring table.token (length table.seats))) t next e in
    (inside_of table.seats t next known, known)

-- ---- the laws

abbrev left_of : Table → Again Table Turn → Table
left_of other (More there) = there
left_of other (Done what) = other

pub pass_law : PassLaw
pass_law table after e = go (turn table) e (turn_form table)
  where
    go : (r : Again Table Turn) → r ≡ More after → Form table r → SameThreads table after
    go (More there) is (passes same) = subst (SameThreads table) (ap (left_of table) is) same
    go (Done what) is form = absurd (cc is)

abbrev Begins : Table → Again Table Turn → Type 0
Begins table (Done (Issue t next child after)) = ahead table ≡ Some (t, next) → HasBegun table t next child after
Begins table _ = ⊤

begins : (table : Table) (r : Again Table Turn) → Form table r → Begins table r
begins table r (passes same) = tt
begins table r needs = tt
begins table r ends = tt
begins table r (issues {t = t} {next = next} there same known below may) = λ tried.
    let t_in : t < length table.seats = inside_of table.seats t next known in
    let e = same.threads in
    let c = changed_length there t next in
    record {
      inside = t_in;
      tried = tried;
      known = known;
      may = may;
      below = below;
      child_is = ap (child_of next.sync) same.threads;
      owners = ap (owners_after next.sync t) same.owners;
      limit = same.limit;
      issued = ap suc same.issued;
      unknown = ap (λ o. option_and_then (λ s. s.next) o) (issued_here there t next (omega arith));
      last = ap (λ o. option_and_then (λ s. s.last) o) (issued_here there t next (omega arith)) ∙ ap Some same.issued;
      others = λ u ne l. (
        issued_other there t next (λ s. s.next) (λ s. refl) u (omega arith) ne ∙ same.next u,
        issued_other there t next (λ s. s.last) (λ s. refl) u (omega arith) ne ∙ same.last u,
      );
      threads =
          grown_is next.sync (changed there t next)
          ∙ (ap (λ n. with_child (child_of next.sync n) n) c
          ∙ ap (λ n. with_child (child_of next.sync (length there.seats)) n) same.threads);
      further = λ u l k. (
        ap (child_of next.sync) (sym c) ∙ grown_by next.sync (changed there t next) u k (omega arith),
        ap (λ o. option_and_then (λ s. s.next) o) (grown_seat next.sync (changed there t next) u k (omega arith)),
        issued_past there t next u (omega arith),
      );
    }

pub issue_law : IssueLaw
issue_law table t next child after e =
    subst (Begins table) e (begins table (turn table) (turn_form table)) (look_tried table _ t next child after e)
