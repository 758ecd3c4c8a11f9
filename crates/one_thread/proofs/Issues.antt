-- What an issue of a turn leaves. A table is like another where it has as many threads and may still issue as many
-- (Like). Each rule of a turn passes to such a table, ends, or issues from one; an issue has begun one more, and has
-- one thread more after a fork.
use Rattle.std.proofs.Common.{◌≡◌, ℕ, zero, suc, ◌<◌, Bool, true, false, cond, List, map, length, Option, Some, None, is_none, nat_lt, nat_le, unwrap_or, refl, ap, ◌∙◌, subst, arith, count_by, option_and_then, add-one}
use Rattle.one_thread.specs.Runs.{grown}
use Rattle.std.specs.Prelude.{slice_get, pos, negsuc}
use Rattle.std.proofs.lemmas.Bool.{ltb-true}
use Rattle.std.proofs.lemmas.List.{length-map, length-append}
use Rattle.std.proofs.lemmas.Option.{slice_get_within}
use Rattle.gp_base.specs.declared.limits.TheConstants.{MOST_THREADS}
use Rattle.gp_base.specs.declared.ending.End.TheVariants.{Finished}
use Rattle.task_ast.specs.Table.{owner_in, Seat, Table, next_of, unpassed, waits_at}
use Rattle.task_ast.specs.declared.sync.SyncOp.{SyncOp}
use Rattle.task_ast.specs.declared.sync.SyncOp.TheVariants as sync
use Rattle.task_ast.specs.declared.sync.Next.{Next}
use Rattle.task_ast.specs.meaning.Repeat.{Again, More, Done, go_on, repeated, until_done}
use Rattle.task_ast.specs.meaning.Table.{Stand, Away, Waits, Released, ring, with_nth, numbers}
use Rattle.task_ast.specs.meaning.Turn.{child_of}
use Rattle.task_ast.specs.Turn.{Turn, Issue, Needs, Ended, Look, To, Unknown, NoThread, look, at_look, tried, issuing, passing, at_join, at_barrier, come_to, met, arrived, stand_of, seats_after, released_at, has_passed, deadlocked, turn, turns_left, next_issue}
use Rattle.task_ast.proofs.Counting.{length-with_nth}
use Rattle.task_ast.proofs.Turns.{Known, known_to, look_known}

-- a table of so many threads that may still issue, and where a turn leads from it
pub record Like (limit issued threads : ℕ) (table : Table) : Type 0 where
  pub limit_is : table.limit ≡ limit
  pub issued_is : table.issued ≡ issued
  pub threads_are : length table.seats ≡ threads

pub record Issues (limit issued threads t : ℕ) (next : Next) (child : Option ℕ) (after : Table) : Type 0 where
  pub below : issued < limit
  pub inside : t < threads
  pub child_is : child ≡ child_of next.sync threads
  pub limit_is : after.limit ≡ limit
  pub issued_is : after.issued ≡ suc issued
  pub threads_are : length after.seats ≡ grown next.sync threads

data Leads (limit issued threads : ℕ) : Again Table Turn → Type 0 where
  passes : {after : Table} → Like limit issued threads after → Leads limit issued threads (More after)
  issues : {t : ℕ} {next : Next} {child : Option ℕ} {after : Table} → Issues limit issued threads t next child after
      → Leads limit issued threads (Done (Issue t next child after))
  needs : {t : ℕ} → Leads limit issued threads (Done (Needs t))
  ends : {e : _} → Leads limit issued threads (Done (Ended e))

grown-seats : (op : SyncOp) (seats : List Seat) → length (seats_after op seats) ≡ grown op (length seats)
grown-seats (sync.Fork k values) seats = length-append seats _ ∙ add-one (length seats)
grown-seats sync.Start seats = refl
grown-seats (sync.Lock l) seats = refl
grown-seats (sync.Unlock l) seats = refl
grown-seats (sync.Join h) seats = refl
grown-seats (sync.Barrier b) seats = refl
grown-seats (sync.Settle register control) seats = refl
grown-seats sync.End seats = refl
grown-seats sync.BadIndex seats = refl
grown-seats sync.Spent seats = refl

module _ (limit issued threads : ℕ) where
  cond_leads : (b : Bool) (first second : Again Table Turn) → (b ≡ true → Leads limit issued threads first)
      → (b ≡ false → Leads limit issued threads second) → Leads limit issued threads (cond b first second)
  cond_leads true first second f s = f refl
  cond_leads false first second f s = s refl

  issuing_leads : (table : Table) (t : ℕ) (next : Next) → Like limit issued threads table → t < threads
      → Leads limit issued threads (issuing table t next)
  issuing_leads table t next like inside =
      cond_leads (nat_lt table.issued table.limit) _ _
      (λ less. issues (record {
        below = let l = ltb-true table.issued table.limit less in let a = like.issued_is in let b = like.limit_is in omega arith;
        inside = inside;
        child_is = ap (child_of next.sync) like.threads_are;
        limit_is = like.limit_is;
        issued_is = ap suc like.issued_is;
        threads_are =
            grown-seats next.sync (map unpassed (with_nth table.seats t
            (λ s. record { next = None; last = Some table.issued; passed = false; stand = Away })))
            ∙ ap (grown next.sync) (length-map (with_nth table.seats t _) unpassed ∙ length-with_nth table.seats t _ ∙ like.threads_are);
      }))
      (λ more. ends)

  passing_leads : (table : Table) (t : ℕ) → Like limit issued threads table → Leads limit issued threads (passing table t)
  passing_leads table t like =
      passes (record {
        limit_is = like.limit_is;
        issued_is = like.issued_is;
        threads_are = length-with_nth table.seats t (λ s. record s { passed = true }) ∙ like.threads_are;
      })

  joining_leads : (h : ℕ) (o : Option Next) (table : Table) (t : ℕ) (next : Next) → Like limit issued threads table → t < threads
      → Leads limit issued threads (at_join h o table t next)
  joining_leads h None table t next like inside = needs
  joining_leads h (Some other) table t next like inside =
      cond_leads _ _ _ (λ e. issuing_leads table t next like inside) (λ e. passing_leads table t like)

  met_like : (table : Table) (t b : ℕ) → Like limit issued threads table → Like limit issued threads (met (arrived table t) b)
  met_like table t b like = go (nat_le (unwrap_or (slice_get table.barriers b) 0) (count_by (waits_at b) (arrived table t).seats))
    where
      same : length (arrived table t).seats ≡ threads
      same =
          length-with_nth (map unpassed table.seats) t (λ s. record s { stand = Waits }) ∙ length-map table.seats unpassed
          ∙ like.threads_are

      go : (all : Bool)
          → Like limit issued threads (cond all (record (arrived table t) { seats = map (released_at b) (arrived table t).seats })
          (arrived table t))
      go true =
          record {
            limit_is = like.limit_is;
            issued_is = like.issued_is;
            threads_are = length-map (arrived table t).seats (released_at b)
                ∙ same;
          }
      go false = record { limit_is = like.limit_is; issued_is = like.issued_is; threads_are = same }

  come_like : (stand : Stand) (table : Table) (t b : ℕ) → Like limit issued threads table
      → Like limit issued threads (come_to stand table t b)
  come_like Away table t b like = met_like table t b like
  come_like Waits table t b like = like
  come_like Released table t b like = like

  barrier_leads : (stand : Stand) (table : Table) (t : ℕ) (next : Next) → Like limit issued threads table → t < threads
      → Leads limit issued threads (at_barrier stand table t next)
  barrier_leads Away table t next like inside = passing_leads table t like
  barrier_leads Waits table t next like inside = passing_leads table t like
  barrier_leads Released table t next like inside = issuing_leads table t next like inside

  tried_leads : (op : SyncOp) (table : Table) (t : ℕ) (next : Next) → Like limit issued threads table → t < threads
      → Leads limit issued threads (tried op table t next)
  tried_leads sync.Start table t next like inside = issuing_leads table t next like inside
  tried_leads (sync.Lock l) table t next like inside =
      cond_leads (is_none (owner_in table.owners l)) _ _ (λ e. issuing_leads table t next like inside) (λ e. passing_leads table t like)
  tried_leads (sync.Unlock l) table t next like inside = issuing_leads table t next like inside
  tried_leads (sync.Fork task arguments) table t next like inside =
      cond_leads (nat_lt (length table.seats) MOST_THREADS) _ _ (λ e. issuing_leads table t next like inside) (λ e. ends)
  tried_leads (sync.Join (pos h)) table t next like inside =
      cond_leads (nat_lt h (length table.seats)) _ _ (λ e. joining_leads h (next_of table h) table t next like inside) (λ e. ends)
  tried_leads (sync.Join (negsuc h)) table t next like inside = ends
  tried_leads (sync.Barrier b) table t next like inside =
      let there = come_to (stand_of table t) table t b in
      barrier_leads (stand_of there t) there t next (come_like (stand_of table t) table t b like) inside
  tried_leads (sync.Settle register control) table t next like inside = issuing_leads table t next like inside
  tried_leads sync.End table t next like inside = issuing_leads table t next like inside
  tried_leads sync.BadIndex table t next like inside = ends
  tried_leads sync.Spent table t next like inside = ends

  stuck_leads : (l : Look) → Leads limit issued threads (deadlocked l)
  stuck_leads (To t next) = ends
  stuck_leads (Unknown t) = needs
  stuck_leads NoThread = ends

  thread-inside : (seats : List Seat) (t : ℕ) (next : Next) → option_and_then (λ s. s.next) (slice_get seats t) ≡ Some next
      → t < length seats
  thread-inside seats t next e = go (slice_get seats t) refl e
    where
      go : (o : Option Seat) → slice_get seats t ≡ o → option_and_then (λ s. s.next) o ≡ Some next → t < length seats
      go None at f = absurd (cc f)
      go (Some seat) at f = slice_get_within seats t seat at

  look_leads : (table : Table) (l : Look) → Known table l → Like limit issued threads table → Leads limit issued threads (at_look l table)
  look_leads table (To t next) (known_to e live) like =
      cond_leads (has_passed table t) _ _ (λ p. stuck_leads (look table (numbers 0 (length table.seats))))
      (λ p. tried_leads next.sync table t next like
      (let within = thread-inside table.seats t next e in let all = like.threads_are in omega arith))
  look_leads table (Unknown t) known like = needs
  look_leads table NoThread known like = ends

  turn_leads : (table : Table) → Like limit issued threads table → Leads limit issued threads (turn table)
  turn_leads table like =
      look_leads table (look table (ring table.token (length table.seats))) (look_known table (ring table.token (length table.seats))) like

  data Led : Turn → Type 0 where
    led_issues : {t : ℕ} {next : Next} {child : Option ℕ} {after : Table} → Issues limit issued threads t next child after
        → Led (Issue t next child after)
    led_needs : {t : ℕ} → Led (Needs t)
    led_ends : {e : _} → Led (Ended e)

  go_on_led : (r : Again Table Turn) (again : Table → Turn) → Leads limit issued threads r
      → ((after : Table) → Like limit issued threads after → Led (again after)) → Led (go_on turn turns_left (Ended Finished) again r)
  go_on_led (More after) again (passes like) each = each after like
  go_on_led (Done (Issue t next child after)) again (issues is) each = led_issues is
  go_on_led (Done (Needs t)) again needs each = led_needs
  go_on_led (Done (Ended e)) again ends each = led_ends

  repeated_led : (n : ℕ) (table : Table) → Like limit issued threads table → Led (repeated turn turns_left (Ended Finished) n table)
  unfolding repeated
  repeated_led zero table like = led_ends
  repeated_led (suc n) table like =
      go_on_led (turn table) (repeated turn turns_left (Ended Finished) n) (turn_leads table like) (λ after l. repeated_led n after l)

  issue_led : (table : Table) → Like limit issued threads table → Led (next_issue table)
  unfolding until_done
  issue_led table like = repeated_led (suc (turns_left table)) table like

  led-issue : {t : ℕ} {next : Next} {child : Option ℕ} {after : Table} → Led (Issue t next child after)
      → Issues limit issued threads t next child after
  led-issue (led_issues is) = is

-- where turns come to an issue
pub issued-so : (table : Table) (t : ℕ) (next : Next) (child : Option ℕ) (after : Table) → next_issue table ≡ Issue t next child after
    → Issues table.limit table.issued (length table.seats) t next child after
issued-so table t next child after e =
    led-issue table.limit table.issued (length table.seats)
    (subst (Led table.limit table.issued (length table.seats)) e
    (issue_led table.limit table.issued (length table.seats) table (record { limit_is = refl; issued_is = refl; threads_are = refl })))
