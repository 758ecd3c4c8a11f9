-- The laws of the plain run. From a table that is reached and whole turns lead to an issue or an end (Endings), and
-- when the next synchronisation is learnt the table is whole again. So the table of the run is reached and whole after
-- any number of steps.
use Rattle.std.proofs.Common.{◌≡◌, inl, inr, ℕ, zero, suc, ◌+◌, ◌<◌, ◌≤◌, [], ◌∷◌, length, Option, Some, refl, ap, ◌∙◌, arith, option_and_then}
use Rattle.std.specs.Prelude.{slice_get}
use Rattle.std.proofs.lemmas.Bool.{cases_eq}
use Rattle.gp_base.specs.declared.limits.Limits.{Limits}
use Rattle.gp_base.specs.declared.feed.Inputs.{Inputs}
use Rattle.gp_base.specs.declared.ending.End.{End}
use Rattle.gp_base.specs.declared.ending.End.TheVariants.{Finished}
use Rattle.task_ast.specs.declared.sync.SyncOp.TheVariants as sync
use Rattle.task_ast.specs.declared.sync.Next.{Next}
use Rattle.task_ast.specs.meaning.Tree.{Program}
use Rattle.task_ast.specs.meaning.Repeat.{Again, More, Done, go_on, repeated, until_done, steps, steps_from, state_after, state_from}
use Rattle.task_ast.specs.meaning.Table.{with_nth}
use Rattle.task_ast.specs.Table.{Seat, Table, learning, new_seat}
use Rattle.task_ast.specs.Turn.{Turn, Issue, Needs, Ended, turn, turns_left, next_issue}
use Rattle.task_ast.specs.Reached.{Reached, at_start, by_pass, by_issue, by_learning}
use Rattle.task_ast.specs.laws.Ends.{IsWhole}
use Rattle.task_ast.specs.Plain.{PlainOf, Machine, on_turn_by, move_by, opening_by, order_by, last_by}
use Rattle.task_ast.proofs.Counting.{length-with_nth, get-with_nth}
use Rattle.task_ast.proofs.Rounds.{other_nth, there_nth}
use Rattle.task_ast.proofs.Endings.{Whole, Begun, issues, ends, Goes, more, done, turn_goes}

-- what turns lead to from a table that is reached
data Led (limit issued : ℕ) : Turn → Type 0 where
  to_issue : {t : ℕ} {next : Next} {child : Option ℕ} {after : Table} → Begun limit (suc issued) t after → Reached after
      → Led limit issued (Issue t next child after)
  to_end : {ending : End} → Led limit issued (Ended ending)

led_by : (limit issued n : ℕ) (table : Table) → Reached table → Whole limit issued table
    → Led limit issued (repeated turn turns_left (Ended Finished) n table)
unfolding repeated
led_by limit issued zero table reached whole = to_end
led_by limit issued (suc n) table reached whole =
    go (turn table) refl (turn_goes limit issued table reached whole) (λ after r w. led_by limit issued n after r w)
  where
    go : (r : Again Table Turn) → turn table ≡ r → Goes limit issued r
        → ((after : Table) → Reached after → Whole limit issued after
        → Led limit issued (repeated turn turns_left (Ended Finished) n after))
        → Led limit issued (go_on turn turns_left (Ended Finished) (repeated turn turns_left (Ended Finished) n) r)
    go (More after) e (more w) again = again after (by_pass reached e) w
    go (Done (Issue t next child after)) e (done (issues b)) again = to_issue b (by_issue reached e)
    go (Done (Ended ending)) e (done ends) again = to_end
    go (Done (Needs t)) e (done fair) again = elim fair [ ]

led : (limit issued : ℕ) (table : Table) → Reached table → Whole limit issued table → Led limit issued (next_issue table)
unfolding until_done
led limit issued table reached whole = led_by limit issued (suc (turns_left table)) table reached whole

-- once the next synchronisation is learnt, all are known again
learnt : (limit issued t : ℕ) (table : Table) (next : Next) → Begun limit issued t table → Whole limit issued (learning table t next)
learnt limit issued t table next begun =
    record {
      limit_is = begun.limit_is;
      issued_is = begun.issued_is;
      within = begun.within;
      known = λ u u_in. elim (cases_eq u t) [
        | inl same ↦
            (let seat = there_nth learn table.seats t begun.here in (
              next,
              ap (λ k. option_and_then (λ s. s.next) (slice_get (with_nth table.seats t learn) k)) same
                  ∙ ap (λ o. option_and_then (λ s. s.next) o) (get-with_nth table.seats t learn seat.0 seat.1),
            ))
        | inr ne ↦
            (let known = begun.others u (let e = length-with_nth table.seats t learn in omega arith) ne in
            (known.0, ap (λ o. option_and_then (λ s. s.next) o) (other_nth learn table.seats t u ne) ∙ known.1))
      ];
    }
  where
    learn : Seat → Seat
    learn s = record s { next = Some next }

-- all is known of a table exactly where it is so at its own limit
whole_in : {table : Table} → IsWhole table → Whole table.limit table.issued table
whole_in whole = record { limit_is = refl; issued_is = refl; within = whole.within; known = whole.known }

is_whole : {limit issued : ℕ} {table : Table} → Whole limit issued table → IsWhole table
is_whole whole =
    record { within = let l = whole.limit_is in let i = whole.issued_is in let w = whole.within in omega arith; known = whole.known }

module _ {P : Type 0} (machine : Machine P) (limit : ℕ) where
  -- the run's table is reached and whole
  record Runs (issued : ℕ) (x : PlainOf P) : Type 0 where
    reached : Reached x.table
    whole : Whole limit issued x.table

  ends_in : (n issued : ℕ) (x : PlainOf P) → Runs issued x → limit < n + issued
      → (ending : End) × (next_issue (state_after (move_by machine) n x).table ≡ Ended ending)
  unfolding state_after
  ends_in zero issued x runs enough = absurd (let w = runs.whole.within in omega arith)
  ends_in (suc n) issued x runs enough =
      go (next_issue x.table) refl (led limit issued x.table runs.reached runs.whole) (λ y r. ends_in n (suc issued) y r (omega arith))
    where
      go : (what : Turn) → next_issue x.table ≡ what → Led limit issued what
          → ((y : PlainOf P) → Runs (suc issued) y → (ending : End) × (next_issue (state_after (move_by machine) n y).table ≡ Ended ending))
          → (ending : End) × (next_issue (state_from (move_by machine) x (on_turn_by machine x what)
          (state_after (move_by machine) n)).table ≡ Ended ending)
      go (Issue t next child after) e (to_issue b reached) again =
          again _ (record { reached = by_learning t _ reached b.unknown; whole = learnt limit (suc issued) t after _ b })
      go (Ended ending) e to_end again = (ending, e)
      go (Needs t) e l again = elim l [ ]

  counted : (n issued : ℕ) (x : PlainOf P) → Runs issued x → length (steps (move_by machine) n x) + issued ≤ limit
  unfolding steps
  counted zero issued x runs = let w = runs.whole.within in omega arith
  counted (suc n) issued x runs =
      go (next_issue x.table) (led limit issued x.table runs.reached runs.whole) (λ y r. let h = counted n (suc issued) y r in omega arith)
    where
      go : (what : Turn) → Led limit issued what
          → ((y : PlainOf P) → Runs (suc issued) y → suc (length (steps (move_by machine) n y)) + issued ≤ limit)
          → length (steps_from (move_by machine) (on_turn_by machine x what) (steps (move_by machine) n)) + issued ≤ limit
      go (Issue t next child after) (to_issue b reached) again =
          again _ (record { reached = by_learning t _ reached b.unknown; whole = learnt limit (suc issued) t after _ b })
      go (Ended ending) to_end again = let w = runs.whole.within in omega arith
      go (Needs t) l again = elim l [ ]

  stays : (n issued : ℕ) (x : PlainOf P) → Runs issued x
      → Reached (state_after (move_by machine) n x).table × IsWhole (state_after (move_by machine) n x).table
  unfolding state_after
  stays zero issued x runs = (runs.reached, is_whole runs.whole)
  stays (suc n) issued x runs =
      go (next_issue x.table) (led limit issued x.table runs.reached runs.whole) (λ y r. stays n (suc issued) y r)
    where
      go : (what : Turn) → Led limit issued what
          → ((y : PlainOf P) → Runs (suc issued) y
          → Reached (state_after (move_by machine) n y).table × IsWhole (state_after (move_by machine) n y).table)
          → Reached (state_from (move_by machine) x (on_turn_by machine x what) (state_after (move_by machine) n)).table
          × IsWhole (state_from (move_by machine) x (on_turn_by machine x what) (state_after (move_by machine) n)).table
      go (Issue t next child after) (to_issue b reached) again =
          again _ (record { reached = by_learning t _ reached b.unknown; whole = learnt limit (suc issued) t after _ b })
      go (Ended ending) to_end again = (runs.reached, is_whole runs.whole)
      go (Needs t) l again = elim l [ ]

-- from any start
module _ {P : Type 0} (machine : Machine P) (n : ℕ) (start : PlainOf P) (reached : Reached start.table) (whole : IsWhole start.table) where
  abbrev runs_from : Runs machine start.table.limit start.table.issued start
  runs_from = record { reached = reached; whole = whole_in whole }

  pub end_from : start.table.limit < n + start.table.issued
      → (ending : End) × (next_issue (state_after (move_by machine) n start).table ≡ Ended ending)
  end_from enough = ends_in machine start.table.limit n start.table.issued start runs_from enough

  pub count_from : length (steps (move_by machine) n start) + start.table.issued ≤ start.table.limit
  count_from = counted machine start.table.limit n start.table.issued start runs_from

  pub tables_from : Reached (state_after (move_by machine) n start).table × IsWhole (state_after (move_by machine) n start).table
  tables_from = stays machine start.table.limit n start.table.issued start runs_from

-- from the opening
module _ {P : Type 0} (machine : Machine P) (program : Program) (inputs : Inputs) (limits : Limits) where
  begins : IsWhole (opening_by machine program inputs limits).table
  begins = record { within = omega arith; known = known }
    where
      known : (u : ℕ) → u < 1 → (next : Next) × (option_and_then (λ s. s.next) (slice_get (new_seat ∷ []) u) ≡ Some next)
      known zero l = (record { sync = sync.Start; line = 0 }, refl)
      known (suc u) l = absurd (omega arith)

  pub end_law : (ending : End) × (next_issue (last_by machine program inputs limits).table ≡ Ended ending)
  end_law = end_from machine (suc limits.subthreads) (opening_by machine program inputs limits) at_start begins (omega arith)

  pub count_law : length (order_by machine program inputs limits) ≤ limits.subthreads
  count_law = let h = count_from machine (suc limits.subthreads) (opening_by machine program inputs limits) at_start begins in omega arith

  pub tables_law : (n : ℕ)
      → Reached (state_after (move_by machine) n (opening_by machine program inputs limits)).table
      × IsWhole (state_after (move_by machine) n (opening_by machine program inputs limits)).table
  tables_law n = tables_from machine n (opening_by machine program inputs limits) at_start begins
