-- Where a run begins.
use Rattle.std.proofs.Common.{◌≡◌, ℕ, zero, suc, ◌≤◌, false, List, [], ◌∷◌, length, map, replicate, None, unwrap_or, refl, sym, ap, ◌∙◌, subst, arith}
use Rattle.std.specs.Prelude.{ℤ, All}
use Rattle.std.proofs.lemmas.List.{length-map}
use Rattle.gp_base.specs.declared.feed.Inputs.{Inputs}
use Rattle.task_ast.specs.declared.layout.Layout.{Layout}
use Rattle.task_ast.specs.declared.sync.SyncOp.TheVariants as sync
use Rattle.task_ast.specs.meaning.Tree.{Program}
use Rattle.task_ast.specs.meaning.Names.{locks_of, records_of, barriers_of, registers_of, cells_in}
use Rattle.task_ast.specs.meaning.Layout.{layout, cells_under}
use Rattle.task_ast.specs.Reached.{Reached, start_table}
use Rattle.task_ast.specs.meaning.Table.{numbers}
use Rattle.task_ast.specs.Table.{Table}
use Rattle.task_ast.specs.laws.Ends.{IsWhole}
use Rattle.task_ast.specs.meaning.Plain.{main_task, main_number}
use Rattle.task_ast.specs.Plain.{Plain, tree_machine, opening, opening_by, move}
use Rattle.task_ast.proofs.Layouts.{length-numbers, accepted_sizes}
use Rattle.task_ast.proofs.PlainRuns.{tables_law}
use Rattle.task_ast.proofs.Repeats.{state_after_none}
use Rattle.task_ast.proofs.SameRuns.{opening_alike}
use Rattle.lock_checker.proofs.BaseLemmas.{accepted_small}
use Rattle.lock_checker.proofs.LocksHeld.{stands_first}
use Rattle.task_code.specs.Reading.{Place, start_place}
use Rattle.task_code.specs.Relation.{Rests}
use Rattle.record_store.specs.Lent.{IsSharedOut}
use Rattle.record_store.specs.Stored.{state_of, with_thread, without_threads}
use Rattle.record_store.proofs.SharedOut.{shared_law}
use Rattle.record_store.proofs.States.{opening_law}
use Rattle.subthread.specs.Tasks.{machine_of, program_in}
use Rattle.gp_resume.specs.declared.course.ResumePlan.{ResumePlan}
use Rattle.gp_resume.specs.declared.course.Spot.{Spot}
use Rattle.gp_resume.specs.declared.course.Course.{Course}
use Rattle.gp_resume.specs.inner.Course.{spot_place, run_in, IsSuited, IsSameRun, AreNumbered, IsHome, IsSound, Stands}
use Rattle.gp_resume.proofs.TurnsTaken.{follows-code}

-- each lock is at home
all-home : (under : List (List ℕ)) → All (λ away. away ≡ false) (map (λ _. false) under)
all-home [] k d l = absurd (omega arith)
all-home (x ∷ under) zero d l = refl
all-home (x ∷ under) (suc k) d l = all-home under k d (omega arith)

module _ (plan : ResumePlan) (suits : IsSuited plan) where
  abbrev program : Program
  program = program_in plan.work.now

  abbrev inputs : Inputs
  inputs = plan.inputs.value

  abbrev start : Plain
  start = opening (program_in plan.work.now) plan.inputs.value plan.limits

  -- how many lock cells there are
  locks : (cells : Layout) → cells ≡ layout program.heads → length cells.under ≡ cells_in (locks_of program.heads)
  locks cells same =
      ap (λ (l : Layout). length l.under) same
      ∙ (length-map (numbers 0 (cells_in (locks_of program.heads))) (cells_under program.heads)
      ∙ length-numbers 0 (cells_in (locks_of program.heads)))

  pub few-locks : (cells : Layout) → cells ≡ layout program.heads → length cells.under ≤ 65536
  few-locks cells same =
      let few = (accepted_small program suits.code.accepted.faultless).0 in let count = locks cells same in omega arith

  -- the record cells stand under the lock cells, each under one
  pub shared-out : (cells : Layout) → cells ≡ layout program.heads → (records : List ℤ) → records ≡ inputs.records
      → IsSharedOut (length records) cells.under
  shared-out cells same records are =
      let count = ap length are ∙ suits.inputs_are.records in
      subst (λ n. IsSharedOut n cells.under) (sym count)
      (subst (λ (l : Layout). IsSharedOut (cells_in (records_of program.heads)) l.under) (sym same)
      (shared_law program.heads (accepted_sizes program suits.code.accepted)))

  -- the ring begins as the plain run's table
  pub ring-begins : (cells : Layout) → cells ≡ layout program.heads
      → (table : Table) (n : ℕ) (barriers : List ℕ) → n ≡ length cells.under
      → barriers ≡ map (λ b. b.1) (barriers_of program.heads)
      → table ≡ start_table plan.limits.subthreads barriers (replicate n None) (record { sync = sync.Start; line = 0 })
      → table ≡ start.table
  ring-begins cells same table n barriers is_n are is =
      is
      ∙ (λ i. start_table plan.limits.subthreads (are i) (replicate ((is_n ∙ locks cells same) i) None)
      (record { sync = sync.Start; line = 0 }))

  -- the opening is sound
  opening-sound : IsSound plan start
  opening-sound =
      record {
        locks = stands_first program inputs plan.limits suits.code.accepted;
        reached = tables.0;
        whole = tables.1;
        limit = refl;
      }
    where
      tables : Reached start.table × IsWhole start.table
      tables =
          subst (λ (x : Plain). Reached x.table × IsWhole x.table)
          (sym (state_after_none (move program inputs plan.limits) start))
          (tables_law (tree_machine program inputs plan.limits) program inputs plan.limits 0)

  -- the one spot has the number of thread 0
  one-numbered : (spots : List Spot) (spot : Spot) → spots ≡ spot ∷ [] → spot.me ≡ 0 → AreNumbered plan spots
  one-numbered spots spot are me = subst (AreNumbered plan) (sym are) numbered
    where
      numbered : AreNumbered plan (spot ∷ [])
      numbered zero other e = ap (λ o. (unwrap_or o spot).me) (sym e) ∙ me
      numbered (suc t) other e = absurd (cc e)

  -- a course with thread 0 at the start of `main` stands where the opening does
  pub stands-opening : (cells : Layout) → cells ≡ layout program.heads
      → (course : Course) (spot : Spot) → course.ring.table ≡ start.table → course.spots.items ≡ spot ∷ []
      → spot_place spot ≡ start_place program (main_number program) 0 []
      → course.store ≡ with_thread (length (registers_of (main_task program))) (without_threads inputs.records cells.under)
      → course.issued ≡ 0 → Stands plan start course
  stands-opening cells same course spot table_is spots_are place_is store_is none =
      record {
        same = subst (IsSameRun plan start) (sym run-is)
            (opening_alike (Rests program) (tree_machine program inputs plan.limits) (machine_of plan.work.now) (follows-code plan suits)
            program plan.limits (λ left right. left ≡ right) inputs inputs refl);
        sound = opening-sound;
        home = subst (λ table. IsHome plan table course.store) (sym table_is)
            (subst (IsHome plan start.table) (sym store_is) home-opening);
        numbered = one-numbered course.spots.items spot spots_are (ap (λ (place : Place). place.me) place_is);
        issued = none;
      }
    where
      run-is : run_in course ≡ opening_by (machine_of plan.work.now) program inputs plan.limits
      run-is = λ i. record {
        table = table_is i;
        points = (ap (map spot_place) spots_are ∙ ap (λ place. place ∷ []) place_is) i;
        state = (ap state_of store_is ∙ opening_law program inputs plan.limits cells.under) i;
      }

      home-opening : IsHome plan start.table
          (with_thread (length (registers_of (main_task program))) (without_threads inputs.records cells.under))
      home-opening =
          record {
            threads = omega arith;
            cells = suits.inputs_are.records;
            under = ap (λ (l : Layout). l.under) same;
            locks = length-map cells.under (λ _. false) ∙ locks cells same;
            home = all-home cells.under;
          }
