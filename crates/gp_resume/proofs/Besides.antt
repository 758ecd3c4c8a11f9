-- What a turn joins: the first that goes out, or one more beside those that are out.
use Rattle.std.proofs.Common.{◌≡◌, ℕ, ◌<◌, ◌≤◌, Bool, true, false, cond, List, [], length, map, Option, Some, None, refl, sym, ap, ◌∙◌, subst, arith, option_map, unwrap_or}
use Rattle.std.proofs.lemmas.List.{length-map}
use Rattle.task_ast.specs.declared.sync.Next.{Next}
use Rattle.task_ast.specs.meaning.Repeat.{Done as TurnDone}
use Rattle.task_ast.specs.meaning.Table.{is_settle}
use Rattle.task_ast.specs.Table.{Table}
use Rattle.task_ast.specs.Turn.{Issue, turn}
use Rattle.task_ast.specs.laws.Standing.{PassesTo, at_once, by_turn}
use Rattle.task_ast.specs.laws.Threads.{ahead}
use Rattle.task_ast.specs.Plain.{Plain}
use Rattle.task_ast.proofs.TurnLaws.{issue_law}
use Rattle.record_store.specs.Stored.{state_of}
use Rattle.token_order.specs.Turned.{settling_in}
use Rattle.token_order.specs.View.{Roomy}
use Rattle.gp_base.specs.declared.limits.TheConstants.{MOST_THREADS}
use Rattle.task_ast.proofs.Standings.{passed_same}
use Rattle.task_ast.proofs.SeatLimits.{most_threads_law}
use Rattle.gp_resume.specs.declared.course.ResumePlan.{ResumePlan}
use Rattle.gp_resume.specs.declared.course.Begun.{Begun}
use Rattle.gp_resume.specs.declared.course.Course.{Course}
use Rattle.gp_resume.specs.inner.Course.{IsSuited, Stands, spot_place}
use Rattle.gp_resume.specs.inner.Turning.{IsIssued, KeepsTurning}
use Rattle.gp_resume.specs.inner.Flights.{Flown, Flight, Joins, StandsPast, KnowsBut, RestsAlike}
use Rattle.gp_resume.proofs.FlightTables.{same-threads}
use Rattle.gp_resume.proofs.Flights.{flight-none, flight-issues, starts-same, starts-calm}

passes-on : {a b c : Table} → PassesTo a b → PassesTo b c → PassesTo a c
passes-on first at_once = first
passes-on first (by_turn then e) = by_turn (passes-on first then) e

pub keeps-on : {a b c : Course} → KeepsTurning a b → KeepsTurning b c → KeepsTurning a c
keeps-on first then =
    record {
      passed = passes-on first.passed then.passed;
      spots = then.spots ∙ first.spots;
      store = then.store ∙ first.store;
      issued = then.issued ∙ first.issued;
    }

-- after more turns that passed
pub past-on : (plan : ResumePlan) (x : Plain) (before now : Course) → StandsPast plan x before → KeepsTurning before now → StandsPast plan x now
past-on plan x before now past kept = record { before = past.before; stands = past.stands; kept = keeps-on past.kept kept }

pub past-none : (plan : ResumePlan) (x : Plain) (course : Course) → Stands plan x course → StandsPast plan x course
past-none plan x course stands =
    record { before = course; stands = stands; kept = record { passed = at_once; spots = refl; store = refl; issued = refl } }

-- there is a spot for each thread of the run
pub past-threads : (plan : ResumePlan) (x : Plain) (course : Course) → StandsPast plan x course → length course.spots.items ≡ length x.table.seats
past-threads plan x course past =
    ap length past.kept.spots ∙ (sym (length-map past.before.spots.items spot_place)
    ∙ (past.stands.same.others ∙ ap (λ (table : Table). length table.seats) (sym past.stands.same.table)))

-- where no settle is told, none is issued
pub calm : (table : Table) (t : ℕ) (begins : Next) (child : Option ℕ) (after : Table) → turn table ≡ TurnDone (Issue t begins child after)
    → settling_in (turn table) ≡ None → is_settle begins.sync ≡ false
calm table t begins child after e none = go (is_settle begins.sync) (sym (ap settling_in e) ∙ none)
  where
    go : (b : Bool) → cond b (Some t) None ≡ None → b ≡ false
    go true is = absurd (cc is)
    go false is = refl

-- the thread that was looked at is the one that is issued
pub looked : (table : Table) (t u : ℕ) (begins : Next) (child : Option ℕ) (after : Table) → turn table ≡ TurnDone (Issue t begins child after)
    → Some u ≡ option_map (λ tried. tried.0) (ahead table) → u ≡ t
looked table t u begins child after e is =
    ap (λ o. unwrap_or o u) (is ∙ ap (option_map (λ tried. tried.0)) (issue_law table t begins child after e).tried)

module _ (plan : ResumePlan) (suits : IsSuited plan) where
  pub first-joins : (x : Plain) (now : Course) → StandsPast plan x now
      → (t : ℕ) (begins : Next) (child : Option ℕ) (ring : Roomy) → turn now.ring.table ≡ TurnDone (Issue t begins child ring.table)
      → (then : Course) (begun : Begun) → IsIssued plan.work.now (record now { ring = ring }) then t begins child begun
      → (f : Flown) × (f.begun ≡ begun) × Joins plan (length x.table.seats) x [] f then
  first-joins x now past t begins child ring turned then begun is =
      let flight = flight-none plan suits x now past (length x.table.seats) (omega arith) in
      let inside = (issue_law now.ring.table t begins child ring.table turned).inside in
      let many = same-threads plan suits (length x.table.seats) x [] now.ring.table flight.table in
      let joins = flight-issues plan suits (length x.table.seats) x x [] now flight t begins child ring turned (omega arith)
      (starts-same plan suits begins.sync t x.state (state_of now.store) (sym flight.state)) then begun is in
      (joins.0, joins.1, joins.3)

  pub beside-joins : (threads : ℕ) (x y : Plain) (fs : List Flown) (now : Course) → Flight plan threads x y fs now
      → (t : ℕ) (begins : Next) (child : Option ℕ) (ring : Roomy) → turn now.ring.table ≡ TurnDone (Issue t begins child ring.table)
      → t < threads → is_settle begins.sync ≡ false
      → (then : Course) (begun : Begun) → IsIssued plan.work.now (record now { ring = ring }) then t begins child begun
      → (f : Flown) × (f.begun ≡ begun) × (f.before ≡ y) × Joins plan threads x fs f then
  beside-joins threads x y fs now flight t begins child ring turned old still then begun is =
      flight-issues plan suits threads x y fs now flight t begins child ring turned old
      (starts-calm plan suits begins.sync t y.state (state_of now.store) still) then begun is

  -- what an issue beside those that are out asks for
  pub beside-may : (threads : ℕ) (x y : Plain) (fs : List Flown) (now : Course) → Flight plan threads x y fs now
      → (t : ℕ) (begins : Next) (child : Option ℕ) (after : Table) → turn now.ring.table ≡ TurnDone (Issue t begins child after)
      → (t < length now.spots.items) × (length now.spots.items ≤ MOST_THREADS) × (now.issued < plan.limits.subthreads)
  beside-may threads x y fs now flight t begins child after turned =
      let begun = issue_law now.ring.table t begins child after turned in
      let inside = begun.inside in
      let below = begun.below in
      let spots = flight.spots in
      let most = most_threads_law now.ring.table flight.table.reached in
      let issued = flight.issued in
      let less = flight.table.less.issued in
      let limits = flight.table.less.limit in
      let whole = passed_same flight.table.passed in
      let same = whole.issued in
      let bound = whole.limit in
      let known = flight.sound.limit in
      (omega arith, omega arith, omega arith)

-- another ring with the same table
pub flight-ring : (plan : ResumePlan) (threads : ℕ) (x y : Plain) (fs : List Flown) (now : Course) (ring : Roomy) → ring.table ≡ now.ring.table
    → Flight plan threads x y fs now → Flight plan threads x y fs (record now { ring = ring })
flight-ring plan threads x y fs now ring same flight =
    record {
      chain = flight.chain;
      many = flight.many;
      sound = flight.sound;
      free = flight.free;
      table = subst (KnowsBut plan threads y fs) (sym same) flight.table;
      spots = subst (λ (table : Table). length now.spots.items ≡ length table.seats) (sym same) flight.spots;
      rests = subst (λ table. RestsAlike plan y table (map spot_place now.spots.items)) (sym same) flight.rests;
      numbered = flight.numbered;
      state = flight.state;
      lending = flight.lending;
      issued = flight.issued;
    }
