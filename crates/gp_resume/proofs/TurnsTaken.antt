-- What a turn says of a course that stands where a run does.
use Rattle.std.proofs.Common.{◌≡◌, inl, inr, ℕ, zero, suc, ◌+◌, ◌<◌, ◌≤◌, List, [], ◌∷◌, ◌++◌, length, map, Option, Some, None, unwrap_or, option_map, get_or, refl, sym, ap, ◌∙◌, subst, arith}
use Rattle.std.specs.Prelude.{ℤ, slice_get, slice_set}
use Rattle.std.proofs.lemmas.List.{length-map}
use Rattle.std.proofs.lemmas.Bool.{cases_lt}
use Rattle.std.proofs.lemmas.Option.{get_or_from_slice_get}
use Rattle.gp_base.specs.declared.ending.End.{End}
use Rattle.gp_base.specs.declared.feed.Inputs.{Inputs}
use Rattle.gp_base.specs.declared.limits.TheConstants.{MOST_THREADS}
use Rattle.task_ast.specs.declared.sync.SyncOp.{SyncOp}
use Rattle.task_ast.specs.declared.sync.SyncOp.TheVariants as sync
use Rattle.task_ast.specs.declared.sync.Next.{Next}
use Rattle.task_ast.specs.meaning.Control.{Point}
use Rattle.task_ast.specs.meaning.Tree.{Program}
use Rattle.task_ast.specs.meaning.Repeat.{Done}
use Rattle.task_ast.specs.meaning.State.{State}
use Rattle.task_ast.specs.Table.{Table, learning, owned}
use Rattle.task_ast.specs.meaning.Turn.{child_of}
use Rattle.task_ast.specs.Turn.{Issue, Needs, Ended, turn}
use Rattle.task_ast.specs.laws.Following.{Follows}
use Rattle.task_ast.specs.laws.Standing.{PassesTo}
use Rattle.task_ast.specs.laws.Threads.{with_child}
use Rattle.task_ast.specs.meaning.Plain.{Subthread}
use Rattle.task_ast.specs.Plain.{Plain, Machine, tree_machine, points_with, settled_by, from_by}
use Rattle.task_ast.specs.Position.{body_by}
use Rattle.task_ast.proofs.IssuedTables.{get_last, get_past, length_push, points_get, learnt_length}
use Rattle.task_ast.proofs.SeatLimits.{most_threads_law}
use Rattle.task_code.specs.Reading.{Place, code_machine}
use Rattle.task_code.specs.Relation.{Rests}
use Rattle.task_code.proofs.Machines.{follows}
use Rattle.record_store.specs.Stored.{Stored, state_of, with_thread}
use Rattle.record_store.proofs.States.{slot_law}
use Rattle.token_order.specs.View.{Roomy}
use Rattle.subthread.specs.declared.task.Work.{Work}
use Rattle.subthread.specs.Tasks.{machine_of, program_in}
use Rattle.gp_resume.specs.declared.course.ResumePlan.{ResumePlan}
use Rattle.gp_resume.specs.declared.course.Spot.{Spot}
use Rattle.gp_resume.specs.declared.course.Course.{Course}
use Rattle.gp_resume.specs.declared.course.Begun.{Begun}
use Rattle.gp_resume.specs.declared.course.Step.TheVariants as step
use Rattle.gp_resume.specs.inner.Course.{spot_place, run_in, IsSuited, IsSameRun, AreNumbered, IsHome, IsSound, Stands, Begins, Ended as HasEnded, Gives}
use Rattle.gp_resume.specs.inner.Turning.{start_with, settled_place, threads_with, IsIssued, KeepsTurning}
use Rattle.gp_resume.proofs.Moved.{found, none-needed, Issues, issues, ends, subthread, later, goes, keeps-locks, tables-after, same-limit, one-more, begins-rest, threads-after, t-after, points-count, leads-on}

-- the code of a work follows the tree of its program
pub follows-code : (plan : ResumePlan) → IsSuited plan
    → Follows (Rests (program_in plan.work.now)) (tree_machine (program_in plan.work.now) plan.inputs.value plan.limits)
    (machine_of plan.work.now)
follows-code plan suits =
    subst (Follows (Rests (program_in plan.work.now)) (tree_machine (program_in plan.work.now) plan.inputs.value plan.limits))
    (λ i. code_machine (sym suits.code.made i) (sym suits.feeds_are i) (sym suits.turns_are i))
    (follows (program_in plan.work.now) plan.inputs.value plan.limits)

-- ---- a child

-- the points with those of a child that starts at this place, or of none
pub grown-some : (machine : Machine Place) (op : SyncOp) (n : ℕ) (points : List Place) (place : Place)
    → Some place ≡ start_with machine op n
    → points ++ place ∷ [] ≡ points_with machine op n points
grown-some machine (sync.Fork task arguments) n points place e = ap (λ o. points ++ unwrap_or o place ∷ []) e
grown-some machine sync.Start n points place e = absurd (cc e)
grown-some machine (sync.Lock c) n points place e = absurd (cc e)
grown-some machine (sync.Unlock c) n points place e = absurd (cc e)
grown-some machine (sync.Join h) n points place e = absurd (cc e)
grown-some machine (sync.Settle register control) n points place e = absurd (cc e)
grown-some machine (sync.Barrier b) n points place e = absurd (cc e)
grown-some machine sync.End n points place e = absurd (cc e)
grown-some machine sync.BadIndex n points place e = absurd (cc e)
grown-some machine sync.Spent n points place e = absurd (cc e)

pub grown-none : (machine : Machine Place) (op : SyncOp) (n : ℕ) (points : List Place) → None ≡ start_with machine op n
    → points ≡ points_with machine op n points
grown-none machine (sync.Fork task arguments) n points e = absurd (cc e)
grown-none machine _ n points e = refl

-- and the registers
pub threads-some : (machine : Machine Place) (op : SyncOp) (n : ℕ) (threads : List (List ℤ)) (place : Place)
    → Some place ≡ start_with machine op n
    → threads ++ [] ∷ [] ≡ threads_with op threads
threads-some machine (sync.Fork task arguments) n threads place e = refl
threads-some machine sync.Start n threads place e = absurd (cc e)
threads-some machine (sync.Lock c) n threads place e = absurd (cc e)
threads-some machine (sync.Unlock c) n threads place e = absurd (cc e)
threads-some machine (sync.Join h) n threads place e = absurd (cc e)
threads-some machine (sync.Settle register control) n threads place e = absurd (cc e)
threads-some machine (sync.Barrier b) n threads place e = absurd (cc e)
threads-some machine sync.End n threads place e = absurd (cc e)
threads-some machine sync.BadIndex n threads place e = absurd (cc e)
threads-some machine sync.Spent n threads place e = absurd (cc e)

pub threads-none : (machine : Machine Place) (op : SyncOp) (n : ℕ) (threads : List (List ℤ)) → None ≡ start_with machine op n
    → threads ≡ threads_with op threads
threads-none machine (sync.Fork task arguments) n threads e = absurd (cc e)
threads-none machine _ n threads e = refl

map-push : (spots : List Spot) (spot : Spot) → map spot_place (spots ++ spot ∷ []) ≡ map spot_place spots ++ spot_place spot ∷ []
map-push [] spot = refl
map-push (x ∷ spots) spot = ap (λ places. spot_place x ∷ places) (map-push spots spot)

-- a course to which a child's place and registers were added, or none, where a fork's child starts so or nothing starts
module _ (work : Work) (op : SyncOp) (spots : List Spot) (n : ℕ) (count : n ≡ length spots) (start : Option Spot)
    (starts : option_map spot_place start ≡ start_with (machine_of work) op n) where
  pub points-some : (first : Spot) (now : List Spot) → start ≡ Some first → now ≡ spots ++ first ∷ []
      → map spot_place now ≡ points_with (machine_of work) op (length spots) (map spot_place spots)
  points-some first now is pushed =
      ap (map spot_place) pushed
      ∙ (map-push spots first
      ∙ (grown-some (machine_of work) op n (map spot_place spots) (spot_place first) (sym (ap (option_map spot_place) is) ∙ starts)
      ∙ ap (λ k. points_with (machine_of work) op k (map spot_place spots)) count))

  pub points-none : start ≡ None → map spot_place spots ≡ points_with (machine_of work) op (length spots) (map spot_place spots)
  points-none is = grown-none (machine_of work) op (length spots) (map spot_place spots)
      (sym (ap (option_map spot_place) is) ∙ (starts ∙ ap (start_with (machine_of work) op) count))

  pub store-some : (first : Spot) (store now : Stored) → start ≡ Some first → now ≡ with_thread 0 store
      → now ≡ record store { threads = threads_with op store.threads }
  store-some first store now is grown =
      grown ∙ ap (λ threads. record store { threads = threads })
      (threads-some (machine_of work) op n store.threads (spot_place first) (sym (ap (option_map spot_place) is) ∙ starts))

  pub store-none : (store : Stored) → start ≡ None → store ≡ record store { threads = threads_with op store.threads }
  store-none store is = ap (λ threads. record store { threads = threads })
      (threads-none (machine_of work) op n store.threads (sym (ap (option_map spot_place) is) ∙ starts))

-- a subthread begins so, where its thread stood, once a child was added
module _ (work : Work) (before : Course) (t : ℕ) (begins : Next) (child : Option ℕ) (spot : Spot) (held : List ℕ)
    (held-is : held ≡ owned before.ring.table t)
    (spot-is : (found : Spot) → slice_get before.spots.items t ≡ Some found
    → spot_place spot ≡ settled_place begins.sync t (state_of before.store) (spot_place found)) where
  pub is-issued : (now : Course) → now.ring ≡ before.ring → now.issued ≡ before.issued
      → map spot_place now.spots.items
      ≡ points_with (machine_of work) begins.sync (length before.spots.items) (map spot_place before.spots.items)
      → now.store ≡ record before.store { threads = threads_with begins.sync before.store.threads }
      → IsIssued work before (record now { issued = now.issued + 1 }) t begins child
      (record { pos = now.issued; thread = t; begins = begins; child = child; spot = spot; held = held })
  is-issued now ring issued points store =
      record {
        pos = issued;
        thread = refl;
        begins_so = refl;
        child_is = refl;
        held = held-is;
        spot = spot-is;
        ring = ring;
        points = points;
        store = store;
        issued = ap (λ n. n + 1) issued;
      }

-- a child's registers, of which there are none yet, change no data
pub child-state : (op : SyncOp) (store : Stored) → state_of (record store { threads = threads_with op store.threads }) ≡ state_of store
child-state (sync.Fork task arguments) store = slot_law store
child-state _ store = refl

pub child-threads : (op : SyncOp) (k : ℕ) (threads : List (List ℤ)) → k ≤ length threads
    → with_child (child_of op k) k ≤ length (threads_with op threads)
child-threads (sync.Fork task arguments) k threads l = let n = length_push threads [] in omega arith
child-threads _ k threads l = l

-- ---- spots

pub get-map : (spots : List Spot) (t : ℕ) (spot : Spot) → slice_get spots t ≡ Some spot
    → slice_get (map spot_place spots) t ≡ Some (spot_place spot)
get-map [] t spot e = absurd (cc e)
get-map (x ∷ spots) zero spot e = ap (option_map spot_place) e
get-map (x ∷ spots) (suc t) spot e = get-map spots t spot e

got-map : (spots : List Spot) (t : ℕ) (place : Place) → slice_get (map spot_place spots) t ≡ Some place
    → (spot : Spot) × (slice_get spots t ≡ Some spot) × (spot_place spot ≡ place)
got-map [] t place e = absurd (cc e)
got-map (x ∷ spots) zero place e = (x, refl, ap (λ o. unwrap_or o (spot_place x)) e)
got-map (x ∷ spots) (suc t) place e = got-map spots t place e

pub spot-there : (spots : List Spot) (t : ℕ) → t < length spots → (spot : Spot) × (slice_get spots t ≡ Some spot)
spot-there [] t l = absurd (omega arith)
spot-there (x ∷ spots) zero l = (x, refl)
spot-there (x ∷ spots) (suc t) l = spot-there spots t (omega arith)

none-some : {X : Type 0} {x : X} → None ≡ Some x → ⊥
none-some e = cc e

-- the copy of the spot that was read at a place
pub found-spot : (spots : List Spot) (i t : ℕ) (read copy found : Spot) → i ≡ t → read ≡ get_or spots i read → copy ≡ read
    → slice_get spots t ≡ Some found → copy ≡ found
found-spot spots i t read copy found same index copied there =
    copied ∙ (index ∙ get_or_from_slice_get spots i found read (ap (slice_get spots) same ∙ there))

-- the child's place has the child's number
new-number : (work : Work) (op : SyncOp) (points : List Place) (n t : ℕ) (place : Place) → n ≡ length points → n ≤ t
    → slice_get (points_with (machine_of work) op n points) t ≡ Some place → place.me ≡ t
new-number work (sync.Fork task arguments) points n t place is l e = elim (cases_lt n t) [
  | inl less ↦
      absurd (none-some (sym (get_past (points ++ (machine_of work).starts task n arguments ∷ []) t
      (let k = length_push points ((machine_of work).starts task n arguments) in omega arith)) ∙ e))
  | inr most ↦
      (let same : t ≡ length points = omega arith in
      ap (λ o. (unwrap_or o place).me)
      (sym e ∙ (ap (slice_get (points ++ (machine_of work).starts task n arguments ∷ [])) same
      ∙ get_last points ((machine_of work).starts task n arguments)))
      ∙ omega arith)
]
new-number work _ points n t place is l e = absurd (none-some (sym (get_past points t (omega arith)) ∙ e))

module _ (plan : ResumePlan) where
  -- each spot still has the number of its thread
  pub numbered-after : (work : Work) (op : SyncOp) (spots now : List Spot)
      → map spot_place now ≡ points_with (machine_of work) op (length spots) (map spot_place spots)
      → AreNumbered plan spots → AreNumbered plan now
  numbered-after work op spots now same numbered t spot e =
      let there : slice_get (points_with (machine_of work) op (length spots) (map spot_place spots)) t ≡ Some (spot_place spot) =
      ap (λ places. slice_get places t) (sym same) ∙ get-map now t spot e in
      let count = length-map spots spot_place in
      elim (cases_lt t (length spots)) [
        | inl l ↦
            (let old = got-map spots t (spot_place spot)
            (sym (points_get (machine_of work) op (length spots) (map spot_place spots) t (omega arith)) ∙ there) in
            ap (λ (place : Place). place.me) (sym old.2) ∙ numbered t old.0 old.1)
        | inr l ↦ new-number work op (map spot_place spots) (length spots) t (spot_place spot) (sym count) l there
      ]

-- a settle changes no number
pub settled-me : (op : SyncOp) (t : ℕ) (state : State) (place : Place) → (settled_place op t state place).me ≡ place.me
settled-me (sync.Settle register control) t state place = refl
settled-me _ t state place = refl

pub settled-is : (work : Work) (op : SyncOp) (t : ℕ) (state : State) (place : Place)
    → settled_by (machine_of work) op t state place ≡ settled_place op t state place
settled-is work (sync.Settle register control) t state place = refl
settled-is work _ t state place = refl

-- ---- after turns that passed

module _ (plan : ResumePlan) (suits : IsSuited plan) (before now : Course) (kept : KeepsTurning before now) (x : Plain)
    (stands : Stands plan x before) where
  abbrev program : Program
  program = program_in plan.work.now

  abbrev inputs : Inputs
  inputs = plan.inputs.value

  abbrev rests : SyncOp → Point → Place → Type 0
  rests = Rests (program_in plan.work.now)

  abbrev m : Machine Point
  m = tree_machine (program_in plan.work.now) plan.inputs.value plan.limits

  abbrev n : Machine Place
  n = machine_of plan.work.now

  follow : Follows rests m n
  follow = follows-code plan suits

  -- the passes are those of the run
  passed : PassesTo x.table now.ring.table
  passed = subst (λ table. PassesTo table now.ring.table) (sym stands.same.table) kept.passed

  state-is : state_of now.store ≡ x.state
  state-is = ap state_of kept.store ∙ sym stands.same.states

  issued-is : now.issued ≡ x.table.issued
  issued-is = kept.issued ∙ stands.issued

  home-is : IsHome plan x.table now.store
  home-is =
      subst (IsHome plan x.table) (sym kept.store) (subst (λ table. IsHome plan table before.store) (sym stands.same.table) stands.home)

  -- nothing is needed
  pub needs-none : (t : ℕ) → turn now.ring.table ≡ Done (Needs t) → ⊥
  needs-none t e = none-needed stands.sound.reached stands.sound.whole passed t e

  -- the end
  pub has-ended : (ending : End) (ring : Roomy) → turn now.ring.table ≡ Done (Ended ending)
      → HasEnded plan x ending (record now { ring = ring })
  has-ended ending ring e =
      record {
        moves = ends program inputs plan.limits x ending (found passed e);
        sound = stands.sound;
        state = state-is;
        home = home-is;
        issued = issued-is;
      }

  -- a subthread
  module _ (t : ℕ) (begins : Next) (child : Option ℕ) (ring : Roomy)
      (turned : turn now.ring.table ≡ Done (Issue t begins child ring.table)) where
    pub issued : Issues x.table t begins child ring.table
    issued = issues passed turned

    same-seats : length now.spots.items ≡ length x.table.seats
    same-seats =
        ap length kept.spots
        ∙ (sym (length-map before.spots.items spot_place)
        ∙ (stands.same.others ∙ ap (λ (table : Table). length table.seats) (sym stands.same.table)))

    -- there is a spot for the thread
    inside : t < length now.spots.items
    inside = let l = issued.begun.inside in let e = issued.same.threads in let s = same-seats in omega arith

    -- what an issue asks for
    pub may-issue : (t < length now.spots.items) × (length now.spots.items ≤ MOST_THREADS) × (now.issued < plan.limits.subthreads)
    may-issue = (
      inside,
      (let most = most_threads_law x.table stands.sound.reached in let s = same-seats in omega arith),
      (let below = issued.begun.below in let limit = issued.same.limit in let count = issued.same.issued in
          let known = stands.sound.limit in let i = issued-is in omega arith),
    )

    spot : (spot : Spot) × (slice_get now.spots.items t ≡ Some spot)
    spot = spot-there now.spots.items t inside

    spot-before : slice_get before.spots.items t ≡ Some spot.0
    spot-before = ap (λ spots. slice_get spots t) (sym kept.spots) ∙ spot.1

    -- where the thread begins, in the run on code
    from-is : from_by n (run_in before) begins.sync t ≡ settled_place begins.sync t (state_of now.store) (spot_place spot.0)
    from-is =
        ap (λ o. settled_by n begins.sync t (state_of before.store) (unwrap_or o (n.starts 0 t [])))
        (get-map before.spots.items t spot.0 spot-before)
        ∙ (settled-is plan.work.now begins.sync t (state_of before.store) (spot_place spot.0)
        ∙ ap (λ store. settled_place begins.sync t (state_of store) (spot_place spot.0)) (sym kept.store))

    abbrev s : Subthread
    s = subthread program inputs plan.limits x t begins child ring.table issued

    abbrev y : Plain
    y = later program inputs plan.limits x t begins child ring.table issued

    sound-after : IsSound plan y
    sound-after =
        let tables = tables-after program inputs plan.limits x t begins child ring.table issued
        stands.sound.reached stands.sound.whole in
        record {
          locks = (keeps-locks program inputs plan.limits x t begins child ring.table issued
              suits.code.accepted stands.sound.locks).1;
          reached = tables.0;
          whole = tables.1;
          limit = same-limit program inputs plan.limits x t begins child ring.table issued ∙ stands.sound.limit;
        }

    abbrev child-points : List Place
    child-points = points_with n begins.sync (length (map spot_place before.spots.items)) (map spot_place before.spots.items)

    module _ (then : Course) (begun : Begun) (is : IsIssued plan.work.now (record now { ring = ring }) then t begins child begun) where
      spot-is : spot_place begun.spot ≡ settled_place begins.sync t (state_of now.store) (spot_place spot.0)
      spot-is = is.spot spot.0 spot.1

      points-are : child-points ≡ map spot_place then.spots.items
      points-are =
          ap (λ k. points_with n begins.sync k (map spot_place before.spots.items)) (length-map before.spots.items spot_place)
          ∙ (ap (λ spots. points_with n begins.sync (length spots) (map spot_place spots)) (sym kept.spots) ∙ sym is.points)

      home-then : IsHome plan y.table then.store
      home-then =
          subst (IsHome plan y.table) (sym is.store)
          (record {
            threads =
                let most = child-threads begins.sync (length x.table.seats) now.store.threads home-is.threads in
                let count = threads-after rests m n follow x (run_in before) stands.same t begins child
                ring.table issued in
                let learnt = learnt_length ring.table t (body_by m x s).next in
                omega arith;
            cells = home-is.cells;
            under = home-is.under;
            locks = home-is.locks;
            home = home-is.home;
          })

      leads : (place : Place) (state : State) → rests (body_by m x s).next.sync (body_by m x s).at place
          → IsSameRun plan (record y { state = state })
          (record {
            table = learning then.ring.table t (body_by m x s).next;
            points = slice_set (map spot_place then.spots.items) t place;
            state = state;
          })
      leads place state rested =
          subst (IsSameRun plan (record y { state = state }))
          (λ i. record {
            table = learning (sym is.ring i).table t (body_by m x s).next;
            points = slice_set (points-are i) t place;
            state = state;
          })
          (leads-on rests m n follow x (run_in before) stands.same t begins child ring.table issued
          (body_by m x s).next (body_by m x s).at place rested state)

      pub begins-next : Begins plan x s y begun then
      begins-next =
          record {
            moves = goes program inputs plan.limits x t begins child ring.table issued;
            before = stands.sound;
            after = sound-after;
            keeps = (keeps-locks program inputs plan.limits x t begins child ring.table issued
                suits.code.accepted stands.sound.locks).0;
            pos = is.pos ∙ issued-is;
            thread = is.thread;
            begins = is.begins_so;
            child = is.child_is;
            held = is.held;
            me = ap (λ (place : Place). place.me) spot-is
                ∙ (settled-me begins.sync t (state_of now.store) (spot_place spot.0) ∙ stands.numbered t spot.0 spot-before);
            from = subst (rests begins.sync (from_by m x begins.sync t)) (from-is ∙ sym spot-is)
                (begins-rest rests m n follow x (run_in before) stands.same t begins child ring.table issued);
            state = ap state_of is.store ∙ (child-state begins.sync now.store ∙ state-is);
            home = home-then;
            numbered = numbered-after plan plan.work.now begins.sync now.spots.items then.spots.items is.points
                (subst (AreNumbered plan) (sym kept.spots) stands.numbered);
            seats = subst (λ (ring : Roomy). t < length ring.table.seats) (sym is.ring)
                (t-after rests m n follow x (run_in before) stands.same t begins child ring.table issued);
            spots = sym (length-map then.spots.items spot_place)
                ∙ (ap length (sym points-are)
                ∙ (points-count rests m n follow x (run_in before) stands.same t begins child ring.table issued
                ∙ ap (λ (ring : Roomy). length ring.table.seats) (sym is.ring)));
            issued = let one = is.issued in let i = issued-is in
                let more = one-more program inputs plan.limits x t begins child ring.table issued in omega arith;
            leads = leads;
          }

      pub gives-next : Gives plan x (step.Goes begun) then
      gives-next = (s, (y, begins-next))
