-- The thread table while subthreads are out: what an issue, a pass, and what becomes known of a thread leave of it.
--
-- The table knows less than that of the run (LessTurns), so its issue is the run's. A thread that is out keeps its locks, since nobody else
-- gives them back, and its next synchronisation and point in the run are those that its body leads to. Where none is out, the table is the
-- run's.
use Rattle.std.proofs.Common.{◌≡◌, inl, inr, ℕ, zero, suc, ◌+◌, ◌<◌, ◌≤◌, Bool, true, false, cond, List, [], ◌∷◌, ◌++◌, length, Contains, Option, Some, None, nat_eq, unwrap_or, refl, sym, ap, ◌∙◌, subst, arith, option_and_then}
use Rattle.std.specs.Prelude.{◌⊎◌, ⊤, ℤ, pos, negsuc, slice_get, slice_set}
use Rattle.std.proofs.lemmas.Bool.{cases_lt, cases_eq, eqb-true, false≢true}
use Rattle.task_ast.specs.declared.sync.SyncOp.{SyncOp}
use Rattle.task_ast.specs.declared.sync.SyncOp.TheVariants as sync
use Rattle.task_ast.specs.declared.sync.Next.{Next}
use Rattle.task_ast.specs.meaning.Control.{Point}
use Rattle.task_ast.specs.meaning.Tree.{Program}
use Rattle.gp_base.specs.declared.feed.Inputs.{Inputs}
use Rattle.task_ast.specs.meaning.Repeat.{Again, More, Done, Goes}
use Rattle.task_ast.specs.meaning.Table.{owned_from}
use Rattle.task_ast.specs.Table.{Seat, Table, next_of, learning, is_known_end, owner_in}
use Rattle.task_ast.specs.meaning.Turn.{child_of, owners_after}
use Rattle.task_ast.specs.Turn.{Turn, Issue, turn}
use Rattle.task_ast.specs.SyncOps.{joined_by}
use Rattle.task_ast.specs.Under.{KeepsToLocks}
use Rattle.task_ast.specs.meaning.Layout.{layout}
use Rattle.task_ast.specs.Reached.{by_pass, by_issue, by_learning}
use Rattle.task_ast.specs.laws.Following.{Follows}
use Rattle.task_ast.specs.laws.Less.{IsUnknown, SeatLess, SeatsLess, KnowsLess, Alike, passes, issues, needs, ends}
use Rattle.task_ast.specs.laws.Standing.{at_once, by_turn}
use Rattle.task_ast.specs.laws.Threads.{MayBegin, HasBegun, with_child}
use Rattle.task_ast.specs.meaning.Plain.{Subthread}
use Rattle.task_ast.specs.Plain.{Plain, Machine, tree_machine, points_with, point_by, move, setting}
use Rattle.task_ast.specs.Position.{body_by, point_in, IsStep}
use Rattle.task_ast.proofs.IssuedTables.{fresh_seat, learn, issued_here, get_set_here, get_set_other, points_get, learnt_here, learnt_other, learnt_length}
use Rattle.task_ast.proofs.LessSeats.{length_less, nth_of_less, nth_of_more}
use Rattle.task_ast.proofs.LessTurns.{turn_alike, inside_of}
use Rattle.task_ast.proofs.PlainSteps.{begins_of, is_step}
use Rattle.task_ast.proofs.Standings.{passed_same}
use Rattle.task_ast.proofs.TurnForms.{Form, turn_form, issues as form_issue, needs as form_need, ends as form_end}
use Rattle.task_ast.proofs.TurnLaws.{issue_law, pass_law}
use Rattle.lock_checker.specs.Soundness.{LocksStand, IsAhead, at_start, at_stop, at_limit}
use Rattle.lock_checker.proofs.StepStops.{stops_from, after_stop}
use Rattle.lock_checker.proofs.WalkLemmas.{walk_law}
use Rattle.task_code.specs.Reading.{Place}
use Rattle.task_code.specs.Relation.{Rests}
use Rattle.subthread.specs.Tasks.{machine_of, program_in}
use Rattle.gp_resume.specs.declared.course.ResumePlan.{ResumePlan}
use Rattle.gp_resume.specs.declared.course.Begun.{Begun}
use Rattle.gp_resume.specs.inner.Course.{IsSuited, IsSound}
use Rattle.gp_resume.specs.inner.Flights.{Flown, Each, HasThread, IsFree, IsOut, KnowsBut, RestsAlike}
use Rattle.gp_resume.proofs.Moved.{Issues, issues as issues-past, subthread, later, goes, keeps-locks, tables-after, same-limit, grown-count, new-rests}
use Rattle.gp_resume.proofs.TurnsTaken.{follows-code}

none-some : {X : Type 0} {x : X} → None ≡ Some x → ⊥
none-some e = cc e

some-same : {X : Type 0} {a b : X} → Some a ≡ Some b → a ≡ b
some-same {a = a} e = ap (λ o. unwrap_or o a) e

some-or : {X : Type 0} (o : Option X) → (o ≡ None → ⊥) → (x : X) × (o ≡ Some x)
some-or None none = absurd (none refl)
some-or (Some x) none = (x, refl)

-- ---- lists

pub each-map : {A : Type 0} (P Q : A → Type 0) → ((x : A) → P x → Q x) → (xs : List A) → Each P xs → Each Q xs
each-map P Q to [] all = tt
each-map P Q to (x ∷ xs) all = (to x all.0, each-map P Q to xs all.1)

pub each-push : {A : Type 0} (P : A → Type 0) (xs : List A) (x : A) → Each P xs → P x → Each P (xs ++ x ∷ [])
each-push P [] x all new = (new, tt)
each-push P (y ∷ xs) x all new = (all.0, each-push P xs x all.1 new)

pub has-first : (fs : List Flown) (f : Flown) (u : ℕ) → HasThread fs u → HasThread (fs ++ f ∷ []) u
has-first [] f u has = absurd has
has-first (g ∷ fs) f u (inl is) = inl is
has-first (g ∷ fs) f u (inr has) = inr (has-first fs f u has)

pub has-last : (fs : List Flown) (f : Flown) → HasThread (fs ++ f ∷ []) f.subthread.thread
has-last [] f = inl refl
has-last (g ∷ fs) f = inr (has-last fs f)

-- ---- a table of which all is known

seat-known : (l m : Seat) (next : Next) → l.next ≡ Some next → SeatLess l m → l ≡ m
seat-known l m next e h = elim h.next [
  | inl same ↦ (λ i. record { next = same i; last = h.last i; passed = h.passed i; stand = h.stand i })
  | inr unknown ↦ absurd (none-some (sym unknown.next ∙ e))
]

seats-known : (less more : List Seat) → SeatsLess less more
    → ((u : ℕ) → u < length less → (next : Next) × (option_and_then (λ s. s.next) (slice_get less u) ≡ Some next)) → less ≡ more
seats-known [] [] h known = refl
seats-known [] (m ∷ more) h known = absurd h
seats-known (l ∷ less) [] h known = absurd h
seats-known (l ∷ less) (m ∷ more) h known =
    let first = known 0 (omega arith) in
    let same = seat-known l m first.0 first.1 h.0 in
    let rest = seats-known less more h.1 (λ u inside. known (suc u) (omega arith)) in
    λ i. same i ∷ rest i

-- a table that knows no less than another is that
pub table-known : (less more : Table) → KnowsLess less more → ((u : ℕ) → u < length less.seats → next_of less u ≡ None → ⊥) → less ≡ more
table-known less more h none =
    let seats = seats-known less.seats more.seats h.seats (λ u inside. some-or (next_of less u) (none u inside)) in
    λ i. record {
      limit = h.limit i;
      barriers = h.barriers i;
      seats = seats i;
      owners = h.owners i;
      token = h.token i;
      issued = h.issued i;
    }

-- ---- an issue

-- what was issued last is not known
abbrev HasFresh : Table → Turn → Type 0
HasFresh table (Issue t next child after) = slice_get after.seats t ≡ Some (fresh_seat table.issued)
HasFresh table _ = ⊤

fresh-of : (table : Table) (what : Turn) → Form table (Done what) → HasFresh table what
fresh-of table what (form_issue {t = t} {next = next} there same known below may) =
    let t_in : t < length table.seats = inside_of table.seats t next known in
    let e = same.threads in
    issued_here there t next (omega arith) ∙ ap (λ n. Some (fresh_seat n)) same.issued
fresh-of table what form_need = tt
fresh-of table what form_end = tt

unknown-seat : (position : ℕ) (l : Seat) → fresh_seat position ≡ l → IsUnknown l
unknown-seat position l e = subst IsUnknown e (record { next = refl; stand = refl })

-- the other may learn of it
less-learnt : (less more : Table) (t position : ℕ) (next : Next) → slice_get less.seats t ≡ Some (fresh_seat position)
    → KnowsLess less more → KnowsLess less (learning more t next)
less-learnt less more t position next here k =
    record {
      seats = nth_of_more (learn next) less.seats more.seats t k.seats
          (λ l m is h. record {
            next = inr (unknown-seat position l (some-same (sym here ∙ is)));
            last = h.last;
            passed = h.passed;
            stand = h.stand;
          });
      limit = k.limit;
      barriers = k.barriers;
      owners = k.owners;
      token = k.token;
      issued = k.issued;
    }

-- where the one issues, the other issues the same
pub issue-alike : (table : Table) (t : ℕ) (begins : Next) (child : Option ℕ) (after : Table) (r s : Again Table Turn) → Alike table r s
    → r ≡ Done (Issue t begins child after)
    → (more : Table) × (s ≡ Done (Issue t begins child more)) × KnowsLess after more
issue-alike table t begins child after r s (passes k) e = absurd (cc e)
issue-alike table t begins child after r s (issues {t = u} {next = next} {child = other} {less = less} {more = more} k) e =
    let a : u ≡ t = cc e in
    let b : next ≡ begins = cc e in
    let c : other ≡ child = cc e in
    let d : less ≡ after = cc e in
    (more, (λ i. Done (Issue (a i) (b i) (c i) more)), subst (λ l. KnowsLess l more) d k)
issue-alike table t begins child after r s (needs l none) e = absurd (cc e)
issue-alike table t begins child after r s ends e = absurd (cc e)

-- and where it passes, the other passes
pub pass-alike : (table after : Table) (r s : Again Table Turn) → Alike table r s → r ≡ More after
    → (more : Table) × (s ≡ More more) × KnowsLess after more
pass-alike table after r s (passes {less = less} {more = more} k) e =
    let d : less ≡ after = cc e in (more, refl, subst (λ l. KnowsLess l more) d k)
pass-alike table after r s (issues k) e = absurd (cc e)
pass-alike table after r s (needs l none) e = absurd (cc e)
pass-alike table after r s ends e = absurd (cc e)

-- a table with no fewer threads after a subthread
no-fewer : (child : Option ℕ) (n : ℕ) → n ≤ with_child child n
no-fewer None n = omega arith
no-fewer (Some c) n = omega arith

-- only a fork has a child, which is the next thread
forking : (op : SyncOp) (n c : ℕ) → child_of op n ≡ Some c
    → (task : ℕ) × ((arguments : List ℤ) × ((op ≡ sync.Fork task arguments) × (c ≡ n)))
forking (sync.Fork k es) n c is = (k, (es, (refl, (let same : n ≡ c = cc is in sym same))))
forking sync.Start n c is = absurd (cc is)
forking (sync.Lock l) n c is = absurd (cc is)
forking (sync.Unlock l) n c is = absurd (cc is)
forking (sync.Join h) n c is = absurd (cc is)
forking (sync.Barrier b) n c is = absurd (cc is)
forking (sync.Settle register control) n c is = absurd (cc is)
forking sync.End n c is = absurd (cc is)
forking sync.BadIndex n c is = absurd (cc is)
forking sync.Spent n c is = absurd (cc is)

-- a thread is joined only where its end is known
joins-ended : (table : Table) (op : SyncOp) (h : ℕ) → joined_by op ≡ Some h → MayBegin table op → is_known_end (next_of table h) ≡ true
joins-ended table (sync.Join (pos k)) h is may =
    subst (λ h. is_known_end (next_of table h) ≡ true) (let same : k ≡ h = cc is in same) may.1
joins-ended table (sync.Join (negsuc k)) h is may = absurd (cc is)
joins-ended table (sync.Fork k es) h is may = absurd (cc is)
joins-ended table sync.Start h is may = absurd (cc is)
joins-ended table (sync.Lock l) h is may = absurd (cc is)
joins-ended table (sync.Unlock l) h is may = absurd (cc is)
joins-ended table (sync.Barrier b) h is may = absurd (cc is)
joins-ended table (sync.Settle register control) h is may = absurd (cc is)
joins-ended table sync.End h is may = absurd (cc is)
joins-ended table sync.BadIndex h is may = absurd (cc is)
joins-ended table sync.Spent h is may = absurd (cc is)

-- a thread owns what stands among its locks
owned-owner : (owners : List (Option ℕ)) (n t l : ℕ) → Contains (owned_from n owners t) l
    → (k : ℕ) × (l ≡ n + k) × (owner_in owners k ≡ Some t)
owned-owner [] n t l c = absurd (let less = c.1 in omega arith)
owned-owner (None ∷ owners) n t l c =
    let r = owned-owner owners (suc n) t l c in
    let is = r.1 in
    (suc r.0, omega arith, r.2)
owned-owner (Some o ∷ owners) n t l c = go (nat_eq t o) refl c (owned-owner owners (suc n) t l)
  where
    go : (b : Bool) → nat_eq t o ≡ b → Contains (cond b (n ∷ owned_from (suc n) owners t) (owned_from (suc n) owners t)) l
        → (Contains (owned_from (suc n) owners t) l → (k : ℕ) × (l ≡ suc n + k) × (owner_in owners k ≡ Some t))
        → (k : ℕ) × (l ≡ n + k) × (owner_in (Some o ∷ owners) k ≡ Some t)
    go true same (zero, less, is) again = (0, omega arith, ap Some (sym (eqb-true t o same)))
    go true same (suc j, less, is) again =
        let r = again (j, omega arith, is) in
        let at = r.1 in
        (suc r.0, omega arith, r.2)
    go false differ c again =
        let r = again c in
        let at = r.1 in
        (suc r.0, omega arith, r.2)

pub owned-is : (owners : List (Option ℕ)) (t l : ℕ) → Contains (owned_from 0 owners t) l → owner_in owners l ≡ Some t
owned-is owners t l c =
    let r = owned-owner owners 0 t l c in
    let is = r.1 in
    let same : r.0 ≡ l = omega arith in
    subst (λ l. owner_in owners l ≡ Some t) same r.2

module _ (plan : ResumePlan) (suits : IsSuited plan) where
  abbrev program : Program
  program = program_in plan.work.now

  abbrev inputs : Inputs
  inputs = plan.inputs.value

  abbrev m : Machine Point
  m = tree_machine (program_in plan.work.now) plan.inputs.value plan.limits

  abbrev n : Machine Place
  n = machine_of plan.work.now

  -- a subthread takes no lock of another thread
  others-keep : (x : Plain) (s : Subthread) (y : Plain) → LocksStand program inputs plan.limits x → IsStep m x s y
      → s.thread < length x.table.seats
      → (u l : ℕ) → (u ≡ s.thread → ⊥) → owner_in x.table.owners l ≡ Some u → owner_in y.table.owners l ≡ Some u
  others-keep x s y stands step inside u l ne own =
      subst (λ owners. owner_in owners l ≡ Some u) (sym step.owners) (go (stands.ahead s.thread s.begins inside step.begins))
    where
      old : Point
      old = point_in program inputs plan.limits x s.thread

      go : IsAhead (setting program inputs plan.limits) (point_in program inputs plan.limits x s.thread) s.begins
          → owner_in (owners_after s.begins.sync s.thread x.table.owners) l ≡ Some u
      go (at_limit e) = absurd (subst (λ n. MayBegin x.table n.sync) e step.may)
      go (at_start e) = ap (λ o. owner_in (owners_after o s.thread x.table.owners) l) e ∙ own
      go (at_stop e) =
          let was = stands.threads s.thread inside in
          let walk =
          walk_law (setting program inputs plan.limits) was.number was.task was.start (point_in program inputs plan.limits x s.thread) was.held
          suits.code.accepted was.is_task was.starts was.comes in
          let stop = stops_from (setting program inputs plan.limits) (point_in program inputs plan.limits x s.thread).left
          (point_in program inputs plan.limits x s.thread) s.begins e in
          (after_stop (setting program inputs plan.limits) x.table s.thread stands.owners _ was.held walk.1 was.owned was.all was.apart
          (point_in program inputs plan.limits x s.thread).left s.begins.sync stop step.may walk.0).others u l ne own

  -- as many threads as in the run
  pub same-threads : (threads : ℕ) (y : Plain) (fs : List Flown) (table : Table) → KnowsBut plan threads y fs table
      → length table.seats ≡ length y.table.seats
  same-threads threads y fs table knows =
      length_less table.seats knows.whole.seats knows.less.seats ∙ (passed_same knows.passed).threads

  -- a turn that passes
  pub knows-past : (threads : ℕ) (y : Plain) (fs : List Flown) (table after : Table) → KnowsBut plan threads y fs table
      → turn table ≡ More after → KnowsBut plan threads y fs after
  knows-past threads y fs table after knows e =
      let alike = pass-alike table after (turn table) (turn knows.whole) (turn_alike table knows.whole knows.reached knows.less) e in
      let same = pass_law table after e in
      record {
        whole = alike.0;
        passed = by_turn knows.passed alike.1;
        less = alike.2;
        reached = by_pass knows.reached e;
        known = λ u inside none. knows.known u (let k = same.threads in omega arith) (sym (same.next u) ∙ none);
        out = each-map (IsOut plan threads y table) (IsOut plan threads y after)
            (λ f out. record {
              there = let k = same.threads in let l = out.there in omega arith;
              unknown = same.next f.subthread.thread ∙ out.unknown;
              next = out.next;
              point = out.point;
              owns = out.owns;
              child = out.child;
            })
            fs knows.out;
      }

  -- what becomes known of the first that is out
  module _ (threads : ℕ) (y : Plain) (f : Flown) (fs : List Flown) (table : Table) (knows : KnowsBut plan threads y (f ∷ fs) table)
      (free : Each (λ g. IsFree f.subthread g.subthread) fs) where
    abbrev known-next : Next
    known-next = (body_by (tree_machine (program_in plan.work.now) plan.inputs.value plan.limits) f.before f.subthread).next

    whole-next : next_of knows.whole f.subthread.thread ≡ Some known-next
    whole-next = (passed_same knows.passed).next f.subthread.thread ∙ knows.out.0.next

    pub knows-learnt : KnowsBut plan threads y fs (learning table f.subthread.thread known-next)
    knows-learnt =
        record {
          whole = knows.whole;
          passed = knows.passed;
          less = record {
            seats = nth_of_less (learn known-next) table.seats knows.whole.seats f.subthread.thread knows.less.seats
                (λ l m is there h. record {
                  next = inl (sym (sym (ap (λ o. option_and_then (λ s. s.next) o) there) ∙ whole-next));
                  last = h.last;
                  passed = h.passed;
                  stand = h.stand;
                });
            limit = knows.less.limit;
            barriers = knows.less.barriers;
            owners = knows.less.owners;
            token = knows.less.token;
            issued = knows.less.issued;
          };
          reached = by_learning f.subthread.thread known-next knows.reached knows.out.0.unknown;
          known = others-known;
          out = others-out fs free knows.out.1;
        }
      where
        others-known : (u : ℕ) → u < length (learning table f.subthread.thread known-next).seats
            → next_of (learning table f.subthread.thread known-next) u ≡ None → HasThread fs u
        others-known u inside none = elim (cases_eq u f.subthread.thread) [
          | inl same ↦
              absurd (none-some (sym none ∙ (ap (next_of (learning table f.subthread.thread known-next)) same
              ∙ learnt_here table f.subthread.thread known-next knows.out.0.there)))
          | inr ne ↦
              (let k = learnt_length table f.subthread.thread known-next in
              rest (knows.known u (omega arith) (sym (learnt_other table f.subthread.thread u known-next ne) ∙ none)) ne)
        ]
          where
            rest : (f.subthread.thread ≡ u) ⊎ HasThread fs u → (u ≡ f.subthread.thread → ⊥) → HasThread fs u
            rest (inl is) ne = absurd (ne (sym is))
            rest (inr has) ne = has

        others-out : (gs : List Flown) → Each (λ g. IsFree f.subthread g.subthread) gs → Each (IsOut plan threads y table) gs
            → Each (IsOut plan threads y (learning table f.subthread.thread known-next)) gs
        others-out [] free out = tt
        others-out (g ∷ gs) free out = (
          record {
            there = let k = learnt_length table f.subthread.thread known-next in let l = out.0.there in omega arith;
            unknown = learnt_other table f.subthread.thread g.subthread.thread known-next free.0.thread ∙ out.0.unknown;
            next = out.0.next;
            point = out.0.point;
            owns = out.0.owns;
            child = out.0.child;
          },
          others-out gs free.1 out.1,
        )

    -- once its place rests where its body leads, each that is known rests
    pub rests-learnt : (places : List Place) (place : Place) → length places ≡ length table.seats → RestsAlike plan y table places
        → Rests program known-next.sync (body_by m f.before f.subthread).at place
        → RestsAlike plan y (learning table f.subthread.thread known-next) (slice_set places f.subthread.thread place)
    rests-learnt places place count rests rested u next e = elim (cases_eq u f.subthread.thread) [
      | inl same ↦
          subst (λ u. Rests program next.sync (point_by m y u)
          (unwrap_or (slice_get (slice_set places f.subthread.thread place) u) (n.starts 0 u []))) (sym same)
          (subst (λ (other : Next). Rests program other.sync (point_by m y f.subthread.thread)
          (unwrap_or (slice_get (slice_set places f.subthread.thread place) f.subthread.thread) (n.starts 0 f.subthread.thread [])))
          (some-same (sym (learnt_here table f.subthread.thread known-next knows.out.0.there)
          ∙ (ap (next_of (learning table f.subthread.thread known-next)) (sym same) ∙ e)))
          (subst (λ p. Rests program known-next.sync p
          (unwrap_or (slice_get (slice_set places f.subthread.thread place) f.subthread.thread) (n.starts 0 f.subthread.thread [])))
          (sym knows.out.0.point)
          (subst (Rests program known-next.sync (body_by m f.before f.subthread).at)
          (sym (ap (λ o. unwrap_or o (n.starts 0 f.subthread.thread []))
          (get_set_here places f.subthread.thread place (let l = knows.out.0.there in omega arith))))
          rested)))
      | inr ne ↦
          subst (Rests program next.sync (point_by m y u))
          (sym (ap (λ o. unwrap_or o (n.starts 0 u [])) (get_set_other places f.subthread.thread u place ne)))
          (rests u next (sym (learnt_other table f.subthread.thread u known-next ne) ∙ e))
    ]

  -- an issue, of a thread that was there before any of these began
  module _ (threads : ℕ) (y : Plain) (sound : IsSound plan y) (fs : List Flown) (table : Table) (knows : KnowsBut plan threads y fs table)
      (t : ℕ) (begins : Next) (child : Option ℕ) (after : Table) (turned : turn table ≡ Done (Issue t begins child after)) (old : t < threads)
      (more : Table) (whole-turned : turn knows.whole ≡ Done (Issue t begins child more)) (less : KnowsLess after more) where
    pub issued : Issues y.table t begins child more
    issued = issues-past knows.passed whole-turned

    abbrev pub s : Subthread
    s = subthread (program_in plan.work.now) plan.inputs.value plan.limits y t begins child more issued

    abbrev pub z : Plain
    z = later (program_in plan.work.now) plan.inputs.value plan.limits y t begins child more issued

    pub moves : move program inputs plan.limits y ≡ Goes s z
    moves = goes program inputs plan.limits y t begins child more issued

    pub step : IsStep m y s z
    step = is_step m y sound.locks.points s z (begins_of m y s z moves)

    pub has-begun : HasBegun table t begins child after
    has-begun = issue_law table t begins child after turned

    pub sound-after : IsSound plan z
    sound-after =
        let tables = tables-after program inputs plan.limits y t begins child more issued sound.reached sound.whole in
        record {
          locks = (keeps-locks program inputs plan.limits y t begins child more issued suits.code.accepted sound.locks).1;
          reached = tables.0;
          whole = tables.1;
          limit = same-limit program inputs plan.limits y t begins child more issued ∙ sound.limit;
        }

    pub keeps : KeepsToLocks (layout (program_in plan.work.now).heads).under s
    keeps = (keeps-locks program inputs plan.limits y t begins child more issued suits.code.accepted sound.locks).0

    many : length table.seats ≡ length y.table.seats
    many = same-threads threads y fs table knows

    -- a thread that is out is another one
    other : (e : Flown) → IsOut plan threads y table e → e.subthread.thread ≡ t → ⊥
    other e out same = none-some (sym out.unknown ∙ (ap (next_of table) same ∙ has-begun.known))

    pub grown : length y.table.seats ≤ length z.table.seats
    grown = let g = no-fewer s.child (length y.table.seats) in let k = step.threads in omega arith

    grows : length table.seats ≤ length after.seats
    grows = let g = no-fewer child (length table.seats) in let k = has-begun.threads in omega arith

    still-out : (e : Flown) → IsOut plan threads y table e → IsOut plan threads z after e
    still-out e out =
        record {
          there = let l = out.there in let g = grows in omega arith;
          unknown = (has-begun.others e.subthread.thread (other e out) out.there).0 ∙ out.unknown;
          next = kept.0 ∙ out.next;
          point = kept.1 ∙ out.point;
          owns = λ l holds. others-keep y s z sound.locks step (let l = has-begun.inside in let k = many in omega arith)
              e.subthread.thread l (other e out) (out.owns l holds);
          child = λ c is.
              let was = out.child c is in
              let low = was.0 in
              let l = was.1 in
              let g = grown in
              (was.0, omega arith, (step.others c (λ same. omega arith) was.1).0 ∙ was.2);
        }
      where
        kept : (next_of z.table e.subthread.thread ≡ next_of y.table e.subthread.thread)
            × (point_by m z e.subthread.thread ≡ point_by m y e.subthread.thread)
        kept = step.others e.subthread.thread (other e out) (let l = out.there in let k = many in omega arith)

    module _ (begun : Begun) where
      abbrev pub flown : Flown
      flown = record { begun = begun; before = y; subthread = s; after = z }

      new-out : threads ≤ length y.table.seats → IsOut plan threads z after flown
      new-out all =
          record {
            there = let l = has-begun.inside in let g = grows in omega arith;
            unknown = has-begun.unknown;
            next = step.next;
            point = step.point;
            owns = λ l holds. owned-is z.table.owners t l (subst (λ held. Contains held l) step.held holds);
            child = λ c is.
                let fork = forking s.begins.sync (length y.table.seats) c (sym step.child ∙ is) in
                let same : c ≡ length y.table.seats = fork.1.1.1 in
                let k = step.threads ∙ ap (λ child. with_child child (length y.table.seats)) is in (
                  omega arith,
                  omega arith,
                  ap (next_of z.table) same ∙ (step.forked fork.0 fork.1.0 fork.1.1.0).0,
                );
          }

      pub knows-issued : threads ≤ length y.table.seats → KnowsBut plan threads z (fs ++ flown ∷ []) after
      knows-issued all =
          record {
            whole = z.table;
            passed = at_once;
            less = less-learnt after more t table.issued (body_by m y s).next
                (fresh-of table (Issue t begins child after) (subst (Form table) turned (turn_form table))) less;
            reached = by_issue knows.reached turned;
            known = known-after;
            out = each-push (IsOut plan threads z after) fs flown
                (each-map (IsOut plan threads y table) (IsOut plan threads z after) still-out fs knows.out) (new-out all);
          }
        where
          known-after : (u : ℕ) → u < length after.seats → next_of after u ≡ None → HasThread (fs ++ flown ∷ []) u
          known-after u inside none = elim (cases_eq u t) [
            | inl same ↦ subst (HasThread (fs ++ flown ∷ [])) (sym same) (has-last fs flown)
            | inr ne ↦ elim (cases_lt u (length table.seats)) [
              | inl l ↦ has-first fs flown u (knows.known u l (sym (has-begun.others u ne l).0 ∙ none))
              | inr l ↦ absurd (let new = has-begun.further u l inside in none-some (sym none ∙ new.1))
            ]
          ]

      -- none of those that are out leaves anything that it is given
      pub free-of : (e : Flown) → IsOut plan threads y table e → IsFree e.subthread s
      free-of e out =
          record {
            thread = λ same. other e out (sym same);
            child = λ c is same. let low = (out.child c is).0 in omega arith;
            joined = λ h is. (
              (λ same. false≢true (sym (ap is_known_end (ap (next_of table) same ∙ out.unknown))
                  ∙ joins-ended table begins.sync h is has-begun.may)),
              (λ c born same. false≢true (sym (ap is_known_end (sym (ap (next_of y.table) same) ∙ (out.child c born).2))
                  ∙ joins-ended y.table begins.sync h is step.may)),
            );
            locks = λ l holds also.
                other e out (some-same (sym ((still-out e out).owns l holds)
                ∙ owned-is z.table.owners t l (subst (λ held. Contains held l) step.held also)));
          }

      pub free-all : Each (λ e. IsFree e.subthread s) fs
      free-all = each-map (IsOut plan threads y table) (λ e. IsFree e.subthread s) free-of fs knows.out

    -- each thread of which it is known what comes next rests alike, with the child where there is one
    module _ (places : List Place) (count : length places ≡ length table.seats) (rests : RestsAlike plan y table places) where
      abbrev follow : Follows (Rests (program_in plan.work.now)) (tree_machine (program_in plan.work.now) plan.inputs.value plan.limits)
          (machine_of plan.work.now)
      follow = follows-code plan suits

      abbrev places-then : List Place
      places-then = points_with (machine_of plan.work.now) begins.sync (length places) places

      pub places-count : length (points_with (machine_of plan.work.now) begins.sync (length places) places) ≡ length after.seats
      places-count =
          grown-count n begins.sync (length places) (length table.seats) places count
          ∙ sym (has-begun.threads ∙ ap (λ child. with_child child (length table.seats)) has-begun.child_is)

      z-point : (u : ℕ) → (u ≡ t → ⊥)
          → point_by m z u ≡ unwrap_or (slice_get (points_with m begins.sync (length y.points) y.points) u) (m.starts 0 u [])
      z-point u ne =
          ap (λ o. unwrap_or o (m.starts 0 u [])) (get_set_other (points_with m begins.sync (length y.points) y.points) t u _ ne)

      pub rests-issued : RestsAlike plan z after (points_with (machine_of plan.work.now) begins.sync (length places) places)
      rests-issued u next e = elim (cases_eq u t) [
        | inl same ↦ absurd (none-some (sym has-begun.unknown ∙ (ap (next_of after) (sym same) ∙ e)))
        | inr ne ↦ elim (cases_lt u (length table.seats)) [
          | inl l ↦
              subst (λ p. Rests program next.sync p (unwrap_or (slice_get places-then u) (n.starts 0 u [])))
              (sym (step.others u ne (let k = many in omega arith)).1)
              (subst (λ o. Rests program next.sync (point_by m y u) (unwrap_or o (n.starts 0 u [])))
              (sym (points_get n begins.sync (length places) places u (omega arith)))
              (rests u next (sym (has-begun.others u ne l).0 ∙ e)))
          | inr l ↦
              (let inside = inside_of after.seats u next e in
              let new = has-begun.further u l inside in
              subst (λ (other : Next). Rests program other.sync (point_by m z u) (unwrap_or (slice_get places-then u) (n.starts 0 u [])))
              (some-same (sym new.1 ∙ e))
              (subst (λ p. Rests program sync.Start p (unwrap_or (slice_get places-then u) (n.starts 0 u [])))
              (sym (z-point u ne))
              (new-rests (Rests program) m n follow begins.sync y.points places (length table.seats) u _ _
              (let p = sound.locks.points in let k = many in omega arith) count l
              (let k = has-begun.threads ∙ ap (λ child. with_child child (length table.seats)) has-begun.child_is in omega arith))))
        ]
      ]
