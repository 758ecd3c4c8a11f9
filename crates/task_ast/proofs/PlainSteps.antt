-- One step of the plain run over any kind of points: what it leaves of the threads, their points and the data. A move
-- issues one subthread or ends the run, by what the turns answer. So what a step leaves of the threads, the points and
-- the data is read off the definition of an issue, for any machine.
use Rattle.std.proofs.Common.{◌≡◌, ℕ, zero, suc, ◌<◌, List, [], ◌∷◌, ◌++◌, length, Option, Some, None, unwrap_or, refl, sym, ap, ◌∙◌, subst, arith, option_and_then}
use Rattle.std.specs.Prelude.{ℤ, slice_get, slice_set}
use Rattle.gp_base.specs.declared.ending.End.{End}
use Rattle.task_ast.specs.declared.sync.SyncOp.TheVariants as sync
use Rattle.task_ast.specs.declared.sync.Next.{Next}
use Rattle.task_ast.specs.meaning.Effect.{effect, after}
use Rattle.task_ast.specs.meaning.Repeat.{Done, Move, Goes, Ends}
use Rattle.task_ast.specs.Table.{Seat, Table, new_seat, next_of, owned, learning}
use Rattle.task_ast.specs.meaning.Turn.{owners_after, child_of}
use Rattle.task_ast.specs.Turn.{Turn, seats_after, next_issue}
use Rattle.task_ast.specs.laws.Threads.{SameThreads, MayBegin, with_child}
use Rattle.task_ast.specs.meaning.Plain.{Subthread}
use Rattle.task_ast.specs.Plain.{PlainOf, Machine, points_with, point_by, from_by, on_turn_by, move_by}
use Rattle.task_ast.specs.Position.{body_by, IsStep}
use Rattle.task_ast.proofs.TurnForms.{issued_table, Form, issues, needs, ends, next_form}
use Rattle.task_ast.proofs.IssuedTables.{get_last, length_push, get_set_here, get_set_other, length_set, points_as_seats, points_get, grown_points, changed, changed_length, grown_is, grown_seat, issued_other, learnt_here, learnt_other, learnt_length}

-- the step that a move makes, and where it leads
abbrev step_or : {A S E : Type 0} → S → Move A S E → S
step_or s (Goes other a) = other
step_or s (Ends e) = s

abbrev next_or : {A S E : Type 0} → A → Move A S E → A
next_or a (Goes s next) = next
next_or a (Ends e) = a

pub some_none : {X : Type 0} {x : X} → None ≡ Some x → ⊥
some_none e = cc e

module _ {P : Type 0} (machine : Machine P) where
  -- the subthread that an issue begins, and the run after it
  abbrev pub subthread_of : ℕ → Next → Option ℕ → Table → PlainOf P → Subthread
  subthread_of t begins child table x =
      let b = machine.bodies (machine.begins begins.sync child (from_by machine x begins.sync t)) in
      let actions = machine.first begins.sync (from_by machine x begins.sync t) ++ b.actions in
      record {
        thread = t;
        begins = begins;
        child = child;
        held = owned table t;
        actions = actions;
        lines = (effect t begins.sync child actions x.state).prints;
      }

  abbrev pub plain_of : ℕ → Next → Option ℕ → Table → PlainOf P → PlainOf P
  plain_of t begins child table x =
      let b = machine.bodies (machine.begins begins.sync child (from_by machine x begins.sync t)) in
      let actions = machine.first begins.sync (from_by machine x begins.sync t) ++ b.actions in
      record {
        table = learning table t b.next;
        points = slice_set (points_with machine begins.sync (length x.points) x.points) t b.at;
        state = after (effect t begins.sync child actions x.state) x.state;
      }

  -- what is known of a step of the run
  pub record Begins (x : PlainOf P) (s : Subthread) (y : PlainOf P) : Type 0 where
    pub there : Table
    pub same : SameThreads x.table there
    pub known : next_of x.table s.thread ≡ Some s.begins
    pub below : x.table.issued < x.table.limit
    pub may : MayBegin x.table s.begins.sync
    pub child : s.child ≡ child_of s.begins.sync (length there.seats)
    pub made : s ≡ subthread_of s.thread s.begins s.child (issued_table there s.thread s.begins) x
    pub left : y ≡ plain_of s.thread s.begins s.child (issued_table there s.thread s.begins) x

  pub begins_of : (x : PlainOf P) (s : Subthread) (y : PlainOf P) → move_by machine x ≡ Goes s y → Begins x s y
  begins_of x s y e = go (next_issue x.table) (next_form x.table) e
    where
      go : (what : Turn) → Form x.table (Done what) → ◌≡◌ {A = Move (PlainOf P) Subthread End} (on_turn_by machine x what) (Goes s y)
          → Begins x s y
      go what (issues {t = t} {next = next} there same known below may) e =
          subst (λ s. Begins x s y) (ap (step_or s) e)
          (subst (Begins x (subthread_of t next (child_of next.sync (length there.seats)) (issued_table there t next) x)) (ap (next_or y) e)
          (record { there = there; same = same; known = known; below = below; may = may; child = refl; made = refl; left = refl }))
      go what needs e = absurd (cc e)
      go what ends e = absurd (cc e)

  -- the thread that begins is there
  pub begins_inside : {x : PlainOf P} {s : Subthread} {y : PlainOf P} → Begins x s y → s.thread < length x.table.seats
  begins_inside {x = x} {s = s} b = go x.table.seats s.thread b.known
    where
      go : {next : Next} (seats : List Seat) (t : ℕ) → option_and_then (λ s. s.next) (slice_get seats t) ≡ Some next → t < length seats
      go [] t e = absurd (some_none e)
      go (seat ∷ seats) zero e = omega arith
      go (seat ∷ seats) (suc t) e = let h = go seats t e in omega arith

  -- so many threads, and the child
  pub issued_threads : {x : PlainOf P} {s : Subthread} {y : PlainOf P} (b : Begins x s y)
      → length (issued_table b.there s.thread s.begins).seats ≡ with_child s.child (length x.table.seats)
  issued_threads {x = x} {s = s} b =
      grown_is s.begins.sync (changed b.there s.thread s.begins)
      ∙ ap (λ n. with_child (child_of s.begins.sync n) n) (changed_length b.there s.thread s.begins)
      ∙ ap (λ child. with_child child (length b.there.seats)) (sym b.child)
      ∙ ap (with_child s.child) b.same.threads

-- one issue further
module _ {P : Type 0} (machine : Machine P) (x : PlainOf P) (points : length x.points ≡ length x.table.seats) (s : Subthread)
    (z : PlainOf P) (begins : Begins machine x s z) where
  abbrev issued : Table
  issued = issued_table begins.there s.thread s.begins

  abbrev y : PlainOf P
  y = plain_of machine s.thread s.begins s.child (issued_table begins.there s.thread s.begins) x

  t_in : s.thread < length begins.there.seats
  t_in = let l = begins_inside machine begins in let e = begins.same.threads in omega arith

  points_in : length (points_with machine s.begins.sync (length x.points) x.points) ≡ length issued.seats
  points_in =
      points_as_seats machine s.begins.sync (length x.points) x.points (changed begins.there s.thread s.begins)
      (points ∙ (sym begins.same.threads ∙ sym (changed_length begins.there s.thread s.begins)))

  t_in_points : s.thread < length x.points
  t_in_points = let a = points in let b = begins.same.threads in let l = t_in in omega arith

  t_in_grown : s.thread < length (points_with machine s.begins.sync (length x.points) x.points)
  t_in_grown = let l = t_in_points in let g = grown_points machine s.begins.sync (length x.points) x.points in omega arith

  point_here : point_by machine y s.thread ≡ (body_by machine x s).at
  point_here =
      ap (λ o. unwrap_or o (machine.starts 0 s.thread []))
      (get_set_here (points_with machine s.begins.sync (length x.points) x.points) s.thread _ t_in_grown)

  point_other : (u : ℕ) → (u ≡ s.thread → ⊥) → u < length x.points → point_by machine y u ≡ point_by machine x u
  point_other u ne l =
      ap (λ o. unwrap_or o (machine.starts 0 u []))
      (get_set_other (points_with machine s.begins.sync (length x.points) x.points) s.thread u _ ne
      ∙ points_get machine s.begins.sync (length x.points) x.points u l)

  next_other : (u : ℕ) → (u ≡ s.thread → ⊥) → u < length x.table.seats → next_of y.table u ≡ next_of x.table u
  next_other u ne l =
      learnt_other issued s.thread u _ ne
      ∙ (issued_other begins.there s.thread s.begins (λ s. s.next) (λ s. refl) u (let t = begins.same.threads in omega arith) ne
      ∙ begins.same.next u)

  next_here : next_of y.table s.thread ≡ Some (body_by machine x s).next
  next_here = learnt_here issued s.thread _ (let l = t_in_grown in let e = points_in in omega arith)

  forked_next : (task : ℕ) (arguments : List ℤ) → s.begins.sync ≡ sync.Fork task arguments
      → next_of y.table (length x.table.seats) ≡ Some (record { sync = sync.Start; line = 0 })
  forked_next task arguments e =
      let l = begins_inside machine begins in
      let k = changed_length begins.there s.thread s.begins in
      let n = begins.same.threads in
      learnt_other issued s.thread (length x.table.seats) _ (λ same. omega arith)
      ∙ ap (λ o. option_and_then (λ s. s.next) o)
      (grown_seat s.begins.sync (changed begins.there s.thread s.begins) (length x.table.seats)
      (subst (λ op. length x.table.seats < length (seats_after op (changed begins.there s.thread s.begins))) (sym e)
      (let g = length_push (changed begins.there s.thread s.begins) new_seat in omega arith)) (omega arith))

  forked_point : (task : ℕ) (arguments : List ℤ) → s.begins.sync ≡ sync.Fork task arguments
      → point_by machine y (length x.table.seats) ≡ machine.starts task (length x.table.seats) arguments
  forked_point task arguments e =
      subst (λ n. point_by machine y n ≡ machine.starts task n arguments) points
      (ap (λ o. unwrap_or o (machine.starts 0 (length x.points) []))
      (get_set_other (points_with machine s.begins.sync (length x.points) x.points) s.thread (length x.points) _
      (let l = t_in_points in λ same. omega arith)
      ∙ ap (λ op. slice_get (points_with machine op (length x.points) x.points) (length x.points)) e
      ∙ get_last x.points (machine.starts task (length x.points) arguments)))

  pub after_issue : IsStep machine x s y
  after_issue =
      record {
        begins = begins.known;
        may = begins.may;
        child = begins.child ∙ ap (child_of s.begins.sync) begins.same.threads;
        actions = ap (λ s. s.actions) begins.made;
        lines =
            ap (λ s. s.lines) begins.made ∙ ap (λ actions. (effect s.thread s.begins.sync s.child actions x.state).prints)
            (sym (ap (λ s. s.actions) begins.made));
        state =
            ap (λ actions. after (effect s.thread s.begins.sync s.child actions x.state) x.state) (sym (ap (λ s. s.actions) begins.made));
        owners = ap (owners_after s.begins.sync s.thread) begins.same.owners;
        held = ap (λ s. s.held) begins.made;
        threads = learnt_length issued s.thread _ ∙ issued_threads machine begins;
        next = next_here;
        point = point_here;
        others = λ u ne l. (next_other u ne l, point_other u ne (let a = points in omega arith));
        forked = λ task arguments e. (forked_next task arguments e, forked_point task arguments e);
      }

  pub points_after : length y.points ≡ length y.table.seats
  points_after =
      length_set (points_with machine s.begins.sync (length x.points) x.points) s.thread _
      ∙ (points_in ∙ sym (learnt_length issued s.thread _))

  pub is_step : IsStep machine x s z
  is_step = subst (IsStep machine x s) (sym begins.left) after_issue

  pub points_kept : length z.points ≡ length z.table.seats
  points_kept = subst (λ z. length z.points ≡ length z.table.seats) (sym begins.left) points_after
