-- The plain run over any kind of points, position by position: what its table, its points and its order say of each
-- other. What holds at the opening and is kept by each move holds after any number of them, and the step at a position
-- is the move from the run before it. From it come the last subthread of each thread, which threads there are, the
-- state as the fold of those below, and the end.
use Rattle.std.proofs.Common.{◌≡◌, inl, inr, ℕ, zero, suc, ◌-◌, ◌<◌, ◌≤◌, cond, List, [], ◌∷◌, length, Some, None, unwrap_or, refl, sym, ap, ◌∙◌, subst, arith, option_and_then, nat_eq, false}
use Rattle.std.specs.Prelude.{ℤ, pos, negsuc, true, slice_get}
use Rattle.std.specs.Option.{option_map_or}
use Rattle.std.proofs.lemmas.Option.{slice_get_within}
use Rattle.std.proofs.lemmas.Bool.{cases_lt, cases_eq, eq-eqb, ne_eqb}
use Rattle.gp_base.specs.declared.limits.Limits.{Limits}
use Rattle.gp_base.specs.declared.feed.Inputs.{Inputs}
use Rattle.gp_base.specs.declared.ending.End.{End}
use Rattle.task_ast.specs.declared.sync.SyncOp.{SyncOp}
use Rattle.task_ast.specs.declared.sync.SyncOp.TheVariants as sync
use Rattle.task_ast.specs.meaning.Tree.{Program}
use Rattle.task_ast.specs.meaning.Effect.{effect, after}
use Rattle.task_ast.specs.meaning.Repeat.{Move, Goes, Ends, state_after}
use Rattle.task_ast.specs.Repeat.{step_of}
use Rattle.task_ast.specs.Table.{Table, new_seat, last_in}
use Rattle.task_ast.specs.meaning.Turn.{child_of}
use Rattle.task_ast.specs.Turn.{Ended, next_issue}
use Rattle.task_ast.specs.laws.Threads.{MayBegin}
use Rattle.task_ast.specs.meaning.Plain.{Subthread, ending_of}
use Rattle.task_ast.specs.Plain.{PlainOf, Machine, on_turn_by, move_by, opening_by, order_by, before_by, last_by, end_by}
use Rattle.task_ast.specs.meaning.Position.{last_below}
use Rattle.task_ast.specs.Position.{LeftBy, IsStep, IsForked}
use Rattle.task_ast.specs.Fold.{applied, fold}
use Rattle.task_ast.specs.Members.{member_of, member_in}
use Rattle.task_ast.proofs.WholeFolds.{undamaged}
use Rattle.task_ast.proofs.Repeats.{step_at, stays_after, step_there, step_reached, state_after_none}
use Rattle.task_ast.proofs.TurnForms.{issued_table}
use Rattle.task_ast.proofs.IssuedTables.{get_past, issued_here, issued_other, issued_past, learnt_last, last_inside}
use Rattle.task_ast.proofs.PlainRuns.{end_law, count_law}
use Rattle.task_ast.proofs.PlainSteps.{some_none, plain_of, Begins, begins_of, begins_inside, after_issue, points_after, is_step}

module _ {P : Type 0} (machine : Machine P) (program : Program) (inputs : Inputs) (limits : Limits) where
  -- the step at a position of the order
  pub record Performed (p : ℕ) (s : Subthread) : Type 0 where
    pub next : PlainOf P
    pub begins : Begins machine (before_by machine program inputs limits p) s next
    pub after : before_by machine program inputs limits (suc p) ≡ next

  pub performed_at : (p : ℕ) (s : Subthread) → slice_get (order_by machine program inputs limits) p ≡ Some s → Performed p s
  performed_at p s e =
      let step = step_there (move_by machine) (suc limits.subthreads) p (opening_by machine program inputs limits) s e in
      record {
        next = step.next;
        begins = begins_of machine (before_by machine program inputs limits p) s step.next step.moves;
        after = step_reached (move_by machine) (suc limits.subthreads) p (opening_by machine program inputs limits) s e;
      }

  -- ---- what holds at each position

  pub record PlainStands (p : ℕ) (x : PlainOf P) : Type 0 where
    pub limit : x.table.limit ≡ limits.subthreads
    pub issued : x.table.issued ≡ p
    pub points : length x.points ≡ length x.table.seats
    pub lasts : (t : ℕ) → last_below (order_by machine program inputs limits) t p ≡ last_in x.table t
    pub left : (t q : ℕ) → last_in x.table t ≡ Some q → LeftBy machine program inputs limits x t q

  start_last : (t : ℕ) → option_and_then (λ s. s.last) (slice_get (new_seat ∷ []) t) ≡ None
  start_last zero = refl
  start_last (suc t) = refl

  stands_first : PlainStands 0 (opening_by machine program inputs limits)
  stands_first =
      record {
        limit = refl;
        issued = refl;
        points = refl;
        lasts = λ t. sym (start_last t);
        left = λ t q e. absurd (some_none (sym (start_last t) ∙ e));
      }

  -- one issue further
  module _ (p : ℕ) (stands : PlainStands p (before_by machine program inputs limits p)) (s : Subthread)
      (at_p : slice_get (order_by machine program inputs limits) p ≡ Some s)
      (z : PlainOf P) (begins : Begins machine (before_by machine program inputs limits p) s z) where
    abbrev x : PlainOf P
    x = before_by machine program inputs limits p

    abbrev there : Table
    there = issued_table begins.there s.thread s.begins

    abbrev y : PlainOf P
    y = plain_of machine s.thread s.begins s.child (issued_table begins.there s.thread s.begins) (before_by machine program inputs limits p)

    step : IsStep machine (before_by machine program inputs limits p) s
        (plain_of machine s.thread s.begins s.child (issued_table begins.there s.thread s.begins)
        (before_by machine program inputs limits p))
    step = after_issue machine (before_by machine program inputs limits p) stands.points s z begins

    t_in : s.thread < length begins.there.seats
    t_in = let l = begins_inside machine begins in let e = begins.same.threads in omega arith

    -- the last subthread of each thread
    last_here : last_in y.table s.thread ≡ Some p
    last_here =
        learnt_last there s.thread s.thread _
        ∙ (ap (λ o. option_and_then (λ s. s.last) o) (issued_here begins.there s.thread s.begins t_in)
        ∙ ap Some (begins.same.issued ∙ stands.issued))

    last_other : (u : ℕ) → (u ≡ s.thread → ⊥) → last_in y.table u ≡ last_in x.table u
    last_other u ne =
        learnt_last there s.thread u _
        ∙ elim (cases_lt u (length begins.there.seats)) [
          | inl l ↦ issued_other begins.there s.thread s.begins (λ s. s.last) (λ s. refl) u l ne ∙ begins.same.last u
          | inr l ↦ (issued_past begins.there s.thread s.begins u l
              ∙ sym (ap (λ o. option_and_then (λ s. s.last) o) (get_past x.table.seats u (let e = begins.same.threads in omega arith))))
        ]

    lasts_next : (u : ℕ) → last_below (order_by machine program inputs limits) u (suc p) ≡ last_in y.table u
    lasts_next u =
        ap (λ o. cond (option_map_or (λ s. nat_eq s.thread u) o false) (Some p)
        (last_below (order_by machine program inputs limits) u p)) at_p
        ∙ elim (cases_eq s.thread u) [
          | inl e ↦
              (ap (λ b. cond b (Some p) (last_below (order_by machine program inputs limits) u p)) (eq-eqb s.thread u e)
              ∙ (sym last_here ∙ ap (λ v. last_in y.table v) e))
          | inr ne ↦
              (ap (λ b. cond b (Some p) (last_below (order_by machine program inputs limits) u p)) (ne_eqb s.thread u ne)
              ∙ (stands.lasts u ∙ sym (last_other u (λ e. ne (sym e)))))
        ]

    left_next : (u q : ℕ) → last_in y.table u ≡ Some q → LeftBy machine program inputs limits y u q
    left_next u q e = elim (cases_eq u s.thread) [
      | inl same ↦ here same
      | inr ne ↦ other ne
    ]
      where
        some_same : {a b : ℕ} → Some a ≡ Some b → a ≡ b
        some_same e = ap (λ o. unwrap_or o 0) e

        here : u ≡ s.thread → LeftBy machine program inputs limits y u q
        here same =
            let q_is : p ≡ q = some_same (sym last_here ∙ (ap (λ v. last_in y.table v) (sym same) ∙ e)) in
            subst (λ v. LeftBy machine program inputs limits y v q) (sym same)
            (subst (λ v. LeftBy machine program inputs limits y s.thread v) q_is
            (record {
              subthread = s;
              position = at_p;
              thread = refl;
              next = step.next;
              point = step.point;
              earlier = let i = stands.issued in let j = begins.same.issued in omega arith;
            }))

        other : (u ≡ s.thread → ⊥) → LeftBy machine program inputs limits y u q
        other ne =
            let was : last_in x.table u ≡ Some q = sym (last_other u ne) ∙ e in
            let old = stands.left u q was in
            let u_in : u < length x.table.seats = last_inside x.table.seats u q was in
            record {
              subthread = old.subthread;
              position = old.position;
              thread = old.thread;
              next = (step.others u ne u_in).0 ∙ old.next;
              point = (step.others u ne u_in).1 ∙ old.point;
              earlier = let o = old.earlier in let j = begins.same.issued in omega arith;
            }

    stands_next : PlainStands (suc p) y
    stands_next =
        record {
          limit = begins.same.limit ∙ stands.limit;
          issued = ap suc (begins.same.issued ∙ stands.issued);
          points = points_after machine (before_by machine program inputs limits p) stands.points s z begins;
          lasts = lasts_next;
          left = left_next;
        }

    stands_kept : PlainStands (suc p) z
    stands_kept = subst (PlainStands (suc p)) (sym begins.left) stands_next

  get_some : {X : Type 0} (xs : List X) (u : ℕ) → u < length xs → (x : X) × (slice_get xs u ≡ Some x)
  get_some [] u l = absurd (omega arith)
  get_some (x ∷ xs) zero l = (x, refl)
  get_some (x ∷ xs) (suc u) l = get_some xs u (omega arith)

  pub plain_stands : (p : ℕ) → p ≤ length (order_by machine program inputs limits)
      → PlainStands p (before_by machine program inputs limits p)
  plain_stands zero l = subst (PlainStands 0) (state_after_none (move_by machine) (opening_by machine program inputs limits)) stands_first
  plain_stands (suc p) l =
      let s = get_some (order_by machine program inputs limits) p (omega arith) in
      let performed = performed_at p s.0 s.1 in
      subst (PlainStands (suc p)) (sym performed.after)
      (stands_kept p (plain_stands p (omega arith)) s.0 s.1 performed.next performed.begins)

  pub step_is : (p : ℕ) (s : Subthread) → slice_get (order_by machine program inputs limits) p ≡ Some s
      → IsStep machine (before_by machine program inputs limits p) s (before_by machine program inputs limits (suc p))
  step_is p s e =
      let performed = performed_at p s e in
      let l = slice_get_within (order_by machine program inputs limits) p s e in
      subst (IsStep machine (before_by machine program inputs limits p) s) (sym performed.after)
      (is_step machine (before_by machine program inputs limits p) (plain_stands p (omega arith)).points s performed.next performed.begins)

  pub left_is : (p : ℕ) → p ≤ length (order_by machine program inputs limits) → (t q : ℕ)
      → last_in (before_by machine program inputs limits p).table t ≡ Some q
      → LeftBy machine program inputs limits (before_by machine program inputs limits p) t q
  left_is p l = (plain_stands p l).left

  -- ---- threads

  child_is : (op : SyncOp) (n c : ℕ) → child_of op n ≡ Some c → c ≡ n
  child_is (sync.Fork task arguments) n c e = sym (cc e)
  child_is sync.Start n c e = absurd (some_none e)
  child_is (sync.Lock l) n c e = absurd (some_none e)
  child_is (sync.Unlock l) n c e = absurd (some_none e)
  child_is (sync.Join h) n c e = absurd (some_none e)
  child_is (sync.Settle register control) n c e = absurd (some_none e)
  child_is (sync.Barrier b) n c e = absurd (some_none e)
  child_is sync.End n c e = absurd (some_none e)
  child_is sync.BadIndex n c e = absurd (some_none e)
  child_is sync.Spent n c e = absurd (some_none e)

  joins : (table : Table) (h : ℤ) → MayBegin table (sync.Join h) → (k : ℕ) × (h ≡ pos k) × (k < length table.seats)
  joins table (pos h) may = (h, refl, may.0)
  joins table (negsuc h) may = absurd may

  pub forked_is : (p : ℕ) (s : Subthread) → slice_get (order_by machine program inputs limits) p ≡ Some s
      → IsForked (length (before_by machine program inputs limits p).table.seats) s
  forked_is p s e =
      let performed = performed_at p s e in
      record {
        thread = begins_inside machine performed.begins;
        joined =
            λ h is. joins (before_by machine program inputs limits p).table h
            (subst (MayBegin (before_by machine program inputs limits p).table) is performed.begins.may);
        child = λ c is. child_is s.begins.sync _ c (sym (step_is p s e).child ∙ is);
      }

  -- ---- the fold of those below

  pub fold_below : (p : ℕ) → p ≤ length (order_by machine program inputs limits)
      → fold (member_in (order_by machine program inputs limits) (λ q. pos 0))
      (opening_by machine program inputs limits).state (λ q. true) p ≡ (before_by machine program inputs limits p).state
  fold_below zero l = ap (λ x. x.state) (state_after_none (move_by machine) (opening_by machine program inputs limits))
  fold_below (suc p) l =
      let s = get_some (order_by machine program inputs limits) p (omega arith) in
      ap (λ o. applied (member_of (pos 0) o) (fold (member_in (order_by machine program inputs limits) (λ q. pos 0))
      (opening_by machine program inputs limits).state (λ q. true) p)) s.1
      ∙ ap (applied (member_of (pos 0) (Some s.0))) (fold_below p (omega arith))
      ∙ ap (λ e. after e (before_by machine program inputs limits p).state)
      (undamaged (effect s.0.thread s.0.begins.sync s.0.child s.0.actions (before_by machine program inputs limits p).state))
      ∙ sym (step_is p s.0 s.1).state

  pub lines_are : (p : ℕ) (s : Subthread) → slice_get (order_by machine program inputs limits) p ≡ Some s
      → s.lines
      ≡ (effect s.thread s.begins.sync s.child s.actions
      (fold (member_in (order_by machine program inputs limits) (λ q. pos 0))
      (opening_by machine program inputs limits).state (λ q. true) p)).prints
  lines_are p s e =
      let l = slice_get_within (order_by machine program inputs limits) p s e in
      (step_is p s e).lines ∙ ap (λ state. (effect s.thread s.begins.sync s.child s.actions state).prints)
      (sym (fold_below p (omega arith)))

  -- ---- the end

  pub last_is : (before_by machine program inputs limits (length (order_by machine program inputs limits))
      ≡ last_by machine program inputs limits)
      × (next_issue (last_by machine program inputs limits).table ≡ Ended (end_by machine program inputs limits))
  last_is =
      (there, ended.1 ∙ ap Ended (sym (ap (λ what. ending_of (on_turn_by machine (last_by machine program inputs limits) what)) ended.1)))
    where
      ended : (ending : End) × (next_issue (last_by machine program inputs limits).table ≡ Ended ending)
      ended = end_law machine program inputs limits

      most : length (order_by machine program inputs limits) ≤ limits.subthreads
      most = count_law machine program inputs limits

      at_end : (m : Move (PlainOf P) Subthread End) → None ≡ step_of (move_by machine) m → (ending : End) × (m ≡ Ends ending)
      at_end (Goes s x) e = absurd (some_none e)
      at_end (Ends ending) e = (ending, refl)

      found : (ending : End) × (move_by machine (before_by machine program inputs limits (length (order_by machine program inputs limits)))
          ≡ Ends ending)
      found =
          at_end (move_by machine (before_by machine program inputs limits (length (order_by machine program inputs limits))))
          (sym (get_past (order_by machine program inputs limits) (length (order_by machine program inputs limits)) (omega arith))
          ∙ step_at (move_by machine) (length (order_by machine program inputs limits)) (suc limits.subthreads)
          (opening_by machine program inputs limits) (let m = most in omega arith))

      there : before_by machine program inputs limits (length (order_by machine program inputs limits))
          ≡ last_by machine program inputs limits
      there =
          sym (stays_after (move_by machine) (length (order_by machine program inputs limits))
          (suc limits.subthreads - length (order_by machine program inputs limits))
          (opening_by machine program inputs limits) found.0 found.1)
          ∙ ap (λ n. state_after (move_by machine) n (opening_by machine program inputs limits)) (let m = most in omega arith)
