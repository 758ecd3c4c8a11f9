-- The data while subthreads are out. A subthread leaves alone the registers of all threads but its own and its child's, and all cells but
-- those under its locks. So what a later one is given, which is free of it, is the same before it and after it. A lock is away exactly where
-- one of those that are out holds it.
use Rattle.std.proofs.Common.{◌≡◌, ℕ, ◌<◌, ◌||◌, Bool, true, false, cond, List, [], ◌∷◌, ◌++◌, length, map, Contains, Option, Some, None, nat_eq, unwrap_or, refl, sym, ap, ◌∙◌, subst, arith}
use Rattle.std.specs.Prelude.{ℤ, slice_get, option_map}
use Rattle.std.specs.Ordering.{nat_cmp}
use Rattle.std.specs.FinMap.{find}
use Rattle.std.proofs.lemmas.Bool.{eqb-true, false_from_ne_true, false≢true}
use Rattle.task_ast.specs.declared.effect.Effect.{Effect}
use Rattle.task_ast.specs.meaning.Control.{Point}
use Rattle.task_ast.specs.meaning.State.{State, RegistersOf, CellOf, cell_value, number_at}
use Rattle.task_ast.specs.meaning.Effect.{effect, after, left_to}
use Rattle.task_ast.specs.meaning.Tree.{Program}
use Rattle.task_ast.specs.meaning.Under.{under_lock, is_under}
use Rattle.task_ast.specs.SyncOps.{joined_by}
use Rattle.task_ast.specs.meaning.Plain.{Subthread}
use Rattle.task_ast.specs.Plain.{Plain, Machine, tree_machine}
use Rattle.task_ast.specs.Position.{IsStep}
use Rattle.task_ast.proofs.Keeping.{names_write, writes_within}
use Rattle.task_ast.proofs.Layouts.{accepted_sizes}
use Rattle.task_ast.proofs.PlainSteps.{begins_of, is_step}
use Rattle.dependence.specs.meaning.Dependents.{is_member}
use Rattle.dependence.specs.Touching.{IsApart}
use Rattle.dependence.proofs.DependentSets.{is_member-is}
use Rattle.dependence.proofs.Keeping.{laid_law, under-held}
use Rattle.dependence.proofs.Struck.{Contains-head, Contains-later}
use Rattle.record_store.specs.Given.{given_of, bundle_of, joined_value}
use Rattle.record_store.specs.Lent.{marked}
use Rattle.record_store.proofs.Marks.{marked-in, marked-out, length-marked}
use Rattle.subthread.specs.Tasks.{program_in, under_of}
use Rattle.gp_resume.specs.declared.course.ResumePlan.{ResumePlan}
use Rattle.gp_resume.specs.inner.Course.{IsSuited}
use Rattle.gp_resume.specs.inner.Flights.{Flown, Each, IsFree, IsFlown, Chain, is_lent, task_from}

-- ---- an effect

differ : (u t : ℕ) → (u ≡ t → ⊥) → nat_eq u t ≡ false
differ u t ne = false_from_ne_true (nat_eq u t) (λ e. ne (eqb-true u t e))

after-regs : (e : Effect) (state : State) (u : ℕ) → (u ≡ e.thread → ⊥) → ((c : ℕ × List ℤ) → e.child ≡ Some c → u ≡ c.0 → ⊥)
    → after e state (RegistersOf u) ≡ state (RegistersOf u)
after-regs e state u ne other =
    ap (λ b. cond b e.regs (left_to e.child u (state (RegistersOf u)))) (differ u e.thread ne) ∙ go e.child other
  where
    go : (child : Option (ℕ × List ℤ)) → ((c : ℕ × List ℤ) → child ≡ Some c → u ≡ c.0 → ⊥)
        → left_to child u (state (RegistersOf u)) ≡ state (RegistersOf u)
    go None other = refl
    go (Some c) other = ap (λ b. cond b c.1 (state (RegistersOf u))) (differ u c.0 (other c refl))

after-cell : (e : Effect) (state : State) (c : ℕ) → ((find nat_cmp c e.writes ≡ None → ⊥) → ⊥) → after e state (CellOf c) ≡ state (CellOf c)
after-cell e state c none = go (find nat_cmp c e.writes) none
  where
    go : (o : Option ℤ) → ((o ≡ None → ⊥) → ⊥) → unwrap_or (option_map (λ v. v ∷ []) o) (state (CellOf c)) ≡ state (CellOf c)
    go None none = refl
    go (Some v) none = absurd (none (λ e. cc e))

map-same : {A B : Type 0} (f g : A → B) (xs : List A) → ((x : A) → Contains xs x → f x ≡ g x) → map f xs ≡ map g xs
map-same f g [] same = refl
map-same f g (x ∷ xs) same = λ i. same x (Contains-head x xs) i ∷ map-same f g xs (λ y there. same y (Contains-later x xs y there)) i

child-given : {X : Type 0} (child : Option ℕ) (rest : X) (c : ℕ × X) → option_map (λ k. (k, rest)) child ≡ Some c → child ≡ Some c.0
child-given None rest c e = absurd (cc e)
child-given (Some k) rest c e = let same : k ≡ c.0 = ap (λ o. (unwrap_or o c).0) e in ap Some same

module _ (plan : ResumePlan) (suits : IsSuited plan) where
  abbrev program : Program
  program = program_in plan.work.now

  abbrev m : Machine Point
  m = tree_machine (program_in plan.work.now) plan.inputs.value plan.limits

  abbrev under : List (List ℕ)
  under = under_of plan.work.now

  pub flown-step : (f : Flown) → IsFlown plan f → IsStep m f.before f.subthread f.after
  flown-step f is = is_step m f.before is.sound.locks.points f.subthread f.after (begins_of m f.before f.subthread f.after is.moves)

  apart : IsApart (under_of plan.work.now)
  apart = laid_law (program_in plan.work.now).heads (accepted_sizes (program_in plan.work.now) suits.code.accepted)

  module _ (f : Flown) (is : IsFlown plan f) where
    -- the registers of other threads
    regs-kept : (u : ℕ) → (u ≡ f.subthread.thread → ⊥) → ((c : ℕ) → f.subthread.child ≡ Some c → c ≡ u → ⊥)
        → f.before.state (RegistersOf u) ≡ f.after.state (RegistersOf u)
    regs-kept u ne other =
        sym (ap (λ (state : State). state (RegistersOf u)) (flown-step f is).state
        ∙ after-regs (effect f.subthread.thread f.subthread.begins.sync f.subthread.child f.subthread.actions f.before.state)
        f.before.state u ne (λ c e same. other c.0 (child-given f.subthread.child _ c e) (sym same)))

    -- the cells under other locks
    cell-kept : (c : ℕ) → ((l : ℕ) → Contains (under_lock (under_of plan.work.now) l) c → Contains f.subthread.held l → ⊥)
        → f.before.state (CellOf c) ≡ f.after.state (CellOf c)
    cell-kept c free =
        sym (ap (λ (state : State). state (CellOf c)) (flown-step f is).state
        ∙ after-cell (effect f.subthread.thread f.subthread.begins.sync f.subthread.child f.subthread.actions f.before.state)
        f.before.state c
        (λ some.
        let lock = under-held (under_of plan.work.now) f.subthread.held c
        (writes_within (is_under (under_of plan.work.now) f.subthread.held) f.subthread.thread f.subthread.begins.sync f.subthread.child
        f.subthread.actions f.before.state (names_write (is_under (under_of plan.work.now) f.subthread.held) f.subthread.actions is.keeps)
        c some) in
        free lock.0 lock.1 lock.2))

    joined-kept : (joined : Option ℕ)
        → ((h : ℕ) → joined ≡ Some h → (h ≡ f.subthread.thread → ⊥) × ((c : ℕ) → f.subthread.child ≡ Some c → c ≡ h → ⊥))
        → joined_value f.before.state joined ≡ joined_value f.after.state joined
    joined-kept None free = refl
    joined-kept (Some h) free = let it = free h refl in ap (λ xs. number_at xs 0) (regs-kept h it.0 it.1)

    -- what a subthread is given that is free of it
    pub given-kept : (late : Subthread) → IsFree f.subthread late
        → given_of (under_of plan.work.now) f.before.state late.thread (joined_by late.begins.sync) late.held
        ≡ given_of (under_of plan.work.now) f.after.state late.thread (joined_by late.begins.sync) late.held
    given-kept late free =
        λ i. record {
          regs = regs-kept late.thread free.thread free.child i;
          joined = joined-kept (joined_by late.begins.sync) free.joined i;
          bundles = map-same (bundle_of (under_of plan.work.now) f.before.state) (bundle_of (under_of plan.work.now) f.after.state) late.held
              bundle i;
        }
      where
        bundle : (l : ℕ) → Contains late.held l
            → bundle_of (under_of plan.work.now) f.before.state l ≡ bundle_of (under_of plan.work.now) f.after.state l
        bundle l holds =
            ap (λ values. record { lock = l; cells = values })
            (map-same (cell_value f.before.state) (cell_value f.after.state) (under_lock (under_of plan.work.now) l)
            (λ c over. ap (λ values. number_at values 0)
            (cell-kept c (λ k there held. free.locks k held (subst (Contains late.held) (apart l k c over there) holds)))))

    -- and its task
    pub task-kept : (g : Flown) → IsFlown plan g → IsFree f.subthread g.subthread
        → task_from plan.work.now f.before.state g.begun ≡ task_from plan.work.now f.after.state g.begun
    task-kept g flown free =
        λ i. record (task_from plan.work.now f.before.state g.begun) {
          given = (ap (λ (t : ℕ × (Option ℕ × List ℕ)). given_of (under_of plan.work.now) f.before.state t.0 t.1.0 t.1.1) (args g flown)
              ∙ (given-kept g.subthread free
              ∙ ap (λ (t : ℕ × (Option ℕ × List ℕ)). given_of (under_of plan.work.now) f.after.state t.0 t.1.0 t.1.1)
              (sym (args g flown)))) i;
        }
      where
        args : (g : Flown) → IsFlown plan g
            → ◌≡◌ {A = ℕ × (Option ℕ × List ℕ)} (g.begun.thread, (joined_by g.begun.begins.sync, g.begun.held))
            (g.subthread.thread, (joined_by g.subthread.begins.sync, g.subthread.held))
        args g flown = λ i. (flown.thread i, (joined_by (flown.begins i).sync, flown.held i))

  -- so the task of one that is free of all that are out is the same before these and after them
  pub task-same : (x : Plain) (fs : List Flown) (y : Plain) → Chain plan x fs y → (g : Flown) → IsFlown plan g
      → Each (λ f. IsFree f.subthread g.subthread) fs
      → task_from plan.work.now x.state g.begun ≡ task_from plan.work.now y.state g.begun
  task-same x [] y chain g flown free = ap (λ (p : Plain). task_from plan.work.now p.state g.begun) chain
  task-same x (f ∷ fs) y chain g flown free =
      ap (λ (p : Plain). task_from plan.work.now p.state g.begun) (sym chain.0)
      ∙ (task-kept f chain.1 g flown free.0 ∙ task-same f.after fs y chain.2 g flown free.1)

-- ---- locks

or-false : (a b : Bool) → (a || b) ≡ false → (a ≡ false) × (b ≡ false)
or-false true b e = absurd (false≢true (sym e))
or-false false b e = (refl, e)

pub is_lent-push : (fs : List Flown) (f : Flown) (l : ℕ) → is_lent (fs ++ f ∷ []) l ≡ (is_lent fs l || is_member l f.subthread.held)
is_lent-push [] f l = go (is_member l f.subthread.held)
  where
    go : (b : Bool) → (b || false) ≡ b
    go true = refl
    go false = refl
is_lent-push (g ∷ fs) f l =
    ap (λ b. is_member l g.subthread.held || b) (is_lent-push fs f l)
    ∙ go (is_member l g.subthread.held) (is_lent fs l) (is_member l f.subthread.held)
  where
    go : (a b c : Bool) → (a || (b || c)) ≡ ((a || b) || c)
    go true b c = refl
    go false b c = refl

not-member : (l : ℕ) (locks : List ℕ) → (Contains locks l → ⊥) → is_member l locks ≡ false
not-member l locks none = false_from_ne_true (is_member l locks) (λ e. none ((is_member-is l locks).0 e))

-- a lock that one holds who is free of all is not away
pub free-lock : (fs : List Flown) (s : Subthread) → Each (λ f. IsFree f.subthread s) fs → (l : ℕ) → Contains s.held l → is_lent fs l ≡ false
free-lock [] s free l holds = refl
free-lock (f ∷ fs) s free l holds =
    ap (λ b. b || is_lent fs l) (not-member l f.subthread.held (λ has. free.0.locks l has holds)) ∙ free-lock fs s free.1 l holds

-- nor one of a lock that the first holds
pub first-lock : (f : Flown) (fs : List Flown) → Each (λ g. IsFree f.subthread g.subthread) fs → (l : ℕ) → Contains f.subthread.held l
    → is_lent fs l ≡ false
first-lock f [] free l holds = refl
first-lock f (g ∷ fs) free l holds =
    ap (λ b. b || is_lent fs l) (not-member l g.subthread.held (free.0.locks l holds)) ∙ first-lock f fs free.1 l holds

-- the marks once one more went out
pub away-push : (fs : List Flown) (f : Flown) (away : List Bool)
    → ((l : ℕ) → l < length away → slice_get away l ≡ Some (is_lent fs l))
    → (l : ℕ) → l < length (marked f.subthread.held true away) → slice_get (marked f.subthread.held true away) l ≡ Some (is_lent (fs ++ f ∷ []) l)
away-push fs f away are l less = go (is_member l f.subthread.held) refl
  where
    inside : l < length away
    inside = let n = length-marked f.subthread.held true away in omega arith

    or-true : (b : Bool) → (b || true) ≡ true
    or-true true = refl
    or-true false = refl

    or-none : (b : Bool) → (b || false) ≡ b
    or-none true = refl
    or-none false = refl

    go : (b : Bool) → is_member l f.subthread.held ≡ b
        → slice_get (marked f.subthread.held true away) l ≡ Some (is_lent (fs ++ f ∷ []) l)
    go true e =
        marked-in f.subthread.held true away l inside ((is_member-is l f.subthread.held).0 e)
        ∙ ap Some (sym (is_lent-push fs f l ∙ (ap (λ b. is_lent fs l || b) e ∙ or-true (is_lent fs l))))
    go false e =
        marked-out f.subthread.held true away l e
        ∙ (are l inside ∙ ap Some (sym (is_lent-push fs f l ∙ (ap (λ b. is_lent fs l || b) e ∙ or-none (is_lent fs l)))))

-- and once the first came home
pub away-pop : (f : Flown) (fs : List Flown) (away : List Bool) → Each (λ g. IsFree f.subthread g.subthread) fs
    → ((l : ℕ) → l < length away → slice_get away l ≡ Some (is_lent (f ∷ fs) l))
    → (l : ℕ) → l < length (marked f.subthread.held false away) → slice_get (marked f.subthread.held false away) l ≡ Some (is_lent fs l)
away-pop f fs away free are l less = go (is_member l f.subthread.held) refl
  where
    inside : l < length away
    inside = let n = length-marked f.subthread.held false away in omega arith

    go : (b : Bool) → is_member l f.subthread.held ≡ b → slice_get (marked f.subthread.held false away) l ≡ Some (is_lent fs l)
    go true e =
        let there = (is_member-is l f.subthread.held).0 e in
        marked-in f.subthread.held false away l inside there ∙ ap Some (sym (first-lock f fs free l there))
    go false e =
        marked-out f.subthread.held false away l e ∙ (are l inside ∙ ap (λ b. Some (b || is_lent fs l)) e)
