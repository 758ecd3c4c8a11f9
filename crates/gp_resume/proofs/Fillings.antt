-- The runs of tasks come back in any order, and each to the place of its task.
use Rattle.std.proofs.Common.{◌≡◌, ◌⊎◌, inl, inr, ℕ, zero, suc, ◌+◌, ◌-◌, ◌<◌, ◌≤◌, List, [], ◌∷◌, ◌++◌, length, Contains, Option, Some, None, unwrap_or, refl, sym, ap, ◌∙◌, subst, arith}
use Rattle.std.specs.Prelude.{slice_get, slice_set}
use Rattle.std.proofs.lemmas.Bool.{cases_eq}
use Rattle.std.proofs.lemmas.Option.{slice_get_within}
use Rattle.task_ast.proofs.IssuedTables.{get_set_here, get_set_other, length_set}
use Rattle.dependence.proofs.Struck.{Contains-head, Contains-later}
use Rattle.crew.specs.Out.{TakesOut}
use Rattle.subthread.specs.declared.task.Work.{Work}
use Rattle.subthread.specs.declared.task.Task.{Task}
use Rattle.subthread.specs.declared.task.Done.{Done}
use Rattle.subthread.specs.Tasks.{task_of, IsRun}
use Rattle.gp_resume.specs.inner.Waves.{ArePlaced, IsRunOf, AreRunsOf, AreEmpty, IsOne, Filling}

-- the task at a place has the position of that place
pub placed-at : (first : ℕ) (tasks : List Task) → ArePlaced first tasks → (k : ℕ) (task : Task) → slice_get tasks k ≡ Some task
    → task.pos ≡ first + k
placed-at first [] placed k task e = absurd (cc e)
placed-at first (t ∷ tasks) placed zero task e =
    let same : t ≡ task = cc e in ap (λ (t : Task). t.pos) (sym same) ∙ (placed.0 ∙ omega arith)
placed-at first (t ∷ tasks) placed (suc k) task e = placed-at (first + 1) tasks placed.1 k task e ∙ omega arith

got : {X : Type 0} (xs : List X) (x : X) → Contains xs x → (k : ℕ) × (slice_get xs k ≡ Some x)
got [] x has = absurd (let less = has.1 in omega arith)
got (y ∷ xs) x (zero, less, is) = (0, ap Some is)
got (y ∷ xs) x (suc k, less, is) = let rest = got xs x (k, omega arith, is) in (suc rest.0, rest.1)

has-got : {X : Type 0} (xs : List X) (x : X) (k : ℕ) → slice_get xs k ≡ Some x → Contains xs x
has-got [] x k e = absurd (cc e)
has-got (y ∷ xs) x zero e = let same : y ≡ x = cc e in subst (Contains (y ∷ xs)) same (Contains-head y xs)
has-got (y ∷ xs) x (suc k) e = Contains-later y xs x (has-got xs x k e)

-- without a member: the others are there still
left-in : {X : Type 0} (earlier later : List X) (t u : X) → Contains (earlier ++ t ∷ later) u → (u ≡ t) ⊎ Contains (earlier ++ later) u
left-in [] later t u (zero, less, is) = inl (sym is)
left-in [] later t u (suc k, less, is) = inr (k, omega arith, is)
left-in (e ∷ earlier) later t u (zero, less, is) = inr (0, omega arith, is)
left-in (e ∷ earlier) later t u (suc k, less, is) = go (left-in earlier later t u (k, omega arith, is))
  where
    go : (u ≡ t) ⊎ Contains (earlier ++ later) u → (u ≡ t) ⊎ Contains (e ∷ earlier ++ later) u
    go (inl same) = inl same
    go (inr has) = inr (Contains-later e (earlier ++ later) u has)

left-of : {X : Type 0} (earlier later : List X) (t u : X) → Contains (earlier ++ later) u → Contains (earlier ++ t ∷ later) u
left-of [] later t u has = Contains-later t later u has
left-of (e ∷ earlier) later t u (zero, less, is) = (0, omega arith, is)
left-of (e ∷ earlier) later t u (suc k, less, is) = Contains-later e (earlier ++ t ∷ later) u (left-of earlier later t u (k, omega arith, is))

-- at first each is out
pub filling-first : (work : Work) (tasks : List Task) (places : List (Option Done)) → AreEmpty tasks places → Filling work tasks tasks places
filling-first work tasks places empty =
    record { many = many tasks places empty; each = λ k task e. inl (has-got tasks task k e); among = λ task has. got tasks task has }
  where
    many : (tasks : List Task) (places : List (Option Done)) → AreEmpty tasks places → length places ≡ length tasks
    many [] [] empty = refl
    many [] (p ∷ places) empty = absurd empty
    many (t ∷ tasks) [] empty = absurd empty
    many (t ∷ tasks) (p ∷ places) empty = ap suc (many tasks places empty.1)

-- where a run came back belongs
pub filling-at : (work : Work) (first : ℕ) (tasks out : List Task) (places : List (Option Done)) → ArePlaced first tasks
    → Filling work tasks out places → (done : Done) (after : List Task) → TakesOut out (task_of work done) after
    → (first ≤ done.task.pos) × (done.task.pos - first < length places)
filling-at work first tasks out places placed filling done after takes =
    let has = filling.among (task_of work done) (subst (λ out. Contains out (task_of work done)) (sym takes.before_is) (middle takes.earlier)) in
    let pos = placed-at first tasks placed has.0 (task_of work done) has.1 in
    let inside = slice_get_within tasks has.0 (task_of work done) has.1 in
    let many = filling.many in
    (omega arith, omega arith)
  where
    middle : (earlier : List Task) → Contains (earlier ++ task_of work done ∷ takes.later) (task_of work done)
    middle [] = Contains-head (task_of work done) takes.later
    middle (e ∷ earlier) = Contains-later e (earlier ++ task_of work done ∷ takes.later) (task_of work done) (middle earlier)

pub filling-more : (work : Work) (first : ℕ) (tasks out : List Task) (places : List (Option Done)) → ArePlaced first tasks
    → Filling work tasks out places → (done : Done) (after : List Task) → TakesOut out (task_of work done) after → IsRun work done
    → Filling work tasks after (slice_set places (done.task.pos - first) (Some done))
filling-more work first tasks out places placed filling done after takes run =
    record {
      many = length_set places (done.task.pos - first) (Some done) ∙ filling.many;
      each = λ k task e. go k task e (cases_eq k (done.task.pos - first)) (filling.each k task e);
      among = λ task has. filling.among task (subst (λ out. Contains out task) (sym takes.before_is)
          (left-of takes.earlier takes.later (task_of work done) task (subst (λ after. Contains after task) takes.after_is has)));
    }
  where
    at : (first ≤ done.task.pos) × (done.task.pos - first < length places)
    at = filling-at work first tasks out places placed filling done after takes

    middle : (earlier : List Task) → Contains (earlier ++ task_of work done ∷ takes.later) (task_of work done)
    middle [] = Contains-head (task_of work done) takes.later
    middle (e ∷ earlier) = Contains-later e (earlier ++ task_of work done ∷ takes.later) (task_of work done) (middle earlier)

    here : (k : ℕ) × (slice_get tasks k ≡ Some (task_of work done))
    here = filling.among (task_of work done) (subst (λ out. Contains out (task_of work done)) (sym takes.before_is) (middle takes.earlier))

    here-is : here.0 ≡ done.task.pos - first
    here-is = let pos = placed-at first tasks placed here.0 (task_of work done) here.1 in omega arith

    go : (k : ℕ) (task : Task) → slice_get tasks k ≡ Some task → (k ≡ done.task.pos - first) ⊎ (k ≡ done.task.pos - first → ⊥)
        → Contains out task ⊎ ((d : Done) × (slice_get places k ≡ Some (Some d)) × (task_of work d ≡ task) × IsRun work d)
        → Contains after task
        ⊎ ((d : Done) × (slice_get (slice_set places (done.task.pos - first) (Some done)) k ≡ Some (Some d)) × (task_of work d ≡ task) × IsRun work d)
    go k task e (inl same) was =
        inr (
          done,
          ap (slice_get (slice_set places (done.task.pos - first) (Some done))) same
              ∙ get_set_here places (done.task.pos - first) (Some done) at.1,
          (let both = sym here.1 ∙ (ap (slice_get tasks) (here-is ∙ sym same) ∙ e) in
              ap (λ o. unwrap_or o (task_of work done)) both),
          run,
        )
    go k task e (inr other) (inl has) =
        elim (left-in takes.earlier takes.later (task_of work done) task (subst (λ out. Contains out task) takes.before_is has)) [
          | inl is ↦
              absurd (other (let mine = placed-at first tasks placed k task e in
              let pos = ap (λ (t : Task). t.pos) is in omega arith))
          | inr there ↦ inl (subst (λ after. Contains after task) (sym takes.after_is) there)
        ]
    go k task e (inr other) (inr (d, there, is, ran)) =
        inr (d, get_set_other places (done.task.pos - first) k (Some done) other ∙ there, is, ran)

-- once none is out, each place has its run
pub filling-last : (work : Work) (tasks out : List Task) (places : List (Option Done)) → out ≡ [] → Filling work tasks out places
    → AreRunsOf work tasks places
filling-last work tasks out places none filling =
    runs tasks places filling.many (λ k task e. found k task (filling.each k task e))
  where
    found : (k : ℕ) (task : Task)
        → Contains out task ⊎ ((d : Done) × (slice_get places k ≡ Some (Some d)) × (task_of work d ≡ task) × IsRun work d)
        → (d : Done) × (slice_get places k ≡ Some (Some d)) × (task_of work d ≡ task) × IsRun work d
    found k task (inl has) = absurd (let less = (subst (λ out. Contains out task) none has).1 in omega arith)
    found k task (inr it) = it

    runs : (tasks : List Task) (places : List (Option Done)) → length places ≡ length tasks
        → ((k : ℕ) (task : Task) → slice_get tasks k ≡ Some task
        → (d : Done) × (slice_get places k ≡ Some (Some d)) × (task_of work d ≡ task) × IsRun work d)
        → AreRunsOf work tasks places
    runs [] [] many each = tt
    runs [] (p ∷ places) many each = absurd (omega arith)
    runs (t ∷ tasks) [] many each = absurd (omega arith)
    runs (t ∷ tasks) (p ∷ places) many each =
        let first = each 0 t refl in
        let same : Some first.0 ≡ p = (let e = first.1 in ap (λ o. unwrap_or o p) (sym e)) in
        (subst (IsRunOf work t) same (first.2, first.3), runs tasks places (omega arith) (λ k task e. each (suc k) task e))

-- one more place for one more task
pub empty-more : (out out' : List Task) (places places' : List (Option Done)) (task : Task) → out' ≡ out ++ task ∷ []
    → places' ≡ places ++ None ∷ [] → AreEmpty out places → AreEmpty out' places'
empty-more out out' places places' task outs more empty =
    subst (λ out. AreEmpty out places') (sym outs) (subst (AreEmpty (out ++ task ∷ [])) (sym more) (go out places empty))
  where
    go : (out : List Task) (places : List (Option Done)) → AreEmpty out places → AreEmpty (out ++ task ∷ []) (places ++ None ∷ [])
    go [] [] empty = (refl, tt)
    go [] (p ∷ places) empty = absurd empty
    go (t ∷ out) [] empty = absurd empty
    go (t ∷ out) (p ∷ places) empty = (empty.0, go out places empty.1)

pub empty-none : (out : List Task) (places : List (Option Done)) → out ≡ [] → places ≡ [] → AreEmpty out places
empty-none out places none nothing = subst (λ out. AreEmpty out places) (sym none) (subst (AreEmpty []) (sym nothing) tt)

-- one place for the one task that is out
pub empty-one : (out : List Task) (nothing places : List (Option Done)) → IsOne out → nothing ≡ [] → places ≡ nothing ++ None ∷ []
    → AreEmpty out places
empty-one out nothing places one none push = empty-more [] out nothing places one.0 one.1 push (empty-none [] nothing refl none)

-- the run of the one task that was out
pub run-of-one : (work : Work) (out out' : List Task) (done : Done) → IsOne out → TakesOut out (task_of work done) out' → IsRun work done
    → (out' ≡ []) × AreRunsOf work out (Some done ∷ [])
run-of-one work out out' done (task, is) takes run = go takes.earlier takes.later (sym takes.before_is ∙ is) takes.after_is
  where
    go : (earlier later : List Task) → earlier ++ task_of work done ∷ later ≡ task ∷ [] → out' ≡ earlier ++ later
        → (out' ≡ []) × AreRunsOf work out (Some done ∷ [])
    go [] [] e after =
        let same : task_of work done ≡ task = cc e in
        (after, subst (λ tasks. AreRunsOf work tasks (Some done ∷ [])) (sym is) ((same, run), tt))
    go [] (u ∷ later) e after = absurd (cc e)
    go (t ∷ []) later e after = absurd (cc e)
    go (t ∷ u ∷ earlier) later e after = absurd (cc e)
