-- A subthread that joins those that are out is sent: its task is lent its cells and posted. And those that were sent.
use Rattle.std.proofs.Common.{◌≡◌, ◌⊎◌, inl, inr, ℕ, zero, suc, ◌+◌, ◌-◌, ◌<◌, ◌≤◌, true, List, [], ◌∷◌, ◌++◌, length, length-append, Contains, refl, sym, ap, ◌∙◌, subst, append_assoc, arith}
use Rattle.std.specs.Prelude.{All}
use Rattle.std.specs.List.Sorted.{IsStrictlyIncreasing}
use Rattle.task_ast.specs.Plain.{Plain}
use Rattle.task_ast.specs.SyncOps.{IsNumbered}
use Rattle.record_store.specs.Lent.{marked}
use Rattle.record_store.specs.Stored.{IsAtHome}
use Rattle.subthread.specs.declared.task.Task.{Task}
use Rattle.subthread.specs.Tasks.{Fits}
use Rattle.gp_resume.specs.declared.course.ResumePlan.{ResumePlan}
use Rattle.gp_resume.specs.declared.course.Begun.{Begun}
use Rattle.gp_resume.specs.declared.course.Course.{Course}
use Rattle.gp_resume.specs.inner.Course.{IsSuited}
use Rattle.gp_resume.specs.inner.Handed.{task_begun}
use Rattle.gp_resume.specs.inner.Flights.{Flown, IsFlown, Flight, Joins, task_from}
use Rattle.gp_resume.specs.inner.Going.{rest, firsts_from}
use Rattle.gp_resume.specs.inner.Waves.{tasks_of, IsOne, Sent}
use Rattle.gp_resume.proofs.Chains.{chain-issued, chain-some}
use Rattle.gp_resume.proofs.Flights.{joins-numbered, joins-rising, joins-home, joins-task, joins-fits, flight-joined}
use Rattle.gp_resume.proofs.Onward.{issued-next, firsts-push, firsts-past}

module _ (plan : ResumePlan) (suits : IsSuited plan) (threads : ℕ) (x : Plain) (fs : List Flown) (f : Flown) (course : Course) (begun : Begun)
    (is : f.begun ≡ begun) (joins : Joins plan threads x fs f course) where
  pub send-numbered : IsNumbered begun.begins.sync
  send-numbered = subst (λ (b : Begun). IsNumbered b.begins.sync) is (joins-numbered plan suits threads x fs f course joins)

  pub send-rising : IsStrictlyIncreasing begun.held
  send-rising = subst (λ (b : Begun). IsStrictlyIncreasing b.held) is (joins-rising plan suits threads x fs f course joins)

  pub send-home : All (IsAtHome course.store) begun.held
  send-home = subst (λ (b : Begun). All (IsAtHome course.store) b.held) is (joins-home plan suits threads x fs f course joins)

  pub send-task : task_begun course.store begun ≡ task_from plan.work.now x.state begun
  send-task =
      subst (λ b. task_begun course.store b ≡ task_from plan.work.now x.state b) is (joins-task plan suits threads x fs f course joins)

  pub send-fits : Fits plan.work.now (task_begun course.store begun)
  send-fits =
      subst (Fits plan.work.now) (sym send-task)
      (subst (λ b. Fits plan.work.now (task_from plan.work.now x.state b)) is (joins-fits plan suits threads x fs f course joins))

  pub send-flight : (lent : Course)
      → lent ≡ record course { store = record course.store { away = marked begun.held true course.store.away } }
      → Flight plan threads x f.after (fs ++ f ∷ []) lent
  send-flight lent e =
      flight-joined plan suits threads x fs f course joins lent
      (e ∙ (λ i. record course { store = record course.store { away = marked (sym is i).held true course.store.away } }))

-- the tasks of those that are out and of one more
tasks-push : (plan : ResumePlan) (x : Plain) (fs : List Flown) (f : Flown)
    → tasks_of plan x (fs ++ f ∷ []) ≡ tasks_of plan x fs ++ task_from plan.work.now x.state f.begun ∷ []
tasks-push plan x [] f = refl
tasks-push plan x (g ∷ fs) f = ap (λ tasks. task_from plan.work.now x.state g.begun ∷ tasks) (tasks-push plan x fs f)

split : {X : Type 0} (xs ys : List X) (z : X) → Contains (xs ++ ys) z → Contains xs z ⊎ Contains ys z
split [] ys z has = inr has
split (x ∷ xs) ys z (zero, less, same) = inl (0, omega arith, same)
split (x ∷ xs) ys z (suc k, less, same) = go (split xs ys z (k, omega arith, same))
  where
    go : Contains xs z ⊎ Contains ys z → Contains (x ∷ xs) z ⊎ Contains ys z
    go (inl (j, inside, is)) = inl (suc j, omega arith, is)
    go (inr has) = inr has

module _ (plan : ResumePlan) (threads : ℕ) (x : Plain) (before posted : List (ℕ × ℕ)) (out : List Task) (course : Course)
    (sent : Sent plan threads x before posted out course) where
  -- one more was sent
  pub sent-more : (f : Flown) (begun : Begun) → f.begun ≡ begun → f.before ≡ sent.later
      → (posted' : List (ℕ × ℕ)) (out' : List Task) (course' : Course)
      → f.begun.pos ≡ f.before.table.issued
      → Flight plan threads x f.after (sent.flights ++ f ∷ []) course'
      → out' ≡ out ++ task_from plan.work.now x.state begun ∷ [] → posted' ≡ posted ++ (begun.pos, 0) ∷ []
      → Sent plan threads x before posted' out' course'
  sent-more f begun is at posted' out' course' place flight outs posts =
      record {
        later = f.after;
        flights = sent.flights ++ f ∷ [];
        some = let k = many in omega arith;
        flight = flight;
        out_are = outs ∙ ((λ i. sent.out_are i ++ task_from plan.work.now x.state (sym is i) ∷ []) ∙ sym (tasks-push plan x sent.flights f));
        posts = posts ∙ ((λ i. sent.posts i ++ (where-is i, 0) ∷ [])
            ∙ (append_assoc before (firsts_from x.table.issued (length sent.flights)) ((x.table.issued + length sent.flights, 0) ∷ [])
            ∙ ap (λ pairs. before ++ pairs) (sym (firsts-push x.table.issued (length sent.flights)) ∙ ap (firsts_from x.table.issued) (sym many))));
      }
    where
      where-is : begun.pos ≡ x.table.issued + length sent.flights
      where-is =
          ap (λ (b : Begun). b.pos) (sym is) ∙ (place ∙ (ap (λ (p : Plain). p.table.issued) at
          ∙ chain-issued plan x sent.flights sent.later sent.flight.chain))

      many : length (sent.flights ++ f ∷ []) ≡ suc (length sent.flights)
      many = let parts = length-append sent.flights (f ∷ []) in omega arith

  -- its position was not posted yet
  pub sent-fresh : (f : Flown) (begun : Begun) → f.begun ≡ begun → f.before ≡ sent.later → f.begun.pos ≡ f.before.table.issued
      → ((p : ℕ) → x.table.issued ≤ p → ¬ Contains before (p, 0)) → ¬ Contains posted (begun.pos, 0)
  sent-fresh f begun is at place unposted has =
      let here = ap (λ (b : Begun). b.pos) (sym is) ∙ (place ∙ (ap (λ (p : Plain). p.table.issued) at
      ∙ chain-issued plan x sent.flights sent.later sent.flight.chain)) in
      go here (split before (firsts_from x.table.issued (length sent.flights)) (begun.pos, 0)
      (subst (λ pairs. Contains pairs (begun.pos, 0)) sent.posts has))
    where
      go : begun.pos ≡ x.table.issued + length sent.flights
          → Contains before (begun.pos, 0) ⊎ Contains (firsts_from x.table.issued (length sent.flights)) (begun.pos, 0) → ⊥
      go here (inl old) = unposted begun.pos (omega arith) old
      go here (inr new) = firsts-past x.table.issued (length sent.flights) begun.pos (omega arith) new

  -- so many of those that are to come were posted
  pub sent-some : (n : ℕ) × (n ≤ length (rest plan x)) × (posted ≡ before ++ firsts_from x.table.issued n)
  sent-some = (length sent.flights, chain-some plan x sent.flights sent.later sent.flight.chain, sent.posts)

  -- there are fewer left
  pub sent-falls : (f : Flown) → f.before ≡ sent.later → IsFlown plan f → (course' : Course) → course'.issued ≡ f.after.table.issued
      → plan.limits.subthreads - course'.issued < plan.limits.subthreads - course.issued
  sent-falls f at flown course' is =
      let next = issued-next plan f.before f.subthread f.after flown.moves flown.sound in
      let one = next.0 in
      let below = next.1 in
      let was = sent.flight.issued in
      let same = ap (λ (p : Plain). p.table.issued) at in
      omega arith

-- the first was sent
pub sent-first : (plan : ResumePlan) (x : Plain) (f : Flown) (begun : Begun) → f.begun ≡ begun → f.before ≡ x → f.begun.pos ≡ f.before.table.issued
    → (before posted : List (ℕ × ℕ)) (before-out out : List Task) (course : Course) (threads : ℕ)
    → Flight plan threads x f.after (f ∷ []) course
    → before-out ≡ [] → out ≡ before-out ++ task_from plan.work.now x.state begun ∷ [] → posted ≡ before ++ (begun.pos, 0) ∷ []
    → Sent plan threads x before posted out course
sent-first plan x f begun is at place before posted before-out out course threads flight none outs posts =
    record {
      later = f.after;
      flights = f ∷ [];
      some = omega arith;
      flight = flight;
      out_are = outs ∙ (λ i. none i ++ task_from plan.work.now x.state (sym is i) ∷ []);
      posts = posts ∙ (λ i. before ++ (here i, 0) ∷ []);
    }
  where
    here : begun.pos ≡ x.table.issued
    here = ap (λ (b : Begun). b.pos) (sym is) ∙ (place ∙ ap (λ (p : Plain). p.table.issued) at)

-- it alone is out
pub sent-one : (before-out out : List Task) (task : Task) → before-out ≡ [] → out ≡ before-out ++ task ∷ [] → IsOne out
sent-one before-out out task none outs = (task, outs ∙ (λ i. none i ++ task ∷ []))
