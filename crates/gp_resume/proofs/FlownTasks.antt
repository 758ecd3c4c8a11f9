-- The task of a subthread that is out: it fits, and its run leaves what the subthread leaves.
use Rattle.std.proofs.Common.{◌≡◌, ℕ, ◌<◌, ◌≤◌, List, ◌++◌, length, map, sym, ap, ◌∙◌, subst, arith}
use Rattle.std.specs.List.Sorted.{IsStrictlyIncreasing}
use Rattle.task_ast.specs.declared.effect.Effect.{Effect}
use Rattle.task_ast.specs.declared.sync.Next.{Next}
use Rattle.task_ast.specs.meaning.Tree.{Program}
use Rattle.task_ast.specs.meaning.Body.{Body}
use Rattle.task_ast.specs.meaning.Control.{Point}
use Rattle.task_ast.specs.meaning.Effect.{effect, effect_on}
use Rattle.task_ast.specs.Damage.{damaged}
use Rattle.task_ast.specs.meaning.Under.{is_under}
use Rattle.task_ast.specs.laws.Following.{Agrees, Follows}
use Rattle.task_ast.specs.laws.Keeps.{AllName}
use Rattle.task_ast.specs.laws.Threads.{with_child}
use Rattle.task_ast.specs.meaning.Plain.{Subthread}
use Rattle.task_ast.specs.Plain.{Machine, tree_machine}
use Rattle.task_ast.specs.Position.{body_by, from_in, IsStep}
use Rattle.task_ast.proofs.PlainSteps.{begins_of, begins_inside}
use Rattle.task_ast.proofs.WholeFolds.{undamaged}
use Rattle.task_code.specs.Reading.{Place}
use Rattle.task_code.specs.Relation.{Rests}
use Rattle.task_ast.specs.SyncOps.{joined_by, IsNumbered}
use Rattle.record_store.specs.Given.{given_of, found_of}
use Rattle.record_store.specs.Lent.{lock_in, put_back}
use Rattle.record_store.specs.Stored.{FitsChild}
use Rattle.record_store.proofs.Givens.{given_law}
use Rattle.subthread.specs.declared.task.Task.{Task}
use Rattle.subthread.specs.declared.task.Done.{Done}
use Rattle.subthread.specs.Tasks.{program_in, machine_of, under_of, task_of, effect_of, place_of, place_left, body_from, actions_from, IsRun, Fits}
use Rattle.subthread.proofs.Among.{same_locks_back}
use Rattle.subthread.proofs.HeldLocks.{owned_increasing, bundle_locks, bundle_sizes}
use Rattle.gp_resume.specs.declared.course.ResumePlan.{ResumePlan}
use Rattle.gp_resume.specs.inner.Course.{IsSuited}
use Rattle.gp_resume.specs.inner.Flights.{Flown, IsFlown, task_from}
use Rattle.gp_resume.proofs.FlightData.{flown-step}
use Rattle.gp_resume.proofs.Tasks.{joins-numbered, child-next, child-fits, no-fewer}
use Rattle.gp_resume.proofs.TurnsTaken.{follows-code}

module _ (plan : ResumePlan) (suits : IsSuited plan) (f : Flown) (flown : IsFlown plan f) where
  abbrev program : Program
  program = program_in plan.work.now

  abbrev tree : Machine Point
  tree = tree_machine (program_in plan.work.now) plan.inputs.value plan.limits

  abbrev code : Machine Place
  code = machine_of plan.work.now

  abbrev s : Subthread
  s = f.subthread

  abbrev task : Task
  task = task_from plan.work.now f.before.state f.begun

  step : IsStep tree f.before f.subthread f.after
  step = flown-step plan suits f flown

  follows : Follows (Rests program) tree code
  follows = follows-code plan suits

  abbrev point : Point
  point = from_in (program_in plan.work.now) plan.inputs.value plan.limits f.before f.subthread.begins.sync f.subthread.thread

  from : Rests program s.begins.sync point (place_of task)
  from =
      subst (Rests program s.begins.sync point)
      (λ i. record { at = f.begun.spot.at; ctl = f.begun.spot.ctl; me = (flown.me ∙ sym flown.thread) i }) flown.from

  abbrev here : Body Place
  here =
      (machine_of plan.work.now).bodies
      ((machine_of plan.work.now).begins f.subthread.begins.sync f.subthread.child (place_of (task_from plan.work.now f.before.state f.begun)))

  abbrev body : Body Point
  body = body_by (tree_machine (program_in plan.work.now) plan.inputs.value plan.limits) f.before f.subthread

  agrees : Agrees (Rests program body.next.sync) body here
  agrees = follows.bodies s.begins.sync s.child point (place_of task) from

  body-is : body_from plan.work.now task.begins.sync task.child (place_of task) ≡ here
  body-is = λ i. code.bodies (code.begins (flown.begins i).sync (flown.child i) (place_of task))

  -- its actions are those of the subthread
  actions-are : actions_from plan.work.now task.begins.sync task.child (place_of task) ≡ s.actions
  actions-are =
      (λ i. code.first (flown.begins i).sync (place_of task) ++ (body-is i).actions)
      ∙ sym (step.actions ∙ (λ i. follows.first s.begins.sync point (place_of task) from i ++ agrees.actions i))

  -- it is given what the subthread finds
  given : task.given ≡ given_of (under_of plan.work.now) f.before.state s.thread (joined_by s.begins.sync) s.held
  given = λ i. given_of (under_of plan.work.now) f.before.state (flown.thread i) (joined_by (flown.begins i).sync) (flown.held i)

  done-on : effect_on task.thread task.child (actions_from plan.work.now task.begins.sync task.child (place_of task))
      (found_of (under_of plan.work.now) task.given)
      ≡ effect s.thread s.begins.sync s.child s.actions f.before.state
  done-on =
      (λ i. effect_on (flown.thread i) (flown.child i) (actions-are i) (found_of (under_of plan.work.now) (given i)))
      ∙ given_law (under_of plan.work.now) s.held s.thread s.begins.sync s.child s.actions f.before.state flown.keeps

  pub numbered : IsNumbered f.begun.begins.sync
  numbered =
      subst (λ (next : Next). IsNumbered next.sync) (sym flown.begins)
      (joins-numbered f.before.table s.begins.sync flown.sound.reached step.may)

  pub rising : IsStrictlyIncreasing f.begun.held
  rising = subst IsStrictlyIncreasing (sym (flown.held ∙ step.held)) (owned_increasing f.after.table.owners s.thread)

  locks-are : map lock_in task.given.bundles ≡ s.held
  locks-are = bundle_locks (under_of plan.work.now) f.before.state f.begun.held ∙ flown.held

  pub fits : Fits plan.work.now (task_from plan.work.now f.before.state f.begun)
  fits =
      record {
        rising = subst IsStrictlyIncreasing (sym (bundle_locks (under_of plan.work.now) f.before.state f.begun.held)) rising;
        sizes = bundle_sizes (under_of plan.work.now) f.before.state f.begun.held;
        numbered = numbered;
        within = subst (λ (locks : List ℕ). AllName (is_under (under_of plan.work.now) locks)
            (actions_from plan.work.now task.begins.sync task.child (place_of task))) (sym locks-are)
            (subst (AllName (is_under (under_of plan.work.now) s.held)) (sym actions-are) flown.keeps);
        spared = suits.spared;
      }

  -- a run of it
  module _ (done : Done) (is_task : task_of plan.work.now done ≡ task_from plan.work.now f.before.state f.begun)
      (run : IsRun plan.work.now done) where
    pub thread-is : done.task.thread ≡ f.subthread.thread
    thread-is = ap (λ (t : Task). t.thread) is_task ∙ flown.thread

    pub effect-is : effect_of plan.work.now done
        ≡ effect f.subthread.thread f.subthread.begins.sync f.subthread.child f.subthread.actions f.before.state
    effect-is =
        run.effect_is
        ∙ (λ i. damaged (is_task i).mask
        (effect_on (is_task i).thread (is_task i).child
        (actions_from plan.work.now (is_task i).begins.sync (is_task i).child (place_of (is_task i)))
        (found_of (under_of plan.work.now) (is_task i).given)))
        ∙ undamaged (effect_on task.thread task.child (actions_from plan.work.now task.begins.sync task.child (place_of task))
        (found_of (under_of plan.work.now) task.given))
        ∙ done-on

    pub next-is : done.next ≡ (body_by (tree_machine (program_in plan.work.now) plan.inputs.value plan.limits) f.before f.subthread).next
    next-is =
        run.next_is
        ∙ (λ i. (body_from plan.work.now (is_task i).begins.sync (is_task i).child (place_of (is_task i))).next)
        ∙ ap (λ (b : Body Place). b.next) body-is
        ∙ sym agrees.next

    place-is : place_left done ≡ here.at
    place-is =
        run.place_is
        ∙ (λ i. (body_from plan.work.now (is_task i).begins.sync (is_task i).child (place_of (is_task i))).at)
        ∙ ap (λ (b : Body Place). b.at) body-is

    pub rests : Rests (program_in plan.work.now)
        (body_by (tree_machine (program_in plan.work.now) plan.inputs.value plan.limits) f.before f.subthread).next.sync
        (body_by (tree_machine (program_in plan.work.now) plan.inputs.value plan.limits) f.before f.subthread).at (place_left done)
    rests = subst (Rests program body.next.sync body.at) (sym place-is) agrees.at

    pub came : put_back (under_of plan.work.now) done.old done.task.given.bundles
        ≡ (task_from plan.work.now f.before.state f.begun).given.bundles
    came = ap (λ (t : Task). t.given.bundles) is_task

    pub locks-came : map lock_in done.task.given.bundles ≡ f.subthread.held
    locks-came =
        sym (same_locks_back (under_of plan.work.now) done.old done.task.given.bundles)
        ∙ ap (map lock_in) came
        ∙ locks-are

    pub lines-are : done.effect.prints ≡ f.subthread.lines
    lines-are = ap (λ (e : Effect). e.prints) effect-is ∙ sym step.lines

    pub thread-there : (n : ℕ) → length f.after.table.seats ≤ n → done.effect.thread < n
    thread-there n many =
        let same : done.effect.thread ≡ s.thread = ap (λ (e : Effect). e.thread) effect-is in
        let more = no-fewer s.child (length f.before.table.seats) in
        let k = step.threads in
        let low = begins_inside tree (begins_of tree f.before s f.after flown.moves) in
        omega arith

    pub child-there : (n : ℕ) → length f.after.table.seats ≤ n → FitsChild n done.effect.thread done.effect.child
    child-there n many =
        subst (λ t. FitsChild n t done.effect.child) (sym (ap (λ (e : Effect). e.thread) effect-is))
        (subst (FitsChild n s.thread) (sym (ap (λ (e : Effect). e.child) effect-is))
        (child-fits n s.thread s.child _
        (λ c is.
        let next = child-next s.begins.sync (length f.before.table.seats) c (sym step.child ∙ is) in
        let first = next.0 in
        let less = next.1 in
        let k = step.threads ∙ ap (λ child. with_child child (length f.before.table.seats)) step.child in
        let low = begins_inside tree (begins_of tree f.before s f.after flown.moves) in
        (omega arith, λ same. omega arith))))
