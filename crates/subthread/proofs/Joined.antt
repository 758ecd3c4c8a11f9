-- What a run of a task of the plain run does.
use Rattle.std.proofs.Common.{◌≡◌, ℕ, suc, ◌++◌, sym, ap, ◌∙◌, subst}
use Rattle.gp_base.specs.declared.limits.Limits.{Limits}
use Rattle.gp_base.specs.declared.feed.Inputs.{Inputs}
use Rattle.task_ast.specs.declared.layout.Layout.{Layout}
use Rattle.task_ast.specs.meaning.Body.{Body}
use Rattle.task_ast.specs.meaning.Control.{Point}
use Rattle.task_ast.specs.meaning.State.{State}
use Rattle.task_ast.specs.meaning.Effect.{effect, effect_on}
use Rattle.task_ast.specs.Damage.{damaged}
use Rattle.task_ast.specs.meaning.Footprint.{footprint}
use Rattle.task_ast.specs.laws.Following.{Agrees, Follows}
use Rattle.task_ast.specs.meaning.Plain.{Subthread}
use Rattle.task_ast.specs.Plain.{Machine, tree_machine}
use Rattle.task_ast.specs.Position.{before, body_at, IsStep, from_in}
use Rattle.task_ast.proofs.Positions.{step_is}
use Rattle.lock_checker.proofs.LocksHeld.{sound}
use Rattle.task_ast.specs.SyncOps.{joined_by}
use Rattle.record_store.specs.Given.{given_of, found_of}
use Rattle.record_store.proofs.Givens.{given_law}
use Rattle.task_code.specs.Reading.{Place, code_machine}
use Rattle.task_code.proofs.Machines.{follows as follows_code}
use Rattle.task_code.specs.Lowering.{lowered}
use Rattle.task_code.specs.Relation.{Rests}
use Rattle.subthread.specs.declared.task.Work.{Work}
use Rattle.subthread.specs.declared.task.Task.{Task}
use Rattle.subthread.specs.declared.task.Done.{Done}
use Rattle.subthread.specs.Tasks.{task_of, place_of, program_in, machine_of, under_of, body_from, actions_from, IsRun, Suits}
use Rattle.subthread.specs.Joining.{IsTaskOf, IsGiven, Runs, RunsLaw}

module _ (work : Work) (cells : Layout) (inputs : Inputs) (limits : Limits) (suits : Suits work cells inputs limits) (p : ℕ) (s : Subthread)
    (task : Task) (is_task : IsTaskOf work inputs limits p s task) where
  abbrev tree : Machine Point
  tree = tree_machine (program_in work) inputs limits

  abbrev code : Machine Place
  code = code_machine (lowered (program_in work)) inputs.feeds limits.turns

  -- where the thread stands in the plain run, and what the subthread does there
  abbrev point : Point
  point = from_in (program_in work) inputs limits (before (program_in work) inputs limits p) s.begins.sync s.thread

  step : IsStep tree (before (program_in work) inputs limits p) s (before (program_in work) inputs limits (suc p))
  step = step_is (tree_machine (program_in work) inputs limits) (program_in work) inputs limits p s is_task.position

  follows : Follows (Rests (program_in work)) tree code
  follows = follows_code (program_in work) inputs limits

  -- the machine of the work is that of the run
  machine_is : machine_of work ≡ code
  machine_is = λ i. code_machine (suits.code.made i) (suits.feeds_are i) (suits.turns_are i)

  abbrev here : Body Place
  here = code.bodies (code.begins s.begins.sync s.child (place_of task))

  body_is : body_from work task.begins.sync task.child (place_of task) ≡ here
  body_is = λ i. (machine_is i).bodies ((machine_is i).begins (is_task.begins i).sync (is_task.child i) (place_of task))

  agrees : Agrees (Rests (program_in work) (body_at (program_in work) inputs limits p s).next.sync)
      (body_at (program_in work) inputs limits p s) here
  agrees = follows.bodies s.begins.sync s.child point (place_of task) is_task.place

  -- the actions of the task are those of the subthread
  pub actions_are : actions_from work task.begins.sync task.child (place_of task) ≡ s.actions
  actions_are =
      (λ i. (machine_is i).first (is_task.begins i).sync (place_of task) ++ (body_is i).actions)
      ∙ sym (step.actions ∙ (λ i. follows.first s.begins.sync point (place_of task) is_task.place i ++ agrees.actions i))

  -- on what was given the actions do what they do on the state
  done_on : (state : State) → IsGiven work inputs limits task state
      → effect_on task.thread task.child (actions_from work task.begins.sync task.child (place_of task))
      (found_of (under_of work) task.given) ≡ effect s.thread s.begins.sync s.child s.actions state
  done_on state given =
      (λ i. effect_on (is_task.thread i) (is_task.child i) (actions_are i)
      (found_of (under_of work) ((given ∙ (λ j.
      given_of (under_of work) state (is_task.thread j) (joined_by (is_task.begins j).sync) (is_task.held j))) i)))
      ∙ given_law (under_of work) s.held s.thread s.begins.sync s.child s.actions state
      (sound (program_in work) inputs limits suits.code.accepted p s is_task.position)

module _ (work : Work) (cells : Layout) (inputs : Inputs) (limits : Limits) (suits : Suits work cells inputs limits) (p : ℕ) (s : Subthread)
    (done : Done) (is_task : IsTaskOf work inputs limits p s (task_of work done)) (run : IsRun work done) where
  abbrev task_run : Task
  task_run = task_of work done

  bodies : body_from work task_run.begins.sync task_run.child (place_of task_run) ≡ here work cells inputs limits suits p s task_run is_task
  bodies = body_is work cells inputs limits suits p s task_run is_task

  agreeing : Agrees (Rests (program_in work) (body_at (program_in work) inputs limits p s).next.sync)
      (body_at (program_in work) inputs limits p s) (here work cells inputs limits suits p s task_run is_task)
  agreeing = agrees work cells inputs limits suits p s task_run is_task

  same_actions : actions_from work task_run.begins.sync task_run.child (place_of task_run) ≡ s.actions
  same_actions = actions_are work cells inputs limits suits p s task_run is_task

  pub runs : Runs work inputs limits p s done
  runs = record {
    next = run.next_is ∙ ap (λ (b : Body Place). b.next) bodies ∙ sym agreeing.next;
    place =
        subst (λ q. Rests (program_in work) (body_at (program_in work) inputs limits p s).next.sync
        (body_at (program_in work) inputs limits p s).at q) (sym (run.place_is ∙ ap (λ (b : Body Place). b.at) bodies)) agreeing.at;
    given =
        run.effect_is ∙ (λ i. damaged task_run.mask
        (effect_on (is_task.thread i) (is_task.child i) (same_actions i) (found_of (under_of work) task_run.given)));
    foot = run.foot_is ∙ (λ i. footprint (is_task.thread i) (is_task.begins i).sync (is_task.child i) (same_actions i));
    on =
        λ state given. run.effect_is ∙ ap (damaged task_run.mask) (done_on work cells inputs limits suits p s task_run is_task state given);
  }

pub runs_law : RunsLaw
runs_law = runs
