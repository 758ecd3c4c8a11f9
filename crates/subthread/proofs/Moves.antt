-- Steps and walks of the control alone. A step whose instruction is no data statement does no action; a data
-- statement's action is done as well. What is left of a body ends as the whole body (Leads), so that a walk from the
-- synchronisation on goes through all of it.
use Rattle.std.proofs.Common.{◌≡◌, ℕ, zero, suc, ◌+◌, ◌-◌, ◌*◌, ◌<◌, List, [], length, Option, Some, None, Result, IfOk, refl, sym, ap, ◌∙◌, subst}
use Rattle.std.specs.Prelude.{ℤ, pos, negsuc, slice_get, ⊤}
use Rattle.std.specs.declared.alloc.AllocError.{AllocError}
use Rattle.gp_base.specs.declared.feed.Feed.{Feed}
use Rattle.gp_base.specs.declared.numbers.At.{At}
use Rattle.task_ast.specs.declared.sync.Next.{Next}
use Rattle.task_ast.specs.declared.sync.SyncOp.{SyncOp}
use Rattle.task_ast.specs.meaning.Body.{Step, Silent, Iteration, Act, Stop, Body, spent}
use Rattle.task_ast.specs.meaning.Footprint.{named_by}
use Rattle.task_code.specs.Flat.{code_of}
use Rattle.task_code.specs.Instructions.{Does, Assign, GoOn, Unless, Again, Lock, Unlock, Fork, Join, Barrier, Settle, Do}
use Rattle.task_code.specs.Reading.{Place, goto, given_value, either, index_at, cell_of, calc_value, fork_arguments, step_does, step_instr, code_step, code_begins, code_body, env_of}
use Rattle.task_code.specs.View.{plain_does, plain_instrs}
use Rattle.task_code.specs.declared.instrs.Deed.{Deed}
use Rattle.task_code.specs.declared.instrs.Does as code
use Rattle.task_code.specs.declared.instrs.Does.TheVariants as o
use Rattle.subthread.specs.declared.ground.Ground.{Ground}
use Rattle.subthread.specs.declared.ground.Cursor.{Cursor}
use Rattle.subthread.specs.declared.ground.Went.{Went}
use Rattle.subthread.specs.declared.ground.Went.TheVariants.{On, Turned, Stopped}
use Rattle.subthread.specs.declared.task.Work.{Work}
use Rattle.subthread.specs.Tasks.{body_from}
use Rattle.subthread.specs.inner.Moving.{Moved, Led, IsControlGround}
use Rattle.subthread.specs.inner.Running.{Did, did_one, tasks_in, body_in, place_in, IsTask, Stepped}
use Rattle.subthread.proofs.Leavings.{if_ok}
use Rattle.subthread.proofs.Walks.{at_code, on_goes, turned_goes, spent_ran, stopped_ran, smaller}

-- ---- steps that do no action

abbrev IsQuiet : Step Place → Type 0
IsQuiet (Act a r) = ⊥
IsQuiet _ = ⊤

-- what an instruction does is no data statement
abbrev IsControl : Does → Type 0
IsControl (Do d) = ⊥
IsControl _ = ⊤

is_control : (d : code.Does) → ((x : Deed) → d ≡ o.Do x → ⊥) → IsControl (plain_does d)
is_control (o.Assign k c) other = tt
is_control (o.GoOn n) other = tt
is_control (o.Unless c n) other = tt
is_control (o.Again c n) other = tt
is_control (o.Lock cells i) other = tt
is_control (o.Unlock cells i) other = tt
is_control (o.Fork f) other = tt
is_control (o.Join c into) other = tt
is_control (o.Barrier b) other = tt
is_control (o.Settle k c) other = tt
is_control (o.Do x) other = other x refl

quiet_given : {A : Type 0} (line : ℕ) (o : Option A) (go : A → Step Place) → ((v : A) → IsQuiet (go v)) → IsQuiet (given_value line o go)
quiet_given line None go quiet = tt
quiet_given line (Some v) go quiet = quiet v

quiet_either : (v : ℤ) (first second : Step Place) → IsQuiet first → IsQuiet second → IsQuiet (either v first second)
quiet_either (pos zero) first second one other = other
quiet_either (pos (suc n)) first second one other = one
quiet_either (negsuc n) first second one other = one

module _ (feeds : List Feed) (line : ℕ) (q : Place) where
  quiet_does : (d : Does) → IsControl d → IsQuiet (step_does feeds line d q)
  quiet_does (Assign k c) is = quiet_given line (calc_value c (env_of feeds q)) _ (λ v. tt)
  quiet_does (GoOn n) is = tt
  quiet_does (Unless c n) is = quiet_given line (calc_value c (env_of feeds q)) _ (λ v. quiet_either v _ _ tt tt)
  quiet_does (Again c n) is = quiet_given line (calc_value c (env_of feeds q)) _ (λ v. quiet_either v _ _ tt tt)
  quiet_does (Lock cells i) is = quiet_given line (cell_of cells (index_at i q.ctl)) _ (λ l. tt)
  quiet_does (Unlock cells i) is = quiet_given line (cell_of cells (index_at i q.ctl)) _ (λ l. tt)
  quiet_does (Fork f) is = quiet_given line (fork_arguments f (env_of feeds q)) _ (λ a. tt)
  quiet_does (Join c into) is = quiet_given line (calc_value c (env_of feeds q)) _ (λ h. tt)
  quiet_does (Barrier b) is = tt
  quiet_does (Settle k c) is = tt
  quiet_does (Do d) is = absurd is

module _ (ground : Ground) where
  -- what was done, after the action of a step
  abbrev after_step : Step Place → Did → Did
  after_step (Act a r) old = did_one ground a old
  after_step (Silent r) old = old
  after_step (Iteration r) old = old
  after_step (Stop next) old = old

  -- a step whose action is done as well
  stepped : (st : Step Place) (went : Went) (p q : Place) (old : Did) → Moved st went p q
      → Stepped ground st went p q old (after_step st old)
  stepped (Silent r) On p q old is = (is, refl)
  stepped (Silent r) (Turned pc) p q old is = absurd is
  stepped (Silent r) (Stopped n) p q old is = absurd is
  stepped (Act a r) On p q old is = (is, refl)
  stepped (Act a r) (Turned pc) p q old is = absurd is
  stepped (Act a r) (Stopped n) p q old is = absurd is
  stepped (Iteration r) On p q old is = absurd is
  stepped (Iteration r) (Turned pc) p q old is = (is.0, is.1, refl)
  stepped (Iteration r) (Stopped n) p q old is = absurd is
  stepped (Stop next) On p q old is = absurd is
  stepped (Stop next) (Turned pc) p q old is = absurd is
  stepped (Stop next) (Stopped n) p q old is = (is.0, is.1, refl)

  quiet_step : (st : Step Place) (old : Did) → IsQuiet st → after_step st old ≡ old
  quiet_step (Silent r) old quiet = refl
  quiet_step (Act a r) old quiet = absurd quiet
  quiet_step (Iteration r) old quiet = refl
  quiet_step (Stop next) old quiet = refl

  -- a step that is no data statement does nothing else
  pub control_stepped : (line : ℕ) (d : code.Does) (result : Result Went AllocError) (p q : Place) (old : Did)
      → ((x : Deed) → d ≡ o.Do x → ⊥)
      → IfOk result (λ went. Moved (step_does ground.feeds.now line (plain_does d) p) went p q)
      → IfOk result (λ went. Stepped ground (step_does ground.feeds.now line (plain_does d) p) went p q old old)
  control_stepped line d result p q old other moved =
      let st = step_does ground.feeds.now line (plain_does d) p in
      let quiet = quiet_step st old (quiet_does ground.feeds.now line p (plain_does d) (is_control d other)) in
      if_ok result (λ went is. subst (Stepped ground st went p q old) quiet (stepped st went p q old is)) moved

-- ---- walks

-- nothing done
nothing : Did
nothing = record { doing = record { registers = []; child = []; written = []; lines = [] }; named = named_by [] }

-- what is left of a body ends as the whole body
pub record Leads (whole left : Body Place) : Type 0 where
  pub next_is : left.next ≡ whole.next
  pub at_is : left.at ≡ whole.at

pub leads_nowhere : (b : Body Place) → Leads b b
leads_nowhere b = record { next_is = refl; at_is = refl }

pub leads_on : {whole left then : Body Place} → Leads whole left → Leads left then → Leads whole then
leads_on first second = record { next_is = second.next_is ∙ first.next_is; at_is = second.at_is ∙ first.at_is }

pub led_from : {whole left : Body Place} {next : Next} {q : Place} → Leads whole left → Led left next q → Led whole next q
led_from leads led = record { next_is = led.next_is ∙ leads.next_is; at_is = led.at_is ∙ leads.at_is }

module _ (ground : Ground) (is_task : IsTask ground) where
  abbrev step_from : Place → Step Place
  step_from p = step_instr ground.feeds.now (slice_get (plain_instrs ground.instrs.now) p.at.pc) p

  abbrev after : Place → Did
  after p = after_step ground (step_from p) nothing

  code_stepped : (went : Went) (p q : Place) → p.at.task ≡ ground.task → Moved (step_from p) went p q
      → Stepped ground (code_step (tasks_in ground) ground.feeds.now p) went p q nothing (after p)
  code_stepped went p q here is = at_code ground is_task went p q nothing (after p) here (stepped ground (step_from p) went p q nothing is)

  pub on_leads : (n : ℕ) (p q : Place) → p.at.task ≡ ground.task → Moved (step_from p) On p q
      → Leads (body_in ground n p) (body_in ground n q)
  on_leads n p q here is =
      let goes = on_goes ground is_task n p q nothing (after p) (code_stepped On p q here is) in
      record { next_is = goes.next_is; at_is = goes.at_is }

  pub turned_leads : (n m pc : ℕ) (p q : Place) → n ≡ suc m → p.at.task ≡ ground.task → Moved (step_from p) (Turned pc) p q
      → Leads (body_in ground n p) (body_in ground m (goto q pc))
  turned_leads n m pc p q more here is =
      let goes = turned_goes ground is_task n m pc p q nothing (after p) more (code_stepped (Turned pc) p q here is) in
      record { next_is = goes.next_is; at_is = goes.at_is }

  pub spent_led : (n pc : ℕ) (p q : Place) → n ≡ zero → p.at.task ≡ ground.task → Moved (step_from p) (Turned pc) p q
      → Led (body_in ground n p) spent q
  spent_led n pc p q none here is =
      let ran = spent_ran ground is_task n pc p q nothing (after p) none (code_stepped (Turned pc) p q here is) in
      record { next_is = ran.next_is; at_is = ran.at_is }

  pub stopped_led : (n : ℕ) (next : Next) (p q : Place) → p.at.task ≡ ground.task → Moved (step_from p) (Stopped next) p q
      → Led (body_in ground n p) next q
  stopped_led n next p q here is =
      let ran = stopped_ran ground is_task n next p q nothing (after p) (code_stepped (Stopped next) p q here is) in
      record { next_is = ran.next_is; at_is = ran.at_is }

  pub control_smaller : (n : ℕ) (before then : Cursor)
      → Moved (step_from (place_in ground before)) On (place_in ground before) (place_in ground then)
      → n * suc (length ground.instrs.now) + (length ground.instrs.now - then.pc)
      < n * suc (length ground.instrs.now) + (length ground.instrs.now - before.pc)
  control_smaller n before then is =
      let place = place_in ground before in
      smaller ground is_task n before then nothing (after place) (code_stepped On place (place_in ground then) refl is)

-- ---- the whole

module _ (work : Work) (ground : Ground) (at : At) (thread : ℕ) (is : IsControlGround work at.task thread ground)
    (begins : SyncOp) (child : Option ℕ) (ctl : List ℤ) where
  -- the place of a run that stands here
  abbrev place_at : Cursor → Place
  place_at cursor = record { at = record { task = at.task; pc = cursor.pc }; ctl = cursor.ctl; me = thread }

  place_is : (cursor : Cursor) → place_in ground cursor ≡ place_at cursor
  place_is cursor = λ i. record { at = record { task = is.task_is i; pc = cursor.pc }; ctl = cursor.ctl; me = is.me i }

  module _ (before : Cursor) (pc_is : before.pc ≡ at.pc) (ctl_is : before.ctl ≡ ctl) where
    abbrev whole : Body Place
    whole = body_from work begins child (record { at = at; ctl = ctl; me = thread })

    starts : place_in ground before ≡ record { at = at; ctl = ctl; me = thread }
    starts = place_is before ∙ (λ i. record { at = record { task = at.task; pc = pc_is i }; ctl = ctl_is i; me = thread })

    -- after the synchronisation the body that is left is the whole one
    body_is : (middle : Cursor) → place_in ground middle ≡ code_begins (tasks_in ground) begins child (place_in ground before)
        → body_in ground work.turns (place_in ground middle) ≡ whole
    body_is middle begun =
        ap (body_in ground work.turns) begun
        ∙ (λ i. let tasks = (code_of (is.code i)).tasks in
        code_body tasks (is.feeds i) work.turns (code_begins tasks begins child (starts i)))

    -- so a walk from there goes through the whole body
    pub whole_led : (middle then : Cursor) (next : Next)
        → place_in ground middle ≡ code_begins (tasks_in ground) begins child (place_in ground before)
        → Led (body_in ground work.turns (place_in ground middle)) next (place_in ground then) → Led whole next (place_at then)
    whole_led middle then next begun led =
        let body = body_is middle begun in
        record {
          next_is = led.next_is ∙ ap (λ (b : Body Place). b.next) body;
          at_is = sym (place_is then) ∙ led.at_is ∙ ap (λ (b : Body Place). b.at) body;
        }
