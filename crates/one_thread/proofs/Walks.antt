-- Walks of many steps. A stretch without a loop turn goes from step to step (Came), each of which leaves less. A run is
-- such stretches, each ended by a turn of a loop, with so many turns left (Runs). What the body does from the start is
-- what was done so far and then what the body from here does (GoesOn), so that where the run stops it is the whole
-- body.
use Rattle.std.proofs.Common.{Result, Ok, Err, IfOk, ◌≡◌, ℕ, zero, suc, ◌<◌, ◌≤◌, ℤ, List, [], ◌∷◌, ◌++◌, Option, Some, None, refl, sym, ap, ◌∙◌, subst}
use Rattle.task_ast.specs.declared.sync.SyncOp.{SyncOp}
use Rattle.task_ast.specs.declared.sync.SyncOp.TheVariants as sync
use Rattle.task_ast.specs.declared.sync.Next.{Next}
use Rattle.task_ast.specs.declared.tree.Stmt.{Stmt as CodeStmt}
use Rattle.std.specs.declared.alloc.AllocError.{AllocError}
use Rattle.task_ast.specs.meaning.Tree.{Name, Expr, At, What, Fork}
use Rattle.task_ast.specs.meaning.Body.{Step, Silent, Iteration, Act, Stop, Body, stopped, spent, follow}
use Rattle.task_ast.specs.Body.{after_turn}
use Rattle.task_ast.specs.meaning.Control.{Setting, Point, known, stop, going, step, step_at, step_from, size, tree_body}
use Rattle.task_ast.specs.View.{plain_stmt, plain_stmts, plain_what, plain_program, plain_task}
use Rattle.task_ast.specs.meaning.Names.{locks_of, records_of, cells_in, registers_of}
use Rattle.task_ast.proofs.Views.{stmt_At}
use Rattle.task_ast.proofs.Bodies.{body_step}
use Rattle.task_ast.proofs.Sizes.{tree_sized}
use Rattle.one_thread.specs.declared.data.Data.{Data}
use Rattle.one_thread.specs.declared.left.Left.{Left}
use Rattle.one_thread.specs.declared.walk.Walk.{Walk}
use Rattle.one_thread.specs.declared.walk.Went.{Went}
use Rattle.one_thread.specs.declared.walk.Went.TheVariants as went
use Rattle.one_thread.specs.inner.Remaining.{left_of, rest_of}
use Rattle.one_thread.specs.inner.Working.{recorded, all_worked}
use Rattle.one_thread.specs.Walking.{setting_of, point_of, Keeps, LeadsTo, Stepped, GoesOn, Came, Halted, Ran}
use Rattle.one_thread.proofs.Steps.{stays}

-- blocks that are done are left before a step
abbrev pub with_left : Walk → Left → Walk
with_left walk left = record walk { left = left }

leads_from : (old : Walk) (left : Left) (q : Point) (new : Walk) → LeadsTo q (with_left old left) new → LeadsTo q old new
leads_from old left q new leads =
    record {
      at = leads.at;
      keeps = record {
        program = leads.keeps.program;
        task = leads.keeps.task;
        registers = leads.keeps.registers;
        feeds = leads.keeps.feeds;
        clean = leads.keeps.clean;
      };
    }

module _ (old : Walk) (left : Left) (new : Walk) (same : left_of left ≡ left_of old.left) where
  here : point_of (with_left old left) ≡ point_of old
  here = ap (λ l. record (point_of old) { left = l }) same

  stepped_from : (st : Step Point) (r : Went) → Stepped st r (with_left old left) new → Stepped st r old new
  stepped_from (Silent q) went.On is = (leads_from old left q new is.0, is.1)
  stepped_from (Act a q) went.On is = (leads_from old left q new is.0, is.1)
  stepped_from (Iteration q) (went.Turned body) is =
      (is.0, subst (λ p. LeadsTo p old new) here (leads_from old left (point_of (with_left old left)) new is.1), is.2)
  stepped_from (Stop next) (went.Stopped n) is =
      (is.0, subst (λ p. LeadsTo p old new) here (leads_from old left (point_of (with_left old left)) new is.1), is.2)
  stepped_from (Silent q) (went.Turned body) is = absurd is
  stepped_from (Silent q) (went.Stopped n) is = absurd is
  stepped_from (Act a q) (went.Turned body) is = absurd is
  stepped_from (Act a q) (went.Stopped n) is = absurd is
  stepped_from (Iteration q) went.On is = absurd is
  stepped_from (Iteration q) (went.Stopped n) is = absurd is
  stepped_from (Stop next) went.On is = absurd is
  stepped_from (Stop next) (went.Turned body) is = absurd is

  -- the step at the first statement left
  pub at_first : (s : CodeStmt) (w : What) (r : Went) → left_of left ≡ plain_stmt s ∷ rest_of left → plain_what s.what ≡ w
      → Stepped (step_at (setting_of old) s.line w (rest_of left) (point_of (with_left old left))) r (with_left old left) new
      → Stepped (step (setting_of old) (point_of old)) r old new
  at_first s w r first is stepped =
      subst (λ st. Stepped st r old new)
      (sym (ap (λ l. step_from (setting_of old) l (point_of old))
      (sym same ∙ first ∙ ap (λ st. st ∷ rest_of left) (stmt_At s ∙ ap (At s.line) is))
      ∙ ap (step_at (setting_of old) s.line w (rest_of left)) (sym here)))
      (stepped_from (step_at (setting_of old) s.line w (rest_of left) (point_of (with_left old left))) r stepped)

-- after the last statement the task ends
pub at_end : (old : Walk) (left : Left) → old.env.regs ≡ [] → left_of left ≡ left_of old.left → left_of left ≡ []
    → Stepped (step (setting_of old) (point_of old)) (went.Stopped (record { sync = sync.End; line = 0 })) old (with_left old left)
at_end old left clean same none =
    subst (λ st. Stepped st (went.Stopped (record { sync = sync.End; line = 0 })) old (with_left old left))
    (sym (ap (λ l. step_from (setting_of old) l (point_of old)) (sym same ∙ none))) (
      refl,
      record {
        at = ap (λ l. record (point_of old) { left = l }) same;
        keeps = record { program = refl; task = refl; registers = refl; feeds = refl; clean = clean };
      },
      refl,
    )

-- a stop at a synchronisation whose value or cell is known, and at an index fault
pub stops_with : {A : Type 0} (walk : Walk) (line : ℕ) (o : Option A) (op : A → SyncOp) (a : A) → walk.env.regs ≡ [] → o ≡ Some a
    → Stepped (known line o (λ a. stop (op a) line)) (went.Stopped (record { sync = op a; line = line })) walk walk
stops_with walk line o op a clean is =
    subst (λ o. Stepped (known line o (λ a. stop (op a) line)) (went.Stopped (record { sync = op a; line = line })) walk walk) (sym is)
    (refl, stays walk clean, refl)

pub stops_without : {A : Type 0} (walk : Walk) (line : ℕ) (o : Option A) (op : A → SyncOp) → walk.env.regs ≡ [] → o ≡ None
    → Stepped (known line o (λ a. stop (op a) line)) (went.Stopped (record { sync = sync.BadIndex; line = line })) walk walk
stops_without walk line o op clean is =
    subst (λ o. Stepped (known line o (λ a. stop (op a) line)) (went.Stopped (record { sync = sync.BadIndex; line = line })) walk walk)
    (sym is) (refl, stays walk clean, refl)

-- ways of bodies
tree_step : (s : Setting) (turns : ℕ) (p : Point)
    → tree_body s turns p ≡ follow p (step s p) (tree_body s turns) (after_turn (step s) size turns)
tree_step s turns p = body_step (step s) size (tree_sized s) turns p

pub goes_nowhere : (b : Body Point) (d : Data) → GoesOn b d b d
goes_nowhere b d = record { next = refl; at = refl; does = λ joined. refl }

pub goes_on : {b c d : Body Point} {x y z : Data} → GoesOn b x c y → GoesOn c y d z → GoesOn b x d z
goes_on first second =
    record { next = first.next ∙ second.next; at = first.at ∙ second.at; does = λ joined. first.does joined ∙ second.does joined }

goes_same : {b c : Body Point} {x y : Data} → b ≡ c → x ≡ y → GoesOn b x c y
goes_same {b} {c} {x} {y} same is =
    record {
      next = ap (λ b. b.next) same;
      at = ap (λ b. b.at) same;
      does = λ joined. ap (λ b. all_worked joined b.actions x) same
          ∙ ap (all_worked joined c.actions) is;
    }

pub keeps_on : {old middle new : Walk} → Keeps old middle → Keeps middle new → Keeps old new
keeps_on first second =
    record {
      program = second.program ∙ first.program;
      task = second.task ∙ first.task;
      registers = second.registers
          ∙ first.registers;
      feeds = second.feeds ∙ first.feeds;
      clean = second.clean;
    }

pub same_setting : (old new : Walk) → Keeps old new → setting_of new ≡ setting_of old
same_setting old new keeps =
    ap (λ program. record { program = program; feeds = new.env.feeds }) (ap (λ b. plain_program b.now.program) keeps.program)
    ∙ ap (λ feeds. record { program = plain_program old.program.now.program; feeds = feeds }) keeps.feeds

on_case : (s : Setting) (n : ℕ) (old new : Walk) (st : Step Point) → Stepped st went.On old new
    → GoesOn (follow (point_of old) st (tree_body s n) (after_turn (step s) size n)) old.data (tree_body s n (point_of new)) new.data
on_case s n old new (Silent q) is = goes_same (ap (tree_body s n) (sym is.0.at)) (sym is.1)
on_case s n old new (Act a q) is =
    let same = ap (tree_body s n) (sym is.0.at) in
    record {
      next = ap (λ b. b.next) same;
      at = ap (λ b. b.at) same;
      does =
          λ joined. ap (λ b. all_worked joined b.actions (recorded joined a old.data)) same
          ∙ ap (all_worked joined (tree_body s n (point_of new)).actions) (sym (is.1 joined));
    }
on_case s n old new (Iteration q) is = absurd is
on_case s n old new (Stop next) is = absurd is

on_keeps : (old new : Walk) (st : Step Point) → Stepped st went.On old new → Keeps old new
on_keeps old new (Silent q) is = is.0.keeps
on_keeps old new (Act a q) is = is.0.keeps
on_keeps old new (Iteration q) is = absurd is
on_keeps old new (Stop next) is = absurd is

on_less : (s : Setting) (old new : Walk) (st : Step Point) → step s (point_of old) ≡ st → Stepped st went.On old new
    → size (point_of new) < size (point_of old)
on_less s old new (Silent q) at is = subst (λ p. size p < size (point_of old)) (sym is.0.at) ((tree_sized s).silent (point_of old) q at)
on_less s old new (Act a q) at is = subst (λ p. size p < size (point_of old)) (sym is.0.at) ((tree_sized s).acts (point_of old) q a at)
on_less s old new (Iteration q) at is = absurd is
on_less s old new (Stop next) at is = absurd is

-- a step without a loop turn leaves less
pub step-less : (old new : Walk) → Stepped (step (setting_of old) (point_of old)) went.On old new
    → size (point_of new) < size (point_of old)
step-less old new is = on_less (setting_of old) old new (step (setting_of old) (point_of old)) refl is

pub came-nowhere : (walk : Walk) → walk.env.regs ≡ [] → Came walk walk
came-nowhere walk clean = record { by = λ turns. goes_nowhere _ _; keeps = (stays walk clean).keeps }

pub came-step : (start old new : Walk) → Came start old → Stepped (step (setting_of old) (point_of old)) went.On old new → Came start new
came-step start old new came is =
    record {
      by = λ turns. goes_on (came.by turns)
          (subst (λ s. GoesOn (tree_body s turns (point_of old)) old.data (tree_body s turns (point_of new)) new.data)
          (same_setting start old came.keeps)
          (subst (λ b. GoesOn b old.data (tree_body (setting_of old) turns (point_of new)) new.data)
          (sym (tree_step (setting_of old) turns (point_of old)))
          (on_case (setting_of old) turns old new (step (setting_of old) (point_of old)) is)));
      keeps = keeps_on came.keeps (on_keeps old new (step (setting_of old) (point_of old)) is);
    }

-- a step that halts changes nothing that a body sees
halt_leads : (st : Step Point) (r : Went) (old new : Walk) → Stepped st r old new → (r ≡ went.On → ⊥)
    → LeadsTo (point_of old) old new × (new.data ≡ old.data)
halt_leads (Silent q) went.On old new is halts = absurd (halts refl)
halt_leads (Act a q) went.On old new is halts = absurd (halts refl)
halt_leads (Iteration q) (went.Turned body) old new is halts = (is.1, is.2)
halt_leads (Stop next) (went.Stopped n) old new is halts = (is.1, is.2)
halt_leads (Silent q) (went.Turned body) old new is halts = absurd is
halt_leads (Silent q) (went.Stopped n) old new is halts = absurd is
halt_leads (Act a q) (went.Turned body) old new is halts = absurd is
halt_leads (Act a q) (went.Stopped n) old new is halts = absurd is
halt_leads (Iteration q) went.On old new is halts = absurd is
halt_leads (Iteration q) (went.Stopped n) old new is halts = absurd is
halt_leads (Stop next) went.On old new is halts = absurd is
halt_leads (Stop next) (went.Turned body) old new is halts = absurd is

halts_as : (st : Step Point) (r : Went) (old new : Walk) → Stepped st r old new → (r ≡ went.On → ⊥) → Halted st r new
halts_as (Silent q) went.On old new is halts = absurd (halts refl)
halts_as (Act a q) went.On old new is halts = absurd (halts refl)
halts_as (Iteration q) (went.Turned body) old new is halts = is.0
halts_as (Stop next) (went.Stopped n) old new is halts = is.0
halts_as (Silent q) (went.Turned body) old new is halts = absurd is
halts_as (Silent q) (went.Stopped n) old new is halts = absurd is
halts_as (Act a q) (went.Turned body) old new is halts = absurd is
halts_as (Act a q) (went.Stopped n) old new is halts = absurd is
halts_as (Iteration q) went.On old new is halts = absurd is
halts_as (Iteration q) (went.Stopped n) old new is halts = absurd is
halts_as (Stop next) went.On old new is halts = absurd is
halts_as (Stop next) (went.Turned body) old new is halts = absurd is

-- the last step of a stretch
pub came-halt : (start old new : Walk) (r : Went) → Came start old → Stepped (step (setting_of old) (point_of old)) r old new
    → (r ≡ went.On → ⊥) → Came start new
came-halt start old new r came is halts =
    let leads = halt_leads (step (setting_of old) (point_of old)) r old new is halts in
    record {
      by = λ turns. goes_on (came.by turns) (goes_same (ap (tree_body (setting_of start) turns) (sym leads.0.at)) (sym leads.1));
      keeps = keeps_on came.keeps leads.0.keeps;
    }

pub halted : (old new : Walk) (r : Went) → Stepped (step (setting_of old) (point_of old)) r old new → (r ≡ went.On → ⊥)
    → Halted (step (setting_of new) (point_of new)) r new
halted old new r is halts =
    let leads = halt_leads (step (setting_of old) (point_of old)) r old new is halts in
    subst (λ s. Halted (step s (point_of new)) r new) (sym (same_setting old new leads.0.keeps))
    (subst (λ p. Halted (step (setting_of old) p) r new) (sym leads.0.at)
    (halts_as (step (setting_of old) (point_of old)) r old new is halts))

stop_case : (s : Setting) (turns : ℕ) (next : Next) (walk : Walk) (st : Step Point) → Halted st (went.Stopped next) walk
    → follow (point_of walk) st (tree_body s turns) (after_turn (step s) size turns) ≡ stopped next (point_of walk)
stop_case s turns next walk (Stop n) is = ap (λ n. stopped n (point_of walk)) (sym is)
stop_case s turns next walk (Silent q) is = absurd is
stop_case s turns next walk (Act a q) is = absurd is
stop_case s turns next walk (Iteration q) is = absurd is

spent_case : (s : Setting) (body : _) (walk : Walk) (st : Step Point) → Halted st (went.Turned body) walk
    → follow (point_of walk) st (tree_body s zero) None ≡ stopped spent (point_of walk)
spent_case s body walk (Iteration q) is = refl
spent_case s body walk (Silent q) is = absurd is
spent_case s body walk (Act a q) is = absurd is
spent_case s body walk (Stop n) is = absurd is

turn_case : (s : Setting) (turns : ℕ) (body : _) (walk : Walk) (st : Step Point) → Halted st (went.Turned body) walk
    → follow (point_of walk) st (tree_body s (suc turns)) (Some (tree_body s turns))
    ≡ tree_body s turns (going (point_of walk) (plain_stmts body.now ++ left_of walk.left))
turn_case s turns body walk (Iteration q) is = ap (tree_body s turns) is
turn_case s turns body walk (Silent q) is = absurd is
turn_case s turns body walk (Act a q) is = absurd is
turn_case s turns body walk (Stop n) is = absurd is

-- so many turns are left of those that a body may take
pub record Runs (start now : Walk) (turns left : ℕ) : Type 0 where
  pub goes : GoesOn (tree_body (setting_of start) turns (point_of start)) start.data
      (tree_body (setting_of start) left (point_of now)) now.data
  pub keeps : Keeps start now

pub runs-start : (walk : Walk) (turns : ℕ) → walk.env.regs ≡ [] → Runs walk walk turns turns
runs-start walk turns clean = record { goes = goes_nowhere _ _; keeps = (stays walk clean).keeps }

came_goes : (start now new : Walk) (left : ℕ) → Keeps start now → Came now new
    → GoesOn (tree_body (setting_of start) left (point_of now)) now.data (tree_body (setting_of start) left (point_of new)) new.data
came_goes start now new left keeps came =
    subst (λ s. GoesOn (tree_body s left (point_of now)) now.data (tree_body s left (point_of new)) new.data)
    (same_setting start now keeps) (came.by left)

ran_from : {b c : Body Point} {start : Walk} (middle : Walk) {new : Walk} {next : Next} → GoesOn b start.data c middle.data → next ≡ c.next
    → point_of new ≡ c.at → ((joined : ℤ) → new.data ≡ all_worked joined c.actions middle.data) → Keeps start new → Ran b next start new
ran_from middle goes next at does keeps =
    record { next_is = next ∙ sym goes.next; at = at ∙ sym goes.at; does = λ joined. does joined ∙ sym (goes.does joined); keeps = keeps }

abbrev setting_now : Walk → Walk → Type 0
setting_now start new = setting_of new ≡ setting_of start

-- the run stops
pub runs-stop : (start now new : Walk) (turns left : ℕ) (next : Next) → Runs start now turns left → Came now new
    → Halted (step (setting_of new) (point_of new)) (went.Stopped next) new
    → Ran (tree_body (setting_of start) turns (point_of start)) next start new
runs-stop start now new turns left next runs came halts =
    let keeps = keeps_on runs.keeps came.keeps in
    let stops = subst (λ s. Halted (step s (point_of new)) (went.Stopped next) new) (same_setting start new keeps) halts in
    let body =
    tree_step (setting_of start) left (point_of new)
    ∙ stop_case (setting_of start) left next new (step (setting_of start) (point_of new)) stops in
    ran_from new (goes_on (goes_on runs.goes (came_goes start now new left runs.keeps came)) (goes_same body refl)) refl
    refl (λ joined. refl) keeps

-- its turns are spent
pub runs-spent : (start now new : Walk) (turns left : ℕ) (body : _) → Runs start now turns left → left ≡ zero → Came now new
    → Halted (step (setting_of new) (point_of new)) (went.Turned body) new
    → Ran (tree_body (setting_of start) turns (point_of start)) spent start new
runs-spent start now new turns left body runs none came halts =
    let keeps = keeps_on runs.keeps came.keeps in
    let turned = subst (λ s. Halted (step s (point_of new)) (went.Turned body) new) (same_setting start new keeps) halts in
    let last =
    ap (λ n. tree_body (setting_of start) n (point_of new)) none ∙ tree_step (setting_of start) zero (point_of new)
    ∙ spent_case (setting_of start) body new (step (setting_of start) (point_of new)) turned in
    ran_from new (goes_on (goes_on runs.goes (came_goes start now new left runs.keeps came)) (goes_same last refl)) refl
    refl (λ joined. refl) keeps

-- it takes a turn
pub runs-turn : (start now middle : Walk) (new : Left) (turns left less : ℕ) (body : _) → Runs start now turns left → left ≡ suc less
    → Came now middle → Halted (step (setting_of middle) (point_of middle)) (went.Turned body) middle
    → left_of new ≡ plain_stmts body.now ++ left_of middle.left → Runs start (with_left middle new) turns less
runs-turn start now middle new turns left less body runs more came halts entered =
    let keeps = keeps_on runs.keeps came.keeps in
    let turned = subst (λ s. Halted (step s (point_of middle)) (went.Turned body) middle) (same_setting start middle keeps) halts in
    let next =
    ap (λ n. tree_body (setting_of start) n (point_of middle)) more ∙ tree_step (setting_of start) (suc less) (point_of middle)
    ∙ turn_case (setting_of start) less body middle (step (setting_of start) (point_of middle)) turned
    ∙ ap (λ l. tree_body (setting_of start) less (going (point_of middle) l)) (sym entered) in
    record {
      goes = goes_on (goes_on runs.goes (came_goes start now middle left runs.keeps came)) (goes_same next refl);
      keeps = record { program = keeps.program; task = keeps.task; registers = keeps.registers; feeds = keeps.feeds; clean = keeps.clean };
    }

-- the same of a step that memory may refuse
pub at_first_ok : (old : Walk) (left : Left) (new : Walk) (same : left_of left ≡ left_of old.left) (s : CodeStmt) (w : What)
    (r : Result Went AllocError) → left_of left ≡ plain_stmt s ∷ rest_of left → plain_what s.what ≡ w
    → IfOk r (λ r. Stepped (step_at (setting_of old) s.line w (rest_of left) (point_of (with_left old left))) r (with_left old left) new)
    → IfOk r (λ r. Stepped (step (setting_of old) (point_of old)) r old new)
at_first_ok old left new same s w (Ok r) first is stepped = at_first old left new same s w r first is stepped
at_first_ok old left new same s w (Err e) first is stepped = stepped

-- and of a fork
pub at_fork : (old : Walk) (left : Left) (new : Walk) (same : left_of left ≡ left_of old.left) (s : CodeStmt) (t : Name) (es : List Expr)
    (into : Option Name) (r : Result Went AllocError) → left_of left ≡ plain_stmt s ∷ rest_of left
    → plain_what s.what ≡ Fork t es into
    → IfOk r (λ r. (into : Option Name) → Stepped
    (step_at (setting_of old) s.line (Fork t es into) (rest_of left) (point_of (with_left old left))) r (with_left old left) new)
    → IfOk r (λ r. Stepped (step (setting_of old) (point_of old)) r old new)
at_fork old left new same s t es into (Ok r) first is stepped = at_first old left new same s (Fork t es into) r first is (stepped into)
at_fork old left new same s t es into (Err e) first is stepped = stepped

pub not_on : (st : Step Point) (walk : Walk) → Halted st went.On walk → ⊥
not_on (Silent q) walk is = is
not_on (Act a q) walk is = is
not_on (Iteration q) walk is = is
not_on (Stop next) walk is = is

-- what a run asks is kept
pub record Asks (walk : Walk) : Type 0 where
  pub locks : cells_in (locks_of walk.program.now.program.heads) ≤ 65536
  pub records : cells_in (records_of walk.program.now.program.heads) ≤ 65536
  pub registers : walk.registers.now ≡ registers_of (plain_task walk.task.now)
  pub clean : walk.env.regs ≡ []

pub asks-on : (old new : Walk) → Asks old → Keeps old new → Asks new
asks-on old new asks keeps =
    record {
      locks = subst (λ b. cells_in (locks_of b.now.program.heads) ≤ 65536) (sym keeps.program) asks.locks;
      records = subst (λ b. cells_in (records_of b.now.program.heads) ≤ 65536) (sym keeps.program) asks.records;
      registers = ap (λ b. b.now) keeps.registers ∙ asks.registers ∙ ap (λ b. registers_of (plain_task b.now)) (sym keeps.task);
      clean = keeps.clean;
    }
