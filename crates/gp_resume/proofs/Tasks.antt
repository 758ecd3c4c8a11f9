-- The task of a subthread that begins: it fits, and its run leaves what the subthread leaves.
use Rattle.std.proofs.Common.{◌≡◌, ◌≢◌, inl, inr, ℕ, ◌+◌, ◌<◌, ◌≤◌, List, length, option_map, Contains, Option, Some, None, refl, sym, ap, ◌∙◌, subst, arith}
use Rattle.std.specs.Prelude.{ℤ, pos, negsuc, All, slice_get, slice_set}
use Rattle.std.specs.List.Sorted.{IsStrictlyIncreasing}
use Rattle.std.proofs.lemmas.Bool.{cases_eq}
use Rattle.std.proofs.lemmas.List.Elements.{All-contains}
use Rattle.task_ast.specs.declared.sync.Next.{Next}
use Rattle.task_ast.specs.declared.sync.SyncOp.{SyncOp}
use Rattle.task_ast.specs.declared.sync.SyncOp.TheVariants as sync
use Rattle.task_ast.specs.meaning.Tree.{Program}
use Rattle.task_ast.specs.meaning.Body.{Body}
use Rattle.task_ast.specs.meaning.Control.{Point}
use Rattle.task_ast.specs.meaning.Table.{owned_from}
use Rattle.task_ast.specs.Table.{Table}
use Rattle.task_ast.specs.meaning.Turn.{child_of}
use Rattle.task_ast.specs.laws.Following.{Agrees, Follows}
use Rattle.task_ast.specs.laws.Threads.{MayBegin, with_child}
use Rattle.task_ast.specs.meaning.Plain.{Subthread}
use Rattle.task_ast.specs.Plain.{Plain, Machine, tree_machine}
use Rattle.task_ast.specs.Position.{body_by, from_in, IsStep}
use Rattle.task_ast.specs.Reached.{Reached}
use Rattle.task_ast.proofs.IssuedTables.{get_set_here, get_set_other}
use Rattle.task_ast.proofs.PlainSteps.{begins_of, begins_inside, is_step}
use Rattle.task_ast.proofs.SeatLimits.{most_threads_law}
use Rattle.task_code.specs.Reading.{Place}
use Rattle.task_code.specs.Relation.{Rests}
use Rattle.record_store.specs.Stored.{Stored, FitsChild, IsAtHome}
use Rattle.subthread.specs.declared.task.Task.{Task}
use Rattle.task_ast.specs.SyncOps.{IsNumbered}
use Rattle.subthread.specs.Tasks.{program_in, machine_of, place_of, body_from}
use Rattle.subthread.proofs.HeldLocks.{owned_below, owned_increasing}
use Rattle.gp_resume.specs.declared.course.ResumePlan.{ResumePlan}
use Rattle.gp_resume.specs.declared.course.Spot.{Spot}
use Rattle.gp_resume.specs.declared.course.Begun.{Begun}
use Rattle.gp_resume.specs.declared.course.Course.{Course}
use Rattle.gp_resume.specs.inner.Course.{IsSuited, AreNumbered, Begins}
use Rattle.gp_resume.specs.inner.Handed.{task_begun}
use Rattle.gp_resume.proofs.Lendings.{each-home}
use Rattle.gp_resume.proofs.TurnsTaken.{follows-code}

-- a join that may begin names a thread that is there, and of these there are few
pub joins-numbered : (table : Table) (op : SyncOp) → Reached table → MayBegin table op → IsNumbered op
joins-numbered table (sync.Join (pos h)) reached may =
    let most = most_threads_law table reached in let low = may.0 in omega arith
joins-numbered table (sync.Join (negsuc h)) reached may = tt
joins-numbered table sync.Start reached may = tt
joins-numbered table (sync.Lock l) reached may = tt
joins-numbered table (sync.Unlock l) reached may = tt
joins-numbered table (sync.Fork k es) reached may = tt
joins-numbered table (sync.Barrier b) reached may = tt
joins-numbered table (sync.Settle register control) reached may = tt
joins-numbered table sync.End reached may = tt
joins-numbered table sync.BadIndex reached may = tt
joins-numbered table sync.Spent reached may = tt

-- a child is the next thread
pub child-next : (op : SyncOp) (n c : ℕ) → child_of op n ≡ Some c → (c ≡ n) × (n < with_child (child_of op n) n)
child-next (sync.Fork k es) n c is = let same : n ≡ c = cc is in (sym same, omega arith)
child-next sync.Start n c is = absurd (cc is)
child-next (sync.Lock l) n c is = absurd (cc is)
child-next (sync.Unlock l) n c is = absurd (cc is)
child-next (sync.Join h) n c is = absurd (cc is)
child-next (sync.Barrier b) n c is = absurd (cc is)
child-next (sync.Settle register control) n c is = absurd (cc is)
child-next sync.End n c is = absurd (cc is)
child-next sync.BadIndex n c is = absurd (cc is)
child-next sync.Spent n c is = absurd (cc is)

pub child-fits : (n t : ℕ) (child : Option ℕ) (regs : List ℤ) → ((c : ℕ) → child ≡ Some c → (c < n) × (c ≢ t))
    → FitsChild n t (option_map (λ c. (c, regs)) child)
child-fits n t None regs there = tt
child-fits n t (Some c) regs there = there c refl

-- a table with no fewer threads after a subthread
pub no-fewer : (child : Option ℕ) (n : ℕ) → n ≤ with_child child n
no-fewer None n = omega arith
no-fewer (Some c) n = omega arith

-- each spot has the number of its thread still, where one is set
pub numbered-set : (plan : ResumePlan) (spots : List Spot) (at : ℕ) (spot : Spot) → spot.me ≡ at → at < length spots → AreNumbered plan spots
    → AreNumbered plan (slice_set spots at spot)
numbered-set plan spots at spot mine less numbered t found there =
    elim (cases_eq t at) [
      | inl same ↦
          let here = sym there ∙ (ap (slice_get (slice_set spots at spot)) same ∙ get_set_here spots at spot less) in
          let is : found ≡ spot = cc here in
          ap (λ (one : Spot). one.me) is ∙ (mine ∙ sym same)
      | inr differ ↦ numbered t found (sym (get_set_other spots at t spot differ) ∙ there)
    ]

module _ (plan : ResumePlan) (suits : IsSuited plan) (x : Plain) (s : Subthread) (y : Plain) (begun : Begun) (course : Course)
    (begins : Begins plan x s y begun course) where
  abbrev program : Program
  program = program_in plan.work.now

  abbrev tree : Machine Point
  tree = tree_machine (program_in plan.work.now) plan.inputs.value plan.limits

  abbrev code : Machine Place
  code = machine_of plan.work.now

  abbrev store : Stored
  store = course.store

  abbrev task : Task
  task = task_begun course.store begun

  step : IsStep tree x s y
  step = is_step tree x begins.before.locks.points s y (begins_of tree x s y begins.moves)

  follows : Follows (Rests program) tree code
  follows = follows-code plan suits

  abbrev point : Point
  point = from_in (program_in plan.work.now) plan.inputs.value plan.limits x s.begins.sync s.thread

  from : Rests program s.begins.sync point (place_of task)
  from =
      subst (Rests program s.begins.sync point)
      (λ i. record { at = begun.spot.at; ctl = begun.spot.ctl; me = (begins.me ∙ sym begins.thread) i }) begins.from

  abbrev here : Body Place
  here =
      (machine_of plan.work.now).bodies
      ((machine_of plan.work.now).begins s.begins.sync s.child (place_of (task_begun course.store begun)))

  abbrev body : Body Point
  body = body_by (tree_machine (program_in plan.work.now) plan.inputs.value plan.limits) x s

  agrees : Agrees (Rests program body.next.sync) body here
  agrees = follows.bodies s.begins.sync s.child point (place_of task) from

  body-is : body_from plan.work.now task.begins.sync task.child (place_of task) ≡ here
  body-is = λ i. code.bodies (code.begins (begins.begins i).sync (begins.child i) (place_of task))

  pub numbered : IsNumbered begun.begins.sync
  numbered =
      subst (λ (next : Next). IsNumbered next.sync) (sym begins.begins)
      (joins-numbered x.table s.begins.sync begins.before.reached step.may)

  pub rising : IsStrictlyIncreasing begun.held
  rising = subst IsStrictlyIncreasing (sym (begins.held ∙ step.held)) (owned_increasing y.table.owners s.thread)

  pub at-home : All (IsAtHome course.store) begun.held
  at-home =
      each-home store begun.held begins.home.home
      (λ l holds.
      let below = All-contains (λ l. l < 0 + length y.table.owners) (owned_from 0 y.table.owners s.thread) l
      (owned_below 0 y.table.owners s.thread) (subst (λ held. Contains held l) (begins.held ∙ step.held) holds) in
      let owners = begins.after.locks.owners in
      let locks = begins.home.locks in
      omega arith)

  -- where its control leads
  pub begun-next :
      (body_from plan.work.now begun.begins.sync begun.child (record { at = begun.spot.at; ctl = begun.spot.ctl; me = begun.thread })).next
      ≡ (body_by (tree_machine (program_in plan.work.now) plan.inputs.value plan.limits) x s).next
  begun-next = ap (λ (b : Body Place). b.next) body-is ∙ sym agrees.next

  pub begun-rests : Rests (program_in plan.work.now)
      (body_by (tree_machine (program_in plan.work.now) plan.inputs.value plan.limits) x s).next.sync
      (body_by (tree_machine (program_in plan.work.now) plan.inputs.value plan.limits) x s).at
      (body_from plan.work.now begun.begins.sync begun.child (record { at = begun.spot.at; ctl = begun.spot.ctl; me = begun.thread })).at
  begun-rests = subst (Rests program body.next.sync body.at) (sym (ap (λ (b : Body Place). b.at) body-is)) agrees.at

  -- its thread and its child are there
  pub begun-thread : begun.thread < length course.store.threads
  begun-thread =
      let same : begun.thread ≡ s.thread = begins.thread in
      let threads = begins.home.threads in
      let more = no-fewer s.child (length x.table.seats) in
      let many = step.threads in
      let low = begins_inside tree (begins_of tree x s y begins.moves) in
      omega arith

  pub begun-child : (regs : List ℤ) → FitsChild (length course.store.threads) begun.thread (option_map (λ c. (c, regs)) begun.child)
  begun-child regs =
      rw (begins.thread, begins.child)
      (child-fits (length store.threads) s.thread s.child regs
      (λ c is.
      let next = child-next s.begins.sync (length x.table.seats) c (sym step.child ∙ is) in
      let first = next.0 in
      let less = next.1 in
      let many = step.threads ∙ ap (λ child. with_child child (length x.table.seats)) step.child in
      let threads = begins.home.threads in
      let low = begins_inside tree (begins_of tree x s y begins.moves) in
      (omega arith, λ same. omega arith)))
