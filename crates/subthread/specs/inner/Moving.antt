-- What the control of a run does, step by step.
use Rattle.std.specs.Prelude.{◌≡◌, ℕ}
use Rattle.task_ast.specs.meaning.Body.{Step, Silent, Iteration, Act, Stop, Body}
use Rattle.task_ast.specs.declared.sync.Next.{Next}
use Rattle.task_code.specs.Reading.{Place, goto}
use Rattle.subthread.specs.declared.ground.Ground.{Ground}
use Rattle.subthread.specs.declared.ground.Went.{Went}
use Rattle.subthread.specs.declared.ground.Went.TheVariants as went
use Rattle.subthread.specs.declared.task.Work.{Work}

-- how one step led on, whatever its action did; a loop turn is only found, and not yet taken
abbrev pub Moved : Step Place → Went → (before after : Place) → Type 0
Moved (Silent r) went.On p q = r ≡ q
Moved (Act a r) went.On p q = r ≡ q
Moved (Iteration r) (went.Turned pc) p q = (r ≡ goto q pc) × (q ≡ p)
Moved (Stop next) (went.Stopped n) p q = (next ≡ n) × (q ≡ p)
Moved _ _ p q = ⊥

-- the control was led through this body to its end
pub record Led (b : Body Place) (next : Next) (at : Place) : Type 0 where
  pub next_is : next ≡ b.next
  pub at_is : at ≡ b.at

-- what the control of a thread in a task reads
pub record IsControlGround (work : Work) (task thread : ℕ) (ground : Ground) : Type 0 where
  pub code : ground.code.now ≡ work.code
  pub task_is : ground.task ≡ task
  pub feeds : ground.feeds.now ≡ work.feeds
  pub me : ground.me ≡ thread
