-- Which points of the tree and which places of the code stand for each other.
use Rattle.std.specs.Prelude.{◌≡◌, ⊤, ◌⊎◌, ℕ, ℤ, ◌+◌, List, [], ◌∷◌, Option, Some, None, slice_get, length, map}
use Rattle.gp_base.specs.declared.limits.Limits.{Limits}
use Rattle.gp_base.specs.declared.feed.Inputs.{Inputs}
use Rattle.task_ast.specs.declared.sync.SyncOp.{SyncOp}
use Rattle.task_ast.specs.declared.sync.SyncOp.TheVariants as sync
use Rattle.task_ast.specs.meaning.Tree as tree
use Rattle.task_ast.specs.meaning.Tree.{Stmt, What, While, Expr, Block, TaskText, Program}
use Rattle.task_ast.specs.meaning.Names.{controls_of}
use Rattle.task_ast.specs.Names.{seconds}
use Rattle.task_ast.specs.meaning.Control.{Point, beginning, first_actions, step, tree_body}
use Rattle.task_ast.specs.meaning.Plain.{setting_of, task_at, start_point}
use Rattle.task_ast.specs.Plain.{tree_machine}
use Rattle.task_ast.specs.laws.Following.{IsFollowing, Agrees, Follows, IsSameRun}
use Rattle.task_code.specs.Instructions.{Instr, At, GoOn, Again}
use Rattle.task_code.specs.Lowering.{Scope, calc, what_code, block_code, scope_of, lowered}
use Rattle.task_code.specs.Reading.{Place, instrs_of, instr_at, code_begins, code_first, code_step, code_body, start_place, code_machine}

-- the instructions stand in the code from this number on
abbrev pub HasAt : List Instr → ℕ → List Instr → Type 0
HasAt code pc [] = ⊤
HasAt code pc (i ∷ is) = (slice_get code pc ≡ Some i) × HasAt code (pc + 1) is

module _ (s : Scope) (code : List Instr) where
  -- the code from this number on does these statements, and then the task ends
  pub data Left : (pc : ℕ) → List Stmt → Type 0 where
    ends : (pc : ℕ) → slice_get code pc ≡ None → Left pc []
    stands : (pc line : ℕ) (w : What) (rest : List Stmt) → HasAt code pc (what_code s line w) → Left (pc + length (what_code s line w)) rest
        → Left pc (tree.At line w ∷ rest)
    jumps : (pc line n : ℕ) (left : List Stmt) → slice_get code pc ≡ Some (At line (GoOn n)) → Left (pc + 1 + n) left → Left pc left
    tests : (pc line : ℕ) (e : Expr) (b : Block) (rest : List Stmt) → HasAt code pc (block_code s b)
        → slice_get code (pc + length (block_code s b)) ≡ Some (At line (Again (calc s e) (length (block_code s b))))
        → Left (pc + length (block_code s b) + 1) rest → Left (pc + length (block_code s b)) (tree.At line (While e b) ∷ rest)

-- the point and the place are of one task and one thread, the code from the place on does the statements left, and the control
-- variables have the same values
pub record Corresponds (program : Program) (p : Point) (q : Place) : Type 0 where
  pub task : p.task ≡ task_at program q.at.task
  pub left : Left (scope_of program p.task) (instrs_of (lowered program).tasks q.at.task) q.at.pc p.left
  pub names : map (λ n. n.0) p.names ≡ controls_of p.task
  pub values : q.ctl ≡ seconds p.names
  pub me : q.me ≡ p.me

-- the instruction is not a jump
abbrev pub IsNoJump : Option Instr → Type 0
IsNoJump (Some (At line (GoOn n))) = ⊥
IsNoJump _ = ⊤

-- the place is a start, or where a body stopped
abbrev pub IsStopped : Program → SyncOp → Place → Type 0
IsStopped program op q = (op ≡ sync.Start) ⊎ IsNoJump (instr_at (lowered program).tasks q q.at.pc)

-- the point and the place stand for each other before a subthread that begins so
pub record Rests (program : Program) (op : SyncOp) (p : Point) (q : Place) : Type 0 where
  pub corresponds : Corresponds program p q
  pub stopped : IsStopped program op q

-- each step of the code is a jump alone, or does what the step of the tree does
abbrev pub StepLaw : Type 0
StepLaw =
    (program : Program) (inputs : Inputs)
    → IsFollowing (Corresponds program) (step (setting_of program inputs)) (code_step (lowered program).tasks inputs.feeds)

-- the bodies of a point and a place that correspond are equal: the same actions, the same next synchronisation, and ends that stand for
-- each other
abbrev pub BodiesLaw : Type 0
BodiesLaw =
    (program : Program) (inputs : Inputs) (turns : ℕ) (p : Point) (q : Place) → Corresponds program p q
    → Agrees (Rests program (tree_body (setting_of program inputs) turns p).next.sync) (tree_body (setting_of program inputs) turns p)
    (code_body (lowered program).tasks inputs.feeds turns q)

-- subthreads begin at points and places that correspond, with the same actions
abbrev pub BeginsLaw : Type 0
BeginsLaw =
    (program : Program) (inputs : Inputs) (op : SyncOp) (child : Option ℕ) (p : Point) (q : Place) → Rests program op p q
    → Corresponds program (beginning op child p) (code_begins (lowered program).tasks op child q)
    × (first_actions (setting_of program inputs) op p ≡ code_first (lowered program).tasks inputs.feeds op q)

-- a thread starts at a point and a place that correspond
abbrev pub StartsLaw : Type 0
StartsLaw =
    (program : Program) (task thread : ℕ) (arguments : List ℤ)
    → Corresponds program (start_point (task_at program task) thread arguments) (start_place program task thread arguments)

-- the machine of the code follows that of the tree
abbrev pub FollowsLaw : Type 0
FollowsLaw =
    (program : Program) (inputs : Inputs) (limits : Limits)
    → Follows (Rests program) (tree_machine program inputs limits) (code_machine (lowered program) inputs.feeds limits.turns)

-- the plain run on the code of a program is the plain run on its tree: the same order and end, and before each position the same
-- table and state, and points and places that stand for each other, thread by thread
abbrev pub RunLaw : Type 0
RunLaw =
    (program : Program) (inputs : Inputs) (limits : Limits)
    → IsSameRun (Rests program) (tree_machine program inputs limits)
    (code_machine (lowered program) inputs.feeds limits.turns) program inputs limits
