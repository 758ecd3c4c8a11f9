-- Each step of the code is a jump, or does what the step of the tree does. By cases on the statement in front. What
-- sets, locks, forks or acts is one instruction, which does the same or stops alike, since the values are the same
-- (Values); a loop or a branch is a jump by the same value.
use Rattle.std.proofs.Common.{◌≡◌, ℕ, zero, suc, ◌+◌, ◌-◌, List, [], ◌∷◌, ◌++◌, length, Option, Some, None, unwrap_or, option_map, refl, sym, ap, ◌∙◌, subst, inl, inr, arith, length-append}
use Rattle.std.specs.Prelude.{◌⊎◌, ℤ, pos, negsuc, position, slice_get, slice_set}
use Rattle.gp_base.specs.declared.feed.Inputs.{Inputs}
use Rattle.task_ast.specs.declared.sync.SyncOp.TheVariants as sync
use Rattle.task_ast.specs.declared.tree.Atom.{Atom}
use Rattle.task_ast.specs.meaning.Tree as tree
use Rattle.task_ast.specs.meaning.Tree.{Name, Expr, Stmt, What, Block, statements, TaskText, Program}
use Rattle.task_ast.specs.meaning.Names.{is_name, slot, locks_of, barriers_of, controls_of, registers_of, task_named, task_number}
use Rattle.task_ast.specs.Names.{seconds}
use Rattle.task_ast.specs.meaning.Value.{value, branch}
use Rattle.task_ast.specs.meaning.Body.{Step, Silent, Act}
use Rattle.task_ast.specs.meaning.Control.{Setting, Point, with_value, going, stop, known, env_at, lock_number, action, fork_named, step_at, step_from, step}
use Rattle.task_ast.specs.meaning.Plain.{setting_of}
use Rattle.task_ast.specs.laws.Following.{Matches, both_silent, both_turn, both_act, both_stop, IsFollowing}
use Rattle.task_ast.proofs.Slots.{sets_first}
use Rattle.lock_checker.specs.Cells.{cells_of}
use Rattle.task_code.specs.Instructions.{Instr, At, Does, Assign, GoOn, Unless, Again, Lock, Unlock, Fork, Join, Settle, Do}
use Rattle.task_code.specs.Reading.{Place, goto, halt, given_value, either, env_of, calc_value, cell_of, index_at, deed_action, fork_arguments, step_does, step_instr, instrs_of, code_step}
use Rattle.task_code.specs.Lowering.{Scope, barrier_code, if_code, while_code, calc, index, deed, forking, what_code, block_code, scope_of, lowered}
use Rattle.task_code.specs.Relation.{HasAt, Left, ends, stands, jumps, tests, Corresponds}
use Rattle.task_code.proofs.Values.{same_value, same_cell, same_action, same_fork}
use Rattle.task_code.proofs.Standing.{has_front, has_back, stands_block}

-- the number of a fork's task, whether or not it is there
pub forking_task : (s : Scope) (o : Option TaskText) (k : ℕ) (es : List Expr) (into : Option ℕ) → (forking s o k es into).task ≡ k
forking_task s None k es into = refl
forking_task s (Some task) k es into = refl

pub forking_into : (s : Scope) (o : Option TaskText) (k : ℕ) (es : List Expr) (into : Option ℕ) → (forking s o k es into).into ≡ into
forking_into s None k es into = refl
forking_into s (Some task) k es into = refl

module _ {R : Point → Place → Type 0} where
  known_on : {A : Type 0} (line : ℕ) (o : Option A) (f : A → Step Point) (g : A → Step Place) → ((v : A) → Matches R (f v) (g v))
      → Matches R (known line o f) (given_value line o g)
  known_on line None f g same = both_stop
  known_on line (Some v) f g same = same v

  known_same : {A : Type 0} (line : ℕ) (o p : Option A) (f : A → Step Point) (g : A → Step Place) → o ≡ p
      → ((v : A) → Matches R (f v) (g v)) → Matches R (known line o f) (given_value line p g)
  known_same line o p f g is same = subst (λ x. Matches R (known line o f) (given_value line x g)) is (known_on line o f g same)

  branch_same : (v : ℤ) (a b : Step Point) (x y : Step Place) → Matches R a x → Matches R b y → Matches R (branch v a b) (either v x y)
  branch_same (pos zero) a b x y first second = second
  branch_same (pos (suc n)) a b x y first second = first
  branch_same (negsuc n) a b x y first second = first

module _ (program : Program) (inputs : Inputs) (p : Point) (q : Place) (r : Corresponds program p q) where
  abbrev s : Setting
  s = setting_of program inputs

  abbrev sc : Scope
  sc = scope_of program p.task

  abbrev tasks : List (List Instr)
  tasks = (lowered program).tasks

  abbrev all : List Instr
  all = instrs_of (lowered program).tasks q.at.task

  abbrev R : Point → Place → Type 0
  R = Corresponds program

  -- the same variables, at other places
  pub at_left : (pc : ℕ) (left : List Stmt) → Left sc all pc left → R (going p left) (goto q pc)
  at_left pc left is = record { task = r.task; left = is; names = r.names; values = r.values; me = r.me }

  -- the same with a control variable set
  pub at_set : (pc : ℕ) (left : List Stmt) (x : Name) (v : ℤ) → Left sc all pc left
      → R (record p { left = left; names = with_value p.names x v })
      (record (goto q pc) { ctl = slice_set q.ctl (slot (controls_of p.task) x) v })
  at_set pc left x v is =
      record {
        task = r.task;
        left = is;
        names = (sets_first p.names x v).0 ∙ r.names;
        values =
            ap (λ l. slice_set l (slot (controls_of p.task) x) v) r.values
            ∙ ap (λ l. slice_set (seconds p.names) (slot l x) v) (sym r.names) ∙ sym (sets_first p.names x v).1;
        me = r.me;
      }

  value_same : (e : Expr) → value e (env_at s p) ≡ calc_value (calc sc e) (env_of inputs.feeds q)
  value_same e = same_value program inputs.feeds (controls_of p.task) (registers_of p.task) p.names q.ctl p.me q.me r.names r.values r.me e

  cell_same : (a : Name) (i : Atom)
      → lock_number s a i (env_at s p) ≡ cell_of (cells_of (locks_of program.heads) a) (index_at (index sc i) q.ctl)
  cell_same a i =
      same_cell program inputs.feeds (controls_of p.task) (registers_of p.task) p.names q.ctl p.me q.me r.names r.values r.me
      (locks_of program.heads) a i

  pub fork_same : (t : Name) (es : List Expr) (k : ℕ) (into : Option ℕ)
      → fork_named s t es p ≡ fork_arguments (forking sc (task_named program t) k es into) (env_of inputs.feeds q)
  fork_same t es k into =
      same_fork program inputs.feeds (controls_of p.task) (registers_of p.task) p.names q.ctl p.me q.me r.names r.values r.me
      (task_named program t) k es into

  at_instr : (line : ℕ) (d : Does) (st : Step Point) → slice_get all q.at.pc ≡ Some (At line d)
      → Matches R st (step_does inputs.feeds line d q) → Matches R st (code_step tasks inputs.feeds q)
  at_instr line d st is same = subst (λ o. Matches R st (step_instr inputs.feeds o q)) (sym is) same

  abbrev Jumps : List Stmt → Type 0
  Jumps left = (q' : Place) × (code_step tasks inputs.feeds q ≡ Silent q') × R (going p left) q'

  jump_on : (line n : ℕ) (left : List Stmt) → slice_get all q.at.pc ≡ Some (At line (GoOn n)) → Left sc all (q.at.pc + 1 + n) left
      → Jumps left
  jump_on line n left is on = (goto q (q.at.pc + 1 + n), ap (λ o. step_instr inputs.feeds o q) is, at_left (q.at.pc + 1 + n) left on)

  test_same : (line : ℕ) (e : Expr) (b : Block) (rest : List Stmt) (pc : ℕ) → HasAt all pc (block_code sc b)
      → q.at.pc ≡ pc + length (block_code sc b)
      → slice_get all q.at.pc ≡ Some (At line (Again (calc sc e) (length (block_code sc b)))) → Left sc all (q.at.pc + 1) rest
      → Left sc all q.at.pc (tree.At line (tree.While e b) ∷ rest)
      → Matches R (step_at s line (tree.While e b) rest p) (code_step tasks inputs.feeds q)
  test_same line e b rest pc has at is after here =
      let n = length (block_code sc b) in
      let back : q.at.pc - n ≡ pc = omega arith in
      let again =
      stands_block sc all b pc (tree.At line (tree.While e b) ∷ rest) has
      (subst (λ k. Left sc all k (tree.At line (tree.While e b) ∷ rest)) at here) in
      at_instr line (Again (calc sc e) n) _ is
      (known_same line (value e (env_at s p)) (calc_value (calc sc e) (env_of inputs.feeds q)) _ _ (value_same e)
      (λ v. branch_same v _ _ _ _
      (both_turn (at_left (q.at.pc - n) _ (subst
      (λ k. Left sc all k (statements b ++ (tree.At line (tree.While e b) ∷ rest))) (sym back) again)))
      (both_silent (at_left (q.at.pc + 1) rest after))))

  act_same : (line : ℕ) (w : What) (rest : List Stmt) → slice_get all q.at.pc ≡ Some (At line (Do (deed sc w)))
      → Left sc all (q.at.pc + 1) rest
      → Matches R (known line (action s (registers_of p.task) w (env_at s p)) (λ a. Act a (going p rest))) (code_step tasks inputs.feeds q)
  act_same line w rest is after =
      at_instr line (Do (deed sc w)) _ is
      (known_same line (action s (registers_of p.task) w (env_at s p)) (deed_action (deed sc w) (env_of inputs.feeds q)) _ _
      (same_action program inputs.feeds (controls_of p.task) (registers_of p.task) p.names q.ctl p.me q.me r.names r.values r.me w)
      (λ a. both_act (at_left (q.at.pc + 1) rest after)))

  barrier_same : (line : ℕ) (o : Option ℕ)
      → Matches R (known line o (λ n. stop (sync.Barrier n) line)) (step_does inputs.feeds line (barrier_code o) q)
  barrier_same line None = both_stop
  barrier_same line (Some b) = both_stop

  abbrev Goes : Step Point → List Stmt → Type 0
  Goes st left = Jumps left ⊎ Matches R st (code_step tasks inputs.feeds q)

  at_statement : (line : ℕ) (w : What) (rest : List Stmt) → HasAt all q.at.pc (what_code sc line w)
      → Left sc all (q.at.pc + length (what_code sc line w)) rest
      → Goes (step_at s line w rest p) (tree.At line w ∷ rest)
  at_statement line (tree.SetCtl x e) rest has after =
      inr (at_instr line (Assign (slot (controls_of p.task) x) (calc sc e)) _ has.0
      (known_same line (value e (env_at s p)) (calc_value (calc sc e) (env_of inputs.feeds q)) _ _ (value_same e)
      (λ v. both_silent (at_set (q.at.pc + 1) rest x v after))))
  at_statement line (tree.While e b) rest has after =
      let d = block_code sc b in
      let test = At line (Again (calc sc e) (length d)) in
      let len : q.at.pc + length (while_code line (calc sc e) d) ≡ q.at.pc + 1 + length d + 1 =
      omega (arith, length-append d (test ∷ [])) in
      inl (jump_on line (length d) (tree.At line (tree.While e b) ∷ rest) has.0
      (tests (q.at.pc + 1) line e b rest (has_front all (q.at.pc + 1) d (test ∷ []) has.1)
      (has_back all (q.at.pc + 1) d (test ∷ []) has.1).0 (subst (λ k. Left sc all k rest) len after)))
  at_statement line (tree.If e a b) rest has after =
      let c = block_code sc a in
      let d = block_code sc b in
      let over = At line (GoOn (length d)) in
      let back = has_back all (q.at.pc + 1) c (over ∷ d) has.1 in
      let len : q.at.pc + length (if_code line (calc sc e) c d) ≡ q.at.pc + 1 + length c + 1 + length d =
      omega (arith, length-append c (over ∷ d)) in
      let end = subst (λ k. Left sc all k rest) len after in
      let past : q.at.pc + 1 + length c + 1 ≡ q.at.pc + 1 + (length c + 1) = omega arith in
      let first =
      stands_block sc all a (q.at.pc + 1) rest (has_front all (q.at.pc + 1) c (over ∷ d) has.1)
      (jumps (q.at.pc + 1 + length c) line (length d) rest back.0 end) in
      let second = stands_block sc all b (q.at.pc + 1 + length c + 1) rest back.1 end in
      inr (at_instr line (Unless (calc sc e) (length c + 1)) _ has.0
      (known_same line (value e (env_at s p)) (calc_value (calc sc e) (env_of inputs.feeds q)) _ _ (value_same e)
      (λ v. branch_same v _ _ _ _
      (both_silent (at_left (q.at.pc + 1) _ first))
      (both_silent (at_left (q.at.pc + 1 + (length c + 1)) _ (subst (λ k. Left sc all k (statements b ++ rest)) past second))))))
  at_statement line (tree.Lock a i) rest has after =
      inr (at_instr line (Lock (cells_of (locks_of program.heads) a) (index sc i)) _ has.0
      (known_same line (lock_number s a i (env_at s p)) (cell_of (cells_of (locks_of program.heads) a) (index_at (index sc i) q.ctl)) _ _
      (cell_same a i) (λ l. both_stop)))
  at_statement line (tree.Unlock a i) rest has after =
      inr (at_instr line (Unlock (cells_of (locks_of program.heads) a) (index sc i)) _ has.0
      (known_same line (lock_number s a i (env_at s p)) (cell_of (cells_of (locks_of program.heads) a) (index_at (index sc i) q.ctl)) _ _
      (cell_same a i) (λ l. both_stop)))
  at_statement line (tree.Fork t es x) rest has after =
      let k = unwrap_or (task_number program t) 0 in
      let into = option_map (slot (controls_of p.task)) x in
      let f = forking sc (task_named program t) k es into in
      inr (at_instr line (Fork f) _ has.0
      (known_same line (fork_named s t es p) (fork_arguments f (env_of inputs.feeds q)) _ _ (fork_same t es k into)
      (λ arguments. subst (λ n. Matches R (stop (sync.Fork k arguments.0) line) (halt (sync.Fork n arguments.0) line))
      (sym (forking_task sc (task_named program t) k es into)) both_stop)))
  at_statement line (tree.Join e x) rest has after =
      inr (at_instr line (Join (calc sc e) (option_map (slot (registers_of p.task)) x)) _ has.0
      (known_same line (value e (env_at s p)) (calc_value (calc sc e) (env_of inputs.feeds q)) _ _ (value_same e) (λ h. both_stop)))
  at_statement line (tree.Barrier b) rest has after =
      let o = position (λ other. is_name b other.0) (barriers_of program.heads) in
      inr (at_instr line (barrier_code o) _ has.0 (barrier_same line o))
  at_statement line (tree.Settle x c) rest has after =
      inr (at_instr line (Settle (slot (registers_of p.task) x) (slot (controls_of p.task) c)) _ has.0
      (subst (λ names. Matches R (stop (sync.Settle (slot (registers_of p.task) x) (slot names c)) line)
      (halt (sync.Settle (slot (registers_of p.task) x) (slot (controls_of p.task) c)) line)) (sym r.names) both_stop))
  at_statement line (tree.SetReg x e) rest has after = inr (act_same line (tree.SetReg x e) rest has.0 after)
  at_statement line (tree.Read a i x) rest has after = inr (act_same line (tree.Read a i x) rest has.0 after)
  at_statement line (tree.Write a i e) rest has after = inr (act_same line (tree.Write a i e) rest has.0 after)
  at_statement line (tree.Print es) rest has after = inr (act_same line (tree.Print es) rest has.0 after)
  at_statement line (tree.When e a b) rest has after = inr (act_same line (tree.When e a b) rest has.0 after)

  at_place : (pc : ℕ) (left : List Stmt) → pc ≡ q.at.pc → Left sc all pc left → Goes (step_from s left p) left
  at_place pc' left' at (ends pc none) =
      inr (subst (λ o. Matches R (stop sync.End 0) (step_instr inputs.feeds o q)) (sym (ap (slice_get all) (sym at) ∙ none)) both_stop)
  at_place pc' left' at (jumps pc line n left is on) =
      inl (jump_on line n left (ap (slice_get all) (sym at) ∙ is) (subst (λ k. Left sc all (k + 1 + n) left) at on))
  at_place pc' left' at (stands pc line w rest has after) =
      at_statement line w rest (subst (λ k. HasAt all k (what_code sc line w)) at has)
      (subst (λ k. Left sc all (k + length (what_code sc line w)) rest) at after)
  at_place pc' left' at (tests pc line e b rest has is after) =
      inr (test_same line e b rest pc has (sym at) (ap (slice_get all) (sym at) ∙ is) (subst (λ k. Left sc all (k + 1) rest) at after)
      (subst (λ k. Left sc all k (tree.At line (tree.While e b) ∷ rest)) at (tests pc line e b rest has is after)))

pub following : (program : Program) (inputs : Inputs)
    → IsFollowing (Corresponds program) (step (setting_of program inputs)) (code_step (lowered program).tasks inputs.feeds)
following program inputs p q r = at_place program inputs p q r q.at.pc p.left refl r.left
