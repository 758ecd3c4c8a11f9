-- Subthreads begin alike on the tree and in code, and tasks start alike. By cases on what the subthread begins with:
-- the statement in front is one instruction, which is passed, with the same actions on both sides. Tasks start alike
-- since the lists of names from which the code takes its numbers are the lists of the tree's variables.
use Rattle.std.proofs.Common.{◌≡◌, ℕ, zero, suc, ◌+◌, List, [], ◌∷◌, ◌++◌, map, length, Option, Some, None, unwrap_or, option_map, refl, sym, ap, ◌∙◌, subst, inl, inr, arith, length-append}
use Rattle.std.specs.Prelude.{⊤, ℤ, pos, position, slice_get}
use Rattle.gp_base.specs.declared.feed.Inputs.{Inputs}
use Rattle.task_ast.specs.declared.sync.SyncOp.{SyncOp}
use Rattle.task_ast.specs.declared.sync.SyncOp.TheVariants as sync
use Rattle.task_ast.specs.declared.tree.Param.{Param}
use Rattle.task_ast.specs.declared.tree.Param.TheVariants as param
use Rattle.task_ast.specs.meaning.Tree as tree
use Rattle.task_ast.specs.meaning.Tree.{Name, Expr, Stmt, What, statements, TaskText, Program}
use Rattle.task_ast.specs.meaning.Names.{is_name, slot, barriers_of, controls, declared_in, controls_of, task_named, task_number}
use Rattle.task_ast.specs.meaning.Control.{Setting, Point, going, begin_actions, behind, beginning, first_actions}
use Rattle.task_ast.specs.meaning.Plain.{no_task, task_at, given, setting_of, start_point}
use Rattle.task_code.specs.Instructions.{Instr, At, GoOn, Unless}
use Rattle.task_code.specs.Reading.{Place, goto, next_place, with_child, passed, instrs_of, instr_at, code_begins, code_first, start_place}
use Rattle.task_code.specs.Reading as code
use Rattle.task_code.specs.Lowering.{Scope, if_code, barrier_code, calc, what_code, block_code, task_code, scope_of, lowered}
use Rattle.task_code.specs.Relation.{HasAt, Left, ends, stands, jumps, tests, Corresponds, IsNoJump, IsStopped}
use Rattle.task_code.proofs.Standing.{has_back, begins_block}
use Rattle.task_code.proofs.Following.{forking_into, at_left, at_set, fork_same}

abbrev IsNoFork : What → Type 0
IsNoFork (tree.Fork t es x) = ⊥
IsNoFork w = ⊤

-- after a statement that is no fork, the child's number matters nothing
unforked : (child : Option ℕ) (p : Point) (line : ℕ) (w : What) (rest : List Stmt) → IsNoFork w
    → going p rest ≡ behind child p (tree.At line w ∷ rest)
unforked None p line w rest still = refl
unforked (Some c) p line (tree.SetCtl x e) rest still = refl
unforked (Some c) p line (tree.While e b) rest still = refl
unforked (Some c) p line (tree.If e a b) rest still = refl
unforked (Some c) p line (tree.Lock a i) rest still = refl
unforked (Some c) p line (tree.Unlock a i) rest still = refl
unforked (Some c) p line (tree.Fork t es x) rest still = absurd still
unforked (Some c) p line (tree.Join e x) rest still = refl
unforked (Some c) p line (tree.Barrier b) rest still = refl
unforked (Some c) p line (tree.Settle x k) rest still = refl
unforked (Some c) p line (tree.SetReg x e) rest still = refl
unforked (Some c) p line (tree.Read r i x) rest still = refl
unforked (Some c) p line (tree.Write r i e) rest still = refl
unforked (Some c) p line (tree.Print es) rest still = refl
unforked (Some c) p line (tree.When e a b) rest still = refl

module _ (program : Program) (inputs : Inputs) (child : Option ℕ) (p : Point) (q : Place) (r : Corresponds program p q) where
  abbrev s : Setting
  s = setting_of program inputs

  abbrev sc : Scope
  sc = scope_of program p.task

  abbrev tasks : List (List Instr)
  tasks = (lowered program).tasks

  abbrev all : List Instr
  all = instrs_of (lowered program).tasks q.at.task

  abbrev Behind : Point → Option Instr → Type 0
  Behind p' o = Corresponds program p' (code.behind tasks o child q)

  -- a statement that is one instruction is passed by one
  passed_one : (line : ℕ) (w : What) (rest : List Stmt) (o : Option Instr) → instr_at tasks q q.at.pc ≡ o → IsNoFork w
      → next_place q ≡ code.behind tasks o child q → Left sc all (q.at.pc + 1) rest
      → Behind (behind child p (tree.At line w ∷ rest)) (instr_at tasks q q.at.pc)
  passed_one line w rest o is still next after =
      subst (Behind (behind child p (tree.At line w ∷ rest))) (sym is)
      (subst (λ p'. Behind p' o) (unforked child p line w rest still)
      (subst (Corresponds program (going p rest)) next (at_left program inputs p q r (q.at.pc + 1) rest after)))

  passed_barrier : (line : ℕ) (o : Option ℕ) → next_place q ≡ code.behind tasks (Some (At line (barrier_code o))) child q
  passed_barrier line None = refl
  passed_barrier line (Some b) = refl

  passed_fork : (line : ℕ) (t : Name) (es : List Expr) (x : Option Name) (rest : List Stmt) (c : Option ℕ) → c ≡ child
      → Left sc all (q.at.pc + 1) rest
      → Corresponds program (behind c p (tree.At line (tree.Fork t es x) ∷ rest))
      (with_child c (option_map (slot (controls_of p.task)) x) (next_place q))
  passed_fork line t es x rest None is after = at_left program inputs p q r (q.at.pc + 1) rest after
  passed_fork line t es None rest (Some c) is after = at_left program inputs p q r (q.at.pc + 1) rest after
  passed_fork line t es (Some x) rest (Some c) is after = at_set program inputs p q r (q.at.pc + 1) rest x (pos c) after

  passed_statement : (line : ℕ) (w : What) (rest : List Stmt) → HasAt all q.at.pc (what_code sc line w)
      → Left sc all (q.at.pc + length (what_code sc line w)) rest
      → IsNoJump (instr_at tasks q q.at.pc) → Behind (behind child p (tree.At line w ∷ rest)) (instr_at tasks q q.at.pc)
  passed_statement line (tree.SetCtl x e) rest has after still = passed_one line (tree.SetCtl x e) rest _ has.0 tt refl after
  passed_statement line (tree.While e b) rest has after still = absurd (subst IsNoJump has.0 still)
  passed_statement line (tree.If e a b) rest has after still =
      let c = block_code sc a in
      let d = block_code sc b in
      let over = At line (GoOn (length d)) in
      let back = has_back all (q.at.pc + 1) c (over ∷ d) has.1 in
      let end : q.at.pc + 1 + length c ≡ q.at.pc + (length c + 1) = omega arith in
      let len : q.at.pc + length (if_code line (calc sc e) c d) ≡ q.at.pc + 1 + (length c + 1) + length d =
      omega (arith, length-append c (over ∷ d)) in
      let far : length d ≡ passed (instr_at tasks q (q.at.pc + (length c + 1))) = ap passed (sym back.0 ∙ ap (slice_get all) end) in
      subst (Behind (behind child p (tree.At line (tree.If e a b) ∷ rest))) (sym has.0)
      (subst (λ p'. Behind p' (Some (At line (Unless (calc sc e) (length c + 1))))) (unforked child p line (tree.If e a b) rest tt)
      (subst (λ n. Corresponds program (going p rest) (goto q (q.at.pc + 1 + (length c + 1) + n))) far
      (at_left program inputs p q r (q.at.pc + 1 + (length c + 1) + length d) rest (subst (λ k. Left sc all k rest) len after))))
  passed_statement line (tree.Lock a i) rest has after still = passed_one line (tree.Lock a i) rest _ has.0 tt refl after
  passed_statement line (tree.Unlock a i) rest has after still = passed_one line (tree.Unlock a i) rest _ has.0 tt refl after
  passed_statement line (tree.Fork t es x) rest has after still =
      let k = unwrap_or (task_number program t) 0 in
      let into = option_map (slot (controls_of p.task)) x in
      subst (Behind (behind child p (tree.At line (tree.Fork t es x) ∷ rest))) (sym has.0)
      (subst (λ i. Corresponds program (behind child p (tree.At line (tree.Fork t es x) ∷ rest)) (with_child child i (next_place q)))
      (sym (forking_into sc (task_named program t) k es into))
      (passed_fork line t es x rest child refl after))
  passed_statement line (tree.Join e x) rest has after still = passed_one line (tree.Join e x) rest _ has.0 tt refl after
  passed_statement line (tree.Barrier b) rest has after still =
      passed_one line (tree.Barrier b) rest _ has.0 tt
      (passed_barrier line (position (λ other. is_name b other.0) (barriers_of program.heads))) after
  passed_statement line (tree.Settle x k) rest has after still = passed_one line (tree.Settle x k) rest _ has.0 tt refl after
  passed_statement line (tree.SetReg x e) rest has after still = passed_one line (tree.SetReg x e) rest _ has.0 tt refl after
  passed_statement line (tree.Read a i x) rest has after still = passed_one line (tree.Read a i x) rest _ has.0 tt refl after
  passed_statement line (tree.Write a i e) rest has after still = passed_one line (tree.Write a i e) rest _ has.0 tt refl after
  passed_statement line (tree.Print es) rest has after still = passed_one line (tree.Print es) rest _ has.0 tt refl after
  passed_statement line (tree.When e a b) rest has after still = passed_one line (tree.When e a b) rest _ has.0 tt refl after

  passed_place : (pc : ℕ) (left : List Stmt) → pc ≡ q.at.pc → left ≡ p.left → Left sc all pc left → IsNoJump (instr_at tasks q q.at.pc)
      → Behind (behind child p left) (instr_at tasks q q.at.pc)
  passed_place pc' left' at same (ends pc none) still = subst (Behind p) (sym (ap (slice_get all) (sym at) ∙ none)) r
  passed_place pc' left' at same (jumps pc line n left is on) still = absurd (subst IsNoJump (ap (slice_get all) (sym at) ∙ is) still)
  passed_place pc' left' at same (stands pc line w rest has after) still =
      passed_statement line w rest (subst (λ k. HasAt all k (what_code sc line w)) at has)
      (subst (λ k. Left sc all (k + length (what_code sc line w)) rest) at after) still
  passed_place pc' left' at same (tests pc line e b rest has is after) still =
      passed_one line (tree.While e b) rest _ (ap (slice_get all) (sym at) ∙ is) tt refl (subst (λ k. Left sc all (k + 1) rest) at after)

  -- after a statement, where the place is not at a jump
  passes : IsNoJump (instr_at tasks q q.at.pc)
      → Corresponds program (behind child p p.left) (code.behind tasks (instr_at tasks q q.at.pc) child q)
  passes still = passed_place q.at.pc p.left refl refl r.left still

  -- ---- the actions with which a subthread begins

  abbrev Same : List Stmt → Option Instr → Type 0
  Same left o = begin_actions s left p ≡ code.begin_actions inputs.feeds o q

  same_barrier : (line : ℕ) (o : Option ℕ) → [] ≡ code.begin_actions inputs.feeds (Some (At line (barrier_code o))) q
  same_barrier line None = refl
  same_barrier line (Some b) = refl

  same_statement : (line : ℕ) (w : What) (rest : List Stmt) → HasAt all q.at.pc (what_code sc line w)
      → Same (tree.At line w ∷ rest) (instr_at tasks q q.at.pc)
  same_statement line w rest has = go w has
    where
      at : (w : What) (i : Instr) → instr_at tasks q q.at.pc ≡ Some i → Same (tree.At line w ∷ rest) (Some i)
          → Same (tree.At line w ∷ rest) (instr_at tasks q q.at.pc)
      at w i is same = subst (Same (tree.At line w ∷ rest)) (sym is) same

      go : (w : What) → HasAt all q.at.pc (what_code sc line w) → Same (tree.At line w ∷ rest) (instr_at tasks q q.at.pc)
      go (tree.SetCtl x e) has = at (tree.SetCtl x e) _ has.0 refl
      go (tree.While e b) has = at (tree.While e b) _ has.0 refl
      go (tree.If e a b) has = at (tree.If e a b) _ has.0 refl
      go (tree.Lock a i) has = at (tree.Lock a i) _ has.0 refl
      go (tree.Unlock a i) has = at (tree.Unlock a i) _ has.0 refl
      go (tree.Fork t es x) has =
          at (tree.Fork t es x) _ has.0
          (ap (λ o. unwrap_or (option_map (λ arguments. arguments.1) o) [])
          (fork_same program inputs p q r t es (unwrap_or (task_number program t) 0) (option_map (slot (controls_of p.task)) x)))
      go (tree.Join e None) has = at (tree.Join e None) _ has.0 refl
      go (tree.Join e (Some x)) has = at (tree.Join e (Some x)) _ has.0 refl
      go (tree.Barrier b) has =
          at (tree.Barrier b) _ has.0 (same_barrier line (position (λ other. is_name b other.0) (barriers_of program.heads)))
      go (tree.Settle x k) has = at (tree.Settle x k) _ has.0 refl
      go (tree.SetReg x e) has = at (tree.SetReg x e) _ has.0 refl
      go (tree.Read a i x) has = at (tree.Read a i x) _ has.0 refl
      go (tree.Write a i e) has = at (tree.Write a i e) _ has.0 refl
      go (tree.Print es) has = at (tree.Print es) _ has.0 refl
      go (tree.When e a b) has = at (tree.When e a b) _ has.0 refl

  same_place : (pc : ℕ) (left : List Stmt) → pc ≡ q.at.pc → Left sc all pc left → IsNoJump (instr_at tasks q q.at.pc)
      → Same left (instr_at tasks q q.at.pc)
  same_place pc' left' at (ends pc none) still = subst (Same []) (sym (ap (slice_get all) (sym at) ∙ none)) refl
  same_place pc' left' at (jumps pc line n left is on) still = absurd (subst IsNoJump (ap (slice_get all) (sym at) ∙ is) still)
  same_place pc' left' at (stands pc line w rest has after) still =
      same_statement line w rest (subst (λ k. HasAt all k (what_code sc line w)) at has)
  same_place pc' left' at (tests pc line e b rest has is after) still =
      subst (Same (tree.At line (tree.While e b) ∷ rest)) (sym (ap (slice_get all) (sym at) ∙ is)) refl

  -- ---- by what a subthread begins with

  abbrev BeginsAlike : SyncOp → Type 0
  BeginsAlike op =
      Corresponds program (beginning op child p) (code_begins tasks op child q)
      × (first_actions s op p ≡ code_first tasks inputs.feeds op q)

  at_rest : (op : SyncOp) → (op ≡ sync.Start → ⊥) → IsStopped program op q → IsNoJump (instr_at tasks q q.at.pc)
  at_rest op other (inl is) = absurd (other is)
  at_rest op other (inr still) = still

  pub begins_alike : (op : SyncOp) → IsStopped program op q → BeginsAlike op
  begins_alike sync.Start stopped = (r, refl)
  begins_alike (sync.Lock l) stopped =
      let still = at_rest (sync.Lock l) (λ e. cc e) stopped in
      (passes still, same_place q.at.pc p.left refl r.left still)
  begins_alike (sync.Unlock l) stopped =
      let still = at_rest (sync.Unlock l) (λ e. cc e) stopped in
      (passes still, same_place q.at.pc p.left refl r.left still)
  begins_alike (sync.Fork task arguments) stopped =
      let still = at_rest (sync.Fork task arguments) (λ e. cc e) stopped in
      (passes still, same_place q.at.pc p.left refl r.left still)
  begins_alike (sync.Join h) stopped =
      let still = at_rest (sync.Join h) (λ e. cc e) stopped in
      (passes still, same_place q.at.pc p.left refl r.left still)
  begins_alike (sync.Barrier b) stopped =
      let still = at_rest (sync.Barrier b) (λ e. cc e) stopped in
      (passes still, same_place q.at.pc p.left refl r.left still)
  begins_alike (sync.Settle k c) stopped =
      let still = at_rest (sync.Settle k c) (λ e. cc e) stopped in
      (passes still, same_place q.at.pc p.left refl r.left still)
  begins_alike sync.End stopped =
      let still = at_rest sync.End (λ e. cc e) stopped in
      (passes still, same_place q.at.pc p.left refl r.left still)
  begins_alike sync.BadIndex stopped =
      let still = at_rest sync.BadIndex (λ e. cc e) stopped in
      (passes still, same_place q.at.pc p.left refl r.left still)
  begins_alike sync.Spent stopped =
      let still = at_rest sync.Spent (λ e. cc e) stopped in
      (passes still, same_place q.at.pc p.left refl r.left still)

-- ---- starts

firsts-append : {T : Type 0} (a b : List (Name × T)) → map (λ n. n.0) (a ++ b) ≡ map (λ n. n.0) a ++ map (λ n. n.0) b
firsts-append [] b = refl
firsts-append (x ∷ a) b = ap (λ l. x.0 ∷ l) (firsts-append a b)

firsts-given : (names : List Name) (values : List ℤ) → map (λ n. n.0) (given names values) ≡ names
firsts-given [] values = refl
firsts-given (x ∷ names) [] = ap (λ l. x ∷ l) (firsts-given names [])
firsts-given (x ∷ names) (v ∷ values) = ap (λ l. x ∷ l) (firsts-given names values)

controls-append : (a b : List Param) → controls (a ++ b) ≡ controls a ++ controls b
controls-append [] b = refl
controls-append (param.Ctl x ∷ a) b = ap (λ l. x ∷ l) (controls-append a b)
controls-append (param.Reg x ∷ a) b = controls-append a b

-- the instructions of the task of a number are the code of that task
pub instrs_at : (program : Program) (texts : List TaskText) (k : ℕ)
    → unwrap_or (slice_get (map (task_code program) texts) k) [] ≡ task_code program (unwrap_or (slice_get texts k) no_task)
instrs_at program [] k = refl
instrs_at program (task ∷ texts) zero = refl
instrs_at program (task ∷ texts) (suc k) = instrs_at program texts k

pub starts_alike : (program : Program) (task thread : ℕ) (arguments : List ℤ)
    → Corresponds program (start_point (task_at program task) thread arguments) (start_place program task thread arguments)
starts_alike program task thread arguments =
    let text = task_at program task in
    record {
      task = refl;
      left =
          subst (λ code. Left (scope_of program text) code 0 (statements text.body)) (sym (instrs_at program program.tasks task))
          (begins_block (scope_of program text) text.body);
      names =
          firsts-append (given (controls text.params) arguments) (given (controls (declared_in text.vars)) [])
          ∙ ap (λ l. l ++ map (λ n. n.0) (given (controls (declared_in text.vars)) [])) (firsts-given (controls text.params) arguments)
          ∙ ap (λ l. controls text.params ++ l) (firsts-given (controls (declared_in text.vars)) [])
          ∙ sym (controls-append text.params (declared_in text.vars));
      values = refl;
      me = refl;
    }
