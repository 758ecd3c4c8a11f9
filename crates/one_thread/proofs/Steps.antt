-- Single control steps of the walk.
use Rattle.std.proofs.Common.{◌≡◌, ℕ, zero, suc, ℤ, pos, negsuc, true, false, List, [], ◌∷◌, ◌++◌, Option, Some, None, refl, sym, ap, ◌∙◌, subst}
use Rattle.std.specs.Prelude.{is_some, IsTrue}
use Rattle.std.specs.Ordering.{int_eq}
use Rattle.std.specs.Borrow.{Bor}
use Rattle.std.proofs.lemmas.Bool.{false≢true}
use Rattle.task_ast.specs.declared.env.Env.{Env}
use Rattle.task_ast.specs.declared.tree.Stmt as code
use Rattle.task_ast.specs.declared.sync.SyncOp.TheVariants as sync
use Rattle.task_ast.specs.meaning.Tree.{Stmt, At, What, SetCtl, While, If, Lock, Unlock, Fork, Join, Barrier, Settle, SetReg, Read, Write, Print, When, Expr, block, statements}
use Rattle.task_ast.specs.meaning.Names.{registers_of}
use Rattle.task_ast.specs.meaning.Value.{value, branch}
use Rattle.task_ast.specs.meaning.Action.{Action}
use Rattle.task_ast.specs.meaning.Body.{Step, Silent, Iteration, Act}
use Rattle.task_ast.specs.meaning.Control.{Setting, Point, known, going, env_at, action, step_at}
use Rattle.task_ast.specs.Shaped.{is_data}
use Rattle.task_ast.specs.View.{plain_stmts, plain_block}
use Rattle.one_thread.specs.declared.walk.Walk.{Walk}
use Rattle.one_thread.specs.declared.walk.Went.TheVariants as went
use Rattle.one_thread.specs.inner.Remaining.{left_of, rest_of}
use Rattle.one_thread.specs.Walking.{setting_of, point_of, LeadsTo, Stepped}
use Rattle.one_thread.proofs.Lefts.{statements-block}
use Rattle.one_thread.proofs.Naming.{Records}

not_zero : int_eq (pos 0) (pos 0) ≡ false → ⊥
not_zero is = let eq : int_eq (pos 0) (pos 0) ≡ true = refl in false≢true (sym is ∙ eq)

branch_first : (v : ℤ) (first second : Step Point) → int_eq v (pos 0) ≡ false → branch v first second ≡ first
branch_first (pos zero) first second is = absurd (not_zero is)
branch_first (pos (suc n)) first second is = refl
branch_first (negsuc n) first second is = refl

-- expressions are read under the environment of the walk
pub env_is : (walk : Walk) → walk.env.regs ≡ [] → env_at (setting_of walk) (point_of walk) ≡ walk.env
env_is walk clean = ap (λ r. record walk.env { regs = r }) (sym clean)

pub stays : (walk : Walk) → walk.env.regs ≡ [] → LeadsTo (point_of walk) walk walk
stays walk clean = record { at = refl; keeps = record { program = refl; task = refl; registers = refl; feeds = refl; clean = clean } }

-- a loop turn is found
pub turn_found : (walk : Walk) (line : ℕ) (e : Expr) (body : Bor (List code.Stmt)) (v : ℤ) → walk.env.regs ≡ []
    → left_of walk.left ≡ At line (While e (plain_block body.now)) ∷ rest_of walk.left
    → value e walk.env ≡ Some v → int_eq v (pos 0) ≡ false
    → Stepped (step_at (setting_of walk) line (While e (plain_block body.now)) (rest_of walk.left) (point_of walk))
    (went.Turned body) walk walk
turn_found walk line e body v clean first is nonzero =
    subst (λ st. Stepped st (went.Turned body) walk walk)
    (sym (ap (λ o. known line o next) (ap (value e) (env_is walk clean) ∙ is) ∙ branch_first v _ _ nonzero)) (
      ap (λ l. going (point_of walk) l) (ap (λ l. l ++ At line (While e (plain_block body.now)) ∷ rest_of walk.left)
          (statements-block (plain_stmts body.now)) ∙ ap (λ l. plain_stmts body.now ++ l) (sym first)),
      stays walk clean,
      refl,
    )
  where
    next : ℤ → Step Point
    next w =
        branch w (Iteration (going (point_of walk)
        (statements (plain_block body.now) ++ At line (While e (plain_block body.now)) ∷ rest_of walk.left)))
        (Silent (going (point_of walk) (rest_of walk.left)))

unlike : {A : Type 0} → IsTrue false → A
unlike is = absurd (false≢true is)

-- the step at a data statement
acts_at : (s : Setting) (line : ℕ) (w : What) (rest : List Stmt) (p : Point) → IsTrue (is_data w)
    → step_at s line w rest p ≡ known line (action s (registers_of p.task) w (env_at s p)) (λ a. Act a (going p rest))
acts_at s line (SetReg x e) rest p is = refl
acts_at s line (Read r i x) rest p is = refl
acts_at s line (Write r i e) rest p is = refl
acts_at s line (Print es) rest p is = refl
acts_at s line (When e a b) rest p is = refl
acts_at s line (SetCtl x e) rest p is = unlike is
acts_at s line (While e b) rest p is = unlike is
acts_at s line (If e a b) rest p is = unlike is
acts_at s line (Lock a i) rest p is = unlike is
acts_at s line (Unlock a i) rest p is = unlike is
acts_at s line (Fork t es x) rest p is = unlike is
acts_at s line (Join e x) rest p is = unlike is
acts_at s line (Barrier b) rest p is = unlike is
acts_at s line (Settle x c) rest p is = unlike is

known_acts : (line : ℕ) (o : Option Action) (q : Point) (old new : Walk) → is_some o ≡ true → Records o old.data new.data
    → LeadsTo q old new → Stepped (known line o (λ a. Act a q)) went.On old new
known_acts line None q old new is records leads = absurd (false≢true is)
known_acts line (Some a) q old new is records leads = (leads, λ joined. records joined a refl)

known_stops : (line : ℕ) (o : Option Action) (q : Point) (walk : Walk) → walk.env.regs ≡ [] → is_some o ≡ false
    → Stepped (known line o (λ a. Act a q)) (went.Stopped (record { sync = sync.BadIndex; line = line })) walk walk
known_stops line None q walk clean is = (refl, stays walk clean, refl)
known_stops line (Some a) q walk clean is = absurd (false≢true (sym is))

abbrev action_here : Walk → What → Env → Option Action
action_here walk w env = action (setting_of walk) (registers_of (point_of walk).task) w env

-- a data statement is done
pub acted : (old new : Walk) (line : ℕ) (w : What) → old.env.regs ≡ [] → IsTrue (is_data w) → is_some (action_here old w old.env) ≡ true
    → Records (action_here old w old.env) old.data new.data
    → LeadsTo (going (point_of old) (rest_of old.left)) old new
    → Stepped (step_at (setting_of old) line w (rest_of old.left) (point_of old)) went.On old new
acted old new line w clean is_data_here is records leads =
    subst (λ st. Stepped st went.On old new) (sym
    (acts_at (setting_of old) line w (rest_of old.left) (point_of old) is_data_here
    ∙ ap (λ env. known line (action_here old w env) (λ a. Act a (going (point_of old) (rest_of old.left)))) (env_is old clean)))
    (known_acts line (action_here old w old.env) (going (point_of old) (rest_of old.left)) old new is records leads)

-- or names a cell that isn't there
pub unacted : (walk : Walk) (line : ℕ) (w : What) → walk.env.regs ≡ [] → IsTrue (is_data w) → is_some (action_here walk w walk.env) ≡ false
    → Stepped (step_at (setting_of walk) line w (rest_of walk.left) (point_of walk))
    (went.Stopped (record { sync = sync.BadIndex; line = line })) walk walk
unacted walk line w clean is_data_here is =
    subst (λ st. Stepped st (went.Stopped (record { sync = sync.BadIndex; line = line })) walk walk)
    (sym (acts_at (setting_of walk) line w (rest_of walk.left) (point_of walk) is_data_here
    ∙ ap (λ env. known line (action_here walk w env) (λ a. Act a (going (point_of walk) (rest_of walk.left)))) (env_is walk clean)))
    (known_stops line (action_here walk w walk.env) (going (point_of walk) (rest_of walk.left)) walk clean is)

branch_of : (f : List code.Stmt → Step Point) (v : ℤ) (first second : List code.Stmt)
    → branch v (f first) (f second) ≡ f (branch v first second)
branch_of f (pos zero) first second = refl
branch_of f (pos (suc n)) first second = refl
branch_of f (negsuc n) first second = refl

abbrev branches : Walk → List code.Stmt → List code.Stmt → ℤ → Step Point
branches walk first second v =
    branch v (Silent (going (point_of walk) (statements (plain_block first) ++ rest_of walk.left)))
    (Silent (going (point_of walk) (statements (plain_block second) ++ rest_of walk.left)))

entered : (old new : Walk) (block : List code.Stmt) → left_of new.left ≡ plain_stmts block ++ rest_of old.left → new.data ≡ old.data
    → LeadsTo (going (point_of old) (left_of new.left)) old new
    → Stepped (Silent (going (point_of old) (statements (plain_block block) ++ rest_of old.left))) went.On old new
entered old new block is same leads = (
  subst (λ l. LeadsTo (going (point_of old) l) old new)
      (is ∙ ap (λ l. l ++ rest_of old.left) (sym (statements-block (plain_stmts block)))) leads,
  same,
)

-- the block that the value of a choice takes
pub block_taken : (old new : Walk) (line : ℕ) (e : Expr) (first second taken : List code.Stmt) (v : ℤ) → old.env.regs ≡ []
    → value e old.env ≡ Some v → taken ≡ branch v first second
    → left_of new.left ≡ plain_stmts taken ++ rest_of old.left → new.data ≡ old.data
    → LeadsTo (going (point_of old) (left_of new.left)) old new
    → Stepped (step_at (setting_of old) line (If e (plain_block first) (plain_block second)) (rest_of old.left) (point_of old)) went.On old
    new
block_taken old new line e first second taken v clean is takes left same leads =
    subst (λ st. Stepped st went.On old new) (sym
    (ap (λ o. known line o (branches old first second)) (ap (value e) (env_is old clean) ∙ is)
    ∙ branch_of (λ b. Silent (going (point_of old) (statements (plain_block b) ++ rest_of old.left))) v first second
    ∙ ap (λ b. Silent (going (point_of old) (statements (plain_block b) ++ rest_of old.left))) (sym takes)))
    (entered old new taken left same leads)
