-- How a subthread begins.
use Rattle.std.specs.declared.alloc.AllocError.{AllocError}
use Rattle.std.proofs.Common.{Result, Ok, Err, OnOk, ◌≡◌, ℕ, ℤ, Bool, true, false, List, [], ◌∷◌, Option, Some, None, refl, sym, ap, ◌∙◌}
use Rattle.std.specs.Prelude.{slice_set}
use Rattle.std.proofs.lemmas.Bool.{false≢true}
use Rattle.task_ast.specs.declared.tree.Stmt.{Stmt as CodeStmt}
use Rattle.task_ast.specs.meaning.Tree.{Name, Expr, Stmt, At, What, SetCtl, While, If, Lock, Unlock, Fork, Join, Barrier, Settle, SetReg, Read, Write, Print, When}
use Rattle.task_ast.specs.meaning.Names.{slot, registers_of}
use Rattle.task_ast.specs.meaning.Control.{Setting, Point, going, begin_actions, behind, fork_named}
use Rattle.task_ast.specs.View.{plain_stmt, plain_what, plain_task}
use Rattle.task_ast.proofs.Views.{stmt_At}
use Rattle.one_thread.specs.declared.left.Left.{Left}
use Rattle.one_thread.specs.declared.walk.Walk.{Walk}
use Rattle.one_thread.specs.inner.Remaining.{left_of, rest_of}
use Rattle.one_thread.specs.inner.Working.{all_worked}
use Rattle.one_thread.specs.Walking.{setting_of, point_of, LeadsTo, Begun, Gives}
use Rattle.one_thread.proofs.Walks.{with_left}

-- whether a subthread that begins here does nothing first
abbrev pub begins_plainly : What → Bool
begins_plainly (Fork t es x) = false
begins_plainly (Join e (Some x)) = false
begins_plainly _ = true

unlike : {A : Type 0} → false ≡ true → A
unlike is = absurd (false≢true is)

no_actions : (s : Setting) (line : ℕ) (w : What) (rest : List Stmt) (p : Point) → begins_plainly w ≡ true
    → begin_actions s (At line w ∷ rest) p ≡ []
no_actions s line (SetCtl x e) rest p is = refl
no_actions s line (While e b) rest p is = refl
no_actions s line (If e a b) rest p is = refl
no_actions s line (Lock a i) rest p is = refl
no_actions s line (Unlock a i) rest p is = refl
no_actions s line (Barrier b) rest p is = refl
no_actions s line (Settle x c) rest p is = refl
no_actions s line (SetReg x e) rest p is = refl
no_actions s line (Read r i x) rest p is = refl
no_actions s line (Write r i e) rest p is = refl
no_actions s line (Print es) rest p is = refl
no_actions s line (When e a b) rest p is = refl
no_actions s line (Join e None) rest p is = refl
no_actions s line (Join e (Some x)) rest p is = unlike is
no_actions s line (Fork t es x) rest p is = unlike is

skips : (child : Option ℕ) (line : ℕ) (w : What) (rest : List Stmt) (p : Point) → begins_plainly w ≡ true
    → behind child p (At line w ∷ rest) ≡ going p rest
skips None line (SetCtl x e) rest p is = refl
skips None line (While e b) rest p is = refl
skips None line (If e a b) rest p is = refl
skips None line (Lock a i) rest p is = refl
skips None line (Unlock a i) rest p is = refl
skips None line (Barrier b) rest p is = refl
skips None line (Settle x c) rest p is = refl
skips None line (SetReg x e) rest p is = refl
skips None line (Read r i x) rest p is = refl
skips None line (Write r i e) rest p is = refl
skips None line (Print es) rest p is = refl
skips None line (When e a b) rest p is = refl
skips None line (Join e x) rest p is = refl
skips None line (Fork t es x) rest p is = unlike is
skips (Some c) line (SetCtl x e) rest p is = refl
skips (Some c) line (While e b) rest p is = refl
skips (Some c) line (If e a b) rest p is = refl
skips (Some c) line (Lock a i) rest p is = refl
skips (Some c) line (Unlock a i) rest p is = refl
skips (Some c) line (Barrier b) rest p is = refl
skips (Some k) line (Settle x c) rest p is = refl
skips (Some c) line (SetReg x e) rest p is = refl
skips (Some c) line (Read r i x) rest p is = refl
skips (Some c) line (Write r i e) rest p is = refl
skips (Some c) line (Print es) rest p is = refl
skips (Some c) line (When e a b) rest p is = refl
skips (Some c) line (Join e x) rest p is = refl
skips (Some c) line (Fork t es x) rest p is = unlike is

skips_join : (child : Option ℕ) (line : ℕ) (e : Expr) (x : Option Name) (rest : List Stmt) (p : Point)
    → behind child p (At line (Join e x) ∷ rest) ≡ going p rest
skips_join None line e x rest p = refl
skips_join (Some c) line e x rest p = refl

-- at a statement at which nothing is done first
pub plainly_begun : (walk : Walk) (new : Left) (line : ℕ) (w : What) (child : Option ℕ) (joined : ℤ) → walk.env.regs ≡ []
    → begins_plainly w ≡ true → left_of new ≡ rest_of walk.left
    → Begun (begin_actions (setting_of walk) (At line w ∷ rest_of walk.left) (point_of walk))
    (behind child (point_of walk) (At line w ∷ rest_of walk.left)) joined walk (with_left walk new)
plainly_begun walk new line w child joined clean plain passed =
    record {
      at = ap (λ l. record (point_of walk) { left = l }) passed ∙ sym (skips child line w (rest_of walk.left) (point_of walk) plain);
      does =
          ap (λ actions. all_worked joined actions walk.data)
          (sym (no_actions (setting_of walk) line w (rest_of walk.left) (point_of walk) plain));
      keeps = record { program = refl; task = refl; registers = refl; feeds = refl; clean = clean };
    }

-- at a join that brings a value
pub join_begun : (walk : Walk) (new : Left) (line : ℕ) (e : Expr) (x : Name) (child : Option ℕ) (joined : ℤ) (k : ℕ) (registers : List ℤ)
    → walk.env.regs ≡ [] → left_of new ≡ rest_of walk.left
    → k ≡ slot walk.registers.now x → walk.registers.now ≡ registers_of (plain_task walk.task.now)
    → registers ≡ slice_set walk.data.registers k joined
    → Begun (begin_actions (setting_of walk) (At line (Join e (Some x)) ∷ rest_of walk.left) (point_of walk))
    (behind child (point_of walk) (At line (Join e (Some x)) ∷ rest_of walk.left)) joined walk
    (record walk { left = new; «data» = record walk.data { registers = registers } })
join_begun walk new line e x child joined k registers clean passed k_is names_are set =
    record {
      at =
          ap (λ l. record (point_of walk) { left = l }) passed ∙ sym (skips_join child line e (Some x) (rest_of walk.left) (point_of walk));
      does =
          ap (λ r. record walk.data { registers = r })
          (set ∙ ap (λ k. slice_set walk.data.registers k joined) (k_is ∙ ap (λ names. slot names x) names_are));
      keeps = record { program = refl; task = refl; registers = refl; feeds = refl; clean = clean };
    }

-- at a fork
pub fork_begun : (walk given new : Walk) (line : ℕ) (t : Name) (es : List Expr) (into : Option Name) (child : Option ℕ) (joined : ℤ)
    → Gives (fork_named (setting_of walk) t es (point_of walk)) walk given
    → ((line : ℕ) (t : Name) (es : List Expr)
    → LeadsTo (behind child (point_of given) (At line (Fork t es into) ∷ rest_of given.left)) given new × (new.data ≡ given.data))
    → Begun (begin_actions (setting_of walk) (At line (Fork t es into) ∷ rest_of walk.left) (point_of walk))
    (behind child (point_of walk) (At line (Fork t es into) ∷ rest_of walk.left)) joined walk new
fork_begun walk given new line t es into child joined gives leads =
    let here = leads line t es in
    let same : point_of given ≡ point_of walk =
    ap (λ b. record { task = plain_task b.now; left = left_of given.left; names = given.env.names; me = given.env.me }) gives.task
    ∙ ap (λ l. record { task = plain_task walk.task.now; left = left_of l; names = given.env.names; me = given.env.me }) gives.left
    ∙ ap (λ env. record { task = plain_task walk.task.now; left = left_of walk.left; names = env.names; me = env.me }) gives.env in
    record {
      at =
          here.0.at ∙ ap (λ p. behind child p (At line (Fork t es into) ∷ rest_of given.left)) same
          ∙ ap (λ l. behind child (point_of walk) (At line (Fork t es into) ∷ rest_of l)) gives.left;
      does = here.1 ∙ gives.does joined;
      keeps = record {
        program = here.0.keeps.program ∙ gives.program;
        task = here.0.keeps.task ∙ gives.task;
        registers = here.0.keeps.registers ∙ gives.registers;
        feeds = here.0.keeps.feeds ∙ ap (λ env. env.feeds) gives.env;
        clean = here.0.keeps.clean;
      };
    }

-- the beginning at the first statement left
pub begun_first : (old : Walk) (left : Left) (new : Walk) (s : CodeStmt) (w : What) (child : Option ℕ) (joined : ℤ)
    → left_of left ≡ left_of old.left → left_of left ≡ plain_stmt s ∷ rest_of left → plain_what s.what ≡ w
    → Begun (begin_actions (setting_of old) (At s.line w ∷ rest_of left) (point_of (with_left old left)))
    (behind child (point_of (with_left old left)) (At s.line w ∷ rest_of left)) joined (with_left old left) new
    → Begun (begin_actions (setting_of old) (left_of old.left) (point_of old))
    (behind child (point_of old) (left_of old.left)) joined old new
begun_first old left new s w child joined same first is begun =
    let here : point_of (with_left old left) ≡ point_of old = ap (λ l. record (point_of old) { left = l }) same in
    let there : left_of old.left ≡ At s.line w ∷ rest_of left =
    sym same ∙ first ∙ ap (λ st. st ∷ rest_of left) (stmt_At s ∙ ap (At s.line) is) in
    record {
      at = begun.at ∙ ap (λ p. behind child p (At s.line w ∷ rest_of left)) here ∙ ap (behind child (point_of old)) (sym there);
      does =
          begun.does ∙ ap (λ p. all_worked joined (begin_actions (setting_of old) (At s.line w ∷ rest_of left) p) old.data) here
          ∙ ap (λ l. all_worked joined (begin_actions (setting_of old) l (point_of old)) old.data) (sym there);
      keeps =
          record {
            program = begun.keeps.program;
            task = begun.keeps.task;
            registers = begun.keeps.registers;
            feeds = begun.keeps.feeds;
            clean = begun.keeps.clean;
          };
    }

-- a thread with nothing left stays where it is
pub begun_nowhere : (old : Walk) (left : Left) (child : Option ℕ) (joined : ℤ) → old.env.regs ≡ [] → left_of left ≡ left_of old.left
    → left_of left ≡ []
    → Begun (begin_actions (setting_of old) (left_of old.left) (point_of old))
    (behind child (point_of old) (left_of old.left)) joined old (with_left old left)
begun_nowhere old left child joined clean same none =
    record {
      at =
          ap (λ l. record (point_of old) { left = l }) same
          ∙ sym (ap (behind child (point_of old)) (sym same ∙ none) ∙ nothing child (point_of old));
      does = sym (ap (λ l. all_worked joined (begin_actions (setting_of old) l (point_of old)) old.data) (sym same ∙ none));
      keeps = record { program = refl; task = refl; registers = refl; feeds = refl; clean = clean };
    }
  where
    nothing : (child : Option ℕ) (p : Point) → behind child p [] ≡ p
    nothing None p = refl
    nothing (Some c) p = refl

-- and at a fork, where memory lasts
pub begun_ok : (r : Result Unit AllocError) (old : Walk) (left : Left) (given new : Walk) (s : CodeStmt) (t : Name) (es : List Expr)
    (into : Option Name) (child : Option ℕ) (joined : ℤ)
    → left_of left ≡ left_of old.left → left_of left ≡ plain_stmt s ∷ rest_of left → plain_what s.what ≡ Fork t es into
    → Gives (fork_named (setting_of old) t es (point_of (with_left old left))) (with_left old left) given
    → OnOk r ((line : ℕ) (t : Name) (es : List Expr)
    → LeadsTo (behind child (point_of given) (At line (Fork t es into) ∷ rest_of given.left)) given new × (new.data ≡ given.data))
    → OnOk r (Begun (begin_actions (setting_of old) (left_of old.left) (point_of old))
    (behind child (point_of old) (left_of old.left)) joined old new)
begun_ok (Ok done) old left given new s t es into child joined same first is gives leads =
    begun_first old left new s (Fork t es into) child joined same first is
    (fork_begun (with_left old left) given new s.line t es into child joined gives leads)
begun_ok (Err fault) old left given new s t es into child joined same first is gives leads = leads
