-- An effect reads and writes nothing but what its subthread may touch.
use Rattle.std.proofs.Common.{◌≡◌, ℕ, zero, suc, Bool, true, false, cond, List, [], ◌∷◌, Option, Some, None, refl, ap, ◌∙◌, subst, option_map, Ordering, Less, Equal, Greater}
use Rattle.std.specs.Prelude.{ℤ, pos, negsuc}
use Rattle.std.specs.Ordering.{nat_cmp, eq_by_cmp, is_eq}
use Rattle.std.specs.FinMap.{find, put, nat_cmp-IsAntisymmetric}
use Rattle.std.specs.FinMap.Entries.{find-put}
use Rattle.std.proofs.lemmas.Cmp.{nat_cmp_total}
use Rattle.std.proofs.lemmas.Bool.{false≢true}
use Rattle.task_ast.specs.meaning.Value.{branch}
use Rattle.task_ast.specs.declared.sync.SyncOp.{SyncOp}
use Rattle.task_ast.specs.declared.effect.Effect.{Effect}
use Rattle.task_ast.specs.meaning.Action.{Action, Set, Load, Store, Say, Choose, Child, Give, Bring, Arm, NoAction, OneAction}
use Rattle.task_ast.specs.meaning.State.{State, RegistersOf, cell_value, number_at}
use Rattle.task_ast.specs.meaning.Effect.{Doing, done, arm_done, all_done, joined_ret, effect}
use Rattle.task_ast.specs.laws.Keeps.{NamesOnly, ArmNamesOnly, AllName, WritesOnly, ArmWritesOnly, AllWrite, AgreeAt}

picked_same : (v : ℤ) {a b c d : Doing} → a ≡ c → b ≡ d → branch v a b ≡ branch v c d
picked_same (pos zero) e f = f
picked_same (pos (suc n)) e f = e
picked_same (negsuc n) e f = e

module _ (test : ℕ → Bool) (left right : ℕ → ℤ) (joined : ℤ) (agree : (c : ℕ) → test c ≡ true → left c ≡ right c) where
  mutual
    done_same : (a : Action) (d : Doing) → NamesOnly test a → done left joined a d ≡ done right joined a d
    done_same (Set k t) d names = refl
    done_same (Load c k) d names = ap (λ v. done (λ x. v) joined (Load c k) d) (agree c names)
    done_same (Store c t) d names = refl
    done_same (Say ts) d names = refl
    done_same (Choose t a b) d names = picked_same (t d.registers) (arm_same a d names.0) (arm_same b d names.1)
    done_same (Child count) d names = refl
    done_same (Give k t) d names = refl
    done_same (Bring k) d names = refl

    arm_same : (arm : Arm) (d : Doing) → ArmNamesOnly test arm → arm_done left joined arm d ≡ arm_done right joined arm d
    arm_same NoAction d names = refl
    arm_same (OneAction a arm) d names =
        ap (arm_done left joined arm) (done_same a d names.0) ∙ arm_same arm (done right joined a d) names.1

  pub all_same : (actions : List Action) (d : Doing) → AllName test actions
      → all_done left joined actions d ≡ all_done right joined actions d
  all_same [] d names = refl
  all_same (a ∷ actions) d names =
      ap (all_done left joined actions) (done_same a d names.0) ∙ all_same actions (done right joined a d) names.1

pub reads_same : (test : ℕ → Bool) (t : ℕ) (begins : SyncOp) (child : Option ℕ) (actions : List Action) (left right : State)
    → AllName test actions → AgreeAt test t begins left right → effect t begins child actions left ≡ effect t begins child actions right
reads_same test t begins child actions left right names agree =
    ap result
    (all_same test (cell_value left) (cell_value right) (joined_ret begins left)
    (λ c passes. ap (λ xs. number_at xs 0) (agree.cells c passes)) actions
    (record { registers = left (RegistersOf t); child = []; written = []; lines = [] }) names
    ∙ ap (λ v. all_done (cell_value right) v actions (record { registers = left (RegistersOf t); child = []; written = []; lines = [] }))
    agree.joined
    ∙ ap (λ xs. all_done (cell_value right) (joined_ret begins right) actions
    (record { registers = xs; child = []; written = []; lines = [] })) agree.registers)
  where
    result : Doing → Effect
    result d = record { thread = t; writes = d.written; regs = d.registers; child = option_map (λ c. (c, d.child)) child; prints = d.lines }

-- each cell that was written passes the test
abbrev Within : (ℕ → Bool) → Doing → Type 0
Within test d = (c : ℕ) → (find nat_cmp c d.written ≡ None → ⊥) → test c ≡ true

picked_within : (test : ℕ → Bool) (v : ℤ) (a b : Doing) → Within test a → Within test b → Within test (branch v a b)
picked_within test (pos zero) a b f s = s
picked_within test (pos (suc n)) a b f s = f
picked_within test (negsuc n) a b f s = f

is_equal : (o : Ordering) → is_eq o ≡ true → o ≡ Equal
is_equal Less e = absurd (false≢true e)
is_equal Equal e = refl
is_equal Greater e = absurd (false≢true e)

stored_within : (test : ℕ → Bool) (c : ℕ) (v : ℤ) (d : Doing) → test c ≡ true → Within test d
    → Within test (record d { written = put nat_cmp c v d.written })
stored_within test c v d passes within q some =
    go (eq_by_cmp nat_cmp q c) refl (subst (λ o. o ≡ None → ⊥) (find-put nat_cmp nat_cmp_total q c v d.written) some)
  where
    go : (b : Bool) → eq_by_cmp nat_cmp q c ≡ b → (cond b (Some v) (find nat_cmp q d.written) ≡ None → ⊥) → test q ≡ true
    go true e there = ap test (nat_cmp-IsAntisymmetric q c (is_equal (nat_cmp q c) e)) ∙ passes
    go false e there = within q there

module _ (test : ℕ → Bool) (cells : ℕ → ℤ) (joined : ℤ) where
  mutual
    done_within : (a : Action) (d : Doing) → WritesOnly test a → Within test d → Within test (done cells joined a d)
    done_within (Set k t) d names within = within
    done_within (Load c k) d names within = within
    done_within (Store c t) d names within = stored_within test c (t d.registers) d names within
    done_within (Say ts) d names within = within
    done_within (Choose t a b) d names within =
        picked_within test (t d.registers) (arm_done cells joined a d) (arm_done cells joined b d)
        (arm_within a d names.0 within) (arm_within b d names.1 within)
    done_within (Child count) d names within = within
    done_within (Give k t) d names within = within
    done_within (Bring k) d names within = within

    arm_within : (arm : Arm) (d : Doing) → ArmWritesOnly test arm → Within test d → Within test (arm_done cells joined arm d)
    arm_within NoAction d names within = within
    arm_within (OneAction a arm) d names within = arm_within arm (done cells joined a d) names.1 (done_within a d names.0 within)

  pub all_within : (actions : List Action) (d : Doing) → AllWrite test actions → Within test d
      → Within test (all_done cells joined actions d)
  all_within [] d names within = within
  all_within (a ∷ actions) d names within = all_within actions (done cells joined a d) names.1 (done_within a d names.0 within)

pub writes_within : (test : ℕ → Bool) (t : ℕ) (begins : SyncOp) (child : Option ℕ) (actions : List Action) (state : State)
    → AllWrite test actions → (c : ℕ) → (find nat_cmp c (effect t begins child actions state).writes ≡ None → ⊥) → test c ≡ true
writes_within test t begins child actions state names =
    all_within test (cell_value state) (joined_ret begins state) actions
    (record { registers = state (RegistersOf t); child = []; written = []; lines = [] }) names
    (λ c some. absurd (some refl))

mutual
  one_writes : (test : ℕ → Bool) (a : Action) → NamesOnly test a → WritesOnly test a
  one_writes test (Store c t) n = n
  one_writes test (Choose t a b) n = (arm_writes test a n.0, arm_writes test b n.1)
  one_writes test (Set k t) n = tt
  one_writes test (Load c k) n = tt
  one_writes test (Say ts) n = tt
  one_writes test (Child n) h = tt
  one_writes test (Give k t) h = tt
  one_writes test (Bring k) h = tt

  arm_writes : (test : ℕ → Bool) (arm : Arm) → ArmNamesOnly test arm → ArmWritesOnly test arm
  arm_writes test NoAction n = tt
  arm_writes test (OneAction a arm) n = (one_writes test a n.0, arm_writes test arm n.1)

-- the cells that are written are among those that are named
pub names_write : (test : ℕ → Bool) (actions : List Action) → AllName test actions → AllWrite test actions
names_write test [] n = tt
names_write test (a ∷ actions) n = (one_writes test a n.0, names_write test actions n.1)
