-- The cells that an effect writes rise.
use Rattle.std.proofs.Common.{◌≡◌, ℕ, zero, suc, Bool, true, false, refl, T, List, [], ◌∷◌, Option}
use Rattle.std.specs.Prelude.{ℤ, pos, negsuc}
use Rattle.std.specs.Ordering.{nat_cmp}
use Rattle.std.specs.Cmp.{nat_cmp_total}
use Rattle.std.specs.FinMap.{is_sorted}
use Rattle.std.specs.FinMap.Entries.{is_sorted-put}
use Rattle.task_ast.specs.meaning.Value.{branch}
use Rattle.task_ast.specs.declared.sync.SyncOp.{SyncOp}
use Rattle.task_ast.specs.meaning.Action.{Action, Set, Load, Store, Say, Choose, Child, Give, Bring, Arm, NoAction, OneAction}
use Rattle.task_ast.specs.meaning.Effect.{Doing, done, arm_done, all_done, joined_ret, effect}
use Rattle.task_ast.specs.meaning.State.{State, RegistersOf, cell_value}

abbrev Rising : Doing → Type 0
Rising d = T (is_sorted nat_cmp d.written)

picked_rises : (v : ℤ) (first second : Doing) → Rising first → Rising second → Rising (branch v first second)
picked_rises (pos zero) first second f s = s
picked_rises (pos (suc n)) first second f s = f
picked_rises (negsuc n) first second f s = f

module _ (cells : ℕ → ℤ) (joined : ℤ) where
  mutual
    done_rises : (a : Action) (d : Doing) → Rising d → Rising (done cells joined a d)
    done_rises (Set k t) d r = r
    done_rises (Load c k) d r = r
    done_rises (Store c t) d r = is_sorted-put nat_cmp nat_cmp_total c (t d.registers) d.written r
    done_rises (Say ts) d r = r
    done_rises (Choose t a b) d r =
        picked_rises (t d.registers) (arm_done cells joined a d) (arm_done cells joined b d) (arm_rises a d r) (arm_rises b d r)
    done_rises (Child count) d r = r
    done_rises (Give k t) d r = r
    done_rises (Bring k) d r = r

    arm_rises : (arm : Arm) (d : Doing) → Rising d → Rising (arm_done cells joined arm d)
    arm_rises NoAction d r = r
    arm_rises (OneAction a arm) d r = arm_rises arm (done cells joined a d) (done_rises a d r)

  pub all_rises : (actions : List Action) (d : Doing) → Rising d → Rising (all_done cells joined actions d)
  all_rises [] d r = r
  all_rises (a ∷ actions) d r = all_rises actions (done cells joined a d) (done_rises a d r)

is_true : (b : Bool) → T b → b ≡ true
is_true true h = refl
is_true false h = absurd h

pub writes_rise : (t : ℕ) (begins : SyncOp) (child : Option ℕ) (actions : List Action) (state : State)
    → is_sorted nat_cmp (effect t begins child actions state).writes ≡ true
writes_rise t begins child actions state =
    is_true _ (all_rises (cell_value state) (joined_ret begins state) actions
    (record { registers = state (RegistersOf t); child = []; written = []; lines = [] }) tt)
