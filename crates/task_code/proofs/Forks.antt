-- The task of a fork, and its arguments.
use Rattle.std.proofs.Common.{◌≡◌, inl, inr, ℕ, ◌<◌, cond, List, [], ◌∷◌, length, Some, None, refl, sym, ap, ◌∙◌, subst, position}
use Rattle.std.specs.Prelude.{slice_get, find}
use Rattle.std.specs.List.{position_or_len}
use Rattle.std.proofs.lemmas.Bool.{cases_lt, lt-ltb, le-ltb}
use Rattle.std.proofs.lemmas.List.Folds.{find_at}
use Rattle.std.proofs.lemmas.Option.{slice_get_past}
use Rattle.task_ast.specs.declared.tree.Param.{Param}
use Rattle.task_ast.specs.declared.tree.Param.TheVariants as param
use Rattle.task_ast.specs.meaning.Tree.{Name, TaskText}
use Rattle.task_ast.specs.meaning.Names.{is_task}
use Rattle.task_code.specs.Lowering.{Scope, control_calcs, gifts}

-- where a task of this name has a number, it is the task of that number
pub task_at_place : (t : Name) (tasks : List TaskText) (k : ℕ) → position (is_task t) tasks ≡ Some k
    → (k < length tasks) × (find (is_task t) tasks ≡ slice_get tasks k)
task_at_place t tasks k is = elim (cases_lt (position_or_len (is_task t) tasks) (length tasks)) [
  | inl below ↦
      (let same : position_or_len (is_task t) tasks ≡ k =
      some_is (sym (ap (λ b. cond b (Some (position_or_len (is_task t) tasks)) None)
      (lt-ltb (position_or_len (is_task t) tasks) (length tasks) below)) ∙ is) in
      (subst (λ n. n < length tasks) same below, find_at (is_task t) tasks ∙ ap (slice_get tasks) same))
  | inr past ↦
      absurd
      (none_is (sym (ap (λ b. cond b (Some (position_or_len (is_task t) tasks)) None)
      (le-ltb (position_or_len (is_task t) tasks) (length tasks) past)) ∙ is))
]
  where
    some_is : {x y : ℕ} → Some x ≡ Some y → x ≡ y
    some_is e = cc e

    none_is : {y : ℕ} → None ≡ Some y → ⊥
    none_is e = cc e

-- where no task has the name there is none
pub no_task_there : (t : Name) (tasks : List TaskText) → position (is_task t) tasks ≡ None → find (is_task t) tasks ≡ None
no_task_there t tasks is = elim (cases_lt (position_or_len (is_task t) tasks) (length tasks)) [
  | inl below ↦
      absurd
      (some_none (sym (ap (λ b. cond b (Some (position_or_len (is_task t) tasks)) None)
      (lt-ltb (position_or_len (is_task t) tasks) (length tasks) below)) ∙ is))
  | inr past ↦ find_at (is_task t) tasks ∙ slice_get_past tasks (position_or_len (is_task t) tasks) past
]
  where
    some_none : {x : ℕ} → Some x ≡ None → ⊥
    some_none e = cc e

-- without arguments there are none
pub no_controls : (s : Scope) (params : List Param) → control_calcs s params [] ≡ []
no_controls s [] = refl
no_controls s (param.Ctl x ∷ params) = refl
no_controls s (param.Reg x ∷ params) = refl

pub no_gifts : (s : Scope) (given : List Name) (params : List Param) → gifts s given params [] ≡ []
no_gifts s given [] = refl
no_gifts s given (param.Ctl x ∷ params) = refl
no_gifts s given (param.Reg x ∷ params) = refl
