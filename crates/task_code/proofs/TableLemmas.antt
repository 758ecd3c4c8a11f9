-- What is found in tables by name.
use Rattle.std.proofs.Common.{◌≡◌, suc, cond, List, [], ◌∷◌, map, Some, option_map, refl, sym, ap, ◌∙◌, position}
use Rattle.task_ast.specs.meaning.Tree.{Name, TaskText}
use Rattle.task_ast.specs.meaning.Names.{is_name, is_task}
use Rattle.task_ast.proofs.Terms.{position-cons}

-- the place of a name among the names of pairs, and among the names of tasks
pub position_firsts : {T : Type 0} (x : Name) (pairs : List (Name × T))
    → position (is_name x) (map (λ n. n.0) pairs) ≡ position (λ other. is_name x other.0) pairs
position_firsts x [] = refl
position_firsts x (pair ∷ pairs) =
    position-cons (is_name x) pair.0 (map (λ n. n.0) pairs)
    ∙ ap (λ o. cond (is_name x pair.0) (Some 0) (option_map suc o)) (position_firsts x pairs)
    ∙ sym (position-cons (λ other. is_name x other.0) pair pairs)

pub position_names : (x : Name) (tasks : List TaskText) → position (is_name x) (map (λ t. t.name) tasks) ≡ position (is_task x) tasks
position_names x [] = refl
position_names x (task ∷ tasks) =
    position-cons (is_name x) task.name (map (λ t. t.name) tasks)
    ∙ ap (λ o. cond (is_name x task.name) (Some 0) (option_map suc o)) (position_names x tasks)
    ∙ sym (position-cons (is_task x) task tasks)
