-- The control variables at the start of a task.
use Rattle.std.proofs.Common.{◌≡◌, ℕ, zero, suc, ◌+◌, ◌-◌, ◌≤◌, List, [], ◌∷◌, ◌++◌, length, take, map, Option, Some, None, refl, sym, ap, ◌∙◌, arith, append_assoc, length-append}
use Rattle.std.specs.Prelude.{ℤ, pos, replicate, slice_get, option_map, unwrap_or}
use Rattle.std.proofs.lemmas.List.{replicate-append-replicate, length-take}
use Rattle.task_ast.specs.meaning.Tree.{Name, TaskText}
use Rattle.task_ast.specs.meaning.Names.{controls, declared_in, controls_of}
use Rattle.task_ast.specs.Names.{seconds}
use Rattle.task_ast.specs.meaning.Plain.{given, no_task}
use Rattle.task_ast.specs.View.{plain_task}
use Rattle.task_code.specs.declared.instrs.Shape.{Shape}
use Rattle.task_code.specs.declared.parts.Parts.{Parts}
use Rattle.task_code.specs.Flat.{Flat}
use Rattle.task_code.specs.Parts.{flat_of, AreParts}
use Rattle.task_code.specs.Existing.{shape_of, params_of}
use Rattle.task_code.specs.inner.Padded.{padded}
use Rattle.task_code.proofs.VariableLines.{controls-append}

seconds-append : {T : Type 0} (a b : List (Name × T)) → seconds (a ++ b) ≡ seconds a ++ seconds b
seconds-append [] b = refl
seconds-append (x ∷ a) b = ap (λ l. x.1 ∷ l) (seconds-append a b)

zeros : (names : List Name) → seconds (given names []) ≡ replicate (length names) (pos 0)
zeros [] = refl
zeros (x ∷ names) = ap (λ l. pos 0 ∷ l) (zeros names)

filled : (names : List Name) (values : List ℤ)
    → seconds (given names values) ≡ take (length names) values ++ replicate (length names - length values) (pos 0)
filled [] values = let none : 0 ≡ 0 - length values = omega arith in ap (λ n. replicate n (pos 0)) none
filled (x ∷ names) [] =
    let all : suc (length names) ≡ suc (length names) - 0 = omega arith in
    ap (λ l. pos 0 ∷ l) (zeros names) ∙ ap (λ n. replicate n (pos 0)) all
filled (x ∷ names) (v ∷ values) =
    ap (λ l. v ∷ l) (filled names values ∙ ap (λ n. take (length names) values ++ replicate n (pos 0)) (omega arith))

-- those of a task, from the values of its control parameters
pub values_of : (task : TaskText) (values : List ℤ)
    → padded (params_of task) (length (controls_of task)) values
    ≡ seconds (given (controls task.params) values ++ given (controls (declared_in task.vars)) [])
values_of task values =
    let p = length (controls task.params) in
    let d = length (controls (declared_in task.vars)) in
    let first = take p values in
    let whole =
    ap length (controls-append task.params (declared_in task.vars))
    ∙ length-append (controls task.params) (controls (declared_in task.vars)) in
    let taken = length-take p values in
    let rest : length (controls_of task) - length first ≡ (p - length values) + d = omega arith in
    ap (λ n. first ++ replicate n (pos 0)) rest ∙ ap (λ l. first ++ l) (sym (replicate-append-replicate (p - length values) d (pos 0)))
    ∙ sym (append_assoc first (replicate (p - length values) (pos 0)) (replicate d (pos 0)))
    ∙ ap (λ l. (first ++ replicate (p - length values) (pos 0)) ++ l) (sym (zeros (controls (declared_in task.vars))))
    ∙ ap (λ l. l ++ seconds (given (controls (declared_in task.vars)) [])) (sym (filled (controls task.params) values))
    ∙ sym (seconds-append (given (controls task.params) values) (given (controls (declared_in task.vars)) []))

-- a task has no more control parameters than control variables
pub params_few : (task : TaskText) → params_of task ≤ length (controls_of task)
params_few task =
    let whole =
    ap length (controls-append task.params (declared_in task.vars))
    ∙ length-append (controls task.params) (controls (declared_in task.vars)) in
    omega arith

get_map : {X Y : Type 0} (f : X → Y) (xs : List X) (k : ℕ) → slice_get (map f xs) k ≡ option_map f (slice_get xs k)
get_map f [] k = refl
get_map f (x ∷ xs) zero = refl
get_map f (x ∷ xs) (suc k) = get_map f xs k

-- how many control variables a task of this shape has, where there is one
abbrev pub count_in : Option Shape → ℕ
count_in shape = unwrap_or (option_map (λ s. s.ctl) shape) 0

-- the same of a task that may be there
pub values_there : (o : Option TaskText) (values : List ℤ)
    → padded (unwrap_or (option_map params_of o) 0) (count_in (option_map shape_of o)) values
    ≡ seconds (given (controls (unwrap_or o no_task).params) values ++ given (controls (declared_in (unwrap_or o no_task).vars)) [])
values_there None values = refl
values_there (Some task) values = values_of task values

pub few_there : (o : Option TaskText) → unwrap_or (option_map params_of o) 0 ≤ count_in (option_map shape_of o)
few_there None = omega arith
few_there (Some task) = params_few task

-- what is found in the parts of code
pub params_at : (parts : Parts) (flat : Flat) (k n : ℕ) (got copied : Option ℕ) → AreParts parts → flat_of parts ≡ flat
    → got ≡ slice_get parts.params k → copied ≡ got → n ≡ unwrap_or copied 0
    → n ≡ unwrap_or (option_map params_of (slice_get (map plain_task flat.program.tasks) k)) 0
params_at parts flat k n got copied are same there is value =
    value
    ∙ ap (λ o. unwrap_or o 0)
    (is ∙ there ∙ ap (λ l. slice_get l k) are.params ∙ ap (λ f. slice_get (map params_of (map plain_task f.program.tasks)) k) same
    ∙ get_map params_of (map plain_task flat.program.tasks) k)
