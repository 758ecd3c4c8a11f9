-- The code of tasks, one after the other, and the parts of a program's code.
use Rattle.std.proofs.Common.{◌≡◌, ℕ, zero, suc, ◌+◌, ◌<◌, List, [], ◌∷◌, ◌++◌, length, take, get_or, map, refl, sym, ap, ◌∙◌, subst, arith}
use Rattle.std.specs.Prelude.{slice_get}
use Rattle.std.proofs.lemmas.List.{map-append, map_more}
use Rattle.task_ast.specs.declared.tree.Program as program_here
use Rattle.task_ast.specs.declared.tree.TaskText as here
use Rattle.task_ast.specs.meaning.Tree.{Program}
use Rattle.task_ast.specs.meaning.Layout.{layout, lock_over}
use Rattle.task_ast.specs.meaning.Names.{locks_of}
use Rattle.task_ast.specs.meaning.Plain.{main_number, task_at}
use Rattle.task_ast.specs.Shaped.{IsAccepted}
use Rattle.task_ast.specs.View.{plain_task, plain_program}
use Rattle.task_code.specs.declared.instrs.Instr as instr_here
use Rattle.task_code.specs.declared.instrs.Shape.{Shape}
use Rattle.task_code.specs.declared.parts.Parts.{Parts}
use Rattle.task_code.specs.Instructions.{Instr}
use Rattle.task_code.specs.Existing.{shape_of, params_of, VariablesExist}
use Rattle.task_code.specs.Jumps.{AreInside, IsShort, IsCode}
use Rattle.task_code.specs.Lowering.{scope_of, task_code, lowered}
use Rattle.task_code.specs.Parts.{stated_numbers, AreParts}
use Rattle.task_code.specs.Reading.{instrs_of}
use Rattle.task_code.specs.View.{plain_instrs}
use Rattle.task_code.specs.inner.Tasks.{AreTasksOf}
use Rattle.task_code.proofs.Beginning.{instrs_at}
use Rattle.task_code.proofs.Existence.{all_exist}
use Rattle.task_code.proofs.Inside.{block_inside}
use Rattle.task_code.proofs.Rows.{one_more}

-- what stands at a place of a mapped list
pub at_map : {X Y : Type 0} (f : X → Y) (xs : List X) (ys : List Y) (k : ℕ) (x : X) (y : Y) → ys ≡ map f xs → k < length xs
    → x ≡ get_or xs k x → y ≡ get_or ys k y → y ≡ f x
at_map {X = X} {Y = Y} f xs ys k x y same below is there = there ∙ ap (λ l. get_or l k y) same ∙ go xs k y below ∙ ap f (sym is)
  where
    go : (xs : List X) (k : ℕ) (y : Y) → k < length xs → get_or (map f xs) k y ≡ f (get_or xs k x)
    go [] k y below = absurd (omega arith)
    go (x' ∷ xs) zero y below = refl
    go (x' ∷ xs) (suc k) y below = go xs k y (omega arith)

pub mapped : {X Y Z : Type 0} (f : Y → Z) (g : X → Y) (xs : List X) → map (λ x. f (g x)) xs ≡ map f (map g xs)
mapped f g [] = refl
mapped f g (x ∷ xs) = ap (λ l. f (g x) ∷ l) (mapped f g xs)

short_push : (codes : List (List Instr)) (code : List Instr) → ((k : ℕ) → IsShort (instrs_of codes k)) → IsShort code → (k : ℕ)
    → IsShort (instrs_of (codes ++ code ∷ []) k)
short_push [] code all short zero = short
short_push [] code all short (suc k) = omega arith
short_push (other ∷ codes) code all short zero = all zero
short_push (other ∷ codes) code all short (suc k) = short_push codes code (λ k. all (suc k)) short k

-- one task more
pub tasks_more : (program : Program) (texts : List here.TaskText) (k : ℕ) (text : here.TaskText) (tasks more : List (List instr_here.Instr))
    (shapes more_shapes : List Shape) (code : List instr_here.Instr) (shape : Shape)
    → k < length texts → text ≡ get_or texts k text → more ≡ tasks ++ code ∷ [] → more_shapes ≡ shapes ++ shape ∷ []
    → plain_instrs code ≡ task_code program (plain_task text) → shape ≡ shape_of (plain_task text) → IsShort (plain_instrs code)
    → AreTasksOf program (take k texts) tasks shapes → AreTasksOf program (take (k + 1) texts) more more_shapes
tasks_more program texts k text tasks more shapes more_shapes code shape below is pushed shapes_pushed made sized short so_far =
    record {
      code =
          one_more plain_instrs (λ text. task_code program (plain_task text)) tasks more texts k code text below is pushed made so_far.code;
      sizes =
          shapes_pushed ∙ ap (λ l. l ++ shape ∷ []) so_far.sizes
          ∙ ap (λ s. map (λ text. shape_of (plain_task text)) (take k texts) ++ s ∷ []) (sized ∙ ap (λ t. shape_of (plain_task t)) is)
          ∙ sym (map_more (λ text. shape_of (plain_task text)) texts k text below);
      short =
          λ j. subst (λ l. IsShort (instrs_of l j)) (sym (ap (map plain_instrs) pushed ∙ map-append plain_instrs tasks (code ∷ [])))
          (short_push (map plain_instrs tasks) (plain_instrs code) so_far.short short j);
    }

-- the jumps of each task's code stay inside it
inside_all : (program : Program) (k : ℕ) → AreInside (instrs_of (lowered program).tasks k)
inside_all program k =
    subst AreInside (sym (instrs_at program program.tasks k)) (block_inside (scope_of program (task_at program k)) (task_at program k).body)

is_code : (program : Program) (tasks : List (List Instr)) → IsAccepted program → tasks ≡ map (task_code program) program.tasks
    → ((k : ℕ) → IsShort (instrs_of tasks k)) → IsCode (record { program = program; tasks = tasks })
is_code program tasks accepted made short =
    record {
      accepted = accepted;
      made = ap (λ l. record { program = program; tasks = l }) made;
      inside = λ k. subst (λ l. AreInside (instrs_of l k)) (sym made) (inside_all program k);
      short = short;
      variables = λ k. subst (λ l. VariablesExist (shape_of (task_at program k)) (instrs_of l k)) (sym made)
          (subst (VariablesExist (shape_of (task_at program k))) (sym (instrs_at program program.tasks k))
          (all_exist program accepted.faultless k));
    }

-- the parts of a program's code
pub parts_made : (parts : Parts) (program : program_here.Program) → parts.program.value ≡ program → IsAccepted (plain_program program)
    → AreTasksOf (plain_program program) program.tasks parts.tasks parts.shapes → parts.params ≡ map params_of (plain_program program).tasks
    → parts.main ≡ main_number (plain_program program) → parts.barriers ≡ stated_numbers (plain_program program)
    → parts.layout ≡ layout program.heads → ((cell : ℕ) → slice_get parts.over cell ≡ lock_over (locks_of program.heads) program.heads cell)
    → AreParts parts
parts_made parts program same accepted tasks params main barriers is_layout over =
    record {
      code =
          subst (λ v. IsCode (record { program = plain_program v; tasks = map plain_instrs parts.tasks })) (sym same)
          (is_code (plain_program program) (map plain_instrs parts.tasks) accepted
          (tasks.code ∙ mapped (task_code (plain_program program)) plain_task program.tasks) tasks.short);
      shapes =
          subst (λ v. parts.shapes ≡ map shape_of (plain_program v).tasks) (sym same)
          (tasks.sizes ∙ mapped shape_of plain_task program.tasks);
      params = subst (λ v. parts.params ≡ map params_of (plain_program v).tasks) (sym same) params;
      main = subst (λ v. parts.main ≡ main_number (plain_program v)) (sym same) main;
      barriers = subst (λ v. parts.barriers ≡ stated_numbers (plain_program v)) (sym same) barriers;
      layout = subst (λ v. parts.layout ≡ layout v.heads) (sym same) is_layout;
      over = λ cell. subst (λ v. slice_get parts.over cell ≡ lock_over (locks_of v.heads) v.heads cell) (sym same) (over cell);
    }
