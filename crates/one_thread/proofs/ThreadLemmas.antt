-- Threads of a run.
use Rattle.std.proofs.Common.{◌≡◌, ℕ, zero, suc, ℤ, List, [], ◌∷◌, ◌++◌, map, Some, None, refl, sym, ap, ◌∙◌, option_map, unwrap_or}
use Rattle.std.specs.Prelude.{slice_get}
use Rattle.std.proofs.lemmas.Option.{slice_get-map}
use Rattle.task_ast.specs.declared.tree.Program.{Program as Code}
use Rattle.task_ast.specs.declared.tree.TaskText.{TaskText as CodeTask}
use Rattle.task_ast.specs.meaning.Tree.{Name, statements}
use Rattle.task_ast.specs.meaning.Names.{controls, declared_in}
use Rattle.task_ast.specs.meaning.Plain.{no_task, task_at, given, start_point}
use Rattle.task_ast.specs.View.{plain_task, plain_program, plain_stmts, plain_block}
use Rattle.task_ast.proofs.Arms.{some_is}
use Rattle.one_thread.specs.declared.walk.Walk.{Walk}
use Rattle.one_thread.specs.inner.Remaining.{left_of}
use Rattle.one_thread.specs.Runs.{slots_of, registers_at, IsNew}
use Rattle.one_thread.proofs.Lefts.{statements-block}

-- the task of a number, and the names of its registers
task-is : (code : Code) (k : ℕ) (text : CodeTask) → slice_get code.tasks k ≡ Some text → task_at (plain_program code) k ≡ plain_task text
task-is code k text at = ap (λ o. unwrap_or o no_task) (slice_get-map plain_task code.tasks k ∙ ap (option_map plain_task) at)

slots-is : (code : Code) (slots : List (List Name)) (k : ℕ) (text : CodeTask) (names : List Name) → slots ≡ map slots_of code.tasks
    → slice_get code.tasks k ≡ Some text → slice_get slots k ≡ Some names → names ≡ slots_of text
slots-is code slots k text names same at there =
    some_is (sym there ∙ ap (λ l. slice_get l k) same ∙ slice_get-map slots_of code.tasks k ∙ ap (option_map slots_of) at)

-- a thread at the start of a task
pub new-is : (code : Code) (slots : List (List Name)) (k me : ℕ) (arguments registers : List ℤ) (w : Walk) (text : CodeTask)
    (names : List Name) → slots ≡ map slots_of code.tasks → slice_get code.tasks k ≡ Some text → slice_get slots k ≡ Some names
    → w.program.now.program ≡ code → w.task.now ≡ text → w.registers.now ≡ names → left_of w.left ≡ plain_stmts text.body
    → w.env.names ≡ given (controls text.params) arguments ++ given (controls (declared_in text.vars)) []
    → w.env.regs ≡ [] → w.env.me ≡ me → w.data.registers ≡ registers → IsNew code k me arguments registers w
new-is code slots k me arguments registers w text names same at there program task slot left names_are clean me_is data_are =
    record {
      sound =
          record {
            program = program;
            registers = slot ∙ slots-is code slots k text names same at there
                ∙ sym (ap slots_of task);
            clean = clean;
          };
      at =
          ap (λ t. record { task = plain_task t; left = left_of w.left; names = w.env.names; me = w.env.me }) task
          ∙ ap (λ l. record { task = plain_task text; left = l; names = w.env.names; me = w.env.me })
          (left ∙ sym (statements-block (plain_stmts text.body)))
          ∙ ap (λ n. record { task = plain_task text; left = statements (plain_block text.body); names = n; me = w.env.me }) names_are
          ∙ ap (λ m. record {
            task = plain_task text;
            left = statements (plain_block text.body);
            names = given (controls text.params) arguments ++ given (controls (declared_in text.vars)) [];
            me = m;
          }) me_is
          ∙ ap (λ t. start_point t me arguments) (sym (task-is code k text at));
      data_are = data_are;
    }

-- the registers of a thread that is there, and of one that isn't
pub registers-there : (walks : List Walk) (u : ℕ) (w : Walk) → slice_get walks u ≡ Some w → registers_at walks u ≡ w.data.registers
registers-there [] u w at = absurd (cc at)
registers-there (x ∷ walks) zero w at = ap (λ w. w.data.registers) (some_is at)
registers-there (x ∷ walks) (suc u) w at = registers-there walks u w at

pub registers-missing : (walks : List Walk) (u : ℕ) → slice_get walks u ≡ None → registers_at walks u ≡ []
registers-missing [] u at = refl
registers-missing (x ∷ walks) zero at = absurd (cc at)
registers-missing (x ∷ walks) (suc u) at = registers-missing walks u at
