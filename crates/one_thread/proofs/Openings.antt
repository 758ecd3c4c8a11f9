-- The start of a run.
use Rattle.std.proofs.Common.{◌≡◌, ℕ, zero, suc, ◌+◌, ◌-◌, ◌<◌, ℤ, pos, Bool, true, false, cond, List, [], ◌∷◌, ◌++◌, map, length, Option, Some, None, refl, sym, ap, ◌∙◌, subst, arith, unwrap_or, option_map, append_assoc, nat_eq, position, zip, add-one}
use Rattle.std.specs.Prelude.{slice_get, replicate}
use Rattle.std.proofs.lemmas.Bool.{eqb-true, eq-eqb, false≢true}
use Rattle.std.proofs.lemmas.List.{length-map}
use Rattle.std.proofs.lemmas.Option.{slice_get-map}
use Rattle.gp_base.specs.declared.limits.Limits.{Limits}
use Rattle.gp_base.specs.declared.feed.Inputs.{Inputs}
use Rattle.task_ast.specs.declared.tree.Program.{Program as Code}
use Rattle.task_ast.specs.declared.tree.TaskText.{TaskText as CodeTask}
use Rattle.task_ast.specs.meaning.Tree.{Name}
use Rattle.task_ast.specs.meaning.Names.{is_name, is_task, registers_of, records_of, feeds_of, cells_in}
use Rattle.task_ast.specs.meaning.Declarations.{main}
use Rattle.task_ast.specs.meaning.State.{number_at}
use Rattle.task_ast.specs.meaning.Table.{numbers}
use Rattle.task_ast.specs.meaning.Plain.{no_task, task_at, main_number}
use Rattle.task_ast.specs.Plain.{opening}
use Rattle.task_ast.specs.View.{plain_task, plain_program}
use Rattle.task_ast.proofs.Terms.{position-cons}
use Rattle.task_ast.proofs.Arms.{some_is}
use Rattle.one_thread.specs.declared.walk.Walk.{Walk}
use Rattle.one_thread.specs.declared.threads.Run.{Run}
use Rattle.one_thread.specs.Holding.{AreHeld}
use Rattle.one_thread.specs.View.{table_of, WalksStand}
use Rattle.one_thread.specs.Walking.{point_of}
use Rattle.one_thread.specs.Runs.{slots_of, registers_at, IsSound, AreSound, IsNew, Holds}
use Rattle.one_thread.specs.inner.Start.{IsFirst}

-- ---- cells
numbers-next : (c n : ℕ) → c < n → numbers c (n - c) ≡ c ∷ numbers (c + 1) (n - (c + 1))
numbers-next c n less = go (n - c) refl
  where
    go : (m : ℕ) → n - c ≡ m → numbers c m ≡ c ∷ numbers (c + 1) (n - (c + 1))
    go zero is = absurd (omega arith)
    go (suc m) is = ap (λ l. c ∷ l) (ap (λ a. numbers a m) (sym (add-one c)) ∙ ap (numbers (c + 1)) (omega arith))

-- one cell more
pub cell-more : (f : ℕ → ℤ) (cells more : List ℤ) (v : ℤ) (c n : ℕ) → c < n → more ≡ cells ++ v ∷ [] → v ≡ f c
    → more ++ map f (numbers (c + 1) (n - (c + 1))) ≡ cells ++ map f (numbers c (n - c))
cell-more f cells more v c n less pushed is =
    ap (λ l. l ++ map f (numbers (c + 1) (n - (c + 1)))) pushed ∙ append_assoc cells (v ∷ []) (map f (numbers (c + 1) (n - (c + 1))))
    ∙ ap (λ x. cells ++ x ∷ map f (numbers (c + 1) (n - (c + 1)))) is
    ∙ ap (λ l. cells ++ map f l) (sym (numbers-next c n less))

length-numbers : (a n : ℕ) → length (numbers a n) ≡ n
length-numbers a zero = refl
length-numbers a (suc n) = ap suc (length-numbers (suc a) n)

at-number : (f : ℕ → ℤ) (a n c : ℕ) → c < n → number_at (map f (numbers a n)) c ≡ f (a + c)
at-number f a zero c less = absurd (omega arith)
at-number f a (suc n) zero less = ap f (omega arith)
at-number f a (suc n) (suc c) less = at-number f (suc a) n c (omega arith) ∙ ap f (omega arith)

-- ---- the task of thread 0
position-map : {A B : Type 0} (f : A → B) (p : B → Bool) (xs : List A) → position p (map f xs) ≡ position (λ x. p (f x)) xs
position-map f p [] = refl
position-map f p (x ∷ xs) =
    position-cons p (f x) (map f xs) ∙ ap (λ o. cond (p (f x)) (Some 0) (option_map suc o)) (position-map f p xs)
    ∙ sym (position-cons (λ x. p (f x)) x xs)

main-is : (code : Code) (k : ℕ) → k ≡ unwrap_or (position {X = CodeTask} (λ task. is_name main task.name) code.tasks) 0
    → k ≡ main_number (plain_program code)
main-is code k is = is ∙ ap (λ o. unwrap_or o 0) (sym (position-map plain_task (is_task main) code.tasks))

names-are : (code : Code) (slots : List (List Name)) (k : ℕ) (names : List Name) → slots ≡ map slots_of code.tasks
    → slice_get slots k ≡ Some names → names ≡ registers_of (task_at (plain_program code) k)
names-are code slots k names same at = go (slice_get code.tasks k) refl
  where
    go : (o : Option CodeTask) → slice_get code.tasks k ≡ o → names ≡ registers_of (task_at (plain_program code) k)
    go None there =
        absurd (cc (sym at ∙ ap (λ l. slice_get l k) same ∙ slice_get-map slots_of code.tasks k ∙ ap (option_map slots_of) there))
    go (Some text) there =
        some_is (sym at ∙ ap (λ l. slice_get l k) same ∙ slice_get-map slots_of code.tasks k ∙ ap (option_map slots_of) there)
        ∙ ap (λ o. registers_of (unwrap_or o no_task)) (sym (slice_get-map plain_task code.tasks k ∙ ap (option_map plain_task) there))

one-sound : (code : Code) (w : Walk) → IsSound code w → AreSound code (w ∷ [])
one-sound code w sound = record { each = each }
  where
    each : (u : ℕ) (v : Walk) → slice_get (w ∷ []) u ≡ Some v → IsSound code v
    each zero v at = subst (IsSound code) (some_is at) sound
    each (suc u) v at = absurd (cc at)

one-register : (code : Code) (inputs : Inputs) (limits : Limits) (w : Walk) (registers : List ℤ) (u : ℕ) → w.data.registers ≡ registers
    → registers ≡ replicate (length (registers_of (task_at (plain_program code) (main_number (plain_program code))))) (pos 0)
    → registers_at (w ∷ []) u ≡ cond (nat_eq 0 u)
    (replicate (length (registers_of (task_at (plain_program code) (main_number (plain_program code))))) (pos 0)) []
one-register code inputs limits w registers zero here all = go (nat_eq 0 0) refl
  where
    go : (b : Bool) → nat_eq 0 0 ≡ b
        → w.data.registers ≡ cond b (replicate (length (registers_of (task_at (plain_program code) (main_number (plain_program code)))))
        (pos 0)) []
    go true is = here ∙ all
    go false is = absurd (false≢true (sym is ∙ eq-eqb 0 0 refl))
one-register code inputs limits w registers (suc u) here all = go (nat_eq 0 (suc u)) refl
  where
    go : (b : Bool) → nat_eq 0 (suc u) ≡ b
        → [] ≡ cond b (replicate (length (registers_of (task_at (plain_program code) (main_number (plain_program code))))) (pos 0)) []
    go true is = absurd (let e = eqb-true 0 (suc u) is in omega (arith, e))
    go false is = refl

-- the thread of the first task that is named `main`
pub first-thread : (code : Code) (slots : List (List Name)) (k : ℕ) (names : List Name) (registers : List ℤ) (w : Walk)
    → slots ≡ map slots_of code.tasks
    → k ≡ unwrap_or (position {X = CodeTask} (λ task. is_name main task.name) code.tasks) 0
    → slice_get slots k ≡ Some names → registers ≡ replicate (length names) (pos 0) → IsNew code k 0 [] registers w
    → IsFirst code w
first-thread code slots k names registers w same main_is at registers_are new =
    subst (λ n. IsNew code n 0 [] (replicate (length (registers_of (task_at (plain_program code) n))) (pos 0)) w) (main-is code k main_is)
    (subst (λ l. IsNew code k 0 [] l w) (registers_are ∙ ap (λ n. replicate (length n) (pos 0)) (names-are code slots k names same at)) new)

-- the run before its first subthread
pub opening-holds : (code : Code) (inputs : Inputs) (limits : Limits) (run : Run) (w : Walk)
    → run.program.now.program ≡ code → run.slots.now ≡ map slots_of code.tasks → run.turns ≡ limits.turns
    → IsFirst code w
    → run.threads.items ≡ w ∷ []
    → table_of run.table ≡ (opening (plain_program code) inputs limits).table
    → AreHeld run.table.owners.owners.items run.table.owners.held.items → WalksStand run.table
    → run.shared.cells ≡ map (number_at inputs.records) (numbers 0 (cells_in (records_of code.heads)))
    → run.shared.feeds ≡ zip (feeds_of code.heads) inputs.feeds
    → Holds code inputs limits run (opening (plain_program code) inputs limits)
opening-holds code inputs limits run w program slots turns new threads table held walks cells feeds =
    record {
      program = program;
      slots = slots;
      turns = turns;
      feeds = feeds;
      held = held;
      walks = walks;
      table = table;
      sound = subst (AreSound code) (sym threads) (one-sound code w new.sound);
      points = ap (map point_of) threads ∙ ap (λ p. p ∷ []) new.at;
      registers = λ u. ap (λ l. registers_at l u) threads ∙ one-register code inputs limits w _ u new.data_are refl;
      cells =
          λ c less. ap (λ l. number_at l c) cells ∙ at-number (number_at inputs.records) 0 (cells_in (records_of code.heads)) c less
          ∙ ap (number_at inputs.records) (omega arith);
      many =
          ap length cells ∙ length-map (numbers 0 (cells_in (records_of code.heads))) (number_at inputs.records)
          ∙ length-numbers 0 (cells_in (records_of code.heads));
    }
