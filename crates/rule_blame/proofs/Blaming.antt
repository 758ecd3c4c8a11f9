-- What is found in a list of the program, as a blame says it.
use Rattle.std.proofs.Common.{◌≡◌, ◌∙◌, ◌<◌, ◌+◌, ℕ, Bool, true, false, List, [], ◌∷◌, ◌++◌, length, get_or, take, drop, map, refl, ap, sym, subst, arith, nat_lt}
use Rattle.std.specs.Prelude.{IfOk, Result, Ok, Err}
use Rattle.std.specs.List.{Contains}
use Rattle.std.proofs.lemmas.List.{map-append, get_or-map, length-map, take-append-drop, drop_more}
use Rattle.task_ast.specs.declared.tree.Head.{Head}
use Rattle.task_ast.specs.declared.tree.Head.TheVariants.{LockHead, BarrierHead, RecHead, FeedHead}
use Rattle.task_ast.specs.declared.tree.Param.{Param}
use Rattle.task_ast.specs.declared.tree.TaskText.{TaskText as CodeTask}
use Rattle.task_ast.specs.meaning.Tree.{Name, TaskText, Program}
use Rattle.task_ast.specs.meaning.Names.{head_name}
use Rattle.task_ast.specs.meaning.Declarations.{has_params, head_line}
use Rattle.task_ast.specs.View.{plain_task}
use Rattle.rule_blame.specs.declared.entries.Entry.{Entry}
use Rattle.rule_blame.specs.declared.blames.Many.TheVariants as many
use Rattle.rule_blame.specs.declared.blames.Blame.{Blame}
use Rattle.rule_blame.specs.declared.blames.Blame.TheVariants as blame
use Rattle.rule_blame.specs.Points.{points_in}
use Rattle.rule_blame.specs.Blames.{IsTrue, IsManyTrue, many_of, limit_of, count_with}
use Rattle.rule_blame.specs.Told.{IsTrueAmong, IsTrueOfTask}
use Rattle.rule_blame.specs.DeclaredNames.{IsTwice}
use Rattle.rule_blame.specs.Views.{entry_of, entries_in}

-- a list is what stands before an element, the element, and what stands after it
pub split_at : {X : Type 0} (xs : List X) (i : ℕ) (x : X) → i < length xs → x ≡ get_or xs i x → xs ≡ take i xs ++ x ∷ drop (i + 1) xs
split_at {X = X} xs i x within is =
    sym (take-append-drop i xs) ∙ ap (λ (l : List X). take i xs ++ l) (drop_more xs i x within ∙ ap (λ (y : X). y ∷ drop (i + 1) xs) (sym is))

pub task_among : (tasks : List CodeTask) (i : ℕ) (task : CodeTask) → i < length tasks → task ≡ get_or tasks i task
    → Contains (map plain_task tasks) (plain_task task)
task_among tasks i task within is =
    (i, omega (arith, length-map tasks plain_task), get_or-map plain_task tasks i task (plain_task task) within ∙ ap plain_task (sym is))

pub twice_at : (entries : List Entry) (i : ℕ) (e : Entry) (first line : ℕ) → i < length entries → e ≡ get_or entries i e → e.line ≡ line
    → Contains (entries_in (take i entries)) (e.name.now, first) → IsTwice (entries_in entries) e.name.now first line
twice_at entries i e first line within is here earlier = record {
  before = entries_in (take i entries);
  after = entries_in (drop (i + 1) entries);
  parts = ap entries_in (split_at entries i e within is) ∙ map-append entry_of (take i entries) (e ∷ drop (i + 1) entries)
      ∙ ap (λ (n : ℕ). entries_in (take i entries) ++ (e.name.now, n) ∷ entries_in (drop (i + 1) entries)) here;
  earlier = earlier;
}

pub some_params : (params : List Param) → ((params ≡ []) → ⊥) → has_params params ≡ true
some_params [] none = absurd (none refl)
some_params (p ∷ params) none = refl

pub head_passes : (program : Program) (line : ℕ) (before : List Head) (head : Head) (after : List Head)
    → program.heads ≡ before ++ head ∷ after → head_line head ≡ line → limit_of head < count_with before head
    → IsManyTrue program line (many_of head) (head_name head) (count_with before head)
head_passes program line before (LockHead name size at) after parts here more = record {
  before = before;
  head = LockHead name size at;
  after = after;
  parts = parts;
  in_line = here;
  named_so = refl;
  of_that = refl;
  counted = refl;
  passes = more;
}
head_passes program line before (BarrierHead name number at) after parts here more = record {
  before = before;
  head = BarrierHead name number at;
  after = after;
  parts = parts;
  in_line = here;
  named_so = refl;
  of_that = refl;
  counted = refl;
  passes = more;
}
head_passes program line before (RecHead name size by from at) after parts here more = record {
  before = before;
  head = RecHead name size by from at;
  after = after;
  parts = parts;
  in_line = here;
  named_so = refl;
  of_that = refl;
  counted = refl;
  passes = more;
}
head_passes program line before (FeedHead name fields from at) after parts here more = record {
  before = before;
  head = FeedHead name fields from at;
  after = after;
  parts = parts;
  in_line = here;
  named_so = refl;
  of_that = refl;
  counted = refl;
  passes = more;
}

-- what is true of a statement of a task is true of the line
pub statement_true : (program : Program) (line : ℕ) (task : TaskText) (told : Blame) → Contains program.tasks task
    → IsTrueAmong (record { program = program; task = task }) line (points_in task.body []) told → IsTrue program line told
statement_true program line task blame.NoMain among h = absurd h.is
statement_true program line task (blame.NoArray array) among h = absurd h.is
statement_true program line task (blame.Twice name first) among h = absurd h.is
statement_true program line task (blame.VariableTwice dollar name first) among h = absurd h.is
statement_true program line task blame.Return among h = absurd h.is
statement_true program line task (blame.NoSize name) among h = absurd h.is
statement_true program line task blame.MainTakes among h = absurd h.is
statement_true program line task (blame.KeptAtEnd taken name) among h = absurd h.is
statement_true program line task (blame.Sizes cells size array other) among h = absurd h.is
statement_true program line task (blame.TooMany what name count) among h = absurd h.is
statement_true program line task told among h =
    record { task = task; among = among; point = h.point; stands = h.stands; in_line = h.in_line; is = h.is }

-- a task of the code is one of the program that definitions see
pub plain_among : (tasks : List CodeTask) (task : CodeTask) → Contains tasks task → Contains (map plain_task tasks) (plain_task task)
plain_among tasks task h = (
  h.0,
  omega (arith, h.1, length-map tasks plain_task),
  get_or-map plain_task tasks h.0 task (plain_task task) h.1 ∙ ap plain_task h.2,
)

-- what is true of the variables of a task is true of the line
pub task_true : (program : Program) (line : ℕ) (task : TaskText) (told : Blame) → Contains program.tasks task → IsTrueOfTask task line told
    → IsTrue program line told
task_true program line task (blame.VariableTwice dollar name first) among h = record { task = task; among = among; is = h }
task_true program line task (blame.TooMany many.Variables name count) among h = record { task = task; among = among; is = h }
task_true program line task told among h = absurd h

-- what holds of a result holds of it where it implies another
pub widen : {T E : Type 0} (P Q : T → Type 0) (r : Result T E) → ((x : T) → P x → Q x) → IfOk r P → IfOk r Q
widen P Q (Ok x) more h = more x h
widen P Q (Err e) more h = tt
