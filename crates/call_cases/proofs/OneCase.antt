-- A call has one case, which its words and the files tell, where the files beside a program supply one.
use Rattle.std.proofs.Common.{◌≡◌, ℕ, List, [], IfSome, refl, sym, ◌∙◌, ap, subst}
use Rattle.std.specs.declared.option.Option.{Option}
use Rattle.std.specs.declared.option.Option.TheVariants.{None, Some}
use Rattle.gp_base.specs.meaning.Files.{bytes_of}
use Rattle.task_ast.specs.meaning.Tree.{Program}
use Rattle.task_ast.specs.meaning.Check.{check_fault}
use Rattle.task_ast.specs.declared.check_kind.CheckKind.{CheckKind}
use Rattle.task_parser.specs.meaning.Spelling.{Meaning, Means, Stands, LexFails, ParseFails}
use Rattle.task_parser.proofs.OneSpelling.{one_meaning, some_meaning}
use Rattle.command_line.specs.declared.asked.Asked.{Asked}
use Rattle.call_cases.specs.meaning.Work.{Files, Case, absent_case, after_file}
use Rattle.call_cases.specs.meaning.InputFiles.{supplied_by}
use Rattle.call_cases.specs.meaning.RunCommands as run
use Rattle.call_cases.specs.meaning.Commands.{Asking}
use Rattle.call_cases.specs.meaning.Case.{IsCaseOf, no_program, of_text, IsCase, no_command, asks, ForCase, IsCheckedCase, IsMeantCase}
use Rattle.call_cases.specs.meaning.Laws.{HasOneCase}

value_of : {A : Type 0} → A → Option A → A
value_of d None = d
value_of d (Some x) = x

-- an option holds one value
pub same_some : {A : Type 0} (o : Option A) (x y : A) → o ≡ Some x → o ≡ Some y → x ≡ y
unfolding value_of
same_some o x y is_x is_y = ap (value_of x) (sym is_x ∙ is_y)

pub none_some : {A : Type 0} (o : Option A) (x : A) → o ≡ None → o ≡ Some x → ⊥
none_some o x none some = let e : None ≡ Some x = sym none ∙ some in cc

-- the files beside an accepted program supply one case
pub record SuppliesOne {A T : Type 0} (asking : Asking A T) : Type 0 where
  pub some : (asked : A) (program : Program) (files : Files) → (case : Case T) × asking.supplies asked program files case
  pub one : (asked : A) (program : Program) (files : Files) (a b : Case T) → asking.supplies asked program files a
      → asking.supplies asked program files b → a ≡ b

module _ {A T : Type 0} (asking : Asking A T) (once : SuppliesOne asking) (asked : A) (files : Files) where
  one_checked : (program : Program) (fault : Option (CheckKind × ℕ)) (a b : Case T) → IsCheckedCase asking files asked program fault a
      → IsCheckedCase asking files asked program fault b → a ≡ b
  one_checked program (Some fault) a b is other = is ∙ sym other
  one_checked program None a b (given, supplies, is) (given', supplies', is') =
      is ∙ (ap (after_file (asking.program asked)) (once.one asked program files given given' supplies supplies') ∙ sym is')

  one_meant : (meaning : Meaning) (a b : Case T) → IsMeantCase asking files asked meaning a → IsMeantCase asking files asked meaning b → a ≡ b
  one_meant (LexFails fault) a b is other = is ∙ sym other
  one_meant (ParseFails fault) a b is other = is ∙ sym other
  one_meant (Stands program) a b is other = one_checked program (check_fault program) a b is other

  -- what is asked has one case over the same files
  pub one_case_of : (a b : Case T) → IsCaseOf asking asked files a → IsCaseOf asking asked files b → a ≡ b
  one_case_of a b (no_program absent) (no_program absent') = refl
  one_case_of a b (no_program absent) (of_text {text} meaning there means is) =
      absurd (none_some (bytes_of files (asking.program asked)) text absent there)
  one_case_of a b (of_text {text} meaning there means is) (no_program absent) =
      absurd (none_some (bytes_of files (asking.program asked)) text absent there)
  one_case_of a b (of_text {text} meaning there means is) (of_text {text = text'} meaning' there' means' is') =
      let texts = same_some (bytes_of files (asking.program asked)) text' text there' there in
      let same = one_meaning text meaning meaning' means (subst (λ u. Means u meaning') texts means') in
      one_meant meaning a b is (subst (λ m. IsMeantCase asking files asked m b) (sym same) is')

  some_checked : (program : Program) (fault : Option (CheckKind × ℕ)) → (case : Case T) × IsCheckedCase asking files asked program fault case
  some_checked program (Some fault) = (_, refl)
  some_checked program None = let found = once.some asked program files in (_, (found.0, found.1, refl))

  some_meant : (meaning : Meaning) → (case : Case T) × IsMeantCase asking files asked meaning case
  some_meant (LexFails fault) = (_, refl)
  some_meant (ParseFails fault) = (_, refl)
  some_meant (Stands program) = some_checked program (check_fault program)

  pub some_case_of : (case : Case T) × IsCaseOf asking asked files case
  some_case_of = found (bytes_of files (asking.program asked)) refl
    where
      found : (bytes : Option (List ℕ)) → bytes_of files (asking.program asked) ≡ bytes → (case : Case T) × IsCaseOf asking asked files case
      found None absent = (absent_case [] (asking.program asked), no_program absent)
      found (Some text) there =
          let m = some_meaning text in
          let meant = some_meant m.0 in
          (meant.0, of_text m.0 there m.1 meant.1)

-- and so each call has one case
module _ {A T : Type 0} (asking : Asking A T) (once : SuppliesOne asking) where
  one_case : (words : List (List ℕ)) (files : Files) (a b : Case T) → IsCase asking words files a → IsCase asking words files b → a ≡ b
  one_case words files a b (no_command none) (no_command none') = refl
  one_case words files a b (no_command none) (asks {asked} some is) = absurd (none_some (asking.reading words) asked none some)
  one_case words files a b (asks {asked} some is) (no_command none) = absurd (none_some (asking.reading words) asked none some)
  one_case words files a b (asks {asked} some is) (asks {asked = asked'} some' is') =
      let same = same_some (asking.reading words) asked' asked some' some in
      one_case_of asking once asked (asking.files asked files) a b is
      (subst (λ (x : A). IsCaseOf asking x (asking.files x files) b) same is')

  some_case : (words : List (List ℕ)) (files : Files) → (case : Case T) × IsCase asking words files case
  some_case words files = go (asking.reading words) refl
    where
      go : (asked : Option A) → asking.reading words ≡ asked → (case : Case T) × IsCase asking words files case
      go None none = (_, no_command none)
      go (Some asked) some = let found = some_case_of asking once asked (asking.files asked files) in (found.0, asks some found.1)

  pub has_one_case : HasOneCase asking
  has_one_case = record { some = some_case; one = one_case }

-- each call whose words ask for what those of `gprs` do
pub run_supplies : (reading : List (List ℕ) → Option Asked) → SuppliesOne (record run.asking { reading = reading })
run_supplies reading =
    record { some = λ asked program files. (supplied_by asked program files, refl); one = λ asked program files a b is other. is ∙ sym other }

pub run_case : (reading : List (List ℕ) → Option Asked) → HasOneCase (record run.asking { reading = reading })
run_case reading = has_one_case (record run.asking { reading = reading }) (run_supplies reading)

-- what holds of a case that is known holds of the case
pub for_known : {A T : Type 0} (asking : Asking A T) (once : HasOneCase asking) (words : List (List ℕ)) (files : Option Files) (known : Case T)
    (P : Case T → Type 0) → IfSome files (λ told. IsCase asking words told known) → P known → ForCase asking words files P
for_known asking once words None known P is holds = tt
for_known asking once words (Some files) known P is holds =
    λ case is_case. subst P (once.one words files known case is is_case) holds

-- what holds of each case
pub for_each : {A T : Type 0} (asking : Asking A T) (words : List (List ℕ)) (files : Option Files) (P : Case T → Type 0)
    → ((case : Case T) → P case) → ForCase asking words files P
for_each asking words None P holds = tt
for_each asking words (Some files) P holds = λ case is_case. holds case

-- what follows in each case from what holds of it
pub for_map : {A T : Type 0} (asking : Asking A T) (words : List (List ℕ)) (files : Option Files) (P Q : Case T → Type 0)
    → ((case : Case T) → P case → Q case)
    → ForCase asking words files P → ForCase asking words files Q
for_map asking words None P Q to holds = tt
for_map asking words (Some files) P Q to holds = λ case is_case. to case (holds case is_case)
