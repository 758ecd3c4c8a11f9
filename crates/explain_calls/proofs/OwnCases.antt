-- The case of a call that explains.
use Rattle.std.proofs.Common.{◌≡◌, ◌∙◌, ◌++◌, ℕ, List, [], IfSome, refl, sym, subst, inl, inr, append-nil}
use Rattle.std.specs.Prelude.{codes}
use Rattle.std.specs.declared.option.Option.{Option}
use Rattle.std.specs.declared.option.Option.TheVariants.{None, Some}
use Rattle.std.specs.declared.result.Result.{Result}
use Rattle.std.specs.declared.result.Result.TheVariants.{Ok, Err}
use Rattle.command_line.specs.declared.asked.Asked.{Asked}
use Rattle.call_cases.specs.declared.work.Request.{Request}
use Rattle.task_ast.specs.meaning.Tree.{Name}
use Rattle.call_cases.specs.declared.reading.Refusal.{Refusal}
use Rattle.call_cases.specs.declared.reading.Refusal.TheVariants.{Usage as RefusedUsage, BadProgram as RefusedProgram, BadInput as RefusedInput, ReadFault, OutOfMemory}
use Rattle.call_cases.specs.meaning.Work.{Files, ToDo, Case, Refused, Go}
use Rattle.call_cases.specs.meaning.RunCommands as run
use Rattle.call_cases.specs.meaning.RunCommands.{MayRead}
use Rattle.call_cases.specs.meaning.Case.{IsCaseOf, no_program, of_text, IsCase}
use Rattle.call_cases.specs.Decided.{case_of}
use Rattle.call_cases.specs.Refusals.{AnswersCase, RefusesCase, RefusesShelf, RefusesWords}
use Rattle.call_cases.specs.meaning.InputFiles.{supplied_by}
use Rattle.call_cases.specs.meaning.Laws.{HasOneCase}
use Rattle.call_cases.proofs.Answering.{answers_map, asked_case}
use Rattle.call_cases.proofs.OneCase.{has_one_case}
use Rattle.explain_calls.specs.Endings.{IsOrShort, KeepsFor, LeavesShelf}
use Rattle.explain_calls.specs.meaning.Commands.{asking, explained_by}
use Rattle.explain_calls.specs.meaning.Fronts.{front, IsText}

own_case : (asked : Asked) (files : Files) (case : Case ToDo) → IsCaseOf run.asking asked files case → IsCaseOf asking asked files case
own_case asked files case (no_program absent) = no_program absent
own_case asked files case (of_text meaning there means is) = of_text meaning there means is

pub explain_case : HasOneCase asking
explain_case =
    has_one_case asking (record {
      some = λ asked program files. (supplied_by asked program files, refl);
      one = λ asked program files a b is other. is ∙ sym other;
    })

own_answers : (told : Option Files) (asked : Asked) (result : Result Request Refusal)
    → IfSome told (λ files. AnswersCase case_of (IsCaseOf run.asking asked files) result)
    → IfSome told (λ files. AnswersCase case_of (IsCaseOf asking asked files) result)
own_answers None asked result is = tt
own_answers (Some files) asked result is =
    answers_map case_of (IsCaseOf run.asking asked files) (IsCaseOf asking asked files) (own_case asked files) result is

-- an answer to what words ask for is one to the words
pub words_answer : (words : List (List ℕ)) (told : Option Files) (asked : Asked) (result : Result Request Refusal)
    → explained_by words ≡ Some asked
    → IfSome told (λ files. AnswersCase case_of (IsCaseOf run.asking asked files) result)
    → IfSome told (λ files. AnswersCase case_of (IsCase asking words files) result)
words_answer words told asked result some is = asked_case asking words case_of told asked result some (own_answers told asked result is)

-- each case has a text
pub some_text : (case : Case ToDo) → (text : List ℕ) × IsText case text
some_text (Refused status names line) = (codes "hint: ", inr (inr ([], sym (append-nil (codes "hint: ")))))
some_text (Go names work) =
    (front work.program work.inputs work.limits, ([], sym (append-nil (front work.program work.inputs work.limits))))

-- ---- a refusal with what is told of it
pub kept_same : (refusal : Refusal) (now : List Name) → KeepsFor refusal (now ≡ now)
kept_same RefusedUsage now = refl
kept_same (RefusedProgram line) now = refl
kept_same (RefusedInput line) now = tt
kept_same (ReadFault name) now = refl
kept_same OutOfMemory now = refl

leaves_same : (asked : Option Asked) (before mid now : List Name) (refusal : Refusal) → RefusesShelf MayRead asked before mid refusal
    → KeepsFor refusal (now ≡ mid) → LeavesShelf asked before now refusal
leaves_same asked before mid now RefusedUsage shelf kept = (shelf.0, kept ∙ shelf.1)
leaves_same asked before mid now (RefusedProgram line) shelf kept = kept ∙ shelf
leaves_same asked before mid now (RefusedInput line) shelf kept = tt
leaves_same asked before mid now (ReadFault name) shelf kept =
    subst (λ n. RefusesShelf MayRead asked before n (ReadFault name)) (sym kept) shelf
leaves_same asked before mid now OutOfMemory shelf kept = tt

-- what the shelf tells of it, where nothing more is read but a file that is refused
pub leaves : (asked : Option Asked) (before mid now : List Name) (refusal told : Refusal) → RefusesShelf MayRead asked before mid refusal
    → KeepsFor refusal (now ≡ mid) → IsOrShort refusal told → LeavesShelf asked before now told
leaves asked before mid now refusal told shelf kept (inl same) =
    subst (LeavesShelf asked before now) (sym same) (leaves_same asked before mid now refusal shelf kept)
leaves asked before mid now refusal told shelf kept (inr short) = subst (LeavesShelf asked before now) (sym short) tt

-- the case that it tells
pub refused_or_short : (told : Option Files) (Is : Files → Case ToDo → Type 0) (refusal other : Refusal) → IsOrShort refusal other
    → IfSome told (λ files. RefusesCase (Is files) refusal) → IfSome told (λ files. RefusesCase (Is files) other)
refused_or_short None Is refusal other either is = tt
refused_or_short (Some files) Is refusal other (inl same) is = subst (RefusesCase (Is files)) (sym same) is
refused_or_short (Some files) Is refusal other (inr short) is = subst (RefusesCase (Is files)) (sym short) tt

-- that of words of no command is one of the refusals of these
pub refused_words : (refusal : Refusal) → IsOrShort RefusedUsage refusal → RefusesWords refusal
refused_words refusal (inl same) = subst RefusesWords (sym same) tt
refused_words refusal (inr short) = subst RefusesWords (sym short) tt
