-- The record of promises of a top call: what its words ask for, which is a value of A, what is to be done for that,
-- which is a value of T, and how what the call leaves stands to it. Each top call is promised to do what one value of
-- this record says.
use Rattle.std.specs.Prelude.{ℕ, Bool, false, List, [], Option, ⊤}
use Rattle.gp_base.specs.declared.journal.Journal.{Journal}
use Rattle.task_ast.specs.meaning.Tree.{Name, Program}
use Rattle.call_cases.specs.declared.lines.Tool.{Tool}
use Rattle.call_cases.specs.meaning.Work.{Files, Case}
use Rattle.call_cases.specs.meaning.Answers.{Change}

-- what words ask for, and what that comes to by the files
pub record Asking (A T : Type 0) : Type 1 where
  -- the program whose words they are, which its lines on the error stream name
  pub tool : Tool
  -- what words ask for, where they are those of a command
  pub reading : List (List ℕ) → Option A
  -- the file of the program that is asked for
  pub program : A → Name
  -- the files that it is done over, where the shelf has these
  pub files : A → Files → Files
  -- what is to be done with an accepted program, by the files beside it
  pub supplies : A → Program → Files → Case T → Type 0

-- a log that the error stream takes while a run goes on, a row for each position that retires: the whole log of what is
-- to be done, and what of it was taken where this is the journal of the run
pub record Log (T : Type 0) : Type 1 where
  pub whole : T → List ℕ
  pub taken : T → Journal → Change → Type 0

-- no log, or this one
pub data MayLog (T : Type 0) : Type 1 where
  Unlogged : MayLog T
  Logged : Log T → MayLog T

-- the commands of a top call
pub record Commands (A T : Type 0) : Type 1 where
  pub asking : Asking A T
  -- a file of this name may be read for what is asked
  pub may_read : A → Name → Type 0
  -- what is asked makes its files itself, so that no file of the shelf is read for it
  pub makes_files : A → Bool
  -- a run over a journal begins for what is asked, and for what is to be done
  pub is_journalled : A → Bool
  pub has_journal : T → Bool
  -- the status of what is to be done where it is done to its end, and the text that the output then took
  pub status : T → ℕ
  pub text : T → List ℕ
  -- the statuses of such an end
  pub whole : ℕ → Type 0
  -- what the error stream then took, by the status and the journal of the run
  pub error : A → (status : ℕ) → Journal → List ℕ
  -- what it takes in place of that, and of the line of a stop, where a log is kept of the run
  pub log : MayLog T
  -- The journal is one of the run of what is to be done, and it is complete. The output stands so to the subthreads
  -- that have retired in it.
  pub lawful : T → Journal → Type 0
  pub complete : T → Journal → Type 0
  pub retired : T → Journal → Change → Type 0

-- the promises of a call that begins no run over a journal, and makes no files: these files may be read, and what is to be done has this
-- status, one of these, and this text
abbrev pub unjournalled : {A T : Type 0} → Asking A T → (may_read : A → Name → Type 0) → (status : T → ℕ) → (whole : ℕ → Type 0)
    → (text : T → List ℕ) → Commands A T
unjournalled asking may_read status whole text = record {
  asking = asking;
  may_read = may_read;
  makes_files = λ asked. false;
  is_journalled = λ asked. false;
  has_journal = λ work. false;
  status = status;
  text = text;
  whole = whole;
  error = λ asked status journal. [];
  log = Unlogged;
  lawful = λ work journal. ⊤;
  complete = λ work journal. ⊤;
  retired = λ work journal out. ⊤;
}
