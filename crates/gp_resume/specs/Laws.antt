-- From the first rows of the plain run's own log the plain run goes on; and the bytes of a log come to one thing.
use Rattle.std.specs.Prelude.{◌≡◌, ℕ, zero, suc, ◌≤◌, pos, List, [], ◌++◌, length, take, drop, codes, All}
use Rattle.gp_base.specs.declared.limits.Limits.{Limits}
use Rattle.gp_base.specs.declared.feed.Inputs.{Inputs}
use Rattle.task_ast.specs.meaning.Tree.{Program}
use Rattle.task_ast.specs.meaning.Names.{records_of}
use Rattle.task_ast.specs.meaning.Layout.{cut}
use Rattle.task_ast.specs.Shaped.{IsAccepted}
use Rattle.task_ast.specs.meaning.Run.{plain_order, plain_before, plain_end, plain_records}
use Rattle.restart_log.specs.meaning.Lines.{printed}
use Rattle.restart_log.specs.meaning.Tail.{tail_text}
use Rattle.crew.specs.meaning.Noted.{left_in_order}
use Rattle.retirement_log.specs.meaning.Rows.{Retirement, log_text, IsWideRow}
use Rattle.retirement_log.specs.meaning.Log.{log_rows, log}
use Rattle.gp_resume.specs.meaning.Fitting.{Fit, resumed_at}
use Rattle.gp_resume.specs.meaning.Reading.{LogAnswer, IsAnswer, IsLogOf}
use Rattle.gp_resume.specs.meaning.Resumed as resumed
use Rattle.gp_resume.specs.meaning.Resumed.{lines_of, bytes_before}

module _ (program : Program) (inputs : Inputs) (limits : Limits) where
  -- the first rows of the plain run's own log
  abbrev pub own_rows : ℕ → List Retirement
  own_rows p = take p (log_rows (left_in_order program inputs limits))

  -- the text up to the lines of so many positions; it is there once one has retired
  abbrev pub text_before : ℕ → List ℕ
  text_before zero = []
  text_before (suc p) = codes "output\n" ++ printed (lines_of (take (suc p) (plain_order program inputs limits)))

  -- the text of the run of one thread
  abbrev pub text_of_one : List ℕ
  text_of_one =
      codes "output\n" ++ (printed (lines_of (plain_order program inputs limits))
      ++ tail_text (plain_end program inputs limits) (cut (records_of program.heads) (plain_records program inputs limits))
      (length (plain_order program inputs limits)) [] 0)

  -- the run that goes on from the first rows of the log is the rest of the plain run
  pub record IsRest (p : ℕ) : Type 0 where
    pub rest : resumed.rest program inputs limits (own_rows p) ≡ drop p (plain_order program inputs limits)
    pub last : resumed.last program inputs limits (own_rows p) ≡ plain_before program inputs limits (suc limits.subthreads)
    pub end : resumed.end program inputs limits (own_rows p) ≡ plain_end program inputs limits
    pub final_records : resumed.final_records program inputs limits (own_rows p) ≡ plain_records program inputs limits
    pub count : resumed.count program inputs limits (own_rows p) ≡ length (plain_order program inputs limits)

-- after the first rows of the plain run's log the run stands where the plain run does
abbrev pub ReplayLaw : Type 0
ReplayLaw =
    (program : Program) (inputs : Inputs) (limits : Limits) (p : ℕ) → p ≤ length (plain_order program inputs limits)
    → resumed_at program inputs limits (own_rows program inputs limits p) ≡ plain_before program inputs limits p

-- and so it goes on as the plain run does
abbrev pub RestLaw : Type 0
RestLaw =
    (program : Program) (inputs : Inputs) (limits : Limits) (p : ℕ) → p ≤ length (plain_order program inputs limits)
    → IsRest program inputs limits p

-- the rows say how much of the text was there before
abbrev pub BytesLaw : Type 0
BytesLaw =
    (program : Program) (inputs : Inputs) (limits : Limits) (p : ℕ) → p ≤ length (plain_order program inputs limits)
    → bytes_before (own_rows program inputs limits p) ≡ pos (length (text_before program inputs limits p))

-- and with the text that is still to come it is the text of one thread
abbrev pub JoinedLaw : Type 0
JoinedLaw =
    (program : Program) (inputs : Inputs) (limits : Limits) (p : ℕ) → p ≤ length (plain_order program inputs limits)
    → text_before program inputs limits p ++ resumed.text program inputs limits (own_rows program inputs limits p)
    ≡ text_of_one program inputs limits

-- the first rows of the log of a run fit, where the check accepts its program
abbrev pub OwnLaw : Type 0
OwnLaw =
    (program : Program) (inputs : Inputs) (limits : Limits) (p : ℕ) → IsAccepted program → p ≤ length (plain_order program inputs limits)
    → Fit program inputs limits (own_rows program inputs limits p)

-- the bytes of a log come to no two things
abbrev pub OneAnswerLaw : Type 0
OneAnswerLaw =
    (program : Program) (inputs : Inputs) (limits : Limits) (bytes : List ℕ) (first second : LogAnswer)
    → IsAnswer program inputs limits bytes first → IsAnswer program inputs limits bytes second → first ≡ second

-- and all bytes come to something
abbrev pub SomeAnswerLaw : Type 0
SomeAnswerLaw =
    (program : Program) (inputs : Inputs) (limits : Limits) (bytes : List ℕ)
    → (answer : LogAnswer) × IsAnswer program inputs limits bytes answer

-- the rows of a first part of the run's own log are the first of its own rows
abbrev pub OwnRowsLaw : Type 0
OwnRowsLaw =
    (program : Program) (inputs : Inputs) (limits : Limits) (logged : ℕ) (rows : List Retirement)
    → IsLogOf program inputs limits (take logged (log program inputs limits)) rows
    → (p : ℕ) × (p ≤ length (plain_order program inputs limits)) × (rows ≡ own_rows program inputs limits p)

-- The first bytes of a run's own log come to the first of its own rows, those that stand whole in them, if the numbers of these are of 64 bits
abbrev pub OwnAnswerLaw : Type 0
OwnAnswerLaw =
    (program : Program) (inputs : Inputs) (limits : Limits) (logged : ℕ) → IsAccepted program
    → ((p : ℕ) → p ≤ length (plain_order program inputs limits) → length (log_text (own_rows program inputs limits p)) ≤ logged
    → All IsWideRow (own_rows program inputs limits p))
    → (p : ℕ) × (p ≤ length (plain_order program inputs limits)) × (length (log_text (own_rows program inputs limits p)) ≤ logged)
    × IsLogOf program inputs limits (take logged (log program inputs limits)) (own_rows program inputs limits p)
