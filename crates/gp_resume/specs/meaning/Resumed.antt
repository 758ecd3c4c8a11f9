-- The run that goes on from rows, and its text.
use Rattle.std.specs.Prelude.{ℕ, suc, ℤ, pos, ◌+◌, ◌-◌, List, [], ◌∷◌, ◌++◌, length, map, flat_map, fold, codes}
use Rattle.gp_base.specs.declared.limits.Limits.{Limits}
use Rattle.gp_base.specs.declared.feed.Inputs.{Inputs}
use Rattle.gp_base.specs.declared.ending.End.{End}
use Rattle.task_ast.specs.meaning.Tree.{Program}
use Rattle.task_ast.specs.meaning.Names.{records_of, cells_in}
use Rattle.task_ast.specs.meaning.State.{cell_value}
use Rattle.task_ast.specs.meaning.Repeat.{steps, state_after}
use Rattle.task_ast.specs.meaning.Table.{numbers}
use Rattle.task_ast.specs.meaning.Layout.{cut}
use Rattle.task_ast.specs.meaning.Plain.{Subthread, ending_of}
use Rattle.task_ast.specs.meaning.Run.{Run, plain_move}
use Rattle.restart_log.specs.meaning.Lines.{printed}
use Rattle.restart_log.specs.meaning.Tail.{tail_text}
use Rattle.retirement_log.specs.meaning.Rows.{Retirement}
use Rattle.gp_resume.specs.meaning.Fitting.{resumed_at}

-- the lines of subthreads, in order
abbrev pub lines_of : List Subthread → List (List ℤ)
lines_of run = flat_map (λ (s : Subthread). s.lines) run

-- the first line of the text, where it was not there before
abbrev pub first_line : List Retirement → List ℕ
first_line [] = codes "output\n"
first_line (row ∷ rows) = []

-- the bytes of the text that was there before: those up to the lines of the last of these rows, or 0 where there is none
abbrev pub bytes_before : List Retirement → ℤ
bytes_before rows = fold (λ (bytes : ℤ) (row : Retirement). row.bytes) (pos 0) rows

module _ (program : Program) (inputs : Inputs) (limits : Limits) (rows : List Retirement) where
  -- where the run goes on
  abbrev pub start : Run
  start = resumed_at program inputs limits rows

  -- how many steps there are at most; one more than the limit leaves finds the end
  abbrev pub steps_left : ℕ
  steps_left = suc limits.subthreads - length rows

  -- the subthreads that are still to come
  abbrev pub rest : List Subthread
  rest = steps (plain_move program inputs limits) steps_left start

  -- where the run has ended
  abbrev pub last : Run
  last = state_after (plain_move program inputs limits) steps_left start

  -- how it ends
  abbrev pub end : End
  end = ending_of (plain_move program inputs limits last)

  -- the cells of all records at the end
  abbrev pub final_records : List ℤ
  final_records = map (cell_value last.state) (numbers 0 (cells_in (records_of program.heads)))

  -- how many subthreads the whole run has, those of the rows among them
  abbrev pub count : ℕ
  count = length rows + length rest

  -- the lines that are still to come
  abbrev pub lines : List (List ℤ)
  lines = lines_of rest

  -- the text that is still to come: that of one thread, but for what was there before
  abbrev pub text : List ℕ
  text = first_line rows ++ (printed lines ++ tail_text end (cut (records_of program.heads) final_records) count [] 0)
