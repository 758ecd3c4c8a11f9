-- The text of lines, in the parts by which it is read.
use Rattle.std.specs.Prelude.{◌≡◌, ◌≢◌, ◌+◌, ◌<◌, ◌^◌, ℕ, Bool, true, false, List, [], ◌++◌, length, All, codes, decimal, flat_map}
use Rattle.gp_base.specs.declared.journal.Restart.{Restart}
use Rattle.gp_audit.specs.declared.line.TraceLine.{TraceLine}
use Rattle.gp_audit.specs.declared.line.TraceLine.TheVariants as line

-- a number before a space, and one before the end of its line
abbrev pub before_space : ℕ → List ℕ
before_space n = decimal n ++ codes " "

abbrev pub at_end : ℕ → List ℕ
at_end n = decimal n ++ codes "\n"

-- an attempt of a position before a space
abbrev pub attempt_before : (position attempt : ℕ) → List ℕ
attempt_before position attempt = before_space position ++ before_space attempt

-- whether a result was applied
abbrev pub applies_word : Bool → List ℕ
applies_word true = codes "applied\n"
applies_word false = codes "stale\n"

-- the positions that are redone, each after a space, up to the end of the line
abbrev pub redo_end : List ℕ → List ℕ
redo_end redo = flat_map (λ position. codes " " ++ decimal position) redo ++ codes "\n"

-- a restart: its front, the position that was struck, its attempt, and the positions that are redone
abbrev pub restart_end : Restart → List ℕ
restart_end r = before_space r.front ++ (attempt_before r.struck r.attempt ++ (codes "redo" ++ redo_end r.redo))

abbrev pub line_text : TraceLine → List ℕ
line_text (line.Issue position) = codes "issue " ++ at_end position
line_text (line.Post position attempt) = codes "post " ++ before_space position ++ at_end attempt
line_text (line.Take position attempt applies) = codes "take " ++ attempt_before position attempt ++ applies_word applies
line_text (line.Restart r) = codes "restart " ++ restart_end r
line_text (line.Retire position) = codes "retire " ++ at_end position

-- the bytes of a trace of these lines
abbrev pub lines_text : List TraceLine → List ℕ
lines_text = flat_map line_text

-- a number of 32 bits
abbrev pub IsNarrow : ℕ → Type 0
IsNarrow n = n < 2 ^ 32

pub record IsNarrowRestart (r : Restart) : Type 0 where
  pub front : IsNarrow r.front
  pub struck : IsNarrow r.struck
  pub attempt : IsNarrow r.attempt
  pub redo : All IsNarrow r.redo

-- each number of the line has 32 bits
abbrev pub IsNarrowLine : TraceLine → Type 0
IsNarrowLine (line.Issue position) = IsNarrow position
IsNarrowLine (line.Post position attempt) = IsNarrow position × IsNarrow attempt
IsNarrowLine (line.Take position attempt applies) = IsNarrow position × IsNarrow attempt
IsNarrowLine (line.Restart r) = IsNarrowRestart r
IsNarrowLine (line.Retire position) = IsNarrow position

-- a trace is broken at its first row that is no line, counted from 1, where the rows before it are those of lines
pub record BreaksAt (bytes : List ℕ) (row : ℕ) : Type 0 where
  pub lines : List TraceLine
  pub narrow : All IsNarrowLine lines
  pub rest : List ℕ
  pub bytes_are : bytes ≡ lines_text lines ++ rest
  pub some_row : rest ≢ []
  pub no_line : (line : TraceLine) (after : List ℕ) → IsNarrowLine line → rest ≢ line_text line ++ after
  pub counted : row ≡ length lines + 1
