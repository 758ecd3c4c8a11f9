-- What reading a trace answers.
use Rattle.std.specs.Prelude.{◌≡◌, ◌≢◌, ◌+◌, ℕ, List, [], ◌∷◌, ◌++◌, length}
use Rattle.gp_audit.specs.declared.line.TraceLine.{TraceLine}
use Rattle.gp_audit.specs.meaning.Lines.{IsTrace}

-- a trace is broken at its first row that is no line, counted from 1
pub record IsBrokenAt (bytes : List ℕ) (row : ℕ) : Type 0 where
  pub lines : List TraceLine
  pub before : List ℕ
  pub rest : List ℕ
  pub read : IsTrace before lines
  pub bytes_are : bytes ≡ before ++ rest
  pub some_row : rest ≢ []
  pub no_line : (line : TraceLine) (text after : List ℕ) → IsTrace text (line ∷ []) → rest ≢ text ++ after
  pub counted : row ≡ length lines + 1
