-- What the bytes of a log come to: its rows, or the first of them that is refused.
use Rattle.std.specs.Prelude.{◌≡◌, ◌≢◌, ◌+◌, ℕ, List, [], ◌∷◌, ◌++◌, length, All, Contains}
use Rattle.gp_base.specs.declared.limits.Limits.{Limits}
use Rattle.gp_base.specs.declared.feed.Inputs.{Inputs}
use Rattle.task_ast.specs.meaning.Tree.{Program}
use Rattle.retirement_log.specs.meaning.Rows.{Retirement, IsWideRow, row_text, log_text}
use Rattle.gp_resume.specs.meaning.Fitting.{Fit}

-- no line ends in these bytes
abbrev pub EndsNoLine : List ℕ → Type 0
EndsNoLine bytes = ¬ Contains bytes 10

module _ (program : Program) (inputs : Inputs) (limits : Limits) where
  -- the bytes begin with these rows, which fit, and go on with the rest
  pub record BeginsWith (bytes : List ℕ) (rows : List Retirement) (rest : List ℕ) : Type 0 where
    pub wide : All IsWideRow rows
    pub fit : Fit program inputs limits rows
    pub bytes_are : bytes ≡ log_text rows ++ rest

  -- the bytes are those of a log with these rows; what comes after the last line end is no row
  pub record IsLogOf (bytes : List ℕ) (rows : List Retirement) : Type 0 where
    pub rest : List ℕ
    pub begins : BeginsWith bytes rows rest
    pub ends : EndsNoLine rest

  -- the first row that is refused is this one, counted from 1, since it is no row
  pub record IsRefusedAt (bytes : List ℕ) (number : ℕ) : Type 0 where
    pub rows : List Retirement
    pub rest : List ℕ
    pub begins : BeginsWith bytes rows rest
    pub some_line : ¬ EndsNoLine rest
    pub no_row : (row : Retirement) (after : List ℕ) → IsWideRow row → rest ≢ row_text row ++ after
    pub counted : number ≡ length rows + 1

  -- the first row that is refused is this one, counted from 1, since it doesn't fit
  pub record IsUnfitAt (bytes : List ℕ) (number : ℕ) : Type 0 where
    pub rows : List Retirement
    pub row : Retirement
    pub wide : IsWideRow row
    pub rest : List ℕ
    pub begins : BeginsWith bytes rows (row_text row ++ rest)
    pub unfit : ¬ Fit program inputs limits (rows ++ row ∷ [])
    pub counted : number ≡ length rows + 1

-- what the bytes of a log come to
pub data LogAnswer : Type 0 where
  -- these rows, which fit
  Rows : List Retirement → LogAnswer
  -- the first row that is refused, counted from 1: it is no row, or it doesn't fit
  Broken : ℕ → LogAnswer
  Unfit : ℕ → LogAnswer

abbrev pub IsAnswer : Program → Inputs → Limits → (bytes : List ℕ) → LogAnswer → Type 0
IsAnswer program inputs limits bytes (Rows rows) = IsLogOf program inputs limits bytes rows
IsAnswer program inputs limits bytes (Broken number) = IsRefusedAt program inputs limits bytes number
IsAnswer program inputs limits bytes (Unfit number) = IsUnfitAt program inputs limits bytes number
