-- What comes of a file that is read last, where this comes of its bytes after files of these names, itself among them.
use Rattle.std.proofs.Common.{◌≡◌, ℕ, List, [], ◌∷◌, ◌++◌, length, refl, sym, subst, ◌∙◌, inl, inr, arith}
use Rattle.std.specs.List.{Contains}
use Rattle.std.specs.declared.option.Option.{Option}
use Rattle.std.specs.declared.option.Option.TheVariants.{None, Some}
use Rattle.std.proofs.lemmas.Bool.{cases_lt}
use Rattle.gp_base.specs.declared.limits.TheConstants.{MOST_FILE_BYTES}
use Rattle.task_ast.specs.meaning.Tree.{Name}
use Rattle.call_cases.specs.meaning.Work.{Case, Refused, absent_case, after_file}
use Rattle.call_cases.specs.meaning.InputFiles.{ReadsFile}
use Rattle.call_cases.specs.meaning.Lines.{input_line}
use Rattle.call_cases.specs.meaning.Case.{names_read}

module _ {T : Type 0} (file : Name) (Comes : List Name → List ℕ → Case T → Type 0) where
  abbrev pub Reads : List Name → Option (List ℕ) → Case T → Type 0
  Reads names bytes case = ReadsFile names file bytes (Comes (names ++ file ∷ [])) case

  -- the same comes of it where another file is read first
  pub file_shifts : ((first : Name) (names : List Name) (text : List ℕ) (case : Case T) → Comes (first ∷ names) text case
      → (found : Case T) × Comes names text found × (case ≡ after_file first found))
      → (first : Name) (names : List Name) (bytes : Option (List ℕ)) (case : Case T) → Reads (first ∷ names) bytes case
      → (found : Case T) × Reads names bytes found × (case ≡ after_file first found)
  file_shifts shifts first names None case is = (absent_case names file, refl, is)
  file_shifts shifts first names (Some text) case (inl (long, is)) =
      (Refused 4 (names ++ file ∷ []) (input_line file 6 0), inl (long, refl), is)
  file_shifts shifts first names (Some text) case (inr (within, comes)) =
      let found = shifts first (names ++ file ∷ []) text case comes in (found.0, inr (within, found.1), found.2)

  -- one case comes of it
  pub file_some : ((names : List Name) (text : List ℕ) → (case : Case T) × Comes names text case) → (names : List Name)
      (bytes : Option (List ℕ))
      → (case : Case T) × Reads names bytes case
  file_some some names None = (absent_case names file, refl)
  file_some some names (Some text) =
      elim (cases_lt MOST_FILE_BYTES (length text)) [
        | inl long ↦ (Refused 4 (names ++ file ∷ []) (input_line file 6 0), inl (long, refl))
        | inr within ↦ (let found = some (names ++ file ∷ []) text in (found.0, inr (omega (arith, within), found.1)))
      ]

  pub file_one : ((names : List Name) (text : List ℕ) (a b : Case T) → Comes names text a → Comes names text b → a ≡ b)
      → (names : List Name) (bytes : Option (List ℕ)) (a b : Case T) → Reads names bytes a → Reads names bytes b → a ≡ b
  file_one one names None a b is other = is ∙ sym other
  file_one one names (Some text) a b (inl (long, is)) (inl (long', is')) = is ∙ sym is'
  file_one one names (Some text) a b (inl (long, is)) (inr (within, comes)) = absurd (omega (arith, long, within))
  file_one one names (Some text) a b (inr (within, comes)) (inl (long, is)) = absurd (omega (arith, long, within))
  file_one one names (Some text) a b (inr (within, comes)) (inr (within', comes')) = one (names ++ file ∷ []) text a b comes comes'

  -- what was read before it, and the file, were read
  pub file_reads : ((names : List Name) (text : List ℕ) (case : Case T) → Comes names text case → names_read case ≡ names)
      → (names : List Name) (bytes : Option (List ℕ)) (case : Case T) → Reads names bytes case → (name : Name)
      → Contains (names ++ file ∷ []) name → Contains (names_read case) name
  file_reads all names None case is name has = subst (λ c. Contains (names_read c) name) (sym is) has
  file_reads all names (Some text) case (inl (long, is)) name has = subst (λ c. Contains (names_read c) name) (sym is) has
  file_reads all names (Some text) case (inr (within, comes)) name has =
      subst (λ l. Contains l name) (sym (all (names ++ file ∷ []) text case comes)) has
