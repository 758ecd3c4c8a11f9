-- The first row that breaks a rule, where rows were passed.
use Rattle.std.proofs.Common.{◌≡◌, ◌∙◌, ◌+◌, List, [], ◌∷◌, ◌++◌, length, refl, sym, ap, append_assoc, Option, Some, None}
use Rattle.std.proofs.lemmas.List.{append-nil}
use Rattle.std.specs.Option.{option_map_or}
use Rattle.batch_files.specs.meaning.Rows.{Row, Rule, first_broken}
use Rattle.batch_files.specs.declared.fault.FileKind.{FileKind}

pub broken_past : (rule : Rule) (before rows rest : List Row) → first_broken rule before rows ≡ None
    → first_broken rule before (rows ++ rest) ≡ first_broken rule (before ++ rows) rest
unfolding first_broken
broken_past rule before [] rest e = sym (ap (λ passed. first_broken rule passed rest) (append-nil before))
broken_past rule before (row ∷ rows) rest e = go (rule before row) (broken_past rule (before ++ row ∷ []) rows rest) e
  where
    go : (o : Option FileKind) → (first_broken rule (before ++ row ∷ []) rows ≡ None
        → first_broken rule (before ++ row ∷ []) (rows ++ rest) ≡ first_broken rule ((before ++ row ∷ []) ++ rows) rest)
        → option_map_or (λ kind. Some (kind, length before + 1)) o (first_broken rule (before ++ row ∷ []) rows) ≡ None
        → option_map_or (λ kind. Some (kind, length before + 1)) o (first_broken rule (before ++ row ∷ []) (rows ++ rest))
        ≡ first_broken rule (before ++ row ∷ rows) rest
    go None later e = later e ∙ ap (λ passed. first_broken rule passed rest) (append_assoc before (row ∷ []) rows)
    go (Some kind) later e = cc e

pub broken_more : (rule : Rule) (rows : List Row) (row : Row) → first_broken rule [] rows ≡ None → rule rows row ≡ None
    → first_broken rule [] (rows ++ row ∷ []) ≡ None
unfolding first_broken
broken_more rule rows row e h = broken_past rule [] rows (row ∷ []) e ∙ rw h refl

pub broken_here : (rule : Rule) (rows rest : List Row) (row : Row) (kind : FileKind) → first_broken rule [] rows ≡ None
    → rule rows row ≡ Some kind
    → first_broken rule [] (rows ++ row ∷ rest) ≡ Some (kind, length rows + 1)
unfolding first_broken
broken_here rule rows rest row kind e h = broken_past rule [] rows (row ∷ rest) e ∙ rw h refl
