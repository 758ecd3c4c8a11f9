-- No two files of a program's tables have one name, and none that of the program.
use Rattle.std.proofs.Common.{◌≡◌, ◌∙◌, Bool, true, false, List, [], ◌∷◌, ◌++◌, map, refl, sym, subst, Ok, Option, Some, None, inl, inr}
use Rattle.std.specs.Prelude.{is_some, ⊤}
use Rattle.std.specs.List.{list_any}
use Rattle.std.specs.Map.{lookup}
use Rattle.std.specs.Char.{to_ascii_lowercase}
use Rattle.std.specs.Str.{bytes_eq}
use Rattle.std.proofs.lemmas.Bool.{cases_Bool, or_parts, or_from, both_ways}
use Rattle.std.proofs.lemmas.List.{map-append}
use Rattle.std.proofs.lemmas.List.Folds.{list_any-append}
use Rattle.std.proofs.lemmas.Slice.Eq.{bytes_eq-Decides}
use Rattle.sqlite_trees.specs.Sound.{same_name}
use Rattle.gp_base.specs.Files.{are_distinct, HasDistinctNames}
use Rattle.task_ast.specs.declared.tree.Head.{Head}
use Rattle.task_ast.specs.meaning.Tree.{Name}
use Rattle.db_names.specs.declared.sources.NameRule.{NameRule}
use Rattle.db_names.specs.declared.sources.Source.{Source}
use Rattle.db_names.specs.Tables.{is_reserved, table_of}
use Rattle.db_names.specs.Sources.{rule_of, source_in, sources_from, one_more, put, sources_of}

-- no name stands twice
abbrev pub Apart : List Name → Type 0
Apart [] = ⊤
Apart (name ∷ names) = (list_any (bytes_eq name) names ≡ false) × Apart names

lookup_none : (test : Name → Bool) (files : List (Name × Name)) → list_any test (map (λ it. it.0) files) ≡ false → is_some (lookup test files) ≡ false
lookup_none test [] none = refl
lookup_none test (file ∷ files) none =
    let (first, rest) = or_parts (test file.0) (list_any test (map (λ it. it.0) files)) none in
    rw first (lookup_none test files rest)

distinct_apart : (files : List (Name × Name)) → Apart (map (λ it. it.0) files) → are_distinct files ≡ true
distinct_apart [] apart = refl
distinct_apart (file ∷ files) (none, apart) = rw (lookup_none (bytes_eq file.0) files none, distinct_apart files apart) refl

same_name_refl : (name : Name) → same_name name name ≡ true
unfolding same_name
same_name_refl name = (bytes_eq-Decides (map to_ascii_lowercase name) (map to_ascii_lowercase name)).1 refl

-- names differ where their tables do
files_differ : (before : List Source) (file : Name) → list_any (λ it. same_name (table_of it.file) (table_of file)) before ≡ false
    → list_any (λ name. bytes_eq name file) (map (λ it. it.file) before) ≡ false
files_differ [] file none = refl
files_differ (source ∷ before) file none =
    let (first, rest) = or_parts (same_name (table_of source.file) (table_of file)) _ none in
    let differs : bytes_eq source.file file ≡ false = elim (cases_Bool (bytes_eq source.file file)) [
      | inl same ↦
          let is : source.file ≡ file = (bytes_eq-Decides source.file file).0 same in
          let one : same_name (table_of source.file) (table_of file) ≡ true = subst (λ (it : Name). same_name (table_of source.file) (table_of it) ≡ true) is (same_name_refl (table_of source.file)) in
          absurd (both_ways _ first one)
      | inr other ↦ other
    ] in
    or_from _ _ differs (files_differ before file rest)

-- one more name, from which those before differ
apart_more : (names : List Name) (name : Name) → Apart names → list_any (λ it. bytes_eq it name) names ≡ false → Apart (names ++ name ∷ [])
apart_more [] name apart none = (refl, tt)
apart_more (first ∷ names) name (alone, apart) none =
    let (differs, rest) = or_parts (bytes_eq first name) (list_any (λ it. bytes_eq it name) names) none in
    (list_any-append (bytes_eq first) names (name ∷ []) ∙ or_from _ _ alone (or_from _ _ differs refl), apart_more names name apart rest)

-- a file that breaks no rule
passed : (program : Name) (before : List Source) (source : Source) → rule_of program before source ≡ None
    → (bytes_eq program source.file ≡ false) × (list_any (λ it. same_name (table_of it.file) (table_of source.file)) before ≡ false)
passed program before source none = elim (cases_Bool (bytes_eq program source.file)) [
  | inl same ↦ absurd (let e = rw same at none in cc e)
  | inr other ↦ elim (cases_Bool (is_reserved (table_of source.file))) [
    | inl kept ↦ absurd (let e = rw (other, kept) at none in cc e)
    | inr free ↦ elim (cases_Bool (list_any (λ it. same_name (table_of it.file) (table_of source.file)) before)) [
      | inl twice ↦ absurd (let e = rw (other, free, twice) at none in cc e)
      | inr once ↦ (other, once)
    ]
  ]
]

put_apart : (program : Name) (before : List Source) (source : Source) → rule_of program before source ≡ None
    → Apart (program ∷ map (λ it. it.file) before) → Apart (program ∷ map (λ it. it.file) (before ++ source ∷ []))
put_apart program before source none apart =
    let (other, once) = passed program before source none in
    let differ = files_differ before source.file once in
    let of_file = λ (it : Source). it.file in
    let more : Apart ((program ∷ map of_file before) ++ source.file ∷ []) = apart_more (program ∷ map of_file before) source.file apart (or_from _ _ other differ) in
    subst (λ (names : List Name). Apart (program ∷ names)) (sym (map-append of_file before (source ∷ []))) more

sources_apart : (program : Name) (heads : List Head) (before sources : List Source) → sources_from program before heads ≡ Ok sources
    → Apart (program ∷ map (λ it. it.file) before) → Apart (program ∷ map (λ it. it.file) sources)
sources_apart program [] before sources e apart =
    let same : before ≡ sources = cc e in
    subst (λ (it : List Source). Apart (program ∷ map (λ it. it.file) it)) same apart
sources_apart program (head ∷ heads) before sources e apart =
    go (source_in head) (λ more. sources_apart program heads more sources) e
  where
    Later : Type 0
    Later = (more : List Source) → sources_from program more heads ≡ Ok sources → Apart (program ∷ map (λ it. it.file) more) → Apart (program ∷ map (λ it. it.file) sources)

    go_on : (source : Source) (rule : Option NameRule) → rule_of program before source ≡ rule → Later → put before source rule (λ more. sources_from program more heads) ≡ Ok sources
        → Apart (program ∷ map (λ it. it.file) sources)
    go_on source None none later e = later (before ++ source ∷ []) e (put_apart program before source none apart)
    go_on source (Some rule) some later e = absurd cc

    go : (found : Option Source) → Later → one_more program before found (λ more. sources_from program more heads) ≡ Ok sources → Apart (program ∷ map (λ it. it.file) sources)
    go None later e = later before e apart
    go (Some source) later e = go_on source (rule_of program before source) refl later e

pub sources_distinct : (program : Name) (heads : List Head) (sources : List Source) (files : List (Name × Name)) → sources_of program heads ≡ Ok sources
    → map (λ it. it.0) files ≡ program ∷ map (λ it. it.file) sources → HasDistinctNames files
sources_distinct program heads sources files e names =
    distinct_apart files (subst Apart (sym names) (sources_apart program heads [] sources e (refl, tt)))
