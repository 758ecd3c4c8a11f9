-- The text of rows is read back as the rows.
use Rattle.std.proofs.Common.{◌≡◌, ◌∙◌, ◌<◌, ◌+◌, ℕ, List, [], ◌∷◌, ◌++◌, map, drop, length, take, get_or, Option, Some, ap, refl, sym, suc, None, append_assoc, add-one, drop-cons}
use Rattle.std.specs.Prelude.{flat_map}
use Rattle.std.specs.Io.KnownBytes.{Appends}
use Rattle.std.proofs.lemmas.Grind.{flat_map-append}
use Rattle.std.proofs.lemmas.List.{append-nil, map-append, take_more}
use Rattle.csv.specs.Machine.{next_record}
use Rattle.csv.specs.Reading.{Reached, default_config}
use Rattle.csv.specs.Writing.{default_writer, read_back, row_text}
use Rattle.csv.specs.declared.parser.State.TheVariants as st
use Rattle.csv.specs.declared.writer.WriterBuilder.{WriterBuilder}
use Rattle.csv.proofs.RoundTrip.{read-write}
use Rattle.batch_files.specs.meaning.Rows.{csv_rows}
use Rattle.batch_files.proofs.RowFacts.{records_after, reached_records, no_more}
use Rattle.sqlite_value.specs.declared.value.Value.TheVariants.{Null}
use Rattle.sqlite_value.specs.Order.{Row, column}
use Rattle.db_rows.specs.Csv.{field_of, fields_in, csv_of}
use Rattle.db_rows.proofs.Begins.{strip_plain, text_starts}

abbrev Rows : Type 0
Rows = List (List (List ℕ))

reached : (rows : Rows) → Reached default_config st.StartRecord (flat_map (row_text default_writer) rows) (map read_back rows) st.StartRecord []
unfolding Reached
reached [] = (refl, refl)
reached (row ∷ rows) =
    let rest = flat_map (row_text default_writer) rows in
    ((read_back row, st.StartRecord, rest), read-write row rest, refl, reached rows)

nothing : next_record default_config st.StartRecord [] [] [] ≡ None
unfolding next_record
nothing = refl

read_rows : (rows : Rows) → records_after default_config st.StartRecord (flat_map (row_text default_writer) rows) ≡ map read_back rows
read_rows rows =
    reached_records default_config st.StartRecord st.StartRecord (flat_map (row_text default_writer) rows) [] (map read_back rows) (reached rows)
    ∙ ap (λ more. map read_back rows ++ more) (no_more default_config st.StartRecord [] nothing)
    ∙ append-nil (map read_back rows)

pub csv_reads_back : (skip : ℕ) (rows : List Row) → csv_rows (csv_of skip rows) ≡ map read_back (fields_in skip rows)
csv_reads_back skip rows =
    ap (records_after default_config st.StartRecord) (strip_plain (csv_of skip rows) (text_starts skip rows)) ∙ read_rows (fields_in skip rows)

-- what was put and what is left, after one more value
pub put_more : (fields : List (List ℕ)) (row : Row) (at : ℕ) (all : List (List ℕ)) → at < length row → fields ++ map field_of (drop at row) ≡ all
    → (fields ++ field_of (column row at) ∷ []) ++ map field_of (drop (at + 1) row) ≡ all
put_more fields row at all low so_far =
    let next : drop at row ≡ column row at ∷ drop (suc at) row = drop-cons row at Null low in
    rw (append_assoc, add-one) (ap (λ rest. fields ++ map field_of rest) (sym next) ∙ so_far)

-- the text of one more row
text_more : (skip i : ℕ) (rows : List Row) (row : Row) → i < length rows → row ≡ get_or rows i row
    → csv_of skip (take (i + 1) rows) ≡ csv_of skip (take i rows) ++ row_text default_writer (map field_of (drop skip row))
text_more skip i rows row low is =
    let of_row = λ (it : Row). map field_of (drop skip it) in
    let more : take (i + 1) rows ≡ take i rows ++ row ∷ [] = take_more rows i row low ∙ ap (λ it. take i rows ++ it ∷ []) (sym is) in
    ap (csv_of skip) more
    ∙ ap (flat_map (row_text default_writer)) (map-append of_row (take i rows) (row ∷ []))
    ∙ flat_map-append (row_text default_writer) (fields_in skip (take i rows)) (of_row row ∷ [])
    ∙ ap (λ text. csv_of skip (take i rows) ++ text) (append-nil (row_text default_writer (of_row row)))

appended : (old new : Option (List ℕ)) (text more : List ℕ) → old ≡ Some text → Appends old new more → new ≡ Some (text ++ more)
appended old None text more is h = absurd (rw is at h)
appended old (Some now) text more is h = ap Some (rw is at h)

-- what a writer of the kit has written, after one more row
pub write_more : (skip i : ℕ) (rows : List Row) (row : Row) (fields : List (List ℕ)) (cfg : WriterBuilder) (old new : Option (List ℕ)) → i < length rows
    → row ≡ get_or rows i row → fields ≡ map field_of (drop skip row) → cfg ≡ default_writer → old ≡ Some (csv_of skip (take i rows))
    → Appends old new (row_text cfg fields) → new ≡ Some (csv_of skip (take (i + 1) rows))
write_more skip i rows row fields cfg old new low is are plain so_far more =
    appended old new (csv_of skip (take i rows)) (row_text default_writer (map field_of (drop skip row))) so_far (rw (plain, are) at more)
    ∙ ap Some (sym (text_more skip i rows row low is))

pub some_same : (xs ys : List ℕ) → Some xs ≡ Some ys → xs ≡ ys
some_same xs ys e = cc e
