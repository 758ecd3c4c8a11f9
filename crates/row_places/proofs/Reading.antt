-- What a loop over the rows of a file has read.
use Rattle.std.proofs.Common.{◌≡◌, ◌∙◌, ◌+◌, ◌-◌, ℕ, true, false, List, [], ◌∷◌, ◌++◌, length, refl, arith, append_assoc, Option, Some, length-append, sym, ap}
use Rattle.std.proofs.lemmas.List.{append-nil, get_or_at}
use Rattle.csv.specs.Reading.{Reached, ReadRecord, default_config, source_of, strip_bom}
use Rattle.csv.specs.declared.reader.Reader.{Reader}
use Rattle.csv.specs.declared.parser.State.{State}
use Rattle.csv.specs.declared.parser.State.TheVariants as st
use Rattle.csv.proofs.ReadFacts.{rows-end, rows-more}
use Rattle.batch_files.specs.meaning.Rows.{Row, csv_rows}
use Rattle.batch_files.proofs.RowFacts.{no_more, reached_records, records_after}
use Rattle.row_places.specs.Fields.{row_at}

-- so many rows were read from the start of a text to a state
pub record HasRead (text : List ℕ) (state : State) (left : Option (List ℕ)) (count : ℕ) : Type 0 where
  pub rows : List Row
  pub rest : List ℕ
  pub known : left ≡ Some rest
  pub reached : Reached default_config st.StartRecord text rows state rest
  pub counted : count ≡ length rows

pub read_start : (text : List ℕ) → HasRead text st.StartRecord (Some text) 0
unfolding Reached
read_start text = record { rows = []; rest = text; known = refl; reached = (refl, refl); counted = refl }

pub read_more : {R : Type 0} (rem : R → Option (List ℕ)) (a b : Reader R) (text : List ℕ) (count : ℕ) (row : Row)
    → a.config ≡ default_config → HasRead text a.state (source_of rem a) count → ReadRecord rem a b true row
    → HasRead text b.state (source_of rem b) (count + 1)
read_more rem a b text count row config h read =
    let m = rows-more rem a b row default_config st.StartRecord text h.rest h.rows config h.known h.reached read in
    record {
      rows = h.rows ++ row ∷ [];
      rest = m.0;
      known = m.1;
      reached = m.2;
      counted = omega (arith, h.counted, length-append h.rows (row ∷ []));
    }

-- the row that was read is the next of the file
pub read_here : {R : Type 0} (rem : R → Option (List ℕ)) (a b : Reader R) (bytes : List ℕ) (count : ℕ) (row : Row)
    → a.config ≡ default_config → HasRead (strip_bom bytes) a.state (source_of rem a) count → ReadRecord rem a b true row
    → row_at (csv_rows bytes) (count + 1) ≡ row
read_here rem a b bytes count row config h read =
    let m = rows-more rem a b row default_config st.StartRecord (strip_bom bytes) h.rest h.rows config h.known h.reached read in
    let all : csv_rows bytes ≡ (h.rows ++ row ∷ []) ++ records_after default_config b.state m.0 =
    reached_records default_config st.StartRecord b.state (strip_bom bytes) m.0 (h.rows ++ row ∷ []) m.2 in
    ap (λ (rows : List Row). row_at rows (count + 1)) (all ∙ append_assoc h.rows (row ∷ []) (records_after default_config b.state m.0))
    ∙ get_or_at h.rows row (records_after default_config b.state m.0) [] (count + 1 - 1) (omega (arith, h.counted))

-- all rows were read
pub read_end : {R : Type 0} (rem : R → Option (List ℕ)) (a b : Reader R) (bytes : List ℕ) (count : ℕ) (row : Row)
    → a.config ≡ default_config → HasRead (strip_bom bytes) a.state (source_of rem a) count → ReadRecord rem a b false row
    → count ≡ length (csv_rows bytes)
read_end rem a b bytes count row config h read =
    let none = rows-end rem a b row default_config h.rest config h.known read in
    let all : csv_rows bytes ≡ h.rows = reached_records default_config st.StartRecord a.state (strip_bom bytes) h.rest h.rows h.reached
    ∙ rw (no_more default_config a.state h.rest none) (append-nil h.rows) in
    h.counted ∙ ap length (sym all)
