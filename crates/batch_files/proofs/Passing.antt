-- What a loop over the rows of a file keeps, and what it answers.
use Rattle.std.proofs.Common.{ap, sym, ◌≡◌, ◌∙◌, ◌+◌, ℕ, true, false, List, [], ◌∷◌, ◌++◌, length, refl, arith, append_assoc, Option, Some, None, length-append}
use Rattle.std.specs.Prelude.{Ok, Err}
use Rattle.std.proofs.lemmas.List.{append-nil}
use Rattle.csv.specs.Reading.{Reached, ReadRecord, default_config, source_of, strip_bom}
use Rattle.csv.specs.declared.reader.Reader.{Reader}
use Rattle.csv.specs.declared.parser.State.{State}
use Rattle.csv.specs.declared.parser.State.TheVariants as st
use Rattle.csv.proofs.ReadFacts.{rows-end, rows-more}
use Rattle.batch_files.specs.meaning.Rows.{Broken, Row, Rule, first_broken, csv_rows}
use Rattle.batch_files.specs.Answers.{PutsRow, Tells, fault_at}
use Rattle.batch_files.specs.declared.fault.FileKind.{FileKind}
use Rattle.batch_files.specs.declared.fault.RowFault.{RowFault}
use Rattle.batch_files.specs.declared.fault.RowFault.TheVariants as row_fault
use Rattle.batch_files.proofs.RowFacts.{no_more, reached_records, records_after}
use Rattle.batch_files.proofs.BrokenFacts.{broken_here, broken_more}

-- rows were read from the start of a text to a state, none of which breaks the rule, and what was kept is theirs
pub record Passed (rule : Rule) (text : List ℕ) (state : State) (left : Option (List ℕ)) (number : ℕ)
    (Kept : List Row → Type 0) : Type 0 where
  pub rows : List Row
  pub rest : List ℕ
  pub known : left ≡ Some rest
  pub reached : Reached default_config st.StartRecord text rows state rest
  pub whole : first_broken rule [] rows ≡ None
  pub numbered : number ≡ length rows + 1
  pub kept : Kept rows

pub passed_start : (rule : Rule) (text : List ℕ) (Kept : List Row → Type 0) → Kept [] → Passed rule text st.StartRecord (Some text) 1 Kept
unfolding Reached first_broken
passed_start rule text Kept empty = record {
  rows = [];
  rest = text;
  known = refl;
  reached = (refl, refl);
  whole = refl;
  numbered = omega arith;
  kept = empty;
}

-- one more row was put in
pub passed_more : {R : Type 0} (rem : R → Option (List ℕ)) (a b : Reader R) (rule : Rule) (text : List ℕ) (number : ℕ)
    (Kept Now : List Row → Type 0) (row : Row) (done : Unit {0})
    → a.config ≡ default_config → Passed rule text a.state (source_of rem a) number Kept → ReadRecord rem a b true row
    → ((rows : List Row) → Kept rows → PutsRow (rule rows row) (Now (rows ++ row ∷ [])) (Ok done))
    → Passed rule text b.state (source_of rem b) (number + 1) Now
passed_more rem a b rule text number Kept Now row done config p read put =
    let m = rows-more rem a b row default_config st.StartRecord text p.rest p.rows config p.known p.reached read in
    let now = put p.rows p.kept in
    record {
      rows = p.rows ++ row ∷ [];
      rest = m.0;
      known = m.1;
      reached = m.2;
      whole = broken_more rule p.rows row p.whole now.0;
      numbered = omega (arith, p.numbered, length-append p.rows (row ∷ []));
      kept = now.1;
    }

-- the rows of a file, where one more was read
with_rest : {R : Type 0} (rem : R → Option (List ℕ)) (a b : Reader R) (rule : Rule) (bytes : List ℕ) (number : ℕ)
    (Kept : List Row → Type 0) (row : Row)
    → a.config ≡ default_config → (p : Passed rule (strip_bom bytes) a.state (source_of rem a) number Kept) → ReadRecord rem a b true row
    → (rest : List Row) × (csv_rows bytes ≡ p.rows ++ row ∷ rest)
with_rest rem a b rule bytes number Kept row config p read =
    let m = rows-more rem a b row default_config st.StartRecord (strip_bom bytes) p.rest p.rows config p.known p.reached read in
    let all = reached_records default_config st.StartRecord b.state (strip_bom bytes) m.0 (p.rows ++ row ∷ []) m.2 in
    (records_after default_config b.state m.0, all ∙ append_assoc p.rows (row ∷ []) (records_after default_config b.state m.0))

told : (fault : RowFault) (broken : Option Broken) (number : ℕ) (here : Option FileKind) (Put : Type 0)
    → PutsRow here Put (Err fault) → ((kind : FileKind) → here ≡ Some kind → broken ≡ Some (kind, number))
    → Tells (fault_at fault number) broken
told (row_fault.Breaks kind) broken number here Put put first = first kind put
told row_fault.OutOfMemory broken number here Put put first = tt

-- a row was refused
pub passed_bad : {R : Type 0} (rem : R → Option (List ℕ)) (a b : Reader R) (rule : Rule) (bytes : List ℕ) (number : ℕ)
    (Kept Now : List Row → Type 0) (row : Row) (fault : RowFault)
    → a.config ≡ default_config → Passed rule (strip_bom bytes) a.state (source_of rem a) number Kept → ReadRecord rem a b true row
    → ((rows : List Row) → Kept rows → PutsRow (rule rows row) (Now (rows ++ row ∷ [])) (Err fault))
    → Tells (fault_at fault number) (first_broken rule [] (csv_rows bytes))
passed_bad rem a b rule bytes number Kept Now row fault config p read put =
    let all = with_rest rem a b rule bytes number Kept row config p read in
    told fault _ number (rule p.rows row) (Now (p.rows ++ row ∷ [])) (put p.rows p.kept)
    (λ kind breaks. rw all.1 (broken_here rule p.rows all.0 row kind p.whole breaks) ∙ ap (λ n. Some (kind, n)) (sym p.numbered))

-- the rows came to their end
pub passed_end : {R : Type 0} (rem : R → Option (List ℕ)) (a b : Reader R) (rule : Rule) (bytes : List ℕ) (number : ℕ)
    (Kept : List Row → Type 0) (row : Row)
    → a.config ≡ default_config → Passed rule (strip_bom bytes) a.state (source_of rem a) number Kept → ReadRecord rem a b false row
    → (first_broken rule [] (csv_rows bytes) ≡ None) × Kept (csv_rows bytes)
passed_end rem a b rule bytes number Kept row config p read =
    let none = rows-end rem a b row default_config p.rest config p.known read in
    let all : csv_rows bytes ≡ p.rows = reached_records default_config st.StartRecord a.state (strip_bom bytes) p.rest p.rows p.reached
    ∙ rw (no_more default_config a.state p.rest none) (append-nil p.rows) in
    rw all (p.whole, p.kept)
