-- The inputs that are read have as many cells and feeds as the heads declare.
use Rattle.std.proofs.Common.{Result, OnOk, append-nil, map, ◌≡◌, ◌∙◌, ℕ, ◌+◌, ◌<◌, ◌≤◌, zero, suc, ℤ, pos, List, [], ◌∷◌, ◌++◌, Ok, Err, Option, None, Some, length, take, get_or, refl, sym, ap, subst, arith, add-one, unwrap_or}
use Rattle.std.proofs.lemmas.List.{length-append, take_all}
use Rattle.std.specs.Option.{option_map_or}
use Rattle.gp_base.specs.declared.feed.Inputs.{Inputs}
use Rattle.task_ast.specs.declared.tree.Head.{Head}
use Rattle.task_ast.specs.declared.tree.Head.TheVariants.{LockHead, BarrierHead, RecHead, FeedHead}
use Rattle.task_ast.specs.meaning.Names.{natural, records_of, cells_in}
use Rattle.task_ast.specs.meaning.Tree.{Name}
use Rattle.task_ast.specs.Inputs.{fields_of, fields_in}
use Rattle.batch_files.specs.meaning.Rows.{Broken, Row, csv_rows, first_broken}
use Rattle.batch_files.specs.meaning.Records.{cells_below, record_rule, records_by, indexed_value}
use Rattle.call_cases.specs.declared.reading.Refusal.{Refusal}
use Rattle.call_cases.specs.inner.Loading.{Counts, Grows}

below_length : (size n : ℕ) (rows : List Row) → length (cells_below size n rows) ≡ n
below_length size zero rows = refl
below_length size (suc n) rows =
    length-append (cells_below size n rows) (unwrap_or (indexed_value size rows n) (pos 0) ∷ []) ∙ ap (λ k. k + 1) (below_length size n rows)
    ∙ add-one n

meant_length : (size : ℕ) (rows : List Row) (broken : Option Broken) (cells : List ℤ)
    → option_map_or Err broken (Ok (cells_below size size rows)) ≡ Ok cells → length cells ≡ size
meant_length size rows None cells is =
    let same : cells_below size size rows ≡ cells = cc is in
    ap length (sym same) ∙ below_length size size rows
meant_length size rows (Some broken) cells is = cc is

-- the cells of a record, where its file has any, are as many as its size
pub record_length : (size : ℕ) (bytes : List ℕ) (cells : List ℤ) → records_by size (csv_rows bytes) ≡ Ok cells → length cells ≡ size
record_length size bytes cells is = meant_length size (csv_rows bytes) (first_broken (record_rule size) [] (csv_rows bytes)) cells is

-- one head more
cells_more : (heads : List Head) (head : Head)
    → cells_in (records_of (heads ++ head ∷ [])) ≡ cells_in (records_of heads) + cells_in (records_of (head ∷ []))
cells_more [] head = omega arith
cells_more (LockHead name size line ∷ heads) head = cells_more heads head
cells_more (BarrierHead name number line ∷ heads) head = cells_more heads head
cells_more (RecHead name size by from line ∷ heads) head = let more = cells_more heads head in omega (arith, more)
cells_more (FeedHead name fields from line ∷ heads) head = cells_more heads head

fields_more : (heads : List Head) (head : Head) → fields_of (heads ++ head ∷ []) ≡ fields_of heads ++ fields_of (head ∷ [])
fields_more [] head = refl
fields_more (LockHead name size line ∷ heads) head = fields_more heads head
fields_more (BarrierHead name number line ∷ heads) head = fields_more heads head
fields_more (RecHead name size by from line ∷ heads) head = fields_more heads head
fields_more (FeedHead name fields from line ∷ heads) head = ap (λ l. natural fields ∷ l) (fields_more heads head)

take_more : (heads : List Head) (i : ℕ) (head : Head) → i < length heads → head ≡ get_or heads i head
    → take (i + 1) heads ≡ take i heads ++ head ∷ []
take_more heads i head below is = ap (λ k. take k heads) (add-one i) ∙ go heads i head below is
  where
    go : (heads : List Head) (i : ℕ) (head : Head) → i < length heads → head ≡ get_or heads i head
        → take (suc i) heads ≡ take i heads ++ head ∷ []
    go [] i head below is = absurd (omega (arith, below))
    go (h ∷ heads) zero head below is = ap (λ x. x ∷ []) (sym is)
    go (h ∷ heads) (suc i) head below is = ap (λ l. h ∷ l) (go heads i head (omega (arith, below)) is)

pub counts_more : (heads : List Head) (i : ℕ) (head : Head) (before after : Inputs) → i < length heads → head ≡ get_or heads i head
    → Counts (take i heads) before → Grows head before after → Counts (take (i + 1) heads) after
counts_more heads i head before after below is counts grows =
    let more = take_more heads i head below is in
    record {
      records =
          grows.records ∙ ap (λ n. n + cells_in (records_of (head ∷ []))) counts.records ∙ sym (cells_more (take i heads) head)
          ∙ ap (λ l. cells_in (records_of l)) (sym more);
      feeds =
          grows.feeds ∙ ap (λ l. l ++ fields_of (head ∷ [])) counts.feeds ∙ sym (fields_more (take i heads) head) ∙ ap fields_of (sym more);
    }

pub counts_all : (heads : List Head) (n : ℕ) (inputs : Inputs) → length heads ≤ n → Counts (take n heads) inputs → Counts heads inputs
counts_all heads n inputs past counts = subst (λ l. Counts l inputs) (take_all n heads past) counts

-- what a record and what a feed grow the inputs by
pub record_grows : {T : Type 0} (head : Head) (name : Name) (size : ℤ) (by : Name) (from : Option Name) (line n : ℕ) (before after : Inputs)
    (result : Result T Refusal)
    → head ≡ RecHead name size by from line → n ≡ natural size
    → OnOk result (length after.records ≡ length before.records + n) → after.feeds ≡ before.feeds
    → OnOk result (Grows head before after)
record_grows head name size by from line n before after (Ok done) is same records feeds =
    let fields : map fields_in after.feeds ≡ map fields_in before.feeds ++ [] =
    ap (map fields_in) feeds ∙ sym (append-nil (map fields_in before.feeds)) in
    subst (λ h. Grows h before after) (sym is) (record { records = omega (arith, records, same); feeds = fields })
record_grows head name size by from line n before after (Err refusal) is same records feeds = tt

pub feed_grows : {T : Type 0} (head : Head) (name : Name) (fields : ℤ) (from : Name) (line n : ℕ) (before after : Inputs)
    (result : Result T Refusal)
    → head ≡ FeedHead name fields from line → n ≡ natural fields
    → OnOk result (map fields_in after.feeds ≡ map fields_in before.feeds ++ n ∷ []) → after.records ≡ before.records
    → OnOk result (Grows head before after)
feed_grows head name fields from line n before after (Ok done) is same feeds records =
    let cells : length after.records ≡ length before.records = ap length records in
    let grown = feeds ∙ ap (λ k. map fields_in before.feeds ++ k ∷ []) same in
    subst (λ h. Grows h before after) (sym is) (record { records = omega (arith, cells); feeds = grown })
feed_grows head name fields from line n before after (Err refusal) is same feeds records = tt
