-- What the files of heads give, one after another. The loop over the heads keeps that what all of them give is what
-- those that are left give of the inputs so far. So each kind of head (a record without a file, a record with one, a
-- feed) has a step that goes on, and one that stops with the refusal; each has a second form, for files of which
-- nothing may be told.
use Rattle.std.proofs.Common.{◌≡◌, ◌⊎◌, ℕ, ◌+◌, ◌-◌, ◌%◌, ◌<◌, ◌≤◌, zero, suc, ℤ, pos, replicate, Bool, true, false, List, [], ◌∷◌, ◌++◌, length, take, drop, get_or, if◌then◌else◌, Result, Ok, Err, IfSome, IsSomeAnd, inl, inr, sym, ap, ap₂, ◌∙◌, subst, add-one, arith, append-nil, append_assoc, nat_lt, refl}
use Rattle.std.specs.List.{Contains}
use Rattle.std.specs.declared.option.Option.{Option}
use Rattle.std.specs.declared.option.Option.TheVariants.{None, Some}
use Rattle.std.proofs.Props.{props}
use Rattle.std.proofs.lemmas.Bool.{cases_Bool}
use Rattle.std.proofs.lemmas.List.Sums.{sum_by-append}
use Rattle.std.proofs.lemmas.Bool.Decides.{nat_tests}
use Rattle.std.proofs.lemmas.List.{at_drop_more, drop_more, drop_all, take_all}
use Rattle.std.proofs.lemmas.List.Elements.{Contains-append_left, Contains-append_right}
use Rattle.gp_base.specs.meaning.Files.{bytes_of}
use Rattle.gp_base.specs.declared.feed.Feed.{Feed}
use Rattle.gp_base.specs.declared.fault.Fault.{Fault}
use Rattle.gp_base.specs.declared.fault.Faults.{Faults}
use Rattle.gp_base.specs.declared.feed.Inputs.{Inputs}
use Rattle.gp_base.specs.declared.limits.TheConstants.{MOST_FEED_CELLS, MOST_FILE_BYTES}
use Rattle.task_ast.specs.declared.tree.Head.{Head}
use Rattle.task_ast.specs.declared.tree.Head.TheVariants.{LockHead, BarrierHead, RecHead, FeedHead}
use Rattle.task_ast.specs.meaning.Tree.{Name}
use Rattle.task_ast.specs.meaning.Names.{natural}
use Rattle.batch_files.specs.meaning.Rows.{Row, Broken, csv_rows}
use Rattle.batch_files.specs.meaning.Records.{records_by}
use Rattle.batch_files.specs.meaning.Feeds.{feed_by}
use Rattle.batch_files.specs.meaning.Faults.{faults_by}
use Rattle.call_cases.specs.declared.reading.Refusal.{Refusal}
use Rattle.call_cases.specs.declared.reading.Refusal.TheVariants as refused
use Rattle.call_cases.specs.meaning.Work.{Files, Case, Refused, Go}
use Rattle.call_cases.specs.meaning.Case.{names_read}
use Rattle.call_cases.specs.meaning.Lines.{input_line}
use Rattle.call_cases.specs.meaning.InputFiles.{no_inputs, are_rows, feed_where, feed_with, with_cells, with_feed, room_after, more_cells, more_feed, by_rows, by_file, load_faults, by_record, load_head, then_load, load}
use Rattle.call_cases.specs.InputFiles.{named, names_in, file_names}
use Rattle.call_cases.specs.inner.Loading.{IsReadable, AreReadable, IsRefusedBy, AnswersRows, StepsTo, AnswersLoad, AnswersFaults}
use Rattle.call_cases.specs.Refusals.{ReadsAmong}

-- a feed by its parts; the facts that it keeps have one proof each
feed_by_parts : (fields : ℕ) (cells : List ℤ) (s : 0 < fields) (w : length cells % fields ≡ 0) (f : length cells ≤ MOST_FEED_CELLS) → Feed
feed_by_parts fields cells s w f = record { fields = fields; cells = cells; some_field = s; whole_rows = w; few_cells = f }

same_parts : (fields : ℕ) (cells : List ℤ) (s s' : 0 < fields) (w w' : length cells % fields ≡ 0) (f f' : length cells ≤ MOST_FEED_CELLS)
    → feed_by_parts fields cells s w f ≡ feed_by_parts fields cells s' w' f'
same_parts fields cells s s' w w' f f' =
    let one_s : (x y : 0 < fields) → x ≡ y = hlevel props in
    let one_w : (x y : length cells % fields ≡ 0) → x ≡ y = hlevel props in
    let one_f : (x y : length cells ≤ MOST_FEED_CELLS) → x ≡ y = hlevel props in
    ap (λ x. feed_by_parts fields cells x w f) (one_s s s') ∙ ap (λ x. feed_by_parts fields cells s' x f) (one_w w w')
    ∙ ap (feed_by_parts fields cells s' w') (one_f f f')

whole_feed : (feed : Feed) → are_rows feed.fields feed.cells ≡ true
whole_feed feed = grind (arith, nat_tests, feed.some_field, feed.whole_rows, feed.few_cells)

-- the feed of a feed's cells is that feed
pub feed_with-of : (feed : Feed) → feed_with feed.fields feed.cells ≡ Some feed
unfolding feed_by_parts
feed_with-of feed = go (cases_Bool (are_rows feed.fields feed.cells))
  where
    go : (rows : (are_rows feed.fields feed.cells ≡ true) ⊎ (are_rows feed.fields feed.cells ≡ false))
        → feed_where feed.fields feed.cells rows ≡ Some feed
    go (inl is) = ap Some (same_parts feed.fields feed.cells _ feed.some_field _ feed.whole_rows _ feed.few_cells)
    go (inr not) = let e : false ≡ true = sym not ∙ whole_feed feed in cc

fits : (text : List ℕ) → length text ≤ MOST_FILE_BYTES → nat_lt MOST_FILE_BYTES (length text) ≡ false
fits text within = grind (arith, nat_tests, within)

passes : (text : List ℕ) → MOST_FILE_BYTES < length text → nat_lt MOST_FILE_BYTES (length text) ≡ true
passes text above = grind (arith, nat_tests, above)

abbrev inputs_of : List ℤ → List Feed → Inputs
inputs_of records feeds = record { records = records; feeds = feeds }

-- a file whose rows mean something
ok_file : {S T : Type 0} (names : List Name) (file : Name) (bytes : Option (List ℕ)) (meant : List Row → Result S Broken)
    (next : List Name → S → Case T) (value : S)
    → IsSomeAnd bytes (λ text. (length text ≤ MOST_FILE_BYTES) × (meant (csv_rows text) ≡ Ok value))
    → by_file names file bytes meant next ≡ next (names ++ file ∷ []) value
ok_file names file None meant next value is = absurd is
ok_file names file (Some text) meant next value is =
    ap (λ b. if b then Refused 4 (names ++ file ∷ []) (input_line file 6 0) else by_rows names file (meant (csv_rows text)) next) (fits text is.0)
    ∙ ap (λ r. by_rows names file r next) is.1

-- a file that is refused with a line
spoils : {S T : Type 0} (names : List Name) (file : Name) (text line : List ℕ) (next : List Name → S → Case T) (meant : Result S Broken)
    → IsRefusedBy file line text meant
    → (if nat_lt MOST_FILE_BYTES (length text) then Refused 4 (names ++ file ∷ []) (input_line file 6 0) else by_rows names file meant next)
    ≡ Refused 4 (names ++ file ∷ []) line
spoils names file text line next (Ok value) (told, above) =
    ap (λ b. if b then Refused 4 (names ++ file ∷ []) (input_line file 6 0) else by_rows names file (Ok value) next) (passes text above)
    ∙ ap (Refused 4 (names ++ file ∷ [])) (sym told)
spoils names file text line next (Err broken) (inl (told, above)) =
    ap (λ b. if b then Refused 4 (names ++ file ∷ []) (input_line file 6 0) else by_rows names file (Err broken) next) (passes text above)
    ∙ ap (Refused 4 (names ++ file ∷ [])) (sym told)
spoils names file text line next (Err broken) (inr (told, within)) =
    ap (λ b. if b then Refused 4 (names ++ file ∷ []) (input_line file 6 0) else by_rows names file (Err broken) next) (fits text within)
    ∙ ap (Refused 4 (names ++ file ∷ [])) (sym told)

pub bad_file : {S T : Type 0} (names : List Name) (file line : Name) (bytes : Option (List ℕ)) (meant : List Row → Result S Broken)
    (next : List Name → S → Case T)
    → IsSomeAnd bytes (λ text. IsRefusedBy file line text (meant (csv_rows text)))
    → by_file names file bytes meant next ≡ Refused 4 (names ++ file ∷ []) line
bad_file names file line None meant next is = absurd is
bad_file names file line (Some text) meant next is = spoils names file text line next (meant (csv_rows text)) is

-- the files that are read stay among those that are read
module _ (name : Name) where
  keeps_rows : {R S T : Type 0} (names : List Name) (file : Name) (rows : Result R Broken) (first : List Name → R → Case S)
      (next : List Name → S → Case T)
      → ((n : List Name) (value : R) → Contains n name → Contains (names_read (then_load (first n value) next)) name)
      → Contains (names ++ file ∷ []) name → Contains (names_read (then_load (by_rows names file rows first) next)) name
  keeps_rows names file (Ok value) first next keeps is = keeps (names ++ file ∷ []) value is
  keeps_rows names file (Err broken) first next keeps is = is

  keeps_long : {R S T : Type 0} (names : List Name) (file : Name) (long : Bool) (rows : Result R Broken)
      (first : List Name → R → Case S) (next : List Name → S → Case T)
      → ((n : List Name) (value : R) → Contains n name → Contains (names_read (then_load (first n value) next)) name)
      → Contains (names ++ file ∷ []) name
      → Contains (names_read (then_load (if long then Refused 4 (names ++ file ∷ []) (input_line file 6 0) else by_rows names file rows first)
      next)) name
  keeps_long names file true rows first next keeps is = is
  keeps_long names file false rows first next keeps is = keeps_rows names file rows first next keeps is

  pub keeps_file : {R S T : Type 0} (names : List Name) (file : Name) (bytes : Option (List ℕ)) (meant : List Row → Result R Broken)
      (first : List Name → R → Case S) (next : List Name → S → Case T)
      → ((n : List Name) (value : R) → Contains n name → Contains (names_read (then_load (first n value) next)) name)
      → Contains (names ++ file ∷ []) name → Contains (names_read (then_load (by_file names file bytes meant first) next)) name
  keeps_file names file None meant first next keeps is = is
  keeps_file names file (Some text) meant first next keeps is =
      keeps_long names file (nat_lt MOST_FILE_BYTES (length text)) (meant (csv_rows text)) first next keeps is

  keeps_head : (files : Files) (names : List Name) (inputs : Inputs) (head : Head) (next : List Name → Inputs → Case Inputs)
      → ((n : List Name) (i : Inputs) → Contains n name → Contains (names_read (next n i)) name)
      → Contains (names ++ names_in head) name → Contains (names_read (then_load (load_head files names inputs head) next)) name
  keeps_head files names inputs (LockHead x size line) next keeps is =
      keeps names inputs (subst (λ l. Contains l name) (append-nil names) is)
  keeps_head files names inputs (BarrierHead x number line) next keeps is =
      keeps names inputs (subst (λ l. Contains l name) (append-nil names) is)
  keeps_head files names inputs (RecHead x size by None line) next keeps is =
      keeps names _ (subst (λ l. Contains l name) (append-nil names) is)
  keeps_head files names inputs (RecHead x size by (Some file) line) next keeps is =
      keeps_file names file (bytes_of files file) (records_by (natural size)) (more_cells inputs) next
      (λ n cells. keeps n (with_cells inputs cells)) is
  keeps_head files names inputs (FeedHead x fields file line) next keeps is =
      keeps_file names file (bytes_of files file) (feed_by (natural fields) (room_after inputs.feeds))
      (more_feed inputs (natural fields)) next (λ n cells. keeps n (with_feed inputs (feed_with (natural fields) cells))) is

  keeps_all : (files : Files) (heads : List Head) (names : List Name) (inputs : Inputs) → Contains names name
      → Contains (names_read (load files names inputs heads)) name
  keeps_all files [] names inputs is = is
  keeps_all files (head ∷ heads) names inputs is =
      keeps_head files names inputs head (λ n i. load files n i heads) (λ n i. keeps_all files heads n i)
      (Contains-append_left names (names_in head) name is)

  -- the file of the next head is read
  pub reads_next : (files : Files) (heads : List Head) (names : List Name) (inputs : Inputs) (head : Head) → Contains (names_in head) name
      → Contains (names_read (load files names inputs (head ∷ heads))) name
  reads_next files heads names inputs head is =
      keeps_head files names inputs head (λ n i. load files n i heads) (λ n i. keeps_all files heads n i)
      (Contains-append_right names (names_in head) name is)

-- the files of heads, one head more
file_names-suc : (heads : List Head) (i : ℕ) (head : Head) → i < length heads → head ≡ get_or heads i head
    → file_names (take (suc i) heads) ≡ file_names (take i heads) ++ names_in head
file_names-suc [] i head below is = absurd (omega arith)
file_names-suc (h ∷ heads) zero head below is = append-nil (names_in h) ∙ ap names_in (sym is)
file_names-suc (h ∷ heads) (suc i) head below is =
    ap (λ l. names_in h ++ l) (file_names-suc heads i head (omega arith) is)
    ∙ sym (append_assoc (names_in h) (file_names (take i heads)) (names_in head))

pub file_names-more : (heads : List Head) (i : ℕ) (head : Head) → i < length heads → head ≡ get_or heads i head
    → file_names (take (i + 1) heads) ≡ file_names (take i heads) ++ names_in head
file_names-more heads i head below is = ap (λ k. file_names (take k heads)) (add-one i) ∙ file_names-suc heads i head below is

-- the file of a head is one of all
pub file_among : (heads : List Head) (i : ℕ) (head : Head) (name : Name) → i < length heads → head ≡ get_or heads i head
    → Contains (names_in head) name → Contains (file_names heads) name
file_among [] i head name below is file = absurd (omega arith)
file_among (h ∷ heads) zero head name below is file =
    Contains-append_left (names_in h) (file_names heads) name (subst (λ x. Contains (names_in x) name) is file)
file_among (h ∷ heads) (suc i) head name below is file =
    Contains-append_right (names_in h) (file_names heads) name (file_among heads i head name (omega arith) is file)

-- the steps of a record's file
pub record_ok : (names : List Name) (file : Name) (size : ℕ) (bytes : Option (List ℕ)) (inputs : Inputs) (cells : List ℤ)
    → IsSomeAnd bytes (λ text. (length text ≤ MOST_FILE_BYTES) × (records_by size (csv_rows text) ≡ Ok cells))
    → by_file names file bytes (records_by size) (more_cells inputs) ≡ Go (names ++ file ∷ []) (with_cells inputs cells)
record_ok names file size bytes inputs cells is = ok_file names file bytes (records_by size) (more_cells inputs) cells is

pub record_bad : (names : List Name) (file : Name) (size : ℕ) (bytes : Option (List ℕ)) (inputs : Inputs) (refusal : Refusal)
    → AnswersRows {A = List ℤ} (λ cells. cells) file (records_by size) bytes (Err refusal)
    → StepsTo {T = Unit {0}} names (file ∷ []) (by_file names file bytes (records_by size) (more_cells inputs)) inputs (Err refusal)
record_bad names file size bytes inputs refused.Usage is = is
record_bad names file size bytes inputs (refused.BadProgram line) is = is
record_bad names file size bytes inputs (refused.BadInput line) is =
    (names ++ file ∷ [], bad_file names file line bytes (records_by size) (more_cells inputs) is)
record_bad names file size bytes inputs (refused.ReadFault name) is = tt
record_bad names file size bytes inputs refused.OutOfMemory is = tt

-- the steps of a feed's file
pub feed_ok : (names : List Name) (file : Name) (bytes : Option (List ℕ)) (inputs : Inputs) (feed : Feed)
    → IsSomeAnd bytes (λ text. (length text ≤ MOST_FILE_BYTES)
    × (feed_by feed.fields (room_after inputs.feeds) (csv_rows text) ≡ Ok feed.cells))
    → by_file names file bytes (feed_by feed.fields (room_after inputs.feeds)) (more_feed inputs feed.fields)
    ≡ Go (names ++ file ∷ []) (with_feed inputs (Some feed))
feed_ok names file bytes inputs feed is =
    ok_file names file bytes (feed_by feed.fields (room_after inputs.feeds)) (more_feed inputs feed.fields) feed.cells is
    ∙ ap (λ f. Go (names ++ file ∷ []) (with_feed inputs f)) (feed_with-of feed)

pub feed_bad : (names : List Name) (file : Name) (fields : ℕ) (bytes : Option (List ℕ)) (inputs : Inputs) (refusal : Refusal)
    → AnswersRows {A = Feed} (λ feed. feed.cells) file (feed_by fields (room_after inputs.feeds)) bytes (Err refusal)
    → StepsTo {T = Unit {0}} names (file ∷ [])
    (by_file names file bytes (feed_by fields (room_after inputs.feeds)) (more_feed inputs fields)) inputs (Err refusal)
feed_bad names file fields bytes inputs refused.Usage is = is
feed_bad names file fields bytes inputs (refused.BadProgram line) is = is
feed_bad names file fields bytes inputs (refused.BadInput line) is =
    (names ++ file ∷ [], bad_file names file line bytes (feed_by fields (room_after inputs.feeds)) (more_feed inputs fields) is)
feed_bad names file fields bytes inputs (refused.ReadFault name) is = tt
feed_bad names file fields bytes inputs refused.OutOfMemory is = tt

-- the same where the files are told
pub records_bad : (told : Option Files) (file : Name) (size : ℕ) (inputs : Inputs) (refusal : Refusal)
    → IfSome told (λ files. AnswersRows {A = List ℤ} (λ cells. cells) file (records_by size) (bytes_of files file) (Err refusal))
    → IfSome told (λ files. (names : List Name)
    → StepsTo {T = Unit {0}} names (file ∷ [])
    (by_file names file (bytes_of files file) (records_by size) (more_cells inputs)) inputs (Err refusal))
records_bad None file size inputs refusal is = tt
records_bad (Some files) file size inputs refusal is = λ names. record_bad names file size (bytes_of files file) inputs refusal is

pub records_ok : (told : Option Files) (file : Name) (size : ℕ) (inputs after : Inputs) (cells put : List ℤ) → put ≡ cells
    → after.records ≡ inputs.records ++ put → after.feeds ≡ inputs.feeds
    → IfSome told (λ files. IsSomeAnd (bytes_of files file)
    (λ text. (length text ≤ MOST_FILE_BYTES) × (records_by size (csv_rows text) ≡ Ok cells)))
    → IfSome told (λ files. (names : List Name)
    → by_file names file (bytes_of files file) (records_by size) (more_cells inputs) ≡ Go (names ++ file ∷ []) after)
records_ok None file size inputs after cells put same records feeds is = tt
records_ok (Some files) file size inputs after cells put same records feeds is =
    let all = records ∙ ap (λ l. inputs.records ++ l) same in
    let grown : with_cells inputs cells ≡ after = ap₂ inputs_of (sym all) (sym feeds) in
    λ names.
    record_ok names file size (bytes_of files file) inputs cells is
    ∙ ap (λ i. Go (names ++ file ∷ []) i) grown

pub feeds_bad : (told : Option Files) (file : Name) (fields room : ℕ) (inputs : Inputs) (refusal : Refusal) → room ≡ room_after inputs.feeds
    → IfSome told (λ files. AnswersRows {A = Feed} (λ feed. feed.cells) file (feed_by fields room) (bytes_of files file) (Err refusal))
    → IfSome told (λ files. (names : List Name)
    → StepsTo {T = Unit {0}} names (file ∷ [])
    (by_file names file (bytes_of files file) (feed_by fields (room_after inputs.feeds)) (more_feed inputs fields)) inputs
    (Err refusal))
feeds_bad None file fields room inputs refusal same is = tt
feeds_bad (Some files) file fields room inputs refusal same is =
    λ names. feed_bad names file fields (bytes_of files file) inputs refusal
    (subst (λ r. AnswersRows {A = Feed} (λ feed. feed.cells) file (feed_by fields r) (bytes_of files file) (Err refusal)) same is)

pub feeds_ok : (told : Option Files) (file : Name) (fields room : ℕ) (inputs after : Inputs) (feed : Feed) → room ≡ room_after inputs.feeds
    → feed.fields ≡ fields
    → after.records ≡ inputs.records → after.feeds ≡ inputs.feeds ++ feed ∷ []
    → IfSome told (λ files. IsSomeAnd (bytes_of files file)
    (λ text. (length text ≤ MOST_FILE_BYTES) × (feed_by fields room (csv_rows text) ≡ Ok feed.cells)))
    → IfSome told (λ files. (names : List Name)
    → by_file names file (bytes_of files file) (feed_by fields (room_after inputs.feeds)) (more_feed inputs fields)
    ≡ Go (names ++ file ∷ []) after)
feeds_ok None file fields room inputs after feed same_room same_fields records feeds is = tt
feeds_ok (Some files) file fields room inputs after feed same_room same_fields records feeds is =
    let meant =
    subst (λ r. IsSomeAnd (bytes_of files file)
    (λ text. (length text ≤ MOST_FILE_BYTES) × (feed_by feed.fields r (csv_rows text) ≡ Ok feed.cells))) same_room
    (subst (λ f. IsSomeAnd (bytes_of files file)
    (λ text. (length text ≤ MOST_FILE_BYTES) × (feed_by f room (csv_rows text) ≡ Ok feed.cells))) (sym same_fields) is) in
    let grown : with_feed inputs (Some feed) ≡ after = ap₂ (λ r f. inputs_of r f) (sym records) (sym feeds) in
    λ names.
    ap (λ f. by_file names file (bytes_of files file) (feed_by f (room_after inputs.feeds)) (more_feed inputs f)) (sym same_fields)
    ∙ feed_ok names file (bytes_of files file) inputs feed meant
    ∙ ap (λ i. Go (names ++ file ∷ []) i) grown

-- one step of the loop, where it goes on
pub load-more : (files : Files) (heads : List Head) (i : ℕ) (head : Head) (before after : Inputs) (all : Case Inputs) → i < length heads
    → head ≡ get_or heads i head
    → load files (file_names (take i heads)) before (drop i heads) ≡ all
    → load_head files (file_names (take i heads)) before head ≡ Go (file_names (take i heads) ++ names_in head) after
    → load files (file_names (take (i + 1) heads)) after (drop (i + 1) heads) ≡ all
load-more files heads i head before after all below is so_far step =
    ap (λ names. load files names after (drop (i + 1) heads)) (file_names-more heads i head below is)
    ∙ ap (λ s. then_load s (λ n x. load files n x (drop (i + 1) heads))) (sym step)
    ∙ ap (λ h. load files (file_names (take i heads)) before (h ∷ drop (i + 1) heads)) is
    ∙ sym (at_drop_more (λ (left : List Head). load files (file_names (take i heads)) before left) heads i head below)
    ∙ so_far

-- what all heads give is what is left of them gives
at_head : (files : Files) (heads : List Head) (i : ℕ) (head : Head) (names : List Name) (before : Inputs) (all : Case Inputs)
    → i < length heads → head ≡ get_or heads i head
    → load files names before (drop i heads) ≡ all → load files names before (head ∷ drop (i + 1) heads) ≡ all
at_head files heads i head names before all below is so_far =
    ap (λ h. load files names before (h ∷ drop (i + 1) heads)) is
    ∙ sym (at_drop_more (λ (left : List Head). load files names before left) heads i head below) ∙ so_far

-- where the loop ends at a head
pub load-stops : (files : Files) (heads : List Head) (i : ℕ) (head : Head) (before after : Inputs) (all : Case Inputs)
    (failed failed' : List Name) (refusal : Refusal) → i < length heads → head ≡ get_or heads i head
    → load files (file_names (take i heads)) before (drop i heads) ≡ all
    → StepsTo {T = Unit {0}} (file_names (take i heads)) (names_in head)
    (load_head files (file_names (take i heads)) before head) after (Err refusal)
    → ReadsAmong {T = Unit {0}} (names_in head) failed failed' (Err refusal) → AnswersLoad all (file_names heads) (Err refusal)
load-stops files heads i head before after all failed failed' refused.Usage below is so_far step among = step
load-stops files heads i head before after all failed failed' (refused.BadProgram line) below is so_far step among = step
load-stops files heads i head before after all failed failed' (refused.BadInput line) below is so_far (read, step) among = (
  read,
  sym (at_head files heads i head (file_names (take i heads)) before all below is so_far)
      ∙ ap (λ s. then_load s (λ n x. load files n x (drop (i + 1) heads))) step,
)
load-stops files heads i head before after all failed failed' (refused.ReadFault name) below is so_far step among =
    subst (λ s. Contains (names_read s) name) (at_head files heads i head (file_names (take i heads)) before all below is so_far)
    (reads_next name files (drop (i + 1) heads) (file_names (take i heads)) before head among.0)
load-stops files heads i head before after all failed failed' refused.OutOfMemory below is so_far step among = tt

-- the reads of one head are among those of all
pub among_all : (heads : List Head) (i : ℕ) (head : Head) (failed failed' : List Name) (refusal : Refusal) → i < length heads
    → head ≡ get_or heads i head
    → ReadsAmong {T = Unit {0}} (names_in head) failed failed' (Err refusal)
    → ReadsAmong {T = Inputs} (file_names heads) failed failed' (Err refusal)
among_all heads i head failed failed' refused.Usage below is among = among
among_all heads i head failed failed' (refused.BadProgram line) below is among = among
among_all heads i head failed failed' (refused.BadInput line) below is among = among
among_all heads i head failed failed' (refused.ReadFault name) below is among =
    (file_among heads i head name below is among.0, among.1, among.2)
among_all heads i head failed failed' refused.OutOfMemory below is among = tt

-- the room beside one feed more
pub room_after-more : (feeds : List Feed) (feed : Feed) → room_after (feeds ++ feed ∷ []) ≡ room_after feeds - length feed.cells
room_after-more feeds feed = let sums = sum_by-append (λ (f : Feed). length f.cells) feeds (feed ∷ []) in omega (arith, sums)

-- the same where the files are told, by whom they are told
pub loads_more : (known told : Option Files) (heads : List Head) (i : ℕ) (head : Head) (before after : Inputs) → known ≡ told
    → i < length heads → head ≡ get_or heads i head
    → IfSome told (λ files. load files (file_names (take i heads)) before (drop i heads) ≡ load files [] no_inputs heads)
    → IfSome known (λ files. (names : List Name) → load_head files names before head ≡ Go (names ++ names_in head) after)
    → IfSome told (λ files. load files (file_names (take (i + 1) heads)) after (drop (i + 1) heads) ≡ load files [] no_inputs heads)
loads_more known None heads i head before after same below is so_far step = tt
loads_more known (Some files) heads i head before after same below is so_far step =
    let steps =
    subst (λ k. IfSome k (λ files. (names : List Name) → load_head files names before head ≡ Go (names ++ names_in head) after))
    same step in
    load-more files heads i head before after (load files [] no_inputs heads) below is so_far (steps (file_names (take i heads)))

pub loads_stop : (known told : Option Files) (heads : List Head) (i : ℕ) (head : Head) (before after : Inputs) (failed failed' : List Name)
    (refusal : Refusal) → known ≡ told → i < length heads → head ≡ get_or heads i head
    → IfSome told (λ files. load files (file_names (take i heads)) before (drop i heads) ≡ load files [] no_inputs heads)
    → IfSome known (λ files. (names : List Name)
    → StepsTo {T = Unit {0}} names (names_in head) (load_head files names before head) after (Err refusal))
    → ReadsAmong {T = Unit {0}} (names_in head) failed failed' (Err refusal)
    → IfSome told (λ files. AnswersLoad (load files [] no_inputs heads) (file_names heads) (Err refusal))
loads_stop known None heads i head before after failed failed' refusal same below is so_far step among = tt
loads_stop known (Some files) heads i head before after failed failed' refusal same below is so_far step among =
    let steps =
    subst (λ k. IfSome k (λ files. (names : List Name)
    → StepsTo {T = Unit {0}} names (names_in head) (load_head files names before head) after (Err refusal))) same step in
    load-stops files heads i head before after (load files [] no_inputs heads) failed failed' refusal below is so_far
    (steps (file_names (take i heads))) among

-- all heads were read
pub loads_all : (told : Option Files) (heads : List Head) (n : ℕ) (after : Inputs) → length heads ≤ n
    → IfSome told (λ files. load files (file_names (take n heads)) after (drop n heads) ≡ load files [] no_inputs heads)
    → IfSome told (λ files. load files [] no_inputs heads ≡ Go (file_names heads) after)
loads_all None heads n after past is = tt
loads_all (Some files) heads n after past is =
    sym is ∙ ap (λ l. load files (file_names (take n heads)) after l) (drop_all n heads past)
    ∙ ap (λ l. Go (file_names l) after) (take_all n heads past)

-- the same, as they are given away
pub loads_given : (told : Option Files) (heads : List Head) (n : ℕ) (before after : Inputs) → length heads ≤ n
    → after.records ≡ before.records → after.feeds ≡ before.feeds
    → IfSome told (λ files. load files (file_names (take n heads)) before (drop n heads) ≡ load files [] no_inputs heads)
    → IfSome told (λ files. load files [] no_inputs heads ≡ Go (file_names heads) after)
loads_given told heads n before after past records feeds is =
    let same : before ≡ after = ap₂ inputs_of (sym records) (sym feeds) in
    subst (λ i. IfSome told (λ files. load files [] no_inputs heads ≡ Go (file_names heads) i)) same
    (loads_all told heads n before past is)

-- before the first head there are no inputs
pub loads_none : (told : Option Files) (heads : List Head) (inputs : Inputs) → inputs.records ≡ [] → inputs.feeds ≡ []
    → IfSome told (λ files. load files [] inputs heads ≡ load files [] no_inputs heads)
loads_none None heads inputs records feeds = tt
loads_none (Some files) heads inputs records feeds =
    let same : inputs ≡ no_inputs = ap₂ inputs_of records feeds in
    ap (λ i. load files [] i heads) same

-- what the rows of a file that was read mean
pub rows_ok : {A T : Type 0} (told : Option Files) (see : A → T) (file : Name) (text : List ℕ) (meant : List Row → Result T Broken) (value : A)
    → IfSome told (λ files. (bytes_of files file ≡ Some text) × (length text ≤ MOST_FILE_BYTES))
    → meant (csv_rows text) ≡ Ok (see value)
    → IfSome told (λ files. AnswersRows see file meant (bytes_of files file) (Ok value))
rows_ok None see file text meant value is means = tt
rows_ok (Some files) see file text meant value is means =
    subst (λ bytes. AnswersRows see file meant bytes (Ok value)) (sym is.0) (is.1, means)

-- a head that is left can be read
pub readable_at : (heads : List Head) (i : ℕ) (head : Head) → i < length heads → head ≡ get_or heads i head → AreReadable (drop i heads)
    → IsReadable head × AreReadable (drop (i + 1) heads)
readable_at heads i head below is all =
    let parts = subst AreReadable (drop_more heads i head below) all in
    (subst IsReadable (sym is) parts.0, parts.1)

-- the steps of a record without a file and of one with
pub zeros_step : (told : Option Files) (from : Option Name) (size : ℕ) (inputs after : Inputs) → from ≡ None
    → after.records ≡ inputs.records ++ replicate size (pos 0) → after.feeds ≡ inputs.feeds
    → IfSome told (λ files. (names : List Name) → by_record files names inputs size from ≡ Go (names ++ named from) after)
zeros_step None from size inputs after is records feeds = tt
zeros_step (Some files) from size inputs after is records feeds = λ names.
    let grown : with_cells inputs (replicate size (pos 0)) ≡ after = ap₂ inputs_of (sym records) (sym feeds) in
    ap (by_record files names inputs size) is ∙ ap (λ i. Go names i) grown ∙ ap (λ l. Go l after) (sym (append-nil names))
    ∙ ap (λ f. Go (names ++ named f) after) (sym is)

pub cells_step : {T : Type 0} (told : Option Files) (from : Option Name) (file : Name) (size : ℕ) (inputs after : Inputs)
    (result : Result T Refusal) → from ≡ Some file
    → IfSome told (λ files. (names : List Name)
    → StepsTo names (file ∷ []) (by_file names file (bytes_of files file) (records_by size) (more_cells inputs)) after result)
    → IfSome told (λ files. (names : List Name) → StepsTo names (named from) (by_record files names inputs size from) after result)
cells_step told from file size inputs after result is step =
    subst (λ f. IfSome told (λ files. (names : List Name) → StepsTo names (named f) (by_record files names inputs size f) after result))
    (sym is) step

-- the step of a head that is a record, and of one that is a feed
pub record_step : {T : Type 0} (told : Option Files) (head : Head) (name : Name) (size : ℤ) (by : Name) (from : Option Name) (line : ℕ)
    (n : ℕ) (inputs after : Inputs) (result : Result T Refusal)
    → head ≡ RecHead name size by from line → n ≡ natural size
    → IfSome told (λ files. (names : List Name) → StepsTo names (named from) (by_record files names inputs n from) after result)
    → IfSome told (λ files. (names : List Name) → StepsTo names (names_in head) (load_head files names inputs head) after result)
record_step told head name size by from line n inputs after result is same step =
    subst (λ h. IfSome told (λ files. (names : List Name) → StepsTo names (names_in h) (load_head files names inputs h) after result))
    (sym is)
    (subst (λ m. IfSome told (λ files. (names : List Name) → StepsTo names (named from) (by_record files names inputs m from) after result))
    same step)

pub feed_step : {T : Type 0} (told : Option Files) (head : Head) (name : Name) (fields : ℤ) (file : Name) (line : ℕ) (n : ℕ)
    (inputs after : Inputs) (result : Result T Refusal)
    → head ≡ FeedHead name fields file line → n ≡ natural fields
    → IfSome told (λ files. (names : List Name)
    → StepsTo names (file ∷ []) (by_file names file (bytes_of files file) (feed_by n (room_after inputs.feeds))
    (more_feed inputs n)) after result)
    → IfSome told (λ files. (names : List Name) → StepsTo names (names_in head) (load_head files names inputs head) after result)
feed_step told head name fields file line n inputs after result is same step =
    subst (λ h. IfSome told (λ files. (names : List Name) → StepsTo names (names_in h) (load_head files names inputs h) after result))
    (sym is)
    (subst (λ m. IfSome told (λ files. (names : List Name)
    → StepsTo names (file ∷ []) (by_file names file (bytes_of files file) (feed_by m (room_after inputs.feeds))
    (more_feed inputs m)) after result)) same step)

-- a list of one member holds no other
pub only_one : (file name : Name) → Contains (file ∷ []) name → file ≡ name
only_one file name (zero, below, is) = is
only_one file name (suc k, below, is) = absurd (omega (arith, below))

pub then_names : {S T : Type 0} (made : S → T) (supplied : Case S)
    → names_read (then_load supplied (λ n x. Go n (made x))) ≡ names_read supplied
then_names made (Go names value) = refl
then_names made (Refused status names line) = refl

-- what was read before the file of faults, and that file, were read
reads_faults : (name : Name) (files : Files) (names : List Name) (file : Name) → Contains (names ++ file ∷ []) name
    → Contains (names_read (load_faults files names (Some file))) name
reads_faults name files names file is =
    subst (λ l. Contains l name) (then_names (λ (faults : List Fault). faults) (load_faults files names (Some file)))
    (keeps_file name names file (bytes_of files file) faults_by Go (λ n faults. Go n faults) (λ n faults keeps. keeps) is)

pub keeps_faults : (name : Name) (files : Files) (names : List Name) (from : Option Name) → Contains names name
    → Contains (names_read (load_faults files names from)) name
keeps_faults name files names None is = is
keeps_faults name files names (Some file) is = reads_faults name files names file (Contains-append_left names (file ∷ []) name is)

-- the answers to a file of faults
module _ (files : Files) (names : List Name) (file : Name) (before now : List Name) where
  faults_answer : (result : Result Faults Refusal)
      → AnswersRows (λ (faults : Faults). faults.list) file faults_by (bytes_of files file) result
      → ReadsAmong (file ∷ []) before now result
      → AnswersFaults names (file ∷ []) (load_faults files names (Some file)) result
  faults_answer (Ok faults) is among = ok_file names file (bytes_of files file) faults_by Go faults.list is
  faults_answer (Err refused.Usage) is among = is
  faults_answer (Err (refused.BadProgram line)) is among = is
  faults_answer (Err (refused.BadInput line)) is among =
      (names ++ file ∷ [], bad_file names file line (bytes_of files file) faults_by Go is)
  faults_answer (Err (refused.ReadFault told)) is among =
      reads_faults told files names file (Contains-append_right names (file ∷ []) told among.0)
  faults_answer (Err refused.OutOfMemory) is among = tt

-- the same where the files are told, of the file that is named
pub faults_told : (told : Option Files) (from : Option Name) (file : Name) (before now : List Name) (result : Result Faults Refusal)
    → from ≡ Some file
    → IfSome told (λ files. AnswersRows (λ (faults : Faults). faults.list) file faults_by (bytes_of files file) result)
    → ReadsAmong (file ∷ []) before now result
    → IfSome told (λ files. (names : List Name) → AnswersFaults names (named from) (load_faults files names from) result)
faults_told None from file before now result is told among = tt
faults_told (Some files) from file before now result is told among =
    subst (λ f. (names : List Name) → AnswersFaults names (named f) (load_faults files names f) result) (sym is)
    (λ names. faults_answer files names file before now result told among)
