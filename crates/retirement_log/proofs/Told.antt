-- What notes tell as results are noted and positions retire. A position has its row at its distance from the next one;
-- a result puts one row there and leaves the others; the next position takes the first row out, so that each other
-- comes one place nearer; and the log grows by that row.
use Rattle.std.proofs.Common.{◌≡◌, ◌≢◌, ℕ, zero, suc, ◌+◌, ◌-◌, ◌<◌, ◌≤◌, ◌^◌, inl, inr, List, [], ◌∷◌, ◌++◌, length}
use Rattle.std.proofs.Common.{take, refl, sym, ap, ◌∙◌, subst, arith, length-append, append-nil, cond, true, false, Bool}
use Rattle.std.specs.Prelude.{pos, All, codes, flat_map, sum_by, nat_eq, slice_get, Option, Some, None, MatchOption}
use Rattle.std.proofs.lemmas.Option.{slice_get_within}
use Rattle.std.proofs.lemmas.Bool.{eq-eqb, eqb-true, cases_lt}
use Rattle.std.proofs.lemmas.List.{take_all, take-append-le}
use Rattle.std.proofs.lemmas.List.Elements.{All-push, All-take}
use Rattle.std.proofs.lemmas.List.Sums.{sum_by_push, sum_by-cons}
use Rattle.std.proofs.lemmas.Grind.{flat_map-append}
use Rattle.std.proofs.Math.Seq.{take-append_seam, take-append-add}
use Rattle.std.specs.Fmt.{signed_decimal}
use Rattle.std.specs.Io.KnownBytes.{Appends}
use Rattle.gp_base.specs.meaning.Sinks.{AppendsPrefix}
use Rattle.std.proofs.KnownBytes.{Appends-nil}
use Rattle.gp_base.proofs.Written.{Appends-append}
use Rattle.task_ast.specs.declared.effect.Effect.{Effect}
use Rattle.crew.specs.Noted.{with_left, NotesResult, NotesNothing, NotesRetired, NotesPart}
use Rattle.retirement_log.specs.declared.notes.Pending.{Pending}
use Rattle.retirement_log.specs.declared.notes.LogNotes.{LogNotes}
use Rattle.retirement_log.specs.meaning.Rows.{Retirement, IsWideRow, group, cell_numbers, groups_text, row_text, log_text}
use Rattle.retirement_log.specs.meaning.Log.{log_row, size_of, rows_from, log_rows, log_told}
use Rattle.retirement_log.specs.meaning.Telling.{TellsPart}
use Rattle.retirement_log.specs.Telling.{IsPending, KeepsRows, KeepsOthers, LacksFirst, Tells}

some_same : {X : Type 0} (x y : X) → Some x ≡ Some y → x ≡ y
some_same x y e = cc

-- ---- what is noted

-- the row of what a position left stands there still
still_pending : (before after : List (Option Pending)) (k : ℕ) (e : Effect)
    → ((row : Pending) → slice_get before k ≡ Some (Some row) → slice_get after k ≡ Some (Some row))
    → IsPending (slice_get before k) e → IsPending (slice_get after k) e
still_pending before after k e kept pending = go (slice_get before k) refl pending
  where
    go : (there : Option (Option Pending)) → slice_get before k ≡ there → IsPending there e → IsPending (slice_get after k) e
    go (Some (Some row)) is h = subst (λ o. IsPending o e) (sym (kept row is)) h
    go (Some None) is h = absurd h
    go None is h = absurd h

-- what another position left is as it was
left_apart : (p q : ℕ) (e : Effect) (left : ℕ → Option Effect) → q ≢ p → with_left p e left q ≡ left q
left_apart p q e left apart = go (nat_eq q p) refl
  where
    go : (b : Bool) → nat_eq q p ≡ b → cond b (Some e) (left q) ≡ left q
    go true is = absurd (apart (eqb-true q p is))
    go false is = refl

-- and what this one left is this
left_here : (p : ℕ) (e : Effect) (left : ℕ → Option Effect) → with_left p e left p ≡ Some e
left_here p e left = ap (λ b. cond b (Some e) (left p)) (eq-eqb p p refl)

-- what stands in a list stands in a longer one
get_front : {X : Type 0} (xs ys : List X) (k : ℕ) (x : X) → slice_get xs k ≡ Some x → slice_get (xs ++ ys) k ≡ Some x
get_front [] ys k x is = absurd (none_some x is)
  where
    none_some : {X : Type 0} (x : X) → None ≡ Some x → ⊥
    none_some x e = cc
get_front (y ∷ xs) ys zero x is = is
get_front (y ∷ xs) ys (suc k) x is = get_front xs ys k x is

pub kept_longer : (before after more : List (Option Pending)) → KeepsRows before after → KeepsRows before (after ++ more)
kept_longer before after more kept k row is = get_front after more k (Some row) (kept k row is)

pub kept_same : (rows : List (Option Pending)) → KeepsRows rows rows
kept_same rows k row is = is

-- notes that have all their rows still tell the same
pub kept_all : (before after : LogNotes) → after.next ≡ before.next → after.bytes ≡ before.bytes
    → KeepsRows before.rows.items after.rows.items
    → NotesNothing (Tells before) (Tells after)
kept_all before after next bytes kept start written left told tells = record {
  log = tells.log;
  wide = tells.wide;
  bytes = bytes ∙ tells.bytes;
  next = next ∙ tells.next;
  rows = λ q f behind is.
      subst (λ n. IsPending (slice_get after.rows.items (q - n)) f) (sym next)
      (still_pending before.rows.items after.rows.items (q - before.next) f (kept (q - before.next))
      (tells.rows q f (subst (λ n. n ≤ q) next behind) is));
}

-- a result of a position that has retired is not needed
pub noted_late : (notes : LogNotes) (p : ℕ) (e : Effect) → p < notes.next → NotesResult (Tells notes) (Tells notes) p e
noted_late notes p e late start written left told tells = record {
  log = tells.log;
  wide = tells.wide;
  bytes = tells.bytes;
  next = tells.next;
  rows = λ q f behind is.
      let apart : q ≢ p = λ (same : q ≡ p). omega arith in
      tells.rows q f behind (sym (left_apart p q e left apart) ∙ is);
}

-- the row of a result was put into its place
pub noted : (before after : LogNotes) (p : ℕ) (e : Effect) (row : Pending) → before.next ≤ p → after.next ≡ before.next
    → after.bytes ≡ before.bytes
    → IsPending (Some (Some row)) e → slice_get after.rows.items (p - before.next) ≡ Some (Some row)
    → KeepsOthers (p - before.next) before.rows.items after.rows.items
    → NotesResult (Tells before) (Tells after) p e
noted before after p e row ahead next bytes pending put kept start written left told tells = record {
  log = tells.log;
  wide = tells.wide;
  bytes = bytes ∙ tells.bytes;
  next = next ∙ tells.next;
  rows =
      λ q f behind is. subst (λ n. IsPending (slice_get after.rows.items (q - n)) f) (sym next)
      (there q f (subst (λ n. n ≤ q) next behind) is (nat_eq q p) refl);
}
  where
    there : (q : ℕ) (f : Effect) → before.next ≤ q → with_left p e left q ≡ Some f → (b : Bool) → nat_eq q p ≡ b
        → IsPending (slice_get after.rows.items (q - before.next)) f
    there q f behind is true here =
        let same = eqb-true q p here in
        let left_this : e ≡ f = some_same e f (sym (left_here p e left) ∙ ap (with_left p e left) (sym same) ∙ is) in
        subst (IsPending (slice_get after.rows.items (q - before.next))) left_this
        (subst (λ n. IsPending (slice_get after.rows.items (n - before.next)) e) (sym same) (subst (λ o. IsPending o e) (sym put) pending))
    there q f behind is false apart =
        let other : q ≢ p = λ (same : q ≡ p). absurd (elsewhere (sym (eq-eqb q p same) ∙ apart)) in
        let place : q - before.next ≢ p - before.next = λ (same : q - before.next ≡ p - before.next). other (omega arith) in
        still_pending before.rows.items after.rows.items (q - before.next) f (λ old. kept (q - before.next) old place)
        (tells.rows q f behind (sym (left_apart p q e left other) ∙ is))
      where
        elsewhere : true ≡ false → ⊥
        elsewhere e = cc

-- ---- what retires

-- one position more
rows_more : (p b : ℕ) (told : List Effect) (e : Effect)
    → rows_from p b (told ++ e ∷ []) ≡ rows_from p b told ++ log_row (p + length told) (b + sum_by size_of told + size_of e) e ∷ []
rows_more p b [] e =
    let at : p ≡ p + 0 = omega arith in
    let sum : b + size_of e ≡ b + 0 + size_of e = omega arith in
    (λ i. log_row (at i) (sum i) e ∷ [])
rows_more p b (f ∷ told) e =
    let at : suc p + length told ≡ p + suc (length told) = omega arith in
    let first = sum_by-cons size_of f told in
    let sum : b + size_of f + sum_by size_of told + size_of e ≡ b + sum_by size_of (f ∷ told) + size_of e = omega arith in
    ap (λ rows. log_row p (b + size_of f) f ∷ rows)
    (rows_more (suc p) (b + size_of f) told e
    ∙ (λ i. rows_from (suc p) (b + size_of f) told ++ log_row (at i) (sum i) e ∷ []))

-- a row has bytes
row_some : (row : Retirement) → 0 < length (row_text row)
row_some row =
    let parts = length-append (signed_decimal row.position ++ codes " " ++ signed_decimal row.bytes) (groups_text row) in
    let groups = length-append (group row.regs ++ group row.child ++ group (flat_map cell_numbers row.cells)) (codes "\n") in
    grind (arith, parts, groups)

-- its row is the last of the log
pub log_more : (told : List Effect) (e : Effect)
    → log_told (told ++ e ∷ []) ≡ log_told told ++ row_text
    (log_row (length told) (length (codes "output\n") + sum_by size_of told + size_of e) e)
log_more told e =
    let last = log_row (0 + length told) (length (codes "output\n") + sum_by size_of told + size_of e) e in
    let number : 0 + length told ≡ length told = omega arith in
    ap log_text (rows_more 0 (length (codes "output\n")) told e)
    ∙ flat_map-append row_text (rows_from 0 (length (codes "output\n")) told) (last ∷ [])
    ∙ ap (λ text. log_told told ++ text) (append-nil (row_text last))
    ∙ ap (λ n. log_told told ++ row_text (log_row n (length (codes "output\n") + sum_by size_of told + size_of e) e)) number

-- the rows but for the first come one place nearer
nearer : (rows : List (Option Pending)) (first : Option Pending) (rest : List (Option Pending)) (k : ℕ) → rows ≡ first ∷ rest
    → slice_get rows (suc k) ≡ slice_get rest k
nearer rows first rest k is = ap (λ all. slice_get all (suc k)) is

-- the row of the next position is the first
pub first_pending : (notes : LogNotes) (first : Option Pending) (rest : List (Option Pending)) {start written : Option (List ℕ)}
    {left : ℕ → Option Effect} {told : List Effect} (p : ℕ) (e : Effect)
    → notes.rows.items ≡ first ∷ rest → Tells notes start written left told → p ≡ length told → left p ≡ Some e → IsPending (Some first) e
first_pending notes first rest {told = told} p e is tells at left_is =
    let next : notes.next ≤ p = (let n = tells.next in omega arith) in
    let here : p - notes.next ≡ 0 = (let n = tells.next in omega arith) in
    subst (λ o. IsPending o e) (ap (slice_get notes.rows.items) here ∙ ap (λ all. slice_get all 0) is) (tells.rows p e next left_is)

-- where the first place has none, nothing was noted of the next position
none_pending : (notes : LogNotes) {start written : Option (List ℕ)} {left : ℕ → Option Effect} {told : List Effect} (p : ℕ) (e : Effect)
    → LacksFirst notes.rows.items → Tells notes start written left told → p ≡ length told → left p ≡ Some e → ⊥
none_pending notes {told = told} p e lacks tells at left_is =
    let next : notes.next ≤ p = (let n = tells.next in omega arith) in
    let here : p - notes.next ≡ 0 = (let n = tells.next in omega arith) in
    go (slice_get notes.rows.items 0) refl (subst (λ k. IsPending (slice_get notes.rows.items k) e) here (tells.rows p e next left_is))
  where
    go : (there : Option (Option Pending)) → slice_get notes.rows.items 0 ≡ there → IsPending there e → ⊥
    go (Some (Some row)) is h = lacks row is
    go (Some None) is h = h
    go None is h = h

-- the text of a row from its parts
abbrev pub parts_text : (position bytes : ℕ) → (groups : List ℕ) → List ℕ
parts_text p bytes groups = signed_decimal (pos p) ++ codes " " ++ signed_decimal (pos bytes) ++ groups

-- it is the row by which the log grows
log_grows : (told : List Effect) (e : Effect) (row : Pending) (p before bytes : ℕ) → p ≡ length told
    → before ≡ length (codes "output\n") + sum_by size_of told
    → bytes ≡ before + row.size → IsPending (Some (Some row)) e
    → log_told (told ++ e ∷ []) ≡ log_told told ++ parts_text p bytes row.groups.items
log_grows told e row p before bytes at so_far sum pending =
    let size = pending.size in
    let all : length (codes "output\n") + sum_by size_of told + size_of e ≡ bytes = omega arith in
    log_more told e ∙ (λ i. log_told told ++ parts_text (sym at i) (all i) (sym pending.groups i))

-- the numbers of the log are of 64 bits still
wide_grows : (told : List Effect) (e : Effect) (row : Pending) (p before bytes : ℕ) → p ≡ length told
    → before ≡ length (codes "output\n") + sum_by size_of told
    → bytes ≡ before + row.size → p < 2 ^ 63 → bytes < 2 ^ 63 → IsPending (Some (Some row)) e → All IsWideRow (log_rows told)
    → All IsWideRow (log_rows (told ++ e ∷ []))
wide_grows told e row p before bytes at so_far sum low few pending wide =
    let size = pending.size in
    let last = log_row (0 + length told) (length (codes "output\n") + sum_by size_of told + size_of e) e in
    let own : IsWideRow last =
    record {
      position = omega (arith, at, low);
      bytes = omega (arith, so_far, sum, size, few);
      regs = pending.wide.regs;
      child = pending.wide.child;
      cells = pending.wide.cells;
    }
    in
    subst (All IsWideRow) (sym (rows_more 0 (length (codes "output\n")) told e)) (All-push IsWideRow (log_rows told) last wide own)

-- a position was told
pub told_one : (before after : LogNotes) (row : Pending) (p : ℕ) (written later : Option (List ℕ))
    → before.rows.items ≡ Some row ∷ after.rows.items
    → after.next ≡ before.next + 1 → after.bytes ≡ before.bytes + row.size → p < 2 ^ 63 → after.bytes < 2 ^ 63
    → Appends written later (parts_text p after.bytes row.groups.items)
    → NotesRetired (Tells before) (Tells after) written later p
told_one before after row p written later is next bytes low few out start left told e tells at left_is =
    let pending = first_pending before (Some row) after.rows.items p e is tells at left_is in
    record {
      log = subst (Appends start later) (sym (log_grows told e row p before.bytes after.bytes at tells.bytes bytes pending))
          (Appends-append start written later (log_told told) (parts_text p after.bytes row.groups.items) tells.log out);
      wide = wide_grows told e row p before.bytes after.bytes at tells.bytes bytes low few pending tells.wide;
      bytes =
          (let all = sum_by_push size_of told e in let so_far = tells.bytes in let size = pending.size in omega arith);
      next = (let count = length-append told (e ∷ []) in let so_far = tells.next in omega arith);
      rows = λ q f behind there.
          let ahead : before.next ≤ q = omega arith in
          let place : q - before.next ≡ suc (q - after.next) = omega arith in
          subst (λ o. IsPending o f) (ap (slice_get before.rows.items) place
          ∙ nearer before.rows.items (Some row) after.rows.items (q - after.next) is)
          (tells.rows q f ahead there);
    }

-- ---- what is told in part

-- all but the last of these
front_is : (told : List Effect) (e : Effect) → take (length (told ++ e ∷ []) - 1) (told ++ e ∷ []) ≡ told
front_is told e =
    let all = length-append told (e ∷ []) in
    let front : length (told ++ e ∷ []) - 1 ≡ length told = omega arith in
    ap (λ n. take n (told ++ e ∷ [])) front ∙ take-append_seam told (e ∷ [])

-- the rows of the first of these positions are the first of their rows
pub rows_first : (p b n : ℕ) (told : List Effect) → rows_from p b (take n told) ≡ take n (rows_from p b told)
rows_first p b zero told = refl
rows_first p b (suc n) [] = refl
rows_first p b (suc n) (e ∷ told) = ap (λ rows. log_row p (b + size_of e) e ∷ rows) (rows_first (suc p) (b + size_of e) n told)

-- and so their numbers are of 64 bits where all are
pub wide_first : (n : ℕ) (told : List Effect) → All IsWideRow (log_rows told) → All IsWideRow (log_rows (take n told))
wide_first n told wide =
    subst (All IsWideRow) (sym (rows_first 0 (length (codes "output\n")) n told)) (All-take IsWideRow n (log_rows told) wide)

-- a part of the text by which the log grows
part_out : (told : List Effect) (e : Effect) (text : List ℕ) (start written later : Option (List ℕ))
    → log_told (told ++ e ∷ []) ≡ log_told told ++ text
    → Appends start written (log_told told) → (out : AppendsPrefix written later text)
    → ((n : ℕ) → length (log_told (take n (told ++ e ∷ []))) ≤ length (log_told told) + out.0
    → All IsWideRow (log_rows (take n (told ++ e ∷ []))))
    → TellsPart start later (told ++ e ∷ [])
part_out told e text start written later grows all (n, taken) wide =
    let front = ap (λ effects. length (log_told effects)) (front_is told e) in
    record {
      part = length (log_told told) + n;
      most = omega arith;
      taken =
          subst (Appends start later) (sym (ap (take (length (log_told told) + n)) grows ∙ take-append-add (log_told told) text n))
          (Appends-append start written later (log_told told) (take n text) all taken);
      wide = wide;
    }

-- fewer bytes than all of its row were told of a position, so it is none of those that were told whole
none_whole : (told : List Effect) (e : Effect) → All IsWideRow (log_rows told) → (n : ℕ)
    → length (log_told (take n (told ++ e ∷ []))) ≤ length (log_told told) → All IsWideRow (log_rows (take n (told ++ e ∷ [])))
none_whole told e wide n few =
    elim (cases_lt (length told) n) [
      | inl more ↦
          let count = length-append told (e ∷ []) in
          let whole = ap (λ effects. length (log_told effects)) (take_all n (told ++ e ∷ []) (omega (arith, count, more))) in
          let grown = ap length (log_more told e) in
          let last = row_text (log_row (length told) (length (codes "output\n") + sum_by size_of told + size_of e) e) in
          let parts = length-append (log_told told) last in
          let some = row_some (log_row (length told) (length (codes "output\n") + sum_by size_of told + size_of e) e) in
          absurd (omega (arith, few, whole, grown, parts, some))
      | inr within ↦
          subst (λ effects. All IsWideRow (log_rows effects)) (sym (take-append-le n told (e ∷ []) within)) (wide_first n told wide)
    ]

-- a position was told in part
pub told_part : (before : LogNotes) (row : Pending) (rest : List (Option Pending)) (p bytes : ℕ) (written later : Option (List ℕ))
    → before.rows.items ≡ Some row ∷ rest
    → bytes ≡ before.bytes + row.size → p < 2 ^ 63 → bytes < 2 ^ 63 → AppendsPrefix written later (parts_text p bytes row.groups.items)
    → NotesPart (Tells before) TellsPart written later p
told_part before row rest p bytes written later is sum low few out start left told e tells at left_is =
    let pending = first_pending before (Some row) rest p e is tells at left_is in
    let wide = wide_grows told e row p before.bytes bytes at tells.bytes sum low few pending tells.wide in
    part_out told e (parts_text p bytes row.groups.items) start written later
    (log_grows told e row p before.bytes bytes at tells.bytes sum pending) tells.log out (λ n whole. wide_first n (told ++ e ∷ []) wide)

-- nothing was told of it
pub told_nothing : (before : LogNotes) (p : ℕ) (written : Option (List ℕ)) → NotesPart (Tells before) TellsPart written written p
told_nothing before p written start left told e tells at left_is =
    part_out told e _ start written written (log_more told e) tells.log (0, Appends-nil written)
    (λ n whole. none_whole told e tells.wide n (omega (arith, whole)))

-- of a position of which nothing was noted anything is right
pub told_unnoted : (before after : LogNotes) (p : ℕ) (written later : Option (List ℕ)) → LacksFirst before.rows.items
    → NotesRetired (Tells before) (Tells after) written later p
told_unnoted before after p written later lacks start left told e tells at left_is = absurd (none_pending before p e lacks tells at left_is)

-- the first row is taken out
pub first_taken : (before rest : List (Option Pending)) (first : Option Pending) → before ≡ first ∷ rest
    → MatchOption first (LacksFirst before) (λ row. before ≡ Some row ∷ rest)
first_taken before rest (Some row) is = is
first_taken before rest None is = λ row there. none_some row (some_same None (Some row) (ap (λ rows. slice_get rows 0) (sym is) ∙ there))
  where
    none_some : (row : Pending) → None ≡ Some row → ⊥
    none_some row e = cc

-- an empty list has no row
pub none_first : (rows : List (Option Pending)) → length rows ≡ 0 → LacksFirst rows
none_first rows empty row there = let less = slice_get_within rows 0 (Some row) there in omega arith
