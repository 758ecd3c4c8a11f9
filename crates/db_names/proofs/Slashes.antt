-- What stands after the last slash of a name, as far as its bytes were read.
use Rattle.std.proofs.Common.{◌≡◌, ◌∙◌, ◌<◌, ◌+◌, ◌==◌, ℕ, Bool, true, false, List, [], ◌∷◌, length, get_or, drop, if◌then◌else◌, refl, sym, ap, inl, inr, add-one, drop-cons}
use Rattle.std.proofs.lemmas.Bool.{cases_Bool}
use Rattle.db_names.specs.Tables.{has_slash, without_folders}

-- what stands after the last slash of the rest of a name, or what was kept of it
abbrev pub left_of : (rest kept : List ℕ) → List ℕ
left_of rest kept = if has_slash rest then without_folders rest else kept

plain : (name : List ℕ) → has_slash name ≡ false → without_folders name ≡ name
plain [] none = refl
plain (b ∷ rest) none = rw none refl

pub left_whole : (name : List ℕ) → without_folders name ≡ left_of name name
left_whole name = elim (cases_Bool (has_slash name)) [ inl some ↦ rw some refl | inr none ↦ rw none (plain name none) ]

left_more : (b : ℕ) (rest kept : List ℕ) → left_of (b ∷ rest) kept ≡ left_of rest (if b == 47 then rest else kept)
left_more b rest kept = elim (cases_Bool (b == 47)) [
  | inl slash ↦ rw slash (left_whole rest)
  | inr other ↦ rw other (elim (cases_Bool (has_slash rest)) [ inl some ↦ rw some refl | inr none ↦ rw none refl ])
]

kept_from : (test : Bool) (file : List ℕ) (at start : ℕ) → (if test then drop at file else drop start file) ≡ drop (if test then at else start) file
kept_from true file at start = refl
kept_from false file at start = refl

pub left_after : (file : List ℕ) (at start new : ℕ) → at < length file → new ≡ (if get_or file at 0 == 47 then at + 1 else start)
    → without_folders file ≡ left_of (drop at file) (drop start file)
    → without_folders file ≡ left_of (drop (at + 1) file) (drop new file)
left_after file at start new low is so_far =
    let next : drop at file ≡ get_or file at 0 ∷ drop (at + 1) file = rw add-one (drop-cons file at 0 low) in
    so_far
    ∙ ap (λ rest. left_of rest (drop start file)) next
    ∙ left_more (get_or file at 0) (drop (at + 1) file) (drop start file)
    ∙ ap (left_of (drop (at + 1) file)) (kept_from (get_or file at 0 == 47) file (at + 1) start ∙ ap (λ n. drop n file) (sym is))
