-- Texts at the front of bytes, one after another.
use Rattle.std.proofs.Common.{◌≡◌, ◌≢◌, ℕ, List, [], ◌∷◌, ◌++◌, length, drop, refl, sym, ap, ◌∙◌, append_assoc}
use Rattle.std.specs.Prelude.{flat_map, All}
use Rattle.std.proofs.lemmas.List.{append-nil, drop_at, flat_map_more}
use Rattle.std.proofs.lemmas.List.Elements.{All-nil, All-push, All-head, All-tail}
use Rattle.gp_resume.specs.inner.Fronts.{IsOnlyFront, EndsMany, ReadsMany, Anything}

-- what comes after the same front is the same
pub cancel : (front r s : List ℕ) → front ++ r ≡ front ++ s → r ≡ s
cancel front r s same = sym (drop_at front r (length front) refl) ∙ (ap (drop (length front)) same ∙ drop_at front s (length front) refl)

module _ {A : Type 0} (text : A → List ℕ) (fits : A → Type 0) (ends : List ℕ → Type 0) where
  -- no text of a value stands at the front of the bytes
  abbrev pub NoFront : List ℕ → Type 0
  NoFront bytes = (value : A) (rest : List ℕ) → fits value → ends rest → bytes ≢ text value ++ rest

module _ {A : Type 0} (text : A → List ℕ) (fits : A → Type 0) (ends : List ℕ → Type 0) (word : List ℕ) where
  -- ---- after a word

  abbrev pub behind : A → List ℕ
  behind value = word ++ text value

  pub word-then : (bytes rest later : List ℕ) (value : A) → bytes ≡ word ++ rest → IsOnlyFront text fits ends rest value later
      → IsOnlyFront behind fits ends bytes value later
  word-then bytes rest later value is read =
      record {
        fit = read.fit;
        bytes_are = is ∙ (ap (λ x. word ++ x) read.bytes_are ∙ sym (append_assoc word (text value) later));
        only = λ other after fit end same. read.only other after fit end
            (cancel word rest (text other ++ after) (sym is ∙ (same ∙ append_assoc word (text other) after)));
      }

  pub no-word : (bytes : List ℕ) → ((rest : List ℕ) → bytes ≢ word ++ rest) → NoFront behind fits ends bytes
  no-word bytes none other after fit end same = none (text other ++ after) (same ∙ append_assoc word (text other) after)

  pub word-then-none : (bytes rest : List ℕ) → bytes ≡ word ++ rest → NoFront text fits ends rest → NoFront behind fits ends bytes
  word-then-none bytes rest is none other after fit end same =
      none other after fit end (cancel word rest (text other ++ after) (sym is ∙ (same ∙ append_assoc word (text other) after)))

  -- ---- before a word

  abbrev pub before : A → List ℕ
  before value = text value ++ word

  module _ (apart : (rest : List ℕ) → ends (word ++ rest)) where
    pub then-word : (bytes rest later : List ℕ) (value : A) → IsOnlyFront text fits ends bytes value rest → rest ≡ word ++ later
        → IsOnlyFront before fits Anything bytes value later
    then-word bytes rest later value read is =
        record {
          fit = read.fit;
          bytes_are = read.bytes_are ∙ (ap (λ x. text value ++ x) is ∙ sym (append_assoc (text value) word later));
          only = λ other after fit end same. once other after
              (read.only other (word ++ after) fit (apart after) (same ∙ append_assoc (text other) word after));
        }
      where
        once : (other : A) (after : List ℕ) → (other ≡ value) × (word ++ after ≡ rest) → (other ≡ value) × (after ≡ later)
        once other after both = (both.0, cancel word after later (both.1 ∙ is))

    pub then-no-word : (bytes rest : List ℕ) (value : A) → IsOnlyFront text fits ends bytes value rest
        → ((later : List ℕ) → rest ≢ word ++ later) → NoFront before fits Anything bytes
    then-no-word bytes rest value read none other after fit end same =
        none after (sym (read.only other (word ++ after) fit (apart after) (same ∙ append_assoc (text other) word after)).1)

-- ---- one text after another

abbrev pub both : {A B : Type 0} → (A → List ℕ) → (B → List ℕ) → A × B → List ℕ
both text next pair = text pair.0 ++ next pair.1

abbrev pub both_fit : {A B : Type 0} → (A → Type 0) → (B → Type 0) → A × B → Type 0
both_fit fits next_fits pair = fits pair.0 × next_fits pair.1

module _ {A B : Type 0} (text : A → List ℕ) (fits : A → Type 0) (ends : List ℕ → Type 0) (next : B → List ℕ) (next_fits : B → Type 0)
    (next_ends : List ℕ → Type 0)
    (apart : (value : B) (rest : List ℕ) → ends (next value ++ rest)) where
  pub then-some : (bytes rest later : List ℕ) (value : A) (second : B) → IsOnlyFront text fits ends bytes value rest
      → IsOnlyFront next next_fits next_ends rest second later
      → IsOnlyFront (both text next) (both_fit fits next_fits) next_ends bytes (value, second) later
  then-some bytes rest later value second first read =
      record {
        fit = (first.fit, read.fit);
        bytes_are = first.bytes_are ∙ (ap (λ x. text value ++ x) read.bytes_are ∙ sym (append_assoc (text value) (next second) later));
        only = λ other after fit end same. once other after
            (first.only other.0 (next other.1 ++ after) fit.0 (apart other.1 after)
            (same ∙ append_assoc (text other.0) (next other.1) after)) fit.1 end;
      }
    where
      once : (other : A × B) (after : List ℕ) → (other.0 ≡ value) × (next other.1 ++ after ≡ rest) → next_fits other.1 → next_ends after
          → (other ≡ (value, second)) × (after ≡ later)
      once other after here fit end =
          let there = read.only other.1 after fit end (sym here.1) in
          ((λ i. (here.0 i, there.0 i)), there.1)

  pub then-none : (bytes rest : List ℕ) (value : A) → IsOnlyFront text fits ends bytes value rest → NoFront next next_fits next_ends rest
      → NoFront (both text next) (both_fit fits next_fits) next_ends bytes
  then-none bytes rest value first none other after fit end same =
      none other.1 after fit.1 end
      (sym (first.only other.0 (next other.1 ++ after) fit.0 (apart other.1 after)
      (same ∙ append_assoc (text other.0) (next other.1) after)).1)

  pub first-none : (bytes : List ℕ) → NoFront text fits ends bytes → NoFront (both text next) (both_fit fits next_fits) next_ends bytes
  first-none bytes none other after fit end same =
      none other.0 (next other.1 ++ after) fit.0 (apart other.1 after) (same ∙ append_assoc (text other.0) (next other.1) after)

-- ---- a list of texts

module _ {A : Type 0} (text : A → List ℕ) (fits : A → Type 0) (ends : List ℕ → Type 0)
    (apart : (value : A) (rest : List ℕ) → ends (text value ++ rest)) where
  abbrev all_text : List A → List ℕ
  all_text = flat_map text

  pub many-start : (bytes : List ℕ) → ReadsMany text fits ends bytes [] bytes
  many-start bytes = record { fit = All-nil fits; bytes_are = refl; others = λ all after fit end same. (all, fit, refl, same) }

  -- what may come after a value of the list
  apart-many : (all : List A) (after : List ℕ) → ends after → ends (all_text all ++ after)
  apart-many [] after end = end
  apart-many (x ∷ all) after end = rw (append_assoc (text x) (all_text all) after) (apart x (all_text all ++ after))

  more-left : (rest later : List ℕ) (values : List A) (value : A) (all : List A) (after : List ℕ)
      → IsOnlyFront text fits ends rest value later → EndsMany text fits ends after
      → (left : List A) → All fits left → all ≡ values ++ left → rest ≡ all_text left ++ after
      → (left : List A) × All fits left × (all ≡ (values ++ value ∷ []) ++ left) × (later ≡ all_text left ++ after)
  more-left rest later values value all after read end [] fit same is = absurd (end.1 value later read.fit (sym is ∙ read.bytes_are))
  more-left rest later values value all after read end (x ∷ left) fit same is =
      let once =
      read.only x (all_text left ++ after) (All-head fits x left fit) (apart-many left after end.0)
      (is ∙ append_assoc (text x) (all_text left) after) in (
        left,
        All-tail fits x left fit,
        same
            ∙ (ap (λ y. values ++ y ∷ left) once.0 ∙ sym (append_assoc values (value ∷ []) left)),
        sym once.1,
      )

  pub many-more : (bytes rest later : List ℕ) (values : List A) (value : A) → ReadsMany text fits ends bytes values rest
      → IsOnlyFront text fits ends rest value later
      → ReadsMany text fits ends bytes (values ++ value ∷ []) later
  many-more bytes rest later values value reads read =
      record {
        fit = All-push fits values value reads.fit read.fit;
        bytes_are =
            reads.bytes_are
            ∙ (ap (λ x. all_text values ++ x) read.bytes_are
            ∙ (sym (append_assoc (all_text values) (text value) later)
            ∙ ap (λ x. x ++ later) (flat_map_more text [] values value)));
        others = λ all after fit end same.
            (let h = reads.others all after fit end same in more-left rest later values value all after read end h.0 h.1 h.2 h.3);
      }

  pub many-end : (bytes rest : List ℕ) (values : List A) → ReadsMany text fits ends bytes values rest → NoFront text fits ends rest
      → IsOnlyFront all_text (All fits) (EndsMany text fits ends) bytes values rest
  many-end bytes rest values reads none =
      record {
        fit = reads.fit;
        bytes_are = reads.bytes_are;
        only = λ all after fit end same. (let h = reads.others all after fit end same in go all after end.0 h.0 h.1 h.2 h.3);
      }
    where
      go : (all : List A) (after : List ℕ) → ends after → (left : List A) → All fits left → all ≡ values ++ left
          → rest ≡ all_text left ++ after → (all ≡ values) × (after ≡ rest)
      go all after end [] fit same is = (same ∙ append-nil values, sym is)
      go all after end (x ∷ left) fit same is =
          absurd (none x (all_text left ++ after) (All-head fits x left fit) (apart-many left after end)
          (is ∙ append_assoc (text x) (all_text left) after))
