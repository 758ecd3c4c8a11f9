-- Restarts, part by part.
use Rattle.std.proofs.Common.{◌≡◌, ◌≢◌, ℕ, false, List, [], ◌∷◌, ◌++◌, All, refl, sym, ap, ◌∙◌, append_assoc}
use Rattle.std.specs.Prelude.{codes, decimal, flat_map}
use Rattle.gp_base.specs.declared.journal.Restart.{Restart}
use Rattle.gp_base.specs.Fronts.{begins_with_digit}
use Rattle.gp_audit.specs.LineTexts.{IsNarrow, IsNarrowRestart, before_space, attempt_before, redo_end, restart_end}
use Rattle.gp_audit.specs.inner.Numbers.{ReadsRedo}
use Rattle.gp_audit.proofs.Digits.{number_once}
use Rattle.gp_audit.proofs.Parts.{cancel, before_once, attempt_once, space}
use Rattle.std.proofs.lemmas.List.{append-nil}
use Rattle.std.proofs.lemmas.List.Elements.{All-nil, All-push, All-head, All-tail}

-- the parts before the positions
abbrev pub head : (front struck attempt : ℕ) → List ℕ
head f s a = before_space f ++ (attempt_before s a ++ codes "redo")

pub parts : (r : Restart) (rest : List ℕ) → restart_end r ++ rest ≡ head r.front r.struck r.attempt ++ (redo_end r.redo ++ rest)
parts r rest =
    let f = before_space r.front in
    let a = attempt_before r.struck r.attempt in
    let w = codes "redo" in
    let e = redo_end r.redo in
    append_assoc f (a ++ (w ++ e)) rest
    ∙ (ap (λ x. f ++ x) (append_assoc a (w ++ e) rest) ∙ (ap (λ x. f ++ (a ++ x)) (append_assoc w e rest)
    ∙ (ap (λ x. f ++ x) (sym (append_assoc a w (e ++ rest))) ∙ sym (append_assoc f (a ++ w) (e ++ rest)))))

pub no_head : (bytes : List ℕ) → ((s : ℕ × ℕ × ℕ) (r : List ℕ) → IsNarrow s.0 × IsNarrow s.1 × IsNarrow s.2 → bytes ≢ head s.0 s.1 s.2 ++ r)
    → (value : Restart) (rest : List ℕ) → IsNarrowRestart value → bytes ≢ restart_end value ++ rest
no_head bytes none value rest narrow same =
    none (value.front, value.struck, value.attempt) (redo_end value.redo ++ rest) (narrow.front, narrow.struck, narrow.attempt)
    (same ∙ parts value rest)

head_once : (f s a g t b : ℕ) (r z : List ℕ) → IsNarrow f → IsNarrow s → IsNarrow a → IsNarrow g → IsNarrow t → IsNarrow b
    → head f s a ++ r ≡ head g t b ++ z → r ≡ z
head_once f s a g t b r z lf ls la lg lt lb same =
    let first =
    before_once (codes " ") space f g ((attempt_before s a ++ codes "redo") ++ r) ((attempt_before t b ++ codes "redo") ++ z) lf lg
    (sym (append_assoc (before_space f) (attempt_before s a ++ codes "redo") r)
    ∙ (same ∙ append_assoc (before_space g) (attempt_before t b ++ codes "redo") z)) in
    let second = attempt_once s a t b (codes "redo" ++ r) (codes "redo" ++ z) ls la lt lb
    (sym (append_assoc (attempt_before s a) (codes "redo") r) ∙ (first.1 ∙ append_assoc (attempt_before t b) (codes "redo") z)) in
    cancel (codes "redo") r z second.2

pub no_tail : (bytes rest : List ℕ) (f s a : ℕ) → IsNarrow f → IsNarrow s → IsNarrow a → bytes ≡ head f s a ++ rest
    → ((redo r : List ℕ) → All IsNarrow redo → rest ≢ redo_end redo ++ r)
    → (value : Restart) (later : List ℕ) → IsNarrowRestart value → bytes ≢ restart_end value ++ later
no_tail bytes rest f s a lf ls la is none value later narrow same =
    none value.redo later narrow.redo
    (head_once f s a value.front value.struck value.attempt rest
    (redo_end value.redo ++ later) lf ls la narrow.front narrow.struck narrow.attempt (sym is ∙ (same ∙ parts value later)))

pub some_tail : (bytes rest later : List ℕ) (f s a : ℕ) (redo : List ℕ) → bytes ≡ head f s a ++ rest → rest ≡ redo_end redo ++ later
    → bytes ≡ restart_end (record { front = f; struck = s; attempt = a; redo = redo }) ++ later
some_tail bytes rest later f s a redo is more =
    is ∙ (ap (λ x. head f s a ++ x) more ∙ sym (parts (record { front = f; struck = s; attempt = a; redo = redo }) later))

abbrev pub spaced_number : ℕ → List ℕ
spaced_number p = codes " " ++ decimal p

-- the positions after the first
pub rest_apart : (redo after : List ℕ) → begins_with_digit (redo_end redo ++ after) ≡ false
rest_apart [] after = refl
rest_apart (q ∷ qs) after = refl

-- the first position, and what comes after it
pub first_apart : (q : ℕ) (qs after : List ℕ) → redo_end (q ∷ qs) ++ after ≡ codes " " ++ (decimal q ++ (redo_end qs ++ after))
first_apart q qs after =
    ap (λ x. x ++ after) (append_assoc (spaced_number q) (flat_map spaced_number qs) (codes "\n"))
    ∙ (append_assoc (spaced_number q) (redo_end qs) after ∙ append_assoc (codes " ") (decimal q) (redo_end qs ++ after))

-- what is left to read of the positions
abbrev Left : (redo rest all after : List ℕ) → Type 0
Left redo rest all after = (later : List ℕ) × All IsNarrow later × (all ≡ redo ++ later) × (rest ≡ redo_end later ++ after)

more_left : (redo rest later : List ℕ) (n : ℕ) (all after : List ℕ) → ((z : List ℕ) → rest ≢ codes "\n" ++ z) → IsNarrow n
    → rest ≡ codes " " ++ (decimal n ++ later) → begins_with_digit later ≡ false
    → (left : List ℕ) → All IsNarrow left → all ≡ redo ++ left → rest ≡ redo_end left ++ after → Left (redo ++ n ∷ []) later all after
more_left redo rest later n all after no_end ln is apart [] narrow same e = absurd (no_end after e)
more_left redo rest later n all after no_end ln is apart (q ∷ qs) narrow same e =
    let once = number_once n q later (redo_end qs ++ after) ln (All-head IsNarrow q qs narrow) apart (rest_apart qs after)
    (cancel (codes " ") (decimal n ++ later) (decimal q ++ (redo_end qs ++ after)) (sym is ∙ (e ∙ first_apart q qs after))) in
    (qs, All-tail IsNarrow q qs narrow, same ∙ (ap (λ x. redo ++ x ∷ qs) (sym once.0) ∙ sym (append_assoc redo (n ∷ []) qs)), once.1)

front_more : (redo later : List ℕ) (n : ℕ)
    → flat_map spaced_number redo ++ (codes " " ++ (decimal n ++ later)) ≡ flat_map spaced_number (redo ++ n ∷ []) ++ later
front_more [] later n = ap (λ x. x ++ later) (sym (append-nil (spaced_number n)))
front_more (x ∷ xs) later n =
    append_assoc (spaced_number x) (flat_map spaced_number xs) (codes " " ++ (decimal n ++ later))
    ∙ (ap (λ y. spaced_number x ++ y) (front_more xs later n)
    ∙ sym (append_assoc (spaced_number x) (flat_map spaced_number (xs ++ n ∷ [])) later))

-- what is read goes on by a position
pub redo_more : (bytes redo rest later : List ℕ) (n : ℕ) → ReadsRedo bytes redo rest → ((z : List ℕ) → rest ≢ codes "\n" ++ z) → IsNarrow n
    → rest ≡ codes " " ++ (decimal n ++ later) → begins_with_digit later ≡ false
    → ReadsRedo bytes (redo ++ n ∷ []) later
redo_more bytes redo rest later n reads no_end ln is apart =
    record {
      narrow = All-push IsNarrow redo n reads.narrow ln;
      bytes_are = reads.bytes_are ∙ (ap (λ x. flat_map spaced_number redo ++ x) is ∙ front_more redo later n);
      others =
          λ all after narrow e. (let h = reads.others all after narrow e in
          more_left redo rest later n all after no_end ln is apart h.0 h.1 h.2 h.3);
    }

-- where neither an end nor a position comes, no positions stand there
pub redo_none : (bytes redo rest : List ℕ) → ReadsRedo bytes redo rest → ((z : List ℕ) → rest ≢ codes "\n" ++ z)
    → ((n : ℕ) (z : List ℕ) → IsNarrow n → begins_with_digit z ≡ false → rest ≢ codes " " ++ (decimal n ++ z))
    → (all after : List ℕ) → All IsNarrow all → bytes ≢ redo_end all ++ after
redo_none bytes redo rest reads no_end no_number all after narrow e = let h = reads.others all after narrow e in go h.0 h.1 h.3
  where
    go : (left : List ℕ) → All IsNarrow left → rest ≢ redo_end left ++ after
    go [] fits same = no_end after same
    go (q ∷ qs) fits same =
        no_number q (redo_end qs ++ after) (All-head IsNarrow q qs fits) (rest_apart qs after) (same ∙ first_apart q qs after)

-- the end of the line
pub redo_whole : (bytes redo rest later : List ℕ) → ReadsRedo bytes redo rest → rest ≡ codes "\n" ++ later → bytes ≡ redo_end redo ++ later
redo_whole bytes redo rest later reads e =
    reads.bytes_are ∙ (ap (λ x. flat_map spaced_number redo ++ x) e ∙ sym (append_assoc (flat_map spaced_number redo) (codes "\n") later))

pub redo_start : (bytes : List ℕ) → ReadsRedo bytes [] bytes
redo_start bytes = record { narrow = All-nil IsNarrow; bytes_are = refl; others = λ all after narrow e. (all, narrow, refl, e) }
