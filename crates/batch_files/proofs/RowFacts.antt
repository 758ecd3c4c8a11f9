-- What a loop over the rows of a text has read, and the rows that are left.
use Rattle.std.proofs.Common.{◌≡◌, ◌∙◌, ◌<◌, ◌≤◌, ◌+◌, ◌-◌, ℕ, zero, suc, Bool, true, false, List, [], ◌∷◌, ◌++◌, length, refl, ap, arith, Option, Some, None, if◌then◌else◌, add-one}
use Rattle.csv.specs.Machine.{Read, ends_at_end, field_after, fields_after, is_end, next_record, step}
use Rattle.csv.specs.Reading.{Reached, records_from, records_next}
use Rattle.csv.specs.declared.parser.Config.{Config}
use Rattle.csv.specs.declared.parser.State.{State}
use Rattle.csv.specs.declared.parser.State.TheVariants as st

abbrev Rows : Type 0
Rows = List (List (List ℕ))

-- the records of a text from a state
abbrev pub records_after : Config → State → List ℕ → Rows
records_after cfg s xs = records_from cfg (length xs + 1) s xs

-- a record takes at least one byte, where there is one
shorter : (cfg : Config) (s : State) (fields : List (List ℕ)) (field xs : List ℕ) (p : Read) → next_record cfg s fields field xs ≡ Some p
    → length p.2 ≤ length xs - 1
unfolding next_record
shorter cfg s fields field [] p e = go (ends_at_end s) e
  where
    go : (b : Bool) → (if b then Some (fields ++ (field ∷ []), st.StartRecord, []) else None) ≡ Some p → length p.2 ≤ 0
    go true e = let same : [] ≡ p.2 = cc e in rw (← same) (omega arith)
    go false e = let same : [] ≡ p.2 = cc e in rw (← same) (omega arith)
shorter cfg s fields field (c ∷ rest) p e = go (is_end (step cfg s c).1) (shorter cfg (step cfg s c).0 _ _ rest p) e
  where
    go : (b : Bool) → (next_record cfg (step cfg s c).0 (fields_after (step cfg s c).1 fields field)
        (field_after (step cfg s c).1 c field) rest ≡ Some p → length p.2 ≤ length rest - 1)
        → (if b then Some (fields_after (step cfg s c).1 fields field, (step cfg s c).0, rest)
        else next_record cfg (step cfg s c).0 (fields_after (step cfg s c).1 fields field) (field_after (step cfg s c).1 c field) rest)
        ≡ Some p
        → length p.2 ≤ length (c ∷ rest) - 1
    go true later e = let same : rest ≡ p.2 = cc e in rw (← same) (omega arith)
    go false later e = let less = later e in omega (arith, less)

-- past the last byte there is at most one record, and then none
last_one : (cfg : Config) (s : State) (p : Read) → next_record cfg s [] [] [] ≡ Some p → (p.1 ≡ st.StartRecord) × (p.2 ≡ [])
unfolding next_record
last_one cfg s p e = go (ends_at_end s) e
  where
    go : (b : Bool) → (if b then Some ([] ∷ [], st.StartRecord, []) else None) ≡ Some p → (p.1 ≡ st.StartRecord) × (p.2 ≡ [])
    go true e = (cc e, cc e)
    go false e = (cc e, cc e)

none_left : (cfg : Config) (n : ℕ) → records_from cfg n st.StartRecord [] ≡ []
unfolding next_record records_from
none_left cfg zero = refl
none_left cfg (suc n) = refl

-- a larger count of records changes nothing
enough : (cfg : Config) (n m : ℕ) (s : State) (xs : List ℕ) → length xs < n → length xs < m
    → records_from cfg n s xs ≡ records_from cfg m s xs
unfolding records_from
enough cfg zero m s xs a b = absurd (omega arith)
enough cfg (suc n) zero s xs a b = absurd (omega arith)
enough cfg (suc n) (suc m) s xs a b = go xs (enough cfg n m) (next_record cfg s [] [] xs) refl a b
  where
    go : (xs : List ℕ) → ((s : State) (xs : List ℕ) → length xs < n → length xs < m → records_from cfg n s xs ≡ records_from cfg m s xs)
        → (o : Option Read) → next_record cfg s [] [] xs ≡ o → length xs < suc n → length xs < suc m
        → records_next (records_from cfg n) o ≡ records_next (records_from cfg m) o
    go xs later None e a b = refl
    go [] later (Some p) e a b = let last = last_one cfg s p e in rw (last.0, last.1, none_left cfg n, none_left cfg m) refl
    go (x ∷ xs) later (Some p) e a b =
        let less = shorter cfg s [] [] (x ∷ xs) p e in
        ap (λ more. p.0 ∷ more) (later p.1 p.2 (omega (arith, less)) (omega (arith, less)))

-- the records of a text are its first and those of the rest
first_record : (cfg : Config) (s : State) (xs : List ℕ) (p : Read) → next_record cfg s [] [] xs ≡ Some p
    → records_after cfg s xs ≡ p.0 ∷ records_after cfg p.1 p.2
unfolding records_from
first_record cfg s xs p e = rw (add-one, e) (ap (λ more. p.0 ∷ more) (rest xs e))
  where
    rest : (xs : List ℕ) → next_record cfg s [] [] xs ≡ Some p → records_from cfg (length xs) p.1 p.2 ≡ records_after cfg p.1 p.2
    rest [] e = let last = last_one cfg s p e in rw (last.0, last.1, none_left cfg 0, none_left cfg 1) refl
    rest (x ∷ xs) e =
        let less = shorter cfg s [] [] (x ∷ xs) p e in
        enough cfg (length (x ∷ xs)) (length p.2 + 1) p.1 p.2 (omega (arith, less)) (omega arith)

-- the records of a text are those that were reached, and then the records of the rest
pub reached_records : (cfg : Config) (s s2 : State) (xs ys : List ℕ) (rows : Rows) → Reached cfg s xs rows s2 ys
    → records_after cfg s xs ≡ rows ++ records_after cfg s2 ys
unfolding Reached
reached_records cfg s s2 xs ys [] h = rw (h.0, h.1) refl
reached_records cfg s s2 xs ys (r ∷ rs) h =
    first_record cfg s xs h.0 h.1 ∙ rw h.2 (ap (λ more. h.0.0 ∷ more) (reached_records cfg h.0.1 s2 h.0.2 ys rs h.3))

pub no_more : (cfg : Config) (s : State) (xs : List ℕ) → next_record cfg s [] [] xs ≡ None → records_after cfg s xs ≡ []
unfolding records_from
no_more cfg s xs e = rw (add-one, e) refl
