-- The lock cells over record cells, and the record cells under each. Cells are numbered one after another along the
-- heads. A list that grows by what belongs to the next number is the list of what belongs to all numbers below a count,
-- so that what is collected head by head is what the definitions say of each number; the places of a lock cell are then
-- the record cells under it.
use Rattle.std.proofs.Common.{◌≡◌, ◌≢◌, ℕ, zero, suc, ◌+◌, ◌-◌, ◌≤◌, ◌<◌, ◌==◌, Bool, true, false, not, cond, List, [], ◌∷◌, ◌++◌, map, length, Option, Some, None, is_none, refl, sym, ap, ◌∙◌, arith, option_map, add-one, zero-add, append_assoc, append-nil, subst, take, drop, set, get_or}
use Rattle.std.specs.Prelude.{pos, slice_get}
use Rattle.std.specs.Option.{option_map_or}
use Rattle.std.specs.List.{list_all, filter}
use Rattle.std.proofs.lemmas.Bool.{ne_eqb, eq-eqb, lt-ltb, le-ltb, and_parts}
use Rattle.std.proofs.lemmas.List.{map-append, length-append, length-map, length-take-le, take_more, at_drop_more}
use Rattle.task_ast.specs.declared.tree.Head.{Head}
use Rattle.task_ast.specs.declared.tree.Head.TheVariants.{LockHead, BarrierHead, RecHead, FeedHead}
use Rattle.task_ast.specs.meaning.Tree.{Name}
use Rattle.task_ast.specs.meaning.Names.{is_name, natural, named, place, locks_of, records_of, cell_number, cells_in}
use Rattle.task_ast.specs.meaning.Layout.{lock_over, is_lock_cell, cells_under}
use Rattle.task_ast.specs.Layout.{base_of, fits_array}
use Rattle.task_ast.specs.meaning.Table.{numbers}
use Rattle.task_ast.proofs.Layouts.{array_found, length-numbers}
use Rattle.lock_checker.specs.inner.Positions.{positions, numbers_at, cells_over}
use Rattle.lock_checker.proofs.HeadLemmas.{record_cells-append}

numbers-more : (a n : ℕ) → numbers a (suc n) ≡ numbers a n ++ (a + n) ∷ []
numbers-more a zero = ap (λ k. k ∷ []) (omega arith)
numbers-more a (suc n) = ap (λ l. a ∷ l) (numbers-more (suc a) n ∙ ap (λ k. numbers (suc a) n ++ k ∷ []) (omega arith))

-- one number more
numbers_more : (a n : ℕ) → numbers a (n + 1) ≡ numbers a n ++ (a + n) ∷ []
numbers_more a n = ap (numbers a) (add-one n) ∙ numbers-more a n

-- numbers at the end of a list, with the next one
pub numbers-push : (xs ys : List ℕ) (a n : ℕ) → ys ≡ xs ++ numbers a n → ys ++ (a + n) ∷ [] ≡ xs ++ numbers a (n + 1)
numbers-push xs ys a n is =
    ap (λ l. l ++ (a + n) ∷ []) is ∙ append_assoc xs (numbers a n) ((a + n) ∷ []) ∙ ap (λ l. xs ++ l) (sym (numbers_more a n))

-- what belongs to the numbers below a count, with that of the next one
pub map-push : {T : Type 0} (f : ℕ → T) (ys : List T) (n : ℕ) → ys ≡ map f (numbers 0 n) → ys ++ f n ∷ [] ≡ map f (numbers 0 (n + 1))
map-push f ys n is =
    ap (λ l. l ++ f n ∷ []) is ∙ ap (λ k. map f (numbers 0 n) ++ f k ∷ []) (sym (zero-add n))
    ∙ sym (map-append f (numbers 0 n) ((0 + n) ∷ [])) ∙ ap (map f) (sym (numbers_more 0 n))

-- what agrees number by number
pub map_numbers : {T : Type 0} (f g : ℕ → T) (a b n : ℕ) → ((k : ℕ) → k < n → f (a + k) ≡ g (b + k))
    → map f (numbers a n) ≡ map g (numbers b n)
map_numbers f g a b zero same = refl
map_numbers f g a b (suc n) same =
    let first : f a ≡ g b = ap f (omega arith) ∙ same 0 (omega arith) ∙ ap g (omega arith) in
    let rest = map_numbers f g (suc a) (suc b) n (λ k less. ap f (omega arith) ∙ same (suc k) (omega arith) ∙ ap g (omega arith)) in
    ap (λ x. x ∷ map f (numbers (suc a) n)) first ∙ ap (λ l. g b ∷ l) rest

-- one of the values that belong to numbers is replaced
map-set_at : {T : Type 0} (f g : ℕ → T) (a n at : ℕ) (value : T) → value ≡ g (a + at) → ((k : ℕ) → k ≢ a + at → f k ≡ g k)
    → set (map f (numbers a n)) at value ≡ map g (numbers a n)
map-set_at f g a zero at value is others = refl
map-set_at f g a (suc n) zero value is others =
    ap (λ v. v ∷ map f (numbers (suc a) n)) (is ∙ ap g (omega arith))
    ∙ ap (λ l. g a ∷ l) (map_numbers f g (suc a) (suc a) n (λ k less. others (suc a + k) (λ e. absurd (omega arith))))
map-set_at f g a (suc n) (suc at) value is others =
    ap (λ v. v ∷ set (map f (numbers (suc a) n)) at value) (others a (λ e. absurd (omega arith)))
    ∙ ap (λ l. g a ∷ l) (map-set_at f g (suc a) n at value (is ∙ ap g (omega arith)) (λ k other. others k (λ e. other (omega arith))))

get_or-numbers : {T : Type 0} (f : ℕ → T) (a n at : ℕ) (d : T) → at < n → get_or (map f (numbers a n)) at d ≡ f (a + at)
get_or-numbers f a zero at d less = absurd (omega arith)
get_or-numbers f a (suc n) zero d less = ap f (omega arith)
get_or-numbers f a (suc n) (suc at) d less = get_or-numbers f (suc a) n at d (omega arith) ∙ ap f (omega arith)

-- the places of a number where one more stands at the end
positions-push : (from : ℕ) (xs : List ℕ) (x number : ℕ)
    → positions from (xs ++ x ∷ []) number ≡ positions from xs number ++ cond (number == x) ((from + length xs) ∷ []) []
positions-push from [] x number = ap (λ k. cond (number == x) (k ∷ []) []) (omega arith)
positions-push from (y ∷ xs) x number =
    ap (λ l. cond (number == y) (from ∷ l) l)
    (positions-push (suc from) xs x number ∙ ap (λ k. positions (suc from) xs number ++ cond (number == x) (k ∷ []) []) (omega arith))
    ∙ by (number == y)
  where
    by : (b : Bool) → cond b (from ∷ positions (suc from) xs number ++ cond (number == x) ((from + suc (length xs)) ∷ []) [])
        (positions (suc from) xs number ++ cond (number == x) ((from + suc (length xs)) ∷ []) [])
        ≡ cond b (from ∷ positions (suc from) xs number) (positions (suc from) xs number) ++ cond (number == x)
        ((from + suc (length xs)) ∷ []) []
    by true = refl
    by false = refl

module _ (over : List ℕ) (locks cell : ℕ) (lists : List (List ℕ)) (less : cell < length over)
    (is : lists ≡ map (positions 0 (take cell over)) (numbers 0 locks)) where
  abbrev lock : ℕ
  lock = get_or over cell 0

  abbrev more : ℕ → List ℕ
  more = positions 0 (take (cell + 1) over)

  more_told : (k : ℕ) → more k ≡ positions 0 (take cell over) k ++ cond (k == lock) (cell ∷ []) []
  more_told k =
      ap (λ l. positions 0 l k) (take_more over cell 0 less) ∙ positions-push 0 (take cell over) lock k
      ∙ ap (λ n. positions 0 (take cell over) k ++ cond (k == lock) (n ∷ []) []) (zero-add _ ∙ length-take-le cell over (omega arith))

  others_stay : (k : ℕ) → k ≢ lock → positions 0 (take cell over) k ≡ more k
  others_stay k other =
      sym (more_told k ∙ ap (λ b. positions 0 (take cell over) k ++ cond b (cell ∷ []) []) (ne_eqb k lock other) ∙ append-nil _)

  -- the record cell goes to the list of the lock cell over it
  pub cell_put : (cells new : List ℕ) → lock < length lists → cells ≡ get_or lists lock [] → new ≡ cells ++ cell ∷ []
      → set lists lock new ≡ map more (numbers 0 locks)
  cell_put cells new within was put =
      let there : lock < locks = subst (λ n. lock < n) (ap length is ∙ length-map (numbers 0 locks) _ ∙ length-numbers 0 locks) within in
      let old : cells ≡ positions 0 (take cell over) lock =
      was ∙ ap (λ l. get_or l lock []) is ∙ get_or-numbers (positions 0 (take cell over)) 0 locks lock [] there
      ∙ ap (positions 0 (take cell over)) (zero-add lock) in
      let told : new ≡ more (0 + lock) =
      put ∙ ap (λ l. l ++ cell ∷ []) old ∙ sym
      (more_told lock ∙ ap (λ b. positions 0 (take cell over) lock ++ cond b (cell ∷ []) []) (eq-eqb lock lock refl))
      ∙ ap more (sym (zero-add lock)) in
      ap (λ l. set l lock new) is ∙ map-set_at (positions 0 (take cell over)) more 0 locks lock new told
      (λ k other. others_stay k (λ e. other (e ∙ sym (zero-add lock))))

  -- where there is no such lock cell the lists stay
  pub cell_passed : length lists ≤ lock → lists ≡ map more (numbers 0 locks)
  cell_passed past =
      let there : locks ≤ lock = subst (λ n. n ≤ lock) (ap length is ∙ length-map (numbers 0 locks) _ ∙ length-numbers 0 locks) past in
      is ∙ map_numbers (positions 0 (take cell over)) more 0 0 locks (λ k low. others_stay (0 + k) (λ e. absurd (omega arith)))

numbers-split : (a n m : ℕ) → numbers a (n + m) ≡ numbers a n ++ numbers (a + n) m
numbers-split a zero m = ap (numbers a) (zero-add m) ∙ ap (λ k. numbers k m) (omega arith)
numbers-split a (suc n) m =
    let sum : suc n + m ≡ suc (n + m) = omega arith in
    ap (numbers a) sum ∙ ap (λ l. a ∷ l) (numbers-split (suc a) n m ∙ ap (λ k. numbers (suc a) n ++ numbers k m) (omega arith))

-- an array's cells follow one another from its first
abbrev HasBase : List (Name × ℕ) → Name → ℕ → Type 0
HasBase arrays x size = (base : ℕ) × (base_of arrays x ≡ Some base) × ((k : ℕ) → k < size → cell_number arrays x (pos k) ≡ Some (base + k))

has_base : (arrays : List (Name × ℕ)) (x : Name) (size : ℕ) → named x arrays ≡ Some size → HasBase arrays x size
has_base [] x size e = absurd (cc e)
has_base (array ∷ arrays) x size e = go (is_name x array.0) e (has_base arrays x size)
  where
    go : (b : Bool) → cond b (Some array.1) (named x arrays) ≡ Some size → (named x arrays ≡ Some size → HasBase arrays x size)
        → (base : ℕ) × (cond b (Some 0) (option_map (λ n. array.1 + n) (base_of arrays x)) ≡ Some base)
        × ((k : ℕ) → k < size → cond b (place array.1 (pos k)) (option_map (λ n. array.1 + n) (cell_number arrays x (pos k)))
        ≡ Some (base + k))
    go true e later = let same : array.1 ≡ size = cc e in (0, refl, λ k less. rw (lt-ltb k array.1 (omega arith)) (ap Some (omega arith)))
    go false e later =
        let there = later e in (
          array.1 + there.0,
          ap (option_map (λ n. array.1 + n)) there.1,
          λ k less. ap (option_map (λ n. array.1 + n)) (there.2 k less)
              ∙ ap Some (omega arith),
        )

-- the cells over the record cells are those that the heads tell
over_told : (all heads : List Head) → list_all (fits_array all) heads ≡ true
    → map Some (cells_over (locks_of all) heads) ≡ map (lock_over (locks_of all) heads) (numbers 0 (cells_in (records_of heads)))
over_told all [] fits = refl
over_told all (LockHead name size line ∷ heads) fits = over_told all heads fits
over_told all (BarrierHead name number line ∷ heads) fits = over_told all heads fits
over_told all (FeedHead name fields from line ∷ heads) fits = over_told all heads fits
over_told all (RecHead name size by from line ∷ heads) fits =
    let arrays = locks_of all in
    let n = natural size in
    let m = cells_in (records_of heads) in
    let here = lock_over arrays (RecHead name size by from line ∷ heads) in
    let parts = and_parts (fits_array all (RecHead name size by from line)) (list_all (fits_array all) heads) fits in
    let mine = and_parts (not (is_none (named by arrays)))
    (not (option_map_or (λ other. not (n == other)) (named by arrays) false)) parts.0 in
    let there = has_base arrays by n (array_found n (named by arrays) mine.0 mine.1) in
    let first : map Some (numbers there.0 n) ≡ map here (numbers 0 n) =
    map_numbers Some here there.0 0 n (λ k less. sym (there.2 k less)
    ∙ sym (ap (λ b. cond b (cell_number arrays by (pos k)) (lock_over arrays heads (k - n))) (lt-ltb k n less))
    ∙ ap here (omega arith)) in
    let later : map (lock_over arrays heads) (numbers 0 m) ≡ map here (numbers (0 + n) m) =
    map_numbers (lock_over arrays heads) here 0 (0 + n) m (λ k less.
    ap (lock_over arrays heads) (omega arith)
    ∙ sym (ap (λ b. cond b (cell_number arrays by (pos (0 + n + k))) (lock_over arrays heads (0 + n + k - n)))
    (le-ltb (0 + n + k) n (omega arith)))) in
    ap (λ o. map Some (numbers_at o n ++ cells_over arrays heads)) there.1
    ∙ map-append Some (numbers there.0 n) (cells_over arrays heads)
    ∙ ap (λ l. l ++ map Some (cells_over arrays heads)) first
    ∙ ap (λ l. map here (numbers 0 n) ++ l) (over_told all heads parts.1 ∙ later)
    ∙ sym (map-append here (numbers 0 n) (numbers (0 + n) m))
    ∙ sym (ap (map here) (numbers-split 0 n m))

-- past the record cells there is none
lock_over-past : (arrays : List (Name × ℕ)) (heads : List Head) (c : ℕ) → cells_in (records_of heads) ≤ c → lock_over arrays heads c ≡ None
lock_over-past arrays [] c past = refl
lock_over-past arrays (LockHead name size line ∷ heads) c past = lock_over-past arrays heads c past
lock_over-past arrays (BarrierHead name number line ∷ heads) c past = lock_over-past arrays heads c past
lock_over-past arrays (FeedHead name fields from line ∷ heads) c past = lock_over-past arrays heads c past
lock_over-past arrays (RecHead name size by from line ∷ heads) c past =
    ap (λ b. cond b (cell_number arrays by (pos c)) (lock_over arrays heads (c - natural size))) (le-ltb c (natural size) (omega arith))
    ∙ lock_over-past arrays heads (c - natural size) (omega arith)

-- what a list has at each place, where the places tell its members
got_told : (f : ℕ → Option ℕ) (xs : List ℕ) (from n : ℕ) → map Some xs ≡ map f (numbers from n) → ((k : ℕ) → n ≤ k → f (from + k) ≡ None)
    → (k : ℕ) → slice_get xs k ≡ f (from + k)
got_told f [] from zero e past k = sym (past k (omega arith))
got_told f [] from (suc n) e past k = absurd (cc e)
got_told f (x ∷ xs) from zero e past k = absurd (cc e)
got_told f (x ∷ xs) from (suc n) e past zero = let first : Some x ≡ f from = cc e in first ∙ ap f (omega arith)
got_told f (x ∷ xs) from (suc n) e past (suc k) =
    let rest : map Some xs ≡ map f (numbers (suc from) n) = cc e in
    got_told f xs (suc from) n rest (λ j less. ap f (omega arith) ∙ past (suc j) (omega arith)) k ∙ ap f (omega arith)

-- the lock cell at each place is the one over the record cell of this number
pub over_got : (heads : List Head) → list_all (fits_array heads) heads ≡ true → (c : ℕ)
    → slice_get (cells_over (locks_of heads) heads) c ≡ lock_over (locks_of heads) heads c
over_got heads fits c =
    let over = lock_over (locks_of heads) heads in
    got_told over (cells_over (locks_of heads) heads) 0 (cells_in (records_of heads)) (over_told heads heads fits)
    (λ k past. ap over (zero-add k) ∙ lock_over-past (locks_of heads) heads k past) c
    ∙ ap over (zero-add c)

-- the places of a lock cell are the numbers that it is over
places_told : (over : ℕ → Option ℕ) (lock from n : ℕ) (xs : List ℕ) → map Some xs ≡ map over (numbers from n)
    → positions from xs lock ≡ filter (λ c. is_lock_cell lock (over c)) (numbers from n)
places_told over lock from zero [] e = refl
places_told over lock from zero (x ∷ xs) e = absurd (cc e)
places_told over lock from (suc n) [] e = absurd (cc e)
places_told over lock from (suc n) (x ∷ xs) e =
    let first : Some x ≡ over from = cc e in
    let rest : map Some xs ≡ map over (numbers (suc from) n) = cc e in
    ap (λ l. cond (lock == x) (from ∷ l) l) (places_told over lock (suc from) n xs rest)
    ∙ ap (λ o. cond (is_lock_cell lock o) (from ∷ filter (λ c. is_lock_cell lock (over c)) (numbers (suc from) n))
    (filter (λ c. is_lock_cell lock (over c)) (numbers (suc from) n))) first

-- the places of a lock cell among the cells over all record cells are the record cells under it
pub under_told : (heads : List Head) → list_all (fits_array heads) heads ≡ true → (lock : ℕ)
    → positions 0 (cells_over (locks_of heads) heads) lock ≡ cells_under heads lock
under_told heads fits lock =
    places_told (lock_over (locks_of heads) heads) lock 0 (cells_in (records_of heads)) (cells_over (locks_of heads) heads)
    (over_told heads heads fits)

length-numbers_at : (o : Option ℕ) (n : ℕ) → length (numbers_at o n) ≤ n
length-numbers_at None n = omega arith
length-numbers_at (Some from) n = let l = length-numbers from n in omega arith

-- there are no more of them than record cells
pub length-cells_over : (arrays : List (Name × ℕ)) (heads : List Head) → length (cells_over arrays heads) ≤ cells_in (records_of heads)
length-cells_over arrays [] = omega arith
length-cells_over arrays (LockHead name size line ∷ heads) = length-cells_over arrays heads
length-cells_over arrays (BarrierHead name number line ∷ heads) = length-cells_over arrays heads
length-cells_over arrays (FeedHead name fields from line ∷ heads) = length-cells_over arrays heads
length-cells_over arrays (RecHead name size by from line ∷ heads) =
    let both = length-append (numbers_at (base_of arrays by) (natural size)) (cells_over arrays heads) in
    let first = length-numbers_at (base_of arrays by) (natural size) in
    let rest = length-cells_over arrays heads in
    omega arith

cells_over-cons : (arrays : List (Name × ℕ)) (h : Head) (heads : List Head)
    → cells_over arrays (h ∷ heads) ≡ cells_over arrays (h ∷ []) ++ cells_over arrays heads
cells_over-cons arrays (LockHead name size line) heads = refl
cells_over-cons arrays (BarrierHead name number line) heads = refl
cells_over-cons arrays (RecHead name size by from line) heads =
    ap (λ l. l ++ cells_over arrays heads) (sym (append-nil (numbers_at (base_of arrays by) (natural size))))
cells_over-cons arrays (FeedHead name fields from line) heads = refl

module _ (heads : List Head) (i : ℕ) (h : Head) (within : i < length heads) (is : h ≡ get_or heads i h) where
  -- the lock cells over the record cells of the heads left, at the next head
  pub over_next : (arrays : List (Name × ℕ))
      → cells_over arrays (drop i heads) ≡ cells_over arrays (h ∷ []) ++ cells_over arrays (drop (i + 1) heads)
  over_next arrays =
      at_drop_more (cells_over arrays) heads i h within ∙ ap (λ (y : Head). cells_over arrays (y ∷ drop (i + 1) heads)) (sym is)
      ∙ cells_over-cons arrays h (drop (i + 1) heads)

  pub record_cells_next : cells_in (records_of (drop i heads)) ≡ cells_in (records_of (h ∷ [])) + cells_in (records_of (drop (i + 1) heads))
  record_cells_next =
      at_drop_more (λ l. cells_in (records_of l)) heads i h within
      ∙ ap (λ (y : Head). cells_in (records_of (y ∷ drop (i + 1) heads))) (sym is)
      ∙ record_cells-append (h ∷ []) (drop (i + 1) heads)
