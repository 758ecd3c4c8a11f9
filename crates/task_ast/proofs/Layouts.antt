-- How record cells are laid out under lock cells. Where the check finds no fault at the heads, a record and its array
-- have one size. Then, head by head, each record cell stands under the lock cell with its index, and a cell of an array
-- is as far from the first one as its index says.
use Rattle.std.proofs.Common.{◌≡◌, inl, inr, ℕ, zero, suc, ◌+◌, ◌-◌, ◌<◌, ◌==◌, Bool, true, false, not, cond, List, [], ◌∷◌, ◌++◌, map, length, get_or, Option, Some, None, is_none, refl, sym, ap, ◌∙◌, subst, arith, option_map, nat_lt}
use Rattle.std.specs.Prelude.{ℤ, pos, negsuc}
use Rattle.std.specs.Option.{option_map_or}
use Rattle.std.specs.List.{list_all, filter, Contains}
use Rattle.std.specs.List.Sorted.{IsStrictlyIncreasing}
use Rattle.std.proofs.lemmas.Bool.{false≢true, cases_lt, lt-ltb, le-ltb, eqb-true, eq-eqb, and_parts, and_from, not-true, not-false}
use Rattle.std.proofs.lemmas.List.Elements.{All-contains, All-contains_itself, All-filter, Contains-append_right, filter_passes}
use Rattle.std.proofs.lemmas.List.Kept.{IsStrictlyIncreasing-filter}
use Rattle.task_ast.specs.declared.tree.Head.{Head}
use Rattle.task_ast.specs.declared.tree.Head.TheVariants.{LockHead, BarrierHead, RecHead, FeedHead}
use Rattle.task_ast.specs.meaning.Tree.{Name, Program}
use Rattle.task_ast.specs.meaning.Names.{is_name, is_among, head_name, natural, named, place, locks_of, records_of, arrays_over, cell_number, cells_in}
use Rattle.task_ast.specs.declared.check_kind.CheckKind.{CheckKind}
use Rattle.task_ast.specs.declared.check_kind.CheckKind.TheVariants.{UnknownName, DoubleName, WrongCount, SizesDiffer, TooMany}
use Rattle.task_ast.specs.meaning.Visit.{Visit, fails_if, fault_at, first_fault}
use Rattle.task_ast.specs.meaning.Declarations.{lacks_array, sizes_differ, head_line, count_of, passes_limit, head_visit, head_visits, task_visits, main_visit}
use Rattle.task_ast.specs.meaning.Check.{bodies_visits}
use Rattle.task_ast.specs.Shaped.{IsAccepted}
use Rattle.task_ast.specs.meaning.Table.{numbers}
use Rattle.task_ast.specs.meaning.Layout.{lock_over, is_lock_cell, cells_under}
use Rattle.task_ast.specs.Layout.{base_of, fits_array, IsLaidOut}

-- an index below an array's size is that of a cell
cell_there : (arrays : List (Name × ℕ)) (name : Name) (size k : ℕ) → named name arrays ≡ Some size → k < size
    → (l : ℕ) × (l < cells_in arrays) × (cell_number arrays name (pos k) ≡ Some l)
cell_there [] name size k e less = absurd (cc e)
cell_there (array ∷ arrays) name size k e less = go (is_name name array.0) e (λ found. cell_there arrays name size k found less)
  where
    go : (b : Bool) → cond b (Some array.1) (named name arrays) ≡ Some size
        → (named name arrays ≡ Some size → (l : ℕ) × (l < cells_in arrays) × (cell_number arrays name (pos k) ≡ Some l))
        → (l : ℕ) × (l < array.1 + cells_in arrays)
        × (cond b (place array.1 (pos k)) (option_map (λ n. array.1 + n) (cell_number arrays name (pos k))) ≡ Some l)
    go true found later = let same : array.1 ≡ size = cc found in (k, omega arith, rw (lt-ltb k array.1 (omega arith)) refl)
    go false found later = let there = later found in (array.1 + there.0, omega arith, ap (option_map (λ n. array.1 + n)) there.2)

-- the array of a record that fits it has the record's size
pub array_found : (size : ℕ) (o : Option ℕ) → not (is_none o) ≡ true
    → not (option_map_or (λ other. not (size == other)) o false) ≡ true → o ≡ Some size
array_found size None there same = absurd (false≢true there)
array_found size (Some other) there same =
    ap Some (sym (eqb-true size other (not-false (size == other) (not-true (not (size == other)) same))))

-- each record cell stands under a lock cell
over_lock : (all heads : List Head) → list_all (fits_array all) heads ≡ true → (c : ℕ) → c < cells_in (records_of heads)
    → (l : ℕ) × (l < cells_in (locks_of all)) × (lock_over (locks_of all) heads c ≡ Some l)
over_lock all [] fits c less = absurd (omega arith)
over_lock all (LockHead name size line ∷ heads) fits c less = over_lock all heads fits c less
over_lock all (BarrierHead name number line ∷ heads) fits c less = over_lock all heads fits c less
over_lock all (FeedHead name fields from line ∷ heads) fits c less = over_lock all heads fits c less
over_lock all (RecHead name size by from line ∷ heads) fits c less =
    let parts = and_parts (fits_array all (RecHead name size by from line)) (list_all (fits_array all) heads) fits in
    let mine = and_parts (not (is_none (named by (locks_of all))))
    (not (option_map_or (λ other. not (natural size == other)) (named by (locks_of all)) false)) parts.0 in
    let found = array_found (natural size) (named by (locks_of all)) mine.0 mine.1 in
    elim (cases_lt c (natural size)) [
      | inl l ↦
          (let there = cell_there (locks_of all) by (natural size) c found l in (there.0, there.1, rw (lt-ltb c (natural size) l) there.2))
      | inr l ↦
          (let there = over_lock all heads parts.1 (c - natural size) (omega arith) in
          (there.0, there.1, rw (le-ltb c (natural size) l) there.2))
    ]

pub length-numbers : (a n : ℕ) → length (numbers a n) ≡ n
length-numbers a zero = refl
length-numbers a (suc n) = ap suc (length-numbers (suc a) n)

pub get-numbers : (a n k d : ℕ) → k < n → get_or (numbers a n) k d ≡ a + k
get-numbers a zero k d less = absurd (omega arith)
get-numbers a (suc n) zero d less = omega arith
get-numbers a (suc n) (suc k) d less = get-numbers (suc a) n k d (omega arith) ∙ omega arith

numbers_rise : (a n : ℕ) → IsStrictlyIncreasing (numbers a n)
numbers_rise a n k less =
    let l = length-numbers a n in
    rw (get-numbers a n k 0 (omega arith), get-numbers a n (k + 1) 0 (omega arith)) (omega arith)

Contains-numbers : (n c : ℕ) → c < n → Contains (numbers 0 n) c
Contains-numbers n c less = (c, rw (length-numbers 0 n) less, get-numbers 0 n c c less ∙ omega arith)

below_numbers : (n c : ℕ) → Contains (numbers 0 n) c → c < n
below_numbers n c (k, less, is) =
    let l = length-numbers 0 n in
    let inside : k < n = omega arith in
    let at = get-numbers 0 n k c inside in
    omega arith

with_first : (b : Bool) (x : ℕ) (xs : List ℕ) (y : ℕ) → Contains xs y → Contains (cond b (x ∷ xs) xs) y
with_first true x xs y there = Contains-append_right (x ∷ []) xs y there
with_first false x xs y there = there

-- what passes stays
stays : (p : ℕ → Bool) (xs : List ℕ) (k d : ℕ) → k < length xs → p (get_or xs k d) ≡ true → Contains (filter p xs) (get_or xs k d)
stays p [] k d less passes = absurd (omega arith)
stays p (x ∷ xs) zero d less passes = rw passes (0, omega arith, refl)
stays p (x ∷ xs) (suc k) d less passes = with_first (p x) x (filter p xs) (get_or xs k d) (stays p xs k d (omega arith) passes)

Contains-filter : (p : ℕ → Bool) (xs : List ℕ) (c : ℕ) → Contains xs c → p c ≡ true → Contains (filter p xs) c
Contains-filter p xs c (k, less, is) passes = subst (Contains (filter p xs)) is (stays p xs k c less (ap p is ∙ passes))

module _ (heads : List Head) where
  abbrev over : ℕ → Option ℕ
  over c = lock_over (locks_of heads) heads c

  abbrev cells : List ℕ
  cells = numbers 0 (cells_in (records_of heads))

  under_is : (lock l c : ℕ) → over c ≡ Some l → Contains (cells_under heads lock) c → lock ≡ l
  under_is lock l c is there =
      let passes : is_lock_cell lock (over c) ≡ true =
      All-contains (λ d. is_lock_cell lock (over d) ≡ true) (cells_under heads lock) c
      (filter_passes (λ d. is_lock_cell lock (over d)) cells) there in
      eqb-true lock l (ap (is_lock_cell lock) (sym is) ∙ passes)

  is_under : (lock l c : ℕ) → c < cells_in (records_of heads) → over c ≡ Some l → lock ≡ l → Contains (cells_under heads lock) c
  is_under lock l c less is same =
      Contains-filter (λ d. is_lock_cell lock (over d)) cells c (Contains-numbers (cells_in (records_of heads)) c less)
      (ap (is_lock_cell lock) is ∙ eq-eqb lock l same)

  -- the layout of heads whose sizes agree
  pub laid_out : list_all (fits_array heads) heads ≡ true → IsLaidOut heads
  laid_out fits = record {
    one_lock =
        λ c less. let there = over_lock heads heads fits c less in
        (there.0, there.1, λ lock. (under_is lock there.0 c there.2, is_under lock there.0 c less there.2));
    within = λ lock c there. below_numbers (cells_in (records_of heads)) c
        (All-contains (Contains cells) (cells_under heads lock) c
        (All-filter (λ d. is_lock_cell lock (over d)) (Contains cells) cells (All-contains_itself cells)) there);
    rising = λ lock. IsStrictlyIncreasing-filter (λ d. is_lock_cell lock (over d)) cells (numbers_rise 0 (cells_in (records_of heads)));
  }

placed : (size : ℕ) (index : ℤ) (c : ℕ) → place size index ≡ Some c → (index ≡ pos c) × (c < size)
placed size (negsuc n) c e = absurd (cc e)
placed size (pos n) c e =
    elim (cases_lt n size) [
      | inl l ↦
          (let same : Some n ≡ Some c = ap (λ b. cond b (Some n) None) (sym (lt-ltb n size l)) ∙ e in let n_is : n ≡ c = cc same in
          (ap pos n_is, omega arith))
      | inr l ↦ (absurd (let other = sym (ap (λ b. cond {A = Option ℕ} b (Some n) None) (le-ltb n size l)) ∙ e in cc other))
    ]

-- a cell of the first record
at_place : (arrays : List (Name × ℕ)) (size : ℕ) (by a : Name) (index : ℤ) (c : ℕ) (others : Option ℕ) → place size index ≡ Some c → by ≡ a
    → cond (nat_lt c size) (cell_number arrays by (pos c)) others ≡ cell_number arrays a index
at_place arrays size by a index c others number same =
    let there = placed size index c number in
    ap (λ b. cond b (cell_number arrays by (pos c)) others) (lt-ltb c size there.1) ∙ ap (λ x. cell_number arrays x (pos c)) same
    ∙ ap (cell_number arrays a) (sym there.0)

-- a cell of a later record
past_it : (arrays : List (Name × ℕ)) (heads : List Head) (size : ℕ) (by a : Name) (index : ℤ) (c : ℕ) (o : Option ℕ)
    → option_map (λ n. size + n) o ≡ Some c
    → ((d : ℕ) → o ≡ Some d → lock_over arrays heads d ≡ cell_number arrays a index)
    → cond (nat_lt c size) (cell_number arrays by (pos c)) (lock_over arrays heads (c - size)) ≡ cell_number arrays a index
past_it arrays heads size by a index c None number rest = absurd (cc number)
past_it arrays heads size by a index c (Some d) number rest =
    let sum : size + d ≡ c = cc number in
    let left : c - size ≡ d = omega arith in
    ap (λ b. cond b (cell_number arrays by (pos c)) (lock_over arrays heads (c - size))) (le-ltb c size (omega arith))
    ∙ ap (lock_over arrays heads) left ∙ rest d refl

-- a record's cell stands under its array's cell of the same index
pub over_is : (arrays : List (Name × ℕ)) (heads : List Head) (r a : Name) (index : ℤ) (c : ℕ)
    → cell_number (records_of heads) r index ≡ Some c
    → named r (arrays_over heads) ≡ Some a → lock_over arrays heads c ≡ cell_number arrays a index
over_is arrays [] r a index c number array = absurd (cc number)
over_is arrays (LockHead name size line ∷ heads) r a index c number array = over_is arrays heads r a index c number array
over_is arrays (BarrierHead name size line ∷ heads) r a index c number array = over_is arrays heads r a index c number array
over_is arrays (FeedHead name fields from line ∷ heads) r a index c number array = over_is arrays heads r a index c number array
over_is arrays (RecHead name size by from line ∷ heads) r a index c number array =
    go (is_name r name) number array (over_is arrays heads r a index)
  where
    go : (b : Bool) → cond b (place (natural size) index)
        (option_map (λ n. natural size + n) (cell_number (records_of heads) r index)) ≡ Some c
        → cond b (Some by) (named r (arrays_over heads)) ≡ Some a
        → ((d : ℕ) → cell_number (records_of heads) r index ≡ Some d → named r (arrays_over heads) ≡ Some a
        → lock_over arrays heads d ≡ cell_number arrays a index)
        → cond (nat_lt c (natural size)) (cell_number arrays by (pos c)) (lock_over arrays heads (c - natural size))
        ≡ cell_number arrays a index
    go true number array rest = at_place arrays (natural size) by a index c (lock_over arrays heads (c - natural size)) number (cc array)
    go false number array rest =
        past_it arrays heads (natural size) by a index c (cell_number (records_of heads) r index) number (λ d found. rest d found array)

-- an array whose first cell may be there, and one of its cells
abbrev Based : Option ℕ → ℤ → ℕ → Type 0
Based o index c = (base k : ℕ) × (o ≡ Some base) × (index ≡ pos k) × (c ≡ base + k)

based_later : (size : ℕ) (o base : Option ℕ) (index : ℤ) (c : ℕ) → option_map (λ n. size + n) o ≡ Some c
    → ((d : ℕ) → o ≡ Some d → Based base index d)
    → Based (option_map (λ n. size + n) base) index c
based_later size None base index c e rest = absurd (cc e)
based_later size (Some d) base index c e rest =
    let there = rest d refl in
    let sum : size + d ≡ c = cc e in
    let far = there.4 in
    (size + there.0, there.1, ap (option_map (λ n. size + n)) there.2, there.3, omega arith)

-- an array's cell is as far from its first cell as its index says
pub based : (arrays : List (Name × ℕ)) (x : Name) (index : ℤ) (c : ℕ) → cell_number arrays x index ≡ Some c
    → Based (base_of arrays x) index c
based [] x index c e = absurd (cc e)
based (array ∷ arrays) x index c e = go (is_name x array.0) e (λ d found. based arrays x index d found)
  where
    go : (b : Bool) → cond b (place array.1 index) (option_map (λ n. array.1 + n) (cell_number arrays x index)) ≡ Some c
        → ((d : ℕ) → cell_number arrays x index ≡ Some d → Based (base_of arrays x) index d)
        → Based (cond b (Some 0) (option_map (λ n. array.1 + n) (base_of arrays x))) index c
    go true e rest = let there = placed array.1 index c e in (0, c, refl, there.0, omega arith)
    go false e rest = based_later array.1 (cell_number arrays x index) (base_of arrays x) index c e rest

-- a list of visits without a fault begins with visits without one
faultless_first : (xs ys : List Visit) → first_fault (xs ++ ys) ≡ None → first_fault xs ≡ None
faultless_first [] ys e = refl
faultless_first (v ∷ xs) ys e = go v.fails e (faultless_first xs ys)
  where
    go : (fails : List CheckKind) → fault_at v.line fails (first_fault (xs ++ ys)) ≡ None
        → (first_fault (xs ++ ys) ≡ None → first_fault xs ≡ None)
        → fault_at v.line fails (first_fault xs) ≡ None
    go [] e rest = rest e
    go (kind ∷ kinds) e rest = absurd (cc e)

no_fault : (line : ℕ) (fails : List CheckKind) (later : Option (CheckKind × ℕ)) → fault_at line fails later ≡ None
    → (fails ≡ []) × (later ≡ None)
no_fault line [] later e = (refl, e)
no_fault line (kind ∷ kinds) later e = absurd (cc e)

both_empty : (first second : List CheckKind) → first ++ second ≡ [] → (first ≡ []) × (second ≡ [])
both_empty [] second e = (refl, e)
both_empty (kind ∷ kinds) second e = absurd (cc e)

holds_rule : (b : Bool) (kind : CheckKind) → fails_if b kind ≡ [] → b ≡ false
holds_rule true kind e = absurd (cc e)
holds_rule false kind e = refl

-- where no rule fails at the heads, sizes agree
sizes_agree : (program : Program) (before heads : List Head) → first_fault (head_visits program before heads) ≡ None
    → list_all (fits_array program.heads) heads ≡ true
sizes_agree program before [] e = refl
sizes_agree program before (head ∷ heads) e =
    let rules =
    no_fault (head_line head) (head_visit program before head).fails (first_fault (head_visits program (before ++ head ∷ []) heads)) e in
    let limits = both_empty _ (fails_if (passes_limit before head) TooMany) rules.0 in
    let sizes = both_empty _ (fails_if (sizes_differ program.heads head) SizesDiffer) limits.0 in
    let counts = both_empty _ (fails_if (count_of head == 0) WrongCount) sizes.0 in
    let names =
    both_empty (fails_if (lacks_array program.heads head) UnknownName)
    (fails_if (is_among (head_name head) (map head_name before)) DoubleName) counts.0 in
    let known = holds_rule (lacks_array program.heads head) UnknownName names.0 in
    let sized = holds_rule (sizes_differ program.heads head) SizesDiffer sizes.1 in
    and_from (fits_array program.heads head) (list_all (fits_array program.heads) heads) (rw (known, sized) refl)
    (sizes_agree program (before ++ head ∷ []) heads rules.1)

pub accepted_sizes : (program : Program) → IsAccepted program → list_all (fits_array program.heads) program.heads ≡ true
accepted_sizes program accepted =
    let heads = head_visits program [] program.heads in
    let tasks = task_visits (map head_name program.heads) program.tasks in
    let bodies = main_visit program ∷ bodies_visits program program.tasks in
    sizes_agree program [] program.heads (faultless_first heads tasks (faultless_first (heads ++ tasks) bodies accepted.faultless))
