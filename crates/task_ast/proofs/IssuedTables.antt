-- What an issue leaves of each thread. An issue replaces one seat, and a fork puts one more at the end. So what is left
-- at each place is a fact on lists, of one that is replaced and of one more at the end; learning a next synchronisation
-- replaces a seat too.
use Rattle.std.proofs.Common.{◌≡◌, inl, inr, ℕ, zero, suc, ◌<◌, ◌≤◌, false, List, [], ◌∷◌, ◌++◌, map, length, Option, Some, None, refl, sym, ap, ◌∙◌, arith, option_and_then}
use Rattle.std.specs.Prelude.{slice_get, slice_set}
use Rattle.std.proofs.lemmas.Bool.{cases_lt}
use Rattle.std.proofs.lemmas.List.{length-map}
use Rattle.task_ast.specs.declared.sync.SyncOp.{SyncOp}
use Rattle.task_ast.specs.declared.sync.SyncOp.TheVariants as sync
use Rattle.task_ast.specs.declared.sync.Next.{Next}
use Rattle.task_ast.specs.Plain.{Machine, points_with}
use Rattle.task_ast.specs.meaning.Table.{Away, with_nth}
use Rattle.task_ast.specs.Table.{Seat, Table, next_of, last_in, unpassed, learning, new_seat}
use Rattle.task_ast.specs.meaning.Turn.{child_of}
use Rattle.task_ast.specs.Turn.{seats_after}
use Rattle.task_ast.proofs.Counting.{length-with_nth, get-map, get-with_nth}
use Rattle.task_ast.proofs.Rounds.{keeps_map, other_nth, there_nth, keeps_nth}
use Rattle.task_ast.specs.laws.Threads.{with_child}
use Rattle.task_ast.proofs.TurnForms.{issued_table}

-- ---- lists

pub get_push : {X : Type 0} (xs : List X) (y : X) (u : ℕ) → u < length xs → slice_get (xs ++ y ∷ []) u ≡ slice_get xs u
get_push [] y u l = absurd (omega arith)
get_push (x ∷ xs) y zero l = refl
get_push (x ∷ xs) y (suc u) l = get_push xs y u (omega arith)

pub get_last : {X : Type 0} (xs : List X) (y : X) → slice_get (xs ++ y ∷ []) (length xs) ≡ Some y
get_last [] y = refl
get_last (x ∷ xs) y = get_last xs y

pub get_past : {X : Type 0} (xs : List X) (u : ℕ) → length xs ≤ u → slice_get xs u ≡ None
get_past [] u l = refl
get_past (x ∷ xs) zero l = absurd (omega arith)
get_past (x ∷ xs) (suc u) l = get_past xs u (omega arith)

pub length_push : {X : Type 0} (xs : List X) (y : X) → length (xs ++ y ∷ []) ≡ suc (length xs)
length_push [] y = refl
length_push (x ∷ xs) y = ap suc (length_push xs y)

pub get_set_here : {X : Type 0} (xs : List X) (t : ℕ) (y : X) → t < length xs → slice_get (slice_set xs t y) t ≡ Some y
get_set_here [] t y l = absurd (omega arith)
get_set_here (x ∷ xs) zero y l = refl
get_set_here (x ∷ xs) (suc t) y l = get_set_here xs t y (omega arith)

pub get_set_other : {X : Type 0} (xs : List X) (t u : ℕ) (y : X) → (u ≡ t → ⊥) → slice_get (slice_set xs t y) u ≡ slice_get xs u
get_set_other [] t u y ne = refl
get_set_other (x ∷ xs) zero zero y ne = absurd (ne refl)
get_set_other (x ∷ xs) zero (suc u) y ne = refl
get_set_other (x ∷ xs) (suc t) zero y ne = refl
get_set_other (x ∷ xs) (suc t) (suc u) y ne = get_set_other xs t u y (λ e. ne (ap suc e))

pub length_set : {X : Type 0} (xs : List X) (t : ℕ) (y : X) → length (slice_set xs t y) ≡ length xs
length_set [] t y = refl
length_set (x ∷ xs) zero y = refl
length_set (x ∷ xs) (suc t) y = ap suc (length_set xs t y)

-- ---- seats

abbrev begun : ℕ → Seat → Seat
begun position s = record s { next = None; last = Some position; passed = false; stand = Away }

abbrev pub fresh_seat : ℕ → Seat
fresh_seat position = record { next = None; last = Some position; passed = false; stand = Away }

seats_after_get : (op : SyncOp) (xs : List Seat) (u : ℕ) → u < length xs → slice_get (seats_after op xs) u ≡ slice_get xs u
seats_after_get (sync.Fork task arguments) xs u l = get_push xs new_seat u l
seats_after_get _ xs u l = refl

seats_after_past : (op : SyncOp) (xs : List Seat) (u : ℕ) → length xs ≤ u
    → option_and_then (λ s. s.last) (slice_get (seats_after op xs) u) ≡ None
seats_after_past (sync.Fork task arguments) xs u l =
    elim (cases_lt (length xs) u) [
      | inl k ↦
          ap (λ o. option_and_then (λ s. s.last) o) (get_past (xs ++ new_seat ∷ []) u (let e = length_push xs new_seat in omega arith))
      | inr k ↦
          (let same : u ≡ length xs = omega arith in
          ap (λ o. option_and_then (λ s. s.last) o) (ap (slice_get (xs ++ new_seat ∷ [])) same ∙ get_last xs new_seat))
    ]
seats_after_past _ xs u l = ap (λ o. option_and_then (λ s. s.last) o) (get_past xs u l)

-- as many points as seats
pub points_as_seats : {P : Type 0} (machine : Machine P) (op : SyncOp) (n : ℕ) (points : List P) (seats : List Seat)
    → length points ≡ length seats
    → length (points_with machine op n points) ≡ length (seats_after op seats)
points_as_seats machine (sync.Fork task arguments) n points seats e = length_push points _ ∙ (ap suc e ∙ sym (length_push seats new_seat))
points_as_seats machine _ n points seats e = e

pub points_get : {P : Type 0} (machine : Machine P) (op : SyncOp) (n : ℕ) (points : List P) (u : ℕ) → u < length points
    → slice_get (points_with machine op n points) u ≡ slice_get points u
points_get machine (sync.Fork task arguments) n points u l = get_push points _ u l
points_get machine _ n points u l = refl

-- so many threads as before, and the child
pub grown_is : (op : SyncOp) (xs : List Seat) → length (seats_after op xs) ≡ with_child (child_of op (length xs)) (length xs)
grown_is (sync.Fork task arguments) xs = length_push xs new_seat
grown_is _ xs = refl

-- a thread that is new is the child
pub grown_by : (op : SyncOp) (xs : List Seat) (u : ℕ) → u < length (seats_after op xs) → length xs ≤ u → child_of op (length xs) ≡ Some u
grown_by (sync.Fork task arguments) xs u l k = let e = length_push xs new_seat in ap Some (omega arith)
grown_by _ xs u l k = absurd (omega arith)

pub grown_seat : (op : SyncOp) (xs : List Seat) (u : ℕ) → u < length (seats_after op xs) → length xs ≤ u
    → slice_get (seats_after op xs) u ≡ Some new_seat
grown_seat (sync.Fork task arguments) xs u l k =
    let e = length_push xs new_seat in
    let same : u ≡ length xs = omega arith in
    ap (slice_get (xs ++ new_seat ∷ [])) same ∙ get_last xs new_seat
grown_seat _ xs u l k = absurd (omega arith)

module _ (there : Table) (t : ℕ) (next : Next) where
  abbrev pub changed : List Seat
  changed = map unpassed (with_nth there.seats t (begun there.issued))

  pub changed_length : length (map unpassed (with_nth there.seats t (begun there.issued))) ≡ length there.seats
  changed_length = length-map (with_nth there.seats t (begun there.issued)) unpassed ∙ length-with_nth there.seats t (begun there.issued)

  pub issued_here : t < length there.seats → slice_get (issued_table there t next).seats t ≡ Some (fresh_seat there.issued)
  issued_here l =
      let seat = there_nth (begun there.issued) there.seats t l in
      seats_after_get next.sync changed t (let e = changed_length in omega arith)
      ∙ get-map unpassed (with_nth there.seats t (begun there.issued)) t (begun there.issued seat.0)
      (get-with_nth there.seats t (begun there.issued) seat.0 seat.1)

  pub issued_other : {Y : Type 0} (f : Seat → Option Y) → ((s : Seat) → f (unpassed s) ≡ f s) → (u : ℕ) → u < length there.seats
      → (u ≡ t → ⊥)
      → option_and_then f (slice_get (issued_table there t next).seats u) ≡ option_and_then f (slice_get there.seats u)
  issued_other f same u l ne =
      ap (λ o. option_and_then f o) (seats_after_get next.sync changed u (let e = changed_length in omega arith))
      ∙ (keeps_map (λ o. option_and_then f o) unpassed same (with_nth there.seats t (begun there.issued)) u
      ∙ ap (λ o. option_and_then f o) (other_nth (begun there.issued) there.seats t u ne))

  pub issued_past : (u : ℕ) → length there.seats ≤ u → last_in (issued_table there t next) u ≡ None
  issued_past u l = seats_after_past next.sync changed u (let e = changed_length in omega arith)

-- ---- learning

abbrev pub learn : Next → Seat → Seat
learn next s = record s { next = Some next }

pub learnt_here : (table : Table) (t : ℕ) (next : Next) → t < length table.seats → next_of (learning table t next) t ≡ Some next
learnt_here table t next l =
    let seat = there_nth (learn next) table.seats t l in
    ap (λ o. option_and_then (λ s. s.next) o) (get-with_nth table.seats t (learn next) seat.0 seat.1)

pub learnt_other : (table : Table) (t u : ℕ) (next : Next) → (u ≡ t → ⊥) → next_of (learning table t next) u ≡ next_of table u
learnt_other table t u next ne = ap (λ o. option_and_then (λ s. s.next) o) (other_nth (learn next) table.seats t u ne)

pub learnt_last : (table : Table) (t u : ℕ) (next : Next) → last_in (learning table t next) u ≡ last_in table u
learnt_last table t u next = keeps_nth (λ o. option_and_then (λ s. s.last) o) (learn next) (λ s. refl) table.seats t u

pub learnt_length : (table : Table) (t : ℕ) (next : Next) → length (learning table t next).seats ≡ length table.seats
learnt_length table t next = length-with_nth table.seats t (learn next)

-- the last subthread is that of a seat that is there
pub last_inside : (seats : List Seat) (t q : ℕ) → option_and_then (λ s. s.last) (slice_get seats t) ≡ Some q → t < length seats
last_inside [] t q e = absurd (cc e)
last_inside (s ∷ seats) zero q e = omega arith
last_inside (s ∷ seats) (suc t) q e = let h = last_inside seats t q e in omega arith

pub grown_points : {P : Type 0} (machine : Machine P) (op : SyncOp) (n : ℕ) (points : List P)
    → length points ≤ length (points_with machine op n points)
grown_points machine (sync.Fork task arguments) n points = let e = length_push points (machine.starts task n arguments) in omega arith
grown_points machine _ n points = omega arith
