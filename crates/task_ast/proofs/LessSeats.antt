-- Seats of which less is known.
use Rattle.std.proofs.Common.{◌≡◌, inl, inr, ℕ, zero, suc, ◌+◌, Bool, true, false, cond, List, [], ◌∷◌, ◌++◌, map, length, Option, Some, None, refl, sym, ap, ◌∙◌, count_by}
use Rattle.std.specs.Prelude.{◌⊎◌, slice_get}
use Rattle.task_ast.specs.declared.sync.Next.{Next}
use Rattle.task_ast.specs.meaning.Table.{Released, with_nth, meets, is_waiting}
use Rattle.task_ast.specs.Table.{Seat, unpassed, waits_at}
use Rattle.task_ast.specs.Turn.{released_at}
use Rattle.task_ast.proofs.Counting.{one, count-cons}
use Rattle.task_ast.specs.laws.Less.{IsUnknown, SeatLess, SeatsLess}

pub seat_same : (s : Seat) → SeatLess s s
seat_same s = record { next = inl refl; last = refl; passed = refl; stand = refl }

pub seats_same : (seats : List Seat) → SeatsLess seats seats
seats_same [] = tt
seats_same (s ∷ seats) = (seat_same s, seats_same seats)

pub length_less : (less more : List Seat) → SeatsLess less more → length less ≡ length more
length_less [] [] h = refl
length_less [] (m ∷ more) h = absurd h
length_less (l ∷ less) [] h = absurd h
length_less (l ∷ less) (m ∷ more) h = ap suc (length_less less more h.1)

-- what is known of the seats of one thread
pub data GotLess : Option Seat → Option Seat → Type 0 where
  no_seat : GotLess None None
  some_seat : {l m : Seat} → SeatLess l m → GotLess (Some l) (Some m)

pub get_less : (less more : List Seat) (t : ℕ) → SeatsLess less more → GotLess (slice_get less t) (slice_get more t)
get_less [] [] t h = no_seat
get_less [] (m ∷ more) t h = absurd h
get_less (l ∷ less) [] t h = absurd h
get_less (l ∷ less) (m ∷ more) zero h = some_seat h.0
get_less (l ∷ less) (m ∷ more) (suc t) h = get_less less more t h.1

-- one seat is changed in both
pub nth_less : (f g : Seat → Seat) (less more : List Seat) (t : ℕ) → SeatsLess less more
    → ((l m : Seat) → slice_get less t ≡ Some l → SeatLess l m → SeatLess (f l) (g m)) → SeatsLess (with_nth less t f) (with_nth more t g)
nth_less f g [] [] t h kept = tt
nth_less f g [] (m ∷ more) t h kept = absurd h
nth_less f g (l ∷ less) [] t h kept = absurd h
nth_less f g (l ∷ less) (m ∷ more) zero h kept = (kept l m refl h.0, h.1)
nth_less f g (l ∷ less) (m ∷ more) (suc t) h kept = (h.0, nth_less f g less more t h.1 kept)

-- one seat is changed in the one alone
pub nth_of_less : (f : Seat → Seat) (less more : List Seat) (t : ℕ) → SeatsLess less more
    → ((l m : Seat) → slice_get less t ≡ Some l → slice_get more t ≡ Some m → SeatLess l m → SeatLess (f l) m)
    → SeatsLess (with_nth less t f) more
nth_of_less f [] [] t h kept = tt
nth_of_less f [] (m ∷ more) t h kept = absurd h
nth_of_less f (l ∷ less) [] t h kept = absurd h
nth_of_less f (l ∷ less) (m ∷ more) zero h kept = (kept l m refl refl h.0, h.1)
nth_of_less f (l ∷ less) (m ∷ more) (suc t) h kept = (h.0, nth_of_less f less more t h.1 kept)

pub nth_of_more : (g : Seat → Seat) (less more : List Seat) (t : ℕ) → SeatsLess less more
    → ((l m : Seat) → slice_get less t ≡ Some l → SeatLess l m → SeatLess l (g m)) → SeatsLess less (with_nth more t g)
nth_of_more g [] [] t h kept = tt
nth_of_more g [] (m ∷ more) t h kept = absurd h
nth_of_more g (l ∷ less) [] t h kept = absurd h
nth_of_more g (l ∷ less) (m ∷ more) zero h kept = (kept l m refl h.0, h.1)
nth_of_more g (l ∷ less) (m ∷ more) (suc t) h kept = (h.0, nth_of_more g less more t h.1 kept)

-- all seats are changed
pub map_less : (f : Seat → Seat) → ((l m : Seat) → SeatLess l m → SeatLess (f l) (f m)) → (less more : List Seat) → SeatsLess less more
    → SeatsLess (map f less) (map f more)
map_less f kept [] [] h = tt
map_less f kept [] (m ∷ more) h = absurd h
map_less f kept (l ∷ less) [] h = absurd h
map_less f kept (l ∷ less) (m ∷ more) h = (kept l m h.0, map_less f kept less more h.1)

pub push_less : (less more : List Seat) (s : Seat) → SeatsLess less more → SeatsLess (less ++ s ∷ []) (more ++ s ∷ [])
push_less [] [] s h = (seat_same s, tt)
push_less [] (m ∷ more) s h = absurd h
push_less (l ∷ less) [] s h = absurd h
push_less (l ∷ less) (m ∷ more) s h = (h.0, push_less less more s h.1)

pub unpassed_less : (l m : Seat) → SeatLess l m → SeatLess (unpassed l) (unpassed m)
unpassed_less l m h = record { next = go h.next; last = h.last; passed = refl; stand = h.stand }
  where
    go : (l.next ≡ m.next) ⊎ IsUnknown l → (l.next ≡ m.next) ⊎ IsUnknown (unpassed l)
    go (inl e) = inl e
    go (inr u) = inr (record { next = u.next; stand = u.stand })

some_none : {A : Type 0} {x : A} → Some x ≡ None → ⊥
some_none e = cc e

-- where the next synchronisation is known, it is the same
pub known_same : (l m : Seat) (next : Next) → l.next ≡ Some next → SeatLess l m → l.next ≡ m.next
known_same l m next e h = go h.next
  where
    go : (l.next ≡ m.next) ⊎ IsUnknown l → l.next ≡ m.next
    go (inl same) = same
    go (inr u) = absurd (some_none (sym e ∙ u.next))

-- who waits at a barrier is known
pub waits_less : (b : ℕ) (l m : Seat) → SeatLess l m → waits_at b l ≡ waits_at b m
waits_less b l m h = go h.next
  where
    go : (l.next ≡ m.next) ⊎ IsUnknown l → waits_at b l ≡ waits_at b m
    go (inl same) = rw (same, h.stand) refl
    go (inr u) = rw (sym h.stand, u.stand) refl

pub count_less : (b : ℕ) (less more : List Seat) → SeatsLess less more → count_by (waits_at b) less ≡ count_by (waits_at b) more
count_less b [] [] h = refl
count_less b [] (m ∷ more) h = absurd h
count_less b (l ∷ less) [] h = absurd h
count_less b (l ∷ less) (m ∷ more) h =
    count-cons (waits_at b) l less ∙ (ap (λ w. one w + count_by (waits_at b) less) (waits_less b l m h.0)
    ∙ (ap (λ n. one (waits_at b m) + n) (count_less b less more h.1) ∙ sym (count-cons (waits_at b) m more)))

pub released_less : (b : ℕ) (l m : Seat) → SeatLess l m → SeatLess (released_at b l) (released_at b m)
released_less b l m h = rw (sym (waits_less b l m h)) (go (waits_at b l) refl)
  where
    go : (w : Bool) → waits_at b l ≡ w → SeatLess (cond w (record l { stand = Released }) l) (cond w (record m { stand = Released }) m)
    go false e = h
    go true e = record { next = inl (known h.next); last = h.last; passed = h.passed; stand = refl }
      where
        known : (l.next ≡ m.next) ⊎ IsUnknown l → l.next ≡ m.next
        known (inl same) = same
        known (inr u) = absurd (no (sym (ap (λ s. cond (is_waiting s) (meets b l.next) false) u.stand) ∙ e))
          where
            no : false ≡ true → ⊥
            no e = cc e
