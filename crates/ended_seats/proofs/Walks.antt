-- What walks over the threads go by, after each change of a thread table.
use Rattle.std.proofs.Common.{◌≡◌, ◌⊎◌, inl, inr, ℕ, zero, suc, ◌+◌, ◌-◌, ◌<◌, ◌≤◌, Bool, true, false, cond, List, [], ◌∷◌, ◌++◌, length, map, set, count_by, unwrap_or, option_map, option_and_then, max, Some, refl, sym, ap, ◌∙◌, subst, arith}
use Rattle.std.specs.Prelude.{slice_get}
use Rattle.std.proofs.lemmas.Bool.{false≢true, cases_lt, cases_eq}
use Rattle.task_ast.specs.declared.sync.SyncOp.{SyncOp}
use Rattle.task_ast.specs.declared.sync.SyncOp.TheVariants as sync
use Rattle.task_ast.specs.Table.{Seat, unpassed, new_seat, waits_at, is_known_end}
use Rattle.task_ast.specs.meaning.Table.{Released, is_waiting, meets, with_nth}
use Rattle.task_ast.specs.Turn.{released_at, seats_after}
use Rattle.task_ast.proofs.ChangedSeats.{map-replaced, released-waiting, released-other}
use Rattle.task_ast.proofs.Counting.{length-with_nth, one, count-cons, count-with_nth, count-map, get-with_nth}
use Rattle.task_ast.proofs.Rounds.{other_nth, keeps_map}
use Rattle.task_ast.proofs.SeenSeats.{seen-at}
use Rattle.ended_seats.specs.Idle.{is_idle, idle_at, passed_at, waits, IdleBetween, IdleOver, Uncovered, PassedWithin, Walks, onward_after}
use Rattle.std.proofs.lemmas.Option.{slice_get-map}
use Rattle.task_ast.specs.Looking.{begun}
use Rattle.task_ast.specs.declared.sync.Next.{Next}
use Rattle.std.proofs.Common.{take, Option, None}
use Rattle.task_ast.proofs.ChangedSeats.{first_mapped}
use Rattle.task_ast.specs.meaning.Table.{is_end}
use Rattle.ended_seats.proofs.Idle.{ended}
use Rattle.ended_seats.proofs.Idle.{not_idle, idle_fresh, idle_unpassed, idle_released, idle_after, grows}
use Rattle.std.proofs.lemmas.List.{length-map}
use Rattle.std.proofs.lemmas.List.Sums.{count_by-le-length}

-- one member is replaced by another that is seen as it is
pub map-kept : {A B : Type 0} (v : A → B) (xs : List A) (t : ℕ) (x y : A) → slice_get xs t ≡ Some x → v y ≡ v x
    → map v (set xs t y) ≡ map v xs
map-kept v [] t x y at e = refl
map-kept v (z ∷ zs) zero x y at e = ap (λ w. w ∷ map v zs) (e ∙ ap v (sym (cc at)))
map-kept v (z ∷ zs) (suc t) x y at e = ap (λ ws. v z ∷ ws) (map-kept v zs t x y at e)

-- no walk goes over a thread that is not idle
pub uncovered : (onward : List ℕ) (seats : List Seat) (t : ℕ) (seat : Seat) → slice_get seats t ≡ Some seat → is_idle seat ≡ false
    → IdleOver onward seats → Uncovered onward t
uncovered onward seats t seat at not idle u n there l = go (cases_lt t n)
  where
    go : (t < n) ⊎ (n ≤ t) → n ≤ t
    go (inr m) = m
    go (inl m) = absurd (false≢true (sym not ∙ ap (λ o. unwrap_or (option_map is_idle o) false) (sym at) ∙ idle u n there t l m))

-- nor over any where none goes on beyond the first
pub uncovered_none : (onward : List ℕ) (t : ℕ) → ((u n : ℕ) → slice_get onward u ≡ Some n → n ≡ 0) → Uncovered onward t
uncovered_none onward t none u n there l = let e = none u n there in omega (arith, e)

pub idle_none : (onward : List ℕ) (seats : List Seat) → ((u n : ℕ) → slice_get onward u ≡ Some n → n ≡ 0) → IdleOver onward seats
idle_none onward seats none u n there t l m = let e = none u n there in absurd (omega (arith, e, m))

-- one thread over which no walk goes is changed
pub put : {X : Type 0} (view : X → Seat) (onward : X → ℕ) (items : List X) (t : ℕ) (x y : X) (first last most first' last' most' : ℕ)
    → slice_get items t ≡ Some x → Uncovered (map onward items) t → onward y ≡ onward x
    → ((u : ℕ) → first ≤ u → u ≤ last → (first' ≤ u) × (u ≤ last'))
    → ((view y).passed ≡ true → ((view x).passed ≡ true) ⊎ ((first' ≤ t) × (t ≤ last')))
    → ((n : ℕ) → n + one (waits (view x)) ≤ most + one (waits (view y)) → n ≤ length items → n ≤ most')
    → Walks (map onward items) first last most (map view items)
    → Walks (map onward (set items t y)) first' last' most' (map view (set items t y))
put view onward items t x y first last most first' last' most' at free same wider here more walks =
    record { idle = idle; passed = passed; few = few }
  where
    ways : map onward (set items t y) ≡ map onward items
    ways = map-kept onward items t x y at same

    seats : map view (set items t y) ≡ with_nth (map view items) t (λ s. view y)
    seats = map-replaced view items t (λ s. view y) x y at refl

    idle : IdleOver (map onward (set items t y)) (map view (set items t y))
    idle u n there v l m =
        let was : slice_get (map onward items) u ≡ Some n = ap (λ ns. slice_get ns u) (sym ways) ∙ there in
        ap (λ ss. idle_at ss v) seats
        ∙ ap (λ o. unwrap_or (option_map is_idle o) false)
        (other_nth (λ s. view y) (map view items) t v
        (λ e. let up = free u n was (omega (arith, e, l)) in absurd (omega (arith, e, m, up))))
        ∙ walks.idle u n was v l m

    come : ((view x).passed ≡ true) ⊎ ((first' ≤ t) × (t ≤ last')) → (first' ≤ t) × (t ≤ last')
    come (inr is) = is
    come (inl was) =
        let there = walks.passed t (ap (λ o. unwrap_or (option_map (λ s. s.passed) o) false) (seen-at view items t x at) ∙ was) in
        wider t there.0 there.1

    passed : (u : ℕ) → passed_at (map view (set items t y)) u ≡ true → (first' ≤ u) × (u ≤ last')
    passed u e =
        elim (cases_eq u t) [
          | inl is ↦
              (let there = come (here (sym (ap (λ ss. passed_at ss t) seats
              ∙ ap (λ o. unwrap_or (option_map (λ s. s.passed) o) false)
              (get-with_nth (map view items) t (λ s. view y) (view x) (seen-at view items t x at))) ∙ ap (passed_at (map view (set items t y))) (sym is) ∙ e)) in
              (omega (arith, there.0, is), omega (arith, there.1, is)))
          | inr other ↦
              (let there = walks.passed u (sym (ap (λ ss. passed_at ss u) seats
              ∙ ap (λ o. unwrap_or (option_map (λ s. s.passed) o) false) (other_nth (λ s. view y) (map view items) t u other)) ∙ e) in
              wider u there.0 there.1)
        ]

    few : count_by waits (map view (set items t y)) ≤ most'
    few =
        let count = count-with_nth waits (map view items) t (λ s. view y) (view x) (seen-at view items t x at) in
        let is = ap (count_by waits) seats in
        let old = walks.few in
        let long = length-with_nth (map view items) t (λ s. view y) in
        let all = length-map items view in
        let most = count_by-le-length waits (with_nth (map view items) t (λ s. view y)) in
        more (count_by waits (map view (set items t y))) (omega (arith, count, is, old)) (omega (arith, is, long, all, most))

-- a thread that has not ended is changed
pub put_live : {X : Type 0} (view : X → Seat) (onward : X → ℕ) (items : List X) (t : ℕ) (x y : X) (first last most first' last' most' : ℕ)
    → slice_get items t ≡ Some x → is_known_end (option_and_then (λ s. s.next) (slice_get (map view items) t)) ≡ false → onward y ≡ onward x
    → ((u : ℕ) → first ≤ u → u ≤ last → (first' ≤ u) × (u ≤ last'))
    → ((view y).passed ≡ true → ((view x).passed ≡ true) ⊎ ((first' ≤ t) × (t ≤ last')))
    → ((n : ℕ) → n + one (waits (view x)) ≤ most + one (waits (view y)) → n ≤ length items → n ≤ most')
    → Walks (map onward items) first last most (map view items)
    → Walks (map onward (set items t y)) first' last' most' (map view (set items t y))
put_live view onward items t x y first last most first' last' most' at live same wider here more walks =
    let there = seen-at view items t x at in
    put view onward items t x y first last most first' last' most' at
    (uncovered (map onward items) (map view items) t (view x) there
    (not_idle (view x) (ap (λ o. is_known_end (option_and_then (λ s. s.next) o)) (sym there) ∙ live)) walks.idle)
    same wider here more walks

-- the threads over which a walk goes that comes to a thread
pub over : {X : Type 0} (onward : X → ℕ) (items : List X) (seats : List Seat) (t : ℕ) (x : X) → slice_get items t ≡ Some x
    → IdleOver (map onward items) seats → IdleBetween t (onward x) seats
over onward items seats t x at idle = idle t (onward x) (slice_get-map onward items t ∙ ap (option_map onward) at)

none_passed : (seats : List Seat) (t : ℕ) → passed_at (map unpassed seats) t ≡ false
none_passed [] t = refl
none_passed (x ∷ xs) zero = refl
none_passed (x ∷ xs) (suc t) = none_passed xs t

-- no thread has passed any more
pub cleared : (onward : List ℕ) (first last most first' last' : ℕ) (seats : List Seat) → Walks onward first last most seats
    → Walks onward first' last' most (map unpassed seats)
cleared onward first last most first' last' seats walks =
    record {
      idle = λ t n at u l m. idle_unpassed seats u (walks.idle t n at u l m);
      passed = λ t e. absurd (false≢true (sym (none_passed seats t) ∙ e));
      few = subst (λ n. n ≤ most) (sym (count-map waits unpassed (λ s. refl) seats)) walks.few;
    }

pub cleared_as : {X : Type 0} (view : X → Seat) (onward : X → ℕ) (old after : List X) (first last most first' last' : ℕ)
    → map view after ≡ map unpassed (map view old) → map onward after ≡ map onward old
    → Walks (map onward old) first last most (map view old) → Walks (map onward after) first' last' most (map view after)
cleared_as view onward old after first last most first' last' seats ways walks =
    rw (seats, ways) (cleared (map onward old) first last most first' last' (map view old) walks)

-- a thread has arrived, where no thread has passed any more
pub arrived_as : {X : Type 0} (view : X → Seat) (onward : X → ℕ) (old mid : List X) (t : ℕ) (x y : X)
    (first last most first' last' most' : ℕ)
    → map view mid ≡ map unpassed (map view old) → map onward mid ≡ map onward old → slice_get mid t ≡ Some x
    → is_known_end (option_and_then (λ s. s.next) (slice_get (map view old) t)) ≡ false → onward y ≡ onward x
    → (view y).passed ≡ (view x).passed
    → ((n : ℕ) → n + one (waits (view x)) ≤ most + one (waits (view y)) → n ≤ length mid → n ≤ most')
    → Walks (map onward old) first last most (map view old)
    → Walks (map onward (set mid t y)) first' last' most' (map view (set mid t y))
arrived_as view onward old mid t x y first last most first' last' most' seats ways at live same passed more walks =
    put_live view onward mid t x y first' last' most first' last' most' at
    (ap (λ ss. is_known_end (option_and_then (λ s. s.next) (slice_get ss t))) seats
    ∙ ap is_known_end (keeps_map (option_and_then (λ s. s.next)) unpassed (λ s. refl) (map view old) t) ∙ live)
    same (λ u a b. (a, b)) (λ e. inl (sym passed ∙ e)) more (cleared_as view onward old mid first last most first' last' seats ways walks)

-- the same threads, over which walks go in another way
pub same_as : {X : Type 0} (view : X → Seat) (onward : X → ℕ) (old after : List X) (first last most : ℕ)
    → map view after ≡ map view old → IdleOver (map onward after) (map view old)
    → Walks (map onward old) first last most (map view old) → Walks (map onward after) first last most (map view after)
same_as view onward old after first last most seats idle walks =
    subst (Walks (map onward after) first last most) (sym seats) (record { idle = idle; passed = walks.passed; few = walks.few })

is_waiting-there : (b : ℕ) (s : Seat) → waits_at b s ≡ true → waits s ≡ true
is_waiting-there b s e = go (is_waiting s.stand) e
  where
    go : (w : Bool) → cond w (meets b s.next) false ≡ true → w ≡ true
    go true e = refl
    go false e = absurd (false≢true e)

-- one that is released waits no more
released_one : (b : ℕ) (s : Seat) → one (waits (released_at b s)) + one (waits_at b s) ≡ one (waits s)
released_one b s = go (waits_at b s) refl
  where
    go : (c : Bool) → waits_at b s ≡ c → one (waits (released_at b s)) + one (waits_at b s) ≡ one (waits s)
    go true e =
        let no : one (waits (released_at b s)) ≡ 0 = ap (λ r. one (waits r)) (sym (released-waiting b s e)) in
        let here : one (waits_at b s) ≡ 1 = ap one e in
        let all : one (waits s) ≡ 1 = ap one (is_waiting-there b s e) in
        omega (arith, no, here, all)
    go false e =
        let same : one (waits (released_at b s)) ≡ one (waits s) = ap (λ r. one (waits r)) (released-other b s e) in
        let here : one (waits_at b s) ≡ 0 = ap one e in
        omega (arith, same, here)

released_count : (b : ℕ) (seats : List Seat) → count_by waits (map (released_at b) seats) + count_by (waits_at b) seats ≡ count_by waits seats
released_count b [] = refl
released_count b (x ∷ xs) =
    let first = released_one b x in
    let rest = released_count b xs in
    let one = count-cons waits (released_at b x) (map (released_at b) xs) in
    let two = count-cons (waits_at b) x xs in
    let three = count-cons waits x xs in
    omega (arith, first, rest, one, two, three)

released_passed : (b : Bool) (s : Seat) → (cond b (record s { stand = Released }) s).passed ≡ s.passed
released_passed true s = refl
released_passed false s = refl

released_same : (b : Bool) (s : Seat) → (cond b (record s { stand = Released }) s).next ≡ s.next
released_same true s = refl
released_same false s = refl

pub released_next : (b : ℕ) (seats : List Seat) (t : ℕ)
    → option_and_then (λ s. s.next) (slice_get (map (released_at b) seats) t) ≡ option_and_then (λ s. s.next) (slice_get seats t)
released_next b seats t =
    keeps_map (option_and_then (λ s. s.next)) (released_at b) (λ s. released_same (waits_at b s) s) seats t

-- those are released that wait at a barrier
pub released : (onward : List ℕ) (first last most b n : ℕ) (seats : List Seat) → n ≡ count_by (waits_at b) seats
    → Walks onward first last most seats → Walks onward first last (most - n) (map (released_at b) seats)
released onward first last most b n seats n_is walks =
    record {
      idle = λ t k at u l m. idle_released b seats u (walks.idle t k at u l m);
      passed =
          λ t e. walks.passed t (sym (keeps_map (λ o. unwrap_or (option_map (λ s. s.passed) o) false) (released_at b)
          (λ s. released_passed (waits_at b s) s) seats t) ∙ e);
      few = let count = released_count b seats in let old = walks.few in omega (arith, n_is, count, old);
    }

pub released_as : {X : Type 0} (view : X → Seat) (onward : X → ℕ) (old after : List X) (first last most b n : ℕ)
    → map view after ≡ map (released_at b) (map view old) → map onward after ≡ map onward old → n ≡ count_by (waits_at b) (map view old)
    → Walks (map onward old) first last most (map view old) → Walks (map onward after) first last (most - n) (map view after)
released_as view onward old after first last most b n seats ways n_is walks =
    rw (seats, ways) (released (map onward old) first last most b n (map view old) n_is walks)

pushed_onward : (onward : List ℕ) (t n : ℕ) → slice_get (onward ++ 0 ∷ []) t ≡ Some n → (slice_get onward t ≡ Some n) ⊎ (n ≡ 0)
pushed_onward [] zero n e = inr (sym (cc e))
pushed_onward [] (suc t) n e = absurd (cc e)
pushed_onward (x ∷ xs) zero n e = inl e
pushed_onward (x ∷ xs) (suc t) n e = pushed_onward xs t n e

pushed_passed : (seats : List Seat) (t : ℕ) → passed_at (seats ++ new_seat ∷ []) t ≡ true → passed_at seats t ≡ true
pushed_passed [] zero e = absurd (false≢true e)
pushed_passed [] (suc t) e = absurd (false≢true e)
pushed_passed (x ∷ xs) zero e = e
pushed_passed (x ∷ xs) (suc t) e = pushed_passed xs t e

pushed_count : (seats : List Seat) → count_by waits (seats ++ new_seat ∷ []) ≡ count_by waits seats
pushed_count [] = refl
pushed_count (x ∷ xs) =
    let rest = pushed_count xs in
    let one = count-cons waits x (xs ++ new_seat ∷ []) in
    let two = count-cons waits x xs in
    omega (arith, rest, one, two)

-- an issue adds the child, where there is one
pub issued : (op : SyncOp) (onward : List ℕ) (first last most : ℕ) (seats : List Seat) → Walks onward first last most seats
    → Walks (onward_after op onward) first last most (seats_after op seats)
issued (sync.Fork task arguments) onward first last most seats walks =
    record {
      idle = λ t n at. over t n (pushed_onward onward t n at);
      passed = λ t e. walks.passed t (pushed_passed seats t e);
      few = subst (λ n. n ≤ most) (sym (pushed_count seats)) walks.few;
    }
  where
    over : (t n : ℕ) → (slice_get onward t ≡ Some n) ⊎ (n ≡ 0) → IdleBetween t n (seats ++ new_seat ∷ [])
    over t n (inl at) u l m = idle_after (sync.Fork task arguments) seats u (walks.idle t n at u l m)
    over t n (inr e) u l m = absurd (omega (arith, e, m))
issued _ onward first last most seats walks = walks

pub issued_as : {X : Type 0} (view : X → Seat) (onward : X → ℕ) (op : SyncOp) (old after : List X) (first last most : ℕ)
    → map view after ≡ seats_after op (map view old) → map onward after ≡ onward_after op (map onward old)
    → Walks (map onward old) first last most (map view old) → Walks (map onward after) first last most (map view after)
issued_as view onward op old after first last most seats ways walks =
    rw (seats, ways) (issued op (map onward old) first last most (map view old) walks)

-- a walk goes on from a thread at a later one
pub shortened : {X : Type 0} (view : X → Seat) (onward : X → ℕ) (items : List X) (t : ℕ) (x y : X) (first last most : ℕ)
    → slice_get items t ≡ Some x → view y ≡ view x → IdleBetween t (onward y) (map view items)
    → Walks (map onward items) first last most (map view items)
    → Walks (map onward (set items t y)) first last most (map view (set items t y))
shortened {X = X} view onward items t x y first last most at same between walks =
    subst (Walks (map onward (set items t y)) first last most) (sym (map-kept view items t x y at same))
    (record { idle = idle; passed = walks.passed; few = walks.few })
  where
    idle : IdleOver (map onward (set items t y)) (map view items)
    idle u n there =
        elim (cases_eq u t) [
          | inl is ↦
              (let n_is : n ≡ onward y = cc (sym there ∙ ap (λ ns. slice_get ns u) (map-replaced onward items t (λ o. onward y) x y at refl)
              ∙ ap (slice_get (with_nth (map onward items) t (λ o. onward y))) is
              ∙ get-with_nth (map onward items) t (λ o. onward y) (onward x) (get-mapped items t at)) in
              λ v l m. between v (omega (arith, is, l)) (omega (arith, n_is, m)))
          | inr other ↦
              walks.idle u n (sym (ap (λ ns. slice_get ns u) (map-replaced onward items t (λ o. onward y) x y at refl)
              ∙ other_nth (λ o. onward y) (map onward items) t u other) ∙ there)
        ]
      where
        get-mapped : (xs : List X) (i : ℕ) → slice_get xs i ≡ Some x → slice_get (map onward xs) i ≡ Some (onward x)
        get-mapped [] i e = absurd (cc e)
        get-mapped (z ∷ zs) zero e = ap Some (ap onward (cc e))
        get-mapped (z ∷ zs) (suc i) e = get-mapped zs i e

-- the threads before t have not passed, where a walk forgets passes and has come to t
pub record Clearing (old now : List Seat) (t : ℕ) : Type 0 where
  pub same : map unpassed now ≡ map unpassed old
  pub below : (u : ℕ) → u < t → passed_at now u ≡ false
  pub fewer : (u : ℕ) → passed_at now u ≡ true → passed_at old u ≡ true

not_true : (b : Bool) → (b ≡ true → ⊥) → b ≡ false
not_true true never = absurd (never refl)
not_true false never = refl

pub clearing_start : (first last : ℕ) (seats : List Seat) → PassedWithin first last seats → Clearing seats seats first
clearing_start first last seats passed =
    record {
      same = refl;
      below = λ u l. not_true (passed_at seats u) (λ e. let there = passed u e in absurd (omega (arith, l, there.0)));
      fewer = λ u e. e;
    }

unpassed_twice : (seats : List Seat) (t : ℕ) → map unpassed (with_nth seats t unpassed) ≡ map unpassed seats
unpassed_twice [] t = refl
unpassed_twice (x ∷ xs) zero = refl
unpassed_twice (x ∷ xs) (suc t) = ap (λ ys. unpassed x ∷ ys) (unpassed_twice xs t)

passed_other : (seats : List Seat) (t u : ℕ) → passed_at (with_nth seats t unpassed) u ≡ true → passed_at seats u ≡ true
passed_other [] t u e = e
passed_other (x ∷ xs) zero zero e = absurd (false≢true e)
passed_other (x ∷ xs) zero (suc u) e = e
passed_other (x ∷ xs) (suc t) zero e = e
passed_other (x ∷ xs) (suc t) (suc u) e = passed_other xs t u e

passed_here : (seats : List Seat) (t : ℕ) → passed_at (with_nth seats t unpassed) t ≡ false
passed_here [] t = refl
passed_here (x ∷ xs) zero = refl
passed_here (x ∷ xs) (suc t) = passed_here xs t

pub clearing_step : {X : Type 0} (view : X → Seat) (items : List X) (old : List Seat) (t n : ℕ) (x y : X) → slice_get items t ≡ Some x
    → view y ≡ unpassed (view x) → IdleBetween t n old → Clearing old (map view items) t
    → Clearing old (map view (set items t y)) (max (t + 1) n)
clearing_step view items old t n x y at is idle before =
    subst (λ now. Clearing old now (max (t + 1) n)) (sym (map-replaced view items t unpassed x y at is))
    (record {
      same = unpassed_twice (map view items) t ∙ before.same;
      below = λ u l. below u l (cases_lt u t) (cases_eq u t);
      fewer = λ u e. before.fewer u (passed_other (map view items) t u e);
    })
  where
    below : (u : ℕ) → u < max (t + 1) n → (u < t) ⊎ (t ≤ u) → (u ≡ t) ⊎ (u ≡ t → ⊥) → passed_at (with_nth (map view items) t unpassed) u ≡ false
    below u l (inl less) c =
        not_true _ (λ e. false≢true (sym (before.below u less) ∙ passed_other (map view items) t u e))
    below u l (inr above) (inl same) = ap (passed_at (with_nth (map view items) t unpassed)) same ∙ passed_here (map view items) t
    below u l (inr above) (inr other) =
        not_true _ (λ e. false≢true (sym (idle_fresh old u (idle u above (omega (arith, l, above, other))))
        ∙ before.fewer u (passed_other (map view items) t u e)))

all_fresh : (seats : List Seat) → ((u : ℕ) → passed_at seats u ≡ false) → map unpassed seats ≡ seats
all_fresh [] none = refl
all_fresh (x ∷ xs) none =
    ap (λ ys. unpassed x ∷ ys) (all_fresh xs (λ u. none (suc u))) ∙ ap (λ b. record x { passed = b } ∷ xs) (sym (none 0))

-- a walk that has come beyond the last thread that may have passed, or beyond all
pub clearing_done : (first last : ℕ) (old now : List Seat) (t : ℕ) → PassedWithin first last old → Clearing old now t
    → (last < t) ⊎ (length now ≤ t) → now ≡ map unpassed old
clearing_done first last old now t passed before over = sym (all_fresh now fresh) ∙ before.same
  where
    beyond : (u : ℕ) → t ≤ u → (last < t) ⊎ (length now ≤ t) → passed_at now u ≡ true → ⊥
    beyond u l (inl past) e = let there = passed u (before.fewer u e) in absurd (omega (arith, l, past, there.1))
    beyond u l (inr all) e = let there = passed_within now u e in absurd (omega (arith, l, all, there))
      where
        passed_within : (seats : List Seat) (u : ℕ) → passed_at seats u ≡ true → u < length seats
        passed_within [] u e = absurd (false≢true e)
        passed_within (x ∷ xs) zero e = omega arith
        passed_within (x ∷ xs) (suc u) e = let l = passed_within xs u e in omega (arith, l)

    fresh : (u : ℕ) → passed_at now u ≡ false
    fresh u = elim (cases_lt u t) [ inl l ↦ before.below u l | inr l ↦ not_true (passed_at now u) (beyond u l over) ]

-- a number of threads is none too many after an issue
pub grown_within : {X : Type 0} (view : X → Seat) (op : SyncOp) (n : ℕ) (old after : List X)
    → map view after ≡ seats_after op (map view old) → n ≤ length old → n ≤ length after
grown_within view op n old after after_is l =
    let grown = grows op (map view old) in
    let one = length-map old view in
    let two = length-map after view in
    let three = ap length after_is in
    omega (arith, grown, one, two, three, l)

pub map_constant : {A B : Type 0} (xs : List A) (y : B) (t : ℕ) (n : B) → slice_get (map (λ x. y) xs) t ≡ Some n → n ≡ y
map_constant [] y t n e = absurd (cc e)
map_constant (x ∷ xs) y zero n e = sym (cc e)
map_constant (x ∷ xs) y (suc t) n e = map_constant xs y t n e

-- at most so many wait at one barrier
pub waits_most : (b : ℕ) (seats : List Seat) (most : ℕ) → count_by waits seats ≤ most → count_by (waits_at b) seats ≤ most
waits_most b seats most l = let count = released_count b seats in omega (arith, count, l)

-- a thread's subthread begins
pub begun_as : {X : Type 0} (view : X → Seat) (onward : X → ℕ) (items : List X) (t : ℕ) (x y : X) (position first last most : ℕ)
    → slice_get items t ≡ Some x → is_known_end (option_and_then (λ s. s.next) (slice_get (map view items) t)) ≡ false
    → onward y ≡ onward x → view y ≡ begun position (view x)
    → Walks (map onward items) first last most (map view items)
    → Walks (map onward (set items t y)) first last most (map view (set items t y))
begun_as view onward items t x y position first last most at live same is walks =
    put_live view onward items t x y first last most first last most at live same (λ u a b. (a, b))
    (λ e. absurd (false≢true (sym (ap (λ s. s.passed) is) ∙ e)))
    (λ n a b. let none : one (waits (view y)) ≡ 0 = ap (λ s. one (waits s)) is in omega (arith, a, none)) walks

-- an idle thread waits at no barrier
idle_waits : (b : ℕ) (seat : Seat) → is_idle seat ≡ true → waits_at b seat ≡ false
idle_waits b seat e = go seat.next (is_waiting seat.stand) (ended seat e)
  where
    ends : (op : SyncOp) → is_end op ≡ true → (line : ℕ) → meets b (Some (record { sync = op; line = line })) ≡ false
    ends sync.End e line = refl
    ends sync.Start e line = absurd (false≢true e)
    ends (sync.Lock l) e line = absurd (false≢true e)
    ends (sync.Unlock l) e line = absurd (false≢true e)
    ends (sync.Fork task arguments) e line = absurd (false≢true e)
    ends (sync.Join h) e line = absurd (false≢true e)
    ends (sync.Barrier c) e line = absurd (false≢true e)
    ends (sync.Settle register control) e line = absurd (false≢true e)
    ends sync.BadIndex e line = absurd (false≢true e)
    ends sync.Spent e line = absurd (false≢true e)

    go : (o : Option Next) (w : Bool) → is_known_end o ≡ true → cond w (meets b o) false ≡ false
    go o false e = refl
    go None true e = refl
    go (Some next) true e = ends next.sync e next.line

idle_tail : (t n : ℕ) (x : Seat) (xs : List Seat) → IdleBetween (suc t) n (x ∷ xs) → IdleBetween t (n - 1) xs
idle_tail t n x xs idle u l m = idle (suc u) (omega (arith, l)) (omega (arith, m))

none_waits : (b n : ℕ) (seats : List Seat) → IdleBetween 0 n seats → count_by (waits_at b) (take n seats) ≡ 0
none_waits b zero seats idle = refl
none_waits b (suc n) [] idle = refl
none_waits b (suc n) (x ∷ xs) idle =
    let first = count-cons (waits_at b) x (take n xs) in
    let none : one (waits_at b x) ≡ 0 = ap one (idle_waits b x (idle 0 (omega arith) (omega arith))) in
    let rest = none_waits b n xs (λ u l m. idle (suc u) (omega arith) (omega (arith, m))) in
    omega (arith, first, none, rest)

-- a walk counts those that wait at a barrier
pub counted : (b t n : ℕ) (seats : List Seat) (seat : Seat) → slice_get seats t ≡ Some seat → IdleBetween t n seats
    → count_by (waits_at b) (take (max (t + 1) n) seats) ≡ count_by (waits_at b) (take t seats) + one (waits_at b seat)
counted b t n [] seat at idle = absurd (cc at)
counted b zero n (x ∷ xs) seat at idle =
    let same : x ≡ seat = cc at in
    let e : max (0 + 1) n ≡ suc (n - 1) = omega arith in
    let first = count-cons (waits_at b) x (take (n - 1) xs) in
    let none = none_waits b (n - 1) xs (λ u l m. idle (suc u) (omega arith) (omega (arith, m))) in
    let here : one (waits_at b x) ≡ one (waits_at b seat) = ap (λ s. one (waits_at b s)) same in
    ap (λ k. count_by (waits_at b) (take k (x ∷ xs))) e ∙ omega (arith, first, none, here)
counted b (suc t) n (x ∷ xs) seat at idle =
    let e : max (suc t + 1) n ≡ suc (max (t + 1) (n - 1)) = omega arith in
    let first = count-cons (waits_at b) x (take (max (t + 1) (n - 1)) xs) in
    let old = count-cons (waits_at b) x (take t xs) in
    let rest = counted b t (n - 1) xs seat at (idle_tail t n x xs idle) in
    ap (λ k. count_by (waits_at b) (take k (x ∷ xs))) e ∙ omega (arith, first, old, rest)

idle_released_same : (b : ℕ) (seat : Seat) → is_idle seat ≡ true → released_at b seat ≡ seat
idle_released_same b seat e = released-other b seat (idle_waits b seat e)

releases_none : (b n : ℕ) (seats : List Seat) → IdleBetween 0 n seats → first_mapped (released_at b) n seats ≡ seats
releases_none b zero seats idle = refl
releases_none b (suc n) [] idle = refl
releases_none b (suc n) (x ∷ xs) idle =
    ap (λ y. y ∷ first_mapped (released_at b) n xs) (idle_released_same b x (idle 0 (omega arith) (omega arith)))
    ∙ ap (λ ys. x ∷ ys) (releases_none b n xs (λ u l m. idle (suc u) (omega arith) (omega (arith, m))))

-- a walk releases those that wait at a barrier
pub releases : (b t n : ℕ) (seats : List Seat) → IdleBetween t n seats
    → first_mapped (released_at b) (t + 1) seats ≡ first_mapped (released_at b) (max (t + 1) n) seats
releases b t n [] idle =
    let e : max (t + 1) n ≡ suc (max t (n - 1)) = omega arith in
    let f : t + 1 ≡ suc t = omega arith in
    ap (λ k. first_mapped (released_at b) k []) f ∙ sym (ap (λ k. first_mapped (released_at b) k []) e)
releases b zero n (x ∷ xs) idle =
    let e : max (0 + 1) n ≡ suc (n - 1) = omega arith in
    sym (ap (λ k. first_mapped (released_at b) k (x ∷ xs)) e
    ∙ ap (λ ys. released_at b x ∷ ys) (releases_none b (n - 1) xs (λ u l m. idle (suc u) (omega arith) (omega (arith, m)))))
releases b (suc t) n (x ∷ xs) idle =
    let e : max (suc t + 1) n ≡ suc (max (t + 1) (n - 1)) = omega arith in
    let f : suc t + 1 ≡ suc (t + 1) = omega arith in
    ap (λ k. first_mapped (released_at b) k (x ∷ xs)) f ∙ ap (λ ys. released_at b x ∷ ys) (releases b t (n - 1) xs (idle_tail t n x xs idle))
    ∙ sym (ap (λ k. first_mapped (released_at b) k (x ∷ xs)) e)

-- a walk that has come to the end has released all that wait
pub releases_all : (b t : ℕ) (seats : List Seat) → length seats ≤ t → first_mapped (released_at b) t seats ≡ map (released_at b) seats
releases_all b zero [] l = refl
releases_all b zero (x ∷ xs) l = absurd (omega (arith, l))
releases_all b (suc t) [] l = refl
releases_all b (suc t) (x ∷ xs) l = ap (λ ys. released_at b x ∷ ys) (releases_all b t xs (omega (arith, l)))

-- and has counted them
pub counted_all : (b t : ℕ) (seats : List Seat) → length seats ≤ t → count_by (waits_at b) (take t seats) ≡ count_by (waits_at b) seats
counted_all b zero [] l = refl
counted_all b zero (x ∷ xs) l = absurd (omega (arith, l))
counted_all b (suc t) [] l = refl
counted_all b (suc t) (x ∷ xs) l =
    let first = count-cons (waits_at b) x (take t xs) in
    let all = count-cons (waits_at b) x xs in
    let rest = counted_all b t xs (omega (arith, l)) in
    omega (arith, first, all, rest)

-- what is read twice is the same
pub same_read : {X : Type 0} (xs : List X) (t : ℕ) (x y : X) → slice_get xs t ≡ Some x → slice_get xs t ≡ Some y → x ≡ y
same_read xs t x y one two = cc (sym one ∙ two)
