-- Turns in which threads that are stopped pass, one after another, come to one step over all of them.
use Rattle.std.proofs.Common.{◌≡◌, ◌⊎◌, inl, inr, ℕ, zero, suc, ◌+◌, ◌-◌, ◌<◌, ◌≤◌, Bool, true, false, ◌&&◌, ◌||◌, cond, List, [], ◌∷◌, ◌++◌, length, nat_lt, nat_le, unwrap_or, option_map, option_and_then, Option, Some, None, is_some, refl, sym, ap, ◌∙◌, subst, arith}
use Rattle.std.specs.Prelude.{slice_get}
use Rattle.std.proofs.lemmas.Bool.{false≢true, cases_lt, cases_eq, lt-ltb, le-ltb, le-leb, lt-leb}
use Rattle.std.proofs.lemmas.List.{append-nil}
use Rattle.std.proofs.lemmas.Option.{slice_get_within}
use Rattle.task_ast.specs.declared.sync.SyncOp.{SyncOp}
use Rattle.task_ast.specs.declared.sync.SyncOp.TheVariants as sync
use Rattle.task_ast.specs.declared.sync.Next.{Next}
use Rattle.task_ast.specs.Looking.{start_of}
use Rattle.task_ast.specs.Table.{Seat, Table, next_of, is_known_end}
use Rattle.task_ast.specs.Turn.{Turn, To, NoThread, deadlocked, look_at, look, stand_of, has_passed, tried, at_look, turn}
use Rattle.task_ast.specs.meaning.Repeat.{Again, More}
use Rattle.task_ast.specs.meaning.Table.{Stand, Away, Waits, Released, is_waiting, is_end, ring, numbers}
use Rattle.task_ast.proofs.Looks.{numbers-first, skipped, or_look, look-append}
use Rattle.ended_seats.specs.Idle.{passed_at, PassedWithin}
use Rattle.token_order.specs.declared.spans.Span.{Span}
use Rattle.token_order.specs.Spans.{Passes, no_pass, one_pass, is_barrier, stands_at_barrier, is_stopped, stopped_at, waiting_at, covers, shown_seat, shown_by, shown, ComesTo, Reaches}
use Rattle.token_order.proofs.Barriers.{still_waits}
use Rattle.token_order.proofs.Shown.{shown-at, shown-kept, shown-same, marks-shown, length_shown}

-- ---- where the token looks

ring-parts : (token : Option ℕ) (n : ℕ) → ring token n ≡ numbers (start_of token) (n - start_of token) ++ numbers 0 (start_of token)
ring-parts None n = let e : n - 0 ≡ n = omega arith in rw e (sym (append-nil (numbers 0 n)))
ring-parts (Some t) n = refl

pub comes-first : (table : Table) (start n : ℕ) → start ≡ start_of table.token → n ≡ length table.seats → ComesTo table start n
comes-first table start n s all = rw (s, all) (numbers 0 (start_of table.token), ap (look table) (ring-parts table.token (length table.seats)))

pub comes-second : (table : Table) (start n : ℕ) → start ≡ start_of table.token → n ≡ length table.seats
    → look table (numbers start (n - start)) ≡ NoThread → ComesTo table 0 start
comes-second table start n s all nobody =
    let first = comes-first table start n s all in
    let z : start - 0 ≡ start = omega arith in (
      [],
      ap (look table) (ring-parts table.token (length table.seats))
          ∙ look-append table (numbers (start_of table.token) (length table.seats - start_of table.token)) (numbers 0 (start_of table.token))
          ∙ ap (λ l. or_look l (look table (numbers 0 (start_of table.token))))
          (subst (λ k. look table (numbers k (length table.seats - k)) ≡ NoThread) s
          (subst (λ k. look table (numbers start (k - start)) ≡ NoThread) all nobody))
          ∙ ap (λ k. look table (numbers 0 k)) (sym s ∙ sym z)
          ∙ ap (look table) (sym (append-nil (numbers 0 (start - 0)))),
    )

-- ---- one step for many

or_true : (b : Bool) → b || true ≡ true
or_true true = refl
or_true false = refl

or_false : (b : Bool) → b || false ≡ b
or_false true = refl
or_false false = refl

and_false : (b : Bool) → b && false ≡ false
and_false true = refl
and_false false = refl

waits_is : (s : Stand) → is_waiting s ≡ true → s ≡ Waits
waits_is Waits e = refl
waits_is Away e = absurd (false≢true e)
waits_is Released e = absurd (false≢true e)

-- a thread that stands at a barrier
record StandsAt (o : Option Next) : Type 0 where
  pub next : Next
  pub barrier : ℕ
  pub is : o ≡ Some next
  pub meets : next.sync ≡ sync.Barrier barrier

stands_there : (o : Option Next) → stands_at_barrier o ≡ true → StandsAt o
stands_there None e = absurd (false≢true e)
stands_there (Some next) e = go next.sync refl e
  where
    go : (op : SyncOp) → next.sync ≡ op → is_barrier op ≡ true → StandsAt (Some next)
    go (sync.Barrier b) is e = record { next = next; barrier = b; is = refl; meets = is }
    go sync.Start is e = absurd (false≢true e)
    go (sync.Lock l) is e = absurd (false≢true e)
    go (sync.Unlock l) is e = absurd (false≢true e)
    go (sync.Fork task arguments) is e = absurd (false≢true e)
    go (sync.Join h) is e = absurd (false≢true e)
    go (sync.Settle register control) is e = absurd (false≢true e)
    go sync.End is e = absurd (false≢true e)
    go sync.BadIndex is e = absurd (false≢true e)
    go sync.Spent is e = absurd (false≢true e)

record There (seats : List Seat) (t : ℕ) : Type 0 where
  pub seat : Seat
  pub at : slice_get seats t ≡ Some seat
  pub stopped : is_stopped seat ≡ true

is_there : (seats : List Seat) (t : ℕ) → stopped_at seats t ≡ true → There seats t
is_there seats t e = go (slice_get seats t) refl e
  where
    go : (o : Option Seat) → slice_get seats t ≡ o → unwrap_or (option_map is_stopped o) false ≡ true → There seats t
    go None at e = absurd (false≢true e)
    go (Some seat) at e = record { seat = seat; at = at; stopped = e }

pub waits_within : (seats : List Seat) (t : ℕ) → waiting_at seats t ≡ true → t < length seats
waits_within seats t e = go (slice_get seats t) refl e
  where
    go : (o : Option Seat) → slice_get seats t ≡ o → unwrap_or (option_map (λ s. is_waiting s.stand) o) false ≡ true → t < length seats
    go None at e = absurd (false≢true e)
    go (Some seat) at e = slice_get_within seats t seat at

module _ (table : Table) (span : Span) (from past : ℕ) (within : past ≤ length table.seats)
    (stopped : (t : ℕ) → from ≤ t → t < past → stopped_at table.seats t ≡ true)
    (fresh : (t : ℕ) → from ≤ t → t < past → passed_at table.seats t ≡ false)
    (free : (t : ℕ) → from ≤ t → t < past → covers span t ≡ false) where
  abbrev n : ℕ
  n = length table.seats

  -- those in the span, and so many from the first on
  abbrev over : ℕ → ℕ → Bool
  over k t = covers span t || (nat_le from t && nat_lt t (from + k))

  abbrev at : ℕ → Option ℕ → Table
  at k token = record table { seats = shown_by (over k) table.seats; token = token }

  over-none : (t : ℕ) → over 0 t ≡ covers span t
  over-none t = elim (cases_lt t from) [
    | inl l ↦ ap (λ b. covers span t || (b && nat_lt t (from + 0))) (lt-leb from t l) ∙ or_false (covers span t)
    | inr l ↦ ap (λ b. covers span t || (nat_le from t && b)) (le-ltb t (from + 0) (omega arith))
        ∙ ap (λ b. covers span t || b) (and_false (nat_le from t)) ∙ or_false (covers span t)
  ]

  over-here : (k : ℕ) → over (suc k) (from + k) ≡ true
  over-here k =
      ap (λ b. covers span (from + k) || (b && nat_lt (from + k) (from + suc k))) (le-leb from (from + k) (omega arith))
      ∙ ap (λ b. covers span (from + k) || b) (lt-ltb (from + k) (from + suc k) (omega arith)) ∙ or_true (covers span (from + k))

  over-before : (k : ℕ) → covers span (from + k) ≡ false → over k (from + k) ≡ false
  over-before k e =
      ap (λ b. b || (nat_le from (from + k) && nat_lt (from + k) (from + k))) e
      ∙ ap (λ b. nat_le from (from + k) && b) (le-ltb (from + k) (from + k) (omega arith)) ∙ and_false (nat_le from (from + k))

  over-other : (k t : ℕ) → (t ≡ from + k → ⊥) → over (suc k) t ≡ over k t
  over-other k t ne = ap (λ b. covers span t || (nat_le from t && b)) (elim (cases_lt t (from + k)) [
    | inl l ↦ lt-ltb t (from + suc k) (omega arith) ∙ sym (lt-ltb t (from + k) l)
    | inr l ↦ le-ltb t (from + suc k) (omega (arith, l, ne)) ∙ sym (le-ltb t (from + k) l)
  ])

  next-at : (k : ℕ) (token : Option ℕ) (t : ℕ) → next_of (at k token) t ≡ next_of table t
  next-at k token t = shown-kept (option_and_then (λ s. s.next)) (λ b s. refl) (over k) table.seats t

  look-there : (k : ℕ) (token : Option ℕ) (ts : List ℕ) → look (at k token) ts ≡ look table ts
  look-there k token [] = refl
  look-there k token (t ∷ ts) =
      ap (λ o. look_at t o (look (at k token) ts)) (next-at k token t) ∙ ap (look_at t (next_of table t)) (look-there k token ts)

  -- the walk has come so far
  record Walked (k : ℕ) : Type 0 where
    pub token : Option ℕ
    pub passes : Passes (shown span table) (at k token)
    pub to : ℕ
    pub beyond : past ≤ to
    pub rest : List ℕ
    pub comes : look table (ring token n) ≡ look table (numbers (from + k) (to - (from + k)) ++ rest)
    pub last : 0 < k → waiting_at table.seats (from + k - 1) ≡ true → token ≡ Some (from + k - 1)

  walk-start : (to : ℕ) → past ≤ to → ComesTo table from to → Walked 0
  walk-start to beyond comes =
      let e : from + 0 ≡ from = omega arith in
      record {
        token = table.token;
        passes =
            subst (λ ss. Passes (shown span table) (record table { seats = ss }))
            (shown-same (covers span) (over 0) table.seats (λ t seat at. ap (λ b. shown_seat b seat) (sym (over-none t)))) no_pass;
        to = to;
        beyond = beyond;
        rest = comes.0;
        comes = subst (λ a. look table (ring table.token n) ≡ look table (numbers a (to - a) ++ comes.0)) (sym e) comes.1;
        last = λ l. absurd (omega (arith, l));
      }

  -- one that waits passes
  passes-one : (k : ℕ) (so : Walked k) (seat : Seat) → slice_get table.seats (from + k) ≡ Some seat → is_waiting seat.stand ≡ true
      → stands_at_barrier seat.next ≡ true → seat.passed ≡ false → covers span (from + k) ≡ false → from + k < past
      → turn (at k so.token) ≡ More (at (suc k) (Some (from + k)))
  passes-one k so seat there waits stands new uncovered less =
      let u : ℕ = from + k in
      let s = stands_there seat.next stands in
      let known : next_of table u ≡ Some s.next = ap (option_and_then (λ s. s.next)) there ∙ s.is in
      let live : is_end s.next.sync ≡ false = ap is_end s.meets in
      let first : numbers u (so.to - u) ≡ u ∷ numbers (suc u) (so.to - suc u) =
      numbers-first u so.to (let b = so.beyond in omega (arith, b, less)) in
      let seen : slice_get (shown_by (over k) table.seats) u ≡ Some (shown_seat (over k u) seat) = shown-at (over k) table.seats u seat there in
      let found : look (at k so.token) (ring so.token (length (shown_by (over k) table.seats))) ≡ To u s.next =
      ap (λ m. look (at k so.token) (ring so.token m)) (length_shown (over k) table.seats)
      ∙ look-there k so.token (ring so.token n) ∙ so.comes ∙ ap (λ ts. look table (ts ++ so.rest)) first
      ∙ ap (λ o. look_at u o (look table (numbers (suc u) (so.to - suc u) ++ so.rest))) known
      ∙ ap (λ b. cond b (look table (numbers (suc u) (so.to - suc u) ++ so.rest)) (To u s.next)) live in
      let passed : has_passed (at k so.token) u ≡ false =
      ap (λ o. unwrap_or (option_map (λ s. s.passed) o) false) seen
      ∙ ap (λ b. seat.passed || (b && is_waiting seat.stand)) (over-before k uncovered) ∙ or_false seat.passed ∙ new in
      let standing : stand_of (at k so.token) u ≡ Waits =
      ap (λ o. unwrap_or (option_map (λ s. s.stand) o) Away) seen ∙ waits_is seat.stand waits in
      ap (λ l. at_look l (at k so.token)) found
      ∙ ap (λ b. cond {A = Again Table Turn} b (deadlocked (look (at k so.token) (numbers 0 (length (shown_by (over k) table.seats)))))
      (tried s.next.sync (at k so.token) u s.next)) passed
      ∙ ap (λ op. tried op (at k so.token) u s.next) s.meets
      ∙ still_waits (at k so.token) u s.barrier s.next Waits standing refl refl
      ∙ ap (λ ss. More (record table { seats = ss; token = Some u }))
      (marks-shown (over k) (over (suc k)) table.seats u seat there waits (over-here k) (λ t ne. over-other k t ne))

  walk-one : (k : ℕ) → from + k < past → Walked k → Walked (suc k)
  walk-one k less so = go (is_there table.seats (from + k) (stopped (from + k) (omega arith) less))
    where
      next_one : from + suc k ≡ suc (from + k)
      next_one = omega arith

      before_one : from + suc k - 1 ≡ from + k
      before_one = omega arith

      waiting : (h : There table.seats (from + k)) → is_waiting h.seat.stand ≡ true → stands_at_barrier h.seat.next ≡ true → Walked (suc k)
      waiting h waits stands =
          let new : h.seat.passed ≡ false =
          sym (ap (λ o. unwrap_or (option_map (λ s. s.passed) o) false) h.at) ∙ fresh (from + k) (omega arith) less in
          record {
            token = Some (from + k);
            passes =
                one_pass so.passes (passes-one k so h.seat h.at waits stands new (free (from + k) (omega arith) less) less);
            to = n;
            beyond = within;
            rest = numbers 0 (suc (from + k));
            comes = ap (λ a. look table (numbers a (n - a) ++ numbers 0 (suc (from + k)))) (sym next_one);
            last = λ l w. ap Some (sym before_one);
          }

      ended : (h : There table.seats (from + k)) → is_waiting h.seat.stand ≡ false → is_known_end h.seat.next ≡ true → Walked (suc k)
      ended h waits ends =
          let first : numbers (from + k) (so.to - (from + k)) ≡ (from + k) ∷ numbers (suc (from + k)) (so.to - suc (from + k)) =
          numbers-first (from + k) so.to (let b = so.beyond in omega (arith, b, less)) in
          let known : is_known_end (next_of table (from + k)) ≡ true = ap (λ o. is_known_end (option_and_then (λ s. s.next) o)) h.at ∙ ends in
          record {
            token = so.token;
            passes =
                subst (λ ss. Passes (shown span table) (record table { seats = ss; token = so.token }))
                (shown-same (over k) (over (suc k)) table.seats (λ t seat at. same h waits t seat at (cases_eq t (from + k)))) so.passes;
            to = so.to;
            beyond = so.beyond;
            rest = so.rest;
            comes =
                so.comes ∙ ap (λ ts. look table (ts ++ so.rest)) first
                ∙ skipped (from + k) (next_of table (from + k)) _ known
                ∙ ap (λ a. look table (numbers a (so.to - a) ++ so.rest)) (sym next_one);
            last = λ l w. absurd (false≢true (sym waits ∙ ap (λ o. unwrap_or (option_map (λ s. is_waiting s.stand) o) false) (sym h.at)
                ∙ ap (waiting_at table.seats) (sym before_one) ∙ w));
          }
        where
          same : (h : There table.seats (from + k)) → is_waiting h.seat.stand ≡ false → (t : ℕ) (seat : Seat) → slice_get table.seats t ≡ Some seat
              → (t ≡ from + k) ⊎ (t ≡ from + k → ⊥) → shown_seat (over k t) seat ≡ shown_seat (over (suc k) t) seat
          same h waits t seat at (inr other) = ap (λ b. shown_seat b seat) (sym (over-other k t other))
          same h waits t seat at (inl here) =
              let is : seat ≡ h.seat = cc (sym at ∙ ap (slice_get table.seats) here ∙ h.at) in
              let none : is_waiting seat.stand ≡ false = ap (λ s. is_waiting s.stand) is ∙ waits in
              ap (λ b. record seat { passed = seat.passed || b })
              (ap (λ w. over k t && w) none ∙ and_false (over k t) ∙ sym (ap (λ w. over (suc k) t && w) none ∙ and_false (over (suc k) t)))

      go : There table.seats (from + k) → Walked (suc k)
      go h = by_stand (is_waiting h.seat.stand) refl h.stopped
        where
          by_stand : (w : Bool) → is_waiting h.seat.stand ≡ w → cond w (stands_at_barrier h.seat.next) (is_known_end h.seat.next) ≡ true
              → Walked (suc k)
          by_stand true waits e = waiting h waits e
          by_stand false waits e = ended h waits e

  walk : (k : ℕ) → from + k ≤ past → (to : ℕ) → past ≤ to → ComesTo table from to → Walked k
  walk zero l to beyond comes = walk-start to beyond comes
  walk (suc k) l to beyond comes = walk-one k (omega (arith, l)) (walk k (omega (arith, l)) to beyond comes)

  -- all of them pass
  pub passes-over : (to : ℕ) (after : Span) → from < past → past ≤ to → ComesTo table from to → waiting_at table.seats (past - 1) ≡ true
      → Reaches span from past after
      → Passes (shown span table) (shown after (record table { token = Some (past - 1) }))
  passes-over to after less beyond comes waits reaches =
      let k : ℕ = past - from in
      let all : from + k ≡ past = omega arith in
      let so = walk (past - from) (omega (arith, all)) to beyond comes in
      let last : so.token ≡ Some (past - 1) =
      so.last (omega (arith, less)) (ap (λ m. waiting_at table.seats (m - 1)) all ∙ waits) ∙ ap (λ m. Some (m - 1)) all in
      subst (λ (x : Table). Passes (shown span table) x)
      (ap (λ ss. record table { seats = ss; token = so.token })
      (shown-same (over (past - from)) (covers after) table.seats (λ t seat at. ap (λ b. shown_seat b seat) (reached t (cases_lt t from) (cases_lt t past))))
      ∙ ap (λ token. record table { seats = shown_by (covers after) table.seats; token = token }) last) so.passes
    where
      end_is : from + (past - from) ≡ past
      end_is = omega (arith, less)

      reached : (t : ℕ) → (t < from) ⊎ (from ≤ t) → (t < past) ⊎ (past ≤ t) → over (past - from) t ≡ covers after t
      reached t (inl low) c =
          ap (λ b. covers span t || (b && nat_lt t (from + (past - from)))) (lt-leb from t low) ∙ or_false (covers span t)
          ∙ sym (reaches.other t (inl low))
      reached t (inr high) (inl inside) =
          ap (λ b. covers span t || (b && nat_lt t (from + (past - from)))) (le-leb from t high)
          ∙ ap (λ m. covers span t || nat_lt t m) end_is ∙ ap (λ b. covers span t || b) (lt-ltb t past inside) ∙ or_true (covers span t)
          ∙ sym (reaches.inside t high inside).1
      reached t (inr high) (inr beyond) =
          ap (λ m. covers span t || (nat_le from t && nat_lt t m)) end_is
          ∙ ap (λ b. covers span t || (nat_le from t && b)) (le-ltb t past beyond)
          ∙ ap (λ b. covers span t || b) (and_false (nat_le from t)) ∙ or_false (covers span t) ∙ sym (reaches.other t (inr beyond))

-- none of a stretch has passed that those which may have do not meet
pub none-met : (first last from past : ℕ) (seats : List Seat) → PassedWithin first last seats → nat_lt first past && nat_le from last ≡ false
    → (t : ℕ) → from ≤ t → t < past → passed_at seats t ≡ false
none-met first last from past seats within apart t l m = go (passed_at seats t) refl
  where
    go : (b : Bool) → passed_at seats t ≡ b → passed_at seats t ≡ false
    go false e = e
    go true e =
        let there = within t e in
        absurd (false≢true (sym apart ∙ ap (λ b. b && nat_le from last) (lt-ltb first past (let h = there.0 in omega (arith, h, m)))
        ∙ le-leb from last (let h = there.1 in omega (arith, h, l))))

pub passes_both : {a b c : Table} → Passes a b → Passes b c → Passes a c
passes_both one no_pass = one
passes_both one (one_pass two e) = one_pass (passes_both one two) e

-- some of the stretch waits last, so it is there
pub past-within : (seats : List Seat) (from past : ℕ) → from < past → waiting_at seats (past - 1) ≡ true → past ≤ length seats
past-within seats from past l e = let h = waits_within seats (past - 1) e in omega (arith, h, l)

pub is_gone : {A : Type 0} (o : Option A) → is_some o ≡ false → o ≡ None
is_gone None e = refl
is_gone (Some x) e = absurd (false≢true (sym e))
