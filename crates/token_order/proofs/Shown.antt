-- Tables in which threads that wait and are in a span have passed too.
use Rattle.std.proofs.Common.{◌≡◌, ℕ, zero, suc, ◌+◌, Bool, true, false, not, ◌&&◌, ◌||◌, cond, List, [], ◌∷◌, length, map, count_by, nat_lt, nat_le, unwrap_or, option_map, option_and_then, Option, Some, None, is_none, is_some, refl, sym, ap, ◌∙◌, arith}
use Rattle.std.specs.Prelude.{slice_get, pos, negsuc}
use Rattle.std.proofs.lemmas.Bool.{false≢true}
use Rattle.task_ast.specs.declared.sync.SyncOp.{SyncOp}
use Rattle.task_ast.specs.declared.sync.SyncOp.TheVariants as sync
use Rattle.task_ast.specs.declared.sync.Next.{Next}
use Rattle.task_ast.specs.Looking.{look_with}
use Rattle.task_ast.specs.Table.{Seat, Table, next_of, last_in, unpassed, learning, with_seat, waits_at, is_known_end}
use Rattle.task_ast.specs.Turn.{Look, To, Unknown, NoThread, look_at, look, passing, issuing, arrived, stand_of, has_passed}
use Rattle.task_ast.specs.laws.Threads.{tries, ahead}
use Rattle.task_ast.specs.meaning.Repeat.{More}
use Rattle.task_ast.specs.meaning.Table.{Stand, Away, Waits, Released, is_waiting, ring, with_nth}
use Rattle.task_ast.proofs.Counting.{count-cons}
use Rattle.token_order.specs.declared.spans.Span.{Span}
use Rattle.token_order.specs.Spans.{covers, shown_seat, shown_by, shown, no_span}
use Rattle.token_order.specs.Turned.{goes_on, found_goes_on, is_let, unknown_of, needed_at}
use Rattle.token_order.specs.View.{awaited}

-- ---- the seats

pub shown-at : (over : ℕ → Bool) (seats : List Seat) (t : ℕ) (seat : Seat) → slice_get seats t ≡ Some seat
    → slice_get (shown_by over seats) t ≡ Some (shown_seat (over t) seat)
shown-at over [] t seat at = absurd (cc at)
shown-at over (s ∷ ss) zero seat at = ap Some (ap (shown_seat (over 0)) (cc at))
shown-at over (s ∷ ss) (suc t) seat at = shown-at (λ u. over (suc u)) ss t seat at

pub gone-shown : (over : ℕ → Bool) (seats : List Seat) (t : ℕ) → slice_get seats t ≡ None → slice_get (shown_by over seats) t ≡ None
gone-shown over [] t at = at
gone-shown over (s ∷ ss) zero at = absurd (cc at)
gone-shown over (s ∷ ss) (suc t) at = gone-shown (λ u. over (suc u)) ss t at

-- what does not see whether a thread has passed
pub shown-kept : {Y : Type 0} (h : Option Seat → Y) → ((b : Bool) (s : Seat) → h (Some (shown_seat b s)) ≡ h (Some s)) → (over : ℕ → Bool)
    (seats : List Seat) (t : ℕ) → h (slice_get (shown_by over seats) t) ≡ h (slice_get seats t)
shown-kept h same over [] t = refl
shown-kept h same over (s ∷ ss) zero = same (over 0) s
shown-kept h same over (s ∷ ss) (suc t) = shown-kept h same (λ u. over (suc u)) ss t

pub length_shown : (over : ℕ → Bool) (seats : List Seat) → length (shown_by over seats) ≡ length seats
length_shown over [] = refl
length_shown over (s ∷ ss) = ap suc (length_shown (λ u. over (suc u)) ss)

pub unpassed-shown : (over : ℕ → Bool) (seats : List Seat) → map unpassed (shown_by over seats) ≡ map unpassed seats
unpassed-shown over [] = refl
unpassed-shown over (s ∷ ss) = ap (λ rest. unpassed s ∷ rest) (unpassed-shown (λ u. over (suc u)) ss)

count-shown : (b : ℕ) (over : ℕ → Bool) (seats : List Seat) → count_by (waits_at b) (shown_by over seats) ≡ count_by (waits_at b) seats
count-shown b over [] = refl
count-shown b over (s ∷ ss) =
    rw (
      count-cons (waits_at b) (shown_seat (over 0) s) (shown_by (λ u. over (suc u)) ss),
      count-cons (waits_at b) s ss,
      count-shown b (λ u. over (suc u)) ss,
    ) refl

-- the seats, where others are covered of which the seats do not tell
pub shown-same : (over other : ℕ → Bool) (seats : List Seat)
    → ((t : ℕ) (seat : Seat) → slice_get seats t ≡ Some seat → shown_seat (over t) seat ≡ shown_seat (other t) seat)
    → shown_by over seats ≡ shown_by other seats
shown-same over other [] same = refl
shown-same over other (s ∷ ss) same =
    ap (λ x. x ∷ shown_by (λ u. over (suc u)) ss) (same 0 s refl)
    ∙ ap (λ xs. shown_seat (other 0) s ∷ xs)
    (shown-same (λ u. over (suc u)) (λ u. other (suc u)) ss (λ t seat at. same (suc t) seat at))

-- where none is covered the seats are shown as they are
pub shown-none : (over : ℕ → Bool) (seats : List Seat) → ((t : ℕ) → over t ≡ false) → shown_by over seats ≡ seats
shown-none over [] none = refl
shown-none over (s ∷ ss) none =
    ap (λ x. x ∷ shown_by (λ u. over (suc u)) ss) (plain s (over 0) (none 0))
    ∙ ap (λ xs. s ∷ xs) (shown-none (λ u. over (suc u)) ss (λ t. none (suc t)))
  where
    or_false : (b : Bool) → b || false ≡ b
    or_false true = refl
    or_false false = refl

    plain : (s : Seat) (b : Bool) → b ≡ false → shown_seat b s ≡ s
    plain s b e = rw e (ap (λ p. record s { passed = p }) (or_false s.passed))

-- one thread passes
pub passes-shown : (over : ℕ → Bool) (seats : List Seat) (t : ℕ)
    → with_nth (shown_by over seats) t (λ s. record s { passed = true }) ≡ shown_by over (with_nth seats t (λ s. record s { passed = true }))
passes-shown over [] t = refl
passes-shown over (s ∷ ss) zero = refl
passes-shown over (s ∷ ss) (suc t) = ap (λ rest. shown_seat (over 0) s ∷ rest) (passes-shown (λ u. over (suc u)) ss t)

learns-shown : (over : ℕ → Bool) (seats : List Seat) (t : ℕ) (next : Next)
    → shown_by over (with_nth seats t (λ s. record s { next = Some next })) ≡ with_nth (shown_by over seats) t (λ s. record s { next = Some next })
learns-shown over [] t next = refl
learns-shown over (s ∷ ss) zero next = refl
learns-shown over (s ∷ ss) (suc t) next = ap (λ rest. shown_seat (over 0) s ∷ rest) (learns-shown (λ u. over (suc u)) ss t next)

-- one that waits passes, and is covered then
pub marks-shown : (over other : ℕ → Bool) (seats : List Seat) (t : ℕ) (seat : Seat) → slice_get seats t ≡ Some seat
    → is_waiting seat.stand ≡ true → other t ≡ true → ((u : ℕ) → (u ≡ t → ⊥) → other u ≡ over u)
    → with_nth (shown_by over seats) t (λ s. record s { passed = true }) ≡ shown_by other seats
marks-shown over other [] t seat at waits here same = absurd (cc at)
marks-shown over other (s ∷ ss) zero seat at waits here same =
    let e : s ≡ seat = cc at in
    let marked : record s { passed = true } ≡ shown_seat (other 0) s =
    ap (λ p. record s { passed = p }) (sym (or_true s.passed) ∙ ap (λ w. s.passed || (true && w)) (sym waits ∙ ap (λ x. is_waiting x.stand) (sym e))
    ∙ ap (λ b. s.passed || (b && is_waiting s.stand)) (sym here)) in
    ap (λ x. x ∷ shown_by (λ u. over (suc u)) ss) marked
    ∙ ap (λ xs. shown_seat (other 0) s ∷ xs)
    (shown-same (λ u. over (suc u)) (λ u. other (suc u)) ss
    (λ u x there. ap (λ b. shown_seat b x) (sym (same (suc u) (λ z. absurd (cc z))))))
  where
    or_true : (b : Bool) → b || true ≡ true
    or_true true = refl
    or_true false = refl
marks-shown over other (s ∷ ss) (suc t) seat at waits here same =
    ap (λ x. x ∷ with_nth (shown_by (λ u. over (suc u)) ss) t (λ s. record s { passed = true }))
    (ap (λ b. shown_seat b s) (sym (same 0 (λ z. absurd (cc z)))))
    ∙ ap (λ xs. shown_seat (other 0) s ∷ xs)
    (marks-shown (λ u. over (suc u)) (λ u. other (suc u)) ss t seat at waits here
    (λ u ne. same (suc u) (λ z. ne (suc_same z))))
  where
    suc_same : {a b : ℕ} → suc a ≡ suc b → a ≡ b
    suc_same {a} {b} e = omega (arith, e)

-- ---- the table

pub none_covered : (t : ℕ) → covers no_span t ≡ false
none_covered t = go (nat_le 0 t) (nat_lt t 0) (lt_zero t)
  where
    lt_zero : (t : ℕ) → nat_lt t 0 ≡ false
    lt_zero t = Rattle.std.proofs.lemmas.Bool.le-ltb t 0 (omega arith)

    go : (a b : Bool) → b ≡ false → (a && b) || b ≡ false
    go true true e = e
    go true false e = refl
    go false b e = e

pub none-shown : (table : Table) → shown no_span table ≡ table
none-shown table = ap (λ ss. record table { seats = ss }) (shown-none (covers no_span) table.seats none_covered)

pub next_shown : (span : Span) (table : Table) (t : ℕ) → next_of (shown span table) t ≡ next_of table t
next_shown span table t = shown-kept (option_and_then (λ s. s.next)) (λ b s. refl) (covers span) table.seats t

pub last-shown : (span : Span) (table : Table) (t : ℕ) → last_in (shown span table) t ≡ last_in table t
last-shown span table t = shown-kept (option_and_then (λ s. s.last)) (λ b s. refl) (covers span) table.seats t

pub stand-shown : (span : Span) (table : Table) (t : ℕ) → stand_of (shown span table) t ≡ stand_of table t
stand-shown span table t = shown-kept (λ o. unwrap_or (option_map (λ s. s.stand) o) Away) (λ b s. refl) (covers span) table.seats t

pub awaited_shown : (span : Span) (table : Table) (t : ℕ) → awaited (shown span table) t ≡ awaited table t
awaited_shown span table t =
    ap (λ o. cond (is_none o) (last_in (shown span table) t) None) (next_shown span table t)
    ∙ ap (λ l. cond (is_none (next_of table t)) l None) (last-shown span table t)

pub look-shown : (span : Span) (table : Table) (ts : List ℕ) → look (shown span table) ts ≡ look table ts
look-shown span table [] = refl
look-shown span table (t ∷ ts) =
    ap (λ o. look_at t o (look (shown span table) ts)) (next_shown span table t) ∙ ap (look_at t (next_of table t)) (look-shown span table ts)

pub ring-shown : (span : Span) (table : Table)
    → look (shown span table) (ring table.token (length (shown span table).seats)) ≡ look table (ring table.token (length table.seats))
ring-shown span table =
    ap (λ n. look (shown span table) (ring table.token n)) (length_shown (covers span) table.seats)
    ∙ look-shown span table (ring table.token (length table.seats))

goes_on-shown : (b : ℕ) (s : Stand) (span : Span) (table : Table) → goes_on b s (shown span table) ≡ goes_on b s table
goes_on-shown b Released span table = refl
goes_on-shown b Waits span table = refl
goes_on-shown b Away span table =
    ap (λ n. not (nat_lt (n + 1) (unwrap_or (slice_get table.barriers b) 0))) (count-shown b (covers span) table.seats)

found-shown : (b : ℕ) (l : Look) (span : Span) (table : Table) → found_goes_on b l (shown span table) ≡ found_goes_on b l table
found-shown b (To t next) span table =
    ap (λ s. goes_on b s (shown span table)) (stand-shown span table t) ∙ goes_on-shown b (stand_of table t) span table
found-shown b (Unknown t) span table =
    ap (λ s. goes_on b s (shown span table)) (stand-shown span table t) ∙ goes_on-shown b (stand_of table t) span table
found-shown b NoThread span table = refl

pub let_shown : (span : Span) (table : Table) (op : SyncOp) → is_let (shown span table) op ≡ is_let table op
let_shown span table (sync.Lock l) = refl
let_shown span table (sync.Join (pos h)) = ap is_known_end (next_shown span table h)
let_shown span table (sync.Join (negsuc h)) = refl
let_shown span table (sync.Barrier b) =
    ap (λ l. found_goes_on b l (shown span table)) (ring-shown span table)
    ∙ found-shown b (look table (ring table.token (length table.seats))) span table
let_shown span table sync.Start = refl
let_shown span table (sync.Unlock l) = refl
let_shown span table (sync.Fork task arguments) = refl
let_shown span table (sync.Settle register control) = refl
let_shown span table sync.End = refl
let_shown span table sync.BadIndex = refl
let_shown span table sync.Spent = refl

pub passed-shown : (span : Span) (table : Table) (t : ℕ) (seat : Seat) → slice_get table.seats t ≡ Some seat
    → has_passed (shown span table) t ≡ seat.passed || (covers span t && is_waiting seat.stand)
passed-shown span table t seat at = ap (λ o. unwrap_or (option_map (λ s. s.passed) o) false) (shown-at (covers span) table.seats t seat at)

-- ---- a change that forgets passes

begun-shown : (over : ℕ → Bool) (seats : List Seat) (t : ℕ) (y : Seat)
    → map unpassed (with_nth (shown_by over seats) t (λ s. y)) ≡ map unpassed (with_nth seats t (λ s. y))
begun-shown over [] t y = refl
begun-shown over (s ∷ ss) zero y = ap (λ rest. unpassed y ∷ rest) (unpassed-shown (λ u. over (suc u)) ss)
begun-shown over (s ∷ ss) (suc t) y = ap (λ rest. unpassed s ∷ rest) (begun-shown (λ u. over (suc u)) ss t y)

pub issuing-shown : (span : Span) (table : Table) (t : ℕ) (next : Next) → issuing (shown span table) t next ≡ issuing table t next
issuing-shown span table t next =
    rw (
      length_shown (covers span) table.seats,
      begun-shown (covers span) table.seats t (record { next = None; last = Some table.issued; passed = false; stand = Away }),
    ) refl

pub arrived-shown : (span : Span) (table : Table) (t : ℕ) → arrived (shown span table) t ≡ arrived table t
arrived-shown span table t =
    ap (λ ss. with_seat (record table { seats = ss }) t (λ s. record s { stand = Waits })) (unpassed-shown (covers span) table.seats)

pub passing-shown : (span : Span) (table : Table) (t : ℕ)
    → passing (shown span table) t ≡ More (shown span (record (with_seat table t (λ s. record s { passed = true })) { token = Some t }))
passing-shown span table t =
    ap (λ ss. More (record table { seats = ss; token = Some t })) (passes-shown (covers span) table.seats t)

pub and_true : (b : Bool) → b && true ≡ b
and_true true = refl
and_true false = refl

pub and_false : (b : Bool) → b && false ≡ false
and_false true = refl
and_false false = refl

pub learn-shown : (span later : Span) (table after : Table) (t : ℕ) (next : Next) → later ≡ span → after ≡ learning table t next
    → shown later after ≡ learning (shown span table) t next
learn-shown span later table after t next same is =
    ap (λ x. shown x after) same ∙ ap (shown span) is ∙ ap (λ ss. record table { seats = ss }) (learns-shown (covers span) table.seats t next)

pub start_shown : (span : Span) (table start : Table) → span ≡ no_span → table ≡ start → shown span table ≡ start
start_shown span table start none is = ap (λ x. shown x table) none ∙ none-shown table ∙ is

-- the thread that is tried next
pub ahead_at : (span : Span) (table : Table) (t : ℕ) (o : Option Next) (b : Bool)
    → look table (ring table.token (length table.seats)) ≡ look_with t o → has_passed (shown span table) t ≡ b
    → option_map (λ (x : ℕ × Next). x.0) (ahead (shown span table)) ≡ cond (is_some o) (cond b None (Some t)) None
ahead_at span table t o b looks passed =
    ap (λ l. option_map (λ (x : ℕ × Next). x.0) (tries l (shown span table))) (ring-shown span table ∙ looks) ∙ go o
  where
    either : (b : Bool) (next : Next) → option_map (λ (x : ℕ × Next). x.0) (cond b None (Some (t, next))) ≡ cond b None (Some t)
    either true next = refl
    either false next = refl

    go : (o : Option Next) → option_map (λ (x : ℕ × Next). x.0) (tries (look_with t o) (shown span table))
        ≡ cond (is_some o) (cond b None (Some t)) None
    go None = refl
    go (Some next) =
        ap (λ p. option_map (λ (x : ℕ × Next). x.0) (cond p None (Some (t, next)))) passed ∙ either b next

pub none_ahead : (span : Span) (table : Table) → look table (ring table.token (length table.seats)) ≡ NoThread
    → option_map (λ (x : ℕ × Next). x.0) (ahead (shown span table)) ≡ None
none_ahead span table looks =
    ap (λ l. option_map (λ (x : ℕ × Next). x.0) (tries l (shown span table))) (ring-shown span table ∙ looks)

-- the thread whose next synchronisation isn't known
pub needed_shown : (span : Span) (table : Table) → needed_at (shown span table) ≡ needed_at table
needed_shown span table = ap unknown_of (ring-shown span table)
