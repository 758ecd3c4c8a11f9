-- A thread table whose seats are a list that code keeps, each of them seen as a seat.
use Rattle.std.proofs.Common.{◌≡◌, ℕ, suc, ◌-◌, ◌+◌, ◌<◌, Bool, true, false, cond, nat_lt, List, ◌++◌, map, length, Option, Some, None, unwrap_or, refl, sym, ap, ◌∙◌, subst, arith, set, get_or}
use Rattle.std.specs.Prelude.{slice_get}
use Rattle.std.specs.Option.{option_map, option_and_then}
use Rattle.std.proofs.lemmas.List.{append-nil, length-map}
use Rattle.std.proofs.lemmas.Option.{slice_get-map, slice_get-get_or}
use Rattle.task_ast.specs.declared.sync.SyncOp.{SyncOp}
use Rattle.task_ast.specs.declared.sync.Next.{Next}
use Rattle.task_ast.specs.Looking.{start_of, look_with, look_of, begun}
use Rattle.task_ast.specs.Table.{is_known_end, has_ended, Seat, Table, next_of, unpassed, waits_at}
use Rattle.task_ast.specs.meaning.Repeat.{Done}
use Rattle.task_ast.specs.meaning.Table.{Away, Waits, Released, numbers, ring, with_nth}
use Rattle.task_ast.specs.meaning.Turn.{owners_after, child_of}
use Rattle.task_ast.specs.Turn.{Look, NoThread, Issue, look, turn, tried, issuing, has_passed, last_of, stand_of, arrived, released_at, seats_after}
use Rattle.task_ast.proofs.ChangedSeats.{map-replaced, first_mapped, first_mapped-more}
use Rattle.task_ast.proofs.Looks.{numbers-first, skipped, or_look, look-append}
use Rattle.task_ast.proofs.Rounds.{keeps_nth, keeps_map}

-- the seat that a member is seen as
pub seen-at : {X : Type 0} (view : X → Seat) (xs : List X) (t : ℕ) (x : X) → slice_get xs t ≡ Some x
    → slice_get (map view xs) t ≡ Some (view x)
seen-at view xs t x at = slice_get-map view xs t ∙ ap (option_map view) at

-- a loop over members changes the next one
pub first_mapped-next : {A B : Type 0} (v : A → B) (f : B → B) (whole xs : List A) (i : ℕ) (d y : A) → i < length xs
    → map v xs ≡ first_mapped f i (map v whole) → v y ≡ f (v (get_or xs i d)) → map v (set xs i y) ≡ first_mapped f (i + 1) (map v whole)
first_mapped-next v f whole xs i d y l before same =
    let next : suc i ≡ i + 1 = omega arith in
    map-replaced v xs i f (get_or xs i d) y (slice_get-get_or xs i d l) same ∙ ap (λ ss. with_nth ss i f) before
    ∙ first_mapped-more f i (map v whole) ∙ ap (λ n. first_mapped f n (map v whole)) next

-- what a seat tells of its thread
pub next-at : (table : Table) (t : ℕ) (seat : Seat) → slice_get table.seats t ≡ Some seat → next_of table t ≡ seat.next
next-at table t seat at = ap (option_and_then (λ s. s.next)) at

pub passed-at : (table : Table) (t : ℕ) (seat : Seat) → slice_get table.seats t ≡ Some seat → has_passed table t ≡ seat.passed
passed-at table t seat at = ap (λ o. unwrap_or (option_map (λ s. s.passed) o) false) at

pub last-at : (table : Table) (t : ℕ) (seat : Seat) → slice_get table.seats t ≡ Some seat → last_of table t ≡ unwrap_or seat.last 0
last-at table t seat at = ap (λ o. unwrap_or (option_and_then (λ s. s.last) o) 0) at

pub stand-at : (table : Table) (t : ℕ) (seat : Seat) → slice_get table.seats t ≡ Some seat → stand_of table t ≡ seat.stand
stand-at table t seat at = ap (λ o. unwrap_or (option_map (λ s. s.stand) o) Away) at

-- a thread that has ended is passed over
pub look-past : (table : Table) (t to : ℕ) (seat : Seat) → t < to → slice_get table.seats t ≡ Some seat → has_ended seat ≡ true
    → look table (numbers t (to - t)) ≡ look table (numbers (suc t) (to - suc t))
look-past table t to seat l at e =
    ap (look table) (numbers-first t to l) ∙ skipped t (next_of table t) _ (ap is_known_end (next-at table t seat at) ∙ e)

ring-parts : (token : Option ℕ) (n : ℕ) → ring token n ≡ numbers (start_of token) (n - start_of token) ++ numbers 0 (start_of token)
ring-parts None n = let e : n - 0 ≡ n = omega arith in rw e (sym (append-nil (numbers 0 n)))
ring-parts (Some t) n = refl

or_with : (t : ℕ) (o : Option Next) (other : Look) → or_look (look_with t o) other ≡ look_with t o
or_with t None other = refl
or_with t (Some next) other = refl

look-parts : (table : Table) (start n : ℕ) → start ≡ start_of table.token → n ≡ length table.seats
    → look table (ring table.token (length table.seats))
    ≡ or_look (look table (numbers start (n - start))) (look table (numbers 0 start))
look-parts table start n s all =
    rw (s, all) (ap (look table) (ring-parts table.token (length table.seats)) ∙ look-append table _ _)

-- the token comes to this thread, if to any
abbrev pub LooksAt : Table → Option ℕ → Type 0
LooksAt table o = look table (ring table.token (length table.seats)) ≡ look_of table o

-- the token's thread stands after the one whose turn was last
pub look-first : (table : Table) (start n t : ℕ) → start ≡ start_of table.token → n ≡ length table.seats
    → look table (numbers start (n - start)) ≡ look_of table (Some t) → LooksAt table (Some t)
look-first table start n t s all e =
    look-parts table start n s all ∙ ap (λ l. or_look l (look table (numbers 0 start))) e ∙ or_with t (next_of table t) _

-- or up to it
pub look-second : (table : Table) (start n : ℕ) (found : Option ℕ) → start ≡ start_of table.token → n ≡ length table.seats
    → look table (numbers start (n - start)) ≡ NoThread → look table (numbers 0 (start - 0)) ≡ look_of table found → LooksAt table found
look-second table start n found s all e f =
    let z : start - 0 ≡ start = omega arith in
    look-parts table start n s all ∙ ap (λ l. or_look l (look table (numbers 0 start))) e
    ∙ subst (λ k. look table (numbers 0 k) ≡ look_of table found) z f

-- the rules of the thread are tried
pub turn-tries : (table : Table) (t : ℕ) (seat : Seat) (next : Next) (op : SyncOp) → LooksAt table (Some t)
    → slice_get table.seats t ≡ Some seat → seat.next ≡ Some next → seat.passed ≡ false → next.sync ≡ op
    → turn table ≡ tried op table t next
turn-tries table t seat next op looks at is fresh s = rw (looks, next-at table t seat at ∙ is, passed-at table t seat at, fresh, sym s) refl

-- the seats after an arrival
pub arrived-is : {X : Type 0} (view : X → Seat) (table : Table) (t : ℕ) (cleared items : List X) (x after : X) → items ≡ cleared
    → map view cleared ≡ map unpassed table.seats → slice_get items t ≡ Some x → view after ≡ record (view x) { stand = Waits }
    → map view (set items t after) ≡ (arrived table t).seats
arrived-is view table t cleared items x after same cleared_is at is =
    map-replaced view items t (λ s. record s { stand = Waits }) x after at is
    ∙ ap (λ ss. with_nth ss t (λ s. record s { stand = Waits })) (ap (map view) same ∙ cleared_is)

pub arrived_next : (table : Table) (t u : ℕ) → next_of (arrived table t) u ≡ next_of table u
arrived_next table t u =
    keeps_nth (option_and_then (λ s. s.next)) (λ s. record s { stand = Waits }) (λ s. refl) (map unpassed table.seats) t u
    ∙ keeps_map (option_and_then (λ s. s.next)) unpassed (λ s. refl) table.seats u

-- the table in which all that wait at the barrier are released
abbrev pub opened : Table → ℕ → ℕ → Table
opened table t b = record (arrived table t) { seats = map (released_at b) (arrived table t).seats }

pub opened_next : (table : Table) (t b u : ℕ) → next_of (opened table t b) u ≡ next_of table u
opened_next table t b u =
    keeps_map (option_and_then (λ s. s.next)) (released_at b) (λ s. same (waits_at b s) s) (arrived table t).seats u
    ∙ arrived_next table t u
  where
    same : (c : Bool) (s : Seat) → (cond c (record s { stand = Released }) s).next ≡ s.next
    same true s = refl
    same false s = refl

-- what an issue leaves
pub issued-as : {X : Type 0} (view : X → Seat) (table : Table) (items : List X) (t : ℕ) (x begun_x : X) (next first : Next)
    (cleared old after : List X) (owners : List (Option ℕ)) (child : Option ℕ)
    → table.seats ≡ map view items
    → slice_get items t ≡ Some x
    → (view x).next ≡ Some first
    → view begun_x ≡ begun table.issued (view x)
    → map view cleared ≡ map unpassed (map view (set items t begun_x))
    → owners ≡ owners_after first.sync t table.owners
    → old ≡ cleared
    → map view after ≡ seats_after first.sync (map view old)
    → child ≡ child_of first.sync (length old)
    → length cleared ≡ length items
    → nat_lt table.issued table.limit ≡ true
    → next_of table t ≡ Some next
    → issuing table t next
    ≡ Done (Issue t first child (record table { seats = map view after; owners = owners; token = Some t; issued = table.issued + 1 }))
issued-as view table items t x begun_x next first cleared old after owners child seats_are at first_is begun_is cleared_is owners_is old_is
    after_is child_is len less e =
    let seen = ap (λ l. slice_get l t) seats_are ∙ seen-at view items t x at in
    let n : next ≡ first = cc (sym e ∙ next-at table t (view x) seen ∙ first_is) in
    let one : table.issued + 1 ≡ suc table.issued = omega arith in
    let replaced = map-replaced view items t (begun table.issued) x begun_x at begun_is in
    rw (n, less, child_is, after_is, owners_is, old_is, cleared_is, replaced, len, seats_are, length-map items view, one) refl
