-- Which thread the next turn would issue with a settle.
use Rattle.std.proofs.Common.{◌≡◌, ℕ, ◌<◌, ◌≤◌, true, false, cond, Option, Some, None, unwrap_or, option_map, refl, sym, ap, ◌∙◌, arith}
use Rattle.std.specs.Prelude.{slice_get}
use Rattle.std.proofs.lemmas.Bool.{lt-ltb}
use Rattle.task_ast.specs.declared.sync.SyncOp.{SyncOp}
use Rattle.task_ast.specs.declared.sync.SyncOp.TheVariants as sync
use Rattle.task_ast.specs.declared.sync.Next.{Next}
use Rattle.task_ast.specs.meaning.Repeat.{Again, More, Done}
use Rattle.task_ast.specs.meaning.Table.{is_settle}
use Rattle.task_ast.specs.Table.{Seat, Table}
use Rattle.task_ast.specs.Turn.{Turn, Issue, Needs, Ended, turn, tried}
use Rattle.task_ast.specs.laws.Threads.{tries, ahead}
use Rattle.task_ast.specs.Looking.{look_with}
use Rattle.task_ast.proofs.SeenSeats.{LooksAt, next-at, passed-at, turn-tries}
use Rattle.task_ast.proofs.TurnLaws.{issue_law}
use Rattle.token_order.specs.Turned.{settling_in}

-- no issue of the table begins with a settle
none_settles : (before : Table) (answer : Again Table Turn) → turn before ≡ answer
    → ((t : ℕ) (next : Next) (child : Option ℕ) (after : Table) → turn before ≡ Done (Issue t next child after)
    → is_settle next.sync ≡ false) → settling_in answer ≡ None
none_settles before (More after) e none = refl
none_settles before (Done (Issue t next child after)) e none = rw (none t next child after e) refl
none_settles before (Done (Needs t)) e none = refl
none_settles before (Done (Ended ending)) e none = refl

some_pair : {t u : ℕ} {a b : Next} → ◌≡◌ {A = Option (ℕ × Next)} (Some (t, a)) (Some (u, b)) → a ≡ b
some_pair {t} {u} {a} {b} e = ap (λ (o : Option (ℕ × Next)). unwrap_or (option_map (λ (x : ℕ × Next). x.1) o) a) e

-- the thread that is ahead is the one that is issued
issued_ahead : (before : Table) (o : Option (ℕ × Next)) → ahead before ≡ o → (t : ℕ) (next : Next) (child : Option ℕ) (after : Table)
    → turn before ≡ Done (Issue t next child after) → o ≡ Some (t, next)
issued_ahead before o e t next child after issues = sym e ∙ (issue_law before t next child after issues).tried

-- at the limit nothing is issued
pub at_limit : (table : Table) → table.limit ≤ table.issued → settling_in (turn table) ≡ None
at_limit table full =
    none_settles table (turn table) refl
    (λ t next child after e. let l = (issue_law table t next child after e).below in absurd (omega arith))

-- nor where no thread is ahead
pub none_ahead : (table : Table) → ahead table ≡ None → settling_in (turn table) ≡ None
none_ahead table none =
    none_settles table (turn table) refl
    (λ t next child after e. absurd (cc (issued_ahead table None none t next child after e)))

pub is_unknown : (table : Table) (t : ℕ) (seat : Seat) → LooksAt table (Some t) → slice_get table.seats t ≡ Some seat
    → seat.next ≡ None
    → settling_in (turn table) ≡ None
is_unknown table t seat looks at is =
    none_ahead table (ap (λ l. tries l table) (looks ∙ ap (look_with t) (next-at table t seat at ∙ is)))

pub has_gone : (table : Table) (t : ℕ) (seat : Seat) (next : Next) → LooksAt table (Some t)
    → slice_get table.seats t ≡ Some seat → seat.next ≡ Some next → seat.passed ≡ true
    → settling_in (turn table) ≡ None
has_gone table t seat next looks at is passed =
    none_ahead table
    (ap (λ l. tries l table) (looks ∙ ap (look_with t) (next-at table t seat at ∙ is))
    ∙ ap (λ b. cond b None (Some (t, next))) (passed-at table t seat at ∙ passed))

-- the thread that is ahead, with what comes next
ahead-is : (table : Table) (t : ℕ) (seat : Seat) (next : Next) → LooksAt table (Some t) → slice_get table.seats t ≡ Some seat
    → seat.next ≡ Some next → seat.passed ≡ false
    → ahead table ≡ Some (t, next)
ahead-is table t seat next looks at is fresh =
    ap (λ l. tries l table) (looks ∙ ap (look_with t) (next-at table t seat at ∙ is))
    ∙ ap (λ b. cond b None (Some (t, next))) (passed-at table t seat at ∙ fresh)

pub other : (table : Table) (t : ℕ) (seat : Seat) (next : Next) → LooksAt table (Some t) → slice_get table.seats t ≡ Some seat
    → seat.next ≡ Some next → seat.passed ≡ false
    → is_settle next.sync ≡ false → settling_in (turn table) ≡ None
other table t seat next looks at is fresh not =
    none_settles table (turn table) refl
    (λ u found child after e. ap (λ n. is_settle n.sync)
    (some_pair (sym (issued_ahead table (Some (t, next))
    (ahead-is table t seat next looks at is fresh) u found child after e))) ∙ not)

issues_settle : (table : Table) (t : ℕ) (next : Next) (op : SyncOp) → is_settle op ≡ true → next.sync ≡ op → table.issued < table.limit
    → settling_in (tried op table t next) ≡ Some t
issues_settle table t next (sync.Settle register control) s e less = rw (lt-ltb table.issued table.limit less, e) refl
issues_settle table t next sync.Start s e less = absurd (cc s)
issues_settle table t next (sync.Lock l) s e less = absurd (cc s)
issues_settle table t next (sync.Unlock l) s e less = absurd (cc s)
issues_settle table t next (sync.Fork task arguments) s e less = absurd (cc s)
issues_settle table t next (sync.Join h) s e less = absurd (cc s)
issues_settle table t next (sync.Barrier b) s e less = absurd (cc s)
issues_settle table t next sync.End s e less = absurd (cc s)
issues_settle table t next sync.BadIndex s e less = absurd (cc s)
issues_settle table t next sync.Spent s e less = absurd (cc s)

-- a settle that is ahead is issued below the limit
pub settles : (table : Table) (t : ℕ) (seat : Seat) (next : Next) → LooksAt table (Some t)
    → slice_get table.seats t ≡ Some seat → seat.next ≡ Some next → seat.passed ≡ false
    → is_settle next.sync ≡ true → table.issued < table.limit → settling_in (turn table) ≡ Some t
settles table t seat next looks at is fresh s less =
    ap settling_in (turn-tries table t seat next next.sync looks at is fresh refl)
    ∙ issues_settle table t next next.sync s refl less
