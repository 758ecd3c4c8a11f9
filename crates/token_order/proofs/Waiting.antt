-- A thread that is issued was not kept back.
use Rattle.std.proofs.Common.{◌≡◌, ◌∙◌, ℕ, Bool, true, false, not, cond, is_none, length, Option, Some, None, refl, sym, ap}
use Rattle.std.proofs.lemmas.Bool.{ltb-true}
use Rattle.std.specs.Prelude.{pos, negsuc, ◌+◌, nat_lt, unwrap_or, count_by, slice_get}
use Rattle.std.specs.Option.{option_map}
use Rattle.task_ast.specs.declared.sync.SyncOp.{SyncOp}
use Rattle.task_ast.specs.declared.sync.SyncOp.TheVariants as sync
use Rattle.task_ast.specs.declared.sync.Next.{Next}
use Rattle.task_ast.specs.meaning.Repeat.{Done}
use Rattle.task_ast.specs.meaning.Table.{Stand, Away, Waits, Released, ring, numbers}
use Rattle.task_ast.specs.Table.{Table, next_of, waits_at}
use Rattle.task_ast.specs.Turn.{Turn, Issue, Look, To, Unknown, NoThread, look, turn, tried, at_look, deadlocked, has_passed, stand_of}
use Rattle.task_ast.specs.laws.Threads.{MayBegin, tries}
use Rattle.task_ast.proofs.TurnLaws.{issue_law}
use Rattle.token_order.specs.Turned.{goes_on, found_goes_on, goes_ahead, is_let}
use Rattle.token_order.proofs.Barriers.{comes, one_waits, still_waits}

-- a thread that waits at a barrier passes, and one that comes to it before others passes too
goes : (table : Table) (t b : ℕ) (next : Next) (s : Stand) (answer : Turn) → stand_of table t ≡ s → next_of table t ≡ Some next
    → next.sync ≡ sync.Barrier b → tried (sync.Barrier b) table t next ≡ Done answer → goes_on b s table ≡ true
goes table t b next Released answer e known meets is = refl
goes table t b next Waits answer e known meets is = absurd (cc (sym (still_waits table t b next Waits e refl refl) ∙ is))
goes table t b next Away answer e known meets is = go (nat_lt (count_by (waits_at b) table.seats + 1) (unwrap_or (slice_get table.barriers b) 0)) refl
  where
    go : (more : Bool) → nat_lt (count_by (waits_at b) table.seats + 1) (unwrap_or (slice_get table.barriers b) 0) ≡ more → not more ≡ true
    go false few = refl
    go true few =
        absurd (cc (sym (one_waits table t b _ _ next (comes table t b next known meets e) e refl refl (ltb-true _ _ few)) ∙ is))

some_pair : {t u : ℕ} {a b : Next} → ◌≡◌ {A = Option (ℕ × Next)} (Some (t, a)) (Some (u, b)) → (t ≡ u) × (a ≡ b)
some_pair {t} {u} {a} {b} e = (
  ap (λ (o : Option (ℕ × Next)). unwrap_or (option_map (λ (x : ℕ × Next). x.0) o) t) e,
  ap (λ (o : Option (ℕ × Next)). unwrap_or (option_map (λ (x : ℕ × Next). x.1) o) a) e,
)

-- so one that is issued at a barrier goes on there
goes_at : (table : Table) (l : Look) (t b : ℕ) (next : Next) (answer : Turn) → tries l table ≡ Some (t, next) → next_of table t ≡ Some next
    → at_look l table ≡ Done answer → next.sync ≡ sync.Barrier b → found_goes_on b l table ≡ true
goes_at table NoThread t b next answer tried_is known is meets = refl
goes_at table (Unknown u) t b next answer tried_is known is meets = absurd (cc tried_is)
goes_at table (To u there) t b next answer tried_is known is meets = go (has_passed table u) refl tried_is is
  where
    go : (passed : Bool) → has_passed table u ≡ passed → cond {A = Option (ℕ × Next)} passed None (Some (u, there)) ≡ Some (t, next)
        → cond passed (deadlocked (look table (numbers 0 (length table.seats)))) (tried there.sync table u there) ≡ Done answer
        → goes_on b (stand_of table u) table ≡ true
    go true e none done = absurd (cc none)
    go false e same done =
        let one = some_pair same in
        let op : there.sync ≡ sync.Barrier b = ap (λ n. n.sync) one.1 ∙ meets in
        goes table u b there (stand_of table u) answer refl (ap (next_of table) one.0 ∙ known ∙ ap Some (sym one.1)) op
        (ap (λ o. tried o table u there) (sym op) ∙ done)

let_by : (op : SyncOp) (table : Table) → MayBegin table op → ((b : ℕ) → op ≡ sync.Barrier b → goes_ahead b table ≡ true)
    → is_let table op ≡ true
let_by (sync.Lock l) table may goes = ap is_none may
let_by (sync.Join (pos h)) table may goes = may.1
let_by (sync.Join (negsuc h)) table may goes = absurd may
let_by (sync.Barrier b) table may goes = goes b refl
let_by op table may goes = refl

pub issue_lets : (table : Table) (t : ℕ) (next : Next) (child : Option ℕ) (after : Table) → turn table ≡ Done (Issue t next child after)
    → is_let table next.sync ≡ true
issue_lets table t next child after is =
    let begun = issue_law table t next child after is in
    let_by next.sync table begun.may
    (λ b meets. goes_at table (look table (ring table.token (length table.seats))) t b next _ begun.tried begun.known is meets)
