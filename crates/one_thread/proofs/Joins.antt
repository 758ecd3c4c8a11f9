-- The turn of a thread that joins another.
use Rattle.std.proofs.Common.{◌≡◌, ℕ, ℤ, pos, negsuc, Bool, true, false, cond, length, Option, Some, None, nat_lt, Result, IfOk, refl, ap, sym, ◌∙◌}
use Rattle.std.proofs.lemmas.Result.{IfOk-weaker}
use Rattle.std.specs.declared.alloc.AllocError.{AllocError}
use Rattle.gp_base.specs.declared.ending.End.TheVariants.{Stuck}
use Rattle.gp_base.specs.declared.ending.Why.TheVariants as why
use Rattle.task_ast.specs.Looking.{joined_in}
use Rattle.task_ast.specs.declared.sync.Next.{Next}
use Rattle.task_ast.specs.declared.sync.SyncOp.TheVariants as sync_op
use Rattle.task_ast.specs.meaning.Repeat.{Again, Done}
use Rattle.task_ast.specs.meaning.Table.{is_end}
use Rattle.task_ast.specs.Table.{Table, next_of}
use Rattle.task_ast.specs.Turn.{Turn, Ended, tried, stuck, at_join, issuing, passing}
use Rattle.one_thread.specs.declared.turns.Turn.{Turn as TurnHere}
use Rattle.one_thread.specs.declared.turns.Turn.TheVariants as here
use Rattle.one_thread.specs.View.{gives}

-- a join, where this is the thread that it names
abbrev join_of : Option ℕ → Table → ℕ → Next → Again Table Turn
join_of None table t next = stuck why.Join t next
join_of (Some other) table t next = at_join other (next_of table other) table t next

join-is : (h : ℤ) (table : Table) (t : ℕ) (next : Next) (o : Option ℕ) → o ≡ joined_in h (length table.seats)
    → tried (sync_op.Join h) table t next ≡ join_of o table t next
join-is (pos h) table t next o is = go (nat_lt h (length table.seats)) ∙ ap (λ o. join_of o table t next) (sym is)
  where
    go : (b : Bool) → cond b (at_join h (next_of table h) table t next) (stuck why.Join t next)
        ≡ join_of (cond b (Some h) None) table t next
    go true = refl
    go false = refl
join-is (negsuc h) table t next o is = ap (λ o. join_of o table t next) (sym is)

-- a join answers so at its turn
abbrev pub Joins : ℤ → Table → ℕ → (line : ℕ) → TurnHere → Table → Type 0
Joins h table t line r after =
    (next : Next) → next_of table t ≡ Some next → next.line ≡ line → tried (sync_op.Join h) table t next ≡ gives r after

-- it names no thread
pub joins-none : (h : ℤ) (table : Table) (t line : ℕ) (r : Result TurnHere AllocError) → None ≡ joined_in h (length table.seats)
    → IfOk r (λ turn. turn ≡ here.Ended (Stuck why.Join t line)) → IfOk r (λ r. Joins h table t line r table)
joins-none h table t line r none stops =
    IfOk-weaker r (λ turn. turn ≡ here.Ended (Stuck why.Join t line)) (λ r. Joins h table t line r table)
    (λ turn is next at there. join-is h table t next None none ∙ ap (λ l. Done (Ended (Stuck why.Join t l))) there
    ∙ ap (λ turn. gives turn table) (sym is)) stops

-- nothing is known of the thread that it names
pub joins-unknown : (h : ℤ) (table : Table) (t line other : ℕ) → Some other ≡ joined_in h (length table.seats)
    → next_of table other ≡ None → Joins h table t line (here.Needs other) table
joins-unknown h table t line other names unknown = λ next at there.
    join-is h table t next (Some other) names ∙ ap (λ o. at_join other o table t next) unknown

-- that thread has ended
pub joins-ended : (h : ℤ) (table after : Table) (t line other : ℕ) (end : Next) (r : Result TurnHere AllocError)
    → Some other ≡ joined_in h (length table.seats) → next_of table other ≡ Some end → is_end end.sync ≡ true
    → IfOk r (λ r. (next : Next) → next_of table t ≡ Some next → issuing table t next ≡ gives r after)
    → IfOk r (λ r. Joins h table t line r after)
joins-ended h table after t line other end r names known ended goes =
    IfOk-weaker r (λ r. (next : Next) → next_of table t ≡ Some next → issuing table t next ≡ gives r after)
    (λ r. Joins h table t line r after)
    (λ turn by next at there. join-is h table t next (Some other) names ∙ ap (λ o. at_join other o table t next) known
    ∙ ap (λ b. cond b (issuing table t next) (passing table t)) ended ∙ by next at) goes

-- that thread goes on
pub joins-going : (h : ℤ) (table after : Table) (t line other : ℕ) (there : Next) (r : TurnHere)
    → Some other ≡ joined_in h (length table.seats) → next_of table other ≡ Some there → is_end there.sync ≡ false
    → passing table t ≡ gives r after → Joins h table t line r after
joins-going h table after t line other there r names known goes passes = λ next at line_is.
    join-is h table t next (Some other) names ∙ ap (λ o. at_join other o table t next) known
    ∙ ap (λ b. cond b (issuing table t next) (passing table t)) goes ∙ passes
