-- A join of a thread that is there.
use Rattle.std.proofs.Common.{◌≡◌, ℕ, Bool, true, false, cond, nat_lt, length, Some, None, unwrap_or, refl, sym, ap, ◌∙◌}
use Rattle.std.specs.Prelude.{ℤ, pos, negsuc}
use Rattle.gp_base.specs.declared.ending.Why.TheVariants as why
use Rattle.task_ast.specs.declared.sync.SyncOp.TheVariants as sync
use Rattle.task_ast.specs.declared.sync.Next.{Next}
use Rattle.task_ast.specs.Table.{Table, next_of}
use Rattle.task_ast.specs.Turn.{tried, at_join, stuck}
use Rattle.task_ast.specs.Looking.{joined_in}

pub join_there : (table : Table) (h : ℤ) (n other t : ℕ) (next : Next) → Some other ≡ joined_in h n → n ≡ length table.seats
    → tried (sync.Join h) table t next ≡ at_join other (next_of table other) table t next
join_there table (negsuc h) n other t next found same = absurd (cc found)
join_there table (pos h) n other t next found same = go (nat_lt h n) refl found
  where
    go : (b : Bool) → nat_lt h n ≡ b → Some other ≡ cond b (Some h) None
        → cond (nat_lt h (length table.seats)) (at_join h (next_of table h) table t next) (stuck why.Join t next)
        ≡ at_join other (next_of table other) table t next
    go false e found = absurd (cc found)
    go true e found =
        ap (λ b. cond b (at_join h (next_of table h) table t next) (stuck why.Join t next)) (ap (nat_lt h) (sym same) ∙ e)
        ∙ ap (λ k. at_join k (next_of table k) table t next) (sym (ap (λ o. unwrap_or o other) found))
