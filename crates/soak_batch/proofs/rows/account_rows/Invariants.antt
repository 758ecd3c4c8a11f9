use Rattle.std.proofs.Common.{◌≡◌, ◌-◌, ◌++◌}
use Rattle.soak_batch.specs.meaning.Rows.{account_rows}
use Rattle.soak_batch.proofs.rows.account_rows.Given as goal

-- the accounts so far, and those that are left, are all
abbrev pub invariant-loop-account : goal.invariant-loop-account
invariant-loop-account l = l.text.items ++ account_rows l.account (100 - l.account) ≡ account_rows 0 100
