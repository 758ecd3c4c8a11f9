use Rattle.soak_batch.proofs.OneMore.{account_more}
use Rattle.soak_batch.proofs.rows.account_rows.Goals as goal

pub loop-account-preserved : goal.loop-account-preserved
loop-account-preserved c =
    account_more 100 c.loop-account.account c.loop-account.text.items c.push_row.new.text.items _ c.loop-account-test.true
    c.loop-account.invariant c.in_ok-push_row.ensures
