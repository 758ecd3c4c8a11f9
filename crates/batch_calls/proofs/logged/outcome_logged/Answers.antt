use Rattle.batch_calls.proofs.LoggedEnds.{logged_to_end, logged_to_stop}
use Rattle.batch_calls.proofs.logged.outcome_logged.Goals as goal

pub returns-in-Ok : goal.returns-in-Ok
returns-in-Ok c = λ work text out log ran logged.
    logged_to_end work text out log c.args.ran c.in-Ok.report c.end_status-status.result c.in-Ok.is c.end_status-status.ensures ran logged

pub returns-in-Err : goal.returns-in-Err
returns-in-Err c = λ work text out log ran logged.
    logged_to_stop work text out log c.args.ran c.in-Err.stop c.stop_status-status.result c.in-Err.is
    c.stop_status-status.ensures ran logged
