use Rattle.std.proofs.Common.{rules, subst, codes, ap, ◌∙◌}
use Rattle.std.specs.Io.KnownBytes.{Appends}
use Rattle.gp_base.specs.meaning.Sinks.{AppendsPrefix}
use Rattle.gp_base.proofs.Written.{Appends-append, prefix_second}
use Rattle.call_cases.specs.meaning.RunCommands.{end_status}
use Rattle.call_cases.specs.Decided.{work_of}
use Rattle.call_cases.specs.meaning.PlainText.{plain_ran}
use Rattle.batch_calls.specs.inner.Steps.{rest_text}
use Rattle.batch_calls.proofs.PlainTexts.{plain_ran-run}
use Rattle.batch_calls.proofs.RunPieces.{part_of_first, after_first}
use Rattle.batch_calls.proofs.plain.put_one.Goals as goal

pub returns-in_err-put_all-clause-prefix : goal.returns-in_err-put_all-clause-prefix
returns-in_err-put_all-clause-prefix g c =
    let before = g.O.Sink.written c.args.out.now in
    let first = g.O.Sink.written c.put_all.new.to in
    let prefix = part_of_first (plain_ran (work_of c.args.request.now)) before first c.in_err-put_all.ensures.prefix in
    search (rules, prefix)

pub returns-in_err-ran-clause-prefix : goal.returns-in_err-ran-clause-prefix
returns-in_err-ran-clause-prefix g c =
    let before = g.O.Sink.written c.args.out.now in
    let first = g.O.Sink.written c.put_all.new.to in
    let prefix = after_first (plain_ran (work_of c.args.request.now)) before first c.in_ok-put_all.ensures.all in
    search (rules, prefix)

pub returns-in_err-put-clause-prefix : goal.returns-in_err-put-clause-prefix
returns-in_err-put-clause-prefix g c =
    let before = g.O.Sink.written c.args.out.now in
    let first = g.O.Sink.written c.put_all.new.to in
    let second = g.O.Sink.written c.put_rest-put.new.out in
    let is = plain_ran-run (work_of c.args.request.now) c.in_ok-ran.ran c.in_ok-ran.ensures in
    let prefix =
    prefix_second before first second (codes "output\n") (rest_text (plain_ran (work_of c.args.request.now))) c.in_ok-put_all.ensures.all
    (subst (λ r. AppendsPrefix first second (rest_text r)) is c.in_err-put.ensures.prefix) in
    search (rules, prefix)

pub returns-clause-all : goal.returns-clause-all
returns-clause-all g c =
    let before = g.O.Sink.written c.args.out.now in
    let first = g.O.Sink.written c.put_all.new.to in
    let second = g.O.Sink.written c.put_rest-put.new.out in
    let is = plain_ran-run (work_of c.args.request.now) c.in_ok-ran.ran c.in_ok-ran.ensures in
    Appends-append before first second (codes "output\n") (rest_text (plain_ran (work_of c.args.request.now))) c.in_ok-put_all.ensures.all
    (subst (λ r. Appends first second (rest_text r)) is c.in_ok-put.ensures.all)

pub returns-clause-status : goal.returns-clause-status
returns-clause-status g c =
    c.end_status-status.ensures
    ∙ ap (λ r. end_status r.end) (plain_ran-run (work_of c.args.request.now) c.in_ok-ran.ran c.in_ok-ran.ensures)
