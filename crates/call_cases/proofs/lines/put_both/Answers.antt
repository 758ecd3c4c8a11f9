use Rattle.std.proofs.Common.{rules}
use Rattle.std.proofs.lemmas.Result.{on_ok_weaker, on_err_weaker}
use Rattle.gp_base.proofs.Written.{Appends-append, prefix_first, prefix_second}
use Rattle.call_cases.proofs.lines.put_both.Goals as goal

pub returns-in_err-put_all-clause-prefix : goal.returns-in_err-put_all-clause-prefix
returns-in_err-put_all-clause-prefix g c =
    let prefix = prefix_first (g.E.Sink.written c.args.to.now)
    (g.E.Sink.written c.put_all.new.to) c.args.first.now c.args.second.now c.in_err-put_all.ensures.prefix in
    search (rules, prefix)

pub returns-clause-all : goal.returns-clause-all
returns-clause-all g c =
    on_ok_weaker c.put_all-2.result
    (λ all. Appends-append (g.E.Sink.written c.args.to.now) (g.E.Sink.written c.put_all.new.to)
    (g.E.Sink.written c.put_all-2.new.to) c.args.first.now c.args.second.now c.in_ok-put_all.ensures.all all)
    c.put_all-2.ensures.all

pub returns-clause-prefix : goal.returns-clause-prefix
returns-clause-prefix g c =
    on_err_weaker c.put_all-2.result
    (λ part. prefix_second (g.E.Sink.written c.args.to.now) (g.E.Sink.written c.put_all.new.to)
    (g.E.Sink.written c.put_all-2.new.to) c.args.first.now c.args.second.now c.in_ok-put_all.ensures.all part)
    c.put_all-2.ensures.prefix
