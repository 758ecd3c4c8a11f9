use Rattle.std.proofs.Common.{rules, codes, subst, ◌++◌, OnOk, OnErr}
use Rattle.std.specs.Io.KnownBytes.{Appends}
use Rattle.gp_base.specs.meaning.Sinks.{AppendsPrefix}
use Rattle.std.proofs.lemmas.Result.{on_ok_weaker, on_err_weaker}
use Rattle.gp_base.proofs.Written.{Appends-append, prefix_first, prefix_second}
use Rattle.call_cases.proofs.lines.put_about.Goals as goal

pub returns-in_err-put_all-clause-prefix : goal.returns-in_err-put_all-clause-prefix
returns-in_err-put_all-clause-prefix g c =
    let rest = c.args.told.now ++ (c.args.what.now ++ codes "\n") in
    let prefix = subst (λ name. AppendsPrefix (g.E.Sink.written c.args.to.now) (g.E.Sink.written c.put_all.new.to) (name ++ rest)) c.name.ensures
    (prefix_first (g.E.Sink.written c.args.to.now) (g.E.Sink.written c.put_all.new.to) c.name.result.now rest c.in_err-put_all.ensures.prefix) in
    search (rules, prefix)

pub returns-clause-all : goal.returns-clause-all
returns-clause-all g c =
    let first = g.E.Sink.written c.put_all.new.to in
    let after = g.E.Sink.written c.put_three.new.to in
    let rest = c.args.told.now ++ (c.args.what.now ++ codes "\n") in
    subst (λ name. OnOk c.put_three.result (Appends (g.E.Sink.written c.args.to.now) after (name ++ rest))) c.name.ensures
    (on_ok_weaker c.put_three.result
    (λ all. Appends-append (g.E.Sink.written c.args.to.now) first after c.name.result.now rest c.in_ok-put_all.ensures.all all)
    c.put_three.ensures.all)

pub returns-clause-prefix : goal.returns-clause-prefix
returns-clause-prefix g c =
    let first = g.E.Sink.written c.put_all.new.to in
    let after = g.E.Sink.written c.put_three.new.to in
    let rest = c.args.told.now ++ (c.args.what.now ++ codes "\n") in
    subst (λ name. OnErr c.put_three.result (AppendsPrefix (g.E.Sink.written c.args.to.now) after (name ++ rest))) c.name.ensures
    (on_err_weaker c.put_three.result
    (λ part. prefix_second (g.E.Sink.written c.args.to.now) first after c.name.result.now rest c.in_ok-put_all.ensures.all part)
    c.put_three.ensures.prefix)
