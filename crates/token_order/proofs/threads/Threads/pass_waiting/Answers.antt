use Rattle.std.proofs.Common.{◌≡◌, ◌∙◌, sym, ap, length, not}
use Rattle.std.proofs.lemmas.List.{length-map}
use Rattle.task_ast.specs.Looking.{look_of}
use Rattle.token_order.specs.Spans.{no_pass}
use Rattle.token_order.specs.View.{table, seat_of}
use Rattle.token_order.proofs.Stretches.{comes-first, comes-second, passes_both, is_gone}
use Rattle.token_order.proofs.threads.Threads.pass_waiting.Goals as goal

pub returns-then-self-eq0-clause-passes : goal.returns-then-self-eq0-clause-passes
returns-then-self-eq0-clause-passes c = no_pass

pub pass_from-requires-clause-comes : goal.pass_from-requires-clause-comes
pass_from-requires-clause-comes c =
    let self = c.args.self.now in
    let all : c.len-all.result ≡ length (table self).seats = c.len-all.ensures ∙ self.seats.ok.0 ∙ sym (length-map self.seats.items seat_of) in
    comes-first (table self) c.start-start.result c.len-all.result c.start-start.ensures.start all

pub pass_from-requires-then-is_none-clause-comes : goal.pass_from-requires-then-is_none-clause-comes
pass_from-requires-then-is_none-clause-comes c =
    let self = c.pass_from.new.self in
    let all : c.len.result ≡ length (table self).seats = c.len.ensures ∙ self.seats.ok.0 ∙ sym (length-map self.seats.items seat_of) in
    comes-second (table self) c.start-start-2.result c.len.result c.start-start-2.ensures.start all
    (c.first_live.ensures.found ∙ ap (look_of (table self)) (is_gone c.first_live.result (c.is_none.ensures ∙ ap not c.if-is_none.true)))

pub returns-then-is_none-clause-passes : goal.returns-then-is_none-clause-passes
returns-then-is_none-clause-passes c = passes_both c.pass_from.ensures.passes c.pass_from-then-is_none.ensures.passes
