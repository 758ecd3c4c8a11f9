use Rattle.std.proofs.Common.{◌≡◌, ◌∙◌, ap, sym, length}
use Rattle.std.proofs.lemmas.List.{length-map}
use Rattle.task_ast.specs.Looking.{look_of}
use Rattle.task_ast.proofs.SeenSeats.{look-first, look-second}
use Rattle.one_thread.specs.View.{table_of, seat_of}
use Rattle.one_thread.proofs.Looking.{start-is}
use Rattle.one_thread.proofs.seats.Table.token_at.Goals as goal

pub returns-in-Some-clause-found : goal.returns-in-Some-clause-found
returns-in-Some-clause-found c =
    let self = c.args.self.now in
    let all : c.len.result ≡ length (table_of self).seats = c.len.ensures ∙ self.seats.ok.0 ∙ sym (length-map self.seats.items seat_of) in
    look-first (table_of self) self.start c.len.result c.in-Some.t (start-is self.start) all
    (c.first_live.ensures.found ∙ ap (look_of (table_of self)) c.in-Some.is)

pub returns-clause-found : goal.returns-clause-found
returns-clause-found c =
    let self = c.args.self.now in
    let all : c.len.result ≡ length (table_of self).seats = c.len.ensures ∙ self.seats.ok.0 ∙ sym (length-map self.seats.items seat_of) in
    look-second (table_of self) self.start c.len.result c.first_live-2.result (start-is self.start) all
    (c.first_live.ensures.found ∙ ap (look_of (table_of self)) c.in_default.is) c.first_live-2.ensures.found
