use Rattle.std.proofs.Common.{◌≡◌, ◌<◌, ◌∙◌, get_or, length, ap, sym, SFits, w64, rules}
use Rattle.std.proofs.lemmas.Int.{to_z-of_z}
use Rattle.std.proofs.lemmas.List.{length-map}
use Rattle.task_ast.specs.Looking.{joined_in}
use Rattle.task_ast.proofs.SeenSeats.{next-at}
use Rattle.one_thread.specs.View.{table_of, seat_of}
use Rattle.one_thread.proofs.Looking.{seen}
use Rattle.one_thread.proofs.Joins.{joins-none, joins-unknown, joins-ended, joins-going}
use Rattle.one_thread.proofs.seats.Table.join.Goals as goal

pub returns-in_default-clause-turn : goal.returns-in_default-clause-turn
returns-in_default-clause-turn c =
    let fits : SFits w64 c.args.h = search rules in
    let none = (rw (to_z-of_z w64 c.args.h fits) at c.in_default.ensures) ∙ ap (joined_in c.args.h) (c.len.ensures ∙ c.args.self.now.seats.ok.0 ∙ sym (length-map c.args.self.now.seats.items seat_of)) in
    joins-none c.args.h (table_of c.args.self.now) c.args.t c.args.line c.stuck.result none c.stuck.ensures

pub returns-in-None-clause-turn : goal.returns-in-None-clause-turn
returns-in-None-clause-turn c =
    let self = c.args.self.now in
    let other = c.in-Some.other in
    let fits : SFits w64 c.args.h = search rules in
    let names = (rw (to_z-of_z w64 c.args.h fits) at c.in-Some.ensures) ∙ ap (joined_in c.args.h) (c.len.ensures ∙ self.seats.ok.0 ∙ sym (length-map self.seats.items seat_of)) in
    let inside : other < length self.seats.items = search rules in
    let is : c.index.result.now ≡ get_or self.seats.items other c.index.result.now = search rules in
    let known = next-at (table_of self) other (seat_of c.index.result.now) (seen self other c.index.result.now inside is) in
    joins-unknown c.args.h (table_of self) c.args.t c.args.line other names (known ∙ c.in-None.is)

pub returns-then-is_end-clause-turn : goal.returns-then-is_end-clause-turn
returns-then-is_end-clause-turn c =
    let self = c.args.self.now in
    let other = c.in-Some.other in
    let fits : SFits w64 c.args.h = search rules in
    let names = (rw (to_z-of_z w64 c.args.h fits) at c.in-Some.ensures) ∙ ap (joined_in c.args.h) (c.len.ensures ∙ self.seats.ok.0 ∙ sym (length-map self.seats.items seat_of)) in
    let inside : other < length self.seats.items = search rules in
    let is : c.index.result.now ≡ get_or self.seats.items other c.index.result.now = search rules in
    let known = next-at (table_of self) other (seat_of c.index.result.now) (seen self other c.index.result.now inside is) in
    joins-ended c.args.h (table_of self) (table_of c.issue.new.self) c.args.t c.args.line other c.in-Some-next.next c.issue.result names
    (known ∙ c.in-Some-next.is) (sym c.if-is_end.ensures) c.issue.ensures.turn

pub returns-else-is_end-clause-turn : goal.returns-else-is_end-clause-turn
returns-else-is_end-clause-turn c =
    let self = c.args.self.now in
    let other = c.in-Some.other in
    let fits : SFits w64 c.args.h = search rules in
    let names = (rw (to_z-of_z w64 c.args.h fits) at c.in-Some.ensures) ∙ ap (joined_in c.args.h) (c.len.ensures ∙ self.seats.ok.0 ∙ sym (length-map self.seats.items seat_of)) in
    let inside : other < length self.seats.items = search rules in
    let is : c.index.result.now ≡ get_or self.seats.items other c.index.result.now = search rules in
    let known = next-at (table_of self) other (seat_of c.index.result.now) (seen self other c.index.result.now inside is) in
    joins-going c.args.h (table_of self) (table_of c.pass.new.self) c.args.t c.args.line other c.in-Some-next.next c.pass.result names
    (known ∙ c.in-Some-next.is) (sym c.if-is_end.ensures) c.pass.ensures.turn
