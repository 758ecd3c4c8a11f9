-- What a ring keeps over a turn.
use Rattle.std.proofs.Common.{◌≡◌, ◌∙◌, ◌-◌, ap, sym, refl, false, cond, is_none, length, vec_len, vec_capacity}
use Rattle.std.proofs.lemmas.List.{length-map}
use Rattle.task_ast.specs.Table.{Table}
use Rattle.task_ast.specs.Turn.{turn}
use Rattle.task_ast.proofs.TurnLaws.{pass_law, issue_law}
use Rattle.token_order.specs.declared.rules.Turn.{Turn}
use Rattle.token_order.specs.declared.rules.Turn.TheVariants as here
use Rattle.token_order.specs.declared.threads.Threads.{Threads}
use Rattle.token_order.specs.declared.held.Held.{Held}
use Rattle.token_order.specs.Turned.{Answered, LeavesRoom, is_issue}
use Rattle.token_order.specs.Owning.{noted}
use Rattle.token_order.specs.Standing.{spare_of}
use Rattle.token_order.specs.declared.spans.Span.{Span}
use Rattle.token_order.specs.Spans.{covers, shown, Passes, no_pass, one_pass}
use Rattle.token_order.proofs.Shown.{length_shown}
use Rattle.token_order.specs.View.{table, seat_of}

-- the owners after a turn
pub owners_noted : (before after : Table) (result : Turn) → Answered (turn before) before result after
    → after.owners ≡ noted result before.owners
owners_noted before after (here.Issue t next child) e = (issue_law before t next child after e).owners
owners_noted before after here.Pass e = (pass_law before after e).owners
owners_noted before after (here.Settles t) h = absurd h
owners_noted before after (here.Needs t) h = ap (λ table. table.owners) h.1
owners_noted before after (here.Ended e) h = ap (λ table. table.owners) h.1

-- the room is the same where there are as many threads as before, the list of them has the same capacity, and no change was told
pub same_room : (before after : Threads) (held there : Held) → length (table after).seats ≡ length (table before).seats
    → vec_capacity after.seats ≡ vec_capacity before.seats
    → there.change ≡ held.change → spare_of after there ≡ spare_of before held
same_room before after held there seats capacity change =
    let lengths : vec_len after.seats ≡ vec_len before.seats =
    after.seats.ok.0 ∙ sym (length-map after.seats.items seat_of) ∙ seats ∙ length-map before.seats.items seat_of ∙ sym before.seats.ok.0 in
    ap (λ c. cond (is_none c) (vec_capacity after.seats - vec_len after.seats) 0) change
    ∙ ap (λ n. cond (is_none held.change) (n - vec_len after.seats) 0) capacity
    ∙ ap (λ n. cond (is_none held.change) (vec_capacity before.seats - n) 0) lengths

lengths : (before after : Table) (span later : Span) → length (shown later after).seats ≡ length (shown span before).seats
    → length after.seats ≡ length before.seats
lengths before after span later e =
    sym (length_shown (covers later) after.seats) ∙ e ∙ length_shown (covers span) before.seats

-- all but an issue leave the room as it was
pub room_left : (before after : Threads) (span later : Span) (held there : Held) (result : Turn)
    → Answered (turn (shown span (table before))) (shown span (table before)) result (shown later (table after))
    → vec_capacity after.seats ≡ vec_capacity before.seats → (is_issue result ≡ false → there.change ≡ held.change)
    → LeavesRoom result (spare_of before held) (spare_of after there)
room_left before after span later held there (here.Issue t next child) e capacity change = tt
room_left before after span later held there here.Pass e capacity change =
    same_room before after held there
    (lengths (table before) (table after) span later (pass_law (shown span (table before)) (shown later (table after)) e).threads) capacity (change refl)
room_left before after span later held there (here.Settles t) h capacity change = absurd h
room_left before after span later held there (here.Needs t) h capacity change =
    same_room before after held there
    (lengths (table before) (table after) span later (ap (λ (there : Table). length there.seats) h.1)) capacity (change refl)
room_left before after span later held there (here.Ended e) h capacity change =
    same_room before after held there
    (lengths (table before) (table after) span later (ap (λ (there : Table). length there.seats) h.1)) capacity (change refl)

pub passes_owners : (before after : Table) → Passes before after → after.owners ≡ before.owners
passes_owners before after no_pass = refl
passes_owners before after (one_pass {there = there} some e) = (pass_law there after e).owners ∙ passes_owners before there some

passes_threads : (before after : Table) → Passes before after → length after.seats ≡ length before.seats
passes_threads before after no_pass = refl
passes_threads before after (one_pass {there = there} some e) = (pass_law there after e).threads ∙ passes_threads before there some

pub passes_room : (before after : Threads) (span later : Span) (held : Held) → Passes (shown span (table before)) (shown later (table after))
    → vec_capacity after.seats ≡ vec_capacity before.seats → spare_of after held ≡ spare_of before held
passes_room before after span later held passes capacity =
    same_room before after held held
    (lengths (table before) (table after) span later (passes_threads (shown span (table before)) (shown later (table after)) passes)) capacity refl
