use Rattle.std.proofs.Common.{◌∙◌, ◌+◌, ap, sym, arith, is_some, true}
use Rattle.std.proofs.lemmas.Bool.{false≢true, both_ways}
use Rattle.reorder_list.specs.declared.entry.Entry.{Entry}
use Rattle.reorder_list.specs.Entries.{first_position, is_waiting}
use Rattle.reorder_list.proofs.Readiness.{not-waiting, one-entry, read-there}
use Rattle.reorder_list.proofs.Watching.{found-decides, clear-at}
use Rattle.reorder_list.proofs.search.is_ready.Goals as goal

pub returns-then-not-is_waiting-clause-runnable : goal.returns-then-not-is_waiting-clause-runnable
returns-then-not-is_waiting-clause-runnable c = (
  λ t. absurd (false≢true t),
  λ r. absurd (not-waiting c.args.entries.now.items c.requires.in_row c.args.place c.requires.in_range c.index.result.now c.index.ensures
      (sym c.is_waiting.ensures ∙ c.if-not-is_waiting.true) r),
)

pub returns-then-not-is_waiting-clause-held : goal.returns-then-not-is_waiting-clause-held
returns-then-not-is_waiting-clause-held c is e there waits =
    let entries = c.args.entries.now.items in
    let same =
    one-entry entries (first_position entries + c.args.place) c.index.result.now e
    (read-there entries c.args.place c.index.result.now c.requires.in_row c.requires.in_range c.index.ensures) there in
    absurd (both_ways (is_waiting e.state)
    (ap (λ (x : Entry). is_waiting x.state) (sym same) ∙ (sym c.is_waiting.ensures ∙ c.if-not-is_waiting.true))
    (ap is_waiting waits))

pub index-requires-2 : goal.index-requires-2
index-requires-2 c =
    let same = c.requires.many in
    let ok = c.args.watches.now.ok in
    let l = c.requires.in_range in
    omega arith

pub holder-requires-clause-clear : goal.holder-requires-clause-clear
holder-requires-clause-clear c =
    let same = c.requires.many in
    let l = c.requires.in_range in
    clear-at c.args.entries.now.items c.args.watches.now.items c.args.place c.index-2.result.now c.requires.in_row l (omega arith)
    c.index-2.ensures c.requires.clear

pub returns-in-None-clause-runnable : goal.returns-in-None-clause-runnable
returns-in-None-clause-runnable c =
    let entries = c.args.entries.now.items in
    found-decides entries (first_position entries + c.args.place) c.index.result.now c.holder.result
    true (ap (λ o. is_some o) c.in-None.is)
    (read-there entries c.args.place c.index.result.now c.requires.in_row c.requires.in_range c.index.ensures)
    (sym c.is_waiting.ensures ∙ c.if-not-is_waiting.false) c.holder.ensures.none c.holder.ensures.some
