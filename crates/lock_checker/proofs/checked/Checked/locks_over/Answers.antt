use Rattle.std.proofs.Common.{◌≡◌, ◌+◌, ◌<◌, [], ◌∷◌, ◌++◌, ◌∙◌, ap, sym, append_assoc, length, get_or, drop, arith, rules}
use Rattle.task_ast.specs.meaning.Names.{locks_of}
use Rattle.task_ast.specs.View.{plain_program}
use Rattle.lock_checker.specs.inner.Positions.{cells_over}
use Rattle.lock_checker.proofs.BaseLemmas.{accepted_small}
use Rattle.lock_checker.proofs.LayoutLemmas.{over_next, record_cells_next}
use Rattle.lock_checker.proofs.checked.Checked.locks_over.Goals as goal

pub loop-head-init : goal.loop-head-init
loop-head-init c =
    record { found = search rules; small = (accepted_small (plain_program c.args.self.now.program) c.args.self.now.accepted.faultless).1 }

pub add_over-requires : goal.add_over-requires
add_over-requires c =
    let heads = c.args.self.now.program.heads in
    let i = c.loop-head.head-index in
    let head = c.head-item.result in
    let within : i < length heads = search rules in
    let is : head ≡ get_or heads i head = search rules in
    let next = record_cells_next heads i head within is in
    omega arith

pub loop-head-preserved : goal.loop-head-preserved
loop-head-preserved c =
    let heads = c.args.self.now.program.heads in
    let arrays = locks_of heads in
    let i = c.loop-head.head-index in
    let head = c.head-item.result in
    let within : i < length heads = search rules in
    let is : head ≡ get_or heads i head = search rules in
    let next = record_cells_next heads i head within is in
    record {
      found = ap (λ l. l ++ cells_over arrays (drop (i + 1) heads)) c.in_ok-add_over.ensures
          ∙ append_assoc c.loop-head.over.items (cells_over arrays (head ∷ [])) (cells_over arrays (drop (i + 1) heads))
          ∙ ap (λ l. c.loop-head.over.items ++ l) (sym (over_next heads i head within is arrays)) ∙ c.loop-head.invariant.found;
      small = omega arith;
    }
