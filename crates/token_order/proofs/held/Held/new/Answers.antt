use Rattle.std.proofs.Common.{◌≡◌, None, rules}
use Rattle.std.specs.Prelude.{replicate}
use Rattle.task_ast.proofs.Holds.{none_held}
use Rattle.token_order.proofs.held.Held.new.Goals as goal

pub returns-clause-stands : goal.returns-clause-stands
returns-clause-stands c =
    let free : c.in_ok-from_elem.field-0.items ≡ replicate c.args.locks None = search rules in
    record {
      each = none_held c.args.locks c.in_ok-from_elem.field-0.items c.new.result.items free c.new.ensures.items;
      within = λ change e. absurd (cc e);
    }
