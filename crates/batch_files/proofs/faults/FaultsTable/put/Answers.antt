use Rattle.std.proofs.Common.{◌≤◌, ◌∙◌, ◌∷◌, [], length, sym, arith, length-append}
use Rattle.std.specs.List.{All, IsDistinct}
use Rattle.std.proofs.lemmas.List.Elements.{All-push}
use Rattle.std.proofs.lemmas.Map.Keys.{IsDistinct-push}
use Rattle.csv.specs.Records.{fields_of}
use Rattle.gp_base.specs.meaning.Faults.{strikes_same}
use Rattle.gp_base.specs.Faults.{IsInRange}
use Rattle.gp_base.specs.declared.limits.TheConstants.{MOST_FAULTS}
use Rattle.batch_files.proofs.FaultFacts.{after_push, put_fault, strikes_same_equiv}
use Rattle.batch_files.proofs.faults.FaultsTable.put.Goals as goal

pub invariant_of-self : goal.invariant_of-self
invariant_of-self c =
    let faults = c.args.self.now in
    let fault = c.in_ok-fault.fault in
    let pushed = c.push.ensures in
    record {
      few =
          after_push (λ list. length list ≤ MOST_FAULTS) c.push.result faults.list c.push.new.self fault pushed.ok pushed.err faults.few
          (omega (arith, length-append faults.list (fault ∷ [])));
      in_range = after_push (All IsInRange) c.push.result faults.list c.push.new.self fault pushed.ok pushed.err faults.in_range
          (All-push IsInRange faults.list fault faults.in_range c.in_ok-fault.ensures.range);
      apart = after_push (IsDistinct strikes_same) c.push.result faults.list c.push.new.self fault pushed.ok pushed.err faults.apart
          (IsDistinct-push strikes_same_equiv faults.list fault faults.apart
          (sym (rw c.as_slice.ensures at c.is_struck.ensures) ∙ c.if-is_struck.false));
    }

pub returns : goal.returns
returns c = λ begun rows held.
    rw c.in_ok-push.ensures.ok
    (put_fault rows (fields_of c.args.row.now) c.in_ok-fault.fault c.args.self.now.list held (sym c.in_ok-fault.ensures.value)
    (sym (rw c.as_slice.ensures at c.is_struck.ensures) ∙ c.if-is_struck.false)
    (omega (arith, c.if-len-ge-MOST_FAULTS.false, c.len.ensures)))
