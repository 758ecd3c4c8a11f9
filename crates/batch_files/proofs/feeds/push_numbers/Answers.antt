use Rattle.std.proofs.Common.{◌++◌, ◌∷◌, [], refl, rules, sym, ◌∙◌, add-one, append_assoc, SFits, w64}
use Rattle.std.proofs.lemmas.Int.{to_z-of_z}
use Rattle.csv.specs.Records.{fields_of}
use Rattle.batch_files.proofs.FeedFacts.{no_numbers, numbers_more}
use Rattle.batch_files.proofs.feeds.push_numbers.Goals as goal

pub returns-in_default : goal.returns-in_default
returns-in_default c =
    (refl, no_numbers (fields_of c.args.row.now) c.loop-field.field (rw c.len-field-end.ensures at c.loop-field-test.true) (search rules))

pub loop-field-preserved : goal.loop-field-preserved
loop-field-preserved c =
    let inv = c.loop-field.invariant in
    let number = c.in-Some.number in
    let fits : SFits w64 number = search rules in
    record {
      numbers = inv.numbers ++ number ∷ [];
      read = rw add-one (numbers_more (fields_of c.args.row.now) c.loop-field.field number inv.numbers (sym c.in-Some.ensures) inv.read);
      pushed =
          rw (inv.pushed, to_z-of_z w64 number fits) at c.in_ok-push.ensures.items
          ∙ append_assoc c.args.cells.now.items inv.numbers (number ∷ []);
    }
