use Rattle.std.proofs.Common.{sym, ◌∙◌, SFits, w64, rules, subst, ◌<◌, length, set}
use Rattle.std.specs.Prelude.{slice_set}
use Rattle.std.proofs.lemmas.Int.{to_z-of_z}
use Rattle.record_store.specs.declared.given.Bundle.{Bundle}
use Rattle.subthread.proofs.Placing.{place_less, set_is}
use Rattle.subthread.proofs.cells.put_there.Goals as goal

pub set-requires : goal.set-requires
set-requires c =
    subst (λ (b : Bundle). c.args.place < length b.cells) c.index-bundles-at.is
    (place_less c.args.bundles.now c.args.at c.args.place c.index-bundles-at.result c.requires.place c.index-bundles-at.is)

pub returns : goal.returns
returns c =
    let fits : SFits w64 c.args.value = search rules in
    (λ i. set c.args.bundles.now c.args.at (record {
      lock = (sym c.index-bundles-at.is i).lock;
      cells = (c.set.ensures ∙ (λ j. slice_set (sym c.index-bundles-at.is j).cells c.args.place (to_z-of_z w64 c.args.value fits j))) i;
    }))
    ∙ set_is c.args.bundles.now c.args.at c.args.place c.index-bundles-at.result c.args.value c.requires.place c.index-bundles-at.is
