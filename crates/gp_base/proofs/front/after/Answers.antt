use Rattle.std.proofs.lemmas.Bool.Decides.{Decides-eqb}
use Rattle.std.proofs.lemmas.Slice.Eq.{strip_prefix_is}
use Rattle.gp_base.proofs.Digits.{is_after}
use Rattle.gp_base.proofs.front.after.Goals as goal

pub returns : goal.returns
returns c =
    is_after c.args.word.now c.args.bytes.now c.strip_prefix.result
    (strip_prefix_is Decides-eqb c.args.bytes.now c.args.word.now c.strip_prefix.result c.strip_prefix.ensures.cases)
