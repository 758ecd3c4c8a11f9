use Rattle.std.proofs.Common.{refl, Some, None}
use Rattle.std.specs.Prelude.{Ok, codes}
use Rattle.command_line.specs.meaning.Words.{texts}
use Rattle.command_line.specs.meaning.CkptWords.{for_ckpt, ckpt_in}
use Rattle.command_line.proofs.AskedFacts.{read_named}
use Rattle.command_line.proofs.ckpt_words.read_ckpt_words.Goals as goal

pub returns-in-Some-clause-asked : goal.returns-in-Some-clause-asked
unfolding for_ckpt
returns-in-Some-clause-asked c =
    read_named ckpt_in for_ckpt (texts c.args.words.now) (Some c.in-Some.matches) c.in_ok-matches.field-0 c.in-Some.is c.ckpt_in.result
    c.ckpt_in.ensures.asked (codes "ckpt") c.in_ok-matches.ensures

pub returns-in-None-clause-asked : goal.returns-in-None-clause-asked
unfolding for_ckpt
returns-in-None-clause-asked c =
    read_named ckpt_in for_ckpt (texts c.args.words.now) None c.in_ok-matches.field-0 c.in-None.is (Ok None) refl (codes "ckpt")
    c.in_ok-matches.ensures
