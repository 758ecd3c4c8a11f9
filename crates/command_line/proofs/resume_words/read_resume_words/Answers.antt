use Rattle.std.proofs.Common.{refl, Some, None}
use Rattle.std.specs.Prelude.{Ok, codes}
use Rattle.command_line.specs.meaning.Words.{texts}
use Rattle.command_line.specs.meaning.ResumeWords.{for_resume, resumed_in}
use Rattle.command_line.proofs.AskedFacts.{read_named}
use Rattle.command_line.proofs.resume_words.read_resume_words.Goals as goal

pub returns-in-Some-clause-resumed : goal.returns-in-Some-clause-resumed
unfolding for_resume
returns-in-Some-clause-resumed c =
    read_named resumed_in for_resume (texts c.args.words.now) (Some c.in-Some.matches) c.in_ok-matches.field-0 c.in-Some.is c.resumed_in.result
    c.resumed_in.ensures.resumed (codes "resume") c.in_ok-matches.ensures

pub returns-in-None-clause-resumed : goal.returns-in-None-clause-resumed
unfolding for_resume
returns-in-None-clause-resumed c =
    read_named resumed_in for_resume (texts c.args.words.now) None c.in_ok-matches.field-0 c.in-None.is (Ok None) refl (codes "resume")
    c.in_ok-matches.ensures
