use Rattle.command_line.specs.meaning.Words.{app_for}
use Rattle.command_line.proofs.asked.taken_for.Goals as goal

pub returns-in-Run : goal.returns-in-Run
unfolding app_for
returns-in-Run c = rw c.in-Run.is c.taken.ensures

pub returns-in-One : goal.returns-in-One
unfolding app_for
returns-in-One c = rw c.in-One.is c.taken-in-One.ensures

pub returns-in-Check : goal.returns-in-Check
unfolding app_for
returns-in-Check c = rw c.in-Check.is c.taken-in-Check.ensures

pub returns-in-Soak : goal.returns-in-Soak
unfolding app_for
returns-in-Soak c = rw c.in-Soak.is c.taken-in-Soak.ensures
