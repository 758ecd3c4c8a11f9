use Rattle.gp_resume.proofs.LogAnswers.{one-answer, some-answer}
use Rattle.gp_resume.proofs.OwnAnswers.{own-answer}
use Rattle.gp_resume.proofs.OwnLogs.{first-own}
use Rattle.gp_resume.proofs.laws.log_laws.Goals as goal

pub returns : goal.returns
returns c = record { one = one-answer; some = some-answer; own_rows = first-own; own_answer = own-answer }
