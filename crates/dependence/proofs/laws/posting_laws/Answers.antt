use Rattle.dependence.proofs.Posting.{post-by-locks, out-ready, run-within, no-locks-clash}
use Rattle.dependence.proofs.laws.posting_laws.Goals as goal

pub returns : goal.returns
returns c = record { post = post-by-locks; ready = out-ready; within = run-within; home = no-locks-clash }
