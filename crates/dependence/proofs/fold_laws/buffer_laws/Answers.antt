use Rattle.std.proofs.Common.{◌∙◌}
use Rattle.dependence.specs.Conflict.{InConflict}
use Rattle.dependence.specs.Touching.{MayWrite, MayTouch}
use Rattle.dependence.proofs.Buffers.{applied-stands, applied-finds, late-finds, undone-stands, undone-finds, members-stand, front-stands}
use Rattle.dependence.proofs.Keeping.{kept-feet}
use Rattle.dependence.proofs.fold_laws.buffer_laws.Goals as goal

pub returns : goal.returns
returns c = record {
  applied = λ location feet members opening set low front buffer p keep stands young may.
      applied-stands (λ q. MayWrite location (feet q)) (λ q. MayTouch location (feet q)) (InConflict feet) members
      (kept-feet location feet members keep)
      opening set low front buffer stands p young may.below may.absent may.ready;
  undone = λ location feet members opening set part low front buffer keep cells stands may.
      undone-stands (λ q. MayWrite location (feet q)) (λ q. MayTouch location (feet q)) (InConflict feet) members
      (kept-feet location feet members keep)
      opening set low front buffer stands cells part may.late may.closed;
  one_more = λ feet. front-stands (InConflict feet);
  members = λ feet. members-stand (InConflict feet);
  found = λ location feet members opening set low front buffer p keep stands below out place touched.
      (λ i. stands.state_is i place) ∙ late-finds (λ q. MayWrite location (feet q)) (λ q. MayTouch location (feet q))
      (InConflict feet) members (kept-feet location feet members keep)
      opening set low front buffer stands p below out place touched;
  apart = λ location feet members opening set low front buffer p q keep stands young may other may_q.
      applied-finds (λ r. MayWrite location (feet r)) (λ r. MayTouch location (feet r)) (InConflict feet) members
      (kept-feet location feet members keep)
      opening set low front buffer stands p young may.below may.absent may.ready q other may_q.absent may_q.ready;
  untouched = λ location feet members opening set part low front buffer p keep cells stands may.
      undone-finds (λ q. MayWrite location (feet q)) (λ q. MayTouch location (feet q)) (InConflict feet) members
      (kept-feet location feet members keep)
      opening set low front buffer stands cells part may.late may.closed p;
}
