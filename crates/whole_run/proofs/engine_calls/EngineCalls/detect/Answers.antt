use Rattle.std.proofs.Common.{ap, subst, sym}
use Rattle.std.specs.Option.{IsSome}
use Rattle.std.specs.Result.{IfOk}
use Rattle.whole_run.specs.Gives.{DetectGives, IsBack, IsScouted, struck_now}
use Rattle.whole_run.specs.inner.Kept.{batch_in, view_of}
use Rattle.whole_run.proofs.engine_calls.EngineCalls.detect.Goals as goal

pub detect-requires-clause-scouted : goal.detect-requires-clause-scouted
detect-requires-clause-scouted c =
    subst (λ view. IsSome (struck_now view) → IsScouted view) (sym (ap (λ e. e.view) c.self.view_is)) c.requires.scouted

pub detect-requires-clause-home : goal.detect-requires-clause-home
detect-requires-clause-home c =
    subst (λ view. IsSome (struck_now view) → IsBack view) (sym (ap (λ e. e.view) c.self.view_is)) c.requires.home

pub returns-clause-gives : goal.returns-clause-gives
returns-clause-gives c =
    subst (λ view. IfOk c.detect.result (DetectGives view (view_of (batch_in c.self.inside.plan) c.detect.new.parts)))
    (ap (λ e. e.view) c.self.view_is) c.detect.ensures.gives
