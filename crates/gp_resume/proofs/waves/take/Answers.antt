use Rattle.std.proofs.Common.{sym, ap, subst, ◌∙◌}
use Rattle.record_store.specs.Stored.{Stored, state_of, SameShape}
use Rattle.gp_resume.proofs.waves.take.Goals as goal

pub returns-clause-left : goal.returns-clause-left
returns-clause-left c =
    record {
      state = ap state_of c.leave.ensures.store ∙ c.accept_home-lines.ensures.state;
      shape = subst (SameShape c.args.course.now.store) (sym c.leave.ensures.store) c.accept_home-lines.ensures.shape;
      away = ap (λ (store : Stored). store.away) c.leave.ensures.store ∙ c.accept_home-lines.ensures.away;
      table = c.leave.ensures.table;
      spots = c.leave.ensures.spots;
      issued = c.leave.ensures.issued;
    }
