use Rattle.std.proofs.Common.{◌<◌, All, rules, sym, subst, ap}
use Rattle.std.proofs.lemmas.List.Elements.{All-nil}
use Rattle.desk_board.specs.declared.view.Book.{Book}
use Rattle.pipe_crew.proofs.flight.Flight.new.Goals as goal

pub returns-clause-stands : goal.returns-clause-stands
returns-clause-stands c =
    let made = c.in-Ok.ensures in
    let board = c.in_ok-new.ensures.ok in
    record {
      pass = rw board made.pass.0;
      idle = ap (λ h. h.held) made.pass.1;
      clerk = rw board made.clerk.0;
      taken = subst (λ (b : Book). All (λ d. d < 0) b.taken) (sym made.clerk.1) (All-nil (λ d. d < 0));
      within = search rules;
    }

pub returns-clause-with : goal.returns-clause-with
returns-clause-with c = rw c.in_ok-new.ensures.ok c.in-Ok.ensures.board.1

pub returns-clause-jobs : goal.returns-clause-jobs
returns-clause-jobs c = rw c.in_ok-new.ensures.ok c.in-Ok.ensures.board.0

pub returns-clause-first : goal.returns-clause-first
returns-clause-first c = c.in-Ok.ensures.pass.1
