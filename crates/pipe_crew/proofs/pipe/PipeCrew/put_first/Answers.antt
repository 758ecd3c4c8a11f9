use Rattle.std.proofs.Common.{rules, ◌+◌, length, refl}
use Rattle.std.proofs.lemmas.List.Elements.{All-drop}
use Rattle.crew.proofs.Taking.{taken_has}
use Rattle.pipe_crew.specs.inner.Flights.{IsFlight}
use Rattle.pipe_crew.proofs.Flying.{none_left}
use Rattle.pipe_crew.proofs.pipe.PipeCrew.put_first.Goals as goal

pub returns-then-is_used_up-clause-fly : goal.returns-then-is_used_up-clause-fly
returns-then-is_used_up-clause-fly g c =
    let w = c.args.self.now.inbox.work in
    let most = c.args.self.now.threads + 1 in
    let behind = c.args.self.now.behind.items in
    let all = c.requires.fly in
    record {
      first_flies = taken_has (IsFlight w most) behind 0 (length behind) c.pop_front.result refl (search rules) (search rules) all;
      behind_fly = rw c.pop_front.ensures.rest (All-drop (IsFlight w most) 1 behind all);
      none = λ kept is. rw c.pop_front.ensures.rest (none_left behind (length behind) c.pop_front.result refl (search rules) is);
    }

pub returns-then-is_used_up-clause-inbox : goal.returns-then-is_used_up-clause-inbox
returns-then-is_used_up-clause-inbox g c = refl

pub returns-then-is_used_up-clause-threads : goal.returns-then-is_used_up-clause-threads
returns-then-is_used_up-clause-threads g c = refl

pub returns-clause-inbox : goal.returns-clause-inbox
returns-clause-inbox g c = refl

pub returns-clause-threads : goal.returns-clause-threads
returns-clause-threads g c = refl

pub returns-clause-out : goal.returns-clause-out
returns-clause-out g c = refl
