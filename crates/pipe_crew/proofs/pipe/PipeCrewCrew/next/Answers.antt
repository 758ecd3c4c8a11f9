use Rattle.std.proofs.Common.{◌≡◌, ◌++◌, [], refl, subst, ◌∙◌, append_assoc}
use Rattle.subthread.specs.Tasks.{IsRun}
use Rattle.pipe_crew.specs.inner.Flying.{left_all}
use Rattle.pipe_crew.proofs.pipe.PipeCrewCrew.next.Goals as goal

pub returns-in_default-clause-taken : goal.returns-in_default-clause-taken
returns-in_default-clause-taken g c =
    let before = c.args.self.now in
    let then = c.take_first.new.self in
    let after = c.run_oldest.new.self in
    let found = c.in_ok-flight.ensures in
    let boards = c.run_oldest.ensures.boards in
    let none = found.alone c.in_default.is in
    let out_before : left_all before.first before.behind.items ++ before.inbox.out ≡ then.inbox.out =
    found.out ∙ rw (c.in_default.is, none) refl in
    let out_after : left_all after.first after.behind.items ++ after.inbox.out ≡ after.inbox.out =
    rw (boards.0, boards.1, found.none, none) refl in
    rw (out_before, out_after, ← found.posts.0) c.run_oldest.ensures.taken

pub returns-clause-taken : goal.returns-clause-taken
returns-clause-taken g c =
    let after = c.land.new.self in
    let found = c.in_ok-flight.ensures in
    record {
      earlier = [];
      later = left_all after.first after.behind.items ++ after.inbox.out;
      before_is = found.out ∙ rw (c.in-Some.is, append_assoc) (rw found.posts.0 at c.in_ok-done.ensures.taken);
      after_is = refl;
    }

pub returns-clause-run : goal.returns-clause-run
returns-clause-run g c = subst (λ w. IsRun w c.in_ok-done.done) c.in_ok-flight.ensures.posts.0 c.in_ok-done.ensures.run
