use Rattle.std.proofs.Common.{sym, ◌∙◌, rules, SFits, w64}
use Rattle.std.proofs.lemmas.Int.{to_z-of_z}
use Rattle.one_thread.proofs.SubthreadRuns.{starts, begins_ok}
use Rattle.one_thread.proofs.work.start.Goals as goal

pub returns-then-is_start : goal.returns-then-is_start
returns-then-is_start g c =
    starts c.args.begins.now c.args.child c.args.joined c.args.walk.now c.requires.clean (sym c.is_start.ensures ∙ c.if-is_start.true)

pub returns : goal.returns
returns g c =
    let fits : SFits w64 c.args.joined = search rules in
    let begun = rw (to_z-of_z w64 c.args.joined fits) at c.begin.ensures in
    begins_ok c.args.begins.now c.args.child c.args.joined c.args.walk.now c.begin.new.self c.begin.result
    (sym c.is_start.ensures ∙ c.if-is_start.false) begun
