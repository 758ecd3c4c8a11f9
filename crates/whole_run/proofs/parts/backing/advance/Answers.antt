use Rattle.std.proofs.Common.{sym, ◌∙◌, arith}
use Rattle.whole_run.proofs.CheckpointLists.{few-there, passed-more}
use Rattle.whole_run.proofs.parts.backing.advance.Goals as goal

pub overflow_add-backup : goal.overflow_add-backup
overflow_add-backup c =
    let few = few-there c.args.rol.now.entries c.advancing.backup.whole c.in-Some.entry.now c.requires (sym c.in-Some.ensures) in
    omega arith

pub advancing-smaller : goal.advancing-smaller
advancing-smaller c =
    let few = few-there c.args.rol.now.entries c.advancing.backup.whole c.in-Some.entry.now c.requires (sym c.in-Some.ensures) in
    omega arith

pub advancing-preserved : goal.advancing-preserved
advancing-preserved c =
    let before = c.advancing.invariant in
    record {
      low = (let low = before.low in omega arith);
      passed = passed-more c.args.rol.now.entries c.args.backup.now.whole c.advancing.backup.whole c.in-Some.entry.now before.passed
          (sym c.in-Some.ensures) (sym c.is_applied.ensures ∙ c.if-not-is_applied.false);
      same = before.same;
    }
