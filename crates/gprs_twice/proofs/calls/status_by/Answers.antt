use Rattle.std.proofs.Common.{true, false, sym, ◌∙◌}
use Rattle.command_line.specs.meaning.Words.{texts}
use Rattle.gprs_twice.proofs.Kept.{kept}
use Rattle.gprs_twice.proofs.calls.status_by.Goals as goal

pub returns-then-begins_with : goal.returns-then-begins_with
returns-then-begins_with g c = record {
  promised = (
    c.twice_log_run.result.journal,
    kept (texts c.args.words.now) _ true (sym c.begins_with.ensures ∙ c.if-begins_with.true) c.twice_log_run.ensures.headline,
  );
}

pub returns-else-begins_with : goal.returns-else-begins_with
returns-else-begins_with g c = record {
  promised = (
    c.twice_run.result.journal,
    kept (texts c.args.words.now) _ false (sym c.begins_with.ensures ∙ c.if-begins_with.false) c.twice_run.ensures.headline,
  );
}
