use Rattle.std.proofs.Common.{◌∙◌, true, refl, arith}
use Rattle.sqlite.specs.Held.{state}
use Rattle.db_steps.proofs.Joins.{step_none, step_then, clean_before}
use Rattle.db_tables.proofs.Seen.{read_more}
use Rattle.db_tables.proofs.sources.read_sources.Goals as goal

pub loop-at-init : goal.loop-at-init
loop-at-init g c = (refl, step_none g.S.Store c.args.tx.now.conn.now _, λ clean. rw c.new-files.ensures refl)

pub loop-at-preserved : goal.loop-at-preserved
loop-at-preserved g c =
    let first = c.args.tx.now.conn.now in
    let now = c.loop-at.tx.conn.now in
    let next = c.read_file.new.tx.conn.now in
    let (same, step, so_far) = c.loop-at.invariant in
    let one = c.in_ok-file.ensures.step in (
      c.read_file.ensures.same_reference ∙ same,
      step_then g.S.Store first now next true step one,
      λ clean. rw c.in_ok-push_file.ensures.pushed
          (read_more g.S.Store c.args.sources.now c.loop-at.at c.index-sources-at.result (state g.S.Store first).now (state g.S.Store now).now (state g.S.Store next).now
          c.loop-at.files c.in_ok-file.file (omega arith) c.index-sources-at.is (so_far (clean_before g.S.Store now next true one clean)) (c.in_ok-file.ensures.read clean)),
    )
