use Rattle.std.proofs.Common.{◌≡◌, drop}
use Rattle.run_picture.specs.meaning.Picture.{is_touched}
use Rattle.run_picture.proofs.columns.is_touched.Given as goal

-- none so far touches the position
abbrev pub invariant-loop-restart : goal.invariant-loop-restart
invariant-loop-restart l = is_touched (drop l.restart-index l.restarts) l.position ≡ is_touched l.restarts l.position
