use Rattle.std.proofs.Common.{◌∙◌, option_copied, sym, ap}
use Rattle.whole_run.proofs.InOrder.{oldest-none}
use Rattle.whole_run.proofs.parts.striking.oldest.Goals as goal

pub returns-in-None : goal.returns-in-None
returns-in-None c = oldest-none c.args.rol.now.entries (sym c.front.ensures ∙ ap option_copied c.in-None.is)
