use Rattle.std.proofs.Common.{sym, ap, ◌∙◌, rules}
use Rattle.std.specs.Option.{option_copied}
use Rattle.task_code.specs.Flat.{code_of}
use Rattle.gp_resume.proofs.UnderHeld.{stands-some, stands-none}
use Rattle.gp_resume.proofs.fitting.stands_under.Goals as goal

pub returns-in-Some : goal.returns-in-Some
returns-in-Some c =
    stands-some (code_of c.args.code.now).program c.facts.ensures.accepted c.over.result.now c.over.ensures c.args.held.now c.args.cell
    c.in-Ok.cell c.in-Some.lock.now c.is_held.result (search rules) (sym c.get.ensures ∙ ap option_copied c.in-Some.is) c.is_held.ensures

pub returns-in-None : goal.returns-in-None
returns-in-None c =
    stands-none (code_of c.args.code.now).program c.facts.ensures.accepted c.over.result.now c.over.ensures c.args.held.now c.args.cell
    c.in-Ok.cell (search rules) (sym c.get.ensures ∙ ap option_copied c.in-None.is)
