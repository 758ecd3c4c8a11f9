use Rattle.std.proofs.Common.{◌≡◌, false, List, Option, Some, None, is_some, refl, ap, sym, ◌∙◌}
use Rattle.std.proofs.lemmas.Bool.{false≢true}
use Rattle.subthread.specs.declared.flaw.Flaw.{Flaw}
use Rattle.subthread.proofs.recheck.Recheck.is_on.Goals as goal

none_there : (flaws : Option (List Flaw)) → is_some flaws ≡ false → flaws ≡ None
none_there None is = refl
none_there (Some flaws) is = absurd (false≢true (sym is))

pub returns-clause-is : goal.returns-clause-is
returns-clause-is c = c.is_some.ensures ∙ ap is_some c.self.view_is

pub returns-clause-off : goal.returns-clause-off
returns-clause-off c = λ off. none_there c.args.self.now (sym (c.is_some.ensures ∙ ap is_some c.self.view_is) ∙ off)
