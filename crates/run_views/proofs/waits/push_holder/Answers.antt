use Rattle.std.proofs.Common.{◌≡◌, ◌++◌, ◌∙◌, ap, sym, subst, OnOk}
use Rattle.run_views.specs.meaning.Waits.{holder_text}
use Rattle.run_views.proofs.Holders.{holder-is}
use Rattle.run_views.proofs.waits.push_holder.Goals as goal

pub returns-else-t-u : goal.returns-else-t-u
returns-else-t-u c =
    subst (λ piece. OnOk c.push_other.result (c.push_other.new.text.items ≡ c.args.text.now.items ++ piece))
    (holder-is c.args.t c.in-Some.u c.if-t-u.false ∙ ap (holder_text c.args.t) (sym c.in-Some.is)) c.push_other.ensures
