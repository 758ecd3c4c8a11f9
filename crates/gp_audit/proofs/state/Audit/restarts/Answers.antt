use Rattle.std.proofs.Common.{◌≡◌, length, sym, ◌∙◌, arith}
use Rattle.gp_audit.specs.inner.Audited.{kept}
use Rattle.gp_audit.proofs.Audits.{struck_in-low}
use Rattle.gp_audit.proofs.state.Audit.restarts.Goals as goal

pub returns-then-at-len : goal.returns-then-at-len
returns-then-at-len c =
    absurd (let low = struck_in-low (kept c.args.self.now) c.in-Some.struck (sym c.struck_next.ensures ∙ c.in-Some.is) in
    let past = c.if-at-len.true in
    let len : c.len.result ≡ length c.args.self.now.seen.items = c.len.ensures ∙ c.args.self.now.seen.ok.0 in
    omega arith)
