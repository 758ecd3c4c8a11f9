use Rattle.std.proofs.Common.{◌≡◌, ℕ, Bool, true, false, cond, [], rules, arith, sym, ap, ◌∙◌}
use Rattle.std.specs.Prelude.{◌==◌, unwrap_or}
use Rattle.std.proofs.lemmas.Option.{slice_get-get_or}
use Rattle.task_ast.specs.LockLists.{with_lock, held_at}
use Rattle.token_order.proofs.Holds.{held_set}
use Rattle.token_order.proofs.held.Held.put.Goals as goal

pub returns-clause-ok : goal.returns-clause-ok
returns-clause-ok c =
    let lists = c.loop-self.self.locks.items in
    let same : held_at lists c.args.t ≡ held_at c.args.self.now.locks.items c.args.t = search rules in
    let list : c.as_slice.result.now ≡ held_at lists c.args.t =
    c.as_slice.ensures ∙ c.index.ensures ∙ sym (ap (λ found. unwrap_or found []) (slice_get-get_or lists c.args.t c.index.result.now (omega arith))) in
    let changed : c.in_ok-locks.locks ≡ with_lock c.args.holds c.args.lock (held_at c.args.self.now.locks.items c.args.t) =
    c.in_ok-locks.ensures ∙ ap (with_lock c.args.holds c.args.lock) (list ∙ same) in
    λ u. rw c.exchange.ensures
    (held_set lists c.args.t c.in_ok-locks.locks u (omega arith) ∙ both u changed (u == c.args.t))
  where
    both : (u : ℕ) → c.in_ok-locks.locks ≡ with_lock c.args.holds c.args.lock (held_at c.args.self.now.locks.items c.args.t) → (b : Bool)
        → cond b c.in_ok-locks.locks (held_at c.loop-self.self.locks.items u)
        ≡ cond b (with_lock c.args.holds c.args.lock (held_at c.args.self.now.locks.items c.args.t)) (held_at c.args.self.now.locks.items u)
    both u changed true = changed
    both u changed false = search rules
