use Rattle.std.proofs.Common.{◌≡◌, sym, subst, rules, length}
use Rattle.one_thread.specs.Runs.{Forks, IsNew}
use Rattle.one_thread.proofs.threads.Run.add.Goals as goal

pub returns-in-Fork-clause-threads : goal.returns-in-Fork-clause-threads
returns-in-Fork-clause-threads c =
    let count : c.len-me.result ≡ length c.args.self.now.threads.items = search rules in
    let new =
    subst (λ n. IsNew c.args.self.now.program.now.program c.in-Fork.task n c.in-Fork.args c.args.registers c.in_ok-thread.thread) count
    (subst (λ l. IsNew c.args.self.now.program.now.program c.in-Fork.task c.len-me.result l c.args.registers c.in_ok-thread.thread)
    c.as_slice.ensures c.in_ok-thread.ensures) in
    subst (λ op. Forks c.args.self.now.program.now.program op c.args.registers c.args.self.now.threads.items c.push.new.self.items)
    (sym c.in-Fork.is)
    (c.in_ok-thread.thread, c.in_ok-push.ensures.items, new)
