use Rattle.std.proofs.Common.{◌≡◌, ◌∙◌, ap, sym, refl, subst, length, unwrap_or, map}
use Rattle.std.specs.Prelude.{position}
use Rattle.task_ast.specs.declared.sync.Next.{Next}
use Rattle.task_ast.specs.declared.sync.SyncOp.TheVariants as sync
use Rattle.task_ast.specs.meaning.Names.{is_name, slot, registers_of}
use Rattle.task_ast.specs.meaning.Tree as plain
use Rattle.task_ast.specs.View.{plain_task}
use Rattle.task_ast.specs.meaning.Control.{step_at}
use Rattle.one_thread.specs.inner.Remaining.{rest_of}
use Rattle.one_thread.specs.Walking.{setting_of, point_of, Stepped}
use Rattle.one_thread.proofs.Settling.{number_of}
use Rattle.one_thread.proofs.Steps.{stays}
use Rattle.one_thread.proofs.walk.Walk.settle.Goals as goal

pub returns : goal.returns
returns c =
    let register : c.in_ok-reg.reg ≡ slot (registers_of (plain_task c.args.self.now.task.now)) c.args.x.now =
    c.in_ok-reg.ensures ∙ c.register_number.ensures ∙ ap (λ names. slot names c.args.x.now) c.requires.registers in
    let control : c.in_ok-ctl.ctl ≡ slot (map (λ n. n.0) c.args.self.now.env.names) c.args.c.now =
    c.in_ok-ctl.ensures ∙ c.variable_number.ensures
    ∙ ap (λ names. unwrap_or (position (λ n. is_name c.args.c.now n.0) names) (length names)) c.as_slice.ensures
    ∙ number_of c.args.self.now.env.names c.args.c.now in
    let same : ◌≡◌ {A = Next} (record { sync = sync.Settle c.in_ok-reg.reg c.in_ok-ctl.ctl; line = c.args.line })
    (record {
      sync = sync.Settle (slot (registers_of (plain_task c.args.self.now.task.now)) c.args.x.now)
          (slot (map (λ n. n.0) c.args.self.now.env.names) c.args.c.now);
      line = c.args.line;
    }) =
    λ i. record { sync = sync.Settle (register i) (control i); line = c.args.line } in
    subst (λ went. Stepped (step_at (setting_of c.args.self.now) c.args.line (plain.Settle c.args.x.now c.args.c.now)
    (rest_of c.args.self.now.left) (point_of c.args.self.now)) went c.args.self.now c.args.self.now) (sym c.stop.ensures)
    (same, stays c.args.self.now c.requires.clean, refl)
