use Rattle.std.proofs.Common.{refl, ◌∙◌}
use Rattle.subthread.specs.declared.ground.Cursor.{Cursor}
use Rattle.subthread.proofs.Leavings.{if_ok, both_ok}
use Rattle.subthread.proofs.Moves.{whole_led}
use Rattle.subthread.proofs.control.control_of.Goals as goal

pub returns : goal.returns
returns c =
    let ground = c.control_ground-ground.result in
    let is = c.control_ground-ground.ensures.is in
    let at = c.args.at in
    let before : Cursor = record { pc = at.pc; ctl = c.in_ok-ctl.ctl } in
    let middle = c.begin_control.new.cursor in
    let then = c.control_body.new.cursor in
    let led = whole_led c.args.work.now ground at c.args.thread is c.args.begins.now.sync c.args.child c.args.ctl.now
    before refl c.in_ok-ctl.ensures middle then c.in_ok-next.next c.begin_control.ensures c.in_ok-next.ensures in
    record {
      next = if_ok c.left_at.result (λ left same. same ∙ led.next_is) c.left_at.ensures.next;
      place =
          both_ok c.left_at.result (λ left at_is ctl_is. (λ i. record { at = at_is i; ctl = ctl_is i; me = c.args.thread }) ∙ led.at_is)
          c.left_at.ensures.at c.left_at.ensures.ctl;
    }
