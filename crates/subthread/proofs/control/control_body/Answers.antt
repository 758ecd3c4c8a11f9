use Rattle.std.proofs.Common.{◌≡◌, ◌-◌, suc, arith, refl}
use Rattle.subthread.specs.inner.Running.{place_in}
use Rattle.subthread.proofs.Moves.{leads_nowhere, leads_on, led_from, on_leads, turned_leads, spent_led, stopped_led, control_smaller}
use Rattle.subthread.proofs.control.control_body.Goals as goal

pub loop-pc-init : goal.loop-pc-init
loop-pc-init c = leads_nowhere _

pub loop-pc-smaller-in-On : goal.loop-pc-smaller-in-On
loop-pc-smaller-in-On c =
    let moved = rw c.in-On.is at c.in_ok-control_step.ensures in
    control_smaller c.args.ground.now c.requires c.loop-pc.left c.loop-pc.cursor c.control_step.new.cursor moved

pub loop-pc-preserved-in-On : goal.loop-pc-preserved-in-On
loop-pc-preserved-in-On c =
    let ground = c.args.ground.now in
    let place = place_in ground c.loop-pc.cursor in
    let then = place_in ground c.control_step.new.cursor in
    let moved = rw c.in-On.is at c.in_ok-control_step.ensures in
    leads_on c.loop-pc.invariant (on_leads ground c.requires c.loop-pc.left place then refl moved)

pub returns-then-left-eq0 : goal.returns-then-left-eq0
returns-then-left-eq0 c =
    let ground = c.args.ground.now in
    let place = place_in ground c.loop-pc.cursor in
    let then = place_in ground c.control_step.new.cursor in
    let moved = rw c.in-Turned.is at c.in_ok-control_step.ensures in
    led_from c.loop-pc.invariant (spent_led ground c.requires c.loop-pc.left c.in-Turned.pc place then c.if-left-eq0.true refl moved)

pub loop-pc-preserved : goal.loop-pc-preserved
loop-pc-preserved c =
    let ground = c.args.ground.now in
    let left = c.loop-pc.left in
    let place = place_in ground c.loop-pc.cursor in
    let then = place_in ground c.control_step.new.cursor in
    let moved = rw c.in-Turned.is at c.in_ok-control_step.ensures in
    let more : left ≡ suc (left - 1) = omega (arith, c.if-left-eq0.false) in
    leads_on c.loop-pc.invariant (turned_leads ground c.requires left (left - 1) c.in-Turned.pc place then more refl moved)

pub returns-in-Stopped : goal.returns-in-Stopped
returns-in-Stopped c =
    let ground = c.args.ground.now in
    let place = place_in ground c.loop-pc.cursor in
    let then = place_in ground c.control_step.new.cursor in
    let moved = rw c.in-Stopped.is at c.in_ok-control_step.ensures in
    led_from c.loop-pc.invariant (stopped_led ground c.requires c.loop-pc.left c.in-Stopped.next place then refl moved)
