use Rattle.std.proofs.Common.{◌≡◌, ◌<◌, arith}
use Rattle.whole_run.proofs.Raising.{raised-none, raised-all, may-raise, raised-more}
use Rattle.whole_run.proofs.parts.detecting.raise_from.Goals as goal

pub loop-position-init : goal.loop-position-init
loop-position-init c =
    (raised-none c.args.cut c.args.front c.args.rol.now.entries c.args.redo.now.items c.requires.empty, c.requires.room)

pub raise-requires : goal.raise-requires
raise-requires c =
    let so_far = c.loop-position.invariant.0 in
    let from = c.loop-position.auto.position in
    let test = c.loop-position-test.true in
    let same = c.front.view_is in
    let less : c.loop-position.position < c.args.front = omega arith in
    may-raise c.args.cut c.args.front c.loop-position.position from c.args.rol.now.entries c.loop-position.rol.entries
    c.loop-position.redo.items so_far
    (λ e. e.attempt < 4294967295) c.requires.attempts (c.requires.there c.loop-position.position from less)

pub loop-position-preserved : goal.loop-position-preserved
loop-position-preserved c = (
  raised-more c.args.cut c.args.front c.loop-position.position c.loop-position.auto.position c.args.rol.now.entries
      c.loop-position.rol.entries c.loop-position.redo.items c.loop-position.invariant.0 c.raise.new.self.entries c.push.new.self.items
      c.raise.ensures.entries c.push.ensures.items,
  let room = c.loop-position.invariant.1 in let spare = c.push.ensures.spare in omega arith,
)

pub returns : goal.returns
returns c =
    let past = c.loop-position-test.false in
    let issued = c.requires.issued in
    let within = c.loop-position.auto.position-end in
    let same = c.front.view_is in
    let at_end : c.loop-position.position ≡ c.args.front = omega arith in
    raised-all c.args.cut c.args.front c.loop-position.position c.args.rol.now.entries c.loop-position.rol.entries
    c.loop-position.redo.items at_end c.loop-position.invariant.0
