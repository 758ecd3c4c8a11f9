use Rattle.std.proofs.Common.{sym, refl, subst, rules, None, SFits, w64}
use Rattle.std.specs.Prelude.{◌∷◌}
use Rattle.std.proofs.lemmas.Int.{to_z-of_z}
use Rattle.task_ast.specs.meaning.Tree as plain
use Rattle.task_ast.specs.meaning.Control.{begin_actions, behind}
use Rattle.one_thread.specs.inner.Remaining.{rest_of}
use Rattle.one_thread.specs.Walking.{setting_of, point_of, Begun}
use Rattle.one_thread.proofs.Walks.{with_left}
use Rattle.one_thread.proofs.Beginning.{plainly_begun, join_begun}
use Rattle.one_thread.proofs.walk.Walk.begin_join.Goals as goal

pub returns-in-Some : goal.returns-in-Some
returns-in-Some c = λ child line e.
    let fits : SFits w64 c.args.joined = search rules in
    let set = rw (to_z-of_z w64 c.args.joined fits) at c.set_number.ensures in
    subst (λ o. Begun (begin_actions (setting_of c.args.self.now) (plain.At line (plain.Join e o) ∷ rest_of c.args.self.now.left)
    (point_of c.args.self.now)) (behind child (point_of c.args.self.now)
    (plain.At line (plain.Join e o) ∷ rest_of c.args.self.now.left)) c.args.joined c.args.self.now
    (record c.args.self.now {
      left = c.pass.new.self;
      «data» = record c.args.self.now.data { registers = c.set_number.new.numbers };
    })) (sym c.in-Some.is)
    (join_begun c.args.self.now c.pass.new.self line e c.in-Some.x child c.args.joined c.register_number-k.result c.set_number.new.numbers
    c.requires.clean c.pass.ensures c.register_number-k.ensures c.requires.registers set)

pub returns : goal.returns
returns c = λ child line e.
    subst (λ o. Begun (begin_actions (setting_of c.args.self.now) (plain.At line (plain.Join e o) ∷ rest_of c.args.self.now.left)
    (point_of c.args.self.now)) (behind child (point_of c.args.self.now)
    (plain.At line (plain.Join e o) ∷ rest_of c.args.self.now.left)) c.args.joined c.args.self.now
    (with_left c.args.self.now c.pass-2.new.self)) (sym c.in_default.is)
    (plainly_begun c.args.self.now c.pass-2.new.self line (plain.Join e None) child c.args.joined c.requires.clean refl c.pass-2.ensures)
