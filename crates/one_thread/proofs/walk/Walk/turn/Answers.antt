use Rattle.std.proofs.Common.{rules, sym, SFits, w64}
use Rattle.std.proofs.lemmas.Int.{to_z-of_z}
use Rattle.task_ast.specs.View.{plain_expr}
use Rattle.one_thread.proofs.Steps.{turn_found}
use Rattle.one_thread.proofs.walk.Walk.turn.Goals as goal

pub returns-else-is_zero : goal.returns-else-is_zero
returns-else-is_zero g c =
    let fits : SFits w64 c.in-Some.v = search rules in
    let test = rw (to_z-of_z w64 c.in-Some.v fits) at c.if-is_zero.ensures in
    turn_found c.args.self.now c.args.line (plain_expr c.args.e.now) c.args.body c.in-Some.v c.requires.clean c.requires.first
    (sym c.in-Some.ensures) (sym test)
