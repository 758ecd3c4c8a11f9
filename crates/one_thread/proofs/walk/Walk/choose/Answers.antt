use Rattle.std.proofs.Common.{◌++◌, rules, sym, refl, SFits, w64, ◌∙◌, ap}
use Rattle.std.proofs.lemmas.Int.{to_z-of_z}
use Rattle.task_ast.specs.View.{plain_expr, plain_stmts}
use Rattle.one_thread.proofs.Steps.{block_taken}
use Rattle.one_thread.proofs.walk.Walk.choose.Goals as goal

pub returns-in_ok-enter-in-Some : goal.returns-in_ok-enter-in-Some
returns-in_ok-enter-in-Some g c =
    let fits : SFits w64 c.in-Some.v = search rules in
    let takes = rw (to_z-of_z w64 c.in-Some.v fits) at c.taken.ensures in
    block_taken c.args.self.now _ c.args.line (plain_expr c.args.e.now) c.args.first.now c.args.second.now c.taken.result.now c.in-Some.v
    c.requires.clean (sym c.in-Some.ensures) takes
    (c.in_ok-enter-in-Some.ensures ∙ ap (λ l. plain_stmts c.taken.result.now ++ l) c.pass.ensures) refl
    (record { at = refl; keeps = record { program = refl; task = refl; registers = refl; feeds = refl; clean = c.requires.clean } })
