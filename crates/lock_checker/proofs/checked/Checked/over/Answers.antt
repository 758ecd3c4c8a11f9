use Rattle.std.proofs.Common.{ℕ, List, ap, ◌∙◌}
use Rattle.std.specs.Prelude.{slice_get}
use Rattle.task_ast.specs.View.{plain_program}
use Rattle.task_ast.proofs.Layouts.{accepted_sizes}
use Rattle.lock_checker.proofs.LayoutLemmas.{over_got}
use Rattle.lock_checker.proofs.checked.Checked.over.Goals as goal

pub returns : goal.returns
returns c cell =
    let program = c.args.self.now.program in
    ap (λ (l : List ℕ). slice_get l cell) (c.from_vec.ensures ∙ c.in_ok-locks_over.ensures)
    ∙ over_got program.heads (accepted_sizes (plain_program program) c.args.self.now.accepted) cell
