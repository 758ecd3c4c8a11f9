use Rattle.std.proofs.Common.{◌≡◌, ◌+◌, ◌++◌, ◌<◌, ◌∙◌, length, ap, sym, subst, take, drop}
use Rattle.gp_base.specs.declared.limits.TheConstants.{MOST_VARIABLES}
use Rattle.std.proofs.lemmas.List.{length-append}
use Rattle.task_ast.specs.meaning.Names.{declared_in}
use Rattle.task_ast.specs.meaning.Declarations.{has_double, vars_visits}
use Rattle.task_ast.specs.meaning.Visit.{first_fault}
use Rattle.lock_checker.specs.inner.TaskVariables.{AreVariables}
use Rattle.lock_checker.proofs.VariableLemmas.{declared_more}
use Rattle.lock_checker.proofs.TaskLemmas.{lines_later}
use Rattle.lock_checker.proofs.tasks.check_lines.Goals as goal

pub loop-line-preserved : goal.loop-line-preserved
loop-line-preserved c =
    let before = c.args.params.now ++ declared_in (take c.loop-line.line-index c.args.lines.now) in
    let names = c.line-item.result.names in
    let more =
    declared_more c.args.params.now c.args.lines.now c.loop-line.line-index c.line-item.result c.loop-line-test.true c.line-item.is in
    let adds = c.in_ok-double.ensures before c.loop-line.invariant.variables in
    let count : c.loop-line.count + c.len-count.result ≡ length (before ++ names) =
    ap (λ n. n + c.len-count.result) c.loop-line.invariant.count ∙ ap (λ n. length before + n) c.len-count.ensures
    ∙ sym (length-append before names) in
    let few : c.loop-line.count + c.len-count.result < MOST_VARIABLES = c.if-count-ge-MOST_VARIABLES.false in
    record {
      variables = subst (AreVariables c.add_all.new.self) (ap (λ l. before ++ l) c.as_slice.ensures ∙ sym more) adds.variables;
      count = count ∙ ap length (sym more);
      few = few;
      told = ap (λ l. first_fault (vars_visits l (drop (c.loop-line.line-index + 1) c.args.lines.now))) more
          ∙ lines_later c.args.lines.now c.loop-line.line-index c.line-item.result c.loop-line-test.true c.line-item.is before
          (ap (has_double before) (sym c.as_slice.ensures) ∙ sym adds.told ∙ c.if-double.false)
          (subst (λ n. n < MOST_VARIABLES) count few)
          ∙ c.loop-line.invariant.told;
    }
