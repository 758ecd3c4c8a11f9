use Rattle.std.proofs.Common.{◌≡◌, ◌+◌, ◌<◌, ◌≤◌, ◌∙◌, ap, sym, subst, length, get_or, take, drop, rules}
use Rattle.gp_base.specs.declared.limits.TheConstants.{MOST_CELLS}
use Rattle.std.specs.Prelude.{Some, None}
use Rattle.task_ast.specs.meaning.Declarations.{head_visit, head_visits}
use Rattle.task_ast.specs.View.{plain_program}
use Rattle.task_ast.specs.meaning.Visit.{first_fault}
use Rattle.lock_checker.specs.inner.Heads.{AreHeads}
use Rattle.lock_checker.specs.inner.Faults.{lowest}
use Rattle.lock_checker.proofs.HeadLemmas.{heads_more, heads_later, head_told, locks_kept, records_kept}
use Rattle.lock_checker.proofs.program.check_heads.Goals as goal

pub returns-in-Some-clause-visits : goal.returns-in-Some-clause-visits
returns-in-Some-clause-visits c =
    let before = take c.loop-head.head-index c.args.program.now.heads in
    sym c.loop-head.invariant.told
    ∙ head_told (plain_program c.args.program.now) c.args.program.now.heads c.loop-head.head-index c.head-item.result (search rules)
    (search rules) before c.in-Some.kind
    (sym (c.in-Some.ensures c.args.program.now before c.requires c.loop-head.invariant.heads))
    ∙ ap (λ n. Some (c.in-Some.kind, n)) (sym c.line_of.ensures)

pub loop-head-preserved : goal.loop-head-preserved
loop-head-preserved c =
    let program = plain_program c.args.program.now in
    let heads = c.args.program.now.heads in
    let head = c.head-item.result in
    let before = take c.loop-head.head-index heads in
    let none : lowest (head_visit program before head).fails ≡ None =
    sym (c.rule_at.ensures c.args.program.now before c.requires c.loop-head.invariant.heads) ∙ c.in_default.is in
    let within : c.loop-head.head-index < length heads = search rules in
    let is : head ≡ get_or heads c.loop-head.head-index head = search rules in
    let more = heads_more program heads c.loop-head.head-index head within is in
    let are = c.in_ok-add.ensures before c.loop-head.invariant.heads in
    record {
      heads = subst (AreHeads c.add.new.self) (sym more) are;
      locks =
          locks_kept program before head none c.add.new.self are
          (subst (λ n. n ≤ MOST_CELLS) c.loop-head.invariant.heads.lock_cells c.loop-head.invariant.locks);
      records =
          records_kept program before head none c.add.new.self are
          (subst (λ n. n ≤ MOST_CELLS) c.loop-head.invariant.heads.record_cells c.loop-head.invariant.records);
      told = ap (λ l. first_fault (head_visits program l (drop (c.loop-head.head-index + 1) heads))) more
          ∙ heads_later program heads c.loop-head.head-index head within is before none
          ∙ c.loop-head.invariant.told;
    }
