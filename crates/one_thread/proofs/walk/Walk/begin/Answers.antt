use Rattle.std.proofs.Common.{◌∙◌, ap, sym, refl, rules, w64, SFits}
use Rattle.std.proofs.lemmas.Int.{to_z-of_z}
use Rattle.task_ast.specs.meaning.Tree as plain
use Rattle.task_ast.specs.View.{plain_expr, plain_exprs, plain_what}
use Rattle.task_ast.proofs.Views.{what_Fork, what_Join}
use Rattle.one_thread.proofs.OtherKinds.{begins-other}
use Rattle.one_thread.proofs.Walks.{with_left}
use Rattle.one_thread.proofs.Beginning.{plainly_begun, begun_first, begun_ok}
use Rattle.one_thread.proofs.walk.Walk.begin.Goals as goal

pub returns-in_default-what : goal.returns-in_default-what
returns-in_default-what g c =
    begun_first c.args.self.now c.first.new.self _ c.in-Some.s.now
    (plain_what c.in-Some.s.now.what) c.args.child c.args.joined c.in-Some.ensures.same c.in-Some.ensures.one refl
    (plainly_begun (with_left c.args.self.now c.first.new.self) c.pass.new.self c.in-Some.s.now.line
    (plain_what c.in-Some.s.now.what) c.args.child c.args.joined c.requires.clean
    (begins-other c.in-Some.s.now.what c.in_default-what.not-Fork c.in_default-what.not-Join) c.pass.ensures)

pub returns-in-Join : goal.returns-in-Join
returns-in-Join g c =
    let fits : SFits w64 c.args.joined = search rules in
    let begun = rw (to_z-of_z w64 c.args.joined fits) at c.begin_join.ensures in
    begun_first c.args.self.now c.first.new.self c.begin_join.new.self c.in-Some.s.now
    (plain.Join (plain_expr c.in-Join.field-0) c.in-Join.into) c.args.child c.args.joined c.in-Some.ensures.same c.in-Some.ensures.one
    (ap plain_what c.in-Join.is ∙ what_Join c.in-Join.field-0 c.in-Join.into)
    (begun c.args.child c.in-Some.s.now.line (plain_expr c.in-Join.field-0))

pub returns-in_ok-give_registers-in-Fork : goal.returns-in_ok-give_registers-in-Fork
returns-in_ok-give_registers-in-Fork g c =
    begun_ok c.begin_fork.result c.args.self.now c.first.new.self c.give_registers.new.self c.begin_fork.new.self c.in-Some.s.now
    c.in-Fork.t (plain_exprs c.as_slice.result.now) c.in-Fork.into c.args.child c.args.joined
    c.in-Some.ensures.same c.in-Some.ensures.one
    (ap plain_what c.in-Fork.is ∙ what_Fork c.in-Fork.t c.in-Fork.es c.in-Fork.into
    ∙ ap (λ es. plain.Fork c.in-Fork.t (plain_exprs es) c.in-Fork.into) (sym c.as_slice.ensures))
    c.in_ok-give_registers-in-Fork.ensures c.begin_fork.ensures
