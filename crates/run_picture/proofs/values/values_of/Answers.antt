use Rattle.std.proofs.Common.{◌≡◌, [], map, refl, sym, ap, ◌∙◌}
use Rattle.std.specs.Prelude.{Some, None, unwrap_or, slice_get}
use Rattle.std.proofs.lemmas.Bool.{ltb-false}
use Rattle.std.proofs.lemmas.Option.{slice_get_past}
use Rattle.std.proofs.lemmas.Result.{IfOk-weaker}
use Rattle.task_ast.specs.meaning.Control.{Point}
use Rattle.one_thread.specs.Walking.{point_of}
use Rattle.one_thread.proofs.Looking.{at-get}
use Rattle.run_picture.proofs.Coming.{read-some, read-none}
use Rattle.run_picture.proofs.values.values_of.Goals as goal

pub returns-in-Some : goal.returns-in-Some
returns-in-Some c =
    let all = map point_of c.args.walks.now in
    let there : slice_get c.args.walks.now c.args.thread ≡ Some c.in-Some.walk.now =
    ap (slice_get c.args.walks.now) (sym c.thread.view_is)
    ∙ at-get c.args.walks.now c.args.walks.now c.thread.inside.0 c.in-Some.walk.now refl c.in-Some.ensures.lookup.0 c.in-Some.ensures.lookup.1 in
    IfOk-weaker c.copied_values.result _
    (λ values. values ≡ unwrap_or (slice_get (map (λ (p : Point). p.names) all) c.args.thread) [])
    (λ values is. is ∙ c.as_slice.ensures ∙ read-some c.args.walks.now c.args.thread c.in-Some.walk.now there)
    c.copied_values.ensures

pub returns-in-None : goal.returns-in-None
returns-in-None c =
    let there : slice_get c.args.walks.now c.args.thread ≡ None =
    ap (slice_get c.args.walks.now) (sym c.thread.view_is)
    ∙ slice_get_past c.args.walks.now c.thread.inside.0 (ltb-false c.thread.inside.0 _ (sym c.in-None.ensures.lookup.0)) in
    c.new.ensures ∙ read-none c.args.walks.now c.args.thread there
