use Rattle.std.proofs.Common.{◌∙◌, ap, sym, refl, rules, SFits, w64}
use Rattle.std.proofs.lemmas.Int.{to_z-of_z}
use Rattle.std.proofs.lemmas.Bool.{ltb-false}
use Rattle.std.proofs.lemmas.Option.{slice_get_past}
use Rattle.task_ast.specs.meaning.State.{number_at}
use Rattle.one_thread.proofs.Looking.{at-get}
use Rattle.one_thread.proofs.ThreadLemmas.{registers-there, registers-missing}
use Rattle.one_thread.proofs.threads.first_register.Goals as goal

pub returns-in-Some : goal.returns-in-Some
returns-in-Some c =
    let fits : SFits w64 c.number_at.result = search rules in
    let at =
    at-get c.args.threads.now c.args.threads.now c.args.h c.in-Some.walk.now refl c.in-Some.ensures.lookup.0
    c.in-Some.ensures.lookup.1 in
    to_z-of_z w64 c.number_at.result fits ∙ c.number_at.ensures
    ∙ ap (λ l. number_at l 0) (c.as_slice.ensures ∙ sym (registers-there c.args.threads.now c.args.h c.in-Some.walk.now at))

pub returns-in-None : goal.returns-in-None
returns-in-None c =
    ap (λ l. number_at l 0) (sym (registers-missing c.args.threads.now c.args.h
    (slice_get_past c.args.threads.now c.args.h (ltb-false c.args.h _ (sym c.in-None.ensures.lookup.0)))))
