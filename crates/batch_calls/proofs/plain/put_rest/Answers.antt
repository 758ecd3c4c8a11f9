use Rattle.std.proofs.Common.{rules, subst, ap, ◌∙◌}
use Rattle.std.specs.Io.KnownBytes.{Appends}
use Rattle.gp_base.specs.meaning.Sinks.{AppendsPrefix}
use Rattle.task_ast.specs.View.{plain_program}
use Rattle.lock_checker.specs.Accepted.{program_of}
use Rattle.restart_log.specs.meaning.Lines.{printed}
use Rattle.batch_calls.specs.inner.Steps.{lines_in, ran_in}
use Rattle.batch_calls.proofs.RunPieces.{part_of_lines, after_lines, part_of_tail, whole_rest}
use Rattle.batch_calls.proofs.PlainTexts.{tail_by}
use Rattle.batch_calls.proofs.plain.put_rest.Goals as goal

pub returns-in_err-put_all-clause-prefix : goal.returns-in_err-put_all-clause-prefix
returns-in_err-put_all-clause-prefix g c =
    let ran = ran_in (plain_program (program_of c.args.checked.now)).heads c.args.ran.now in
    let before = g.O.Sink.written c.args.out.now in
    let first = g.O.Sink.written c.put_all.new.to in
    let lines = c.deref.ensures.value ∙ c.in_ok-text.ensures ∙ ap (λ order. printed (lines_in order)) c.as_slice.ensures in
    let prefix = part_of_lines ran before first (subst (AppendsPrefix before first) lines c.in_err-put_all.ensures.prefix) in
    search (rules, prefix)

pub returns-in_err-tail-clause-prefix : goal.returns-in_err-tail-clause-prefix
returns-in_err-tail-clause-prefix g c =
    let ran = ran_in (plain_program (program_of c.args.checked.now)).heads c.args.ran.now in
    let before = g.O.Sink.written c.args.out.now in
    let first = g.O.Sink.written c.put_all.new.to in
    let lines = c.deref.ensures.value ∙ c.in_ok-text.ensures ∙ ap (λ order. printed (lines_in order)) c.as_slice.ensures in
    let prefix = after_lines ran before first (subst (Appends before first) lines c.in_ok-put_all.ensures.all) in
    search (rules, prefix)

pub returns-in_err-put_all-2-clause-prefix : goal.returns-in_err-put_all-2-clause-prefix
returns-in_err-put_all-2-clause-prefix g c =
    let ran = ran_in (plain_program (program_of c.args.checked.now)).heads c.args.ran.now in
    let before = g.O.Sink.written c.args.out.now in
    let first = g.O.Sink.written c.put_all.new.to in
    let second = g.O.Sink.written c.put_all-2.new.to in
    let lines = c.deref.ensures.value ∙ c.in_ok-text.ensures ∙ ap (λ order. printed (lines_in order)) c.as_slice.ensures in
    let tail =
    tail_by (plain_program (program_of c.args.checked.now)).heads c.args.ran.now c.len-subthreads.result c.as_slice-3.result.now
    c.in_ok-tail.tail c.as_slice-2.result.now c.as_slice-2.ensures c.len-subthreads.ensures c.in_ok-tail.ensures c.as_slice-3.ensures in
    let prefix =
    part_of_tail ran before first second (subst (Appends before first) lines c.in_ok-put_all.ensures.all)
    (subst (AppendsPrefix first second) tail c.in_err-put_all-2.ensures.prefix) in
    search (rules, prefix)

pub returns-clause-all : goal.returns-clause-all
returns-clause-all g c =
    let ran = ran_in (plain_program (program_of c.args.checked.now)).heads c.args.ran.now in
    let before = g.O.Sink.written c.args.out.now in
    let first = g.O.Sink.written c.put_all.new.to in
    let second = g.O.Sink.written c.put_all-2.new.to in
    let lines = c.deref.ensures.value ∙ c.in_ok-text.ensures ∙ ap (λ order. printed (lines_in order)) c.as_slice.ensures in
    let tail =
    tail_by (plain_program (program_of c.args.checked.now)).heads c.args.ran.now c.len-subthreads.result c.as_slice-3.result.now
    c.in_ok-tail.tail c.as_slice-2.result.now c.as_slice-2.ensures c.len-subthreads.ensures c.in_ok-tail.ensures c.as_slice-3.ensures in
    whole_rest ran before first second (subst (Appends before first) lines c.in_ok-put_all.ensures.all)
    (subst (Appends first second) tail c.in_ok-put_all-2.ensures.all)
