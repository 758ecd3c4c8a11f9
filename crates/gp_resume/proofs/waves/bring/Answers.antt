use Rattle.std.proofs.Common.{sym}
use Rattle.gp_base.proofs.Written.{prefix_none}
use Rattle.restart_log.specs.meaning.Lines.{printed}
use Rattle.gp_resume.proofs.waves.bring.Goals as goal

pub returns-in_err-text-clause-partly : goal.returns-in_err-text-clause-partly
returns-in_err-text-clause-partly g c = prefix_none (g.O.Sink.written c.args.out.now) (printed c.args.done.effect.prints)

pub returns-clause-lines : goal.returns-clause-lines
returns-clause-lines g c = rw (sym c.take-lines.ensures.lines, sym c.in_ok-text.ensures, sym c.deref.ensures.value) c.put.ensures.all

pub returns-clause-partly : goal.returns-clause-partly
returns-clause-partly g c = rw (sym c.take-lines.ensures.lines, sym c.in_ok-text.ensures, sym c.deref.ensures.value) c.put.ensures.prefix
