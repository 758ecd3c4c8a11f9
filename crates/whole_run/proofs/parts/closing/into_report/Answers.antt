use Rattle.std.proofs.Common.{◌∙◌, ap, refl, length, ◌-◌}
use Rattle.whole_run.specs.inner.Kept.{batch_in}
use Rattle.whole_run.proofs.AllHome.{all-home}
use Rattle.whole_run.proofs.Closed.{records-are, restarts-within}
use Rattle.whole_run.proofs.parts.closing.into_report.Goals as goal

pub overflow_sub-unused : goal.overflow_sub-unused
overflow_sub-unused c =
    let within = restarts-within (batch_in c.args.plan.now) c.args.parts c.requires.kept in
    rw (c.len.ensures, c.len-2.ensures) within

pub into_records-requires : goal.into_records-requires
into_records-requires c = all-home (batch_in c.args.plan.now) c.args.parts c.requires.kept c.requires.home

pub returns : goal.returns
returns c =
    record {
      end = refl;
      records = c.into_records.ensures ∙ records-are (batch_in c.args.plan.now) c.args.parts c.requires.kept;
      subthreads = c.requires.kept.journal.issued_are;
      unused = rw (c.len.ensures, c.len-2.ensures)
          (ap (λ restarts. length c.args.plan.now.faults.list - length restarts) c.requires.kept.journal.restarts_are);
      journal = record { events = c.into_seq.ensures; restarts = c.into_seq-2.ensures ∙ c.requires.kept.journal.restarts_are };
    }
