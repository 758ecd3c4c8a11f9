-- The text of a run, written in pieces.
use Rattle.std.proofs.Common.{ℕ, List, [], codes}
use Rattle.std.specs.declared.option.Option.{Option}
use Rattle.std.specs.Io.KnownBytes.{Appends}
use Rattle.gp_base.specs.meaning.Sinks.{AppendsPrefix}
use Rattle.gp_base.proofs.Written.{Appends-append, prefix_first, prefix_second, prefix_all}
use Rattle.restart_log.specs.meaning.Lines.{printed}
use Rattle.call_cases.specs.meaning.Texts.{Ran, run_tail, run_text}
use Rattle.batch_calls.specs.inner.Steps.{rest_text}

-- the first line, and the rest
module _ (ran : Ran) (before first : Option (List ℕ)) where
  pub part_of_first : AppendsPrefix before first (codes "output\n") → AppendsPrefix before first (run_text ran [] 0)
  part_of_first part = prefix_first before first (codes "output\n") (rest_text ran) part

  pub after_first : Appends before first (codes "output\n") → AppendsPrefix before first (run_text ran [] 0)
  after_first all = prefix_all before first (codes "output\n") (rest_text ran) all

-- the printed lines, and the tail
module _ (ran : Ran) (before first : Option (List ℕ)) where
  pub part_of_lines : AppendsPrefix before first (printed ran.lines) → AppendsPrefix before first (rest_text ran)
  part_of_lines part = prefix_first before first (printed ran.lines) (run_tail ran [] 0) part

  pub after_lines : Appends before first (printed ran.lines) → AppendsPrefix before first (rest_text ran)
  after_lines all = prefix_all before first (printed ran.lines) (run_tail ran [] 0) all

  module _ (second : Option (List ℕ)) (lines : Appends before first (printed ran.lines)) where
    pub part_of_tail : AppendsPrefix first second (run_tail ran [] 0) → AppendsPrefix before second (rest_text ran)
    part_of_tail part = prefix_second before first second (printed ran.lines) (run_tail ran [] 0) lines part

    pub whole_rest : Appends first second (run_tail ran [] 0) → Appends before second (rest_text ran)
    whole_rest tail = Appends-append before first second (printed ran.lines) (run_tail ran [] 0) lines tail
