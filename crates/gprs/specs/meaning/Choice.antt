-- Which of the top calls takes words.
use Rattle.std.specs.Prelude.{ℕ, List, codes, if◌then◌else◌}
use Rattle.command_line.specs.meaning.Words.{begins_with, wants_pipe}
use Rattle.gprs.specs.declared.choice.TopCall.{TopCall}
use Rattle.gprs.specs.declared.choice.TopCall.TheVariants.{Run, Pipe, Audit, Ckpt, Log, Resume}

-- the call that audits, the call by checkpoints, the call with a log and the call from a log by their first words, the
-- call by lasting workers by the crew that is asked for, and that which runs and checks for all other words
abbrev pub top_call : List (List ℕ) → TopCall
top_call words =
    if begins_with (codes "audit") words then Audit
    else (if begins_with (codes "ckpt") words then Ckpt
    else (if begins_with (codes "log") words then Log
    else (if begins_with (codes "resume") words then Resume
    else (if wants_pipe words then Pipe else Run))))
