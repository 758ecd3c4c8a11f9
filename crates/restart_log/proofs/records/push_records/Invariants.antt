use Rattle.std.proofs.Common.{◌≡◌, ◌++◌, drop, flat_map}
use Rattle.task_ast.specs.meaning.Layout.{cut}
use Rattle.task_ast.specs.meaning.Names.{records_of}
use Rattle.restart_log.specs.meaning.Tail.{record_line}
use Rattle.restart_log.proofs.records.push_records.Given as goal

-- the lines so far, and those of the heads that are left, are all
abbrev pub invariant-loop-head : goal.invariant-loop-head
invariant-loop-head l =
    l.text.items ++ flat_map record_line (cut (records_of (drop l.head-index l.heads)) l.rest)
    ≡ l.fn.text.items ++ flat_map record_line (cut (records_of l.heads) l.cells)
