-- The text that tells why a position was redone: its line in the order; for each restart that redoes it a line, and the links that lead
-- from it down to the position that was struck; and how many restarts redo it.
use Rattle.std.specs.Prelude.{ℕ, zero, suc, cond, List, [], ◌∷◌, ◌++◌, Option, Some, None, map, option_map, codes, decimal, slice_get}
use Rattle.std.specs.Option.{option_map_or}
use Rattle.gp_base.specs.declared.fault.Fault.{Fault}
use Rattle.gp_base.specs.declared.feed.Inputs.{Inputs}
use Rattle.gp_base.specs.declared.journal.Restart.{Restart}
use Rattle.gp_base.specs.declared.limits.Limits.{Limits}
use Rattle.task_ast.specs.declared.tree.Head.{Head}
use Rattle.task_ast.specs.meaning.Tree.{Program}
use Rattle.task_ast.specs.meaning.Names.{records_of, cells_in}
use Rattle.task_ast.specs.meaning.Plain.{Subthread}
use Rattle.task_ast.specs.meaning.Run.{plain_order}
use Rattle.dependence.specs.meaning.Restarts.{redoes, attempt_of}
use Rattle.dependence.specs.meaning.Runs.{restarts_of}
use Rattle.run_views.specs.declared.links.Link.{Link}
use Rattle.run_views.specs.declared.links.Link.TheVariants.{GoesOn, JoinsAfter, RunsIn, JoinsForked, Names}
use Rattle.run_views.specs.meaning.Order.{cell_name, order_line}
use Rattle.run_views.specs.meaning.Links.{Party, party_of, linked, link_of}

-- a record cell, where there is one
abbrev pub record_text : List Head → (cell : Option ℕ) → List ℕ
record_text heads None = []
record_text heads (Some cell) = cell_name (records_of heads) cell

-- the line of a link between position q and an earlier one
abbrev pub link_line : List Head → (q r : ℕ) → Link → List ℕ
link_line heads q r (GoesOn thread) =
    decimal q ++ codes " goes on in thread " ++ decimal thread ++ codes " after " ++ decimal r ++ codes "\n"
link_line heads q r (JoinsAfter thread) =
    decimal q ++ codes " joins thread " ++ decimal thread ++ codes " after " ++ decimal r ++ codes "\n"
link_line heads q r (RunsIn thread) =
    decimal q ++ codes " runs in thread " ++ decimal thread ++ codes " that " ++ decimal r ++ codes " forked\n"
link_line heads q r (JoinsForked thread) =
    decimal q ++ codes " joins thread " ++ decimal thread ++ codes " that " ++ decimal r ++ codes " forked\n"
link_line heads q r (Names cell) = decimal q ++ codes " and " ++ decimal r ++ codes " name " ++ record_text heads cell ++ codes "\n"

-- the line of a position that has no link
abbrev pub struck_line : (q : ℕ) → List ℕ
struck_line q = decimal q ++ codes " was struck\n"

-- the line of the link between two subthreads at their positions
abbrev pub link_text : List Head → (q r : ℕ) → (later earlier : Option Party) → List ℕ
link_text heads q r (Some later) (Some earlier) = link_line heads q r (link_of (cells_in (records_of heads)) later earlier)
link_text heads q r later earlier = []

-- the lines from position q down, of so many links at most: each leads to the next one, and the last tells what was struck
abbrev pub chain : List Head → List Party → (redo : List ℕ) → (most q : ℕ) → List ℕ
chain heads parties redo zero q = struck_line q
chain heads parties redo (suc most) q =
    option_map_or (λ r. link_text heads q r (slice_get parties q) (slice_get parties r) ++ chain heads parties redo most r)
    (linked parties redo q) (struck_line q)

-- the line of the restart of this number
abbrev pub why_line : (number : ℕ) → Restart → List ℕ
why_line number r =
    codes "restart " ++ decimal number ++ codes " front " ++ decimal r.front ++ codes " struck " ++ decimal r.struck ++ codes " try "
    ++ decimal r.attempt ++ codes "\n"

-- its lines, where it redoes p; each link goes down, so there are no more than p
abbrev pub restart_text : List Head → List Party → (p number : ℕ) → Restart → List ℕ
restart_text heads parties p number r = cond (redoes p r) (why_line number r ++ chain heads parties r.redo p p) []

-- those of restarts, of which the first has this number
abbrev pub restart_texts : List Head → List Party → (p number : ℕ) → List Restart → List ℕ
restart_texts heads parties p number [] = []
restart_texts heads parties p number (r ∷ later) = restart_text heads parties p number r ++ restart_texts heads parties p (suc number) later

-- how many restarts redo p
abbrev pub redone_line : (p : ℕ) → List Restart → List ℕ
redone_line p restarts = codes "redone " ++ decimal (attempt_of restarts p) ++ codes "\n"

-- the text of the subthread at position p
abbrev pub why_lines : List Head → List Party → List Restart → (p : ℕ) → Subthread → List ℕ
why_lines heads parties restarts p s = order_line heads p s ++ restart_texts heads parties p 1 restarts ++ redone_line p restarts

-- why position p of a program's run was redone with these faults, where there is such a position
unfoldable pub why_text : Program → Inputs → Limits → List Fault → (p : ℕ) → Option (List ℕ)
why_text program inputs limits faults p =
    let run = plain_order program inputs limits in
    option_map (why_lines program.heads (map party_of run) (restarts_of run faults) p) (slice_get run p)
