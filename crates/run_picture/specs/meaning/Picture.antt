-- The picture of a run and of the restarts that faults make of it: its elements in their order, and the text of them.
use Rattle.std.specs.Prelude.{ℕ, zero, suc, ◌+◌, Bool, true, false, cond, ◌||◌, nat_eq, Option, unwrap_or, slice_get, List, [], ◌∷◌, ◌++◌, length, map, codes, decimal}
use Rattle.std.specs.List.{list_any}
use Rattle.gp_base.specs.declared.ending.End.{End}
use Rattle.gp_base.specs.declared.fault.Fault.{Fault}
use Rattle.gp_base.specs.declared.feed.Inputs.{Inputs}
use Rattle.gp_base.specs.declared.journal.Restart.{Restart}
use Rattle.gp_base.specs.declared.limits.Limits.{Limits}
use Rattle.task_ast.specs.declared.tree.Head.{Head}
use Rattle.task_ast.specs.meaning.Tree.{Program}
use Rattle.task_ast.specs.meaning.Plain.{Subthread}
use Rattle.task_ast.specs.meaning.Run.{plain_order, plain_before, plain_end}
use Rattle.dependence.specs.meaning.Restarts.{redoes}
use Rattle.dependence.specs.meaning.Runs.{restarts_of}
use Rattle.gp_audit.specs.declared.line.TraceLine.{TraceLine}
use Rattle.run_views.specs.meaning.Order.{end_line}
use Rattle.run_picture.specs.declared.elements.Element.{Element}
use Rattle.run_picture.specs.declared.told.Told.{Told}
use Rattle.run_picture.specs.declared.told.Told.TheVariants.{Unrun, Untold, Taken, Stale}
use Rattle.run_picture.specs.meaning.Elements.{Layout, opening, elements_text}
use Rattle.run_picture.specs.meaning.Attempts.{Tells, Values, told_of, boxes}

-- an element that says nothing more when it is pointed at
abbrev pub plain : (class words : List ℕ) → Element
plain class words = record { class = class; title = []; words = words }

-- how many subthreads and restarts there are, and how the run ends
unfoldable pub summary : (positions restarts : ℕ) → End → List ℕ
summary positions restarts ending =
    decimal positions ++ codes " subthreads, " ++ decimal restarts ++ codes " restarts, " ++ end_line ending

-- whether a restart redoes the position, or has its front right after it
abbrev pub is_touched : List Restart → (position : ℕ) → Bool
is_touched restarts p = list_any (λ r. redoes p r || nat_eq r.front (suc p)) restarts

-- whether a position has a column: each that a restart touches has one
abbrev pub has_column : (shows : ℕ → Bool) → List Restart → (position : ℕ) → Bool
has_column shows restarts p = shows p || is_touched restarts p

-- how many of so many positions, from this one on, come before the first that has a column
abbrev pub hidden : (shows : ℕ → Bool) → List Restart → (positions p : ℕ) → ℕ
hidden shows restarts zero p = 0
hidden shows restarts (suc n) p = cond (has_column shows restarts p) 0 (suc (hidden shows restarts n (suc p)))

-- whether an attempt was not run
abbrev pub is_unrun : Told → Bool
is_unrun Unrun = true
is_unrun told = false

-- how many of so many positions were not run at first, from this one on
abbrev pub unrun_from : Tells → (positions p : ℕ) → ℕ
unrun_from tells zero p = 0
unrun_from tells (suc n) p = cond (is_unrun (tells p 0)) 1 0 + unrun_from tells n (suc p)

-- so many that were not run, where there are any
abbrev pub unrun_text : (count : ℕ) → List ℕ
unrun_text count = cond (nat_eq count 0) [] (codes ", " ++ decimal count ++ codes " not run")

-- what stands for so many positions without a column, from this one on
unfoldable pub fold_text : Tells → (first count : ℕ) → List ℕ
fold_text tells first count =
    decimal count ++ codes " subthreads from " ++ decimal first ++ codes " on, without a restart" ++ unrun_text (unrun_from tells count first)

-- what a restart of this number did, in words
unfoldable pub note : (number : ℕ) → Restart → List ℕ
note number r =
    decimal number ++ codes ": front " ++ decimal r.front ++ codes " attempt " ++ decimal r.attempt ++ codes " of " ++ decimal r.struck
    ++ codes " struck redone " ++ decimal (length r.redo)

-- those of the restarts that have their front right after a position, where the first of them has this number
abbrev pub fronts : (position number : ℕ) → List Restart → List Element
fronts p number [] = []
fronts p number (r ∷ later) =
    cond (nat_eq r.front (suc p)) (record { class = codes "front"; title = note number r; words = decimal number } ∷ []) []
    ++ fronts p (suc number) later

-- the column of a subthread
abbrev pub column : List Head → Tells → List Restart → (position : ℕ) → Subthread → Values → List Element
column heads tells restarts p s values =
    plain (codes "column") (decimal p) ∷ boxes heads tells p s values 0 1 restarts ++ fronts p 1 restarts

-- The columns of subthreads, the first of which is at this position. Those that follow on one another without a column are told together, where
-- the first of them is.
abbrev pub columns : (shows : ℕ → Bool) → List Head → Tells → (values : (position thread : ℕ) → Values) → List Restart → (follows : Bool)
    → (position : ℕ) → List Subthread → List Element
columns shows heads tells values restarts follows p [] = []
columns shows heads tells values restarts follows p (s ∷ run) =
    cond (has_column shows restarts p) (column heads tells restarts p s (values p s.thread))
    (cond follows (plain (codes "fold") (fold_text tells p (hidden shows restarts (suc (length run)) p)) ∷ []) [])
    ++ columns shows heads tells values restarts (has_column shows restarts p) (suc p) run

-- a note for each restart, where the first of them has this number
abbrev pub notes : (number : ℕ) → List Restart → List Element
notes number [] = []
notes number (r ∷ restarts) = plain (codes "note") (note number r) ∷ [] ++ notes (suc number) restarts

-- the elements of a picture: how many subthreads and restarts there are and how the run ends, what frames it, its columns, and its notes
abbrev pub elements : Layout → List Head → Tells → (values : (position thread : ℕ) → Values) → List Subthread → End → List Restart
    → List Element
elements layout heads tells values run ending restarts =
    plain (codes "run") (summary (length run) (length restarts) ending) ∷ map (λ part. plain part.0 part.1) layout.frame
    ++ columns layout.shows heads tells values restarts true 0 run ++ notes 1 restarts

-- the picture of these subthreads, of how their run ends and of its restarts
abbrev pub picture : Layout → List Head → Tells → (values : (position thread : ℕ) → Values) → List Subthread → End → List Restart → List ℕ
picture layout heads tells values run ending restarts =
    opening layout.width layout.height ++ elements_text layout.place 0 (elements layout heads tells values run ending restarts) ++ codes "</svg>\n"

-- the control variables of a thread before a position
abbrev pub values_before : Program → Inputs → Limits → (position thread : ℕ) → Values
values_before program inputs limits p t =
    unwrap_or (slice_get (map (λ th. th.at.names) (plain_before program inputs limits p).threads) t) []

-- the picture of a program's run with these faults, and with what a trace tells of it, where there is one
unfoldable pub timeline_text : Layout → Program → Inputs → Limits → List Fault → Option (List TraceLine) → List ℕ
timeline_text layout program inputs limits faults trace =
    let run = plain_order program inputs limits in
    picture layout program.heads (told_of trace) (values_before program inputs limits) run (plain_end program inputs limits)
    (restarts_of run faults)
