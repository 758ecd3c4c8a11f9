-- What a picture shows and where its elements stand, by the values of the code.
use Rattle.std.specs.Prelude.{ℕ, suc, true, false, Bool, List, [], ◌∷◌, ◌++◌, length, map, codes, unwrap_or, slice_get}
use Rattle.gp_base.specs.declared.ending.End.{End}
use Rattle.gp_base.specs.declared.feed.Inputs.{Inputs}
use Rattle.gp_base.specs.declared.limits.Limits.{Limits}
use Rattle.task_ast.specs.meaning.Tree.{Program}
use Rattle.one_thread.specs.declared.run.Step.{Step}
use Rattle.run_views.specs.Seen.{seen}
use Rattle.run_picture.specs.declared.columns.View.{View}
use Rattle.run_picture.specs.declared.elements.Drawing.{Drawing}
use Rattle.run_picture.specs.declared.elements.Element.{Element}
use Rattle.run_picture.specs.declared.elements.Place.{Place}
use Rattle.run_picture.specs.declared.frame.Part.{Part}
use Rattle.run_picture.specs.declared.layout.Bands.{Bands}
use Rattle.run_picture.specs.meaning.Attempts.{Values}
use Rattle.run_picture.specs.meaning.Picture.{plain, summary, columns, notes, values_before}
use Rattle.run_picture.specs.inner.Tellings.{found}

abbrev pub nowhere : Place
nowhere = record { left = 0; top = 0; width = 0; height = 0; across = 0; base = 0 }

-- the place of an element by its number
abbrev pub place_in : Drawing → (number : ℕ) → Place
place_in drawing n = unwrap_or (slice_get drawing.places.items n) nowhere

-- what frames a picture, by classes and words
abbrev pub parts_in : List Part → List (List ℕ × List ℕ)
parts_in = map (λ (part : Part). (part.class, part.words))

-- the positions that have a column though no restart touches them
abbrev pub shows_in : Bands → (position : ℕ) → Bool
shows_in bands p = unwrap_or (slice_get bands.shown.items p) false

-- the control variables at a position, whatever the thread
abbrev pub values_in : List Values → (position thread : ℕ) → Values
values_in known p t = unwrap_or (slice_get known p) []

-- the elements of a picture in this frame
abbrev pub shown_elements : View → (frame : List (List ℕ × List ℕ)) → End → List Element
shown_elements view frame ending =
    plain (codes "run") (summary (length view.order.now) (length view.restarts.now) ending) ∷ map (λ part. plain part.0 part.1) frame
    ++ columns (shows_in view.bands.now) view.heads.now (found view.tellings.now) (values_in view.known.now) view.restarts.now true 0
    (map seen view.order.now)
    ++ notes 1 view.restarts.now

-- the control variables of the threads of these steps before them, the first of which is at this position
abbrev pub values_from : Program → Inputs → Limits → (position : ℕ) → List Step → List Values
values_from program inputs limits p [] = []
values_from program inputs limits p (step ∷ steps) =
    values_before program inputs limits p step.thread ∷ values_from program inputs limits (suc p) steps
