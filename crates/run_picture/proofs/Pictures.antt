-- The picture of the code's steps is that of the subthreads that they show.
use Rattle.std.proofs.Common.{◌≡◌, ℕ, zero, suc, ◌+◌, ◌-◌, ◌<◌, ◌≤◌, Bool, true, cond, decimal, List, [], ◌∷◌, ◌++◌, Option, Some, None, length, map, drop, get_or, codes, refl, sym, ap, ap₂, ◌∙◌, add-one, append_assoc, arith}
use Rattle.std.specs.Prelude.{⊤, slice_get, unwrap_or}
use Rattle.std.proofs.lemmas.List.{length-map, length-drop, drop_more}
use Rattle.gp_base.specs.declared.ending.End.{End}
use Rattle.gp_base.specs.declared.fault.Fault.{Fault}
use Rattle.gp_base.specs.declared.feed.Inputs.{Inputs}
use Rattle.gp_base.specs.declared.journal.Restart.{Restart}
use Rattle.gp_base.specs.declared.limits.Limits.{Limits}
use Rattle.gp_base.specs.declared.limits.TheConstants.{MOST_SUBTHREADS, MOST_FAULTS}
use Rattle.task_ast.specs.declared.tree.Head.{Head}
use Rattle.task_ast.specs.meaning.Tree.{Program}
use Rattle.task_ast.specs.meaning.Plain.{Subthread}
use Rattle.task_ast.specs.meaning.Run.{plain_order, plain_end}
use Rattle.one_thread.specs.declared.run.PlainRun.{PlainRun}
use Rattle.one_thread.specs.declared.run.Step.{Step}
use Rattle.one_thread.specs.PlainRuns.{IsPlainRun, shown}
use Rattle.dependence.specs.meaning.Restarts.{redoes, restarts}
use Rattle.dependence.specs.meaning.Runs.{restarts_of}
use Rattle.dependence.proofs.RestartEnds.{few-restarts}
use Rattle.gp_audit.specs.declared.line.TraceLine.{TraceLine}
use Rattle.gp_audit.specs.Steps.{dependence_by}
use Rattle.gp_audit.proofs.Orders.{order-is}
use Rattle.gp_audit.proofs.StepOrder.{steps-struck}
use Rattle.run_views.specs.Seen.{seen}
use Rattle.run_views.proofs.Endings.{same_order, same_end}
use Rattle.run_views.proofs.SeenSteps.{child_written}
use Rattle.run_picture.specs.declared.columns.View.{View}
use Rattle.run_picture.specs.declared.elements.Drawing.{Drawing}
use Rattle.run_picture.specs.declared.elements.Element.{Element}
use Rattle.run_picture.specs.declared.frame.Part.{Part}
use Rattle.run_picture.specs.meaning.Elements.{Layout, opening, elements_text}
use Rattle.run_picture.specs.meaning.Attempts.{Tells, Values, told_of, title, attempt_box, ended_by, boxes}
use Rattle.run_picture.specs.meaning.Picture.{plain, summary, has_column, hidden, fold_text, fronts, column, columns, notes, elements, picture, values_before, timeline_text}
use Rattle.run_picture.specs.inner.Drawn.{place_in, parts_in, shows_in, values_in, shown_elements, values_from}
use Rattle.run_picture.specs.inner.Tellings.{found}

-- a subthread without its actions
abbrev bare : Subthread → Subthread
bare s = record s { actions = [] }

seen-is : (s : Subthread) → seen (shown s) ≡ bare s
seen-is s = λ i. record { thread = s.thread; begins = s.begins; child = child_written s i; held = s.held; actions = []; lines = s.lines }

length-seen : (run : List Subthread) → length (map seen (map shown run)) ≡ length run
length-seen run = length-map (map shown run) seen ∙ length-map run shown

-- at each of these subthreads, the first of which is at this position, both say the same of its thread
abbrev Same : (known values : ℕ → ℕ → Values) (p : ℕ) → List Subthread → Type 0
Same known values p [] = ⊤
Same known values p (s ∷ run) = (known p s.thread ≡ values p s.thread) × Same known values (suc p) run

-- a picture says nothing of actions
module _ (heads : List Head) (tells : Tells) (restarts : List Restart) where
  boxes-bare : (p : ℕ) (s : Subthread) (values : Values) (attempt number : ℕ) (those : List Restart)
      → boxes heads tells p (bare s) values attempt number those ≡ boxes heads tells p s values attempt number those
  unfolding title attempt_box
  boxes-bare p s values attempt number [] = refl
  boxes-bare p s values attempt number (r ∷ later) =
      ap₂ (λ yes no. cond (redoes p r) (attempt_box heads p s values attempt (ended_by p number r) (tells p attempt) ∷ [] ++ yes) no)
      (boxes-bare p s values (suc attempt) (suc number) later) (boxes-bare p s values attempt (suc number) later)

  column-seen : (p : ℕ) (s : Subthread) (values : Values)
      → column heads tells restarts p (seen (shown s)) values ≡ column heads tells restarts p s values
  column-seen p s values =
      ap (λ t. column heads tells restarts p t values) (seen-is s)
      ∙ ap (λ own. plain (codes "column") (decimal p) ∷ own ++ fronts p 1 restarts) (boxes-bare p s values 0 1 restarts)

  module _ (shows : ℕ → Bool) where
    abbrev folded : (follows : Bool) (p count : ℕ) → List Element
    folded follows p count = cond follows (plain (codes "fold") (fold_text tells p (hidden shows restarts count p)) ∷ []) []

    columns-seen : (known values : ℕ → ℕ → Values) (follows : Bool) (p : ℕ) (run : List Subthread) → Same known values p run
        → columns shows heads tells known restarts follows p (map seen (map shown run))
        ≡ columns shows heads tells values restarts follows p run
    columns-seen known values follows p [] same = refl
    columns-seen known values follows p (s ∷ run) same =
        let here = has_column shows restarts p in
        ap₂ (λ own later. own ++ later)
        (ap₂ (λ own count. cond here own (folded follows p (suc count)))
        (column-seen p s (known p s.thread) ∙ ap (column heads tells restarts p s) same.0) (length-seen run))
        (columns-seen known values here (suc p) run same.1)

    -- the column of one step more was put
    pub columns-next : (values : ℕ → ℕ → Values) (follows here : Bool) (p : ℕ) (steps : List Step) (step : Step)
        (before now all : List Element) → p < length steps
        → step ≡ get_or steps p step → here ≡ has_column shows restarts p
        → before ++ columns shows heads tells values restarts follows p (map seen (drop p steps)) ≡ all
        → now ≡ before ++ cond (has_column shows restarts p) (column heads tells restarts p (seen step) (values p (seen step).thread))
        (cond follows (plain (codes "fold") (fold_text tells p (hidden shows restarts (length steps - p) p)) ∷ []) [])
        → now ++ columns shows heads tells values restarts here (p + 1) (map seen (drop (p + 1) steps)) ≡ all
    columns-next values follows here p steps step before now all less is here_is so_far put =
        let rest = drop (p + 1) steps in
        let first : drop p steps ≡ step ∷ rest = drop_more steps p step less ∙ ap (λ s. s ∷ rest) (sym is) in
        let own : ℕ → List Element =
        λ count. cond (has_column shows restarts p) (column heads tells restarts p (seen step) (values p (seen step).thread))
        (folded follows p count) in
        let later : Bool → ℕ → List Element = λ h q. columns shows heads tells values restarts h q (map seen rest) in
        let left : length (map seen rest) ≡ length steps - (p + 1) = length-map rest seen ∙ length-drop (p + 1) steps in
        let count : length steps - p ≡ suc (length (map seen rest)) = omega (arith, less, left) in
        ap (λ l. l ++ later here (p + 1)) put ∙ append_assoc before (own (length steps - p)) (later here (p + 1))
        ∙ ap₂ (λ n q. before ++ (own n ++ later here q)) count (add-one p)
        ∙ ap (λ h. before ++ (own (suc (length (map seen rest))) ++ later h (suc p))) here_is
        ∙ sym (ap (λ those. before ++ columns shows heads tells values restarts follows p (map seen those)) first) ∙ so_far

  picture-seen : (layout : Layout) (known values : ℕ → ℕ → Values) (run : List Subthread) (ending : End) → Same known values 0 run
      → picture layout heads tells known (map seen (map shown run)) ending restarts ≡ picture layout heads tells values run ending restarts
  picture-seen layout known values run ending same =
      ap₂ (λ count own. opening layout.width layout.height
      ++ elements_text layout.place 0
      (plain (codes "run") (summary count (length restarts) ending) ∷ map (λ part. plain part.0 part.1) layout.frame ++ own ++ notes 1 restarts)
      ++ codes "</svg>\n") (length-seen run) (columns-seen layout.shows known values true 0 run same)

-- a picture that was put together piece by piece
pub picture-made : (view : View) (frame : List Part) (ending : End) (drawing : Drawing) (height : ℕ) (first second third text : List ℕ)
    → drawing.elements ≡ shown_elements view (parts_in frame) ending → first ≡ opening view.bands.now.width height
    → second ≡ first ++ elements_text (place_in drawing) 0 drawing.elements → third ≡ second ++ codes "</svg>\n" → text ≡ third
    → (layout : Layout) × (text ≡ picture layout view.heads.now (found view.tellings.now) (values_in view.known.now) (map seen view.order.now) ending
    view.restarts.now)
picture-made view frame ending drawing height first second third text shows begun drew closed taken =
    let end : List ℕ = codes "</svg>\n" in
    let place = place_in drawing in
    let start : List ℕ = opening view.bands.now.width height in
    let of : ℕ → List Element =
    λ count. plain (codes "run") (summary count (length view.restarts.now) ending) ∷ map (λ part. plain part.0 part.1) (parts_in frame)
    ++ columns (shows_in view.bands.now) view.heads.now (found view.tellings.now) (values_in view.known.now) view.restarts.now true 0
    (map seen view.order.now)
    ++ notes 1 view.restarts.now in (
      record { width = view.bands.now.width; height = height; frame = parts_in frame; shows = shows_in view.bands.now; place = place },
      taken ∙ closed ∙ ap (λ l. l ++ end) (drew ∙ ap (λ l. l ++ elements_text place 0 drawing.elements) begun)
          ∙ ap (λ those. start ++ elements_text place 0 those ++ end) shows
          ∙ ap (λ count. start ++ elements_text place 0 (of count) ++ end) (sym (length-map view.order.now seen)),
    )

-- what is read of a list, and what is left of it after that
read : {A : Type 0} (xs : List A) (p : ℕ) (x : A) (rest : List A) → drop p xs ≡ x ∷ rest
    → (slice_get xs p ≡ Some x) × (drop (suc p) xs ≡ rest)
read [] zero x rest is = cc is
read [] (suc p) x rest is = cc is
read (y ∷ xs) zero x rest is = (let same : y ≡ x = cc is in ap Some same, let same : xs ≡ rest = cc is in same)
read (y ∷ xs) (suc p) x rest is = read xs p x rest is

module _ (program : Program) (inputs : Inputs) (limits : Limits) where
  -- what was taken of each step is what its thread has
  values-same : (known : List Values) (p : ℕ) (run : List Subthread) → drop p known ≡ values_from program inputs limits p (map shown run)
      → Same (values_in known) (values_before program inputs limits) p run
  values-same known p [] is = tt
  values-same known p (s ∷ run) is =
      let found = read known p (values_before program inputs limits p s.thread) (values_from program inputs limits (suc p) (map shown run)) is in
      (ap (λ o. unwrap_or o []) found.0, values-same known (suc p) run found.1)

  module _ (run : PlainRun) (is : IsPlainRun program inputs limits run) (faults : List Fault) (made : List Restart)
      (made_is : made ≡ restarts (dependence_by run.order) faults) where
    -- no more restarts than faults
    pub few-made : length faults ≤ MOST_FAULTS → length made ≤ 1000
    few-made most =
        let all = few-restarts (dependence_by run.order) (steps-struck run.order) faults in let same = ap length made_is in
        omega (arith, all, same)

    -- the picture of the code's run is that of the plain run
    pub picture-shown : (layout : Layout) (heads : List Head) → heads ≡ program.heads → (trace : Option (List TraceLine)) (tells : Tells)
        → ((p attempt : ℕ) → tells p attempt ≡ told_of trace p attempt) → (known : List Values)
        → known ≡ values_from program inputs limits 0 run.order
        → picture layout heads tells (values_in known) (map seen run.order) run.end made ≡ timeline_text layout program inputs limits faults trace
    unfolding timeline_text
    picture-shown layout heads same trace tells tell known known_is =
        let run_is = plain_order program inputs limits in
        let order_is : run.order ≡ map shown run_is = same_order program inputs limits run is in
        let told : tells ≡ told_of trace = λ i p attempt. tell p attempt i in
        let all : made ≡ restarts_of run_is faults =
        made_is ∙ ap (λ d. restarts d faults) (ap dependence_by order_is ∙ order-is run_is) in
        ap₂ (λ h t. picture layout h t (values_in known) (map seen run.order) run.end made) same told
        ∙ ap₂ (λ steps e. picture layout program.heads (told_of trace) (values_in known) (map seen steps) e made) order_is
        (same_end program inputs limits run is)
        ∙ ap (picture layout program.heads (told_of trace) (values_in known) (map seen (map shown run_is)) (plain_end program inputs limits)) all
        ∙ picture-seen program.heads (told_of trace) (restarts_of run_is faults) layout (values_in known)
        (values_before program inputs limits) run_is (plain_end program inputs limits)
        (values-same known 0 run_is (known_is ∙ ap (values_from program inputs limits 0) order_is))
