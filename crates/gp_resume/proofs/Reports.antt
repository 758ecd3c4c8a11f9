-- What a run comes to that went on from the rows of a log.
use Rattle.std.proofs.Common.{◌≡◌, inl, inr, ℕ, zero, suc, ◌+◌, ◌-◌, ◌<◌, ◌≤◌, ◌&&◌, nat_eq, false, List, [], ◌∷◌, length, map, Contains, Option, Some, None, Ok, Err, refl, sym, ap, ◌∙◌, subst, arith}
use Rattle.std.specs.Prelude.{ℤ, pos, negsuc, ◌≤ℤ◌, Result, IfOk, OnOk}
use Rattle.std.specs.List.{IsDistinct, AllByRecursion}
use Rattle.std.specs.Io.KnownBytes.{Appends}
use Rattle.std.proofs.lemmas.Bool.{cases_eq, ne_eqb}
use Rattle.gp_base.specs.meaning.Sinks.{AppendsPrefix}
use Rattle.gp_base.proofs.Written.{prefix_none}
use Rattle.gp_base.specs.declared.ending.End.{End}
use Rattle.gp_base.specs.declared.feed.Inputs.{Inputs}
use Rattle.gp_base.specs.declared.limits.Limits.{Limits}
use Rattle.task_ast.specs.meaning.Tree.{Program}
use Rattle.task_ast.specs.meaning.Names.{records_of, cells_in}
use Rattle.task_ast.specs.meaning.State.{cell_value}
use Rattle.task_ast.specs.meaning.Repeat.{Move, Goes, Ends, steps, state_after}
use Rattle.task_ast.specs.meaning.Table.{numbers}
use Rattle.task_ast.specs.meaning.Plain.{Subthread, ending_of}
use Rattle.task_ast.specs.meaning.Run.{Run, plain_move, plain_opening}
use Rattle.task_ast.specs.Plain.{Plain, tree_machine, move}
use Rattle.task_ast.specs.laws.Runs.{plain_for, IsInside}
use Rattle.task_ast.proofs.PlainSteps.{begins_of}
use Rattle.task_ast.proofs.Runs.{opening-inside, steps-are, after-is, ending-is}
use Rattle.dependence.specs.JournalTests.{same_attempt}
use Rattle.dependence.proofs.Struck.{Contains-head, Contains-later}
use Rattle.record_store.proofs.States.{records_law}
use Rattle.reorder_list.specs.declared.report.Report.{Report}
use Rattle.restart_log.specs.meaning.Lines.{printed}
use Rattle.retirement_log.specs.meaning.Rows.{Retirement}
use Rattle.subthread.specs.Tasks.{program_in}
use Rattle.gp_resume.specs.declared.course.ResumePlan.{ResumePlan}
use Rattle.gp_resume.specs.declared.course.Course.{Course}
use Rattle.gp_resume.specs.meaning.Fitting.{FitsMove, led_by, replayed, run_after, FitFrom, Fit, resumed_at, least_bytes}
use Rattle.gp_resume.specs.meaning.Resumed as resumed
use Rattle.gp_resume.specs.meaning.Resumed.{lines_of, bytes_before}
use Rattle.gp_resume.specs.Resuming.{AnswersLog, IsRefused, ReportsRest, IsEachOnce, AreSomeOnce, HasResumeCause, DrivesRest, bytes_from}
use Rattle.gp_resume.specs.declared.stop.ResumeStop.{ResumeStop}
use Rattle.gp_resume.specs.declared.stop.ResumeStop.TheVariants as stop
use Rattle.gp_resume.specs.meaning.Reading.{Rows, IsLogOf}
use Rattle.gp_resume.specs.declared.log.Logged.{Logged}
use Rattle.gp_resume.specs.inner.Course.{Stands, StandsAt}
use Rattle.gp_resume.specs.inner.Going.{left, rest, last, firsts_from, WentOn, Replays}
use Rattle.gp_resume.proofs.LogAnswers.{one-answer}
use Rattle.gp_resume.proofs.Plainly.{goes, replayed-inside, resumed-inside}

-- ---- the first attempts of positions in a row

firsts-apart : (q p n : ℕ) → q < p → AllByRecursion (λ pair. same_attempt (q, 0) pair ≡ false) (firsts_from p n)
firsts-apart q p zero less = tt
firsts-apart q p (suc n) less =
    (ap (λ b. b && nat_eq 0 0) (ne_eqb q p (λ same. omega arith)), firsts-apart q (suc p) n (omega arith))

firsts-distinct : (p n : ℕ) → IsDistinct same_attempt (firsts_from p n)
unfolding IsDistinct
firsts-distinct p zero = tt
firsts-distinct p (suc n) = (firsts-apart p (suc p) n (omega arith), firsts-distinct (suc p) n)

firsts-among : (p n q attempt : ℕ) → Contains (firsts_from p n) (q, attempt) → (p ≤ q) × (q < p + n) × (attempt ≡ 0)
firsts-among p zero q attempt (k, less, is) = absurd (omega arith)
firsts-among p (suc n) q attempt (zero, less, is) =
    let first = ap (λ (pair : ℕ × ℕ). pair.0) is in
    let second = ap (λ (pair : ℕ × ℕ). pair.1) is in
    (omega arith, omega arith, sym second)
firsts-among p (suc n) q attempt (suc k, less, is) =
    let later = firsts-among (suc p) n q attempt (k, omega arith, is) in
    let low = later.0 in
    let high = later.1 in
    (omega arith, omega arith, later.2)

firsts-has : (p n q : ℕ) → p ≤ q → q < p + n → Contains (firsts_from p n) (q, 0)
firsts-has p zero q low high = absurd (omega arith)
firsts-has p (suc n) q low high =
    elim (cases_eq q p) [
      | inl same ↦ subst (λ r. Contains (firsts_from p (suc n)) (r, 0)) (sym same) (Contains-head (p, 0) (firsts_from (suc p) n))
      | inr differ ↦ Contains-later (p, 0) (firsts_from (suc p) n) (q, 0) (firsts-has (suc p) n q (omega arith) (omega arith))
    ]

pub each-once : (posted : List (ℕ × ℕ)) (p n : ℕ) → posted ≡ firsts_from p n → IsEachOnce posted p (p + n)
each-once posted p n same =
    subst (λ pairs. IsEachOnce pairs p (p + n)) (sym same)
    (record {
      distinct = firsts-distinct p n;
      these = λ q attempt. (
        firsts-among p n q attempt,
        λ there. subst (λ a. Contains (firsts_from p n) (q, a)) (sym there.2) (firsts-has p n q there.0 there.1),
      );
    })

pub some-once : (posted : List (ℕ × ℕ)) (p n most : ℕ) → n ≤ most → posted ≡ firsts_from p n → AreSomeOnce posted p (p + most)
some-once posted p n most few same =
    subst (λ pairs. AreSomeOnce pairs p (p + most)) (sym same)
    (record {
      distinct = firsts-distinct p n;
      among = λ q attempt there.
          let is = firsts-among p n q attempt there in
          let high = is.1 in
          (is.0, omega arith, is.2);
    })

pub none-once : (posted : List (ℕ × ℕ)) (from to : ℕ) → posted ≡ [] → AreSomeOnce posted from to
unfolding IsDistinct
none-once posted from to none =
    subst (λ pairs. AreSomeOnce pairs from to) (sym none)
    (record { distinct = tt; among = λ q attempt there. let less = there.1 in absurd (omega arith) })

-- ---- what rows leave

-- the number is not negative
abbrev IsNatural : ℤ → Type 0
IsNatural (pos n) = Unit {0}
IsNatural (negsuc n) = ⊥

rises : (a b : ℤ) → IsNatural a → a ≤ℤ b → IsNatural b
rises (pos a) (pos b) low up = tt
rises (pos a) (negsuc b) low up = absurd up.le
rises (negsuc a) b low up = absurd low

natural : (z : ℤ) → IsNatural z → (n : ℕ) × (z ≡ pos n)
natural (pos n) low = (n, refl)
natural (negsuc n) low = absurd low

module _ (program : Program) (inputs : Inputs) (limits : Limits) where
  -- each row is of one position
  issued-after : (x : Run) (before : Option Retirement) (rows : List Retirement) → IsInside x → FitFrom program inputs limits x before rows
      → (run_after program inputs limits x rows).issued ≡ x.issued + length rows
  issued-after x before [] inside fit = omega arith
  issued-after x before (row ∷ rows) inside fit =
      go (plain_move program inputs limits x) refl fit (issued-after (replayed program inputs limits x row) (Some row) rows
      (replayed-inside program inputs limits x row inside))
    where
      go : (m : Move Run Subthread End) → plain_move program inputs limits x ≡ m
          → FitsMove program x m before row × FitFrom program inputs limits (replayed program inputs limits x row) (Some row) rows
          → (FitFrom program inputs limits (replayed program inputs limits x row) (Some row) rows
          → (run_after program inputs limits (replayed program inputs limits x row) rows).issued
          ≡ (replayed program inputs limits x row).issued + length rows)
          → (run_after program inputs limits (replayed program inputs limits x row) rows).issued ≡ x.issued + suc (length rows)
      go (Goes s y) is (fits, later) again =
          let all = again later in
          let led : (replayed program inputs limits x row).issued ≡ y.issued = ap (λ m. (led_by x row m).issued) is in
          let b =
          begins_of (tree_machine program inputs limits) (plain_for program limits x) s (plain_for program limits y)
          (goes program inputs limits x y s inside is) in
          let one : y.issued ≡ suc x.issued = ap (λ (z : Plain). z.table.issued) b.left ∙ ap suc b.same.issued in
          omega (arith, all, led, one)
      go (Ends end) is (fits, later) again = absurd fits

  pub issued-are : (rows : List Retirement) → Fit program inputs limits rows → (resumed_at program inputs limits rows).issued ≡ length rows
  issued-are rows fit =
      issued-after (plain_opening program inputs limits) None rows (opening-inside program inputs limits) fit
      ∙ (let same : 0 + length rows ≡ length rows = omega arith in same)

  -- the bytes of rows are a number of bytes
  bytes-rise : (x : Run) (before : Option Retirement) (rows : List Retirement) → FitFrom program inputs limits x before rows → (b : ℤ)
      → IsNatural b → IsNatural (least_bytes before) → IsNatural (bytes_from b rows)
  bytes-rise x before [] fit b low least = low
  bytes-rise x before (row ∷ rows) fit b low least =
      let more = go (plain_move program inputs limits x) fit.0 in
      bytes-rise (replayed program inputs limits x row) (Some row) rows fit.1 row.bytes more more
    where
      go : (m : Move Run Subthread End) → FitsMove program x m before row → IsNatural row.bytes
      go (Goes s y) fits = rises (least_bytes before) row.bytes least fits.bytes
      go (Ends end) fits = absurd fits

  pub bytes-natural : (rows : List Retirement) → Fit program inputs limits rows → (n : ℕ) × (bytes_before rows ≡ pos n)
  bytes-natural rows fit =
      natural (bytes_before rows) (bytes-rise (plain_opening program inputs limits) None rows fit (pos 0) tt tt)

-- ---- how the run goes on from them

module _ (plan : ResumePlan) (rows : List Retirement) (fit : Fit (program_in plan.work.now) plan.inputs.value plan.limits rows) where
  abbrev pub begun_at : Plain
  begun_at = plain_for (program_in plan.work.now) plan.limits (resumed_at (program_in plan.work.now) plan.inputs.value plan.limits rows)

  inside : IsInside (resumed_at (program_in plan.work.now) plan.inputs.value plan.limits rows)
  inside = resumed-inside (program_in plan.work.now) plan.inputs.value plan.limits rows

  pub issued-is : (resumed_at (program_in plan.work.now) plan.inputs.value plan.limits rows).issued ≡ length rows
  issued-is = issued-are (program_in plan.work.now) plan.inputs.value plan.limits rows fit

  left-is : left plan begun_at ≡ resumed.steps_left (program_in plan.work.now) plan.inputs.value plan.limits rows
  left-is = ap (λ n. suc plan.limits.subthreads - n) issued-is

  pub rest-is : rest plan begun_at ≡ resumed.rest (program_in plan.work.now) plan.inputs.value plan.limits rows
  rest-is =
      ap (λ n. steps (move (program_in plan.work.now) plan.inputs.value plan.limits) n begun_at) left-is
      ∙ sym (steps-are (program_in plan.work.now) plan.inputs.value plan.limits
      (resumed.steps_left (program_in plan.work.now) plan.inputs.value plan.limits rows)
      (resumed_at (program_in plan.work.now) plan.inputs.value plan.limits rows) inside)

  -- where the plain run has ended, and that its token is at a thread there
  ended-there : (plain_for (program_in plan.work.now) plan.limits (resumed.last (program_in plan.work.now) plan.inputs.value plan.limits rows)
      ≡ state_after (move (program_in plan.work.now) plan.inputs.value plan.limits)
      (resumed.steps_left (program_in plan.work.now) plan.inputs.value plan.limits rows) begun_at)
      × IsInside (resumed.last (program_in plan.work.now) plan.inputs.value plan.limits rows)
  ended-there =
      after-is (program_in plan.work.now) plan.inputs.value plan.limits
      (resumed.steps_left (program_in plan.work.now) plan.inputs.value plan.limits rows)
      (resumed_at (program_in plan.work.now) plan.inputs.value plan.limits rows) inside

  last-is : last plan begun_at
      ≡ plain_for (program_in plan.work.now) plan.limits (resumed.last (program_in plan.work.now) plan.inputs.value plan.limits rows)
  last-is =
      ap (λ n. state_after (move (program_in plan.work.now) plan.inputs.value plan.limits) n begun_at) left-is ∙ sym ended-there.0

  pub count-is : length rows + length (rest plan begun_at)
      ≡ resumed.count (program_in plan.work.now) plan.inputs.value plan.limits rows
  count-is = ap (λ run. length rows + length run) rest-is

  module _ (end : End) (course : Course) (went : WentOn plan begun_at end course) where
    cells-are : length course.store.cells ≡ cells_in (records_of (program_in plan.work.now).heads)
    cells-are = went.home.cells

    records-are : course.store.cells ≡ resumed.final_records (program_in plan.work.now) plan.inputs.value plan.limits rows
    records-are =
        records_law course.store
        ∙ (λ i. map (cell_value ((went.state ∙ ap (λ (p : Plain). p.state) last-is) i)) (numbers 0 (cells-are i)))

    pub reports : (bytes : ℕ) (report : Report) → pos bytes ≡ bytes_before rows → report.end ≡ end → report.records ≡ course.store.cells
        → report.subthreads ≡ course.issued → report.unused ≡ 0 → report.journal.events ≡ [] → report.journal.restarts ≡ []
        → ReportsRest (program_in plan.work.now) plan.inputs.value plan.limits rows bytes report
    reports bytes report bytes_are end_is records_are count_is unused events restarts =
        record {
          bytes_are = bytes_are;
          end = end_is ∙ went.end_is
              ∙ ap (λ (p : Plain). ending_of (move (program_in plan.work.now) plan.inputs.value plan.limits p)) last-is
              ∙ sym (ending-is (program_in plan.work.now) plan.inputs.value plan.limits
              (resumed.last (program_in plan.work.now) plan.inputs.value plan.limits rows) ended-there.1);
          records = records_are ∙ records-are;
          subthreads = count_is ∙ went.issued ∙ ap (λ n. n + length (rest plan begun_at)) issued-is ∙ count-is;
          unused = unused;
          events = events;
          restarts = restarts;
        }

  pub each-posted : (posted : List (ℕ × ℕ)) → posted ≡ firsts_from begun_at.table.issued (length (rest plan begun_at))
      → IsEachOnce posted (length rows) (resumed.count (program_in plan.work.now) plan.inputs.value plan.limits rows)
  each-posted posted are =
      subst (IsEachOnce posted (length rows)) count-is
      (each-once posted (length rows) (length (rest plan begun_at)) (are ∙ ap (λ p. firsts_from p (length (rest plan begun_at))) issued-is))

  pub some-posted : (posted : List (ℕ × ℕ))
      → (n : ℕ) × (n ≤ length (rest plan begun_at)) × (posted ≡ firsts_from begun_at.table.issued n)
      → AreSomeOnce posted (length rows) (resumed.count (program_in plan.work.now) plan.inputs.value plan.limits rows)
  some-posted posted (n, few, are) =
      subst (AreSomeOnce posted (length rows)) count-is
      (some-once posted (length rows) n (length (rest plan begun_at)) few (are ∙ ap (λ p. firsts_from p n) issued-is))

-- the rows of a log are these alone
pub same-rows : (program : Program) (inputs : Inputs) (limits : Limits) (bytes : List ℕ) (first second : List Retirement)
    → IsLogOf program inputs limits bytes first → IsLogOf program inputs limits bytes second → first ≡ second
same-rows program inputs limits bytes first second a b =
    let same = one-answer program inputs limits bytes (Rows first) (Rows second) a b in cc same

-- where a log has rows, and is not refused
pub told-answers : (A : Type 0) (program : Program) (inputs : Inputs) (limits : Limits) (bytes : List ℕ) (result : Result A ResumeStop)
    → ¬ IsRefused result → (rows : List Retirement) → IsLogOf program inputs limits bytes rows → AnswersLog program inputs limits bytes result
told-answers A program inputs limits bytes (Ok value) told rows is_log = (rows, is_log)
told-answers A program inputs limits bytes (Err (stop.LogLine number)) told rows is_log = absurd (told tt)
told-answers A program inputs limits bytes (Err (stop.LogFit number)) told rows is_log = absurd (told tt)
told-answers A program inputs limits bytes (Err stop.WriteFault) told rows is_log = (rows, is_log)
told-answers A program inputs limits bytes (Err stop.OutOfMemory) told rows is_log = tt

-- what went on from where the rows of a log leave the run
module _ (plan : ResumePlan) (log : List ℕ) (logged : Logged) (course : Course) (replays : Replays plan log logged course) where
  -- the bytes that the rows tell of
  pub log-bytes : (n : ℕ) × (logged.bytes ≡ pos n)
  log-bytes =
      let some = bytes-natural (program_in plan.work.now) plan.inputs.value plan.limits replays.rows replays.is_log.begins.fit in
      (some.0, replays.bytes ∙ some.1)

  module _ (rows : List Retirement) (is_log : IsLogOf (program_in plan.work.now) plan.inputs.value plan.limits log rows) where
    same : replays.rows ≡ rows
    same = same-rows (program_in plan.work.now) plan.inputs.value plan.limits log replays.rows rows replays.is_log is_log

    stands-there : Stands plan (begun_at plan rows is_log.begins.fit) course
    stands-there =
        (subst (λ rows. StandsAt plan (resumed_at (program_in plan.work.now) plan.inputs.value plan.limits rows) course) same
        replays.stands).stands

    pub all-reports : (end : End) (later : Course) → ((x : Plain) → Stands plan x course → WentOn plan x end later)
        → (bytes : ℕ) (report : Report) → pos bytes ≡ logged.bytes → report.end ≡ end → report.records ≡ later.store.cells
        → report.subthreads ≡ later.issued → report.unused ≡ 0 → report.journal.events ≡ [] → report.journal.restarts ≡ []
        → ReportsRest (program_in plan.work.now) plan.inputs.value plan.limits rows bytes report
    all-reports end later went bytes report bytes_are =
        reports plan rows is_log.begins.fit end later (went (begun_at plan rows is_log.begins.fit) stands-there) bytes report
        (bytes_are ∙ replays.bytes ∙ ap bytes_before same)

    pub all-lines : (before after : Option (List ℕ))
        → ((x : Plain) → Stands plan x course → Appends before after (printed (lines_of (rest plan x))))
        → Appends before after (printed (resumed.lines (program_in plan.work.now) plan.inputs.value plan.limits rows))
    all-lines before after wrote =
        subst (λ run. Appends before after (printed (lines_of run))) (rest-is plan rows is_log.begins.fit)
        (wrote (begun_at plan rows is_log.begins.fit) stands-there)

    pub all-partly : (before after : Option (List ℕ))
        → ((x : Plain) → Stands plan x course → AppendsPrefix before after (printed (lines_of (rest plan x))))
        → AppendsPrefix before after (printed (resumed.lines (program_in plan.work.now) plan.inputs.value plan.limits rows))
    all-partly before after wrote =
        subst (λ run. AppendsPrefix before after (printed (lines_of run))) (rest-is plan rows is_log.begins.fit)
        (wrote (begun_at plan rows is_log.begins.fit) stands-there)

    pub all-posts : (posted : List (ℕ × ℕ))
        → ((x : Plain) → Stands plan x course → posted ≡ firsts_from x.table.issued (length (rest plan x)))
        → IsEachOnce posted (length rows) (resumed.count (program_in plan.work.now) plan.inputs.value plan.limits rows)
    all-posts posted are =
        each-posted plan rows is_log.begins.fit posted (are (begun_at plan rows is_log.begins.fit) stands-there)

    pub all-some : (posted : List (ℕ × ℕ))
        → ((x : Plain) → Stands plan x course → (n : ℕ) × (n ≤ length (rest plan x)) × (posted ≡ firsts_from x.table.issued n))
        → AreSomeOnce posted (length rows) (resumed.count (program_in plan.work.now) plan.inputs.value plan.limits rows)
    all-some posted are =
        some-posted plan rows is_log.begins.fit posted (are (begun_at plan rows is_log.begins.fit) stands-there)

  -- what comes of it where it came to its end
  pub drives-to-end : (written written' : Option (List ℕ)) (faults faults' : ℕ) (posted : List (ℕ × ℕ)) (end : End) (later : Course)
      → ((x : Plain) → Stands plan x course → WentOn plan x end later)
      → ((x : Plain) → Stands plan x course → Appends written written' (printed (lines_of (rest plan x))))
      → ((x : Plain) → Stands plan x course → AppendsPrefix written written' (printed (lines_of (rest plan x))))
      → ((x : Plain) → Stands plan x course → posted ≡ firsts_from x.table.issued (length (rest plan x)))
      → ((x : Plain) → Stands plan x course → (n : ℕ) × (n ≤ length (rest plan x)) × (posted ≡ firsts_from x.table.issued n))
      → faults ≤ faults' → (bytes : ℕ) (report : Report) → pos bytes ≡ logged.bytes → report.end ≡ end → report.records ≡ later.store.cells
      → report.subthreads ≡ later.issued → report.unused ≡ 0 → report.journal.events ≡ [] → report.journal.restarts ≡ []
      → DrivesRest (program_in plan.work.now) plan.inputs.value plan.limits log written written' faults faults' posted (Ok (bytes, report))
  drives-to-end written written' faults faults' posted end later went wrote partly posts some more bytes report bytes_are is cells count none calm
      unstruck =
      record {
        log = (replays.rows, replays.is_log);
        refused = λ is. absurd is;
        unread = λ no. absurd (no replays.rows replays.is_log);
        report = λ rows is_log. all-reports rows is_log end later went bytes report bytes_are is cells count none calm unstruck;
        lines = λ rows is_log. all-lines rows is_log written written' wrote;
        partly = λ rows is_log. all-partly rows is_log written written' partly;
        posts = λ rows is_log. all-posts rows is_log posted posts;
        some = λ rows is_log. all-some rows is_log posted some;
        cause = record { later = more; failed = λ is. absurd (cc is) };
      }

  -- and where it stopped before
  pub drives-to-stop : (written written' : Option (List ℕ)) (faults faults' : ℕ) (posted : List (ℕ × ℕ))
      (result : Result (ℕ × Report) ResumeStop) (e : ResumeStop) → result ≡ Err e → ¬ IsRefused result → HasResumeCause faults faults' result
      → ((x : Plain) → Stands plan x course → AppendsPrefix written written' (printed (lines_of (rest plan x))))
      → ((x : Plain) → Stands plan x course → (n : ℕ) × (n ≤ length (rest plan x)) × (posted ≡ firsts_from x.table.issued n))
      → DrivesRest (program_in plan.work.now) plan.inputs.value plan.limits log written written' faults faults' posted result
  drives-to-stop written written' faults faults' posted result e is told cause partly some =
      record {
        log = told-answers (ℕ × Report) (program_in plan.work.now) plan.inputs.value plan.limits log result told replays.rows replays.is_log;
        refused = λ refused. absurd (told refused);
        unread = λ no. absurd (no replays.rows replays.is_log);
        report = subst (λ r. IfOk r (λ answer. (rows : List Retirement) → IsLogOf (program_in plan.work.now) plan.inputs.value plan.limits log rows
            → ReportsRest (program_in plan.work.now) plan.inputs.value plan.limits rows answer.0 answer.1)) (sym is) tt;
        lines = subst (λ r. OnOk r ((rows : List Retirement) → IsLogOf (program_in plan.work.now) plan.inputs.value plan.limits log rows
            → Appends written written' (printed (resumed.lines (program_in plan.work.now) plan.inputs.value plan.limits rows)))) (sym is) tt;
        partly = λ rows is_log. all-partly rows is_log written written' partly;
        posts = subst (λ r. OnOk r ((rows : List Retirement) → IsLogOf (program_in plan.work.now) plan.inputs.value plan.limits log rows
            → IsEachOnce posted (length rows) (resumed.count (program_in plan.work.now) plan.inputs.value plan.limits rows))) (sym is) tt;
        some = λ rows is_log. all-some rows is_log posted some;
        cause = cause;
      }

-- where the log was refused, or memory was out, before the run went on
pub drives-unbegun : (T : Type 0) (program : Program) (inputs : Inputs) (limits : Limits) (bytes : List ℕ) (written : Option (List ℕ))
    (faults : ℕ) (posted : List (ℕ × ℕ)) → posted ≡ [] → (e : ResumeStop) → (e ≡ stop.WriteFault → ⊥)
    → AnswersLog {T = T} program inputs limits bytes (Err e)
    → DrivesRest program inputs limits bytes written written faults faults posted (Err e)
drives-unbegun T program inputs limits bytes written faults posted none e unwritten answers =
    record {
      log = same-answer e answers;
      refused = λ refused. (refl, refl, none);
      unread = λ no. (refl, refl);
      report = tt;
      lines = tt;
      partly = λ rows is_log. prefix_none written (printed (resumed.lines program inputs limits rows));
      posts = tt;
      some = λ rows is_log. none-once posted (length rows) (resumed.count program inputs limits rows) none;
      cause = record {
        later = omega arith;
        failed = λ is. absurd (unwritten (cc is));
      };
    }
  where
    same-answer : (e : ResumeStop) → AnswersLog {T = T} program inputs limits bytes (Err e)
        → AnswersLog {T = ℕ × Report} program inputs limits bytes (Err e)
    same-answer (stop.LogLine number) is = is
    same-answer (stop.LogFit number) is = is
    same-answer stop.WriteFault is = is
    same-answer stop.OutOfMemory is = is
