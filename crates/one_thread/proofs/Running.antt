-- How the loop of the code follows the plain run. The loop keeps that the order so far, with what the plain run goes on
-- to issue from here, is the whole order, and that its parts stand for the state, the table and the points of the plain
-- run (Holds). A turn that issues is a move of the plain run, after which fewer subthreads are left; one that ends is
-- its end.
use Rattle.std.proofs.Common.{◌≡◌, ℕ, zero, suc, ◌+◌, ◌-◌, ◌<◌, ◌≤◌, ℤ, List, [], ◌∷◌, ◌++◌, map, length, Option, Some, refl, sym, ap, ◌∙◌, subst, arith, append_assoc, append-nil}
use Rattle.std.proofs.lemmas.List.{length-map}
use Rattle.gp_base.specs.declared.limits.Limits.{Limits}
use Rattle.gp_base.specs.declared.feed.Inputs.{Inputs}
use Rattle.gp_base.specs.declared.ending.End.{End}
use Rattle.task_ast.specs.declared.tree.Program.{Program as Code}
use Rattle.task_ast.specs.declared.sync.SyncOp.{SyncOp}
use Rattle.task_ast.specs.declared.sync.SyncOp.TheVariants as sync
use Rattle.task_ast.specs.declared.sync.Next.{Next}
use Rattle.task_ast.specs.meaning.Names.{records_of, cells_in}
use Rattle.task_ast.specs.meaning.State.{number_at, cell_value}
use Rattle.task_ast.specs.meaning.Action.{Action}
use Rattle.task_ast.specs.meaning.Footprint.{named_by}
use Rattle.task_ast.specs.meaning.Repeat.{Move, Goes, Ends, steps, state_after, steps_from, state_from}
use Rattle.task_ast.specs.meaning.Table.{numbers, owned_from}
use Rattle.task_ast.specs.Table.{Table as PlainTable}
use Rattle.task_ast.specs.meaning.Turn.{child_of}
use Rattle.task_ast.specs.Turn.{Turn as PlainTurn, Issue, next_issue}
use Rattle.task_ast.specs.meaning.Plain.{Subthread, ending_of}
use Rattle.task_ast.specs.Plain.{Plain, on_turn, move, opening, last_state}
use Rattle.task_ast.specs.View.{plain_program}
use Rattle.task_ast.proofs.Counting.{length-with_nth}
use Rattle.one_thread.specs.declared.seats.Table.{Table}
use Rattle.one_thread.specs.declared.threads.Run.{Run}
use Rattle.one_thread.specs.declared.run.Step.{Step}
use Rattle.one_thread.specs.declared.run.Move.{Move as Found}
use Rattle.one_thread.specs.Holding.{AreHeld}
use Rattle.one_thread.specs.View.{table_of, seat_of, WalksStand}
use Rattle.one_thread.specs.Walking.{point_of}
use Rattle.one_thread.specs.Runs.{Holds, grown}
use Rattle.one_thread.specs.PlainRuns.{shown, IsPlainRun}
use Rattle.one_thread.specs.Moves.{foot_with, Stepped, Went, Halted, Follows, Ahead}
use Rattle.one_thread.proofs.Issues.{Issues, issued-so}
use Rattle.one_thread.proofs.Performing.{actions, after_it, lines-are, named-are, holds-after, threads-after}

grown-least : (op : SyncOp) (n : ℕ) → n ≤ grown op n
grown-least (sync.Fork k values) n = omega arith
grown-least sync.Start n = omega arith
grown-least (sync.Lock l) n = omega arith
grown-least (sync.Unlock l) n = omega arith
grown-least (sync.Join h) n = omega arith
grown-least (sync.Barrier b) n = omega arith
grown-least (sync.Settle register control) n = omega arith
grown-least sync.End n = omega arith
grown-least sync.BadIndex n = omega arith
grown-least sync.Spent n = omega arith

-- an issue is of a thread that is there
pub issue-inside : (table after : Table) (t : ℕ) (next : Next) (child : Option ℕ)
    → next_issue (table_of table) ≡ Issue t next child (table_of after) → t < length table.seats.items
issue-inside table after t next child is =
    let issues = issued-so (table_of table) t next child (table_of after) is in
    let inside = issues.inside in
    let all = length-map table.seats.items seat_of in
    omega arith

-- and stays there
pub issue-stays : (table after : Table) (t : ℕ) (next : Next) (child : Option ℕ)
    → next_issue (table_of table) ≡ Issue t next child (table_of after) → t < length after.seats.items
issue-stays table after t next child is =
    let issues = issued-so (table_of table) t next child (table_of after) is in
    let inside = issues.inside in
    let grows = issues.threads_are in
    let least = grown-least next.sync (length (map seat_of table.seats.items)) in
    let there = length-map after.seats.items seat_of in
    omega arith

module _ (code : Code) (inputs : Inputs) (limits : Limits) (old : Run) (plain : Plain) (holds : Holds code inputs limits old plain) where
  -- the turn that the plain run finds
  same-turn : (turn : PlainTurn) → next_issue (table_of old.table) ≡ turn
      → move (plain_program code) inputs limits plain ≡ on_turn (plain_program code) inputs limits plain turn
  same-turn turn is = ap (on_turn (plain_program code) inputs limits plain) (ap next_issue (sym holds.table) ∙ is)

  module _ (after : Table) (t : ℕ) (begins : Next) (child : Option ℕ) (step : Step) (new : Run) where
    abbrev mid : Run
    mid = record old { table = after }

    abbrev plain_mid : Plain
    plain_mid = record plain { table = table_of after }

    pub issue-goes : AreHeld after.owners.owners.items after.owners.held.items → WalksStand after → length old.threads.items ≡ length old.table.seats.items
        → next_issue (table_of old.table) ≡ Issue t begins child (table_of after)
        → Stepped mid t begins child step new → Went code inputs limits plain step new
    issue-goes held walks alike is stepped =
        record {
          subthread = _;
          then = after_it code inputs limits mid plain_mid holds_mid t begins child stepped.told new stepped.performed;
          moves = same-turn (Issue t begins child (table_of after)) is;
          shows =
              ap (λ x. record step { thread = x }) stepped.thread_is
              ∙ ap (λ x. record step { thread = t; begins = x }) stepped.begins_is
              ∙ ap (λ x. record step { thread = t; begins = begins; held = x }) stepped.held_is
              ∙ ap (λ x. record step { thread = t; begins = begins; held = held_now; foot = x }) foot_are
              ∙ ap (λ x. record {
                thread = t;
                begins = begins;
                held = held_now;
                foot = foot_with t begins.sync child (named_by does);
                prints = x;
              })
              (stepped.prints_are ∙ lines-are code inputs limits mid plain_mid holds_mid t begins child stepped.told new stepped.performed);
          holds =
              holds-after code inputs limits mid plain_mid holds_mid t begins child stepped.told new stepped.performed
              (issues.child_is ∙ ap (child_of begins.sync) many);
          alike =
              threads-after code inputs limits mid plain_mid holds_mid t begins child stepped.told new stepped.performed
              ∙ ap (grown begins.sync) (sym many) ∙ sym issues.threads_are
              ∙ sym (length-with_nth (table_of after).seats t (λ s. record s { next = Some stepped.performed.done.next }))
              ∙ ap (λ (table : PlainTable). length table.seats) (sym stepped.performed.table) ∙ length-map new.table.seats.items seat_of;
          below = subst (λ (table : PlainTable). table.issued < table.limit) holds.table issues.below;
          issued_is = issues.issued_is ∙ ap (λ (table : PlainTable). suc table.issued) holds.table;
          limit_is = issues.limit_is ∙ ap (λ (table : PlainTable). table.limit) holds.table;
        }
      where
        issues : Issues (table_of old.table).limit (table_of old.table).issued
            (length (table_of old.table).seats) t begins child (table_of after)
        issues = issued-so (table_of old.table) t begins child (table_of after) is

        many : length (map seat_of old.table.seats.items) ≡ length old.threads.items
        many = length-map old.table.seats.items seat_of ∙ sym alike

        holds_mid : Holds code inputs limits mid plain_mid
        holds_mid =
            record {
              program = holds.program;
              slots = holds.slots;
              turns = holds.turns;
              feeds = holds.feeds;
              held = held;
              walks = walks;
              table = refl;
              sound = holds.sound;
              points = holds.points;
              registers = holds.registers;
              cells = holds.cells;
              many = holds.many;
            }

        held_now : List ℕ
        held_now = owned_from 0 after.owners.owners.items t

        does : List Action
        does = actions code inputs limits mid plain_mid holds_mid t begins child stepped.told new stepped.performed

        foot_are : step.foot ≡ foot_with t begins.sync child (named_by does)
        foot_are =
            stepped.foot_is
            ∙ ap (foot_with t begins.sync child) (named-are code inputs limits mid plain_mid holds_mid t begins child
            stepped.told new stepped.performed)

-- ---- the loop
order-more : (done : List Step) (step : Step) (s : Subthread) (rest : List Subthread) → step ≡ shown s
    → (done ++ step ∷ []) ++ map shown rest ≡ done ++ map shown (s ∷ rest)
order-more done step s rest is = append_assoc done (step ∷ []) (map shown rest) ∙ ap (λ x. done ++ x ∷ map shown rest) is

module _ (code : Code) (inputs : Inputs) (limits : Limits) where
  abbrev goes : Plain → Move Plain Subthread End
  goes = move (plain_program code) inputs limits

  pub steps-goes : (l : ℕ) (p next : Plain) (s : Subthread) → goes p ≡ Goes s next → steps goes (suc l) p ≡ s ∷ steps goes l next
  unfolding steps
  steps-goes l p next s is = ap (λ m. steps_from goes m (steps goes l)) is

  pub state-goes : (l : ℕ) (p next : Plain) (s : Subthread) → goes p ≡ Goes s next → state_after goes (suc l) p ≡ state_after goes l next
  unfolding state_after
  state-goes l p next s is = ap (λ m. state_from goes p m (state_after goes l)) is

  pub steps-ends : (l : ℕ) (p : Plain) (e : End) → goes p ≡ Ends e → steps goes l p ≡ []
  unfolding steps
  steps-ends zero p e is = refl
  steps-ends (suc l) p e is = ap (λ m. steps_from goes m (steps goes l)) is

  state-ends : (l : ℕ) (p : Plain) (e : End) → goes p ≡ Ends e → state_after goes l p ≡ p
  unfolding state_after
  state-ends zero p e is = refl
  state-ends (suc l) p e is = ap (λ m. state_from goes p m (state_after goes l)) is

  -- a subthread more
  pub ahead-more : (done : List Step) (step : Step) (old new : Run) → (ahead : Ahead code inputs limits done old)
      → Went code inputs limits ahead.plain step new → Ahead code inputs limits (done ++ step ∷ []) new
  ahead-more done step old new ahead went = go ahead.left refl
    where
      go : (left : ℕ) → ahead.left ≡ left → Ahead code inputs limits (done ++ step ∷ []) new
      go zero is = absurd (let c = ahead.count_is in let b = ahead.below in omega arith)
      go (suc l) is =
          record {
            plain = went.then;
            left = l;
            holds = went.holds;
            alike = went.alike;
            order_is =
                order-more done step went.subthread (steps goes l went.then) went.shows
                ∙ ap (λ (s : List Subthread). done ++ map shown s)
                (sym (steps-goes l ahead.plain went.then went.subthread went.moves) ∙ ap (λ n. steps goes n ahead.plain) (sym is))
                ∙ ahead.order_is;
            last_is =
                sym (ap (λ n. state_after goes n ahead.plain) is ∙ state-goes l ahead.plain went.then went.subthread went.moves)
                ∙ ahead.last_is;
            count_is = let c = ahead.count_is in let i = went.issued_is in omega arith;
            limit_is = went.limit_is ∙ ahead.limit_is;
            below = let b = went.below in let i = went.issued_is in let l = ahead.limit_is in omega arith;
          }

  -- the cells are those of the records
  map-numbers : (f : ℕ → ℤ) (cells : List ℤ) (n a : ℕ) → length cells ≡ n → ((c : ℕ) → c < n → number_at cells c ≡ f (a + c))
      → cells ≡ map f (numbers a n)
  map-numbers f [] zero a many each = refl
  map-numbers f [] (suc n) a many each = absurd (omega arith)
  map-numbers f (v ∷ cells) zero a many each = absurd (omega arith)
  map-numbers f (v ∷ cells) (suc n) a many each =
      ap (λ x. x ∷ cells) (each 0 (omega arith) ∙ ap f (omega arith))
      ∙ ap (λ l. f a ∷ l) (map-numbers f cells n (suc a) (omega arith) (λ c less. each (suc c) (omega arith) ∙ ap f (omega arith)))

  -- the end
  pub ahead-ends : (done : List Step) (run : Run) (e : End) (cells : List ℤ) → (ahead : Ahead code inputs limits done run)
      → Halted code inputs limits ahead.plain e → cells ≡ run.shared.cells
      → IsPlainRun (plain_program code) inputs limits (record { order = done; records = cells; «end» = e })
  ahead-ends done run e cells ahead halted same =
      record {
        order =
            sym (append-nil done) ∙ ap (λ (s : List Subthread). done ++ map shown s)
            (sym (steps-ends ahead.left ahead.plain e halted.moves)) ∙ ahead.order_is;
        records =
            same
            ∙ map-numbers (cell_value ahead.plain.state) run.shared.cells (cells_in (records_of code.heads)) 0 ahead.holds.many
            (λ c less. ahead.holds.cells c less ∙ ap (cell_value ahead.plain.state) (omega arith))
            ∙ ap (λ (p : Plain). map (cell_value p.state) (numbers 0 (cells_in (records_of code.heads)))) last;
        «end» = sym (ap ending_of (ap goes (sym last) ∙ halted.moves));
      }
    where
      last : ahead.plain ≡ last_state (plain_program code) inputs limits
      last = sym (state-ends ahead.left ahead.plain e halted.moves) ∙ ahead.last_is

  -- the start
  pub ahead-start : (run : Run) → Holds code inputs limits run (opening (plain_program code) inputs limits)
      → Ahead code inputs limits [] run
  ahead-start run holds =
      record {
        plain = opening (plain_program code) inputs limits;
        left = suc limits.subthreads;
        holds = holds;
        alike =
            sym (length-map run.threads.items point_of) ∙ ap length holds.points
            ∙ ap (λ (table : PlainTable). length table.seats) (sym holds.table) ∙ length-map run.table.seats.items seat_of;
        order_is = refl;
        last_is = refl;
        count_is = omega arith;
        limit_is = refl;
        below = omega arith;
      }

  -- fewer subthreads are left
  pub ahead-smaller : (done : List Step) (step : Step) (old new : Run) → (ahead : Ahead code inputs limits done old)
      → Went code inputs limits ahead.plain step new → limits.subthreads - new.table.issued < limits.subthreads - old.table.issued
  ahead-smaller done step old new ahead went =
      let before = ap (λ (table : PlainTable). table.issued) ahead.holds.table in
      let after = ap (λ (table : PlainTable). table.issued) went.holds.table in
      let below = went.below in
      let issued = went.issued_is in
      let limit = ahead.limit_is in
      omega arith

  -- what comes next, where the code's program is this
  pub follows-here : (old new : Run) (m : Found) (plain : Plain)
      → ((inputs : Inputs) (limits : Limits) (plain : Plain) → Holds old.program.now.program inputs limits old plain
      → Follows old.program.now.program inputs limits old plain m new) → Holds code inputs limits old plain
      → Follows code inputs limits old plain m new
  follows-here old new m plain each holds =
      subst (λ c. Holds c inputs limits old plain → Follows c inputs limits old plain m new) holds.program (each inputs limits plain) holds
