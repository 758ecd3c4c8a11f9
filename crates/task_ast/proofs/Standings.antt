-- A table that knows less than the run's: its turns, and what it learns. After as many passes the run's table knows no
-- less than the other, and its issue is the run's, since passes keep the issue to come. So a turn of the other passes,
-- issues or ends as that one's does, or needs what it doesn't know (LessTurns). What it then learns of a thread is what
-- the run's table has learnt of it.
use Rattle.std.proofs.Common.{◌≡◌, inl, inr, ℕ, zero, suc, ◌-◌, ◌<◌, ◌≤◌, List, [], ◌∷◌, length, Option, Some, None, unwrap_or, refl, sym, ap, ◌∙◌, subst, arith, option_and_then}
use Rattle.std.specs.Prelude.{⊤, slice_get}
use Rattle.std.proofs.lemmas.Bool.{cases_lt}
use Rattle.std.proofs.lemmas.Option.{slice_get_within}
use Rattle.gp_base.specs.declared.limits.Limits.{Limits}
use Rattle.gp_base.specs.declared.feed.Inputs.{Inputs}
use Rattle.gp_base.specs.declared.ending.End.{End}
use Rattle.gp_base.specs.declared.ending.End.TheVariants.{Finished}
use Rattle.task_ast.specs.declared.sync.Next.{Next}
use Rattle.task_ast.specs.meaning.Tree.{Program}
use Rattle.task_ast.specs.meaning.Repeat.{Again, Done, Move, Goes, Ends, go_on, steps_from, steps, state_from, state_after}
use Rattle.task_ast.specs.Repeat.{step_of}
use Rattle.task_ast.specs.meaning.Table.{owned_from}
use Rattle.task_ast.specs.Table.{Seat, Table, next_of, last_in, learning}
use Rattle.task_ast.specs.Turn.{Turn, Issue, Ended, turn, turns_left, next_issue}
use Rattle.task_ast.specs.Reached.{by_pass, by_issue, by_learning}
use Rattle.task_ast.specs.laws.Threads.{SameThreads}
use Rattle.task_ast.specs.laws.Less.{IsUnknown, KnowsLess, Alike, IssuesAlike, passes, issues, needs, ends}
use Rattle.task_ast.specs.meaning.Plain.{Subthread, ending_of}
use Rattle.task_ast.specs.Plain.{PlainOf, Machine, on_turn_by, move_by, opening_by, order_by, before_by, last_by, end_by, tree_machine}
use Rattle.task_ast.specs.Position.{body_by}
use Rattle.task_ast.specs.laws.Standing.{PassesTo, at_once, by_turn, StandsBy, IsIssuedBy, TurnTellsBy, AgreesBy, OwnLaw, passes as tells_pass, issues as tells_issue, needs as tells_need, ends as tells_end}
use Rattle.task_ast.proofs.Turns.{next_issue_step}
use Rattle.task_ast.proofs.PlainRuns.{tables_law}
use Rattle.task_ast.proofs.Repeats.{step_at, step_there, state_after_next, stays_after}
use Rattle.task_ast.proofs.LessSeats.{GotLess, no_seat, some_seat, seats_same, length_less, get_less, nth_of_less, nth_of_more}
use Rattle.task_ast.proofs.LessTurns.{turn_alike, inside_of}
use Rattle.task_ast.proofs.LessIssues.{next_alike}
use Rattle.task_ast.proofs.TurnForms.{Form, turn_form, same_threads, same_then, issues as form_issue, needs as form_need, ends as form_end}
use Rattle.task_ast.proofs.TurnLaws.{pass_law}
use Rattle.task_ast.proofs.IssuedTables.{fresh_seat, learn, issued_here}
use Rattle.task_ast.proofs.PlainSteps.{subthread_of, plain_of}
use Rattle.task_ast.proofs.Positions.{PlainStands, plain_stands}

-- passes keep the threads, and the issue to come
pub passed_same : {start table : Table} → PassesTo start table → SameThreads start table
passed_same {start = start} at_once = same_threads start
passed_same {start = start} (by_turn {table = table} {after = after} passed e) = same_then (passed_same passed) (pass_law table after e)

pub passed_issue : {start table : Table} → PassesTo start table → next_issue start ≡ next_issue table
passed_issue at_once = refl
passed_issue (by_turn {table = table} {after = after} passed e) =
    passed_issue passed ∙ (next_issue_step table ∙ ap (go_on turn turns_left (Ended Finished) next_issue) e)

-- ---- an issue

-- the seat of a thread whose subthread was issued
pub record Issued (table : Table) (t : ℕ) (after : Table) : Type 0 where
  pub below : table.issued < table.limit
  pub here : slice_get after.seats t ≡ Some (fresh_seat table.issued)

abbrev IsIssued : Table → Turn → Type 0
IsIssued table (Issue t next child after) = Issued table t after
IsIssued table _ = ⊤

issued_of : (table : Table) (what : Turn) → Form table (Done what) → IsIssued table what
issued_of table what (form_issue {t = t} {next = next} there same known below may) =
    let t_in : t < length table.seats = inside_of table.seats t next known in
    let e = same.threads in
    record { below = below; here = issued_here there t next (omega arith) ∙ ap (λ n. Some (fresh_seat n)) same.issued }
issued_of table what form_need = tt
issued_of table what form_end = tt

unknown_seat : (position : ℕ) (l : Seat) → fresh_seat position ≡ l → IsUnknown l
unknown_seat position l e = subst IsUnknown e (record { next = refl; stand = refl })

some_same : {X : Type 0} {a b : X} → Some a ≡ Some b → a ≡ b
some_same {a = a} e = ap (λ o. unwrap_or o a) e

-- the other may learn about a thread whose next synchronisation is unknown in the one
less_than_learnt : (less more : Table) (t position : ℕ) (next : Next) → slice_get less.seats t ≡ Some (fresh_seat position)
    → KnowsLess less more → KnowsLess less (learning more t next)
less_than_learnt less more t position next here k =
    record {
      seats = nth_of_more (learn next) less.seats more.seats t k.seats
          (λ l m is h. record {
            next = inr (unknown_seat position l (some_same (sym here ∙ is)));
            last = h.last;
            passed = h.passed;
            stand = h.stand;
          });
      limit = k.limit;
      barriers = k.barriers;
      owners = k.owners;
      token = k.token;
      issued = k.issued;
    }

got_last : (o p : Option Seat) → GotLess o p → option_and_then (λ s. s.last) o ≡ option_and_then (λ s. s.last) p
got_last o p no_seat = refl
got_last o p (some_seat h) = h.last

-- ---- steps

get_some : {X : Type 0} (xs : List X) (u : ℕ) → u < length xs → (x : X) × (slice_get xs u ≡ Some x)
get_some [] u l = absurd (omega arith)
get_some (x ∷ xs) zero l = (x, refl)
get_some (x ∷ xs) (suc u) l = get_some xs u (omega arith)

module _ {A S E : Type 0} (move : A → Move A S E) where
  -- at most so many steps
  steps_most : (n : ℕ) (a : A) → length (steps move n a) ≤ n
  unfolding steps
  steps_most zero a = omega arith
  steps_most (suc n) a = go (move a) (λ b. steps_most n b)
    where
      go : (m : Move A S E) → ((b : A) → length (steps move n b) ≤ n) → length (steps_from move m (steps move n)) ≤ suc n
      go (Goes s b) again = let h = again b in omega arith
      go (Ends e) again = omega arith

  never : {s : S} {a : A} {e : E} → Ends e ≡ Goes s a → ⊥
  never e = cc e

module _ {P : Type 0} (machine : Machine P) (program : Program) (inputs : Inputs) (limits : Limits) (p : ℕ) (table : Table)
    (stands : StandsBy machine program inputs limits p table) where
  abbrev x : PlainOf P
  x = before_by machine program inputs limits p

  plain : PlainStands machine program inputs limits p x
  plain = plain_stands machine program inputs limits p stands.within

  threads_same : SameThreads x.table stands.whole
  threads_same = passed_same stands.passed

  last_same : (t : ℕ) → last_in table t ≡ last_in x.table t
  last_same t =
      got_last (slice_get table.seats t) (slice_get stands.whole.seats t) (get_less table.seats stands.whole.seats t stands.less.seats)
      ∙ threads_same.last t

  pub agrees : AgreesBy machine program inputs limits p table
  agrees =
      record {
        limit = stands.less.limit ∙ threads_same.limit ∙ plain.limit;
        issued = stands.less.issued ∙ threads_same.issued ∙ plain.issued;
        threads = length_less table.seats stands.whole.seats stands.less.seats ∙ threads_same.threads;
        owners = stands.less.owners ∙ threads_same.owners;
        lasts = λ t. plain.lasts t ∙ sym (last_same t);
        left = λ t q e. plain.left t q (sym (last_same t) ∙ e);
      }

  -- the issue or the end that the whole table finds is the run's
  next_is : (what : Turn) → turn stands.whole ≡ Done what → next_issue x.table ≡ what
  next_is what e = passed_issue stands.passed ∙ (next_issue_step stands.whole ∙ ap (go_on turn turns_left (Ended Finished) next_issue) e)

  pub front_alike : IssuesAlike table (next_issue table) (next_issue x.table)
  front_alike =
      subst (IssuesAlike table (next_issue table)) (sym (passed_issue stands.passed))
      (next_alike table stands.whole stands.reached stands.less)

  tells_ended : (ending : End) → next_issue x.table ≡ Ended ending
      → (p ≡ length (order_by machine program inputs limits)) × (end_by machine program inputs limits ≡ ending)
  tells_ended ending e = (at_end, ap ending_of (ap (move_by machine) last ∙ ends_here))
    where
      ends_here : move_by machine x ≡ Ends ending
      ends_here = ap (on_turn_by machine x) e

      at_end : p ≡ length (order_by machine program inputs limits)
      at_end = elim (cases_lt p (length (order_by machine program inputs limits))) [
        | inl l ↦
            (let s = get_some (order_by machine program inputs limits) p l in
            absurd (never (move_by machine) (sym ends_here
            ∙ (step_there (move_by machine) (suc limits.subthreads) p (opening_by machine program inputs limits) s.0 s.1).moves)))
        | inr l ↦ (let w = stands.within in omega arith)
      ]

      last : last_by machine program inputs limits ≡ x
      last =
          ap (λ n. state_after (move_by machine) n (opening_by machine program inputs limits))
          (let w = stands.within in let c = steps_most (move_by machine) (suc limits.subthreads)
          (opening_by machine program inputs limits) in omega arith)
          ∙ stays_after (move_by machine) p (suc limits.subthreads - p) (opening_by machine program inputs limits) ending ends_here

  tells_issued : (t : ℕ) (next : Next) (child : Option ℕ) (after whole : Table) → turn table ≡ Done (Issue t next child after)
      → next_issue x.table ≡ Issue t next child whole
      → Issued table t after → KnowsLess after whole → IsIssuedBy machine program inputs limits p table t next child after
  tells_issued t next child after whole e is fact k =
      record {
        subthread = subthread_of machine t next child whole x;
        position = at_p;
        thread = refl;
        begins = refl;
        child_is = refl;
        held = ap (λ owners. owned_from 0 owners t) (sym k.owners);
        stands = record {
          whole = (before_by machine program inputs limits (suc p)).table;
          passed = at_once;
          less = subst (KnowsLess after) (ap (λ y. y.table) (sym following)) (less_than_learnt after whole t table.issued _ fact.here k);
          reached = by_issue stands.reached e;
          within = slice_get_within (order_by machine program inputs limits) p _ at_p;
        };
      }
    where
      moves : move_by machine x ≡ Goes (subthread_of machine t next child whole x) (plain_of machine t next child whole x)
      moves = ap (on_turn_by machine x) is

      at_p : slice_get (order_by machine program inputs limits) p ≡ Some (subthread_of machine t next child whole x)
      at_p =
          step_at (move_by machine) p (suc limits.subthreads) (opening_by machine program inputs limits)
          (let below = fact.below in let i = agrees.issued in let l = agrees.limit in omega arith)
          ∙ ap (step_of (move_by machine)) moves

      following : before_by machine program inputs limits (suc p) ≡ plain_of machine t next child whole x
      following =
          state_after_next (move_by machine) p (opening_by machine program inputs limits)
          ∙ ap (λ m. state_from (move_by machine) x m (λ y. y)) moves

  pub turns_tell : TurnTellsBy machine program inputs limits p table (turn table)
  turns_tell = go (turn table) (turn stands.whole) refl refl (turn_alike table stands.whole stands.reached stands.less) (turn_form table)
    where
      go : (r s : Again Table Turn) → turn table ≡ r → turn stands.whole ≡ s → Alike table r s → Form table r
          → TurnTellsBy machine program inputs limits p table r
      go r s e f (passes {less = less} {more = more} k) form =
          tells_pass (record {
            whole = more;
            passed = by_turn stands.passed f;
            less = k;
            reached = by_pass stands.reached e;
            within = stands.within;
          })
      go r s e f (issues {t = t} {next = next} {child = child} {less = less} {more = more} k) form =
          tells_issue (tells_issued t next child less more e (next_is (Issue t next child more) f)
          (issued_of table (Issue t next child less) form) k)
      go r s e f (needs l none) form = tells_need l none
      go r s e f (ends {ending = ending}) form = let h = tells_ended ending (next_is (Ended ending) f) in tells_end h.0 h.1

  pub learn_stands : (t q : ℕ) (s : Subthread) → last_in table t ≡ Some q → next_of table t ≡ None
      → slice_get (order_by machine program inputs limits) q ≡ Some s
      → StandsBy machine program inputs limits p (learning table t (body_by machine (before_by machine program inputs limits q) s).next)
  learn_stands t q s e none at_q =
      record {
        whole = stands.whole;
        passed = stands.passed;
        less = record {
          seats =
              nth_of_less (learn (body_by machine (before_by machine program inputs limits q) s).next) table.seats
              stands.whole.seats t stands.less.seats
              (λ l m is there h. record {
                next = inl (sym (sym (ap (λ o. option_and_then (λ s. s.next) o) there) ∙ whole_next));
                last = h.last;
                passed = h.passed;
                stand = h.stand;
              });
          limit = stands.less.limit;
          barriers = stands.less.barriers;
          owners = stands.less.owners;
          token = stands.less.token;
          issued = stands.less.issued;
        };
        reached = by_learning t _ stands.reached none;
        within = stands.within;
      }
    where
      whole_next : next_of stands.whole t ≡ Some (body_by machine (before_by machine program inputs limits q) s).next
      whole_next =
          let h = agrees.left t q e in
          threads_same.next t ∙ (h.next ∙ ap (λ s. Some (body_by machine (before_by machine program inputs limits q) s).next)
          (some_same (sym h.position ∙ at_q)))

pub own_stands : OwnLaw
own_stands program inputs limits p within =
    record {
      whole = (before_by (tree_machine program inputs limits) program inputs limits p).table;
      passed = at_once;
      less = record { seats = seats_same _; limit = refl; barriers = refl; owners = refl; token = refl; issued = refl };
      reached = (tables_law (tree_machine program inputs limits) program inputs limits p).0;
      within = within;
    }
