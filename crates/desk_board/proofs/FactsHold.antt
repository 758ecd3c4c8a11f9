-- The rule gives each fact of a board.
use Rattle.std.proofs.Common.{◌≡◌, ◌↔◌, ℕ, ◌<◌, ◌≤◌, length, ap, ◌∙◌, subst, arith}
use Rattle.std.specs.Prelude.{Contains, Option, IfSome}
use lib.ListN.{get_elem?}
use Rattle.atomic_table.specs.Table.{State}
use Rattle.desk_board.specs.Rule.{View, times, drawns, helds, takens, Stage, waiting, drawn, done, collected, Kept}
use Rattle.desk_board.specs.declared.view.BoardSetup.{BoardSetup}
use Rattle.desk_board.specs.declared.view.Slot.{Slot}
use Rattle.desk_board.specs.Told.{HasEnded}
use Rattle.desk_board.specs.Facts.{tickets, word_of, IsView, DeskFacts, ViewFacts, BoardFacts}
use Rattle.desk_board.proofs.Counts.{counted_once, counted_alike}
use Rattle.desk_board.proofs.DeskLists.{times_from_Contains, Contains_from_times}
use Rattle.desk_board.proofs.Tallies.{tally_part, all_from_times}
use Rattle.desk_board.proofs.OneView.{got_within, alone_held, alone_taken}
use Rattle.desk_board.proofs.Places.{got}
use Rattle.desk_board.proofs.Stages.{Stands, past_done, held_from, held_to_do, taken_at_most, taken_two, two_taken}
use Rattle.desk_board.proofs.Steps.{drawn_by_all, none_twice}

module _ {J W R : Type 0} (is_run : W → J → R → Type 0) (with : W) (s : State (Slot J R) (View J W)) (k : ℕ) (job : J) where
  -- the facts of a desk, stage by stage
  desk_facts : (stage : Stage)
      → Stands is_run with k job (tickets s) (word_of s k) (get_elem? s.homes k) (drawns s.views k) (helds s.views k)
      (takens s.views k) stage → DeskFacts is_run with s k job
  desk_facts waiting x = let low = x.0 in let word = x.1 in record {
    drawn = ((λ l. absurd (omega arith)), λ _. x.3);
    word = (omega (arith, word), λ _. word);
    waits = λ _. x.2;
    done = λ e. absurd (omega (arith, word, e));
    out = λ l ne. absurd (omega arith);
  }
  desk_facts drawn x = let low = x.0 in let word = x.1 in record {
    drawn = ((λ _. x.3), λ l. absurd (omega arith));
    word = (omega (arith, word), λ _. word);
    waits = λ l. absurd (omega arith);
    done = λ e. absurd (omega (arith, word, e));
    out = λ l ne. x.2;
  }
  desk_facts done x = let low = x.0 in let word = x.1 in record {
    drawn = ((λ _. x.3), λ l. absurd (omega arith));
    word = (omega (arith, word), λ l. absurd (omega arith));
    waits = λ l. absurd (omega arith);
    done = λ e. x.2;
    out = λ l ne. absurd (ne word);
  }
  desk_facts collected x = let low = x.0 in let word = x.1 in record {
    drawn = ((λ _. x.3), λ l. absurd (omega arith));
    word = (omega (arith, word), λ l. absurd (omega arith));
    waits = λ l. absurd (omega arith);
    done = λ e. absurd (omega (arith, word, e));
    out = λ l ne. x.2;
  }

module _ {J W R : Type 0} (fits : W → J → Type 0) (is_run : W → J → R → Type 0) (plan : BoardSetup J W) (s : State (Slot J R) (View J W))
    (r : Kept fits is_run plan s) where
  abbrev m : ℕ
  m = length plan.jobs.value.items

  has_ended : (i : ℕ) (v : View J W) → IsView s i v → HasEnded v.hand → m ≤ tickets s
  has_ended i v at h = (subst (λ (o : Option ℕ). IfSome o (λ t. (m ≤ t) × (m ≤ tickets s))) h.1 (r.each_view i v at).hand).1

  held_is : (i : ℕ) (v : View J W) → IsView s i v → (k : ℕ) → Contains v.hand.held k → Contains v.hand.drawn k × (word_of s k ≡ 0)
  held_is i v at k c = let h = times_from_Contains k v.hand.held c in let own = (r.each_view i v at).own k in
      let d : 1 ≤ times k v.hand.drawn = omega (arith, h, own) in
      let g = got plan.jobs.value.items k (got_within r i v at k d) in
      let was = r.each_desk k g.0 g.1 in (
        Contains_from_times k v.hand.drawn d,
        held_to_do is_run plan.with.value k g.0 _ _ _ _ _ _ was.0 was.1
            (let p = tally_part (λ (x : View J W). times k x.hand.held) s.views i v at in omega (arith, p, h)),
      )

  is_held : (i : ℕ) (v : View J W) → IsView s i v → (k : ℕ) → Contains v.hand.drawn k → word_of s k ≡ 0 → Contains v.hand.held k
  is_held i v at k c e =
      let d = times_from_Contains k v.hand.drawn c in
      let g = got plan.jobs.value.items k (got_within r i v at k d) in
      let was = r.each_desk k g.0 g.1 in
      let more = held_from is_run plan.with.value k g.0 _ _ _ _ _ _ was.0 was.1 e in
      let same =
      counted_alike (λ (x : View J W). times k x.hand.held) (λ x. times k x.hand.drawn) s.views
      (λ j y there. (r.each_view j y there).own k) more i v at in
      Contains_from_times k v.hand.held (omega (arith, d, same))

  view_facts : (i : ℕ) (v : View J W) → IsView s i v → ViewFacts m s v
  view_facts i v at = record {
    knows = (r.each_view i v at).knows;
    drawn = (none_twice fits is_run plan s r i v at, all_from_times (λ d. d < m) v.hand.drawn (λ d h. got_within r i v at d h));
    held = λ k. ((λ c. held_is i v at k c), λ x. is_held i v at k x.0 x.1);
    seen = λ k c. (r.each_view i v at).seen k (times_from_Contains k v.book.seen c);
    ended = λ h. has_ended i v at h;
    gathered =
        λ whole k l. (let g = got plan.jobs.value.items k l in let was = r.each_desk k g.0 g.1 in let all = has_ended i v at whole.1 in
        past_done is_run plan.with.value k g.0 _ _ _ _ _ _ (omega (arith, l, all))
        (alone_held r i v at whole.0 k ∙ ap (times k) whole.2) was.0 was.1);
  }

  taken_is : (i : ℕ) (v : View J W) → IsView s i v → v.book.clerk ≡ 1 → (k : ℕ) → k < m
      → (times k v.book.taken ≤ 1) × (Contains v.book.taken k ↔ (word_of s k ≡ 2))
  taken_is i v at clerk k l =
      let g = got plan.jobs.value.items k l in let was = r.each_desk k g.0 g.1 in
      let alone = alone_taken r i v at clerk k in
      let most = taken_at_most is_run plan.with.value k g.0 _ _ _ _ _ _ was.0 was.1 in (
        omega (arith, alone, most),
        (
          (λ c. let h = times_from_Contains k v.book.taken c in
              taken_two is_run plan.with.value k g.0 _ _ _ _ _ _ was.0 was.1 (omega (arith, alone, h))),
          λ e. let h = two_taken is_run plan.with.value k g.0 _ _ _ _ _ _ was.0 was.1 e in
              Contains_from_times k v.book.taken (omega (arith, alone, h)),
        ),
      )

  pub facts_hold : BoardFacts fits is_run plan s
  facts_hold = record {
    jobs = (r.all_fit, λ i v at. (r.each_view i v at).same);
    shares = r.shares;
    drawn_once =
        λ k i j v u at there c d. counted_once (λ (x : View J W). times k x.hand.drawn) s.views
        (drawn_by_all fits is_run plan s r k) i j v u at there (times_from_Contains k v.hand.drawn c)
        (times_from_Contains k u.hand.drawn d);
    taken = λ i v at clerk k l. taken_is i v at clerk k l;
    tickets = r.beside;
    desks = λ k job has. (let was = r.each_desk k job has in desk_facts is_run plan.with.value s k job was.0 was.1);
    views = λ i v at. view_facts i v at;
  }
