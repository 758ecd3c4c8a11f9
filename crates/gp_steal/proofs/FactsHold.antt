-- The rule gives each fact of a board.
use Rattle.std.proofs.Common.{◌≡◌, ◌↔◌, ℕ, ◌<◌, ◌≤◌, length, ap, ◌∙◌, arith}
use Rattle.std.specs.Prelude.{Contains}
use lib.ListN.{get_elem?}
use Rattle.atomic_table.specs.Table.{State}
use Rattle.gp_steal.specs.Rule.{View, claims, helds, takens, Stage, waiting, claimed, done, collected, Kept}
use Rattle.desk_board.specs.declared.view.BoardSetup.{BoardSetup}
use Rattle.desk_board.specs.declared.view.Slot.{Slot}
use Rattle.desk_board.specs.Rule.{times}
use Rattle.gp_steal.specs.Facts.{word_of, IsView, DeskFacts, ViewFacts, BoardFacts}
use Rattle.desk_board.proofs.Counts.{counted_once, counted_alike}
use Rattle.desk_board.proofs.DeskLists.{times_from_Contains, Contains_from_times}
use Rattle.desk_board.proofs.Tallies.{tally_part, all_from_times}
use Rattle.desk_board.proofs.OneView.{got_within, alone_held, alone_taken}
use Rattle.desk_board.proofs.Places.{got}
use Rattle.gp_steal.proofs.Stages.{Stands, past_done, held_from, held_claimed, taken_at_most, taken_three, three_taken}
use Rattle.gp_steal.proofs.Steps.{claimed_by_all, none_twice}

module _ {J W R : Type 0} (is_run : W → J → R → Type 0) (with : W) (s : State (Slot J R) (View J W)) (k : ℕ) (job : J) where
  -- the facts of a desk, stage by stage
  desk_facts : (stage : Stage)
      → Stands is_run with job (word_of s k) (get_elem? s.homes k) (claims s.views k) (helds s.views k) (takens s.views k) stage
      → DeskFacts is_run with s k job
  desk_facts waiting x = let word = x.0 in record {
    claimed = ((λ l. absurd (omega arith)), λ _. x.2);
    word = omega arith;
    waits = λ _. x.1;
    done = λ e. absurd (omega arith);
    out = λ ne _. absurd (ne word);
  }
  desk_facts claimed x = let word = x.0 in record {
    claimed = ((λ _. x.2), λ e. absurd (omega arith));
    word = omega arith;
    waits = λ e. absurd (omega arith);
    done = λ e. absurd (omega arith);
    out = λ _ _. x.1;
  }
  desk_facts done x = let word = x.0 in record {
    claimed = ((λ _. x.2), λ e. absurd (omega arith));
    word = omega arith;
    waits = λ e. absurd (omega arith);
    done = λ _. x.1;
    out = λ _ ne. absurd (ne word);
  }
  desk_facts collected x = let word = x.0 in record {
    claimed = ((λ _. x.2), λ e. absurd (omega arith));
    word = omega arith;
    waits = λ e. absurd (omega arith);
    done = λ e. absurd (omega arith);
    out = λ _ _. x.1;
  }

module _ {J W R : Type 0} (fits : W → J → Type 0) (is_run : W → J → R → Type 0) (plan : BoardSetup J W) (s : State (Slot J R) (View J W))
    (r : Kept fits is_run plan s) where
  abbrev m : ℕ
  m = length plan.jobs.value.items

  held_is : (i : ℕ) (v : View J W) → IsView s i v → (k : ℕ) → Contains v.hand.held k → Contains v.hand.claimed k × (word_of s k ≡ 1)
  held_is i v at k c = let h = times_from_Contains k v.hand.held c in let own = (r.each_view i v at).own k in
      let d : 1 ≤ times k v.hand.claimed = omega (arith, h, own) in
      let g = got plan.jobs.value.items k (got_within r i v at k d) in
      let was = r.each_desk k g.0 g.1 in (
        Contains_from_times k v.hand.claimed d,
        held_claimed is_run plan.with.value g.0 _ _ _ _ _ was.0 was.1
            (let p = tally_part (λ (x : View J W). times k x.hand.held) s.views i v at in omega (arith, p, h)),
      )

  is_held : (i : ℕ) (v : View J W) → IsView s i v → (k : ℕ) → Contains v.hand.claimed k → word_of s k ≡ 1 → Contains v.hand.held k
  is_held i v at k c e =
      let d = times_from_Contains k v.hand.claimed c in
      let g = got plan.jobs.value.items k (got_within r i v at k d) in
      let was = r.each_desk k g.0 g.1 in
      let more = held_from is_run plan.with.value g.0 _ _ _ _ _ was.0 was.1 e in
      let same =
      counted_alike (λ (x : View J W). times k x.hand.held) (λ x. times k x.hand.claimed) s.views
      (λ j y there. (r.each_view j y there).own k) more i v at in
      Contains_from_times k v.hand.held (omega (arith, d, same))

  view_facts : (i : ℕ) (v : View J W) → IsView s i v → ViewFacts m s v
  view_facts i v at = let ok = r.each_view i v at in record {
    knows = ok.knows;
    claimed = (none_twice fits is_run plan s r i v at, all_from_times (λ d. d < m) v.hand.claimed (λ d h. got_within r i v at d h));
    held = λ k. ((λ c. held_is i v at k c), λ x. is_held i v at k x.0 x.1);
    swept = (ok.hand.within, ok.hand.below);
    tried = ok.hand.last;
    seen = λ k c. ok.seen k (times_from_Contains k v.book.seen c);
    gathered = λ whole k l. (let g = got plan.jobs.value.items k l in let was = r.each_desk k g.0 g.1 in let all = whole.1 in
        past_done is_run plan.with.value g.0 _ _ _ _ _ (ok.hand.below k (omega arith))
        (alone_held r i v at whole.0 k ∙ ap (times k) whole.2) was.0 was.1);
  }

  taken_is : (i : ℕ) (v : View J W) → IsView s i v → v.book.clerk ≡ 1 → (k : ℕ) → k < m
      → (times k v.book.taken ≤ 1) × (Contains v.book.taken k ↔ (word_of s k ≡ 3))
  taken_is i v at clerk k l =
      let g = got plan.jobs.value.items k l in let was = r.each_desk k g.0 g.1 in
      let alone = alone_taken r i v at clerk k in
      let most = taken_at_most is_run plan.with.value g.0 _ _ _ _ _ was.0 was.1 in (
        omega (arith, alone, most),
        (
          (λ c. let h = times_from_Contains k v.book.taken c in
              taken_three is_run plan.with.value g.0 _ _ _ _ _ was.0 was.1 (omega (arith, alone, h))),
          λ e. let h = three_taken is_run plan.with.value g.0 _ _ _ _ _ was.0 was.1 e in
              Contains_from_times k v.book.taken (omega (arith, alone, h)),
        ),
      )

  pub facts_hold : BoardFacts fits is_run plan s
  facts_hold = record {
    jobs = (r.all_fit, λ i v at. (r.each_view i v at).same);
    still = r.beside;
    shares = r.shares;
    claimed_once =
        λ k i j v u at there c d. counted_once (λ (x : View J W). times k x.hand.claimed) s.views
        (claimed_by_all fits is_run plan s r k) i j v u at there (times_from_Contains k v.hand.claimed c)
        (times_from_Contains k u.hand.claimed d);
    taken = λ i v at clerk k l. taken_is i v at clerk k l;
    desks = λ k job has. (let was = r.each_desk k job has in desk_facts is_run plan.with.value s k job was.0 was.1);
    views = λ i v at. view_facts i v at;
  }
