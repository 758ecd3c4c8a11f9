-- What the rule comes to, fact by fact, for each state that it allows.
use Rattle.std.specs.Prelude.{◌≡◌, ◌≢◌, ◌↔◌, ℕ, ◌+◌, ◌<◌, ◌≤◌, length, slice_index, slice_get, sum_by, Some, None, IfSome, All, Contains}
use mathlib.Core.Option.{some, none}
use lib.ListN.{get_elem?}
use Rattle.atomic_table.specs.Table.{State}
use Rattle.gp_steal.specs.Rule.{View, claims, Kept}
use Rattle.desk_board.specs.declared.view.BoardSetup.{BoardSetup}
use Rattle.desk_board.specs.declared.view.Slot.{Slot}
use Rattle.desk_board.specs.declared.view.Slot.TheVariants.{Todo, Done}
use Rattle.desk_board.specs.Rule.{times, about_of}
use Rattle.desk_board.specs.Told.{NoneTwice}
use Rattle.gp_steal.specs.Told.{IsWhole}

module _ {J W R : Type 0} where
  -- desk k's word: 0 to do, 1 claimed, 2 done, 3 collected
  abbrev pub word_of : State (Slot J R) (View J W) → ℕ → ℕ
  word_of s k = slice_index s.words (k + 1)

  -- slot k is at home and has this in it
  abbrev pub LiesAt : State (Slot J R) (View J W) → ℕ → Slot J R → Type 0
  LiesAt s k slot = get_elem? s.homes k ≡ some (some slot)

  -- slot k is out, with a pass or with the clerk
  abbrev pub IsOut : State (Slot J R) (View J W) → ℕ → Type 0
  IsOut s k = get_elem? s.homes k ≡ some none

  -- view number i
  abbrev pub IsView : State (Slot J R) (View J W) → ℕ → View J W → Type 0
  IsView s i v = get_elem? s.views i ≡ some v

-- what holds of desk k, whose job is this one
--   claimed: it is in some one list of claimed desks exactly where its word is not 0; word: its word is at most 3; waits: while it is 0
--   its job lies there; done: while it is 2, a run of its job lies there; out: else nothing lies there
pub record DeskFacts {J W R : Type 0} (is_run : W → J → R → Type 0) (with : W) (s : State (Slot J R) (View J W)) (k : ℕ)
    (job : J) : Type 0 where
  pub claimed : (1 ≤ word_of s k → claims s.views k ≡ 1) × (word_of s k ≡ 0 → claims s.views k ≡ 0)
  pub word : word_of s k ≤ 3
  pub waits : word_of s k ≡ 0 → LiesAt s k (Todo job)
  pub done : word_of s k ≡ 2 → (run : R) × LiesAt s k (Done run) × is_run with job run
  pub out : word_of s k ≢ 0 → word_of s k ≢ 2 → IsOut s k

-- what holds of one view, of m desks
--   knows: a pass with a share knows the jobs, and so does the clerk;
--   claimed: it has claimed a desk at most once, and only one of the board's; held: of the desks that it has claimed it holds exactly
--   those whose word is 1, and it holds no others; swept: each desk below its swept number was claimed, which is at most m; tried: so
--   was the desk of its last try, where that found a number other than 0; seen: a desk that it saw done is done or collected;
--   gathered: where its hand is the whole share that has swept all, every desk is done or collected
pub record ViewFacts {J W R : Type 0} (m : ℕ) (s : State (Slot J R) (View J W)) (v : View J W) : Type 0 where
  pub knows : v.about ≡ None → (v.hand.share ≡ 0) × (v.book.clerk ≡ 0)
  pub claimed : NoneTwice v.hand.claimed × All (λ k. k < m) v.hand.claimed
  pub held : (k : ℕ) → Contains v.hand.held k ↔ (Contains v.hand.claimed k × (word_of s k ≡ 1))
  pub swept : (v.hand.swept ≤ m) × ((k : ℕ) → k < v.hand.swept → 1 ≤ word_of s k)
  pub tried : IfSome v.hand.tried (λ t. 1 ≤ t.1 → 1 ≤ word_of s t.0)
  pub seen : (k : ℕ) → Contains v.book.seen k → 2 ≤ word_of s k
  pub gathered : IsWhole m v.hand → (k : ℕ) → k < m → 2 ≤ word_of s k

-- the facts of a board
--   jobs: every view that still counts has the jobs and the With of the board, and each job fits;
--   still: word 0 is 0; shares: the shares add up to 64; claimed_once: no two views have claimed one desk;
--   taken: the clerk, and nobody else, has taken exactly the desks whose word is 3, each once
pub record BoardFacts {J W R : Type 0} (fits : W → J → Type 0) (is_run : W → J → R → Type 0) (plan : BoardSetup J W)
    (s : State (Slot J R) (View J W)) : Type 0 where
  pub jobs : All (fits plan.with.value) plan.jobs.value.items
      × ((i : ℕ) (v : View J W) → IsView s i v → IfSome v.about (λ a. a ≡ about_of plan))
  pub still : slice_index s.words 0 ≡ 0
  pub shares : sum_by (λ v. v.hand.share) s.views ≡ 64
  pub claimed_once : (k i j : ℕ) (v u : View J W) → IsView s i v → IsView s j u → Contains v.hand.claimed k → Contains u.hand.claimed k
      → i ≡ j
  pub taken : (i : ℕ) (v : View J W) → IsView s i v → v.book.clerk ≡ 1 → (k : ℕ) → k < length plan.jobs.value.items
      → (times k v.book.taken ≤ 1) × (Contains v.book.taken k ↔ (word_of s k ≡ 3))
  pub desks : (k : ℕ) (job : J) → slice_get plan.jobs.value.items k ≡ Some job → DeskFacts is_run plan.with.value s k job
  pub views : (i : ℕ) (v : View J W) → IsView s i v → ViewFacts (length plan.jobs.value.items) s v

-- the rule gives the facts
abbrev pub FactsLaw : {J W R : Type 0} → (W → J → Type 0) → (W → J → R → Type 0) → Type 0
FactsLaw {J} {W} {R} fits is_run =
    (plan : BoardSetup J W) (s : State (Slot J R) (View J W)) → Kept fits is_run plan s → BoardFacts fits is_run plan s
