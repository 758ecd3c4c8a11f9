-- What the rule comes to, fact by fact, for each state that it allows.
use Rattle.std.specs.Prelude.{◌≡◌, ◌≢◌, ◌↔◌, ℕ, ◌+◌, ◌<◌, ◌≤◌, length, slice_index, slice_get, sum_by, Some, None, IfSome, All, Contains}
use mathlib.Core.Option.{some, none}
use lib.ListN.{get_elem?}
use Rattle.atomic_table.specs.Table.{State}
use Rattle.desk_board.specs.Rule.{View, times, live, drawns, about_of, Kept}
use Rattle.desk_board.specs.declared.view.BoardSetup.{BoardSetup}
use Rattle.desk_board.specs.declared.view.Slot.{Slot}
use Rattle.desk_board.specs.declared.view.Slot.TheVariants.{Todo, Done}
use Rattle.desk_board.specs.Told.{HasEnded, IsWhole, NoneTwice}

module _ {J W R : Type 0} where
  -- how many tickets were taken
  abbrev pub tickets : State (Slot J R) (View J W) → ℕ
  tickets s = slice_index s.words 0

  -- desk k's word: 0 to do, 1 done, 2 collected
  abbrev pub word_of : State (Slot J R) (View J W) → ℕ → ℕ
  word_of s k = slice_index s.words (k + 1)

  -- slot k is at home and has this in it
  abbrev pub LiesAt : State (Slot J R) (View J W) → ℕ → Slot J R → Type 0
  LiesAt s k slot = get_elem? s.homes k ≡ some (some slot)

  -- slot k is out, with a pass or with the clerk
  abbrev pub IsOut : State (Slot J R) (View J W) → ℕ → Type 0
  IsOut s k = get_elem? s.homes k ≡ some none

  -- view number i
  abbrev pub IsView : State (Slot J R) (View J W) → ℕ → View J W → Type 0
  IsView s i v = get_elem? s.views i ≡ some v

-- what holds of desk k, whose job is this one
--   drawn: it is in some one list of drawn desks exactly where its ticket was taken; word: its word is 0, 1 or 2, and 0 until
--   it is drawn; waits: until then its job lies there; done: where the word is 1, a run of its job lies there;
--   out: else nothing lies there
pub record DeskFacts {J W R : Type 0} (is_run : W → J → R → Type 0) (with : W) (s : State (Slot J R) (View J W)) (k : ℕ)
    (job : J) : Type 0 where
  pub drawn : (k < tickets s → drawns s.views k ≡ 1) × (tickets s ≤ k → drawns s.views k ≡ 0)
  pub word : (word_of s k ≤ 2) × (tickets s ≤ k → word_of s k ≡ 0)
  pub waits : tickets s ≤ k → LiesAt s k (Todo job)
  pub done : word_of s k ≡ 1 → (run : R) × LiesAt s k (Done run) × is_run with job run
  pub out : k < tickets s → word_of s k ≢ 1 → IsOut s k

-- what holds of one view, of m desks
--   knows: a pass with a share knows the jobs, and so does the clerk;
--   drawn: it has drawn a desk at most once, and only one of the board's; held: of the desks that it has drawn it holds exactly those whose
--   word is 0, and it holds no others; seen: a desk that it saw done is done or collected; ended: where its pass has ended every
--   ticket below m was taken; gathered: where its hand is the whole share at its end, every desk is done or collected
pub record ViewFacts {J W R : Type 0} (m : ℕ) (s : State (Slot J R) (View J W)) (v : View J W) : Type 0 where
  pub knows : v.about ≡ None → (v.hand.share ≡ 0) × (v.book.clerk ≡ 0)
  pub drawn : NoneTwice v.hand.drawn × All (λ k. k < m) v.hand.drawn
  pub held : (k : ℕ) → Contains v.hand.held k ↔ (Contains v.hand.drawn k × (word_of s k ≡ 0))
  pub seen : (k : ℕ) → Contains v.book.seen k → 1 ≤ word_of s k
  pub ended : HasEnded v.hand → m ≤ tickets s
  pub gathered : IsWhole v.hand → (k : ℕ) → k < m → 1 ≤ word_of s k

-- the facts of a board
--   jobs: every view that still counts has the jobs and the With of the board, and each job fits;
--   shares: the shares add up to 64; drawn_once: no two views have drawn one desk;
--   taken: the clerk, and nobody else, has taken exactly the desks whose word is 2, each once;
--   tickets: at most as many tickets past the last desk were taken as there are shares that have ended
pub record BoardFacts {J W R : Type 0} (fits : W → J → Type 0) (is_run : W → J → R → Type 0) (plan : BoardSetup J W)
    (s : State (Slot J R) (View J W)) : Type 0 where
  pub jobs : All (fits plan.with.value) plan.jobs.value.items
      × ((i : ℕ) (v : View J W) → IsView s i v → IfSome v.about (λ a. a ≡ about_of plan))
  pub shares : sum_by (λ v. v.hand.share) s.views ≡ 64
  pub drawn_once : (k i j : ℕ) (v u : View J W) → IsView s i v → IsView s j u → Contains v.hand.drawn k → Contains u.hand.drawn k → i ≡ j
  pub taken : (i : ℕ) (v : View J W) → IsView s i v → v.book.clerk ≡ 1 → (k : ℕ) → k < length plan.jobs.value.items
      → (times k v.book.taken ≤ 1) × (Contains v.book.taken k ↔ (word_of s k ≡ 2))
  pub tickets : tickets s + sum_by (λ v. live v.hand) s.views ≤ length plan.jobs.value.items + 64
  pub desks : (k : ℕ) (job : J) → slice_get plan.jobs.value.items k ≡ Some job → DeskFacts is_run plan.with.value s k job
  pub views : (i : ℕ) (v : View J W) → IsView s i v → ViewFacts (length plan.jobs.value.items) s v

-- the rule gives the facts
abbrev pub FactsLaw : {J W R : Type 0} → (W → J → Type 0) → (W → J → R → Type 0) → Type 0
FactsLaw {J} {W} {R} fits is_run =
    (plan : BoardSetup J W) (s : State (Slot J R) (View J W)) → Kept fits is_run plan s → BoardFacts fits is_run plan s
