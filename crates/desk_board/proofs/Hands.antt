-- The ticket and the share of a pass.
use Rattle.std.proofs.Common.{◌≡◌, ℕ, ◌+◌, ◌-◌, ◌≤◌, ap, arith}
use Rattle.std.specs.Prelude.{Option, Some, None, IfSome}
use Rattle.desk_board.specs.declared.view.Hand.{Hand}
use Rattle.desk_board.specs.Rule.{live}
use Rattle.desk_board.specs.Told.{hand_both, hand_kept, hand_given, ticket_either}

-- what every view says of an ended pass stays while the counter rises
pub ended_stays : (o : Option ℕ) (m c c' : ℕ) → c ≤ c' → IfSome o (λ t. (m ≤ t) × (m ≤ c)) → IfSome o (λ t. (m ≤ t) × (m ≤ c'))
ended_stays None m c c' h e = e
ended_stays (Some t) m c c' h e = let a = e.0 in let b = e.1 in (a, omega arith)

pub live_none : (h : Hand) → h.ticket ≡ None → live h ≡ h.share
live_none h e = ap (λ (o : Option ℕ). let n : ℕ = elim o [ None ↦ h.share | Some t ↦ 0 ] in n) e

pub live_share : (h : Hand) → live h ≤ h.share
live_share h = go h.share h.ticket
  where
    go : (n : ℕ) (o : Option ℕ) → (let l : ℕ = elim o [ None ↦ n | Some t ↦ 0 ] in l) ≤ n
    go n None = omega arith
    go n (Some t) = omega arith

abbrev pub live_of : ℕ → Option ℕ → ℕ
live_of n o = elim o [ None ↦ n | Some t ↦ 0 ]

pub live_cut : (h : Hand) → 2 ≤ h.share → live (hand_kept h) + live (hand_given h) ≤ live h
live_cut h big = go h.ticket
  where
    go : (o : Option ℕ) → live_of (h.share - 1) o + live_of 1 o ≤ live_of h.share o
    go None = omega arith
    go (Some t) = omega arith

pub live_both : (h g : Hand) → live (hand_both h g) ≤ live h + live g
live_both h g = go h.ticket g.ticket
  where
    go : (a b : Option ℕ) → live_of (h.share + g.share) (ticket_either a b) ≤ live_of h.share a + live_of g.share b
    go None None = omega arith
    go None (Some t) = omega arith
    go (Some t) b = omega arith

pub ended_either : (a b : Option ℕ) (m c : ℕ) → IfSome a (λ t. (m ≤ t) × (m ≤ c)) → IfSome b (λ t. (m ≤ t) × (m ≤ c))
    → IfSome (ticket_either a b) (λ t. (m ≤ t) × (m ≤ c))
ended_either None b m c x y = y
ended_either (Some t) b m c x y = x
