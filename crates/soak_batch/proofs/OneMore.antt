-- One row more.
use Rattle.std.proofs.Common.{◌≡◌, ℕ, suc, ◌+◌, ◌-◌, ◌<◌, List, [], ◌∷◌, ◌++◌, sym, ap, ◌∙◌, append_assoc, add-one, arith}
use Rattle.soak_batch.specs.meaning.Draws.{after_row}
use Rattle.soak_batch.specs.meaning.Rows.{row, account_rows, move_row, move_rows, after_rows, fault_row, drawn_rows}

pub account_more : (most account : ℕ) (text after all : List ℕ) → account < most → text ++ account_rows account (most - account) ≡ all
    → after ≡ text ++ row account (1000 ∷ [])
    → after ++ account_rows (account + 1) (most - (account + 1)) ≡ all
account_more most account text after all less so_far put =
    let rest = most - (account + 1) in
    let left : most - account ≡ suc rest = omega arith in
    ap (λ t. t ++ account_rows (account + 1) rest) put
    ∙ append_assoc text (row account (1000 ∷ [])) (account_rows (account + 1) rest)
    ∙ ap (λ n. text ++ (row account (1000 ∷ []) ++ account_rows n rest)) (add-one account)
    ∙ sym (ap (λ n. text ++ account_rows account n) left)
    ∙ so_far

pub move_more : (count made state next : ℕ) (text after all : List ℕ) → made < count → text ++ move_rows (count - made) state ≡ all
    → after ≡ text ++ move_row state → next ≡ after_row state
    → after ++ move_rows (count - (made + 1)) next ≡ all
move_more count made state next text after all less so_far put drew =
    let rest = count - (made + 1) in
    let left : count - made ≡ suc rest = omega arith in
    ap (λ t. t ++ move_rows rest next) put
    ∙ append_assoc text (move_row state) (move_rows rest next)
    ∙ ap (λ s. text ++ (move_row state ++ move_rows rest s)) drew
    ∙ sym (ap (λ n. text ++ move_rows n state) left)
    ∙ so_far

pub state_more : (count made state next last : ℕ) → made < count → after_rows (count - made) state ≡ last → next ≡ after_row state
    → after_rows (count - (made + 1)) next ≡ last
state_more count made state next last less so_far drew =
    let rest = count - (made + 1) in
    let left : count - made ≡ suc rest = omega arith in
    ap (after_rows rest) drew ∙ sym (ap (λ n. after_rows n state) left) ∙ so_far

pub fault_more : (width most part state next : ℕ) (text after all : List ℕ) → part < most
    → text ++ drawn_rows width part (most - part) state ≡ all → after ≡ text ++ fault_row width part state
    → next ≡ after_row state → after ++ drawn_rows width (part + 1) (most - (part + 1)) next ≡ all
fault_more width most part state next text after all less so_far put drew =
    let rest = most - (part + 1) in
    let left : most - part ≡ suc rest = omega arith in
    ap (λ t. t ++ drawn_rows width (part + 1) rest next) put
    ∙ append_assoc text (fault_row width part state) (drawn_rows width (part + 1) rest next)
    ∙ ap (λ p. text ++ (fault_row width part state ++ drawn_rows width p rest next)) (add-one part)
    ∙ ap (λ s. text ++ (fault_row width part state ++ drawn_rows width (suc part) rest s)) drew
    ∙ sym (ap (λ n. text ++ drawn_rows width part n state) left)
    ∙ so_far
