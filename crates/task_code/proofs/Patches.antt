-- A jump is written after the instructions that it passes.
use Rattle.std.proofs.Common.{◌≡◌, ℕ, ◌+◌, ◌-◌, List, [], ◌∷◌, ◌++◌, length, sym, ap, ◌∙◌, arith, append_assoc, length-append}
use Rattle.std.specs.Prelude.{slice_set}
use Rattle.std.proofs.Math.Seq.{set-append_seam}
use Rattle.task_code.specs.Instructions.{Instr, At, Calc, GoOn, Unless, Again}
use Rattle.task_code.specs.Lowering.{if_code, while_code}
use Rattle.task_code.specs.inner.Patched.{ended_while, ended_if}

-- after the code so far stands an instruction, then the body, and then the loop is ended
pub patched_while : (line : ℕ) (c : Calc) (base b c1 c2 : List Instr) (x : Instr) (start : ℕ) → start ≡ length base → c1 ≡ base ++ x ∷ []
    → c2 ≡ c1 ++ b
    → ended_while line c start c2 ≡ base ++ while_code line c b
patched_while line c base b c1 c2 x start at e1 e2 =
    let l1 = ap length e1 ∙ length-append base (x ∷ []) in
    let l2 = ap length e2 ∙ length-append c1 b in
    let size : length c2 - start - 1 ≡ length b = omega arith in
    let flat : c2 ≡ base ++ x ∷ b = e2 ∙ ap (λ l. l ++ b) e1 ∙ append_assoc base (x ∷ []) b in
    let i = At line (GoOn (length b)) in
    let t = At line (Again c (length b)) in
    ap (λ n. slice_set c2 start (At line (GoOn n)) ++ At line (Again c n) ∷ []) size
    ∙ ap (λ l. slice_set l start i ++ t ∷ []) flat ∙ ap (λ k. slice_set (base ++ x ∷ b) k i ++ t ∷ []) at
    ∙ ap (λ l. l ++ t ∷ []) (set-append_seam base x b i) ∙ append_assoc base (i ∷ b) (t ∷ [])

-- after the code so far stands an instruction, then the first side, an instruction, the second side, and then the choice is ended
pub patched_if : (line : ℕ) (c : Calc) (base a b c1 c2 c3 c4 : List Instr) (x y : Instr) (start middle : ℕ) → start ≡ length base
    → c1 ≡ base ++ x ∷ [] → c2 ≡ c1 ++ a
    → middle ≡ length c2 → c3 ≡ c2 ++ y ∷ [] → c4 ≡ c3 ++ b → ended_if line c start middle c4 ≡ base ++ if_code line c a b
patched_if line c base a b c1 c2 c3 c4 x y start middle at e1 e2 mid e3 e4 =
    let l1 = ap length e1 ∙ length-append base (x ∷ []) in
    let l2 = ap length e2 ∙ length-append c1 a in
    let l3 = ap length e3 ∙ length-append c2 (y ∷ []) in
    let l4 = ap length e4 ∙ length-append c3 b in
    let over : middle - start ≡ length a + 1 = omega arith in
    let size : length c4 - middle - 1 ≡ length b = omega arith in
    let i = At line (Unless c (length a + 1)) in
    let j = At line (GoOn (length b)) in
    let all : c4 ≡ (((base ++ x ∷ []) ++ a) ++ y ∷ []) ++ b =
    e4 ∙ ap (λ l. l ++ b) (e3 ∙ ap (λ l. l ++ y ∷ []) (e2 ∙ ap (λ l. l ++ a) e1)) in
    let flat : (((base ++ x ∷ []) ++ a) ++ y ∷ []) ++ b ≡ base ++ x ∷ (a ++ y ∷ b) = simp append_assoc in
    let here : middle ≡ length (base ++ i ∷ a) = omega (arith, length-append base (i ∷ a)) in
    ap (λ n. slice_set (slice_set c4 start (At line (Unless c n))) middle (At line (GoOn (length c4 - middle - 1)))) over
    ∙ ap (λ n. slice_set (slice_set c4 start i) middle (At line (GoOn n))) size
    ∙ ap (λ l. slice_set (slice_set l start i) middle j) (all ∙ flat)
    ∙ ap (λ k. slice_set (slice_set (base ++ x ∷ (a ++ y ∷ b)) k i) middle j) at
    ∙ ap (λ l. slice_set l middle j) (set-append_seam base x (a ++ y ∷ b) i ∙ sym (append_assoc base (i ∷ a) (y ∷ b)))
    ∙ ap (λ k. slice_set ((base ++ i ∷ a) ++ y ∷ b) k j) here
    ∙ set-append_seam (base ++ i ∷ a) y b j ∙ append_assoc base (i ∷ a) (j ∷ b)
