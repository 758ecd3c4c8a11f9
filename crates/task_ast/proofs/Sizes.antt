-- Each step but a loop turn leaves fewer statements.
use Rattle.std.proofs.Common.{◌≡◌, ℕ, zero, suc, ◌+◌, ◌<◌, List, [], ◌∷◌, ◌++◌, Option, Some, None, refl, subst, arith}
use Rattle.std.specs.Prelude.{ℤ, pos, negsuc}
use Rattle.task_ast.specs.meaning.Value.{branch}
use Rattle.task_ast.specs.declared.sync.Next.{Next}
use Rattle.task_ast.specs.meaning.Tree.{Stmt, At, What, SetCtl, While, If, Lock, Unlock, Fork, Join, Barrier, Settle, SetReg, Read, Write, Print, When, Block, Nothing, Then, statements}
use Rattle.task_ast.specs.meaning.Action.{Action}
use Rattle.task_ast.specs.meaning.Names.{registers_of}
use Rattle.task_ast.specs.meaning.Body.{Step, Silent, Iteration, Act, Stop}
use Rattle.task_ast.specs.Body.{IsSized}
use Rattle.task_ast.specs.meaning.Control.{Setting, Point, step, step_at, step_from, known, going, env_at, action, inner, weight_of, weights, size}

weights-statements : (b : Block) (rest : List Stmt) → weights (statements b ++ rest) ≡ weight_of b + weights rest
weights-statements Nothing rest = omega arith
weights-statements (Then s b) rest = let before = weights-statements b rest in omega arith

-- the point that a step without a loop turn leaves is smaller than n
data Falls : ℕ → Step Point → Type 0 where
  silently : {n : ℕ} {q : Point} → size q < n → Falls n (Silent q)
  by_turn : {n : ℕ} {q : Point} → Falls n (Iteration q)
  acting : {n : ℕ} {a : Action} {q : Point} → size q < n → Falls n (Act a q)
  stopping : {n : ℕ} {next : Next} → Falls n (Stop next)

falls-silent : {n : ℕ} {q : Point} → Falls n (Silent q) → size q < n
falls-silent (silently less) = less

falls-act : {n : ℕ} {a : Action} {q : Point} → Falls n (Act a q) → size q < n
falls-act (acting less) = less

known_falls : {A : Type 0} (n line : ℕ) (o : Option A) (go : A → Step Point) → ((v : A) → Falls n (go v)) → Falls n (known line o go)
known_falls n line None go falls = stopping
known_falls n line (Some v) go falls = falls v

branch_falls : (n : ℕ) (v : ℤ) (a b : Step Point) → Falls n a → Falls n b → Falls n (branch v a b)
branch_falls n (pos zero) a b at_a at_b = at_b
branch_falls n (pos (suc k)) a b at_a at_b = at_a
branch_falls n (negsuc k) a b at_a at_b = at_a

act_falls : (s : Setting) (line : ℕ) (w : What) (rest : List Stmt) (p : Point) → inner w ≡ 0
    → Falls (weights (At line w ∷ rest)) (known line (action s (registers_of p.task) w (env_at s p)) (λ a. Act a (going p rest)))
act_falls s line w rest p e =
    let less : weights rest < weights (At line w ∷ rest) = omega arith in
    known_falls (weights (At line w ∷ rest)) line (action s (registers_of p.task) w (env_at s p))
    (λ a. Act a (going p rest)) (λ v. acting less)

step_falls : (s : Setting) (line : ℕ) (w : What) (rest : List Stmt) (p : Point)
    → Falls (weights (At line w ∷ rest)) (step_at s line w rest p)
step_falls s line (SetCtl x e) rest p =
    let less : weights rest < weights (At line (SetCtl x e) ∷ rest) = omega arith in
    known_falls (weights (At line (SetCtl x e) ∷ rest)) line _ _ (λ v. silently less)
step_falls s line (While e b) rest p =
    let less : weights rest < weights (At line (While e b) ∷ rest) = omega arith in
    known_falls (weights (At line (While e b) ∷ rest)) line _ _
    (λ v. branch_falls (weights (At line (While e b) ∷ rest)) v _ _ by_turn (silently less))
step_falls s line (If e a b) rest p =
    let in_a : weights (statements a ++ rest) < weights (At line (If e a b) ∷ rest) = omega (arith, weights-statements a rest) in
    let in_b : weights (statements b ++ rest) < weights (At line (If e a b) ∷ rest) = omega (arith, weights-statements b rest) in
    known_falls (weights (At line (If e a b) ∷ rest)) line _ _
    (λ v. branch_falls (weights (At line (If e a b) ∷ rest)) v _ _ (silently in_a) (silently in_b))
step_falls s line (Lock a i) rest p = known_falls (weights (At line (Lock a i) ∷ rest)) line _ _ (λ v. stopping)
step_falls s line (Unlock a i) rest p = known_falls (weights (At line (Unlock a i) ∷ rest)) line _ _ (λ v. stopping)
step_falls s line (Fork t es x) rest p = known_falls (weights (At line (Fork t es x) ∷ rest)) line _ _ (λ v. stopping)
step_falls s line (Join e x) rest p = known_falls (weights (At line (Join e x) ∷ rest)) line _ _ (λ v. stopping)
step_falls s line (Settle x c) rest p = stopping
step_falls s line (Barrier b) rest p = known_falls (weights (At line (Barrier b) ∷ rest)) line _ _ (λ v. stopping)
step_falls s line (SetReg x e) rest p = act_falls s line (SetReg x e) rest p refl
step_falls s line (Read r i x) rest p = act_falls s line (Read r i x) rest p refl
step_falls s line (Write r i e) rest p = act_falls s line (Write r i e) rest p refl
step_falls s line (Print es) rest p = act_falls s line (Print es) rest p refl
step_falls s line (When e a b) rest p = act_falls s line (When e a b) rest p refl

from_falls : (s : Setting) (left : List Stmt) (p : Point) → Falls (weights left) (step_from s left p)
from_falls s [] p = stopping
from_falls s (At line w ∷ rest) p = step_falls s line w rest p

pub tree_sized : (s : Setting) → IsSized (step s) size
tree_sized s = record {
  silent = λ p q is. falls-silent (subst (Falls (size p)) is (from_falls s p.left p));
  acts = λ p q a is. falls-act (subst (Falls (size p)) is (from_falls s p.left p));
}
