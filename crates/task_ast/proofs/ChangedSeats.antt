-- Changed seats.
use Rattle.std.proofs.Common.{◌≡◌, ℕ, zero, suc, List, [], ◌∷◌, map, length, Some, refl, sym, ap, ◌∙◌, arith, set, true, false}
use Rattle.std.specs.Prelude.{slice_get}
use Rattle.task_ast.specs.meaning.Table.{Released, with_nth}
use Rattle.task_ast.specs.Table.{Seat, waits_at}
use Rattle.task_ast.specs.Turn.{released_at}

-- one member is replaced
pub map-replaced : {A B : Type 0} (v : A → B) (xs : List A) (i : ℕ) (f : B → B) (x y : A) → slice_get xs i ≡ Some x → v y ≡ f (v x)
    → map v (set xs i y) ≡ with_nth (map v xs) i f
map-replaced v [] i f x y e same = refl
map-replaced v (z ∷ zs) zero f x y e same = ap (λ w. w ∷ map v zs) (same ∙ ap (λ w. f (v w)) (sym (cc e)))
map-replaced v (z ∷ zs) (suc i) f x y e same = ap (λ ws. v z ∷ ws) (map-replaced v zs i f x y e same)

-- the first i members are changed
abbrev pub first_mapped : {B : Type 0} (f : B → B) → ℕ → List B → List B
first_mapped f zero xs = xs
first_mapped f (suc i) [] = []
first_mapped f (suc i) (x ∷ xs) = f x ∷ first_mapped f i xs

pub first_mapped-more : {B : Type 0} (f : B → B) (i : ℕ) (xs : List B) → with_nth (first_mapped f i xs) i f ≡ first_mapped f (suc i) xs
first_mapped-more f zero [] = refl
first_mapped-more f zero (x ∷ xs) = refl
first_mapped-more f (suc i) [] = refl
first_mapped-more f (suc i) (x ∷ xs) = ap (λ ys. f x ∷ ys) (first_mapped-more f i xs)

pub first_mapped-all : {B : Type 0} (f : B → B) (i : ℕ) (xs : List B) → length xs ≡ i → first_mapped f i xs ≡ map f xs
first_mapped-all f zero [] e = refl
first_mapped-all f zero (x ∷ xs) e = absurd (omega arith)
first_mapped-all f (suc i) [] e = refl
first_mapped-all f (suc i) (x ∷ xs) e = ap (λ ys. f x ∷ ys) (first_mapped-all f i xs (omega arith))

pub released-waiting : (b : ℕ) (s : Seat) → waits_at b s ≡ true → record s { stand = Released } ≡ released_at b s
released-waiting b s e = rw e refl

pub released-other : (b : ℕ) (s : Seat) → waits_at b s ≡ false → released_at b s ≡ s
released-other b s e = rw e refl
