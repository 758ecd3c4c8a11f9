-- The jumps of lowered code stay inside it.
use Rattle.std.proofs.Common.{◌≡◌, ℕ, zero, suc, ◌+◌, ◌-◌, ◌≤◌, List, [], ◌∷◌, ◌++◌, length, Option, Some, None, subst, arith, length-append, position}
use Rattle.std.specs.Prelude.{⊤, slice_get}
use Rattle.std.proofs.lemmas.Option.{slice_get_within}
use Rattle.task_ast.specs.meaning.Tree as tree
use Rattle.task_ast.specs.meaning.Tree.{Stmt, What, Block}
use Rattle.task_ast.specs.meaning.Names.{is_name, barriers_of}
use Rattle.task_code.specs.Instructions.{Does, Assign, GoOn, Unless, Again, Lock, Unlock, Fork, Join, Barrier, Settle, Do, Instr, At}
use Rattle.task_code.specs.Lowering.{Scope, barrier_code, calc, what_code, block_code, stmt_code}
use Rattle.task_code.specs.Jumps.{AreInside}

-- a jump that has so many instructions before it and after it
abbrev Fits : (before after : ℕ) → Does → Type 0
Fits before after (GoOn n) = n ≤ after
Fits before after (Unless c n) = n ≤ after
Fits before after (Again c n) = n ≤ before
Fits before after _ = ⊤

-- the jumps of instructions that have so many before them and after them
abbrev AllFit : (before after : ℕ) → List Instr → Type 0
AllFit before after [] = ⊤
AllFit before after (At line d ∷ is) = Fits before (length is + after) d × AllFit (before + 1) after is

fits_wider : (b b' a a' : ℕ) (d : Does) → b ≤ b' → a ≤ a' → Fits b a d → Fits b' a' d
fits_wider b b' a a' (GoOn n) le_b le_a fit = omega arith
fits_wider b b' a a' (Unless c n) le_b le_a fit = omega arith
fits_wider b b' a a' (Again c n) le_b le_a fit = omega arith
fits_wider b b' a a' (Assign k c) le_b le_a fit = tt
fits_wider b b' a a' (Lock cells i) le_b le_a fit = tt
fits_wider b b' a a' (Unlock cells i) le_b le_a fit = tt
fits_wider b b' a a' (Fork f) le_b le_a fit = tt
fits_wider b b' a a' (Join c into) le_b le_a fit = tt
fits_wider b b' a a' (Barrier n) le_b le_a fit = tt
fits_wider b b' a a' (Settle k c) le_b le_a fit = tt
fits_wider b b' a a' (Do d) le_b le_a fit = tt

wider : (b b' a a' : ℕ) (is : List Instr) → b ≤ b' → a ≤ a' → AllFit b a is → AllFit b' a' is
wider b b' a a' [] le_b le_a fit = tt
wider b b' a a' (At line d ∷ is) le_b le_a fit =
    (fits_wider b b' (length is + a) (length is + a') d le_b (omega arith) fit.0, wider (b + 1) (b' + 1) a a' is (omega arith) le_a fit.1)

joined : (b a : ℕ) (xs ys : List Instr) → AllFit b (length ys + a) xs → AllFit (b + length xs) a ys → AllFit b a (xs ++ ys)
joined b a [] ys first second = wider (b + 0) b a a ys (omega arith) (omega arith) second
joined b a (At line d ∷ xs) ys first second =
    let len : length xs + (length ys + a) ≤ length (xs ++ ys) + a = omega (arith, length-append xs ys) in
    let on : b + length (At line d ∷ xs) ≤ b + 1 + length xs = omega arith in (
      fits_wider b b (length xs + (length ys + a)) (length (xs ++ ys) + a) d (omega arith) len first.0,
      joined (b + 1) a xs ys first.1 (wider (b + length (At line d ∷ xs)) (b + 1 + length xs) a a ys on (omega arith) second),
    )

barrier_fits : (before after : ℕ) (o : Option ℕ) → Fits before after (barrier_code o)
barrier_fits before after None = tt
barrier_fits before after (Some b) = tt

module _ (s : Scope) where
  mutual
    what_fits : (line : ℕ) (w : What) → AllFit 0 0 (what_code s line w)
    what_fits line (tree.SetCtl x e) = (tt, tt)
    what_fits line (tree.While e b) =
        let d = block_code s b in
        let test = At line (Again (calc s e) (length d)) in (
          omega (arith, length-append d (test ∷ [])),
          joined 1 0 d (test ∷ []) (wider 0 1 0 (1 + 0) d (omega arith) (omega arith) (block_fits b)) (omega arith, tt),
        )
    what_fits line (tree.If e a b) =
        let c = block_code s a in
        let d = block_code s b in
        let over = At line (GoOn (length d)) in (
          omega (arith, length-append c (over ∷ d)),
          joined 1 0 c (over ∷ d) (wider 0 1 0 (length (over ∷ d) + 0) c (omega arith) (omega arith) (block_fits a))
              (omega arith, wider 0 (1 + length c + 1) 0 0 d (omega arith) (omega arith) (block_fits b)),
        )
    what_fits line (tree.Lock a i) = (tt, tt)
    what_fits line (tree.Unlock a i) = (tt, tt)
    what_fits line (tree.Fork t es x) = (tt, tt)
    what_fits line (tree.Join e x) = (tt, tt)
    what_fits line (tree.Barrier b) = (barrier_fits 0 (0 + 0) (position (λ other. is_name b other.0) (barriers_of s.program.heads)), tt)
    what_fits line (tree.Settle x c) = (tt, tt)
    what_fits line (tree.SetReg x e) = (tt, tt)
    what_fits line (tree.Read r i x) = (tt, tt)
    what_fits line (tree.Write r i e) = (tt, tt)
    what_fits line (tree.Print es) = (tt, tt)
    what_fits line (tree.When e a b) = (tt, tt)

    block_fits : (b : Block) → AllFit 0 0 (block_code s b)
    block_fits tree.Nothing = tt
    block_fits (tree.Then st b) =
        let c = stmt_code s st in
        let d = block_code s b in
        joined 0 0 c d (wider 0 0 0 (length d + 0) c (omega arith) (omega arith) (stmt_fits st))
        (wider 0 (0 + length c) 0 0 d (omega arith) (omega arith) (block_fits b))

    stmt_fits : (st : Stmt) → AllFit 0 0 (stmt_code s st)
    stmt_fits (tree.At line w) = what_fits line w

fit_at : (before : ℕ) (is : List Instr) (k line : ℕ) (d : Does) → AllFit before 0 is → slice_get is k ≡ Some (At line d)
    → Fits (before + k) (length is - (k + 1)) d
fit_at before [] k line d fit found = absurd cc
fit_at before (At l e ∷ is) zero line d fit found =
    let same : At l e ≡ At line d = cc in
    let here = fits_wider before (before + 0) (length is + 0) (length (At l e ∷ is) - (0 + 1)) e (omega arith) (omega arith) fit.0 in
    let does : e ≡ d = cc in
    subst (Fits (before + 0) (length (At l e ∷ is) - (0 + 1))) does here
fit_at before (At l e ∷ is) (suc k) line d fit found =
    fits_wider (before + 1 + k) (before + suc k) (length is - (k + 1)) (length (At l e ∷ is) - (suc k + 1)) d (omega arith) (omega arith)
    (fit_at (before + 1) is k line d fit.1 found)

pub block_inside : (s : Scope) (b : Block) → AreInside (block_code s b)
block_inside s b =
    let all = block_code s b in
    record {
      go_on =
          λ pc line n is. let fit = fit_at 0 all pc line (GoOn n) (block_fits s b) is in
          let within = slice_get_within all pc (At line (GoOn n)) is in omega arith;
      unless =
          λ pc line n c is. let fit = fit_at 0 all pc line (Unless c n) (block_fits s b) is in
          let within = slice_get_within all pc (At line (Unless c n)) is in omega arith;
      again = λ pc line n c is. let fit = fit_at 0 all pc line (Again c n) (block_fits s b) is in omega arith;
    }
