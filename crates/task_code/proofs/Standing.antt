-- Instructions that stand in code.
use Rattle.std.proofs.Common.{◌≡◌, ℕ, ◌+◌, ◌<◌, List, [], ◌∷◌, ◌++◌, length, Some, ap, ◌∙◌, subst, arith, append_assoc, append-nil, length-append}
use Rattle.std.specs.Prelude.{slice_get}
use Rattle.std.proofs.lemmas.Option.{slice_get-get_or, slice_get_past}
use Rattle.std.proofs.Math.Seq.{get_or-append_seam}
use Rattle.task_ast.specs.meaning.Tree.{Stmt, At, Block, Nothing, Then, statements}
use Rattle.task_code.specs.Instructions.{Instr}
use Rattle.task_code.specs.Lowering.{Scope, what_code, block_code}
use Rattle.task_code.specs.Relation.{HasAt, Left, ends, stands}

pub has_front : (all : List Instr) (pc : ℕ) (a b : List Instr) → HasAt all pc (a ++ b) → HasAt all pc a
has_front all pc [] b h = tt
has_front all pc (i ∷ a) b h = (h.0, has_front all (pc + 1) a b h.1)

pub has_back : (all : List Instr) (pc : ℕ) (a b : List Instr) → HasAt all pc (a ++ b) → HasAt all (pc + length a) b
has_back all pc [] b h = let e : pc ≡ pc + 0 = omega arith in subst (λ n. HasAt all n b) e h
has_back all pc (i ∷ a) b h =
    let e : pc + 1 + length a ≡ pc + length (i ∷ a) = omega arith in
    subst (λ n. HasAt all n b) e (has_back all (pc + 1) a b h.1)

has_all : (is pre : List Instr) → HasAt (pre ++ is) (length pre) is
has_all [] pre = tt
has_all (i ∷ is) pre =
    let within : length pre < length (pre ++ i ∷ is) = omega (arith, length-append pre (i ∷ is)) in
    let here = slice_get-get_or (pre ++ i ∷ is) (length pre) i within ∙ ap Some (get_or-append_seam pre i is i) in
    let n : length (pre ++ i ∷ []) ≡ length pre + 1 = omega (arith, length-append pre (i ∷ [])) in
    let later = subst (λ l. HasAt l (length (pre ++ i ∷ [])) is) (append_assoc pre (i ∷ []) is) (has_all is (pre ++ i ∷ [])) in
    (here, subst (λ m. HasAt (pre ++ i ∷ is) m is) n later)

module _ (s : Scope) (all : List Instr) where
  -- the code of a block stands before what is left after it
  pub stands_block : (b : Block) (pc : ℕ) (rest : List Stmt) → HasAt all pc (block_code s b)
      → Left s all (pc + length (block_code s b)) rest → Left s all pc (statements b ++ rest)
  stands_block Nothing pc rest has left = let e : pc + 0 ≡ pc = omega arith in subst (λ n. Left s all n rest) e left
  stands_block (Then (At line w) b) pc rest has left =
      let c = what_code s line w in
      let d = block_code s b in
      let e : pc + length (c ++ d) ≡ pc + length c + length d = omega (arith, length-append c d) in
      stands pc line w (statements b ++ rest) (has_front all pc c d has)
      (stands_block b (pc + length c) rest (has_back all pc c d has) (subst (λ n. Left s all n rest) e left))

-- the code of a block does its statements from the first instruction on
pub begins_block : (s : Scope) (b : Block) → Left s (block_code s b) 0 (statements b)
begins_block s b =
    let all = block_code s b in
    let past = slice_get_past all (length all) (omega arith) in
    let end : Left s all (0 + length all) [] = ends (0 + length all) (ap (slice_get all) (omega arith) ∙ past) in
    subst (λ left. Left s all 0 left) (append-nil (statements b)) (stands_block s all b 0 [] (has_all all []) end)
