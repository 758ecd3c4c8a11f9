-- The cells of records that come from files, head by head.
use Rattle.std.proofs.Common.{◌≡◌, ℕ, ◌+◌, ◌<◌, ℤ, List, [], ◌∷◌, ◌++◌, length, get_or, drop, Option, Some, None, refl, sym, ap, ap₂, ◌∙◌, append_assoc}
use Rattle.std.specs.Prelude.{take}
use Rattle.std.proofs.Math.Nat.{add-zero}
use Rattle.std.proofs.lemmas.List.{at_drop_more}
use Rattle.task_ast.specs.declared.tree.Head.{Head}
use Rattle.task_ast.specs.declared.tree.Head.TheVariants.{LockHead, BarrierHead, RecHead, FeedHead}
use Rattle.task_ast.specs.meaning.Tree.{Name}
use Rattle.task_ast.specs.meaning.Names.{natural, records_of, cells_in}
use Rattle.task_ast.specs.meaning.Layout.{cut}
use Rattle.memory_batch.specs.Sourced.{own_cells, sourced}

-- the cells of those of the records of these heads that come from files, of the cells of all records
abbrev pub cells_by : List Head → List ℤ → List (List ℤ)
cells_by heads cells = sourced heads (cut (records_of heads) cells)

own-append : (from : Option Name) (cells : List ℤ) (more : List (List ℤ)) → own_cells from cells ++ more ≡ (own_cells from cells ++ []) ++ more
own-append None cells more = refl
own-append (Some file) cells more = refl

-- those of a head, and those of the heads after it
cells_by-cons : (head : Head) (heads : List Head) (cells : List ℤ)
    → cells_by (head ∷ heads) cells ≡ cells_by (head ∷ []) cells ++ cells_by heads (drop (cells_in (records_of (head ∷ []))) cells)
cells_by-cons (LockHead name size line) heads cells = refl
cells_by-cons (BarrierHead name number line) heads cells = refl
cells_by-cons (RecHead name size by from line) heads cells =
    ap (λ n. own_cells from (take (natural size) cells) ++ cells_by heads (drop n cells)) (sym (add-zero (natural size)))
    ∙ own-append from (take (natural size) cells) (cells_by heads (drop (natural size + 0) cells))
cells_by-cons (FeedHead name fields from line) heads cells = refl

-- the cells of one more head
pub one_head_more : (heads : List Head) (i : ℕ) (head : Head) (found after all : List (List ℤ)) (rest next : List ℤ) → i < length heads
    → head ≡ get_or heads i head
    → found ++ cells_by (drop i heads) rest ≡ all
    → after ≡ found ++ cells_by (head ∷ []) rest → next ≡ drop (cells_in (records_of (head ∷ []))) rest
    → after ++ cells_by (drop (i + 1) heads) next ≡ all
one_head_more heads i head found after all rest next below is so_far put left =
    let later = drop (i + 1) heads in
    let own = cells_by (head ∷ []) rest in
    ap₂ (λ t n. t ++ cells_by later n) put left
    ∙ append_assoc found own (cells_by later (drop (cells_in (records_of (head ∷ []))) rest))
    ∙ ap (λ l. found ++ l) (sym (cells_by-cons head later rest))
    ∙ ap (λ h. found ++ cells_by (h ∷ later) rest) is
    ∙ sym (at_drop_more (λ (l : List Head). found ++ cells_by l rest) heads i head below)
    ∙ so_far
