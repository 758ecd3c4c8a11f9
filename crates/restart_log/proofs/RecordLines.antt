-- The lines of records, head by head.
use Rattle.std.proofs.Common.{◌≡◌, ℕ, ◌+◌, ◌<◌, ℤ, List, [], ◌∷◌, ◌++◌, length, get_or, take, drop, refl, sym, ap, ap₂, ◌∙◌, append_assoc, flat_map}
use Rattle.std.proofs.Math.Nat.{add-zero}
use Rattle.std.proofs.lemmas.List.{at_drop_more}
use Rattle.std.proofs.lemmas.Grind.{flat_map-append}
use Rattle.task_ast.specs.declared.tree.Head.{Head}
use Rattle.task_ast.specs.declared.tree.Head.TheVariants.{LockHead, BarrierHead, RecHead, FeedHead}
use Rattle.task_ast.specs.meaning.Names.{natural, records_of, cells_in}
use Rattle.task_ast.specs.meaning.Layout.{cut}
use Rattle.restart_log.specs.meaning.Tail.{record_line}

-- the records of a head, and those of the heads after it
cut-cons : (head : Head) (heads : List Head) (cells : List ℤ)
    → cut (records_of (head ∷ heads)) cells ≡ cut (records_of (head ∷ [])) cells ++ cut (records_of heads)
    (drop (cells_in (records_of (head ∷ []))) cells)
cut-cons (LockHead name size line) heads cells = refl
cut-cons (BarrierHead name number line) heads cells = refl
cut-cons (RecHead name size by from line) heads cells =
    ap (λ n. (name, take (natural size) cells) ∷ cut (records_of heads) (drop n cells)) (sym (add-zero (natural size)))
cut-cons (FeedHead name fields from line) heads cells = refl

-- the lines of one more head
pub records_more : (heads : List Head) (i : ℕ) (head : Head) (text after all : List ℕ) (rest next : List ℤ) → i < length heads
    → head ≡ get_or heads i head
    → text ++ flat_map record_line (cut (records_of (drop i heads)) rest) ≡ all
    → after ≡ text ++ flat_map record_line (cut (records_of (head ∷ [])) rest) → next ≡ drop (cells_in (records_of (head ∷ []))) rest
    → after ++ flat_map record_line (cut (records_of (drop (i + 1) heads)) next) ≡ all
records_more heads i head text after all rest next below is so_far put left =
    let later = drop (i + 1) heads in
    let own = cut (records_of (head ∷ [])) rest in
    ap₂ (λ t n. t ++ flat_map record_line (cut (records_of later) n)) put left
    ∙ append_assoc text (flat_map record_line own)
    (flat_map record_line (cut (records_of later) (drop (cells_in (records_of (head ∷ []))) rest)))
    ∙ ap (λ l. text ++ l) (sym (flat_map-append record_line own (cut (records_of later) (drop (cells_in (records_of (head ∷ []))) rest)))
    ∙ ap (flat_map record_line) (sym (cut-cons head later rest)))
    ∙ ap (λ h. text ++ flat_map record_line (cut (records_of (h ∷ later)) rest)) is
    ∙ sym (at_drop_more (λ (l : List Head). text ++ flat_map record_line (cut (records_of l) rest)) heads i head below)
    ∙ so_far
