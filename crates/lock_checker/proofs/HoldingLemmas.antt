-- What is held after statements, and their visits, depend on the members of a set of pairs alone.
use Rattle.std.proofs.Common.{◌≡◌, ℕ, List, [], ◌∷◌, ◌++◌, true, Option, Some, None, refl, sym, ap, ◌∙◌, subst}
use Rattle.std.specs.Prelude.{not, ◌||◌, is_none, length, zip, ◌==◌, false}
use Rattle.std.specs.Option.{option_map_or}
use Rattle.std.specs.List.{list_any}
use Rattle.task_ast.specs.declared.check_kind.CheckKind.{CheckKind}
use Rattle.task_ast.specs.declared.check_kind.CheckKind.TheVariants.{UnknownName, WrongCount, DataInControl, NotHeld, HeldTwice, BranchesDiffer, IndexChangedWhileHeld}
use Rattle.task_ast.specs.declared.tree.Atom.{Atom}
use Rattle.task_ast.specs.meaning.Tree.{Name, Stmt, At, What, SetCtl, While, If, Lock, Unlock, Fork, Join, Barrier, Settle, SetReg, Read, Write, Print, When, Block, Nothing, Then, statements}
use Rattle.task_ast.specs.meaning.Names.{task_named}
use Rattle.task_ast.specs.meaning.Visit.{Visit, visit, fails_if, first_fault}
use Rattle.task_ast.specs.meaning.Declarations.{Scope, is_control, is_register, is_lock, is_atom, has_unknown, has_data, has_data_index, is_misplaced}
use Rattle.task_ast.specs.meaning.Held.{Pair, is_index, held_after, held_by, held_at_end, has}
use Rattle.task_ast.specs.meaning.Check.{array_over, fails_at, fails_after, visits_of, visits_inside, visits_in}
use Rattle.task_ast.specs.Shaped.{is_shaped_stmt, is_shaped_block}
use Rattle.lock_checker.proofs.SamePairs.{Same, nothing_same, any_same, same_pairs_same, same-append, same-without, and_parts}
use Rattle.lock_checker.proofs.VisitLemmas.{or_later, first_fault-append}

mutual
  pub held_same : (s : Stmt) {a b : List Pair} → Same a b → Same (held_after s a) (held_after s b)
  held_same (At line w) same = held_same_by w same

  held_same_by : (w : What) {a b : List Pair} → Same a b → Same (held_by w a) (held_by w b)
  held_same_by (SetCtl x e) same = same
  held_same_by (While e b) same = same
  held_same_by (If e c d) same = end_same c same
  held_same_by (Lock x i) {a} {b} same = same-append a b _ same
  held_same_by (Unlock x i) {a} {b} same = same-without a b (x, i) same
  held_same_by (Fork t es x) same = same
  held_same_by (Join e x) same = same
  held_same_by (Barrier b) same = same
  held_same_by (Settle x c) same = same
  held_same_by (SetReg x e) same = same
  held_same_by (Read r i x) same = same
  held_same_by (Write r i e) same = same
  held_same_by (Print es) same = same
  held_same_by (When e c d) same = same

  pub end_same : (b : Block) {c d : List Pair} → Same c d → Same (held_at_end b c) (held_at_end b d)
  end_same Nothing same = same
  end_same (Then s b) same = end_same b (held_same s same)

lacks_same : (o : Option Name) (i : Atom) (a b : List Pair) → Same a b
    → option_map_or (λ l. not (has a (l, i))) o false ≡ option_map_or (λ l. not (has b (l, i))) o false
lacks_same None i a b same = refl
lacks_same (Some l) i a b same = ap not (same.members (l, i))

into_same : (o : Option Name) (a b : List Pair) → Same a b
    → option_map_or (λ x. list_any (is_index x) a) o false ≡ option_map_or (λ x. list_any (is_index x) b) o false
into_same None a b same = refl
into_same (Some x) a b same = any_same (is_index x) a b same

module _ (s : Scope) where
  at_same : (w : What) (a b : List Pair) → Same a b → fails_at s w a ≡ fails_at s w b
  at_same (SetCtl x e) a b same =
      ap (λ t. fails_if (not (is_control s x) || has_unknown s e) UnknownName ++ fails_if (has_data e) DataInControl
      ++ fails_if t IndexChangedWhileHeld) (any_same (is_index x) a b same)
  at_same (While e c) a b same = refl
  at_same (If e c d) a b same = refl
  at_same (Lock x i) a b same =
      ap (λ t. fails_if (not (is_lock s x) || not (is_atom s i)) UnknownName ++ fails_if t HeldTwice) (same.members (x, i))
  at_same (Unlock x i) a b same =
      ap (λ t. fails_if (not (is_lock s x) || not (is_atom s i)) UnknownName ++ fails_if (not t) NotHeld) (same.members (x, i))
  at_same (Fork t es x) a b same =
      ap (λ u. fails_if (is_none (task_named s.program t) || (list_any (has_unknown s) es
      || option_map_or (λ y. not (is_control s y)) x false)) UnknownName
      ++ fails_if (option_map_or (λ task. not (length task.params == length es)) (task_named s.program t) false) WrongCount
      ++ fails_if (option_map_or (λ task. list_any is_misplaced (zip task.params es)) (task_named s.program t) false) DataInControl
      ++ fails_if u IndexChangedWhileHeld)
      (into_same x a b same)
  at_same (Join e x) a b same = refl
  at_same (Barrier c) a b same = refl
  at_same (Settle x c) a b same =
      ap (λ t. fails_if (not (is_register s x) || not (is_control s c)) UnknownName ++ fails_if t IndexChangedWhileHeld)
      (any_same (is_index c) a b same)
  at_same (SetReg x e) a b same = refl
  at_same (Read r i x) a b same =
      ap (λ t. fails_if (is_none (array_over s r) || (not (is_atom s i) || not (is_register s x))) UnknownName ++ fails_if t NotHeld)
      (lacks_same (array_over s r) i a b same)
  at_same (Write r i e) a b same =
      ap (λ t. fails_if (is_none (array_over s r) || (not (is_atom s i) || has_unknown s e)) UnknownName
      ++ fails_if (has_data_index e) DataInControl ++ fails_if t NotHeld) (lacks_same (array_over s r) i a b same)
  at_same (Print es) a b same = refl
  at_same (When e c d) a b same = refl

  after_same : (w : What) (a b : List Pair) → Same a b → fails_after s w a ≡ fails_after s w b
  after_same (SetCtl x e) a b same = refl
  after_same (While e c) a b same =
      ap (λ t. fails_if (not t) BranchesDiffer) (same_pairs_same (held_at_end c a) a (held_at_end c b) b (end_same c same) same)
  after_same (If e c d) a b same =
      ap (λ t. fails_if (not t) BranchesDiffer)
      (same_pairs_same (held_at_end c a) (held_at_end d a) (held_at_end c b) (held_at_end d b) (end_same c same) (end_same d same))
  after_same (Lock x i) a b same = refl
  after_same (Unlock x i) a b same = refl
  after_same (Fork t es x) a b same = refl
  after_same (Join e x) a b same = refl
  after_same (Barrier c) a b same = refl
  after_same (Settle x c) a b same = refl
  after_same (SetReg x e) a b same = refl
  after_same (Read r i x) a b same = refl
  after_same (Write r i e) a b same = refl
  after_same (Print es) a b same = refl
  after_same (When e c d) a b same = refl

  mutual
    pub visits_same : (st : Stmt) (a b : List Pair) → Same a b → visits_of s st a ≡ visits_of s st b
    visits_same (At line w) a b same =
        ap (λ kinds. visit line kinds ∷ visits_inside s w a ++ visit line (fails_after s w a) ∷ []) (at_same w a b same)
        ∙ ap (λ vs. visit line (fails_at s w b) ∷ vs ++ visit line (fails_after s w a) ∷ []) (inside_same w a b same)
        ∙ ap (λ kinds. visit line (fails_at s w b) ∷ visits_inside s w b ++ visit line kinds ∷ []) (after_same w a b same)

    inside_same : (w : What) (a b : List Pair) → Same a b → visits_inside s w a ≡ visits_inside s w b
    inside_same (SetCtl x e) a b same = refl
    inside_same (While e c) a b same = in_same c a b same
    inside_same (If e c d) a b same =
        ap (λ vs. vs ++ visits_in s d a) (in_same c a b same) ∙ ap (λ vs. visits_in s c b ++ vs) (in_same d a b same)
    inside_same (Lock x i) a b same = refl
    inside_same (Unlock x i) a b same = refl
    inside_same (Fork t es x) a b same = refl
    inside_same (Join e x) a b same = refl
    inside_same (Barrier c) a b same = refl
    inside_same (Settle x c) a b same = refl
    inside_same (SetReg x e) a b same = refl
    inside_same (Read r i x) a b same = refl
    inside_same (Write r i e) a b same = refl
    inside_same (Print es) a b same = refl
    inside_same (When e c d) a b same =
        ap (λ vs. vs ++ visits_in s d a) (in_same c a b same) ∙ ap (λ vs. visits_in s c b ++ vs) (in_same d a b same)

    pub in_same : (c : Block) (a b : List Pair) → Same a b → visits_in s c a ≡ visits_in s c b
    in_same Nothing a b same = refl
    in_same (Then st c) a b same =
        ap (λ vs. vs ++ visits_in s c (held_after st a)) (visits_same st a b same)
        ∙ ap (λ vs. visits_of s st b ++ vs) (in_same c (held_after st a) (held_after st b) (held_same st same))

-- the statements left are checked from these pairs without a fault, and are shaped; at the end nothing is held
pub data Fits (s : Scope) : List Stmt → List Pair → Type 0 where
  none_left : Fits s [] []
  one_more : {st : Stmt} {left : List Stmt} {held : List Pair} → first_fault (visits_of s st held) ≡ None → is_shaped_stmt st ≡ true
      → Fits s left (held_after st held) → Fits s (st ∷ left) held

pub fits_same : {s : Scope} {left : List Stmt} {a : List Pair} → Fits s left a → (b : List Pair) → Same a b → Fits s left b
fits_same {s} none_left b same = subst (Fits s []) (sym (nothing_same b same)) none_left
fits_same {s} (one_more {st} {left} {held} none shaped rest) b same =
    one_more (sym (ap first_fault (visits_same s st held b same)) ∙ none) shaped (fits_same rest (held_after st b) (held_same st same))

pub none_parts : (a b : List Visit) → first_fault (a ++ b) ≡ None → (first_fault a ≡ None) × (first_fault b ≡ None)
none_parts a b none = by (first_fault a) refl (sym (first_fault-append a b) ∙ none)
  where
    by : (o : Option (CheckKind × ℕ)) → first_fault a ≡ o → or_later o (first_fault b) ≡ None
        → (first_fault a ≡ None) × (first_fault b ≡ None)
    by None is rest = (is, rest)
    by (Some f) is rest = cc

-- a block without a fault before statements that fit after it
pub fits_block : {s : Scope} (b : Block) (rest : List Stmt) (held : List Pair) → first_fault (visits_in s b held) ≡ None
    → is_shaped_block b ≡ true → Fits s rest (held_at_end b held) → Fits s (statements b ++ rest) held
fits_block Nothing rest held none shaped fits = fits
fits_block {s} (Then st b) rest held none shaped fits =
    let parts = none_parts (visits_of s st held) (visits_in s b (held_after st held)) none in
    let shapes = and_parts (is_shaped_stmt st) (is_shaped_block b) shaped in
    one_more parts.0 shapes.0 (fits_block b rest (held_after st held) parts.1 shapes.1 fits)
