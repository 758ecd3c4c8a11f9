-- Heads one after the other.
use Rattle.std.proofs.Common.{◌≡◌, ℕ, ◌+◌, ◌<◌, ◌≤◌, List, [], ◌∷◌, ◌++◌, Bool, true, false, Some, None, refl, ap, ◌∙◌, sym, subst, map, length, get_or, take, drop, add_assoc, zero-add, arith}
use Rattle.gp_base.specs.declared.limits.TheConstants.{MOST_CELLS}
use Rattle.std.proofs.lemmas.Bool.{ltb-false}
use Rattle.std.proofs.lemmas.List.{map-append, at_drop_more, take_more}
use Rattle.task_ast.specs.declared.check_kind.CheckKind.{CheckKind}
use Rattle.task_ast.specs.declared.check_kind.CheckKind.TheVariants.{TooMany}
use Rattle.task_ast.specs.meaning.Declarations.{head_line, passes_limit, head_visit, head_visits}
use Rattle.task_ast.specs.meaning.Visit.{fails_if, first_fault}
use Rattle.lock_checker.specs.inner.Faults.{lowest}
use Rattle.lock_checker.proofs.VisitLemmas.{or_later, on_line, fault_at-lowest}
use Rattle.std.proofs.lemmas.List.Folds.{list_any-append}
use Rattle.task_ast.specs.declared.tree.Head.{Head}
use Rattle.task_ast.specs.declared.tree.Head.TheVariants.{LockHead, BarrierHead, RecHead, FeedHead}
use Rattle.task_ast.specs.meaning.Tree.{Name, Program}
use Rattle.task_ast.specs.meaning.Names.{is_name, is_among, natural, head_name, locks_of, records_of, cells_in}
use Rattle.lock_checker.specs.declared.heads.Heads.{Heads}
use Rattle.lock_checker.specs.declared.symbol_table.SymbolTable.{SymbolTable}
use Rattle.lock_checker.specs.inner.Heads.{HasNames, AreHeads}
use Rattle.lock_checker.proofs.VariableLemmas.{HasAlso, stands_also}

pub lock_cells-append : (a b : List Head) → cells_in (locks_of (a ++ b)) ≡ cells_in (locks_of a) + cells_in (locks_of b)
lock_cells-append [] b = sym (zero-add (cells_in (locks_of b)))
lock_cells-append (LockHead name size line ∷ a) b =
    ap (λ n. natural size + n) (lock_cells-append a b) ∙ sym (add_assoc (natural size) (cells_in (locks_of a)) (cells_in (locks_of b)))
lock_cells-append (BarrierHead name number line ∷ a) b = lock_cells-append a b
lock_cells-append (RecHead name size by from line ∷ a) b = lock_cells-append a b
lock_cells-append (FeedHead name fields from line ∷ a) b = lock_cells-append a b

pub record_cells-append : (a b : List Head) → cells_in (records_of (a ++ b)) ≡ cells_in (records_of a) + cells_in (records_of b)
record_cells-append [] b = sym (zero-add (cells_in (records_of b)))
record_cells-append (LockHead name size line ∷ a) b = record_cells-append a b
record_cells-append (BarrierHead name number line ∷ a) b = record_cells-append a b
record_cells-append (RecHead name size by from line ∷ a) b =
    ap (λ n. natural size + n) (record_cells-append a b)
    ∙ sym (add_assoc (natural size) (cells_in (records_of a)) (cells_in (records_of b)))
record_cells-append (FeedHead name fields from line ∷ a) b = record_cells-append a b

-- a table with one more name
pub names_with : (old new : SymbolTable (Unit {0})) (names : List Name) (name : Name) → HasNames old names → HasAlso old new name
    → HasNames new (names ++ name ∷ [])
names_with old new names name had put =
    record {
      same = λ x. stands_also old new name x (is_among x names) put (had.same x)
          ∙ sym (list_any-append (is_name x) names (name ∷ []));
    }

-- the heads with one more
pub heads_with : (old : Heads) (names : SymbolTable (Unit {0})) (before : List Head) (head : Head) (name : Name) (locks records : ℕ)
    → AreHeads old before → HasAlso old.names names name → name ≡ head_name head → locks ≡ cells_in (locks_of (head ∷ []))
    → records ≡ cells_in (records_of (head ∷ []))
    → AreHeads (record { names = names; lock_cells = old.lock_cells + locks; record_cells = old.record_cells + records })
    (before ++ head ∷ [])
heads_with old names before head name locks records were put is_name is_locks is_records = record {
  names =
      record {
        same = λ x. (names_with old.names names (map head_name before) name were.names put).same x
            ∙ ap (λ (n : Name). is_among x (map head_name before ++ n ∷ [])) is_name
            ∙ ap (is_among x) (sym (map-append head_name before (head ∷ [])));
      };
  lock_cells =
      ap (λ n. n + locks) were.lock_cells ∙ ap (λ n. cells_in (locks_of before) + n) is_locks ∙ sym (lock_cells-append before (head ∷ []));
  record_cells =
      ap (λ n. n + records) were.record_cells ∙ ap (λ n. cells_in (records_of before) + n) is_records
      ∙ sym (record_cells-append before (head ∷ []));
}

-- where no rule fails the last test is false
none_last : (kinds : List CheckKind) (b : Bool) (kind : CheckKind) → lowest (kinds ++ fails_if b kind) ≡ None → b ≡ false
none_last [] true kind none = cc
none_last [] false kind none = refl
none_last (k ∷ kinds) b kind none = cc

locks_small : (before : List Head) (h : Head) → cells_in (locks_of before) ≤ MOST_CELLS → passes_limit before h ≡ false
    → cells_in (locks_of before) + cells_in (locks_of (h ∷ [])) ≤ MOST_CELLS
locks_small before (LockHead name size line) small fits =
    let most : cells_in (locks_of before) + natural size ≤ MOST_CELLS =
    ltb-false MOST_CELLS (cells_in (locks_of before) + natural size) fits in
    omega arith
locks_small before (BarrierHead name number line) small fits = omega arith
locks_small before (RecHead name size by from line) small fits = omega arith
locks_small before (FeedHead name fields from line) small fits = omega arith

records_small : (before : List Head) (h : Head) → cells_in (records_of before) ≤ MOST_CELLS → passes_limit before h ≡ false
    → cells_in (records_of before) + cells_in (records_of (h ∷ [])) ≤ MOST_CELLS
records_small before (LockHead name size line) small fits = omega arith
records_small before (BarrierHead name number line) small fits = omega arith
records_small before (RecHead name size by from line) small fits =
    let most : cells_in (records_of before) + natural size ≤ MOST_CELLS =
    ltb-false MOST_CELLS (cells_in (records_of before) + natural size) fits in
    omega arith
records_small before (FeedHead name fields from line) small fits = omega arith

module _ (program : Program) (before : List Head) (h : Head) (none : lowest (head_visit program before h).fails ≡ None) where
  fits : passes_limit before h ≡ false
  fits = none_last _ (passes_limit before h) TooMany none

  -- a head at which no rule fails keeps the limits
  pub locks_kept : (heads : Heads) → AreHeads heads (before ++ h ∷ []) → cells_in (locks_of before) ≤ MOST_CELLS
      → heads.lock_cells ≤ MOST_CELLS
  locks_kept heads are small =
      subst (λ n. n ≤ MOST_CELLS) (sym (are.lock_cells ∙ lock_cells-append before (h ∷ []))) (locks_small before h small fits)

  pub records_kept : (heads : Heads) → AreHeads heads (before ++ h ∷ []) → cells_in (records_of before) ≤ MOST_CELLS
      → heads.record_cells ≤ MOST_CELLS
  records_kept heads are small =
      subst (λ n. n ≤ MOST_CELLS) (sym (are.record_cells ∙ record_cells-append before (h ∷ []))) (records_small before h small fits)

  -- so do the cells of the heads with it
  pub cells_small : cells_in (locks_of before) ≤ MOST_CELLS → cells_in (records_of before) ≤ MOST_CELLS
      → (cells_in (locks_of (before ++ h ∷ [])) ≤ MOST_CELLS) × (cells_in (records_of (before ++ h ∷ [])) ≤ MOST_CELLS)
  cells_small locks records = (
    subst (λ n. n ≤ MOST_CELLS) (sym (lock_cells-append before (h ∷ []))) (locks_small before h locks fits),
    subst (λ n. n ≤ MOST_CELLS) (sym (record_cells-append before (h ∷ []))) (records_small before h records fits),
  )

module _ (program : Program) (heads : List Head) (i : ℕ) (h : Head) (within : i < length heads) (is : h ≡ get_or heads i h) where
  pub heads_more : take (i + 1) heads ≡ take i heads ++ h ∷ []
  heads_more = take_more heads i h within ∙ ap (λ (y : Head). take i heads ++ y ∷ []) (sym is)

  found_from : (before : List Head)
      → first_fault (head_visits program before (drop i heads))
      ≡ or_later (on_line (head_line h) (lowest (head_visit program before h).fails))
      (first_fault (head_visits program (before ++ h ∷ []) (drop (i + 1) heads)))
  found_from before =
      at_drop_more (λ l. first_fault (head_visits program before l)) heads i h within
      ∙ ap (λ (y : Head). first_fault (head_visit program before y ∷ head_visits program (before ++ y ∷ []) (drop (i + 1) heads))) (sym is)
      ∙ fault_at-lowest (head_line h) (head_visit program before h).fails
      (first_fault (head_visits program (before ++ h ∷ []) (drop (i + 1) heads)))

  -- where no rule fails at the head, the later ones tell the rest
  pub heads_later : (before : List Head) → lowest (head_visit program before h).fails ≡ None
      → first_fault (head_visits program (before ++ h ∷ []) (drop (i + 1) heads)) ≡ first_fault (head_visits program before (drop i heads))
  heads_later before none =
      sym (found_from before ∙ ap (λ o. or_later (on_line (head_line h) o)
      (first_fault (head_visits program (before ++ h ∷ []) (drop (i + 1) heads)))) none)

  pub head_told : (before : List Head) (kind : CheckKind) → lowest (head_visit program before h).fails ≡ Some kind
      → first_fault (head_visits program before (drop i heads)) ≡ Some (kind, head_line h)
  head_told before kind some =
      found_from before ∙ ap (λ o. or_later (on_line (head_line h) o)
      (first_fault (head_visits program (before ++ h ∷ []) (drop (i + 1) heads)))) some
