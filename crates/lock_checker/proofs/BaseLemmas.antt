-- The first cells of arrays.
use Rattle.std.proofs.Common.{◌≡◌, ℕ, ◌+◌, ◌≤◌, List, [], ◌∷◌, ◌++◌, Option, Some, None, refl, ap, ◌∙◌, sym, subst, add_assoc, append_assoc, append-nil, zero-add, map, lit≤, arith}
use Rattle.gp_base.specs.declared.limits.TheConstants.{MOST_CELLS}
use Rattle.std.specs.Prelude.{Bool, true, false, cond, if◌then◌else◌, option_map, IfSome}
use Rattle.task_ast.specs.Layout.{base_of}
use Rattle.task_ast.specs.declared.check_kind.CheckKind.{CheckKind}
use Rattle.task_ast.specs.declared.tree.Head.{Head}
use Rattle.task_ast.specs.meaning.Tree.{Name, Program}
use Rattle.task_ast.specs.meaning.Names.{is_name, locks_of, records_of, cells_in, head_name}
use Rattle.task_ast.specs.meaning.Declarations.{head_visit, head_visits, task_visits, main_visit, head_line}
use Rattle.task_ast.specs.meaning.Visit.{first_fault}
use Rattle.task_ast.specs.meaning.Check.{bodies_visits, check_fault}
use Rattle.lock_checker.specs.inner.Faults.{lowest}
use Rattle.lock_checker.proofs.VisitLemmas.{or_later, on_line, fault_at-lowest, first_fault-append}
use Rattle.lock_checker.proofs.HeadLemmas.{cells_small}

pub option_map-add : (b s : ℕ) (o : Option ℕ) → option_map (λ n. b + n) (option_map (λ n. s + n) o) ≡ option_map (λ n. (b + s) + n) o
option_map-add b s None = refl
option_map-add b s (Some n) = ap Some (sym (add_assoc b s n))

pub option_map-zero : (o : Option ℕ) → option_map (λ n. 0 + n) o ≡ o
option_map-zero None = refl
option_map-zero (Some n) = ap Some (zero-add n)

-- the first cell of the array of this name, where the first of all arrays begins at a cell
pub option_map-first : (there : Bool) (b s : ℕ) (o : Option ℕ)
    → option_map (λ n. b + n) (cond there (Some 0) (option_map (λ n. s + n) o))
    ≡ (if there then Some b else option_map (λ n. (b + s) + n) o)
option_map-first true b s o = ap Some (omega arith)
option_map-first false b s o = option_map-add b s o

pub ruleset base_steps = (option_map-first, option_map-zero)

-- an array begins among the cells of all
pub base_small : (arrays : List (Name × ℕ)) (x : Name) (most : ℕ) → cells_in arrays ≤ most → IfSome (base_of arrays x) (λ base. base ≤ most)
base_small [] x most fits = tt
base_small (array ∷ arrays) x most fits = by (is_name x array.0) (base_of arrays x) (base_small arrays x (cells_in arrays) (omega arith))
  where
    by : (b : Bool) (o : Option ℕ) → IfSome o (λ base. base ≤ cells_in arrays)
        → IfSome (cond b (Some 0) (option_map (λ n. array.1 + n) o)) (λ base. base ≤ most)
    by true o small = omega arith
    by false None small = tt
    by false (Some n) small = omega arith

-- the first of two faults is none where both are
none_of : (a b : Option (CheckKind × ℕ)) → or_later a b ≡ None → (a ≡ None) × (b ≡ None)
none_of None b none = (refl, none)
none_of (Some f) b none = cc

no_rule : (line : ℕ) (o : Option CheckKind) → on_line line o ≡ None → o ≡ None
no_rule line None none = refl
no_rule line (Some k) none = cc

-- heads without a fault keep the limits
heads_small : (program : Program) (before heads : List Head) → first_fault (head_visits program before heads) ≡ None
    → cells_in (locks_of before) ≤ MOST_CELLS → cells_in (records_of before) ≤ MOST_CELLS
    → (cells_in (locks_of (before ++ heads)) ≤ MOST_CELLS) × (cells_in (records_of (before ++ heads)) ≤ MOST_CELLS)
heads_small program before [] none locks records = (
  subst (λ l. cells_in (locks_of l) ≤ MOST_CELLS) (sym (append-nil before)) locks,
  subst (λ l. cells_in (records_of l) ≤ MOST_CELLS) (sym (append-nil before)) records,
)
heads_small program before (h ∷ heads) none locks records =
    let parts =
    none_of (on_line (head_line h) (lowest (head_visit program before h).fails))
    (first_fault (head_visits program (before ++ h ∷ []) heads))
    (sym (fault_at-lowest (head_line h) (head_visit program before h).fails
    (first_fault (head_visits program (before ++ h ∷ []) heads))) ∙ none) in
    let small = cells_small program before h (no_rule (head_line h) (lowest (head_visit program before h).fails) parts.0) locks records in
    let rest = heads_small program (before ++ h ∷ []) heads parts.1 small.0 small.1 in (
      subst (λ l. cells_in (locks_of l) ≤ MOST_CELLS) (append_assoc before (h ∷ []) heads) rest.0,
      subst (λ l. cells_in (records_of l) ≤ MOST_CELLS) (append_assoc before (h ∷ []) heads) rest.1,
    )

-- a program without a fault keeps them
pub accepted_small : (program : Program) → check_fault program ≡ None
    → (cells_in (locks_of program.heads) ≤ MOST_CELLS) × (cells_in (records_of program.heads) ≤ MOST_CELLS)
accepted_small program none =
    let heads = head_visits program [] program.heads in
    let tasks = task_visits (map head_name program.heads) program.tasks in
    let bodies = main_visit program ∷ bodies_visits program program.tasks in
    let early = none_of (first_fault (heads ++ tasks)) (first_fault bodies) (sym (first_fault-append (heads ++ tasks) bodies) ∙ none) in
    let first = none_of (first_fault heads) (first_fault tasks) (sym (first_fault-append heads tasks) ∙ early.0) in
    heads_small program [] program.heads first.0 (lit≤ tt) (lit≤ tt)
