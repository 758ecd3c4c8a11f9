-- Statements of a block one after the other.
use Rattle.std.proofs.Common.{◌≡◌, ℕ, ◌+◌, ◌<◌, List, [], ◌∷◌, ◌++◌, Option, None, refl, ap, ◌∙◌, sym, length, get_or, drop}
use Rattle.std.specs.Prelude.{not}
use Rattle.std.proofs.lemmas.List.{at_drop_more}
use Rattle.task_ast.specs.declared.check_kind.CheckKind.{CheckKind}
use Rattle.task_ast.specs.declared.tree.Stmt.{Stmt}
use Rattle.task_ast.specs.meaning.Tree as plain
use Rattle.task_ast.specs.meaning.Declarations.{Scope}
use Rattle.task_ast.specs.meaning.Held.{Pair, has, held_after, held_at_end, same_pairs}
use Rattle.task_ast.specs.meaning.Check.{visits_of, visits_in}
use Rattle.task_ast.specs.View.{plain_expr, plain_what, plain_stmt, plain_block}
use Rattle.task_ast.specs.declared.tree.Expr.{Expr}
use Rattle.task_ast.specs.declared.check_kind.CheckKind.TheVariants.{BranchesDiffer}
use Rattle.task_ast.specs.declared.tree.What.{While, If, When}
use Rattle.task_ast.proofs.Views.{stmt_At, what_While, what_If, what_When}
use Rattle.task_ast.specs.meaning.Visit.{Visit, visit, fails_if, first_fault}
use Rattle.lock_checker.specs.declared.fault.CheckFault.{CheckFault}
use Rattle.lock_checker.specs.Accepted.{Told}
use Rattle.lock_checker.specs.inner.Faults.{later_visits}
use Rattle.lock_checker.specs.inner.Pairs.{HaveSame, Moves}
use Rattle.lock_checker.proofs.ChangeLemmas.{leads_same}
use Rattle.lock_checker.proofs.HoldingLemmas.{end_same, in_same}
use Rattle.lock_checker.proofs.VisitLemmas.{found_after, told_before}

module _ (xs : List Stmt) (i : ℕ) (x : Stmt) (within : i < length xs) (is : x ≡ get_or xs i x) where
  -- what is left of a block begins with the statement at the index
  block_from : plain_block (drop i xs) ≡ plain.Then (plain_stmt x) (plain_block (drop (i + 1) xs))
  block_from =
      at_drop_more plain_block xs i x within ∙ ap (λ (y : Stmt). plain.Then (plain_stmt y) (plain_block (drop (i + 1) xs))) (sym is)

  module _ (s : Scope) (held : List Pair) where
    abbrev here : List Visit
    here = visits_of s (plain_stmt x) held

    abbrev after : List Visit
    after = visits_in s (plain_block (drop (i + 1) xs)) (held_after (plain_stmt x) held)

    splits : visits_in s (plain_block (drop i xs)) held ≡ here ++ after
    splits = ap (λ b. visits_in s b held) block_from

    -- where the statement has a fault
    pub told_here : (fault : CheckFault) (all : Option (CheckKind × ℕ)) → first_fault (visits_in s (plain_block (drop i xs)) held) ≡ all
        → Told fault (first_fault (visits_of s (plain_stmt x) held)) → Told fault all
    told_here fault all is_all told = told_before fault (visits_in s (plain_block (drop i xs)) held) here after all splits is_all told

    -- where it has none
    module _ (next : List Pair) (goes : HaveSame next (held_after (plain_stmt x) held)) where
      pub found_later : first_fault (visits_of s (plain_stmt x) held) ≡ None
          → first_fault (visits_in s (plain_block (drop (i + 1) xs)) next) ≡ first_fault (visits_in s (plain_block (drop i xs)) held)
      found_later none =
          ap first_fault (in_same s (plain_block (drop (i + 1) xs)) next (held_after (plain_stmt x) held) (record { members = goes }))
          ∙ found_after (visits_in s (plain_block (drop i xs)) held) here after splits none

      pub ends_later : HaveSame (held_at_end (plain_block (drop (i + 1) xs)) next) (held_at_end (plain_block (drop i xs)) held)
      ends_later q =
          (end_same (plain_block (drop (i + 1) xs)) (record { members = goes })).members q
          ∙ sym (ap (λ b. has (held_at_end b held) q) block_from)

-- one list may stand for another with the same members
pub moves_same : (old old' new ends ends' changes : List Pair) → HaveSame old old' → HaveSame ends ends' → Moves old changes new ends
    → Moves old' changes new ends'
moves_same old old' new ends ends' changes same agree moves =
    (leads_same old old' new new changes moves.0 same (λ q. refl), λ q. moves.1 q ∙ agree q)

-- a `when`
module _ (s : Stmt) (e : Expr) (first second : List Stmt) (is : s.what ≡ When e first second) where
  whole : plain_stmt s ≡ plain.At s.line (plain.When (plain_expr e) (plain_block first) (plain_block second))
  whole = stmt_At s ∙ ap (plain.At s.line) (ap plain_what is ∙ what_When e first second)

  pub choice_held : (old : List Pair) → held_after (plain_stmt s) old ≡ old
  choice_held old = ap (λ st. held_after st old) whole

  pub choice_visits : (scope : Scope) (old : List Pair) (a b : List Stmt) → a ≡ first → b ≡ second
      → later_visits scope (plain_stmt s) old ≡ (visits_in scope (plain_block a) old ++ visits_in scope (plain_block b) old)
      ++ visit s.line [] ∷ []
  choice_visits scope old a b is_a is_b =
      ap (λ st. later_visits scope st old) whole
      ∙ ap (λ l. (visits_in scope (plain_block l) old ++ visits_in scope (plain_block second) old) ++ visit s.line [] ∷ []) (sym is_a)
      ∙ ap (λ l. (visits_in scope (plain_block a) old ++ visits_in scope (plain_block l) old) ++ visit s.line [] ∷ []) (sym is_b)

-- a loop
module _ (s : Stmt) (e : Expr) (body : List Stmt) (is : s.what ≡ While e body) where
  loop : plain_stmt s ≡ plain.At s.line (plain.While (plain_expr e) (plain_block body))
  loop = stmt_At s ∙ ap (plain.At s.line) (ap plain_what is ∙ what_While e body)

  pub loop_held : (old : List Pair) → held_after (plain_stmt s) old ≡ old
  loop_held old = ap (λ st. held_after st old) loop

  pub loop_visits : (scope : Scope) (old : List Pair) (b : List Stmt) → b ≡ body
      → later_visits scope (plain_stmt s) old ≡ visits_in scope (plain_block b) old
      ++ visit s.line (fails_if (not (same_pairs (held_at_end (plain_block b) old) old)) BranchesDiffer) ∷ []
  loop_visits scope old b is_b =
      ap (λ st. later_visits scope st old) loop
      ∙ ap (λ l. visits_in scope (plain_block l) old
      ++ visit s.line (fails_if (not (same_pairs (held_at_end (plain_block l) old) old)) BranchesDiffer) ∷ []) (sym is_b)

-- an `if`
module _ (s : Stmt) (e : Expr) (first second : List Stmt) (is : s.what ≡ If e first second) where
  branches : plain_stmt s ≡ plain.At s.line (plain.If (plain_expr e) (plain_block first) (plain_block second))
  branches = stmt_At s ∙ ap (plain.At s.line) (ap plain_what is ∙ what_If e first second)

  pub branches_held : (old : List Pair) (a : List Stmt) → a ≡ first → held_after (plain_stmt s) old ≡ held_at_end (plain_block a) old
  branches_held old a is_a = ap (λ st. held_after st old) branches ∙ ap (λ l. held_at_end (plain_block l) old) (sym is_a)

  pub branches_visits : (scope : Scope) (old : List Pair) (a b : List Stmt) → a ≡ first → b ≡ second
      → later_visits scope (plain_stmt s) old ≡ (visits_in scope (plain_block a) old ++ visits_in scope (plain_block b) old)
      ++ visit s.line (fails_if (not (same_pairs (held_at_end (plain_block a) old) (held_at_end (plain_block b) old))) BranchesDiffer) ∷ []
  branches_visits scope old a b is_a is_b =
      ap (λ st. later_visits scope st old) branches
      ∙ ap (λ l. (visits_in scope (plain_block l) old ++ visits_in scope (plain_block second) old) ++ visit s.line
      (fails_if (not (same_pairs (held_at_end (plain_block l) old) (held_at_end (plain_block second) old))) BranchesDiffer) ∷ []) (sym is_a)
      ∙ ap (λ l. (visits_in scope (plain_block a) old ++ visits_in scope (plain_block l) old) ++ visit s.line
      (fails_if (not (same_pairs (held_at_end (plain_block a) old) (held_at_end (plain_block l) old))) BranchesDiffer) ∷ []) (sym is_b)
