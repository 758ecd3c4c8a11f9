-- Statements of a block one after the other, and those in the blocks of a statement.
use Rattle.std.proofs.Common.{◌≡◌, ◌∙◌, ◌<◌, ◌+◌, ℕ, suc, List, [], ◌∷◌, ◌++◌, Bool, refl, ap, sym, subst, length, get_or, drop, arith, length-append}
use Rattle.std.specs.List.{Contains}
use Rattle.std.proofs.lemmas.List.{at_drop_more, get_or_append_left, get_or-append-add}
use Rattle.task_ast.specs.declared.tree.Stmt.{Stmt}
use Rattle.task_ast.specs.meaning.Tree as plain
use Rattle.task_ast.specs.meaning.Declarations.{Scope}
use Rattle.task_ast.specs.meaning.Held.{Pair, held_after, held_at_end}
use Rattle.task_ast.specs.View.{plain_what, plain_stmt, plain_block}
use Rattle.task_ast.proofs.Views.{stmt_At}
use Rattle.rule_blame.specs.declared.blames.Blame.{Blame}
use Rattle.rule_blame.specs.declared.blames.Blame.TheVariants as blame
use Rattle.rule_blame.specs.declared.held.Taken.{Taken}
use Rattle.rule_blame.specs.Points.{Point, points_of, points_inside, points_in}
use Rattle.rule_blame.specs.Blames.{IsTrueOf, IsApart, lock_of}
use Rattle.rule_blame.specs.Told.{IsTrueAmong}

pub Contains-left : (a b : List Point) (p : Point) → Contains a p → Contains (a ++ b) p
Contains-left a b p h = (h.0, omega (arith, h.1, length-append a b), get_or_append_left a b p h.0 h.1 ∙ h.2)

pub Contains-right : (a b : List Point) (p : Point) → Contains b p → Contains (a ++ b) p
Contains-right a b p h = (length a + h.0, omega (arith, h.1, length-append a b), get_or-append-add a b h.0 p ∙ h.2)

pub Contains-first : (p : Point) (a : List Point) → Contains (p ∷ a) p
Contains-first p a = (0, omega arith, refl)

pub Contains-after : (q : Point) (a : List Point) (p : Point) → Contains a p → Contains (q ∷ a) p
Contains-after q a p h = (suc h.0, omega (arith, h.1), h.2)

-- what is true of one of some points is true of one of more
pub among_more : (s : Scope) (line : ℕ) (few many : List Point) (told : Blame) → ((p : Point) → Contains few p → Contains many p)
    → IsTrueAmong s line few told → IsTrueAmong s line many told
among_more s line few many told more h = record { point = h.point; stands = more h.point h.stands; in_line = h.in_line; is = h.is }

module _ (xs : List Stmt) (i : ℕ) (x : Stmt) (within : i < length xs) (is : x ≡ get_or xs i x) where
  -- what is left of a block begins with the statement at the index
  block_from : plain_block (drop i xs) ≡ plain.Then (plain_stmt x) (plain_block (drop (i + 1) xs))
  block_from =
      at_drop_more plain_block xs i x within ∙ ap (λ (y : Stmt). plain.Then (plain_stmt y) (plain_block (drop (i + 1) xs))) (sym is)

  pub here_among : (held : List Pair) (p : Point) → Contains (points_of (plain_stmt x) held) p
      → Contains (points_in (plain_block (drop i xs)) held) p
  here_among held p h =
      subst (λ (b : plain.Block). Contains (points_in b held) p) (sym block_from)
      (Contains-left (points_of (plain_stmt x) held) (points_in (plain_block (drop (i + 1) xs)) (held_after (plain_stmt x) held)) p h)

  pub later_among : (held next : List Pair) → next ≡ held_after (plain_stmt x) held → (p : Point)
      → Contains (points_in (plain_block (drop (i + 1) xs)) next) p → Contains (points_in (plain_block (drop i xs)) held) p
  later_among held next goes p h =
      subst (λ (b : plain.Block). Contains (points_in b held) p) (sym block_from)
      (Contains-right (points_of (plain_stmt x) held) (points_in (plain_block (drop (i + 1) xs)) (held_after (plain_stmt x) held)) p
      (subst (λ (after : List Pair). Contains (points_in (plain_block (drop (i + 1) xs)) after) p) goes h))

  pub later_ends : (held next : List Pair) → next ≡ held_after (plain_stmt x) held
      → held_at_end (plain_block (drop (i + 1) xs)) next ≡ held_at_end (plain_block (drop i xs)) held
  later_ends held next goes =
      ap (λ (after : List Pair). held_at_end (plain_block (drop (i + 1) xs)) after) goes
      ∙ sym (ap (λ (b : plain.Block). held_at_end b held) block_from)

-- what is true of a statement itself
pub at_itself : (s : Scope) (st : Stmt) (held : List Pair) (told : Blame)
    → IsTrueOf s (record { line = st.line; what = plain_what st.what; held = held }) told
    → IsTrueAmong s st.line (points_of (plain_stmt st) held) told
at_itself s st held told h =
    subst (λ (t : plain.Stmt). IsTrueAmong s st.line (points_of t held) told) (sym (stmt_At st)) (record {
      point = record { line = st.line; what = plain_what st.what; held = held };
      stands = Contains-first _ _;
      in_line = refl;
      is = h;
    })

-- ---- statements with blocks

module _ (s : Scope) (at line : ℕ) (e : plain.Expr) where
  pub loop_found : (body : plain.Block) (held : List Pair) (told : Blame) → IsTrueAmong s at (points_in body held) told
      → IsTrueAmong s at (points_of (plain.At line (plain.While e body)) held) told
  loop_found body held told = among_more s at _ _ told (λ p h. Contains-after _ _ p h)

  pub loop_apart : (body : plain.Block) (held inside : List Pair) (taken : Taken) (before : Bool) → line ≡ at
      → inside ≡ held_at_end body held → IsApart held inside (lock_of taken) before
      → IsTrueAmong s at (points_of (plain.At line (plain.While e body)) held) (blame.OneTurn taken before)
  loop_apart body held inside taken before here ends apart = record {
    point = record { line = line; what = plain.While e body; held = held };
    stands = Contains-first _ _;
    in_line = here;
    is = subst (λ (l : List Pair). IsApart held l (lock_of taken) before) ends apart;
  }

  module _ (a b : plain.Block) (held : List Pair) where
    pub first_found : (told : Blame) → IsTrueAmong s at (points_in a held) told
        → IsTrueAmong s at (points_of (plain.At line (plain.If e a b)) held) told
    first_found told = among_more s at _ _ told (λ p h. Contains-after _ _ p (Contains-left _ _ p h))

    pub second_found : (told : Blame) → IsTrueAmong s at (points_in b held) told
        → IsTrueAmong s at (points_of (plain.At line (plain.If e a b)) held) told
    second_found told = among_more s at _ _ told (λ p h. Contains-after _ _ p (Contains-right _ _ p h))

    pub choice_first : (told : Blame) → IsTrueAmong s at (points_in a held) told
        → IsTrueAmong s at (points_of (plain.At line (plain.When e a b)) held) told
    choice_first told = among_more s at _ _ told (λ p h. Contains-after _ _ p (Contains-left _ _ p h))

    pub choice_second : (told : Blame) → IsTrueAmong s at (points_in b held) told
        → IsTrueAmong s at (points_of (plain.At line (plain.When e a b)) held) told
    choice_second told = among_more s at _ _ told (λ p h. Contains-after _ _ p (Contains-right _ _ p h))

    pub branches_apart : (one other : List Pair) (taken : Taken) (first : Bool) → line ≡ at → one ≡ held_at_end a held
        → other ≡ held_at_end b held → IsApart one other (lock_of taken) first
        → IsTrueAmong s at (points_of (plain.At line (plain.If e a b)) held) (blame.OneBranch taken first)
    branches_apart one other taken first here ends others apart = record {
      point = record { line = line; what = plain.If e a b; held = held };
      stands = Contains-first _ _;
      in_line = here;
      is = subst (λ (l : List Pair). IsApart l (held_at_end b held) (lock_of taken) first) ends
          (subst (λ (l : List Pair). IsApart one l (lock_of taken) first) others apart);
    }
