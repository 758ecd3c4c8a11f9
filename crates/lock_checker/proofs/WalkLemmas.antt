-- Each control step keeps what is held. A point is good where the statements that are left fit what is held, and each
-- holding has still the value of its pair's atom (Good). Where the check has found no fault, no rule fails at the
-- statement; so, statement by statement, a step leads to a good point or does an action, or stops, and what is left
-- fits what is held past the synchronisation.
use Rattle.std.proofs.Common.{◌≡◌, ◌≢◌, ℕ, zero, suc, List, [], ◌∷◌, ◌++◌, Bool, true, false, Option, Some, None, refl, sym, ap, ◌∙◌, subst, map, append-nil, true≢false}
use Rattle.std.specs.Prelude.{ℤ, pos, negsuc, not, ◌&&◌, ◌||◌, cond, is_none, position, slice_get, unwrap_or}
use Rattle.std.specs.Option.{option_map_or}
use Rattle.std.specs.List.{list_any, list_all}
use Rattle.std.specs.Map.{lookup}
use Rattle.std.proofs.lemmas.List.{map-append}
use Rattle.task_ast.specs.declared.check_kind.CheckKind.{CheckKind}
use Rattle.task_ast.specs.declared.check_kind.CheckKind.TheVariants.{UnknownName, DataInControl, NotHeld, HeldTwice, BranchesDiffer, IndexChangedWhileHeld}
use Rattle.task_ast.specs.declared.env.Env.{Env}
use Rattle.task_ast.specs.declared.sync.SyncOp.{SyncOp}
use Rattle.task_ast.specs.declared.sync.SyncOp.TheVariants as sync
use Rattle.task_ast.specs.declared.sync.Next.{Next}
use Rattle.task_ast.specs.declared.tree.Atom.{Atom}
use Rattle.task_ast.specs.declared.tree.Atom.TheVariants as atom
use Rattle.task_ast.specs.declared.tree.Head.{Head}
use Rattle.task_ast.specs.meaning.Tree.{Name, Stmt, At, What, SetCtl, While, If, Lock, Unlock, Fork, Join, Barrier, Settle, SetReg, Read, Write, Print, When, Block, Nothing, Then, statements, TaskText, Program}
use Rattle.task_ast.specs.meaning.Names.{is_name, slot, head_name, locks_of, cell_number, registers_of, barriers_of}
use Rattle.task_ast.specs.meaning.Value.{value_at, value, branch}
use Rattle.task_ast.specs.meaning.Action.{Action}
use Rattle.task_ast.specs.meaning.Body.{Step, Silent, Iteration, Act, Stop}
use Rattle.task_ast.specs.meaning.Control.{Setting, Point, step_at, step_from, known, action, env_at, lock_number, fork_named, index_of, with_value, with_number, going, behind, beginning}
use Rattle.task_ast.specs.meaning.Visit.{Visit, visit, fails_if, first_fault}
use Rattle.task_ast.specs.meaning.Declarations.{Scope, is_lock, is_register, is_atom, has_unknown, has_data_index, head_visits, task_visits, main_visit}
use Rattle.task_ast.specs.meaning.Held.{Pair, same_pair, has, without, same_pairs, is_index, held_by, held_at_end}
use Rattle.task_ast.specs.meaning.Check.{array_over, fails_at, fails_after, held_fails, visits_of, visits_inside, visits_in, body_visits, bodies_visits}
use Rattle.task_ast.specs.Shaped.{is_data, all_data, is_shaped_what, is_shaped_stmt, is_shaped_block, is_shaped_head}
use Rattle.lock_checker.specs.WalkLaw.{Holding, pair_in, pairs_held, released, held_past, Comes, begins, silently, by_turn, acting, past, by_settle, IsUnderHeld, TouchesHeld, TouchesAllHeld, NextTouchesHeld, StillNamed, none_held, one_held, WalkLaw}
use Rattle.task_ast.proofs.Slots.{slot_sets}
use Rattle.lock_checker.proofs.SamePairs.{same_sym, same_from_test, and_parts}
use Rattle.lock_checker.proofs.TableLemmas.{is_name-is}
use Rattle.lock_checker.proofs.HoldingLemmas.{Fits, none_left, one_more, fits_same, fits_block, none_parts}

-- the pairs of what is left
pairs-released : (held : List Holding) (p : Pair) → pairs_held (released held p) ≡ without (pairs_held held) p
pairs-released [] p = refl
pairs-released (h ∷ held) p = by (not (same_pair p h.pair)) (pairs-released held p)
  where
    by : (b : Bool) → pairs_held (released held p) ≡ without (pairs_held held) p
        → pairs_held (cond b (h ∷ released held p) (released held p))
        ≡ cond b (h.pair ∷ without (pairs_held held) p) (without (pairs_held held) p)
    by true is = ap (λ l. h.pair ∷ l) is
    by false is = is

module _ (heads : List Head) (env : Env) where
  named-released : (held : List Holding) (p : Pair) → StillNamed heads env held → StillNamed heads env (released held p)
  named-released [] p names = none_held
  named-released (h ∷ held) p (one_held value cell names) = by (not (same_pair p h.pair)) (named-released held p names)
    where
      by : (b : Bool) → StillNamed heads env (released held p) → StillNamed heads env (cond b (h ∷ released held p) (released held p))
      by true rest = one_held value cell rest
      by false rest = rest

  named-append : (held : List Holding) (h : Holding) → StillNamed heads env held → index_of h.pair.1 env ≡ h.value
      → cell_number (locks_of heads) h.pair.0 h.value ≡ Some h.cell → StillNamed heads env (held ++ h ∷ [])
  named-append [] h names value cell = one_held value cell none_held
  named-append (k ∷ held) h (one_held v c names) value cell = one_held v c (named-append held h names value cell)

-- setting a variable leaves the others
value-other : (names : List (Name × ℤ)) (x y : Name) (v : ℤ) → is_name x y ≡ false → value_at (with_value names x v) y ≡ value_at names y
value-other [] x y v apart = refl
value-other (n ∷ names) x y v apart = by (is_name y n.0) (is_name x n.0) refl refl (value-other names x y v apart)
  where
    by : (here set : Bool) → is_name y n.0 ≡ here → is_name x n.0 ≡ set → value_at (with_value names x v) y ≡ value_at names y
        → value_at (cond set ((n.0, v) ∷ names) (n ∷ with_value names x v)) y ≡ value_at (n ∷ names) y
    by true true here set rest = absurd (true≢false (sym set ∙ ap (is_name x) (sym (is_name-is y n.0 here)) ∙ apart))
    by true false here set rest =
        ap (λ b. unwrap_or (cond b (Some n.1) (lookup (is_name y) (with_value names x v))) (pos 0)) here
        ∙ sym (ap (λ b. unwrap_or (cond b (Some n.1) (lookup (is_name y) names)) (pos 0)) here)
    by false true here set rest =
        ap (λ b. unwrap_or (cond b (Some v) (lookup (is_name y) names)) (pos 0)) here
        ∙ sym (ap (λ b. unwrap_or (cond b (Some n.1) (lookup (is_name y) names)) (pos 0)) here)
    by false false here set rest =
        ap (λ b. unwrap_or (cond b (Some n.1) (lookup (is_name y) (with_value names x v))) (pos 0)) here ∙ rest
        ∙ sym (ap (λ b. unwrap_or (cond b (Some n.1) (lookup (is_name y) names)) (pos 0)) here)

or_parts : (a b : Bool) → (a || b) ≡ false → (a ≡ false) × (b ≡ false)
or_parts true b h = absurd (true≢false h)
or_parts false b h = (refl, h)

module _ (heads : List Head) (env : Env) (x : Name) (v : ℤ) where
  abbrev set_env : Env
  set_env = record env { names = with_value env.names x v }

  index-other : (i : Atom) (a : Name) → is_index x (a, i) ≡ false → index_of i set_env ≡ index_of i env
  index-other (atom.Num n) a apart = refl
  index-other (atom.Var y) a apart = value-other env.names x y v apart

  -- a variable that is no index of a held pair may be set
  named-set : (held : List Holding) → list_any (is_index x) (pairs_held held) ≡ false → StillNamed heads env held
      → StillNamed heads set_env held
  named-set [] apart names = none_held
  named-set (h ∷ held) apart (one_held value cell names) =
      let parts = or_parts (is_index x h.pair) (list_any (is_index x) (pairs_held held)) apart in
      one_held (index-other h.pair.1 h.pair.0 parts.0 ∙ value) cell (named-set held parts.1 names)

no_kinds : (line : ℕ) (kinds : List CheckKind) (later : List Visit) → first_fault (visit line kinds ∷ later) ≡ None → kinds ≡ []
no_kinds line [] later none = refl
no_kinds line (k ∷ kinds) later none = cc

-- no rule fails at a statement whose visits have no fault
kinds_none : (s : Scope) (line : ℕ) (w : What) (held : List Pair) → first_fault (visits_of s (At line w) held) ≡ None
    → fails_at s w held ≡ []
kinds_none s line w held none = no_kinds line (fails_at s w held) (visits_inside s w held ++ visit line (fails_after s w held) ∷ []) none

nil_left : (a b : List CheckKind) → a ++ b ≡ [] → a ≡ []
nil_left [] b none = refl
nil_left (k ∷ a) b none = cc

last_kind : (kinds : List CheckKind) (b : Bool) (kind : CheckKind) → kinds ++ fails_if b kind ≡ [] → b ≡ false
last_kind [] true kind none = cc
last_kind [] false kind none = refl
last_kind (k ∷ kinds) b kind none = cc

not_true : (b : Bool) → not b ≡ false → b ≡ true
not_true true h = refl
not_true false h = absurd (true≢false h)

-- at a point these statements fit what is held, and each atom has its value
pub record Good (s : Setting) (scope : Scope) (q : Point) (held : List Holding) : Type 0 where
  pub fits : Fits scope q.left (pairs_held held)
  pub names : StillNamed s.program.heads (env_at s q) held

data Keeps (s : Setting) (scope : Scope) (p : Point) (left : List Stmt) (held : List Holding) : Step Point → Type 0 where
  on : {q : Point} → Good s scope q held → Keeps s scope p left held (Silent q)
  round : {q : Point} → Good s scope q held → Keeps s scope p left held (Iteration q)
  doing : {a : Action} {q : Point} → Good s scope q held → Keeps s scope p left held (Act a q)
  faulting : {line : ℕ} → Keeps s scope p left held (Stop (record { sync = sync.BadIndex; line = line }))
  stopping : {next : Next} → ((child : Option ℕ) → beginning next.sync child p ≡ behind child p p.left)
      → ((child : Option ℕ) → Good s scope (behind child p left) (held_past next.sync left (env_at s p) held))
      → Keeps s scope p left held (Stop next)

no_difference : (line : ℕ) (t : Bool) → first_fault (visit line (fails_if (not t) BranchesDiffer) ∷ []) ≡ None → t ≡ true
no_difference line true none = refl
no_difference line false none = cc

module _ (s : Setting) (scope : Scope) (p : Point) (left : List Stmt) (held : List Holding) where
  known_keeps : {A : Type 0} (line : ℕ) (o : Option A) (go : A → Step Point) → ((v : A) → o ≡ Some v → Keeps s scope p left held (go v))
      → Keeps s scope p left held (known line o go)
  known_keeps line None go keeps = faulting
  known_keeps line (Some v) go keeps = keeps v refl

  halts : {next : Next} → ((child : Option ℕ) → beginning next.sync child p ≡ behind child p p.left)
      → Good s scope (behind None p left) (held_past next.sync left (env_at s p) held)
      → ((c : ℕ) → Good s scope (behind (Some c) p left) (held_past next.sync left (env_at s p) held))
      → Keeps s scope p left held (Stop next)
  halts {next} begun none some = stopping begun by
    where
      by : (child : Option ℕ) → Good s scope (behind child p left) (held_past next.sync left (env_at s p) held)
      by None = none
      by (Some c) = some c

  branch_keeps : (v : ℤ) (a b : Step Point) → Keeps s scope p left held a → Keeps s scope p left held b
      → Keeps s scope p left held (branch v a b)
  branch_keeps (pos zero) a b at_a at_b = at_b
  branch_keeps (pos (suc k)) a b at_a at_b = at_a
  branch_keeps (negsuc k) a b at_a at_b = at_a

module _ (s : Setting) (scope : Scope) (held : List Holding) where
  abbrev pairs : List Pair
  pairs = pairs_held held

  abbrev goes : What → List Stmt → Point → Type 0
  goes w rest p = Fits scope rest (held_by w pairs)

  step_keeps : (line : ℕ) (w : What) (rest : List Stmt) (p : Point) → first_fault (visits_of scope (At line w) pairs) ≡ None
      → is_shaped_what w ≡ true → goes w rest p → StillNamed s.program.heads (env_at s p) held
      → Keeps s scope p (At line w ∷ rest) held (step_at s line w rest p)
  step_keeps line (SetCtl x e) rest p none shaped fits names =
      let free = last_kind _ (list_any (is_index x) pairs) IndexChangedWhileHeld (kinds_none scope line (SetCtl x e) pairs none) in
      known_keeps s scope p (At line (SetCtl x e) ∷ rest) held line (value e (env_at s p)) _
      (λ v is. on (record { fits = fits; names = named-set s.program.heads (env_at s p) x v held free names }))
  step_keeps line (While e b) rest p none shaped fits names =
      let parts =
      none_parts (visit line (fails_at scope (While e b) pairs) ∷ visits_in scope b pairs)
      (visit line (fails_after scope (While e b) pairs) ∷ []) none in
      let inside = none_parts (visit line (fails_at scope (While e b) pairs) ∷ []) (visits_in scope b pairs) parts.0 in
      let same = same_from_test (held_at_end b pairs) pairs (no_difference line (same_pairs (held_at_end b pairs) pairs) parts.1) in
      let again : Fits scope (At line (While e b) ∷ rest) pairs = one_more none shaped fits in
      known_keeps s scope p (At line (While e b) ∷ rest) held line (value e (env_at s p)) _
      (λ v is. branch_keeps s scope p (At line (While e b) ∷ rest) held v _ _
      (round (record {
        fits = fits_block b (At line (While e b) ∷ rest) pairs inside.1 shaped
            (fits_same again (held_at_end b pairs) (same_sym same));
        names = names;
      }))
      (on (record { fits = fits; names = names })))
  step_keeps line (If e a b) rest p none shaped fits names =
      let parts =
      none_parts (visit line (fails_at scope (If e a b) pairs) ∷ visits_in scope a pairs ++ visits_in scope b pairs)
      (visit line (fails_after scope (If e a b) pairs) ∷ []) none in
      let sides = none_parts (visit line (fails_at scope (If e a b) pairs) ∷ visits_in scope a pairs) (visits_in scope b pairs) parts.0 in
      let inside = none_parts (visit line (fails_at scope (If e a b) pairs) ∷ []) (visits_in scope a pairs) sides.0 in
      let shapes = and_parts (is_shaped_block a) (is_shaped_block b) shaped in
      let same =
      same_from_test (held_at_end a pairs) (held_at_end b pairs)
      (no_difference line (same_pairs (held_at_end a pairs) (held_at_end b pairs)) parts.1) in
      known_keeps s scope p (At line (If e a b) ∷ rest) held line (value e (env_at s p)) _
      (λ v is. branch_keeps s scope p (At line (If e a b) ∷ rest) held v _ _
      (on (record { fits = fits_block a rest pairs inside.1 shapes.0 fits; names = names }))
      (on (record { fits = fits_block b rest pairs sides.1 shapes.1 (fits_same fits (held_at_end b pairs) same); names = names })))
  step_keeps line (Lock a i) rest p none shaped fits names =
      known_keeps s scope p (At line (Lock a i) ∷ rest) held line (lock_number s a i (env_at s p)) _ (λ l is.
      let locked : Good s scope (going p rest) (held ++ record { pair = (a, i); value = index_of i (env_at s p); cell = l } ∷ []) = record {
        fits =
            subst (Fits scope rest) (sym (map-append pair_in held
            (record { pair = (a, i); value = index_of i (env_at s p); cell = l } ∷ []))) fits;
        names =
            named-append s.program.heads (env_at s p) held
            (record { pair = (a, i); value = index_of i (env_at s p); cell = l }) names refl is;
      } in
      halts s scope p (At line (Lock a i) ∷ rest) held (λ child. refl) locked (λ c. locked))
  step_keeps line (Unlock a i) rest p none shaped fits names =
      known_keeps s scope p (At line (Unlock a i) ∷ rest) held line (lock_number s a i (env_at s p)) _ (λ l is.
      let unlocked : Good s scope (going p rest) (released held (a, i)) = record {
        fits = subst (Fits scope rest) (sym (pairs-released held (a, i))) fits;
        names = named-released s.program.heads (env_at s p) held (a, i) names;
      } in
      halts s scope p (At line (Unlock a i) ∷ rest) held (λ child. refl) unlocked (λ c. unlocked))
  step_keeps line (Fork t es None) rest p none shaped fits names =
      known_keeps s scope p (At line (Fork t es None) ∷ rest) held line (fork_named s t es p) _ (λ arguments is.
      let forked : Good s scope (going p rest) held = record { fits = fits; names = names } in
      halts s scope p (At line (Fork t es None) ∷ rest) held (λ child. refl) forked (λ c. forked))
  step_keeps line (Fork t es (Some x)) rest p none shaped fits names =
      let free = last_kind _ (list_any (is_index x) pairs) IndexChangedWhileHeld (kinds_none scope line (Fork t es (Some x)) pairs none) in
      known_keeps s scope p (At line (Fork t es (Some x)) ∷ rest) held line (fork_named s t es p) _ (λ arguments is.
      halts s scope p (At line (Fork t es (Some x)) ∷ rest) held (λ child. refl) (record { fits = fits; names = names })
      (λ c. record { fits = fits; names = named-set s.program.heads (env_at s p) x (pos c) held free names }))
  step_keeps line (Join e x) rest p none shaped fits names =
      known_keeps s scope p (At line (Join e x) ∷ rest) held line (value e (env_at s p)) _ (λ v is.
      let joined : Good s scope (going p rest) held = record { fits = fits; names = names } in
      halts s scope p (At line (Join e x) ∷ rest) held (λ child. refl) joined (λ c. joined))
  step_keeps line (Barrier b) rest p none shaped fits names =
      known_keeps s scope p (At line (Barrier b) ∷ rest) held line
      (position (λ other. is_name b other.0) (barriers_of s.program.heads)) _ (λ n is.
      let waited : Good s scope (going p rest) held = record { fits = fits; names = names } in
      halts s scope p (At line (Barrier b) ∷ rest) held (λ child. refl) waited (λ c. waited))
  step_keeps line (Settle x c) rest p none shaped fits names =
      let settled : Good s scope (going p rest) held = record { fits = fits; names = names } in
      halts s scope p (At line (Settle x c) ∷ rest) held (λ child. refl) settled (λ child. settled)
  step_keeps line (SetReg x e) rest p none shaped fits names =
      known_keeps s scope p (At line (SetReg x e) ∷ rest) held line (action s (registers_of p.task) (SetReg x e) (env_at s p)) _
      (λ v is. doing (record { fits = fits; names = names }))
  step_keeps line (Read r i x) rest p none shaped fits names =
      known_keeps s scope p (At line (Read r i x) ∷ rest) held line (action s (registers_of p.task) (Read r i x) (env_at s p)) _
      (λ v is. doing (record { fits = fits; names = names }))
  step_keeps line (Write r i e) rest p none shaped fits names =
      known_keeps s scope p (At line (Write r i e) ∷ rest) held line (action s (registers_of p.task) (Write r i e) (env_at s p)) _
      (λ v is. doing (record { fits = fits; names = names }))
  step_keeps line (Print es) rest p none shaped fits names =
      known_keeps s scope p (At line (Print es) ∷ rest) held line (action s (registers_of p.task) (Print es) (env_at s p)) _
      (λ v is. doing (record { fits = fits; names = names }))
  step_keeps line (When e a b) rest p none shaped fits names =
      known_keeps s scope p (At line (When e a b) ∷ rest) held line (action s (registers_of p.task) (When e a b) (env_at s p)) _
      (λ v is. doing (record { fits = fits; names = names }))

  from_keeps : (left : List Stmt) (p : Point) → p.left ≡ left → Fits scope left pairs → StillNamed s.program.heads (env_at s p) held
      → Keeps s scope p left held (step_from s left p)
  from_keeps [] p is fits names =
      stopping (λ child. refl) (λ child. record { fits = subst (λ l. Fits scope l pairs) (sym is) fits; names = names })
  from_keeps (At line w ∷ rest) p is (one_more none shaped fits) names = step_keeps line w rest p none shaped fits names

module _ {s : Setting} {scope : Scope} {p : Point} {left : List Stmt} {held : List Holding} where
  keeps-silent : {q : Point} → Keeps s scope p left held (Silent q) → Good s scope q held
  keeps-silent (on good) = good

  keeps-turn : {q : Point} → Keeps s scope p left held (Iteration q) → Good s scope q held
  keeps-turn (round good) = good

  keeps-act : {a : Action} {q : Point} → Keeps s scope p left held (Act a q) → Good s scope q held
  keeps-act (doing good) = good

  keeps-stop : {next : Next} → Keeps s scope p left held (Stop next) → next.sync ≢ sync.BadIndex → p.left ≡ left → (child : Option ℕ)
      → Good s scope (beginning next.sync child p) (held_past next.sync left (env_at s p) held)
  keeps-stop faulting no_fault is child = absurd (no_fault refl)
  keeps-stop {next} (stopping begun good) no_fault is child =
      subst (λ q. Good s scope q (held_past next.sync left (env_at s p) held))
      (ap (behind child p) (sym is) ∙ sym (begun child)) (good child)

abbrev next_in : Step Point → Next
next_in (Stop next) = next
next_in _ = record { sync = sync.Start; line = 0 }

-- a synchronisation is no settle where it is another
other_op : {next : Next} {register control : ℕ} (op : SyncOp) (line : ℕ) → (op ≡ sync.Settle register control → ⊥)
    → next.sync ≡ sync.Settle register control
    → ◌≡◌ {A = Step Point} (Stop (record { sync = op; line = line })) (Stop next) → ⊥
other_op op line apart settles e = apart (ap (λ step. (next_in step).sync) e ∙ settles)

known_other : {A : Type 0} {next : Next} {register control : ℕ} (line : ℕ) (o : Option A) (go : A → Step Point)
    → next.sync ≡ sync.Settle register control
    → ((v : A) → go v ≡ Stop next → ⊥) → known line o go ≡ Stop next → ⊥
known_other line None go settles never e = other_op sync.BadIndex line (λ e. cc e) settles e
known_other line (Some v) go settles never e = never v e

branch_other : {next : Next} (v : ℤ) (a b : Step Point) → (a ≡ Stop next → ⊥) → (b ≡ Stop next → ⊥) → branch v a b ≡ Stop next → ⊥
branch_other (pos zero) a b first second e = second e
branch_other (pos (suc n)) a b first second e = first e
branch_other (negsuc n) a b first second e = first e

module _ (s : Setting) (scope : Scope) (held : List Holding) where
  -- after a settle, whose variable may have any value
  settled_good : (left : List Stmt) (p : Point) (next : Next) (register control : ℕ) (v : ℤ) (child : Option ℕ)
      → Fits scope left (pairs_held held) → StillNamed s.program.heads (env_at s p) held
      → step_from s left p ≡ Stop next → next.sync ≡ sync.Settle register control
      → Good s scope (behind child (record p { names = with_number p.names control v }) left) (held_past next.sync left (env_at s p) held)
  settled_good [] p next register control v child fits names e settles = absurd (other_op sync.End 0 (λ e. cc e) settles e)
  settled_good (At line w ∷ rest) p next register control v child (one_more none shaped fits) names e settles = by w none fits e
    where
      Behind : What → Type 0
      Behind w =
          Good s scope (behind child (record p { names = with_number p.names control v }) (At line w ∷ rest))
          (held_past next.sync (At line w ∷ rest) (env_at s p) held)

      by : (w : What) → first_fault (visits_of scope (At line w) (pairs_held held)) ≡ None → Fits scope rest (held_by w (pairs_held held))
          → step_at s line w rest p ≡ Stop next → Behind w
      by (SetCtl x e) none fits is = absurd (known_other line (value e (env_at s p)) _ settles (λ v e. cc e) is)
      by (While e b) none fits is =
          absurd (known_other line (value e (env_at s p)) _ settles (λ v e. branch_other v _ _ (λ e. cc e) (λ e. cc e) e) is)
      by (If e a b) none fits is =
          absurd (known_other line (value e (env_at s p)) _ settles (λ v e. branch_other v _ _ (λ e. cc e) (λ e. cc e) e) is)
      by (Lock a i) none fits is =
          absurd (known_other line (lock_number s a i (env_at s p)) _ settles (λ l e. other_op (sync.Lock l) line (λ e. cc e) settles e) is)
      by (Unlock a i) none fits is =
          absurd (known_other line (lock_number s a i (env_at s p)) _ settles
          (λ l e. other_op (sync.Unlock l) line (λ e. cc e) settles e) is)
      by (Fork t es x) none fits is =
          absurd (known_other line (fork_named s t es p) _ settles (λ arguments e. other_op (sync.Fork _ _) line (λ e. cc e) settles e) is)
      by (Join e x) none fits is =
          absurd (known_other line (value e (env_at s p)) _ settles (λ h e. other_op (sync.Join h) line (λ e. cc e) settles e) is)
      by (Barrier b) none fits is =
          absurd (known_other line (position (λ other. is_name b other.0) (barriers_of s.program.heads)) _ settles
          (λ n e. other_op (sync.Barrier n) line (λ e. cc e) settles e) is)
      by (Settle x c) none fits is = behind_it child
        where
          free : list_any (is_index c) (pairs_held held) ≡ false
          free =
              last_kind _ (list_any (is_index c) (pairs_held held)) IndexChangedWhileHeld
              (kinds_none scope line (Settle x c) (pairs_held held) none)

          set_of : SyncOp → ℕ
          set_of (sync.Settle register control) = control
          set_of _ = control

          number : control ≡ slot (map (λ n. n.0) p.names) c
          number = sym (ap set_of (ap (λ step. (next_in step).sync) is ∙ settles))

          named : StillNamed s.program.heads (record (env_at s p) { names = with_number p.names control v }) held
          named =
              subst (λ names. StillNamed s.program.heads (record (env_at s p) { names = names }) held)
              (sym (ap (λ k. with_number p.names k v) number ∙ slot_sets p.names c v))
              (named-set s.program.heads (env_at s p) c v held free names)

          behind_it : (child : Option ℕ)
              → Good s scope (behind child (record p { names = with_number p.names control v }) (At line (Settle x c) ∷ rest)) held
          behind_it None = record { fits = fits; names = named }
          behind_it (Some k) = record { fits = fits; names = named }
      by (SetReg x e) none fits is =
          absurd (known_other line (action s (registers_of p.task) (SetReg x e) (env_at s p)) _ settles (λ a e. cc e) is)
      by (Read r i x) none fits is =
          absurd (known_other line (action s (registers_of p.task) (Read r i x) (env_at s p)) _ settles (λ a e. cc e) is)
      by (Write r i e) none fits is =
          absurd (known_other line (action s (registers_of p.task) (Write r i e) (env_at s p)) _ settles (λ a e. cc e) is)
      by (Print es) none fits is =
          absurd (known_other line (action s (registers_of p.task) (Print es) (env_at s p)) _ settles (λ a e. cc e) is)
      by (When e a b) none fits is =
          absurd (known_other line (action s (registers_of p.task) (When e a b) (env_at s p)) _ settles (λ a e. cc e) is)

  begun_settle : (next : Next) (register control : ℕ) (child : Option ℕ) (q : Point) → next.sync ≡ sync.Settle register control
      → behind child q q.left ≡ beginning next.sync child q
  begun_settle next register control child q settles = ap (λ op. beginning op child q) (sym settles)

comes_good : {s : Setting} {start p : Point} {held : List Holding} (scope : Scope) → Good s scope start [] → Comes s start p held
    → Good s scope p held
comes_good scope first begins = first
comes_good {s} scope first (silently {p} {q} {held} comes is) =
    let good = comes_good scope first comes in
    keeps-silent (subst (Keeps s scope p p.left held) is (from_keeps s scope held p.left p refl good.fits good.names))
comes_good {s} scope first (by_turn {p} {q} {held} comes is) =
    let good = comes_good scope first comes in
    keeps-turn (subst (Keeps s scope p p.left held) is (from_keeps s scope held p.left p refl good.fits good.names))
comes_good {s} scope first (acting {p} {q} {a} {held} comes is) =
    let good = comes_good scope first comes in
    keeps-act (subst (Keeps s scope p p.left held) is (from_keeps s scope held p.left p refl good.fits good.names))
comes_good {s} scope first (past {p} {next} {held} comes is no_fault child) =
    let good = comes_good scope first comes in
    keeps-stop (subst (Keeps s scope p p.left held) is (from_keeps s scope held p.left p refl good.fits good.names)) no_fault refl child
comes_good {s} scope first (by_settle {p} {next} {held} {register} {control} comes is settles v child) =
    let good = comes_good scope first comes in
    subst (λ q. Good s scope q (held_past next.sync p.left (env_at s p) held))
    (begun_settle s scope held next register control child (record p { names = with_number p.names control v }) settles)
    (settled_good s scope held p.left p next register control v child good.fits good.names is settles)

-- a data statement changes nothing that is held
data_holds : (w : What) (held : List Pair) → is_data w ≡ true → held_by w held ≡ held
data_holds (SetCtl x e) held data_statement = cc
data_holds (While e b) held data_statement = cc
data_holds (If e a b) held data_statement = cc
data_holds (Lock a i) held data_statement = cc
data_holds (Unlock a i) held data_statement = cc
data_holds (Fork t es x) held data_statement = cc
data_holds (Join e x) held data_statement = cc
data_holds (Barrier b) held data_statement = cc
data_holds (Settle x c) held data_statement = cc
data_holds (SetReg x e) held data_statement = refl
data_holds (Read r i x) held data_statement = refl
data_holds (Write r i e) held data_statement = refl
data_holds (Print es) held data_statement = refl
data_holds (When e a b) held data_statement = refl

under : (scope : Scope) (r : Name) (i : Atom) (held : List Pair) (o : Option Name) → array_over scope r ≡ o → is_none o ≡ false
    → option_map_or (λ a. not (has held (a, i))) o false ≡ false → IsUnderHeld scope.program.heads r i held
under scope r i held None is some lacking = absurd (true≢false some)
under scope r i held (Some a) is some lacking = (a, is, not_true (has held (a, i)) lacking)

first_kind : (b : Bool) (kind : CheckKind) (kinds : List CheckKind) → fails_if b kind ++ kinds ≡ [] → b ≡ false
first_kind true kind kinds none = cc
first_kind false kind kinds none = refl

module _ (scope : Scope) where
  mutual
    touches : (line : ℕ) (w : What) (held : List Pair) → first_fault (visits_of scope (At line w) held) ≡ None → is_shaped_what w ≡ true
        → TouchesHeld scope.program.heads w held
    touches line (SetCtl x e) held none shaped = tt
    touches line (While e b) held none shaped = tt
    touches line (If e a b) held none shaped = tt
    touches line (Lock a i) held none shaped =
        last_kind (fails_if (not (is_lock scope a) || not (is_atom scope i)) UnknownName) (has held (a, i)) HeldTwice
        (kinds_none scope line (Lock a i) held none)
    touches line (Unlock a i) held none shaped =
        not_true (has held (a, i)) (last_kind (fails_if (not (is_lock scope a) || not (is_atom scope i)) UnknownName)
        (not (has held (a, i))) NotHeld (kinds_none scope line (Unlock a i) held none))
    touches line (Fork t es x) held none shaped = tt
    touches line (Join e x) held none shaped = tt
    touches line (Barrier b) held none shaped = tt
    touches line (Settle x c) held none shaped = tt
    touches line (SetReg x e) held none shaped = tt
    touches line (Read r i x) held none shaped =
        let kinds = kinds_none scope line (Read r i x) held none in
        let unknown =
        or_parts (is_none (array_over scope r)) (not (is_atom scope i) || not (is_register scope x))
        (first_kind _ UnknownName (fails_if (option_map_or (λ a. not (has held (a, i))) (array_over scope r) false) NotHeld) kinds) in
        under scope r i held (array_over scope r) refl unknown.0
        (last_kind (fails_if (is_none (array_over scope r) || (not (is_atom scope i) || not (is_register scope x))) UnknownName)
        (option_map_or (λ a. not (has held (a, i))) (array_over scope r) false) NotHeld kinds)
    touches line (Write r i e) held none shaped =
        let kinds = kinds_none scope line (Write r i e) held none in
        let unknown =
        or_parts (is_none (array_over scope r)) (not (is_atom scope i) || has_unknown scope e)
        (first_kind _ UnknownName (fails_if (has_data_index e) DataInControl)
        (nil_left _ (fails_if (option_map_or (λ a. not (has held (a, i))) (array_over scope r) false) NotHeld) kinds)) in
        under scope r i held (array_over scope r) refl unknown.0
        (last_kind (fails_if (is_none (array_over scope r) || (not (is_atom scope i) || has_unknown scope e)) UnknownName
        ++ fails_if (has_data_index e) DataInControl) (option_map_or (λ a. not (has held (a, i))) (array_over scope r) false) NotHeld kinds)
    touches line (Print es) held none shaped = tt
    touches line (When e a b) held none shaped =
        let parts =
        none_parts (visit line (fails_at scope (When e a b) held) ∷ visits_in scope a held ++ visits_in scope b held)
        (visit line [] ∷ []) none in
        let sides = none_parts (visit line (fails_at scope (When e a b) held) ∷ visits_in scope a held) (visits_in scope b held) parts.0 in
        let inside = none_parts (visit line (fails_at scope (When e a b) held) ∷ []) (visits_in scope a held) sides.0 in
        let shapes = and_parts (all_data a && is_shaped_block a) (all_data b && is_shaped_block b) shaped in
        (touches_all a held inside.1 shapes.0, touches_all b held sides.1 shapes.1)

    touches_all : (b : Block) (held : List Pair) → first_fault (visits_in scope b held) ≡ None → (all_data b && is_shaped_block b) ≡ true
        → TouchesAllHeld scope.program.heads b held
    touches_all Nothing held none shaped = tt
    touches_all (Then (At line w) b) held none shaped =
        let parts = none_parts (visits_of scope (At line w) held) (visits_in scope b (held_by w held)) none in
        let shapes = and_parts (is_data w && all_data b) (is_shaped_what w && is_shaped_block b) shaped in
        let datas = and_parts (is_data w) (all_data b) shapes.0 in
        let blocks = and_parts (is_shaped_what w) (is_shaped_block b) shapes.1 in (
          touches line w held parts.0 blocks.0,
          touches_all b held (ap (λ h. first_fault (visits_in scope b h)) (sym (data_holds w held datas.0)) ∙ parts.1)
              (ap (λ t. t && is_shaped_block b) datas.1 ∙ blocks.1),
        )

fits_touches : (scope : Scope) (left : List Stmt) (held : List Pair) → Fits scope left held → NextTouchesHeld scope.program.heads left held
fits_touches scope [] held fits = tt
fits_touches scope (s ∷ left) held (one_more {st} {left = rest} none shaped fits) = by st none shaped
  where
    by : (st : Stmt) → first_fault (visits_of scope st held) ≡ None → is_shaped_stmt st ≡ true
        → NextTouchesHeld scope.program.heads (st ∷ rest) held
    by (At line w) none shaped = touches scope line w held none shaped

-- the body of one of the tasks
body_in : (program : Program) (tasks : List TaskText) (k : ℕ) (task : TaskText) → slice_get tasks k ≡ Some task
    → first_fault (bodies_visits program tasks) ≡ None → list_all (λ t. is_shaped_block t.body) tasks ≡ true
    → (first_fault (body_visits program task) ≡ None) × (is_shaped_block task.body ≡ true)
body_in program [] k task is none shaped = absurd cc
body_in program (t ∷ tasks) zero task is none shaped =
    let same : t ≡ task = cc in
    let parts = none_parts (body_visits program t) (bodies_visits program tasks) none in
    subst (λ (u : TaskText). (first_fault (body_visits program u) ≡ None) × (is_shaped_block u.body ≡ true)) same
    (parts.0, (and_parts (is_shaped_block t.body) (list_all (λ u. is_shaped_block u.body) tasks) shaped).0)
body_in program (t ∷ tasks) (suc k) task is none shaped =
    body_in program tasks k task is (none_parts (body_visits program t) (bodies_visits program tasks) none).1
    (and_parts (is_shaped_block t.body) (list_all (λ u. is_shaped_block u.body) tasks) shaped).1

-- nothing is held where no statements are left
fits_end : (scope : Scope) (left : List Stmt) (held : List Holding) → Fits scope left (pairs_held held) → left ≡ [] → held ≡ []
fits_end scope left [] fits is = refl
fits_end scope left (h ∷ held) fits is = absurd (none_after (subst (λ l. Fits scope l (h.pair ∷ pairs_held held)) is fits))
  where
    none_after : {p : Pair} {pairs : List Pair} → Fits scope [] (p ∷ pairs) → ⊥
    none_after fits = elim fits [ ]

-- the rule at a task's end
ended : (line : ℕ) (held : List Pair) → first_fault (visit line (held_fails held) ∷ []) ≡ None → held ≡ []
ended line [] none = refl
ended line (p ∷ held) none = cc

pub walk_law : WalkLaw
walk_law s k task start p held accepted is_task is comes =
    let program = s.program in
    let scope : Scope = record { program = program; task = task } in
    let visits =
    none_parts (head_visits program [] program.heads ++ task_visits (map head_name program.heads) program.tasks)
    (main_visit program ∷ bodies_visits program program.tasks) accepted.faultless in
    let bodies = none_parts (main_visit program ∷ []) (bodies_visits program program.tasks) visits.1 in
    let shapes = and_parts (list_all is_shaped_head program.heads) (list_all (λ t. is_shaped_block t.body) program.tasks) accepted.shaped in
    let body = body_in program program.tasks k task is_task bodies.1 shapes.1 in
    let inside = none_parts (visits_in scope task.body []) (visit task.line (held_fails (held_at_end task.body [])) ∷ []) body.0 in
    let last = subst (Fits scope []) (sym (ended task.line (held_at_end task.body []) inside.1)) none_left in
    let first = subst (λ l. Fits scope l []) (append-nil (statements task.body)) (fits_block task.body [] [] inside.0 body.1 last) in
    let good = comes_good scope (record { fits = subst (λ l. Fits scope l []) (sym is) first; names = none_held }) comes in
    (fits_touches scope p.left (pairs_held held) good.fits, good.names, fits_end scope p.left held good.fits)
