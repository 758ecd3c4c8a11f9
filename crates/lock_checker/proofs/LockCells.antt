-- A data statement names only cells under the locks of the pairs that are held. A pair that is held has a holding with
-- the cell of the pair. The record cell that a statement touches has the same index in its record as that lock cell in
-- its array, so it is one of the cells under the lock.
use Rattle.std.proofs.Common.{◌≡◌, inl, inr, ℕ, zero, suc, ◌+◌, ◌<◌, Bool, true, false, cond, List, [], ◌∷◌, map, length, get_or, Contains, Option, Some, None, unwrap_or, refl, sym, ap, ◌∙◌, subst, arith, option_map, option_and_then, true≢false}
use Rattle.std.specs.Prelude.{ℤ, pos, negsuc, ◌||◌, ◌↔◌, nat_eq}
use Rattle.std.specs.List.{list_any}
use Rattle.std.proofs.lemmas.Bool.{cases_lt, lt-ltb, le-ltb, eqb-true, eq-eqb}
use Rattle.std.proofs.lemmas.List.{get_or-map}
use Rattle.std.proofs.lemmas.List.Elements.{All-contains, filter_passes}
use Rattle.std.proofs.lemmas.List.Folds.{list_any_at}
use Rattle.task_ast.specs.declared.env.Env.{Env}
use Rattle.task_ast.specs.declared.tree.Atom.{Atom}
use Rattle.task_ast.specs.declared.tree.Head.{Head}
use Rattle.task_ast.specs.meaning.Tree.{Name, At, What, SetCtl, While, If, Lock, Unlock, Fork, Join, Barrier, Settle, SetReg, Read, Write, Print, When, Block, Nothing, Then}
use Rattle.task_ast.specs.meaning.Names.{is_name, place, locks_of, records_of, cell_number, cells_in, slot}
use Rattle.task_ast.specs.meaning.Action.{Action, Load, Store, Choose, Arm, OneAction, of_registers, Say, Set}
use Rattle.task_ast.specs.meaning.Control.{Setting, action, arm, record_number, index_of, all_of}
use Rattle.task_ast.specs.meaning.Held.{same_pair, has}
use Rattle.task_ast.specs.laws.Keeps.{NamesOnly, ArmNamesOnly}
use Rattle.task_ast.specs.meaning.Layout.{lock_over, is_lock_cell, cells_under, layout}
use Rattle.task_ast.specs.Layout.{IsLaidOut}
use Rattle.task_ast.specs.meaning.Table.{numbers}
use Rattle.task_ast.proofs.Layouts.{over_is}
use Rattle.task_ast.specs.meaning.Under.{under_lock, is_under}
use Rattle.lock_checker.specs.WalkLaw.{Holding, pairs_held, IsUnderHeld, TouchesHeld, TouchesAllHeld, StillNamed, one_held}
use Rattle.lock_checker.proofs.SamePairs.{same_pair_is}
use Rattle.lock_checker.specs.Soundness.{Each}

-- a cell's number is below the number of cells
pub number_below : (arrays : List (Name × ℕ)) (x : Name) (index : ℤ) (c : ℕ) → cell_number arrays x index ≡ Some c → c < cells_in arrays
number_below [] x index c e = absurd (cc e)
number_below (array ∷ arrays) x index c e = go (is_name x array.0) e (λ d f. number_below arrays x index d f)
  where
    here : (i : ℤ) → place array.1 i ≡ Some c → c < array.1 + cells_in arrays
    here (negsuc n) f = absurd (cc f)
    here (pos n) f = elim (cases_lt n array.1) [
      | inl l ↦
          (let same : Some n ≡ Some c = ap (λ b. cond b (Some n) None) (sym (lt-ltb n array.1 l)) ∙ f in
          let is : n ≡ c = ap (λ o. unwrap_or o n) same in omega arith)
      | inr l ↦ absurd (let other = sym (ap (λ b. cond {A = Option ℕ} b (Some n) None) (le-ltb n array.1 l)) ∙ f in cc other)
    ]

    later : (o : Option ℕ) → option_map (λ n. array.1 + n) o ≡ Some c → ((d : ℕ) → o ≡ Some d → d < cells_in arrays)
        → c < array.1 + cells_in arrays
    later None f rest = absurd (cc f)
    later (Some d) f rest = let sum : array.1 + d ≡ c = ap (λ o. unwrap_or o c) f in let l = rest d refl in omega arith

    go : (b : Bool) → cond b (place array.1 index) (option_map (λ n. array.1 + n) (cell_number arrays x index)) ≡ Some c
        → ((d : ℕ) → cell_number arrays x index ≡ Some d → d < cells_in arrays) → c < array.1 + cells_in arrays
    go true f rest = here index f
    go false f rest = later (cell_number arrays x index) f rest

-- a pair that is held has a holding, whose cell is that of the pair
pub holding_of : (heads : List Head) (env : Env) (P : Holding → Type 0) (a : Name) (i : Atom) (held : List Holding)
    → has (pairs_held held) (a, i) ≡ true → StillNamed heads env held → Each P held
    → (h : Holding) × (same_pair (a, i) h.pair ≡ true) × (cell_number (locks_of heads) a (index_of i env) ≡ Some h.cell) × P h
holding_of heads env P a i [] e names all = absurd (true≢false (sym e))
holding_of heads env P a i (h ∷ held) e (one_held value cell names) all =
    go (same_pair (a, i) h.pair) refl e (λ f. holding_of heads env P a i held f names all.1)
  where
    go : (b : Bool) → same_pair (a, i) h.pair ≡ b → (b || has (pairs_held held) (a, i)) ≡ true
        → (has (pairs_held held) (a, i) ≡ true → (h : Holding) × (same_pair (a, i) h.pair ≡ true)
        × (cell_number (locks_of heads) a (index_of i env) ≡ Some h.cell) × P h)
        → (h : Holding) × (same_pair (a, i) h.pair ≡ true) × (cell_number (locks_of heads) a (index_of i env) ≡ Some h.cell) × P h
    go true same e rest = (
      h,
      same,
      ap (λ q. cell_number (locks_of heads) q.0 (index_of q.1 env)) (same_pair_is (a, i) h.pair same)
          ∙ (ap (cell_number (locks_of heads) h.pair.0) value ∙ cell),
      all.0,
    )
    go false same e rest = rest e

-- each holding of a pair is of the pair's cell
pub named_cells : (heads : List Head) (env : Env) (a : Name) (i : Atom) (l : ℕ) → cell_number (locks_of heads) a (index_of i env) ≡ Some l
    → (held : List Holding) → StillNamed heads env held
    → Each (λ k. same_pair (a, i) k.pair ≡ true → k.cell ≡ l) held
named_cells heads env a i l is [] names = tt
named_cells heads env a i l is (h ∷ held) (one_held value cell names) = (
  λ e. ap (λ o. unwrap_or o h.cell) (sym (sym is
      ∙ (ap (λ q. cell_number (locks_of heads) q.0 (index_of q.1 env)) (same_pair_is (a, i) h.pair e)
      ∙ (ap (cell_number (locks_of heads) h.pair.0) value ∙ cell)))),
  named_cells heads env a i l is held names,
)

-- a member is found
any_of : (c : ℕ) (xs : List ℕ) → Contains xs c → list_any (nat_eq c) xs ≡ true
any_of c xs (k, less, is) = list_any_at (nat_eq c) xs k c less (ap (nat_eq c) is ∙ eq-eqb c c refl)

count : (a n : ℕ) → length (numbers a n) ≡ n
count a zero = refl
count a (suc n) = ap suc (count (suc a) n)

number : (a n k d : ℕ) → k < n → get_or (numbers a n) k d ≡ a + k
number a zero k d l = absurd (omega arith)
number a (suc n) zero d l = omega arith
number a (suc n) (suc k) d l = number (suc a) n k d (omega arith) ∙ omega arith

module _ (heads : List Head) (laid : IsLaidOut heads) (locks : List ℕ) where
  abbrev pub test : ℕ → Bool
  test = is_under (layout heads).under locks

  -- a record cell over which one of the locks stands
  under_one : (l c : ℕ) → l < cells_in (locks_of heads) → c < cells_in (records_of heads) → lock_over (locks_of heads) heads c ≡ Some l
      → Contains locks l → test c ≡ true
  under_one l c l_in c_in over (k, less, is) =
      list_any_at (λ lock. list_any (nat_eq c) (under_lock (layout heads).under lock)) locks k l less
      (ap (λ lock. list_any (nat_eq c) (under_lock (layout heads).under lock)) is ∙ any_of c (under_lock (layout heads).under l) there)
    where
      lock : (l : ℕ) × (l < cells_in (locks_of heads)) × ((lock : ℕ) → Contains (cells_under heads lock) c ↔ (lock ≡ l))
      lock = laid.one_lock c c_in

      under : Contains (cells_under heads lock.0) c
      under = (lock.2 lock.0).1 refl

      same : lock.0 ≡ l
      same =
          eqb-true lock.0 l (ap (is_lock_cell lock.0) (sym over)
          ∙ All-contains (λ d. is_lock_cell lock.0 (lock_over (locks_of heads) heads d) ≡ true) (cells_under heads lock.0) c
          (filter_passes (λ d. is_lock_cell lock.0 (lock_over (locks_of heads) heads d)) (numbers 0 (cells_in (records_of heads))))
          under)

      there : Contains (under_lock (layout heads).under l) c
      there =
          let all = count 0 (cells_in (locks_of heads)) in
          subst (λ cells. Contains cells c)
          (sym (get_or-map (cells_under heads) (numbers 0 (cells_in (locks_of heads))) l 0 [] (omega arith)
          ∙ ap (cells_under heads) (number 0 (cells_in (locks_of heads)) l 0 l_in ∙ omega arith)))
          (subst (λ m. Contains (cells_under heads m) c) same under)

  module _ (s : Setting) (heads_are : s.program.heads ≡ heads) (registers : List Name) (env : Env) (held : List Holding)
      (names : StillNamed heads env held) (owned : Each (λ h. Contains locks h.cell) held) where
    touched : (r : Name) (i : Atom) (c : ℕ) → cell_number (records_of heads) r (index_of i env) ≡ Some c
        → IsUnderHeld heads r i (pairs_held held) → test c ≡ true
    touched r i c number (a, over, held_it) =
        let h = holding_of heads env (λ h. Contains locks h.cell) a i held held_it names owned in
        under_one h.0.cell c (number_below (locks_of heads) a (index_of i env) h.0.cell h.2)
        (number_below (records_of heads) r (index_of i env) c number)
        (over_is (locks_of heads) heads r a (index_of i env) c number over ∙ h.2) h.3

    mapped : {A B : Type 0} (o : Option A) (f : A → B) (b : B) → option_map f o ≡ Some b → (a : A) × (o ≡ Some a) × (f a ≡ b)
    mapped None f b e = absurd (cc e)
    mapped (Some a) f b e = (a, refl, ap (λ o. unwrap_or o b) e)

    chained : {A B : Type 0} (o : Option A) (f : A → Option B) (b : B) → option_and_then f o ≡ Some b
        → (a : A) × (o ≡ Some a) × (f a ≡ Some b)
    chained None f b e = absurd (cc e)
    chained (Some a) f b e = (a, refl, e)

    numbered : (r : Name) (i : Atom) (c : ℕ) → record_number s r i env ≡ Some c → cell_number (records_of heads) r (index_of i env) ≡ Some c
    numbered r i c e = ap (λ hs. cell_number (records_of hs) r (index_of i env)) (sym heads_are) ∙ e

    mutual
      -- the action of a statement that touches records under held pairs alone
      pub action_names : (w : What) (a : Action) → action s registers w env ≡ Some a → TouchesHeld heads w (pairs_held held)
          → NamesOnly test a
      action_names (SetReg x e) a is touches =
          let m = mapped (of_registers registers e env) (λ t. Set (slot registers x) t) a is in
          subst (NamesOnly test) m.2 tt
      action_names (Read r i x) a is touches =
          let m = mapped (record_number s r i env) (λ c. Load c (slot registers x)) a is in
          subst (NamesOnly test) m.2 (touched r i m.0 (numbered r i m.0 m.1) touches)
      action_names (Write r i e) a is touches =
          let c = chained (record_number s r i env) (λ c. option_map (Store c) (of_registers registers e env)) a is in
          let m = mapped (of_registers registers e env) (Store c.0) a c.2 in
          subst (NamesOnly test) m.2 (touched r i c.0 (numbered r i c.0 c.1) touches)
      action_names (Print es) a is touches =
          let m = mapped (all_of (map (λ e. of_registers registers e env) es)) Say a is in
          subst (NamesOnly test) m.2 tt
      action_names (When e x y) a is touches =
          let t = chained (of_registers registers e env) _ a is in
          let first = chained (arm s registers x env) _ a t.2 in
          let second = mapped (arm s registers y env) (Choose t.0 first.0) a first.2 in
          subst (NamesOnly test) second.2 (arm_names x first.0 first.1 touches.0, arm_names y second.0 second.1 touches.1)
      action_names (SetCtl x e) a is touches = absurd (cc is)
      action_names (While e b) a is touches = absurd (cc is)
      action_names (If e b c) a is touches = absurd (cc is)
      action_names (Lock x i) a is touches = absurd (cc is)
      action_names (Unlock x i) a is touches = absurd (cc is)
      action_names (Fork t es x) a is touches = absurd (cc is)
      action_names (Join e x) a is touches = absurd (cc is)
      action_names (Barrier b) a is touches = absurd (cc is)
      action_names (Settle x c) a is touches = absurd (cc is)

      arm_names : (b : Block) (a : Arm) → arm s registers b env ≡ Some a → TouchesAllHeld heads b (pairs_held held) → ArmNamesOnly test a
      arm_names Nothing a is touches = subst (ArmNamesOnly test) (ap (λ o. unwrap_or o a) is) tt
      arm_names (Then (At line w) b) a is touches =
          let first = chained (action s registers w env) _ a is in
          let rest = mapped (arm s registers b env) (OneAction first.0) a first.2 in
          subst (ArmNamesOnly test) rest.2 (action_names w first.0 first.1 touches.0, arm_names b rest.0 rest.1 touches.1)
