-- A cell stands under locks that are held exactly where the lock over it is one of them.
use Rattle.std.proofs.Common.{◌≡◌, ◌↔◌, inl, inr, ℕ, ℤ, pos, ◌+◌, ◌<◌, ◌≤◌, ◌-◌, Bool, true, false, cond, List, [], ◌∷◌, length, get_or, Some, None, Result, Ok, Err, sym, ap, ◌∙◌, subst, arith, Contains, nat_eq, refl}
use Rattle.std.specs.Prelude.{slice_get, IsTrue, is_ok}
use Rattle.std.specs.Result.{result_ok}
use Rattle.std.specs.List.{list_any}
use Rattle.std.proofs.lemmas.Bool.{cases_lt, eq-eqb, le-ltb, false≢true}
use Rattle.std.proofs.lemmas.List.{get_or-map, get_or_default}
use Rattle.std.proofs.lemmas.List.Elements.{All-nil}
use Rattle.std.proofs.lemmas.List.Folds.{list_any_at}
use Rattle.task_ast.specs.declared.tree.Head.{Head}
use Rattle.task_ast.specs.declared.tree.Head.TheVariants.{LockHead, BarrierHead, RecHead, FeedHead}
use Rattle.task_ast.specs.meaning.Tree.{Name, Program}
use Rattle.task_ast.specs.meaning.Names.{natural, cell_number, locks_of, records_of, cells_in}
use Rattle.task_ast.specs.meaning.Layout.{lock_over, cells_under, layout}
use Rattle.task_ast.specs.Layout.{IsLaidOut}
use Rattle.task_ast.specs.Shaped.{IsAccepted}
use Rattle.task_ast.specs.meaning.Table.{numbers}
use Rattle.task_ast.specs.meaning.Under.{under_lock, is_under}
use Rattle.task_ast.proofs.Layouts.{length-numbers, get-numbers, laid_out, accepted_sizes}
use Rattle.dependence.proofs.Keeping.{under-held}
use Rattle.record_store.specs.declared.given.Bundle.{Bundle}
use Rattle.subthread.specs.Places.{IsPlaceIn}
use Rattle.subthread.proofs.Grounds.{searchable}
use Rattle.gp_resume.specs.meaning.Fitting.{StandsUnder}

-- past the record cells no lock stands over a number
none-past : (arrays : List (Name × ℕ)) (heads : List Head) (c : ℕ) → cells_in (records_of heads) ≤ c → lock_over arrays heads c ≡ None
none-past arrays [] c past = refl
none-past arrays (LockHead name size line ∷ heads) c past = none-past arrays heads c past
none-past arrays (BarrierHead name number line ∷ heads) c past = none-past arrays heads c past
none-past arrays (FeedHead name fields from line ∷ heads) c past = none-past arrays heads c past
none-past arrays (RecHead name size by from line ∷ heads) c past =
    ap (λ b. cond b (cell_number arrays by (pos c)) (lock_over arrays heads (c - natural size))) (le-ltb c (natural size) (omega arith))
    ∙ none-past arrays heads (c - natural size) (omega arith)

-- a list has its members
any-member : (c : ℕ) (cells : List ℕ) → Contains cells c → list_any (nat_eq c) cells ≡ true
any-member c cells (k, less, is) = list_any_at (nat_eq c) cells k c less (ap (nat_eq c) is ∙ eq-eqb c c refl)

-- what holds of the elements before a place, and at it, holds of one more
pub each-more : {X : Type 0} (P : X → Type 0) (xs : List X) (n : ℕ) (x : X) → n < length xs → ((k : ℕ) (d : X) → k < n → P (get_or xs k d))
    → P (get_or xs n x) → (k : ℕ) (d : X) → k < n + 1 → P (get_or xs k d)
each-more P xs n x inside each here k d less = elim (cases_lt k n) [
  | inl before ↦ each k d before
  | inr behind ↦
      (let same : n ≡ k = omega arith in
      subst (λ m. P (get_or xs m d)) same (subst P (get_or_default xs n x d inside) here))
]

-- what a search among the locks finds tells whether the lock is one of them
pub placed-held : (held : List ℕ) (lock : ℕ) (r : Result ℕ ℕ) → IsPlaceIn held lock (result_ok r) → IsTrue (is_ok r) ↔ Contains held lock
placed-held held lock (Ok k) place = (λ is. (k, place.0, get_or_default held k lock 0 place.0 ∙ place.1), λ there. refl)
placed-held held lock (Err gap) place =
    (λ is. absurd (false≢true is), λ there. absurd (place there.0 there.1 (get_or_default held there.0 0 lock there.1 ∙ there.2)))

module _ (program : Program) (accepted : IsAccepted program) (over : List ℕ)
    (over_is : (c : ℕ) → slice_get over c ≡ lock_over (locks_of program.heads) program.heads c) where
  abbrev heads : List Head
  heads = program.heads

  abbrev under : List (List ℕ)
  under = (layout program.heads).under

  laid : IsLaidOut heads
  laid = laid_out heads (accepted_sizes program accepted)

  -- the lock over a cell is the one under which it stands
  found : (c lock : ℕ) → Contains (under_lock under lock) c → slice_get over c ≡ Some lock
  found =
      (searchable program accepted over over_is [] (λ k less. absurd (omega arith))
      (All-nil (λ (b : Bundle). length b.cells ≡ length (under_lock under b.lock)))).over_is

  under-over : (c l : ℕ) → slice_get over c ≡ Some l → Contains (under_lock under l) c
  under-over c l is = elim (cases_lt c (cells_in (records_of heads))) [
    | inl less ↦ at (laid.one_lock c less)
    | inr past ↦ absurd (let both = sym is ∙ (over_is c ∙ none-past (locks_of heads) heads c past) in cc both)
  ]
    where
      at : (m : ℕ) × (m < cells_in (locks_of heads)) × ((lock : ℕ) → Contains (cells_under heads lock) c ↔ (lock ≡ m))
          → Contains (under_lock under l) c
      at (m, below, only) =
          let many = length-numbers 0 (cells_in (locks_of heads)) in
          let cells : under_lock under m ≡ cells_under heads m =
          get_or-map (cells_under heads) (numbers 0 (cells_in (locks_of heads))) m 0 [] (omega arith)
          ∙ ap (cells_under heads) (get-numbers 0 (cells_in (locks_of heads)) m 0 below ∙ omega arith) in
          let there = subst (λ cells. Contains cells c) (sym cells) ((only m).1 refl) in
          let same : m ≡ l = (let both = sym (found c m there) ∙ is in cc both) in
          subst (λ l. Contains (under_lock under l) c) same there

  -- where the lock over a cell is held, the cell stands under one that is
  held-under : (held : List ℕ) (c l : ℕ) → slice_get over c ≡ Some l → Contains held l → is_under under held c ≡ true
  held-under held c l is (k, less, same) =
      list_any_at (λ lock. list_any (nat_eq c) (under_lock under lock)) held k l less
      (ap (λ lock. list_any (nat_eq c) (under_lock under lock)) same ∙ any-member c (under_lock under l) (under-over c l is))

  -- and else it stands under none
  lock-held : (held : List ℕ) (c : ℕ) → is_under under held c ≡ true → (l : ℕ) × (slice_get over c ≡ Some l) × Contains held l
  lock-held held c passes = let there = under-held under held c passes in (there.0, found c there.0 there.1, there.2)

  -- so a test of the lock tells of the cell
  pub stands-some : (held : List ℕ) (cell : ℤ) (c l : ℕ) (b : Bool) → cell ≡ pos c → slice_get over c ≡ Some l → IsTrue b ↔ Contains held l
      → IsTrue b ↔ StandsUnder under held cell
  stands-some held cell c l b is over_it held_it = (to, from)
    where
      to : IsTrue b → StandsUnder under held cell
      to true_it = (c, is, held-under held c l over_it (held_it.0 true_it))

      from : StandsUnder under held cell → IsTrue b
      from (d, is_d, passes) =
          let there = lock-held held d passes in
          let same_cell : d ≡ c = (let both = sym is_d ∙ is in cc both) in
          let same_lock : there.0 ≡ l = (let both = sym there.1 ∙ (ap (slice_get over) same_cell ∙ over_it) in cc both) in
          held_it.1 (subst (Contains held) same_lock there.2)

  pub stands-none : (held : List ℕ) (cell : ℤ) (c : ℕ) → cell ≡ pos c → slice_get over c ≡ None → IsTrue false ↔ StandsUnder under held cell
  stands-none held cell c is none = ((λ wrong. absurd (false≢true wrong)), from)
    where
      from : StandsUnder under held cell → IsTrue false
      from (d, is_d, passes) =
          let there = lock-held held d passes in
          let same_cell : d ≡ c = (let both = sym is_d ∙ is in cc both) in
          absurd (let both = sym there.1 ∙ (ap (slice_get over) same_cell ∙ none) in cc both)
