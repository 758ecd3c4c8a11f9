-- The cells of the layout are searchable.
use Rattle.std.proofs.Common.{◌≡◌, inl, inr, ℕ, true, List, [], length, map, Option, Some, None, sym, ap, ◌∙◌, subst, arith}
use Rattle.std.specs.Prelude.{◌⊎◌, All, slice_get}
use Rattle.std.specs.List.{Contains}
use Rattle.std.specs.List.Sorted.{IsStrictlyIncreasing}
use Rattle.std.proofs.lemmas.Bool.{cases_lt, eqb-true, false≢true}
use Rattle.std.proofs.lemmas.List.{get_or-map, get_or_past, length-map}
use Rattle.std.proofs.lemmas.List.Elements.{All-contains, filter_passes}
use Rattle.task_ast.specs.declared.tree.Head.{Head}
use Rattle.task_ast.specs.meaning.Tree.{Program}
use Rattle.task_ast.specs.meaning.Names.{locks_of, records_of, cells_in}
use Rattle.task_ast.specs.meaning.Layout.{lock_over, is_lock_cell, cells_under, layout}
use Rattle.task_ast.specs.Shaped.{IsAccepted}
use Rattle.task_ast.specs.meaning.Table.{numbers}
use Rattle.task_ast.specs.meaning.Under.{under_lock}
use Rattle.task_ast.proofs.Layouts.{length-numbers, get-numbers, laid_out, accepted_sizes}
use Rattle.record_store.specs.declared.given.Bundle.{Bundle}
use Rattle.record_store.specs.Lent.{lock_in}
use Rattle.subthread.specs.inner.Places.{AreSearchable}

is_over : (lock : ℕ) (o : Option ℕ) → is_lock_cell lock o ≡ true → o ≡ Some lock
is_over lock None is = absurd (false≢true is)
is_over lock (Some over) is = ap Some (sym (eqb-true lock over is))

module _ (heads : List Head) where
  -- the cells under a lock are those of the lock cell of this number, if there is one
  under_cases : (lock : ℕ) → (under_lock (layout heads).under lock ≡ cells_under heads lock) ⊎ (under_lock (layout heads).under lock ≡ [])
  under_cases lock =
      let many = length-numbers 0 (cells_in (locks_of heads)) in
      elim (cases_lt lock (length (numbers 0 (cells_in (locks_of heads))))) [
        | inl l ↦
            inl (get_or-map (cells_under heads) (numbers 0 (cells_in (locks_of heads))) lock 0 [] l
            ∙ ap (cells_under heads) (get-numbers 0 (cells_in (locks_of heads)) lock 0 (omega arith) ∙ omega arith))
        | inr l ↦
            inr (let all = length-map (numbers 0 (cells_in (locks_of heads))) (cells_under heads) in
            get_or_past (layout heads).under lock [] (omega arith))
      ]

  over_there : (lock c : ℕ) → Contains (cells_under heads lock) c → lock_over (locks_of heads) heads c ≡ Some lock
  over_there lock c there =
      is_over lock (lock_over (locks_of heads) heads c)
      (All-contains (λ d. is_lock_cell lock (lock_over (locks_of heads) heads d) ≡ true) (cells_under heads lock) c
      (filter_passes (λ d. is_lock_cell lock (lock_over (locks_of heads) heads d)) (numbers 0 (cells_in (records_of heads)))) there)

  over_found : (lock c : ℕ) → Contains (under_lock (layout heads).under lock) c → lock_over (locks_of heads) heads c ≡ Some lock
  over_found lock c there =
      elim (under_cases lock) [
        | inl is ↦ over_there lock c (subst (λ cells. Contains cells c) is there)
        | inr none ↦ absurd (let some = there.1 in let empty = ap length none in omega arith)
      ]

  cells_rise : ((lock : ℕ) → IsStrictlyIncreasing (cells_under heads lock)) → (lock : ℕ)
      → IsStrictlyIncreasing (under_lock (layout heads).under lock)
  cells_rise rise lock =
      elim (under_cases lock) [
        | inl is ↦ subst IsStrictlyIncreasing (sym is) (rise lock)
        | inr none ↦ subst IsStrictlyIncreasing (sym none) (λ k less. absurd (omega arith))
      ]

pub searchable : (program : Program) → IsAccepted program → (over : List ℕ)
    → ((cell : ℕ) → slice_get over cell ≡ lock_over (locks_of program.heads) program.heads cell) → (bundles : List Bundle)
    → IsStrictlyIncreasing (map lock_in bundles)
    → All (λ (b : Bundle). length b.cells ≡ length (under_lock (layout program.heads).under b.lock)) bundles
    → AreSearchable (layout program.heads).under over bundles
searchable program accepted over over_is bundles rises sizes =
    record {
      over_is = λ cell lock there. over_is cell ∙ over_found program.heads lock cell there;
      cells_rise = cells_rise program.heads (laid_out program.heads (accepted_sizes program accepted)).rising;
      bundles_rise = rises;
      sizes = sizes;
    }
