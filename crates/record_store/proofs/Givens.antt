-- What actions do on what was given, and which states give the same.
use Rattle.std.proofs.Common.{◌≡◌, inl, inr, ℕ, Bool, true, false, cond, ◌||◌, List, [], ◌∷◌, ◌++◌, map, option_map, refl, sym, ap, ◌∙◌, nat_eq, Contains}
use Rattle.std.specs.Prelude.{ℤ, pos, negsuc}
use Rattle.std.proofs.lemmas.Bool.{eqb-true, false≢true}
use Rattle.std.proofs.lemmas.List.Folds.{list_any-from_Any}
use Rattle.gp_base.specs.declared.footprint.Loc.TheVariants as loc
use Rattle.task_ast.specs.declared.effect.Effect.{Effect}
use Rattle.task_ast.specs.declared.sync.SyncOp.{SyncOp}
use Rattle.task_ast.specs.declared.sync.SyncOp.TheVariants as sync
use Rattle.task_ast.specs.meaning.State.{State, RegistersOf, CellOf, cell_value, number_at}
use Rattle.task_ast.specs.meaning.Effect.{Doing, all_done, joined_ret}
use Rattle.task_ast.specs.Fold.{Member}
use Rattle.task_ast.specs.meaning.Footprint.{child_registers}
use Rattle.task_ast.specs.meaning.Under.{under_lock, is_under}
use Rattle.task_ast.proofs.Keeping.{all_same}
use Rattle.dependence.specs.meaning.Dependents.{is_member}
use Rattle.dependence.proofs.DependentSets.{is_member-is}
use Rattle.dependence.proofs.Keeping.{under-writes, joined_same}
use Rattle.dependence.proofs.Struck.{Contains-head, Contains-later}
use Rattle.task_ast.specs.SyncOps.{joined_by}
use Rattle.record_store.specs.Given.{joined_value, bundle_of, value_beside, value_in}
use Rattle.record_store.specs.Laws.{GivenLaw, SameGivenLaw}

-- the value joined is `$ret` of the thread that the synchronisation joins
pub joined_is : (begins : SyncOp) (state : State) → joined_value state (joined_by begins) ≡ joined_ret begins state
joined_is (sync.Join (pos h)) state = refl
joined_is (sync.Join (negsuc h)) state = refl
joined_is sync.Start state = refl
joined_is (sync.Lock l) state = refl
joined_is (sync.Unlock l) state = refl
joined_is (sync.Fork k es) state = refl
joined_is (sync.Barrier b) state = refl
joined_is (sync.Settle register control) state = refl
joined_is sync.End state = refl
joined_is sync.BadIndex state = refl
joined_is sync.Spent state = refl

-- the value of a cell in a bundle that has it
pub beside : (f : ℕ → ℤ) (cells : List ℕ) (c : ℕ) (other : ℤ)
    → value_beside cells (map f cells) c other ≡ cond (is_member c cells) (f c) other
beside f [] c other = refl
beside f (x ∷ cells) c other = go (nat_eq c x) refl (beside f cells c other)
  where
    go : (b : Bool) → nat_eq c x ≡ b → value_beside cells (map f cells) c other ≡ cond (is_member c cells) (f c) other
        → cond b (f x) (value_beside cells (map f cells) c other) ≡ cond (b || is_member c cells) (f c) other
    go true same rest = ap f (sym (eqb-true c x same))
    go false differ rest = rest

module _ (under : List (List ℕ)) (state : State) where
  -- each cell under the locks held is at hand
  at_hand : (held : List ℕ) (c : ℕ) → is_under under held c ≡ true
      → value_in under (map (bundle_of under state) held) c ≡ cell_value state c
  at_hand [] c passes = absurd (false≢true passes)
  at_hand (lock ∷ held) c passes =
      beside (cell_value state) (under_lock under lock) c (value_in under (map (bundle_of under state) held) c)
      ∙ go (is_member c (under_lock under lock)) passes (at_hand held c)
    where
      go : (b : Bool) → (b || is_under under held c) ≡ true
          → (is_under under held c ≡ true → value_in under (map (bundle_of under state) held) c ≡ cell_value state c)
          → cond b (cell_value state c) (value_in under (map (bundle_of under state) held) c) ≡ cell_value state c
      go true p rest = refl
      go false p rest = rest p

pub given_law : GivenLaw
given_law under held t begins child actions state names =
    ap left
    (all_same (is_under under held) (value_in under (map (bundle_of under state) held)) (cell_value state)
    (joined_value state (joined_by begins)) (at_hand under state held) actions start names
    ∙ ap (λ v. all_done (cell_value state) v actions start) (joined_is begins state))
  where
    start : Doing
    start = record { registers = state (RegistersOf t); child = []; written = []; lines = [] }

    left : Doing → Effect
    left d = record { thread = t; writes = d.written; regs = d.registers; child = option_map (λ c. (c, d.child)) child; prints = d.lines }

module _ (under : List (List ℕ)) (left right : State) where
  same_values : (cells : List ℕ) → ((c : ℕ) → Contains cells c → left (CellOf c) ≡ right (CellOf c))
      → map (cell_value left) cells ≡ map (cell_value right) cells
  same_values [] same = refl
  same_values (c ∷ cells) same =
      λ i. number_at (same c (Contains-head c cells) i) 0 ∷ same_values cells (λ d there. same d (Contains-later c cells d there)) i

  same_bundles : (held : List ℕ)
      → ((lock c : ℕ) → Contains held lock → Contains (under_lock under lock) c → left (CellOf c) ≡ right (CellOf c))
      → map (bundle_of under left) held ≡ map (bundle_of under right) held
  same_bundles [] same = refl
  same_bundles (lock ∷ held) same =
      λ i. record { lock = lock; cells = same_values (under_lock under lock) (λ c there. same lock c (Contains-head lock held) there) i }
      ∷ same_bundles held (λ l c is_held there. same l c (Contains-later lock held l is_held) there) i

-- a cell under a lock that is held passes the test
under-passes : (under : List (List ℕ)) (held : List ℕ) (lock c : ℕ) → Contains held lock → Contains (under_lock under lock) c
    → is_under under held c ≡ true
under-passes under held lock c is_held there =
    list_any-from_Any (λ l. is_member c (under_lock under l)) held
    (is_held.0, lock, is_held.1, is_held.2, (is_member-is c (under_lock under lock)).1 there)

pub same_given_law : SameGivenLaw
same_given_law under held t begins child left right apart agree =
    let member : Member = record { thread = t; begins = begins; child = child; actions = []; mask = pos 0 } in
    let regs = agree (RegistersOf t) (inr (Contains-head (loc.Regs t) (child_registers child ++ map loc.Lock held))) in
    let joined =
    joined_is begins left ∙ joined_same begins left right (λ h there. agree (RegistersOf h) (inl there))
    ∙ sym (joined_is begins right) in
    let bundles =
    same_bundles under left right held (λ lock c is_held there.
    agree (CellOf c) (inr (under-writes under apart held member c (under-passes under held lock c is_held there)))) in
    λ i. record { regs = regs i; joined = joined i; bundles = bundles i }
