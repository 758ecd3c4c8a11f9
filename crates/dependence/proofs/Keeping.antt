-- A member whose actions name only cells under the locks held keeps to its footprint. The cells that its actions name
-- stand in its footprint, and so do the registers that it may touch. A cell under a lock has that lock as its location
-- by locks; so members that keep to their footprints are in conflict wherever they have a place in common that one of
-- them may write.
use Rattle.std.proofs.Common.{◌≡◌, inl, inr, ℕ, suc, zero, ◌<◌, Bool, true, false, cond, List, [], ◌∷◌, ◌++◌, length, map, get_or, Option, Some, None, is_some, refl, sym, ap, subst, ◌∙◌, arith, nat_eq, ◌||◌, Contains, slice_get, option_map}
use Rattle.std.specs.Prelude.{ℤ, pos, negsuc}
use Rattle.std.specs.List.{position_or_len}
use Rattle.std.specs.Ordering.{nat_cmp, eq_by_cmp}
use Rattle.std.specs.FinMap.{find}
use Rattle.std.proofs.lemmas.Bool.{or_cases, eqb-true, false≢true, false_from_ne_true, lt-ltb, cases_lt}
use Rattle.std.proofs.lemmas.List.{get_or_past, get_or-map, length-map}
use Rattle.std.proofs.lemmas.List.Folds.{Any-from_list_any}
use Rattle.std.proofs.lemmas.List.Sums.{position_or_len_is}
use Rattle.std.proofs.lemmas.List.Elements.{Contains-append_left, Contains-append_right}
use Rattle.gp_base.specs.declared.footprint.Loc.{Loc}
use Rattle.gp_base.specs.declared.footprint.Loc.TheVariants as loc
use Rattle.gp_base.specs.declared.footprint.Footprint.{Footprint}
use Rattle.task_ast.specs.declared.sync.SyncOp.{SyncOp}
use Rattle.task_ast.specs.declared.sync.SyncOp.TheVariants as sync
use Rattle.task_ast.specs.declared.tree.Head.{Head}
use Rattle.task_ast.specs.meaning.Names.{locks_of, cells_in}
use Rattle.task_ast.specs.meaning.Layout.{cells_under, layout}
use Rattle.task_ast.specs.Layout.{IsLaidOut}
use Rattle.task_ast.specs.meaning.Table.{numbers}
use Rattle.task_ast.specs.meaning.State.{Location, RegistersOf, CellOf, State, number_at}
use Rattle.task_ast.specs.meaning.Effect.{effect, joined_ret}
use Rattle.task_ast.specs.Damage.{damaged, masked, all_masked}
use Rattle.task_ast.specs.meaning.Footprint.{named_by, footprint, joined_registers, child_registers}
use Rattle.task_ast.specs.Footprint.{lock_footprint}
use Rattle.task_ast.specs.meaning.Plain.{Subthread}
use Rattle.task_ast.specs.Fold.{Member}
use Rattle.task_ast.specs.Members.{member_of}
use Rattle.task_ast.specs.History.{named_child, IsNamed}
use Rattle.task_ast.proofs.Keeping.{reads_same, writes_within}
use Rattle.task_ast.proofs.Layouts.{length-numbers, get-numbers, laid_out}
use Rattle.dependence.specs.meaning.Conflict.{foot_at}
use Rattle.dependence.specs.Conflict.{InConflict}
use Rattle.dependence.specs.meaning.Dependents.{is_member}
use Rattle.dependence.specs.meaning.Runs.{feet_of}
use Rattle.dependence.specs.Touching.{MayWrite, MayTouch, Agree, done_by, KeepsTo, KeepToFeet, IsApart, own_location, lock_location, LocationLaw, KeepsLaw, RunKeepsLaw, LaidLaw}
use Rattle.task_ast.specs.meaning.Under.{under_lock, is_under}
use Rattle.dependence.proofs.DependentSets.{is_member-is}
use Rattle.dependence.proofs.Folds.{Kept}
use Rattle.dependence.proofs.Naming.{to-map, names-named, writes-named}
use Rattle.dependence.proofs.Struck.{Contains-head, Contains-later}

-- a cell that passes stands under a lock that is held
pub under-held : (under : List (List ℕ)) (held : List ℕ) (c : ℕ) → is_under under held c ≡ true
    → (lock : ℕ) × Contains (under_lock under lock) c × Contains held lock
under-held under held c passes =
    let h = Any-from_list_any (λ lock. is_member c (under_lock under lock)) held passes in
    (h.1, (is_member-is c (under_lock under h.1)).0 h.4, (h.0, h.2, h.3))

pub Contains-map : {A B : Type 0} (f : A → B) (xs : List A) (x : A) → Contains xs x → Contains (map f xs) (f x)
Contains-map f [] x c = absurd (let l = c.1 in omega arith)
Contains-map f (y ∷ xs) x c = at c.0 c.1 c.2 (λ k l same. Contains-map f xs x (k, l, same))
  where
    at : (k : ℕ) → k < length (y ∷ xs) → get_or (y ∷ xs) k x ≡ x → ((j : ℕ) → j < length xs → get_or xs j x ≡ x → Contains (map f xs) (f x))
        → Contains (map f (y ∷ xs)) (f x)
    at zero l same rest = subst (λ z. Contains (map f (y ∷ xs)) (f z)) same (Contains-head (f y) (map f xs))
    at (suc k) l same rest = Contains-append_right (f y ∷ []) (map f xs) (f x) (rest k (omega arith) same)

-- `$ret` of the thread that is joined depends on its registers alone
pub joined_same : (begins : SyncOp) (left right : State)
    → ((h : ℕ) → Contains (joined_registers begins) (loc.Regs h) → left (RegistersOf h) ≡ right (RegistersOf h))
    → joined_ret begins left ≡ joined_ret begins right
joined_same (sync.Join (pos h)) left right agree = ap (λ xs. number_at xs 0) (agree h (Contains-head (loc.Regs h) []))
joined_same (sync.Join (negsuc h)) left right agree = refl
joined_same sync.Start left right agree = refl
joined_same (sync.Lock l) left right agree = refl
joined_same (sync.Unlock l) left right agree = refl
joined_same (sync.Fork t es) left right agree = refl
joined_same (sync.Barrier b) left right agree = refl
joined_same (sync.Settle register control) left right agree = refl
joined_same sync.End left right agree = refl
joined_same sync.BadIndex left right agree = refl
joined_same sync.Spent left right agree = refl

-- a cell under a lock has that lock as its location
pub location-is : LocationLaw
location-is under lock c once there = rw (first, lt-ltb lock (length under) within) refl
  where
    within : lock < length under
    within =
        elim (cases_lt lock (length under)) [
          | inl l ↦ l
          | inr l ↦ absurd (let none = ap length (get_or_past under lock [] l) in let m = there.1 in omega arith)
        ]

    first : position_or_len (is_member c) under ≡ lock
    first =
        position_or_len_is (is_member c) under lock [] (omega (arith, within))
        (λ k l. false_from_ne_true (is_member c (under_lock under k))
        (λ e. let same = once k lock c ((is_member-is c (under_lock under k)).0 e) there in omega arith))
        (λ l. (is_member-is c (under_lock under lock)).1 there)

module _ (m : Member) where
  abbrev foot : Footprint
  foot = footprint m.thread m.begins m.child m.actions

  own : MayWrite own_location foot (RegistersOf m.thread)
  own = Contains-head (loc.Regs m.thread) (child_registers m.child ++ map loc.Rec (named_by m.actions).writes)

  written : (c : ℕ) → is_member c (named_by m.actions).writes ≡ true → MayWrite own_location foot (CellOf c)
  written c e =
      Contains-append_right (loc.Regs m.thread ∷ child_registers m.child) (map loc.Rec (named_by m.actions).writes) (loc.Rec c)
      (to-map (named_by m.actions).writes c e)

  touched : (c : ℕ) → (is_member c (named_by m.actions).reads || is_member c (named_by m.actions).writes) ≡ true
      → MayTouch own_location foot (CellOf c)
  touched c e =
      elim (or_cases (is_member c (named_by m.actions).reads) (is_member c (named_by m.actions).writes) e) [
        | inl read ↦
            inl (Contains-append_right (joined_registers m.begins) (map loc.Rec (named_by m.actions).reads) (loc.Rec c)
            (to-map (named_by m.actions).reads c read))
        | inr wrote ↦ inr (written c wrote)
      ]

  same : (left right : State) → Agree (MayTouch own_location foot) left right → done_by m left ≡ done_by m right
  same left right agree =
      ap (damaged m.mask) (reads_same (λ x. is_member x (named_by m.actions).reads || is_member x (named_by m.actions).writes) m.thread
      m.begins m.child m.actions left right (names-named m.actions) (record {
        registers = agree (RegistersOf m.thread) (inr own);
        joined = joined_same m.begins left right
            (λ h there. agree (RegistersOf h)
            (inl (Contains-append_left (joined_registers m.begins) (map loc.Rec (named_by m.actions).reads) (loc.Regs h) there)));
        cells = λ c e. agree (CellOf c) (touched c e);
      }))

  -- a cell that a damaged effect names was written
  find_masked : (ws : List (ℕ × ℤ)) (c : ℕ) → find nat_cmp c ws ≡ None → find nat_cmp c (map (λ w. (w.0, masked m.mask w.1)) ws) ≡ None
  find_masked [] c e = refl
  find_masked (w ∷ ws) c e = go (eq_by_cmp nat_cmp c w.0) (find_masked ws c) e
    where
      go : (b : Bool) → (find nat_cmp c ws ≡ None → find nat_cmp c (map (λ w. (w.0, masked m.mask w.1)) ws) ≡ None)
          → cond b (Some w.1) (find nat_cmp c ws) ≡ None
          → cond b (Some (masked m.mask w.1)) (find nat_cmp c (map (λ w. (w.0, masked m.mask w.1)) ws)) ≡ None
      go true rest none = absurd (false≢true (sym (ap is_some none)))
      go false rest none = rest none

  abbrev masked_child : Option (ℕ × List ℤ) → Option (ℕ × List ℤ)
  masked_child child = option_map (λ c. (c.0, all_masked m.mask c.1)) child

  child_place : (child : Option ℕ) (given : List ℤ) (t : ℕ) (rest : List Loc)
      → is_some (named_child (masked_child (option_map (λ c. (c, given)) child)) t) ≡ true
      → Contains (child_registers child ++ rest) (loc.Regs t)
  child_place None given t rest e = absurd (false≢true e)
  child_place (Some c) given t rest e = go (nat_eq t c) refl e
    where
      go : (b : Bool) → nat_eq t c ≡ b → is_some (cond b (Some (all_masked m.mask given)) None) ≡ true
          → Contains (loc.Regs c ∷ rest) (loc.Regs t)
      go true same some = rw (eqb-true t c same) (Contains-head (loc.Regs c) rest)
      go false same some = absurd (false≢true some)

  within : (state : State) (place : Location) → IsNamed (done_by m state) place → MayWrite own_location foot place
  within state (CellOf c) some =
      written c (writes_within (λ x. is_member x (named_by m.actions).writes) m.thread m.begins m.child m.actions state
      (writes-named m.actions) c
      (λ none. false≢true (sym (ap (λ o. is_some (option_map (λ v. v ∷ []) o))
      (find_masked (effect m.thread m.begins m.child m.actions state).writes c none)) ∙ some)))
  within state (RegistersOf t) some = go (nat_eq t m.thread) refl some
    where
      go : (b : Bool) → nat_eq t m.thread ≡ b
          → is_some (cond b (Some (done_by m state).regs) (named_child (done_by m state).child t)) ≡ true
          → MayWrite own_location foot (RegistersOf t)
      go true is some_is = subst (λ u. MayWrite own_location foot (RegistersOf u)) (sym (eqb-true t m.thread is)) own
      go false is there_is =
          Contains-later (loc.Regs m.thread) (child_registers m.child ++ map loc.Rec (named_by m.actions).writes) (loc.Regs t)
          (child_place m.child _ t (map loc.Rec (named_by m.actions).writes) there_is)

  keeps : KeepsTo (MayWrite own_location foot) (MayTouch own_location foot) m
  keeps = record { within = within; same = same }

pub keeps_law : KeepsLaw
keeps_law m = keeps m

-- each position of a run keeps to its footprint
pub run-keeps : RunKeepsLaw
run-keeps run masks p = go run p
  where
    Keeps : Option Subthread → Footprint → Type 0
    Keeps o foot = KeepsTo (MayWrite own_location foot) (MayTouch own_location foot) (member_of (masks p) o)

    go : (rest : List Subthread) (q : ℕ) → Keeps (slice_get rest q) (foot_at (feet_of rest) q)
    go [] q = keeps (member_of (masks p) None)
    go (s ∷ rest) zero = keeps (member_of (masks p) (Some s))
    go (s ∷ rest) (suc q) = go rest q

-- members that keep to their footprints are in conflict where they have a place in common that one may write
pub kept-feet : (location : Location → Loc) (feet : ℕ → Footprint) (members : ℕ → Member) → KeepToFeet location feet members
    → Kept (λ p. MayWrite location (feet p)) (λ p. MayTouch location (feet p)) (InConflict feet) members
kept-feet location feet members keeps = record { keeps = keeps; sees = λ p place w. inr w; writes_first = first; writes_second = second }
  where
    first : (p q : ℕ) (place : Location) → MayWrite location (feet p) place → MayTouch location (feet q) place → InConflict feet p q
    first p q place w (inl r) = inr (inl (location place, w, r))
    first p q place w (inr v) = inl (location place, w, v)

    second : (p q : ℕ) (place : Location) → MayTouch location (feet p) place → MayWrite location (feet q) place → InConflict feet p q
    second p q place (inl r) w = inr (inr (location place, r, w))
    second p q place (inr v) w = inl (location place, v, w)

-- the layout of a program has each cell under one lock at most
module _ (heads : List Head) where
  abbrev locks : List ℕ
  locks = numbers 0 (cells_in (locks_of heads))

  -- what stands under a lock stands under the lock cell of this number
  pub under-is : (lock c : ℕ) → Contains (under_lock (layout heads).under lock) c → Contains (cells_under heads lock) c
  under-is lock c member =
      elim (cases_lt lock (length locks)) [
        | inl l ↦
            (let all = length-numbers 0 (cells_in (locks_of heads)) in
            let is : under_lock (layout heads).under lock ≡ cells_under heads lock =
            get_or-map (cells_under heads) locks lock 0 [] l
            ∙ ap (cells_under heads) (get-numbers 0 (cells_in (locks_of heads)) lock 0 (omega arith) ∙ omega arith) in
            subst (λ cells. Contains cells c) is member)
        | inr l ↦
            absurd (let all = length-map locks (cells_under heads) in
            let none = ap length (get_or_past (layout heads).under lock [] (omega arith)) in let m = member.1 in omega arith)
      ]

  pub laid-apart : IsLaidOut heads → IsApart (layout heads).under
  laid-apart laid l m c a b =
      let in_l = under-is l c a in
      let one = laid.one_lock c (laid.within l c in_l) in
      (one.2 l).0 in_l ∙ sym ((one.2 m).0 (under-is m c b))

pub laid_law : LaidLaw
laid_law heads fits = laid-apart heads (laid_out heads fits)

-- the location by locks of a cell under a lock that is held stands in the lock footprint
pub under-writes : (under : List (List ℕ)) → IsApart under → (held : List ℕ) (m : Member) (c : ℕ) → is_under under held c ≡ true
    → MayWrite (lock_location under) (lock_footprint m.thread m.begins m.child held) (CellOf c)
under-writes under once held m c passes =
    let h = under-held under held c passes in
    subst (Contains (loc.Regs m.thread ∷ child_registers m.child ++ map loc.Lock held)) (sym (location-is under h.0 c once h.1))
    (Contains-append_right (loc.Regs m.thread ∷ child_registers m.child) (map loc.Lock held) (loc.Lock h.0)
    (Contains-map loc.Lock held h.0 h.2))
