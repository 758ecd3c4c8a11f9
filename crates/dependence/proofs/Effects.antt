-- Effects that name disjoint places commute, and a history is such an effect too. Everything goes place by place: an
-- effect leaves at a place the value that it names there, or else what stood there. Of two effects that name no common
-- place at most one changes each place. A history names what its effect names, and there the value that stood before.
use Rattle.std.proofs.Common.{◌≡◌, ℕ, Bool, true, false, cond, List, [], ◌∷◌, map, Option, Some, None, is_some, refl, sym, ap, ◌∙◌, ◌==◌, nat_eq, unwrap_or}
use Rattle.std.specs.Prelude.{ℤ}
use Rattle.std.specs.Option.{option_map}
use Rattle.std.specs.Ordering.{nat_cmp, eq_by_cmp}
use Rattle.std.specs.Cmp.{unsigned_tied}
use Rattle.std.specs.FinMap.{find}
use Rattle.std.proofs.lemmas.Bool.{eqb-true, eq-eqb, false≢true}
use Rattle.std.proofs.Math.Path.{fun_ext}
use Rattle.task_ast.specs.meaning.State.{Location, RegistersOf, CellOf, State, cell_value, number_at}
use Rattle.task_ast.specs.declared.effect.Effect.{Effect}
use Rattle.task_ast.specs.meaning.Effect.{after, left_to}
use Rattle.task_ast.specs.History.{named_child, named, IsNamed, old_write, old_child, old_of}
use Rattle.dependence.specs.Histories.{HasCells, AfterLaw, HistoryLaw, UndoLaw}

pub after_is : AfterLaw
after_is e state (CellOf c) = refl
after_is e state (RegistersOf t) = go (nat_eq t e.thread) e.child
  where
    kept : (b : Bool) (xs ys : List ℤ) → cond b xs ys ≡ unwrap_or (cond b (Some xs) None) ys
    kept true xs ys = refl
    kept false xs ys = refl

    go : (b : Bool) (child : Option (ℕ × List ℤ))
        → cond b e.regs (left_to child t (state (RegistersOf t)))
        ≡ unwrap_or (cond b (Some e.regs) (named_child child t)) (state (RegistersOf t))
    go true child = refl
    go false None = refl
    go false (Some child) = kept (nat_eq t child.0) child.1 (state (RegistersOf t))

-- a place that an effect doesn't name stays
pub after_outside : (e : Effect) (state : State) (place : Location) → (IsNamed e place → ⊥) → after e state place ≡ state place
after_outside e state place free = after_is e state place ∙ go (named e place) free
  where
    go : (o : Option (List ℤ)) → (is_some o ≡ true → ⊥) → unwrap_or o (state place) ≡ state place
    go None f = refl
    go (Some xs) f = absurd (f refl)

-- one effect leaves the same where the same was
pub after_same : (e : Effect) (left right : State) (place : Location) → left place ≡ right place → after e left place ≡ after e right place
after_same e left right place same = after_is e left place ∙ (ap (unwrap_or (named e place)) same ∙ sym (after_is e right place))

-- effects that name no common place commute
pub swap : (e f : Effect) → ((place : Location) → IsNamed e place → IsNamed f place → ⊥) → (state : State)
    → after e (after f state) ≡ after f (after e state)
swap e f apart state = fun_ext at
  where
    go : (o p : Option (List ℤ)) (v : List ℤ) → (is_some o ≡ true → is_some p ≡ true → ⊥)
        → unwrap_or o (unwrap_or p v) ≡ unwrap_or p (unwrap_or o v)
    go None p v free = refl
    go (Some x) None v free = refl
    go (Some x) (Some y) v free = absurd (free refl refl)

    at : (place : Location) → after e (after f state) place ≡ after f (after e state) place
    at place =
        after_is e (after f state) place
        ∙ (ap (unwrap_or (named e place)) (after_is f state place)
        ∙ (go (named e place) (named f place) (state place) (apart place)
        ∙ (ap (unwrap_or (named f place)) (sym (after_is e state place)) ∙ sym (after_is f (after e state) place))))

find_old : (f : ℕ → ℤ) (ws : List (ℕ × ℤ)) (c : ℕ) → find nat_cmp c (map (λ w. (w.0, f w.0)) ws) ≡ option_map (λ v. f c) (find nat_cmp c ws)
find_old f [] c = refl
find_old f (w ∷ ws) c = rw (unsigned_tied c w.0, find_old f ws c) (go (c == w.0) refl (find nat_cmp c ws))
  where
    go : (b : Bool) → (c == w.0) ≡ b → (o : Option ℤ)
        → cond b (Some (f w.0)) (option_map (λ v. f c) o) ≡ option_map (λ v. f c) (cond b (Some w.1) o)
    go true e o = rw (eqb-true c w.0 e) refl
    go false e o = refl

pub history_is : HistoryLaw
history_is e state cells (CellOf c) = rw (find_old (cell_value state) e.writes c, cells c) (go (find nat_cmp c e.writes))
  where
    go : (o : Option ℤ)
        → option_map (λ v. v ∷ []) (option_map (λ v. cell_value state c) o)
        ≡ option_map (λ value. cell_value state c ∷ []) (option_map (λ v. v ∷ []) o)
    go None = refl
    go (Some v) = refl
history_is e state cells (RegistersOf t) = go (nat_eq t e.thread) refl e.child
  where
    of_child : (child : ℕ × List ℤ) (b : Bool) → nat_eq t child.0 ≡ b
        → cond b (Some (state (RegistersOf child.0))) None ≡ option_map (λ value. state (RegistersOf t)) (cond b (Some child.1) None)
    of_child child true same = rw (eqb-true t child.0 same) refl
    of_child child false same = refl

    go : (b : Bool) → nat_eq t e.thread ≡ b → (child : Option (ℕ × List ℤ))
        → cond b (Some (state (RegistersOf e.thread))) (named_child (option_map (λ x. (x.0, state (RegistersOf x.0))) child) t)
        ≡ option_map (λ value. state (RegistersOf t)) (cond b (Some e.regs) (named_child child t))
    go true same child = rw (eqb-true t e.thread same) refl
    go false same None = refl
    go false same (Some child) = of_child child (nat_eq t child.0) refl

pub undo_is : UndoLaw
undo_is e state cells =
    fun_ext (λ place. after_is (old_of e state) (after e state) place
    ∙ (rw (history_is e state cells place, after_is e state place) (go (named e place) (state place))))
  where
    go : (o : Option (List ℤ)) (v : List ℤ) → unwrap_or (option_map (λ value. v) o) (unwrap_or o v) ≡ v
    go None v = refl
    go (Some w) v = refl

-- a history names what its effect names
pub old_named : (e : Effect) (state : State) → HasCells state → (place : Location) → IsNamed (old_of e state) place → IsNamed e place
old_named e state cells place some = go (named e place) (ap is_some (sym (history_is e state cells place)) ∙ some)
  where
    go : (o : Option (List ℤ)) → is_some (option_map (λ value. state place) o) ≡ true → is_some o ≡ true
    go None h = h
    go (Some xs) h = refl

-- states that agree at what an effect names give one history
module _ (left right : State) where
  old_writes : (ws : List (ℕ × ℤ)) → ((c : ℕ) → is_some (find nat_cmp c ws) ≡ true → left (CellOf c) ≡ right (CellOf c))
      → map (old_write left) ws ≡ map (old_write right) ws
  old_writes [] same = refl
  old_writes (w ∷ ws) same =
      ap (λ xs. (w.0, number_at xs 0) ∷ map (old_write left) ws) here
      ∙ ap (λ rest. old_write right w ∷ rest) (old_writes ws (λ c some. same c (later c (eq_by_cmp nat_cmp c w.0) some)))
    where
      first : (b : Bool) → b ≡ true → is_some (cond b (Some w.1) (find nat_cmp w.0 ws)) ≡ true
      first true e = refl
      first false e = absurd (false≢true e)

      here : left (CellOf w.0) ≡ right (CellOf w.0)
      here = same w.0 (first (eq_by_cmp nat_cmp w.0 w.0) (unsigned_tied w.0 w.0 ∙ eq-eqb w.0 w.0 refl))

      later : (c : ℕ) (b : Bool) → is_some (find nat_cmp c ws) ≡ true → is_some (cond b (Some w.1) (find nat_cmp c ws)) ≡ true
      later c true some = refl
      later c false some = some

  pub old_same : (e : Effect) → ((place : Location) → IsNamed e place → left place ≡ right place) → old_of e left ≡ old_of e right
  old_same e same =
      let writes = old_writes e.writes (λ c some. same (CellOf c) (there (find nat_cmp c e.writes) some)) in
      λ i. record {
        thread = e.thread;
        writes = writes i;
        regs = registers i;
        child = child e.child (λ c is. same (RegistersOf c.0) (of_child c is)) i;
        prints = [];
      }
    where
      there : (o : Option ℤ) → is_some o ≡ true → is_some (option_map (λ v. v ∷ []) o) ≡ true
      there None h = h
      there (Some v) h = refl

      registers : left (RegistersOf e.thread) ≡ right (RegistersOf e.thread)
      registers = same (RegistersOf e.thread) (own (nat_eq e.thread e.thread) (eq-eqb e.thread e.thread refl))
        where
          own : (b : Bool) → b ≡ true → is_some (cond b (Some e.regs) (named_child e.child e.thread)) ≡ true
          own true h = refl
          own false h = absurd (false≢true h)

      of_child : (c : ℕ × List ℤ) → e.child ≡ Some c → IsNamed e (RegistersOf c.0)
      of_child c is = rw is (go (nat_eq c.0 e.thread) (nat_eq c.0 c.0) (eq-eqb c.0 c.0 refl))
        where
          go : (b d : Bool) → d ≡ true → is_some (cond b (Some e.regs) (cond d (Some c.1) None)) ≡ true
          go true d h = refl
          go false true h = refl
          go false false h = absurd (false≢true h)

      child : (o : Option (ℕ × List ℤ)) → ((c : ℕ × List ℤ) → o ≡ Some c → left (RegistersOf c.0) ≡ right (RegistersOf c.0))
          → option_map (old_child left) o ≡ option_map (old_child right) o
      child None f = refl
      child (Some c) f = ap (λ xs. Some (c.0, xs)) (f c refl)

-- each cell has one value still
pub HasCells-after : (e : Effect) (state : State) → HasCells state → HasCells (after e state)
HasCells-after e state cells c = go (find nat_cmp c e.writes)
  where
    go : (o : Option ℤ)
        → unwrap_or (option_map (λ v. v ∷ []) o) (state (CellOf c))
        ≡ cell_value (λ place. unwrap_or (option_map (λ v. v ∷ []) o) (state (CellOf c))) c ∷ []
    go None = cells c
    go (Some v) = refl
