-- An expression has a value whatever the registers hold, or none.
use Rattle.std.proofs.Common.{◌≡◌, inl, inr, ℕ, suc, ◌+◌, Bool, true, false, not, cond, List, [], ◌∷◌, length, Option, Some, None, refl, ap, sym, ◌∙◌, arith, option_map, unwrap_or, nat_lt, position, zip, ◌&&◌}
use Rattle.std.specs.List.{prefix_len}
use Rattle.std.specs.Prelude.{ℤ, pos, is_some}
use Rattle.std.proofs.lemmas.Bool.{false≢true, lt-ltb, le-ltb, cases_lt}
use Rattle.task_ast.specs.declared.env.Env.{Env}
use Rattle.task_ast.specs.declared.tree.Op.{Op}
use Rattle.task_ast.specs.meaning.Tree.{Name, Expr, Num, Ctl, Reg, Me, Rows, Cell, Neg, Not, Chain, Links, NoLinks, Link}
use Rattle.task_ast.specs.meaning.Names.{is_name, named}
use Rattle.task_ast.specs.meaning.State.{number_at}
use Rattle.task_ast.specs.meaning.Value.{operate_on, value, value_on, value_at}
use Rattle.task_ast.specs.meaning.Action.{OfRegisters, of_registers}
use Rattle.task_ast.proofs.Arms.{map_some}

shifted : (k n : ℕ) → cond (nat_lt (1 + k) (suc n)) (Some (1 + k)) None ≡ option_map suc (cond (nat_lt k n) (Some k) None)
shifted k n =
    elim (cases_lt k n) [
      | inl l ↦ rw (lt-ltb (1 + k) (suc n) (omega arith), lt-ltb k n l) (ap Some (omega arith))
      | inr l ↦ rw (le-ltb (1 + k) (suc n) (omega arith), le-ltb k n l) refl
    ]

-- the first place at which a test passes, at a list with one more member before it
pub position-cons : {X : Type 0} (p : X → Bool) (x : X) (xs : List X)
    → position p (x ∷ xs) ≡ cond (p x) (Some 0) (option_map suc (position p xs))
position-cons p x xs = go (p x) refl
  where
    go : (b : Bool) → p x ≡ b → position p (x ∷ xs) ≡ cond b (Some 0) (option_map suc (position p xs))
    go true e = rw (e, lt-ltb 0 (suc (length xs)) (omega arith)) refl
    go false e = rw e (shifted (prefix_len (λ y. not (p y)) xs) (length xs))

-- the value in the register of this number, or 0
abbrev at_place : Option ℕ → List ℤ → ℤ
at_place o values = unwrap_or (option_map (number_at values) o) (pos 0)

-- a register by its name has the value of its number
pub register_value : (names : List Name) (values : List ℤ) (x : Name)
    → value_at (zip names values) x ≡ unwrap_or (option_map (number_at values) (position (is_name x) names)) (pos 0)
register_value [] values x = refl
register_value (n ∷ names) [] x = none (position (is_name x) (n ∷ names))
  where
    none : (o : Option ℕ) → pos 0 ≡ at_place o []
    none None = refl
    none (Some k) = refl
register_value (n ∷ names) (v ∷ values) x = go (is_name x n) refl (register_value names values x)
  where
    later : (o : Option ℕ) → at_place o values ≡ at_place (option_map suc o) (v ∷ values)
    later None = refl
    later (Some k) = refl

    go : (b : Bool) → is_name x n ≡ b → value_at (zip names values) x ≡ at_place (position (is_name x) names) values
        → unwrap_or (cond (is_name x n) (Some v) (named x (zip names values))) (pos 0)
        ≡ at_place (position (is_name x) (n ∷ names)) (v ∷ values)
    go true e ih = rw (position-cons (is_name x) n names, e) refl
    go false e ih = rw (position-cons (is_name x) n names, e) (ih ∙ later (position (is_name x) names))

pub both_some : (op : Op) (a b : Option ℤ) → is_some (operate_on op a b) ≡ is_some a && is_some b
both_some op None b = refl
both_some op (Some a) None = refl
both_some op (Some a) (Some b) = refl

module _ (registers : List (Name × ℤ)) where
  abbrev with_data : Env → Env
  with_data env = record env { regs = registers }

  mutual
    some_is : (e : Expr) (env : Env) → is_some (value e (with_data env)) ≡ is_some (value e env)
    some_is (Num v) env = refl
    some_is (Ctl x) env = refl
    some_is (Reg x) env = refl
    some_is Me env = refl
    some_is (Rows f) env = refl
    some_is (Cell f row field) env = refl
    some_is (Neg e) env = map_some _ (value e (with_data env)) ∙ (some_is e env ∙ sym (map_some _ (value e env)))
    some_is (Not e) env = map_some _ (value e (with_data env)) ∙ (some_is e env ∙ sym (map_some _ (value e env)))
    some_is (Chain e links) env = some_are links env (value e (with_data env)) (value e env) (some_is e env)

    some_are : (links : Links) (env : Env) (a b : Option ℤ) → is_some a ≡ is_some b
        → is_some (value_on links (with_data env) a) ≡ is_some (value_on links env b)
    some_are NoLinks env a b same = same
    some_are (Link op e links) env a b same =
        some_are links env (operate_on op a (value e (with_data env))) (operate_on op b (value e env))
        (both_some op a (value e (with_data env)) ∙ ((λ i. same i && some_is e env i) ∙ sym (both_some op b (value e env))))

-- the value at these registers of a function of the registers, which has one for all or for none
pub function_value : (at : List ℤ → Option ℤ) (other : Option ℤ) (values : List ℤ) → is_some (at values) ≡ is_some other
    → at values ≡ option_map (λ (f : OfRegisters). f values) (option_map (λ _ registers. unwrap_or (at registers) (pos 0)) other)
function_value at other values same = go (at values) refl other same
  where
    go : (o : Option ℤ) → at values ≡ o → (other : Option ℤ) → is_some o ≡ is_some other
        → o ≡ option_map (λ (f : OfRegisters). f values) (option_map (λ _ registers. unwrap_or (at registers) (pos 0)) other)
    go None is None same = refl
    go (Some a) is (Some b) same = ap Some (ap (λ o. unwrap_or o (pos 0)) (sym is))
    go None is (Some b) same = absurd (false≢true same)
    go (Some a) is None same = absurd (false≢true (sym same))

-- an expression has the value of its function
pub value_is : (names : List Name) (values : List ℤ) (e : Expr) (env : Env)
    → value e (record env { regs = zip names values }) ≡ option_map (λ f. f values) (of_registers names e env)
value_is names values e env =
    function_value (λ values. value e (record env { regs = zip names values })) (value e env) values (some_is (zip names values) e env)
