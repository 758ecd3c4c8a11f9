-- Expressions without data variables.
use Rattle.std.proofs.Common.{◌≡◌, Bool, true, false, ◌||◌, List, Option, refl, sym, ap, ◌∙◌, option_map}
use Rattle.std.specs.Prelude.{ℤ}
use Rattle.std.proofs.lemmas.Bool.{false≢true}
use Rattle.task_ast.specs.declared.env.Env.{Env}
use Rattle.task_ast.specs.meaning.Tree.{Name, Expr, Num, Ctl, Reg, Me, Rows, Cell, Neg, Not, Chain, Links, NoLinks, Link}
use Rattle.task_ast.specs.meaning.Value.{operate_on, value, value_on}
use Rattle.task_ast.specs.meaning.Declarations.{has_data, has_data_index, is_at_data, some_member, is_data_variable}

pub or_false : (a b : Bool) → (a || b) ≡ false → (a ≡ false) × (b ≡ false)
or_false true b e = absurd (false≢true (sym e))
or_false false b e = (refl, e)

both_inside : (a b c d : Bool) → (a || c) ≡ a → (b || d) ≡ b → ((a || b) || (c || d)) ≡ (a || b)
both_inside true b c d left right = refl
both_inside false b c d left right = ap (λ l. b || (l || d)) left ∙ right

same_twice : (a : Bool) → (a || a) ≡ a
same_twice true = refl
same_twice false = refl

mutual
  -- data in an index is data
  index_inside : (e : Expr) → (has_data e || has_data_index e) ≡ has_data e
  index_inside (Num v) = refl
  index_inside (Ctl x) = refl
  index_inside (Reg x) = refl
  index_inside Me = refl
  index_inside (Rows f) = refl
  index_inside (Cell f row field) =
      ap (λ b. (has_data row || has_data field) || b)
      (both_inside (has_data row) (has_data field) (has_data_index row) (has_data_index field) (index_inside row) (index_inside field))
      ∙ same_twice (has_data row || has_data field)
  index_inside (Neg e) = index_inside e
  index_inside (Not e) = index_inside e
  index_inside (Chain e links) =
      both_inside (has_data e) (some_member is_data_variable links) (has_data_index e) (some_member is_at_data links) (index_inside e)
      (indexes_inside links)

  indexes_inside : (links : Links)
      → (some_member is_data_variable links || some_member is_at_data links) ≡ some_member is_data_variable links
  indexes_inside NoLinks = refl
  indexes_inside (Link op e links) =
      both_inside (has_data e) (some_member is_data_variable links) (has_data_index e) (some_member is_at_data links) (index_inside e)
      (indexes_inside links)

-- a cell has data in an index where its row or its field has data
pub cell_index : (f : Name) (row field : Expr) → has_data_index (Cell f row field) ≡ (has_data row || has_data field)
cell_index f row field =
    both_inside (has_data row) (has_data field) (has_data_index row) (has_data_index field) (index_inside row) (index_inside field)

abbrev with_registers : Env → List (Name × ℤ) → Env
with_registers env registers = record env { regs = registers }

mutual
  -- an expression without data has one value whatever the registers hold
  pub value-registers : (e : Expr) (env : Env) (registers : List (Name × ℤ)) → has_data e ≡ false
      → value e (record env { regs = registers }) ≡ value e env
  value-registers (Num v) env registers h = refl
  value-registers (Ctl x) env registers h = refl
  value-registers (Reg x) env registers h = absurd (false≢true (sym h))
  value-registers Me env registers h = refl
  value-registers (Rows f) env registers h = refl
  value-registers (Cell f row field) env registers h = refl
  value-registers (Neg e) env registers h = ap (option_map _) (value-registers e env registers h)
  value-registers (Not e) env registers h = ap (option_map _) (value-registers e env registers h)
  value-registers (Chain e links) env registers h =
      let parts = or_false (has_data e) (some_member is_data_variable links) h in
      value_on-registers links env registers (value e (with_registers env registers)) parts.1
      ∙ ap (value_on links env) (value-registers e env registers parts.0)

  value_on-registers : (links : Links) (env : Env) (registers : List (Name × ℤ)) (so_far : Option ℤ)
      → some_member is_data_variable links ≡ false
      → value_on links (with_registers env registers) so_far ≡ value_on links env so_far
  value_on-registers NoLinks env registers so_far h = refl
  value_on-registers (Link op e links) env registers so_far h =
      let parts = or_false (has_data e) (some_member is_data_variable links) h in
      value_on-registers links env registers (operate_on op so_far (value e (with_registers env registers))) parts.1
      ∙ ap (λ w. value_on links env (operate_on op so_far w)) (value-registers e env registers parts.0)
