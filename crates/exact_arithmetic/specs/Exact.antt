-- Whether arithmetic stays exact: no operation leaves 64 bits or divides by 0. For example, `x * 2 + 1` with x at the greatest
-- number is not exact at its `*`, whatever the sum is then.
use Rattle.std.specs.Prelude.{ℤ, Bool, true, not, ◌&&◌, [], Option, Some, None, ◌+ℤ◌, ◌-ℤ◌, ◌*ℤ◌, neg_ℤ, int_div}
use Rattle.std.specs.Int.{int_wrap, w64}
use Rattle.std.specs.Ordering.{int_eq}
use Rattle.task_ast.specs.declared.env.Env.{Env}
use Rattle.task_ast.specs.declared.tree.Op.{Op}
use Rattle.task_ast.specs.declared.tree.Op.TheVariants.{Add, Sub, Mul, Div, Rem}
use Rattle.task_ast.specs.meaning.Tree.{Expr, Num, Ctl, Reg, Me, Rows, Cell, Neg, Not, Chain, Links, NoLinks, Link}
use Rattle.task_ast.specs.meaning.Value.{value, operate_on, is_zero}

-- 64 bits hold the number: to wrap it changes nothing
abbrev pub is_held : ℤ → Bool
is_held z = int_eq (int_wrap w64 z) z

-- the operator gives what it gives on all whole numbers
abbrev pub is_exact : Op → ℤ → ℤ → Bool
is_exact Add a b = is_held (a +ℤ b)
is_exact Sub a b = is_held (a -ℤ b)
is_exact Mul a b = is_held (a *ℤ b)
is_exact Div a b = not (is_zero b) && is_held (int_div a b)
is_exact Rem a b = not (is_zero b)
is_exact op a b = true

-- the same of two values that may be none
abbrev pub is_exact_on : Op → Option ℤ → Option ℤ → Bool
is_exact_on op (Some a) (Some b) = is_exact op a b
is_exact_on op a b = true

abbrev pub negates : Option ℤ → Bool
negates (Some v) = is_held (neg_ℤ v)
negates None = true

abbrev mutual
  -- each operation of the expression is exact
  pub stays : Expr → Env → Bool
  stays (Num v) env = true
  stays (Ctl x) env = true
  stays (Reg x) env = true
  stays Me env = true
  stays (Rows f) env = true
  stays (Cell f row field) env = let control = record env { regs = [] } in stays row control && stays field control
  stays (Neg e) env = stays e env && negates (value e env)
  stays (Not e) env = stays e env
  stays (Chain e links) env = stays e env && stays_on links env (value e env)

  -- each of a chain from here on, from the value so far
  pub stays_on : Links → Env → Option ℤ → Bool
  stays_on NoLinks env so_far = true
  stays_on (Link op e links) env so_far =
      (stays e env && is_exact_on op so_far (value e env)) && stays_on links env (operate_on op so_far (value e env))
