-- The values of expressions, which are 64-bit numbers.
use Rattle.std.specs.Prelude.{zero, suc, ℤ, pos, negsuc, Bool, cond, not, ◌&&◌, ◌||◌, List, [], Option, Some, None, unwrap_or, option_map, option_and_then, ◌+ℤ◌, ◌-ℤ◌, ◌*ℤ◌, neg_ℤ, int_lt, int_le, int_div, int_rem}
use Rattle.std.specs.Int.{int_wrap, w64}
use Rattle.std.specs.Ordering.{int_eq}
use Rattle.gp_base.specs.meaning.Feeds.{rows_in, cell_at}
use Rattle.gp_base.specs.declared.feed.Feed.{Feed}
use Rattle.task_ast.specs.declared.env.Env.{Env}
use Rattle.task_ast.specs.declared.tree.Op.{Op}
use Rattle.task_ast.specs.declared.tree.Op.TheVariants.{Or, And, Eq, Ne, Lt, Le, Gt, Ge, Add, Sub, Mul, Div, Rem}
use Rattle.task_ast.specs.meaning.Tree.{Name, Expr, Num, Ctl, Reg, Me, Rows, Cell, Neg, Not, Chain, Links, NoLinks, Link}
use Rattle.task_ast.specs.meaning.Names.{named}

abbrev pub truth : Bool → ℤ
truth b = cond b (pos 1) (pos 0)

abbrev pub is_zero : ℤ → Bool
is_zero v = int_eq v (pos 0)

-- the first unless the value is 0
abbrev pub branch : {A : Type 0} → ℤ → A → A → A
branch (pos zero) first second = second
branch (pos (suc n)) first second = first
branch (negsuc n) first second = first

-- division rounds toward 0 and the remainder has the sign of the left side; by 0 both give 0
abbrev pub operate : Op → ℤ → ℤ → ℤ
operate Or a b = truth (not (is_zero a) || not (is_zero b))
operate And a b = truth (not (is_zero a) && not (is_zero b))
operate Eq a b = truth (int_eq a b)
operate Ne a b = truth (not (int_eq a b))
operate Lt a b = truth (int_lt a b)
operate Le a b = truth (int_le a b)
operate Gt a b = truth (int_lt b a)
operate Ge a b = truth (int_le b a)
operate Add a b = int_wrap w64 (a +ℤ b)
operate Sub a b = int_wrap w64 (a -ℤ b)
operate Mul a b = int_wrap w64 (a *ℤ b)
operate Div a b = cond (is_zero b) (pos 0) (int_wrap w64 (int_div a b))
operate Rem a b = cond (is_zero b) (pos 0) (int_rem a b)

-- an operator on two values that may be none
abbrev pub operate_on : Op → Option ℤ → Option ℤ → Option ℤ
operate_on op (Some a) (Some b) = Some (operate op a b)
operate_on op a b = None

-- the value beside a name, or 0
abbrev pub value_at : List (Name × ℤ) → Name → ℤ
value_at pairs x = unwrap_or (named x pairs) (pos 0)

-- the cell of a feed that may be there
abbrev pub cell_in : Option Feed → Option ℤ → Option ℤ → Option ℤ
cell_in feed row field = option_and_then (λ r. option_and_then (λ g. option_and_then (λ f. cell_at f r g) feed) field) row

abbrev mutual
  -- the value of an expression, or none where it names a cell outside its feed; the place of a cell is read without registers
  pub value : Expr → Env → Option ℤ
  value (Num v) env = Some v
  value (Ctl x) env = Some (value_at env.names x)
  value (Reg x) env = Some (value_at env.regs x)
  value Me env = Some (pos env.me)
  value (Rows f) env = Some (pos (unwrap_or (option_map rows_in (named f env.feeds)) 0))
  value (Cell f row field) env = let control = record env { regs = [] } in cell_in (named f env.feeds) (value row control) (value field control)
  value (Neg e) env = option_map (λ v. int_wrap w64 (neg_ℤ v)) (value e env)
  value (Not e) env = option_map (λ v. truth (is_zero v)) (value e env)
  value (Chain e links) env = value_on links env (value e env)

  -- the value of a chain from here on, from the value so far
  pub value_on : Links → Env → Option ℤ → Option ℤ
  value_on NoLinks env so_far = so_far
  value_on (Link op e links) env so_far = value_on links env (operate_on op so_far (value e env))
