-- The levels of operators.
use Rattle.std.proofs.Common.{◌≡◌, ◌↔◌, ℕ, Bool, false, IsTrue, List, [], ◌∷◌, refl}
use Rattle.task_ast.specs.meaning.Tree as plain
use Rattle.task_ast.specs.View.{plain_members, plain_links}
use Rattle.task_ast.specs.declared.tree.Op.{Op}
use Rattle.task_ast.specs.declared.tree.Expr.{Expr}
use Rattle.task_parser.specs.declared.expressions.Level.{Level}
use Rattle.task_parser.specs.declared.expressions.Level.TheVariants.{Or, And, Comparison, Sum, Product}
use Rattle.task_parser.specs.meaning.Expressions.{Text, chain_of}
use Rattle.task_parser.specs.inner.ExpressionReaders.{read_member}
use Rattle.task_parser.specs.inner.Gives.{operators, read_part}
use Rattle.task_parser.proofs.Many.{Shortens}
use Rattle.task_parser.proofs.ReadExpressions.{ors, ands, compares, sums, products, reads_member, reads_product, reads_sum, reads_compared, reads_conjunction, reads_unary}
use Rattle.task_parser.proofs.Loop.{shortens_reads}

-- how many levels bind more tightly
abbrev pub tighter : Level → ℕ
tighter Or = 4
tighter And = 3
tighter Comparison = 2
tighter Sum = 1
tighter Product = 0

pub member_shortens : (level : Level) (text : Text) (room : ℕ) → Shortens (read_member (operators level) (read_part level text room))
member_shortens Or text room = shortens_reads (reads_member ors refl (reads_conjunction (reads_unary text room 0)))
member_shortens And text room = shortens_reads (reads_member ands refl (reads_compared (reads_unary text room 0)))
member_shortens Comparison text room =
    shortens_reads (reads_member compares refl (reads_sum (reads_unary text room 0)))
member_shortens Sum text room = shortens_reads (reads_member sums refl (reads_product (reads_unary text room 0)))
member_shortens Product text room = shortens_reads (reads_member products refl (reads_unary text room 0))

-- a chain with an operator
pub chain_more : (first : plain.Expr) (others : List (Op × Expr)) (empty : Bool) → (IsTrue empty ↔ (others ≡ [])) → empty ≡ false
    → chain_of (first, plain_members others) ≡ plain.Chain first (plain_links others)
chain_more first [] empty is e = absurd (cc (is.1 refl, e))
chain_more first (m ∷ ms) empty is e = refl
