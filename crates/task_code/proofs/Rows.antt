-- What is lowered member by member.
use Rattle.std.proofs.Common.{◌≡◌, ℕ, ◌+◌, ◌<◌, List, [], ◌∷◌, ◌++◌, length, take, get_or, map, refl, sym, ap, ◌∙◌}
use Rattle.std.proofs.lemmas.List.{map-append, map_more}
use Rattle.task_ast.specs.declared.tree.Op.{Op}
use Rattle.task_ast.specs.declared.tree.Stmt as here
use Rattle.task_ast.specs.meaning.Tree.{Expr, links}
use Rattle.task_ast.specs.View.{plain_stmt, plain_block}
use Rattle.task_code.specs.Instructions.{Operand, operands, Also, deeds}
use Rattle.task_code.specs.Lowering.{Scope, calc, operands_of, deed_in, arm}

-- the members of a chain
pub members_made : (s : Scope) (members : List (Op × Expr))
    → operands (map (λ (m : Op × Expr). (m.0, calc s m.1)) members) ≡ operands_of s (links members)
members_made s [] = refl
members_made s (m ∷ members) = ap (Operand m.0 (calc s m.1)) (members_made s members)

-- the statements of an arm
pub arm_made : (s : Scope) (body : List here.Stmt) → deeds (map (λ st. deed_in s (plain_stmt st)) body) ≡ arm s (plain_block body)
arm_made s [] = refl
arm_made s (st ∷ body) = ap (Also (deed_in s (plain_stmt st))) (arm_made s body)

-- one member more is made
pub one_more : {X Y Z : Type 0} (f : X → Z) (g : Y → Z) (made more : List X) (ys : List Y) (i : ℕ) (x : X) (y : Y) → i < length ys
    → y ≡ get_or ys i y → more ≡ made ++ x ∷ []
    → f x ≡ g y → map f made ≡ map g (take i ys) → map f more ≡ map g (take (i + 1) ys)
one_more f g made more ys i x y below is pushed same so_far =
    ap (map f) pushed ∙ map-append f made (x ∷ []) ∙ ap (λ l. l ++ f x ∷ []) so_far ∙ ap (λ z. map g (take i ys) ++ z ∷ []) (same ∙ ap g is)
    ∙ sym (map_more g ys i y below)
