-- Kinds of tokens by number: the code goes by these numbers, and so does reading.
use Rattle.std.specs.Prelude.{ℕ, ◌+◌, min, Bool, false, cond, List, [], ◌∷◌, nat_eq, ◌||◌}
use Rattle.task_ast.specs.declared.tree.Op.{Op}
use Rattle.task_ast.specs.declared.tree.Op.TheVariants.{Or, And, Eq, Ne, Lt, Le, Gt, Ge, Add, Sub, Mul, Div, Rem}
use Rattle.task_parser.specs.declared.classes.TheConstants.{AND, OR, EQ, NE, LT, LE, GT, GE, ADD, SUB, MUL, DIV}
use Rattle.task_parser.specs.declared.token.Kind.{Kind}
use Rattle.task_parser.specs.declared.token.Kind.TheVariants as kinds
use Rattle.task_parser.specs.declared.token.Token.{Token}

-- A number for each kind of token; each reserved word and each mark has its own. There are fewer than 295 words, so none
-- has the number of a mark.
abbrev pub class : Kind → ℕ
class (kinds.Num n) = 0
class kinds.Name = 1
class kinds.Reg = 2
class kinds.Quoted = 3
class (kinds.Word w) = 4 + min w 295
class (kinds.Mark m) = 300 + m

abbrev pub holds : ℕ → List ℕ → Bool
holds n [] = false
holds n (m ∷ ms) = nat_eq n m || holds n ms

-- a token of one of these classes
abbrev pub among : List ℕ → Token → Bool
among classes t = holds (class t.kind) classes

abbrev pub is : ℕ → Token → Bool
is class t = among (class ∷ []) t

-- the operator of a class
abbrev pub operator_in : ℕ → Op
operator_in n =
    cond (holds n (OR ∷ [])) Or (cond (holds n (AND ∷ [])) And (cond (holds n (EQ ∷ [])) Eq (cond (holds n (NE ∷ [])) Ne
    (cond (holds n (LT ∷ [])) Lt (cond (holds n (LE ∷ [])) Le (cond (holds n (GT ∷ [])) Gt (cond (holds n (GE ∷ [])) Ge
    (cond (holds n (ADD ∷ [])) Add (cond (holds n (SUB ∷ [])) Sub (cond (holds n (MUL ∷ [])) Mul (cond (holds n (DIV ∷ [])) Div Rem)))))))))))

abbrev pub op_of : Token → Op
op_of t = operator_in (class t.kind)
