-- The trees of the language as definitions see them: those of the code without boxes.
use Rattle.std.specs.Prelude.{ℕ, ℤ, List, [], ◌∷◌, Option}
use Rattle.task_ast.specs.declared.tree.Op.{Op}
use Rattle.task_ast.specs.declared.tree.Atom.{Atom}
use Rattle.task_ast.specs.declared.tree.Head.{Head}
use Rattle.task_ast.specs.declared.tree.Param.{Param}
use Rattle.task_ast.specs.declared.tree.VarLine.{VarLine}

-- the bytes of a name; a data variable's have no `$`
abbrev pub Name : Type 0
Name = List ℕ

mutual
  pub data Expr : Type 0 where
    Num : ℤ → Expr
    Ctl : Name → Expr
    Reg : Name → Expr
    Me : Expr
    Rows : Name → Expr
    Cell : (feed : Name) → (row field : Expr) → Expr
    Neg : Expr → Expr
    Not : Expr → Expr
    Chain : Expr → Links → Expr

  -- the further members of a chain, each with the operator before it
  pub data Links : Type 0 where
    NoLinks : Links
    Link : Op → Expr → Links → Links

mutual
  pub data Stmt : Type 0 where
    At : (line : ℕ) → What → Stmt

  pub data What : Type 0 where
    SetCtl : Name → Expr → What
    While : Expr → Block → What
    If : Expr → Block → Block → What
    Lock : (array : Name) → Atom → What
    Unlock : (array : Name) → Atom → What
    Fork : (task : Name) → List Expr → (into : Option Name) → What
    Join : Expr → (into : Option Name) → What
    Barrier : Name → What
    Settle : (from into : Name) → What
    SetReg : Name → Expr → What
    Read : (from : Name) → Atom → (into : Name) → What
    Write : (to : Name) → Atom → Expr → What
    Print : List Expr → What
    When : Expr → Block → Block → What

  pub data Block : Type 0 where
    Nothing : Block
    Then : Stmt → Block → Block

-- the statements of a block, in order
abbrev pub statements : Block → List Stmt
statements Nothing = []
statements (Then s b) = s ∷ statements b

-- the block of these statements
abbrev pub block : List Stmt → Block
block [] = Nothing
block (s ∷ left) = Then s (block left)

-- the further members of a chain, from their list
abbrev pub links : List (Op × Expr) → Links
links [] = NoLinks
links (m ∷ others) = Link m.0 m.1 (links others)

pub record TaskText : Type 0 where
  pub name : Name
  pub params : List Param
  pub vars : List VarLine
  pub body : Block
  pub line : ℕ

pub record Program : Type 0 where
  pub heads : List Head
  pub tasks : List TaskText
