-- The programs of the worked rows. First come short words for what they are made of: tasks, lines of variables,
-- numbers, operations, atoms, a lock and an unlock at a line. Each program is then one value.
use Rattle.std.specs.Prelude.{ℕ, pos, List, [], ◌∷◌, Some, None, codes}
use Rattle.task_ast.specs.declared.tree.Atom.{Atom}
use Rattle.task_ast.specs.declared.tree.Atom.TheVariants as atom
use Rattle.task_ast.specs.declared.tree.Head.{Head}
use Rattle.task_ast.specs.declared.tree.Head.TheVariants.{LockHead, BarrierHead, RecHead}
use Rattle.task_ast.specs.declared.tree.Op.{Op}
use Rattle.task_ast.specs.declared.tree.Op.TheVariants.{Lt, Add, Sub, Div, Rem}
use Rattle.task_ast.specs.declared.tree.Param.{Param}
use Rattle.task_ast.specs.declared.tree.Param.TheVariants as param
use Rattle.task_ast.specs.declared.tree.VarLine.{VarLine}
use Rattle.task_ast.specs.meaning.Tree.{Name, Expr, Num, Ctl, Reg, Neg, Chain, NoLinks, Link, Stmt, At, SetCtl, While, Lock, Unlock, Fork, Join, Barrier, Settle, SetReg, Read, Write, Print, Nothing, block, TaskText, Program}

abbrev task : Name → List Param → List VarLine → (line : ℕ) → List Stmt → TaskText
task name params vars line stmts = record { name = name; params = params; vars = vars; body = block stmts; line = line }

-- one var line
abbrev vars : (line : ℕ) → List Param → List VarLine
vars line names = record { names = names; line = line } ∷ []

abbrev number : ℕ → Expr
number n = Num (pos n)

abbrev two : Expr → Op → Expr → Expr
two a op b = Chain a (Link op b NoLinks)

abbrev cell : ℕ → Atom
cell n = atom.Num (pos n)

abbrev i : Name
i = codes "i"

abbrev at_i : Atom
at_i = atom.Var i

abbrev tally : Name
tally = codes "tally"

abbrev total : Name
total = codes "total"

-- task main() { }
abbrev pub empty_batch : Program
empty_batch = record { heads = []; tasks = task (codes "main") [] [] 1 [] ∷ [] }

abbrev a : Expr
a = Reg (codes "a")

-- the largest value and one more; the least value divided by -1; divisions by 0 and of negative numbers
abbrev pub arithmetic : Program
arithmetic = record {
  heads = [];
  tasks =
      task (codes "main") [] (vars 2 (param.Reg (codes "a") ∷ [])) 1
      (At 3 (SetReg (codes "a") (number 9223372036854775807))
      ∷ At 4 (Print (two a Add (number 1) ∷ []))
      ∷ At 5 (Print (two (Chain (number 0) (Link Sub a (Link Sub (number 1) NoLinks))) Div (Neg (number 1)) ∷ []))
      ∷ At 6 (Print (two (number 7) Div (number 0) ∷ two (number 7) Rem (number 0) ∷ two (Neg (number 7)) Div (number 2)
      ∷ two (Neg (number 7)) Rem (number 2) ∷ []))
      ∷ [])
      ∷ [];
}

abbrev one_total : List Head
one_total = LockHead tally (pos 1) 1 ∷ RecHead total (pos 1) tally None 2 ∷ []

-- adds its parameter to the total, under its lock
abbrev adder : TaskText
adder =
    task (codes "add") (param.Ctl (codes "n") ∷ []) (vars 4 (param.Reg (codes "t") ∷ [])) 3
    (At 5 (Lock tally (cell 0))
    ∷ At 6 (Read total (cell 0) (codes "t"))
    ∷ At 7 (Write total (cell 0) (two (Reg (codes "t")) Add (Ctl (codes "n"))))
    ∷ At 8 (Unlock tally (cell 0))
    ∷ [])

-- two threads add 3 and 4 to one total
abbrev pub two_adders : Program
two_adders = record {
  heads = one_total;
  tasks =
      adder
      ∷ task (codes "main") [] [] 10
      (At 11 (Fork (codes "add") (number 3 ∷ []) None) ∷ At 12 (Fork (codes "add") (number 4 ∷ []) None) ∷ At 13 (Join (number 1) None)
      ∷ At 14 (Join (number 2) None) ∷ [])
      ∷ [];
}

-- one thread reads the total before another adds to it
abbrev pub reader_and_adder : Program
reader_and_adder = record {
  heads = one_total;
  tasks =
      adder
      ∷ task (codes "peek") [] [] 10 (At 10 (Lock tally (cell 0)) ∷ At 10 (Read total (cell 0) (codes "ret"))
      ∷ At 10 (Unlock tally (cell 0)) ∷ [])
      ∷ task (codes "main") [] (vars 11 (param.Reg (codes "p") ∷ [])) 11
      (At 11 (Fork (codes "peek") [] None)
      ∷ At 11 (Fork (codes "add") (number 4 ∷ []) None)
      ∷ At 11 (Join (number 1) (Some (codes "p")))
      ∷ At 11 (Print (Reg (codes "p") ∷ []))
      ∷ At 11 (Join (number 2) None)
      ∷ [])
      ∷ [];
}

abbrev locking : (line : ℕ) → Name → Stmt
locking line name = At line (Lock name (cell 0))

abbrev unlocking : (line : ℕ) → Name → Stmt
unlocking line name = At line (Unlock name (cell 0))

-- two threads that take two locks in opposite orders
abbrev pub crossed_locks : Program
crossed_locks = record {
  heads = LockHead (codes "x") (pos 1) 1 ∷ LockHead (codes "y") (pos 1) 2 ∷ LockHead (codes "z") (pos 1) 3 ∷ [];
  tasks =
      task (codes "p") [] [] 4
      (At 5 (Print (number 1 ∷ []))
      ∷ locking 6 (codes "x")
      ∷ locking 7 (codes "z")
      ∷ locking 8 (codes "y")
      ∷ unlocking 9 (codes "y")
      ∷ unlocking 10 (codes "z")
      ∷ unlocking 11 (codes "x")
      ∷ [])
      ∷ task (codes "q") [] [] 13
      (At 14 (Print (number 2 ∷ []))
      ∷ locking 15 (codes "y")
      ∷ locking 16 (codes "x")
      ∷ unlocking 17 (codes "x")
      ∷ unlocking 18 (codes "y")
      ∷ [])
      ∷ task (codes "main") [] [] 20 (At 21 (Fork (codes "p") [] None) ∷ At 22 (Fork (codes "q") [] None)
      ∷ At 23 (Join (number 1) None) ∷ [])
      ∷ [];
}

-- writes 1 into the account of this number, of a hundred
abbrev pub account : ℕ → Program
account n = record {
  heads = LockHead (codes "bank") (pos 100) 1 ∷ RecHead (codes "acct") (pos 100) (codes "bank") None 2 ∷ [];
  tasks =
      task (codes "main") [] (vars 4 (param.Ctl i ∷ [])) 3
      (At 5 (SetCtl i (number n)) ∷ At 6 (Lock (codes "bank") at_i) ∷ At 7 (Write (codes "acct") at_i (number 1))
      ∷ At 8 (Unlock (codes "bank") at_i) ∷ [])
      ∷ [];
}

-- while 1 { }
abbrev pub endless_loop : Program
endless_loop = record { heads = []; tasks = task (codes "main") [] [] 1 (At 1 (While (number 1) Nothing) ∷ []) ∷ [] }

-- while i < 10 { i = i + 1; }
abbrev pub ten_turns : Program
ten_turns = record {
  heads = [];
  tasks =
      task (codes "main") [] (vars 1 (param.Ctl i ∷ [])) 1
      (At 1 (While (two (Ctl i) Lt (number 10)) (block (At 1 (SetCtl i (two (Ctl i) Add (number 1))) ∷ []))) ∷ [])
      ∷ [];
}

abbrev say : (line n : ℕ) → Stmt
say line n = At line (Print (number n ∷ []))

-- two threads meet at a barrier
abbrev pub meeting : Program
meeting = record {
  heads = BarrierHead (codes "meet") (pos 2) 1 ∷ [];
  tasks =
      task (codes "t") [] [] 2 (say 2 1 ∷ At 2 (Barrier (codes "meet")) ∷ say 2 2 ∷ [])
      ∷ task (codes "main") [] [] 3 (At 3 (Fork (codes "t") [] None) ∷ say 3 3 ∷ At 3 (Barrier (codes "meet")) ∷ say 3 4 ∷ [])
      ∷ [];
}

-- a thread's data argument and what it returns
abbrev pub doubling : Program
doubling = record {
  heads = [];
  tasks =
      task (codes "double") (param.Reg (codes "n") ∷ []) [] 1
      (At 1 (SetReg (codes "ret") (two (Reg (codes "n")) Add (Reg (codes "n")))) ∷ [])
      ∷ task (codes "main") [] (vars 2 (param.Ctl (codes "h") ∷ param.Reg (codes "r") ∷ [])) 2
      (At 2 (Fork (codes "double") (number 21 ∷ []) (Some (codes "h")))
      ∷ At 2 (Join (Ctl (codes "h")) (Some (codes "r")))
      ∷ At 2 (Print (Reg (codes "r") ∷ []))
      ∷ [])
      ∷ [];
}

-- joins the thread of this number, and forks none
abbrev pub joining : ℕ → Program
joining n = record { heads = []; tasks = task (codes "main") [] [] 1 (At 1 (Join (number n) None) ∷ []) ∷ [] }

-- three accounts; what the first one holds is the number of another
abbrev chosen : TaskText
chosen =
    task (codes "main") [] (vars 4 (param.Ctl i ∷ param.Reg (codes "x") ∷ [])) 3
    (At 5 (Lock (codes "bank") (cell 0))
    ∷ At 6 (Write (codes "acct") (cell 0) (number 2))
    ∷ At 7 (Read (codes "acct") (cell 0) (codes "x"))
    ∷ At 8 (Unlock (codes "bank") (cell 0))
    ∷ At 9 (Settle (codes "x") i)
    ∷ At 10 (Lock (codes "bank") at_i)
    ∷ At 11 (Write (codes "acct") at_i (number 9))
    ∷ At 12 (Unlock (codes "bank") at_i)
    ∷ [])

abbrev pub settling : Program
settling =
    record { heads = LockHead (codes "bank") (pos 3) 1 ∷ RecHead (codes "acct") (pos 3) (codes "bank") None 2 ∷ []; tasks = chosen ∷ [] }
