-- Whole programs and what the check answers, each computed. Each program but one breaks a rule, and the check answers
-- the rule and the line; that one has as many cells as there may be, and passes.
use Rattle.std.proofs.Common.{◌≡◌, refl}
use Rattle.std.specs.Prelude.{pos, [], ◌∷◌, Some, None, codes}
use Rattle.task_ast.specs.declared.check_kind.CheckKind.TheVariants.{UnknownName, DataInControl, NotHeld, HeldTwice, HeldAtEnd, BranchesDiffer, IndexChangedWhileHeld, SizesDiffer, TooMany}
use Rattle.task_ast.specs.declared.tree.Atom.TheVariants as atom
use Rattle.task_ast.specs.declared.tree.Head.TheVariants.{LockHead, RecHead}
use Rattle.task_ast.specs.declared.tree.Param.TheVariants as param
use Rattle.task_ast.specs.meaning.Tree.{Num, Reg, At, SetCtl, If, Lock, Unlock, Settle, Write, Nothing, Then, TaskText, Program}
use Rattle.task_ast.specs.meaning.Check.{check_fault}

abbrev index_changed_main : TaskText
index_changed_main = record {
  name = codes "main";
  params = [];
  vars = (record { names = ((param.Ctl (codes "i")) ∷ []); line = 4 } ∷ []);
  line = 3;
  body =
      (Then (At 5 (Lock (codes "bank") (atom.Var (codes "i"))))
      (Then (At 6 (SetCtl (codes "i") (Num (pos 1))))
      (Then (At 7 (Write (codes "acct") (atom.Var (codes "i")) (Num (pos 5))))
      (Then (At 8 (Unlock (codes "bank") (atom.Var (codes "i")))) Nothing))));
}

abbrev pub index_changed : Program
index_changed =
    record {
      heads = ((LockHead (codes "bank") (pos 2) 1) ∷ (RecHead (codes "acct") (pos 2) (codes "bank") None 2) ∷ []);
      tasks = (index_changed_main ∷ []);
    }

is_index_changed : check_fault index_changed ≡ Some (IndexChangedWhileHeld, 6)
is_index_changed = refl

abbrev other_index_main : TaskText
other_index_main = record {
  name = codes "main";
  params = [];
  vars = (record { names = ((param.Ctl (codes "i")) ∷ []); line = 4 } ∷ []);
  line = 3;
  body =
      (Then (At 5 (Lock (codes "bank") (atom.Var (codes "i"))))
      (Then (At 6 (Write (codes "acct") (atom.Num (pos 0)) (Num (pos 5))))
      (Then (At 7 (Unlock (codes "bank") (atom.Var (codes "i")))) Nothing)));
}

abbrev pub other_index : Program
other_index =
    record {
      heads = ((LockHead (codes "bank") (pos 2) 1) ∷ (RecHead (codes "acct") (pos 2) (codes "bank") None 2) ∷ []);
      tasks = (other_index_main ∷ []);
    }

is_other_index : check_fault other_index ≡ Some (NotHeld, 6)
is_other_index = refl

abbrev no_main_t : TaskText
no_main_t = record {
  name = codes "t";
  params = [];
  vars = [];
  line = 1;
  body =
      Nothing;
}

abbrev pub no_main : Program
no_main = record { heads = []; tasks = (no_main_t ∷ []) }

is_no_main : check_fault no_main ≡ Some (UnknownName, 1)
is_no_main = refl

abbrev data_in_control_main : TaskText
data_in_control_main = record {
  name = codes "main";
  params = [];
  vars = (record { names = ((param.Ctl (codes "x")) ∷ (param.Reg (codes "y")) ∷ []); line = 2 } ∷ []);
  line = 1;
  body =
      (Then (At 3 (SetCtl (codes "x") (Reg (codes "y")))) Nothing);
}

abbrev pub data_in_control : Program
data_in_control = record { heads = []; tasks = (data_in_control_main ∷ []) }

is_data_in_control : check_fault data_in_control ≡ Some (DataInControl, 3)
is_data_in_control = refl

abbrev held_twice_main : TaskText
held_twice_main = record {
  name = codes "main";
  params = [];
  vars = [];
  line = 2;
  body =
      (Then (At 3 (Lock (codes "a") (atom.Num (pos 0))))
      (Then (At 4 (Lock (codes "a") (atom.Num (pos 0))))
      (Then (At 5 (Unlock (codes "a") (atom.Num (pos 0)))) Nothing)));
}

abbrev pub held_twice : Program
held_twice = record { heads = ((LockHead (codes "a") (pos 1) 1) ∷ []); tasks = (held_twice_main ∷ []) }

is_held_twice : check_fault held_twice ≡ Some (HeldTwice, 4)
is_held_twice = refl

abbrev held_at_end_main : TaskText
held_at_end_main = record {
  name = codes "main";
  params = [];
  vars = [];
  line = 2;
  body =
      (Then (At 3 (Lock (codes "a") (atom.Num (pos 0)))) Nothing);
}

abbrev pub held_at_end : Program
held_at_end = record { heads = ((LockHead (codes "a") (pos 1) 1) ∷ []); tasks = (held_at_end_main ∷ []) }

is_held_at_end : check_fault held_at_end ≡ Some (HeldAtEnd, 2)
is_held_at_end = refl

abbrev branches_differ_main : TaskText
branches_differ_main = record {
  name = codes "main";
  params = [];
  vars = [];
  line = 2;
  body =
      (Then (At 3 (If (Num (pos 1)) (Then (At 3 (Lock (codes "a") (atom.Num (pos 0)))) Nothing) Nothing))
      (Then (At 4 (Unlock (codes "a") (atom.Num (pos 0)))) Nothing));
}

abbrev pub branches_differ : Program
branches_differ = record { heads = ((LockHead (codes "a") (pos 1) 1) ∷ []); tasks = (branches_differ_main ∷ []) }

is_branches_differ : check_fault branches_differ ≡ Some (BranchesDiffer, 3)
is_branches_differ = refl

abbrev sizes_differ_main : TaskText
sizes_differ_main = record {
  name = codes "main";
  params = [];
  vars = [];
  line = 3;
  body =
      Nothing;
}

abbrev pub sizes_differ : Program
sizes_differ =
    record {
      heads = ((LockHead (codes "a") (pos 2) 1) ∷ (RecHead (codes "r") (pos 3) (codes "a") None 2) ∷ []);
      tasks = (sizes_differ_main ∷ []);
    }

is_sizes_differ : check_fault sizes_differ ≡ Some (SizesDiffer, 2)
is_sizes_differ = refl

abbrev too_many_cells_main : TaskText
too_many_cells_main = record {
  name = codes "main";
  params = [];
  vars = [];
  line = 2;
  body =
      Nothing;
}

abbrev pub too_many_cells : Program
too_many_cells = record { heads = ((LockHead (codes "a") (pos 65537) 1) ∷ []); tasks = (too_many_cells_main ∷ []) }

is_too_many_cells : check_fault too_many_cells ≡ Some (TooMany, 1)
is_too_many_cells = refl

abbrev most_cells_main : TaskText
most_cells_main = record {
  name = codes "main";
  params = [];
  vars = [];
  line = 2;
  body =
      Nothing;
}

abbrev pub most_cells : Program
most_cells = record { heads = ((LockHead (codes "a") (pos 65536) 1) ∷ []); tasks = (most_cells_main ∷ []) }

is_most_cells : check_fault most_cells ≡ None
is_most_cells = refl

abbrev settled_index_main : TaskText
settled_index_main = record {
  name = codes "main";
  params = [];
  vars = (record { names = ((param.Ctl (codes "i")) ∷ (param.Reg (codes "x")) ∷ []); line = 4 } ∷ []);
  line = 3;
  body =
      (Then (At 9 (Lock (codes "bank") (atom.Var (codes "i"))))
      (Then (At 10 (Settle (codes "x") (codes "i")))
      (Then (At 12 (Unlock (codes "bank") (atom.Var (codes "i")))) Nothing)));
}

abbrev pub settled_index : Program
settled_index = record { heads = ((LockHead (codes "bank") (pos 3) 1) ∷ []); tasks = (settled_index_main ∷ []) }

is_settled_index : check_fault settled_index ≡ Some (IndexChangedWhileHeld, 10)
is_settled_index = refl
