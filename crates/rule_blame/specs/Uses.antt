-- The names that a statement uses: as what each has to be declared, and whether its place decides about control.
use Rattle.std.specs.Prelude.{Bool, true, false, not, List, [], ◌∷◌, ◌++◌, Option, None, Some, is_none, is_some}
use Rattle.task_ast.specs.declared.tree.Atom.{Atom}
use Rattle.task_ast.specs.declared.tree.Atom.TheVariants as atom
use Rattle.task_ast.specs.declared.tree.Param.{Param}
use Rattle.task_ast.specs.declared.tree.Param.TheVariants as param
use Rattle.task_ast.specs.meaning.Tree.{Name, Expr, Num, Ctl, Reg, Me, Rows, Cell, Neg, Not, Chain, Links, NoLinks, Link, What, SetCtl, While, If, Lock, Unlock, Fork, Join, Barrier, Settle, SetReg, Read, Write, Print, When, TaskText, Program}
use Rattle.task_ast.specs.meaning.Names.{task_named}
use Rattle.task_ast.specs.meaning.Declarations.{Scope, is_control, is_register, is_feed, is_lock}
use Rattle.task_ast.specs.meaning.Check.{array_over, is_barrier}
use Rattle.rule_blame.specs.declared.uses.Role.{Role}
use Rattle.rule_blame.specs.declared.uses.Role.TheVariants as role

pub record Used : Type 0 where
  pub role : Role
  pub name : Name
  pub decides : Bool

abbrev pub use_of : Role → Bool → Name → List Used
use_of role decides name = record { role = role; name = name; decides = decides } ∷ []

abbrev mutual
  -- the names of an expression, in order; an index of a cell always decides about control
  pub names_of : Bool → Expr → List Used
  names_of decides (Num v) = []
  names_of decides (Ctl x) = use_of role.Control decides x
  names_of decides (Reg x) = use_of role.Data decides x
  names_of decides Me = []
  names_of decides (Rows f) = use_of role.Feed decides f
  names_of decides (Cell f row field) = use_of role.Feed decides f ++ names_of true row ++ names_of true field
  names_of decides (Neg e) = names_of decides e
  names_of decides (Not e) = names_of decides e
  names_of decides (Chain e links) = names_of decides e ++ names_among decides links

  pub names_among : Bool → Links → List Used
  names_among decides NoLinks = []
  names_among decides (Link op e links) = names_of decides e ++ names_among decides links

abbrev pub atom_names : Atom → List Used
atom_names (atom.Num v) = []
atom_names (atom.Var x) = use_of role.Control false x

-- a variable that may be left out
abbrev pub into_names : Role → Option Name → List Used
into_names role None = []
into_names role (Some x) = use_of role false x

abbrev pub is_control_param : Param → Bool
is_control_param (param.Ctl x) = true
is_control_param (param.Reg x) = false

-- an argument for a control parameter decides about control
abbrev pub argument_names : List Param → List Expr → List Used
argument_names params [] = []
argument_names [] (e ∷ es) = names_of false e ++ argument_names [] es
argument_names (p ∷ params) (e ∷ es) = names_of (is_control_param p) e ++ argument_names params es

abbrev pub params_of : Option TaskText → List Param
params_of None = []
params_of (Some task) = task.params

abbrev pub printed_names : List Expr → List Used
printed_names [] = []
printed_names (e ∷ es) = names_of false e ++ printed_names es

-- the names of a statement, but for those in its blocks
abbrev pub names_in : Program → What → List Used
names_in program (SetCtl x e) = use_of role.Control false x ++ names_of true e
names_in program (While e b) = names_of true e
names_in program (If e a b) = names_of true e
names_in program (Lock a i) = use_of role.LockArray false a ++ atom_names i
names_in program (Unlock a i) = use_of role.LockArray false a ++ atom_names i
names_in program (Fork t es x) =
    use_of role.Task false t ++ argument_names (params_of (task_named program t)) es ++ into_names role.Control x
names_in program (Join e x) = names_of true e ++ into_names role.Data x
names_in program (Barrier b) = use_of role.Barrier false b
names_in program (Settle x c) = use_of role.Data false x ++ use_of role.Control false c
names_in program (SetReg x e) = use_of role.Data false x ++ names_of false e
names_in program (Read r i x) = use_of role.Record false r ++ atom_names i ++ use_of role.Data false x
names_in program (Write r i e) = use_of role.Record false r ++ atom_names i ++ names_of false e
names_in program (Print es) = printed_names es
names_in program (When e a b) = names_of false e

-- the name is declared as that
abbrev pub is_declared : Scope → Role → Name → Bool
is_declared s role.LockArray x = is_lock s x
is_declared s role.Record x = is_some (array_over s x)
is_declared s role.Feed x = is_feed s x
is_declared s role.Barrier x = is_barrier s x
is_declared s role.Task x = is_some (task_named s.program x)
is_declared s role.Control x = is_control s x
is_declared s role.Data x = is_register s x
