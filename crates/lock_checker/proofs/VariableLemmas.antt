-- Variables that are added to those declared before.
use Rattle.std.proofs.Common.{◌≡◌, ℕ, ◌+◌, ◌<◌, List, [], ◌∷◌, ◌++◌, Bool, false, Some, None, refl, ap, ◌∙◌, sym, length, get_or, take, append_assoc, append-nil}
use Rattle.std.specs.Prelude.{◌||◌, is_some, if◌then◌else◌}
use Rattle.std.proofs.lemmas.List.{take_more}
use Rattle.task_ast.specs.declared.tree.Param.{Param}
use Rattle.task_ast.specs.declared.tree.Param.TheVariants as param
use Rattle.task_ast.specs.declared.tree.VarLine.{VarLine}
use Rattle.task_ast.specs.meaning.Tree.{Name}
use Rattle.task_ast.specs.meaning.Names.{is_name, is_among, ret, controls, datas, declared_in}
use Rattle.lock_checker.specs.declared.variables.Variables.{Variables}
use Rattle.lock_checker.specs.declared.symbol_table.SymbolTable.{SymbolTable}
use Rattle.lock_checker.specs.Tables.{found, or_else}
use Rattle.lock_checker.specs.inner.TaskVariables.{AreVariables, Adds}
use Rattle.lock_checker.proofs.NameLemmas.{among-controls, among-datas}
use Rattle.lock_checker.proofs.TableLemmas.{is_some-put, or-false}

-- a table has what it had before, and this name
abbrev pub HasAlso : SymbolTable (Unit {0}) → SymbolTable (Unit {0}) → Name → Type 0
HasAlso old new name = (y : Name) → found new y ≡ or_else (found old y) (if is_name y name then Some tt else None)

pub stands_also : (old new : SymbolTable (Unit {0})) (name y : Name) (among : Bool) → HasAlso old new name → is_some (found old y) ≡ among
    → is_some (found new y) ≡ (among || (is_name y name || false))
stands_also old new name y among put is =
    ap is_some (put y) ∙ is_some-put (found old y) (is_name y name) tt ∙ ap (λ b. b || is_name y name) is
    ∙ ap (λ b. among || b) (sym (or-false (is_name y name)))

module _ (old : Variables) (new : SymbolTable (Unit {0})) (before : List Param) (name : Name) (double : Bool)
    (were : AreVariables old before) where
  pub adds_control : double ≡ is_some (found old.controls name) → HasAlso old.controls new name
      → Adds (record { controls = new; datas = old.datas }) before (param.Ctl name ∷ []) double
  adds_control is put = record {
    told = is ∙ were.controls name ∙ sym (or-false (is_among name (controls before)));
    variables = record {
      controls = λ y. stands_also old.controls new name y _ put (were.controls y) ∙ sym (among-controls y before (param.Ctl name ∷ []));
      datas = λ y. were.datas y ∙ sym (or-false (is_among y (datas before))) ∙ sym (among-datas y before (param.Ctl name ∷ []));
    };
  }

  pub adds_data : double ≡ (is_name name ret || is_some (found old.datas name)) → HasAlso old.datas new name
      → Adds (record { controls = old.controls; datas = new }) before (param.Reg name ∷ []) double
  adds_data is put = record {
    told = is ∙ ap (λ b. is_name name ret || b) (were.datas name) ∙ sym (or-false (is_name name ret || is_among name (datas before)));
    variables = record {
      controls = λ y. were.controls y ∙ sym (or-false (is_among y (controls before))) ∙ sym (among-controls y before (param.Reg name ∷ []));
      datas = λ y. stands_also old.datas new name y _ put (were.datas y) ∙ sym (among-datas y before (param.Reg name ∷ []));
    };
  }

declared_in-append : (a b : List VarLine) → declared_in (a ++ b) ≡ declared_in a ++ declared_in b
declared_in-append [] b = refl
declared_in-append (v ∷ a) b = ap (λ l. v.names ++ l) (declared_in-append a b) ∙ sym (append_assoc v.names (declared_in a) (declared_in b))

-- the variables up to the next var line
pub declared_more : (params : List Param) (lines : List VarLine) (i : ℕ) (v : VarLine) → i < length lines → v ≡ get_or lines i v
    → params ++ declared_in (take (i + 1) lines) ≡ (params ++ declared_in (take i lines)) ++ v.names
declared_more params lines i v within is =
    ap (λ l. params ++ declared_in l) (take_more lines i v within)
    ∙ ap (λ (y : VarLine). params ++ declared_in (take i lines ++ y ∷ [])) (sym is)
    ∙ ap (λ l. params ++ l) (declared_in-append (take i lines) (v ∷ []) ∙ ap (λ l. declared_in (take i lines) ++ l) (append-nil v.names))
    ∙ sym (append_assoc params (declared_in (take i lines)) v.names)
