-- Variables of a task, line after line.
use Rattle.std.proofs.Common.{◌≡◌, ℕ, ◌+◌, ◌<◌, List, [], ◌∷◌, ◌++◌, length, drop, get_or, refl, ap, sym, ◌∙◌, append_assoc}
use Rattle.std.proofs.lemmas.List.{at_drop_more}
use Rattle.task_ast.specs.declared.tree.Param.{Param}
use Rattle.task_ast.specs.declared.tree.Param.TheVariants as param
use Rattle.task_ast.specs.declared.tree.VarLine.{VarLine}
use Rattle.task_ast.specs.meaning.Tree.{Name}
use Rattle.task_ast.specs.meaning.Names.{controls, datas, declared_in}

pub controls-append : (first second : List Param) → controls (first ++ second) ≡ controls first ++ controls second
controls-append [] second = refl
controls-append (param.Ctl x ∷ first) second = ap (λ l. x ∷ l) (controls-append first second)
controls-append (param.Reg x ∷ first) second = controls-append first second

pub datas-append : (first second : List Param) → datas (first ++ second) ≡ datas first ++ datas second
datas-append [] second = refl
datas-append (param.Ctl x ∷ first) second = datas-append first second
datas-append (param.Reg x ∷ first) second = ap (λ l. x ∷ l) (datas-append first second)

-- the names of one line more, where they are taken from parameters by a function that splits
pub line-more : (taken : List Param → List Name) → ((first second : List Param) → taken (first ++ second) ≡ taken first ++ taken second)
    → (lines : List VarLine) (i : ℕ) (line : VarLine) (names more : List Name) → i < length lines → line ≡ get_or lines i line
    → more ≡ names ++ taken line.names
    → more ++ taken (declared_in (drop (i + 1) lines)) ≡ names ++ taken (declared_in (drop i lines))
line-more taken splits lines i line names more below is added =
    ap (λ l. l ++ taken (declared_in (drop (i + 1) lines))) added
    ∙ append_assoc names (taken line.names) (taken (declared_in (drop (i + 1) lines)))
    ∙ ap (λ l. names ++ l) (sym (splits line.names (declared_in (drop (i + 1) lines))))
    ∙ ap (λ (l : VarLine). names ++ taken (declared_in (l ∷ drop (i + 1) lines))) is
    ∙ sym (at_drop_more (λ (left : List VarLine). names ++ taken (declared_in left)) lines i line below)

-- the parameters' names after these, and then those of the lines
pub first-more : (taken : List Param → List Name) → ((first second : List Param) → taken (first ++ second) ≡ taken first ++ taken second)
    → (params lines : List Param) (start before more : List Name) → before ≡ start → more ≡ before ++ taken params
    → more ++ taken lines ≡ start ++ taken (params ++ lines)
first-more taken splits params lines start before more begins added =
    ap (λ l. l ++ taken lines) (added ∙ ap (λ l. l ++ taken params) begins) ∙ append_assoc start (taken params) (taken lines)
    ∙ ap (λ l. start ++ l) (sym (splits params lines))
