-- Variables of a task, parameter after parameter and line after line.
use Rattle.std.proofs.Common.{◌≡◌, ℕ, zero, suc, ◌+◌, ◌<◌, ℤ, pos, List, [], ◌∷◌, ◌++◌, length, drop, get_or, add-one, refl, ap, sym, ◌∙◌, append_assoc}
use Rattle.std.proofs.lemmas.List.{at_drop_more}
use Rattle.task_ast.specs.declared.tree.Param.{Param}
use Rattle.task_ast.specs.declared.tree.Param.TheVariants as param
use Rattle.task_ast.specs.declared.tree.VarLine.{VarLine}
use Rattle.task_ast.specs.meaning.Tree.{Name}
use Rattle.task_ast.specs.meaning.Names.{controls, datas, declared_in}
use Rattle.task_ast.specs.meaning.State.{number_at}
use Rattle.task_ast.specs.meaning.Plain.{given}

given-next : (x : Name) (names : List Name) (values : List ℤ) (k : ℕ)
    → given (x ∷ names) (drop k values) ≡ (x, number_at values k) ∷ given names (drop (suc k) values)
given-next x names [] zero = refl
given-next x names [] (suc k) = refl
given-next x names (v ∷ values) zero = refl
given-next x names (v ∷ values) (suc k) = given-next x names values k

-- a control variable is added
pub control-more : (params : List Param) (i : ℕ) (p : Param) (x : Name) (values : List ℤ) (k : ℕ) (names more : List (Name × ℤ))
    → i < length params → p ≡ get_or params i p → p ≡ param.Ctl x
    → more ≡ names ++ (x, number_at values k) ∷ []
    → more ++ given (controls (drop (i + 1) params)) (drop (k + 1) values) ≡ names ++ given (controls (drop i params)) (drop k values)
control-more params i p x values k names more below is variable pushed =
    ap (λ l. l ++ given (controls (drop (i + 1) params)) (drop (k + 1) values)) pushed
    ∙ append_assoc names ((x, number_at values k) ∷ []) (given (controls (drop (i + 1) params)) (drop (k + 1) values))
    ∙ ap (λ n. names ++ (x, number_at values k) ∷ given (controls (drop (i + 1) params)) (drop n values)) (add-one k)
    ∙ ap (λ l. names ++ l) (sym (given-next x (controls (drop (i + 1) params)) values k))
    ∙ ap (λ q. names ++ given (controls (q ∷ drop (i + 1) params)) (drop k values)) (sym variable ∙ is)
    ∙ sym (at_drop_more (λ (left : List Param). names ++ given (controls left) (drop k values)) params i p below)

-- a data variable is passed over
pub control-past : (params : List Param) (i : ℕ) (p : Param) (x : Name) (values : List ℤ) (names : List (Name × ℤ)) → i < length params
    → p ≡ get_or params i p → p ≡ param.Reg x
    → names ++ given (controls (drop (i + 1) params)) values ≡ names ++ given (controls (drop i params)) values
control-past params i p x values names below is variable =
    ap (λ q. names ++ given (controls (q ∷ drop (i + 1) params)) values) (sym variable ∙ is)
    ∙ sym (at_drop_more (λ (left : List Param). names ++ given (controls left) values) params i p below)

controls-append : (first second : List Param) → controls (first ++ second) ≡ controls first ++ controls second
controls-append [] second = refl
controls-append (param.Ctl x ∷ first) second = ap (λ l. x ∷ l) (controls-append first second)
controls-append (param.Reg x ∷ first) second = controls-append first second

datas-append : (first second : List Param) → datas (first ++ second) ≡ datas first ++ datas second
datas-append [] second = refl
datas-append (param.Ctl x ∷ first) second = datas-append first second
datas-append (param.Reg x ∷ first) second = ap (λ l. x ∷ l) (datas-append first second)

given-append : (first second : List Name) → given (first ++ second) [] ≡ given first [] ++ given second []
given-append [] second = refl
given-append (x ∷ first) second = ap (λ l. (x, pos 0) ∷ l) (given-append first second)

-- the control variables of one line more
pub line-controls : (lines : List VarLine) (i : ℕ) (line : VarLine) (names more : List (Name × ℤ)) → i < length lines
    → line ≡ get_or lines i line → more ≡ names ++ given (controls line.names) []
    → more ++ given (controls (declared_in (drop (i + 1) lines))) [] ≡ names ++ given (controls (declared_in (drop i lines))) []
line-controls lines i line names more below is added =
    ap (λ l. l ++ given (controls (declared_in (drop (i + 1) lines))) []) added
    ∙ append_assoc names (given (controls line.names) []) (given (controls (declared_in (drop (i + 1) lines))) [])
    ∙ ap (λ l. names ++ l) (sym (given-append (controls line.names) (controls (declared_in (drop (i + 1) lines))))
    ∙ ap (λ l. given l []) (sym (controls-append line.names (declared_in (drop (i + 1) lines)))))
    ∙ ap (λ (l : VarLine). names ++ given (controls (declared_in (l ∷ drop (i + 1) lines))) []) is
    ∙ sym (at_drop_more (λ (left : List VarLine). names ++ given (controls (declared_in left)) []) lines i line below)

-- the data variables of one line more
pub line-datas : (lines : List VarLine) (i : ℕ) (line : VarLine) (names more : List Name) → i < length lines → line ≡ get_or lines i line
    → more ≡ names ++ datas line.names
    → more ++ datas (declared_in (drop (i + 1) lines)) ≡ names ++ datas (declared_in (drop i lines))
line-datas lines i line names more below is added =
    ap (λ l. l ++ datas (declared_in (drop (i + 1) lines))) added
    ∙ append_assoc names (datas line.names) (datas (declared_in (drop (i + 1) lines)))
    ∙ ap (λ l. names ++ l) (sym (datas-append line.names (declared_in (drop (i + 1) lines))))
    ∙ ap (λ (l : VarLine). names ++ datas (declared_in (l ∷ drop (i + 1) lines))) is
    ∙ sym (at_drop_more (λ (left : List VarLine). names ++ datas (declared_in left)) lines i line below)

-- the parameters' data variables, and then those of the lines
pub first-datas : (ret : Name) (params lines : List Param) (one more : List Name) → one ≡ ret ∷ [] → more ≡ one ++ datas params
    → more ++ datas lines ≡ ret ∷ datas (params ++ lines)
first-datas ret params lines one more first added =
    ap (λ l. l ++ datas lines) (added ∙ ap (λ l. l ++ datas params) first) ∙ ap (λ l. ret ∷ l) (sym (datas-append params lines))
