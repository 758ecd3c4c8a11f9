-- The files of an accepted program can be read: its sizes and numbers of fields are within the limits.
use Rattle.std.proofs.Common.{◌≡◌, ℕ, ◌+◌, ◌≤◌, ◌==◌, Bool, true, false, List, [], ◌∷◌, ◌++◌, Option, None, refl, ap, ◌∙◌, arith}
use Rattle.std.proofs.lemmas.Bool.Decides.{nat_tests}
use Rattle.gp_base.specs.declared.limits.TheConstants.{MOST_CELLS}
use Rattle.task_ast.specs.declared.check_kind.CheckKind.{CheckKind}
use Rattle.task_ast.specs.declared.check_kind.CheckKind.TheVariants.{UnknownName, DoubleName, WrongCount, SizesDiffer, TooMany}
use Rattle.task_ast.specs.declared.tree.Head.{Head}
use Rattle.task_ast.specs.declared.tree.Head.TheVariants.{LockHead, BarrierHead, RecHead, FeedHead}
use Rattle.task_ast.specs.meaning.Tree.{Program}
use Rattle.task_ast.specs.meaning.Names.{natural, is_among, head_name, records_of, cells_in}
use Rattle.task_ast.specs.meaning.Visit.{Visit, fails_if, fault_at, first_fault}
use Rattle.task_ast.specs.meaning.Declarations.{lacks_array, sizes_differ, passes_limit, count_of, head_visit, head_visits, task_visits, main_visit, head_line}
use Rattle.task_ast.specs.meaning.Check.{bodies_visits, check_fault}
use Rattle.call_cases.specs.inner.Loading.{IsReadable, AreReadable}
use Rattle.std.proofs.Common.{map}

-- where no fault is found at a place, no rule fails there, and none is found later
no_fault : (line : ℕ) (kinds : List CheckKind) (later : Option (CheckKind × ℕ)) → fault_at line kinds later ≡ None
    → (kinds ≡ []) × (later ≡ None)
no_fault line [] later none = (refl, none)
no_fault line (k ∷ kinds) later none = cc

no_faults : (a b : List Visit) → first_fault (a ++ b) ≡ None → (first_fault a ≡ None) × (first_fault b ≡ None)
no_faults [] b none = (refl, none)
no_faults (v ∷ a) b none =
    let here = no_fault v.line v.fails (first_fault (a ++ b)) none in
    let rest = no_faults a b here.1 in
    (ap (λ kinds. fault_at v.line kinds (first_fault a)) here.0 ∙ rest.0, rest.1)

no_parts : (a b : List CheckKind) → a ++ b ≡ [] → (a ≡ []) × (b ≡ [])
no_parts [] b none = (refl, none)
no_parts (k ∷ a) b none = cc

holds_not : (b : Bool) (kind : CheckKind) → fails_if b kind ≡ [] → b ≡ false
holds_not true kind none = cc
holds_not false kind none = refl

-- a head at which no rule fails
readable_head : (program : Program) (before : List Head) (h : Head) → (head_visit program before h).fails ≡ [] → IsReadable h
readable_head program before h none =
    let all =
    no_parts (((fails_if (lacks_array program.heads h) UnknownName
    ++ fails_if (is_among (head_name h) (map head_name before)) DoubleName) ++ fails_if (count_of h == 0) WrongCount)
    ++ fails_if (sizes_differ program.heads h) SizesDiffer)
    (fails_if (passes_limit before h) TooMany) none in
    let sizes =
    no_parts ((fails_if (lacks_array program.heads h) UnknownName
    ++ fails_if (is_among (head_name h) (map head_name before)) DoubleName) ++ fails_if (count_of h == 0) WrongCount)
    (fails_if (sizes_differ program.heads h) SizesDiffer) all.0 in
    let counts =
    no_parts (fails_if (lacks_array program.heads h) UnknownName ++ fails_if (is_among (head_name h) (map head_name before)) DoubleName)
    (fails_if (count_of h == 0) WrongCount) sizes.0 in
    go h (holds_not (count_of h == 0) WrongCount counts.1) (holds_not (passes_limit before h) TooMany all.1)
  where
    go : (h : Head) → (count_of h == 0) ≡ false → passes_limit before h ≡ false → IsReadable h
    go (LockHead name size line) some few = tt
    go (BarrierHead name number line) some few = tt
    go (RecHead name size by from line) some few =
        let most : cells_in (records_of before) + natural size ≤ MOST_CELLS = grind (arith, nat_tests, few) in
        omega (arith, most)
    go (FeedHead name fields from line) some few = (grind (arith, nat_tests, some), grind (arith, nat_tests, few))

readable_heads : (program : Program) (before heads : List Head) → first_fault (head_visits program before heads) ≡ None → AreReadable heads
readable_heads program before [] none = tt
readable_heads program before (h ∷ heads) none =
    let here = no_fault (head_line h) (head_visit program before h).fails (first_fault (head_visits program (before ++ h ∷ []) heads)) none in
    (readable_head program before h here.0, readable_heads program (before ++ h ∷ []) heads here.1)

pub readable : (program : Program) → check_fault program ≡ None → AreReadable program.heads
readable program none =
    let heads = head_visits program [] program.heads in
    let tasks = task_visits (map head_name program.heads) program.tasks in
    let bodies = main_visit program ∷ bodies_visits program program.tasks in
    readable_heads program [] program.heads (no_faults heads tasks (no_faults (heads ++ tasks) bodies none).0).0
