-- What holds of the links of what is redone.
use Rattle.std.specs.Prelude.{◌≡◌, ◌≢◌, ◌<◌, ℕ, true, List, ◌++◌, Some, map}
use Rattle.task_ast.specs.declared.tree.Head.{Head}
use Rattle.task_ast.specs.meaning.Plain.{Subthread}
use Rattle.dependence.specs.meaning.Conflict.{clash_in}
use Rattle.dependence.specs.meaning.Dependents.{is_member, dependents}
use Rattle.dependence.specs.meaning.Runs.{feet_of}
use Rattle.run_views.specs.meaning.Links.{party_of, linked}
use Rattle.run_views.specs.meaning.Why.{struck_line, chain}

-- what is redone with a position of a run that is struck
abbrev pub redone : List Subthread → (struck front : ℕ) → List ℕ
redone run struck front = dependents (clash_in (feet_of run)) struck front

abbrev pub IsRedone : List Subthread → (struck front q : ℕ) → Type 0
IsRedone run struck front q = is_member q (redone run struck front) ≡ true

-- each that is redone beside the one that was struck is linked to one below it that is redone too, and in conflict with it
abbrev pub LinkLaw : Type 0
LinkLaw =
    (run : List Subthread) (struck front q : ℕ) → IsRedone run struck front q → q ≢ struck
    → (r : ℕ) × (linked (map party_of run) (redone run struck front) q ≡ Some r) × (r < q) × IsRedone run struck front r
    × (clash_in (feet_of run) r q ≡ true)

-- the links from each that is redone lead down to the one that was struck, which the last of their lines tells
abbrev pub ChainLaw : Type 0
ChainLaw =
    (heads : List Head) (run : List Subthread) (struck front q : ℕ) → IsRedone run struck front q
    → (lines : List ℕ) × (chain heads (map party_of run) (redone run struck front) q q ≡ lines ++ struck_line struck)
