-- What a body does from a point that its thread comes to.
use Rattle.std.proofs.Common.{◌≡◌, ◌⊎◌, inl, inr, ℕ, zero, suc, Bool, List, [], ◌∷◌, ◌++◌, Contains, Option, Some, None, refl}
use Rattle.std.specs.Prelude.{⊤, slice_get}
use Rattle.task_ast.specs.meaning.Action.{Action}
use Rattle.task_ast.specs.meaning.Tree.{statements, TaskText}
use Rattle.task_ast.specs.meaning.Body.{Step, Silent, Iteration, Act, Stop, Body, spent, follow, stretch, body}
use Rattle.task_ast.specs.meaning.Control.{Setting, Point, step, size, tree_body}
use Rattle.task_ast.specs.laws.Keeps.{AllName}
use Rattle.task_ast.specs.Layout.{IsLaidOut}
use Rattle.task_ast.specs.Shaped.{IsAccepted}
use Rattle.lock_checker.specs.WalkLaw.{Holding, Comes, silently, by_turn, acting}
use Rattle.lock_checker.proofs.WalkLemmas.{walk_law}
use Rattle.lock_checker.specs.Soundness.{Each}
use Rattle.lock_checker.proofs.LockCells.{test}
use Rattle.lock_checker.proofs.StepStops.{acts_from}

pub names_append : (passes : ℕ → Bool) (first rest : List Action) → AllName passes first → AllName passes rest
    → AllName passes (first ++ rest)
names_append passes [] rest names more = more
names_append passes (a ∷ first) rest names more = (names.0, names_append passes first rest names.1 more)

module _ (s : Setting) (accepted : IsAccepted s.program) (laid : IsLaidOut s.program.heads) (k : ℕ) (task : TaskText)
    (is_task : slice_get s.program.tasks k ≡ Some task)
    (start : Point) (starts : start.left ≡ statements task.body) (held : List Holding) (locks : List ℕ)
    (owned : Each (λ h. Contains locks h.cell) held) where
  -- its actions name cells under the locks alone, its thread comes to where it stops, and it stops there
  pub record Goes (b : Body Point) : Type 0 where
    pub names : AllName (test s.program.heads laid locks) b.actions
    pub comes : Comes s start b.at held
    pub stops : (b.next ≡ spent) ⊎ (step s b.at ≡ Stop b.next)

  abbrev TurnGoes : Option (Point → Body Point) → Type 0
  TurnGoes None = ⊤
  TurnGoes (Some turned) = (q : Point) → Comes s start q held → Goes (turned q)

  follow_goes : (turned : Option (Point → Body Point)) (p : Point) (st : Step Point) (go : Point → Body Point) → TurnGoes turned
      → step s p ≡ st → Comes s start p held
      → ((q : Point) → Comes s start q held → Goes (go q)) → Goes (follow p st go turned)
  follow_goes turned p (Silent q) go turn is comes on = on q (silently comes is)
  follow_goes turned p (Act a q) go turn is comes on =
      let walk = walk_law s k task start p held accepted is_task starts comes in
      let rest = on q (acting comes is) in
      record {
        names = (acts_from s laid locks p.left p q a held is walk.0 walk.1 owned, rest.names);
        comes = rest.comes;
        stops = rest.stops;
      }
  follow_goes None p (Iteration q) go turn is comes on = record { names = tt; comes = comes; stops = inl refl }
  follow_goes (Some turned) p (Iteration q) go turn is comes on = turn q (by_turn comes is)
  follow_goes turned p (Stop next) go turn is comes on = record { names = tt; comes = comes; stops = inr is }

  stretch_goes : (turned : Option (Point → Body Point)) (n : ℕ) (p : Point) → TurnGoes turned → Comes s start p held
      → Goes (stretch (step s) size turned n p)
  unfolding stretch
  stretch_goes turned zero p turn comes = record { names = tt; comes = comes; stops = inl refl }
  stretch_goes turned (suc n) p turn comes =
      follow_goes turned p (step s p) (stretch (step s) size turned n) turn refl comes (λ q there. stretch_goes turned n q turn there)

  pub body_goes : (turns : ℕ) (p : Point) → Comes s start p held → Goes (tree_body s turns p)
  unfolding body
  body_goes zero p comes = stretch_goes None (suc (size p)) p tt comes
  body_goes (suc turns) p comes = stretch_goes (Some (body (step s) size turns)) (suc (size p)) p (body_goes turns) comes
