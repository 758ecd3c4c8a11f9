-- Rows that are replayed.
use Rattle.std.specs.Prelude.{◌≡◌, true, false, ℕ, ℤ, List, map, Option}
use Rattle.task_ast.specs.meaning.Plain.{Subthread}
use Rattle.task_ast.specs.Plain.{Plain}
use Rattle.record_store.specs.declared.effect.Effect.{Effect}
use Rattle.record_store.specs.declared.given.Bundle.{Bundle}
use Rattle.record_store.specs.Lent.{marked, lock_in, whole_effect, MayComeHome}
use Rattle.record_store.specs.Stored.{Stored}
use Rattle.subthread.specs.Tasks.{program_in}
use Rattle.retirement_log.specs.meaning.Rows.{Retirement}
use Rattle.gp_resume.specs.declared.course.ResumePlan.{ResumePlan}
use Rattle.gp_resume.specs.declared.course.Begun.{Begun}
use Rattle.gp_resume.specs.declared.course.Course.{Course}
use Rattle.gp_resume.specs.meaning.Fitting.{FitsIssue}
use Rattle.gp_resume.specs.inner.Course.{Begins}
use Rattle.gp_resume.specs.inner.RowsRead.{with_cells}

-- some subthread begins so, of some run, and the row fits it after some row
pub record FitsBegun (plan : ResumePlan) (begun : Begun) (course : Course) (row : Retirement) : Type 0 where
  pub before : Plain
  pub subthread : Subthread
  pub after : Plain
  pub earlier : Option Retirement
  pub begins : Begins plan before subthread after begun course
  pub fits : FitsIssue (program_in plan.work.now) before.table.issued before.state subthread earlier row

-- the store whose cells under these locks are away
abbrev pub lent_for : (held : List ℕ) → Stored → Stored
lent_for held store = record store { away = marked held true store.away }

-- The cells of a store under these locks may come home so, with the values that a row says in some of them, beside those that were
-- overwritten.
pub record IsSetUnder (store : Stored) (held : List ℕ) (cells : List (ℤ × ℤ)) (bundles : List Bundle) (old : List (ℕ × ℤ)) : Type 0 where
  pub comes : MayComeHome (lent_for held store) bundles old
  pub says : (effect : Effect) → whole_effect store.under bundles old effect ≡ with_cells effect cells
  pub home : marked (map lock_in bundles) false (marked held true store.away) ≡ store.away
