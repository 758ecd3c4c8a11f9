use Rattle.std.proofs.Common.{◌≡◌, ℕ, Bool, true, false, Option, Some, None, IfSome, refl, sym, subst, ◌∙◌, arith}
use Rattle.std.specs.Bool.{then_some}
use Rattle.std.specs.Option.{IfNone}
use Rattle.whole_run.specs.Gives.{IsNextToPost, NoneToPost}
use Rattle.whole_run.specs.inner.Kept.{batch_in, view_of}
use Rattle.whole_run.proofs.Closed.{next-found, next-closed, next-none, none-past}
use Rattle.whole_run.proofs.parts.closing.runnable.Goals as goal

-- what holds of a value where a test holds, and what holds where it fails
some-where : (P : ℕ → Type 0) (b : Bool) (p : ℕ) → (b ≡ true → P p) → IfSome (then_some b p) P
some-where P true p h = h refl
some-where P false p h = tt

none-where : (P : Type 0) (b : Bool) (p : ℕ) → (b ≡ false → P) → IfNone (then_some b p) P
none-where P true p h = tt
none-where P false p h = h refl

none-anyway : (P : Type 0) (o : Option ℕ) → P → IfNone o P
none-anyway P None h = h
none-anyway P (Some p) h = tt

pub returns-then-parts-from-clause-none : goal.returns-then-parts-from-clause-none
returns-then-parts-from-clause-none c = none-past (batch_in c.args.plan.now) c.args.parts.now c.requires.kept c.args.from (omega arith)

pub returns-in_err-position-clause-none : goal.returns-in_err-position-clause-none
returns-in_err-position-clause-none c =
    none-anyway (NoneToPost (view_of (batch_in c.args.plan.now) c.args.parts.now) c.args.from) c.from_residual.result
    (next-none (batch_in c.args.plan.now) c.args.parts.now c.requires.kept c.args.from c.window_end-below.result
    c.window_end-below.ensures c.in_err-position.ensures.none)

pub returns-clause-found : goal.returns-clause-found
returns-clause-found c =
    subst (λ o. IfSome o (IsNextToPost (view_of (batch_in c.args.plan.now) c.args.parts.now) c.args.from)) (sym c.then_some.ensures)
    (some-where (IsNextToPost (view_of (batch_in c.args.plan.now) c.args.parts.now) c.args.from) c.is_open.result c.in_ok-position.position
    (λ opens. next-found (batch_in c.args.plan.now) c.args.parts.now c.requires.kept c.args.from c.in_ok-position.position
    c.in_ok-position.ensures.found (sym c.is_open.ensures ∙ opens)))

pub returns-clause-none : goal.returns-clause-none
returns-clause-none c =
    subst (λ o. IfNone o (NoneToPost (view_of (batch_in c.args.plan.now) c.args.parts.now) c.args.from)) (sym c.then_some.ensures)
    (none-where (NoneToPost (view_of (batch_in c.args.plan.now) c.args.parts.now) c.args.from) c.is_open.result c.in_ok-position.position
    (λ closed. next-closed (batch_in c.args.plan.now) c.args.parts.now c.requires.kept c.args.from c.in_ok-position.position
    c.in_ok-position.ensures.found (sym c.is_open.ensures ∙ closed)))
