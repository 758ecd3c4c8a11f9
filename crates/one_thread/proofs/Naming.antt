-- The record cells that are recorded are those that actions name.
use Rattle.std.specs.declared.alloc.AllocError.{AllocError}
use Rattle.std.proofs.Common.{Result, Ok, Err, OnOk, ◌≡◌, ℕ, zero, suc, ℤ, pos, negsuc, Bool, true, false, cond, List, [], ◌∷◌, Option, Some, None, Less, Equal, Greater, refl, sym, ap, ◌∙◌, nat_lt}
use Rattle.std.specs.Prelude.{nat_eq}
use Rattle.std.specs.Ordering.{nat_cmp, match_ordering}
use Rattle.std.specs.BTreeSet.{insert_key}
use Rattle.task_ast.specs.meaning.Action.{OfRegisters, Action, Set, Load, Store, Say, Choose, Child, Give, Bring, Arm, NoAction, OneAction}
use Rattle.task_ast.specs.meaning.Footprint.{Named, with_cell, naming, arm_naming, all_naming}
use Rattle.one_thread.specs.declared.data.Data.{Data}
use Rattle.one_thread.specs.inner.Working.{first_unless, worked, arm_worked, recorded, all_worked, Works, Notes, ArmNotes}
use Rattle.task_ast.proofs.Arms.{chosen, some_is}

ordered : {A : Type 0} (less same : Bool) (x y z : A)
    → match_ordering (cond less Less (cond same Equal Greater)) x y z ≡ cond less x (cond same y z)
ordered true same x y z = refl
ordered false true x y z = refl
ordered false false x y z = refl

-- the keys of a set with one more
pub keys-with : (c : ℕ) (cells : List ℕ) → insert_key nat_cmp cells c ≡ with_cell c cells
keys-with c [] = refl
keys-with c (d ∷ cells) =
    ordered (nat_lt c d) (nat_eq c d) (c ∷ d ∷ cells) (d ∷ cells) (d ∷ insert_key nat_cmp cells c)
    ∙ ap (λ l. cond (nat_lt c d) (c ∷ d ∷ cells) (cond (nat_eq c d) (d ∷ cells) (d ∷ l))) (keys-with c cells)

-- what a choice names is what both arms name
pub notes-choice : (t : Option OfRegisters) (a b : Option Arm) (old middle new : Named)
    → ArmNotes a old middle → ArmNotes b middle new → Notes (chosen t a b) old new
notes-choice None a b old middle new first second act at = absurd (cc at)
notes-choice (Some t) None b old middle new first second act at = absurd (cc at)
notes-choice (Some t) (Some x) None old middle new first second act at = absurd (cc at)
notes-choice (Some t) (Some x) (Some y) old middle new first second act at =
    second y refl ∙ ap (arm_naming y) (first x refl) ∙ ap (λ a. naming a old) (some_is at)

unless-named : (v : ℤ) (a b : Data) (n : Named)
    → record (first_unless v a b) { named = n } ≡ first_unless v (record a { named = n }) (record b { named = n })
unless-named (pos zero) a b n = refl
unless-named (pos (suc k)) a b n = refl
unless-named (negsuc k) a b n = refl

-- what actions do to the data has nothing to do with the cells that are recorded
module _ (joined : ℤ) (n : Named) where
  mutual
    worked-named : (a : Action) (d : Data) → worked joined a (record d { named = n }) ≡ record (worked joined a d) { named = n }
    worked-named (Set k t) d = refl
    worked-named (Load c k) d = refl
    worked-named (Store c t) d = refl
    worked-named (Say ts) d = refl
    worked-named (Choose t a b) d =
        let v = t d.registers in
        ap (λ x. first_unless v x (arm_worked joined b (record d { named = n }))) (arm-named a d)
        ∙ ap (first_unless v (record (arm_worked joined a d) { named = n })) (arm-named b d)
        ∙ sym (unless-named v (arm_worked joined a d) (arm_worked joined b d) n)
    worked-named (Child count) d = refl
    worked-named (Give k t) d = refl
    worked-named (Bring k) d = refl

    arm-named : (arm : Arm) (d : Data) → arm_worked joined arm (record d { named = n }) ≡ record (arm_worked joined arm d) { named = n }
    arm-named NoAction d = refl
    arm-named (OneAction a arm) d = ap (arm_worked joined arm) (worked-named a d) ∙ arm-named arm (worked joined a d)

-- what an action names was recorded, and it was done
abbrev pub Records : Option Action → Data → Data → Type 0
Records o old new = (joined : ℤ) (a : Action) → o ≡ Some a → new ≡ recorded joined a old

pub noted-works : (o : Option Action) (old new : Data) (named : Named)
    → Notes o old.named named → Works o (record old { named = named }) new → Records o old new
noted-works o old new named notes works joined a is =
    works joined a is ∙ worked-named joined named a old
    ∙ ap {A = Named} {B = Data} (λ n. record (worked joined a old) { named = n }) (notes a is)

-- the cells that were recorded are those that the actions name
pub all-named : (joined : ℤ) (actions : List Action) (d : Data) → (all_worked joined actions d).named ≡ all_naming actions d.named
all-named joined [] d = refl
all-named joined (a ∷ actions) d = all-named joined actions (recorded joined a d)

-- what follows of what was noted, where memory lasts
pub noted : {A B : Type 0} (r : Result Unit AllocError) → (A → B) → OnOk r A → OnOk r B
noted (Ok done) then notes = then notes
noted (Err fault) then notes = notes
