-- The data at hand of the code, and what definitions say of a subthread's data.
use Rattle.std.proofs.Common.{◌≡◌, ℕ, zero, suc, ◌<◌, ◌≤◌, map, ℤ, pos, negsuc, Bool, true, false, cond, List, [], ◌∷◌, ◌++◌, length, Some, refl, sym, ap, ◌∙◌, subst, arith, unwrap_or, Ordering, Less, Equal, Greater, nat_lt}
use Rattle.std.specs.Prelude.{slice_set}
use Rattle.std.specs.Ordering.{nat_cmp, eq_by_cmp, is_eq}
use Rattle.std.specs.FinMap.{put, find, nat_cmp-IsAntisymmetric}
use Rattle.std.specs.FinMap.Entries.{find-put}
use Rattle.std.proofs.lemmas.Cmp.{nat_cmp_total}
use Rattle.std.proofs.lemmas.Bool.{false≢true, ltb-true, le-ltb, eq-eqb}
use Rattle.task_ast.specs.meaning.Value.{branch}
use Rattle.task_ast.specs.meaning.Action.{OfRegisters, Action, Set, Load, Store, Say, Choose, Child, Give, Bring, Arm, NoAction, OneAction}
use Rattle.task_ast.specs.meaning.State.{number_at}
use Rattle.task_ast.specs.meaning.Effect.{Doing, done, arm_done, all_done}
use Rattle.task_ast.specs.laws.Keeps.{NamesOnly, ArmNamesOnly, AllName}
use Rattle.one_thread.specs.declared.data.Data.{Data}
use Rattle.one_thread.specs.inner.Working.{first_unless, worked, arm_worked, recorded, all_worked}

-- the data at hand are those of a subthread that found these cells
pub record Mirrors (found : ℕ → ℤ) (count : ℕ) (d : Doing) (w : Data) : Type 0 where
  pub registers : w.registers ≡ d.registers
  pub child : w.child ≡ d.child
  pub lines : w.lines ≡ d.lines
  pub cells : (c : ℕ) → c < count → number_at w.cells c ≡ unwrap_or (find nat_cmp c d.written) (found c)
  pub many : length w.cells ≡ count

number_same : (xs : List ℤ) (c : ℕ) (v : ℤ) → c < length xs → number_at (slice_set xs c v) c ≡ v
number_same [] c v within = absurd (omega arith)
number_same (x ∷ xs) zero v within = refl
number_same (x ∷ xs) (suc c) v within = number_same xs c v (omega arith)

number_other : (xs : List ℤ) (c q : ℕ) (v : ℤ) → (q ≡ c → ⊥) → number_at (slice_set xs c v) q ≡ number_at xs q
number_other [] c q v ne = refl
number_other (x ∷ xs) zero zero v ne = absurd (ne refl)
number_other (x ∷ xs) zero (suc q) v ne = refl
number_other (x ∷ xs) (suc c) zero v ne = refl
number_other (x ∷ xs) (suc c) (suc q) v ne = number_other xs c q v (λ e. ne (ap suc e))

length_set : (xs : List ℤ) (c : ℕ) (v : ℤ) → length (slice_set xs c v) ≡ length xs
length_set [] c v = refl
length_set (x ∷ xs) zero v = refl
length_set (x ∷ xs) (suc c) v = ap suc (length_set xs c v)

is_equal : (o : Ordering) → is_eq o ≡ true → o ≡ Equal
is_equal Less e = absurd (false≢true e)
is_equal Equal e = refl
is_equal Greater e = absurd (false≢true e)

itself : (c : ℕ) → eq_by_cmp nat_cmp c c ≡ true
itself c = let le : c ≤ c = omega arith in rw (le-ltb c c le, eq-eqb c c refl) refl

-- what is found after a cell is written
found_after : (c : ℕ) (v : ℤ) (d : List (ℕ × ℤ)) (xs : List ℤ) (q : ℕ) (before : ℤ) → c < length xs
    → number_at xs q ≡ unwrap_or (find nat_cmp q d) before
    → number_at (slice_set xs c v) q ≡ unwrap_or (find nat_cmp q (put nat_cmp c v d)) before
found_after c v d xs q before within same =
    go (eq_by_cmp nat_cmp q c) refl ∙ ap (λ o. unwrap_or o before) (sym (find-put nat_cmp nat_cmp_total q c v d))
  where
    go : (b : Bool) → eq_by_cmp nat_cmp q c ≡ b → number_at (slice_set xs c v) q ≡ unwrap_or (cond b (Some v) (find nat_cmp q d)) before
    go true e =
        let is : q ≡ c = nat_cmp-IsAntisymmetric q c (is_equal (nat_cmp q c) e) in
        ap (number_at (slice_set xs c v)) is ∙ number_same xs c v within
    go false e = number_other xs c q v (λ is. absurd (false≢true (sym e ∙ ap (λ k. eq_by_cmp nat_cmp k c) is ∙ itself c))) ∙ same

picked_mirrors : (found : ℕ → ℤ) (count : ℕ) (v : ℤ) (a b : Doing) (x y : Data) → Mirrors found count a x → Mirrors found count b y
    → Mirrors found count (branch v a b) (first_unless v x y)
picked_mirrors found count (pos zero) a b x y f s = s
picked_mirrors found count (pos (suc n)) a b x y f s = f
picked_mirrors found count (negsuc n) a b x y f s = f

abbrev said : List OfRegisters → List ℤ → List ℤ
said ts r = map (λ t. t r) ts

module _ (found : ℕ → ℤ) (joined : ℤ) (count : ℕ) where
  abbrev test : ℕ → Bool
  test c = nat_lt c count

  mutual
    worked_mirrors : (a : Action) (d : Doing) (w : Data) → NamesOnly test a → Mirrors found count d w
        → Mirrors found count (done found joined a d) (worked joined a w)
    worked_mirrors (Set k t) d w names same =
        record {
          registers = ap (λ r. slice_set r k (t r)) same.registers;
          child = same.child;
          lines = same.lines;
          cells = same.cells;
          many = same.many;
        }
    worked_mirrors (Load c k) d w names same =
        record {
          registers = ap (λ r. slice_set r k (number_at w.cells c)) same.registers
              ∙ ap (slice_set d.registers k) (same.cells c (ltb-true c count names));
          child = same.child;
          lines = same.lines;
          cells = same.cells;
          many = same.many;
        }
    worked_mirrors (Store c t) d w names same =
        record {
          registers = same.registers;
          child = same.child;
          lines = same.lines;
          cells = λ q below.
              ap (λ r. number_at (slice_set w.cells c (t r)) q) same.registers
              ∙ found_after c (t d.registers) d.written w.cells q (found q)
              (let within = ltb-true c count names in let all = same.many in omega arith) (same.cells q below);
          many = length_set w.cells c (t w.registers) ∙ same.many;
        }
    worked_mirrors (Say ts) d w names same =
        record {
          registers = same.registers;
          child = same.child;
          lines = ap (λ l. l ++ said ts w.registers ∷ []) same.lines
              ∙ ap (λ r. d.lines ++ said ts r ∷ []) same.registers;
          cells = same.cells;
          many = same.many;
        }
    worked_mirrors (Choose t a b) d w names same =
        subst (λ v. Mirrors found count (done found joined (Choose t a b) d)
        (first_unless v (arm_worked joined a w) (arm_worked joined b w))) (sym (ap t same.registers))
        (picked_mirrors found count (t d.registers) _ _ _ _ (arm_mirrors a d w names.0 same) (arm_mirrors b d w names.1 same))
    worked_mirrors (Child n) d w names same =
        record { registers = same.registers; child = refl; lines = same.lines; cells = same.cells; many = same.many }
    worked_mirrors (Give k t) d w names same =
        record {
          registers = same.registers;
          child = ap (λ l. slice_set l k (t w.registers)) same.child
              ∙ ap (λ r. slice_set d.child k (t r)) same.registers;
          lines = same.lines;
          cells = same.cells;
          many = same.many;
        }
    worked_mirrors (Bring k) d w names same =
        record {
          registers = ap (λ r. slice_set r k joined) same.registers;
          child = same.child;
          lines = same.lines;
          cells = same.cells;
          many = same.many;
        }

    arm_mirrors : (arm : Arm) (d : Doing) (w : Data) → ArmNamesOnly test arm → Mirrors found count d w
        → Mirrors found count (arm_done found joined arm d) (arm_worked joined arm w)
    arm_mirrors NoAction d w names same = same
    arm_mirrors (OneAction a arm) d w names same =
        arm_mirrors arm (done found joined a d) (worked joined a w) names.1 (worked_mirrors a d w names.0 same)

  -- the cells that are recorded are no part of the data
  recorded_mirrors : (a : Action) (d : Doing) (w : Data)
      → Mirrors found count d (worked joined a w) → Mirrors found count d (recorded joined a w)
  recorded_mirrors a d w same =
      record { registers = same.registers; child = same.child; lines = same.lines; cells = same.cells; many = same.many }

  -- the data after a subthread's actions
  pub all_mirrors : (actions : List Action) (d : Doing) (w : Data) → AllName test actions → Mirrors found count d w
      → Mirrors found count (all_done found joined actions d) (all_worked joined actions w)
  all_mirrors [] d w names same = same
  all_mirrors (a ∷ actions) d w names same =
      all_mirrors actions (done found joined a d) (recorded joined a w) names.1
      (recorded_mirrors a (done found joined a d) w (worked_mirrors a d w names.0 same))

pub worked-append : (joined : ℤ) (first second : List Action) (w : Data)
    → all_worked joined (first ++ second) w ≡ all_worked joined second (all_worked joined first w)
worked-append joined [] second w = refl
worked-append joined (a ∷ first) second w = worked-append joined first second (recorded joined a w)
