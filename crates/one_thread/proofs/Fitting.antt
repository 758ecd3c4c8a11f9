-- Which data statements are resolved, and what they do, part by part.
use Rattle.std.specs.declared.alloc.AllocError.{AllocError}
use Rattle.std.proofs.Common.{Result, Ok, Err, OnOk, subst, ◌≡◌, zero, suc, ℤ, pos, negsuc, true, false, ◌&&◌, List, [], ◌∷◌, ◌++◌, map, Option, Some, None, refl, sym, ap, ◌∙◌, append_assoc, option_map, option_and_then}
use Rattle.std.specs.Prelude.{is_some}
use Rattle.std.proofs.lemmas.Bool.{false≢true}
use Rattle.task_ast.specs.declared.tree.Stmt.{Stmt as CodeStmt}
use Rattle.task_ast.specs.meaning.Value.{branch}
use Rattle.task_ast.specs.meaning.Action.{OfRegisters, Action, Say, Choose, Arm}
use Rattle.task_ast.specs.meaning.Control.{all_of}
use Rattle.task_ast.proofs.Arms.{map_some, chosen, some_is, DoesInOrder}
use Rattle.one_thread.specs.declared.data.Data.{Data}
use Rattle.one_thread.specs.inner.Working.{first_unless, worked, arm_worked, Works, ArmWorks}

pub and_then_some : {A B C : Type 0} (f : A → B → C) (o : Option A) (p : Option B)
    → is_some (option_and_then (λ t. option_map (f t) p) o) ≡ is_some o && is_some p
and_then_some f None p = refl
and_then_some f (Some x) p = map_some (f x) p

pub all_some : {A : Type 0} (o : Option A) (os : List (Option A)) → is_some o ≡ true → is_some (all_of os) ≡ is_some (all_of (o ∷ os))
all_some None os is = absurd (false≢true is)
all_some (Some x) os is = sym (map_some (λ all. x ∷ all) (all_of os))

pub not_all_some : {A : Type 0} (o : Option A) (os : List (Option A)) → is_some o ≡ false → false ≡ is_some (all_of (o ∷ os))
not_all_some None os is = refl
not_all_some (Some x) os is = absurd (false≢true (sym is))

pub work-in-order : (joined : ℤ) → DoesInOrder (worked joined) (arm_worked joined)
work-in-order joined = record { none = λ d. refl; more = λ a arm d. refl }

chosen_arm : (joined : ℤ) (t : OfRegisters) (x y : Arm) (a : Action) (old new : Data)
    → first_unless (t old.registers) (arm_worked joined x old) (arm_worked joined y old) ≡ new
    → Some (Choose t x y) ≡ Some a → new ≡ worked joined a old
chosen_arm joined t x y a old new is same = sym is ∙ ap (λ b. worked joined b old) (some_is same)

second_works : (t : Option OfRegisters) (a b : Option Arm) (old new : Data) (v : ℤ)
    → ((first second : Data) → first_unless v first second ≡ second)
    → option_map (λ t. t old.registers) t ≡ Some v → ArmWorks b old new → Works (chosen t a b) old new
second_works None a b old new v takes is does joined act same = absurd (cc is)
second_works (Some t) None b old new v takes is does joined act same = absurd (cc same)
second_works (Some t) (Some x) None old new v takes is does joined act same = absurd (cc same)
second_works (Some t) (Some x) (Some y) old new v takes is does joined act same =
    chosen_arm joined t x y act old new (ap (λ w. first_unless w (arm_worked joined x old) (arm_worked joined y old)) (some_is is)
    ∙ takes (arm_worked joined x old) (arm_worked joined y old) ∙ sym (does joined y refl)) same

first_works : (t : Option OfRegisters) (a b : Option Arm) (old new : Data) (v : ℤ)
    → ((first second : Data) → first_unless v first second ≡ first)
    → option_map (λ t. t old.registers) t ≡ Some v → ArmWorks a old new → Works (chosen t a b) old new
first_works None a b old new v takes is does joined act same = absurd (cc is)
first_works (Some t) None b old new v takes is does joined act same = absurd (cc same)
first_works (Some t) (Some x) None old new v takes is does joined act same = absurd (cc same)
first_works (Some t) (Some x) (Some y) old new v takes is does joined act same =
    chosen_arm joined t x y act old new (ap (λ w. first_unless w (arm_worked joined x old) (arm_worked joined y old)) (some_is is)
    ∙ takes (arm_worked joined x old) (arm_worked joined y old) ∙ sym (does joined x refl)) same

-- the block that the value takes
pub block_works : (r : Result Unit AllocError) (does : List CodeStmt → Option Arm) (t : Option OfRegisters) (whole : Option Action)
    (first second block : List CodeStmt) (old new : Data) (v : ℤ) → whole ≡ chosen t (does first) (does second)
    → block ≡ branch v first second → option_map (λ t. t old.registers) t ≡ Some v
    → OnOk r (ArmWorks (does block) old new) → OnOk r (Works whole old new)
block_works (Ok done) does t whole first second block old new (pos zero) is takes value works = λ joined act same.
    second_works t (does first) (does second) old new (pos zero) (λ a b. refl) value (subst (λ b. ArmWorks (does b) old new) takes works) joined act
    (sym is ∙ same)
block_works (Ok done) does t whole first second block old new (pos (suc n)) is takes value works = λ joined act same.
    first_works t (does first) (does second) old new (pos (suc n)) (λ a b. refl) value (subst (λ b. ArmWorks (does b) old new) takes works) joined act
    (sym is ∙ same)
block_works (Ok done) does t whole first second block old new (negsuc n) is takes value works = λ joined act same.
    first_works t (does first) (does second) old new (negsuc n) (λ a b. refl) value (subst (λ b. ArmWorks (does b) old new) takes works) joined act
    (sym is ∙ same)
block_works (Err fault) does t whole first second block old new v is takes value works = works

-- printed lines
module _ (registers : List ℤ) (line : List ℤ) where
  abbrev values_of : List OfRegisters → List ℤ
  values_of ts = map (λ t. t registers) ts

  line_rest : (v : ℤ) (t : OfRegisters) (r : Option (List OfRegisters)) → t registers ≡ v
      → option_map (λ vs. (line ++ v ∷ []) ++ vs) (option_map values_of r)
      ≡ option_map (λ vs. line ++ vs) (option_map values_of (option_map (λ all. t ∷ all) r))
  line_rest v t None is = refl
  line_rest v t (Some ts) is = ap Some (append_assoc line (v ∷ []) (values_of ts)) ∙ ap (λ x. Some (line ++ x ∷ values_of ts)) (sym is)

  pub line_on : (v : ℤ) (o : Option OfRegisters) (os : List (Option OfRegisters)) → option_map (λ t. t registers) o ≡ Some v
      → option_map (λ vs. (line ++ v ∷ []) ++ vs) (option_map values_of (all_of os))
      ≡ option_map (λ vs. line ++ vs) (option_map values_of (all_of (o ∷ os)))
  line_on v None os is = absurd (cc is)
  line_on v (Some t) os is = line_rest v t (all_of os) (some_is is)

  pub no_line : (o : Option OfRegisters) (os : List (Option OfRegisters)) → option_map (λ t. t registers) o ≡ None
      → None ≡ option_map (λ vs. line ++ vs) (option_map values_of (all_of (o ∷ os)))
  no_line None os is = refl
  no_line (Some t) os is = absurd (cc is)

said : (o : Option (List OfRegisters)) (old : Data) (line : List ℤ) → Some line ≡ option_map (map (λ t. t old.registers)) o
    → Works (option_map Say o) old (record old { lines = old.lines ++ line ∷ [] })
said None old line is joined act same = absurd (cc is)
said (Some ts) old line is joined act same =
    ap (λ l. record old { lines = old.lines ++ l ∷ [] }) (some_is is) ∙ ap (λ a. worked joined a old) (some_is same)

pub said_ok : (r : Result Unit AllocError) (o : Option (List OfRegisters)) (whole : Option Action) (old : Data) (line : List ℤ)
    (lines : List (List ℤ)) → whole ≡ option_map Say o → Some line ≡ option_map (map (λ t. t old.registers)) o
    → OnOk r (lines ≡ old.lines ++ line ∷ []) → OnOk r (Works whole old (record old { lines = lines }))
said_ok (Ok done) o whole old line lines is some put = λ joined act same.
    ap (λ l. record old { lines = l }) put ∙ said o old line some joined act (sym is ∙ same)
said_ok (Err fault) o whole old line lines is some put = put

pub unsaid : (o : Option (List OfRegisters)) (old new : Data) → None ≡ option_map (map (λ t. t old.registers)) o
    → Works (option_map Say o) old new
unsaid None old new is joined act same = absurd (cc same)
unsaid (Some ts) old new is joined act same = absurd (cc is)
