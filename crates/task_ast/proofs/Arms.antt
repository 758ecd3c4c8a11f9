-- Arms whose actions may lack a meaning, and what they do, action by action.
use Rattle.std.proofs.Common.{◌≡◌, ℕ, ◌+◌, ◌<◌, true, false, List, ◌∷◌, length, get_or, drop, Option, Some, None, refl, sym, ap, ◌∙◌, option_map, option_and_then}
use Rattle.std.specs.Prelude.{is_some}
use Rattle.std.proofs.lemmas.Bool.{false≢true}
use Rattle.std.proofs.lemmas.List.{at_drop_more}
use Rattle.task_ast.specs.meaning.Action.{OfRegisters, Action, Say, Choose, Arm, NoAction, OneAction}
use Rattle.task_ast.specs.meaning.Footprint.{naming, arm_naming}

pub map_some : {A B : Type 0} (f : A → B) (o : Option A) → is_some (option_map f o) ≡ is_some o
map_some f None = refl
map_some f (Some x) = refl

-- what is left of a list begins with the member at the index
pub from-here : {X B : Type 0} (f : List X → B) (xs : List X) (i : ℕ) (x : X) → i < length xs → x ≡ get_or xs i x
    → f (drop i xs) ≡ f (x ∷ drop (i + 1) xs)
from-here f xs i x below is = at_drop_more f xs i x below ∙ ap (λ y. f (y ∷ drop (i + 1) xs)) (sym is)

-- an arm with one action before it
abbrev pub also : Option Action → Option Arm → Option Arm
also o r = option_and_then (λ x. option_map (OneAction x) r) o

pub arm_some : (o : Option Action) (r : Option Arm) → is_some o ≡ true → is_some r ≡ is_some (also o r)
arm_some None r is = absurd (false≢true is)
arm_some (Some x) r is = sym (map_some (OneAction x) r)

pub not_arm_some : (o : Option Action) (r : Option Arm) → is_some o ≡ false → false ≡ is_some (also o r)
not_arm_some None r is = refl
not_arm_some (Some x) r is = absurd (false≢true (sym is))

-- a choice between two arms
abbrev pub chosen : Option OfRegisters → Option Arm → Option Arm → Option Action
chosen t a b = option_and_then (λ t. option_and_then (λ x. option_map (Choose t x) b) a) t

pub chosen_some : (t : Option OfRegisters) (a b : Option Arm) → is_some t ≡ true → is_some a ≡ true → is_some b ≡ is_some (chosen t a b)
chosen_some None a b is too = absurd (false≢true is)
chosen_some (Some t) None b is too = absurd (false≢true too)
chosen_some (Some t) (Some x) b is too = sym (map_some (Choose t x) b)

pub not_chosen_some : (t : Option OfRegisters) (a b : Option Arm) → is_some t ≡ true → is_some a ≡ false → false ≡ is_some (chosen t a b)
not_chosen_some None a b is too = absurd (false≢true is)
not_chosen_some (Some t) None b is too = refl
not_chosen_some (Some t) (Some x) b is too = absurd (false≢true (sym too))

pub say_some : (o : Option (List OfRegisters)) → is_some o ≡ is_some (option_map Say o)
say_some o = sym (map_some Say o)

pub some_is : {A : Type 0} {x y : A} → Some x ≡ Some y → x ≡ y
some_is is = cc

-- what actions and arms do to data of a kind: the actions of an arm in order
pub record DoesInOrder {D : Type 0} (act : Action → D → D) (arm_act : Arm → D → D) : Type 0 where
  pub none : (d : D) → arm_act NoAction d ≡ d
  pub more : (a : Action) (arm : Arm) (d : D) → arm_act (OneAction a arm) d ≡ arm_act arm (act a d)

pub naming-in-order : DoesInOrder naming arm_naming
naming-in-order = record { none = λ d. refl; more = λ a arm d. refl }

-- the arm that is left does on what was reached what the whole arm does from the beginning
abbrev pub Ahead : {D : Type 0} → (Arm → D → D) → (whole left : Option Arm) → (now start : D) → Type 0
Ahead arm_act whole left now start =
    (arm : Arm) → whole ≡ Some arm → (rest : Arm) × (left ≡ Some rest) × (arm_act rest now ≡ arm_act arm start)

module _ {D : Type 0} (act : Action → D → D) (arm_act : Arm → D → D) (does : DoesInOrder act arm_act) where
  on_arm : (o : Option Action) (r : Option Arm) (now new d : D) (rest : Arm) → also o r ≡ Some rest → arm_act rest now ≡ d
      → ((a : Action) → o ≡ Some a → new ≡ act a now) → (left : Arm) × (r ≡ Some left) × (arm_act left new ≡ d)
  on_arm None r now new d rest is same works = absurd (cc is)
  on_arm (Some a) None now new d rest is same works = absurd (cc is)
  on_arm (Some a) (Some left) now new d rest is same works =
      (left, refl, ap (arm_act left) (works a refl) ∙ sym (does.more a left now) ∙ ap (λ x. arm_act x now) (some_is is) ∙ same)

  pub ahead_on : (whole : Option Arm) (o : Option Action) (r : Option Arm) (now new start : D)
      → ((a : Action) → o ≡ Some a → new ≡ act a now)
      → Ahead arm_act whole (also o r) now start → Ahead arm_act whole r new start
  ahead_on whole o r now new start works ahead arm is =
      let so_far = ahead arm is in on_arm o r now new (arm_act arm start) so_far.0 so_far.1 so_far.2 works

  pub ahead_end : (whole : Option Arm) (now start : D) → Ahead arm_act whole (Some NoAction) now start
      → (arm : Arm) → whole ≡ Some arm → now ≡ arm_act arm start
  ahead_end whole now start ahead arm is =
      let so_far = ahead arm is in sym (does.none now) ∙ ap (λ x. arm_act x now) (some_is so_far.1) ∙ so_far.2

  pub ahead_start : (whole : Option Arm) (start : D) → Ahead arm_act whole whole start start
  ahead_start whole start arm is = (arm, is, refl)
