-- Tables by name beside the lists that they stand for.
use Rattle.std.proofs.Common.{◌≡◌, Bool, true, false, Option, Some, None, refl, ap, ◌∙◌, sym, true≢false}
use Rattle.std.specs.Prelude.{ℕ, List, Vec, if◌then◌else◌, cond, is_some, option_map, ◌||◌}
use Rattle.std.specs.declared.alloc.Global.{Global}
use Rattle.std.specs.BTreeMap.{BTreeMap, UpdatesBy, get_by}
use Rattle.std.specs.Cmp.Lexicographic.{slice_cmp}
use Rattle.std.specs.Map.{update, lookup, KeepsOthers, IsKeyTest, AreApart}
use Rattle.std.specs.Ordering.{is_eq, nat_cmp}
use Rattle.std.proofs.lemmas.Bool.{false_from_ne_true}
use Rattle.std.proofs.lemmas.Cmp.{eq_by_cmp_equiv, nat_list_cmp_total}
use Rattle.std.proofs.lemmas.Map.Text.{is_eq-slice_cmp}
use Rattle.std.proofs.lemmas.Slice.Eq.{bytes_eq-Decides}
use Rattle.task_ast.specs.meaning.Tree.{Name}
use Rattle.task_ast.specs.meaning.Names.{is_name}
use Rattle.lock_checker.specs.Tables.{or_else}

pub is_name-itself : (x : Name) → is_name x x ≡ true
is_name-itself x = (bytes_eq-Decides x x).1 refl

pub is_name-is : (x y : Name) → is_name x y ≡ true → x ≡ y
is_name-is x y h = (bytes_eq-Decides x y).0 h

pub or_else-None : {T : Type 0} (o : Option T) → or_else o None ≡ o
or_else-None None = refl
or_else-None (Some v) = refl

module _ {T : Type 0} (f : Name → Option T) (x y : Name) (v : T) (absent : f x ≡ None) where
  by_test : (there back : Bool) → is_name x y ≡ there → is_name y x ≡ back
      → update is_name f x (Some v) y ≡ or_else (f y) (if back then Some v else None)
  by_test true true there back =
      ap (λ b. if b then Some v else f y) there ∙ sym (ap (λ o. or_else o (Some v)) (ap f (sym (is_name-is x y there)) ∙ absent))
  by_test false false there back = ap (λ b. if b then Some v else f y) there ∙ sym (or_else-None (f y))
  by_test true false there back = absurd (true≢false (sym (ap (is_name y) (is_name-is x y there) ∙ is_name-itself y) ∙ back))
  by_test false true there back = absurd (true≢false (sym (ap (is_name x) (is_name-is y x back) ∙ is_name-itself x) ∙ there))

  -- a value put beside a name that had none
  pub put_found : update is_name f x (Some v) y ≡ or_else (f y) (if is_name y x then Some v else None)
  put_found = by_test (is_name x y) (is_name y x) refl refl

apart : (x y z : Name) → is_name x y ≡ false → is_eq (slice_cmp nat_cmp x z) ≡ true → is_eq (slice_cmp nat_cmp y z) ≡ false
apart x y z other same =
    is_eq-slice_cmp y z ∙ false_from_ne_true (is_name y z)
    (λ e. true≢false (sym (ap (is_name x) (is_name-is y z e) ∙ sym (is_eq-slice_cmp x z) ∙ same) ∙ other))

others : {T : Type 0} (eq : Vec ℕ Global → Vec ℕ Global → Bool) (test : Vec ℕ Global → Bool) (old new : List (Vec ℕ Global × T))
    → KeepsOthers eq test old new → (other : Vec ℕ Global → Bool) → IsKeyTest eq other → AreApart test other
    → lookup other new ≡ lookup other old
unfolding KeepsOthers
others eq test old new h = h

module _ {T : Type 0} (x : Name) (m n : BTreeMap (Vec ℕ Global) T) (w : Option T)
    (h : UpdatesBy (λ k l. slice_cmp nat_cmp k.items l.items) (λ k. slice_cmp nat_cmp x k.items) m n w) where
  abbrev at : BTreeMap (Vec ℕ Global) T → Name → Option T
  at map y = get_by (λ k. slice_cmp nat_cmp y k.items) map

  -- what a map finds by bytes after a change at the bytes of one key
  pub updated : (y : Name) → at n y ≡ update is_name (at m) x w y
  updated y = by (is_name x y) refl
    where
      by : (b : Bool) → is_name x y ≡ b → at n y ≡ cond b w (at m y)
      by true is = ap (at n) (sym (is_name-is x y is)) ∙ h.1
      by false is =
          others _ _ m.entries n.entries h.3 (λ k. is_eq (slice_cmp nat_cmp y k.items))
          (λ k l. (eq_by_cmp_equiv nat_list_cmp_total).congr y k.items l.items) (λ k. apart x y k.items is)

-- what is found, or else stands later, after a value is put
pub or_else-put : {T : Type 0} (o : Option T) (b : Bool) (v : T) (later : Option T)
    → or_else (or_else o (if b then Some v else None)) later ≡ or_else o (if b then Some v else later)
or_else-put None true v later = refl
or_else-put None false v later = refl
or_else-put (Some w) true v later = refl
or_else-put (Some w) false v later = refl

pub is_some-put : {T : Type 0} (o : Option T) (b : Bool) (v : T) → is_some (or_else o (if b then Some v else None)) ≡ (is_some o || b)
is_some-put None true v = refl
is_some-put None false v = refl
is_some-put (Some w) true v = refl
is_some-put (Some w) false v = refl

pub option_map-or_else : {T U : Type 0} (f : T → U) (o p : Option T)
    → option_map f (or_else o p) ≡ or_else (option_map f o) (option_map f p)
option_map-or_else f None p = refl
option_map-or_else f (Some v) p = refl

pub option_map-if : {T U : Type 0} (f : T → U) (b : Bool) (v : T)
    → option_map f (if b then Some v else None) ≡ (if b then Some (f v) else None)
option_map-if f true v = refl
option_map-if f false v = refl

pub or_assoc : (a b c : Bool) → ((a || b) || c) ≡ (a || (b || c))
or_assoc true b c = refl
or_assoc false b c = refl

pub is_some-if : {T : Type 0} (b : Bool) (v : T) (o : Option T) → is_some (if b then Some v else o) ≡ (b || is_some o)
is_some-if true v o = refl
is_some-if false v o = refl

pub or-false : (a : Bool) → (a || false) ≡ a
or-false true = refl
or-false false = refl

pub ruleset put_steps = (or_else-put, or_else-None, is_some-put, option_map-or_else, option_map-if, or_assoc, is_some-if, or-false)
