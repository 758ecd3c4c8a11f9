-- Values that are there, and values that are not.
use Rattle.std.proofs.Common.{◌≡◌, false, Bor, Option, Some, None, is_some, unwrap_or, ap, sym, subst, refl}
use Rattle.std.specs.Option.{IsSome, option_copied}
use Rattle.std.proofs.lemmas.Bool.{false≢true}

pub some_none : {A : Type 0} {x : A} → Some x ≡ None → ⊥
some_none e = cc e

pub none_some : {A : Type 0} {x : A} → None ≡ Some x → ⊥
none_some e = cc e

pub some_same : {A : Type 0} {a b : A} → Some a ≡ Some b → a ≡ b
some_same {a = a} e = ap (λ o. unwrap_or o a) e

pub some_is : {A : Type 0} {o : Option A} {x : A} → o ≡ Some x → IsSome o
some_is e = subst IsSome (sym e) refl

pub none_copied : {A : Type 0} (o : Option (Bor A)) → is_some o ≡ false → option_copied o ≡ None
none_copied None e = refl
none_copied (Some x) e = absurd (false≢true (sym e))
