-- The locks that threads hold, after a change of one that is told later.
use Rattle.std.proofs.Common.{◌≡◌, ℕ, ◌<◌, Bool, true, false, cond, List, [], length, Option, Some, None, refl, sym, ap, ◌∙◌, subst}
use Rattle.std.specs.Prelude.{IfSome, ◌==◌, slice_set, unwrap_or}
use Rattle.std.proofs.lemmas.Bool.{false≢true, eq-eqb, eqb-true}
use Rattle.std.specs.Option.{ForSome}
use Rattle.task_ast.specs.meaning.Table.{owned_from}
use Rattle.task_ast.specs.LockLists.{is_owner, with_lock, held_at}
use Rattle.task_ast.proofs.Holds.{changed, set-set, zero_plus}
use Rattle.task_ast.proofs.IssuedTables.{length_set, get_set_here, get_set_other}
use Rattle.token_order.specs.declared.held.Change.{Change}
use Rattle.token_order.specs.Owning.{owners_with, locks_with}

-- a thread's locks after a change of a lock that there is
pub locks_after : (change : Option Change) (owners : List (Option ℕ)) (t : ℕ) → ForSome change (λ c. c.lock < length owners)
    → owned_from 0 (owners_with change owners) t ≡ locks_with change t (owned_from 0 owners t)
locks_after None owners t within = refl
locks_after (Some change) owners t within =
    changed 0 change.lock owners t change.owner (within change refl)
    ∙ ap (λ k. with_lock (is_owner t change.owner) k (owned_from 0 owners t)) (zero_plus change.lock)

pub length-with : (change : Option Change) (owners : List (Option ℕ)) → length (owners_with change owners) ≡ length owners
length-with None owners = refl
length-with (Some change) owners = length_set owners change.lock change.owner

-- a thread's locks after one change and another
pub locks_twice : (first second : Option Change) (owners after : List (Option ℕ)) (t : ℕ) → ForSome first (λ c. c.lock < length owners)
    → ForSome second (λ c. c.lock < length owners)
    → owners_with second (owners_with first owners) ≡ after
    → locks_with second t (locks_with first t (owned_from 0 owners t)) ≡ owned_from 0 after t
locks_twice first second owners after t one two is =
    let there : ForSome second (λ c. c.lock < length (owners_with first owners)) =
    λ c e. subst (λ n. c.lock < n) (sym (length-with first owners)) (two c e) in
    ap (locks_with second t) (sym (locks_after first owners t one)) ∙ sym (locks_after second (owners_with first owners) t there)
    ∙ ap (λ os. owned_from 0 os t) is

-- a lock that was given back before it changes hands
pub changed_since : (change : Change) (owners now : List (Option ℕ)) → now ≡ slice_set owners change.lock None
    → owners_with (Some change) now ≡ owners_with (Some change) owners
changed_since change owners now is = ap (λ os. slice_set os change.lock change.owner) is ∙ set-set owners change.lock None change.owner

pub for_some : {T : Type 0} (P : T → Type 0) (o : Option T) → IfSome o P → ForSome o P
for_some P None h x e = absurd (cc e)
for_some P (Some y) h x e = let same : y ≡ x = cc e in subst P same h

-- the list of each thread, where one was put in the place of another
pub held_set : (lists : List (List ℕ)) (t : ℕ) (list : List ℕ) (u : ℕ) → t < length lists
    → held_at (slice_set lists t list) u ≡ cond (u == t) list (held_at lists u)
held_set lists t list u within = go (u == t) refl
  where
    go : (b : Bool) → (u == t) ≡ b → held_at (slice_set lists t list) u ≡ cond b list (held_at lists u)
    go true is =
        ap (held_at (slice_set lists t list)) (eqb-true u t is) ∙ ap (λ found. unwrap_or found []) (get_set_here lists t list within)
    go false is =
        ap (λ found. unwrap_or found []) (get_set_other lists t u list (λ same. false≢true (sym is ∙ eq-eqb u t same)))
