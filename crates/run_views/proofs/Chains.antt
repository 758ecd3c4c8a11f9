-- The links of what is redone lead down to what was struck.
use Rattle.std.proofs.Common.{◌≡◌, ◌≢◌, ℕ, zero, suc, ◌<◌, ◌≤◌, Bool, true, false, cond, ◌&&◌, ◌||◌, nat_eq, nat_lt, List, [], ◌∷◌, ◌++◌, Some, None, map, slice_get, refl, sym, ap, ap₂, subst, ◌∙◌, arith, append_assoc}
use Rattle.std.specs.Prelude.{find}
use Rattle.std.specs.Option.{option_map_or}
use Rattle.std.proofs.lemmas.Bool.{false≢true, eqb-true, eq-eqb}
use Rattle.std.proofs.lemmas.Bool.Decides.{nat_tests}
use Rattle.task_ast.specs.declared.tree.Head.{Head}
use Rattle.task_ast.specs.meaning.Plain.{Subthread, foot_of}
use Rattle.dependence.specs.meaning.Conflict.{clash_in}
use Rattle.dependence.specs.meaning.Dependents.{is_member}
use Rattle.dependence.specs.Dependents.{IsDependent, itself, later}
use Rattle.dependence.specs.meaning.Runs.{feet_of}
use Rattle.dependence.proofs.DependentSets.{sound, complete}
use Rattle.run_views.specs.Laws.{redone, IsRedone, LinkLaw, ChainLaw}
use Rattle.run_views.specs.meaning.Links.{Party, party_of, linked}
use Rattle.run_views.specs.meaning.Why.{struck_line, link_text, chain}

-- ---- the first member that passes a test
module _ (test : ℕ → Bool) where
  abbrev Found : List ℕ → Type 0
  Found xs = (r : ℕ) × (find test xs ≡ Some r) × (is_member r xs ≡ true) × (test r ≡ true)

  found-later : (y : ℕ) (ys : List ℕ) → test y ≡ false → Found ys → Found (y ∷ ys)
  found-later y ys fails (r, is, among, passes) =
      (r, ap (λ b. cond b (Some y) (find test ys)) fails ∙ is, ap (λ b. nat_eq r y || b) among ∙ or_true (nat_eq r y), passes)
    where
      or_true : (b : Bool) → (b || true) ≡ true
      or_true true = refl
      or_true false = refl

  found-first : (y : ℕ) (ys : List ℕ) → test y ≡ true → Found (y ∷ ys)
  found-first y ys passes = (y, ap (λ b. cond b (Some y) (find test ys)) passes, ap (λ b. b || is_member y ys) (eq-eqb y y refl), passes)

  find-some : (xs : List ℕ) (x : ℕ) → is_member x xs ≡ true → test x ≡ true → Found xs
  find-some [] x among passes = absurd (false≢true among)
  find-some (y ∷ ys) x among passes = go (test y) (nat_eq x y) refl refl (λ left. find-some ys x left passes)
    where
      go : (b c : Bool) → test y ≡ b → nat_eq x y ≡ c → (is_member x ys ≡ true → Found ys) → Found (y ∷ ys)
      go true c here same rest = found-first y ys here
      go false true here same rest = absurd (false≢true (sym here ∙ ap test (sym (eqb-true x y same)) ∙ passes))
      go false false here same rest = found-later y ys here (rest (ap (λ b. b || is_member x ys) (sym same) ∙ among))

  find-none : (xs : List ℕ) → ((x : ℕ) → is_member x xs ≡ true → test x ≡ false) → find test xs ≡ None
  find-none [] fails = refl
  find-none (y ∷ ys) fails =
      ap (λ b. cond b (Some y) (find test ys)) (fails y (ap (λ b. b || is_member y ys) (eq-eqb y y refl)))
      ∙ find-none ys (λ x among. fails x (ap (λ b. nat_eq x y || b) among ∙ or_true (nat_eq x y)))
    where
      or_true : (b : Bool) → (b || true) ≡ true
      or_true true = refl
      or_true false = refl

-- ---- links
feet-of : (run : List Subthread) → feet_of run ≡ map (λ (p : Party). p.foot) (map party_of run)
feet-of [] = refl
feet-of (s ∷ run) = ap (λ others. foot_of s ∷ others) (feet-of run)

both : (a b : Bool) → a ≡ true → b ≡ true → (a && b) ≡ true
both a b l r = ap₂ (λ x y. x && y) l r

parts : (a b : Bool) → (a && b) ≡ true → (a ≡ true) × (b ≡ true)
parts true b is = (refl, is)
parts false b is = absurd (false≢true is)

module _ (run : List Subthread) (struck front : ℕ) where
  abbrev redo : List ℕ
  redo = redone run struck front

  abbrev Clash : ℕ → ℕ → Type 0
  Clash p q = clash_in (feet_of run) p q ≡ true

  abbrev test : ℕ → ℕ → Bool
  test q r = nat_lt r q && clash_in (feet_of run) r q

  linked-is : (q : ℕ) → linked (map party_of run) redo q ≡ find (test q) redo
  linked-is q = ap (λ feet. find (λ r. nat_lt r q && clash_in feet r q) redo) (sym (feet-of run))

  not-below : (q : ℕ) → IsDependent Clash struck front q → struck ≤ q
  not-below q (itself l) = omega arith
  not-below q (later {p = p} d l m c) = let low = not-below p d in omega (arith, low, l)

  link-by : (q : ℕ) → IsDependent Clash struck front q → q ≢ struck
      → (r : ℕ) × (linked (map party_of run) redo q ≡ Some r) × (r < q) × IsRedone run struck front r × Clash r q
  link-by q (itself l) other = absurd (other refl)
  link-by q (later {p = p} d l m c) other =
      let below : nat_lt p q ≡ true = grind (arith, nat_tests, l) in
      let found = find-some (test q) redo p (complete (clash_in (feet_of run)) struck front p d)
      (both (nat_lt p q) (clash_in (feet_of run) p q) below c) in
      let passed = parts (nat_lt found.0 q) (clash_in (feet_of run) found.0 q) found.3 in
      let low : found.0 < q = grind (arith, nat_tests, passed.0) in
      (found.0, linked-is q ∙ found.1, low, found.2, passed.1)

  struck-last : linked (map party_of run) redo struck ≡ None
  struck-last = linked-is struck ∙ find-none (test struck) redo above
    where
      above : (x : ℕ) → is_member x redo ≡ true → test struck x ≡ false
      above x among =
          let low = not-below x (sound (clash_in (feet_of run)) struck front x among) in
          let not : nat_lt x struck ≡ false = grind (arith, nat_tests, low) in
          ap (λ b. b && clash_in (feet_of run) x struck) not

pub link-law : LinkLaw
link-law run struck front q among other = link-by run struck front q (sound (clash_in (feet_of run)) struck front q among) other

-- ---- chains
module _ (heads : List Head) (run : List Subthread) (struck front : ℕ) where
  abbrev parties : List Party
  parties = map party_of run

  abbrev down : (most q : ℕ) → List ℕ
  down most q = chain heads parties (redone run struck front) most q

  abbrev Ends : (most q : ℕ) → Type 0
  Ends most q = (lines : List ℕ) × (down most q ≡ lines ++ struck_line struck)

  ends-here : (most : ℕ) → Ends most struck
  ends-here zero = ([], refl)
  ends-here (suc most) = (
    [],
    ap (λ link. option_map_or (λ r. link_text heads struck r (slice_get parties struck) (slice_get parties r) ++ down most r) link
        (struck_line struck)) (struck-last run struck front),
  )

  ends-later : (most q r : ℕ) → linked parties (redone run struck front) q ≡ Some r → Ends most r → Ends (suc most) q
  ends-later most q r is (lines, told) =
      let line = link_text heads q r (slice_get parties q) (slice_get parties r) in (
        line ++ lines,
        ap (λ link. option_map_or (λ x. link_text heads q x (slice_get parties q) (slice_get parties x) ++ down most x) link
            (struck_line q)) is
            ∙ ap (λ l. line ++ l) told ∙ sym (append_assoc line lines (struck_line struck)),
      )

  by-case : (most q : ℕ) → (q ≢ struck → Ends most q) → Ends most q
  by-case most q other = go (nat_eq q struck) refl
    where
      go : (b : Bool) → nat_eq q struck ≡ b → Ends most q
      go true same = subst (Ends most) (sym (eqb-true q struck same)) (ends-here most)
      go false apart = other (λ same. false≢true (sym apart ∙ eq-eqb q struck same))

  ends : (most q : ℕ) → q ≤ most → IsRedone run struck front q → Ends most q
  ends zero q fits among =
      by-case zero q (λ apart. let low = (link-law run struck front q among apart).2 in absurd (omega (arith, low, fits)))
  ends (suc most) q fits among =
      by-case (suc most) q (λ apart.
      let link = link-law run struck front q among apart in
      let low = link.2 in
      ends-later most q link.0 link.1 (ends most link.0 (omega (arith, low, fits)) link.3))

pub chain-law : ChainLaw
chain-law heads run struck front q among = ends heads run struck front q q (omega arith) among
