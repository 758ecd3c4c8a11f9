-- Flips that lead from one set of pairs to another. A list of flips changes a pair where it holds it an odd number of
-- times. So lists one after another add up by exclusive or (differ), the same list twice leads back, and lists that
-- leave nothing together lead to the same members. Sets are compared by their members alone.
use Rattle.std.proofs.Common.{◌≡◌, List, [], ◌∷◌, ◌++◌, Bool, true, false, cond, refl, sym, ap, ◌∙◌, true≢false}
use Rattle.std.specs.Prelude.{not, ◌&&◌, ◌||◌, ◌↔◌, if◌then◌else◌}
use Rattle.std.specs.List.{list_all}
use Rattle.std.proofs.lemmas.Bool.{false_from_ne_true, and_from}
use Rattle.task_ast.specs.declared.check_kind.CheckKind.TheVariants.{HeldAtEnd}
use Rattle.task_ast.specs.meaning.Check.{held_fails}
use Rattle.task_ast.specs.meaning.Held.{Pair, same_pair, has, without, same_pairs}
use Rattle.lock_checker.specs.inner.Pairs.{differ, IsFlipped, flips, Leads, HaveSame, Moves, TellsAlike}
use Rattle.lock_checker.proofs.SamePairs.{same_pair_is, same_pair_itself, same_from_test, has-append, or_true}

differ-assoc : (a b c : Bool) → differ (differ a b) c ≡ differ a (differ b c)
differ-assoc true true true = refl
differ-assoc true true false = refl
differ-assoc true false true = refl
differ-assoc true false false = refl
differ-assoc false b c = refl

differ-turned : (a b : Bool) → differ a b ≡ differ b a
differ-turned true true = refl
differ-turned true false = refl
differ-turned false true = refl
differ-turned false false = refl

differ_twice : (a b : Bool) → differ a (differ a b) ≡ b
differ_twice true true = refl
differ_twice true false = refl
differ_twice false b = refl

flips-append : (a b : List Pair) (q : Pair) → flips (a ++ b) q ≡ differ (flips a q) (flips b q)
flips-append [] b q = refl
flips-append (p ∷ a) b q = ap (differ (same_pair q p)) (flips-append a b q) ∙ sym (differ-assoc (same_pair q p) (flips a q) (flips b q))

-- one flip
pub lead_one : (old new : List Pair) (p : Pair) → IsFlipped old p new → Leads old (p ∷ []) new
lead_one old new p flipped q = flipped q ∙ ap (λ b. differ b (has old q)) (differ-turned false (same_pair q p))

-- flips after flips
pub leads_on : (old mid new a b : List Pair) → Leads old a mid → Leads mid b new → Leads old (a ++ b) new
leads_on old mid new a b first next q =
    next q ∙ ap (differ (flips b q)) (first q) ∙ sym (differ-assoc (flips b q) (flips a q) (has old q))
    ∙ ap (λ t. differ t (has old q)) (differ-turned (flips b q) (flips a q) ∙ sym (flips-append a b q))

-- done twice they lead back
pub leads_back : (old mid new a : List Pair) → Leads old a mid → Leads mid a new → HaveSame new old
leads_back old mid new a there back q = back q ∙ ap (differ (flips a q)) (there q) ∙ differ_twice (flips a q) (has old q)

-- only members count
pub leads_same : (old old' new new' a : List Pair) → Leads old a new → HaveSame old old' → HaveSame new new' → Leads old' a new'
leads_same old old' new new' a leads before after q = sym (after q) ∙ leads q ∙ ap (differ (flips a q)) (before q)

or_turned : (a b : Bool) → (a || b) ≡ (b || a)
or_turned true true = refl
or_turned true false = refl
or_turned false true = refl
or_turned false false = refl

has_more : (old : List Pair) (p q : Pair) → has (old ++ p ∷ []) q ≡ (same_pair q p || has old q)
has_more old p q =
    has-append old (p ∷ []) q ∙ or_turned (has old q) (same_pair q p || false) ∙ ap (λ b. b || has old q) (or_turned (same_pair q p) false)

has_less : (old : List Pair) (p q : Pair) → has (without old p) q ≡ (not (same_pair q p) && has old q)
has_less [] p q = by (same_pair q p)
  where
    by : (t : Bool) → false ≡ (not t && false)
    by true = refl
    by false = refl
has_less (x ∷ old) p q = by (same_pair p x) (same_pair q p) refl refl (has_less old p q)
  where
    by : (s t : Bool) → same_pair p x ≡ s → same_pair q p ≡ t → has (without old p) q ≡ (not (same_pair q p) && has old q)
        → has (cond (not s) (x ∷ without old p) (without old p)) q ≡ (not t && (same_pair q x || has old q))
    by true true there here rest = rest ∙ ap (λ b. not b && has old q) here
    by true false there here rest =
        rest ∙ ap (λ b. not b && has old q) here ∙ ap (λ b. b || has old q) (sym here ∙ ap (same_pair q) (same_pair_is p x there))
    by false true there here rest =
        ap (λ b. b || has (without old p) q) (ap (λ r. same_pair r x) (same_pair_is q p here) ∙ there) ∙ rest
        ∙ ap (λ b. not b && has old q) here
    by false false there here rest = ap (λ b. same_pair q x || b) (rest ∙ ap (λ b. not b && has old q) here)

module _ (old : List Pair) (p : Pair) where
  at_one : (b : Bool) → has old p ≡ b → (q : Pair) → same_pair q p ≡ true → has old q ≡ b
  at_one b is q same = ap (has old) (same_pair_is q p same) ∙ is

  -- a member that is put in changes nothing
  pub insert_member : has old p ≡ true → Moves old [] old (old ++ p ∷ [])
  insert_member is = (λ q. refl, λ q. by (same_pair q p) (has old q) (at_one true is q) ∙ sym (has_more old p q))
    where
      by : (t h : Bool) → (t ≡ true → h ≡ true) → h ≡ (t || h)
      by true h at = at refl
      by false h at = refl

  pub insert_other : (new : List Pair) → has old p ≡ false → IsFlipped old p new → Moves old (p ∷ []) new (old ++ p ∷ [])
  insert_other new is flipped =
      (lead_one old new p flipped, λ q. flipped q ∙ by (same_pair q p) (has old q) (at_one false is q) ∙ sym (has_more old p q))
    where
      by : (t h : Bool) → (t ≡ true → h ≡ false) → differ t h ≡ (t || h)
      by true h at = ap not (at refl)
      by false h at = refl

  pub remove_member : (new : List Pair) → has old p ≡ true → IsFlipped old p new → Moves old (p ∷ []) new (without old p)
  remove_member new is flipped =
      (lead_one old new p flipped, λ q. flipped q ∙ by (same_pair q p) (has old q) (at_one true is q) ∙ sym (has_less old p q))
    where
      by : (t h : Bool) → (t ≡ true → h ≡ true) → differ t h ≡ (not t && h)
      by true h at = ap not (at refl)
      by false h at = refl

  -- a pair that is no member is taken out for nothing
  pub remove_other : has old p ≡ false → Moves old [] old (without old p)
  remove_other is = (λ q. refl, λ q. by (same_pair q p) (has old q) (at_one false is q) ∙ sym (has_less old p q))
    where
      by : (t h : Bool) → (t ≡ true → h ≡ false) → h ≡ (not t && h)
      by true h at = at refl
      by false h at = refl

all_members : (test : Pair → Bool) (a : List Pair) → ((p : Pair) → has a p ≡ true → test p ≡ true) → list_all test a ≡ true
all_members test [] each = refl
all_members test (x ∷ a) each =
    and_from (test x) (list_all test a) (each x (ap (λ b. b || has a x) (same_pair_itself x)))
    (all_members test a (λ p h. each p (ap (λ b. same_pair p x || b) h ∙ or_true (same_pair p x))))

-- sets with the same members pass the test of it
pub pairs_alike : (a b : List Pair) → HaveSame a b → same_pairs a b ≡ true
pairs_alike a b same =
    and_from (list_all (has b) a) (list_all (has a) b) (all_members (has b) a (λ p h. sym (same p) ∙ h))
    (all_members (has a) b (λ p h. same p ∙ h))

differ_none : (s t : Bool) → differ t (differ s false) ≡ false → s ≡ t
differ_none true true e = refl
differ_none false false e = refl
differ_none true false e = e
differ_none false true e = sym e

differ_cancels : (s t h : Bool) → differ s h ≡ differ t h → s ≡ t
differ_cancels s t h e = sym (part s) ∙ ap (λ b. differ b h) e ∙ part t
  where
    part : (r : Bool) → differ (differ r h) h ≡ r
    part r = differ-assoc r h h ∙ ap (differ r) (ap (differ h) (differ-turned false h) ∙ differ_twice h false) ∙ differ-turned r false

-- flips of two lists that leave nothing together lead to the same members
pub alike_told : (alike : Bool) (mid net a b : List Pair) → ((alike ≡ true) ↔ (net ≡ [])) → Leads [] a mid → Leads mid b net
    → TellsAlike alike a b
alike_told true mid net a b empty first next old x y to_x to_y =
    let none : net ≡ [] = empty.0 refl in
    let agree : (q : Pair) → flips a q ≡ flips b q =
    λ q. differ_none (flips a q) (flips b q) (ap (differ (flips b q)) (sym (first q)) ∙ sym (next q) ∙ ap (λ l. has l q) none) in
    sym (pairs_alike x y (λ q. to_x q ∙ ap (λ t. differ t (has old q)) (agree q) ∙ sym (to_y q)))
alike_told false mid [] a b empty first next old x y to_x to_y = absurd (true≢false (sym (empty.1 refl)))
alike_told false mid (p ∷ net) a b empty first next old x y to_x to_y = sym (false_from_ne_true (same_pairs x y) apart)
  where
    apart : same_pairs x y ≡ true → ⊥
    apart same =
        let one : flips a p ≡ flips b p =
        differ_cancels (flips a p) (flips b p) (has old p) (sym (to_x p) ∙ (same_from_test x y same).members p ∙ to_y p) in
        let there : true ≡ differ (flips b p) (differ (flips a p) false) =
        sym (ap (λ b. b || has net p) (same_pair_itself p)) ∙ next p ∙ ap (differ (flips b p)) (first p) in
        true≢false (there ∙ ap (λ t. differ (flips b p) (differ t false)) one ∙ differ_twice (flips b p) false)

-- what is tested at the end of a task
pub end_held : (empty : Bool) (held after : List Pair) → ((empty ≡ true) ↔ (held ≡ [])) → HaveSame held after
    → held_fails after ≡ (if empty then [] else HeldAtEnd ∷ [])
end_held true held [] is same = refl
end_held true held (p ∷ after) is same =
    absurd (true≢false (sym (ap (λ b. b || has after p) (same_pair_itself p)) ∙ sym (same p) ∙ ap (λ l. has l p) (is.0 refl)))
end_held false held (p ∷ after) is same = refl
end_held false [] [] is same = absurd (true≢false (sym (is.1 refl)))
end_held false (p ∷ held) [] is same = absurd (true≢false (sym (ap (λ b. b || has held p) (same_pair_itself p)) ∙ same p))
