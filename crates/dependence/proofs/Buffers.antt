-- What stands of a history buffer while positions are applied and undone. The state of a buffer is the fold of the
-- members of a set. A position that is applied late enters the set: by the law of insertion the fold with it is the
-- fold so far and then the position, and each other member finds what it found before. A part that is closed under
-- later conflict leaves the set: by the law of removal its histories undo it, and the rest finds what it found.
use Rattle.std.proofs.Common.{◌≡◌, inl, inr, ℕ, zero, suc, ◌+◌, ◌<◌, ◌≤◌, Bool, true, false, cond, [], nat_eq, ◌&&◌, ◌||◌, Some, None, refl, sym, ◌∙◌, ap, arith, add-one}
use Rattle.std.proofs.lemmas.Bool.{false≢true, both_ways, cases_eq, cases_lt, eq-eqb, ne_eqb, and_parts, and_from, or_right}
use Rattle.task_ast.specs.meaning.State.{Location, State}
use Rattle.task_ast.specs.meaning.Effect.{after}
use Rattle.task_ast.specs.History.{old_of}
use Rattle.task_ast.specs.Fold.{Member, applied, fold}
use Rattle.dependence.specs.Histories.{HasCells}
use Rattle.dependence.specs.Touching.{Agree, done_by}
use Rattle.dependence.specs.Insertion.{with_position}
use Rattle.dependence.specs.Removal.{without, done_in, history_in, undone, undone_part, ClosedAfter, IsPart}
use Rattle.dependence.specs.Buffer.{Buffer, BufferStands, buffer_with, buffer_without}
use Rattle.dependence.proofs.Folds.{Kept, outside, history_same, fold_same, insertion, removal, fold_later, fold_rest, rest_agrees}

module _ (Writes Sees : ℕ → Location → Type 0) (Clash : ℕ → ℕ → Type 0) (members : ℕ → Member) (kept : Kept Writes Sees Clash members)
    (opening : State) (set : ℕ → Bool) (low front : ℕ) (buffer : Buffer)
    (stands : BufferStands Clash members opening set low front buffer) where
  -- what a position that comes late finds is what it would have found in its place
  pub late-finds : (p : ℕ) → p < front → set p ≡ false → Agree (Sees p) (fold members opening set front) (fold members opening set p)
  late-finds p below out = fold_later Writes Sees Clash members kept opening set p front (omega arith) free
    where
      free : (q : ℕ) → p ≤ q → q < front → set q ≡ true → Clash p q → ⊥
      free q l m e clash =
          elim (cases_eq p q) [
            | inl same ↦ both_ways (set q) (ap set (sym same) ∙ out) e
            | inr ne ↦ both_ways (set p) out (stands.closed p q (omega arith) e clash)
          ]

  -- a position that is out is not in conflict with a member after it, and all its earlier conflicts are members
  module _ (p : ℕ) (young : low ≤ p) (below : p < front) (out : set p ≡ false) (ready : (q : ℕ) → q < p → Clash q p → set q ≡ true) where
    abbrev more : ℕ → Bool
    more = with_position set p

    unchanged : (n : ℕ) → n ≤ p → (q : ℕ) → q < n → set q ≡ more q
    unchanged n l q k = rw (ne_eqb q p (λ e. omega arith)) refl

    -- each other member finds in its place what it found before
    others_agree : (q : ℕ) → (q ≡ p → ⊥) → set q ≡ true → Agree (Sees q) (fold members opening set q) (fold members opening more q)
    others_agree q ne e place t =
        elim (cases_lt q p) [
          | inl l ↦ ap (λ s. s place) (fold_same Writes Sees Clash members kept opening set more q (unchanged q (omega arith)))
          | inr l ↦
              (let later : p < q = omega arith in
              sym (outside Writes Sees Clash members kept p (fold members opening set q) place
              (λ w. both_ways (set p) out (stands.closed p q later e (kept.writes_first p q place w t))))
              ∙ ap (λ s. s place) (insertion Writes Sees Clash members kept opening set p q stands.closed out later))
        ]

    -- and so does the position itself
    here_agrees : Agree (Sees p) buffer.state (fold members opening more p)
    here_agrees place t =
        ap (λ s. s place) stands.state_is
        ∙ (late-finds p below out place t ∙ ap (λ s. s place)
        (fold_same Writes Sees Clash members kept opening set more p (unchanged p (omega arith))))

    -- it is applied
    pub applied-stands : BufferStands Clash members opening more low front (buffer_with p (done_by (members p) buffer.state) buffer)
    applied-stands =
        record {
          state_is =
              ap (applied (members p)) stands.state_is
              ∙ insertion Writes Sees Clash members kept opening set p front stands.closed out below;
          histories_are = λ q l e. elim (cases_eq q p) [
            | inl same ↦
                rw (same, eq-eqb p p refl)
                (ap Some (history_same Writes Sees Clash members kept p buffer.state (fold members opening more p) here_agrees))
            | inr ne ↦ rw (ne_eqb q p ne) (stands.histories_are q l (rw (ne_eqb q p ne) at e)
                ∙ ap Some (history_same Writes Sees Clash members kept q (fold members opening set q) (fold members opening more q)
                (others_agree q ne (rw (ne_eqb q p ne) at e))))
          ];
          lines_are = λ q l e. elim (cases_eq q p) [
            | inl same ↦
                rw (same, eq-eqb p p refl) (ap (λ d. d.prints) ((kept.keeps p).same buffer.state (fold members opening more p) here_agrees))
            | inr ne ↦ rw (ne_eqb q p ne) (stands.lines_are q l (rw (ne_eqb q p ne) at e)
                ∙ ap (λ d. d.prints) ((kept.keeps q).same (fold members opening set q) (fold members opening more q)
                (others_agree q ne (rw (ne_eqb q p ne) at e))))
          ];
          others_have_none = λ q l e. elim (cases_eq q p) [
            | inl same ↦ absurd (false≢true (sym e ∙ ap (λ b. b || set q) (eq-eqb q p same)))
            | inr ne ↦ rw (ne_eqb q p ne) (stands.others_have_none q l (rw (ne_eqb q p ne) at e))
          ];
          closed = λ q r l e clash. elim (cases_eq r p) [
            | inl same ↦ or_right (nat_eq q p) (set q) (ready q (omega arith) (rw same at clash))
            | inr ne ↦ or_right (nat_eq q p) (set q) (stands.closed q r l (rw (ne_eqb r p ne) at e) clash)
          ];
          below = λ q e. elim (cases_eq q p) [ inl same ↦ omega arith | inr ne ↦ stands.below q (rw (ne_eqb q p ne) at e) ];
        }

    -- what another position was given that is out stays as it is
    pub applied-finds : (q : ℕ) → (q ≡ p → ⊥) → set q ≡ false → ((r : ℕ) → r < q → Clash r q → set r ≡ true)
        → Agree (Sees q) (applied (members p) buffer.state) buffer.state
    applied-finds q ne lacks other place t = outside Writes Sees Clash members kept p buffer.state place free
      where
        free : Writes p place → ⊥
        free w =
            elim (cases_lt p q) [
              | inl l ↦ both_ways (set p) out (other p l (kept.writes_first p q place w t))
              | inr l ↦ both_ways (set q) lacks (ready q (omega arith) (kept.writes_second q p place t w))
            ]

  -- a part that is closed under later conflict is undone
  module _ (cells : HasCells opening) (part : ℕ → Bool) (late : (q : ℕ) → q < low → part q ≡ false)
      (closed_part : (q r : ℕ) → q < r → r < front → part q ≡ true → Clash q r → part r ≡ true) where
    abbrev both : ℕ → Bool
    both q = part q && set q

    inside : IsPart both set
    inside q e = (and_parts (part q) (set q) e).1

    closed_both : ClosedAfter Clash set both
    closed_both q r l e f clash = and_from (part r) (set r) (closed_part q r l (stands.below r f) (and_parts (part q) (set q) e).0 clash) f

    alike : (n : ℕ) → fold members opening (without set both) n ≡ fold members opening (without set part) n
    alike n = fold_same Writes Sees Clash members kept opening (without set both) (without set part) n (λ q l. go (part q) (set q))
      where
        go : (b c : Bool) → cond (b && c) false c ≡ cond b false c
        go true true = refl
        go true false = refl
        go false c = refl

    -- only members are undone
    same_undone : (n : ℕ) → n ≤ front → (s : State)
        → undone_part buffer.histories part n s ≡ undone_part (λ p. Some (history_in members opening set p)) both n s
    same_undone zero l s = refl
    same_undone (suc p) l s =
        ap (undone_part buffer.histories part p) (go (part p) (set p) refl refl)
        ∙ same_undone p (omega arith) (cond (both p) (after (history_in members opening set p) s) s)
      where
        from : part p ≡ true → low ≤ p
        from e = elim (cases_lt p low) [ inl k ↦ absurd (both_ways (part p) (late p k) e) | inr k ↦ k ]

        go : (b c : Bool) → part p ≡ b → set p ≡ c
            → cond b (undone (buffer.histories p) s) s ≡ cond (b && c) (after (history_in members opening set p) s) s
        go false c e f = refl
        go true true e f = ap (λ h. undone h s) (stands.histories_are p (from e) f)
        go true false e f = ap (λ h. undone h s) (stands.others_have_none p (from e) f)

    rest_finds : (q : ℕ) → part q ≡ false → set q ≡ true
        → Agree (Sees q) (fold members opening set q) (fold members opening (without set part) q)
    rest_finds q f e place t =
        rest_agrees Writes Sees Clash members kept opening set both q closed_both inside e (rw f refl) place t ∙ ap (λ s. s place) (alike q)

    pub undone-stands : BufferStands Clash members opening (without set part) low front (buffer_without part front buffer)
    undone-stands =
        record {
          state_is =
              ap (undone_part buffer.histories part front) stands.state_is
              ∙ (same_undone front (omega arith) (fold members opening set front)
              ∙ (removal Writes Sees Clash members kept opening cells set both front closed_both inside ∙ alike front));
          histories_are = λ q l e. histories_are q l (part q) refl e;
          lines_are = λ q l e. lines_are q l (part q) refl e;
          others_have_none = λ q l e. others q l (part q) refl e;
          closed = λ q r l e clash. closed q r l clash (part r) (part q) refl refl e;
          below = λ q e. below q (part q) e;
        }
      where
        histories_are : (q : ℕ) → low ≤ q → (b : Bool) → part q ≡ b → cond b false (set q) ≡ true
            → cond b None (buffer.histories q) ≡ Some (history_in members opening (without set part) q)
        histories_are q l true f e = absurd (false≢true e)
        histories_are q l false f e =
            stands.histories_are q l e
            ∙ ap Some (history_same Writes Sees Clash members kept q (fold members opening set q)
            (fold members opening (without set part) q) (rest_finds q f e))

        lines_are : (q : ℕ) → low ≤ q → (b : Bool) → part q ≡ b → cond b false (set q) ≡ true
            → cond b [] (buffer.lines q) ≡ (done_in members opening (without set part) q).prints
        lines_are q l true f e = absurd (false≢true e)
        lines_are q l false f e =
            stands.lines_are q l e
            ∙ ap (λ d. d.prints) ((kept.keeps q).same (fold members opening set q)
            (fold members opening (without set part) q) (rest_finds q f e))

        others : (q : ℕ) → low ≤ q → (b : Bool) → part q ≡ b → cond b false (set q) ≡ false → cond b None (buffer.histories q) ≡ None
        others q l true f e = refl
        others q l false f e = stands.others_have_none q l e

        closed : (q r : ℕ) → q < r → Clash q r → (b c : Bool) → part r ≡ b → part q ≡ c → cond b false (set r) ≡ true
            → cond c false (set q) ≡ true
        closed q r l clash true c e f g = absurd (false≢true g)
        closed q r l clash false true e f g = absurd (both_ways (part r) e (closed_part q r l (stands.below r g) f clash))
        closed q r l clash false false e f g = stands.closed q r l g clash

        below : (q : ℕ) → (b : Bool) → cond b false (set q) ≡ true → q < front
        below q true g = absurd (false≢true g)
        below q false g = stands.below q g

-- the fold asks of the members only those of the set
pub fold_members : (members others : ℕ → Member) (opening : State) (set : ℕ → Bool) (n : ℕ)
    → ((p : ℕ) → p < n → set p ≡ true → members p ≡ others p)
    → fold members opening set n ≡ fold others opening set n
fold_members members others opening set zero same = refl
fold_members members others opening set (suc n) same =
    go (set n) refl (fold_members members others opening set n (λ p l. same p (omega arith)))
  where
    go : (b : Bool) → set n ≡ b → fold members opening set n ≡ fold others opening set n
        → cond b (applied (members n) (fold members opening set n)) (fold members opening set n)
        ≡ cond b (applied (others n) (fold others opening set n)) (fold others opening set n)
    go true e ih = rw (same n (omega arith) e) (ap (applied (others n)) ih)
    go false e ih = ih

-- members may be others where they are not in the set
pub members-stand : (Clash : ℕ → ℕ → Type 0) (members others : ℕ → Member) (opening : State) (set : ℕ → Bool) (low front : ℕ)
    (buffer : Buffer) → ((p : ℕ) → set p ≡ true → members p ≡ others p)
    → BufferStands Clash members opening set low front buffer → BufferStands Clash others opening set low front buffer
members-stand Clash members others opening set low front buffer same stands =
    record {
      state_is = stands.state_is ∙ fold_members members others opening set front (λ p l. same p);
      histories_are = λ p l e. stands.histories_are p l e
          ∙ ap Some ((λ i. old_of (done_by (same p e i) (below p i)) (below p i)));
      lines_are = λ p l e. stands.lines_are p l e ∙ (λ i. (done_by (same p e i) (below p i)).prints);
      others_have_none = stands.others_have_none;
      closed = stands.closed;
      below = stands.below;
    }
  where
    below : (p : ℕ) → fold members opening set p ≡ fold others opening set p
    below p = fold_members members others opening set p (λ q l. same q)

-- what a position outside of a part finds, which is not in the set, stays as it is when the part is undone
pub undone-finds : (Writes Sees : ℕ → Location → Type 0) (Clash : ℕ → ℕ → Type 0) (members : ℕ → Member)
    (kept : Kept Writes Sees Clash members)
    (opening : State) (set : ℕ → Bool) (low front : ℕ) (buffer : Buffer)
    → BufferStands Clash members opening set low front buffer → HasCells opening → (part : ℕ → Bool) → ((q : ℕ) → q < low → part q ≡ false)
    → ((q r : ℕ) → q < r → r < front → part q ≡ true → Clash q r → part r ≡ true)
    → (q : ℕ) → q < front → set q ≡ false → part q ≡ false
    → Agree (Sees q) (undone_part buffer.histories part front buffer.state) buffer.state
undone-finds Writes Sees Clash members kept opening set low front buffer stands cells part late closed_part q below out free place t =
    ap (λ s. s place) after_undo.state_is
    ∙ (late-finds Writes Sees Clash members kept opening (without set part) low front (buffer_without part front buffer) after_undo q below
    (rw (free, out) refl) place t
    ∙ (ap (λ s. s place) (sym (alike Writes Sees Clash members kept opening set low front buffer stands cells part late closed_part q))
    ∙ (sym (fold_rest Writes Sees Clash members kept opening set (λ r. part r && set r) q
    (closed_both Writes Sees Clash members kept opening set low front buffer stands cells part late closed_part)
    (inside Writes Sees Clash members kept opening set low front buffer stands cells part late closed_part)
    place (λ r l e w. both_ways (part q) free (closed_part r q l below (and_parts (part r) (set r) e).0 (kept.writes_first r q place w t))))
    ∙ (sym (late-finds Writes Sees Clash members kept opening set low front buffer stands q below out place t)
    ∙ ap (λ s. s place) (sym stands.state_is)))))
  where
    after_undo : BufferStands Clash members opening (without set part) low front (buffer_without part front buffer)
    after_undo = undone-stands Writes Sees Clash members kept opening set low front buffer stands cells part late closed_part

-- one more position below the front
pub front-stands : (Clash : ℕ → ℕ → Type 0) (members : ℕ → Member) (opening : State) (set : ℕ → Bool) (low front : ℕ) (buffer : Buffer)
    → BufferStands Clash members opening set low front buffer → BufferStands Clash members opening set low (front + 1) buffer
front-stands Clash members opening set low front buffer stands =
    record {
      state_is = stands.state_is ∙ more (set front) refl;
      histories_are = stands.histories_are;
      lines_are = stands.lines_are;
      others_have_none = stands.others_have_none;
      closed = stands.closed;
      below = λ q e. (let l = stands.below q e in omega arith);
    }
  where
    more : (b : Bool) → set front ≡ b → fold members opening set front ≡ fold members opening set (front + 1)
    more true e = absurd (let l = stands.below front e in omega arith)
    more false e = rw (add-one, e) refl

-- a fold that misses nobody is the fold of all
pub fold_all : (members : ℕ → Member) (opening : State) (set : ℕ → Bool) (n : ℕ) → ((p : ℕ) → p < n → set p ≡ true)
    → fold members opening set n ≡ fold members opening (λ p. true) n
fold_all members opening set zero all = refl
fold_all members opening set (suc n) all =
    rw (all n (omega arith)) (ap (applied (members n)) (fold_all members opening set n (λ p l. all p (omega arith))))
