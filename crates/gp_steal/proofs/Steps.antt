-- The steps on a word keep the rule: a try of a desk, putting back, a look, collecting. A step touches one view and at
-- most one desk. Every other desk stands as before, since no list of the views has it more or less often (Alike); what
-- a view says of the words stays true, since no desk's word falls. Of the desk that is touched the rule is shown anew.
use Rattle.std.proofs.Common.{◌≡◌, ◌≢◌, ℕ, zero, suc, ◌+◌, ◌<◌, ◌≤◌, ◌==◌, nat_lt, Bool, true, false, cond, List, [], ◌∷◌, ◌++◌, length, get_or, set, sym, refl, ap, ◌∙◌, subst, arith, length-set, get_or-set_other, get_or-set_same, lt_of_not-le}
use Rattle.std.specs.Prelude.{sum_by, slice_get, Some}
use Rattle.std.proofs.lemmas.Option.{slice_get_within}
use Rattle.std.proofs.lemmas.Bool.{ltb-false, ne_eqb}
use mathlib.Core.Option.{some, none}
use mathlib.Core.Option as maybe
use mathlib.Core.Logic.{dite}
use native.Mathlib.Decide.{ℕ_discrete, dec_le}
use prog.Atomic.{either}
use lib.ListN.{get_elem?}
use lib.Seq.{set-get_or}
use Rattle.atomic_table.specs.Table.{State, Me, step, keeps, takes, gives, stepped, Allows}
use Rattle.atomic_table.proofs.Lists.{set_here, set_else}
use Rattle.desk_board.specs.declared.view.About.{About}
use Rattle.gp_steal.specs.Rule.{View, claimed, done, collected, claims, ViewOk, DeskOk, Kept}
use Rattle.desk_board.specs.declared.view.BoardSetup.{BoardSetup}
use Rattle.desk_board.specs.declared.view.Slot.{Slot}
use Rattle.desk_board.specs.declared.view.Slot.TheVariants.{Todo, Done}
use Rattle.desk_board.specs.Rule.{times, about_of}
use Rattle.desk_board.specs.Told.{without, NoneTwice, book_took, IsRunAt}
use Rattle.gp_steal.specs.Told.{hand_tried, hand_claimed, hand_finished, book_looked, TriedFrom, tried, finished, looked}
use Rattle.desk_board.specs.Views.{took, TookFrom}
use Rattle.desk_board.proofs.Tallies.{tally_set, tally_same, tally_one_more, tally_part, times_append, times_more, times_else, without_same, without_else, without_le}
use Rattle.gp_steal.proofs.Hands.{Up, swept_within, swept_words, hand_stays}
use Rattle.desk_board.proofs.OneView.{job_fits, told_about, told_inside, alone_got, alone_held, alone_taken}
use Rattle.desk_board.proofs.Places.{got, found_set, each_set}
use Rattle.gp_steal.proofs.Stages.{stage_stays, is_waiting, is_claimed, is_done, past_done, word_low, claimed_at_most, claimed_past}

module _ {J W R : Type 0} (fits : W → J → Type 0) (is_run : W → J → R → Type 0) (plan : BoardSetup J W) where
  abbrev V : Type 0
  V = View J W

  abbrev St : Type 0
  St = State (Slot J R) (View J W)

  abbrev Known : Type 0
  Known = Me (Slot J R) (View J W)

  abbrev Homes : Type 0
  Homes = List (maybe.Option (Slot J R))

  abbrev jobs : List J
  jobs = plan.jobs.value.items

  abbrev Rule : St → Type 0
  Rule = Kept fits is_run plan

  -- each list has desk j as often as before
  abbrev Alike : ℕ → V → V → Type 0
  Alike j v w =
      (times j w.hand.claimed ≡ times j v.hand.claimed) × (times j w.hand.held ≡ times j v.hand.held)
      × (times j w.book.taken ≡ times j v.book.taken)

  abbrev desk_at : List ℕ → Homes → List V → ℕ → J → Type 0
  desk_at words homes views k job = DeskOk is_run plan.with.value (record { words = words; homes = homes; views = views }) k job

  -- a step that touches desk k alone
  desks_after : (s : St) (r : Rule s) (words' : List ℕ) (homes' : Homes) (id : ℕ) (v w : V) (k : ℕ) → get_elem? s.views id ≡ some v
      → ((j : ℕ) → j ≢ k → get_or words' (j + 1) 0 ≡ get_or s.words (j + 1) 0)
      → ((j : ℕ) → j ≢ k → get_elem? homes' j ≡ get_elem? s.homes j) → ((j : ℕ) → j ≢ k → Alike j v w)
      → ((job : J) → slice_get jobs k ≡ Some job → desk_at words' homes' (set s.views id w) k job)
      → (j : ℕ) (job : J) → slice_get jobs j ≡ Some job → desk_at words' homes' (set s.views id w) j job
  desks_after s r words' homes' id v w k at ws hs alike here j job has = dite (ℕ_discrete j k)
      (λ e. subst (λ (z : ℕ). (y : J) → slice_get jobs z ≡ Some y → desk_at words' homes' (set s.views id w) z y) (sym e) here job has)
      (λ ne. let was = r.each_desk j job has in let a = alike j ne in (
        was.0,
        stage_stays is_run plan.with.value job _ _ _ _ _ _ _ _ _ _ (ws j ne) (hs j ne)
            (tally_same (λ x. times j x.hand.claimed) s.views id v w at a.0) (tally_same (λ x. times j x.hand.held) s.views id v w at a.1)
            (tally_same (λ x. times j x.book.taken) s.views id v w at a.2) was.0 was.1,
      ))

  view_stays : (words words' : List ℕ) (v : V) → Up words words' → ViewOk is_run (about_of plan) words v
      → ViewOk is_run (about_of plan) words' v
  view_stays words words' v up ok = record {
    same = ok.same;
    knows = ok.knows;
    idle = ok.idle;
    own = ok.own;
    hand = hand_stays (length jobs) words words' v.hand.swept v.hand.tried up ok.hand;
    others = ok.others;
    seen = λ k h. (let a = ok.seen k h in let b = up k in omega arith);
  }

  views_after : (s : St) (r : Rule s) (words' : List ℕ) (id : ℕ) (w : V) → Up s.words words' → ViewOk is_run (about_of plan) words' w
      → (j : ℕ) (x : V) → get_elem? (set s.views id w) j ≡ some x → ViewOk is_run (about_of plan) words' x
  views_after s r words' id w up mine =
      each_set (ViewOk is_run (about_of plan) words') s.views id w mine (λ j x e. view_stays s.words words' x up (r.each_view j x e))

  -- all views together have no desk twice as claimed
  pub claimed_by_all : (s : St) (r : Rule s) (k : ℕ) → claims s.views k ≤ 1
  claimed_by_all s r k = dite (dec_le (length jobs) k) (λ l. let z = r.beyond k l in omega arith)
      (λ n. let g = got jobs k (lt_of_not-le n) in let was = r.each_desk k g.0 g.1 in
      claimed_at_most is_run plan.with.value g.0 _ _ _ _ _ was.0 was.1)

  -- no view has a desk twice as claimed
  pub none_twice : (s : St) (r : Rule s) (id : ℕ) (v : V) → get_elem? s.views id ≡ some v → NoneTwice v.hand.claimed
  none_twice s r id v at k = omega (arith, claimed_by_all s r k, tally_part (λ (x : V). times k x.hand.claimed) s.views id v at)

  -- a word of a desk that is set to no less
  up_at : (words : List ℕ) (k n : ℕ) → k + 1 < length words → get_or words (k + 1) 0 ≤ n → Up words (set words (k + 1) n)
  up_at words k n wide l j = dite (ℕ_discrete j k)
      (λ e. subst (λ (z : ℕ). get_or words (z + 1) 0 ≤ get_or (set words (k + 1) n) (z + 1) 0) (sym e)
      (let here = get_or-set_same words (k + 1) n 0 wide in omega arith))
      (λ ne. let other = get_or-set_other words (k + 1) (j + 1) n 0 (λ e. ne (omega arith)) in omega arith)

  -- a desk that is to do is claimed
  claims_desk : (s : St) (r : Rule s) (id : ℕ) (v : V) (carried : List (ℕ × Slot J R)) (k : ℕ) (job : J) → get_elem? s.views id ≡ some v
      → 1 ≤ v.hand.share → slice_get jobs k ≡ Some job → get_or s.words (k + 1) 0 ≡ 0
      → (get_elem? s.homes k ≡ some (some (Todo job)))
      × Rule (stepped s (k + 1) 1 id carried (record v { hand = hand_claimed k v.hand }) (takes k (Todo job)))
  claims_desk s r id v carried k job at part has free =
      let w : V = record v { hand = hand_claimed k v.hand } in let inside : k < length jobs = slice_get_within jobs k job has in
      let words' : List ℕ = set s.words (k + 1) 1 in let homes' : Homes = set s.homes k none in let wide = r.wide in let deep = r.deep in
      let was = r.each_desk k job has in
      let st = is_waiting is_run plan.with.value job _ _ _ _ _ free was.0 was.1 in
      let old = r.each_view id v at in
      let here : get_or words' (k + 1) 0 ≡ 1 = get_or-set_same s.words (k + 1) 1 0 (omega arith) in
      let else_same : (j : ℕ) → j ≢ k → get_or words' (j + 1) 0 ≡ get_or s.words (j + 1) 0 =
      λ j ne. get_or-set_other s.words (k + 1) (j + 1) 1 0 (λ e. ne (omega arith)) in
      let up : Up s.words words' = up_at s.words k 1 (omega arith) (omega arith) in (
        st.1,
        record {
          all_fit = r.all_fit;
          few = r.few;
          wide = length-set s.words (k + 1) 1 ∙ wide;
          deep = length-set s.homes k none ∙ deep;
          beside = get_or-set_other s.words (k + 1) 0 1 0 (λ e. omega arith) ∙ r.beside;
          shares = tally_same (λ x. x.hand.share) s.views id v w at refl ∙ r.shares;
          clerks = tally_same (λ x. x.book.clerk) s.views id v w at refl ∙ r.clerks;
          beyond =
              λ j l. tally_same (λ x. times j x.hand.claimed) s.views id v w at (times_else j k v.hand.claimed (λ e. omega arith))
              ∙ r.beyond j l;
          each_desk = desks_after s r words' homes' id v w k at else_same (λ j ne. set_else s.homes k j none ne)
              (λ j ne. (times_else j k v.hand.claimed ne, times_else j k v.hand.held ne, refl))
              (λ y e. (
                claimed,
                (
                  here,
                  set_here s.homes k none (omega arith),
                  tally_one_more (λ x. times k x.hand.claimed) s.views id v w at (times_more k v.hand.claimed)
                      ∙ ap (λ (z : ℕ). z + 1) st.2,
                  tally_one_more (λ x. times k x.hand.held) s.views id v w at (times_more k v.hand.held)
                      ∙ ap (λ (z : ℕ). z + 1) st.3,
                  tally_same (λ x. times k x.book.taken) s.views id v w at refl ∙ st.4,
                ),
              ));
          each_view = views_after s r words' id w up record {
            same = old.same;
            knows = old.knows;
            idle = λ z. absurd (omega arith);
            own = λ j. (let z = old.own j in omega (arith, z, times_append j v.hand.held (k ∷ []), times_append j v.hand.claimed (k ∷ [])));
            hand = record {
              within = swept_within k v.hand.swept (length jobs) inside old.hand.within;
              below = swept_words words' k v.hand.swept (λ d l. let a = old.hand.below d l in let b = up d in omega arith) (omega arith);
              last = λ l. absurd (omega arith);
            };
            others = old.others;
            seen = λ j h. (let a = old.seen j h in let b = up j in omega arith);
          };
        },
      )

  -- no desk is touched: the words are read, and what a view has in hand or on its books changes
  reads : (s : St) (r : Rule s) (i id : ℕ) (v w : V) → get_elem? s.views id ≡ some v → w.hand.share ≡ v.hand.share
      → w.hand.claimed ≡ v.hand.claimed → w.hand.held ≡ v.hand.held
      → w.book.clerk ≡ v.book.clerk → w.book.taken ≡ v.book.taken → ViewOk is_run (about_of plan) s.words w
      → Rule record { words = set s.words i (get_or s.words i 0); homes = s.homes; views = set s.views id w }
  reads s r i id v w at share own held clerk taken ok =
      subst (λ (ws : List ℕ). Rule record { words = ws; homes = s.homes; views = set s.views id w }) (sym (set-get_or s.words i 0)) record {
        all_fit = r.all_fit;
        few = r.few;
        wide = r.wide;
        deep = r.deep;
        beside = r.beside;
        shares = tally_same (λ x. x.hand.share) s.views id v w at share ∙ r.shares;
        clerks = tally_same (λ x. x.book.clerk) s.views id v w at clerk ∙ r.clerks;
        beyond = λ j l. tally_same (λ x. times j x.hand.claimed) s.views id v w at (ap (times j) own) ∙ r.beyond j l;
        each_desk =
            desks_after s r s.words s.homes id v w (length jobs) at (λ j ne. refl) (λ j ne. refl)
            (λ j ne. (ap (times j) own, ap (times j) held, ap (times j) taken))
            (λ y e. absurd (let i = slice_get_within jobs (length jobs) y e in omega arith));
        each_view = views_after s r s.words id w (λ k. omega arith) ok;
      }

  -- a desk that was claimed before is tried
  tries : (s : St) (r : Rule s) (id : ℕ) (v : V) (k found : ℕ) → get_elem? s.views id ≡ some v → k < length jobs
      → get_or s.words (k + 1) 0 ≡ found → 1 ≤ found
      → Rule record {
        words = set s.words (k + 1) (get_or s.words (k + 1) 0);
        homes = s.homes;
        views = set s.views id (record v { hand = hand_tried k found v.hand });
      }
  tries s r id v k found at inside is taken =
      let old = r.each_view id v at in
      reads s r (k + 1) id v (record v { hand = hand_tried k found v.hand }) at refl refl refl refl refl record {
        same = old.same;
        knows = old.knows;
        idle = old.idle;
        own = old.own;
        hand = record {
          within = swept_within k v.hand.swept (length jobs) inside old.hand.within;
          below = swept_words s.words k v.hand.swept old.hand.below (omega arith);
          last = λ l. omega arith;
        };
        others = old.others;
        seen = old.seen;
      }

  either_zero : (n : ℕ) → n ≡ 0 → either (n == 0) 1 n ≡ 1
  either_zero zero e = refl
  either_zero (suc n) e = absurd (omega arith)

  either_more : (n : ℕ) → 1 ≤ n → either (n == 0) 1 n ≡ n
  either_more n l = ap (λ b. either b 1 n) (ne_eqb n 0 (λ e. omega arith))

  pub claims_or_fails : (slots id : ℕ) (me : Known) (k : ℕ) (about : About J W) → me.0.about ≡ Some about → k < length about.jobs
      → 1 ≤ me.0.hand.share
      → Allows Rule slots id me (k + 1) (λ n. either (n == 0) 1 n) (tried fits (step slots (k + 1) 0 1 none) me)
  claims_or_fails slots id me k about is inside' part s r deep at in_range =
      let v = me.0 in let n : ℕ = get_or s.words (k + 1) 0 in
      let inside : k < length jobs = told_inside r id v at about is k inside' in
      dite (ℕ_discrete n 0)
      (λ free. let w : V = record v { hand = hand_claimed k v.hand } in let g = got jobs k inside in
      let did = claims_desk s r id v me.1 k g.0 at part g.1 free in (
        w,
        takes k (Todo g.0),
        did.0,
        subst (λ (x : ℕ). Rule (stepped s (k + 1) x id me.1 w (takes k (Todo g.0)))) (sym (either_zero n free)) did.1,
        λ j about' e is'. let same : k ≡ j = omega arith in
            subst (λ (z : ℕ × About J W). TriedFrom fits z.1 z.0 me n (w, (k, Todo g.0) ∷ me.1))
            (λ i. (same i, sym (told_about r id v at about' is') i)) (
              (λ _. (
                g.0,
                g.1,
                job_fits r k g.0 g.1,
                refl,
                none_twice (stepped s (k + 1) 1 id me.1 w (takes k (Todo g.0))) did.1 id w (found_set s.views id v w at),
              )),
              λ l. absurd (omega arith),
            ),
      ))
      (λ busy. let w : V = record v { hand = hand_tried k n v.hand } in (
        w,
        keeps,
        tt,
        subst (λ (x : ℕ). Rule (stepped s (k + 1) x id me.1 w keeps)) (sym (either_more n (omega arith)))
            (tries s r id v k n at inside refl (omega arith)),
        λ j about' e is'. let same : k ≡ j = omega arith in
            subst (λ (z : ℕ × About J W). TriedFrom fits z.1 z.0 me n (w, me.1)) (λ i. (same i, sym (told_about r id v at about' is') i))
            ((λ z. absurd (busy z)), λ _. refl),
      ))

  pub finishes : (slots id : ℕ) (v : V) (carried : List (ℕ × Slot J R)) (k : ℕ) (run : R) (about : About J W) → v.about ≡ Some about
      → IsRunAt is_run about k run → 1 ≤ times k v.hand.held
      → Allows Rule slots id (v, (k, Done run) ∷ carried) (k + 1) (λ _. 2)
      (λ _. finished (step slots (k + 1) 2 0 none) (v, (k, Done run) ∷ carried) 2)
  finishes slots id v carried k run about is ran mine s r deep' at in_range =
      let w : V = record v { hand = hand_finished k v.hand } in
      let words' : List ℕ = set s.words (k + 1) 2 in
      let homes' : Homes = set s.homes k (some (Done run)) in
      let wide = r.wide in let deep = r.deep in let old = r.each_view id v at in
      let job = ran.0 in let known : (slice_get jobs k ≡ Some job) × is_run plan.with.value job run =
      subst (λ (a : About J W). (slice_get a.jobs k ≡ Some job) × is_run a.with job run) (told_about r id v at about is) (ran.1, ran.2) in
      let inside : k < length jobs = slice_get_within jobs k job known.0 in
      let helds : times k v.hand.held ≤ sum_by (λ x. times k x.hand.held) s.views = tally_part (λ x. times k x.hand.held) s.views id v at in
      let was = r.each_desk k job known.0 in let st = is_claimed is_run plan.with.value job _ _ _ _ _ (omega arith) was.0 was.1 in
      let before = st.0 in
      let here : get_or words' (k + 1) 0 ≡ 2 = get_or-set_same s.words (k + 1) 2 0 (omega arith) in
      let else_same : (j : ℕ) → j ≢ k → get_or words' (j + 1) 0 ≡ get_or s.words (j + 1) 0 =
      λ j ne. get_or-set_other s.words (k + 1) (j + 1) 2 0 (λ e. ne (omega arith)) in
      let up : Up s.words words' = up_at s.words k 2 (omega arith) (omega arith) in
      let moved = tally_set (λ (x : V). times k x.hand.held) s.views id v w at in
      let gone : times k w.hand.held ≡ 0 = without_same k v.hand.held in let once = st.3 in (
        w,
        gives,
        tt,
        record {
          all_fit = r.all_fit;
          few = r.few;
          wide = length-set s.words (k + 1) 2 ∙ wide;
          deep = length-set s.homes k (some (Done run)) ∙ deep;
          beside = get_or-set_other s.words (k + 1) 0 2 0 (λ e. omega arith) ∙ r.beside;
          shares = tally_same (λ x. x.hand.share) s.views id v w at refl ∙ r.shares;
          clerks = tally_same (λ x. x.book.clerk) s.views id v w at refl ∙ r.clerks;
          beyond = λ j l. tally_same (λ x. times j x.hand.claimed) s.views id v w at refl ∙ r.beyond j l;
          each_desk = desks_after s r words' homes' id v w k at else_same (λ j ne. set_else s.homes k j (some (Done run)) ne)
              (λ j ne. (refl, without_else j k v.hand.held ne, refl))
              (λ y e. let same : job ≡ y = cc in (
                done,
                (
                  here,
                  (run, set_here s.homes k (some (Done run)) (omega arith), subst (λ (z : J). is_run plan.with.value z run) same known.1),
                  tally_same (λ x. times k x.hand.claimed) s.views id v w at refl ∙ st.2,
                  omega (arith, moved, gone, once, helds, mine),
                  tally_same (λ x. times k x.book.taken) s.views id v w at refl ∙ st.4,
                ),
              ));
          each_view = views_after s r words' id w up record {
            same = old.same;
            knows = old.knows;
            idle = λ z. (let i = old.idle z in (i.0, ap (without k) i.1));
            own = λ j. (let z = old.own j in omega (arith, z, without_le j k v.hand.held));
            hand = hand_stays (length jobs) s.words words' v.hand.swept v.hand.tried up old.hand;
            others = old.others;
            seen = λ j h. (let a = old.seen j h in let b = up j in omega arith);
          };
        },
        λ j e. let same : k ≡ j = omega arith in
            subst (λ (z : ℕ). (w, carried) ≡ (let m : Known = (record v { hand = hand_finished z v.hand }, carried) in m)) same refl,
      )

  -- a desk that was seen as done is done
  saw : (words : List ℕ) (k : ℕ) (seen : List ℕ) → ((j : ℕ) → 0 < times j seen → 2 ≤ get_or words (j + 1) 0)
      → (b : Bool) → nat_lt (get_or words (k + 1) 0) 2 ≡ b → (j : ℕ) → 0 < times j (cond b seen (seen ++ k ∷ []))
      → 2 ≤ get_or words (j + 1) 0
  saw words k seen old true e j h = old j h
  saw words k seen old false e j h = dite (ℕ_discrete j k)
      (λ same. subst (λ (z : ℕ). 2 ≤ get_or words (z + 1) 0) (sym same) (ltb-false (get_or words (k + 1) 0) 2 e))
      (λ ne. old j (omega (arith, h, times_else j k seen ne)))

  pub looks : (slots id : ℕ) (me : Known) (k : ℕ) (about : About J W) → me.0.about ≡ Some about → k < length about.jobs
      → Allows Rule slots id me (k + 1) (λ n. n) (looked (step slots (k + 1) 0 0 none) me)
  looks slots id me k about is inside' s r deep at in_range =
      let v = me.0 in
      let n : ℕ = get_or s.words (k + 1) 0 in
      let old = r.each_view id v at in
      let w : V = record v { book = book_looked k n v.book } in
      let inside : k < length jobs = told_inside r id v at about is k inside' in
      let g = got jobs k inside in let was = r.each_desk k g.0 g.1 in (
        w,
        keeps,
        tt,
        reads s r (k + 1) id v w at refl refl refl refl refl record {
          same = old.same;
          knows = old.knows;
          idle = old.idle;
          own = old.own;
          hand = old.hand;
          others = old.others;
          seen = saw s.words k v.book.seen old.seen (nat_lt n 2) refl;
        },
        λ j about' e is'. let same : k ≡ j = omega arith in let known = told_about r id v at about' is' in (
          subst (λ (z : ℕ). (let m : Known = (w, me.1) in m) ≡ (record v { book = book_looked z n v.book }, me.1)) same refl,
          word_low is_run plan.with.value g.0 _ _ _ _ _ was.0 was.1,
          λ whole.
              let all : v.hand.swept ≡ length jobs = whole.1 ∙ ap (λ (a : About J W). length a.jobs) known in (
                past_done is_run plan.with.value g.0 _ _ _ _ _ (old.hand.below k (omega arith))
                    (alone_held r id v at whole.0 k ∙ ap (times k) whole.2) was.0 was.1,
                (
                  λ d l. let below = told_inside r id v at about' is' d l in
                      let y = got jobs d below in let then = r.each_desk d y.0 y.1 in
                      sym (alone_got r id v at whole.0 d)
                      ∙ claimed_past is_run plan.with.value y.0 _ _ _ _ _ (old.hand.below d (omega arith)) then.0 then.1,
                  λ d l. let past : length jobs ≤ d = subst (λ (a : About J W). length a.jobs ≤ d) known l in
                      let part = tally_part (λ (x : V). times d x.hand.claimed) s.views id v at in
                      let none = r.beyond d past in
                      omega (arith, part, none),
                ),
              ),
        ),
      )

  pub collects : (slots id : ℕ) (me : Known) (k : ℕ) (about : About J W) → me.0.about ≡ Some about → k < length about.jobs
      → me.0.book.clerk ≡ 1 → 0 < times k me.0.book.seen → times k me.0.book.taken ≡ 0
      → Allows Rule slots id me (k + 1) (λ _. 3) (λ _. took is_run (step slots (k + 1) 3 0 none) me 3)
  collects slots id me k about is inside' clerk was_seen fresh s r deep' at in_range =
      let v = me.0 in let w : V = record v { book = book_took k v.book } in let old = r.each_view id v at in
      let inside : k < length jobs = told_inside r id v at about is k inside' in
      let words' : List ℕ = set s.words (k + 1) 3 in let homes' : Homes = set s.homes k none in let wide = r.wide in let deep = r.deep in
      let g = got jobs k inside in let was = r.each_desk k g.0 g.1 in
      let alone = alone_taken r id v at clerk k in
      let st = is_done is_run plan.with.value g.0 _ _ _ _ _ (old.seen k was_seen) (alone ∙ fresh) was.0 was.1 in
      let run = st.1.0 in
      let before = st.0 in
      let here : get_or words' (k + 1) 0 ≡ 3 = get_or-set_same s.words (k + 1) 3 0 (omega arith) in
      let else_same : (j : ℕ) → j ≢ k → get_or words' (j + 1) 0 ≡ get_or s.words (j + 1) 0 =
      λ j ne. get_or-set_other s.words (k + 1) (j + 1) 3 0 (λ e. ne (omega arith)) in
      let up : Up s.words words' = up_at s.words k 3 (omega arith) (omega arith) in (
        w,
        takes k (Done run),
        st.1.1,
        record {
          all_fit = r.all_fit;
          few = r.few;
          wide = length-set s.words (k + 1) 3 ∙ wide;
          deep = length-set s.homes k none ∙ deep;
          beside = get_or-set_other s.words (k + 1) 0 3 0 (λ e. omega arith) ∙ r.beside;
          shares = tally_same (λ x. x.hand.share) s.views id v w at refl ∙ r.shares;
          clerks = tally_same (λ x. x.book.clerk) s.views id v w at refl ∙ r.clerks;
          beyond = λ j l. tally_same (λ x. times j x.hand.claimed) s.views id v w at refl ∙ r.beyond j l;
          each_desk = desks_after s r words' homes' id v w k at else_same (λ j ne. set_else s.homes k j none ne)
              (λ j ne. (refl, refl, times_else j k v.book.taken ne))
              (λ y e. (
                collected,
                (
                  here,
                  set_here s.homes k none (omega arith),
                  tally_same (λ x. times k x.hand.claimed) s.views id v w at refl ∙ st.2,
                  tally_same (λ x. times k x.hand.held) s.views id v w at refl ∙ st.3,
                  tally_one_more (λ x. times k x.book.taken) s.views id v w at (times_more k v.book.taken) ∙ ap (λ (z : ℕ). z + 1) st.4,
                ),
              ));
          each_view = views_after s r words' id w up record {
            same = old.same;
            knows = old.knows;
            idle = old.idle;
            own = old.own;
            hand = hand_stays (length jobs) s.words words' v.hand.swept v.hand.tried up old.hand;
            others = λ z. absurd (omega arith);
            seen = λ j h. (let a = old.seen j h in let b = up j in omega arith);
          };
        },
        λ j about' e is'. let same : k ≡ j = omega arith in
            subst (λ (z : ℕ × About J W). TookFrom is_run z.1 z.0 me (w, (k, Done run) ∷ me.1))
            (λ i. (same i, sym (told_about r id v at about' is') i)) (g.0, run, g.1, st.1.2, refl),
      )
