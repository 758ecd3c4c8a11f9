-- The steps on a word keep the rule: draw, put back, look, collect. A step touches one view and at most one desk. Every
-- other desk stands as before, since no list of the views has it more or less often (Alike); what a view says of the
-- words stays true, since the counter does not fall and a desk that is done stays so. Of the desk that is touched the
-- rule is shown anew.
use Rattle.std.proofs.Common.{◌≡◌, ◌≢◌, ℕ, ◌+◌, ◌%◌, ◌^◌, ◌<◌, ◌≤◌, eqb, Bool, true, false, cond, List, [], ◌∷◌, ◌++◌, length, get_or, set, sym, refl, ap, ◌∙◌, subst, arith, eq-eqb, length-set, get_or-set_other, get_or-set_same, lt_of_not-le, true≢false}
use Rattle.std.specs.Prelude.{sum_by, All, slice_get, Option, Some, None, IfSome}
use Rattle.std.proofs.lemmas.Option.{slice_get_within}
use mathlib.Core.Option.{some, none, some-injective, some-ne-none}
use mathlib.Core.Option as maybe
use mathlib.Core.Logic.{dite}
use native.Mathlib.Decide.{ℕ_discrete, dec_le}
use lib.ListN.{get_elem?}
use lib.Seq.{set-get_or}
use Rattle.atomic_table.specs.Table.{State, Me, step, keeps, takes, gives, stepped, Allows}
use Rattle.atomic_table.proofs.Lists.{set_here, set_else}
use Rattle.desk_board.specs.declared.view.About.{About}
use Rattle.desk_board.specs.declared.view.Book.{Book}
use Rattle.desk_board.specs.Rule.{View, times, live, drawn, done, collected, about_of, drawns, ViewOk, DeskOk, Kept}
use Rattle.desk_board.specs.declared.view.BoardSetup.{BoardSetup}
use Rattle.desk_board.specs.declared.view.Slot.{Slot}
use Rattle.desk_board.specs.declared.view.Slot.TheVariants.{Todo, Done}
use Rattle.desk_board.specs.Told.{without, hand_drew, hand_ended, hand_finished, book_looked, book_took, DrewFrom, drew, finished, looked, IsRunAt, NoneTwice}
use Rattle.desk_board.specs.Views.{took, TookFrom}
use Rattle.desk_board.proofs.Tallies.{tally_set, tally_same, tally_one_more, tally_part, tally_le, times_append, times_more, times_else, without_same, without_else, without_le, all_from_times}
use Rattle.desk_board.proofs.Hands.{ended_stays, live_none, live_share}
use Rattle.desk_board.proofs.OneView.{job_fits, told_about, told_inside, alone_got, alone_held, alone_taken}
use Rattle.desk_board.proofs.Places.{got, found_set, each_set}
use Rattle.desk_board.proofs.Stages.{stage_stays, is_waiting, is_drawn, is_done, past_done, word_low, drawn_at_most, drawn_past, is_below}

module _ {J W R : Type 0} (fits : W → J → Type 0) (is_run : W → J → R → Type 0) (plan : BoardSetup J W) where
  abbrev V : Type 0
  V = View J W

  abbrev St : Type 0
  St = State (Slot J R) (View J W)

  abbrev Known : Type 0
  Known = Me (Slot J R) (View J W)

  abbrev Homes : Type 0
  Homes = List (maybe.Option (Slot J R))

  abbrev jobs : List J
  jobs = plan.jobs.value.items

  abbrev Rule : St → Type 0
  Rule = Kept fits is_run plan

  -- each list has desk j as often as before
  abbrev Alike : ℕ → V → V → Type 0
  Alike j v w =
      (times j w.hand.drawn ≡ times j v.hand.drawn) × (times j w.hand.held ≡ times j v.hand.held)
      × (times j w.book.taken ≡ times j v.book.taken)

  abbrev desk_at : List ℕ → Homes → List V → ℕ → J → Type 0
  desk_at words homes views k job = DeskOk is_run plan.with.value (record { words = words; homes = homes; views = views }) k job

  -- a step that touches desk k alone
  desks_after : (s : St) (r : Rule s) (words' : List ℕ) (homes' : Homes) (id : ℕ) (v w : V) (k : ℕ) → get_elem? s.views id ≡ some v
      → get_or s.words 0 0 ≤ get_or words' 0 0 → ((j : ℕ) → j ≢ k → j < length jobs → get_or s.words 0 0 ≤ j → get_or words' 0 0 ≤ j)
      → ((j : ℕ) → j ≢ k → get_or words' (j + 1) 0 ≡ get_or s.words (j + 1) 0)
      → ((j : ℕ) → j ≢ k → get_elem? homes' j ≡ get_elem? s.homes j) → ((j : ℕ) → j ≢ k → Alike j v w)
      → ((job : J) → slice_get jobs k ≡ Some job → desk_at words' homes' (set s.views id w) k job)
      → (j : ℕ) (job : J) → slice_get jobs j ≡ Some job → desk_at words' homes' (set s.views id w) j job
  desks_after s r words' homes' id v w k at up down ws hs alike here j job has = dite (ℕ_discrete j k)
      (λ e. subst (λ (z : ℕ). (y : J) → slice_get jobs z ≡ Some y → desk_at words' homes' (set s.views id w) z y) (sym e) here job has)
      (λ ne. let was = r.each_desk j job has in let a = alike j ne in (
        was.0,
        stage_stays is_run plan.with.value j job _ _ _ _ _ _ _ _ _ _ _ _ up
            (down j ne (slice_get_within jobs j job has)) (ws j ne) (hs j ne)
            (tally_same (λ x. times j x.hand.drawn) s.views id v w at a.0) (tally_same (λ x. times j x.hand.held) s.views id v w at a.1)
            (tally_same (λ x. times j x.book.taken) s.views id v w at a.2) was.0 was.1,
      ))

  view_stays : (words words' : List ℕ) (v : V) → get_or words 0 0 ≤ get_or words' 0 0
      → ((k : ℕ) → 1 ≤ get_or words (k + 1) 0 → 1 ≤ get_or words' (k + 1) 0) → ViewOk is_run (about_of plan) words v
      → ViewOk is_run (about_of plan) words' v
  view_stays words words' v up more ok = record {
    same = ok.same;
    knows = ok.knows;
    idle = ok.idle;
    own = ok.own;
    hand = ended_stays v.hand.ticket (length jobs) (get_or words 0 0) (get_or words' 0 0) up ok.hand;
    others = ok.others;
    seen = λ k h. more k (ok.seen k h);
  }

  views_after : (s : St) (r : Rule s) (words' : List ℕ) (id : ℕ) (w : V) → get_or s.words 0 0 ≤ get_or words' 0 0
      → ((k : ℕ) → 1 ≤ get_or s.words (k + 1) 0 → 1 ≤ get_or words' (k + 1) 0) → ViewOk is_run (about_of plan) words' w
      → (j : ℕ) (x : V) → get_elem? (set s.views id w) j ≡ some x → ViewOk is_run (about_of plan) words' x
  views_after s r words' id w up more mine =
      each_set (ViewOk is_run (about_of plan) words') s.views id w mine (λ j x e. view_stays s.words words' x up more (r.each_view j x e))

  -- the desks that a seat has drawn lie below the counter
  below_counter : (s : St) (r : Rule s) (id : ℕ) (v : V) → get_elem? s.views id ≡ some v → All (λ d. d < get_or s.words 0 0) v.hand.drawn
  below_counter s r id v at = all_from_times (λ d. d < get_or s.words 0 0) v.hand.drawn (λ d h.
      let p : times d v.hand.drawn ≤ sum_by (λ x. times d x.hand.drawn) s.views = tally_part (λ x. times d x.hand.drawn) s.views id v at in
      dite (dec_le (length jobs) d) (λ l. absurd (let z = r.beyond d l in omega arith))
      (λ n. let g = got jobs d (lt_of_not-le n) in let was = r.each_desk d g.0 g.1 in
      is_below is_run plan.with.value d g.0 _ _ _ _ _ _ (omega arith) was.0 was.1))

  -- all views together have no desk twice as drawn
  pub drawn_by_all : (s : St) (r : Rule s) (k : ℕ) → drawns s.views k ≤ 1
  drawn_by_all s r k = dite (dec_le (length jobs) k) (λ l. let z = r.beyond k l in omega arith)
      (λ n. let g = got jobs k (lt_of_not-le n) in let was = r.each_desk k g.0 g.1 in
      drawn_at_most is_run plan.with.value k g.0 _ _ _ _ _ _ was.0 was.1)

  -- no view has a desk twice as drawn
  pub none_twice : (s : St) (r : Rule s) (id : ℕ) (v : V) → get_elem? s.views id ≡ some v → NoneTwice v.hand.drawn
  none_twice s r id v at k = omega (arith, drawn_by_all s r k, tally_part (λ (x : V). times k x.hand.drawn) s.views id v at)

  -- a ticket below the number of jobs
  draws_desk : (s : St) (r : Rule s) (id : ℕ) (v : V) (carried : List (ℕ × Slot J R)) (job : J) → get_elem? s.views id ≡ some v
      → v.hand.ticket ≡ None → 1 ≤ v.hand.share → slice_get jobs (get_or s.words 0 0) ≡ Some job
      → (get_elem? s.homes (get_or s.words 0 0) ≡ some (some (Todo job)))
      × Rule (stepped s 0 (get_or s.words 0 0 + 1) id carried (record v { hand = hand_drew (get_or s.words 0 0) v.hand })
      (takes (get_or s.words 0 0) (Todo job)))
  draws_desk s r id v carried job at fresh part has =
      let n : ℕ = get_or s.words 0 0 in
      let w : V = record v { hand = hand_drew n v.hand } in
      let inside : n < length jobs = slice_get_within jobs n job has in
      let words' : List ℕ = set s.words 0 (n + 1) in let homes' : Homes = set s.homes n none in let wide = r.wide in let deep = r.deep in
      let was = r.each_desk n job has in
      let st = is_waiting is_run plan.with.value n job _ _ _ _ _ _ (omega arith) was.0 was.1 in
      let old = r.each_view id v at in
      let counter : get_or words' 0 0 ≡ n + 1 = get_or-set_same s.words 0 (n + 1) 0 (omega arith) in
      let words_same : (j : ℕ) → get_or words' (j + 1) 0 ≡ get_or s.words (j + 1) 0 =
      λ j. get_or-set_other s.words 0 (j + 1) (n + 1) 0 (λ e. omega arith) in
      let is_live = live_none v.hand fresh in let lives : live w.hand ≡ live v.hand = refl in
      let parts : live v.hand ≤ sum_by (λ x. live x.hand) s.views = tally_part (λ x. live x.hand) s.views id v at in
      let all_lives = tally_same (λ x. live x.hand) s.views id v w at lives in let low = r.beside in (
        st.2,
        record {
          all_fit = r.all_fit;
          few = r.few;
          wide = length-set s.words 0 (n + 1) ∙ wide;
          deep = length-set s.homes n none ∙ deep;
          shares = tally_same (λ x. x.hand.share) s.views id v w at refl ∙ r.shares;
          clerks = tally_same (λ x. x.book.clerk) s.views id v w at refl ∙ r.clerks;
          beside =
              (let most = tally_le (λ (x : V). live x.hand) (λ x. x.hand.share) s.views (λ x. live_share x.hand) in let all = r.shares in
              omega (arith, counter, all_lives, most, all));
          beyond =
              λ j l. tally_same (λ x. times j x.hand.drawn) s.views id v w at (times_else j n v.hand.drawn (λ e. omega arith))
              ∙ r.beyond j l;
          each_desk =
              desks_after s r words' homes' id v w n at (omega arith) (λ j ne l a. omega arith) (λ j ne. words_same j)
              (λ j ne. set_else s.homes n j none ne)
              (λ j ne. (times_else j n v.hand.drawn ne, times_else j n v.hand.held ne, refl))
              (λ y e. (
                drawn,
                (
                  omega arith,
                  words_same n
                      ∙ st.1,
                  set_here s.homes n none (omega arith),
                  tally_one_more (λ x. times n x.hand.drawn) s.views id v w at (times_more n v.hand.drawn)
                      ∙ ap (λ (z : ℕ). z + 1) st.3,
                  tally_one_more (λ x. times n x.hand.held) s.views id v w at (times_more n v.hand.held)
                      ∙ ap (λ (z : ℕ). z + 1) st.4,
                  tally_same (λ x. times n x.book.taken) s.views id v w at refl ∙ st.5,
                ),
              ));
          each_view = views_after s r words' id w (omega arith) (λ k h. omega (arith, words_same k, h)) record {
            same = old.same;
            knows = old.knows;
            idle = λ z. absurd (omega arith);
            own = λ k. (let z = old.own k in omega (arith, z, times_append k v.hand.held (n ∷ []), times_append k v.hand.drawn (n ∷ [])));
            hand = subst (λ (o : Option ℕ). IfSome o (λ t. (length jobs ≤ t) × (length jobs ≤ get_or words' 0 0))) (sym fresh) tt;
            others = old.others;
            seen = λ k h. (let z = old.seen k h in omega (arith, words_same k, z));
          };
        },
      )

  -- a ticket past the last job
  ends_pass : (s : St) (r : Rule s) (id : ℕ) (v : V) (carried : List (ℕ × Slot J R)) → get_elem? s.views id ≡ some v → v.hand.ticket ≡ None
      → 1 ≤ v.hand.share → length jobs ≤ get_or s.words 0 0
      → Rule (stepped s 0 (get_or s.words 0 0 + 1) id carried (record v { hand = hand_ended (get_or s.words 0 0) v.hand }) keeps)
  ends_pass s r id v carried at fresh part past =
      let n : ℕ = get_or s.words 0 0 in let w : V = record v { hand = hand_ended n v.hand } in
      let words' : List ℕ = set s.words 0 (n + 1) in let wide = r.wide in let old = r.each_view id v at in
      let counter : get_or words' 0 0 ≡ n + 1 = get_or-set_same s.words 0 (n + 1) 0 (omega arith) in
      let words_same : (j : ℕ) → get_or words' (j + 1) 0 ≡ get_or s.words (j + 1) 0 =
      λ j. get_or-set_other s.words 0 (j + 1) (n + 1) 0 (λ e. omega arith) in
      let is_live = live_none v.hand fresh in
      let lives = tally_set (λ (x : V). live x.hand) s.views id v w at in
      let low = r.beside in
      record {
        all_fit = r.all_fit;
        few = r.few;
        wide = length-set s.words 0 (n + 1) ∙ wide;
        deep = r.deep;
        shares = tally_same (λ x. x.hand.share) s.views id v w at refl ∙ r.shares;
        clerks = tally_same (λ x. x.book.clerk) s.views id v w at refl ∙ r.clerks;
        beside = omega (arith, counter, is_live, lives, low, part);
        beyond = λ j l. tally_same (λ x. times j x.hand.drawn) s.views id v w at refl ∙ r.beyond j l;
        each_desk =
            desks_after s r words' s.homes id v w (length jobs) at (omega arith) (λ j ne l a. absurd (omega arith)) (λ j ne. words_same j)
            (λ j ne. refl) (λ j ne. (refl, refl, refl))
            (λ y e. absurd (let i = slice_get_within jobs (length jobs) y e in omega arith));
        each_view = views_after s r words' id w (omega arith) (λ k h. omega (arith, words_same k, h)) record {
          same = old.same;
          knows = old.knows;
          idle = old.idle;
          own = old.own;
          hand = (past, omega arith);
          others = old.others;
          seen = λ k h. (let z = old.seen k h in omega (arith, words_same k, z));
        };
      }

  pub draws : (slots id : ℕ) (me : Known) → me.0.hand.ticket ≡ None → 1 ≤ me.0.hand.share
      → Allows Rule slots id me 0 (λ n. (n + 1) % 2 ^ 64) (drew fits (step slots 0 1 0 none) me)
  draws slots id me fresh part s r deep at in_range =
      let n : ℕ = get_or s.words 0 0 in let v = me.0 in let few = r.few in let low = r.beside in let is_live = live_none v.hand fresh in
      let parts : live v.hand ≤ sum_by (λ x. live x.hand) s.views = tally_part (λ x. live x.hand) s.views id v at in
      let next : n + 1 ≡ (n + 1) % 18446744073709551616 = omega (arith, few, low, is_live, parts, part) in
      dite (dec_le (length jobs) n)
      (λ past. let w : V = record v { hand = hand_ended n v.hand } in (
        w,
        keeps,
        tt,
        subst (λ (x : ℕ). Rule (stepped s 0 x id me.1 w keeps)) next (ends_pass s r id v me.1 at fresh part past),
        λ about is. subst (λ (a : About J W). DrewFrom fits a me n (w, me.1)) (sym (told_about r id v at about is))
            ((λ l. absurd (omega arith)), λ _. refl),
      ))
      (λ no. let w : V = record v { hand = hand_drew n v.hand } in let g = got jobs n (lt_of_not-le no) in
      let did = draws_desk s r id v me.1 g.0 at fresh part g.1 in (
        w,
        takes n (Todo g.0),
        did.0,
        subst (λ (x : ℕ). Rule (stepped s 0 x id me.1 w (takes n (Todo g.0)))) next did.1,
        λ about is. subst (λ (a : About J W). DrewFrom fits a me n (w, (n, Todo g.0) ∷ me.1)) (sym (told_about r id v at about is)) (
          (λ _. (
            g.0,
            g.1,
            job_fits r n g.0 g.1,
            refl,
            below_counter s r id v at,
            none_twice (stepped s 0 (n + 1) id me.1 w (takes n (Todo g.0))) did.1 id w (found_set s.views id v w at),
          )),
          λ l.
              absurd (no l),
        ),
      ))

  pub finishes : (slots id : ℕ) (v : V) (carried : List (ℕ × Slot J R)) (k : ℕ) (run : R) (about : About J W) → v.about ≡ Some about
      → IsRunAt is_run about k run → 1 ≤ times k v.hand.held
      → Allows Rule slots id (v, (k, Done run) ∷ carried) (k + 1) (λ _. 1)
      (λ _. finished (step slots (k + 1) 1 0 none) (v, (k, Done run) ∷ carried) 1)
  finishes slots id v carried k run about is ran mine s r deep' at in_range =
      let w : V = record v { hand = hand_finished k v.hand } in
      let words' : List ℕ = set s.words (k + 1) 1 in
      let homes' : Homes = set s.homes k (some (Done run)) in
      let wide = r.wide in let deep = r.deep in let old = r.each_view id v at in
      let job = ran.0 in let known : (slice_get jobs k ≡ Some job) × is_run plan.with.value job run =
      subst (λ (a : About J W). (slice_get a.jobs k ≡ Some job) × is_run a.with job run) (told_about r id v at about is) (ran.1, ran.2) in
      let inside : k < length jobs = slice_get_within jobs k job known.0 in
      let helds : times k v.hand.held ≤ sum_by (λ x. times k x.hand.held) s.views = tally_part (λ x. times k x.hand.held) s.views id v at in
      let was = r.each_desk k job known.0 in let st = is_drawn is_run plan.with.value k job _ _ _ _ _ _ (omega arith) was.0 was.1 in
      let counter : get_or words' 0 0 ≡ get_or s.words 0 0 = get_or-set_other s.words (k + 1) 0 1 0 (λ e. omega arith) in
      let here : get_or words' (k + 1) 0 ≡ 1 = get_or-set_same s.words (k + 1) 1 0 (omega arith) in
      let else_same : (j : ℕ) → j ≢ k → get_or words' (j + 1) 0 ≡ get_or s.words (j + 1) 0 =
      λ j ne. get_or-set_other s.words (k + 1) (j + 1) 1 0 (λ e. ne (omega arith)) in
      let rises : (j : ℕ) → 1 ≤ get_or s.words (j + 1) 0 → 1 ≤ get_or words' (j + 1) 0 =
      λ j h. dite (ℕ_discrete j k) (λ e. subst (λ (z : ℕ). 1 ≤ get_or words' (z + 1) 0) (sym e) (omega (arith, here)))
      (λ ne. omega (arith, else_same j ne, h)) in
      let low = r.beside in
      let lives = tally_same (λ x. live x.hand) s.views id v w at refl in
      let moved = tally_set (λ (x : V). times k x.hand.held) s.views id v w at in
      let gone : times k w.hand.held ≡ 0 = without_same k v.hand.held in let once = st.4 in let under = st.0 in (
        w,
        gives,
        tt,
        record {
          all_fit = r.all_fit;
          few = r.few;
          wide = length-set s.words (k + 1) 1 ∙ wide;
          deep = length-set s.homes k (some (Done run)) ∙ deep;
          shares = tally_same (λ x. x.hand.share) s.views id v w at refl ∙ r.shares;
          clerks = tally_same (λ x. x.book.clerk) s.views id v w at refl ∙ r.clerks;
          beside = omega (arith, counter, low, lives);
          beyond = λ j l. tally_same (λ x. times j x.hand.drawn) s.views id v w at refl ∙ r.beyond j l;
          each_desk =
              desks_after s r words' homes' id v w k at (omega (arith, counter)) (λ j ne l a. omega (arith, counter, a)) else_same
              (λ j ne. set_else s.homes k j (some (Done run)) ne)
              (λ j ne. (refl, without_else j k v.hand.held ne, refl))
              (λ y e. let same : job ≡ y = cc in (
                done,
                (
                  omega (arith, counter, under),
                  here,
                  (run, set_here s.homes k (some (Done run)) (omega arith), subst (λ (z : J). is_run plan.with.value z run) same known.1),
                  tally_same (λ x. times k x.hand.drawn) s.views id v w at refl ∙ st.3,
                  omega (arith, moved, gone, once, helds, mine),
                  tally_same (λ x. times k x.book.taken) s.views id v w at refl ∙ st.5,
                ),
              ));
          each_view = views_after s r words' id w (omega (arith, counter)) rises record {
            same = old.same;
            knows = old.knows;
            idle = λ z. (let i = old.idle z in (i.0, ap (without k) i.1));
            own = λ j. (let z = old.own j in omega (arith, z, without_le j k v.hand.held));
            hand = ended_stays v.hand.ticket (length jobs) (get_or s.words 0 0) (get_or words' 0 0) (omega (arith, counter)) old.hand;
            others = old.others;
            seen = λ j h. rises j (old.seen j h);
          };
        },
        λ j e. let same : k ≡ j = omega arith in
            subst (λ (z : ℕ). (w, carried) ≡ (let m : Known = (record v { hand = hand_finished z v.hand }, carried) in m)) same refl,
      )

  -- no desk is touched: the words are read, and one book changes
  reads : (s : St) (r : Rule s) (i id : ℕ) (v : V) (book : Book) → get_elem? s.views id ≡ some v → book.clerk ≡ v.book.clerk
      → book.taken ≡ v.book.taken → ((k : ℕ) → 0 < times k book.seen → 1 ≤ get_or s.words (k + 1) 0)
      → Rule record { words = set s.words i (get_or s.words i 0); homes = s.homes; views = set s.views id (record v { book = book }) }
  reads s r i id v book at clerk taken saw = let w : V = record v { book = book } in let old = r.each_view id v at in
      subst (λ (ws : List ℕ). Rule record { words = ws; homes = s.homes; views = set s.views id w }) (sym (set-get_or s.words i 0)) record {
        all_fit = r.all_fit;
        few = r.few;
        wide = r.wide;
        deep = r.deep;
        shares = tally_same (λ x. x.hand.share) s.views id v w at refl ∙ r.shares;
        clerks = tally_same (λ x. x.book.clerk) s.views id v w at clerk ∙ r.clerks;
        beside = (let low = r.beside in let lives = tally_same (λ x. live x.hand) s.views id v w at refl in omega (arith, low, lives));
        beyond = λ j l. tally_same (λ x. times j x.hand.drawn) s.views id v w at refl ∙ r.beyond j l;
        each_desk =
            desks_after s r s.words s.homes id v w (length jobs) at (omega arith) (λ j ne l a. a) (λ j ne. refl) (λ j ne. refl)
            (λ j ne. (refl, refl, ap (times j) taken))
            (λ y e. absurd (let i = slice_get_within jobs (length jobs) y e in omega arith));
        each_view = views_after s r s.words id w (omega arith) (λ k h. h) record {
          same = old.same;
          knows = λ none. (let was = old.knows none in (was.0, clerk ∙ was.1));
          idle = old.idle;
          own = old.own;
          hand = old.hand;
          others = λ z. taken ∙ old.others (sym clerk ∙ z);
          seen = saw;
        };
      }

  pub looks : (slots id : ℕ) (me : Known) (k : ℕ) (about : About J W) → me.0.about ≡ Some about → k < length about.jobs
      → Allows Rule slots id me (k + 1) (λ n. n) (looked (step slots (k + 1) 0 0 none) me)
  looks slots id me k about is inside' s r deep at in_range =
      let v = me.0 in let n : ℕ = get_or s.words (k + 1) 0 in let old = r.each_view id v at in
      let inside : k < length jobs = told_inside r id v at about is k inside' in
      let g = got jobs k inside in let was = r.each_desk k g.0 g.1 in
      let saw : (b : Bool) → eqb n 0 ≡ b → (j : ℕ) → 0 < times j (cond b v.book.seen (v.book.seen ++ k ∷ []))
      → 1 ≤ get_or s.words (j + 1) 0 =
      λ b. elim b as (λ z. eqb n 0 ≡ z → (j : ℕ) → 0 < times j (cond z v.book.seen (v.book.seen ++ k ∷ []))
      → 1 ≤ get_or s.words (j + 1) 0) [
        | true ↦ λ e j h. old.seen j h
        | false ↦ λ e j h. dite (ℕ_discrete j k)
            (λ same. subst (λ (z : ℕ). 1 ≤ get_or s.words (z + 1) 0) (sym same)
            (dite (ℕ_discrete n 0) (λ z. absurd (true≢false (sym (eq-eqb n 0 z) ∙ e))) (λ z. omega arith)))
            (λ ne. old.seen j (omega (arith, h, times_else j k v.book.seen ne)))
      ] in (
        record v { book = book_looked k n v.book },
        keeps,
        tt,
        reads s r (k + 1) id v (book_looked k n v.book) at refl refl (saw (eqb n 0) refl),
        λ j e. let same : k ≡ j = omega arith in (
          subst (λ (z : ℕ). (let m : Known = (record v { book = book_looked k n v.book }, me.1) in m)
              ≡ (record v { book = book_looked z n v.book }, me.1)) same refl,
          word_low is_run plan.with.value k g.0 _ _ _ _ _ _ was.0 was.1,
          λ whole. let past =
              (subst (λ (o : Option ℕ). IfSome o (λ t. (length jobs ≤ t) × (length jobs ≤ get_or s.words 0 0)))
              whole.1.1 old.hand).1 in
              past_done is_run plan.with.value k g.0 _ _ _ _ _ _ (omega arith)
              (alone_held r id v at whole.0 k ∙ ap (times k) whole.2) was.0 was.1,
          λ about' is' whole d l. let below = told_inside r id v at about' is' d l in
              let past =
              (subst (λ (o : Option ℕ). IfSome o (λ t. (length jobs ≤ t) × (length jobs ≤ get_or s.words 0 0)))
              whole.1.1 old.hand).1 in
              let y = got jobs d below in let then = r.each_desk d y.0 y.1 in
              sym (alone_got r id v at whole.0 d) ∙ drawn_past is_run plan.with.value d y.0 _ _ _ _ _ _ (omega arith) then.0 then.1,
        ),
      )

  pub collects : (slots id : ℕ) (me : Known) (k : ℕ) (about : About J W) → me.0.about ≡ Some about → k < length about.jobs
      → me.0.book.clerk ≡ 1 → 0 < times k me.0.book.seen → times k me.0.book.taken ≡ 0
      → Allows Rule slots id me (k + 1) (λ _. 2) (λ _. took is_run (step slots (k + 1) 2 0 none) me 2)
  collects slots id me k about is inside' clerk saw fresh s r deep' at in_range =
      let v = me.0 in let w : V = record v { book = book_took k v.book } in let old = r.each_view id v at in
      let inside : k < length jobs = told_inside r id v at about is k inside' in
      let words' : List ℕ = set s.words (k + 1) 2 in let homes' : Homes = set s.homes k none in let wide = r.wide in let deep = r.deep in
      let g = got jobs k inside in let was = r.each_desk k g.0 g.1 in
      let alone = alone_taken r id v at clerk k in
      let st = is_done is_run plan.with.value k g.0 _ _ _ _ _ _ (old.seen k saw) (alone ∙ fresh) was.0 was.1 in let run = st.2.0 in
      let counter : get_or words' 0 0 ≡ get_or s.words 0 0 = get_or-set_other s.words (k + 1) 0 2 0 (λ e. omega arith) in
      let here : get_or words' (k + 1) 0 ≡ 2 = get_or-set_same s.words (k + 1) 2 0 (omega arith) in
      let else_same : (j : ℕ) → j ≢ k → get_or words' (j + 1) 0 ≡ get_or s.words (j + 1) 0 =
      λ j ne. get_or-set_other s.words (k + 1) (j + 1) 2 0 (λ e. ne (omega arith)) in
      let rises : (j : ℕ) → 1 ≤ get_or s.words (j + 1) 0 → 1 ≤ get_or words' (j + 1) 0 =
      λ j h. dite (ℕ_discrete j k) (λ e. subst (λ (z : ℕ). 1 ≤ get_or words' (z + 1) 0) (sym e) (omega (arith, here)))
      (λ ne. omega (arith, else_same j ne, h)) in
      let low = r.beside in let lives = tally_same (λ x. live x.hand) s.views id v w at refl in let under = st.0 in (
        w,
        takes k (Done run),
        st.2.1,
        record {
          all_fit = r.all_fit;
          few = r.few;
          wide = length-set s.words (k + 1) 2 ∙ wide;
          deep = length-set s.homes k none ∙ deep;
          shares = tally_same (λ x. x.hand.share) s.views id v w at refl ∙ r.shares;
          clerks = tally_same (λ x. x.book.clerk) s.views id v w at refl ∙ r.clerks;
          beside = omega (arith, counter, low, lives);
          beyond = λ j l. tally_same (λ x. times j x.hand.drawn) s.views id v w at refl ∙ r.beyond j l;
          each_desk =
              desks_after s r words' homes' id v w k at (omega (arith, counter)) (λ j ne l a. omega (arith, counter, a)) else_same
              (λ j ne. set_else s.homes k j none ne)
              (λ j ne. (refl, refl, times_else j k v.book.taken ne))
              (λ y e. (
                collected,
                (
                  omega (arith, counter, under),
                  here,
                  set_here s.homes k none (omega arith),
                  tally_same (λ x. times k x.hand.drawn) s.views id v w at refl ∙ st.3,
                  tally_same (λ x. times k x.hand.held) s.views id v w at refl ∙ st.4,
                  tally_one_more (λ x. times k x.book.taken) s.views id v w at (times_more k v.book.taken) ∙ ap (λ (z : ℕ). z + 1) st.5,
                ),
              ));
          each_view = views_after s r words' id w (omega (arith, counter)) rises record {
            same = old.same;
            knows = old.knows;
            idle = old.idle;
            own = old.own;
            hand = ended_stays v.hand.ticket (length jobs) (get_or s.words 0 0) (get_or words' 0 0) (omega (arith, counter)) old.hand;
            others = λ z. absurd (omega arith);
            seen = λ j h. rises j (old.seen j h);
          };
        },
        λ j about' e is'. let same : k ≡ j = omega arith in
            subst (λ (z : ℕ × About J W). TookFrom is_run z.1 z.0 me (w, (k, Done run) ∷ me.1))
            (λ i. (same i, sym (told_about r id v at about' is') i)) (g.0, run, g.1, st.2.2, refl),
      )
