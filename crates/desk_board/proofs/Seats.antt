-- Views that are cut and put together keep the rule, whatever the kind of board; and it holds of a new board. What the rule sums
-- over all views (shares, the clerk, the desks that were got, are held or taken) a cut or a joining leaves as it is, since the views
-- have together after it what they had before (Adds). So for each way of cutting and joining it is enough that the new
-- views are sound by themselves.
use Rattle.std.proofs.Common.{◌≡◌, ◌≢◌, ℕ, zero, suc, ◌+◌, ◌-◌, ◌≤◌, List, [], ◌∷◌, ◌++◌, map, length, replicate, get_or, set, sym, refl, ap, ◌∙◌, subst, ⊎_elim, arith}
use Rattle.std.specs.Prelude.{sum_by, Some, All}
use Rattle.std.proofs.lemmas.Option.{none-some, slice_get_within}
use mathlib.Core.Option.{some, some-injective, some-ne-none}
use lib.ListN.{get_elem?, length-map, length-replicate, get_or-replicate}
use Rattle.atomic_table.specs.Table.{State, Splits, Joins, opening}
use Rattle.atomic_table.proofs.Lists.{at_set, set_else}
use Rattle.desk_board.specs.declared.view.Book.{Book}
use Rattle.desk_board.specs.declared.view.SeatView.{SeatView}
use Rattle.desk_board.specs.declared.view.BoardSetup.{BoardSetup}
use Rattle.desk_board.specs.declared.view.Slot.{Slot}
use Rattle.desk_board.specs.declared.view.Slot.TheVariants.{Todo}
use Rattle.desk_board.specs.Rule.{times, about_of, no_book, first_book, BoardKind, SeatOk, KeptBy}
use Rattle.desk_board.specs.Views.{Opens, given_up, cut_left, cut_right, pass_part, clerk_part, passes_both, gathered_both}
use Rattle.desk_board.proofs.Tallies.{tally_part, tally_split, tally_join, split_same, join_same, times_append}
use Rattle.desk_board.proofs.Places.{found_set, each_set, each_snoc}
use Rattle.desk_board.proofs.LaidOut.{laid_at}

-- the first seat has every share, and is the clerk
abbrev pub first_seat : {J W H : Type 0} → H → BoardSetup J W → SeatView J W H
first_seat first plan = record { about = Some (about_of plan); hand = first; book = first_book }

-- a new board
abbrev pub start : {J W R H : Type 0} → H → BoardSetup J W → State (Slot J R) (SeatView J W H)
start first plan = opening (replicate (length plan.jobs.value.items + 1) 0) (map Todo plan.jobs.value.items) (first_seat first plan)

-- what is asked of the hands of a kind of board: that of no pass and of the first pass, how a hand is cut and how two become one;
-- and of what else the kind asks of a desk and of a state. `live` is what a state may count of a hand besides, where less is as good
pub record HandLaws {J W R H : Type 0} (kind : BoardKind J W R H) (none first : H) (kept given : H → H) (both : H → H → H)
    (live : H → ℕ) : Type 0 where
  pub none_is : (kind.share none ≡ 0) × (kind.got none ≡ []) × (kind.held none ≡ []) × (live none ≡ 0)
  pub first_is : (kind.share first ≡ 64) × (kind.got first ≡ []) × (kind.held first ≡ [])
  pub kept_is : (h : H) → (kind.share (kept h) ≡ kind.share h - 1) × (kind.got (kept h) ≡ kind.got h) × (kind.held (kept h) ≡ kind.held h)
  pub given_is : (h : H) → (kind.share (given h) ≡ 1) × (kind.got (given h) ≡ []) × (kind.held (given h) ≡ [])
  pub both_is : (h g : H) → (kind.share (both h g) ≡ kind.share h + kind.share g) × (kind.got (both h g) ≡ kind.got h ++ kind.got g)
      × (kind.held (both h g) ≡ kind.held h ++ kind.held g)
  pub cut_live : (h : H) → 2 ≤ kind.share h → live (kept h) + live (given h) ≤ live h
  pub both_live : (h g : H) → live (both h g) ≤ live h + live g
  pub none_ok : (m : ℕ) (words : List ℕ) → kind.HandOk m words none
  pub first_ok : (m : ℕ) (words : List ℕ) → kind.HandOk m words first
  pub kept_ok : (m : ℕ) (words : List ℕ) (h : H) → kind.HandOk m words h → kind.HandOk m words (kept h)
  pub given_ok : (m : ℕ) (words : List ℕ) (h : H) → kind.HandOk m words h → kind.HandOk m words (given h)
  pub both_ok : (m : ℕ) (words : List ℕ) (h g : H) → kind.HandOk m words h → kind.HandOk m words g → kind.HandOk m words (both h g)
  pub beside_stays : (m : ℕ) (s : State (Slot J R) (SeatView J W H)) (views' : List (SeatView J W H))
      → sum_by (λ v. live v.hand) views' ≤ sum_by (λ v. live v.hand) s.views → kind.Beside m s
      → kind.Beside m record { words = s.words; homes = s.homes; views = views' }
  pub desk_stays : (with : W) (s : State (Slot J R) (SeatView J W H)) (views' : List (SeatView J W H)) (k : ℕ) (job : J)
      → sum_by (λ v. times k (kind.got v.hand)) views' ≡ sum_by (λ v. times k (kind.got v.hand)) s.views
      → sum_by (λ v. times k (kind.held v.hand)) views' ≡ sum_by (λ v. times k (kind.held v.hand)) s.views
      → sum_by (λ v. times k v.book.taken) views' ≡ sum_by (λ v. times k v.book.taken) s.views
      → kind.DeskOk with s k job → kind.DeskOk with record { words = s.words; homes = s.homes; views = views' } k job
  pub begins : (plan : BoardSetup J W) → get_or (start {R = R} first plan).words 0 0 ≡ 0
      → kind.Beside (length plan.jobs.value.items) (start {R = R} first plan)
  pub waits : (plan : BoardSetup J W) (k : ℕ) (job : J) → get_or (start {R = R} first plan).words 0 0 ≡ 0
      → get_or (start {R = R} first plan).words (k + 1) 0 ≡ 0 → get_elem? (start {R = R} first plan).homes k ≡ some (some (Todo job))
      → kind.DeskOk plan.with.value (start {R = R} first plan) k job

module _ {J W R H : Type 0} {kind : BoardKind J W R H} {none first : H} {kept given : H → H} {both : H → H → H} {live : H → ℕ}
    (laws : HandLaws kind none first kept given both live) (fits : W → J → Type 0) (plan : BoardSetup J W) where
  abbrev V : Type 0
  V = SeatView J W H

  abbrev St : Type 0
  St = State (Slot J R) V

  abbrev jobs : List J
  jobs = plan.jobs.value.items

  abbrev Rule : St → Type 0
  Rule = KeptBy kind fits plan

  abbrev Ok : List ℕ → V → Type 0
  Ok = SeatOk kind (about_of plan)

  abbrev blank : V
  blank = given_up none

  -- what two views have together is what two others have
  pub record Adds (v u v' u' : V) : Type 0 where
    pub share : kind.share v'.hand + kind.share u'.hand ≡ kind.share v.hand + kind.share u.hand
    pub clerk : v'.book.clerk + u'.book.clerk ≡ v.book.clerk + u.book.clerk
    pub lives : live v'.hand + live u'.hand ≤ live v.hand + live u.hand
    pub gots : (k : ℕ) → times k (kind.got v'.hand) + times k (kind.got u'.hand) ≡ times k (kind.got v.hand) + times k (kind.got u.hand)
    pub helds : (k : ℕ) → times k (kind.held v'.hand) + times k (kind.held u'.hand)
        ≡ times k (kind.held v.hand) + times k (kind.held u.hand)
    pub takens : (k : ℕ) → times k v'.book.taken + times k u'.book.taken ≡ times k v.book.taken + times k u.book.taken

  -- the views change, and nothing that is summed over them
  revised : (s : St) (r : Rule s) (views' : List V) → sum_by (λ x. kind.share x.hand) views' ≡ sum_by (λ x. kind.share x.hand) s.views
      → sum_by (λ x. x.book.clerk) views' ≡ sum_by (λ x. x.book.clerk) s.views
      → sum_by (λ x. live x.hand) views' ≤ sum_by (λ x. live x.hand) s.views
      → ((k : ℕ) → sum_by (λ x. times k (kind.got x.hand)) views' ≡ sum_by (λ x. times k (kind.got x.hand)) s.views)
      → ((k : ℕ) → sum_by (λ x. times k (kind.held x.hand)) views' ≡ sum_by (λ x. times k (kind.held x.hand)) s.views)
      → ((k : ℕ) → sum_by (λ x. times k x.book.taken) views' ≡ sum_by (λ x. times k x.book.taken) s.views)
      → ((j : ℕ) (x : V) → get_elem? views' j ≡ some x → Ok s.words x)
      → Rule record { words = s.words; homes = s.homes; views = views' }
  revised s r views' share clerk lives gots helds takens oks = record {
    all_fit = r.all_fit;
    few = r.few;
    wide = r.wide;
    deep = r.deep;
    shares = share ∙ r.shares;
    clerks = clerk ∙ r.clerks;
    beyond = λ j l. gots j ∙ r.beyond j l;
    beside = laws.beside_stays (length jobs) s views' lives r.beside;
    each_desk = λ j job has. laws.desk_stays plan.with.value s views' j job (gots j) (helds j) (takens j) (r.each_desk j job has);
    each_view = oks;
  }

  forks : (id : ℕ) (v left right : V) → Adds v blank left right → ((words : List ℕ) → Ok words v → Ok words left × Ok words right)
      → Splits Rule id v left right
  forks id v left right adds ok s r at = let oks = ok s.words (r.each_view id v at) in let no = laws.none_is in
      revised s r (set s.views id left ++ right ∷ [])
      (split_same (λ x. kind.share x.hand) s.views id v blank left right at no.0 adds.share)
      (split_same (λ x. x.book.clerk) s.views id v blank left right at refl adds.clerk)
      (let e = adds.lives in let z = no.3 in omega (arith, e, z, tally_split (λ x. live x.hand) s.views id v left right at))
      (λ k. split_same (λ x. times k (kind.got x.hand)) s.views id v blank left right at (ap (times k) no.1) (adds.gots k))
      (λ k. split_same (λ x. times k (kind.held x.hand)) s.views id v blank left right at (ap (times k) no.2) (adds.helds k))
      (λ k. split_same (λ x. times k x.book.taken) s.views id v blank left right at refl (adds.takens k))
      (each_snoc (Ok s.words) (set s.views id left) right oks.1 (each_set (Ok s.words) s.views id left oks.0 r.each_view))

  merges : (id : ℕ) (v : V) (other : ℕ) (u joined spent : V)
      → ((s : St) → Rule s → get_elem? s.views id ≡ some v → other ≢ id → get_elem? (set s.views id joined) other ≡ some u
      → Adds v u joined spent)
      → ((s : St) → Rule s → get_elem? s.views id ≡ some v → get_elem? s.views other ≡ some u → Ok s.words joined × Ok s.words spent)
      → Joins Rule id v other u joined spent
  merges id v other u joined spent added ok s r at apart there =
      let was : get_elem? s.views other ≡ some u = ⊎_elim (λ t. absurd (apart t.0)) (λ t. t.1) (at_set s.views id other joined u there) in
      let oks = ok s r at was in let adds = added s r at apart there in
      revised s r (set (set s.views id joined) other spent)
      (join_same (λ x. kind.share x.hand) s.views id v other u joined spent at there adds.share)
      (join_same (λ x. x.book.clerk) s.views id v other u joined spent at there adds.clerk)
      (let e = adds.lives in omega (arith, e, tally_join (λ x. live x.hand) s.views id v other u joined spent at there))
      (λ k. join_same (λ x. times k (kind.got x.hand)) s.views id v other u joined spent at there (adds.gots k))
      (λ k. join_same (λ x. times k (kind.held x.hand)) s.views id v other u joined spent at there (adds.helds k))
      (λ k. join_same (λ x. times k x.book.taken) s.views id v other u joined spent at there (adds.takens k))
      (each_set (Ok s.words) (set s.views id joined) other spent oks.1 (each_set (Ok s.words) s.views id joined oks.0 r.each_view))

  -- a hand without desks
  bare_own : (h : H) → (kind.got h ≡ []) × (kind.held h ≡ []) → (k : ℕ) → times k (kind.held h) ≤ times k (kind.got h)
  bare_own h e k = (let a = ap (times k) e.0 in let b = ap (times k) e.1 in omega (arith, a, b))

  blank_ok : (words : List ℕ) → Ok words blank
  blank_ok words = let no = laws.none_is in record {
    same = tt;
    knows = λ _. (no.0, refl);
    idle = λ _. (no.1, no.2);
    own = bare_own none (no.1, no.2);
    hand = laws.none_ok (length jobs) words;
    others = λ _. refl;
    seen = λ k h. absurd (omega arith);
  }

  -- the pass of a draw goes on at a new seat
  pub leaves : (id : ℕ) (v : V) → Splits Rule id v blank v
  leaves id v = forks id v blank v record {
    share = omega arith;
    clerk = omega arith;
    lives = omega arith;
    gots = λ k. omega arith;
    helds = λ k. omega arith;
    takens = λ k. omega arith;
  } (λ words ok. (blank_ok words, ok))

  back_to_blank : (id other : ℕ) (u : V) → Joins Rule id blank other u u blank
  back_to_blank id other u = merges id blank other u u blank (λ s r at apart there. record {
    share = omega arith;
    clerk = omega arith;
    lives = omega arith;
    gots = λ k. omega arith;
    helds = λ k. omega arith;
    takens = λ k. omega arith;
  }) (λ s r at was. (r.each_view other u was, blank_ok s.words))

  -- the pass comes to the seat of a desk
  pub comes_back : (id : ℕ) (v : V) (other : ℕ) (u : V) → v ≡ blank → Joins Rule id v other u u blank
  comes_back id v other u e = subst (λ (x : V). Joins Rule id x other u u blank) (sym e) (back_to_blank id other u)

  pub cuts : (id : ℕ) (v : V) → 2 ≤ kind.share v.hand → Splits Rule id v (cut_left kept v) (cut_right given v)
  cuts id v big =
      let no = laws.none_is in let old = laws.kept_is v.hand in let new = laws.given_is v.hand in
      let share : kind.share (kept v.hand) ≡ kind.share v.hand - 1 = old.0 in
      let one : kind.share (given v.hand) ≡ 1 = new.0 in
      let nothing : kind.share none ≡ 0 = no.0 in
      let live_nothing : live none ≡ 0 = no.3 in
      let lives = laws.cut_live v.hand big in
      forks id v (cut_left kept v) (cut_right given v) record {
        share = omega (arith, share, one, nothing, big);
        clerk = omega arith;
        lives = omega (arith, lives, live_nothing);
        gots = λ k. (let a = ap (times k) old.1 in let b = ap (times k) new.1 in let z = ap (times k) no.1 in omega (arith, a, b, z));
        helds = λ k. (let a = ap (times k) old.2 in let b = ap (times k) new.2 in let z = ap (times k) no.2 in omega (arith, a, b, z));
        takens = λ k. omega arith;
      } (λ words ok. (
        record {
          same = ok.same;
          knows = λ e. absurd (let was = (ok.knows e).0 in omega (arith, was, big));
          idle = λ z. absurd (omega (arith, z, share, big));
          own = λ k. (let a = ap (times k) old.1 in let b = ap (times k) old.2 in omega (arith, a, b, ok.own k));
          hand = laws.kept_ok (length jobs) words v.hand ok.hand;
          others = ok.others;
          seen = ok.seen;
        },
        record {
          same = ok.same;
          knows = λ e. absurd (let was = (ok.knows e).0 in omega (arith, was, big));
          idle = λ _. (new.1, new.2);
          own = bare_own (given v.hand) (new.1, new.2);
          hand = laws.given_ok (length jobs) words v.hand ok.hand;
          others = λ _. refl;
          seen = λ k h. absurd (omega arith);
        },
      ))

  -- the first pass and the clerk
  pub opens : (id : ℕ) (v : V) → Splits Rule id v (pass_part v) (clerk_part none v)
  opens id v = let no = laws.none_is in forks id v (pass_part v) (clerk_part none v) record {
    share = omega arith;
    clerk = omega arith;
    lives = omega arith;
    gots = λ k. omega arith;
    helds = λ k. omega arith;
    takens = λ k. omega arith;
  } (λ words ok. (
    record {
      same = ok.same;
      knows = λ e. ((ok.knows e).0, refl);
      idle = ok.idle;
      own = ok.own;
      hand = ok.hand;
      others = λ _. refl;
      seen = λ k h. absurd (omega arith);
    },
    record {
      same = ok.same;
      knows = λ e. (no.0, (ok.knows e).1);
      idle = λ _. (no.1, no.2);
      own = bare_own none (no.1, no.2);
      hand = laws.none_ok (length jobs) words;
      others = ok.others;
      seen = ok.seen;
    },
  ))

  pub joins : (id : ℕ) (v : V) (other : ℕ) (u : V) → 1 ≤ kind.share v.hand → u.book ≡ no_book
      → Joins Rule id v other u (passes_both both v u) blank
  joins id v other u part plain =
      let no = laws.none_is in let sums = laws.both_is v.hand u.hand in
      let share : kind.share (both v.hand u.hand) ≡ kind.share v.hand + kind.share u.hand = sums.0 in
      let nothing : kind.share none ≡ 0 = no.0 in let live_nothing : live none ≡ 0 = no.3 in let lives = laws.both_live v.hand u.hand in
      let gots : (k : ℕ) → times k (kind.got (both v.hand u.hand)) ≡ times k (kind.got v.hand) + times k (kind.got u.hand) =
      λ k. ap (times k) sums.1 ∙ times_append k (kind.got v.hand) (kind.got u.hand) in
      let helds : (k : ℕ) → times k (kind.held (both v.hand u.hand)) ≡ times k (kind.held v.hand) + times k (kind.held u.hand) =
      λ k. ap (times k) sums.2 ∙ times_append k (kind.held v.hand) (kind.held u.hand) in
      merges id v other u (passes_both both v u) blank (λ s r at apart there. record {
        share = omega (arith, share, nothing);
        clerk = (let e = ap (λ (b : Book). b.clerk) plain in omega (arith, e));
        lives = omega (arith, lives, live_nothing);
        gots = λ k. (let z = ap (times k) no.1 in omega (arith, gots k, z));
        helds = λ k. (let z = ap (times k) no.2 in omega (arith, helds k, z));
        takens = λ k. (let e = ap (λ (b : Book). times k b.taken) plain in omega (arith, e));
      }) (λ s r at was. let ok = r.each_view id v at in let ok' = r.each_view other u was in (
        record {
          same = ok.same;
          knows = λ e. absurd (let was = (ok.knows e).0 in omega (arith, was, part));
          idle = λ z. absurd (omega (arith, z, share, part));
          own = λ k. omega (arith, ok.own k, ok'.own k, gots k, helds k);
          hand = laws.both_ok (length jobs) s.words v.hand u.hand ok.hand ok'.hand;
          others = ok.others;
          seen = ok.seen;
        },
        blank_ok s.words,
      ))

  pub gathers : (id : ℕ) (v : V) (other : ℕ) (u : V) → v.book.clerk ≡ 1 → u.book ≡ no_book → kind.share u.hand ≡ 64
      → Joins Rule id v other u (gathered_both v u) blank
  gathers id v other u office plain whole = merges id v other u (gathered_both v u) blank
      (λ s r at apart there. let w : V = gathered_both v u in let vs : List V = set (set s.views id w) other blank in
      let mine : get_elem? vs id ≡ some w = set_else (set s.views id w) other id blank (λ e. apart (sym e)) ∙ found_set s.views id v w at in
      let p = tally_part (λ (x : V). kind.share x.hand) vs id w mine in
      let t = tally_join (λ (x : V). kind.share x.hand) s.views id v other u w blank at there in
      let all = r.shares in let no = laws.none_is in let nothing : kind.share none ≡ 0 = no.0 in
      let none_left : kind.share v.hand ≡ 0 = omega (arith, p, t, all, whole, nothing) in
      let idle = (r.each_view id v at).idle none_left in let live_nothing : live none ≡ 0 = no.3 in
      record {
        share = omega (arith, none_left, nothing);
        clerk = (let e = ap (λ (b : Book). b.clerk) plain in omega (arith, e));
        lives = omega (arith, live_nothing);
        gots = λ k. (let e = ap (times k) idle.0 in let z = ap (times k) no.1 in omega (arith, e, z));
        helds = λ k. (let e = ap (times k) idle.1 in let z = ap (times k) no.2 in omega (arith, e, z));
        takens = λ k. (let e = ap (λ (b : Book). times k b.taken) plain in omega (arith, e));
      })
      (λ s r at was. let ok = r.each_view id v at in let ok' = r.each_view other u was in (
        record {
          same = ok.same;
          knows = λ e. absurd (let was = (ok.knows e).1 in omega (arith, was, office));
          idle = ok'.idle;
          own = ok'.own;
          hand = ok'.hand;
          others = ok.others;
          seen = ok.seen;
        },
        blank_ok s.words,
      ))

  first_ok : (words : List ℕ) (j : ℕ) (v : V) → get_elem? (first_seat first plan ∷ []) j ≡ some v → Ok words v
  first_ok words zero v e = let new = laws.first_is in subst (Ok words) (some-injective (first_seat first plan) v e) record {
    same = refl;
    knows = λ none. absurd (none-some (about_of plan) (sym none));
    idle = λ _. (new.1, new.2);
    own = bare_own first (new.1, new.2);
    hand = laws.first_ok (length jobs) words;
    others = λ z. absurd (omega arith);
    seen = λ k h. absurd (omega arith);
  }
  first_ok words (suc j) v e = absurd (some-ne-none v (sym e))

  starts : All (fits plan.with.value) jobs → length jobs ≤ 65536 → Rule (start {R = R} first plan)
  starts all_fit few =
      let words : List ℕ = replicate (length jobs + 1) 0 in
      let blank_word : (i : ℕ) → i ≤ length jobs → get_or words i 0 ≡ 0 =
      λ i l. get_or-replicate (length jobs + 1) i 0 0 (omega arith) in
      let new = laws.first_is in record {
        all_fit = all_fit;
        few = few;
        wide = length-replicate (length jobs + 1) 0;
        deep = length-map (map Todo jobs) some ∙ length-map jobs Todo;
        shares = (let all = new.0 in omega (arith, all));
        clerks = refl;
        beyond = λ k l. (let none = ap (times k) new.1 in omega (arith, none));
        beside = laws.begins plan (blank_word 0 (omega arith));
        each_desk = λ k job has. let inside = slice_get_within jobs k job has in
            laws.waits plan k job (blank_word 0 (omega arith)) (blank_word (k + 1) (omega arith)) (laid_at Todo jobs k job has);
        each_view = λ j v e. first_ok words j v e;
      }

-- the rule allows new boards
pub opened : {J W R H : Type 0} {kind : BoardKind J W R H} {none first : H} {kept given : H → H} {both : H → H → H} {live : H → ℕ}
    (laws : HandLaws kind none first kept given both live) (fits : W → J → Type 0) → Opens fits (KeptBy kind fits) (first_seat first) none
opened laws fits plan few all_fit = (starts laws fits plan all_fit few, λ id v. opens laws fits plan id v)
