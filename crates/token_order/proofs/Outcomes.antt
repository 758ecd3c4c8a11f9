-- What a turn of a thread that has not passed comes to, in a table and in the same table where those that wait and are in a
-- span have passed too. An issue and an arrival forget all passes, so both come to one table then; otherwise the thread
-- passes in both, or neither changes.
use Rattle.std.proofs.Common.{◌≡◌, inl, inr, ℕ, zero, suc, ◌+◌, ◌-◌, Bool, true, false, ◌&&◌, ◌||◌, cond, List, [], ◌∷◌, ◌++◌, map, length, count_by, nat_lt, unwrap_or, option_map, option_and_then, Option, Some, None, is_none, refl, sym, ap, ◌∙◌, subst, arith}
use Rattle.std.specs.Prelude.{slice_get, pos, negsuc}
use Rattle.std.proofs.lemmas.Bool.{false≢true, cases_lt}
use Rattle.gp_base.specs.declared.ending.End.{End}
use Rattle.gp_base.specs.declared.ending.End.TheVariants.{Spent}
use Rattle.gp_base.specs.declared.ending.Why.TheVariants as why
use Rattle.gp_base.specs.declared.limits.TheConstants.{MOST_THREADS}
use Rattle.task_ast.specs.declared.sync.SyncOp.{SyncOp}
use Rattle.task_ast.specs.declared.sync.SyncOp.TheVariants as sync
use Rattle.task_ast.specs.declared.sync.Next.{Next}
use Rattle.task_ast.specs.Table.{Seat, Table, next_of, unpassed, waits_at, is_known_end, owner_in, new_seat}
use Rattle.task_ast.specs.Turn.{Turn, Issue, Needs, Ended, Look, To, Unknown, NoThread, look, passing, issuing, arrived, stand_of, has_passed, tried, at_look, at_join, at_barrier, come_to, met, turn, deadlocked, seats_after, stuck, last_of}
use Rattle.task_ast.specs.meaning.Repeat.{Again, More, Done}
use Rattle.task_ast.specs.meaning.Table.{Stand, Away, Waits, Released, is_waiting, is_end, ring, with_nth, numbers}
use Rattle.task_ast.specs.meaning.Turn.{is_away, child_of, owners_after}
use Rattle.task_ast.proofs.Rounds.{other_nth, keeps_map, keeps_nth}
use Rattle.task_ast.proofs.SeenSeats.{opened}
use Rattle.task_ast.proofs.Turns.{Known, known_to, look_known}
use Rattle.token_order.specs.declared.spans.Span.{Span}
use Rattle.token_order.specs.declared.spans.Way.{Way}
use Rattle.token_order.specs.declared.rules.Turn.{Turn as TurnHere}
use Rattle.token_order.specs.declared.rules.Turn.TheVariants as here
use Rattle.token_order.specs.Spans.{covers, shown, no_span, is_barrier, stands_at_barrier, is_stopped, stopped_at, waiting_at, arrives_at, span_after, opens, comes_round, found_round, WaysStand}
use Rattle.token_order.specs.Turned.{Answered, settling_in}
use Rattle.token_order.proofs.Barriers.{Comes, comes, one_waits, last_goes, still_waits, free_goes}
use Rattle.token_order.proofs.Shown.{length_shown, next_shown, last-shown, stand-shown, look-shown, ring-shown, issuing-shown, arrived-shown, passing-shown, passed-shown, gone-shown, none-shown}

-- where a thread stands
abbrev standing : List Seat → ℕ → Option (Option Next × Stand)
standing seats t = option_map (λ s. (s.next, s.stand)) (slice_get seats t)

-- the seats that are stopped stand as they did
abbrev pub StopsKept : List Seat → List Seat → Type 0
StopsKept before after = (t : ℕ) → stopped_at before t ≡ true → standing after t ≡ standing before t

abbrev stopped_there : Option (Option Next × Stand) → Bool
stopped_there o = unwrap_or (option_map (λ p. cond (is_waiting p.1) (stands_at_barrier p.0) (is_known_end p.0)) o) false

abbrev waiting_there : Option (Option Next × Stand) → Bool
waiting_there o = unwrap_or (option_map (λ p. is_waiting p.1) o) false

stopped_is : (seats : List Seat) (t : ℕ) → stopped_at seats t ≡ stopped_there (standing seats t)
stopped_is seats t = go (slice_get seats t)
  where
    go : (o : Option Seat) → unwrap_or (option_map is_stopped o) false ≡ stopped_there (option_map (λ s. (s.next, s.stand)) o)
    go None = refl
    go (Some seat) = refl

waiting_is : (seats : List Seat) (t : ℕ) → waiting_at seats t ≡ waiting_there (standing seats t)
waiting_is seats t = go (slice_get seats t)
  where
    go : (o : Option Seat) → unwrap_or (option_map (λ s. is_waiting s.stand) o) false
        ≡ waiting_there (option_map (λ s. (s.next, s.stand)) o)
    go None = refl
    go (Some seat) = refl

still : (before after : List Seat) (t : ℕ) → standing after t ≡ standing before t → stopped_at before t ≡ true → stopped_at after t ≡ true
still before after t same stops = stopped_is after t ∙ ap stopped_there same ∙ sym (stopped_is before t) ∙ stops

-- ways lead over threads that stand as they did
pub ways_kept : (ways : List Way) (before after : List Seat) → StopsKept before after → WaysStand ways before → WaysStand ways after
ways_kept ways before after kept stand t way at =
    let old = stand t way at in
    record {
      each = λ u l m. still before after u (kept u (old.each u l m)) (old.each u l m);
      waits =
          λ l. let within = old.within l in
          waiting_is after (way.past - 1)
          ∙ ap waiting_there (kept (way.past - 1) (old.each (way.past - 1) (omega (arith, l)) (omega (arith, l, within))))
          ∙ sym (waiting_is before (way.past - 1)) ∙ old.waits l;
      within = old.within;
    }

pub data Outcome (table : Table) (span : Span) (t : ℕ) : (arrives : Bool) → Again Table Turn → Again Table Turn → Type 0 where
  plain : Outcome table span t false (passing table t) (passing (shown span table) t)
  begins : (next : Next) → stopped_at table.seats t ≡ false → Outcome table span t false (issuing table t next) (issuing table t next)
  arrival : stopped_at table.seats t ≡ false
      → Outcome table span t true (passing (arrived table t) t) (passing (arrived table t) t)
  opening : (b : ℕ) (next : Next) → Outcome table span t true (issuing (opened table t b) t next) (issuing (opened table t b) t next)
  needs : {arriving : Bool} (u : ℕ) → Outcome table span t arriving (Done (Needs u)) (Done (Needs u))
  ends : {arriving : Bool} (e : End) → Outcome table span t arriving (Done (Ended e)) (Done (Ended e))

module _ (table : Table) (span : Span) (t : ℕ) where
  abbrev Comes_to : Bool → Again Table Turn → Again Table Turn → Type 0
  Comes_to arrives one two = Outcome table span t arrives one two

  cond_outcome : (b arrives : Bool) (f g f' g' : Again Table Turn) → Comes_to arrives f f' → Comes_to arrives g g'
      → Comes_to arrives (cond b f g) (cond b f' g')
  cond_outcome true arrives f g f' g' one two = one
  cond_outcome false arrives f g f' g' one two = two

  as_well : (arriving : Bool) (x y x' y' : Again Table Turn) → x ≡ x' → y ≡ y' → Comes_to arriving x' y' → Comes_to arriving x y
  as_well arriving x y x' y' one two outcome =
      subst (λ u. Comes_to arriving u y) (sym one) (subst (λ v. Comes_to arriving x' v) (sym two) outcome)

  issuing_outcome : (next : Next) → stopped_at table.seats t ≡ false → Comes_to false (issuing table t next) (issuing (shown span table) t next)
  issuing_outcome next free =
      subst (λ x. Comes_to false (issuing table t next) x) (sym (issuing-shown span table t next)) (begins next free)

  join_outcome : (h : ℕ) (o : Option Next) (next : Next) → stopped_at table.seats t ≡ false
      → Comes_to false (at_join h o table t next) (at_join h o (shown span table) t next)
  join_outcome h None next free = needs h
  join_outcome h (Some other) next free = cond_outcome (is_end other.sync) false _ _ _ _ (issuing_outcome next free) plain

  -- a thread that stands at another synchronisation than a barrier, and has not ended, is not stopped
  free_at : (next : Next) (s : Stand) → next_of table t ≡ Some next → stand_of table t ≡ s → is_end next.sync ≡ false
      → is_waiting s && is_barrier next.sync ≡ false → stopped_at table.seats t ≡ false
  free_at next s known stands live not = go (slice_get table.seats t) known stands
    where
      waits : (w : Bool) (seat : Seat) → seat.next ≡ Some next → w && is_barrier next.sync ≡ false
          → cond w (stands_at_barrier seat.next) (is_known_end seat.next) ≡ false
      waits true seat is none = ap stands_at_barrier is ∙ none
      waits false seat is none = ap is_known_end is ∙ live

      go : (o : Option Seat) → option_and_then (λ s. s.next) o ≡ Some next → unwrap_or (option_map (λ s. s.stand) o) Away ≡ s
          → unwrap_or (option_map is_stopped o) false ≡ false
      go None is stand = refl
      go (Some seat) is stand =
          waits (is_waiting seat.stand) seat is (ap (λ x. is_waiting x && is_barrier next.sync) stand ∙ not)

  away_outcome : (b : ℕ) (next : Next) → next_of table t ≡ Some next → next.sync ≡ sync.Barrier b → stand_of table t ≡ Away
      → stopped_at table.seats t ≡ false
      → Comes_to true (tried (sync.Barrier b) table t next) (tried (sync.Barrier b) (shown span table) t next)
  away_outcome b next known meets away free =
      subst (λ x. Comes_to true (tried (sync.Barrier b) table t next) x) (sym same)
      (elim (cases_lt (count_by (waits_at b) table.seats + 1) (unwrap_or (slice_get table.barriers b) 0)) [
        | inl few ↦
            subst (λ x. Comes_to true x x) (sym (one_waits table t b _ _ next come away refl refl few)) (arrival free)
        | inr all ↦
            subst (λ x. Comes_to true x x) (sym (last_goes table t b _ _ next come away refl refl all)) (opening b next)
      ])
    where
      come : Comes table t b
      come = comes table t b next known meets away

      same : tried (sync.Barrier b) (shown span table) t next ≡ tried (sync.Barrier b) table t next
      same =
          ap (λ s. let x = come_to s (shown span table) t b in at_barrier (stand_of x t) x t next) (stand-shown span table t ∙ away)
          ∙ ap (λ x. at_barrier (stand_of (met x b) t) (met x b) t next) (arrived-shown span table t)
          ∙ ap (λ s. let x = come_to s table t b in at_barrier (stand_of x t) x t next) (sym away)

  barrier_outcome : (b : ℕ) (next : Next) (s : Stand) → next_of table t ≡ Some next → next.sync ≡ sync.Barrier b → stand_of table t ≡ s
      → is_end next.sync ≡ false
      → Comes_to (is_away s && is_barrier next.sync) (tried (sync.Barrier b) table t next)
      (tried (sync.Barrier b) (shown span table) t next)
  barrier_outcome b next Away known meets stands live =
      subst (λ x. Comes_to x (tried (sync.Barrier b) table t next) (tried (sync.Barrier b) (shown span table) t next))
      (ap is_barrier (sym meets)) (away_outcome b next known meets stands (free_at next Away known stands live refl))
  barrier_outcome b next Waits known meets stands live =
      as_well false _ _ _ _ (still_waits table t b next Waits stands refl refl)
      (still_waits (shown span table) t b next Waits (stand-shown span table t ∙ stands) refl refl) plain
  barrier_outcome b next Released known meets stands live =
      as_well false _ _ _ _ (free_goes table t b next Released stands refl)
      (free_goes (shown span table) t b next Released (stand-shown span table t ∙ stands) refl)
      (issuing_outcome next (free_at next Released known stands live refl))

  and_false : (b : Bool) → b && false ≡ false
  and_false true = refl
  and_false false = refl

  free_but : (op : SyncOp) (next : Next) → next_of table t ≡ Some next → next.sync ≡ op → is_end op ≡ false → is_barrier op ≡ false
      → stopped_at table.seats t ≡ false
  free_but op next known is live not =
      free_at next (stand_of table t) known refl (ap is_end is ∙ live)
      (ap (λ b. is_waiting (stand_of table t) && b) (ap is_barrier is ∙ not) ∙ and_false (is_waiting (stand_of table t)))

  not_there : (op : SyncOp) (x y : Again Table Turn) → is_barrier op ≡ false → Comes_to false x y
      → Comes_to (is_away (stand_of table t) && is_barrier op) x y
  not_there op x y not outcome =
      subst (λ b. Comes_to b x y) (sym (ap (λ b. is_away (stand_of table t) && b) not ∙ and_false (is_away (stand_of table t)))) outcome

  issues_so : (op : SyncOp) (next : Next) → next_of table t ≡ Some next → next.sync ≡ op → is_end op ≡ false → is_barrier op ≡ false
      → Comes_to (is_away (stand_of table t) && is_barrier op) (issuing table t next) (issuing (shown span table) t next)
  issues_so op next known is live not =
      not_there op _ _ not (issuing_outcome next (free_but op next known is live not))

  tried_outcome : (op : SyncOp) (next : Next) → next_of table t ≡ Some next → next.sync ≡ op → is_end op ≡ false
      → Comes_to (is_away (stand_of table t) && is_barrier op) (tried op table t next) (tried op (shown span table) t next)
  tried_outcome (sync.Barrier b) next known is live =
      subst (λ x. Comes_to (is_away (stand_of table t) && is_barrier x) (tried (sync.Barrier b) table t next)
      (tried (sync.Barrier b) (shown span table) t next)) is
      (barrier_outcome b next (stand_of table t) known is refl (ap is_end is ∙ live))
  tried_outcome sync.Start next known is live = issues_so sync.Start next known is live refl
  tried_outcome (sync.Unlock l) next known is live = issues_so (sync.Unlock l) next known is live refl
  tried_outcome (sync.Settle register control) next known is live = issues_so (sync.Settle register control) next known is live refl
  tried_outcome (sync.Lock l) next known is live =
      not_there (sync.Lock l) _ _ refl (cond_outcome (is_none (owner_in table.owners l)) false _ _ _ _
      (issuing_outcome next (free_but (sync.Lock l) next known is live refl)) plain)
  tried_outcome (sync.Fork task arguments) next known is live =
      not_there (sync.Fork task arguments) _ _ refl
      (subst (λ n. Comes_to false (cond (nat_lt (length table.seats) MOST_THREADS) (issuing table t next) (stuck why.Threads t next))
      (cond (nat_lt n MOST_THREADS) (issuing (shown span table) t next) (stuck why.Threads t next)))
      (sym (length_shown (covers span) table.seats))
      (cond_outcome (nat_lt (length table.seats) MOST_THREADS) false _ _ _ _
      (issuing_outcome next (free_but (sync.Fork task arguments) next known is live refl)) (ends _)))
  tried_outcome (sync.Join (pos h)) next known is live =
      not_there (sync.Join (pos h)) _ _ refl
      (subst (λ n. Comes_to false (cond (nat_lt h (length table.seats)) (at_join h (next_of table h) table t next) (stuck why.Join t next))
      (cond (nat_lt h n) (at_join h (next_of (shown span table) h) (shown span table) t next) (stuck why.Join t next)))
      (sym (length_shown (covers span) table.seats))
      (subst (λ o. Comes_to false (cond (nat_lt h (length table.seats)) (at_join h (next_of table h) table t next) (stuck why.Join t next))
      (cond (nat_lt h (length table.seats)) (at_join h o (shown span table) t next) (stuck why.Join t next)))
      (sym (next_shown span table h))
      (cond_outcome (nat_lt h (length table.seats)) false _ _ _ _
      (join_outcome h (next_of table h) next (free_but (sync.Join (pos h)) next known is live refl)) (ends _))))
  tried_outcome (sync.Join (negsuc h)) next known is live = not_there (sync.Join (negsuc h)) _ _ refl (ends _)
  tried_outcome sync.End next known is live = absurd (false≢true (sym live))
  tried_outcome sync.BadIndex next known is live = not_there sync.BadIndex _ _ refl (ends _)
  tried_outcome sync.Spent next known is live =
      not_there sync.Spent _ _ refl
      (subst (λ l. Comes_to false (Done (Ended (Spent (last_of table t)))) (Done (Ended (Spent (unwrap_or l 0)))))
      (sym (last-shown span table t)) (ends _))

  -- the seats after each change
  abbrev is_stop : Option Seat → Bool
  is_stop o = unwrap_or (option_map is_stopped o) false

  another : (u : ℕ) (seats : List Seat) → stopped_at seats t ≡ false → stopped_at seats u ≡ true → u ≡ t → ⊥
  another u seats free stops e = false≢true (sym free ∙ ap (stopped_at seats) (sym e) ∙ stops)

  abbrev stands : Option Seat → Option (Option Next × Stand)
  stands o = option_map (λ s. (s.next, s.stand)) o

  changed_stops : (f : Seat → Seat) (seats : List Seat) → stopped_at seats t ≡ false → StopsKept seats (with_nth seats t f)
  changed_stops f seats free u stops = ap stands (other_nth f seats t u (another u seats free stops))

  unpassed_stops : (seats : List Seat) → StopsKept seats (map unpassed seats)
  unpassed_stops seats u stops = keeps_map stands unpassed (λ s. refl) seats u

  unpassed_free : (seats : List Seat) → stopped_at seats t ≡ false → stopped_at (map unpassed seats) t ≡ false
  unpassed_free seats free = keeps_map is_stop unpassed (λ s. refl) seats t ∙ free

  passed_stops : (seats : List Seat) → StopsKept seats (with_nth seats t (λ s. record s { passed = true }))
  passed_stops seats u stops = keeps_nth stands (λ s. record s { passed = true }) (λ s. refl) seats t u

  pushed_stops : (seats : List Seat) (seat : Seat) → StopsKept seats (seats ++ seat ∷ [])
  pushed_stops [] seat u stops = absurd (false≢true stops)
  pushed_stops (x ∷ xs) seat zero stops = refl
  pushed_stops (x ∷ xs) seat (suc u) stops = pushed_stops xs seat u stops

  grown_stops : (op : SyncOp) (seats : List Seat) → StopsKept seats (seats_after op seats)
  grown_stops (sync.Fork task arguments) seats = pushed_stops seats new_seat
  grown_stops _ seats = λ u stops. refl

  -- one change after another
  both : (a b c : List Seat) → StopsKept a b → StopsKept b c → StopsKept a c
  both a b c one two u stops = two u (still a b u (one u stops) stops) ∙ one u stops

  abbrev issued_of : Again Table Turn → Table
  issued_of (Done (Issue u next child after)) = after
  issued_of _ = table

  abbrev more_of : Again Table Turn → Table
  more_of (More after) = after
  more_of _ = table

  never_cond : (b : Bool) (x y : Turn) (after : Table) → cond {A = Again Table Turn} b (Done x) (Done y) ≡ More after → ⊥
  never_cond true x y after e = cc e
  never_cond false x y after e = cc e

  never_more : (there : Table) (next : Next) (after : Table) → issuing there t next ≡ More after → ⊥
  never_more there next after e = never_cond (nat_lt there.issued there.limit) _ _ after e

  abbrev begun_seats : List Seat
  begun_seats = with_nth table.seats t (λ s. record { next = None; last = Some table.issued; passed = false; stand = Away })

  begun_kept : (next : Next) → stopped_at table.seats t ≡ false
      → StopsKept table.seats (seats_after next.sync (map unpassed begun_seats))
  begun_kept next free =
      both table.seats (map unpassed begun_seats) (seats_after next.sync (map unpassed begun_seats))
      (both table.seats begun_seats (map unpassed begun_seats) (changed_stops _ table.seats free) (unpassed_stops begun_seats))
      (grown_stops next.sync (map unpassed begun_seats))

  begun_stops : (next : Next) (u : ℕ) (n : Next) (child : Option ℕ) (after : Table) → stopped_at table.seats t ≡ false
      → issuing table t next ≡ Done (Issue u n child after) → StopsKept table.seats after.seats
  begun_stops next u n child after free e = go (nat_lt table.issued table.limit) e
    where
      go : (b : Bool) → cond {A = Again Table Turn} b (Done (Issue t next (child_of next.sync (length table.seats)) (record {
        limit = table.limit;
        barriers = table.barriers;
        seats = seats_after next.sync (map unpassed begun_seats);
        owners = owners_after next.sync t table.owners;
        token = Some t;
        issued = suc table.issued;
      }))) (Done (Ended (Spent table.limit))) ≡ Done (Issue u n child after) → StopsKept table.seats after.seats
      go true e = subst (λ (x : Table). StopsKept table.seats x.seats) (ap issued_of e) (begun_kept next free)
      go false e = absurd (cc e)

  arrived_stops : stopped_at table.seats t ≡ false → (after : Table) → passing (arrived table t) t ≡ More after
      → StopsKept table.seats after.seats
  arrived_stops free after e =
      subst (λ (x : Table). StopsKept table.seats x.seats) (ap more_of e)
      (both table.seats (arrived table t).seats (with_nth (arrived table t).seats t (λ s. record s { passed = true }))
      (both table.seats (map unpassed table.seats) (arrived table t).seats (unpassed_stops table.seats)
      (changed_stops (λ s. record s { stand = Waits }) (map unpassed table.seats) (unpassed_free table.seats free)))
      (passed_stops (arrived table t).seats))

  -- what is answered in the one table is answered in the other
  pub record Taken (arrives : Bool) (y : Again Table Turn) (r : TurnHere) (after : Table) : Type 0 where
    pub answer : Answered y (shown span table) r (shown (span_after r arrives span) after)
    pub stops : opens r arrives ≡ false → StopsKept table.seats after.seats

  unchanged : (after : Table) → after ≡ table → StopsKept table.seats after.seats
  unchanged after same u stops = ap (λ (x : Table). standing x.seats u) same

  issued_alike : (x : Again Table Turn) (u : ℕ) (next : Next) (child : Option ℕ) (after : Table) → x ≡ Done (Issue u next child after)
      → x ≡ Done (Issue u next child (shown no_span after))
  issued_alike x u next child after e = e ∙ ap (λ a. Done (Issue u next child a)) (sym (none-shown after))

  taken : (arrives : Bool) (x y : Again Table Turn) → Outcome table span t arrives x y → (r : TurnHere) (after : Table)
      → Answered x table r after → Taken arrives y r after
  taken arrives x y o (here.Settles u) after h = absurd h
  taken arrives x y plain (here.Issue u n child) after e = absurd (cc e)
  taken arrives x y plain here.Pass after e =
      let same = ap more_of e in
      record {
        answer = passing-shown span table t ∙ ap (λ a. More (shown span a)) same;
        stops = λ not. subst (λ (x : Table). StopsKept table.seats x.seats) same (passed_stops table.seats);
      }
  taken arrives x y plain (here.Needs u) after h = absurd (cc (h.0))
  taken arrives x y plain (here.Ended e) after h = absurd (cc (h.0))
  taken arrives x y (begins next free) (here.Issue u n child) after e =
      record { answer = issued_alike _ u n child after e; stops = λ not. begun_stops next u n child after free e }
  taken arrives x y (begins next free) here.Pass after e = absurd (never_more table next after e)
  taken arrives x y (begins next free) (here.Needs u) after h =
      record { answer = (h.0, ap (shown span) h.1); stops = λ not. unchanged after h.1 }
  taken arrives x y (begins next free) (here.Ended e) after h =
      record { answer = (h.0, ap (shown span) h.1); stops = λ not. unchanged after h.1 }
  taken arrives x y (arrival free) (here.Issue u n child) after e = absurd (cc e)
  taken arrives x y (arrival free) here.Pass after e =
      record { answer = e ∙ ap More (sym (none-shown after)); stops = λ not. arrived_stops free after e }
  taken arrives x y (arrival free) (here.Needs u) after h = absurd (cc (h.0))
  taken arrives x y (arrival free) (here.Ended e) after h = absurd (cc (h.0))
  taken arrives x y (opening b next) (here.Issue u n child) after e =
      record { answer = issued_alike _ u n child after e; stops = λ not. absurd (false≢true (sym not)) }
  taken arrives x y (opening b next) here.Pass after e = absurd (never_more (opened table t b) next after e)
  taken arrives x y (opening b next) (here.Needs u) after h =
      record { answer = (h.0, ap (shown span) h.1); stops = λ not. unchanged after h.1 }
  taken arrives x y (opening b next) (here.Ended e) after h =
      record { answer = (h.0, ap (shown span) h.1); stops = λ not. unchanged after h.1 }
  taken arrives x y (needs v) (here.Issue u n child) after e = absurd (cc e)
  taken arrives x y (needs v) here.Pass after e = absurd (cc e)
  taken arrives x y (needs v) (here.Needs u) after h = record { answer = (h.0, ap (shown span) h.1); stops = λ not. unchanged after h.1 }
  taken arrives x y (needs v) (here.Ended e) after h = record { answer = (h.0, ap (shown span) h.1); stops = λ not. unchanged after h.1 }
  taken arrives x y (ends v) (here.Issue u n child) after e = absurd (cc e)
  taken arrives x y (ends v) here.Pass after e = absurd (cc e)
  taken arrives x y (ends v) (here.Needs u) after h = record { answer = (h.0, ap (shown span) h.1); stops = λ not. unchanged after h.1 }
  taken arrives x y (ends v) (here.Ended e) after h = record { answer = (h.0, ap (shown span) h.1); stops = λ not. unchanged after h.1 }

  settles_alike : (arrives : Bool) (x y : Again Table Turn) → Outcome table span t arrives x y → settling_in y ≡ settling_in x
  settles_alike arrives x y plain = refl
  settles_alike arrives x y (begins next free) = refl
  settles_alike arrives x y (arrival free) = refl
  settles_alike arrives x y (opening b next) = refl
  settles_alike arrives x y (needs u) = refl
  settles_alike arrives x y (ends e) = refl

dead_outcome : (table : Table) (span : Span) (t : ℕ) (arrives : Bool) (l : Look) → Outcome table span t arrives (deadlocked l) (deadlocked l)
dead_outcome table span t arrives (To u next) = ends _
dead_outcome table span t arrives (Unknown u) = needs u
dead_outcome table span t arrives NoThread = ends _

abbrev all_seats : Table → List ℕ
all_seats table = numbers 0 (length table.seats)

all-shown : (table : Table) (span : Span) → look (shown span table) (all_seats (shown span table)) ≡ look table (all_seats table)
all-shown table span =
    ap (λ n. look (shown span table) (numbers 0 n)) (length_shown (covers span) table.seats) ∙ look-shown span table (all_seats table)

look_outcome : (table : Table) (span : Span) (l : Look) → Known table l
    → ((t : ℕ) (next : Next) → l ≡ To t next → has_passed (shown span table) t ≡ has_passed table t)
    → (t : ℕ) × Outcome table span t (arrives_at l table) (at_look l table) (at_look l (shown span table))
look_outcome table span NoThread known same = (0, ends _)
look_outcome table span (Unknown t) known same = (t, needs t)
look_outcome table span (To t next) (known_to is live) same = (t, go (has_passed table t) (same t next refl))
  where
    go : (b : Bool) → has_passed (shown span table) t ≡ b
        → Outcome table span t (is_away (stand_of table t) && is_barrier next.sync)
        (cond b (deadlocked (look table (all_seats table))) (tried next.sync table t next))
        (cond (has_passed (shown span table) t) (deadlocked (look (shown span table) (all_seats (shown span table))))
        (tried next.sync (shown span table) t next))
    go true e = rw (e, all-shown table span) (dead_outcome table span t _ (look table (all_seats table)))
    go false e = rw e (tried_outcome table span t next.sync next is refl live)

-- a turn in both tables, where the thread that the token comes to has passed in both or in none
pub turn_outcome : (table : Table) (span : Span)
    → ((t : ℕ) (next : Next) → look table (ring table.token (length table.seats)) ≡ To t next
    → has_passed (shown span table) t ≡ has_passed table t)
    → (t : ℕ) × Outcome table span t (arrives_at (look table (ring table.token (length table.seats))) table) (turn table)
    (turn (shown span table))
turn_outcome table span same =
    let h = look_outcome table span (look table (ring table.token (length table.seats)))
    (look_known table (ring table.token (length table.seats))) same in (
      h.0,
      subst (λ l. Outcome table span h.0 (arrives_at (look table (ring table.token (length table.seats))) table) (turn table)
          (at_look l (shown span table))) (sym (ring-shown span table)) h.1,
    )

-- ---- a turn, where the thread that the token comes to has passed in the span

dead_issues : (l : Look) (t : ℕ) (next : Next) (child : Option ℕ) (after : Table) → deadlocked l ≡ Done (Issue t next child after) → ⊥
dead_issues (To u there) t next child after e = cc e
dead_issues (Unknown u) t next child after e = cc e
dead_issues NoThread t next child after e = cc e

dead_passes : (l : Look) (after : Table) → deadlocked l ≡ More after → ⊥
dead_passes (To u there) after e = cc e
dead_passes (Unknown u) after e = cc e
dead_passes NoThread after e = cc e

dead_settles : (l : Look) → settling_in (deadlocked l) ≡ None
dead_settles (To u there) = refl
dead_settles (Unknown u) = refl
dead_settles NoThread = refl

round_passed : (table : Table) (span : Span) (t : ℕ) → is_waiting (stand_of table t) && covers span t ≡ true
    → has_passed (shown span table) t ≡ true
round_passed table span t e = go (slice_get table.seats t) refl e
  where
    both_so : (a b c : Bool) → a && b ≡ true → c || (b && a) ≡ true
    both_so true true true e = refl
    both_so true true false e = refl
    both_so true false c e = absurd (false≢true e)
    both_so false b c e = absurd (false≢true e)

    go : (o : Option Seat) → slice_get table.seats t ≡ o → is_waiting (unwrap_or (option_map (λ s. s.stand) o) Away) && covers span t ≡ true
        → has_passed (shown span table) t ≡ true
    go None at e = absurd (false≢true e)
    go (Some seat) at e = passed-shown span table t seat at ∙ both_so (is_waiting seat.stand) (covers span t) seat.passed e

round_turns : (table : Table) (span : Span) → comes_round span table ≡ true
    → turn (shown span table) ≡ deadlocked (look table (all_seats table))
round_turns table span e = ap (λ l. at_look l (shown span table)) (ring-shown span table)
    ∙ go (look table (ring table.token (length table.seats))) e
  where
    go : (l : Look) → found_round span l table ≡ true → at_look l (shown span table) ≡ deadlocked (look table (all_seats table))
    go NoThread e = absurd (false≢true e)
    go (Unknown t) e = absurd (false≢true e)
    go (To t next) e =
        ap (λ b. cond b (deadlocked (look (shown span table) (all_seats (shown span table)))) (tried next.sync (shown span table) t next))
        (round_passed table span t e) ∙ ap deadlocked (all-shown table span)

pub round_settles : (table : Table) (span : Span) → comes_round span table ≡ true → settling_in (turn (shown span table)) ≡ None
round_settles table span e = ap settling_in (round_turns table span e) ∙ dead_settles (look table (all_seats table))

pub round_answer : (table : Table) (span : Span) (r : TurnHere) → comes_round span table ≡ true
    → Answered (deadlocked (look table (numbers 0 (length table.seats)))) table r table
    → Answered (turn (shown span table)) (shown span table) r (shown span table)
round_answer table span (here.Issue t next child) e h = absurd (dead_issues (look table (all_seats table)) t next child table h)
round_answer table span (here.Settles t) e h = absurd h
round_answer table span here.Pass e h = absurd (dead_passes (look table (all_seats table)) table h)
round_answer table span (here.Needs t) e h = (round_turns table span e ∙ h.0, refl)
round_answer table span (here.Ended ending) e h = (round_turns table span e ∙ h.0, refl)

-- ---- and where it has not

fresh_same : (table : Table) (span : Span) → comes_round span table ≡ false → (t : ℕ) (next : Next)
    → look table (ring table.token (length table.seats)) ≡ To t next → has_passed (shown span table) t ≡ has_passed table t
fresh_same table span not t next looks = go (slice_get table.seats t) refl
  where
    uncovered : is_waiting (stand_of table t) && covers span t ≡ false
    uncovered = sym (ap (λ l. found_round span l table) looks) ∙ not

    neither : (a b c : Bool) → a && b ≡ false → c || (b && a) ≡ c
    neither true true c e = absurd (false≢true (sym e))
    neither true false true e = refl
    neither true false false e = refl
    neither false true true e = refl
    neither false true false e = refl
    neither false false true e = refl
    neither false false false e = refl

    go : (o : Option Seat) → slice_get table.seats t ≡ o → has_passed (shown span table) t ≡ has_passed table t
    go None at =
        ap (λ o. unwrap_or (option_map (λ s. s.passed) o) false) (gone-shown (covers span) table.seats t at)
        ∙ sym (ap (λ o. unwrap_or (option_map (λ s. s.passed) o) false) at)
    go (Some seat) at =
        passed-shown span table t seat at
        ∙ neither (is_waiting seat.stand) (covers span t) seat.passed
        (sym (ap (λ o. is_waiting (unwrap_or (option_map (λ s. s.stand) o) Away) && covers span t) at) ∙ uncovered)
        ∙ sym (ap (λ o. unwrap_or (option_map (λ s. s.passed) o) false) at)

pub turn_settles : (table : Table) (span : Span) → comes_round span table ≡ false
    → settling_in (turn (shown span table)) ≡ settling_in (turn table)
turn_settles table span not =
    let h = turn_outcome table span (fresh_same table span not) in settles_alike table span h.0 _ _ _ h.1

pub turn_answer : (table : Table) (span : Span) (r : TurnHere) (after : Table) (arrives : Bool) → comes_round span table ≡ false
    → arrives ≡ arrives_at (look table (ring table.token (length table.seats))) table → Answered (turn table) table r after
    → Answered (turn (shown span table)) (shown span table) r (shown (span_after r arrives span) after)
turn_answer table span r after arrives not is answer =
    let h = turn_outcome table span (fresh_same table span not) in
    subst (λ b. Answered (turn (shown span table)) (shown span table) r (shown (span_after r b span) after)) (sym is)
    (taken table span h.0 _ _ _ h.1 r after answer).answer

pub turn_stops : (table : Table) (span : Span) (r : TurnHere) (after : Table) (arrives : Bool) → comes_round span table ≡ false
    → arrives ≡ arrives_at (look table (ring table.token (length table.seats))) table → Answered (turn table) table r after
    → opens r arrives ≡ false → StopsKept table.seats after.seats
turn_stops table span r after arrives not is answer closed =
    let h = turn_outcome table span (fresh_same table span not) in
    (taken table span h.0 _ _ _ h.1 r after answer).stops (ap (opens r) (sym is) ∙ closed)
