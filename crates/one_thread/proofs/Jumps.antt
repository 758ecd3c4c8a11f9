-- Turns in which threads that rest pass, one after another, come to one step over all of them.
use Rattle.std.proofs.Common.{◌≡◌, ◌⊎◌, inl, inr, ℕ, zero, suc, ◌+◌, ◌-◌, ◌<◌, ◌≤◌, Bool, true, false, not, ◌&&◌, ◌||◌, cond, List, [], ◌∷◌, ◌++◌, map, length, nat_lt, nat_le, unwrap_or, option_map, option_and_then, Option, Some, None, is_none, count_by, refl, sym, ap, ◌∙◌, subst, arith}
use Rattle.std.specs.Prelude.{slice_get, pos, negsuc}
use Rattle.std.proofs.lemmas.Bool.{false≢true}
use Rattle.std.proofs.lemmas.List.{append-nil, length-map}
use Rattle.gp_base.specs.declared.limits.TheConstants.{MOST_THREADS}
use Rattle.gp_base.specs.declared.ending.End.TheVariants.{Finished, Spent}
use Rattle.gp_base.specs.declared.ending.Why.TheVariants as why
use Rattle.task_ast.specs.declared.sync.SyncOp.{SyncOp}
use Rattle.task_ast.specs.declared.sync.SyncOp.TheVariants as sync
use Rattle.task_ast.specs.declared.sync.Next.{Next}
use Rattle.task_ast.specs.Table.{Seat, Table, next_of, owner_in, unpassed, waits_at}
use Rattle.task_ast.specs.Turn.{Turn, Needs, Ended, To, look_at, look, passing, issuing, stand_of, released_at, arrived, met, come_to, at_barrier, at_join, last_of, stuck, tried, deadlocked, at_look, turn, turns_left, next_issue}
use Rattle.task_ast.specs.meaning.Repeat.{Again, Done, go_on}
use Rattle.task_ast.specs.meaning.Table.{Stand, Away, Waits, Released, is_waiting, is_end, numbers, ring, with_nth}
use Rattle.task_ast.proofs.Looks.{numbers-first}
use Rattle.task_ast.proofs.Rounds.{keeps_map, other_nth}
use Rattle.task_ast.proofs.Turns.{next_issue_step}
use Rattle.ended_seats.specs.Idle.{passed_at, PassedWithin}
use Rattle.one_thread.specs.View.{token_of}
use Rattle.one_thread.specs.inner.Resting.{is_going, stalls, rests_at, rests, RestBetween, looking, Alike}

-- ---- what seats that are alike have in common

alike-length : (seats others : List Seat) → Alike seats others → length seats ≡ length others
alike-length seats others e = sym (length-map seats unpassed) ∙ ap length e ∙ length-map others unpassed

alike-by : {Y : Type 0} (h : Option Seat → Y) → ((s : Seat) → h (Some (unpassed s)) ≡ h (Some s)) → (seats others : List Seat)
    → Alike seats others → (u : ℕ) → h (slice_get seats u) ≡ h (slice_get others u)
alike-by h same seats others e u =
    sym (keeps_map h unpassed same seats u) ∙ ap (λ ss. h (slice_get ss u)) e ∙ keeps_map h unpassed same others u

map-put : (seats : List Seat) (t : ℕ) (y : Seat) → unpassed y ≡ y
    → map unpassed (with_nth seats t (λ s. y)) ≡ with_nth (map unpassed seats) t (λ s. y)
map-put [] t y e = refl
map-put (x ∷ xs) zero y e = ap (λ z. z ∷ map unpassed xs) e
map-put (x ∷ xs) (suc t) y e = ap (λ zs. unpassed x ∷ zs) (map-put xs t y e)

alike-put : (seats others : List Seat) (t : ℕ) (y : Seat) → unpassed y ≡ y → Alike seats others
    → map unpassed (with_nth seats t (λ s. y)) ≡ map unpassed (with_nth others t (λ s. y))
alike-put seats others t y same e = map-put seats t y same ∙ ap (λ ss. with_nth ss t (λ s. y)) e ∙ sym (map-put others t y same)

or-parts : (a b : Bool) → a || b ≡ false → (a ≡ false) × (b ≡ false)
or-parts false b e = (refl, e)
or-parts true b e = absurd (false≢true (sym e))

module _ (table : Table) where
  -- what the turn of a thread gives that does not rest
  abbrev rests_not : (t : ℕ) → Option Next → Again Table Turn
  rests_not t None = Done (Needs t)
  rests_not t (Some next) = tried next.sync table t next

  -- other seats, and another place at which the token looks first
  abbrev at : List Seat → ℕ → Table
  at seats start = record table { seats = seats; token = token_of start }

  module _ (seats : List Seat) (s : ℕ) (alike : Alike seats table.seats) where
    next-same : (u : ℕ) → next_of (at seats s) u ≡ next_of table u
    next-same u = alike-by (option_and_then (λ s. s.next)) (λ s. refl) seats table.seats alike u

    stand-same : (u : ℕ) → stand_of (at seats s) u ≡ stand_of table u
    stand-same u = alike-by (λ o. unwrap_or (option_map (λ s. s.stand) o) Away) (λ s. refl) seats table.seats alike u

    last-same : (u : ℕ) → last_of (at seats s) u ≡ last_of table u
    last-same u = alike-by (λ o. unwrap_or (option_and_then (λ s. s.last) o) 0) (λ s. refl) seats table.seats alike u

    look-same : (ts : List ℕ) → look (at seats s) ts ≡ look table ts
    look-same [] = refl
    look-same (t ∷ ts) = ap (λ o. look_at t o (look (at seats s) ts)) (next-same t) ∙ ap (look_at t (next_of table t)) (look-same ts)

    issuing-same : (t : ℕ) (next : Next) → issuing (at seats s) t next ≡ issuing table t next
    issuing-same t next =
        rw (
          alike-put seats table.seats t (record { next = None; last = Some table.issued; passed = false; stand = Away }) refl alike,
          alike-length seats table.seats alike,
        ) refl

    -- ---- a thread that stalls passes, and for any other it does not matter who has passed

    module _ (t : ℕ) (next : Next) where
      abbrev after-arrival : (there : Table) → Again Table Turn
      after-arrival there = at_barrier (stand_of there t) there t next

      tokenless : (stand : Stand) (there : Table) (token : Option ℕ)
          → at_barrier stand (record there { token = token }) t next ≡ at_barrier stand there t next
      tokenless Away there token = refl
      tokenless Waits there token = refl
      tokenless Released there token = refl

      met-tokenless : (there : Table) (token : Option ℕ) (b : ℕ)
          → after-arrival (met (record there { token = token }) b) ≡ after-arrival (met there b)
      met-tokenless there token b = go (nat_le (unwrap_or (slice_get there.barriers b) 0) (count_by (waits_at b) there.seats))
        where
          opened : Table
          opened = record there { seats = map (released_at b) there.seats }

          go : (all : Bool)
              → after-arrival (cond all (record there { seats = map (released_at b) there.seats; token = token }) (record there {
                token
                    = token;
              }))
              ≡ after-arrival (cond all opened there)
          go true = tokenless (stand_of opened t) opened token
          go false = tokenless (stand_of there t) there token

      arrival-same : (b : ℕ) → after-arrival (met (arrived (at seats s) t) b) ≡ after-arrival (met (arrived table t) b)
      arrival-same b =
          ap (λ ss. after-arrival (met (record table { seats = with_nth ss t (λ s. record s { stand = Waits }); token = token_of s })
          b)) alike
          ∙ met-tokenless (arrived table t) (token_of s) b

      tried-barrier : (b : ℕ) (stand : Stand) → stand_of (at seats s) t ≡ stand → stand_of table t ≡ stand → is_waiting stand ≡ false
          → tried (sync.Barrier b) (at seats s) t next ≡ tried (sync.Barrier b) table t next
      tried-barrier b Away here there f =
          ap (λ stand. after-arrival (come_to stand (at seats s) t b)) here ∙ arrival-same b
          ∙ sym (ap (λ stand. after-arrival (come_to stand table t b)) there)
      tried-barrier b Waits here there f = absurd (false≢true (sym f))
      tried-barrier b Released here there f =
          ap (λ stand. after-arrival (come_to stand (at seats s) t b)) here ∙ ap (λ stand. at_barrier stand (at seats s) t next) here
          ∙ issuing-same t next
          ∙ sym (ap (λ stand. after-arrival (come_to stand table t b)) there ∙ ap (λ stand. at_barrier stand table t next) there)

      tried-join : (h : ℕ) (b : Bool) (o : Option Next) → (b && is_going o) ≡ false
          → cond b (at_join h o (at seats s) t next) (stuck why.Join t next) ≡ cond b (at_join h o table t next) (stuck why.Join t next)
      tried-join h false o f = refl
      tried-join h true None f = refl
      tried-join h true (Some other) f = go (is_end other.sync) f
        where
          go : (e : Bool) → not e ≡ false → cond e (issuing (at seats s) t next) (passing (at seats s) t)
              ≡ cond e (issuing table t next) (passing table t)
          go true f = issuing-same t next
          go false f = absurd (false≢true (sym f))

      tried-lock : (free : Bool) → not free ≡ false
          → cond free (issuing (at seats s) t next) (passing (at seats s) t) ≡ cond free (issuing table t next) (passing table t)
      tried-lock true f = issuing-same t next
      tried-lock false f = absurd (false≢true (sym f))

      tried-same : (op : SyncOp) → stalls op table t ≡ false → tried op (at seats s) t next ≡ tried op table t next
      tried-same sync.Start f = issuing-same t next
      tried-same (sync.Lock l) f = tried-lock (is_none (owner_in table.owners l)) f
      tried-same (sync.Unlock l) f = issuing-same t next
      tried-same (sync.Fork task arguments) f =
          ap (λ n. cond (nat_lt n MOST_THREADS) (issuing (at seats s) t next) (stuck why.Threads t next)) (alike-length seats
          table.seats alike)
          ∙ ap (λ i. cond {A = Again Table Turn} (nat_lt (length table.seats) MOST_THREADS) i (stuck why.Threads t next)) (issuing-same
          t next)
      tried-same (sync.Join (pos h)) f =
          ap (λ n. cond (nat_lt h n) (at_join h (next_of (at seats s) h) (at seats s) t next) (stuck why.Join t next))
          (alike-length seats table.seats alike)
          ∙ ap (λ o. cond (nat_lt h (length table.seats)) (at_join h o (at seats s) t next) (stuck why.Join t next)) (next-same h)
          ∙ tried-join h (nat_lt h (length table.seats)) (next_of table h) f
      tried-same (sync.Join (negsuc h)) f = refl
      tried-same (sync.Barrier b) f = tried-barrier b (stand_of table t) (stand-same t) refl f
      tried-same (sync.Settle register control) f = issuing-same t next
      tried-same sync.End f = issuing-same t next
      tried-same sync.BadIndex f = refl
      tried-same sync.Spent f = ap (λ p. Done (Ended (Spent p))) (last-same t)

      stalled-barrier : (b : ℕ) (stand : Stand) → stand_of (at seats s) t ≡ stand → is_waiting stand ≡ true
          → tried (sync.Barrier b) (at seats s) t next ≡ passing (at seats s) t
      stalled-barrier b Waits here f =
          ap (λ stand. after-arrival (come_to stand (at seats s) t b)) here ∙ ap (λ stand. at_barrier stand (at seats s) t next) here
      stalled-barrier b Away here f = absurd (false≢true f)
      stalled-barrier b Released here f = absurd (false≢true f)

      stalled-join : (h : ℕ) (b : Bool) (o : Option Next) → (b && is_going o) ≡ true
          → cond b (at_join h o (at seats s) t next) (stuck why.Join t next) ≡ passing (at seats s) t
      stalled-join h false o f = absurd (false≢true f)
      stalled-join h true None f = absurd (false≢true f)
      stalled-join h true (Some other) f = go (is_end other.sync) f
        where
          go : (e : Bool) → not e ≡ true → cond e (issuing (at seats s) t next) (passing (at seats s) t) ≡ passing (at seats s) t
          go true f = absurd (false≢true f)
          go false f = refl

      stalled-lock : (free : Bool) → not free ≡ true → cond free (issuing (at seats s) t next) (passing (at seats s) t)
          ≡ passing (at seats s) t
      stalled-lock true f = absurd (false≢true f)
      stalled-lock false f = refl

      stalled : (op : SyncOp) → stalls op table t ≡ true → tried op (at seats s) t next ≡ passing (at seats s) t
      stalled sync.Start f = absurd (false≢true f)
      stalled (sync.Lock l) f = stalled-lock (is_none (owner_in table.owners l)) f
      stalled (sync.Unlock l) f = absurd (false≢true f)
      stalled (sync.Fork task arguments) f = absurd (false≢true f)
      stalled (sync.Join (pos h)) f =
          ap (λ n. cond (nat_lt h n) (at_join h (next_of (at seats s) h) (at seats s) t next) (stuck why.Join t next))
          (alike-length seats table.seats alike)
          ∙ ap (λ o. cond (nat_lt h (length table.seats)) (at_join h o (at seats s) t next) (stuck why.Join t next)) (next-same h)
          ∙ stalled-join h (nat_lt h (length table.seats)) (next_of table h) f
      stalled (sync.Join (negsuc h)) f = absurd (false≢true f)
      stalled (sync.Barrier b) f = stalled-barrier b (stand_of table t) (stand-same t) f
      stalled (sync.Settle register control) f = absurd (false≢true f)
      stalled sync.End f = absurd (false≢true f)
      stalled sync.BadIndex f = absurd (false≢true f)
      stalled sync.Spent f = absurd (false≢true f)

  -- ---- one thread more

  -- the token comes to these threads, in this order
  abbrev Comes : (token : ℕ) → List ℕ → Type 0
  Comes token ts = look table (ring (token_of token) (length table.seats)) ≡ look table ts

  turn-looks : (seats : List Seat) (token : ℕ) (ts : List ℕ) → Alike seats table.seats → Comes token ts
      → turn (at seats token) ≡ at_look (look table ts) (at seats token)
  turn-looks seats token ts alike comes =
      ap (λ n. at_look (look (at seats token) (ring (token_of token) n)) (at seats token)) (alike-length seats table.seats alike)
      ∙ ap (λ l. at_look l (at seats token)) (look-same seats token alike (ring (token_of token) (length table.seats)) ∙ comes)

  -- a thread that rests is gone over: the token comes to those after it, or it has passed
  record Over (seats : List Seat) (token u : ℕ) (more : List ℕ) : Type 0 where
    pub after : List Seat
    pub last : ℕ
    pub alike : Alike after table.seats
    pub same : next_issue (at seats token) ≡ next_issue (at after last)
    pub kept : (v : ℕ) → (v ≡ u → ⊥) → passed_at after v ≡ passed_at seats v
    pub comes : Comes last more ⊎ (last ≡ suc u)

  over : (seats : List Seat) (token u : ℕ) (more : List ℕ) → Alike seats table.seats → Comes token (u ∷ more) → rests table u ≡ true
      → passed_at seats u ≡ false → Over seats token u more
  over seats token u more alike comes rest fresh = by_next (next_of table u) refl rest
    where
      ended : (next : Next) → next_of table u ≡ Some next → is_end next.sync ≡ true → Over seats token u more
      ended next is e = record {
        after = seats;
        last = token;
        alike = alike;
        same = refl;
        kept = λ v ne. refl;
        comes = inl (comes ∙ ap (λ o. look_at u o (look table more)) is ∙ ap (λ b. cond b (look table more) (To u next)) e);
      }

      passes : (next : Next) → next_of table u ≡ Some next → is_end next.sync ≡ false → stalls next.sync table u ≡ true
          → Over seats token u more
      passes next is live f =
          let found : look table (u ∷ more) ≡ To u next =
          ap (λ o. look_at u o (look table more)) is ∙ ap (λ b. cond b (look table more) (To u next)) live in
          let turns : turn (at seats token) ≡ passing (at seats token) u =
          turn-looks seats token (u ∷ more) alike comes ∙ ap (λ l. at_look l (at seats token)) found
          ∙ ap (λ b. cond {A = Again Table Turn} b (deadlocked (look (at seats token) (numbers 0 (length seats)))) (tried next.sync (at
          seats token) u next)) fresh
          ∙ stalled seats token alike u next next.sync f in
          record {
            after = with_nth seats u (λ s. record s { passed = true });
            last = suc u;
            alike = marked seats u ∙ alike;
            same = next_issue_step (at seats token) ∙ ap (go_on turn turns_left (Ended Finished) next_issue) turns;
            kept = λ v ne. ap (λ o. unwrap_or (option_map (λ s. s.passed) o) false) (other_nth (λ s. record s { passed = true }) seats
                u v ne);
            comes = inr refl;
          }
        where
          marked : (ss : List Seat) (k : ℕ) → map unpassed (with_nth ss k (λ s. record s { passed = true })) ≡ map unpassed ss
          marked [] k = refl
          marked (x ∷ xs) zero = refl
          marked (x ∷ xs) (suc k) = ap (λ zs. unpassed x ∷ zs) (marked xs k)

      by_next : (o : Option Next) → next_of table u ≡ o → rests_at o table u ≡ true → Over seats token u more
      by_next None is e = absurd (false≢true e)
      by_next (Some next) is e = by_end (is_end next.sync) refl e
        where
          by_end : (b : Bool) → is_end next.sync ≡ b → b || stalls next.sync table u ≡ true → Over seats token u more
          by_end true end e = ended next is end
          by_end false live e = passes next is live e

  -- ---- the thread at which the token stops

  -- a thread that does not rest: what its turn gives is the same, whoever has passed
  stops : (seats : List Seat) (token t : ℕ) (more : List ℕ) → Alike seats table.seats → Comes token (t ∷ more) → rests table t ≡ false
      → passed_at seats t ≡ false → turn (at seats token) ≡ rests_not t (next_of table t)
  stops seats token t more alike comes going fresh = by_next (next_of table t) refl going
    where
      by_next : (o : Option Next) → next_of table t ≡ o → rests_at o table t ≡ false → turn (at seats token) ≡ rests_not t o
      by_next None is e =
          turn-looks seats token (t ∷ more) alike comes ∙ ap (λ o. at_look (look_at t o (look table more)) (at seats token)) is
      by_next (Some next) is e =
          let parts = or-parts (is_end next.sync) (stalls next.sync table t) e in
          turn-looks seats token (t ∷ more) alike comes
          ∙ ap (λ o. at_look (look_at t o (look table more)) (at seats token)) is
          ∙ ap (λ b. at_look (cond b (look table more) (To t next)) (at seats token)) parts.0
          ∙ ap (λ b. cond {A = Again Table Turn} b (deadlocked (look (at seats token) (numbers 0 (length seats)))) (tried next.sync (at
          seats token) t next)) fresh
          ∙ tried-same seats token alike t next next.sync parts.1

  ring-parts : (s : ℕ) → ring (token_of s) (length table.seats) ≡ numbers s (length table.seats - s) ++ numbers 0 s
  ring-parts zero =
      let n = length table.seats in
      let e : n - 0 ≡ n = omega arith in
      ap (numbers 0) (sym e) ∙ sym (append-nil (numbers 0 (n - 0)))
  ring-parts (suc t) = refl

  comes-from : (s : ℕ) → Comes s (numbers s (length table.seats - s) ++ numbers 0 s)
  comes-from s = ap (look table) (ring-parts s)

  -- ---- all of them

  -- the token has come from one thread to another, and then comes to those up to a place, and to others
  record Walked (start u low past to : ℕ) (rest : List ℕ) : Type 0 where
    pub seats : List Seat
    pub token : ℕ
    pub alike : Alike seats table.seats
    pub same : next_issue (at table.seats start) ≡ next_issue (at seats token)
    pub fresh : (v : ℕ) → (v < low) ⊎ ((u ≤ v) × (v < past)) → passed_at seats v ≡ false
    pub comes : Comes token (numbers u (to - u) ++ rest)

  module _ (start : ℕ) (within : start ≤ length table.seats) (none : (v : ℕ) → passed_at table.seats v ≡ false) where
    abbrev n : ℕ
    n = length table.seats

    -- up to the last thread: then those below one that is not below the first
    record First (u : ℕ) : Type 0 where
      pub below : ℕ
      pub enough : start ≤ below
      pub walked : Walked start u start n n (numbers 0 below)

    -- from thread 0 on
    record Second (u : ℕ) : Type 0 where
      pub to : ℕ
      pub enough : start ≤ to
      pub rest : List ℕ
      pub walked : Walked start u 0 start to rest

    first_at : First start
    first_at = record {
      below = start;
      enough = omega arith;
      walked = record {
        seats = table.seats;
        token = start;
        alike = refl;
        same = refl;
        fresh = λ v c. none v;
        comes = comes-from start;
      };
    }

    first_more : (u : ℕ) → start ≤ u → u < n → rests table u ≡ true → First u → First (suc u)
    first_more u up less rest so =
        let w = so.walked in
        let list = ap (λ ts. look table (ts ++ numbers 0 so.below)) (numbers-first u n less) in
        by (over w.seats w.token u (numbers (suc u) (n - suc u) ++ numbers 0 so.below) w.alike (w.comes ∙ list) rest
        (w.fresh u (inr (omega arith, less))))
      where
        fresh : (o : List Seat) → ((v : ℕ) → (v ≡ u → ⊥) → passed_at o v ≡ passed_at so.walked.seats v) → (v : ℕ)
            → (v < start) ⊎ ((suc u ≤ v) × (v < n)) → passed_at o v ≡ false
        fresh o kept v (inl l) = kept v (λ e. omega (arith, e, l, up)) ∙ so.walked.fresh v (inl l)
        fresh o kept v (inr c) = kept v (λ e. let l = c.0 in omega (arith, e, l))
            ∙ so.walked.fresh v (inr (let l = c.0 in omega (arith, l), c.1))

        by : Over so.walked.seats so.walked.token u (numbers (suc u) (n - suc u) ++ numbers 0 so.below) → First (suc u)
        by o = by_way o.comes
          where
            by_way : (Comes o.last (numbers (suc u) (n - suc u) ++ numbers 0 so.below)) ⊎ (o.last ≡ suc u) → First (suc u)
            by_way (inl comes) = record {
              below = so.below;
              enough = so.enough;
              walked = record {
                seats = o.after;
                token = o.last;
                alike = o.alike;
                same = so.walked.same ∙ o.same;
                fresh = fresh o.after o.kept;
                comes = comes;
              };
            }
            by_way (inr last) = record {
              below = suc u;
              enough = omega (arith, up);
              walked = record {
                seats = o.after;
                token = o.last;
                alike = o.alike;
                same = so.walked.same ∙ o.same;
                fresh = fresh o.after o.kept;
                comes = subst (λ k. Comes k (numbers (suc u) (n - suc u) ++ numbers 0 (suc u))) (sym last) (comes-from (suc u));
              };
            }

    first : (k : ℕ) → start + k ≤ n → RestBetween start (start + k) table → First (start + k)
    first zero l rest = subst First (omega arith) first_at
    first (suc k) l rest =
        subst First (omega arith)
        (first_more (start + k) (omega arith) (omega (arith, l)) (rest (start + k) (omega arith) (omega arith))
        (first k (omega (arith, l)) (λ u a b. rest u a (omega (arith, b)))))

    second_at : First n → Second 0
    second_at so =
        let e : n - n ≡ 0 = omega arith in
        let z : so.below - 0 ≡ so.below = omega arith in
        record {
          to = so.below;
          enough = so.enough;
          rest = [];
          walked = record {
            seats = so.walked.seats;
            token = so.walked.token;
            alike = so.walked.alike;
            same = so.walked.same;
            fresh = second_fresh;
            comes =
                so.walked.comes ∙ ap (λ k. look table (numbers n k ++ numbers 0 so.below)) e
                ∙ ap (λ k. look table (numbers 0 k)) (sym z) ∙ ap (look table) (sym (append-nil (numbers 0 (so.below - 0))));
          };
        }
      where
        second_fresh : (v : ℕ) → (v < 0) ⊎ ((0 ≤ v) × (v < start)) → passed_at so.walked.seats v ≡ false
        second_fresh v (inl l) = absurd (omega (arith, l))
        second_fresh v (inr c) = so.walked.fresh v (inl c.1)

    second_more : (u : ℕ) → u < start → rests table u ≡ true → Second u → Second (suc u)
    second_more u less rest so =
        let w = so.walked in
        let up = so.enough in
        let list = ap (λ ts. look table (ts ++ so.rest)) (numbers-first u so.to (omega (arith, up, less))) in
        by (over w.seats w.token u (numbers (suc u) (so.to - suc u) ++ so.rest) w.alike (w.comes ∙ list) rest
        (w.fresh u (inr (omega arith, less))))
      where
        fresh : (o : List Seat) → ((v : ℕ) → (v ≡ u → ⊥) → passed_at o v ≡ passed_at so.walked.seats v) → (v : ℕ)
            → (v < 0) ⊎ ((suc u ≤ v) × (v < start)) → passed_at o v ≡ false
        fresh o kept v (inl l) = absurd (omega (arith, l))
        fresh o kept v (inr c) = kept v (λ e. let l = c.0 in omega (arith, e, l))
            ∙ so.walked.fresh v (inr (let l = c.0 in omega (arith, l), c.1))

        by : Over so.walked.seats so.walked.token u (numbers (suc u) (so.to - suc u) ++ so.rest) → Second (suc u)
        by o = by_way o.comes
          where
            by_way : (Comes o.last (numbers (suc u) (so.to - suc u) ++ so.rest)) ⊎ (o.last ≡ suc u) → Second (suc u)
            by_way (inl comes) = record {
              to = so.to;
              enough = so.enough;
              rest = so.rest;
              walked = record {
                seats = o.after;
                token = o.last;
                alike = o.alike;
                same = so.walked.same ∙ o.same;
                fresh = fresh o.after o.kept;
                comes = comes;
              };
            }
            by_way (inr last) = record {
              to = n;
              enough = within;
              rest = numbers 0 (suc u);
              walked = record {
                seats = o.after;
                token = o.last;
                alike = o.alike;
                same = so.walked.same ∙ o.same;
                fresh = fresh o.after o.kept;
                comes = subst (λ k. Comes k (numbers (suc u) (n - suc u) ++ numbers 0 (suc u))) (sym last) (comes-from (suc u));
              };
            }

    second : (k : ℕ) → k ≤ start → RestBetween 0 k table → Second 0 → Second k
    second zero l rest so = so
    second (suc k) l rest so =
        second_more k (omega (arith, l)) (rest k (omega arith) (omega arith))
        (second k (omega (arith, l)) (λ u a b. rest u a (omega (arith, b))) so)

    -- the thread that the token then comes to
    ends : (t to : ℕ) (rest : List ℕ) (low past : ℕ) → t < n → t < to → t < past → rests table t ≡ false → Walked start t low past to rest
        → next_issue (at table.seats start) ≡ next_issue (at table.seats t)
    ends t to rest low past inside less fresh going w =
        let here =
        stops w.seats w.token t (numbers (suc t) (to - suc t) ++ rest) w.alike
        (w.comes ∙ ap (λ ts. look table (ts ++ rest)) (numbers-first t to less)) going (w.fresh t (inr (omega arith, fresh))) in
        let there =
        stops table.seats t t (numbers (suc t) (n - suc t) ++ numbers 0 t) refl
        (comes-from t ∙ ap (λ ts. look table (ts ++ numbers 0 t)) (numbers-first t n inside)) going (none t) in
        w.same ∙ next_issue_step (at w.seats w.token)
        ∙ ap (go_on turn turns_left (Ended Finished) next_issue) (here ∙ sym there)
        ∙ sym (next_issue_step (at table.seats t))

    -- over threads from the first on
    pub jumped : (t : ℕ) → start ≤ t → t < n → RestBetween start t table → rests table t ≡ false
        → next_issue (looking table start) ≡ next_issue (looking table t)
    jumped t up inside rest going =
        let k : ℕ = t - start in
        let e : start + (t - start) ≡ t = omega (arith, up) in
        let so =
        subst First e (first (t - start) (omega (arith, up, inside)) (λ u a b. rest u a (omega (arith, b, up)))) in
        ends t n (numbers 0 so.below) start n inside inside inside going so.walked

    -- over those, and then over threads from 0 on
    pub jumped-round : (t : ℕ) → t < start → RestBetween start n table → RestBetween 0 t table → rests table t ≡ false
        → next_issue (looking table start) ≡ next_issue (looking table t)
    jumped-round t less high low going =
        let e : start + (n - start) ≡ n = omega (arith, within) in
        let so = subst First e (first (n - start) (omega (arith, within)) (λ u a b. high u a (omega (arith, b, within)))) in
        let two = second t (omega (arith, less)) low (second_at so) in
        let up = two.enough in
        ends t two.to two.rest 0 start (omega (arith, less, within)) (omega (arith, less, up)) less going two.walked

-- none has passed where none may have
pub none-passed : (first last : ℕ) (seats : List Seat) → PassedWithin first last seats → last < first → (t : ℕ) → passed_at seats t ≡ false
none-passed first last seats within less t = go (passed_at seats t) refl
  where
    go : (b : Bool) → passed_at seats t ≡ b → passed_at seats t ≡ false
    go false e = e
    go true e = let there = within t e in absurd (omega (arith, there.0, there.1, less))
