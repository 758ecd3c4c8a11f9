-- What stands after a lawful journal, from any stage at which it stands. There is one lemma for each kind of event that
-- is allowed, and a premise for restarts: none redoes what has retired. For a run that premise holds, since no fault of
-- what has retired is live, and a restart redoes nothing earlier than what is struck.
use Rattle.std.proofs.Common.{◌≡◌, inl, inr, ℕ, ◌+◌, ◌<◌, ◌≤◌, Bool, true, false, cond, List, [], ◌∷◌, ◌++◌, Contains, Option, Some, None, refl, sym, ap, subst, ◌∙◌, arith, nat_eq, nat_lt, nat_le, ◌&&◌, ◌||◌}
use Rattle.std.proofs.lemmas.Bool.{false≢true, false_from_ne_true, both_ways, eqb-true, eq-eqb, ne_eqb, ltb-true, le-leb, and_parts, and_from, or_right, cases_eq}
use Rattle.std.proofs.lemmas.List.Elements.{All-contains, Contains-push_cases, Contains-push, Contains-append_left}
use Rattle.gp_base.specs.declared.limits.TheConstants.{LONGEST_DELAY}
use Rattle.gp_base.specs.declared.fault.Fault.{Fault}
use Rattle.gp_base.specs.declared.journal.Event.{Event}
use Rattle.gp_base.specs.declared.journal.Event.TheVariants as event
use Rattle.task_ast.specs.meaning.Plain.{Subthread}
use Rattle.dependence.specs.meaning.Conflict.{clash_in}
use Rattle.dependence.specs.meaning.Dependents.{is_member}
use Rattle.dependence.specs.Dependents.{IsDependent, itself}
use Rattle.dependence.specs.meaning.Restarts.{Dependence, NoneLive, attempt_of, begun_of, is_live, is_due, least_struck, struck_next, restart_of}
use Rattle.dependence.specs.Restarts.{RedoesStruck}
use Rattle.dependence.specs.meaning.Journal.{Stage, initial_stage, Allowed, happens, restarted, LawfulFrom, Lawful, stage_from, stage}
use Rattle.dependence.specs.meaning.Runs.{feet_of, dependence_of}
use Rattle.dependence.specs.Standing.{present, NamesAttempt, AreShort, RedoesConflicts, RedoesLater, StageStands, KeepsRetired, KeepsClean}
use Rattle.dependence.proofs.DependentSets.{is_member-is, IsDependent-from, IsDependent-front, dependents-are}
use Rattle.dependence.proofs.RestartEnds.{attempt-push}
use Rattle.dependence.proofs.Struck.{none-among, none-left, struck-live, names-live}

module _ (dependence : Dependence) (redoes_all : RedoesConflicts dependence) (faults : List Fault) (short : AreShort faults) where
  issue-stands : (at : Stage) (p : ℕ) → StageStands dependence faults at → Allowed dependence faults at (event.Issue p)
      → StageStands dependence faults (happens dependence faults at (event.Issue p))
  issue-stands at p stands allowed =
      record {
        front_low = (let a = allowed.next in let b = allowed.left in omega arith);
        retired_low = (let a = stands.retired_low in omega arith);
        posted_low = λ q a h. (let k = stands.posted_low q a h in let l = k.0 in (omega arith, k.1));
        taken_posted = stands.taken_posted;
        applied_posted = stands.applied_posted;
        applied_taken = stands.applied_taken;
        taken_applied = stands.taken_applied;
        ready = stands.ready;
        retired_applied = stands.retired_applied;
        retired_clean = stands.retired_clean;
      }

  post-stands : (at : Stage) (p attempt : ℕ) → StageStands dependence faults at → Allowed dependence faults at (event.Post p attempt)
      → StageStands dependence faults (happens dependence faults at (event.Post p attempt))
  post-stands at p attempt stands allowed =
      record {
        front_low = stands.front_low;
        retired_low = stands.retired_low;
        posted_low = λ q a h. elim (Contains-push_cases at.posted (p, attempt) (q, a) h) [
          | inl old ↦ stands.posted_low q a old
          | inr new ↦
              (let e : p ≡ q = ap (λ x. x.0) new in let f : attempt ≡ a = ap (λ x. x.1) new in let l = allowed.issued in
              let g = allowed.present in let k = ap (present at) e in (omega arith, omega arith))
        ];
        taken_posted = λ q a h. Contains-append_left at.posted ((p, attempt) ∷ []) (q, a) (stands.taken_posted q a h);
        applied_posted = λ q low e. Contains-append_left at.posted ((p, attempt) ∷ []) (q, present at q) (stands.applied_posted q low e);
        applied_taken = λ q e h. elim (Contains-push_cases at.posted (p, attempt) (q, present at q) h) [
          | inl old ↦ stands.applied_taken q e old
          | inr new ↦ (let same : p ≡ q = ap (λ x. x.0) new in let low = allowed.unretired in
              absurd (allowed.unposted (subst (Contains at.posted) (sym new) (stands.applied_posted q (omega arith) e))))
        ];
        taken_applied = stands.taken_applied;
        ready = λ q r h l c. elim (Contains-push_cases at.posted (p, attempt) (q, present at q) h) [
          | inl old ↦ stands.ready q r old l c
          | inr new ↦ (let e : p ≡ q = ap (λ x. x.0) new in allowed.ready r (omega arith) (ap (dependence.clash r) e ∙ c))
        ];
        retired_applied = stands.retired_applied;
        retired_clean = stands.retired_clean;
      }

  take-stands : (at : Stage) (p attempt : ℕ) (applies : Bool) → StageStands dependence faults at
      → Allowed dependence faults at (event.Take p attempt applies)
      → StageStands dependence faults (happens dependence faults at (event.Take p attempt applies))
  take-stands at p attempt applies stands allowed =
      record {
        front_low = stands.front_low;
        retired_low = stands.retired_low;
        posted_low = stands.posted_low;
        taken_posted = λ q a h. elim (Contains-push_cases at.taken (p, attempt) (q, a) h) [
          | inl old ↦ stands.taken_posted q a old
          | inr new ↦ subst (Contains at.posted) new allowed.posted
        ];
        applied_posted = λ q low e. applied_posted q low (applies && nat_eq q p) refl e;
        applied_taken = λ q e h. applied_taken q (applies && nat_eq q p) refl e h;
        taken_applied = λ q h. elim (Contains-push_cases at.taken (p, attempt) (q, present at q) h) [
          | inl old ↦ still q (stands.taken_applied q old)
          | inr new ↦ (let e : p ≡ q = ap (λ x. x.0) new in let f : attempt ≡ present at q = ap (λ x. x.1) new in
              let b : (applies && nat_eq q p) ≡ true =
              and_from applies (nat_eq q p) (allowed.decided
              ∙ eq-eqb attempt (present at p) (f ∙ ap (present at) (sym e))) (eq-eqb q p (sym e)) in
              rw b refl)
        ];
        ready = λ q r h l c. still r (stands.ready q r h l c);
        retired_applied = λ q l. still q (stands.retired_applied q l);
        retired_clean = stands.retired_clean;
      }
    where
      still : (q : ℕ) → at.applied q ≡ true → ((applies && nat_eq q p) || at.applied q) ≡ true
      still q e = or_right (applies && nat_eq q p) (at.applied q) e

      -- the position that is applied is that of the attempt that is taken
      here : (q : ℕ) → (applies && nat_eq q p) ≡ true → ◌≡◌ {A = ℕ × ℕ} (p, attempt) (q, present at q)
      here q b =
          let parts = and_parts applies (nat_eq q p) b in
          let same : p ≡ q = sym (eqb-true q p parts.1) in
          let f : attempt ≡ present at q = eqb-true attempt (present at p) (sym allowed.decided ∙ parts.0) ∙ ap (present at) same in
          λ i. (same i, f i)

      applied_posted : (q : ℕ) → at.retired ≤ q → (b : Bool) → (applies && nat_eq q p) ≡ b → (b || at.applied q) ≡ true
          → Contains at.posted (q, present at q)
      applied_posted q low true b e = subst (Contains at.posted) (here q b) allowed.posted
      applied_posted q low false b e = stands.applied_posted q low e

      applied_taken : (q : ℕ) → (b : Bool) → (applies && nat_eq q p) ≡ b → (b || at.applied q) ≡ true → Contains at.posted (q, present at q)
          → Contains (at.taken ++ (p, attempt) ∷ []) (q, present at q)
      applied_taken q true b e h = subst (Contains (at.taken ++ (p, attempt) ∷ [])) (here q b) (Contains-push at.taken (p, attempt))
      applied_taken q false b e h = Contains-append_left at.taken ((p, attempt) ∷ []) (q, present at q) (stands.applied_taken q e h)

  restart-stands : (at : Stage) (o : Option ℕ) → struck_next dependence faults at.progress ≡ o → KeepsRetired dependence faults at
      → StageStands dependence faults at → StageStands dependence faults (restarted dependence at o)
  restart-stands at None e keeps stands = stands
  restart-stands at (Some p) e keeps stands =
      record {
        front_low = stands.front_low;
        retired_low = stands.retired_low;
        posted_low = λ q a h. (let k = stands.posted_low q a h in let l = k.1 in let r = risen q in (k.0, omega arith));
        taken_posted = stands.taken_posted;
        applied_posted = λ q low f. applied_posted q low (is_redone q) refl f;
        applied_taken = λ q f h. applied_taken q (is_redone q) refl f h;
        taken_applied = λ q h. taken_applied q (is_redone q) refl h;
        ready = λ q r h l c. ready q r (is_redone q) refl h l c;
        retired_applied = λ q l. rw (late q l) (stands.retired_applied q l);
        retired_clean = λ q l n. stands.retired_clean q l (subst (NamesAttempt faults q) (kept q (late q l)) n);
      }
    where
      is_redone : ℕ → Bool
      is_redone q = is_member q (dependence.redo p at.progress.front)

      later : ℕ → ℕ
      later q = present (restarted dependence at (Some p)) q

      kept : (q : ℕ) → is_redone q ≡ false → later q ≡ present at q
      kept q f = let h = rw f at (attempt-push at.progress.made (restart_of dependence at.progress p) q) in omega arith

      raised : (q : ℕ) → is_redone q ≡ true → later q ≡ present at q + 1
      raised q f = rw f at (attempt-push at.progress.made (restart_of dependence at.progress p) q)

      risen : (q : ℕ) → present at q ≤ later q
      risen q = let h = attempt-push at.progress.made (restart_of dependence at.progress p) q in omega arith

      not_posted : (q : ℕ) → is_redone q ≡ true → Contains at.posted (q, later q) → ⊥
      not_posted q f h = let k = (stands.posted_low q (later q) h).1 in let r = raised q f in omega arith

      late : (q : ℕ) → q < at.retired → is_redone q ≡ false
      late q l = false_from_ne_true (is_redone q) (λ t. keeps p q e l ((is_member-is q (dependence.redo p at.progress.front)).0 t))

      applied_posted : (q : ℕ) → at.retired ≤ q → (b : Bool) → is_redone q ≡ b → cond b false (at.applied q) ≡ true
          → Contains at.posted (q, later q)
      applied_posted q low true f g = absurd (false≢true g)
      applied_posted q low false f g = rw (kept q f) (stands.applied_posted q low g)

      applied_taken : (q : ℕ) → (b : Bool) → is_redone q ≡ b → cond b false (at.applied q) ≡ true → Contains at.posted (q, later q)
          → Contains at.taken (q, later q)
      applied_taken q true f g h = absurd (false≢true g)
      applied_taken q false f g h = rw (kept q f) (stands.applied_taken q g (subst (λ a. Contains at.posted (q, a)) (kept q f) h))

      taken_applied : (q : ℕ) → (b : Bool) → is_redone q ≡ b → Contains at.taken (q, later q) → cond b false (at.applied q) ≡ true
      taken_applied q true f h = absurd (not_posted q f (stands.taken_posted q (later q) h))
      taken_applied q false f h = stands.taken_applied q (subst (λ a. Contains at.taken (q, a)) (kept q f) h)

      ready : (q r : ℕ) → (b : Bool) → is_redone q ≡ b → Contains at.posted (q, later q) → r < q → dependence.clash r q ≡ true
          → cond (is_redone r) false (at.applied r) ≡ true
      ready q r true f h l c = absurd (not_posted q f h)
      ready q r false f h l c = go (is_redone r) refl
        where
          old : Contains at.posted (q, present at q)
          old = subst (λ a. Contains at.posted (q, a)) (kept q f) h

          go : (b : Bool) → is_redone r ≡ b → cond b false (at.applied r) ≡ true
          go true g = absurd (both_ways (is_redone q) f ((is_member-is q (dependence.redo p at.progress.front)).1
              (redoes_all.closed p at.progress.front r q ((is_member-is r (dependence.redo p at.progress.front)).0 g) l
              (stands.posted_low q (present at q) old).0 c)))
          go false g = stands.ready q r old l c

  retire-stands : (at : Stage) (p : ℕ) → StageStands dependence faults at → Allowed dependence faults at (event.Retire p)
      → StageStands dependence faults (happens dependence faults at (event.Retire p))
  retire-stands at p stands allowed =
      record {
        front_low = stands.front_low;
        retired_low = (let l = allowed.issued in omega arith);
        posted_low = stands.posted_low;
        taken_posted = stands.taken_posted;
        applied_posted = λ q low e. (let a = allowed.oldest in stands.applied_posted q (omega arith) e);
        applied_taken = stands.applied_taken;
        taken_applied = stands.taken_applied;
        ready = stands.ready;
        retired_applied =
            λ q l. elim (cases_eq q p) [
              | inl e ↦ ap at.applied e
                  ∙ allowed.applied
              | inr ne ↦ (let a = allowed.oldest in stands.retired_applied q (omega arith))
            ];
        retired_clean =
            λ q l n. elim (cases_eq q p) [
              | inl e ↦ clean (subst (λ x. NamesAttempt faults x (present at x)) e n)
              | inr ne ↦ (let a = allowed.oldest in stands.retired_clean q (omega arith) n)
            ];
      }
    where
      clean : NamesAttempt faults p (present at p) → ⊥
      clean n =
          elim allowed.safe [
            | inl rest ↦ both_ways (is_due at.progress n.0) (none-among (is_due at.progress) faults n.0 allowed.none_due n.1)
                (and_from (is_live at.progress n.0) (nat_le (begun_of at.progress.made (n.0).pos + (n.0).delay) at.progress.front)
                (names-live faults at.progress p allowed.issued n)
                (let s = All-contains (λ (fault : Fault). fault.delay ≤ LONGEST_DELAY) faults n.0 short n.1 in
                let g = ap (begun_of at.progress.made) n.2 in
                let issued = allowed.issued in
                let counted = stands.front_low in
                let long = (rest p (omega arith) (omega arith) refl).long in le-leb _ _ (omega arith)))
            | inr drained ↦
                both_ways (is_live at.progress n.0) (none-among (is_live at.progress) faults n.0 drained.1 n.1)
                (names-live faults at.progress p allowed.issued n)
          ]

  pub happens-stands : (at : Stage) (event : Event) → KeepsRetired dependence faults at → StageStands dependence faults at
      → Allowed dependence faults at event → StageStands dependence faults (happens dependence faults at event)
  happens-stands at (event.Issue p) keeps stands allowed = issue-stands at p stands allowed
  happens-stands at (event.Post p attempt) keeps stands allowed = post-stands at p attempt stands allowed
  happens-stands at (event.Take p attempt applies) keeps stands allowed = take-stands at p attempt applies stands allowed
  happens-stands at (event.Restart number) keeps stands allowed =
      restart-stands at (struck_next dependence faults at.progress) refl keeps stands
  happens-stands at (event.Retire p) keeps stands allowed = retire-stands at p stands allowed

  -- from any stage at which it stands, where no restart redoes what has retired
  pub stands-from : ((other : Stage) → StageStands dependence faults other → KeepsRetired dependence faults other)
      → (at : Stage) (events : List Event)
      → StageStands dependence faults at → LawfulFrom dependence faults at events
      → StageStands dependence faults (stage_from dependence faults at events)
  stands-from keeps at [] stands lawful = stands
  stands-from keeps at (event ∷ rest) stands lawful =
      stands-from keeps (happens dependence faults at event) rest (happens-stands at event (keeps at stands) stands lawful.0) lawful.1

pub initial-stands : (dependence : Dependence) (faults : List Fault) → StageStands dependence faults initial_stage
initial-stands dependence faults =
    record {
      front_low = omega arith;
      retired_low = omega arith;
      posted_low = λ p attempt h. absurd (none h);
      taken_posted = λ p attempt h. absurd (none h);
      applied_posted = λ p l e. absurd (false≢true e);
      applied_taken = λ p e. absurd (false≢true e);
      taken_applied = λ p h. absurd (none h);
      ready = λ p q h. absurd (none h);
      retired_applied = λ p l. absurd (omega arith);
      retired_clean = λ p l. absurd (omega arith);
    }
  where
    none : {x : ℕ × ℕ} → Contains [] x → ⊥
    none h = let l = h.1 in omega arith

-- what has retired has no live fault, so that no restart from a live one on redoes it
pub keeps-retired : (dependence : Dependence) (faults : List Fault) (at : Stage) → RedoesLater dependence → StageStands dependence faults at
    → KeepsRetired dependence faults at
keeps-retired dependence faults at later stands struck p e l redone =
    let low = later struck at.progress.front p redone in
    stands.retired_clean struck (omega arith) (struck-live dependence faults at.progress struck e).1

-- where all that was issued has retired, no fault is live
pub none-live : (dependence : Dependence) (faults : List Fault) (at : Stage) → StageStands dependence faults at
    → at.retired ≡ at.progress.front → NoneLive faults at.progress
none-live dependence faults at stands all =
    none-left (is_live at.progress) faults (λ fault member. go fault member (is_live at.progress fault) refl)
  where
    go : (fault : Fault) → Contains faults fault → (b : Bool) → is_live at.progress fault ≡ b → b ≡ false
    go fault member false e = refl
    go fault member true e =
        let l = and_parts (nat_lt fault.pos at.progress.front) (nat_eq fault.attempt (attempt_of at.progress.made fault.pos)) e in
        let below : fault.pos < at.progress.front = ltb-true _ _ l.0 in
        absurd (stands.retired_clean fault.pos (omega arith) (fault, member, refl, eqb-true _ _ l.1))

-- nothing is struck where an issue is allowed
pub issue-passes : (dependence : Dependence) (faults : List Fault) (at : Stage) (p : ℕ) → StageStands dependence faults at
    → Allowed dependence faults at (event.Issue p)
    → struck_next dependence faults at.progress ≡ None
issue-passes dependence faults at p stands allowed =
    rw (allowed.none_due, ne_eqb at.progress.front dependence.count apart) (go (dependence.settles at.progress.front) refl)
  where
    apart : at.progress.front ≡ dependence.count → ⊥
    apart e = let same = allowed.next in let left = allowed.left in omega arith

    go : (b : Bool) → dependence.settles at.progress.front ≡ b → cond (false || b) (least_struck (is_live at.progress) faults) None ≡ None
    go false e = refl
    go true e = none-live dependence faults at stands (allowed.settled (ap dependence.settles allowed.next ∙ e) ∙ allowed.next)

module _ (run : List Subthread) where
  abbrev clash : ℕ → ℕ → Bool
  clash = clash_in (feet_of run)

  abbrev Clash : ℕ → ℕ → Type 0
  Clash p q = clash p q ≡ true

  pub run-redoes : RedoesConflicts (dependence_of run)
  run-redoes =
      record {
        below = λ struck front p h. IsDependent-front Clash struck front ((dependents-are clash struck front p).0 h);
        closed =
            λ struck front p q h l m c. (dependents-are clash struck front q).1
            (IsDependent.later ((dependents-are clash struck front p).0 h) l m c);
      }

  pub run-later : RedoesLater (dependence_of run)
  run-later struck front p h = IsDependent-from Clash struck front ((dependents-are clash struck front p).0 h)

  run-struck : RedoesStruck (dependence_of run)
  run-struck struck front l = (dependents-are clash struck front struck).1 (itself l)

  -- a run keeps clean what has retired
  pub run-clean : (faults : List Fault) → AreShort faults → KeepsClean (dependence_of run) faults
  run-clean faults short =
      record {
        struck = run-struck;
        conflicts = run-redoes;
        short = short;
        retired = λ at. keeps-retired (dependence_of run) faults at run-later;
      }

  pub run-stands : (faults : List Fault) (events : List Event) → AreShort faults → Lawful (dependence_of run) faults events
      → StageStands (dependence_of run) faults (stage (dependence_of run) faults events)
  run-stands faults events short lawful =
      stands-from (dependence_of run) run-redoes faults short
      (λ at. keeps-retired (dependence_of run) faults at run-later) initial_stage events
      (initial-stands (dependence_of run) faults) lawful
