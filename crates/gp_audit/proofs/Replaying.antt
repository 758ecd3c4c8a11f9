-- What is kept goes on as the restarts of the faults do. What is kept replays some restarts where it has, of each
-- position, the attempt and the beginning that they give it (Replays). The next front, and the restart of the position
-- that is struck, are each one step of the restarts by definition (Advances).
use Rattle.std.proofs.Common.{◌≡◌, inl, inr, ℕ, ◌+◌, ◌<◌, ◌≤◌, min, Bool, true, false, cond, List, [], ◌∷◌, ◌++◌, length, length-append, Some, None, refl, sym, ap, subst, ◌∙◌, arith}
use Rattle.std.specs.Prelude.{slice_get}
use Rattle.std.proofs.lemmas.Option.{slice_get-get_or}
use Rattle.std.proofs.lemmas.List.{get_or_past}
use Rattle.std.proofs.lemmas.List.Sums.{count_by-le-length}
use Rattle.std.proofs.lemmas.Bool.{false≢true, false_from_ne_true, eqb-true, eq-eqb, cases_lt}
use Rattle.gp_base.specs.declared.fault.Fault.{Fault}
use Rattle.gp_base.specs.declared.journal.Restart.{Restart}
use Rattle.one_thread.specs.declared.run.Step.{Step}
use Rattle.dependence.specs.meaning.Dependents.{is_member}
use Rattle.dependence.specs.meaning.Restarts.{Dependence, Progress, redoes, attempt_of, begun_of, struck_next, restart_of, advance_by, progress}
use Rattle.dependence.proofs.DependentSets.{is_member-is, dependents_rise}
use Rattle.dependence.proofs.RestartEnds.{attempt-push, begun-push, made-first, few-restarts}
use Rattle.dependence.proofs.Struck.{struck-live}
use Rattle.gp_audit.specs.declared.state.Seen.{Seen}
use Rattle.gp_audit.specs.declared.line.TraceLine.TheVariants as line
use Rattle.gp_audit.specs.Steps.{dependence_by}
use Rattle.gp_audit.specs.inner.Audited.{Audited, nothing_seen, seen_at, first_seen, raised_seen, all_raised, is_last, struck_in, restart_at, after_line}
use Rattle.gp_audit.specs.inner.Replayed.{IsAttempt, Reaches, progress_in, Replays, Advances}
use Rattle.gp_audit.proofs.After.{push_cases, raised_at, raised_length}
use Rattle.gp_audit.proofs.Reaching.{struck-is}
use Rattle.gp_audit.proofs.StepOrder.{steps-struck, steps-redo}

module _ (a : Audited) (made : List Restart) (replays : Replays a made) where
  abbrev dependence : Dependence
  dependence = dependence_by a.steps

  abbrev at : Progress
  at = progress_in a made

  reaches : Reaches at a
  reaches = record { front = refl; each = replays.each }

  struck-next : struck_in a ≡ struck_next dependence a.faults at
  struck-next = struck-is at a reaches

  -- a position that is struck was issued
  pub struck-low : (p : ℕ) → struck_in a ≡ Some p → p < length a.seen
  struck-low p e = (struck-live dependence a.faults at p (sym struck-next ∙ e)).0

  attempt-is : (p : ℕ) → p < length a.seen → IsAttempt made p (seen_at a.seen p)
  attempt-is p l = replays.each p (seen_at a.seen p) (slice_get-get_or a.seen p (first_seen p) l)

  -- no attempt has a greater number than there are restarts
  pub few-attempts : (p : ℕ) → (seen_at a.seen p).attempt ≤ length made
  few-attempts p =
      elim (cases_lt p (length a.seen)) [
        | inl l ↦ (let is = (attempt-is p l).attempt in let few = count_by-le-length (redoes p) made in omega arith)
        | inr past ↦
            (let none : (seen_at a.seen p).attempt ≡ 0 = ap (λ (s : Seen). s.attempt) (get_or_past a.seen p (first_seen p) past) in
            omega arith)
      ]

  -- at the end of the run, and where no fault is due, nothing changes
  pub stays-last : struck_in a ≡ None → is_last a ≡ true → Advances a made a made
  stays-last none last =
      let end : length a.seen ≡ length a.steps = eqb-true (length a.seen) (length a.steps) last in
      let front : length a.seen ≡ min (length a.seen + 1) (length a.steps) = omega arith in
      record {
        steps = refl;
        faults = refl;
        replays = replays;
        progress = (λ i. record { front = front i; made = made }) ∙ ap (advance_by dependence at) (sym none ∙ struck-next);
      }

  -- the next front
  module _ (none : struck_in a ≡ None) (more : is_last a ≡ false) where
    left : length a.seen < length a.steps
    left =
        let within = replays.within in
        elim (cases_lt (length a.seen) (length a.steps)) [
          | inl l ↦ l
          | inr l ↦ absurd (false≢true (sym more ∙ eq-eqb (length a.seen) (length a.steps) (omega arith)))
        ]

    pub issues-next : Advances a made (after_line a (line.Issue (length a.seen))) made
    issues-next =
        let p = length a.seen in
        let long : length (a.seen ++ first_seen p ∷ []) ≡ p + 1 = length-append a.seen (first_seen p ∷ []) in
        let low = left in
        let front : length (a.seen ++ first_seen p ∷ []) ≡ min (p + 1) (length a.steps) = omega arith in
        record {
          steps = refl;
          faults = refl;
          replays = record {
            within = omega arith;
            each = λ q s e. elim (push_cases a.seen (first_seen p) q s e) [
              | inl old ↦ replays.each q s old
              | inr new ↦
                  subst (IsAttempt made q) new.1 (subst (λ x. IsAttempt made x (first_seen p)) (sym new.0)
                  (record { attempt = sym (replays.attempt p (omega arith)); begun = sym (replays.begun p (omega arith)) }))
            ];
            attempt = λ q l. replays.attempt q (omega arith);
            begun = λ q l. replays.begun q (omega arith);
          };
          progress = (λ i. record { front = front i; made = made }) ∙ ap (advance_by dependence at) (sym none ∙ struck-next);
        }

  -- the restart of the position that is struck
  module _ (p : ℕ) (struck : struck_in a ≡ Some p) where
    abbrev restart : Restart
    restart = restart_at a p

    same : restart ≡ restart_of dependence at p
    same =
        let is = (attempt-is p (struck-low p struck)).attempt in
        λ i. record { front = length a.seen; struck = p; attempt = is i; redo = dependence.redo p (length a.seen) }

    none-past : (q : ℕ) → length a.seen ≤ q → redoes q restart ≡ false
    none-past q l =
        false_from_ne_true (is_member q restart.redo)
        (λ e. let low = (steps-redo a.steps).below p (length a.seen) q ((is_member-is q restart.redo).0 e) in omega arith)

    pub restarts-next : Advances a made (after_line a (line.Restart restart)) (made ++ restart ∷ [])
    restarts-next =
        let long = raised_length (length a.seen) restart.redo a.seen in
        let within = replays.within in
        record {
          steps = refl;
          faults = refl;
          replays =
              record {
                within = omega arith;
                each = each;
                attempt = λ q l. past-attempt q (omega arith);
                begun = λ q l. past-begun q (omega arith);
              };
          progress =
              (λ i. record { front = long i; made = made ++ same i ∷ [] })
              ∙ ap (advance_by dependence at) (sym struck ∙ struck-next);
        }
      where
        past-attempt : (q : ℕ) → length a.seen ≤ q → attempt_of (made ++ restart ∷ []) q ≡ 0
        past-attempt q l =
            let pushed : attempt_of (made ++ restart ∷ []) q ≡ attempt_of made q + 0 =
            attempt-push made restart q ∙ ap (λ b. attempt_of made q + cond b 1 0) (none-past q l) in
            let before = replays.attempt q l in
            omega arith

        past-begun : (q : ℕ) → length a.seen ≤ q → begun_of (made ++ restart ∷ []) q ≡ q + 1
        past-begun q l =
            begun-push made restart q ∙ (ap (λ b. cond b (length a.seen) (begun_of made q)) (none-past q l) ∙ replays.begun q l)

        now : (q : ℕ) → q < length a.seen → (b : Bool) → redoes q restart ≡ b
            → IsAttempt (made ++ restart ∷ []) q (cond b (raised_seen (length a.seen) (seen_at a.seen q)) (seen_at a.seen q))
        now q l true e =
            let was = attempt-is q l in
            let pushed = attempt-push made restart q ∙ ap (λ b. attempt_of made q + cond b 1 0) e in
            record {
              attempt = ap (λ n. n + 1) was.attempt ∙ sym pushed;
              begun = sym (begun-push made restart q ∙ ap (λ b. cond b (length a.seen) (begun_of made q)) e);
            }
        now q l false e =
            let was = attempt-is q l in
            let pushed : attempt_of (made ++ restart ∷ []) q ≡ attempt_of made q =
            (let h = attempt-push made restart q ∙ ap (λ b. attempt_of made q + cond b 1 0) e in omega arith) in
            record {
              attempt = was.attempt ∙ sym pushed;
              begun = was.begun ∙ sym (begun-push made restart q ∙ ap (λ b. cond b (length a.seen) (begun_of made q)) e);
            }

        each : (q : ℕ) (s : Seen) → slice_get (all_raised (length a.seen) restart.redo a.seen) q ≡ Some s
            → IsAttempt (made ++ restart ∷ []) q s
        each q s e =
            let at =
            raised_at (length a.seen) restart.redo a.seen q s (λ k c. (steps-redo a.steps).below p (length a.seen) k c)
            (dependents_rise dependence.clash p (length a.seen)) e in
            subst (IsAttempt (made ++ restart ∷ []) q) (sym at.0) (now q at.1 (redoes q restart) refl)

-- what is kept after the next front, and after the next restart
pub issue-advances : (a : Audited) (made : List Restart) (a' : Audited) (p : ℕ) → Replays a made → struck_in a ≡ None → is_last a ≡ false
    → p ≡ length a.seen
    → a' ≡ after_line a (line.Issue p) → Advances a made a' made
issue-advances a made a' p replays none more here issued =
    subst (λ x. Advances a made x made) (sym (issued ∙ ap (λ x. after_line a (line.Issue x)) here)) (issues-next a made replays none more)

pub restart-advances : (a : Audited) (made : List Restart) (a' : Audited) (made' : List Restart) (p : ℕ) (r : Restart) → Replays a made
    → struck_in a ≡ Some p → r ≡ restart_at a p
    → a' ≡ after_line a (line.Restart r) → made' ≡ made ++ r ∷ [] → Advances a made a' made'
restart-advances a made a' made' p r replays struck is restarted pushed =
    subst (λ x. Advances a made x made') (sym (restarted ∙ ap (λ x. after_line a (line.Restart x)) is))
    (subst (λ x. Advances a made (after_line a (line.Restart (restart_at a p))) x) (sym (pushed ∙ ap (λ x. made ++ x ∷ []) is))
    (restarts-next a made replays p struck))

-- before the first event
pub nothing-replays : (steps : List Step) (faults : List Fault) → Replays (nothing_seen steps faults) []
nothing-replays steps faults = record { within = omega arith; each = λ p s e. absurd (cc e); attempt = λ p l. refl; begun = λ p l. refl }

-- there are never more restarts than faults
pub few-made : (steps : List Step) (faults : List Fault) (k : ℕ) → length (progress (dependence_by steps) faults k).made ≤ length faults
few-made steps faults k =
    let dependence = dependence_by steps in
    let rest = made-first dependence (steps-struck steps) faults k in
    let all = few-restarts dependence (steps-struck steps) faults in
    let long = ap length rest.1 in
    let sum = length-append (progress dependence faults k).made rest.0 in
    omega arith
