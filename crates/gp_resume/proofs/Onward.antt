-- How a run goes on, one subthread after another.
use Rattle.std.proofs.Common.{◌≡◌, ℕ, zero, suc, ◌+◌, ◌-◌, ◌<◌, ◌≤◌, List, [], ◌∷◌, ◌++◌, length, length-append, Contains, Option, refl, sym, ap, ◌∙◌, subst, append_assoc, append-nil, arith}
use Rattle.std.specs.Io.KnownBytes.{Appends}
use Rattle.std.proofs.KnownBytes.{Appends-nil}
use Rattle.std.proofs.lemmas.Grind.{flat_map-append}
use Rattle.gp_base.specs.meaning.Sinks.{AppendsPrefix}
use Rattle.gp_base.specs.declared.ending.End.{End}
use Rattle.gp_base.proofs.Written.{Appends-append, prefix_second, prefix_all}
use Rattle.task_ast.specs.meaning.Repeat.{Goes, Ends, steps, steps_from, state_after, state_from}
use Rattle.task_ast.specs.meaning.Plain.{Subthread, ending_of}
use Rattle.task_ast.specs.Plain.{Plain, tree_machine, move}
use Rattle.task_ast.proofs.PlainSteps.{begins_of}
use Rattle.restart_log.specs.meaning.Lines.{printed, printed_line}
use Rattle.subthread.specs.Tasks.{program_in}
use Rattle.gp_resume.specs.declared.course.ResumePlan.{ResumePlan}
use Rattle.gp_resume.specs.declared.course.Course.{Course}
use Rattle.gp_resume.specs.meaning.Resumed.{lines_of}
use Rattle.gp_resume.specs.inner.Course.{IsSound, IsHome, Stands, Ended}
use Rattle.task_ast.specs.laws.Standing.{at_once}
use Rattle.gp_resume.specs.inner.Waves.{WentBy}
use Rattle.gp_resume.specs.inner.Going.{left, rest, last, firsts_from, Went, WentOn}

-- the printed lines of subthreads that come after others
pub printed-lines : (first second : List Subthread)
    → printed (lines_of (first ++ second)) ≡ printed (lines_of first) ++ printed (lines_of second)
printed-lines first second =
    ap printed (flat_map-append (λ (s : Subthread). s.lines) first second)
    ∙ flat_map-append printed_line (lines_of first) (lines_of second)

pub printed-one : (s : Subthread) → printed (lines_of (s ∷ [])) ≡ printed s.lines
printed-one s = ap printed (append-nil s.lines)

-- one position more
pub firsts-push : (p n : ℕ) → firsts_from p (suc n) ≡ firsts_from p n ++ (p + n, 0) ∷ []
firsts-push p zero = ap (λ q. (q, 0) ∷ []) (let same : p ≡ p + 0 = omega arith in same)
firsts-push p (suc n) =
    ap (λ pairs. (p, 0) ∷ pairs)
    (firsts-push (suc p) n ∙ ap (λ q. firsts_from (suc p) n ++ (q, 0) ∷ []) (let same : suc p + n ≡ p + suc n = omega arith in same))

pub firsts-both : (p n m : ℕ) → firsts_from p (n + m) ≡ firsts_from p n ++ firsts_from (p + n) m
firsts-both p zero m =
    let less : 0 + m ≡ m = omega arith in
    let same : p ≡ p + 0 = omega arith in
    λ i. firsts_from (same i) (less i)
firsts-both p (suc n) m =
    let more : suc n + m ≡ suc (n + m) = omega arith in
    ap (firsts_from p) more
    ∙ ap (λ pairs. (p, 0) ∷ pairs)
    (firsts-both (suc p) n m ∙ ap (λ q. firsts_from (suc p) n ++ firsts_from q m) (let same : suc p + n ≡ p + suc n = omega arith in same))

-- a position past them is none of them
pub firsts-past : (p n q : ℕ) → p + n ≤ q → ¬ Contains (firsts_from p n) (q, 0)
firsts-past p zero q past (k, less, is) = absurd (omega arith)
firsts-past p (suc n) q past (zero, less, is) = absurd (let same = ap (λ pair. pair.0) is in omega arith)
firsts-past p (suc n) q past (suc k, less, is) = firsts-past (suc p) n q (omega arith) (k, omega arith, is)

module _ (plan : ResumePlan) where
  -- where a subthread begins, one more is issued, within the limit
  pub issued-next : (x : Plain) (s : Subthread) (y : Plain)
      → move (program_in plan.work.now) plan.inputs.value plan.limits x ≡ Goes s y → IsSound plan x
      → (y.table.issued ≡ suc x.table.issued) × (x.table.issued < plan.limits.subthreads)
  issued-next x s y moves sound =
      let b = begins_of (tree_machine (program_in plan.work.now) plan.inputs.value plan.limits) x s y moves in
      let limit = sound.limit in
      let below = b.below in (
        ap (λ (y : Plain). y.table.issued) b.left ∙ ap suc b.same.issued,
        omega arith,
      )

  -- the rest is that subthread and then the rest from there
  pub rest-goes : (x : Plain) (s : Subthread) (y : Plain)
      → move (program_in plan.work.now) plan.inputs.value plan.limits x ≡ Goes s y → IsSound plan x → rest plan x ≡ s ∷ rest plan y
  unfolding steps
  rest-goes x s y moves sound =
      let next = issued-next x s y moves sound in
      let more : left plan x ≡ suc (left plan y) = (let one = next.0 in let below = next.1 in omega arith) in
      ap (λ n. steps (move (program_in plan.work.now) plan.inputs.value plan.limits) n x) more
      ∙ ap (λ what. steps_from (move (program_in plan.work.now) plan.inputs.value plan.limits) what
      (steps (move (program_in plan.work.now) plan.inputs.value plan.limits) (left plan y))) moves

  pub last-goes : (x : Plain) (s : Subthread) (y : Plain)
      → move (program_in plan.work.now) plan.inputs.value plan.limits x ≡ Goes s y → IsSound plan x → last plan x ≡ last plan y
  unfolding state_after
  last-goes x s y moves sound =
      let next = issued-next x s y moves sound in
      let more : left plan x ≡ suc (left plan y) = (let one = next.0 in let below = next.1 in omega arith) in
      ap (λ n. state_after (move (program_in plan.work.now) plan.inputs.value plan.limits) n x) more
      ∙ ap (λ what. state_from (move (program_in plan.work.now) plan.inputs.value plan.limits) x what
      (state_after (move (program_in plan.work.now) plan.inputs.value plan.limits) (left plan y))) moves

  -- at the end nothing is left
  pub rest-ends : (x : Plain) (end : End)
      → move (program_in plan.work.now) plan.inputs.value plan.limits x ≡ Ends end → IsSound plan x → rest plan x ≡ []
  unfolding steps
  rest-ends x end moves sound =
      let more : left plan x ≡ suc (plan.limits.subthreads - x.table.issued) =
      (let limit = sound.limit in let within = sound.whole.within in omega arith) in
      ap (λ n. steps (move (program_in plan.work.now) plan.inputs.value plan.limits) n x) more
      ∙ ap (λ what. steps_from (move (program_in plan.work.now) plan.inputs.value plan.limits) what
      (steps (move (program_in plan.work.now) plan.inputs.value plan.limits) (plan.limits.subthreads - x.table.issued))) moves

  pub last-ends : (x : Plain) (end : End)
      → move (program_in plan.work.now) plan.inputs.value plan.limits x ≡ Ends end → IsSound plan x → last plan x ≡ x
  unfolding state_after
  last-ends x end moves sound =
      let more : left plan x ≡ suc (plan.limits.subthreads - x.table.issued) =
      (let limit = sound.limit in let within = sound.whole.within in omega arith) in
      ap (λ n. state_after (move (program_in plan.work.now) plan.inputs.value plan.limits) n x) more
      ∙ ap (λ what. state_from (move (program_in plan.work.now) plan.inputs.value plan.limits) x what
      (state_after (move (program_in plan.work.now) plan.inputs.value plan.limits) (plan.limits.subthreads - x.table.issued))) moves

  -- at the start nothing was done
  pub went-first : (x : Plain) (written : Option (List ℕ)) (posted : List (ℕ × ℕ)) (course : Course) → Stands plan x course → posted ≡ []
      → Went plan x written written posted course
  went-first x written posted course stands none =
      record {
        now = x;
        done = [];
        stands = record { before = course; stands = stands; kept = record { passed = at_once; spots = refl; store = refl; issued = refl } };
        rest_is = refl;
        last_is = refl;
        issued = omega arith;
        wrote = Appends-nil written;
        posts = none;
      }

  module _ (x : Plain) (before written : Option (List ℕ)) (posted : List (ℕ × ℕ)) (course : Course)
      (went : Went plan x before written posted course) where
    -- where it stops now
    pub went-part : AppendsPrefix before written (printed (lines_of (rest plan x)))
    went-part =
        subst (λ run. AppendsPrefix before written (printed (lines_of run))) (sym went.rest_is)
        (subst (AppendsPrefix before written) (sym (printed-lines went.done (rest plan went.now)))
        (prefix_all before written (printed (lines_of went.done)) (printed (lines_of (rest plan went.now))) went.wrote))

    pub went-some : (n : ℕ) × (n ≤ length (rest plan x)) × (posted ≡ firsts_from x.table.issued n)
    went-some =
        let many = ap length went.rest_is ∙ length-append went.done (rest plan went.now) in
        (length went.done, omega arith, went.posts)

    -- no position from here on was posted
    pub unposted : (n : ℕ) → n ≡ went.now.table.issued → (p : ℕ) → n ≤ p → ¬ Contains posted (p, 0)
    unposted n at p later holds =
        firsts-past x.table.issued (length went.done) p (let issued = went.issued in omega arith)
        (subst (λ pairs. Contains pairs (p, 0)) went.posts holds)

    -- it goes on by a wave
    module _ (later : Option (List ℕ)) (posts : List (ℕ × ℕ)) (course' : Course)
        (wave : WentBy plan went.now written later posted posts course') where
      lines-there : printed (lines_of (went.done ++ wave.done)) ≡ printed (lines_of went.done) ++ printed (lines_of wave.done)
      lines-there = printed-lines went.done wave.done

      pub went-then : Went plan x before later posts course'
      went-then =
          record {
            now = wave.later;
            done = went.done ++ wave.done;
            stands = wave.stands;
            rest_is = went.rest_is ∙ (ap (λ run. went.done ++ run) wave.rest_is ∙ sym (append_assoc went.done wave.done (rest plan wave.later)));
            last_is = went.last_is ∙ wave.last_is;
            issued =
                let parts = length-append went.done wave.done in
                let first = went.issued in
                let then = wave.issued in
                omega arith;
            wrote = subst (Appends before later) (sym lines-there)
                (Appends-append before written later (printed (lines_of went.done)) (printed (lines_of wave.done)) went.wrote wave.wrote);
            posts = wave.posts ∙ ((λ i. went.posts i ++ firsts_from (went.issued i) (length wave.done))
                ∙ (sym (firsts-both x.table.issued (length went.done) (length wave.done))
                ∙ ap (firsts_from x.table.issued) (sym (length-append went.done wave.done))));
          }

      -- what is left falls
      pub left-falls : plan.limits.subthreads - course'.issued < plan.limits.subthreads - course.issued
      left-falls =
          let is = wave.stands.kept.issued ∙ wave.stands.stands.issued in
          let was = went.stands.kept.issued ∙ went.stands.stands.issued in
          let within = wave.stands.stands.sound.whole.within in
          let limit = wave.stands.stands.sound.limit in
          let some = wave.some in
          let more = wave.issued in
          omega arith

    -- a wave stopped, and some of what is to come was written
    pub stops-part : (later : Option (List ℕ)) → AppendsPrefix written later (printed (lines_of (rest plan went.now)))
        → AppendsPrefix before later (printed (lines_of (rest plan x)))
    stops-part later part =
        subst (λ run. AppendsPrefix before later (printed (lines_of run))) (sym went.rest_is)
        (subst (AppendsPrefix before later) (sym (printed-lines went.done (rest plan went.now)))
        (prefix_second before written later (printed (lines_of went.done)) (printed (lines_of (rest plan went.now))) went.wrote part))

    pub stops-some : (posts : List (ℕ × ℕ))
        → (n : ℕ) × (n ≤ length (rest plan went.now)) × (posts ≡ posted ++ firsts_from went.now.table.issued n)
        → (n : ℕ) × (n ≤ length (rest plan x)) × (posts ≡ firsts_from x.table.issued n)
    stops-some posts some =
        let many = ap length went.rest_is ∙ length-append went.done (rest plan went.now) in
        let few = some.1 in (
          length went.done + some.0,
          omega arith,
          some.2 ∙ ((λ i. went.posts i ++ firsts_from (went.issued i) some.0)
              ∙ sym (firsts-both x.table.issued (length went.done) some.0)),
        )

    -- it has ended
    module _ (end : End) (there : Course) (ended : Ended plan went.now end there) where
      all-done : rest plan x ≡ went.done
      all-done =
          went.rest_is ∙ ap (λ run. went.done ++ run) (rest-ends went.now end ended.moves ended.sound) ∙ append-nil went.done

      last-there : last plan x ≡ went.now
      last-there = went.last_is ∙ last-ends went.now end ended.moves ended.sound

      pub went-ends : WentOn plan x end there
      went-ends =
          record {
            end_is =
                sym (ap (λ last. ending_of (move (program_in plan.work.now) plan.inputs.value plan.limits last)) last-there
                ∙ ap ending_of ended.moves);
            state = ended.state ∙ ap (λ (p : Plain). p.state) (sym last-there);
            home = subst (λ (p : Plain). IsHome plan p.table there.store) (sym last-there) ended.home;
            issued = ended.issued ∙ went.issued ∙ ap (λ run. x.table.issued + length run) (sym all-done);
          }

      pub ends-written : Appends before written (printed (lines_of (rest plan x)))
      ends-written = subst (λ run. Appends before written (printed (lines_of run))) (sym all-done) went.wrote

      pub ends-posted : posted ≡ firsts_from x.table.issued (length (rest plan x))
      ends-posted = went.posts ∙ ap (λ run. firsts_from x.table.issued (length run)) (sym all-done)
