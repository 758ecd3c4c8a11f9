-- What each call leaves of the run, and several calls one after another. A call leaves the run as it was, or makes one
-- event, after which less is left. Calls are put together by what they leave: the run further on, a crew that is ready,
-- the same work, and the posts of the run (Leaves); with these the next call begins.
use Rattle.std.proofs.Common.{◌≡◌, inl, inr, ℕ, zero, suc, ◌+◌, min, cond, length, slice_get, Contains, ◌<◌, ◌≤◌, Bool, true, false, List, [], ◌∷◌, ◌++◌, Option, Some, None, IsSome, is_some, refl, sym, ap, subst, ◌∙◌, arith, Result, Ok, Err, nat_eq}
use Rattle.std.specs.Option.{option_or, option_map_or}
use Rattle.std.specs.Result.{OnOk, OnErr}
use Rattle.std.proofs.Math.Nat.{min-le_left}
use Rattle.std.proofs.lemmas.Bool.{cases_lt, false≢true}
use Rattle.std.proofs.lemmas.List.Elements.{Contains-push, Contains-append_left}
use Rattle.gp_base.specs.declared.ending.End.{End}
use Rattle.gp_base.specs.declared.journal.Event.{Event}
use Rattle.gp_base.specs.declared.journal.Event.TheVariants as event
use Rattle.gp_base.specs.meaning.Sinks.{Rose}
use Rattle.task_ast.specs.meaning.Position.{last_below}
use Rattle.task_ast.specs.meaning.Plain.{Subthread}
use Rattle.dependence.specs.meaning.Restarts.{Dependence, is_due, is_live, least_struck, struck_next}
use Rattle.dependence.specs.meaning.Journal.{Stage, restarted, MayPost, happens}
use Rattle.dependence.specs.Posting.{posting_of}
use Rattle.dependence.specs.Standing.{present}
use Rattle.subthread.specs.declared.task.Task.{Task}
use Rattle.subthread.specs.declared.task.Work.{Work}
use Rattle.whole_run.specs.declared.recovery.Recovery.{Recovery}
use Rattle.whole_run.specs.declared.recovery.Recovery.TheVariants.{Selective, Rollback}
use Rattle.whole_run.specs.declared.calls.Issued.{Issued}
use Rattle.whole_run.specs.declared.calls.Issued.TheVariants.{One, Needs, Settles, Ended}
use Rattle.whole_run.specs.declared.calls.Halt.TheVariants as halt
use Rattle.whole_run.specs.View.{View, run_in, dependence_in, now, ended_after, grown, Stands}
use Rattle.whole_run.specs.Gives.{Did, IssueGives, struck_now, IsBackBy, IsBack, DetectGives, MayRetireNow, RetireGives, BlockIsOpen, MayPostNow, IsNextToPost, NoneToPost}
use Rattle.whole_run.specs.Takes.{CrewStands}
use Rattle.whole_run.specs.inner.Rounds.{left, Onward, Agrees, Leaves, IsQuiet, IsIssued, TakeGives}
use Rattle.whole_run.proofs.Events.{now-grown, now-did, did-onward, did-leaves, same-onward, still-onward, learnt-onward, onward-then}
use Rattle.whole_run.proofs.Crews.{KeepsCrew, crew-alone, crew-same, crew-learnt}

-- the run went on, or rests, and nothing was posted or taken
pub record GoesOn (before after : View) : Type 0 where
  pub onward : Onward before after
  pub crew : KeepsCrew before after

goes-same : (before after : View) → Stands before → after ≡ before → GoesOn before after
goes-same before after stands same = record { onward = same-onward before after stands same; crew = crew-same before after same }

-- nothing was done yet
pub leaves-still : {view : View} {ready : Type 0} {work : Work} {posted : List (ℕ × ℕ)} {out : List Task}
    → Agrees view ready work posted out → Leaves view view ready work posted
leaves-still {view = view} agrees =
    record {
      onward = still-onward view agrees.stands;
      is_ready = agrees.is_ready;
      work_is = agrees.work_is;
      posted_are = agrees.crew.posted_are;
    }

-- the next part may begin
pub agrees-then : {before after : View} {ready : Type 0} {work : Work} {posted : List (ℕ × ℕ)} {out : List Task}
    → Leaves before after ready work posted
    → CrewStands after posted out → Agrees after ready work posted out
agrees-then leaves crew = record { stands = leaves.onward.stands; is_ready = leaves.is_ready; work_is = leaves.work_is; crew = crew }

-- several parts of a round, one after another
pub leaves-then : {first second third : View} {ready later : Type 0} {work after : Work} {posted posts : List (ℕ × ℕ)}
    → Leaves first second ready work posted
    → Leaves second third later after posts → Leaves first third later after posts
leaves-then {first = first} {second = second} {third = third} one two =
    record {
      onward = onward-then first second third one.onward two.onward;
      is_ready = two.is_ready;
      work_is = two.work_is;
      posted_are = two.posted_are;
    }

-- one call more
pub leaves-on : {first before after : View} {ready later : Type 0} {work works : Work} {posted posts : List (ℕ × ℕ)}
    → Leaves first before ready work posted
    → Onward before after → later → works ≡ work → posts ≡ (now after).posted → Leaves first after later works posts
leaves-on {first = first} {before = before} {after = after} leaves onward ready works posts =
    record {
      onward = onward-then first before after leaves.onward onward;
      is_ready = ready;
      work_is = works ∙ (leaves.work_is ∙ ap (λ batch. batch.work) (sym onward.batch));
      posted_are = posts;
    }

-- one that the crew has no part in
pub leaves-alone : {first before after : View} {ready : Type 0} {work : Work} {posted : List (ℕ × ℕ)} {out : List Task}
    → Leaves first before ready work posted
    → CrewStands before posted out → GoesOn before after → Leaves first after ready work posted
leaves-alone {posted = posted} {out = out} leaves crew goes =
    leaves-on leaves goes.onward leaves.is_ready refl (goes.crew posted out crew).posted_are

-- one that changed nothing
pub leaves-same : {first before after : View} {ready : Type 0} {work : Work} {posted : List (ℕ × ℕ)} → Leaves first before ready work posted
    → after ≡ before
    → Leaves first after ready work posted
leaves-same {first = first} {ready = ready} {work = work} {posted = posted} leaves same =
    subst (λ v. Leaves first v ready work posted) (sym same) leaves

pub retired-same : (before after : View) → after ≡ before → (now after).retired ≡ (now before).retired
retired-same before after same = ap (λ v. (now v).retired) same

restarted-keeps : (dependence : Dependence) (at : Stage) (o : Option ℕ)
    → ((restarted dependence at o).posted ≡ at.posted) × ((restarted dependence at o).taken ≡ at.taken)
    × ((restarted dependence at o).retired ≡ at.retired)
restarted-keeps dependence at None = (refl, refl, refl)
restarted-keeps dependence at (Some p) = (refl, refl, refl)

-- a detection
pub detected : (before after : View) (b : Bool) → Stands before → DetectGives before after b
    → GoesOn before after × ((now after).retired ≡ (now before).retired)
detected before after true stands gives =
    let did = gives.0 in
    let e = event.Restart (length (now before).progress.made) in
    let at = now-did before after e did in
    let kept =
    restarted-keeps (dependence_in before.batch) (now before)
    (struck_next (dependence_in before.batch) before.batch.faults (now before).progress) in (
      record {
        onward = did-onward before after e stands did;
        crew = crew-alone before after e stands did (ap (λ at. at.posted) at ∙ kept.0) (ap (λ at. at.taken) at ∙ kept.1);
      },
      ap (λ at. at.retired) at ∙ kept.2,
    )
detected before after false stands gives = (goes-same before after stands gives.0, retired-same before after gives.0)

detected-leaves : (before after : View) → Stands before → DetectGives before after true → left after < left before
detected-leaves before after stands gives = did-leaves before after (event.Restart (length (now before).progress.made)) stands gives.0

-- where a restart is due, one is made
pub due-leaves : (before after : View) (b : Bool) → Stands before → IsSome (struck_now before) → DetectGives before after b
    → left after < left before
due-leaves before after true stands due gives = detected-leaves before after stands gives
due-leaves before after false stands due gives = absurd (false≢true (sym (ap is_some gives.1) ∙ due))

-- where each post was taken, all is back that a restart waits for
taken-back : (recovery : Recovery) (run : List Subthread) (at : Stage)
    → ((pair : ℕ × ℕ) → Contains at.posted pair → Contains at.taken pair) → IsBackBy recovery run at
taken-back Selective run at taken = λ p s there posted untaken. absurd (untaken (taken (p, present at p) posted))
taken-back (Rollback every) run at taken = λ p attempt out. out.untaken (taken (p, attempt) out.posted)

-- while something is not, a result comes back
pub back-leaves : (before after : View) (b : Bool) → ¬ IsBack before → TakeGives before after b → left after < left before
back-leaves before after true waits less = less
back-leaves before after false waits idle = absurd (waits (taken-back before.batch.recovery (run_in before.batch) (now before) idle.1))

-- what neither issues nor restarts makes nothing due, and nothing undue
pub struck-kept : (before after : View) (e : Event) → Did before e after
    → (happens (dependence_in before.batch) before.batch.faults (now before) e).progress ≡ (now before).progress
    → ended_after e before.ended ≡ before.ended → struck_now after ≡ struck_now before
struck-kept before after e did progress ended =
    subst (λ v. struck_now v ≡ struck_now before) (sym did.grown)
    (λ i.
    option_or (least_struck (is_due (still i)) before.batch.faults)
    (cond (is_some (ended i)) (least_struck (is_live (still i)) before.batch.faults) None))
  where
    still : (now (grown before e)).progress ≡ (now before).progress
    still = ap (λ (at : Stage). at.progress) (now-grown before e) ∙ progress

-- a retirement
pub retired : (before after : View) (answer : Option ℕ) → Stands before → RetireGives before after answer → GoesOn before after
retired before after (Some p) stands gives =
    let did = gives.1 in
    let e = event.Retire p in
    let at = now-did before after e did in
    record {
      onward = did-onward before after e stands did;
      crew = crew-alone before after e stands did (ap (λ at. at.posted) at) (ap (λ at. at.taken) at);
    }
retired before after None stands gives = goes-same before after stands gives.0

pub retired-leaves : (before after : View) (p : ℕ) → Stands before → RetireGives before after (Some p) → left after < left before
retired-leaves before after p stands gives = did-leaves before after (event.Retire p) stands gives.1

-- what retires is the oldest position
pub retired-oldest : (before after : View) (p : ℕ) → RetireGives before after (Some p)
    → Did before (event.Retire (now before).retired) after
retired-oldest before after p gives = subst (λ q. Did before (event.Retire q) after) gives.0 gives.1

pub retired-quiet : (before after : View) → struck_now before ≡ None → RetireGives before after None → IsQuiet after
retired-quiet before after none gives =
    record { none_struck = ap struck_now gives.0 ∙ none; none_retires = subst (λ v. ¬ MayRetireNow v) (sym gives.0) gives.1 }

-- a thread's last position below the front is below it
last-is_below : (run : List Subthread) (t p q : ℕ) → last_below run t p ≡ Some q → q < p
last-is_below run t zero q e = absurd (cc e)
last-is_below run t (suc p) q e = go (option_map_or (λ s. nat_eq s.thread t) (slice_get run p) false) e (last-is_below run t p q)
  where
    go : (b : Bool) → cond b (Some p) (last_below run t p) ≡ Some q → (last_below run t p ≡ Some q → q < p) → q < suc p
    go true f rest = let same : p ≡ q = cc f in omega arith
    go false f rest = let less = rest f in omega arith

-- an issue
pub issued : (before after : View) (answer : Issued) → Stands before → IssueGives before after answer
    → GoesOn before after × ((now after).retired ≡ (now before).retired)
issued before after (One p) stands gives =
    let did = gives.0 in
    let at = now-did before after (event.Issue p) did in (
      record {
        onward = did-onward before after (event.Issue p) stands did;
        crew = crew-alone before after (event.Issue p) stands did (ap (λ at. at.posted) at) (ap (λ at. at.taken) at);
      },
      ap (λ at. at.retired) at,
    )
issued before after (Needs t) stands gives = (goes-same before after stands gives.0, retired-same before after gives.0)
issued before after (Settles t) stands gives = (
  record {
    onward = learnt-onward before after halt.Settling stands gives.0 gives.1;
    crew = crew-learnt before after halt.Settling gives.0;
  },
  ap (λ v. (now v).retired) gives.0,
)
issued before after (Ended ending) stands gives = (
  record {
    onward = learnt-onward before after (halt.Ended ending) stands gives.0 (gives.1, gives.2);
    crew = crew-learnt before after (halt.Ended ending) gives.0;
  },
  ap (λ v. (now v).retired) gives.0,
)

pub issued-leaves : (before after : View) (p : ℕ) → Stands before → IssueGives before after (One p) → left after < left before
issued-leaves before after p stands gives = did-leaves before after (event.Issue p) stands gives.0

pub issued-needs : (before after : View) (t : ℕ) → IssueGives before after (Needs t) → IsIssued after
issued-needs before after t gives =
    subst IsIssued (sym gives.0)
    (inr (inr (gives.1.0, last-is_below (run_in before.batch) t (now before).progress.front gives.1.0 gives.1.1, gives.1.2)))

pub issued-ends : (before after : View) (ending : End) → IssueGives before after (Ended ending) → IsIssued after
issued-ends before after ending gives = inl (ending, ap (λ v. v.ended) gives.0)

pub issued-waits : (before after : View) (t : ℕ) → IssueGives before after (Settles t) → IsIssued after
issued-waits before after t gives =
    inr (inl (ap (λ v. v.ended) gives.0, subst (λ v. (now v).retired < (now v).progress.front) (sym gives.0) gives.2))

-- whether a block is open is a matter of what is applied
open-same : (recovery : Recovery) (run : List Subthread) (at later : Stage) (q : ℕ) → later.applied ≡ at.applied
    → BlockIsOpen recovery run later q → BlockIsOpen recovery run at q
open-same Selective run at later q same was = tt
open-same (Rollback every) run at later q same was = λ r l. ap (λ applied. applied r) (sym same) ∙ was r l

-- a position that may be posted after another was posted might have been before, and is another
may-before : (before after : View) (p q : ℕ) → Did before (event.Post p (present (now before) p)) after → MayPostNow after q
    → MayPostNow before q × ¬ (q ≡ p)
may-before before after p q did may = (
  record {
    by_locks = record {
      issued = moved.issued;
      unretired = moved.unretired;
      present = refl;
      unposted =
          λ h. moved.unposted (Contains-append_left (now before).posted ((p, present (now before) p) ∷ []) (q, present (now before) q) h);
      ready = moved.ready;
    };
    is_open = open-same before.batch.recovery (run_in before.batch) (now before) (now after) q (ap (λ at. at.applied) made)
        (subst (λ batch. BlockIsOpen batch.recovery (run_in batch) (now after) q) batch may.is_open);
  },
  λ same.
      moved.unposted (subst (λ x. Contains ((now before).posted ++ (p, present (now before) p) ∷ []) (x, present (now before) x)) (sym same)
      (Contains-push (now before).posted (p, present (now before) p))),
)
  where
    made : now after ≡ happens (dependence_in before.batch) before.batch.faults (now before) (event.Post p (present (now before) p))
    made = now-did before after (event.Post p (present (now before) p)) did

    batch : after.batch ≡ before.batch
    batch = ap (λ v. v.batch) did.grown

    moved : MayPost (posting_of (run_in before.batch))
        (happens (dependence_in before.batch) before.batch.faults (now before) (event.Post p (present (now before) p))) q
        (present (now before) q)
    moved =
        subst (λ at. MayPost (posting_of (run_in before.batch)) at q (present at q)) made
        (subst (λ batch. MayPost (posting_of (run_in batch)) (now after) q (present (now after) q)) batch may.by_locks)

-- where none before the position might be posted, none before or at it may be after its post
abbrev pub NoneBefore : View → ℕ → Type 0
NoneBefore view from = (q : ℕ) → q < from → ¬ MayPostNow view q

pub none-yet : (before after : View) (from p past : ℕ) → NoneBefore before from → IsNextToPost before from p
    → Did before (event.Post p (present (now before) p)) after → past ≤ p + 1 → NoneBefore after past
none-yet before after from p past none next did within q l may =
    let h = may-before before after p q did may in
    elim (cases_lt q from) [
      | inl old ↦ none q old h.0
      | inr young ↦ elim (cases_lt q p) [ inl less ↦ next.first q young less h.0 | inr not_less ↦ h.1 (omega arith) ]
    ]

-- the next number, as far as there is one
pub one-past : (n p past : ℕ) → n ≡ p → past ≡ min (n + 1) 4294967295 → past ≤ p + 1
one-past n p past same is =
    subst (λ m. past ≤ m + 1) same (subst (λ m. m ≤ n + 1) (sym is) (min-le_left (n + 1) 4294967295))

pub none-at_all : (view : View) (from : ℕ) → NoneBefore view from → NoneToPost view from → NoneToPost view 0
none-at_all view from none rest q l near may = elim (cases_lt q from) [ inl old ↦ none q old may | inr young ↦ rest q young near may ]

-- a count that rose later rose
pub rose-later : (first second third : ℕ) → first ≤ second → Rose second third → Rose first third
rose-later first second third later rose = omega (arith, later, rose)

-- what holds anyway holds on an error, and on success
pub on-err : {T E : Type 0} (r : Result T E) (P : Type 0) → P → OnErr r P
on-err (Ok x) P p = tt
on-err (Err e) P p = p

pub on-ok : {T E : Type 0} (r : Result T E) (P : Type 0) → P → OnOk r P
on-ok (Ok x) P p = p
on-ok (Err e) P p = tt
