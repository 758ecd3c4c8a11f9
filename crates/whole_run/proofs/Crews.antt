-- The crew and the engine agree after each event. A crew keeps which pairs were posted to it, and the tasks that are
-- out with it: the engine's posts, of which those are out that it has not taken. An event that neither posts nor takes
-- leaves both; a post adds to both, and a take removes a task. A task that is out stands, as the engine's events go on
-- (Tasks).
use Rattle.std.proofs.Common.{◌≡◌, ◌≢◌, append-nil, ℕ, Bool, inl, inr, List, [], ◌∷◌, ◌++◌, Contains, Option, Some, None, refl, sym, ap, subst, ◌∙◌, append_assoc}
use Rattle.std.proofs.lemmas.List.Elements.{Contains-push_cases}
use Rattle.gp_base.specs.declared.fault.Fault.{Fault}
use Rattle.whole_run.specs.declared.calls.Halt.{Halt}
use Rattle.gp_base.specs.declared.journal.Event.{Event}
use Rattle.gp_base.specs.declared.journal.Event.TheVariants as event
use Rattle.dependence.specs.meaning.Restarts.{Dependence, struck_next}
use Rattle.dependence.specs.meaning.Journal.{Stage, initial_stage, happens, restarted, stage_from}
use Rattle.dependence.specs.Counts.{posts, takes}
use Rattle.subthread.specs.declared.task.Task.{Task}
use Rattle.crew.specs.Out.{TakesOut, pair_of}
use Rattle.crew.specs.Standing.{CrewStands as Tied}
use Rattle.crew.proofs.Standing.{stands-first, stands-kept, stands-posted, stands-taken, taken-task, all-taken}
use Rattle.whole_run.specs.View.{Batch, View, dependence_in, now, learnt, begun, Stands}
use Rattle.whole_run.specs.Gives.{Did}
use Rattle.whole_run.specs.Takes.{TaskStands, CrewStands}
use Rattle.whole_run.specs.inner.Rounds.{AreTaken}
use Rattle.whole_run.proofs.Events.{now-did}
use Rattle.whole_run.proofs.Tasks.{task-kept}

module _ (dependence : Dependence) (faults : List Fault) where
  posts-from : (at : Stage) (events : List Event) → (stage_from dependence faults at events).posted ≡ at.posted ++ posts events
  posts-from at [] = sym (append-nil at.posted)
  posts-from at (event.Issue p ∷ rest) = posts-from (happens dependence faults at (event.Issue p)) rest
  posts-from at (event.Post p attempt ∷ rest) =
      posts-from (happens dependence faults at (event.Post p attempt)) rest ∙ append_assoc at.posted ((p, attempt) ∷ []) (posts rest)
  posts-from at (event.Take p attempt applies ∷ rest) = posts-from (happens dependence faults at (event.Take p attempt applies)) rest
  posts-from at (event.Restart number ∷ rest) =
      posts-from (happens dependence faults at (event.Restart number)) rest ∙ ap (λ l. l ++ posts rest)
      (go (struck_next dependence faults at.progress))
    where
      go : (o : Option ℕ) → (restarted dependence at o).posted ≡ at.posted
      go None = refl
      go (Some p) = refl
  posts-from at (event.Retire p ∷ rest) = posts-from (happens dependence faults at (event.Retire p)) rest

  takes-from : (at : Stage) (events : List Event) → (stage_from dependence faults at events).taken ≡ at.taken ++ takes events
  takes-from at [] = sym (append-nil at.taken)
  takes-from at (event.Issue p ∷ rest) = takes-from (happens dependence faults at (event.Issue p)) rest
  takes-from at (event.Post p attempt ∷ rest) = takes-from (happens dependence faults at (event.Post p attempt)) rest
  takes-from at (event.Take p attempt applies ∷ rest) =
      takes-from (happens dependence faults at (event.Take p attempt applies)) rest ∙ append_assoc at.taken ((p, attempt) ∷ []) (takes rest)
  takes-from at (event.Restart number ∷ rest) =
      takes-from (happens dependence faults at (event.Restart number)) rest ∙ ap (λ l. l ++ takes rest)
      (go (struck_next dependence faults at.progress))
    where
      go : (o : Option ℕ) → (restarted dependence at o).taken ≡ at.taken
      go None = refl
      go (Some p) = refl
  takes-from at (event.Retire p ∷ rest) = takes-from (happens dependence faults at (event.Retire p)) rest

-- the posts of a stage are those of its events
pub posts-are : (view : View) → (now view).posted ≡ posts view.events
posts-are view = posts-from (dependence_in view.batch) view.batch.faults initial_stage view.events

pub takes-are : (view : View) → (now view).taken ≡ takes view.events
takes-are view = takes-from (dependence_in view.batch) view.batch.faults initial_stage view.events

-- a task that is out stands until it is taken
pub did-task : (before after : View) (e : Event) → Stands before → Did before e after → (task : Task) → TaskStands before task
    → ¬ Contains (now after).taken (pair_of task) → TaskStands after task
did-task before after e stands did task t untaken =
    subst (λ v. TaskStands v task) (sym did.grown)
    (task-kept before stands e did.allowed did.waited task t (subst (λ v. ¬ Contains (now v).taken (pair_of task)) did.grown untaken))

-- a crew that agreed with the engine does so still
abbrev pub KeepsCrew : (before after : View) → Type 0
KeepsCrew before after = (posted : List (ℕ × ℕ)) (out : List Task) → CrewStands before posted out → CrewStands after posted out

-- where nothing is posted or taken
pub crew-alone : (before after : View) (e : Event) → Stands before → Did before e after → (now after).posted ≡ (now before).posted
    → (now after).taken ≡ (now before).taken → KeepsCrew before after
crew-alone before after e stands did posted_same taken_same posted out crew =
    record {
      posted_are = crew.posted_are ∙ sym posted_same;
      tied = subst (λ posted. Tied (TaskStands after) posted (now after).taken out) (sym posted_same)
          (subst (λ taken. Tied (TaskStands after) (now before).posted taken out) (sym taken_same)
          (stands-kept (TaskStands before) (now before).posted (now before).taken out crew.tied (TaskStands after)
          (λ task is_out t. did-task before after e stands did task t
          (subst (λ taken. ¬ Contains taken (pair_of task)) (sym taken_same) t.untaken))));
    }

pub crew-same : (before after : View) → after ≡ before → KeepsCrew before after
crew-same before after same = subst (KeepsCrew before) (sym same) (λ posted out crew. crew)

pub crew-learnt : (before after : View) (halts : Halt) → after ≡ learnt halts before → KeepsCrew before after
crew-learnt before after halts same =
    subst (KeepsCrew before) (sym same) (λ posted out crew.
    record {
      posted_are = crew.posted_are;
      tied = stands-kept (TaskStands before) (now before).posted (now before).taken out crew.tied (TaskStands (learnt halts before))
          (λ task is_out t. record { is_task = t.is_task; posted = t.posted; untaken = t.untaken; given = t.given });
    })

-- a new crew and a new engine
pub crew-begun : (batch : Batch) (posted : List (ℕ × ℕ)) (out : List Task) → posted ≡ [] → out ≡ [] → CrewStands (begun batch) posted out
crew-begun batch posted out none_posted none_out =
    record {
      posted_are = none_posted;
      tied = subst (Tied (TaskStands (begun batch)) [] []) (sym none_out) (stands-first (TaskStands (begun batch)));
    }

-- a task is posted
pub crew-posted : (before after : View) (p attempt : ℕ) (posted : List (ℕ × ℕ)) (out : List Task) (task : Task) → Stands before
    → Did before (event.Post p attempt) after
    → pair_of task ≡ (p, attempt) → TaskStands after task → CrewStands before posted out
    → CrewStands after (posted ++ (p, attempt) ∷ []) (out ++ task ∷ [])
crew-posted before after p attempt posted out task stands did pair stood crew =
    record {
      posted_are = ap (λ l. l ++ (p, attempt) ∷ []) crew.posted_are ∙ sym posts_are;
      tied =
          subst (λ posted. Tied (TaskStands after) posted (now after).taken (out ++ task ∷ []))
          (ap (λ x. (now before).posted ++ x ∷ []) pair ∙ sym posts_are)
          (subst (λ taken. Tied (TaskStands after) ((now before).posted ++ pair_of task ∷ []) taken (out ++ task ∷ [])) (sym takes_are)
          (stands-posted (TaskStands before) (now before).posted (now before).taken out crew.tied (TaskStands after) task
          (λ h. did.waited.unposted (subst (Contains (now before).posted) pair h))
          (λ other is_out t. did-task before after (event.Post p attempt) stands did other t
          (subst (λ taken. ¬ Contains taken (pair_of other)) (sym takes_are) t.untaken)) stood));
    }
  where
    posts_are : (now after).posted ≡ (now before).posted ++ (p, attempt) ∷ []
    posts_are = ap (λ at. at.posted) (now-did before after (event.Post p attempt) did)

    takes_are : (now after).taken ≡ (now before).taken
    takes_are = ap (λ at. at.taken) (now-did before after (event.Post p attempt) did)

-- a task that comes back stands
pub taken-stands : (view : View) (posted : List (ℕ × ℕ)) (out rest : List Task) (task : Task) → TakesOut out task rest
    → CrewStands view posted out → TaskStands view task
taken-stands view posted out rest task takes crew =
    (taken-task (TaskStands view) (now view).posted (now view).taken out crew.tied task rest takes).0

-- a task is taken
pub crew-taken : (before after : View) (posted : List (ℕ × ℕ)) (out rest : List Task) (task : Task) (applies : Bool) → Stands before
    → Did before (event.Take task.pos task.attempt applies) after → TakesOut out task rest → CrewStands before posted out
    → CrewStands after posted rest
crew-taken before after posted out rest task applies stands did takes crew =
    record {
      posted_are = crew.posted_are ∙ sym posts_are;
      tied = subst (λ posted. Tied (TaskStands after) posted (now after).taken rest) (sym posts_are)
          (subst (λ taken. Tied (TaskStands after) (now before).posted taken rest) (sym takes_are)
          (stands-taken (TaskStands before) (TaskStands after) (now before).posted (now before).taken out crew.tied task rest takes kept));
    }
  where
    posts_are : (now after).posted ≡ (now before).posted
    posts_are = ap (λ at. at.posted) (now-did before after (event.Take task.pos task.attempt applies) did)

    takes_are : (now after).taken ≡ (now before).taken ++ pair_of task ∷ []
    takes_are = ap (λ at. at.taken) (now-did before after (event.Take task.pos task.attempt applies) did)

    kept : (other : Task) → pair_of other ≢ pair_of task → TaskStands before other → TaskStands after other
    kept other apart t =
        did-task before after (event.Take task.pos task.attempt applies) stands did other t
        (λ h. elim (Contains-push_cases (now before).taken (pair_of task) (pair_of other)
        (subst (λ taken. Contains taken (pair_of other)) takes_are h)) [
          | inl was ↦ t.untaken was
          | inr same ↦ apart (sym same)
        ])

-- where nothing is out, each post was taken
pub none-out : (view : View) (posted : List (ℕ × ℕ)) (out : List Task) → out ≡ [] → CrewStands view posted out → AreTaken view
none-out view posted out empty crew = all-taken (TaskStands view) (now view).posted (now view).taken out crew.tied empty
