-- What an engine keeps, and what follows from it.
use Rattle.std.proofs.Common.{◌≡◌, ℕ, List, [], ◌∷◌, ◌++◌, Option, sym, ap, ◌∙◌, subst}
use Rattle.gp_base.specs.declared.journal.Event.{Event}
use Rattle.gp_base.specs.declared.journal.Restart.{Restart}
use Rattle.task_ast.specs.Table.{Table}
use Rattle.dependence.specs.meaning.Journal.{Stage, initial_stage, happens, Allowed}
use Rattle.dependence.specs.Standing.{StageStands, NamesIssued}
use Rattle.dependence.proofs.Journals.{stage_from-push}
use Rattle.record_store.specs.Stored.{Stored}
use Rattle.reorder_list.specs.declared.entry.Entry.{Entry}
use Rattle.whole_run.specs.declared.parts.Parts.{Parts}
use Rattle.whole_run.specs.declared.parts.Place.{Place}
use Rattle.whole_run.specs.declared.parts.backing.Backup.{Backup}
use Rattle.whole_run.specs.declared.calls.Halt.{Halt}
use Rattle.whole_run.specs.View.{Batch, run_in, dependence_in}
use Rattle.whole_run.specs.inner.Backed.{StandsBy}
use Rattle.whole_run.specs.inner.RingStands.{RingStands}
use Rattle.whole_run.specs.inner.Kept.{stage_of, IsPlaceIn, IsEnd, IsFit, JournalStands, WindowStands, Keeps, Kept}
use Rattle.whole_run.proofs.Recoverings as recoverings

module _ (batch : Batch) (events : List Event) where
  -- the stage after one more event
  pub stage_then : (e : Event) → stage_of batch (events ++ e ∷ []) ≡ happens (dependence_in batch) batch.faults (stage_of batch events) e
  stage_then e = stage_from-push (dependence_in batch) batch.faults initial_stage events e

  module _ (fit : IsFit batch) {restarts : List Restart} {issued : ℕ} {ended : Option Halt}
      (journal : JournalStands batch events restarts issued ended) where
    -- what stands of the stage
    pub stands_by : StandsBy (run_in batch) batch.faults batch.recovery (stage_of batch events)
    stands_by = recoverings.stands-after (run_in batch) batch.faults fit.short batch.recovery events fit.cuts journal.lawful

    pub stage_stands : StageStands (dependence_in batch) batch.faults (stage_of batch events)
    stage_stands = recoverings.stage-of (run_in batch) batch.faults batch.recovery (stage_of batch events) stands_by

    pub names_issued : NamesIssued (stage_of batch events)
    names_issued = recoverings.names-after (run_in batch) batch.faults batch.recovery events journal.lawful

    -- after an event that was allowed all is kept, where each part is
    pub keeps_then : (e : Event) → Allowed (dependence_in batch) batch.faults (stage_of batch events) e
        → (table : Table) (places : List Place) (entries : List Entry) (store : Stored) (backup : Backup) (made : List Restart) (front : ℕ)
        (known : Option Halt)
        → RingStands batch (IsPlaceIn batch) (happens (dependence_in batch) batch.faults (stage_of batch events) e) table places
        → WindowStands batch (happens (dependence_in batch) batch.faults (stage_of batch events) e) table entries store backup
        → made ≡ (happens (dependence_in batch) batch.faults (stage_of batch events) e).progress.made
        → front ≡ (happens (dependence_in batch) batch.faults (stage_of batch events) e).progress.front
        → IsEnd batch (happens (dependence_in batch) batch.faults (stage_of batch events) e).progress.front known
        → Keeps batch table places entries store backup (events ++ e ∷ []) made front known
    keeps_then e allowed table places entries store backup made front known ring window made_is front_is known_is =
        record {
          fit = fit;
          journal = record {
            lawful = recoverings.lawful-push (run_in batch) batch.faults batch.recovery events e journal.lawful allowed;
            restarts_are = made_is ∙ ap (λ (at : Stage). at.progress.made) (sym (stage_then e));
            issued_are = front_is ∙ ap (λ (at : Stage). at.progress.front) (sym (stage_then e));
            ended_is = subst (λ (at : Stage). IsEnd batch at.progress.front known) (sym (stage_then e)) known_is;
          };
          ring = subst (λ at. RingStands batch (IsPlaceIn batch) at table places) (sym (stage_then e)) ring;
          window = subst (λ at. WindowStands batch at table entries store backup) (sym (stage_then e)) window;
        }

-- the same parts under other names
pub keeps_as : (batch : Batch) (table table' : Table) (places places' : List Place) (entries entries' : List Entry) (store store' : Stored)
    (backup backup' : Backup) (events events' : List Event) (restarts restarts' : List Restart) (issued issued' : ℕ)
    (ended ended' : Option Halt)
    → table' ≡ table → places' ≡ places → entries' ≡ entries → store' ≡ store → backup' ≡ backup → events' ≡ events → restarts' ≡ restarts
    → issued' ≡ issued → ended' ≡ ended → Keeps batch table places entries store backup events restarts issued ended
    → Keeps batch table' places' entries' store' backup' events' restarts' issued' ended'
keeps_as batch table table' places places' entries entries' store store' backup backup' events events' restarts restarts' issued issued'
    ended ended' a b c d e f g h i keeps = rw (a, b, c, d, e, f, g, h, i) keeps

pub kept_as : (batch : Batch) (parts : Parts) (table : Table) (places : List Place) (entries : List Entry) (store : Stored)
    (backup : Backup) (events : List Event) (restarts : List Restart) (issued : ℕ) (ended : Option Halt)
    → parts.ring.table ≡ table → parts.places.items ≡ places → parts.rol.entries ≡ entries → parts.store ≡ store → parts.backup ≡ backup
    → parts.events.items ≡ events → parts.restarts.items ≡ restarts → parts.issued ≡ issued → parts.ended ≡ ended
    → Keeps batch table places entries store backup events restarts issued ended → Kept batch parts
kept_as batch parts table places entries store backup events restarts issued ended =
    keeps_as batch table parts.ring.table places parts.places.items entries parts.rol.entries store parts.store backup parts.backup events
    parts.events.items restarts parts.restarts.items issued parts.issued ended parts.ended
