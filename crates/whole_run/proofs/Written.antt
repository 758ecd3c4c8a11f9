-- What was written, as positions retire.
use Rattle.std.proofs.Common.{◌≡◌, ℕ, zero, suc, ◌+◌, ℤ, List, [], ◌∷◌, ◌++◌, take, Option, refl, sym, ap, subst, ◌∙◌, append-nil, append_assoc, add-one, slice_get}
use Rattle.std.specs.List.{flat_map}
use Rattle.std.specs.Io.KnownBytes.{Appends}
use Rattle.std.proofs.KnownBytes.{Appends-trans}
use Rattle.std.proofs.lemmas.Grind.{flat_map-append}
use Rattle.gp_base.specs.declared.journal.Event.TheVariants as event
use Rattle.gp_base.specs.meaning.Sinks.{AppendsPrefix}
use Rattle.task_ast.specs.meaning.Plain.{Subthread}
use Rattle.restart_log.specs.meaning.Lines.{printed, printed_line}
use Rattle.whole_run.specs.View.{Batch, View, run_in, lines_of, lines_at, lines_below, now}
use Rattle.whole_run.specs.Gives.{Did}
use Rattle.whole_run.specs.inner.Rounds.{Wrote, WrotePart, KeepsWritten, KeepsPart}
use Rattle.whole_run.proofs.Events.{now-did}

lines-more : (run : List Subthread) (p : ℕ)
    → flat_map (λ (s : Subthread). s.lines) (take (suc p) run)
    ≡ flat_map (λ (s : Subthread). s.lines) (take p run) ++ lines_of (slice_get run p)
lines-more [] zero = refl
lines-more [] (suc p) = refl
lines-more (s ∷ run) zero = append-nil s.lines
lines-more (s ∷ run) (suc p) =
    ap (λ lines. s.lines ++ lines) (lines-more run p)
    ∙ sym (append_assoc s.lines (flat_map (λ (s : Subthread). s.lines) (take p run)) (lines_of (slice_get run p)))

-- with one position more its lines are written
printed-more : (batch : Batch) (p : ℕ) → printed (lines_below batch (p + 1)) ≡ printed (lines_below batch p) ++ printed (lines_at batch p)
printed-more batch p =
    ap (λ n. printed (lines_below batch n)) (add-one p)
    ∙ (ap printed (lines-more (run_in batch) p) ∙ flat_map-append printed_line (lines_below batch p) (lines_at batch p))

pub wrote-same : (start : Option (List ℕ)) (before after : View) (written later : Option (List ℕ)) → after.batch ≡ before.batch
    → (now after).retired ≡ (now before).retired
    → later ≡ written → Wrote start before written → Wrote start after later
wrote-same start before after written later batch retired same wrote =
    rw same
    (subst (λ (lines : List (List ℤ)). Appends start written (printed lines)) (λ i. lines_below (sym batch i) (sym retired i)) wrote)

pub wrote-more : (start : Option (List ℕ)) (before after : View) (written later : Option (List ℕ))
    → Did before (event.Retire (now before).retired) after
    → Appends written later (printed (lines_at before.batch (now before).retired)) → Wrote start before written → Wrote start after later
wrote-more start before after written later did grown wrote =
    subst (Appends start later)
    (sym (printed-more before.batch (now before).retired) ∙ (λ i. printed (lines_below (sym batch i) (sym retired i))))
    (Appends-trans start written later (printed (lines_below before.batch (now before).retired))
    (printed (lines_at before.batch (now before).retired)) wrote grown)
  where
    batch : after.batch ≡ before.batch
    batch = ap (λ v. v.batch) did.grown

    retired : (now after).retired ≡ (now before).retired + 1
    retired = ap (λ at. at.retired) (now-did before after (event.Retire (now before).retired) did)

pub wrote-part : (start : Option (List ℕ)) (view : View) (written later : Option (List ℕ))
    → AppendsPrefix written later (printed (lines_at view.batch (now view).retired))
    → Wrote start view written → WrotePart start view later
wrote-part start view written later prefix wrote =
    record {
      part = prefix.0;
      bytes = Appends-trans start written later (printed (lines_below view.batch (now view).retired))
          (take prefix.0 (printed (lines_at view.batch (now view).retired))) wrote prefix.1;
    }

pub wrote-whole : (start : Option (List ℕ)) (view : View) (written : Option (List ℕ)) → Wrote start view written
    → WrotePart start view written
wrote-whole start view written wrote =
    record {
      part = 0;
      bytes = subst (Appends start written) (sym (append-nil (printed (lines_below view.batch (now view).retired)))) wrote;
    }

pub written-whole : (before after : View) (written later : Option (List ℕ)) → KeepsWritten before after written later
    → KeepsPart before after written later
written-whole before after written later kept start wrote = wrote-whole start after later (kept start wrote)
