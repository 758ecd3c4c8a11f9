-- Lines are lawful, and have a verdict, as the events and the restarts say that are read off them.
use Rattle.std.proofs.Common.{◌≡◌, ◌≢◌, ℕ, zero, suc, ◌+◌, ◌-◌, ◌<◌, ◌≤◌, List, [], ◌∷◌, ◌++◌, length, length-append, drop, take, map, Option, Some, None, refl, sym, ap, subst, ◌∙◌, arith}
use Rattle.std.specs.Prelude.{slice_get, option_map}
use Rattle.std.proofs.Math.Seq.{take-append_seam, take-append-add}
use Rattle.std.proofs.lemmas.List.{take_all, take-append-drop, length-take-le, length-drop}
use Rattle.gp_base.specs.declared.fault.Fault.{Fault}
use Rattle.gp_base.specs.declared.journal.Restart.{Restart}
use Rattle.gp_base.specs.declared.journal.Event.{Event}
use Rattle.gp_base.specs.declared.journal.Event.TheVariants as event
use Rattle.dependence.specs.meaning.Restarts.{Dependence, struck_next, restart_of, restarts}
use Rattle.dependence.specs.meaning.Journal.{Stage, initial_stage, Lawful, LawfulFrom, happens, restarted, Complete}
use Rattle.gp_audit.specs.declared.line.TraceLine.{TraceLine}
use Rattle.gp_audit.specs.declared.line.TraceLine.TheVariants as line
use Rattle.gp_audit.specs.declared.verdict.Verdict.{Verdict}
use Rattle.gp_audit.specs.declared.verdict.Verdict.TheVariants.{Lawful as IsLawful, Unlawful, Incomplete}
use Rattle.gp_audit.specs.meaning.Lines.{line_of}
use Rattle.gp_audit.specs.meaning.Verdicts.{LawfulLines, IsVerdict}
use Rattle.gp_audit.specs.ToldLines.{events_from, events_of, restarts_told, TellLawful, IsFirstUnlawful, IsToldVerdict}
use Rattle.gp_audit.proofs.TraceTexts.{dropped, lines-from}

there : {A : Type 0} (xs : List A) (k : ℕ) (x : A) → slice_get xs k ≡ Some x → drop k xs ≡ x ∷ drop (suc k) xs
there [] zero x is = cc is
there [] (suc k) x is = cc is
there (y ∷ xs) zero x is = let same : y ≡ x = cc is in ap (λ z. z ∷ xs) same
there (y ∷ xs) (suc k) x is = there xs k x is

next : {A : Type 0} (n : ℕ) (xs : List A) (x : A) (more : List A) → drop n xs ≡ x ∷ more → take (suc n) xs ≡ take n xs ++ x ∷ []
next zero [] x more is = cc is
next (suc n) [] x more is = cc is
next zero (y ∷ xs) x more is = let same : y ≡ x = cc is in ap (λ z. z ∷ []) same
next (suc n) (y ∷ xs) x more is = ap (λ ys. y ∷ ys) (next n xs x more is)

module _ (dependence : Dependence) (faults : List Fault) where
  abbrev all : List Restart
  all = restarts dependence faults

  -- the lines of events after so many restarts tell these events, and the restarts that come next
  record Tells (made : ℕ) (events : List Event) (lines : List TraceLine) : Type 0 where
    events_are : events_from made lines ≡ events
    rest : List Restart
    told_are : drop made all ≡ restarts_told lines ++ rest

  one_more : (at : Stage) (o : Option ℕ) → o ≢ None → length (restarted dependence at o).progress.made ≡ length at.progress.made + 1
  one_more at None some = absurd (some refl)
  one_more at (Some p) some = length-append at.progress.made (restart_of dependence at.progress p ∷ [])

  tells : (at : Stage) (made : ℕ) (events : List Event) (lines : List TraceLine) → made ≡ length at.progress.made
      → LawfulFrom dependence faults at events → map Some lines ≡ map (line_of all) events → Tells made events lines
  tells at made [] [] m lawful are = record { events_are = refl; rest = drop made all; told_are = refl }
  tells at made [] (l ∷ lines) m lawful are = cc are
  tells at made (e ∷ events) [] m lawful are = cc are
  tells at made (event.Issue p ∷ events) (l ∷ lines) m lawful are =
      let head : line.Issue p ≡ l = cc are in
      let tail : map Some lines ≡ map (line_of all) events = cc are in
      let more = tells (happens dependence faults at (event.Issue p)) made events lines m lawful.1 tail in
      subst (λ x. Tells made (event.Issue p ∷ events) (x ∷ lines)) head
      (record { events_are = ap (λ es. event.Issue p ∷ es) more.events_are; rest = more.rest; told_are = more.told_are })
  tells at made (event.Post p a ∷ events) (l ∷ lines) m lawful are =
      let head : line.Post p a ≡ l = cc are in
      let tail : map Some lines ≡ map (line_of all) events = cc are in
      let more = tells (happens dependence faults at (event.Post p a)) made events lines m lawful.1 tail in
      subst (λ x. Tells made (event.Post p a ∷ events) (x ∷ lines)) head
      (record { events_are = ap (λ es. event.Post p a ∷ es) more.events_are; rest = more.rest; told_are = more.told_are })
  tells at made (event.Take p a x ∷ events) (l ∷ lines) m lawful are =
      let head : line.Take p a x ≡ l = cc are in
      let tail : map Some lines ≡ map (line_of all) events = cc are in
      let more = tells (happens dependence faults at (event.Take p a x)) made events lines m lawful.1 tail in
      subst (λ y. Tells made (event.Take p a x ∷ events) (y ∷ lines)) head
      (record { events_are = ap (λ es. event.Take p a x ∷ es) more.events_are; rest = more.rest; told_are = more.told_are })
  tells at made (event.Retire p ∷ events) (l ∷ lines) m lawful are =
      let head : line.Retire p ≡ l = cc are in
      let tail : map Some lines ≡ map (line_of all) events = cc are in
      let more = tells (happens dependence faults at (event.Retire p)) made events lines m lawful.1 tail in
      subst (λ x. Tells made (event.Retire p ∷ events) (x ∷ lines)) head
      (record { events_are = ap (λ es. event.Retire p ∷ es) more.events_are; rest = more.rest; told_are = more.told_are })
  tells at made (event.Restart number ∷ events) (l ∷ lines) m lawful are =
      let head : Some l ≡ line_of all (event.Restart number) = cc are in
      let tail : map Some lines ≡ map (line_of all) events = cc are in
      let one = one_more at (struck_next dependence faults at.progress) lawful.0.some_struck in
      let more = tells (happens dependence faults at (event.Restart number)) (suc made) events lines (omega arith) lawful.1 tail in
      let same : number ≡ made = (let f = lawful.0.numbered in omega arith) in
      go (slice_get all number) refl head more same
    where
      go : (o : Option Restart) → slice_get all number ≡ o → Some l ≡ option_map line.Restart o → Tells (suc made) events lines
          → number ≡ made → Tells made (event.Restart number ∷ events) (l ∷ lines)
      go None is head more same = cc head
      go (Some r) is head more same =
          let line_is : line.Restart r ≡ l = cc head in
          let here = there all made r (subst (λ k. slice_get all k ≡ Some r) same is) in
          subst (λ x. Tells made (event.Restart number ∷ events) (x ∷ lines)) line_is
          (record {
            events_are = ap (λ es. event.Restart made ∷ es) more.events_are ∙ ap (λ k. event.Restart k ∷ events) (sym same);
            rest = more.rest;
            told_are = here ∙ ap (λ rs. r ∷ rs) more.told_are;
          })

  -- the events of lawful lines are those that are read off them
  pub told-events : (lines : List TraceLine) (lawful : LawfulLines dependence faults lines) → events_of lines ≡ lawful.events
  told-events lines lawful = (tells initial_stage 0 lawful.events lines refl lawful.lawful lawful.lines_are).events_are

  pub tell-lawful : (lines : List TraceLine) → LawfulLines dependence faults lines → TellLawful dependence faults lines
  tell-lawful lines lawful =
      let told = tells initial_stage 0 lawful.events lines refl lawful.lawful lawful.lines_are in
      record {
        lawful = subst (Lawful dependence faults) (sym told.events_are) lawful.lawful;
        first = (told.rest, told.told_are);
      }

  abbrev pub lawful-lines : (lines : List TraceLine) → TellLawful dependence faults lines → LawfulLines dependence faults lines
  lawful-lines lines told =
      record { events = events_of lines; lawful = told.lawful; lines_are = lines-from all 0 lines told.first.0 told.first.1 }

  -- and so is the first line with which they are not lawful
  first-after : (lines : List TraceLine) (n : ℕ) → LawfulLines dependence faults (take n lines)
      → ¬ LawfulLines dependence faults (take (suc n) lines) → IsFirstUnlawful dependence faults lines (suc n)
  first-after lines n before none = go (drop n lines) refl
    where
      go : (left : List TraceLine) → drop n lines ≡ left → IsFirstUnlawful dependence faults lines (suc n)
      go [] left =
          let short : length lines ≤ n = (let e = sym (length-drop n lines) ∙ ap length left in omega (arith, e)) in
          absurd (none (subst (LawfulLines dependence faults)
          (take_all n lines short ∙ sym (take_all (suc n) lines (omega (arith, short)))) before))
      go (l ∷ later) left =
          let within : n < length lines = (let e = sym (length-drop n lines) ∙ ap length left in omega (arith, e)) in
          record {
            before = take n lines;
            line = l;
            later = later;
            lines_are = sym (take-append-drop n lines) ∙ ap (λ rest. take n lines ++ rest) left;
            numbered = (let long = length-take-le n lines (omega (arith, within)) in omega (arith, long));
            lawful = tell-lawful (take n lines) before;
            unlawful = λ told.
                none (subst (LawfulLines dependence faults) (sym (next n lines l later left))
                (lawful-lines (take n lines ++ l ∷ []) told));
          }

  pub verdict-told : (lines : List TraceLine) (verdict : Verdict) → IsVerdict dependence faults lines verdict
      → IsToldVerdict dependence faults lines verdict
  verdict-told lines IsLawful is = (
    tell-lawful lines is.0,
    subst (Complete dependence faults) (sym (told-events lines is.0)) is.1,
  )
  verdict-told lines (Unlawful zero) is =
      let none : 0 - 1 ≡ 0 = omega arith in
      absurd (is.1 (subst (λ k. LawfulLines dependence faults (take k lines)) none is.0))
  verdict-told lines (Unlawful (suc n)) is =
      let before : suc n - 1 ≡ n = omega arith in
      first-after lines n (subst (λ k. LawfulLines dependence faults (take k lines)) before is.0) is.1
  verdict-told lines Incomplete is = (
    tell-lawful lines is.0,
    λ complete. is.1 (subst (Complete dependence faults) (told-events lines is.0) complete),
  )

  pub told-verdict : (lines : List TraceLine) (verdict : Verdict) → IsToldVerdict dependence faults lines verdict
      → IsVerdict dependence faults lines verdict
  told-verdict lines IsLawful told = (lawful-lines lines told.0, told.1)
  told-verdict lines (Unlawful number) first =
      let numbered = first.numbered in
      let low : number - 1 ≡ length first.before = omega (arith, numbered) in
      let before : take (number - 1) lines ≡ first.before =
      (λ i. take (low i) (first.lines_are i)) ∙ take-append_seam first.before (first.line ∷ first.later) in
      let more : take number lines ≡ first.before ++ first.line ∷ [] =
      (λ i. take (numbered i) (first.lines_are i)) ∙ take-append-add first.before (first.line ∷ first.later) 1 in (
        lawful-lines (take (number - 1) lines) (subst (TellLawful dependence faults) (sym before) first.lawful),
        λ lawful. first.unlawful (subst (TellLawful dependence faults) more (tell-lawful (take number lines) lawful)),
      )
  told-verdict lines Incomplete told = (lawful-lines lines told.0, told.1)
