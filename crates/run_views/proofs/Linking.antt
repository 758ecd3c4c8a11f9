-- Links between the code's steps, and the text that tells them, are those of the subthreads that they show.
use Rattle.std.proofs.Common.{◌≡◌, ◌↔◌, ℕ, zero, suc, ◌+◌, ◌-◌, ◌<◌, ◌≤◌, Bool, false, cond, List, [], ◌∷◌, ◌++◌, Option, Some, None, length, map, get_or, slice_get, refl, sym, ap, ap₂, ◌∙◌, arith, add-one, append_assoc}
use Rattle.std.specs.Prelude.{IsTrue, find, option_map}
use Rattle.std.specs.Option.{option_map_or}
use Rattle.std.proofs.lemmas.List.{length-map}
use Rattle.gp_base.specs.declared.fault.Fault.{Fault}
use Rattle.gp_base.specs.declared.feed.Inputs.{Inputs}
use Rattle.gp_base.specs.declared.footprint.Footprint.{Footprint}
use Rattle.gp_base.specs.declared.journal.Restart.{Restart}
use Rattle.gp_base.specs.declared.limits.Limits.{Limits}
use Rattle.task_ast.specs.declared.tree.Head.{Head}
use Rattle.task_ast.specs.meaning.Tree.{Program}
use Rattle.task_ast.specs.meaning.Names.{records_of, cells_in}
use Rattle.task_ast.specs.meaning.Plain.{Subthread, foot_of}
use Rattle.task_ast.specs.meaning.Run.{plain_order}
use Rattle.task_ast.specs.Plain.{last_state}
use Rattle.task_ast.specs.meaning.State.{cell_value}
use Rattle.task_ast.specs.meaning.Table.{numbers}
use Rattle.one_thread.specs.declared.run.PlainRun.{PlainRun}
use Rattle.one_thread.specs.declared.run.Step.{Step}
use Rattle.one_thread.specs.PlainRuns.{IsPlainRun, shown}
use Rattle.dependence.specs.meaning.Conflict.{clash_in}
use Rattle.dependence.specs.Conflict.{Conflict}
use Rattle.dependence.specs.meaning.Restarts.{restarts}
use Rattle.dependence.specs.meaning.Runs.{restarts_of}
use Rattle.gp_audit.specs.Steps.{feet_in, dependence_by}
use Rattle.gp_audit.proofs.Clashing.{clash-is}
use Rattle.gp_audit.proofs.Orders.{order-is}
use Rattle.run_views.specs.declared.links.Link.{Link}
use Rattle.run_views.specs.meaning.Links.{Party, party_of, linked, link_of}
use Rattle.run_views.specs.meaning.Why.{link_line, struck_line, link_text, chain, restart_texts, redone_line, why_lines, why_text}
use Rattle.run_views.specs.Seen.{seen, party_in}
use Rattle.run_views.proofs.Endings.{same_order}
use Rattle.run_views.proofs.SeenSteps.{child_written, line_seen}

-- ---- conflicts
abbrev feet : List Step → List Footprint
feet steps = map (λ (p : Party). p.foot) (map party_in steps)

feet-are : (steps : List Step) → feet_in steps ≡ feet steps
feet-are [] = refl
feet-are (s ∷ steps) = ap (λ others. s.foot ∷ others) (feet-are steps)

pub parties-clash : (steps : List Step) (p q : ℕ) (d e : Step) (b : Bool) → p < length steps → q < length steps
    → IsTrue b ↔ Conflict (get_or steps p d).foot (get_or steps q e).foot → b ≡ clash_in (feet steps) p q
parties-clash steps p q d e b lp lq is = clash-is steps p q d e b lp lq is ∙ ap (λ all. clash_in all p q) (feet-are steps)

-- ---- numbers from one on
numbers-next : (c n : ℕ) → c < n → numbers c (n - c) ≡ c ∷ numbers (c + 1) (n - (c + 1))
numbers-next c n less = go (n - c) refl
  where
    go : (m : ℕ) → n - c ≡ m → numbers c m ≡ c ∷ numbers (c + 1) (n - (c + 1))
    go zero is = absurd (omega arith)
    go (suc m) is = ap (λ l. c ∷ l) (ap (λ a. numbers a m) (sym (add-one c)) ∙ ap (numbers (c + 1)) (omega arith))

length-numbers : (a n : ℕ) → length (numbers a n) ≡ n
length-numbers a zero = refl
length-numbers a (suc n) = ap suc (length-numbers (suc a) n)

-- a number that fails a test is passed
pub number-passed : (test : ℕ → Bool) (c n : ℕ) → c < n → test c ≡ false
    → find test (numbers c (n - c)) ≡ find test (numbers (c + 1) (n - (c + 1)))
number-passed test c n less is =
    ap (find test) (numbers-next c n less) ∙ ap (λ b. cond b (Some c) (find test (numbers (c + 1) (n - (c + 1))))) is

-- ---- lines of links
party-at : (steps : List Step) (q : ℕ) (d : Step) → q < length steps → slice_get (map party_in steps) q ≡ Some (party_in (get_or steps q d))
party-at [] q d l = absurd (omega (arith, l))
party-at (s ∷ steps) zero d l = refl
party-at (s ∷ steps) (suc q) d l = party-at steps q d (omega (arith, l))

pub line-shown : (heads : List Head) (steps : List Step) (q r cells : ℕ) (d e : Step) (link : Link) → q < length steps → r < length steps
    → cells ≡ cells_in (records_of heads)
    → link ≡ link_of cells (party_in (get_or steps q d)) (party_in (get_or steps r e))
    → link_line heads q r link ≡ link_text heads q r (slice_get (map party_in steps) q) (slice_get (map party_in steps) r)
line-shown heads steps q r cells d e link lq lr same is =
    ap (link_line heads q r) (is ∙ ap (λ n. link_of n (party_in (get_or steps q d)) (party_in (get_or steps r e))) same)
    ∙ ap₂ (link_text heads q r) (sym (party-at steps q d lq)) (sym (party-at steps r e lr))

module _ (heads : List Head) (parties : List Party) (redo : List ℕ) (text now all : List ℕ) (most links at : ℕ) where
  abbrev after_link : Option ℕ → List ℕ
  after_link link =
      option_map_or (λ r. link_text heads at r (slice_get parties at) (slice_get parties r)
      ++ chain heads parties redo (most - (links + 1)) r) link (struck_line at)

  next-chain : links < most → (link : Option ℕ) → linked parties redo at ≡ link
      → chain heads parties redo (most - links) at ≡ after_link link
  next-chain less link is =
      let more : most - links ≡ suc (most - (links + 1)) = omega arith in
      ap (λ m. chain heads parties redo m at) more ∙ ap after_link is

  -- one link more was told
  pub chain-kept : (r : ℕ) → links < most → text ++ chain heads parties redo (most - links) at ≡ all → linked parties redo at ≡ Some r
      → now ≡ text ++ link_text heads at r (slice_get parties at) (slice_get parties r)
      → now ++ chain heads parties redo (most - (links + 1)) r ≡ all
  chain-kept r less so_far is told =
      ap (λ l. l ++ chain heads parties redo (most - (links + 1)) r) told
      ∙ append_assoc text (link_text heads at r (slice_get parties at) (slice_get parties r))
      (chain heads parties redo (most - (links + 1)) r)
      ∙ sym (ap (λ l. text ++ l) (next-chain less (Some r) is)) ∙ so_far

  -- there is no link more
  pub chain-ends : links < most → text ++ chain heads parties redo (most - links) at ≡ all → linked parties redo at ≡ None
      → now ≡ text ++ struck_line at → now ≡ all
  chain-ends less so_far is told = told ∙ sym (ap (λ l. text ++ l) (next-chain less None is)) ∙ so_far

-- ---- the text of a run
party-is : (s : Subthread) → party_in (shown s) ≡ party_of s
party-is s = λ i. record { thread = s.thread; begins = s.begins.sync; child = child_written s i; foot = foot_of s }

parties-are : (run : List Subthread) → map party_in (map shown run) ≡ map party_of run
parties-are [] = refl
parties-are (s ∷ run) = ap₂ (λ own others. own ∷ others) (party-is s) (parties-are run)

lines-are : (heads : List Head) (run : List Subthread) (made : List Restart) (p : ℕ) (s : Subthread)
    → why_lines heads (map party_in (map shown run)) made p (seen (shown s)) ≡ why_lines heads (map party_of run) made p s
lines-are heads run made p s =
    ap₂ (λ line parties. line ++ restart_texts heads parties p 1 made ++ redone_line p made) (line_seen heads p s) (parties-are run)

subthread-at : (run : List Subthread) (p : ℕ) (d : Step) → p < length run
    → (s : Subthread) × (slice_get run p ≡ Some s) × (get_or (map shown run) p d ≡ shown s)
subthread-at [] p d l = absurd (omega (arith, l))
subthread-at (s ∷ run) zero d l = (s, refl, refl)
subthread-at (s ∷ run) (suc p) d l = subthread-at run p d (omega (arith, l))

none-at : (run : List Subthread) (p : ℕ) → length run ≤ p → slice_get run p ≡ None
none-at [] p l = refl
none-at (s ∷ run) zero l = absurd (omega (arith, l))
none-at (s ∷ run) (suc p) l = none-at run p (omega (arith, l))

module _ (program : Program) (inputs : Inputs) (limits : Limits) (run : PlainRun) (is : IsPlainRun program inputs limits run)
    (faults : List Fault) (p : ℕ) where
  abbrev plain : List Subthread
  plain = plain_order program inputs limits

  same-length : length run.order ≡ length plain
  same-length = ap length (same_order program inputs limits run is) ∙ length-map plain shown

  pub cells-counted : length run.records ≡ cells_in (records_of program.heads)
  cells-counted =
      ap length is.records
      ∙ length-map (numbers 0 (cells_in (records_of program.heads))) (cell_value (last_state program inputs limits).state)
      ∙ length-numbers 0 (cells_in (records_of program.heads))

  -- the text of the code's run is that of the plain run
  pub why-shown : (heads : List Head) (made : List Restart) (d : Step) (text : List ℕ) → heads ≡ program.heads
      → made ≡ restarts (dependence_by run.order) faults → p < length run.order
      → text ≡ why_lines heads (map party_in run.order) made p (seen (get_or run.order p d))
      → Some text ≡ why_text program inputs limits faults p
  unfolding why_text
  why-shown heads made d text same_heads made_is low told =
      let all : made ≡ restarts_of plain faults = made_is ∙ ap (λ r. restarts r faults) (ap dependence_by (same_order program inputs limits run is) ∙ order-is plain) in
      let here = subthread-at plain p d (omega (arith, low, same-length)) in
      let lines : text ≡ why_lines program.heads (map party_of plain) (restarts_of plain faults) p here.0 =
      told ∙ ap (λ h. why_lines h (map party_in run.order) made p (seen (get_or run.order p d))) same_heads
      ∙ ap (λ steps. why_lines program.heads (map party_in steps) made p (seen (get_or steps p d)))
      (same_order program inputs limits run is)
      ∙ ap (λ s. why_lines program.heads (map party_in (map shown plain)) made p (seen s)) here.2
      ∙ ap (λ m. why_lines program.heads (map party_in (map shown plain)) m p (seen (shown here.0))) all
      ∙ lines-are program.heads plain (restarts_of plain faults) p here.0 in
      ap Some lines ∙ sym (ap (option_map (why_lines program.heads (map party_of plain) (restarts_of plain faults) p)) here.1)

  -- there is no text past the end of the run
  pub why-past : length run.order ≤ p → None ≡ why_text program inputs limits faults p
  unfolding why_text
  why-past past =
      sym (ap (option_map (why_lines program.heads (map party_of plain) (restarts_of plain faults) p))
      (none-at plain p (omega (arith, past, same-length))))
