use Rattle.std.proofs.Common.{◌≡◌, ◌∙◌, ◌+◌, refl, sym, subst, inl, inr, arith}
use Rattle.std.proofs.lemmas.Bool.{cases_lt}
use Rattle.reorder_list.specs.Entries.{first_position}
use Rattle.reorder_list.specs.Runnable.{IsRunnable}
use Rattle.reorder_list.specs.Watched.{IsLooked}
use Rattle.reorder_list.proofs.Readiness.{read-position}
use Rattle.reorder_list.proofs.Watching.{looked-wider, wider-same, wider-then, clear-wider}
use Rattle.reorder_list.proofs.search.look.Goals as goal

pub loop-place-init : goal.loop-place-init
loop-place-init c =
    record {
      looked = λ q l high e there waits. absurd (omega arith);
      wider = wider-same c.args.watches.now.items;
      len = refl;
      capacity = refl;
    }

pub is_ready-requires-clause-clear : goal.is_ready-requires-clause-clear
is_ready-requires-clause-clear c =
    clear-wider c.args.entries.now.items c.args.watches.now.items c.loop-place.watches.items c.loop-place.invariant.wider c.requires.clear

pub loop-place-preserved : goal.loop-place-preserved
loop-place-preserved c =
    let entries = c.args.entries.now.items in
    let inv = c.loop-place.invariant in
    record {
      looked =
          λ q l high. elim (cases_lt q (first_position entries + c.loop-place.place)) [
            | inl before ↦
                looked-wider entries c.loop-place.watches.items c.is_ready.new.watches.items q c.is_ready.ensures.wider
                (inv.looked q l before)
            | inr here ↦
                subst (IsLooked entries c.is_ready.new.watches.items)
                (let same : first_position entries + c.loop-place.place ≡ q = omega arith in same)
                (c.is_ready.ensures.held c.if-is_ready.false)
          ];
      wider =
          wider-then c.args.watches.now.items c.loop-place.watches.items c.is_ready.new.watches.items inv.wider c.is_ready.ensures.wider;
      len = c.is_ready.ensures.len ∙ inv.len;
      capacity = c.is_ready.ensures.capacity ∙ inv.capacity;
    }

pub returns-then-is_ready-clause-found : goal.returns-then-is_ready-clause-found
returns-then-is_ready-clause-found c =
    let entries = c.args.entries.now.items in
    let within = c.loop-place-test.true in
    let l = c.requires.in_range in
    let auto = c.loop-place.auto.place in
    let is = read-position entries c.loop-place.place c.index.result.now c.requires.in_row (omega arith) c.index.ensures in (
      omega arith,
      omega arith,
      subst (IsRunnable entries) (sym is) (c.is_ready.ensures.runnable.0 c.if-is_ready.true),
    )

pub returns-then-is_ready-clause-looked : goal.returns-then-is_ready-clause-looked
returns-then-is_ready-clause-looked c q low high =
    let entries = c.args.entries.now.items in
    let within = c.loop-place-test.true in
    let l = c.requires.in_range in
    let is = read-position entries c.loop-place.place c.index.result.now c.requires.in_row (omega arith) c.index.ensures in
    looked-wider entries c.loop-place.watches.items c.is_ready.new.watches.items q c.is_ready.ensures.wider
    (c.loop-place.invariant.looked q low (omega arith))
