use Rattle.std.proofs.Common.{◌≡◌, ◌++◌, ℕ, List, take, ap, ◌∙◌, SFits, w64, rules}
use Rattle.std.specs.Prelude.{ℤ}
use Rattle.std.specs.Ordering.{nat_cmp}
use Rattle.std.specs.FinMap.{put}
use Rattle.std.proofs.lemmas.Int.{to_z-of_z}
use Rattle.subthread.specs.inner.Hand.{Hand}
use Rattle.subthread.proofs.Settings.{put_next}
use Rattle.subthread.proofs.setting.write_each.Goals as goal

pub loop-write-preserved : goal.loop-write-preserved
loop-write-preserved c =
    let hand : Hand = c.args.cells.now in
    let writes : List (ℕ × ℤ) = c.args.writes.now in
    let item : ℕ × ℤ = c.write-item.result in
    let fits : SFits w64 c.write.inside.0.1.0 = search rules in
    let cell : c.write.inside.0.0.0 ≡ item.0 = ap (λ (w : ℕ × ℤ). w.0) c.write.view_is in
    let value = to_z-of_z w64 c.write.inside.0.1.0 fits ∙ ap (λ (w : ℕ × ℤ). w.1) c.write.view_is in
    let last = put_next hand.written writes c.loop-write.write-index item c.requires.rising c.loop-write-test.true in
    c.in_ok-write.ensures.ok
    ∙ (λ i. record {
      under = (c.loop-write.invariant i).under;
      came = (c.loop-write.invariant i).came;
      written = put nat_cmp (cell i) (value i) (c.loop-write.invariant i).written;
    })
    ∙ ap (λ (ws : List (ℕ × ℤ)). record hand { written = ws })
    (ap (λ (w : ℕ × ℤ). put nat_cmp w.0 w.1 (hand.written ++ take c.loop-write.write-index writes)) c.write-item.is ∙ last)
