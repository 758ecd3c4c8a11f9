use Rattle.std.proofs.Common.{◌≡◌, ◌≤◌, ◌-◌, ◌++◌, map}
use Rattle.run_views.specs.meaning.Why.{chain}
use Rattle.run_views.specs.Seen.{party_in}
use Rattle.run_views.proofs.why.Order.push_chain.Given as goal

-- the lines so far, and those from the position that was come to, are all
abbrev pub invariant-loop-links : goal.invariant-loop-links
invariant-loop-links l = record {
  same : l.text.items ++ chain l.self.heads.now (map party_in l.self.steps.now) l.redo (l.position - l.links) l.at
      ≡ l.fn.text.items ++ chain l.self.heads.now (map party_in l.self.steps.now) l.redo l.position l.position;
  low : l.at ≤ l.position;
}
