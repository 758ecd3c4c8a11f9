use Rattle.std.proofs.Common.{ℕ, List, ◌++◌, map, sym, arith}
use Rattle.std.proofs.lemmas.Result.{on_ok_weaker}
use Rattle.run_views.specs.meaning.Links.{Party}
use Rattle.run_views.specs.meaning.Why.{chain}
use Rattle.run_views.specs.Seen.{party_in}
use Rattle.run_views.proofs.Linking.{chain-kept, chain-ends}
use Rattle.run_views.proofs.why.Order.push_chain.Goals as goal

pub returns-in-None : goal.returns-in-None
returns-in-None c =
    let parties : List Party = map party_in c.args.self.now.steps.now in
    let all : List ℕ = c.args.text.now.items ++ chain c.args.self.now.heads.now parties c.args.redo.now c.args.position c.args.position in
    on_ok_weaker c.push_struck.result
    (λ told. chain-ends c.args.self.now.heads.now parties c.args.redo.now c.loop-links.text.items c.push_struck.new.text.items all
    c.args.position c.loop-links.links c.loop-links.at
    c.loop-links-test.true c.loop-links.invariant.same (sym c.in-None.ensures.linked) told)
    c.push_struck.ensures

pub loop-links-preserved : goal.loop-links-preserved
loop-links-preserved c =
    let parties : List Party = map party_in c.args.self.now.steps.now in
    let all : List ℕ = c.args.text.now.items ++ chain c.args.self.now.heads.now parties c.args.redo.now c.args.position c.args.position in
    let below = c.in-Some.ensures.below in
    let low = c.loop-links.invariant.low in
    record {
      same = chain-kept c.args.self.now.heads.now parties c.args.redo.now c.loop-links.text.items c.push_link.new.text.items all
          c.args.position c.loop-links.links c.loop-links.at
          c.in-Some.earlier c.loop-links-test.true c.loop-links.invariant.same
          (sym c.in-Some.ensures.linked) c.in_ok-push_link-in-Some.ensures;
      low = omega (arith, below, low);
    }
