use Rattle.std.proofs.Common.{w64, SFits, rules}
use Rattle.std.proofs.lemmas.Int.{to_z-of_z}
use Rattle.call_cases.specs.inner.Loading.{seen}
use Rattle.call_cases.proofs.Loads.{record_step, feed_step}
use Rattle.call_cases.proofs.Sizes.{record_grows, feed_grows}
use Rattle.call_cases.proofs.inputs.load_head.Goals as goal

pub returns-in-RecHead-clause-told : goal.returns-in-RecHead-clause-told
returns-in-RecHead-clause-told g c =
    let head = c.in-RecHead in
    let fits : SFits w64 head.size = search rules in
    record_step (g.H.Shelf.files c.args.shelf.now) c.args.head.now head.name head.size head.by head.from head.line c.natural.result
    (seen c.args.loading.now)
    (seen c.load_record.new.loading) c.load_record.result head.is (simp to_z-of_z at c.natural.ensures.value)
    c.load_record.ensures.told

pub returns-in-FeedHead-clause-told : goal.returns-in-FeedHead-clause-told
returns-in-FeedHead-clause-told g c =
    let head = c.in-FeedHead in
    let fits : SFits w64 head.fields = search rules in
    feed_step (g.H.Shelf.files c.args.shelf.now) c.args.head.now head.name head.fields head.from head.line c.natural-in-FeedHead.result
    (seen c.args.loading.now) (seen c.load_feed.new.loading) c.load_feed.result
    head.is (simp to_z-of_z at c.natural-in-FeedHead.ensures.value) c.load_feed.ensures.told

pub returns-in-RecHead-clause-grows : goal.returns-in-RecHead-clause-grows
returns-in-RecHead-clause-grows g c =
    let head = c.in-RecHead in
    let fits : SFits w64 head.size = search rules in
    record_grows c.args.head.now head.name head.size head.by head.from head.line c.natural.result (seen c.args.loading.now)
    (seen c.load_record.new.loading) c.load_record.result head.is (simp to_z-of_z at c.natural.ensures.value)
    c.load_record.ensures.records c.load_record.ensures.feeds

pub returns-in-FeedHead-clause-grows : goal.returns-in-FeedHead-clause-grows
returns-in-FeedHead-clause-grows g c =
    let head = c.in-FeedHead in
    let fits : SFits w64 head.fields = search rules in
    feed_grows c.args.head.now head.name head.fields head.from head.line c.natural-in-FeedHead.result (seen c.args.loading.now)
    (seen c.load_feed.new.loading) c.load_feed.result head.is (simp to_z-of_z at c.natural-in-FeedHead.ensures.value)
    c.load_feed.ensures.feeds c.load_feed.ensures.records
