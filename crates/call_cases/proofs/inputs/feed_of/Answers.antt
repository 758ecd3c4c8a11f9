use Rattle.gp_base.specs.declared.feed.Feed.{Feed}
use Rattle.batch_files.specs.meaning.Feeds.{feed_by}
use Rattle.call_cases.proofs.Loads.{rows_ok}
use Rattle.call_cases.proofs.inputs.feed_of.Goals as goal

pub returns-in-Ok-clause-told : goal.returns-in-Ok-clause-told
returns-in-Ok-clause-told g c =
    rows_ok (g.H.Shelf.files c.args.shelf.now) (λ (feed : Feed). feed.cells) c.args.name.now c.in_ok-text.text
    (feed_by c.args.fields c.args.room) c.in-Ok.feed c.in_ok-text.ensures.told c.in-Ok.ensures.cells
