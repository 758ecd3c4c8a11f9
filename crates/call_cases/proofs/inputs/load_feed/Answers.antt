use Rattle.std.proofs.Common.{◌∙◌, ◌-◌, [], ◌∷◌, ◌++◌, length, map, sym, ap}
use Rattle.std.proofs.lemmas.List.{map-append}
use Rattle.task_ast.specs.Inputs.{fields_in}
use Rattle.call_cases.specs.meaning.InputFiles.{room_after}
use Rattle.call_cases.specs.inner.Loading.{seen}
use Rattle.call_cases.proofs.Loads.{feeds_bad, feeds_ok, room_after-more}
use Rattle.call_cases.proofs.inputs.load_feed.Goals as goal

pub returns-in-Err-clause-told : goal.returns-in-Err-clause-told
returns-in-Err-clause-told g c =
    feeds_bad (g.H.Shelf.files c.args.shelf.now) c.args.file.now c.args.fields c.args.loading.now.room
    (seen c.args.loading.now) c.in-Err.refusal c.requires.room c.in-Err.ensures.told

pub returns-clause-told : goal.returns-clause-told
returns-clause-told g c =
    feeds_ok (g.H.Shelf.files c.args.shelf.now) c.args.file.now c.args.fields c.args.loading.now.room (seen c.args.loading.now)
    (seen c.put_feed.new.self) c.in-Ok.feed c.requires.room c.in-Ok.ensures.fields
    c.in_ok-put_feed.ensures.records c.in_ok-put_feed.ensures.feeds c.in-Ok.ensures.told

pub returns-clause-room : goal.returns-clause-room
returns-clause-room g c =
    let done = c.in_ok-put_feed.ensures in
    done.room ∙ ap (λ room. room - length c.in-Ok.feed.cells) c.requires.room
    ∙ sym (room_after-more c.args.loading.now.feeds.items c.in-Ok.feed) ∙ sym (ap room_after done.feeds)

pub returns-clause-feeds : goal.returns-clause-feeds
returns-clause-feeds g c =
    let before = c.args.loading.now.feeds.items in
    ap (map fields_in) c.in_ok-put_feed.ensures.feeds ∙ map-append fields_in before (c.in-Ok.feed ∷ [])
    ∙ ap (λ fields. map fields_in before ++ fields ∷ []) c.in-Ok.ensures.fields
