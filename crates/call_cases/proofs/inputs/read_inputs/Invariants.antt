use Rattle.std.proofs.Common.{◌≡◌, [], IfSome, take, drop}
use Rattle.call_cases.specs.meaning.InputFiles.{no_inputs, room_after, load}
use Rattle.call_cases.specs.InputFiles.{file_names}
use Rattle.call_cases.specs.inner.Loading.{AreReadable, Counts, seen}
use Rattle.call_cases.proofs.inputs.read_inputs.Given as goal

-- the files so far were read, and what the others give is what all give
abbrev pub invariant-loop-head : goal.invariant-loop-head
invariant-loop-head g l = record {
  kept : g.H.Shelf.files l.shelf ≡ g.H.Shelf.files l.fn.shelf;
  failed : g.H.Shelf.failed l.shelf ≡ g.H.Shelf.failed l.fn.shelf;
  room : l.loading.room ≡ room_after l.loading.feeds.items;
  counts : Counts (take l.head-index l.heads) (seen l.loading);
  readable : AreReadable (drop l.head-index l.heads);
  told : IfSome (g.H.Shelf.files l.fn.shelf)
      (λ files. load files (file_names (take l.head-index l.heads)) (seen l.loading) (drop l.head-index l.heads)
      ≡ load files [] no_inputs l.heads);
}
