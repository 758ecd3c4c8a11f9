-- Cells that are lent to a task and come home with its run.
use Rattle.std.proofs.Common.{ℕ, ◌<◌, false, List, length, get_or, Contains, Some, ap, ◌∙◌}
use Rattle.std.specs.Prelude.{All}
use Rattle.std.proofs.lemmas.List.Elements.{Contains-get_or}
use Rattle.std.proofs.lemmas.Option.{slice_get-get_or}
use Rattle.record_store.specs.Stored.{Stored, IsAtHome, IsAllHome}

-- where all are at home, those that are there are
pub each-home : (store : Stored) (held : List ℕ) → IsAllHome store → ((l : ℕ) → Contains held l → l < length store.away)
    → All (IsAtHome store) held
each-home store held home there k d less =
    let l = get_or held k d in
    let is = there l (Contains-get_or held k d less) in
    slice_get-get_or store.away l false is ∙ ap Some (home l false is)
