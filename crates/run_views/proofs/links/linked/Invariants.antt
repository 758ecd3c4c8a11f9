use Rattle.std.proofs.Common.{◌≡◌, drop, map}
use Rattle.run_views.specs.meaning.Links.{linked}
use Rattle.run_views.specs.Seen.{party_in}
use Rattle.run_views.proofs.links.linked.Given as goal

-- the link is to one of those that are left
abbrev pub invariant-loop-earlier : goal.invariant-loop-earlier
invariant-loop-earlier l =
    linked (map party_in l.order) (drop l.earlier-index l.redo) l.position ≡ linked (map party_in l.order) l.redo l.position
