use Rattle.std.proofs.Common.{◌≡◌, take}
use Rattle.call_cases.proofs.feeds.copied_feeds.Given as goal

-- the feeds so far
abbrev pub invariant-loop-feed : goal.invariant-loop-feed
invariant-loop-feed l = l.copies ≡ take l.feed-index l.feeds
