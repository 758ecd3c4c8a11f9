use Rattle.std.proofs.Common.{rules}
use Rattle.token_order.proofs.Ways.{ways_pushed}
use Rattle.token_order.proofs.spans.Spans.reserve.Goals as goal

pub returns-in_ok-push-clause-ways : goal.returns-in_ok-push-clause-ways
returns-in_ok-push-clause-ways c seats stand = ways_pushed c.args.self.now.ways.items c.push.new.self.items seats (search rules) stand
