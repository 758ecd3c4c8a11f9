use Rattle.std.proofs.Math.Nat.{mul-mod_left}
use Rattle.batch_files.proofs.feeds.read_feed.Goals as goal

pub new-requires-2-clause-whole_rows : goal.new-requires-2-clause-whole_rows
new-requires-2-clause-whole_rows c =
    let full = c.in_ok-table.ensures in
    rw (c.from_vec.ensures, full.1.2.1) (mul-mod_left _ c.args.fields)
