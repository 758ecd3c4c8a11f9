use Rattle.std.proofs.Common.{◌≡◌, ◌∙◌, length, sym, rules}
use Rattle.csv.specs.Records.{fields_of}
use Rattle.batch_files.proofs.FeedFacts.{put_row, too_many}
use Rattle.batch_files.proofs.feeds.FeedTableTable.put.Goals as goal

pub returns-then-len-self-2 : goal.returns-then-len-self-2
returns-then-len-self-2 c = λ begun rows (fields, room, held).
    let row = fields_of c.args.row.now in
    let pushed = c.in_ok-push_numbers.ensures in
    let same : c.len.result ≡ c.args.self.now.fields = search rules in
    let count : c.len-2.result ≡ length c.push_numbers.new.cells.items = search rules in
    too_many begun.fields begun.room rows row c.args.self.now.cells.items pushed.0 held (sym c.len.ensures ∙ same ∙ fields) pushed.1
    (rw (count, room, pushed.2) at c.if-len-self-2.true)

pub returns : goal.returns
returns c = λ begun rows (fields, room, held).
    let row = fields_of c.args.row.now in
    let pushed = c.in_ok-push_numbers.ensures in
    let same : c.len.result ≡ c.args.self.now.fields = search rules in
    let count : c.len-2.result ≡ length c.push_numbers.new.cells.items = search rules in
    let put =
    put_row begun.fields begun.room rows row c.args.self.now.cells.items pushed.0 held (sym c.len.ensures ∙ same ∙ fields) pushed.1
    (rw (count, room, pushed.2) at c.if-len-self-2.false) in
    (put.0, (fields, room, rw pushed.2 put.1))
