use Rattle.sqlite.specs.Held.{state}
use Rattle.db_tables.proofs.Seen.{file_is_read}
use Rattle.db_tables.proofs.sources.read_file.Goals as goal

pub returns-in-Ok-clause-read : goal.returns-in-Ok-clause-read
returns-in-Ok-clause-read g c clean =
    file_is_read g.S.Store c.args.source.now (state g.S.Store c.args.tx.now.conn.now).now (state g.S.Store c.read_source.new.tx.conn.now).now c.in-Ok.text c.with_name.result
    (c.in-Ok.ensures.read clean) c.with_name.ensures.file
