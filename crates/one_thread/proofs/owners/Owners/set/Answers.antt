use Rattle.std.proofs.Common.{rules, ◌<◌, length}
use Rattle.task_ast.proofs.Looks.{get-at}
use Rattle.one_thread.proofs.Holds.{handed}
use Rattle.one_thread.proofs.owners.Owners.set.Goals as goal

pub returns-clause-held : goal.returns-clause-held
returns-clause-held c =
    let within : c.args.lock < length c.args.self.now.owners.items = search rules in
    handed c.args.self.now.owners.items c.args.self.now.held.items c.change_of.new.held.items c.change_of-2.new.held.items c.args.lock
    c.index.result.now c.args.owner c.requires within
    (get-at c.args.self.now.owners.items c.args.lock c.index.result.now within c.index.ensures) c.in_ok-change_of.ensures
    c.in_ok-change_of-2.ensures
