use Rattle.std.proofs.Common.{◌∙◌, ap, sym, ◌≡◌, rules}
use Rattle.std.specs.Prelude.{if◌then◌else◌, Some, None}
use Rattle.task_ast.specs.meaning.Names.{is_name}
use Rattle.lock_checker.specs.Tables.{found, or_else}
use Rattle.lock_checker.proofs.TableLemmas.{put_found, updated}
use Rattle.lock_checker.proofs.symbol_table.SymbolTable.put.Goals as goal

pub returns-in_ok-insert : goal.returns-in_ok-insert
returns-in_ok-insert g c = λ y.
    let bytes = c.in_ok-name.name.items in
    let is : bytes ≡ c.args.x.now = c.in_ok-name.ensures.items ∙ c.as_slice.ensures in
    let none : c.get.result ≡ None = search rules in
    updated bytes c.args.self.now.first c.insert.new.self _ c.in_ok-insert.ensures.updates y
    ∙ put_found (found c.args.self.now) bytes y c.args.value (ap (found c.args.self.now) is ∙ sym c.get.ensures ∙ none)
    ∙ ap (λ z. or_else (found c.args.self.now y) (if is_name y z then Some c.args.value else None)) is
