use Rattle.std.proofs.Common.{◌≡◌, List, [], ◌∷◌, ◌++◌, sym, subst, arith}
use Rattle.std.specs.Prelude.{OnOk}
use Rattle.std.proofs.lemmas.Grind.{common_steps}
use Rattle.std.proofs.lemmas.Result.{on_ok_weaker}
use Rattle.task_ast.specs.declared.tree.Head.{Head}
use Rattle.task_ast.specs.declared.tree.TaskText.{TaskText}
use Rattle.task_ast.specs.meaning.Names.{natural}
use Rattle.lock_checker.specs.declared.index.ProgramIndex.{ProgramIndex}
use Rattle.lock_checker.specs.inner.Indexes.{Finds}
use Rattle.lock_checker.proofs.IndexLemmas.{Puts, with_lock, with_barrier, record_put, with_feed}
use Rattle.lock_checker.proofs.VariableLemmas.{HasAlso}
use Rattle.lock_checker.proofs.index.ProgramIndex.add_head.Goals as goal

pub returns-in-LockHead : goal.returns-in-LockHead
returns-in-LockHead c =
    let old = c.args.self.now in
    let new : ProgramIndex = record { locks = c.put.new.self; arrays = old.arrays; barriers = old.barriers; feeds = old.feeds; tasks = old.tasks } in
    let count : c.natural.result ≡ natural c.in-LockHead.size = grind (arith, common_steps) in
    on_ok_weaker c.put.result (λ (put : Puts old.locks c.put.new.self c.in-LockHead.name c.natural.result). λ heads texts were.
    subst (λ (h : Head). Finds new (heads ++ h ∷ []) texts) (sym c.in-LockHead.is)
    (with_lock old heads texts were c.in-LockHead.name c.in-LockHead.size c.in-LockHead.line c.natural.result c.put.new.self count put)) c.put.ensures

pub returns-in-BarrierHead : goal.returns-in-BarrierHead
returns-in-BarrierHead c =
    let old = c.args.self.now in
    let new : ProgramIndex = record { locks = old.locks; arrays = old.arrays; barriers = c.put-in-BarrierHead.new.self; feeds = old.feeds; tasks = old.tasks } in
    on_ok_weaker c.put-in-BarrierHead.result (λ (put : HasAlso old.barriers c.put-in-BarrierHead.new.self c.in-BarrierHead.name). λ heads texts were.
    subst (λ (h : Head). Finds new (heads ++ h ∷ []) texts) (sym c.in-BarrierHead.is)
    (with_barrier old heads texts were c.in-BarrierHead.name c.in-BarrierHead.number c.in-BarrierHead.line c.put-in-BarrierHead.new.self put)) c.put-in-BarrierHead.ensures

pub returns-in-RecHead : goal.returns-in-RecHead
returns-in-RecHead c =
    let old = c.args.self.now in
    let new : ProgramIndex = record { locks = old.locks; arrays = c.put-in-RecHead.new.self; barriers = old.barriers; feeds = old.feeds; tasks = old.tasks } in
    subst (λ (h : Head). OnOk c.put-in-RecHead.result ((heads : List Head) (texts : List TaskText) → Finds old heads texts
    → Finds new (heads ++ h ∷ []) texts)) (sym c.in-RecHead.is)
    (record_put c.put-in-RecHead.result old c.in-RecHead.name c.in-RecHead.size _ c.in-RecHead.from c.in-RecHead.line
    c.put-in-RecHead.new.self c.put-in-RecHead.ensures)

pub returns-in-FeedHead : goal.returns-in-FeedHead
returns-in-FeedHead c =
    let old = c.args.self.now in
    let new : ProgramIndex = record { locks = old.locks; arrays = old.arrays; barriers = old.barriers; feeds = c.put-in-FeedHead.new.self; tasks = old.tasks } in
    on_ok_weaker c.put-in-FeedHead.result (λ (put : HasAlso old.feeds c.put-in-FeedHead.new.self c.in-FeedHead.name). λ heads texts were.
    subst (λ (h : Head). Finds new (heads ++ h ∷ []) texts) (sym c.in-FeedHead.is)
    (with_feed old heads texts were c.in-FeedHead.name c.in-FeedHead.fields c.in-FeedHead.from c.in-FeedHead.line c.put-in-FeedHead.new.self put)) c.put-in-FeedHead.ensures
