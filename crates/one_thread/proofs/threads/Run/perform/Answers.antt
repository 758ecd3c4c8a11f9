use Rattle.std.proofs.Common.{◌≡◌, [], ◌≤◌, ◌∙◌, ap, sym, refl, subst, rules, SFits, w64}
use Rattle.std.proofs.lemmas.Int.{to_z-of_z}
use Rattle.task_ast.specs.meaning.Names.{locks_of, records_of, cells_in, registers_of}
use Rattle.task_ast.specs.View.{plain_task}
use Rattle.one_thread.specs.inner.Subthreads.{settled, RanWith}
use Rattle.one_thread.specs.Runs.{joined_of}
use Rattle.one_thread.specs.View.{table_of, WalksStand}
use Rattle.task_ast.proofs.Looks.{get-at}
use Rattle.one_thread.proofs.threads.Run.perform.Goals as goal

pub work-requires-clause-locks : goal.work-requires-clause-locks
work-requires-clause-locks g c =
    let here =
    c.requires.sound.each c.args.t c.index_mut-walk.result.now
    (get-at c.args.self.now.threads.items c.args.t c.index_mut-walk.result.now c.requires.exists c.index_mut-walk.ensures.value) in
    subst (λ w. cells_in (locks_of w.program.now.program.heads) ≤ 65536) (sym c.settle.ensures)
    (subst (λ code. cells_in (locks_of code.heads) ≤ 65536) (sym here.program) c.requires.small.locks)

pub work-requires-clause-records : goal.work-requires-clause-records
work-requires-clause-records g c =
    let here =
    c.requires.sound.each c.args.t c.index_mut-walk.result.now
    (get-at c.args.self.now.threads.items c.args.t c.index_mut-walk.result.now c.requires.exists c.index_mut-walk.ensures.value) in
    subst (λ w. cells_in (records_of w.program.now.program.heads) ≤ 65536) (sym c.settle.ensures)
    (subst (λ code. cells_in (records_of code.heads) ≤ 65536) (sym here.program) c.requires.small.records)

pub work-requires-clause-registers : goal.work-requires-clause-registers
work-requires-clause-registers g c =
    subst (λ w. w.registers.now ≡ registers_of (plain_task w.task.now)) (sym c.settle.ensures)
    (c.requires.sound.each c.args.t c.index_mut-walk.result.now
    (get-at c.args.self.now.threads.items c.args.t c.index_mut-walk.result.now c.requires.exists
    c.index_mut-walk.ensures.value)).registers

pub work-requires-clause-clean : goal.work-requires-clause-clean
work-requires-clause-clean g c =
    subst (λ w. w.env.regs ≡ []) (sym c.settle.ensures)
    (c.requires.sound.each c.args.t c.index_mut-walk.result.now
    (get-at c.args.self.now.threads.items c.args.t c.index_mut-walk.result.now c.requires.exists c.index_mut-walk.ensures.value)).clean

pub returns : goal.returns
returns g c =
    let fits : SFits w64 c.joined_value-joined.result = search rules in
    let ran =
    rw (to_z-of_z w64 c.joined_value-joined.result fits, c.joined_value-joined.ensures, c.deref.ensures.value, c.settle.ensures)
    at c.in_ok-done.ensures in
    record {
      was = c.index_mut-walk.result.now;
      is = c.work.new.walk;
      done = c.in_ok-done.done;
      at = get-at c.args.self.now.threads.items c.args.t c.index_mut-walk.result.now c.requires.exists c.index_mut-walk.ensures.value;
      ran =
          subst (λ s. RanWith (settled c.args.begins.now.sync c.index_mut-walk.result.now) c.args.self.now.shared c.args.begins.now.sync
          c.args.child (joined_of c.args.begins.now.sync c.args.self.now.threads.items) c.args.self.now.turns c.in_ok-done.done
          c.work.new.walk s) (sym c.in_ok-add.ensures.shared) ran;
      threads = c.in_ok-add.ensures.threads;
      table = ap table_of c.in_ok-add.ensures.table ∙ c.learn.ensures.table;
      owners = ap (λ t. t.owners) c.in_ok-add.ensures.table ∙ c.learn.ensures.owners;
      walks = subst WalksStand (sym c.in_ok-add.ensures.table) c.learn.ensures.walks;
      told_is = refl;
      program = c.in_ok-add.ensures.program;
      slots = c.in_ok-add.ensures.slots;
      turns = c.in_ok-add.ensures.turns;
    }
