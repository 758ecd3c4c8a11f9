use Rattle.std.proofs.Common.{◌∙◌, ap, refl, map, replicate, zip, None, [], ◌∷◌, ◌++◌}
use Rattle.task_ast.specs.declared.tree.Program.{Program}
use Rattle.task_ast.specs.meaning.Names.{records_of, feeds_of, barriers_of, cells_in, locks_of}
use Rattle.task_ast.specs.meaning.State.{number_at}
use Rattle.task_ast.specs.meaning.Table.{numbers}
use Rattle.task_ast.specs.Table.{new_seat}
use Rattle.one_thread.proofs.Openings.{opening-holds}
use Rattle.one_thread.proofs.threads.Run.new.Goals as goal

pub returns : goal.returns
returns c =
    let heads = c.as_slice-heads.ensures ∙ ap (λ (program : Program). program.heads) c.program.ensures in
    let locks = c.lock_count.ensures ∙ ap (λ h. cells_in (locks_of h)) heads in
    let barriers = c.in_ok-barriers.ensures ∙ ap (λ h. map (λ b. b.1) (barriers_of h)) heads in
    opening-holds c.args.program.now.program c.args.inputs.now c.args.limits _ c.in_ok-thread.thread
    refl c.requires.slots refl
    c.in_ok-thread.ensures
    (c.in_ok-push.ensures.items ∙ ap (λ l. l ++ c.in_ok-thread.thread ∷ []) c.new-threads.ensures.items)
    (c.in_ok-table.ensures.table
    ∙ ap (λ b. record {
      limit = c.args.limits.subthreads;
      barriers = b;
      seats = new_seat ∷ [];
      owners = replicate c.lock_count.result None;
      token = None;
      issued = 0;
    }) barriers
    ∙ ap (λ n. record {
      limit = c.args.limits.subthreads;
      barriers = map (λ b. b.1) (barriers_of c.args.program.now.program.heads);
      seats = new_seat ∷ [];
      owners = replicate n None;
      token = None;
      issued = 0;
    }) locks)
    c.in_ok-table.ensures.held c.in_ok-table.ensures.walks
    (c.in_ok-shared.ensures.cells ∙ ap (λ h. map (number_at c.args.inputs.now.records) (numbers 0 (cells_in (records_of h)))) heads)
    (c.in_ok-shared.ensures.feeds ∙ ap (λ h. zip (feeds_of h) c.args.inputs.now.feeds) heads)
