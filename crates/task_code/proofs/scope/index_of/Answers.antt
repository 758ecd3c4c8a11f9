use Rattle.std.proofs.Common.{ap, ◌∙◌, map, position}
use Rattle.task_ast.specs.meaning.Names.{is_name, barriers_of, feeds_of, registers_of, is_task}
use Rattle.task_ast.specs.View.{plain_task}
use Rattle.task_code.specs.inner.Tables.{targets}
use Rattle.task_code.proofs.TableLemmas.{position_firsts, position_names}
use Rattle.task_code.proofs.scope.index_of.Goals as goal

pub returns : goal.returns
returns c =
    let heads = c.as_slice-heads.ensures in
    let tasks = c.as_slice-tasks.ensures in
    record {
      barriers = λ x.
          c.in_ok-barriers.ensures x ∙ ap (λ l. position (is_name x) (targets l)) c.deref.ensures.value
          ∙ ap (position (is_name x)) c.in_ok-barrier_names.ensures
          ∙ position_firsts x (barriers_of c.as_slice-heads.result.now)
          ∙ ap (λ h. position (λ other. is_name x other.0) (barriers_of h)) heads;
      feeds = λ x.
          c.in_ok-feeds.ensures x ∙ ap (λ l. position (is_name x) (targets l)) c.deref-2.ensures.value
          ∙ ap (position (is_name x)) c.in_ok-feed_names.ensures
          ∙ ap (λ h. position (is_name x) (feeds_of h)) heads;
      tasks = λ x.
          c.in_ok-tasks_at.ensures x ∙ ap (λ l. position (is_name x) (targets l)) c.deref-3.ensures.value
          ∙ ap (position (is_name x)) c.in_ok-task_names.ensures
          ∙ position_names x (map plain_task c.as_slice-tasks.result.now) ∙ ap (λ t. position (is_task x) (map plain_task t)) tasks;
      registers = c.in_ok-registers.ensures ∙ ap (λ t. map registers_of (map plain_task t)) tasks;
    }
