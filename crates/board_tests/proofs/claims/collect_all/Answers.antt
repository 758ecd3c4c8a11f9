use Rattle.std.proofs.Common.{rules, ◌≡◌, ℕ, ◌+◌, ◌<◌, All, List, ◌∷◌, ◌++◌, [], length, slice_get, sym, ap, ◌∙◌, subst}
use Rattle.gp_steal.specs.Held.{about}
use Rattle.desk_board.specs.Told.{IsRunAt}
use Rattle.gp_steal.specs.Told.{IsWhole}
use Rattle.desk_board.proofs.Collecting.{taken_more, runs_more}
use Rattle.board_tests.proofs.claims.collect_all.Goals as goal

pub loop-desk-preserved : goal.loop-desk-preserved
loop-desk-preserved g c = let was = c.loop-desk.invariant in let desk : ℕ = c.loop-desk.desk in let looked = c.look.ensures.book in record {
  of = c.collect.ensures.of;
  whole = subst (IsWhole (length (about c.args.board.now).jobs)) (sym (c.collect.ensures.hand ∙ c.look.ensures.hand)) was.whole;
  taken =
      subst (λ (l : List ℕ). All (λ d. d < desk + 1) l)
      (sym (ap (λ b. b.taken) c.collect.ensures.book ∙ ap (λ b. b.taken ++ desk ∷ []) looked.3)) (taken_more desk _ was.taken);
  count = search rules;
  room = search rules;
  runs = λ k run e. runs_more (IsRunAt g.J.Job.is_run (about c.args.board.now)) c.loop-desk.runs.items c.collect.result was.runs
      (let at : desk ≡ length c.loop-desk.runs.items = search rules in
      subst (λ (i : ℕ). IsRunAt g.J.Job.is_run (about c.args.board.now) i c.collect.result) at c.collect.ensures.run) k run
      (sym (ap (λ l. slice_get l k) c.push_reserved.ensures.items) ∙ e);
}
