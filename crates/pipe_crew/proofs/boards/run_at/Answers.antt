use Rattle.std.proofs.Common.{ℕ, ◌+◌, ◌<◌, All, List, [], ◌∷◌, ◌++◌, sym, ap, ◌∙◌, subst}
use Rattle.desk_board.specs.Told.{IsWhole}
use Rattle.desk_board.proofs.Collecting.{taken_more, not_taken}
use Rattle.pipe_crew.proofs.boards.run_at.Goals as goal

pub collect-requires-clause-first : goal.collect-requires-clause-first
collect-requires-clause-first c κs =
    let desk : ℕ = c.args.desk in
    not_taken desk _ (subst (λ (l : List ℕ). All (λ d. d < desk) l) (sym (ap (λ b. b.taken) c.look.ensures.book.3)) c.requires.first)

pub returns-clause-taken : goal.returns-clause-taken
returns-clause-taken c =
    let desk : ℕ = c.args.desk in
    subst (λ (l : List ℕ). All (λ d. d < desk + 1) l)
    (sym (ap (λ b. b.taken) c.collect.ensures.book ∙ ap (λ b. b.taken ++ desk ∷ []) c.look.ensures.book.3))
    (taken_more desk _ c.requires.first)

pub returns-clause-whole : goal.returns-clause-whole
returns-clause-whole c = subst IsWhole (sym (c.collect.ensures.hand ∙ c.look.ensures.hand)) c.requires.whole
