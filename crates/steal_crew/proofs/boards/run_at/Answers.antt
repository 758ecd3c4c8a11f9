use Rattle.std.proofs.Common.{ℕ, ◌+◌, ◌<◌, All, List, [], ◌∷◌, ◌++◌, length, sym, ap, ◌∙◌, subst}
use Rattle.gp_steal.specs.Held.{about}
use Rattle.desk_board.proofs.Collecting.{taken_more, not_taken}
use Rattle.gp_steal.specs.Told.{EachOnce}
use Rattle.steal_crew.proofs.Claimed.{length_once}
use Rattle.steal_crew.proofs.boards.run_at.Goals as goal

pub collect-requires-clause-first : goal.collect-requires-clause-first
collect-requires-clause-first c κs =
    let desk : ℕ = c.args.desk in
    not_taken desk _ (subst (λ (l : List ℕ). All (λ d. d < desk) l) (sym (ap (λ b. b.taken) c.look.ensures.book.3)) c.requires.first)

pub returns-clause-taken : goal.returns-clause-taken
returns-clause-taken c =
    let desk : ℕ = c.args.desk in
    subst (λ (l : List ℕ). All (λ d. d < desk + 1) l)
    (sym (ap (λ b. b.taken) c.collect.ensures.book ∙ ap (λ b. b.taken ++ desk ∷ []) c.look.ensures.book.3))
    (taken_more desk _ c.requires.first)

pub returns-clause-same : goal.returns-clause-same
returns-clause-same c = c.collect.ensures.hand ∙ c.look.ensures.hand

pub returns-clause-once : goal.returns-clause-once
returns-clause-once c =
    let jobs = length (about c.args.board.now).jobs in
    length_once jobs _ (subst (λ h. EachOnce jobs h.claimed) (sym (c.collect.ensures.hand ∙ c.look.ensures.hand))
    (c.look.ensures.all_claimed c.requires.whole))
