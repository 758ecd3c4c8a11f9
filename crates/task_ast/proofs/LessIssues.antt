-- The next issue of a table that knows less.
use Rattle.std.proofs.Common.{◌≡◌, ℕ, zero, suc, ◌+◌, ◌<◌, Bool, not, List, [], ◌∷◌, refl, sym, ap, ◌∙◌, subst, count_by}
use Rattle.gp_base.specs.declared.ending.End.TheVariants.{Finished}
use Rattle.task_ast.specs.meaning.Repeat.{Again, go_on, repeated, until_done}
use Rattle.task_ast.specs.Table.{Seat, Table}
use Rattle.task_ast.specs.meaning.Turn.{is_away}
use Rattle.task_ast.specs.Turn.{Turn, Ended, turn, turns_left}
use Rattle.task_ast.specs.Reached.{Reached, by_pass}
use Rattle.task_ast.specs.laws.Threads.{SameThreads}
use Rattle.task_ast.specs.laws.Less.{SeatLess, SeatsLess, KnowsLess, Alike, IssuesAlike, NextLaw, passes, issues, needs, ends}
use Rattle.task_ast.proofs.Counting.{one, count-cons}
use Rattle.task_ast.proofs.LessSeats.{length_less}
use Rattle.task_ast.proofs.LessTurns.{turn_alike}
use Rattle.task_ast.proofs.TurnLaws.{pass_law}

-- a test that sees neither the next synchronisation nor the last subthread counts as many
count_alike : (p : Seat → Bool) → ((l m : Seat) → SeatLess l m → p l ≡ p m) → (less more : List Seat) → SeatsLess less more
    → count_by p less ≡ count_by p more
count_alike p same [] [] h = refl
count_alike p same [] (m ∷ more) h = absurd h
count_alike p same (l ∷ less) [] h = absurd h
count_alike p same (l ∷ less) (m ∷ more) h =
    count-cons p l less ∙ (ap (λ b. one b + count_by p less) (same l m h.0)
    ∙ (ap (λ n. one (p m) + n) (count_alike p same less more h.1) ∙ sym (count-cons p m more)))

left_alike : (less more : Table) → KnowsLess less more → turns_left less ≡ turns_left more
left_alike less more h =
    rw (
      length_less less.seats more.seats h.seats,
      count_alike (λ s. is_away s.stand) (λ l m s. ap is_away s.stand) less.seats more.seats h.seats,
      count_alike (λ s. not s.passed) (λ l m s. ap not s.passed) less.seats more.seats h.seats,
    ) refl

-- what an earlier table with the same threads doesn't know
earlier_alike : {table there : Table} {here over : Turn} → SameThreads table there → IssuesAlike there here over
    → IssuesAlike table here over
earlier_alike same (issues k) = issues k
earlier_alike same (needs {t = t} l none) = needs (subst (λ n. t < n) same.threads l) (sym (same.next t) ∙ none)
earlier_alike same ends = ends

repeated_alike : (n : ℕ) (less more : Table) → Reached less → KnowsLess less more
    → IssuesAlike less (repeated turn turns_left (Ended Finished) n less) (repeated turn turns_left (Ended Finished) n more)
unfolding repeated
repeated_alike zero less more reached h = ends
repeated_alike (suc n) less more reached h = go (turn less) (turn more) refl (turn_alike less more reached h) (repeated_alike n)
  where
    go : (r s : Again Table Turn) → turn less ≡ r → Alike less r s
        → ((here over : Table) → Reached here → KnowsLess here over
        → IssuesAlike here (repeated turn turns_left (Ended Finished) n here) (repeated turn turns_left (Ended Finished) n over))
        → IssuesAlike less (go_on turn turns_left (Ended Finished) (repeated turn turns_left (Ended Finished) n) r)
        (go_on turn turns_left (Ended Finished) (repeated turn turns_left (Ended Finished) n) s)
    go r s e (passes {less = here} {more = over} k) again = earlier_alike (pass_law less here e) (again here over (by_pass reached e) k)
    go r s e (issues k) again = issues k
    go r s e (needs l none) again = needs l none
    go r s e ends again = ends

pub next_alike : NextLaw
unfolding until_done
next_alike less more reached h =
    subst (λ n. IssuesAlike less (repeated turn turns_left (Ended Finished) (suc (turns_left less)) less)
    (repeated turn turns_left (Ended Finished) (suc n) more)) (left_alike less more h)
    (repeated_alike (suc (turns_left less)) less more reached h)
