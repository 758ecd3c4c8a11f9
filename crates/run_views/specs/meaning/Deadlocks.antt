-- What the order ends with where no thread can go on: who waits for what, and the barriers at which threads stand.
use Rattle.std.specs.Prelude.{ℕ, suc, cond, nat_eq, List, [], ◌∷◌, ◌++◌, Option, length, flat_map, codes, decimal}
use Rattle.gp_base.specs.declared.ending.End.{End}
use Rattle.gp_base.specs.declared.ending.End.TheVariants.{Stuck}
use Rattle.gp_base.specs.declared.ending.Why.TheVariants as why
use Rattle.task_ast.specs.declared.sync.Next.{Next}
use Rattle.task_ast.specs.declared.tree.Head.{Head}
use Rattle.task_ast.specs.meaning.Tree.{Name}
use Rattle.task_ast.specs.meaning.Names.{barriers_of}
use Rattle.task_ast.specs.meaning.Table.{meets}
use Rattle.task_ast.specs.meaning.Run.{Run}
use Rattle.run_views.specs.meaning.Waits.{nexts_in, waits_text}

-- those of threads that stand at a barrier, where the first of them has this number
abbrev pub threads_at : (barrier thread : ℕ) → List (Option Next) → List ℕ
threads_at b t [] = []
threads_at b t (next ∷ nexts) = cond (meets b next) (t ∷ []) [] ++ threads_at b (suc t) nexts

-- the verb for so many threads
abbrev pub are_text : (count : ℕ) → List ℕ
are_text count = cond (nat_eq count 1) (codes "is") (codes "are")

-- how many of the threads that a barrier waits for have come
unfoldable pub gathered_text : (name : Name) → (wanted count : ℕ) → List ℕ
gathered_text name wanted count =
    codes "barrier " ++ name ++ codes ": " ++ decimal count ++ codes " of " ++ decimal wanted ++ codes " threads " ++ are_text count

-- the line of a barrier where these have come; there is none where no thread has
abbrev pub barrier_line : (name : Name) → (wanted : ℕ) → (threads : List ℕ) → List ℕ
barrier_line name wanted threads =
    cond (nat_eq (length threads) 0) []
    (gathered_text name wanted (length threads) ++ codes " there:" ++ flat_map (λ t. codes " " ++ decimal t) threads ++ codes "\n")

-- those of barriers, the first of which has this number
abbrev pub barrier_lines : List (Name × ℕ) → (barrier : ℕ) → List (Option Next) → List ℕ
barrier_lines [] b nexts = []
barrier_lines (barrier ∷ barriers) b nexts =
    barrier_line barrier.0 barrier.1 (threads_at b 0 nexts) ++ barrier_lines barriers (suc b) nexts

-- both
abbrev pub standing_text : List Head → (owners : List (Option ℕ)) → (nexts : List (Option Next)) → List ℕ
standing_text heads owners nexts = waits_text heads owners 0 nexts ++ barrier_lines (barriers_of heads) 0 nexts

-- what is told after the line of the end, of the threads as they stand then
abbrev pub deadlock_text : List Head → Run → End → List ℕ
deadlock_text heads x (Stuck why.Deadlock thread line) = standing_text heads x.owners (nexts_in x)
deadlock_text heads x ending = []
