-- Who waits for what where no thread can go on: a line for each thread that has not ended.
use Rattle.std.specs.Prelude.{ℕ, suc, ◌==◌, List, [], ◌∷◌, ◌++◌, Option, Some, None, map, codes, decimal, if◌then◌else◌, unwrap_or, slice_get}
use Rattle.std.specs.Fmt.{signed_decimal}
use Rattle.task_ast.specs.declared.sync.SyncOp.{SyncOp}
use Rattle.task_ast.specs.declared.sync.SyncOp.TheVariants as sync
use Rattle.task_ast.specs.declared.sync.Next.{Next}
use Rattle.task_ast.specs.declared.tree.Head.{Head}
use Rattle.task_ast.specs.meaning.Names.{locks_of, barriers_of}
use Rattle.task_ast.specs.meaning.Table.{is_end}
use Rattle.task_ast.specs.meaning.Run.{Thread, Run}
use Rattle.run_views.specs.meaning.Order.{cell_name, barrier_name}

-- what comes next in each thread of a run
abbrev pub nexts_in : Run → List (Option Next)
nexts_in x = map (λ (th : Thread). Some th.next) x.threads

abbrev pub other_text : (thread : ℕ) → List ℕ
other_text u = codes " of thread " ++ decimal u

-- who holds the lock that thread t waits for
abbrev pub holder_text : (t : ℕ) → Option ℕ → List ℕ
holder_text t None = []
holder_text t (Some u) = if t == u then codes ", which it holds itself" else other_text u

-- what thread t waits for; where no thread can go on, it is one of the first three
abbrev pub cause_text : List Head → (owners : List (Option ℕ)) → (t : ℕ) → SyncOp → List ℕ
cause_text heads owners t (sync.Lock l) = codes "lock " ++ cell_name (locks_of heads) l ++ holder_text t (unwrap_or (slice_get owners l) None)
cause_text heads owners t (sync.Join h) = codes "thread " ++ signed_decimal h ++ codes " to end"
cause_text heads owners t (sync.Barrier b) = codes "barrier " ++ barrier_name (barriers_of heads) b
cause_text heads owners t _ = codes "its turn"

-- the line of a thread, where it has not ended
abbrev pub wait_line : List Head → (owners : List (Option ℕ)) → (t : ℕ) → Next → List ℕ
wait_line heads owners t next =
    codes "thread " ++ decimal t ++ codes " line " ++ decimal next.line ++ codes " waits for "
    ++ cause_text heads owners t next.sync ++ codes "\n"

abbrev pub wait_text : List Head → (owners : List (Option ℕ)) → (t : ℕ) → Option Next → List ℕ
wait_text heads owners t None = []
wait_text heads owners t (Some next) = if is_end next.sync then [] else wait_line heads owners t next

-- the lines of these threads, the first of which has this number
abbrev pub waits_text : List Head → (owners : List (Option ℕ)) → (t : ℕ) → List (Option Next) → List ℕ
waits_text heads owners t [] = []
waits_text heads owners t (next ∷ nexts) = wait_text heads owners t next ++ waits_text heads owners (suc t) nexts
