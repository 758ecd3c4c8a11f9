-- Where a body stops, what its actions name, and what a synchronisation leaves of the holdings. A thread stops before
-- the statement in front of it, or at an index fault, by cases on that statement (Stops). The action at a point names
-- cells under the locks of the pairs that are held. Of the synchronisations only a lock and an unlock change owners;
-- what they change is what the holdings past the statement say.
use Rattle.std.proofs.Common.{◌≡◌, inl, inr, ℕ, zero, suc, ◌<◌, false, true, List, [], ◌∷◌, length, Contains, Option, Some, None, unwrap_or, refl, sym, ap, ◌∙◌, subst, arith, option_map, option_and_then, true≢false, map}
use Rattle.std.specs.Prelude.{⊤, ℤ, pos, negsuc, slice_get, position, Bool, cond}
use Rattle.std.proofs.lemmas.Bool.{lt-ltb, cases_eq}
use Rattle.std.proofs.lemmas.Option.{slice_get_within}
use Rattle.std.proofs.lemmas.List.Folds.{find_at}
use Rattle.std.specs.List.{position_or_len}
use Rattle.task_ast.specs.Table.{owner_in, Table}
use Rattle.task_ast.specs.declared.env.Env.{Env}
use Rattle.task_ast.specs.declared.sync.SyncOp.{SyncOp}
use Rattle.task_ast.specs.declared.sync.SyncOp.TheVariants as sync
use Rattle.task_ast.specs.declared.sync.Next.{Next}
use Rattle.task_ast.specs.declared.tree.Atom.{Atom}
use Rattle.task_ast.specs.declared.tree.Param.{Param}
use Rattle.task_ast.specs.declared.tree.Param.TheVariants as param
use Rattle.task_ast.specs.meaning.Tree.{Name, Expr, Stmt, At, What, SetCtl, While, If, Lock, Unlock, Fork, Join, Barrier, Settle, SetReg, Read, Write, Print, When, TaskText, Program}
use Rattle.task_ast.specs.meaning.Names.{is_name, slot, locks_of, barriers_of, cells_in, cell_number, registers_of, is_task, task_named, task_number}
use Rattle.task_ast.specs.meaning.Value.{value, branch}
use Rattle.task_ast.specs.meaning.Action.{Action, Child, Give, of_registers, OfRegisters}
use Rattle.task_ast.specs.meaning.Body.{Step, Act, Stop, spent}
use Rattle.task_ast.specs.meaning.Control.{Setting, Point, step_at, step_from, known, action, env_at, index_of, lock_number, fork_named, control_arguments, data_arguments, first_actions, begin_actions, going, fork_arguments}
use Rattle.task_ast.specs.meaning.Held.{same_pair}
use Rattle.task_ast.specs.laws.Keeps.{NamesOnly, AllName}
use Rattle.task_ast.specs.Layout.{IsLaidOut}
use Rattle.task_ast.specs.meaning.Turn.{owners_after}
use Rattle.lock_checker.specs.WalkLaw.{Holding, pairs_held, held_past, NextTouchesHeld, StillNamed}
use Rattle.task_ast.specs.laws.Threads.{MayBegin}
use Rattle.lock_checker.proofs.LockOwners.{Owners, has_old, has_new, has_left, each_then, each_push, each_left, both, apart_push, apart_left, set_here, set_other}
use Rattle.lock_checker.specs.Soundness.{Each, Apart, HasCell, IsOwned}
use Rattle.lock_checker.proofs.LockCells.{test, named_cells, action_names, holding_of, number_below}

abbrev next_in : Step Point → Next
next_in (Stop next) = next
next_in _ = spent

-- neither of a lock, nor a fork, nor an end
abbrev pub IsOther : SyncOp → Type 0
IsOther (sync.Lock l) = ⊥
IsOther (sync.Unlock l) = ⊥
IsOther (sync.Fork task arguments) = ⊥
IsOther sync.End = ⊥
IsOther _ = ⊤

other_owners : (op : SyncOp) (t : ℕ) (owners : Owners) → IsOther op → owners_after op t owners ≡ owners
other_owners (sync.Lock l) t owners other = absurd other
other_owners (sync.Unlock l) t owners other = absurd other
other_owners (sync.Fork task arguments) t owners other = refl
other_owners (sync.Join h) t owners other = refl
other_owners (sync.Barrier b) t owners other = refl
other_owners (sync.Settle register control) t owners other = refl
other_owners sync.Start t owners other = refl
other_owners sync.End t owners other = absurd other
other_owners sync.BadIndex t owners other = refl
other_owners sync.Spent t owners other = refl

module _ (s : Setting) where
  -- the synchronisation before which a thread with these statements left stops
  pub data Stops (env : Env) : List Stmt → SyncOp → Type 0 where
    locking : {line l : ℕ} {a : Name} {i : Atom} {rest : List Stmt} → lock_number s a i env ≡ Some l
        → Stops env (At line (Lock a i) ∷ rest) (sync.Lock l)
    unlocking : {line l : ℕ} {a : Name} {i : Atom} {rest : List Stmt} → lock_number s a i env ≡ Some l
        → Stops env (At line (Unlock a i) ∷ rest) (sync.Unlock l)
    forking : {line : ℕ} {t : Name} {es : List Expr} {x : Option Name} {rest : List Stmt} {arguments : List ℤ} (task : TaskText)
        → task_named s.program t ≡ Some task
        → Stops env (At line (Fork t es x) ∷ rest) (sync.Fork (unwrap_or (task_number s.program t) 0) arguments)
    ending : Stops env [] sync.End
    otherwise : {left : List Stmt} {op : SyncOp} → IsOther op → ((held : List Holding) → held_past op left env held ≡ held)
        → Stops env left op
    failing : {left : List Stmt} → Stops env left sync.BadIndex

  module _ (env : Env) (left : List Stmt) (next : Next) where
    -- stops only where it does once the value is known
    known_stops : {A : Type 0} (line : ℕ) (o : Option A) (go : A → Step Point)
        → ((v : A) → o ≡ Some v → go v ≡ Stop next → Stops env left next.sync) → known line o go ≡ Stop next → Stops env left next.sync
    known_stops line None go there e = subst (Stops env left) (ap (λ st. (next_in st).sync) e) failing
    known_stops line (Some v) go there e = there v refl e

    stops_so : (op : SyncOp) (line : ℕ) → Stops env left op → ◌≡◌ {A = Step Point} (Stop (record { sync = op; line = line })) (Stop next)
        → Stops env left next.sync
    stops_so op line there e = subst (Stops env left) (ap (λ st. (next_in st).sync) e) there

    never : {A : Type 0} {q : Point} {a : Action} → Act a q ≡ Stop next → A
    never e = absurd (cc e)

  branch_stops : {A : Type 0} (v : ℤ) (a b : Step Point) (next : Next) → (a ≡ Stop next → A) → (b ≡ Stop next → A)
      → branch v a b ≡ Stop next → A
  branch_stops (pos zero) a b next first second e = second e
  branch_stops (pos (suc n)) a b next first second e = first e
  branch_stops (negsuc n) a b next first second e = first e

  named_task : (t : Name) (es : List Expr) (p : Point) (arguments : List ℤ × List Action) → fork_named s t es p ≡ Some arguments
      → (task : TaskText) × (task_named s.program t ≡ Some task)
  named_task t es p arguments e = go (task_named s.program t) refl e
    where
      go : (o : Option TaskText) → task_named s.program t ≡ o → option_and_then (λ task. fork_arguments s task es p) o ≡ Some arguments
          → (task : TaskText) × (task_named s.program t ≡ Some task)
      go None is e = absurd (cc e)
      go (Some task) is e = (task, is)

  stops_at : (line : ℕ) (w : What) (rest : List Stmt) (p : Point) (next : Next) → step_at s line w rest p ≡ Stop next
      → Stops (env_at s p) (At line w ∷ rest) next.sync
  stops_at line (SetCtl x e) rest p next is =
      known_stops (env_at s p) _ next line (value e (env_at s p)) _ (λ v known is. absurd (cc is)) is
  stops_at line (While e b) rest p next is =
      known_stops (env_at s p) _ next line (value e (env_at s p)) _
      (λ v known is. branch_stops v _ _ next (λ is. absurd (cc is)) (λ is. absurd (cc is)) is) is
  stops_at line (If e a b) rest p next is =
      known_stops (env_at s p) _ next line (value e (env_at s p)) _
      (λ v known is. branch_stops v _ _ next (λ is. absurd (cc is)) (λ is. absurd (cc is)) is) is
  stops_at line (Lock a i) rest p next is =
      known_stops (env_at s p) _ next line (lock_number s a i (env_at s p)) _
      (λ l known is. stops_so (env_at s p) _ next (sync.Lock l) line (locking known) is) is
  stops_at line (Unlock a i) rest p next is =
      known_stops (env_at s p) _ next line (lock_number s a i (env_at s p)) _
      (λ l known is. stops_so (env_at s p) _ next (sync.Unlock l) line (unlocking known) is) is
  stops_at line (Fork t es x) rest p next is =
      known_stops (env_at s p) _ next line (fork_named s t es p) _ (λ arguments known is. let task = named_task t es p arguments known in
      stops_so (env_at s p) _ next (sync.Fork (unwrap_or (task_number s.program t) 0) arguments.0) line (forking task.0 task.1) is) is
  stops_at line (Join e x) rest p next is =
      known_stops (env_at s p) _ next line (value e (env_at s p)) _
      (λ h known is. stops_so (env_at s p) _ next (sync.Join h) line (otherwise tt (λ held. refl)) is) is
  stops_at line (Barrier b) rest p next is =
      known_stops (env_at s p) _ next line (position (λ other. is_name b other.0) (barriers_of s.program.heads)) _
      (λ n known is. stops_so (env_at s p) _ next (sync.Barrier n) line (otherwise tt (λ held. refl)) is) is
  stops_at line (Settle x c) rest p next is =
      stops_so (env_at s p) _ next (sync.Settle (slot (registers_of p.task) x) (slot (map (λ n. n.0) p.names) c)) line
      (otherwise tt (λ held. refl)) is
  stops_at line (SetReg x e) rest p next is =
      known_stops (env_at s p) _ next line (action s (registers_of p.task) (SetReg x e) (env_at s p)) _
      (λ a known is. never (env_at s p) [] next is) is
  stops_at line (Read r i x) rest p next is =
      known_stops (env_at s p) _ next line (action s (registers_of p.task) (Read r i x) (env_at s p)) _
      (λ a known is. never (env_at s p) [] next is) is
  stops_at line (Write r i e) rest p next is =
      known_stops (env_at s p) _ next line (action s (registers_of p.task) (Write r i e) (env_at s p)) _
      (λ a known is. never (env_at s p) [] next is) is
  stops_at line (Print es) rest p next is =
      known_stops (env_at s p) _ next line (action s (registers_of p.task) (Print es) (env_at s p)) _
      (λ a known is. never (env_at s p) [] next is) is
  stops_at line (When e a b) rest p next is =
      known_stops (env_at s p) _ next line (action s (registers_of p.task) (When e a b) (env_at s p)) _
      (λ a known is. never (env_at s p) [] next is) is

  pub stops_from : (left : List Stmt) (p : Point) (next : Next) → step_from s left p ≡ Stop next → Stops (env_at s p) left next.sync
  stops_from [] p next is = stops_so (env_at s p) [] next sync.End 0 ending is
  stops_from (At line w ∷ rest) p next is = stops_at line w rest p next is

  -- a thread stops at its end where no statements are left
  pub end_left : {env : Env} {left : List Stmt} {op : SyncOp} → Stops env left op → op ≡ sync.End → left ≡ []
  end_left (locking is) e = absurd (cc e)
  end_left (unlocking is) e = absurd (cc e)
  end_left (forking task is) e = absurd (cc e)
  end_left ending e = refl
  end_left (otherwise other keeps) e = absurd (subst IsOther e other)
  end_left failing e = absurd (cc e)

  -- ---- actions

  acts_known : (line : ℕ) (o : Option Action) (a : Action) (q r : Point) → known line o (λ a. Act a r) ≡ Act a q → o ≡ Some a
  acts_known line None a q r e = absurd (cc e)
  acts_known line (Some b) a q r e = ap Some (ap (act_in b) e)
    where
      act_in : Action → Step Point → Action
      act_in other (Act a q) = a
      act_in other _ = other

  never_acts : {A B : Type 0} (line : ℕ) (o : Option A) (go : A → Step Point) (a : Action) (q : Point) → ((v : A) → go v ≡ Act a q → B)
      → known line o go ≡ Act a q → B
  never_acts line None go a q there e = absurd (cc e)
  never_acts line (Some v) go a q there e = there v e

  branch_acts : {A : Type 0} (v : ℤ) (x y : Step Point) (a : Action) (q : Point) → (x ≡ Act a q → A) → (y ≡ Act a q → A)
      → branch v x y ≡ Act a q → A
  branch_acts (pos zero) x y a q first second e = second e
  branch_acts (pos (suc n)) x y a q first second e = first e
  branch_acts (negsuc n) x y a q first second e = first e

  acts_at : (line : ℕ) (w : What) (rest : List Stmt) (p q : Point) (a : Action) → step_at s line w rest p ≡ Act a q
      → action s (registers_of p.task) w (env_at s p) ≡ Some a
  acts_at line (SetCtl x e) rest p q a is = never_acts line (value e (env_at s p)) _ a q (λ v is. absurd (cc is)) is
  acts_at line (While e b) rest p q a is =
      never_acts line (value e (env_at s p)) _ a q (λ v is. branch_acts v _ _ a q (λ is. absurd (cc is)) (λ is. absurd (cc is)) is) is
  acts_at line (If e b c) rest p q a is =
      never_acts line (value e (env_at s p)) _ a q (λ v is. branch_acts v _ _ a q (λ is. absurd (cc is)) (λ is. absurd (cc is)) is) is
  acts_at line (Lock x i) rest p q a is = never_acts line (lock_number s x i (env_at s p)) _ a q (λ v is. absurd (cc is)) is
  acts_at line (Unlock x i) rest p q a is = never_acts line (lock_number s x i (env_at s p)) _ a q (λ v is. absurd (cc is)) is
  acts_at line (Fork t es x) rest p q a is = never_acts line (fork_named s t es p) _ a q (λ v is. absurd (cc is)) is
  acts_at line (Join e x) rest p q a is = never_acts line (value e (env_at s p)) _ a q (λ v is. absurd (cc is)) is
  acts_at line (Barrier b) rest p q a is =
      never_acts line (position (λ other. is_name b other.0) (barriers_of s.program.heads)) _ a q (λ v is. absurd (cc is)) is
  acts_at line (Settle x c) rest p q a is = absurd (cc is)
  acts_at line (SetReg x e) rest p q a is = acts_known line _ a q (going p rest) is
  acts_at line (Read r i x) rest p q a is = acts_known line _ a q (going p rest) is
  acts_at line (Write r i e) rest p q a is = acts_known line _ a q (going p rest) is
  acts_at line (Print es) rest p q a is = acts_known line _ a q (going p rest) is
  acts_at line (When e x y) rest p q a is = acts_known line _ a q (going p rest) is

  -- the action at a point names cells under the locks
  pub acts_from : (laid : IsLaidOut s.program.heads) (locks : List ℕ) (left : List Stmt) (p q : Point) (a : Action) (held : List Holding)
      → step_from s left p ≡ Act a q
      → NextTouchesHeld s.program.heads left (pairs_held held) → StillNamed s.program.heads (env_at s p) held
      → Each (λ h. Contains locks h.cell) held → NamesOnly (test s.program.heads laid locks) a
  acts_from laid locks [] p q a held is touches names owned = absurd (cc is)
  acts_from laid locks (At line w ∷ rest) p q a held is touches names owned =
      action_names s.program.heads laid locks s refl (registers_of p.task) (env_at s p) held names owned w a
      (acts_at line w rest p q a is) touches

  -- a synchronisation's own actions name no cell
  given_names : (test : ℕ → Bool) (given registers : List Name) (params : List Param) (es : List Expr) (env : Env) (actions : List Action)
      → data_arguments s given registers params es env ≡ Some actions → AllName test actions
  given_names test given registers (param.Ctl x ∷ params) (e ∷ es) env actions is =
      given_names test given registers params es env actions is
  given_names test given registers (param.Reg x ∷ params) (e ∷ es) env actions is =
      go (of_registers registers e env) (data_arguments s given registers params es env)
      (λ rest is. given_names test given registers params es env rest is) is
    where
      go : (t : Option OfRegisters) (o : Option (List Action)) → ((rest : List Action) → o ≡ Some rest → AllName test rest)
          → option_and_then (λ t. option_map (λ rest. Give (slot given x) t ∷ rest) o) t ≡ Some actions → AllName test actions
      go None o rest is = absurd (cc is)
      go (Some t) None rest is = absurd (cc is)
      go (Some t) (Some others) rest is = subst (AllName test) (ap (λ o. unwrap_or o []) is) (tt, rest others refl)
  given_names test given registers [] es env actions is = subst (AllName test) (ap (λ o. unwrap_or o []) is) tt
  given_names test given registers (param.Ctl x ∷ params) [] env actions is = subst (AllName test) (ap (λ o. unwrap_or o []) is) tt
  given_names test given registers (param.Reg x ∷ params) [] env actions is = subst (AllName test) (ap (λ o. unwrap_or o []) is) tt

  fork_names : (test : ℕ → Bool) (t : Name) (es : List Expr) (p : Point)
      → AllName test (unwrap_or (option_map (λ (arguments : List ℤ × List Action). arguments.1) (fork_named s t es p)) [])
  fork_names test t es p = named (task_named s.program t)
    where
      both_of : (task : TaskText) (values : Option (List ℤ)) (o : Option (List Action))
          → ((actions : List Action) → o ≡ Some actions → AllName test actions)
          → AllName test (unwrap_or (option_map (λ (arguments : List ℤ × List Action). arguments.1)
          (option_and_then (λ values. option_map (λ actions. (values, Child (length (registers_of task)) ∷ actions)) o) values)) [])
      both_of task None o names = tt
      both_of task (Some values) None names = tt
      both_of task (Some values) (Some actions) names = (tt, names actions refl)

      named : (o : Option TaskText)
          → AllName test (unwrap_or (option_map (λ (arguments : List ℤ × List Action). arguments.1)
          (option_and_then (λ task. fork_arguments s task es p) o)) [])
      named None = tt
      named (Some task) =
          both_of task (control_arguments task.params es (env_at s p))
          (data_arguments s (registers_of task) (registers_of p.task) task.params es (env_at s p))
          (λ actions is. given_names test (registers_of task) (registers_of p.task) task.params es (env_at s p) actions is)

  begin_names : (test : ℕ → Bool) (left : List Stmt) (p : Point) → AllName test (begin_actions s left p)
  begin_names test [] p = tt
  begin_names test (At line (Fork t es x) ∷ rest) p = fork_names test t es p
  begin_names test (At line (Join e (Some x)) ∷ rest) p = (tt, tt)
  begin_names test (At line (Join e None) ∷ rest) p = tt
  begin_names test (At line (SetCtl x e) ∷ rest) p = tt
  begin_names test (At line (While e b) ∷ rest) p = tt
  begin_names test (At line (If e b c) ∷ rest) p = tt
  begin_names test (At line (Lock x i) ∷ rest) p = tt
  begin_names test (At line (Unlock x i) ∷ rest) p = tt
  begin_names test (At line (Barrier b) ∷ rest) p = tt
  begin_names test (At line (Settle x c) ∷ rest) p = tt
  begin_names test (At line (SetReg x e) ∷ rest) p = tt
  begin_names test (At line (Read r i x) ∷ rest) p = tt
  begin_names test (At line (Write r i e) ∷ rest) p = tt
  begin_names test (At line (Print es) ∷ rest) p = tt
  begin_names test (At line (When e x y) ∷ rest) p = tt

  pub first_names : (test : ℕ → Bool) (op : SyncOp) (p : Point) → AllName test (first_actions s op p)
  first_names test sync.Start p = tt
  first_names test (sync.Lock l) p = begin_names test p.left p
  first_names test (sync.Unlock l) p = begin_names test p.left p
  first_names test (sync.Fork task arguments) p = begin_names test p.left p
  first_names test (sync.Join h) p = begin_names test p.left p
  first_names test (sync.Barrier b) p = begin_names test p.left p
  first_names test (sync.Settle register control) p = begin_names test p.left p
  first_names test sync.End p = begin_names test p.left p
  first_names test sync.BadIndex p = begin_names test p.left p
  first_names test sync.Spent p = begin_names test p.left p

  -- ---- holdings after a synchronisation of t

  module _ (table : Table) (t : ℕ) (full : length table.owners ≡ cells_in (locks_of s.program.heads)) (env : Env) where
    abbrev owners : Owners
    owners = table.owners

    pub record After (left : List Stmt) (op : SyncOp) (held : List Holding) : Type 0 where
      pub mine : Each (IsOwned (owners_after op t owners) t) (held_past op left env held)
      pub apart : Apart (held_past op left env held)
      pub all : (l : ℕ) → owner_in (owners_after op t owners) l ≡ Some t → HasCell (held_past op left env held) l
      pub others : (u l : ℕ) → (u ≡ t → ⊥) → owner_in owners l ≡ Some u → owner_in (owners_after op t owners) l ≡ Some u
      pub back : (u l : ℕ) → (u ≡ t → ⊥) → owner_in (owners_after op t owners) l ≡ Some u → owner_in owners l ≡ Some u

    module _ (held : List Holding) (names : StillNamed s.program.heads env held) (mine : Each (IsOwned owners t) held)
        (had : (l : ℕ) → owner_in owners l ≡ Some t → HasCell held l) (apart : Apart held) where
      some_same : {a b : ℕ} → Some a ≡ Some b → a ≡ b
      some_same {a = a} e = ap (λ o. unwrap_or o a) e

      some_none : {a : ℕ} → None ≡ Some a → ⊥
      some_none e = cc e

      pub after_stop : (left : List Stmt) (op : SyncOp) → Stops env left op → MayBegin table op
          → NextTouchesHeld s.program.heads left (pairs_held held) → After left op held
      after_stop left op (locking {l = l} {a = a} {i = i} is) free touches =
          record {
            mine =
                each_push (IsOwned (owners_after op t owners) t) held _
                (each_then (IsOwned owners t) (IsOwned (owners_after op t owners) t) kept held mine)
                (set_here owners l (Some t) inside);
            all = λ m e. elim (cases_eq m l) [
              | inl same ↦
                  subst (HasCell (held_past op left env held)) (sym same)
                  (has_new held (record { pair = (a, i); value = index_of i env; cell = l }))
              | inr ne ↦
                  has_old held (record { pair = (a, i); value = index_of i env; cell = l }) m
                  (had m (sym (set_other owners l m (Some t) ne) ∙ e))
            ];
            back = λ u m ne e. elim (cases_eq m l) [
              | inl same ↦
                  absurd (ne (some_same (sym e ∙ (ap (owner_in (owners_after op t owners)) same ∙ set_here owners l (Some t) inside))))
              | inr other ↦ sym (set_other owners l m (Some t) other) ∙ e
            ];
            apart = apart_push held _ apart (each_then (IsOwned owners t) (λ k. k.cell ≡ l → ⊥) taken held mine);
            others = λ u m ne e. set_other owners l m (Some t) (λ same. some_none (sym free ∙ (ap (owner_in owners) (sym same) ∙ e))) ∙ e;
          }
        where
          inside : l < length owners
          inside = let e = full in let k = number_below (locks_of s.program.heads) a (index_of i env) l is in omega arith

          taken : (k : Holding) → IsOwned owners t k → k.cell ≡ l → ⊥
          taken k own same = some_none (sym free ∙ (ap (owner_in owners) (sym same) ∙ own))

          kept : (k : Holding) → IsOwned owners t k → IsOwned (owners_after op t owners) t k
          kept k own = set_other owners l k.cell (Some t) (taken k own) ∙ own
      after_stop left op (unlocking {l = l} {a = a} {i = i} is) free touches =
          record {
            mine =
                each_left (λ k. IsOwned owners t k × (h.0.cell ≡ k.cell → h.0.pair ≡ k.pair)) (IsOwned (owners_after op t owners) t)
                (a, i) kept held (both (IsOwned owners t) _ held mine h.3.1);
            all = λ m e. elim (cases_eq m l) [
              | inl same ↦
                  absurd (some_none (sym (set_here owners l None inside) ∙ (ap (owner_in (owners_after op t owners)) (sym same) ∙ e)))
              | inr ne ↦
                  has_left held (a, i) l m (named_cells s.program.heads env a i l is held names) ne
                  (had m (sym (set_other owners l m None ne) ∙ e))
            ];
            back = λ u m ne e. elim (cases_eq m l) [
              | inl same ↦
                  absurd (some_none (sym (set_here owners l None inside) ∙ (ap (owner_in (owners_after op t owners)) (sym same) ∙ e)))
              | inr other ↦ sym (set_other owners l m None other) ∙ e
            ];
            apart = apart_left held (a, i) apart;
            others =
                λ u m ne e. set_other owners l m None (λ same. ne (some_same (sym e ∙ (ap (owner_in owners) (same ∙ l_is) ∙ h.3.0)))) ∙ e;
          }
        where
          inside : l < length owners
          inside = let e = full in let k = number_below (locks_of s.program.heads) a (index_of i env) l is in omega arith

          h : (h : Holding) × (same_pair (a, i) h.pair ≡ true) × (cell_number (locks_of s.program.heads) a (index_of i env) ≡ Some h.cell)
              × (IsOwned owners t h × Each (λ k. h.cell ≡ k.cell → h.pair ≡ k.pair) held)
          h =
              holding_of s.program.heads env (λ h. IsOwned owners t h × Each (λ k. h.cell ≡ k.cell → h.pair ≡ k.pair) held) a i held touches
              names (both (IsOwned owners t) _ held mine apart)

          l_is : l ≡ h.0.cell
          l_is = some_same (sym is ∙ h.2)

          kept : (k : Holding) → same_pair (a, i) k.pair ≡ false → IsOwned owners t k × (h.0.cell ≡ k.cell → h.0.pair ≡ k.pair)
              → IsOwned (owners_after op t owners) t k
          kept k other (own, same) =
              set_other owners l k.cell None (λ e. true≢false (sym h.1 ∙ (ap (same_pair (a, i)) (same (sym (e ∙ l_is))) ∙ other))) ∙ own
      after_stop left op (forking task is) free touches =
          record { mine = mine; all = had; apart = apart; others = λ u l ne e. e; back = λ u l ne e. e }
      after_stop left op ending free touches =
          record { mine = mine; all = had; apart = apart; others = λ u l ne e. e; back = λ u l ne e. e }
      after_stop left op (otherwise other keeps) free touches =
          record {
            mine =
                subst (λ os. Each (IsOwned os t) (held_past op left env held)) (sym (other_owners op t owners other))
                (subst (Each (IsOwned owners t)) (sym (keeps held)) mine);
            all =
                λ l e. subst (λ hs. HasCell hs l) (sym (keeps held))
                (had l (ap (λ os. owner_in os l) (sym (other_owners op t owners other)) ∙ e));
            apart = subst Apart (sym (keeps held)) apart;
            others = λ u l ne e. ap (λ os. owner_in os l) (other_owners op t owners other) ∙ e;
            back = λ u l ne e. ap (λ os. owner_in os l) (sym (other_owners op t owners other)) ∙ e;
          }
      after_stop left op failing free touches = absurd free

-- the task of a name has its number
pub task_there : (program : Program) (x : Name) (task : TaskText) → task_named program x ≡ Some task
    → slice_get program.tasks (unwrap_or (task_number program x) 0) ≡ Some task
task_there program x task e =
    ap (λ b. slice_get program.tasks (unwrap_or (cond b (Some (position_or_len (is_task x) program.tasks)) None) 0))
    (lt-ltb (position_or_len (is_task x) program.tasks) (length program.tasks) within) ∙ there
  where
    there : slice_get program.tasks (position_or_len (is_task x) program.tasks) ≡ Some task
    there = sym (find_at (is_task x) program.tasks) ∙ e

    within : position_or_len (is_task x) program.tasks < length program.tasks
    within = slice_get_within program.tasks (position_or_len (is_task x) program.tasks) task there
