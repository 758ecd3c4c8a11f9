-- Conflicts by the cells that subthreads name are conflicts by the locks that they hold.
use Rattle.std.proofs.Common.{◌≡◌, ◌⊎◌, inl, inr, ℕ, zero, suc, ◌<◌, true, List, [], ◌∷◌, ◌++◌, map, length, get_or, Option, Some, None, refl, sym, subst, ◌∙◌, arith, Contains, slice_get}
use Rattle.std.specs.Prelude.{pos, negsuc}
use Rattle.std.proofs.lemmas.List.Elements.{Contains-append_left, Contains-append_right}
use Rattle.gp_base.specs.declared.footprint.Loc.{Loc}
use Rattle.gp_base.specs.declared.footprint.Loc.TheVariants as loc
use Rattle.gp_base.specs.declared.footprint.Footprint.{Footprint}
use Rattle.task_ast.specs.declared.sync.SyncOp.{SyncOp}
use Rattle.task_ast.specs.declared.sync.SyncOp.TheVariants as sync
use Rattle.task_ast.specs.meaning.Footprint.{named_by, joined_registers, child_registers}
use Rattle.task_ast.specs.laws.Keeps.{AllName}
use Rattle.task_ast.specs.meaning.Plain.{Subthread, foot_of}
use Rattle.task_ast.specs.Plain.{lock_foot_of}
use Rattle.task_ast.specs.meaning.Under.{under_lock, is_under}
use Rattle.dependence.specs.meaning.Conflict.{idle_foot, foot_at}
use Rattle.dependence.specs.Conflict.{Shared, Conflict}
use Rattle.dependence.specs.meaning.Runs.{feet_of}
use Rattle.dependence.specs.Runs.{lock_feet_of}
use Rattle.dependence.specs.Touching.{IsApart, LocksClashLaw}
use Rattle.dependence.proofs.Struck.{Contains-head, Contains-later}
use Rattle.dependence.proofs.Naming.{named-passes, from-map}
use Rattle.dependence.proofs.Keeping.{under-held, Contains-map}

split-first : (x : Loc) (xs ys : List Loc) (l : Loc) → (Contains (xs ++ ys) l → Contains xs l ⊎ Contains ys l) → (k : ℕ)
    → k < length (x ∷ (xs ++ ys))
    → get_or (x ∷ (xs ++ ys)) k l ≡ l → Contains (x ∷ xs) l ⊎ Contains ys l
split-first x xs ys l rest zero less e = inl (subst (Contains (x ∷ xs)) e (Contains-head x xs))
split-first x xs ys l rest (suc k) less e =
    elim (rest (k, omega arith, e)) [ inl left ↦ inl (Contains-later x xs l left) | inr right ↦ inr right ]

pub split-append : (xs ys : List Loc) (l : Loc) → Contains (xs ++ ys) l → Contains xs l ⊎ Contains ys l
split-append [] ys l h = inr h
split-append (x ∷ xs) ys l h = split-first x xs ys l (split-append xs ys l) h.0 h.1 h.2

-- all of them are registers
abbrev pub AreRegisters : List Loc → Type 0
AreRegisters xs = (l : Loc) → Contains xs l → (t : ℕ) × (l ≡ loc.Regs t)

pub one_register : (t : ℕ) (xs : List Loc) → AreRegisters xs → AreRegisters (loc.Regs t ∷ xs)
one_register t xs are l h = go h.0 h.1 h.2
  where
    go : (k : ℕ) → k < length (loc.Regs t ∷ xs) → get_or (loc.Regs t ∷ xs) k l ≡ l → (u : ℕ) × (l ≡ loc.Regs u)
    go zero less e = (t, sym e)
    go (suc k) less e = are l (k, omega arith, e)

pub no_registers : AreRegisters []
no_registers l h = absurd (let less = h.1 in omega arith)

pub child_are : (child : Option ℕ) → AreRegisters (child_registers child)
child_are None = no_registers
child_are (Some c) = one_register c [] no_registers

pub joined_are : (op : SyncOp) → AreRegisters (joined_registers op)
joined_are (sync.Join (pos h)) = one_register h [] no_registers
joined_are (sync.Join (negsuc h)) = no_registers
joined_are sync.Start = no_registers
joined_are (sync.Lock l) = no_registers
joined_are (sync.Unlock l) = no_registers
joined_are (sync.Fork task arguments) = no_registers
joined_are (sync.Barrier b) = no_registers
joined_are (sync.Settle register control) = no_registers
joined_are sync.End = no_registers
joined_are sync.BadIndex = no_registers
joined_are sync.Spent = no_registers

-- registers that stand there, or a record cell under a lock that is written
Lies : List (List ℕ) → (writes there : List Loc) → Loc → Type 0
Lies under writes there l =
    ((t : ℕ) × (l ≡ loc.Regs t) × Contains there l)
    ⊎ ((c : ℕ) × (lock : ℕ) × (l ≡ loc.Rec c) × Contains (under_lock under lock) c × Contains writes (loc.Lock lock))

record LiesIn (under : List (List ℕ)) (foot locks : Footprint) : Type 0 where
  reads : (l : Loc) → Contains foot.reads l → Lies under locks.writes locks.reads l
  writes : (l : Loc) → Contains foot.writes l → Lies under locks.writes locks.writes l

module _ (under : List (List ℕ)) (s : Subthread) (names : AllName (is_under under s.held) s.actions) where
  own : List Loc
  own = loc.Regs s.thread ∷ child_registers s.child

  under-locks : (c : ℕ) → is_under under s.held c ≡ true
      → (lock : ℕ) × Contains (under_lock under lock) c × Contains (lock_foot_of s).writes (loc.Lock lock)
  under-locks c passes =
      let h = under-held under s.held c passes in (
        h.0,
        h.1,
        Contains-append_right (loc.Regs s.thread ∷ child_registers s.child) (map loc.Lock s.held) (loc.Lock h.0)
            (Contains-map loc.Lock s.held h.0 h.2),
      )

  lies : LiesIn under (foot_of s) (lock_foot_of s)
  unfolding Lies
  lies = record { reads = reads; writes = writes }
    where
      reads : (l : Loc) → Contains (foot_of s).reads l → Lies under (lock_foot_of s).writes (lock_foot_of s).reads l
      reads l h = elim (split-append (joined_registers s.begins.sync) (map loc.Rec (named_by s.actions).reads) l h) [
        | inl left ↦ (let is = joined_are s.begins.sync l left in inl (is.0, is.1, left))
        | inr right ↦
            (let cell = from-map (named_by s.actions).reads l right in
            let over = under-locks cell.0 ((named-passes (is_under under s.held) s.actions names).read cell.0 cell.2) in
            inr (cell.0, over.0, cell.1, over.1, over.2))
      ]

      writes : (l : Loc) → Contains (foot_of s).writes l → Lies under (lock_foot_of s).writes (lock_foot_of s).writes l
      writes l h = elim (split-append (loc.Regs s.thread ∷ child_registers s.child) (map loc.Rec (named_by s.actions).writes) l h) [
        | inl left ↦
            (let is = one_register s.thread (child_registers s.child) (child_are s.child) l left in
            inl (is.0, is.1, Contains-append_left (loc.Regs s.thread ∷ child_registers s.child) (map loc.Lock s.held) l left))
        | inr right ↦
            (let cell = from-map (named_by s.actions).writes l right in
            let over = under-locks cell.0 ((named-passes (is_under under s.held) s.actions names).written cell.0 cell.2) in
            inr (cell.0, over.0, cell.1, over.1, over.2))
      ]

idle-lies : (under : List (List ℕ)) → LiesIn under idle_foot idle_foot
unfolding Lies
idle-lies under =
    record {
      reads = λ l h. absurd (let less = h.1 in omega arith);
      writes = λ l h. let is = one_register 0 [] no_registers l h in inl (is.0, is.1, h);
    }

-- each position of the run does so
run-lies : (under : List (List ℕ)) (run : List Subthread)
    → ((k : ℕ) (s : Subthread) → slice_get run k ≡ Some s → AllName (is_under under s.held) s.actions)
    → (p : ℕ) → LiesIn under (foot_at (feet_of run) p) (foot_at (lock_feet_of run) p)
run-lies under [] all p = idle-lies under
run-lies under (s ∷ rest) all zero = lies under s (all 0 s refl)
run-lies under (s ∷ rest) all (suc p) = run-lies under rest (λ k. all (suc k)) p

module _ (under : List (List ℕ)) (once : IsApart under) where
  same_cell : {c d : ℕ} → loc.Rec c ≡ loc.Rec d → c ≡ d
  same_cell e = cc e

  other_kind : {t c : ℕ} → loc.Regs t ≡ loc.Rec c → ⊥
  other_kind e = cc e

  -- what lies in both is shared by the locks
  shared : (first second fs ss : List Loc) (l : Loc) → Lies under first fs l → Lies under second ss l → Shared fs ss ⊎ Shared first second
  unfolding Lies
  shared first second fs ss l (inl a) (inl b) = inl (l, a.2, b.2)
  shared first second fs ss l (inl a) (inr b) = absurd (other_kind (sym a.1 ∙ b.2))
  shared first second fs ss l (inr a) (inl b) = absurd (other_kind (sym b.1 ∙ a.2))
  shared first second fs ss l (inr a) (inr b) =
      let cell : a.0 ≡ b.0 = same_cell (sym a.2 ∙ b.2) in
      let lock : a.1 ≡ b.1 = once a.1 b.1 b.0 (subst (Contains (under_lock under a.1)) cell a.3) b.3 in
      inr (loc.Lock b.1, subst (λ k. Contains first (loc.Lock k)) lock a.4, b.4)

  clash-by-locks : (foot other locks others : Footprint) → LiesIn under foot locks → LiesIn under other others → Conflict foot other
      → Conflict locks others
  clash-by-locks foot other locks others a b (inl c) =
      elim (shared locks.writes others.writes locks.writes others.writes c.0 (a.writes c.0 c.1) (b.writes c.0 c.2)) [
        | inl same ↦
            inl same
        | inr same ↦ inl same
      ]
  clash-by-locks foot other locks others a b (inr (inl c)) =
      elim (shared locks.writes others.writes locks.writes others.reads c.0 (a.writes c.0 c.1) (b.reads c.0 c.2)) [
        | inl same ↦
            inr (inl same)
        | inr same ↦ inl same
      ]
  clash-by-locks foot other locks others a b (inr (inr c)) =
      elim (shared locks.writes others.writes locks.reads others.writes c.0 (a.reads c.0 c.1) (b.writes c.0 c.2)) [
        | inl same ↦
            inr (inr same)
        | inr same ↦ inl same
      ]

pub locks-clash : LocksClashLaw
locks-clash under run p q once held clash =
    clash-by-locks under once (foot_at (feet_of run) p) (foot_at (feet_of run) q) (foot_at (lock_feet_of run) p)
    (foot_at (lock_feet_of run) q)
    (run-lies under run held p) (run-lies under run held q) clash
