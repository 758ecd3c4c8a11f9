-- A subthread that the code performs is the one that the plain run performs. It finds the same: the value of the thread
-- that it joins, its registers and its cells. So its effect is the same, and leaves the thread's registers at the
-- thread's place, a child's at the end, and each other thread's as they are; points go the same way.
use Rattle.std.proofs.Common.{◌≡◌, ℕ, zero, suc, ◌<◌, ℤ, pos, negsuc, Bool, true, false, cond, List, [], ◌∷◌, ◌++◌, map, length, Option, Some, None, refl, sym, ap, ◌∙◌, subst, arith, option_map, unwrap_or, nat_lt, add-one}
use Rattle.std.specs.Prelude.{slice_get, slice_set, nat_eq}
use Rattle.std.specs.Ordering.{nat_cmp}
use Rattle.std.specs.FinMap.{find}
use Rattle.std.proofs.lemmas.Bool.{eqb-true, eq-eqb, false≢true}
use Rattle.std.proofs.lemmas.List.{length-map, length-append, map-append}
use Rattle.std.proofs.lemmas.Option.{slice_get-map, slice_get_within}
use Rattle.gp_base.specs.declared.limits.Limits.{Limits}
use Rattle.gp_base.specs.declared.feed.Inputs.{Inputs}
use Rattle.task_ast.specs.declared.tree.Program.{Program as Code}
use Rattle.task_ast.specs.declared.sync.SyncOp.{SyncOp}
use Rattle.task_ast.specs.declared.sync.SyncOp.TheVariants as sync
use Rattle.task_ast.specs.declared.sync.Next.{Next}
use Rattle.task_ast.specs.declared.effect.Effect.{Effect}
use Rattle.task_ast.specs.meaning.Names.{records_of, cells_in}
use Rattle.task_ast.specs.meaning.Action.{Action}
use Rattle.task_ast.specs.meaning.Body.{Body}
use Rattle.task_ast.specs.meaning.Control.{Point, with_number, beginning, first_actions, tree_body}
use Rattle.task_ast.specs.meaning.State.{State, RegistersOf, CellOf, number_at, cell_value}
use Rattle.task_ast.specs.meaning.Effect.{Doing, all_done, joined_ret, effect, after, left_to}
use Rattle.task_ast.specs.meaning.Footprint.{named_by}
use Rattle.task_ast.specs.laws.Keeps.{AllName}
use Rattle.task_ast.specs.Table.{learning}
use Rattle.task_ast.specs.meaning.Turn.{child_of}
use Rattle.task_ast.specs.meaning.Plain.{task_at, start_point}
use Rattle.task_ast.specs.Plain.{Plain, Machine, tree_machine, points_with, point_by, settled_by, from_by}
use Rattle.task_ast.specs.meaning.Plain as plain
use Rattle.task_ast.specs.View.{plain_program}
use Rattle.task_ast.proofs.Arms.{some_is}
use Rattle.one_thread.specs.declared.data.Data.{Data}
use Rattle.one_thread.specs.declared.walk.Walk.{Walk}
use Rattle.one_thread.specs.declared.work.Told.{Told}
use Rattle.one_thread.specs.declared.threads.Run.{Run}
use Rattle.one_thread.specs.Holding.{AreHeld}
use Rattle.one_thread.specs.View.{table_of}
use Rattle.one_thread.specs.inner.Working.{all_worked}
use Rattle.one_thread.specs.Walking.{setting_of, point_of}
use Rattle.one_thread.specs.inner.Subthreads.{settled, at_work, body_from, actions_from, data_from}
use Rattle.one_thread.specs.Runs.{registers_at, joined_of, IsSound, AreSound, Forks, grown, Performed, Holds}
use Rattle.one_thread.proofs.Within.{is_cell, body_within, first_within, all-append}
use Rattle.one_thread.proofs.Mirroring.{Mirrors, all_mirrors}
use Rattle.one_thread.proofs.Naming.{all-named}
use Rattle.one_thread.proofs.ThreadLemmas.{registers-there}

-- ---- what the subthread finds
joined-is : (op : SyncOp) (walks : List Walk) (state : State) → ((u : ℕ) → registers_at walks u ≡ state (RegistersOf u))
    → joined_of op walks ≡ joined_ret op state
joined-is (sync.Join (pos h)) walks state same = ap (λ l. number_at l 0) (same h)
joined-is (sync.Join (negsuc h)) walks state same = refl
joined-is sync.Start walks state same = refl
joined-is (sync.Lock l) walks state same = refl
joined-is (sync.Unlock l) walks state same = refl
joined-is (sync.Fork k values) walks state same = refl
joined-is (sync.Barrier b) walks state same = refl
joined-is (sync.Settle register control) walks state same = refl
joined-is sync.End walks state same = refl
joined-is sync.BadIndex walks state same = refl
joined-is sync.Spent walks state same = refl

-- a cell after an effect
cell-after : (o : Option ℤ) (before : List ℤ)
    → number_at (unwrap_or (option_map (λ v. v ∷ []) o) before) 0 ≡ unwrap_or o (number_at before 0)
cell-after None before = refl
cell-after (Some v) before = refl

-- ---- lists of threads
registers-set : (walks : List Walk) (t u : ℕ) (w : Walk) → t < length walks
    → registers_at (slice_set walks t w) u ≡ cond (nat_eq u t) w.data.registers (registers_at walks u)
registers-set walks t u w inside = go (nat_eq u t) refl
  where
    same : (walks : List Walk) (t : ℕ) → t < length walks → registers_at (slice_set walks t w) t ≡ w.data.registers
    same [] t inside = absurd (omega arith)
    same (x ∷ walks) zero inside = refl
    same (x ∷ walks) (suc t) inside = same walks t (omega arith)

    other : (walks : List Walk) (t u : ℕ) → (u ≡ t → ⊥) → registers_at (slice_set walks t w) u ≡ registers_at walks u
    other [] t u ne = refl
    other (x ∷ walks) zero zero ne = absurd (ne refl)
    other (x ∷ walks) zero (suc u) ne = refl
    other (x ∷ walks) (suc t) zero ne = refl
    other (x ∷ walks) (suc t) (suc u) ne = other walks t u (λ e. ne (ap suc e))

    go : (b : Bool) → nat_eq u t ≡ b → registers_at (slice_set walks t w) u ≡ cond b w.data.registers (registers_at walks u)
    go true e = ap (registers_at (slice_set walks t w)) (eqb-true u t e) ∙ same walks t inside
    go false e = other walks t u (λ is. false≢true (sym e ∙ eq-eqb u t is))

bool_same : (x y : Bool) → (x ≡ true → y ≡ true) → (y ≡ true → x ≡ true) → x ≡ y
bool_same true y there back = sym (there refl)
bool_same false true there back = back refl
bool_same false false there back = refl

eq-shift : (a b : ℕ) → nat_eq a b ≡ nat_eq (suc a) (suc b)
eq-shift a b =
    bool_same (nat_eq a b) (nat_eq (suc a) (suc b)) (λ e. eq-eqb (suc a) (suc b) (ap suc (eqb-true a b e)))
    (λ e. eq-eqb a b (let is = eqb-true (suc a) (suc b) e in omega (arith, is)))

registers-append : (walks : List Walk) (w : Walk) (u : ℕ)
    → registers_at (walks ++ w ∷ []) u ≡ cond (nat_eq u (length walks)) w.data.registers (registers_at walks u)
registers-append [] w zero = refl
registers-append [] w (suc u) = go (nat_eq (suc u) 0) refl
  where
    go : (b : Bool) → nat_eq (suc u) 0 ≡ b → registers_at [] u ≡ cond b w.data.registers []
    go true e = absurd (let is = eqb-true (suc u) 0 e in omega (arith, is))
    go false e = refl
registers-append (x ∷ walks) w zero = go (nat_eq 0 (suc (length walks))) refl
  where
    go : (b : Bool) → nat_eq 0 (suc (length walks)) ≡ b → x.data.registers ≡ cond b w.data.registers x.data.registers
    go true e = absurd (let is = eqb-true 0 (suc (length walks)) e in omega (arith, is))
    go false e = refl
registers-append (x ∷ walks) w (suc u) =
    registers-append walks w u ∙ ap (λ b. cond b w.data.registers (registers_at walks u)) (eq-shift u (length walks))

length-set : (walks : List Walk) (t : ℕ) (w : Walk) → length (slice_set walks t w) ≡ length walks
length-set [] t w = refl
length-set (x ∷ walks) zero w = refl
length-set (x ∷ walks) (suc t) w = ap suc (length-set walks t w)

map-set : {A B : Type 0} (f : A → B) (xs : List A) (t : ℕ) (x : A) → map f (slice_set xs t x) ≡ slice_set (map f xs) t (f x)
map-set f [] t x = refl
map-set f (y ∷ xs) zero x = refl
map-set f (y ∷ xs) (suc t) x = ap (λ l. f y ∷ l) (map-set f xs t x)

set-append : {A : Type 0} (xs : List A) (t : ℕ) (x y : A) → t < length xs → slice_set xs t x ++ y ∷ [] ≡ slice_set (xs ++ y ∷ []) t x
set-append [] t x y inside = absurd (omega arith)
set-append (z ∷ xs) zero x y inside = refl
set-append (z ∷ xs) (suc t) x y inside = ap (λ l. z ∷ l) (set-append xs t x y (omega arith))

sound-set : (code : Code) (walks : List Walk) (t : ℕ) (w : Walk) → IsSound code w → AreSound code walks
    → AreSound code (slice_set walks t w)
sound-set code [] t w sound all = all
sound-set code (x ∷ walks) zero w sound all = record { each = each }
  where
    each : (u : ℕ) (v : Walk) → slice_get (w ∷ walks) u ≡ Some v → IsSound code v
    each zero v at = subst (IsSound code) (some_is at) sound
    each (suc u) v at = all.each (suc u) v at
sound-set code (x ∷ walks) (suc t) w sound all = more (sound-set code walks t w sound (record { each = λ u v at. all.each (suc u) v at }))
  where
    more : AreSound code (slice_set walks t w) → AreSound code (x ∷ slice_set walks t w)
    more rest = record { each = each }
      where
        each : (u : ℕ) (v : Walk) → slice_get (x ∷ slice_set walks t w) u ≡ Some v → IsSound code v
        each zero v at = all.each zero v at
        each (suc u) v at = rest.each u v at

sound-append : (code : Code) (walks : List Walk) (w : Walk) → IsSound code w → AreSound code walks → AreSound code (walks ++ w ∷ [])
sound-append code [] w sound all = record { each = each }
  where
    each : (u : ℕ) (v : Walk) → slice_get (w ∷ []) u ≡ Some v → IsSound code v
    each zero v at = subst (IsSound code) (some_is at) sound
    each (suc u) v at = absurd (cc at)
sound-append code (x ∷ walks) w sound all = more (sound-append code walks w sound (record { each = λ u v at. all.each (suc u) v at }))
  where
    more : AreSound code (walks ++ w ∷ []) → AreSound code (x ∷ (walks ++ w ∷ []))
    more rest = record { each = each }
      where
        each : (u : ℕ) (v : Walk) → slice_get (x ∷ (walks ++ w ∷ [])) u ≡ Some v → IsSound code v
        each zero v at = all.each zero v at
        each (suc u) v at = rest.each u v at

-- ---- threads after a subthread
map-point : (walks : List Walk) (t : ℕ) (is : Walk) (points : List Point) (q : Point) → map point_of walks ≡ points → point_of is ≡ q
    → map point_of (slice_set walks t is) ≡ slice_set points t q
map-point walks t is points q same at =
    map-set point_of walks t is ∙ ap (λ l. slice_set l t (point_of is)) same ∙ ap (slice_set points t) at

swapped : {A : Type 0} (a b : Bool) (x y z : A) → (a ≡ true → b ≡ true → ⊥) → cond a x (cond b y z) ≡ cond b y (cond a x z)
swapped true true x y z apart = absurd (apart refl refl)
swapped true false x y z apart = refl
swapped false true x y z apart = refl
swapped false false x y z apart = refl

module _ (code : Code) (inputs : Inputs) (limits : Limits) (walks : List Walk) (t : ℕ) (is : Walk) (inside : t < length walks) where
  points-by : (op : SyncOp) (registers : List ℤ) (new : List Walk) (points : List Point) (q : Point)
      → Forks code op registers (slice_set walks t is) new → map point_of walks ≡ points → point_of is ≡ q
      → map point_of new ≡ slice_set (points_with (tree_machine (plain_program code) inputs limits) op (length points) points) t q
  points-by (sync.Fork k values) registers new points q forks same at =
      let count : length (slice_set walks t is) ≡ length points =
      length-set walks t is ∙ sym (length-map walks point_of) ∙ ap length same in
      ap (map point_of) forks.1 ∙ map-append point_of (slice_set walks t is) (forks.0 ∷ [])
      ∙ ap (λ l. l ++ point_of forks.0 ∷ []) (map-point walks t is points q same at)
      ∙ ap (λ r. slice_set points t q ++ r ∷ []) (forks.2.at ∙ ap (λ n. start_point (task_at (plain_program code) k) n values) count)
      ∙ set-append points t q _ (let l = length-map walks point_of in let e = ap length same in omega arith)
  points-by sync.Start registers new points q forks same at = ap (map point_of) forks ∙ map-point walks t is points q same at
  points-by (sync.Lock l) registers new points q forks same at = ap (map point_of) forks ∙ map-point walks t is points q same at
  points-by (sync.Unlock l) registers new points q forks same at = ap (map point_of) forks ∙ map-point walks t is points q same at
  points-by (sync.Join h) registers new points q forks same at = ap (map point_of) forks ∙ map-point walks t is points q same at
  points-by (sync.Barrier b) registers new points q forks same at = ap (map point_of) forks ∙ map-point walks t is points q same at
  points-by (sync.Settle register control) registers new points q forks same at =
      ap (map point_of) forks ∙ map-point walks t is points q same at
  points-by sync.End registers new points q forks same at = ap (map point_of) forks ∙ map-point walks t is points q same at
  points-by sync.BadIndex registers new points q forks same at = ap (map point_of) forks ∙ map-point walks t is points q same at
  points-by sync.Spent registers new points q forks same at = ap (map point_of) forks ∙ map-point walks t is points q same at

  sound-by : (op : SyncOp) (registers : List ℤ) (new : List Walk) → Forks code op registers (slice_set walks t is) new → IsSound code is
      → AreSound code walks → AreSound code new
  sound-by (sync.Fork k values) registers new forks sound all =
      subst (AreSound code) (sym forks.1) (sound-append code (slice_set walks t is) forks.0 forks.2.sound
      (sound-set code walks t is sound all))
  sound-by sync.Start registers new forks sound all = subst (AreSound code) (sym forks) (sound-set code walks t is sound all)
  sound-by (sync.Lock l) registers new forks sound all = subst (AreSound code) (sym forks) (sound-set code walks t is sound all)
  sound-by (sync.Unlock l) registers new forks sound all = subst (AreSound code) (sym forks) (sound-set code walks t is sound all)
  sound-by (sync.Join h) registers new forks sound all = subst (AreSound code) (sym forks) (sound-set code walks t is sound all)
  sound-by (sync.Barrier b) registers new forks sound all = subst (AreSound code) (sym forks) (sound-set code walks t is sound all)
  sound-by (sync.Settle register control) registers new forks sound all =
      subst (AreSound code) (sym forks) (sound-set code walks t is sound all)
  sound-by sync.End registers new forks sound all = subst (AreSound code) (sym forks) (sound-set code walks t is sound all)
  sound-by sync.BadIndex registers new forks sound all = subst (AreSound code) (sym forks) (sound-set code walks t is sound all)
  sound-by sync.Spent registers new forks sound all = subst (AreSound code) (sym forks) (sound-set code walks t is sound all)

  grown-by : (op : SyncOp) (registers : List ℤ) (new : List Walk) → Forks code op registers (slice_set walks t is) new
      → length new ≡ grown op (length walks)
  grown-by (sync.Fork k values) registers new forks =
      ap length forks.1 ∙ length-append (slice_set walks t is) _ ∙ add-one (length (slice_set walks t is)) ∙ ap suc (length-set walks t is)
  grown-by sync.Start registers new forks = ap length forks ∙ length-set walks t is
  grown-by (sync.Lock l) registers new forks = ap length forks ∙ length-set walks t is
  grown-by (sync.Unlock l) registers new forks = ap length forks ∙ length-set walks t is
  grown-by (sync.Join h) registers new forks = ap length forks ∙ length-set walks t is
  grown-by (sync.Barrier b) registers new forks = ap length forks ∙ length-set walks t is
  grown-by (sync.Settle register control) registers new forks = ap length forks ∙ length-set walks t is
  grown-by sync.End registers new forks = ap length forks ∙ length-set walks t is
  grown-by sync.BadIndex registers new forks = ap length forks ∙ length-set walks t is
  grown-by sync.Spent registers new forks = ap length forks ∙ length-set walks t is

  registers-by : (op : SyncOp) (registers : List ℤ) (new : List Walk) (before : ℕ → List ℤ) (u : ℕ)
      → Forks code op registers (slice_set walks t is) new → ((u : ℕ) → registers_at walks u ≡ before u)
      → registers_at new u ≡ cond (nat_eq u t) is.data.registers
      (left_to (option_map (λ c. (c, registers)) (child_of op (length walks))) u (before u))
  registers-by (sync.Fork k values) registers new before u forks same =
      ap (λ l. registers_at l u) forks.1 ∙ registers-append (slice_set walks t is) forks.0 u
      ∙ ap (λ n. cond (nat_eq u n) forks.0.data.registers (registers_at (slice_set walks t is) u)) (length-set walks t is)
      ∙ ap (λ r. cond (nat_eq u (length walks)) r (registers_at (slice_set walks t is) u)) forks.2.data_are
      ∙ ap (cond (nat_eq u (length walks)) registers)
      (registers-set walks t u is inside ∙ ap (cond (nat_eq u t) is.data.registers) (same u))
      ∙ swapped (nat_eq u (length walks)) (nat_eq u t) registers is.data.registers (before u)
      (λ a b. let x = eqb-true u (length walks) a in let y = eqb-true u t b in absurd (omega arith))
  registers-by sync.Start registers new before u forks same =
      ap (λ l. registers_at l u) forks ∙ registers-set walks t u is inside ∙ ap (cond (nat_eq u t) is.data.registers) (same u)
  registers-by (sync.Lock l) registers new before u forks same =
      ap (λ l. registers_at l u) forks ∙ registers-set walks t u is inside ∙ ap (cond (nat_eq u t) is.data.registers) (same u)
  registers-by (sync.Unlock l) registers new before u forks same =
      ap (λ l. registers_at l u) forks ∙ registers-set walks t u is inside ∙ ap (cond (nat_eq u t) is.data.registers) (same u)
  registers-by (sync.Join h) registers new before u forks same =
      ap (λ l. registers_at l u) forks ∙ registers-set walks t u is inside ∙ ap (cond (nat_eq u t) is.data.registers) (same u)
  registers-by (sync.Barrier b) registers new before u forks same =
      ap (λ l. registers_at l u) forks ∙ registers-set walks t u is inside ∙ ap (cond (nat_eq u t) is.data.registers) (same u)
  registers-by (sync.Settle register control) registers new before u forks same =
      ap (λ l. registers_at l u) forks ∙ registers-set walks t u is inside ∙ ap (cond (nat_eq u t) is.data.registers) (same u)
  registers-by sync.End registers new before u forks same =
      ap (λ l. registers_at l u) forks ∙ registers-set walks t u is inside ∙ ap (cond (nat_eq u t) is.data.registers) (same u)
  registers-by sync.BadIndex registers new before u forks same =
      ap (λ l. registers_at l u) forks ∙ registers-set walks t u is inside ∙ ap (cond (nat_eq u t) is.data.registers) (same u)
  registers-by sync.Spent registers new before u forks same =
      ap (λ l. registers_at l u) forks ∙ registers-set walks t u is inside ∙ ap (cond (nat_eq u t) is.data.registers) (same u)

-- where a thread stands from which a subthread begins
settled-point : (code : Code) (inputs : Inputs) (limits : Limits) (walk : Walk) (op : SyncOp) (t : ℕ) (state : State) (p : Point)
    → point_of walk ≡ p → walk.data.registers ≡ state (RegistersOf t)
    → point_of (settled op walk) ≡ settled_by (tree_machine (plain_program code) inputs limits) op t state p
settled-point code inputs limits walk (sync.Settle register control) t state p at same =
    ap {A = List ℤ} {B = Point} (λ r. record (point_of walk) { names = with_number walk.env.names control (number_at r register) }) same
    ∙ ap {A = Point} {B = Point} (λ q. record q { names = with_number q.names control (number_at (state (RegistersOf t)) register) }) at
settled-point code inputs limits walk sync.Start t state p at same = at
settled-point code inputs limits walk (sync.Lock l) t state p at same = at
settled-point code inputs limits walk (sync.Unlock l) t state p at same = at
settled-point code inputs limits walk (sync.Fork k values) t state p at same = at
settled-point code inputs limits walk (sync.Join h) t state p at same = at
settled-point code inputs limits walk (sync.Barrier b) t state p at same = at
settled-point code inputs limits walk sync.End t state p at same = at
settled-point code inputs limits walk sync.BadIndex t state p at same = at
settled-point code inputs limits walk sync.Spent t state p at same = at

-- ---- the subthread
module _ (code : Code) (inputs : Inputs) (limits : Limits) (old : Run) (p : Plain) (holds : Holds code inputs limits old p) (t : ℕ)
    (begins : Next) (child : Option ℕ) (told : Told) (new : Run) (performed : Performed old t begins child told new) where
  abbrev machine : Machine Point
  machine = tree_machine (plain_program code) inputs limits

  abbrev was : Walk
  was = at_work (settled begins.sync performed.was) old.shared

  abbrev point : Point
  point = from_by machine p begins.sync t

  abbrev body : Body Point
  body = tree_body (plain.setting_of (plain_program code) inputs) limits.turns (beginning begins.sync child point)

  abbrev pub actions : List Action
  actions = first_actions (plain.setting_of (plain_program code) inputs) begins.sync point ++ body.actions

  abbrev found : ℕ → ℤ
  found = cell_value p.state

  abbrev joined : ℤ
  joined = joined_ret begins.sync p.state

  abbrev start : Doing
  start = record { registers = p.state (RegistersOf t); child = []; written = []; lines = [] }

  abbrev end : Doing
  end = all_done found joined actions start

  abbrev what : Effect
  what = effect t begins.sync child actions p.state

  setting-is : setting_of was ≡ plain.setting_of (plain_program code) inputs
  setting-is =
      ap (λ c. record { program = plain_program c; feeds = old.shared.feeds }) ((holds.sound.each t performed.was performed.at).program)
      ∙ ap (λ feeds. record { program = plain_program code; feeds = feeds }) holds.feeds

  stood : point_of performed.was ≡ point_by machine p t
  stood =
      sym (ap (λ o. unwrap_or o (machine.starts 0 t []))
      (ap (λ l. slice_get l t) (sym holds.points) ∙ slice_get-map point_of old.threads.items t
      ∙ ap (option_map point_of) performed.at))

  point-is : point_of was ≡ point
  point-is =
      settled-point code inputs limits performed.was begins.sync t p.state (point_by machine p t) stood
      (sym (registers-there old.threads.items t performed.was performed.at) ∙ holds.registers t)

  body-is : body_from was begins.sync child old.turns ≡ body
  body-is =
      ap (λ s. tree_body s old.turns (beginning begins.sync child (point_of was))) setting-is
      ∙ ap (λ n. tree_body (plain.setting_of (plain_program code) inputs) n (beginning begins.sync child (point_of was))) holds.turns
      ∙ ap (λ q. tree_body (plain.setting_of (plain_program code) inputs) limits.turns (beginning begins.sync child q)) point-is

  actions-are : actions_from was begins.sync child old.turns ≡ actions
  actions-are =
      ap (λ b. first_actions (setting_of was) begins.sync (point_of was) ++ b.actions) body-is
      ∙ ap (λ s. first_actions s begins.sync (point_of was) ++ body.actions) setting-is
      ∙ ap (λ q. first_actions (plain.setting_of (plain_program code) inputs) begins.sync q ++ body.actions) point-is

  abbrev hand : Data
  hand = data_from was begins.sync child (joined_of begins.sync old.threads.items) old.turns

  names : AllName (λ c. nat_lt c (cells_in (records_of code.heads))) actions
  names =
      all-append (is_cell (plain.setting_of (plain_program code) inputs))
      (first_actions (plain.setting_of (plain_program code) inputs) begins.sync point) body.actions
      (first_within (plain.setting_of (plain_program code) inputs) begins.sync point)
      (body_within (plain.setting_of (plain_program code) inputs) limits.turns (beginning begins.sync child point))

  mirrors : Mirrors found (cells_in (records_of code.heads)) end hand
  mirrors =
      subst (Mirrors found (cells_in (records_of code.heads)) end)
      (sym (ap (λ j. all_worked j (actions_from was begins.sync child old.turns) was.data)
      (joined-is begins.sync old.threads.items p.state holds.registers) ∙ ap (λ l. all_worked joined l was.data) actions-are))
      (all_mirrors found joined (cells_in (records_of code.heads)) actions start was.data names
      (record {
        registers = sym (registers-there old.threads.items t performed.was performed.at) ∙ holds.registers t;
        child = refl;
        lines = refl;
        cells = holds.cells;
        many = holds.many;
      }))

  pub lines-are : told.lines ≡ what.prints
  lines-are = ap (λ t. t.lines) performed.told_is ∙ performed.ran.lines_are ∙ mirrors.lines

  pub named-are : told.named ≡ named_by actions
  named-are =
      ap (λ t. t.named) performed.told_is ∙ performed.ran.named_are
      ∙ all-named (joined_of begins.sync old.threads.items) (actions_from was begins.sync child old.turns) was.data
      ∙ ap named_by actions-are

  inside : t < length old.threads.items
  inside = slice_get_within old.threads.items t performed.was performed.at

  now-sound : IsSound code performed.is
  now-sound =
      let sound = holds.sound.each t performed.was performed.at in
      record {
        program = ap (λ b. b.now.program) performed.ran.program ∙ sound.program;
        registers =
            ap (λ b. b.now) performed.ran.registers ∙ sound.registers
            ∙ ap (λ b. Rattle.task_ast.specs.meaning.Names.registers_of (Rattle.task_ast.specs.View.plain_task b.now))
            (sym performed.ran.task);
        clean = performed.ran.clean;
      }

  forks-here : Forks code begins.sync performed.done.child (slice_set old.threads.items t performed.is) new.threads.items
  forks-here =
      subst (λ c. Forks c begins.sync performed.done.child (slice_set old.threads.items t performed.is) new.threads.items)
      holds.program performed.threads

  -- where the plain run then stands
  abbrev pub after_it : Plain
  after_it =
      record {
        table = learning p.table t body.next;
        points = slice_set (points_with machine begins.sync (length p.points) p.points) t body.at;
        state = after what p.state;
      }

  pub holds-after : child ≡ child_of begins.sync (length old.threads.items) → Holds code inputs limits new after_it
  holds-after child_is =
      record {
        program = ap (λ b. b.now.program) performed.program ∙ holds.program;
        slots = ap (λ b. b.now) performed.slots ∙ holds.slots;
        turns = performed.turns ∙ holds.turns;
        feeds = performed.ran.feeds_are ∙ holds.feeds;
        held = subst (λ o. AreHeld o.owners.items o.held.items) (sym performed.owners) holds.held;
        walks = performed.walks;
        table =
            performed.table ∙ ap (learning (table_of old.table) t) (performed.ran.next_is ∙ ap (λ b. b.next) body-is)
            ∙ ap (λ tb. learning tb t body.next) holds.table;
        sound =
            sound-by code inputs limits old.threads.items t performed.is inside begins.sync performed.done.child new.threads.items
            forks-here now-sound holds.sound;
        points =
            points-by code inputs limits old.threads.items t performed.is inside begins.sync performed.done.child new.threads.items p.points
            body.at forks-here holds.points (performed.ran.at ∙ ap (λ b. b.at) body-is);
        registers = λ u.
            registers-by code inputs limits old.threads.items t performed.is inside begins.sync performed.done.child new.threads.items
            (λ v. p.state (RegistersOf v)) u forks-here holds.registers
            ∙ ap (λ r. cond (nat_eq u t) r (left_to
            (option_map (λ c. (c, performed.done.child)) (child_of begins.sync (length old.threads.items))) u
            (p.state (RegistersOf u)))) (performed.ran.registers_are ∙ mirrors.registers)
            ∙ ap (λ o. cond (nat_eq u t) end.registers
            (left_to (option_map (λ c. (c, performed.done.child)) o) u (p.state (RegistersOf u)))) (sym child_is)
            ∙ ap (λ l. cond (nat_eq u t) end.registers (left_to (option_map (λ c. (c, l)) child) u (p.state (RegistersOf u))))
            (performed.ran.child_is ∙ mirrors.child);
        cells =
            λ c below. ap (λ l. number_at l c) performed.ran.cells_are ∙ mirrors.cells c below
            ∙ sym (cell-after (find nat_cmp c end.written) (p.state (CellOf c)));
        many = ap length performed.ran.cells_are ∙ mirrors.many;
      }

  pub threads-after : length new.threads.items ≡ grown begins.sync (length old.threads.items)
  threads-after =
      grown-by code inputs limits old.threads.items t performed.is inside begins.sync performed.done.child new.threads.items forks-here
