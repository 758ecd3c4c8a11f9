-- The record cells that actions name, as a run notes them.
use Rattle.std.proofs.Common.{◌≡◌, ℕ, ℤ, Bool, true, false, cond, List, [], ◌∷◌, ◌++◌, map, Option, Some, None, refl, ap, ◌∙◌, option_map, option_and_then, unwrap_or, nat_eq}
use Rattle.std.specs.Prelude.{nat_lt}
use Rattle.std.specs.Ordering.{nat_cmp, match_ordering}
use Rattle.std.specs.declared.cmp.Ordering.TheVariants.{Less, Equal, Greater}
use Rattle.std.specs.BTreeSet.{insert_key}
use Rattle.gp_base.specs.declared.feed.Feed.{Feed}
use Rattle.task_ast.specs.declared.sync.SyncOp.{SyncOp}
use Rattle.task_ast.specs.declared.sync.SyncOp.TheVariants as sync
use Rattle.task_ast.specs.meaning.Action.{OfRegisters, Action, Set, Load, Store, Say, Child, Give, Arm}
use Rattle.task_ast.specs.meaning.Control.{all_of}
use Rattle.task_ast.specs.meaning.Footprint.{with_cell, Named, naming, arm_naming, all_naming}
use Rattle.task_code.specs.Instructions.{Instr, At, Assign, GoOn, Unless, Again, Lock, Unlock, Fork, Join, Barrier, Settle, Do, Calc}
use Rattle.task_code.specs.Reading.{CalcEnv, Place, begin_actions, calc_of_registers, calc_value, code_first, env_of, gift_action, instr_at}
use Rattle.subthread.specs.inner.Running.{Notes, ArmNotes}
use Rattle.task_ast.proofs.Arms.{chosen, some_is}

-- a set of numbers has with a member the cells that a list has with it
pub inserted : (c : ℕ) (cells : List ℕ) → insert_key nat_cmp cells c ≡ with_cell c cells
inserted c [] = refl
inserted c (d ∷ cells) = go (nat_lt c d) (nat_eq c d) (inserted c cells)
  where
    go : (less same : Bool) → insert_key nat_cmp cells c ≡ with_cell c cells
        → match_ordering (cond less Less (cond same Equal Greater)) (c ∷ d ∷ cells) (d ∷ cells) (d ∷ insert_key nat_cmp cells c)
        ≡ cond less (c ∷ d ∷ cells) (cond same (d ∷ cells) (d ∷ with_cell c cells))
    go true same more = refl
    go false true more = refl
    go false false more = ap (λ l. d ∷ l) more

-- ---- one statement

pub set_noted : (o : Option OfRegisters) (k : ℕ) (n : Named) → Notes (option_map (Set k) o) n n
set_noted None k n a is = absurd (cc is)
set_noted (Some t) k n a is = ap (λ x. naming x n) (some_is is)

pub said_noted : (o : Option (List OfRegisters)) (n : Named) → Notes (option_map Say o) n n
said_noted None n a is = absurd (cc is)
said_noted (Some ts) n a is = ap (λ x. naming x n) (some_is is)

pub read_noted : (o : Option ℕ) (k cell : ℕ) (n : Named) → Some cell ≡ o
    → Notes (option_map (λ c. Load c k) o) n (record n { reads = with_cell cell n.reads })
read_noted None k cell n there a is = absurd (cc there)
read_noted (Some c) k cell n there a is =
    ap (λ x. record n { reads = with_cell x n.reads }) (some_is there) ∙ ap (λ x. naming x n) (some_is is)

pub none_read : (o : Option ℕ) (k : ℕ) (n : Named) → None ≡ o → Notes (option_map (λ c. Load c k) o) n n
none_read None k n none a is = absurd (cc is)
none_read (Some c) k n none a is = absurd (cc none)

pub write_noted : (o : Option ℕ) (t : Option OfRegisters) (cell : ℕ) (n : Named) → Some cell ≡ o
    → Notes (option_and_then (λ c. option_map (Store c) t) o) n (record n { writes = with_cell cell n.writes })
write_noted None t cell n there a is = absurd (cc there)
write_noted (Some c) None cell n there a is = absurd (cc is)
write_noted (Some c) (Some t) cell n there a is =
    ap (λ x. record n { writes = with_cell x n.writes }) (some_is there) ∙ ap (λ x. naming x n) (some_is is)

pub none_written : (o : Option ℕ) (t : Option OfRegisters) (n : Named) → None ≡ o → Notes (option_and_then (λ c. option_map (Store c) t) o) n n
none_written None t n none a is = absurd (cc is)
none_written (Some c) t n none a is = absurd (cc none)

-- of a choice both arms
pub both_noted : (t : Option OfRegisters) (a b : Option Arm) (old between new : Named) → ArmNotes a old between → ArmNotes b between new
    → Notes (chosen t a b) old new
both_noted None a b old between new first second act is = absurd (cc is)
both_noted (Some t) None b old between new first second act is = absurd (cc is)
both_noted (Some t) (Some x) None old between new first second act is = absurd (cc is)
both_noted (Some t) (Some x) (Some y) old between new first second act is =
    second y refl ∙ ap (arm_naming y) (first x refl) ∙ ap (λ z. naming z old) (some_is is)

-- ---- a run

pub both_named : (first second : List Action) (n : Named) → all_naming second (all_naming first n) ≡ all_naming (first ++ second) n
both_named [] second n = refl
both_named (a ∷ first) second n = both_named first second (naming a n)

-- what a fork gives names no cells
gifts_name : (gifts : List (ℕ × Calc)) (env : CalcEnv) (n : Named)
    → all_naming (unwrap_or (all_of (map (λ g. gift_action g env) gifts)) []) n ≡ n
gifts_name [] env n = refl
gifts_name (g ∷ gifts) env n = go (calc_of_registers g.1 env) (all_of (map (λ g. gift_action g env) gifts)) (gifts_name gifts env n)
  where
    more : (t : OfRegisters) (r : Option (List Action)) → all_naming (unwrap_or r []) n ≡ n
        → all_naming (unwrap_or (option_map (λ all. Give g.0 t ∷ all) r) []) n ≡ n
    more t None none = refl
    more t (Some actions) none = none

    go : (t : Option OfRegisters) (r : Option (List Action)) → all_naming (unwrap_or (all_of (map (λ g. gift_action g env) gifts)) []) n ≡ n
        → all_naming (unwrap_or (all_of (option_map (Give g.0) t ∷ map (λ g. gift_action g env) gifts)) []) n ≡ n
    go None r none = refl
    go (Some t) r none = more t (all_of (map (λ g. gift_action g env) gifts)) none

arguments_name : (o : Option (List ℤ)) (r : Option (List Action)) (count : ℕ) (n : Named) → all_naming (unwrap_or r []) n ≡ n
    → all_naming (unwrap_or (option_map (λ (a : List ℤ × List Action). a.1)
    (option_and_then (λ values. option_map (λ actions. (values, Child count ∷ actions)) r) o)) []) n ≡ n
arguments_name None r count n none = refl
arguments_name (Some values) None count n none = refl
arguments_name (Some values) (Some actions) count n none = none

begin_names : (feeds : List Feed) (o : Option Instr) (q : Place) (n : Named) → all_naming (begin_actions feeds o q) n ≡ n
begin_names feeds None q n = refl
begin_names feeds (Some (At line (Fork f))) q n =
    arguments_name (all_of (map (λ c. calc_value c (env_of feeds q)) f.controls))
    (all_of (map (λ g. gift_action g (env_of feeds q)) f.gifts)) f.registers n
    (gifts_name f.gifts (env_of feeds q) n)
begin_names feeds (Some (At line (Join c (Some k)))) q n = refl
begin_names feeds (Some (At line (Join c None))) q n = refl
begin_names feeds (Some (At line (Assign k c))) q n = refl
begin_names feeds (Some (At line (GoOn m))) q n = refl
begin_names feeds (Some (At line (Unless c m))) q n = refl
begin_names feeds (Some (At line (Again c m))) q n = refl
begin_names feeds (Some (At line (Lock cells i))) q n = refl
begin_names feeds (Some (At line (Unlock cells i))) q n = refl
begin_names feeds (Some (At line (Barrier b))) q n = refl
begin_names feeds (Some (At line (Settle k c))) q n = refl
begin_names feeds (Some (At line (Do d))) q n = refl

-- a run names no cells before its body
pub first_names : (tasks : List (List Instr)) (feeds : List Feed) (op : SyncOp) (q : Place) (n : Named)
    → all_naming (code_first tasks feeds op q) n ≡ n
first_names tasks feeds sync.Start q n = refl
first_names tasks feeds (sync.Lock l) q n = begin_names feeds (instr_at tasks q q.at.pc) q n
first_names tasks feeds (sync.Unlock l) q n = begin_names feeds (instr_at tasks q q.at.pc) q n
first_names tasks feeds (sync.Fork task arguments) q n = begin_names feeds (instr_at tasks q q.at.pc) q n
first_names tasks feeds (sync.Join h) q n = begin_names feeds (instr_at tasks q q.at.pc) q n
first_names tasks feeds (sync.Barrier b) q n = begin_names feeds (instr_at tasks q q.at.pc) q n
first_names tasks feeds (sync.Settle register control) q n = begin_names feeds (instr_at tasks q q.at.pc) q n
first_names tasks feeds sync.End q n = begin_names feeds (instr_at tasks q q.at.pc) q n
first_names tasks feeds sync.BadIndex q n = begin_names feeds (instr_at tasks q q.at.pc) q n
first_names tasks feeds sync.Spent q n = begin_names feeds (instr_at tasks q q.at.pc) q n
