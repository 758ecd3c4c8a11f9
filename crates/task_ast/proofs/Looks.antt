-- Looks at threads, one after another.
use Rattle.std.proofs.Common.{◌≡◌, ℕ, suc, ◌-◌, ◌<◌, Bool, true, false, cond, List, [], ◌∷◌, ◌++◌, length, Option, Some, None, refl, sym, ap, ◌∙◌, arith, get_or}
use Rattle.std.specs.Prelude.{slice_get}
use Rattle.std.proofs.lemmas.Bool.{false≢true}
use Rattle.std.proofs.lemmas.Option.{slice_get-get_or}
use Rattle.task_ast.specs.declared.sync.Next.{Next}
use Rattle.task_ast.specs.meaning.Table.{numbers, is_end}
use Rattle.task_ast.specs.Table.{Table, next_of, is_known_end}
use Rattle.task_ast.specs.Turn.{Look, To, Unknown, NoThread, look, look_at}

-- what is read at an index within the list
pub get-at : {X : Type 0} (xs : List X) (i : ℕ) (x : X) → i < length xs → x ≡ get_or xs i x → slice_get xs i ≡ Some x
get-at xs i x l e = slice_get-get_or xs i x l ∙ ap Some (sym e)

pub numbers-first : (t to : ℕ) → t < to → numbers t (to - t) ≡ t ∷ numbers (suc t) (to - suc t)
numbers-first t to l = let e : to - t ≡ suc (to - suc t) = omega arith in rw e refl

pub skipped : (t : ℕ) (o : Option Next) (others : Look) → is_known_end o ≡ true → look_at t o others ≡ others
skipped t None others e = absurd (false≢true e)
skipped t (Some next) others e = rw e refl

-- the first look that finds a thread
abbrev pub or_look : Look → Look → Look
or_look NoThread other = other
or_look (To t next) other = To t next
or_look (Unknown t) other = Unknown t

look_at-or : (t : ℕ) (o : Option Next) (a b : Look) → look_at t o (or_look a b) ≡ or_look (look_at t o a) b
look_at-or t None a b = refl
look_at-or t (Some next) a b = go (is_end next.sync)
  where
    go : (e : Bool) → cond e (or_look a b) (To t next) ≡ or_look (cond e a (To t next)) b
    go true = refl
    go false = refl

pub look-append : (table : Table) (xs ys : List ℕ) → look table (xs ++ ys) ≡ or_look (look table xs) (look table ys)
look-append table [] ys = refl
look-append table (t ∷ ts) ys =
    ap (look_at t (next_of table t)) (look-append table ts ys) ∙ look_at-or t (next_of table t) (look table ts) (look table ys)
