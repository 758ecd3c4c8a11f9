-- An index that is made head by head and task by task.
use Rattle.std.proofs.Common.{◌≡◌, ℕ, ℤ, List, [], ◌∷◌, ◌++◌, Bool, true, false, cond, Option, Some, None, refl, ap, ◌∙◌, sym, map}
use Rattle.std.specs.Prelude.{OnOk, Result, Ok, Err, ◌||◌, is_some, if◌then◌else◌, option_map, find}
use Rattle.std.specs.Borrow.{Bor}
use Rattle.task_ast.specs.declared.tree.Head.{Head}
use Rattle.task_ast.specs.declared.tree.Head.TheVariants.{LockHead, BarrierHead, RecHead, FeedHead}
use Rattle.task_ast.specs.declared.tree.Program.{Program}
use Rattle.task_ast.specs.declared.tree.TaskText.{TaskText}
use Rattle.task_ast.specs.meaning.Tree.{Name}
use Rattle.task_ast.specs.meaning.Names.{is_name, is_among, is_task, natural, named, locks_of, arrays_over, barriers_of, feeds_of}
use Rattle.task_ast.specs.View.{plain_task}
use Rattle.lock_checker.specs.declared.index.ProgramIndex.{ProgramIndex}
use Rattle.lock_checker.specs.declared.symbol_table.SymbolTable.{SymbolTable}
use Rattle.lock_checker.specs.Tables.{found, or_else}
use Rattle.lock_checker.specs.inner.Indexes.{Finds, IsIndexOf, target}
use Rattle.lock_checker.proofs.TableLemmas.{or_else-None, is_some-put, option_map-or_else, option_map-if, or_assoc, or-false}
use Rattle.lock_checker.proofs.VariableLemmas.{HasAlso, stands_also}

cond_or : {T : Type 0} (here : Bool) (v : T) (a b c : Option T) → a ≡ or_else b c → cond here (Some v) a ≡ or_else (cond here (Some v) b) c
cond_or true v a b c rest = refl
cond_or false v a b c rest = rest

module _ (x : Name) where
  -- what is declared by this name, with a head more
  locks-more : (heads : List Head) (h : Head)
      → named x (locks_of (heads ++ h ∷ [])) ≡ or_else (named x (locks_of heads)) (named x (locks_of (h ∷ [])))
  locks-more [] h = refl
  locks-more (LockHead name size line ∷ heads) h = cond_or (is_name x name) (natural size) _ _ _ (locks-more heads h)
  locks-more (BarrierHead name number line ∷ heads) h = locks-more heads h
  locks-more (RecHead name size by from line ∷ heads) h = locks-more heads h
  locks-more (FeedHead name fields from line ∷ heads) h = locks-more heads h

  arrays-more : (heads : List Head) (h : Head)
      → named x (arrays_over (heads ++ h ∷ [])) ≡ or_else (named x (arrays_over heads)) (named x (arrays_over (h ∷ [])))
  arrays-more [] h = refl
  arrays-more (LockHead name size line ∷ heads) h = arrays-more heads h
  arrays-more (BarrierHead name number line ∷ heads) h = arrays-more heads h
  arrays-more (RecHead name size by from line ∷ heads) h = cond_or (is_name x name) by _ _ _ (arrays-more heads h)
  arrays-more (FeedHead name fields from line ∷ heads) h = arrays-more heads h

  barriers-more : (heads : List Head) (h : Head)
      → named x (barriers_of (heads ++ h ∷ [])) ≡ or_else (named x (barriers_of heads)) (named x (barriers_of (h ∷ [])))
  barriers-more [] h = refl
  barriers-more (LockHead name size line ∷ heads) h = barriers-more heads h
  barriers-more (BarrierHead name number line ∷ heads) h = cond_or (is_name x name) (natural number) _ _ _ (barriers-more heads h)
  barriers-more (RecHead name size by from line ∷ heads) h = barriers-more heads h
  barriers-more (FeedHead name fields from line ∷ heads) h = barriers-more heads h

  feeds-more : (heads : List Head) (h : Head)
      → is_among x (feeds_of (heads ++ h ∷ [])) ≡ (is_among x (feeds_of heads) || is_among x (feeds_of (h ∷ [])))
  feeds-more [] h = refl
  feeds-more (LockHead name size line ∷ heads) h = feeds-more heads h
  feeds-more (BarrierHead name number line ∷ heads) h = feeds-more heads h
  feeds-more (RecHead name size by from line ∷ heads) h = feeds-more heads h
  feeds-more (FeedHead name fields from line ∷ heads) h =
      ap (λ b. is_name x name || b) (feeds-more heads h)
      ∙ sym (or_assoc (is_name x name) (is_among x (feeds_of heads)) (is_among x (feeds_of (h ∷ []))))

  tasks-more : (texts : List TaskText) (t : TaskText)
      → find (is_task x) (map plain_task (texts ++ t ∷ []))
      ≡ or_else (find (is_task x) (map plain_task texts)) (if is_name x t.name then Some (plain_task t) else None)
  tasks-more [] t = refl
  tasks-more (text ∷ texts) t = cond_or (is_name x text.name) (plain_task text) _ _ _ (tasks-more texts t)

-- a table has what it had before, and this value under this name
abbrev pub Puts : {T : Type 0} → SymbolTable T → SymbolTable T → Name → T → Type 0
Puts old new name v = (x : Name) → found new x ≡ or_else (found old x) (if is_name x name then Some v else None)

module _ (old : ProgramIndex) (heads : List Head) (texts : List TaskText) (were : Finds old heads texts) where
  locks-stay : (h : Head) (x : Name) → named x (locks_of (h ∷ [])) ≡ None → found old.locks x ≡ named x (locks_of (heads ++ h ∷ []))
  locks-stay h x none =
      were.locks x ∙ sym (locks-more x heads h ∙ ap (or_else (named x (locks_of heads))) none ∙ or_else-None (named x (locks_of heads)))

  arrays-stay : (h : Head) (x : Name) → named x (arrays_over (h ∷ [])) ≡ None
      → option_map target (found old.arrays x) ≡ named x (arrays_over (heads ++ h ∷ []))
  arrays-stay h x none =
      were.arrays x
      ∙ sym (arrays-more x heads h ∙ ap (or_else (named x (arrays_over heads))) none ∙ or_else-None (named x (arrays_over heads)))

  barriers-stay : (h : Head) (x : Name) → named x (barriers_of (h ∷ [])) ≡ None
      → is_some (found old.barriers x) ≡ is_some (named x (barriers_of (heads ++ h ∷ [])))
  barriers-stay h x none =
      were.barriers x ∙ ap is_some
      (sym (barriers-more x heads h ∙ ap (or_else (named x (barriers_of heads))) none ∙ or_else-None (named x (barriers_of heads))))

  feeds-stay : (h : Head) (x : Name) → is_among x (feeds_of (h ∷ [])) ≡ false
      → is_some (found old.feeds x) ≡ is_among x (feeds_of (heads ++ h ∷ []))
  feeds-stay h x none =
      were.feeds x
      ∙ sym (feeds-more x heads h ∙ ap (λ b. is_among x (feeds_of heads) || b) none ∙ or-false (is_among x (feeds_of heads)))

  pub with_lock : (name : Name) (size : ℤ) (line count : ℕ) (new : SymbolTable ℕ) → count ≡ natural size → Puts old.locks new name count
      → Finds (record { locks = new; arrays = old.arrays; barriers = old.barriers; feeds = old.feeds; tasks = old.tasks })
      (heads ++ LockHead name size line ∷ []) texts
  with_lock name size line count new is put =
      let h = LockHead name size line in
      record {
        locks = λ x. put x ∙ ap (λ n. or_else (found old.locks x) (if is_name x name then Some n else None)) is
            ∙ ap (λ o. or_else o (if is_name x name then Some (natural size) else None)) (were.locks x)
            ∙ sym (locks-more x heads h);
        arrays = λ x. arrays-stay h x refl;
        barriers = λ x. barriers-stay h x refl;
        feeds = λ x. feeds-stay h x refl;
        tasks = were.tasks;
      }

  pub with_barrier : (name : Name) (number : ℤ) (line : ℕ) (new : SymbolTable (Unit {0})) → HasAlso old.barriers new name
      → Finds (record { locks = old.locks; arrays = old.arrays; barriers = new; feeds = old.feeds; tasks = old.tasks })
      (heads ++ BarrierHead name number line ∷ []) texts
  with_barrier name number line new put =
      let h = BarrierHead name number line in
      record {
        locks = λ x. locks-stay h x refl;
        arrays = λ x. arrays-stay h x refl;
        barriers = λ x. ap is_some (put x) ∙ is_some-put (found old.barriers x) (is_name x name) tt
            ∙ ap (λ b. b || is_name x name) (were.barriers x)
            ∙ sym (is_some-put (named x (barriers_of heads)) (is_name x name) (natural number))
            ∙ ap is_some (sym (barriers-more x heads h));
        feeds = λ x. feeds-stay h x refl;
        tasks = were.tasks;
      }

  with_record : (name : Name) (size : ℤ) (over : Bor Name) (from : Option Name) (line : ℕ) (new : SymbolTable (Bor Name))
      → Puts old.arrays new name over
      → Finds (record { locks = old.locks; arrays = new; barriers = old.barriers; feeds = old.feeds; tasks = old.tasks })
      (heads ++ RecHead name size over.now from line ∷ []) texts
  with_record name size over from line new put =
      let h = RecHead name size over.now from line in
      record {
        locks = λ x. locks-stay h x refl;
        arrays = λ x. ap (option_map target) (put x)
            ∙ option_map-or_else target (found old.arrays x) (if is_name x name then Some over else None)
            ∙ ap (or_else (option_map target (found old.arrays x))) (option_map-if target (is_name x name) over)
            ∙ ap (λ o. or_else o (if is_name x name then Some over.now else None)) (were.arrays x)
            ∙ sym (arrays-more x heads h);
        barriers = λ x. barriers-stay h x refl;
        feeds = λ x. feeds-stay h x refl;
        tasks = were.tasks;
      }

  pub with_feed : (name : Name) (fields : ℤ) (from : Name) (line : ℕ) (new : SymbolTable (Unit {0})) → HasAlso old.feeds new name
      → Finds (record { locks = old.locks; arrays = old.arrays; barriers = old.barriers; feeds = new; tasks = old.tasks })
      (heads ++ FeedHead name fields from line ∷ []) texts
  with_feed name fields from line new put =
      let h = FeedHead name fields from line in
      record {
        locks = λ x. locks-stay h x refl;
        arrays = λ x. arrays-stay h x refl;
        barriers = λ x. barriers-stay h x refl;
        feeds = λ x. stands_also old.feeds new name x (is_among x (feeds_of heads)) put (were.feeds x) ∙ sym (feeds-more x heads h);
        tasks = were.tasks;
      }

  pub with_task : (text : Bor TaskText) (new : SymbolTable (Bor TaskText)) → Puts old.tasks new text.now.name text
      → Finds (record { locks = old.locks; arrays = old.arrays; barriers = old.barriers; feeds = old.feeds; tasks = new })
      heads (texts ++ text.now ∷ [])
  with_task text new put =
      record {
        locks = were.locks;
        arrays = were.arrays;
        barriers = were.barriers;
        feeds = were.feeds;
        tasks = λ x. ap (option_map (λ (t : Bor TaskText). plain_task t.now)) (put x)
            ∙ option_map-or_else (λ (t : Bor TaskText). plain_task t.now) (found old.tasks x)
            (if is_name x text.now.name then Some text else None)
            ∙ ap (or_else (option_map (λ (t : Bor TaskText). plain_task t.now) (found old.tasks x)))
            (option_map-if (λ (t : Bor TaskText). plain_task t.now) (is_name x text.now.name) text)
            ∙ ap (λ o. or_else o (if is_name x text.now.name then Some (plain_task text.now) else None)) (were.tasks x)
            ∙ sym (tasks-more x texts text.now);
      }

-- a record that is put, where memory is not out
pub record_put : {T E : Type 0} (r : Result T E) (old : ProgramIndex) (name : Name) (size : ℤ) (over : Bor Name) (from : Option Name)
    (line : ℕ) (new : SymbolTable (Bor Name)) → OnOk r (Puts old.arrays new name over)
    → OnOk r ((heads : List Head) (texts : List TaskText) → Finds old heads texts
    → Finds (record { locks = old.locks; arrays = new; barriers = old.barriers; feeds = old.feeds; tasks = old.tasks })
    (heads ++ RecHead name size over.now from line ∷ []) texts)
record_put (Ok v) old name size over from line new put = λ heads texts were.
    with_record old heads texts were name size over from line new put
record_put (Err e) old name size over from line new put = put

-- an index of all heads and all tasks is the index of the program
pub index_made : (index : ProgramIndex) (program : Program) → Finds index program.heads program.tasks → IsIndexOf index program
index_made index program made = record {
  locks = made.locks;
  arrays = made.arrays;
  barriers = made.barriers;
  feeds = made.feeds;
  tasks = made.tasks;
}
