-- The statements left, as blocks are entered and left.
use Rattle.std.proofs.Common.{◌≡◌, List, [], ◌∷◌, ◌++◌, refl, ap, ◌∙◌, sym, append_assoc, append-nil, length, ◌<◌, arith}
use Rattle.std.specs.Borrow.{Bor}
use Rattle.task_ast.specs.declared.tree.Stmt as code
use Rattle.one_thread.specs.declared.left.Left.{Left}
use Rattle.task_ast.specs.meaning.Tree.{Stmt, block, statements}
use Rattle.task_ast.specs.View.{plain_stmts}
use Rattle.one_thread.specs.inner.Remaining.{around_of, left_of}

around-push : (around : List (Bor (List code.Stmt))) (b : Bor (List code.Stmt))
    → around_of (around ++ b ∷ []) ≡ plain_stmts b.now ++ around_of around
around-push [] b = sym (append-nil (plain_stmts b.now))
around-push (x ∷ around) b =
    ap (λ l. l ++ plain_stmts x.now) (around-push around b) ∙ append_assoc (plain_stmts b.now) (around_of around) (plain_stmts x.now)

-- a block is put around
pub around-more : (around more : List (Bor (List code.Stmt))) (b : Bor (List code.Stmt)) → more ≡ around ++ b ∷ []
    → around_of more ≡ plain_stmts b.now ++ around_of around
around-more around more b is = ap around_of is ∙ around-push around b

-- a present block that is done is left
pub left-popped : (left : Left) (b : Bor (List code.Stmt)) (around : List (Bor (List code.Stmt))) → left.present.now ≡ []
    → left.around.items ≡ around ++ b ∷ []
    → plain_stmts b.now ++ around_of around ≡ left_of left
left-popped left b around done popped =
    sym (around-more around left.around.items b popped) ∙ sym (ap (λ l. plain_stmts l ++ around_of left.around.items) done)

pub statements-block : (stmts : List Stmt) → statements (block stmts) ≡ stmts
statements-block [] = refl
statements-block (s ∷ stmts) = ap (λ l. s ∷ l) (statements-block stmts)

pub none-below : (xs : List code.Stmt) → length xs < 1 → xs ≡ []
none-below [] below = refl
none-below (x ∷ xs) below = absurd (omega arith)
