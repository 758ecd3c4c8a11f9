use Rattle.std.proofs.Common.{◌≡◌, [], ◌∷◌, ◌++◌, unwrap_or, ap, ap₂, sym, ◌∙◌, subst}
use Rattle.std.specs.Prelude.{OnOk}
use Rattle.std.proofs.lemmas.List.{length-map}
use Rattle.task_ast.specs.meaning.Tree as tree
use Rattle.task_ast.specs.meaning.Names.{task_named, task_number}
use Rattle.task_ast.specs.View.{plain_expr, plain_exprs, plain_what, plain_block}
use Rattle.task_ast.proofs.Views.{stmt_At, what_SetCtl, what_While, what_If, what_Lock, what_Unlock, what_Fork, what_Join, what_Barrier, what_Settle}
use Rattle.task_code.specs.Instructions as plain
use Rattle.task_code.specs.Instructions.{At, GoOn}
use Rattle.task_code.specs.Lowering as lowering
use Rattle.task_code.specs.Lowering.{calc, forking, block_code, stmt_code}
use Rattle.task_code.specs.View.{plain_instr, plain_instrs}
use Rattle.task_code.specs.inner.Scopes.{scope_here}
use Rattle.task_code.proofs.Patches.{patched_while, patched_if}
use Rattle.task_code.proofs.StatementCode.{code_of_what, code_of_data}
use Rattle.task_code.proofs.control.+control.Goals as goal

pub lower_statement-returns-in_ok-lower_block-in-While : goal.lower_statement-returns-in_ok-lower_block-in-While
lower_statement-returns-in_ok-lower_block-in-While t c =
    let s = scope_here c.args.scope.now in
    let line = c.args.s.now.line in
    let base = plain_instrs c.args.code.now in
    let body = block_code s (plain_block c.in-While.body) in
    let lowered =
    c.in_ok-lower_block-in-While.ensures ∙ ap (λ b. plain_instrs c.put.new.code ++ block_code s (plain_block b)) c.as_slice.ensures in
    let is =
    stmt_At c.args.s.now ∙ ap (λ w. tree.At line (plain_what w)) c.in-While.is
    ∙ ap (tree.At line) (what_While c.in-While.e c.in-While.body) in
    subst (λ l. OnOk c.end_while.result (plain_instrs c.end_while.new.code ≡ l))
    (patched_while line (calc s (plain_expr c.in-While.e)) base body _ _ (At line (GoOn 0)) c.len-start.result
    (c.len-start.ensures ∙ sym (length-map c.args.code.now plain_instr)) c.in_ok-put-in-While.ensures lowered
    ∙ ap (λ st. base ++ stmt_code s st) (sym is))
    c.end_while.ensures

pub lower_statement-returns-in_ok-lower_block-in-If-2 : goal.lower_statement-returns-in_ok-lower_block-in-If-2
lower_statement-returns-in_ok-lower_block-in-If-2 t c =
    let s = scope_here c.args.scope.now in
    let line = c.args.s.now.line in
    let base = plain_instrs c.args.code.now in
    let first = block_code s (plain_block c.in-If.first) in
    let second = block_code s (plain_block c.in-If.second) in
    let lowered =
    c.in_ok-lower_block-in-If.ensures ∙ ap (λ b. plain_instrs c.put-in-If.new.code ++ block_code s (plain_block b))
    c.as_slice-in-If.ensures in
    let then_lowered =
    c.in_ok-lower_block-in-If-2.ensures ∙ ap
    (λ b. plain_instrs c.put-in-If-2.new.code ++ block_code s (plain_block b)) c.as_slice-in-If-2.ensures in
    let is =
    stmt_At c.args.s.now ∙ ap (λ w. tree.At line (plain_what w)) c.in-If.is
    ∙ ap (tree.At line) (what_If c.in-If.e c.in-If.first c.in-If.second) in
    subst (λ l. OnOk c.end_if.result (plain_instrs c.end_if.new.code ≡ l))
    (patched_if line (calc s (plain_expr c.in-If.e)) base first second _ _ _ _ (At line (GoOn 0))
    (At line (GoOn 0)) c.len-start-in-If.result c.len-middle.result
    (c.len-start-in-If.ensures ∙ sym (length-map c.args.code.now plain_instr)) c.in_ok-put-in-If.ensures lowered
    (c.len-middle.ensures ∙ sym (length-map c.lower_block-in-If.new.code plain_instr)) c.in_ok-put-in-If-2.ensures then_lowered
    ∙ ap (λ st. base ++ stmt_code s st) (sym is))
    c.end_if.ensures

pub lower_statement-returns-in_ok-lower_expr-in-SetCtl : goal.lower_statement-returns-in_ok-lower_expr-in-SetCtl
lower_statement-returns-in_ok-lower_expr-in-SetCtl t c =
    let s = scope_here c.args.scope.now in
    let line = c.args.s.now.line in
    subst (λ l. OnOk c.put-in-SetCtl.result (plain_instrs c.put-in-SetCtl.new.code ≡ plain_instrs c.args.code.now ++ l))
    (ap₂ (λ k e. At line (plain.Assign k e) ∷ []) c.control.ensures c.in_ok-lower_expr-in-SetCtl.ensures
    ∙ code_of_what s c.args.s.now (tree.SetCtl c.in-SetCtl.x (plain_expr c.in-SetCtl.e))
    (ap plain_what c.in-SetCtl.is ∙ what_SetCtl c.in-SetCtl.x c.in-SetCtl.e))
    c.put-in-SetCtl.ensures

pub lower_statement-returns-in-Lock : goal.lower_statement-returns-in-Lock
lower_statement-returns-in-Lock t c =
    let s = scope_here c.args.scope.now in
    let line = c.args.s.now.line in
    subst (λ l. OnOk c.put-in-Lock.result (plain_instrs c.put-in-Lock.new.code ≡ plain_instrs c.args.code.now ++ l))
    (ap₂ (λ cells i. At line (plain.Lock cells i) ∷ []) c.lock_array.ensures c.cell_index.ensures
    ∙ code_of_what s c.args.s.now (tree.Lock c.in-Lock.a c.in-Lock.i) (ap plain_what c.in-Lock.is ∙ what_Lock c.in-Lock.a c.in-Lock.i))
    c.put-in-Lock.ensures

pub lower_statement-returns-in-Unlock : goal.lower_statement-returns-in-Unlock
lower_statement-returns-in-Unlock t c =
    let s = scope_here c.args.scope.now in
    let line = c.args.s.now.line in
    subst (λ l. OnOk c.put-in-Unlock.result (plain_instrs c.put-in-Unlock.new.code ≡ plain_instrs c.args.code.now ++ l))
    (ap₂ (λ cells i. At line (plain.Unlock cells i) ∷ []) c.lock_array-in-Unlock.ensures c.cell_index-in-Unlock.ensures
    ∙ code_of_what s c.args.s.now (tree.Unlock c.in-Unlock.a c.in-Unlock.i)
    (ap plain_what c.in-Unlock.is ∙ what_Unlock c.in-Unlock.a c.in-Unlock.i))
    c.put-in-Unlock.ensures

pub lower_statement-returns-in_ok-forking-in-Fork : goal.lower_statement-returns-in_ok-forking-in-Fork
lower_statement-returns-in_ok-forking-in-Fork t c =
    let s = scope_here c.args.scope.now in
    let line = c.args.s.now.line in
    subst (λ l. OnOk c.put-in-Fork.result (plain_instrs c.put-in-Fork.new.code ≡ plain_instrs c.args.code.now ++ l))
    (ap (λ f. At line (plain.Fork f) ∷ []) (c.in_ok-forking-in-Fork.ensures
    ∙ ap₂ (λ es x. forking s (task_named s.program c.in-Fork.t) (unwrap_or (task_number s.program c.in-Fork.t) 0) (plain_exprs es) x)
    c.as_slice-in-Fork.ensures c.into_slot-into.ensures)
    ∙ code_of_what s c.args.s.now (tree.Fork c.in-Fork.t (plain_exprs c.in-Fork.es) c.in-Fork.x)
    (ap plain_what c.in-Fork.is ∙ what_Fork c.in-Fork.t c.in-Fork.es c.in-Fork.x))
    c.put-in-Fork.ensures

pub lower_statement-returns-in_ok-lower_expr-in-Join : goal.lower_statement-returns-in_ok-lower_expr-in-Join
lower_statement-returns-in_ok-lower_expr-in-Join t c =
    let s = scope_here c.args.scope.now in
    let line = c.args.s.now.line in
    subst (λ l. OnOk c.put-in-Join.result (plain_instrs c.put-in-Join.new.code ≡ plain_instrs c.args.code.now ++ l))
    (ap₂ (λ e x. At line (plain.Join e x) ∷ []) c.in_ok-lower_expr-in-Join.ensures c.into_slot-into-in-Join.ensures
    ∙ code_of_what s c.args.s.now (tree.Join (plain_expr c.in-Join.e) c.in-Join.x)
    (ap plain_what c.in-Join.is ∙ what_Join c.in-Join.e c.in-Join.x))
    c.put-in-Join.ensures

pub lower_statement-returns-in_ok-does-in-Barrier : goal.lower_statement-returns-in_ok-does-in-Barrier
lower_statement-returns-in_ok-does-in-Barrier t c =
    let s = scope_here c.args.scope.now in
    let line = c.args.s.now.line in
    subst (λ l. OnOk c.put-in-Barrier.result (plain_instrs c.put-in-Barrier.new.code ≡ plain_instrs c.args.code.now ++ l))
    (ap (λ d. At line d ∷ []) (c.in_ok-does-in-Barrier.ensures ∙ ap lowering.barrier_code c.barrier_place.ensures)
    ∙ code_of_what s c.args.s.now (tree.Barrier c.in-Barrier.b) (ap plain_what c.in-Barrier.is ∙ what_Barrier c.in-Barrier.b))
    c.put-in-Barrier.ensures

pub lower_statement-returns-in_ok-into-in-Settle : goal.lower_statement-returns-in_ok-into-in-Settle
lower_statement-returns-in_ok-into-in-Settle t c =
    let s = scope_here c.args.scope.now in
    let line = c.args.s.now.line in
    subst (λ l. OnOk c.put-in-Settle.result (plain_instrs c.put-in-Settle.new.code ≡ plain_instrs c.args.code.now ++ l))
    (ap₂ (λ from into. At line (plain.Settle from into) ∷ []) (c.in_ok-from-in-Settle.ensures ∙ c.register.ensures)
    (c.in_ok-into-in-Settle.ensures ∙ c.control-in-Settle.ensures)
    ∙ code_of_what s c.args.s.now (tree.Settle c.in-Settle.x c.in-Settle.c)
    (ap plain_what c.in-Settle.is ∙ what_Settle c.in-Settle.x c.in-Settle.c))
    c.put-in-Settle.ensures

pub lower_statement-returns-in_ok-lower_deed-in-SetReg : goal.lower_statement-returns-in_ok-lower_deed-in-SetReg
lower_statement-returns-in_ok-lower_deed-in-SetReg t c =
    let s = scope_here c.args.scope.now in
    subst (λ l. OnOk c.put-in-SetReg.result (plain_instrs c.put-in-SetReg.new.code ≡ plain_instrs c.args.code.now ++ l))
    (ap (λ d. At c.args.s.now.line (plain.Do d) ∷ []) c.in_ok-lower_deed-in-SetReg.ensures ∙ code_of_data s c.args.s.now c.in-SetReg.is)
    c.put-in-SetReg.ensures
