use Rattle.std.proofs.Common.{rules, ◌≡◌, ◌∙◌, ℕ, List, true, false, [], sym, subst, Err}
use Rattle.sqlite.specs.Held.{state}
use Rattle.db_steps.proofs.Joins.{step_then, step_none, clean_before}
use Rattle.db_tables.specs.Queries.{select_of}
use Rattle.db_tables.specs.Faults.{IsCause, IsSeenFault}
use Rattle.db_tables.proofs.Causes.{if_error, plain_cause, seen_cause, read_cause, order_causes}
use Rattle.db_tables.proofs.Seen.{step_as, step_fails, shows_as, are_read}
use Rattle.db_tables.proofs.sources.read_source.Goals as goal

pub returns-in_err-query-clause-step : goal.returns-in_err-query-clause-step
returns-in_err-query-clause-step g c = step_none g.S.Store c.args.tx.now.conn.now _

pub returns-in_err-rows-clause-step : goal.returns-in_err-rows-clause-step
returns-in_err-rows-clause-step g c =
    let old = c.args.tx.now.conn.now in
    let new = c.rows_of.new.tx.conn.now in
    let is : c.from_residual-in_err-rows.result ≡ Err c.in_err-rows.field-0.0 = search rules in
    step_fails g.S.Store old new c.from_residual-in_err-rows.result c.in_err-rows.field-0.0 is
    (step_then g.S.Store old c.see_table.new.tx.conn.now new false c.in_ok-see_table.ensures.step c.in_err-rows.ensures.step)

pub returns-clause-step : goal.returns-clause-step
returns-clause-step g c =
    let old = c.args.tx.now.conn.now in
    let new = c.rows_of.new.tx.conn.now in
    step_as g.S.Store old new _ (step_then g.S.Store old c.see_table.new.tx.conn.now new true c.in_ok-see_table.ensures.step c.in_ok-rows.ensures.step)

pub returns-clause-read : goal.returns-clause-read
returns-clause-read g c clean =
    let old = c.args.tx.now.conn.now in
    let mid = c.see_table.new.tx.conn.now in
    let new = c.rows_of.new.tx.conn.now in
    let same = c.in_ok-see_table.ensures.unchanged (clean_before g.S.Store mid new true c.in_ok-rows.ensures.step clean) in
    let shown = shows_as g.S.Store _ (select_of c.args.source.now) [] (state g.S.Store old).now (state g.S.Store mid).now (state g.S.Store new).now _ c.as_slice.result.now
    (c.as_str-2.ensures.value ∙ c.in_ok-query.ensures.select) same (sym c.as_slice.ensures.value) (c.in_ok-rows.ensures.shown clean) in
    are_read g.S.Store c.args.source.now (state g.S.Store old).now (state g.S.Store new).now c.as_slice.result.now c.file_of.result shown c.file_of.ensures.ordered
    c.file_of.ensures.text

pub returns-clause-cause : goal.returns-clause-cause
returns-clause-cause g c clean =
    let old = c.args.tx.now.conn.now in
    let mid = c.see_table.new.tx.conn.now in
    let new = c.rows_of.new.tx.conn.now in
    let same = c.in_ok-see_table.ensures.unchanged (clean_before g.S.Store mid new true c.in_ok-rows.ensures.step clean) in
    let shown = shows_as g.S.Store _ (select_of c.args.source.now) [] (state g.S.Store old).now (state g.S.Store mid).now (state g.S.Store new).now _ c.as_slice.result.now
    (c.as_str-2.ensures.value ∙ c.in_ok-query.ensures.select) same (sym c.as_slice.ensures.value) (c.in_ok-rows.ensures.shown clean) in
    order_causes g.S.Store c.args.source.now (state g.S.Store old).now (state g.S.Store new).now c.as_slice.result.now shown c.file_of.result c.file_of.ensures.cause

pub returns-in_err-query-clause-cause : goal.returns-in_err-query-clause-cause
returns-in_err-query-clause-cause g c clean =
    let old = c.args.tx.now.conn.now in
    let is : c.from_residual.result ≡ Err c.in_err-query.field-0.0 = search rules in
    if_error (IsCause g.S.Store c.args.source.now (state g.S.Store old).now (state g.S.Store old).now) c.from_residual.result c.in_err-query.field-0.0 is
    (plain_cause g.S.Store c.args.source.now (state g.S.Store old).now (state g.S.Store old).now c.in_err-query.field-0.0 c.in_err-query.ensures.cause)

pub returns-in_err-see_table-clause-cause : goal.returns-in_err-see_table-clause-cause
returns-in_err-see_table-clause-cause g c clean =
    let old = c.args.tx.now.conn.now in
    let mid = c.see_table.new.tx.conn.now in
    let fault = c.in_err-see_table.field-0.0 in
    let is : c.from_residual-in_err-see_table.result ≡ Err fault = search rules in
    if_error (IsCause g.S.Store c.args.source.now (state g.S.Store old).now (state g.S.Store mid).now) c.from_residual-in_err-see_table.result fault is
    (seen_cause g.S.Store c.args.source.now (state g.S.Store old).now (state g.S.Store mid).now fault
    (subst (λ (whole : List ℕ). IsSeenFault (state g.S.Store old).now.schema whole fault) (c.as_str.ensures.value ∙ c.in_ok-query.ensures.whole) (c.in_err-see_table.ensures.cause clean)))

pub returns-in_err-rows-clause-cause : goal.returns-in_err-rows-clause-cause
returns-in_err-rows-clause-cause g c clean =
    let old = c.args.tx.now.conn.now in
    let new = c.rows_of.new.tx.conn.now in
    let fault = c.in_err-rows.field-0.0 in
    let is : c.from_residual-in_err-rows.result ≡ Err fault = search rules in
    if_error (IsCause g.S.Store c.args.source.now (state g.S.Store old).now (state g.S.Store new).now) c.from_residual-in_err-rows.result fault is
    (read_cause g.S.Store c.args.source.now (state g.S.Store old).now (state g.S.Store new).now fault c.in_err-rows.ensures.cause)
