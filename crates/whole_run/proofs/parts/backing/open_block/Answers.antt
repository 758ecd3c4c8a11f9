use Rattle.std.proofs.Common.{refl, sym, ◌∙◌}
use Rattle.std.proofs.lemmas.Bool.{false≢true}
use Rattle.whole_run.specs.inner.Backed.{HasCut}
use Rattle.whole_run.specs.inner.Kept.{batch_in}
use Rattle.whole_run.proofs.BlockOpened.{kept-same, home-then, kept-opened, is-opened}
use Rattle.whole_run.proofs.parts.backing.open_block.Goals as goal

pub returns-in_err-reserve-clause-kept : goal.returns-in_err-reserve-clause-kept
returns-in_err-reserve-clause-kept c =
    kept-same (batch_in c.args.plan.now) c.args.parts.now c.requires.kept
    (record { whole = c.args.parts.now.backup.whole; checkpoints = c.reserve.new.self }) refl c.reserve.ensures.items

pub copy-requires : goal.copy-requires
copy-requires c =
    home-then (batch_in c.args.plan.now) c.args.parts.now c.requires.kept c.in-Rollback.every c.in-Rollback.is c.args.position c.in-Some.cut
    c.requires.may c.in-Some.ensures
    (λ (has : HasCut c.args.parts.now.backup.checkpoints.items c.in-Some.cut).
    false≢true (sym c.if-has_checkpoint.false ∙ c.has_checkpoint.ensures.1 has))

pub returns-in_err-store-clause-kept : goal.returns-in_err-store-clause-kept
returns-in_err-store-clause-kept c =
    kept-same (batch_in c.args.plan.now) c.args.parts.now c.requires.kept
    (record { whole = c.args.parts.now.backup.whole; checkpoints = c.reserve.new.self }) refl c.reserve.ensures.items

pub returns-clause-kept : goal.returns-clause-kept
returns-clause-kept c =
    kept-opened (batch_in c.args.plan.now) c.args.parts.now c.requires.kept c.in-Rollback.every c.in-Rollback.is c.args.position
    c.in-Some.cut c.requires.may c.in-Some.ensures
    (λ (has : HasCut c.args.parts.now.backup.checkpoints.items c.in-Some.cut).
    false≢true (sym c.if-has_checkpoint.false ∙ c.has_checkpoint.ensures.1 has))
    c.in_ok-store.store c.in_ok-store.ensures c.reserve.new.self.items c.reserve.ensures.items
    (record { whole = c.args.parts.now.backup.whole; checkpoints = c.push_back_reserved.new.self }) refl c.push_back_reserved.ensures.items

pub returns-clause-opened : goal.returns-clause-opened
returns-clause-opened c =
    is-opened (batch_in c.args.plan.now) c.args.parts.now c.requires.kept c.in-Rollback.every c.in-Rollback.is c.args.position c.in-Some.cut
    c.requires.may c.in-Some.ensures
    (λ (has : HasCut c.args.parts.now.backup.checkpoints.items c.in-Some.cut).
    false≢true (sym c.if-has_checkpoint.false ∙ c.has_checkpoint.ensures.1 has))
    c.in_ok-store.store c.in_ok-store.ensures c.reserve.new.self.items c.reserve.ensures.items
    (record { whole = c.args.parts.now.backup.whole; checkpoints = c.push_back_reserved.new.self }) refl c.push_back_reserved.ensures.items
