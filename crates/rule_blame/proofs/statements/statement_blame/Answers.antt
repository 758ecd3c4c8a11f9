use Rattle.rule_blame.specs.Views.{pairs_of}
use Rattle.rule_blame.proofs.Blaming.{widen}
use Rattle.rule_blame.proofs.statements.statement_blame.Goals as goal

pub returns-in-UnknownName : goal.returns-in-UnknownName
returns-in-UnknownName c = widen _ _ c.name_blame.result (λ found told line. told line (pairs_of c.args.held.now)) c.name_blame.ensures

pub returns-in-DataInControl : goal.returns-in-DataInControl
returns-in-DataInControl c =
    widen _ _ c.name_blame-in-DataInControl.result (λ found told line. told line (pairs_of c.args.held.now))
    c.name_blame-in-DataInControl.ensures

pub returns-in-WrongCount : goal.returns-in-WrongCount
returns-in-WrongCount c = λ line. c.counts.ensures line (pairs_of c.args.held.now)
