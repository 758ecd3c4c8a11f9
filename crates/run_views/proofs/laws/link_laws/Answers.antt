use Rattle.run_views.proofs.Chains.{link-law, chain-law}
use Rattle.run_views.proofs.laws.link_laws.Goals as goal

pub returns : goal.returns
returns c = record { link = link-law; chain = chain-law }
