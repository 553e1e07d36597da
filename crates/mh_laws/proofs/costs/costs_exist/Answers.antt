use Rattle.mh_laws.proofs.LayerLemmas.{costs_agree, costs_exist, layerings_told}
use Rattle.mh_laws.proofs.costs.costs_exist.Goals as goal

pub returns-clause-exist : goal.returns-clause-exist
returns-clause-exist c = costs_exist

pub returns-clause-agree : goal.returns-clause-agree
returns-clause-agree c = costs_agree

pub returns-clause-told : goal.returns-clause-told
returns-clause-told c = layerings_told
