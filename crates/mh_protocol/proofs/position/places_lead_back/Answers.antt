use Rattle.mh_protocol.proofs.BackLemmas.{lead_back}
use Rattle.mh_protocol.proofs.position.places_lead_back.Goals as goal

pub returns : goal.returns
returns c = lead_back
