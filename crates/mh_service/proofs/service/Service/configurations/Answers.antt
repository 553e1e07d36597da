use Rattle.mh_service.proofs.OnceLemmas.{each_once}
use Rattle.mh_service.proofs.service.Service.configurations.Goals as goal

-- the names of the groups come each once
pub returns-clause-once : goal.returns-clause-once
returns-clause-once c =
    rw (c.in_ok-configs.ensures, c.as_slice.ensures.value, c.as_slice-2.ensures.value, c.in_ok-applications.ensures.each, c.in_ok-scenes.ensures.each) (each_once c.args.self.now c.in_ok-applications.ensures.once)
