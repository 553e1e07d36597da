use Rattle.mh_flow.proofs.present.leads_to.Goals as goal

-- whatever the configuration is that is left
pub returns-in-Launch : goal.returns-in-Launch
returns-in-Launch c = rw c.in-Launch.is (c.to_application.ensures c.args.config.now)
