use Rattle.std.proofs.Common.{◌∙◌}
use Rattle.mh_service.proofs.Lookups.{insert_new}
use Rattle.mh_service.proofs.service.add.Goals as goal

-- the name is new, so its entry goes last
pub returns-clause-added : goal.returns-clause-added
returns-clause-added c =
    c.in_ok-insert.ensures.entries ∙ insert_new c.args.groups.now c.in_ok-name.name c.args.file.now.0 _ _ c.in_ok-name.ensures.cases c.in_ok-parts.ensures.found c.requires
