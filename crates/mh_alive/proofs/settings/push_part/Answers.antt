use Rattle.std.proofs.Common.{◌≡◌, ◌++◌, ◌∙◌, List, OnOk, subst}
use Rattle.mh_alive.specs.declared.settings.Setting.{Setting}
use Rattle.mh_alive.specs.There.{sets_there}
use Rattle.mh_alive.proofs.GatheringLemmas.{part_settings}
use Rattle.mh_alive.proofs.settings.push_part.Goals as goal

pub returns : goal.returns
returns c =
    subst (λ (ss : List Setting). OnOk c.push_sites.result (c.push_sites.new.settings.items ≡ c.args.settings.now.items ++ ss))
    (part_settings (sets_there c.args.there.now) c.args.part.now c.as_slice.result.now (c.as_slice.ensures.value ∙ c.in_ok-own.ensures)) c.push_sites.ensures
