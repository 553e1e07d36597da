use Rattle.mh_machine.proofs.ChangeLemmas.{holds_changed}
use Rattle.mh_machine.proofs.works.Works.commit_give.Goals as goal

pub invariant_of-self : goal.invariant_of-self
invariant_of-self c =
    holds_changed _ _ c.self.inside.stage.objects c.give.new.self.objects _ _ _ _ c.give.ensures.own c.give.ensures.others c.self.invariant.counted c.self.invariant
