use Rattle.std.proofs.Common.{◌≡◌}
use Rattle.mh_model.specs.Service.{parts}
use Rattle.mh_machine.specs.Plans.{given_all}
use Rattle.mh_machine.proofs.committing.applying.give.Given as goal

abbrev pub invariant-loop-gift : goal.invariant-loop-gift
invariant-loop-gift l =
    (given_all l.gift-iterator.rest.items l.stage.objects ≡ given_all l.initial.gift-iterator.rest.items l.initial.stage.objects)
    × (parts l.stage.objects.application ≡ parts l.initial.stage.objects.application)
    × (parts l.stage.objects.scene ≡ parts l.initial.stage.objects.scene)
    × (l.stage.stack ≡ l.initial.stage.stack)
    × (l.stage.room ≡ l.initial.stage.room)
