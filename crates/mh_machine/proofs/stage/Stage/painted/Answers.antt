use Rattle.std.proofs.Common.{rules, ap, ◌∙◌}
use Rattle.mh_model.specs.Picture.{picture}
use Rattle.mh_model.specs.State.{all}
use Rattle.mh_machine.specs.Stage.{Staged}
use Rattle.mh_machine.proofs.StageLemmas.{clean_picture_as}
use Rattle.mh_machine.proofs.stage.Stage.painted.Goals as goal

pub returns : goal.returns
returns c =
    clean_picture_as (all c.self.inside.objects) c.self.inside.stack.places c.self.inside.screen c.picture-picture.result.now
    c.picture-picture.ensures (search rules) c.self.invariant (search rules)
    ∙ ap (λ (s : Staged). picture (all s.objects) s.stack) c.self.view_is
