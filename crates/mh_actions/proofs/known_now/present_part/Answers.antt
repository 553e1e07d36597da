use Rattle.std.specs.Option.{option_map}
use Rattle.std.proofs.Common.{◌∙◌, ap, sym}
use Rattle.mh_model.specs.declared.object.Object.{Object}
use Rattle.mh_model.specs.State.{all}
use Rattle.mh_model.proofs.PartLemmas.{part_at-parts}
use Rattle.mh_actions.proofs.known_now.present_part.Goals as goal

pub returns : goal.returns
returns c =
    c.part_of.ensures
    ∙ ap (option_map (λ (x : Object). x.fixed)) c.get.ensures
    ∙ sym (part_at-parts c.args.at.now (all c.args.objects.now))
