use Rattle.std.proofs.Common.{◌++◌, ◌∷◌, [], ap, ◌∙◌, suc, length, List}
use Rattle.std.specs.List.{flat_map}
use Rattle.mh_model.specs.declared.object.member.Member.{Member}
use Rattle.mh_flow.specs.Sites.{Site, through_effects}
use Rattle.mh_flow.proofs.SiteLemmas.{slots_behind}
use Rattle.mh_flow.proofs.sites.sites.Goals as goal

pub returns : goal.returns
returns c =
    let rest = flat_map (λ (m : Member). m.slots) c.members.result.now in
    let k = c.args.part.now.key in
    c.in_ok-push_members.ensures
    ∙ slots_behind k c.push_effect-2.new.sites.items c.push_effect-3.new.sites.items (c.effect_of-3.result.now ∷ []) rest c.in_ok-push_effect-3.ensures
    ∙ slots_behind k c.push_effect.new.sites.items c.push_effect-2.new.sites.items (c.effect_of-2.result.now ∷ []) (c.effect_of-3.result.now ∷ rest) c.in_ok-push_effect-2.ensures
    ∙ slots_behind k c.new-sites.result.items c.push_effect.new.sites.items (c.effect_of.result.now ∷ []) (c.effect_of-2.result.now ∷ c.effect_of-3.result.now ∷ rest) c.in_ok-push_effect.ensures
    ∙ ap (λ (t : List Site). t ++ through_effects k (suc (length t)) (c.effect_of.result.now ∷ c.effect_of-2.result.now ∷ c.effect_of-3.result.now ∷ rest)) c.new-sites.ensures.items
    ∙ (λ i. through_effects k 1 (c.effect_of.ensures i ∷ c.effect_of-2.ensures i ∷ c.effect_of-3.ensures i ∷ flat_map (λ (m : Member). m.slots) (c.members.ensures i)))
