use Rattle.std.specs.Prelude.{◌<◌, ◌++◌, ◌∷◌, [], List, filter, get_or, length, map, not}
use Rattle.std.proofs.Common.{rules, ap, ◌∙◌}
use Rattle.mh_model.specs.declared.act.Act.{Act}
use Rattle.mh_model.specs.Step.{is_empty}
use Rattle.mh_layers.specs.declared.numbered_node.NumberedNode.TheVariants as node
use Rattle.mh_layers.proofs.EffectLemmas.{got_mapped}
use Rattle.mh_layers.proofs.LayeredLemmas.{numbers_more}
use Rattle.mh_layers.proofs.laying.roots.push_acting.Goals as goal

pub loop-number-preserved : goal.loop-number-preserved
loop-number-preserved c =
    let es = map (λ e. e.now) c.args.effects.now in
    let n = c.loop-number.number in
    let within : n < length c.args.effects.now = search rules in
    let own = got_mapped (λ e. e.now) c.args.effects.now n c.index-effects-number.result [] within c.index-effects-number.is in
    numbers_more (λ k. node.Effect c.args.config c.args.object k) (λ k. not (is_empty (get_or es k []))) n c.args.nodes.now.items
    c.loop-number.nodes.items c.push_if_acting.new.nodes.items c.loop-number.invariant
    (c.in_ok-push_if_acting.ensures
    ∙ ap (λ (xs : List Act). c.loop-number.nodes.items ++ map (λ k. node.Effect c.args.config c.args.object k) (filter (λ k. not (is_empty xs)) (n ∷ []))) own)
