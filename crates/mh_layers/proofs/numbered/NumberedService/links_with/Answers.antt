use Rattle.std.proofs.Common.{◌≡◌, ◌&&◌, Some, filter, slice_get, subst}
use Rattle.mh_base.specs.declared.value.Value.{Value}
use Rattle.mh_model.specs.Service.{group_parts}
use Rattle.mh_model.specs.Variables.{same_value}
use Rattle.mh_layers.specs.Grouped.{has}
use Rattle.mh_layers.specs.CostNodes.{data_of, waits_for}
use Rattle.mh_layers.specs.Reading.{Reading, values_read}
use Rattle.mh_layers.proofs.numbered.NumberedService.links_with.Goals as goal

pub returns : goal.returns
returns c =
    let o = c.args.source.now in
    let kind = c.args.kind in
    subst (λ (r : Reading). (x : Value) → slice_get (values_read r o kind) c.args.value ≡ Some x → c.links_with.result.now ≡ filter (λ p. waits_for o kind p && has same_value x (data_of p)) (group_parts r.service c.args.group.now))
    c.self.view_is c.links_with.ensures.named
