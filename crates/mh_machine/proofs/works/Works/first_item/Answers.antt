use Rattle.std.specs.Prelude.{◌≡◌, slice_get, Some}
use Rattle.std.proofs.Common.{rules, ap, sym, ◌∙◌}
use Rattle.mh_model.specs.declared.item.Item.{Item}
use Rattle.mh_model.specs.declared.item.Item.TheVariants as item
use Rattle.mh_work.proofs.PortionLemmas.{front_act}
use Rattle.mh_machine.proofs.works.Works.first_item.Goals as goal

pub returns-in_ok-item-in-Some-Act : goal.returns-in_ok-item-in-Some-Act
returns-in_ok-item-in-Some-Act c =
    let first : slice_get c.args.self.now.state.work 0 ≡ Some (item.Act c.index-as_slice-place.result) =
    front_act c.in_ok-effect.field-0 c.args.self.now.state.work c.in-Some-Act.effect c.as_slice.result.now c.in-Some-Act.place c.index-as_slice-place.result (search rules) (search rules) (search rules) c.index-as_slice-place.is in
    ap (λ (i : Item). Some i) c.in_ok-item-in-Some-Act.ensures ∙ sym first
