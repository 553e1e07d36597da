use Rattle.std.specs.Prelude.{◌≡◌, map, slice_get, Some}
use Rattle.std.proofs.Common.{rules}
use Rattle.mh_model.specs.declared.item.Item.TheVariants as item
use Rattle.mh_work.proofs.PortionLemmas.{front_act}
use Rattle.mh_machine.proofs.StepLemmas.{called_first}
use Rattle.mh_machine.proofs.works.Works.call_next.Goals as goal

pub returns-in-Some-Act : goal.returns-in-Some-Act
returns-in-Some-Act g c =
    let first : slice_get c.args.self.now.state.work 0 ≡ Some (item.Act c.index-as_slice-place.result) =
    front_act c.in_ok-effect.field-0 c.args.self.now.state.work c.in-Some-Act.effect c.as_slice.result.now c.in-Some-Act.place c.index-as_slice-place.result (search rules) (search rules) (search rules) c.index-as_slice-place.is in
    called_first (map g.P.Resident.signature_of c.args.programs.now) c.args.self.now.state (item.Act c.index-as_slice-place.result) c.call_in.result (search rules) first c.call_in.ensures
