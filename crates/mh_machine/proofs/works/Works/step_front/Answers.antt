use Rattle.std.specs.Prelude.{◌≡◌, slice_get, Some}
use Rattle.std.proofs.Common.{rules}
use Rattle.mh_model.specs.declared.item.Item.TheVariants as item
use Rattle.mh_work.proofs.PortionLemmas.{front_act}
use Rattle.mh_machine.proofs.StepLemmas.{allowed_first, answer_first, step_first}
use Rattle.mh_machine.proofs.works.Works.step_front.Goals as goal

pub work_on_act-requires-clause-allowed : goal.work_on_act-requires-clause-allowed
work_on_act-requires-clause-allowed g c =
    let first : slice_get c.args.self.now.state.work 0 ≡ Some (item.Act c.index-as_slice-place.result) =
    front_act c.in_ok-effect.field-0 c.args.self.now.state.work c.in-Some-Act.effect c.as_slice.result.now c.in-Some-Act.place c.index-as_slice-place.result (search rules) (search rules) (search rules) c.index-as_slice-place.is in
    allowed_first g.J.Judging.allows c.args.self.now.state (item.Act c.index-as_slice-place.result) first c.requires.allowed

pub work_on-requires-clause-allowed : goal.work_on-requires-clause-allowed
work_on-requires-clause-allowed g c =
    allowed_first g.J.Judging.allows c.args.self.now.state c.in-Some-Item.item (search rules) c.requires.allowed

pub returns-in-Some-Act-clause-step : goal.returns-in-Some-Act-clause-step
returns-in-Some-Act-clause-step g c =
    let first : slice_get c.args.self.now.state.work 0 ≡ Some (item.Act c.index-as_slice-place.result) =
    front_act c.in_ok-effect.field-0 c.args.self.now.state.work c.in-Some-Act.effect c.as_slice.result.now c.in-Some-Act.place c.index-as_slice-place.result (search rules) (search rules) (search rules) c.index-as_slice-place.is in
    step_first c.work_on_act.result c.args.self.now.state c.work_on_act.new.self.state (item.Act c.index-as_slice-place.result) (search rules) first c.work_on_act.ensures.done

pub returns-in-Some-Act-clause-answer : goal.returns-in-Some-Act-clause-answer
returns-in-Some-Act-clause-answer g c =
    let first : slice_get c.args.self.now.state.work 0 ≡ Some (item.Act c.index-as_slice-place.result) =
    front_act c.in_ok-effect.field-0 c.args.self.now.state.work c.in-Some-Act.effect c.as_slice.result.now c.in-Some-Act.place c.index-as_slice-place.result (search rules) (search rules) (search rules) c.index-as_slice-place.is in
    answer_first c.work_on_act.result c.args.self.now.state (item.Act c.index-as_slice-place.result) (search rules) first c.work_on_act.ensures.answer
