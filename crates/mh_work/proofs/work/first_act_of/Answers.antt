use Rattle.std.proofs.Common.{rules}
use Rattle.std.proofs.lemmas.Option.{slice_get_read}
use Rattle.mh_model.specs.declared.item.Item.TheVariants as item
use Rattle.mh_work.specs.declared.portion.Front.TheVariants as front
use Rattle.mh_work.proofs.PortionLemmas.{front_in_first, some_also}
use Rattle.mh_work.proofs.work.first_act_of.Goals as goal

pub returns-in-Some : goal.returns-in-Some
returns-in-Some c =
    some_also _ _ c.act_in.result (λ a h. front_in_first c.args.portions.now.items c.in-Some.portion.now (front.Item (item.Act a.now)) (search (rules, slice_get_read)) h) c.act_in.ensures
