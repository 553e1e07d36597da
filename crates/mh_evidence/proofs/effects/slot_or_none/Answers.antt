use Rattle.std.proofs.Common.{[], List, Option, unwrap_or, ap, ◌∙◌, sym}
use Rattle.mh_model.specs.declared.act.Act.{Act}
use Rattle.mh_evidence.proofs.EffectLemmas.{slot_effect}
use Rattle.mh_evidence.proofs.effects.slot_or_none.Goals as goal

pub returns-in-None : goal.returns-in-None
returns-in-None c = ap (λ (o : Option (List Act)). unwrap_or o []) c.in-None.ensures ∙ sym (slot_effect c.args.part.now c.args.number)

pub returns-in-Some : goal.returns-in-Some
returns-in-Some c = ap (λ (o : Option (List Act)). unwrap_or o []) c.in-Some.ensures ∙ sym (slot_effect c.args.part.now c.args.number)
