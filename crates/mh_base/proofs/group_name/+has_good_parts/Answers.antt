use Rattle.std.proofs.Common.{◌∙◌, sym}
use Rattle.mh_base.proofs.PathLemmas.{has_good_parts-uncut, good_first, bad_first}
use Rattle.mh_base.proofs.group_name.+has_good_parts.Goals as goal

pub returns-in-None : goal.returns-in-None
returns-in-None t c = c.is_part.ensures ∙ sym (has_good_parts-uncut c.args.bytes.now (sym c.first_slash.ensures ∙ c.in-None.is))

pub returns-then-is_part : goal.returns-then-is_part
returns-then-is_part t c = good_first c.args.bytes.now c.in-Some.at _ _ (sym c.first_slash.ensures ∙ c.in-Some.is) c.is_part-in-Some.ensures c.if-is_part.true c.has_good_parts.ensures

pub returns-else-is_part : goal.returns-else-is_part
returns-else-is_part t c = bad_first c.args.bytes.now c.in-Some.at _ (sym c.first_slash.ensures ∙ c.in-Some.is) c.is_part-in-Some.ensures c.if-is_part.false
