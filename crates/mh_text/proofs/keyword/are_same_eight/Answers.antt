use Rattle.std.proofs.Common.{rules, ◌∙◌}
use Rattle.mh_text.proofs.KeywordLemmas.{eight_same}
use Rattle.mh_text.proofs.keyword.are_same_eight.Goals as goal

pub returns : goal.returns
returns c = eight_same c.args.one c.args.other _ _ (search rules) (search rules) (search rules) (search rules) c.from_le_bytes.ensures c.from_le_bytes-2.ensures
