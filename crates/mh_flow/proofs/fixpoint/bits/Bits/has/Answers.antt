use Rattle.std.proofs.Common.{◌∙◌}
use Rattle.mh_flow.proofs.BitLemmas.{by_word}
use Rattle.mh_flow.proofs.fixpoint.bits.Bits.has.Goals as goal

pub returns : goal.returns
returns c = c.is_set.ensures ∙ by_word c.args.self.now c.args.place c.word.result c.word.ensures
