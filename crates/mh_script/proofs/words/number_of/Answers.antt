use Rattle.std.proofs.Common.{◌∙◌, sym, arith}
use Rattle.mh_script.proofs.ScriptLemmas.{number_full, read_stuck}
use Rattle.mh_script.proofs.words.number_of.Goals as goal

pub returns-in-None : goal.returns-in-None
returns-in-None c =
    sym (number_full c.args.digits.now (sym c.is_empty.ensures ∙ c.if-is_empty.false) ∙ sym c.loop-digit.invariant
    ∙ read_stuck c.loop-digit.number c.args.digits.now c.loop-digit.digit-index (omega arith) (sym c.with_digit.ensures ∙ c.in-None.is))
