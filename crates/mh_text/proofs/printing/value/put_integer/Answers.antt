-- The digits stand behind the sign.
use Rattle.std.proofs.Common.{rules, to_z-of_z}
use Rattle.mh_text.proofs.DecimalLemmas.{integer_put}
use Rattle.mh_text.proofs.printing.value.put_integer.Goals as goal

pub returns : goal.returns
returns c = integer_put c.put_decimal.result c.args.number c.unsigned_abs.result c.args.out.now.items c.put_sign.new.out.items _ (search rules) (search (rules, to_z-of_z)) c.put_decimal.ensures
