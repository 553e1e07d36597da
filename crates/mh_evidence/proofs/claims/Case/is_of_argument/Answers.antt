use Rattle.std.proofs.Common.{rules}
use Rattle.mh_evidence.proofs.claims.Case.is_of_argument.Goals as goal

pub returns-in-Arguments : goal.returns-in-Arguments
returns-in-Arguments c = search (rules, c.is_of_passed.ensures c.args.act.now)
