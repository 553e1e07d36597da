use Rattle.mh_look.proofs.NumberLemmas.{digit_is, octet_is}
use Rattle.mh_look.proofs.report.number.read_octet.Goals as goal

pub returns-clause-found : goal.returns-clause-found
returns-clause-found c h l h_small l_small high low =
    octet_is c.in_ok-high.high c.in_ok-low.low h l
    (digit_is c.in_ok-high.high c.from.result c.args.high h c.in_ok-high.ensures.value.1 c.from.ensures high h_small)
    (digit_is c.in_ok-low.low c.from-2.result c.args.low l c.in_ok-low.ensures.value.1 c.from-2.ensures low l_small)
