use Rattle.std.proofs.Common.{arith}
use Rattle.mh_flow.proofs.ChainRowLemmas.{set_arrow, past_rows}
use Rattle.mh_flow.proofs.chain.routes.put_arrow.Goals as goal

pub returns-in_ok-push : goal.returns-in_ok-push
returns-in_ok-push c = set_arrow c.args.rows.now.items c.args.number c.index_mut.result.now c.push.new.self c.args.arrow (omega (arith, c.if-number-len.true, c.len.ensures, c.args.rows.now.ok.0)) c.index_mut.ensures.value c.in_ok-push.ensures.items

pub returns-else-number-len : goal.returns-else-number-len
returns-else-number-len c = past_rows c.args.rows.now.items c.args.number c.args.arrow (omega (arith, c.if-number-len.false, c.len.ensures, c.args.rows.now.ok.0))
