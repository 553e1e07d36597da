use Rattle.std.proofs.Common.{sym, ◌∙◌}
use Rattle.mh_look.proofs.FrontLemmas.{tested_in_front, tested_elsewhere}
use Rattle.mh_look.proofs.report.front.length_in_front.Goals as goal

pub returns-then-starts_with : goal.returns-then-starts_with
returns-then-starts_with c = tested_in_front c.args.bytes.now c.args.text.now (sym c.starts_with.ensures.value ∙ c.if-starts_with.true)

pub returns-else-starts_with : goal.returns-else-starts_with
returns-else-starts_with c = tested_elsewhere c.args.bytes.now c.args.text.now (sym c.starts_with.ensures.value ∙ c.if-starts_with.false)
