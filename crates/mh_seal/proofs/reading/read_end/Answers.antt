use Rattle.std.proofs.Common.{◌∙◌, sym}
use Rattle.mh_seal.proofs.EndingLemmas.{end_wrong}
use Rattle.mh_seal.proofs.reading.read_end.Goals as goal

pub returns-else-is_empty-clause-refused : goal.returns-else-is_empty-clause-refused
returns-else-is_empty-clause-refused c =
    end_wrong c.args.line c.args.bytes.now c.in-Some.value.now c.in-Some.rest.now c.in-Some.ensures.found (sym c.is_empty.ensures ∙ c.if-is_empty.false)
