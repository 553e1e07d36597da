use Rattle.std.proofs.Common.{refl, sym}
use Rattle.mh_seal.proofs.LineLemmas.{line_found}
use Rattle.mh_seal.proofs.lines.line_behind.Goals as goal

pub returns-clause-found : goal.returns-clause-found
returns-clause-found c =
    line_found c.args.word.now c.args.bytes.now c.in_ok-value.value.now _ c.in_ok-end.end (sym c.in_ok-end.ensures) c.in_ok-value.ensures.0 c.in_ok-value.ensures.1 refl
