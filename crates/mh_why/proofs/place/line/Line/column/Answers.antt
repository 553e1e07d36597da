use Rattle.std.proofs.Common.{ap, ◌∙◌, ◌+◌, ℕ}
use Rattle.mh_why.specs.Places.{column}
use Rattle.mh_why.proofs.StopLemmas.{counted_from}
use Rattle.mh_why.proofs.place.line.Line.column.Goals as goal

pub returns-clause-exact : goal.returns-clause-exact
returns-clause-exact c =
    ap (λ (count : ℕ). c.self.inside.stop.column + count) c.characters_in.ensures.exact
    ∙ counted_from c.self.inside.bytes.now c.self.inside.stop c.self.inside.before c.self.invariant.0 c.self.invariant.1 c.self.invariant.2
    ∙ ap column c.self.view_is
