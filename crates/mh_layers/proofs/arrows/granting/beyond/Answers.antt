use Rattle.std.proofs.Common.{rules, ◌∙◌}
use Rattle.mh_laws.specs.Safe.{exchanged}
use Rattle.mh_layers.specs.Reading.{context_at}
use Rattle.mh_layers.proofs.ContextLemmas.{named_in}
use Rattle.mh_layers.proofs.arrows.granting.beyond.Goals as goal

pub returns-in-Some-of-clause-some : goal.returns-in-Some-of-clause-some
returns-in-Some-of-clause-some c =
    let s = c.args.here.now in
    c.in-Some-of.ensures.some ∙ (λ i. context_at (c.numbered_service.ensures i) c.in-Some.number)
    ∙ named_in s.reading (exchanged s.reading.service s.config c.args.group.now) c.in-Some.number (search rules)
