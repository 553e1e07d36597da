use Rattle.std.proofs.Common.{ap, sym, ◌∙◌}
use Rattle.mh_base.specs.Reading.{refused}
use Rattle.mh_text.specs.declared.text_error.Why.TheVariants.{Syntax}
use Rattle.mh_text.specs.Reading.{next, taken}
use Rattle.mh_text.proofs.LeftLemmas.{next_finished}
use Rattle.mh_text.proofs.place.Place.next.Goals as goal

pub returns-in-None : goal.returns-in-None
returns-in-None c =
    let at_end = rw c.in-None.is at c.in_ok-piece.ensures in
    ap next (sym c.self.view_is)
    ∙ next_finished c.self.inside.is_tight c.self.inside.tokens (ap taken c.self.view_is ∙ at_end)
    ∙ ap (λ n. refused Syntax n) (sym c.end-end.ensures)
