use Rattle.std.specs.Prelude.{◌+◌}
use Rattle.std.proofs.Common.{ap, ◌∙◌}
use Rattle.mh_places.specs.Spans.{point_at, span_at}
use Rattle.mh_places.proofs.SpanLemmas.{within}
use Rattle.mh_places.proofs.span.span_from.Goals as goal

pub returns : goal.returns
unfolding span_at
returns c =
    let bytes = c.args.bytes.now in
    let end = c.point_of-end.ensures ∙ ap (point_at bytes) (c.known_behind-behind.ensures.there ∙ c.end_of.ensures) ∙ within bytes (c.args.known.offset + c.args.size) in
    λ i. record { start = c.point_of-start.ensures i; end = end i }
