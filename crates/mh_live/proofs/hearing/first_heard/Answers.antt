use Rattle.std.specs.Option.{option_and_then}
use Rattle.std.proofs.Common.{ap, sym, ◌∙◌}
use Rattle.mh_model.specs.State.{all}
use Rattle.mh_live.specs.Hearing.{number_heard}
use Rattle.mh_live.proofs.HearingLemmas.{first_here, first_behind}
use Rattle.mh_live.proofs.hearing.first_heard.Goals as goal

pub returns-then-is_some : goal.returns-then-is_some
returns-then-is_some c =
    first_here c.args.kind (all c.args.objects.now) c.loop-place.place c.number_at-number.result _
    (c.number_at-number.ensures ∙ ap (option_and_then (number_heard c.args.kind)) c.at.ensures) (sym c.is_some.ensures ∙ c.if-is_some.true)
    c.loop-place.invariant

pub loop-place-preserved : goal.loop-place-preserved
loop-place-preserved c =
    first_behind c.args.kind (all c.args.objects.now) c.loop-place.place c.number_at-number.result _
    (c.number_at-number.ensures ∙ ap (option_and_then (number_heard c.args.kind)) c.at.ensures) (sym c.is_some.ensures ∙ c.if-is_some.false)
    c.loop-place.invariant
