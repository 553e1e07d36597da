use Rattle.std.specs.Prelude.{◌≡◌, ℕ, ℤ, ◌+◌, ◌≤◌, ◌++◌, List, suc, map, filter, take, length, slice_get}
use Rattle.std.specs.Int.{cast_signed, cast_unsigned}
use Rattle.std.proofs.Common.{rules, ap, ◌∙◌, sym, arith, w32}
use Rattle.std.proofs.lemmas.Int.{to_z-of_z}
use Rattle.std.proofs.lemmas.List.{take_all}
use Rattle.mh_model.specs.declared.event.Event.{Event}
use Rattle.mh_model.specs.declared.object.Object.{Object}
use Rattle.mh_model.specs.State.{all}
use Rattle.mh_model.specs.Step.{is_streaming, stream_event}
use Rattle.mh_machine.specs.Taking.{told_by}
use Rattle.mh_machine.proofs.TimeLemmas.{told_more}
use Rattle.mh_machine.proofs.inputs.stream_events.Goals as goal

pub loop-place-preserved : goal.loop-place-preserved
loop-place-preserved c =
    let os : List Object = all c.args.objects.now in
    let tag : ℤ = cast_signed w32 (cast_unsigned w32 c.args.tag) in
    let next : c.loop-place.place + 1 ≡ suc c.loop-place.place = omega arith in
    let more : c.push_stream_event.new.events.items ≡ c.loop-place.events.items ++ told_by tag (slice_get os c.loop-place.place) = search rules in
    more
    ∙ ap (λ (es : List Event). es ++ told_by tag (slice_get os c.loop-place.place)) c.loop-place.invariant
    ∙ sym (told_more is_streaming (stream_event tag) os c.loop-place.place)
    ∙ ap (λ (n : ℕ). map (stream_event tag) (filter is_streaming (take n os))) (sym next)

pub returns : goal.returns
returns c =
    let os : List Object = all c.args.objects.now in
    let over : length os ≤ c.loop-place.place = search rules in
    c.loop-place.invariant
    ∙ ap (λ (xs : List Object). map (stream_event (cast_signed w32 (cast_unsigned w32 c.args.tag))) (filter is_streaming xs)) (take_all c.loop-place.place os over)
    ∙ ap (λ (tag : ℤ). map (stream_event tag) (filter is_streaming os)) (to_z-of_z w32 c.args.tag c.ranges.tag)
