use Rattle.std.specs.Prelude.{List, ℕ, ◌++◌}
use Rattle.std.proofs.Common.{ap, ◌∙◌}
use Rattle.mh_model.specs.State.{all}
use Rattle.mh_trace.specs.Ears.{ear}
use Rattle.mh_trace.proofs.ListeningLemmas.{all_by_places, ear_none}
use Rattle.mh_trace.proofs.ears.put_all_ears.Goals as goal

pub returns : goal.returns
returns c =
    let e = c.args.event.now in
    let n = e.source.number in
    c.in_ok-put_ears_at.ensures
    ∙ ap (λ (ls : List ℕ). c.args.text.now ++ ls)
    (all_by_places (ear c.args.form e) n (all c.args.objects.now) c.places.result.now (ear_none c.args.form e) (c.places.ensures ∙ c.requires n))
