use Rattle.std.proofs.Common.{◌∙◌}
use Rattle.mh_model.specs.State.{all}
use Rattle.mh_trace.specs.Sites.{heard_at}
use Rattle.mh_trace.proofs.ListeningLemmas.{all_by_places, heard_none}
use Rattle.mh_trace.proofs.sites.heard_sites.Goals as goal

pub returns : goal.returns
returns c =
    let e = c.args.event.now in
    let n = e.source.number in
    c.in_ok-sites.ensures
    ∙ all_by_places (heard_at e) n (all c.args.objects.now) c.places.result.now (heard_none e) (c.places.ensures ∙ c.requires n)
