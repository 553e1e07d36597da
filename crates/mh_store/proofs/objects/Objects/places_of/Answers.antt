use Rattle.mh_store.specs.Places.{is_among}
use Rattle.mh_store.specs.Trying.{with_scene}
use Rattle.mh_store.proofs.NamedLemmas.{both_places}
use Rattle.mh_store.proofs.objects.Objects.places_of.Goals as goal

pub returns : goal.returns
returns c =
    rw (← c.self.view_is)
    (both_places (is_among c.args.named.now) (with_scene c.self.inside.application c.self.inside.scene)
    c.in_ok-places.places.items c.in_ok-others.others.items c.append.new.self.items c.len-behind.result
    c.len-behind.ensures.all c.in_ok-places.ensures c.in_ok-others.ensures c.in_ok-append.ensures.items)
