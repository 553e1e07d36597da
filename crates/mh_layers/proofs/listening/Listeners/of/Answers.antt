use Rattle.std.proofs.Common.{None, ap, ◌∙◌}
use Rattle.std.specs.List.{flat_map}
use Rattle.mh_layers.specs.Listening.{ear_of, is_ear, lists_from, named, objects_of}
use Rattle.mh_layers.proofs.ListeningLemmas.{Groups}
use Rattle.mh_layers.proofs.listening.Listeners.of.Goals as goal

pub returns : goal.returns
returns c =
    let os = c.in_ok-objects.objects.keys in
    let es = c.in_ok-ears.ears.entries in
    let same = c.groups-groups.ensures.entries in
    record {
      objects = c.in_ok-objects.ensures ∙ ap (λ (gs : Groups). objects_of (flat_map (λ e. e.1) gs)) same;
      ears = λ q. c.in_ok-ears.ensures q ∙ ap (λ (gs : Groups). named (λ p. is_ear q (ear_of os p)) None (flat_map (λ e. e.1) gs)) same;
      lists = λ q. c.in_ok-lists.ensures q ∙ ap (lists_from os es q 0) same;
    }
