-- What is meant in a file is found by its marks.
use Rattle.std.proofs.Common.{◌≡◌, List, Option, Some, None, refl, ap}
use Rattle.std.specs.Prelude.{option_and_then, option_map}
use Rattle.mh_cause.specs.declared.detail.Detail.{Detail}
use Rattle.mh_places.specs.Directory.{IsFound}
use Rattle.mh_text.specs.declared.mark.Mark.{Mark}
use Rattle.mh_text.specs.Marks.{mark_of}
use Rattle.mh_told.specs.Reading.{Source as File}
use Rattle.mh_verify.specs.declared.refusal.Place.{Place}
use Rattle.mh_judged.specs.Places.{IsMarked, detail_span, part_by, part_span}

-- of a file and its marks, each if it is there
pub found_span : (p : Place) (d : Detail) (o : Option File) (q : Option (List Mark)) → IsFound IsMarked o q
    → part_by p d o q ≡ option_and_then (λ (f : File). part_span p d f.1.items) o
unfolding part_span
found_span p d None None is = refl
found_span p d (Some f) (Some ms) is = ap (λ (ns : List Mark). option_map (detail_span d f.1.items) (mark_of ns p.object p.index)) is
found_span p d None (Some ms) is = absurd is
found_span p d (Some f) None is = absurd is
