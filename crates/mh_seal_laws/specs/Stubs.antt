-- The seal that has the whole service at hand, and what is known of the service where no late scene is there.
use Rattle.std.specs.Prelude.{ℕ, if◌then◌else◌, List, [], ◌∷◌, map}
use Rattle.mh_group.specs.declared.class.Class.TheVariants as class
use Rattle.mh_model.specs.declared.object.Fixed.{Fixed}
use Rattle.mh_model.specs.Late.{is_late_scene, is_written_so, written_at}
use Rattle.mh_model.specs.Reference.{group_ref}
use Rattle.mh_model.specs.Service.{Service, group_parts}
use Rattle.mh_service.specs.Sealed.{with_group}
use Rattle.mh_seal_laws.specs.Seal.{Seal}

-- each file is compared with the service's own, and brings what the service has
abbrev pub seal_of : Service → Seal
seal_of v = record {
  fits = λ g x. is_written_so x (written_at g v.files);
  grown = λ g x. with_group g (group_parts v g);
}

-- a scene of which nothing else is known
abbrev pub stub : List ℕ → Fixed
stub g = record { key = group_ref g; class = class.Scene; properties = [] }

abbrev pub stubbed_group : List (List ℕ) → List ℕ × List Fixed → List ℕ × List Fixed
stubbed_group late e = if is_late_scene e.0 late then (e.0, stub e.0 ∷ []) else e

-- a stub stands for each late scene, and nothing is kept of how groups are written
abbrev pub stubbed : Service → Service
stubbed v = record v { groups = map (stubbed_group v.late) v.groups; files = [] }
