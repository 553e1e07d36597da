-- The objects that wait, told by the places at which they came to.
use Rattle.std.specs.Prelude.{◌≡◌, ℕ, ◌+◌, ◌<◌, ◌≤◌, Bool, false, ◌&&◌, if◌then◌else◌, nat_eq, nat_le, List, [], ◌∷◌, ◌++◌, filter, length, slice_get, take, Option, Some, None}
use Rattle.std.specs.Map.{lookup}
use Rattle.std.specs.Option.{option_map, option_map_or}
use Rattle.std.specs.Str.{bytes_eq}
use Rattle.mh_base.specs.declared.obj_ref.ObjRef.{ObjRef}
use Rattle.mh_model.specs.declared.file.Wait.{Wait}
use Rattle.mh_model.specs.Files.{awaited}
use Rattle.mh_carousel.specs.declared.slot.Chain.{Chain}
use Rattle.mh_carousel.specs.declared.slot.Slot.{Slot}

-- those who wait, in the order in which they came to, and for how many more there is room
pub record Waited : Type 0 where
  pub waits : List Wait
  pub room : ℕ

-- the last place of each object that came to wait, and the places of each file
abbrev pub Objects : Type 0
Objects = List (ObjRef × Option ℕ)

abbrev pub Names : Type 0
Names = List (List ℕ × Chain)

-- Who waits

abbrev pub is_place : ℕ → Option ℕ → Bool
is_place p None = false
is_place p (Some q) = nat_eq q p

-- who waits at a place: nobody where the object came to another place since or was forgotten, or where the file came
abbrev pub wait_of : ℕ → Option (ObjRef × Option ℕ) → Option (List ℕ × Chain) → List Wait
wait_of p None n = []
wait_of p (Some o) None = []
wait_of p (Some o) (Some n) = if is_place p o.1 && nat_le n.1.from p then record { object = o.0; name = n.0 } ∷ [] else []

abbrev pub wait_at : Objects → Names → ℕ → Slot → List Wait
wait_at os ns p s = wait_of p (slice_get os s.object) (slice_get ns s.name)

-- who waits at the places from this one on
abbrev pub waits_from : Objects → Names → ℕ → List Slot → List Wait
waits_from os ns p [] = []
waits_from os ns p (s ∷ ss) = wait_at os ns p s ++ waits_from os ns (p + 1) ss

-- who waits for the file of this name, at the first places
abbrev pub waits_before : Objects → Names → List Slot → List ℕ → ℕ → List Wait
waits_before os ns ss name n = filter (λ w. bytes_eq w.name name) (waits_from os ns 0 (take n ss))

-- The places of one file

-- the name of the file at a place
abbrev pub name_of : Names → Slot → Option (List ℕ)
name_of ns s = option_map (λ n. n.0) (slice_get ns s.name)

abbrev pub name_at : Names → List Slot → ℕ → Option (List ℕ)
name_at ns ss p = option_map_or (name_of ns) (slice_get ss p) None

abbrev pub newest_of : Option Chain → Option ℕ
newest_of None = None
newest_of (Some c) = c.newest

-- from which place on somebody may wait for the file; a file for which nobody came to wait so far begins with the next place
abbrev pub began_at : ℕ → Option Chain → ℕ
began_at next None = next
began_at next (Some c) = c.from

-- this is the last place before the bound at which somebody may wait for the file
abbrev pub IsLast : Objects → Names → List Slot → List ℕ → ℕ → Option ℕ → Type 0
IsLast os ns ss name bound None = waits_before os ns ss name bound ≡ []
IsLast os ns ss name bound (Some p) = (p < bound) × (name_at ns ss p ≡ Some name) × (waits_before os ns ss name bound ≡ waits_before os ns ss name (p + 1))

-- a place leads to the one before it for its file
abbrev pub LeadsBack : Objects → Names → List Slot → ℕ → Slot → Option (List ℕ) → Type 0
LeadsBack os ns ss p s None = ⊥
LeadsBack os ns ss p s (Some name) = IsLast os ns ss name p s.older

-- all that is known of the three tables
pub record AreLinked (os : Objects) (ns : Names) (ss : List Slot) : Type 0 where
  pub newest : (name : List ℕ) → IsLast os ns ss name (length ss) (newest_of (lookup (bytes_eq name) ns))
  pub began : (name : List ℕ) → began_at (length ss) (lookup (bytes_eq name) ns) ≤ length ss
  pub older : (p : ℕ) (s : Slot) → slice_get ss p ≡ Some s → LeadsBack os ns ss p s (name_of ns s)

-- the places of a file with one more
abbrev pub chain_with : ℕ → Option Chain → Chain
chain_with p known = record { newest = Some p; from = began_at p known }

-- the objects of the application alone keep their places
abbrev pub kept_place : List ℕ → ObjRef × Option ℕ → ObjRef × Option ℕ
kept_place application e = (e.0, if bytes_eq e.0.group application then e.1 else None)

-- those who wait, when these come to wait one after another
abbrev pub joined : List Wait → List Wait → List Wait
joined ws [] = ws
joined ws (w ∷ more) = joined (awaited (Some w.name) w.object ws) more
