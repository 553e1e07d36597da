-- Stepping stones: a seal that is right of every group, and a part of a service, whatever it is.
use Rattle.std.specs.Prelude.{◌≡◌, ◌⊎◌, ℕ, ◌==◌, Bool, true, false, not, List}
use Rattle.std.specs.List.{list_all}
use Rattle.mh_base.specs.declared.obj_ref.ObjRef.{ObjRef}
use Rattle.mh_group.specs.declared.written.Written.{Written}
use Rattle.mh_model.specs.declared.item.Item.{Item}
use Rattle.mh_model.specs.declared.item.Item.TheVariants as item
use Rattle.mh_model.specs.Known.{class_at}
use Rattle.mh_model.specs.Late.{is_late_scene, is_written_so, written_at}
use Rattle.mh_model.specs.Service.{Service, group_parts}
use Rattle.mh_laws.specs.Acceptable.{IsAcceptable}
use Rattle.mh_seal_laws.specs.Bringing.{AreScenes}
use Rattle.mh_seal_laws.specs.Seal.{Seal}
use Rattle.mh_seal_laws.specs.Stubs.{seal_of, stubbed}

-- The seal is that of the service: what fits is the service's own, and what is put there is what the service has. Of a digest
-- this is false, since other groups have it too; so the law speaks of the files that are met.
pub record IsSealOf (k : Seal) (v : Service) : Type 0 where
  pub fits : (g : List ℕ) (x : Written) → k.fits g x ≡ is_written_so x (written_at g v.files)
  pub programs : (g : List ℕ) (x : Written) (w : Service) → (k.grown g x w).programs ≡ w.programs
  pub itself : (g : List ℕ) (x : Written) (w : Service) → k.fits g x ≡ true → group_parts (k.grown g x w) g ≡ group_parts v g
  pub others : (g h : List ℕ) (x : Written) (w : Service) → k.fits g x ≡ true → (group_parts (k.grown g x w) h ≡ group_parts w h) ⊎ (group_parts (k.grown g x w) h ≡ group_parts v h)

-- the service is known but for its late scenes, for each of which a scene stands
pub record IsPartOf (w v : Service) : Type 0 where
  pub start : w.start ≡ v.start
  pub programs : w.programs ≡ v.programs
  pub late : w.late ≡ v.late
  pub own : group_parts w v.start ≡ group_parts v v.start
  pub here : (g : List ℕ) → is_late_scene g v.late ≡ false → group_parts w g ≡ group_parts v g
  pub classes : (r : ObjRef) → (r.number == 0) ≡ true → class_at r (group_parts w r.group) ≡ class_at r (group_parts v r.group)

abbrev pub SealExists : Type 0
SealExists = (v : Service) → IsSealOf (seal_of v) v

abbrev pub StubsArePart : Type 0
StubsArePart = (v : Service) → IsAcceptable v → AreScenes v v.late → IsPartOf (stubbed v) v

-- the item brings no scene that is late
abbrev pub is_here : List (List ℕ) → Item → Bool
is_here gs (item.Enter g) = not (is_late_scene g gs)
is_here gs (item.Exchange g) = not (is_late_scene g gs)
is_here gs _ = true

abbrev pub AreHere : List (List ℕ) → List Item → Type 0
AreHere gs is = list_all (is_here gs) is ≡ true
