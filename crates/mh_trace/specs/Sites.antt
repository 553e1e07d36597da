-- Where actions stand, and which actions a step puts on the work list, each by its place.
use Rattle.std.specs.Prelude.{ℕ, suc, ◌==◌, Bool, true, false, ◌&&◌, if◌then◌else◌, List, [], ◌∷◌, ◌++◌, Option, Some, None, pos, option_and_then}
use Rattle.std.specs.List.{flat_map}
use Rattle.std.specs.Option.{option_map_or}
use Rattle.mh_base.specs.declared.obj_ref.ObjRef.{ObjRef}
use Rattle.mh_base.specs.declared.value.Value.{Value}
use Rattle.mh_base.specs.declared.value.Value.TheVariants as value
use Rattle.mh_group.specs.declared.attribute.Attribute.{Attribute}
use Rattle.mh_group.specs.declared.attribute.Attribute.TheVariants as attribute
use Rattle.mh_model.specs.declared.act.Act.{Act}
use Rattle.mh_model.specs.declared.event.Event.{Event}
use Rattle.mh_model.specs.declared.object.Fixed.{Fixed}
use Rattle.mh_model.specs.declared.object.Object.{Object}
use Rattle.mh_model.specs.Items.{matches}
use Rattle.mh_model.specs.Property.{held, as_effect}
use Rattle.mh_model.specs.Reference.{same_key, same_ref, group_ref}
use Rattle.mh_model.specs.Service.{Service, part_at, group_parts}
use Rattle.mh_model.specs.Tokens.{slot_items}
use Rattle.mh_trace.specs.declared.site.EffectKind.{EffectKind}
use Rattle.mh_trace.specs.declared.site.EffectKind.TheVariants as kind
use Rattle.mh_trace.specs.declared.site.Site.{Site}
use Rattle.mh_trace.specs.Kinds.{same_kind}

-- the place is in this effect of this object
abbrev pub is_in : ObjRef → EffectKind → Site → Bool
is_in r k s = same_kind s.kind k && same_ref s.object r

-- the same, as keys of a table are compared
abbrev pub same_site : Site → Site → Bool
same_site s t = same_key s.object t.object && same_kind s.kind t.kind && s.number == t.number

-- the places of the actions of an effect, of which the first has this number
abbrev pub places_from : {A : Type 0} → ObjRef → EffectKind → ℕ → List A → List Site
places_from r k n [] = []
places_from r k n (x ∷ xs) = record { object = r; kind = k; number = n } ∷ places_from r k (suc n) xs

abbrev pub places_in : {A : Type 0} → ObjRef → EffectKind → List A → List Site
places_in r k xs = places_from r k 1 xs

-- the effect of a link
abbrev pub link_acts : Object → List Act
link_acts o = as_effect (held attribute.LinkEffect o.fixed.properties)

-- the places of the actions of a link that hears the event
abbrev pub heard_at : Event → Object → List Site
heard_at e o = if matches e o then places_in o.fixed.key kind.Link (link_acts o) else []

-- of all links that do
abbrev pub heard_sites : Event → List Object → List Site
heard_sites e os = flat_map (heard_at e) os

-- of an effect of a group itself

abbrev pub own_sites : EffectKind → Attribute → Option Fixed → List Site
own_sites k a None = []
own_sites k a (Some p) = places_in p.key k (as_effect (held a p.properties))

abbrev pub group_sites : EffectKind → Attribute → Service → List ℕ → List Site
group_sites k a v g = own_sites k a (part_at (group_ref g) (group_parts v g))

-- of the slot that is called with these values
abbrev pub slot_sites : List Value → Option Object → List Site
slot_sites (value.Int (pos n) ∷ []) (Some o) =
    places_in o.fixed.key (kind.Slot o.body.token n) (slot_items (value.Int (pos n) ∷ []) o.fixed o.body)
slot_sites vs o = []
