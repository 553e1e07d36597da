-- What is put when a group is entered or left, as its file tells it.
use Rattle.std.specs.Prelude.{ℕ, Bool, true, false, ◌&&◌, not, List, [], ◌∷◌, ◌++◌, map, filter, reverse, Option, Some, None}
use Rattle.mh_base.specs.declared.event.EventType.TheVariants as event
use Rattle.mh_group.specs.declared.attribute.Attribute.{Attribute}
use Rattle.mh_group.specs.declared.attribute.Attribute.TheVariants as attribute
use Rattle.mh_group.specs.Table.{is_runnable}
use Rattle.mh_model.specs.declared.item.Item.{Item}
use Rattle.mh_model.specs.declared.item.Item.TheVariants as item
use Rattle.mh_model.specs.declared.object.Fixed.{Fixed}
use Rattle.mh_model.specs.Property.{held, as_bool, as_effect}
use Rattle.mh_model.specs.Service.{part_at}
use Rattle.mh_model.specs.Reference.{group_ref}
use Rattle.mh_model.specs.Items.{acts, plain_event}

abbrev pub is_initially_active : Fixed → Bool
is_initially_active p = is_runnable p.class && as_bool true (held attribute.InitiallyActive p.properties)

abbrev pub is_shared : Fixed → Bool
is_shared p = as_bool false (held attribute.Shared p.properties)

abbrev pub runs : List Fixed → List Item
runs ps = map (λ p. item.Run p.key) ps

abbrev pub halts : List Fixed → List Item
halts ps = map (λ p. item.Halt p.key) ps

-- an effect of a group itself
abbrev pub effect_of : Option Fixed → Attribute → List Item
effect_of None a = []
effect_of (Some p) a = acts (as_effect (held a p.properties))

-- an effect of the group with these parts
abbrev pub group_effect : List ℕ → List Fixed → Attribute → List Item
group_effect g ps a = effect_of (part_at (group_ref g) ps) a

-- entering a group with these parts: its start-up, then its active ingredients run in Items order, then it runs
abbrev pub entering : List ℕ → List Fixed → List Item
entering g ps =
    group_effect g ps attribute.OnStartUp ++ runs (filter is_initially_active ps)
    ++ plain_event (group_ref g) event.IsRunning ∷ []

-- all that can run of a group halts, or what is not shared of it, each in reverse order

abbrev pub all_halts : List Fixed → List Item
all_halts ps = halts (filter (λ p. is_runnable p.class) (reverse ps))

abbrev pub unshared_halts : List Fixed → List Item
unshared_halts ps = halts (filter (λ p. is_runnable p.class && not (is_shared p)) (reverse ps))

-- the current scene, given with its parts, if there is one

abbrev pub scene_closing : Option (List ℕ × List Fixed) → List Item
scene_closing None = []
scene_closing (Some (g, ps)) = group_effect g ps attribute.OnCloseDown

abbrev pub scene_halts : Option (List ℕ × List Fixed) → List Item
scene_halts None = []
scene_halts (Some (g, ps)) = all_halts ps

-- A transition to a scene, under an application with these parts: the scene closes down, the objects of both
-- halt, and the scene is exchanged for the other.
abbrev pub leaving : List Fixed → Option (List ℕ × List Fixed) → List ℕ → List Item
leaving ps scene target =
    scene_closing scene ++ scene_halts scene ++ unshared_halts ps ++ item.Exchange target ∷ []

-- The application, given with its parts, is left as well: both close down, all objects halt, and then comes the
-- last item.
abbrev pub quitting : List ℕ → List Fixed → Option (List ℕ × List Fixed) → Item → List Item
quitting g ps scene last =
    scene_closing scene ++ group_effect g ps attribute.OnCloseDown ++ scene_halts scene ++ all_halts ps ++ last ∷ []
