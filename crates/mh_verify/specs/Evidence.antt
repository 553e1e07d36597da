-- Evidence: what a refusal carries shows it. Nothing is looked at but the refusal, with its service; that configurations of the
-- service are reached, and to what variables refer and which items lists have, is granted.
use Rattle.std.specs.Prelude.{◌≡◌, Bool, true, false, ◌&&◌, ◌||◌, ◌==◌, if◌then◌else◌, List, [], ◌∷◌, map, filter, Option, Some, None}
use Rattle.std.specs.List.{flat_map, list_all, list_any}
use Rattle.std.specs.Option.{is_some, option_eq, option_map_or}
use Rattle.mh_base.specs.declared.obj_ref.ObjRef.{ObjRef}
use Rattle.mh_base.specs.declared.value.Value.TheVariants as value
use Rattle.mh_group.specs.declared.action_name.ActionName.{ActionName}
use Rattle.mh_group.specs.Table.{is_application, is_scene}
use Rattle.mh_model.specs.declared.act.Argument.{Argument}
use Rattle.mh_model.specs.declared.act.Argument.TheVariants as argument
use Rattle.mh_model.specs.declared.act.Target.{Target}
use Rattle.mh_model.specs.declared.act.Target.TheVariants as target
use Rattle.mh_model.specs.declared.config.Config.{Config}
use Rattle.mh_model.specs.declared.object.Fixed.{Fixed}
use Rattle.mh_model.specs.Arguments.{receivers}
use Rattle.mh_model.specs.Configuration.{is_group_of, present}
use Rattle.mh_model.specs.Faults.{Wrong, wrongs}
use Rattle.mh_model.specs.Reference.{same_key}
use Rattle.mh_model.specs.Service.{Service, group_parts}
use Rattle.mh_laws.specs.Active.{known_with}
use Rattle.mh_laws.specs.Flow.{Sets, fills, is_given, is_list_in, is_reference_in}
use Rattle.mh_flow.specs.declared.chain.link.Link.{Link}
use Rattle.mh_flow.specs.Chart.{firsts, handed_argument}
use Rattle.mh_flow.specs.Sites.{Site, sites, sites_of}
use Rattle.mh_flow.specs.Solved.{is_holder_in}
use Rattle.mh_layers.specs.declared.arrows.arrow.Arrow.{Arrow}
use Rattle.mh_layers.specs.declared.arrows.arrow.Held.{Held}
use Rattle.mh_layers.specs.Arrows.{goes_round, same_action}
use Rattle.mh_verify.specs.declared.refusal.Place.{Place}
use Rattle.mh_verify.specs.declared.refusal.Refusal.{Refusal}
use Rattle.mh_verify.specs.declared.refusal.RefusalKind.{RefusalKind}
use Rattle.mh_verify.specs.declared.refusal.RefusalKind.TheVariants as kind
use Rattle.mh_verify.specs.Kinds.{kind_number}
use Rattle.mh_verify.specs.Naming.{is_part_at, is_site_at}
use Rattle.mh_verify.specs.Refusals.{kind_for, part_wrongs}

-- CONFIGURATIONS: an application with one of the scenes, or with none
abbrev pub is_configuration : Service → Config → Bool
is_configuration s c = is_group_of is_application s c.app && option_map_or (is_group_of is_scene s) c.scene true

-- WHAT IS SAID TO BE WRONG: V1 to V5 and V7

-- what is said: the kind, the reference that is named, and for V4 and V5 the variable or the list that is said to hold it
pub record Claim : Type 0 where
  pub kind : RefusalKind
  pub at : ObjRef
  pub holder : Option ObjRef

-- the place came to the reference through the holder, if one is named
abbrev pub is_through : Option ObjRef → Option ObjRef → Bool
is_through None v = true
is_through (Some h) v = option_map_or (same_key h) v false

-- just this is wrong
abbrev pub is_claimed : Claim → Wrong → Bool
is_claimed k w = option_eq (λ m n. m == n) (kind_number (kind_for w)) (kind_number k.kind) && same_key k.at w.at && is_through k.holder w.through

-- each variable refers to this, and each list has it
abbrev pub all_have : ObjRef → Sets
all_have r v = r ∷ []

-- the named action is active at the place and this is wrong with it; where none is named, it is wrong with a member of the group
-- of objects that is present there
abbrev pub wrongs_named : Service → List Fixed → Sets → Place → Option ActionName → List Wrong
wrongs_named s ps h p None = flat_map (part_wrongs ps h) (filter (is_part_at p) ps)
wrongs_named s ps h p (Some n) =
    flat_map (λ x. wrongs (known_with s ps h) x.act) (filter (λ x. is_site_at p x && same_action n x.act.name) (sites_of ps))

-- what variables may refer to: the reference that is named, or anything that is present
abbrev pub granted : List Fixed → ObjRef → List ObjRef
granted ps q = q ∷ map (λ (p : Fixed). p.key) ps

-- what is said is wrong there, whatever of that it is to which variables refer
abbrev pub is_wrong : Service → Config → Place → Option ActionName → Claim → Bool
is_wrong s c p n k =
    list_any (λ r. list_any (is_claimed k) (wrongs_named s (present s c) (all_have r) p n)) (granted (present s c) k.at)

-- HOW THE REFERENCE CAME THERE: chains of V4 and V5

-- a target can be this: it is written so, or it is granted of a variable
abbrev pub can_be : Target → ObjRef → Bool
can_be (target.Direct t) r = same_key r t
can_be (target.Through v) r = true

-- the action can write the variable or list
abbrev pub writes : Service → Site → ObjRef → Bool
writes s x r = can_be x.act.target r && is_given (group_parts s r.group) x.act.name r

abbrev pub is_written : ObjRef → Option Argument → Bool
is_written q (Some (argument.Direct (value.Object r))) = same_key q r
is_written q _ = false

abbrev pub is_read : ObjRef → Option Argument → Bool
is_read y (Some (argument.Through v k)) = same_key y v
is_read y _ = false

-- it hands on what the variable refers to
abbrev pub reads : Service → Site → ObjRef → Bool
reads s x y = is_read y (handed_argument x.act) && is_reference_in (group_parts s y.group) y

-- it answers an item of the list to a variable
abbrev pub answers : Service → Site → ObjRef → ObjRef → Bool
answers s x y r =
    fills x.act.name && can_be x.act.target y && is_list_in (group_parts s y.group) y
    && list_any (same_key r) (receivers x.act.arguments) && is_reference_in (group_parts s r.group) r

-- the link is at the object's own place, or at the action's
abbrev pub is_first_at : Link → Fixed → Bool
is_first_at l p = same_key l.key p.key && same_key l.written p.key

abbrev pub is_link_at : Link → Site → Bool
is_link_at l x = same_key l.key x.key && l.index == x.index

-- the actions of a link's place
abbrev pub sites_at : Service → Link → List Site
sites_at s l = filter (is_link_at l) (flat_map sites (group_parts s l.key.group))

-- an object has the reference at first, or an action that names it writes it
abbrev pub begins : Service → ObjRef → Link → Bool
begins s q l =
    if l.index == 0 then list_any (λ p. is_first_at l p && list_any (same_key q) (firsts p)) (group_parts s l.key.group)
    else list_any (λ x. writes s x l.written && is_written q (handed_argument x.act)) (sites_at s l)

-- an action reads what was written last, and writes this
abbrev pub goes_on : Service → ObjRef → Link → Bool
goes_on s y l = list_any (λ x. (writes s x l.written && reads s x y) || answers s x y l.written) (sites_at s l)

-- from what was written last the links lead on
abbrev pub leads_on : Service → ObjRef → List Link → Bool
leads_on s y [] = true
leads_on s y (l ∷ ls) = goes_on s y l && leads_on s l.written ls

-- the links bring the reference to what the last of them writes
abbrev pub brings : Service → ObjRef → List Link → Bool
brings s q [] = false
brings s q (l ∷ ls) = begins s q l && leads_on s l.written ls

-- what the links write last
abbrev pub last_written : List Link → Option ObjRef
last_written [] = None
last_written (l ∷ []) = Some l.written
last_written (l ∷ m ∷ ls) = last_written (m ∷ ls)

-- ARROWS: V6

-- what is granted is held by a variable of references, or by a list
abbrev pub is_by_holder : Service → Held → Bool
is_by_holder s h = is_holder_in (group_parts s h.by.group) h.by

-- the cause is of a configuration, and all that is granted is of variables of references and of lists
abbrev pub is_arrow_of : Service → Arrow → Bool
is_arrow_of s a = is_configuration s a.cause.config && list_all (is_by_holder s) a.held

-- EVIDENCE

-- a claim about a place in a configuration
abbrev pub shows : Refusal → Option ObjRef → Place → Config → ObjRef → Bool
shows r holder p c q =
    is_configuration r.service c && is_wrong r.service c p r.action (record { kind = r.kind; at = q; holder = holder })

-- the refusal names all that it takes, and it is so
abbrev pub shows_wrong : Refusal → Option ObjRef → Bool
shows_wrong r holder =
    option_map_or (λ p. option_map_or (λ c. option_map_or (shows r holder p c) r.object false) r.config false) r.place false

-- and the links of its chain bring it to the variable or list through which the place came to it
abbrev pub shows_held : Refusal → Bool
shows_held r = option_map_or (λ q. brings r.service q r.chain) r.object false && shows_wrong r (last_written r.chain)

-- its arrows are of the service, each leads to the next, and the last to the first
abbrev pub shows_cycle : Refusal → Bool
shows_cycle r = list_all (is_arrow_of r.service) r.cycle && goes_round r.service r.cycle

-- the evidence that a refusal of this kind carries
abbrev pub evidence_of : RefusalKind → Refusal → Bool
evidence_of kind.AbsentObject r = shows_wrong r None
evidence_of kind.WrongClass r = shows_wrong r None
evidence_of kind.WrongKind r = shows_wrong r None
evidence_of kind.HeldAbsent r = shows_held r
evidence_of kind.HeldWrongClass r = shows_held r
evidence_of kind.Cycle r = shows_cycle r
evidence_of kind.TimerThroughVariable r = shows_wrong r None
evidence_of (kind.TooManySteps k) r = true
evidence_of kind.WrongCall r = true
evidence_of kind.NoMemory r = false

-- a refusal shows what it says; of too many steps and of calls there is nothing to read, and no verdict shows nothing
abbrev pub evidence : Refusal → Bool
evidence r = evidence_of r.kind r

-- whatever a refusal says but that memory was refused, it shows
abbrev pub IsShown : Refusal → Type 0
IsShown r = evidence r ≡ is_some (kind_number r.kind)
