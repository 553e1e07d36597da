-- Which of several references is named, where a variable or a list may hold more than one that is wrong at one place: the
-- one that came there by the first of the shortest chains, and of those that came alike the smallest.
use Rattle.std.specs.Prelude.{◌≡◌, ◌≢◌, ◌≤◌, ℕ, Bool, true, false, ◌&&◌, ◌==◌, if◌then◌else◌, List, [], ◌∷◌, ◌++◌, length, filter, Option, Some, None}
use Rattle.std.specs.List.{Contains, flat_map}
use Rattle.std.specs.Option.{is_some}
use Rattle.std.specs.Str.{bytes_eq}
use Rattle.std.specs.declared.cmp.Ordering.{Ordering}
use Rattle.std.specs.declared.cmp.Ordering.TheVariants.{Less}
use Rattle.std.specs.Ordering.{is_lt, nat_cmp, on, then_cmp}
use Rattle.std.specs.Cmp.Lexicographic.{slice_cmp}
use Rattle.mh_base.specs.declared.obj_ref.ObjRef.{ObjRef}
use Rattle.mh_group.specs.Table.{is_list_group}
use Rattle.mh_model.specs.declared.act.Act.{Act}
use Rattle.mh_model.specs.declared.config.Config.{Config}
use Rattle.mh_model.specs.declared.fault.Reason.TheVariants as reason
use Rattle.mh_model.specs.declared.object.Fixed.{Fixed}
use Rattle.mh_model.specs.Configuration.{present}
use Rattle.mh_model.specs.Faults.{Ranking, Wrong, least, wrongs}
use Rattle.mh_model.specs.Reference.{same_key}
use Rattle.mh_model.specs.Service.{Service}
use Rattle.mh_laws.specs.Active.{item_wrongs, known_with}
use Rattle.mh_laws.specs.Flow.{Flow, Sets, has}
use Rattle.mh_laws.specs.Least.{by_reference}
use Rattle.mh_flow.specs.declared.chain.link.Link.{Link}
use Rattle.mh_flow.specs.Chains.{Brings, IsFirstChain, by_action_site}
use Rattle.mh_flow.specs.Sites.{Site, sites_of}
use Rattle.mh_verify.specs.declared.coming.Coming.{Coming}
use Rattle.mh_verify.specs.declared.refusal.Found.{Found}
use Rattle.mh_verify.specs.declared.refusal.Place.{Place}
use Rattle.mh_verify.specs.declared.refusal.RefusalKind.{RefusalKind}
use Rattle.mh_verify.specs.declared.refusal.RefusalKind.TheVariants as kind
use Rattle.mh_verify.specs.Refusals.{kind_for, part_wrongs}

-- What is wrong at a place

abbrev pub is_at : Place → ObjRef → ℕ → Bool
is_at p r n = bytes_eq p.group r.group && p.object == r.number && p.index == n

-- the place is that of the object itself, or of the action at the site
abbrev pub is_part_at : Place → Fixed → Bool
is_part_at p x = is_at p x.key 0

abbrev pub is_site_at : Place → Site → Bool
is_site_at p x = is_at p x.key x.index

abbrev pub wrongs_at : Service → List Fixed → Sets → Place → List Wrong
wrongs_at s ps h p =
    flat_map (part_wrongs ps h) (filter (is_part_at p) ps)
    ++ flat_map (λ x. wrongs (known_with s ps h) x.act) (filter (is_site_at p) (sites_of ps))

-- at the place of the refusal, in its configuration, for its reason and through the same variable or list the reference is
-- wrong
pub record IsWrongToo (s : Service) (w : Flow) (x : Found) (q : ObjRef) : Type 0 where
  pub wrong : Wrong
  pub among : Contains (wrongs_at s (present s x.config) (w.sets x.config) x.place) wrong
  pub kind : kind_for wrong ≡ x.kind
  pub through : wrong.through ≡ x.through
  pub reference : wrong.at ≡ q

-- How references come to be named

-- by the number of links, then place by place, then by the references
abbrev pub by_coming : Coming → Coming → Ordering
by_coming = then_cmp (then_cmp (on (λ k. length k.chain) nat_cmp) (on (λ k. k.chain) (slice_cmp by_action_site))) (on (λ k. k.at) by_reference)

abbrev pub is_sooner : Coming → Coming → Bool
is_sooner k l = is_lt (by_coming k l)

-- the reference is wrong where the refusal says, the links brought it to the variable or the list, and none that is wrong
-- there too came sooner
pub record IsSoonest (s : Service) (w : Flow) (x : Found) (k : Coming) : Type 0 where
  pub holder : ObjRef
  pub through : x.through ≡ Some holder
  pub wrong : IsWrongToo s w x k.at
  pub chain : IsFirstChain s k.at x.config holder k.chain
  pub first : (q : ObjRef) (ls : List Link) → IsWrongToo s w x q → Brings s q ls x.config holder → is_sooner (record { chain = ls; at = q }) k ≡ false

-- the reference is the one that was found, and nothing is said of how it came there
pub record IsWritten (x : Found) (k : Coming) : Type 0 where
  pub chain : k.chain ≡ []
  pub at : k.at ≡ x.object

-- what is named of what was found to be wrong
abbrev pub IsNamedAs : RefusalKind → Service → Flow → Found → Coming → Type 0
IsNamedAs kind.HeldAbsent s w x k = IsSoonest s w x k
IsNamedAs kind.HeldWrongClass s w x k = IsSoonest s w x k
IsNamedAs _ s w x k = IsWritten x k

abbrev pub IsNamed : Service → Flow → Found → Coming → Type 0
IsNamed s w x k = IsNamedAs x.kind s w x k

-- Candidates: what is wrong where the variable that holds it refers to it alone

-- one variable refers to one object
abbrev pub alone : ObjRef → ObjRef → Sets
alone v q x = if same_key x v then q ∷ [] else []

abbrev pub is_wrong_alone : Ranking → Service → List Fixed → Act → ObjRef → ObjRef → Bool
is_wrong_alone order s ps a v q = is_some (least order None (wrongs (known_with s ps (alone v q)) a))

abbrev pub candidates_through : Ranking → Service → List Fixed → Sets → ObjRef → Act → List ObjRef
candidates_through order s ps h v a = filter (is_wrong_alone order s ps a v) (h v)

-- the items of a list

abbrev pub is_wrong_item : Ranking → List Fixed → ObjRef → ObjRef → Bool
is_wrong_item order ps r q = is_some (least order None (item_wrongs ps r q))

abbrev pub candidates_from : Ranking → List Fixed → Sets → ObjRef → List ObjRef
candidates_from order ps h r = filter (is_wrong_item order ps r) (h r)

-- of an object, if it is that list
abbrev pub candidates_in : Ranking → List Fixed → Sets → ObjRef → Fixed → List ObjRef
candidates_in order ps h v p = if is_list_group p.class && same_key p.key v then candidates_from order ps h v else []

-- those at a place

abbrev pub candidates_of_parts : Ranking → List Fixed → Sets → ObjRef → Place → List Fixed → List ObjRef
candidates_of_parts order ps h v p qs = flat_map (candidates_in order ps h v) (filter (is_part_at p) qs)

abbrev pub candidates_of_sites : Ranking → Service → List Fixed → Sets → ObjRef → Place → List Site → List ObjRef
candidates_of_sites order s ps h v p xs = flat_map (λ x. candidates_through order s ps h v x.act) (filter (is_site_at p) xs)

abbrev pub candidates_at : Ranking → Service → List Fixed → Sets → ObjRef → Place → List ObjRef
candidates_at order s ps h v p = candidates_of_parts order ps h v p ps ++ candidates_of_sites order s ps h v p (sites_of ps)

-- held references that are absent, and those of a wrong class

abbrev pub absent_held : Ranking
absent_held reason.Absent true = Some 0
absent_held _ _ = None

abbrev pub class_held : Ranking
class_held reason.WrongClass true = Some 0
class_held _ _ = None

-- the variable or list may hold each
abbrev pub AreHeld : Sets → ObjRef → List ObjRef → Type 0
AreHeld h v qs = (q : ObjRef) → Contains qs q → has h v q ≡ true

-- no links that bring one of these there come before these links, by number and places
pub record AreNoSooner (s : Service) (c : Config) (v : ObjRef) (qs : List ObjRef) (ls : List Link) : Type 0 where
  pub shortest : (q : ObjRef) (ks : List Link) → Contains qs q → Brings s q ks c v → length ls ≤ length ks
  pub first : (q : ObjRef) (ks : List Link) → Contains qs q → Brings s q ks c v → length ks ≡ length ls → slice_cmp by_action_site ks ls ≢ Less

-- of these the one that came soonest
pub record IsSoonestOf (s : Service) (c : Config) (v : ObjRef) (qs : List ObjRef) (k : Coming) : Type 0 where
  pub among : Contains qs k.at
  pub chain : IsFirstChain s k.at c v k.chain
  pub first : (q : ObjRef) (ls : List Link) → Contains qs q → Brings s q ls c v → is_sooner (record { chain = ls; at = q }) k ≡ false

-- none where there are none
abbrev pub IsBest : Service → Config → ObjRef → List ObjRef → Option Coming → Type 0
IsBest s c v qs None = qs ≡ []
IsBest s c v qs (Some k) = IsSoonestOf s c v qs k

-- they are what is wrong where the refusal says
pub record AreCandidates (order : Ranking) (s : Service) (w : Flow) (x : Found) : Type 0 where
  pub holder : ObjRef
  pub through : x.through ≡ Some holder
  pub each : (q : ObjRef) → Contains (candidates_at order s (present s x.config) (w.sets x.config) holder x.place) q → IsWrongToo s w x q
  pub all : (q : ObjRef) → IsWrongToo s w x q → Contains (candidates_at order s (present s x.config) (w.sets x.config) holder x.place) q
  pub held : AreHeld (w.sets x.config) holder (candidates_at order s (present s x.config) (w.sets x.config) holder x.place)
  pub found : IsWrongToo s w x x.object
