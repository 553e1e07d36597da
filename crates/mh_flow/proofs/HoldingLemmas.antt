-- What is derived is in the least sets: a configuration that is reached is a member of the first set, and what a variable
-- or list holds is a member of its own.
use Rattle.std.specs.Prelude.{◌≡◌, ℕ, suc, Bool, true, false, ◌&&◌, ◌||◌, if◌then◌else◌, List, [], ◌∷◌, ◌++◌, filter, slice_get, Option, Some, None, refl}
use Rattle.std.specs.List.{Contains, flat_map}
use Rattle.std.specs.Option.{is_some, option_map, option_map_or, option_to_list}
use Rattle.std.specs.Cmp.Derive.{both_true}
use Rattle.std.proofs.Common.{ap, ◌∙◌, sym, subst, inl, inr}
use Rattle.std.proofs.lemmas.List.Elements.{Contains-append_left, Contains-append_right}
use Rattle.mh_base.specs.declared.obj_ref.ObjRef.{ObjRef}
use Rattle.mh_base.specs.declared.value.Value.{Value}
use Rattle.mh_base.specs.declared.value.Value.TheVariants as value
use Rattle.mh_group.specs.Table.{admits, is_list_group}
use Rattle.mh_group.specs.declared.action_name.ActionName.{ActionName}
use Rattle.mh_group.specs.declared.class.Class.{Class}
use Rattle.mh_model.specs.declared.act.Act.{Act}
use Rattle.mh_model.specs.declared.act.Argument.{Argument}
use Rattle.mh_model.specs.declared.act.Argument.TheVariants as argument
use Rattle.mh_model.specs.declared.act.Target.{Target}
use Rattle.mh_model.specs.declared.act.Target.TheVariants as target
use Rattle.mh_model.specs.declared.config.Config.{Config}
use Rattle.mh_model.specs.declared.object.Fixed.{Fixed}
use Rattle.mh_model.specs.Arguments.{receivers}
use Rattle.mh_model.specs.Configuration.{has_keys, is_service, present, starting}
use Rattle.mh_model.specs.Service.{Service, group_parts, part_at}
use Rattle.mh_model.proofs.ListLemmas.{some_same}
use Rattle.mh_laws.specs.Active.{active_actions, leads_to}
use Rattle.mh_laws.specs.Describing as saying
use Rattle.mh_laws.specs.Describing.{Says, says}
use Rattle.mh_laws.specs.Flow.{fills, is_given, is_holder, is_list_in, is_reference_in, refers, reads_reference}
use Rattle.mh_laws.specs.Least.{Derived, Reached, Held, Comes, Hands, start, named, referred, written, read, original_value, original_item, given, filled, led, passed}
use Rattle.mh_laws.specs.Least as least
use Rattle.mh_flow.specs.declared.fixpoint.constraints.Fact.{Fact}
use Rattle.mh_flow.specs.declared.fixpoint.constraints.Item.{Item}
use Rattle.mh_flow.specs.declared.fixpoint.constraints.Item.TheVariants as item
use Rattle.mh_flow.specs.Rows.{has}
use Rattle.mh_flow.specs.Sets.{IsLeast, IsThere}
use Rattle.mh_flow.specs.declared.chart.Bases.{Bases}
use Rattle.mh_flow.specs.declared.chart.Set.{Set}
use Rattle.mh_flow.specs.Chart.{Chart, IsChart, config_number, firsts, member_of, node_from, handed_argument}
use Rattle.mh_flow.specs.Opening as opening
use Rattle.mh_flow.specs.Opening.{member, member_at, edge_at, system_of, opens}
use Rattle.mh_flow.specs.Solved.{is_holder_in}
use Rattle.mh_flow.proofs.ContainsLemmas.{here, behind, in_joined}
use Rattle.mh_flow.proofs.ListedLemmas.{is_listed, same_application}
use Rattle.mh_flow.proofs.MentionLemmas.{HoldsFirst, first_number, first_of, written_number}
use Rattle.mh_flow.proofs.NumberLemmas.{IsAt, has_node, has_number, is_node, is_numbered, led_set_at, member_at_number, reached_set}
use Rattle.mh_flow.proofs.PassageLemmas.{is_along}
use Rattle.mh_flow.proofs.PresentLemmas.{own_found, passing, present_found, same_itself}
use Rattle.mh_flow.proofs.ChainStepLemmas.{says_handed}

-- What is present and has a set

in_class : (ps : List Fixed) (r : ObjRef) (is : Class → Bool) (o : Option Fixed) → option_map_or is (option_map (λ (p : Fixed). p.class) o) false ≡ true → (p : Fixed) × (o ≡ Some p) × (is p.class ≡ true)
in_class ps r is None e = absurd cc
in_class ps r is (Some p) e = (p, refl, e)

-- an object that is found is a variable or a list where its class is
holder_found : (ps : List Fixed) (r : ObjRef) (p : Fixed) → part_at r ps ≡ Some p → is_holder p.class ≡ true → is_holder_in ps r ≡ true
holder_found ps r p e is = ap (λ (o : Option Fixed). option_map_or is_holder (option_map (λ (x : Fixed). x.class) o) false) e ∙ is

found_holder : (ps : List Fixed) (r : ObjRef) (p : Fixed) → part_at r ps ≡ Some p → is_holder_in ps r ≡ true → is_holder p.class ≡ true
found_holder ps r p e is = sym (ap (λ (o : Option Fixed). option_map_or is_holder (option_map (λ (x : Fixed). x.class) o) false) e) ∙ is

right_of : (a b : Bool) → (a && b) ≡ true → b ≡ true
right_of true b e = e
right_of false b e = absurd cc

left_holds : (a b : Bool) → a ≡ true → (a || b) ≡ true
left_holds true b e = refl
left_holds false b e = absurd cc

right_holds : (a b : Bool) → b ≡ true → (a || b) ≡ true
right_holds true b e = refl
right_holds false b e = e

given_part : (ps : List Fixed) (n : ActionName) (r : ObjRef) → is_given ps n r ≡ true → (p : Fixed) × (part_at r ps ≡ Some p) × (is_holder p.class ≡ true)
given_part ps n r e =
    let found = in_class ps r (λ (c : Class). admits c n && is_holder c) (part_at r ps) e in
    (found.0, found.1, right_of (admits found.0.class n) (is_holder found.0.class) found.2)

reference_part : (ps : List Fixed) (r : ObjRef) → is_reference_in ps r ≡ true → (p : Fixed) × (part_at r ps ≡ Some p) × (is_holder p.class ≡ true)
reference_part ps r e =
    let found = in_class ps r refers (part_at r ps) e in
    (found.0, found.1, left_holds (refers found.0.class) (is_list_group found.0.class) found.2)

-- what holds a reference at first is a variable of references or a list
first_holder : (p : Fixed) (q : ObjRef) → HoldsFirst p q → is_holder p.class ≡ true
first_holder p q (inl (is, e)) = left_holds (refers p.class) (is_list_group p.class) is
first_holder p q (inr (is, e)) = right_holds (refers p.class) (is_list_group p.class) is

-- What holds a reference is a variable of references or a list.

abbrev WhereHolder : Service → least.Fact → Type 0
WhereHolder v (Held c r q) = is_holder_in (present v c) r ≡ true
WhereHolder v x = Unit {0}

where_holder : (v : Service) (x : least.Fact) → is_service v ≡ true → has_keys v ≡ true → Derived v x → WhereHolder v x
where_holder v _ is keys start = tt
where_holder v _ is keys (named c r) = tt
where_holder v _ is keys (referred c w q refers d) = tt
where_holder v _ is keys (written c q) = tt
where_holder v _ is keys (read c w q k refers d) = tt
where_holder v _ is keys (original_value c p q d among kind e) =
    holder_found (present v c) p.key p (present_found v c p is keys among) (left_holds (refers p.class) (is_list_group p.class) kind)
where_holder v _ is keys (original_item c p q d among list e) =
    holder_found (present v c) p.key p (present_found v c p is keys among) (right_holds (refers p.class) (is_list_group p.class) list)
where_holder v _ is keys (given c a n x r q d active says_it e comes takes reads hands) =
    let part = given_part (present v c) a.name r takes in
    holder_found (present v c) r part.0 part.1 part.2
where_holder v _ is keys (filled c a r x q d active fill comes list receives kind held) =
    let part = reference_part (present v c) x kind in
    holder_found (present v c) x part.0 part.1 part.2
where_holder v _ is keys (led c a r d h active comes e) = tt
where_holder v _ is keys (passed c a r d g p q h active comes e scene among held) =
    let own : Contains (group_parts v d.app) p = subst (λ (app : List ℕ). Contains (group_parts v app) p) (same_application v c d a.name r g e scene) among in
    holder_found (present v d) p.key p (own_found v d p keys own)
    (found_holder (present v c) p.key p (own_found v c p keys among) (where_holder v (Held c p.key q) is keys held))

pub holder_of_held : (v : Service) (c : Config) (r q : ObjRef) → is_service v ≡ true → has_keys v ≡ true → Derived v (Held c r q) → is_holder_in (present v c) r ≡ true
holder_of_held v c r q is keys d = where_holder v (Held c r q) is keys d

own_holder : (v : Service) (c : Config) (p : Fixed) (q : ObjRef) → is_service v ≡ true → has_keys v ≡ true → Contains (group_parts v c.app) p → Derived v (Held c p.key q) → is_holder p.class ≡ true
own_holder v c p q is keys among d = found_holder (present v c) p.key p (own_found v c p keys among) (holder_of_held v c p.key q is keys d)

-- What is known of rows

-- the configuration has this number, with these bases
pub record IsNumber (ch : Chart) (c : Config) (k : ℕ) (b : Bases) : Type 0 where
  pub number : config_number ch c ≡ Some k
  pub at : IsAt ch k c b

-- it is a member of the first set
pub record IsReachedIn (ch : Chart) (rows : List (List Bool)) (c : Config) : Type 0 where
  pub number : ℕ
  pub bases : Bases
  pub is : IsNumber ch c number bases
  pub has : has rows 0 number ≡ true

-- the set of the object has the reference
pub record IsHeldIn (v : Service) (ch : Chart) (rows : List (List Bool)) (c : Config) (b : Bases) (r q : ObjRef) : Type 0 where
  pub node : ℕ
  pub is_node : node_from v c r b ≡ Some node
  pub member : ℕ
  pub is_member : member_of ch q ≡ Some member
  pub has : has rows node member ≡ true

abbrev pub HeldWhere : Service → Chart → List (List Bool) → Config → ObjRef → ObjRef → Type 0
HeldWhere v ch rows c r q = (k : ℕ) (b : Bases) → IsNumber ch c k b → IsHeldIn v ch rows c b r q

abbrev ComesWhere : Service → Chart → List (List Bool) → Config → Target → ObjRef → Type 0
ComesWhere v ch rows c (target.Direct r) q = r ≡ q
ComesWhere v ch rows c (target.Through w) q = (is_reference_in (present v c) w ≡ true) × HeldWhere v ch rows c w q

abbrev HandsWhere : Service → Chart → List (List Bool) → Config → Argument → ObjRef → Type 0
HandsWhere v ch rows c (argument.Direct x) q = x ≡ value.Object q
HandsWhere v ch rows c (argument.Through w k) q = (is_reference_in (present v c) w ≡ true) × HeldWhere v ch rows c w q
HandsWhere v ch rows c (argument.Receiver w) q = false ≡ true

abbrev KnownIn : Service → Chart → List (List Bool) → least.Fact → Type 0
KnownIn v ch rows (Reached c) = IsReachedIn ch rows c
KnownIn v ch rows (Held c r q) = HeldWhere v ch rows c r q
KnownIn v ch rows (Comes c t q) = ComesWhere v ch rows c t q
KnownIn v ch rows (Hands c x q) = HandsWhere v ch rows c x q

same_number : (ch : Chart) (c : Config) (k l : ℕ) (b e : Bases) → IsNumber ch c k b → IsNumber ch c l e → (k ≡ l) × (b ≡ e)
same_number ch c k l b e is other =
    let same : k ≡ l = some_same (sym is.number ∙ other.number) in
    (same, ap (λ (x : Config × Bases). x.1) (some_same (sym is.at ∙ subst (λ (n : ℕ). IsAt ch n c e) (sym same) other.at)))

-- What members open

abbrev fact : ℕ → ℕ → Fact
fact u q = record { node = u; member = q }

config_opens : (v : Service) (ch : Chart) (k : ℕ) (c : Config) (b : Bases) (x : Item) → IsChart v ch → IsAt ch k c b → Contains (opening.by_config v ch k c b) x → Contains (opens v ch (fact 0 k)) x
config_opens v ch k c b x is at m =
    subst (λ (o : Option Set). Contains (option_map_or (opening.opened_in v ch k) o []) x) (sym (reached_set v ch is))
    (subst (λ (o : Option (Config × Bases)). Contains (option_map_or (λ (e : Config × Bases). opening.by_config v ch k e.0 e.1) o []) x) (sym at) m)

led_opens : (v : Service) (ch : Chart) (k n : ℕ) (c d : Config) (b e : Bases) (x : Item) → IsChart v ch → IsAt ch k c b → IsAt ch n d e → Contains (opening.by_led b n (Some (d, e))) x → Contains (opens v ch (fact (suc k) n)) x
led_opens v ch k n c d b e x is at there m =
    subst (λ (o : Option Set). Contains (option_map_or (opening.opened_in v ch n) o []) x) (sym (led_set_at v ch k c b is at))
    (subst (λ (o : Option (Config × Bases)). Contains (option_map_or (λ (y : Config × Bases). opening.by_led y.1 n (slice_get ch.configs n)) o []) x) (sym at)
    (subst (λ (o : Option (Config × Bases)). Contains (opening.by_led b n o) x) (sym there) m))

held_opens : (v : Service) (ch : Chart) (k : ℕ) (c : Config) (b : Bases) (w q : ObjRef) (u i : ℕ) (x : Item) → IsChart v ch → IsAt ch k c b → node_from v c w b ≡ Some u → member_of ch q ≡ Some i → Contains (opening.by_variable v ch k c b w (Some q)) x → Contains (opens v ch (fact u i)) x
held_opens v ch k c b w q u i x is at e f m =
    let node = is_node v ch k c b w u is at e in
    subst (λ (o : Option Set). Contains (option_map_or (opening.opened_in v ch i) o []) x) (sym node.set)
    (subst (λ (o : Option (Config × Bases)). Contains (option_map_or (λ (y : Config × Bases). opening.by_object v ch k y.0 y.1 (slice_get ch.members i) (slice_get (present v y.0) node.place)) o []) x) (sym at)
    (subst (λ (o : Option Fixed). Contains (opening.by_object v ch k c b (slice_get ch.members i) o) x) (sym node.at)
    (subst (λ (r : ObjRef). Contains (opening.by_variable v ch k c b r (slice_get ch.members i)) x) (sym node.key)
    (subst (λ (o : Option ObjRef). Contains (opening.by_variable v ch k c b w o) x) (sym (member_at_number ch q i f)) m))))

-- all that an action does is there, where its target comes to the object
does_there : (v : Service) (ch : Chart) (rows : List (List Bool)) (k : ℕ) (c : Config) (b : Bases) (a : Act) (r : ObjRef) (x : Item) → IsChart v ch → (s : IsLeast (system_of v ch) rows) → IsNumber ch c k b → has rows 0 k ≡ true → Contains (active_actions (present v c)) a → ComesWhere v ch rows c a.target r → Contains (opening.does v ch k c b a r) x → IsThere rows s.edges x
does_there v ch rows k c b a r x is s number reached active comes m = by a.target refl comes
  where
    by : (t : Target) → a.target ≡ t → ComesWhere v ch rows c t r → IsThere rows s.edges x
    by (target.Direct y) e same =
        let direct : Contains (opening.does_direct v ch k c b a a.target) x = subst (λ (t : Target). Contains (opening.does_direct v ch k c b a t) x) (ap target.Direct (sym same) ∙ sym e) m in
        s.opened (fact 0 k) reached x (config_opens v ch k c b x is number.at
        (Contains-append_right (flat_map (opening.held_first v ch c b) (present v c)) (flat_map (λ (y : Act). opening.does_direct v ch k c b y y.target) (active_actions (present v c))) x
        (in_joined (λ (y : Act). opening.does_direct v ch k c b y y.target) (active_actions (present v c)) a x active direct)))
    by (target.Through w) e two =
        let held = two.1 k b number in
        let through : Contains (opening.does_through v ch k c b w r a (target.Through w)) x = subst (λ (z : Bool). Contains (if z then opening.does v ch k c b a r else []) x) (sym (same_itself w)) m in
        let of_act : Contains (opening.does_through v ch k c b w r a a.target) x = subst (λ (t : Target). Contains (opening.does_through v ch k c b w r a t) x) (sym e) through in
        let all : Contains (flat_map (λ (y : Act). opening.does_through v ch k c b w r y y.target) (active_actions (present v c))) x = in_joined (λ (y : Act). opening.does_through v ch k c b w r y y.target) (active_actions (present v c)) a x active of_act in
        s.opened (fact held.node held.member) held.has x (held_opens v ch k c b w r held.node held.member x is number.at held.is_node held.is_member
        (subst (λ (z : Bool). Contains (if z then flat_map (λ (y : Act). opening.does_through v ch k c b w r y y.target) (active_actions (present v c)) else []) x) (sym two.0) all))

-- The items of an action

handed_does : (v : Service) (ch : Chart) (k : ℕ) (c : Config) (b : Bases) (a : Act) (r : ObjRef) (n : ℕ) (y : Argument) (x : Item) → is_given (present v c) a.name r ≡ true → Contains (says a.name) (saying.Hands n) → slice_get a.arguments n ≡ Some y → reads_reference y a.name ≡ true → Contains (opening.handed_on v ch c b r y) x → Contains (opening.does v ch k c b a r) x
handed_does v ch k c b a r n y x takes says_it e reads m =
    let all : Contains (flat_map (opening.handed_on v ch c b r) (option_to_list (handed_argument a))) x = subst (λ (o : Option Argument). Contains (flat_map (opening.handed_on v ch c b r) (option_to_list o)) x) (sym (says_handed a n y says_it e reads)) (in_joined (opening.handed_on v ch c b r) (y ∷ []) y x (here y []) m) in
    Contains-append_left (opening.given v ch c b a r ++ opening.filled v ch c b a r) (opening.led_on ch k (leads_to v c a.name r)) x
    (Contains-append_left (opening.given v ch c b a r) (opening.filled v ch c b a r) x
    (subst (λ (z : Bool). Contains (if z then flat_map (opening.handed_on v ch c b r) (option_to_list (handed_argument a)) else []) x) (sym takes) all))

filled_does : (v : Service) (ch : Chart) (k : ℕ) (c : Config) (b : Bases) (a : Act) (r w : ObjRef) (x : Item) → fills a.name ≡ true → is_list_in (present v c) r ≡ true → Contains (receivers a.arguments) w → is_reference_in (present v c) w ≡ true → Contains (edge_at (node_from v c r b) (node_from v c w b)) x → Contains (opening.does v ch k c b a r) x
filled_does v ch k c b a r w x fill list receives refers m =
    let of_receiver : Contains (opening.filled_in v ch c b r w) x = subst (λ (z : Bool). Contains (if z then edge_at (node_from v c r b) (node_from v c w b) else []) x) (sym refers) m in
    let all : Contains (flat_map (opening.filled_in v ch c b r) (receivers a.arguments)) x = in_joined (opening.filled_in v ch c b r) (receivers a.arguments) w x receives of_receiver in
    Contains-append_left (opening.given v ch c b a r ++ opening.filled v ch c b a r) (opening.led_on ch k (leads_to v c a.name r)) x
    (Contains-append_right (opening.given v ch c b a r) (opening.filled v ch c b a r) x
    (subst (λ (z : Bool). Contains (if z then flat_map (opening.filled_in v ch c b r) (receivers a.arguments) else []) x) (sym (both_true fill list)) all))

led_does : (v : Service) (ch : Chart) (k : ℕ) (c : Config) (b : Bases) (a : Act) (r : ObjRef) (d : Config) (n : ℕ) → leads_to v c a.name r ≡ Some d → config_number ch d ≡ Some n → Contains (opening.does v ch k c b a r) (member (suc k) n)
led_does v ch k c b a r d n e f =
    Contains-append_right (opening.given v ch c b a r ++ opening.filled v ch c b a r) (opening.led_on ch k (leads_to v c a.name r)) (member (suc k) n)
    (subst (λ (o : Option Config). Contains (opening.led_on ch k o) (member (suc k) n)) (sym e)
    (subst (λ (o : Option ℕ). Contains (member_at (Some (suc k)) o) (member (suc k) n)) (sym f) (here (member (suc k) n) [])))

in_member_at : (o p : Option ℕ) (u i : ℕ) → o ≡ Some u → p ≡ Some i → Contains (member_at o p) (member u i)
in_member_at o p u i e f = subst (λ (a : Option ℕ). Contains (member_at a p) (member u i)) (sym e) (subst (λ (a : Option ℕ). Contains (member_at (Some u) a) (member u i)) (sym f) (here (member u i) []))

in_edge_at : (o p : Option ℕ) (u w : ℕ) → o ≡ Some u → p ≡ Some w → Contains (edge_at o p) (item.Edge u w)
in_edge_at o p u w e f = subst (λ (a : Option ℕ). Contains (edge_at a p) (item.Edge u w)) (sym e) (subst (λ (a : Option ℕ). Contains (edge_at (Some u) a) (item.Edge u w)) (sym f) (here (item.Edge u w) []))

-- What is derived, by its cases

-- the chart, and least sets of its system
abbrev AreLeast : Service → Chart → List (List Bool) → Type 0
AreLeast v ch rows = IsLeast (system_of v ch) rows

reached_in : (ch : Chart) (rows : List (List Bool)) (c : Config) (n : ℕ) → config_number ch c ≡ Some n → has rows 0 n ≡ true → IsReachedIn ch rows c
reached_in ch rows c n e h = let number = is_numbered ch c n e in record { number = n; bases = number.bases; is = record { number = e; at = number.at }; has = h }

-- with any bases of it
reached_at : (ch : Chart) (rows : List (List Bool)) (c : Config) (k : ℕ) (b : Bases) → IsReachedIn ch rows c → IsNumber ch c k b → has rows 0 k ≡ true
reached_at ch rows c k b h number = subst (λ (n : ℕ). has rows 0 n ≡ true) (same_number ch c h.number k h.bases b h.is number).0 h.has

start_known : (v : Service) (ch : Chart) (rows : List (List Bool)) → IsChart v ch → AreLeast v ch rows → IsReachedIn ch rows (starting v)
start_known v ch rows is s =
    let found = has_number v ch (starting v) is (is_listed v (starting v) is.service start) in
    reached_in ch rows (starting v) found.0 found.1 (s.starts (member 0 found.0) (in_member_at (Some 0) (config_number ch (starting v)) 0 found.0 refl found.1))

first_known : (v : Service) (ch : Chart) (rows : List (List Bool)) (c : Config) (p : Fixed) (q : ObjRef) → IsChart v ch → AreLeast v ch rows → IsReachedIn ch rows c → Contains (present v c) p → HoldsFirst p q → HeldWhere v ch rows c p.key q
first_known v ch rows c p q is s reached among holds k b number =
    let part = present_found v c p is.service is.keys among in
    let node = has_node v ch k c b p.key p is number.at part (first_holder p q holds) in
    let first = first_of p q holds in
    let name = first_number v ch c p q is among first in
    let of_part : Contains (opening.held_first v ch c b p) (member node.0 name.0) = in_joined (λ (y : ObjRef). member_at (node_from v c p.key b) (member_of ch y)) (firsts p) q (member node.0 name.0) first (in_member_at (node_from v c p.key b) (member_of ch q) node.0 name.0 node.1 name.1) in
    let of_config : Contains (opening.by_config v ch k c b) (member node.0 name.0) = Contains-append_left (flat_map (opening.held_first v ch c b) (present v c)) (flat_map (λ (y : Act). opening.does_direct v ch k c b y y.target) (active_actions (present v c))) (member node.0 name.0) (in_joined (opening.held_first v ch c b) (present v c) p (member node.0 name.0) among of_part) in
    record {
      node = node.0;
      is_node = node.1;
      member = name.0;
      is_member = name.1;
      has = s.opened (fact 0 k) (reached_at ch rows c k b reached number) (member node.0 name.0) (config_opens v ch k c b (member node.0 name.0) is number.at of_config);
    }

given_known : (v : Service) (ch : Chart) (rows : List (List Bool)) (c : Config) (a : Act) (n : ℕ) (y : Argument) (r q : ObjRef) → IsChart v ch → AreLeast v ch rows → IsReachedIn ch rows c → Contains (active_actions (present v c)) a → Contains (says a.name) (saying.Hands n) → slice_get a.arguments n ≡ Some y → ComesWhere v ch rows c a.target r → is_given (present v c) a.name r ≡ true → reads_reference y a.name ≡ true → HandsWhere v ch rows c y q → HeldWhere v ch rows c r q
given_known v ch rows c a n y r q is s reached active says_it e comes takes reads_it hands k b number = by y e reads_it hands
  where
    part : (p : Fixed) × (part_at r (present v c) ≡ Some p) × (is_holder p.class ≡ true)
    part = given_part (present v c) a.name r takes

    node : (u : ℕ) × (node_from v c r b ≡ Some u)
    node = has_node v ch k c b r part.0 is number.at part.1 part.2

    there : (z : Argument) (x : Item) → slice_get a.arguments n ≡ Some z → reads_reference z a.name ≡ true → Contains (opening.handed_on v ch c b r z) x → IsThere rows s.edges x
    there z x at reads m = does_there v ch rows k c b a r x is s number (reached_at ch rows c k b reached number) active comes (handed_does v ch k c b a r n z x takes says_it at reads m)

    by : (z : Argument) → slice_get a.arguments n ≡ Some z → reads_reference z a.name ≡ true → HandsWhere v ch rows c z q → IsHeldIn v ch rows c b r q
    by (argument.Direct w) at reads same =
        let it : slice_get a.arguments n ≡ Some (argument.Direct (value.Object q)) = at ∙ ap (λ (x : Value). Some (argument.Direct x)) same in
        let name = written_number v ch c a n q is active says_it it in
        record {
          node = node.0;
          is_node = node.1;
          member = name.0;
          is_member = name.1;
          has = there (argument.Direct (value.Object q)) (member node.0 name.0) it refl (in_member_at (node_from v c r b) (member_of ch q) node.0 name.0 node.1 name.1);
        }
    by (argument.Through w t) at reads two =
        let held = two.1 k b number in
        let edge : Contains (opening.handed_on v ch c b r (argument.Through w t)) (item.Edge held.node node.0) = subst (λ (z : Bool). Contains (if z then edge_at (node_from v c w b) (node_from v c r b) else []) (item.Edge held.node node.0)) (sym two.0) (in_edge_at (node_from v c w b) (node_from v c r b) held.node node.0 held.is_node node.1) in
        record {
          node = node.0;
          is_node = node.1;
          member = held.member;
          is_member = held.is_member;
          has = s.along held.node node.0 held.member (there (argument.Through w t) (item.Edge held.node node.0) at reads edge) held.has;
        }
    by (argument.Receiver w) at reads never = absurd cc

filled_known : (v : Service) (ch : Chart) (rows : List (List Bool)) (c : Config) (a : Act) (r w q : ObjRef) → IsChart v ch → AreLeast v ch rows → IsReachedIn ch rows c → Contains (active_actions (present v c)) a → fills a.name ≡ true → ComesWhere v ch rows c a.target r → is_list_in (present v c) r ≡ true → Contains (receivers a.arguments) w → is_reference_in (present v c) w ≡ true → HeldWhere v ch rows c r q → HeldWhere v ch rows c w q
filled_known v ch rows c a r w q is s reached active fill comes list receives refers holds k b number =
    let held = holds k b number in
    let part = reference_part (present v c) w refers in
    let node = has_node v ch k c b w part.0 is number.at part.1 part.2 in
    let edge = filled_does v ch k c b a r w (item.Edge held.node node.0) fill list receives refers (in_edge_at (node_from v c r b) (node_from v c w b) held.node node.0 held.is_node node.1) in
    record {
      node = node.0;
      is_node = node.1;
      member = held.member;
      is_member = held.is_member;
      has = s.along held.node node.0 held.member (does_there v ch rows k c b a r (item.Edge held.node node.0) is s number (reached_at ch rows c k b reached number) active comes edge) held.has;
    }

-- it is among those to which the configuration leads
led_known : (v : Service) (ch : Chart) (rows : List (List Bool)) (c d : Config) (a : Act) (r : ObjRef) (k n : ℕ) (b : Bases) → IsChart v ch → AreLeast v ch rows → IsReachedIn ch rows c → IsNumber ch c k b → Contains (active_actions (present v c)) a → ComesWhere v ch rows c a.target r → leads_to v c a.name r ≡ Some d → config_number ch d ≡ Some n → has rows (suc k) n ≡ true
led_known v ch rows c d a r k n b is s reached number active comes e f =
    does_there v ch rows k c b a r (member (suc k) n) is s number (reached_at ch rows c k b reached number) active comes (led_does v ch k c b a r d n e f)

reached_known : (v : Service) (ch : Chart) (rows : List (List Bool)) (c d : Config) (a : Act) (r : ObjRef) → IsChart v ch → AreLeast v ch rows → IsReachedIn ch rows c → Contains (active_actions (present v c)) a → ComesWhere v ch rows c a.target r → leads_to v c a.name r ≡ Some d → Derived v (Reached d) → IsReachedIn ch rows d
reached_known v ch rows c d a r is s reached active comes e derived =
    let found = has_number v ch d is (is_listed v d is.service derived) in
    let there = is_numbered ch d found.0 found.1 in
    let led = led_known v ch rows c d a r reached.number found.0 reached.bases is s reached reached.is active comes e found.1 in
    let opened = led_opens v ch reached.number found.0 c d reached.bases there.bases (member 0 found.0) is reached.is.at there.at (here (member 0 found.0) (opening.passed reached.bases d there.bases)) in
    reached_in ch rows d found.0 found.1 (s.opened (fact (suc reached.number) found.0) led (member 0 found.0) opened)

passed_known : (v : Service) (ch : Chart) (rows : List (List Bool)) (c d : Config) (a : Act) (r : ObjRef) (g : List ℕ) (p : Fixed) (q : ObjRef) → IsChart v ch → AreLeast v ch rows → IsReachedIn ch rows c → Contains (active_actions (present v c)) a → ComesWhere v ch rows c a.target r → leads_to v c a.name r ≡ Some d → d.scene ≡ Some g → Contains (group_parts v c.app) p → is_holder p.class ≡ true → HeldWhere v ch rows c p.key q → HeldWhere v ch rows d p.key q
passed_known v ch rows c d a r g p q is s reached active comes e scene among holder holds n f number =
    let held = holds reached.number reached.bases reached.is in
    let application = same_application v c d a.name r g e scene in
    let own : Contains (group_parts v d.app) p = subst (λ (app : List ℕ). Contains (group_parts v app) p) application among in
    let part = own_found v d p is.keys own in
    let node = has_node v ch n d f p.key p is number.at part holder in
    let led = led_known v ch rows c d a r reached.number n reached.bases is s reached reached.is active comes e number.number in
    let all : Contains (opening.taken_along reached.bases f) (item.Edge held.node node.0) = is_along v ch reached.number n c d reached.bases f p held.node node.0 is reached.is.at number.at application among holder held.is_node node.1 in
    let along : Contains (opening.passed reached.bases d f) (item.Edge held.node node.0) = subst (λ (o : Option (List ℕ)). Contains (if is_some o then opening.taken_along reached.bases f else []) (item.Edge held.node node.0)) (sym scene) all in
    let opened = led_opens v ch reached.number n c d reached.bases f (item.Edge held.node node.0) is reached.is.at number.at (behind (member 0 n) (opening.passed reached.bases d f) (item.Edge held.node node.0) along) in
    record {
      node = node.0;
      is_node = node.1;
      member = held.member;
      is_member = held.is_member;
      has = s.along held.node node.0 held.member (s.opened (fact (suc reached.number) n) led (item.Edge held.node node.0) opened) held.has;
    }

-- what is derived is known
derived_known : (v : Service) (ch : Chart) (rows : List (List Bool)) → IsChart v ch → AreLeast v ch rows → (x : least.Fact) → Derived v x → KnownIn v ch rows x
derived_known v ch rows is s _ start = start_known v ch rows is s
derived_known v ch rows is s _ (named c r) = refl
derived_known v ch rows is s _ (referred c w q refers d) = (refers, derived_known v ch rows is s (Held c w q) d)
derived_known v ch rows is s _ (written c q) = refl
derived_known v ch rows is s _ (read c w q k refers d) = (refers, derived_known v ch rows is s (Held c w q) d)
derived_known v ch rows is s _ (original_value c p q d among kind e) =
    first_known v ch rows c p q is s (derived_known v ch rows is s (Reached c) d) among (inl (kind, e))
derived_known v ch rows is s _ (original_item c p q d among list e) =
    first_known v ch rows c p q is s (derived_known v ch rows is s (Reached c) d) among (inr (list, e))
derived_known v ch rows is s _ (given c a n x r q d active says_it e comes takes reads hands) =
    given_known v ch rows c a n x r q is s (derived_known v ch rows is s (Reached c) d) active says_it e (derived_known v ch rows is s (Comes c a.target r) comes) takes reads (derived_known v ch rows is s (Hands c x q) hands)
derived_known v ch rows is s _ (filled c a r x q d active fill comes list receives refers held) =
    filled_known v ch rows c a r x q is s (derived_known v ch rows is s (Reached c) d) active fill (derived_known v ch rows is s (Comes c a.target r) comes) list receives refers (derived_known v ch rows is s (Held c r q) held)
derived_known v ch rows is s _ (led c a r d h active comes e) =
    reached_known v ch rows c d a r is s (derived_known v ch rows is s (Reached c) h) active (derived_known v ch rows is s (Comes c a.target r) comes) e (led c a r d h active comes e)
derived_known v ch rows is s _ (passed c a r d g p q h active comes e scene among held) =
    passed_known v ch rows c d a r g p q is s (derived_known v ch rows is s (Reached c) h) active (derived_known v ch rows is s (Comes c a.target r) comes) e scene among (own_holder v c p q is.service is.keys among held) (derived_known v ch rows is s (Held c p.key q) held)

pub reached_is_known : (v : Service) (ch : Chart) (rows : List (List Bool)) (c : Config) → IsChart v ch → IsLeast (system_of v ch) rows → Derived v (Reached c) → IsReachedIn ch rows c
reached_is_known v ch rows c is s d = derived_known v ch rows is s (Reached c) d

pub held_is_known : (v : Service) (ch : Chart) (rows : List (List Bool)) (c : Config) (r q : ObjRef) → IsChart v ch → IsLeast (system_of v ch) rows → Derived v (Held c r q) → HeldWhere v ch rows c r q
held_is_known v ch rows c r q is s d = derived_known v ch rows is s (Held c r q) d
