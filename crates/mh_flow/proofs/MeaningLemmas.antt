-- What is opened is within bounds, and means what is derived where its cause does.
use Rattle.std.specs.Prelude.{◌≡◌, ◌⊎◌, ℕ, suc, ◌<◌, ◌≤◌, Bool, true, false, ◌&&◌, nat_lt, if◌then◌else◌, List, [], ◌++◌, length, slice_get, Option, Some, None, refl}
use Rattle.std.specs.List.{Contains, flat_map}
use Rattle.std.specs.Option.{is_some, option_map_or, option_to_list}
use Rattle.std.proofs.Common.{ap, ◌∙◌, sym, subst, arith, inl, inr}
use Rattle.std.proofs.lemmas.Bool.{ltb-true, ltb-false}
use Rattle.std.proofs.lemmas.List.Elements.{Contains-append_cases}
use Rattle.std.proofs.lemmas.Option.{slice_get_within}
use Rattle.mh_base.specs.declared.obj_ref.ObjRef.{ObjRef}
use Rattle.mh_base.specs.declared.value.Value.TheVariants as value
use Rattle.mh_model.specs.declared.act.Act.{Act}
use Rattle.mh_model.specs.declared.act.Argument.{Argument}
use Rattle.mh_model.specs.declared.act.Argument.TheVariants as argument
use Rattle.mh_model.specs.declared.act.Target.{Target}
use Rattle.mh_model.specs.declared.act.Target.TheVariants as target
use Rattle.mh_model.specs.declared.config.Config.{Config}
use Rattle.mh_model.specs.declared.object.Fixed.{Fixed}
use Rattle.mh_model.specs.Arguments.{receivers}
use Rattle.mh_model.specs.Configuration.{present, starting}
use Rattle.mh_model.specs.Reference.{same_ref}
use Rattle.mh_model.specs.Service.{Service, group_parts}
use Rattle.mh_model.proofs.ListLemmas.{some_same}
use Rattle.mh_model.proofs.ServiceLemmas.{same_ref-same}
use Rattle.mh_laws.specs.Active.{active_actions, leads_to}
use Rattle.mh_laws.specs.Describing as saying
use Rattle.mh_laws.specs.Describing.{Says, says}
use Rattle.mh_laws.specs.Flow.{fills, is_given, is_list_in, is_reference_in, reads_reference}
use Rattle.mh_laws.specs.Least as least
use Rattle.mh_laws.specs.Least.{Derived, Reached, Held, Comes, Hands, start, named, referred, written, read, original_value, original_item, given, filled, led, passed}
use Rattle.mh_flow.specs.declared.fixpoint.constraints.Fact.{Fact}
use Rattle.mh_flow.specs.declared.fixpoint.constraints.Item.{Item}
use Rattle.mh_flow.specs.declared.fixpoint.constraints.Item.TheVariants as item
use Rattle.mh_flow.specs.Constraints as system
use Rattle.mh_flow.specs.Constraints.{ConstraintSystem, IsFit}
use Rattle.mh_flow.specs.declared.chart.Bases.{Bases}
use Rattle.mh_flow.specs.declared.chart.Set.{Set}
use Rattle.mh_flow.specs.declared.chart.Set.TheVariants as set
use Rattle.mh_flow.specs.Chart.{Chart, IsChart, config_number, firsts, member_of, node_from, handed_argument}
use Rattle.mh_flow.specs.Opening as opening
use Rattle.mh_flow.specs.Opening.{member, member_at, edge_at, system_of, opens, wider}
use Rattle.mh_flow.proofs.ContainsLemmas.{halves, first_or_behind, joined_from, no_member}
use Rattle.mh_flow.proofs.ListedLemmas.{same_application}
use Rattle.mh_flow.proofs.MentionLemmas.{HoldsFirst, holds_first}
use Rattle.mh_flow.proofs.NumberLemmas.{IsAt, is_node, is_numbered, led_set_at, member_at_number, reached_set}
use Rattle.mh_flow.proofs.PassageLemmas.{IsAlong, along_is}
use Rattle.mh_flow.proofs.PlaceLemmas.{lone}
use Rattle.mh_flow.proofs.ChainStepLemmas.{handed_says}

-- the one configuration leads to the other, as far as is derived
pub record IsLedTo (v : Service) (c d : Config) : Type 0 where
  pub reached : Derived v (Reached d)
  pub application : (g : List ℕ) → d.scene ≡ Some g → c.app ≡ d.app
  pub passed : (g : List ℕ) (p : Fixed) (q : ObjRef) → d.scene ≡ Some g → Contains (group_parts v c.app) p → Derived v (Held c p.key q) → Derived v (Held d p.key q)

-- what it means that a set has the member with this number
abbrev pub Means : Service → Chart → Option Set → ℕ → Type 0
Means v ch None q = Unit {0}
Means v ch (Some set.Reached) q = (c : Config) (b : Bases) → IsAt ch q c b → Derived v (Reached c)
Means v ch (Some (set.Led k)) q = (c d : Config) (b e : Bases) → IsAt ch k c b → IsAt ch q d e → IsLedTo v c d
Means v ch (Some (set.Held k j)) q = (c : Config) (b : Bases) (p : Fixed) (r : ObjRef) → IsAt ch k c b → slice_get (present v c) j ≡ Some p → slice_get ch.members q ≡ Some r → Derived v (Held c p.key r)

-- an edge carries what is meant on
abbrev pub IsMeant : Service → Chart → Item → Type 0
IsMeant v ch (item.Member f) = Means v ch (slice_get ch.sets f.node) f.member
IsMeant v ch (item.Edge u w) = (q : ℕ) → Means v ch (slice_get ch.sets u) q → Means v ch (slice_get ch.sets w) q

-- it is within bounds, and meant where this is so
pub record IsGood (v : Service) (ch : Chart) (P : Type 0) (x : Item) : Type 0 where
  pub fits : system.fits (system_of v ch) x
  pub meant : P → IsMeant v ch x

in_option : {X : Type 0} (o : Option X) (x : X) → Contains (option_to_list o) x → o ≡ Some x
in_option None x m = absurd (no_member x m)
in_option (Some y) x m = ap Some (lone y x m)

wider_left : (n a b : ℕ) → n < a → n < wider a b
wider_left n a b less = by (nat_lt a b) refl
  where
    by : (t : Bool) → nat_lt a b ≡ t → n < (if t then b else a)
    by true e = let more : a < b = ltb-true a b e in omega (arith, less, more)
    by false e = less

wider_right : (n a b : ℕ) → n < b → n < wider a b
wider_right n a b less = by (nat_lt a b) refl
  where
    by : (t : Bool) → nat_lt a b ≡ t → n < (if t then b else a)
    by true e = less
    by false e = let more : b ≤ a = ltb-false a b e in omega (arith, less, more)

-- Members and edges

same_entry : (ch : Chart) (k : ℕ) (c d : Config) (b e : Bases) → IsAt ch k c b → IsAt ch k d e → c ≡ d
same_entry ch k c d b e at other = ap (λ (x : Config × Bases). x.0) (some_same (sym at ∙ other))

-- what an object's set means
pub held_means : (v : Service) (ch : Chart) (k : ℕ) (c : Config) (b : Bases) (r : ObjRef) (u m : ℕ) → IsChart v ch → IsAt ch k c b → node_from v c r b ≡ Some u → ((q : ObjRef) → slice_get ch.members m ≡ Some q → Derived v (Held c r q)) → Means v ch (slice_get ch.sets u) m
held_means v ch k c b r u m is at e derived =
    let node = is_node v ch k c b r u is at e in
    subst (λ (o : Option Set). Means v ch o m) (sym node.set) (λ d f p q there stands names. one d f p q there stands names)
  where
    one : (d : Config) (f : Bases) (p : Fixed) (q : ObjRef) → IsAt ch k d f → slice_get (present v d) (is_node v ch k c b r u is at e).place ≡ Some p → slice_get ch.members m ≡ Some q → Derived v (Held d p.key q)
    one d f p q there stands names =
        let node = is_node v ch k c b r u is at e in
        let same : c ≡ d = same_entry ch k c d b f at there in
        let part : node.part ≡ p = some_same (sym node.at ∙ subst (λ (x : Config). slice_get (present v x) node.place ≡ Some p) (sym same) stands) in
        subst (λ (x : Config). Derived v (Held x p.key q)) same (subst (λ (x : ObjRef). Derived v (Held c x q)) (sym node.key ∙ ap (λ (x : Fixed). x.key) part) (derived q names))

pub means_held : (v : Service) (ch : Chart) (k : ℕ) (c : Config) (b : Bases) (r : ObjRef) (u m : ℕ) (q : ObjRef) → IsChart v ch → IsAt ch k c b → node_from v c r b ≡ Some u → slice_get ch.members m ≡ Some q → Means v ch (slice_get ch.sets u) m → Derived v (Held c r q)
means_held v ch k c b r u m q is at e names h =
    let node = is_node v ch k c b r u is at e in
    let held : Means v ch (Some (set.Held k node.place)) m = subst (λ (o : Option Set). Means v ch o m) node.set h in
    subst (λ (x : ObjRef). Derived v (Held c x q)) node.key (held c b node.part q at node.at names)

member_good : (v : Service) (ch : Chart) (P : Type 0) (k : ℕ) (c : Config) (b : Bases) (r q : ObjRef) (x : Item) → IsChart v ch → IsAt ch k c b → (P → Derived v (Held c r q)) → Contains (member_at (node_from v c r b) (member_of ch q)) x → IsGood v ch P x
member_good v ch P k c b r q x is at derived m = by (node_from v c r b) refl (member_of ch q) refl m
  where
    good : (u i : ℕ) → node_from v c r b ≡ Some u → member_of ch q ≡ Some i → IsGood v ch P (member u i)
    good u i e f =
        let names = member_at_number ch q i f in
        record {
          fits = (slice_get_within ch.sets u (set.Held k (is_node v ch k c b r u is at e).place) (is_node v ch k c b r u is at e).set, wider_left i (length ch.members) (length ch.configs) (slice_get_within ch.members i q names));
          meant = λ h. held_means v ch k c b r u i is at e (λ s other. subst (λ (y : ObjRef). Derived v (Held c r y)) (some_same (sym names ∙ other)) (derived h));
        }

    by : (o : Option ℕ) → node_from v c r b ≡ o → (n : Option ℕ) → member_of ch q ≡ n → Contains (member_at o n) x → IsGood v ch P x
    by (Some u) e (Some i) f k = subst (λ (y : Item). IsGood v ch P y) (lone (member u i) x k) (good u i e f)
    by (Some u) e None f k = absurd (no_member x k)
    by None e n f k = absurd (no_member x k)

edge_good : (v : Service) (ch : Chart) (P : Type 0) (k : ℕ) (c : Config) (b : Bases) (r : ObjRef) (l : ℕ) (d : Config) (f : Bases) (s : ObjRef) (x : Item) → IsChart v ch → IsAt ch k c b → IsAt ch l d f → (P → (q : ObjRef) → Derived v (Held c r q) → Derived v (Held d s q)) → Contains (edge_at (node_from v c r b) (node_from v d s f)) x → IsGood v ch P x
edge_good v ch P k c b r l d f s x is at there along m = by (node_from v c r b) refl (node_from v d s f) refl m
  where
    good : (u w : ℕ) → node_from v c r b ≡ Some u → node_from v d s f ≡ Some w → IsGood v ch P (item.Edge u w)
    good u w e g = record {
      fits = (slice_get_within ch.sets u (set.Held k (is_node v ch k c b r u is at e).place) (is_node v ch k c b r u is at e).set, slice_get_within ch.sets w (set.Held l (is_node v ch l d f s w is there g).place) (is_node v ch l d f s w is there g).set);
      meant = λ h i known. held_means v ch l d f s w i is there g (λ q names. along h q (means_held v ch k c b r u i q is at e names known));
    }

    by : (o : Option ℕ) → node_from v c r b ≡ o → (n : Option ℕ) → node_from v d s f ≡ n → Contains (edge_at o n) x → IsGood v ch P x
    by (Some u) e (Some w) g k = subst (λ (y : Item). IsGood v ch P y) (lone (item.Edge u w) x k) (good u w e g)
    by (Some u) e None g k = absurd (no_member x k)
    by None e n g k = absurd (no_member x k)

-- What an action does

-- where it is done to the object at this reference
record IsDoing (v : Service) (ch : Chart) (P : Type 0) (k : ℕ) (c : Config) (b : Bases) (a : Act) (r : ObjRef) : Type 0 where
  chart : IsChart v ch
  at : IsAt ch k c b
  active : Contains (active_actions (present v c)) a
  reached : P → Derived v (Reached c)
  comes : P → Derived v (Comes c a.target r)

handed_good : (v : Service) (ch : Chart) (P : Type 0) (k : ℕ) (c : Config) (b : Bases) (a : Act) (r : ObjRef) (n : ℕ) (y : Argument) (x : Item) → IsDoing v ch P k c b a r → is_given (present v c) a.name r ≡ true → Contains (says a.name) (saying.Hands n) → slice_get a.arguments n ≡ Some y → reads_reference y a.name ≡ true → Contains (opening.handed_on v ch c b r y) x → IsGood v ch P x
handed_good v ch P k c b a r n (argument.Direct (value.Object q)) x h takes says_it e reads m =
    member_good v ch P k c b r q x h.chart h.at (λ p. given c a n (argument.Direct (value.Object q)) r q (h.reached p) h.active says_it e (h.comes p) takes refl (written c q)) m
handed_good v ch P k c b a r n (argument.Direct _) x h takes says_it e reads m = absurd (no_member x m)
handed_good v ch P k c b a r n (argument.Through w t) x h takes says_it e reads m = by (is_reference_in (present v c) w) refl m
  where
    by : (z : Bool) → is_reference_in (present v c) w ≡ z → Contains (if z then edge_at (node_from v c w b) (node_from v c r b) else []) x → IsGood v ch P x
    by true is l =
        edge_good v ch P k c b w k c b r x h.chart h.at h.at (λ p q held. given c a n (argument.Through w t) r q (h.reached p) h.active says_it e (h.comes p) takes reads (read c w q t is held)) l
    by false is l = absurd (no_member x l)
handed_good v ch P k c b a r n (argument.Receiver w) x h takes says_it e reads m = absurd (no_member x m)

given_good : (v : Service) (ch : Chart) (P : Type 0) (k : ℕ) (c : Config) (b : Bases) (a : Act) (r : ObjRef) (x : Item) → IsDoing v ch P k c b a r → Contains (opening.given v ch c b a r) x → IsGood v ch P x
given_good v ch P k c b a r x h m = by (is_given (present v c) a.name r) refl m
  where
    by : (z : Bool) → is_given (present v c) a.name r ≡ z → Contains (if z then flat_map (opening.handed_on v ch c b r) (option_to_list (handed_argument a)) else []) x → IsGood v ch P x
    by true is l =
        let from = joined_from (opening.handed_on v ch c b r) (option_to_list (handed_argument a)) x l in
        let said = handed_says a from.0 (in_option (handed_argument a) from.0 from.1) in
        handed_good v ch P k c b a r said.0 from.0 x h is said.1 said.2 said.3 from.2
    by false is l = absurd (no_member x l)

filled_good : (v : Service) (ch : Chart) (P : Type 0) (k : ℕ) (c : Config) (b : Bases) (a : Act) (r : ObjRef) (x : Item) → IsDoing v ch P k c b a r → Contains (opening.filled v ch c b a r) x → IsGood v ch P x
filled_good v ch P k c b a r x h m = by (fills a.name && is_list_in (present v c) r) refl m
  where
    each : (w : ObjRef) (z : Bool) → is_reference_in (present v c) w ≡ z → fills a.name ≡ true → is_list_in (present v c) r ≡ true → Contains (receivers a.arguments) w → Contains (if z then edge_at (node_from v c r b) (node_from v c w b) else []) x → IsGood v ch P x
    each w true is fill list receives l =
        edge_good v ch P k c b r k c b w x h.chart h.at h.at (λ p q held. filled c a r w q (h.reached p) h.active fill (h.comes p) list receives is held) l
    each w false is fill list receives l = absurd (no_member x l)

    by : (z : Bool) → (fills a.name && is_list_in (present v c) r) ≡ z → Contains (if z then flat_map (opening.filled_in v ch c b r) (receivers a.arguments) else []) x → IsGood v ch P x
    by true is l =
        let two = halves (fills a.name) (is_list_in (present v c) r) is in
        let from = joined_from (opening.filled_in v ch c b r) (receivers a.arguments) x l in
        each from.0 (is_reference_in (present v c) from.0) refl two.0 two.1 from.1 from.2
    by false is l = absurd (no_member x l)

led_good : (v : Service) (ch : Chart) (P : Type 0) (k : ℕ) (c : Config) (b : Bases) (a : Act) (r : ObjRef) (x : Item) → IsDoing v ch P k c b a r → Contains (opening.led_on ch k (leads_to v c a.name r)) x → IsGood v ch P x
led_good v ch P k c b a r x h m = by (leads_to v c a.name r) refl m
  where
    leads : (d : Config) → leads_to v c a.name r ≡ Some d → P → IsLedTo v c d
    leads d e p = record {
      reached = led c a r d (h.reached p) h.active (h.comes p) e;
      application = λ g scene. same_application v c d a.name r g e scene;
      passed = λ g part q scene among held. passed c a r d g part q (h.reached p) h.active (h.comes p) e scene among held;
    }

    good : (d : Config) (n : ℕ) → leads_to v c a.name r ≡ Some d → config_number ch d ≡ Some n → IsGood v ch P (member (suc k) n)
    good d n e f =
        let number = is_numbered ch d n f in
        let own : slice_get ch.sets (suc k) ≡ Some (set.Led k) = led_set_at v ch k c b h.chart h.at in
        record {
          fits = (slice_get_within ch.sets (suc k) (set.Led k) own, wider_right n (length ch.members) (length ch.configs) (slice_get_within ch.configs n (d, number.bases) number.at));
          meant = λ p. subst (λ (o : Option Set). Means v ch o n) (sym own) (λ c2 d2 b2 e2 at2 there2.
              subst (λ (y : Config). IsLedTo v y d2) (same_entry ch k c c2 b b2 h.at at2) (subst (λ (y : Config). IsLedTo v c y) (same_entry ch n d d2 number.bases e2 number.at there2) (leads d e p)));
        }

    each : (d : Config) (o : Option ℕ) → leads_to v c a.name r ≡ Some d → config_number ch d ≡ o → Contains (member_at (Some (suc k)) o) x → IsGood v ch P x
    each d None e f l = absurd (no_member x l)
    each d (Some n) e f l = subst (λ (y : Item). IsGood v ch P y) (lone (member (suc k) n) x l) (good d n e f)

    by : (o : Option Config) → leads_to v c a.name r ≡ o → Contains (opening.led_on ch k o) x → IsGood v ch P x
    by None e l = absurd (no_member x l)
    by (Some d) e l = each d (config_number ch d) e refl l

does_good : (v : Service) (ch : Chart) (P : Type 0) (k : ℕ) (c : Config) (b : Bases) (a : Act) (r : ObjRef) (x : Item) → IsDoing v ch P k c b a r → Contains (opening.does v ch k c b a r) x → IsGood v ch P x
does_good v ch P k c b a r x h m = by (Contains-append_cases (opening.given v ch c b a r ++ opening.filled v ch c b a r) (opening.led_on ch k (leads_to v c a.name r)) x m)
  where
    front : Contains (opening.given v ch c b a r) x ⊎ Contains (opening.filled v ch c b a r) x → IsGood v ch P x
    front (inl l) = given_good v ch P k c b a r x h l
    front (inr l) = filled_good v ch P k c b a r x h l

    by : Contains (opening.given v ch c b a r ++ opening.filled v ch c b a r) x ⊎ Contains (opening.led_on ch k (leads_to v c a.name r)) x → IsGood v ch P x
    by (inl l) = front (Contains-append_cases (opening.given v ch c b a r) (opening.filled v ch c b a r) x l)
    by (inr l) = led_good v ch P k c b a r x h l

-- What a member opens

config_good : (v : Service) (ch : Chart) (P : Type 0) (k : ℕ) (c : Config) (b : Bases) (x : Item) → IsChart v ch → IsAt ch k c b → (P → Derived v (Reached c)) → Contains (opening.by_config v ch k c b) x → IsGood v ch P x
config_good v ch P k c b x is at reached m = by (Contains-append_cases (flat_map (opening.held_first v ch c b) (present v c)) (flat_map (λ (a : Act). opening.does_direct v ch k c b a a.target) (active_actions (present v c))) x m)
  where
    derived : (p : Fixed) (q : ObjRef) → Contains (present v c) p → HoldsFirst p q → P → Derived v (Held c p.key q)
    derived p q among (inl two) h = original_value c p q (reached h) among two.0 two.1
    derived p q among (inr two) h = original_item c p q (reached h) among two.0 two.1

    first : (p : Fixed) → Contains (present v c) p → Contains (opening.held_first v ch c b p) x → IsGood v ch P x
    first p among l =
        let from = joined_from (λ (q : ObjRef). member_at (node_from v c p.key b) (member_of ch q)) (firsts p) x l in
        member_good v ch P k c b p.key from.0 x is at (λ h. derived p from.0 among (holds_first p from.0 from.1) h) from.2

    direct : (a : Act) (t : Target) → a.target ≡ t → Contains (active_actions (present v c)) a → Contains (opening.does_direct v ch k c b a t) x → IsGood v ch P x
    direct a (target.Direct r) e active l =
        does_good v ch P k c b a r x (record { chart = is; at = at; active = active; reached = reached; comes = λ h. subst (λ (t : Target). Derived v (Comes c t r)) (sym e) (named c r) }) l
    direct a (target.Through w) e active l = absurd (no_member x l)

    by : Contains (flat_map (opening.held_first v ch c b) (present v c)) x ⊎ Contains (flat_map (λ (a : Act). opening.does_direct v ch k c b a a.target) (active_actions (present v c))) x → IsGood v ch P x
    by (inl l) = let from = joined_from (opening.held_first v ch c b) (present v c) x l in first from.0 from.1 from.2
    by (inr l) = let from = joined_from (λ (a : Act). opening.does_direct v ch k c b a a.target) (active_actions (present v c)) x l in direct from.0 from.0.target refl from.1 from.2

led_on_good : (v : Service) (ch : Chart) (P : Type 0) (k : ℕ) (c : Config) (b : Bases) (n : ℕ) (o : Option (Config × Bases)) (x : Item) → IsChart v ch → IsAt ch k c b → slice_get ch.configs n ≡ o → ((d : Config) (e : Bases) → IsAt ch n d e → P → IsLedTo v c d) → Contains (opening.by_led b n o) x → IsGood v ch P x
led_on_good v ch P k c b n None x is at e leads m = absurd (no_member x m)
led_on_good v ch P k c b n (Some (d, f)) x is at e leads m = by (first_or_behind (member 0 n) (opening.passed b d f) x m)
  where
    reached : IsGood v ch P (member 0 n)
    reached =
        let zeroth : slice_get ch.sets 0 ≡ Some set.Reached = reached_set v ch is in
        record {
          fits = (slice_get_within ch.sets 0 set.Reached zeroth, wider_right n (length ch.members) (length ch.configs) (slice_get_within ch.configs n (d, f) e));
          meant = λ h. subst (λ (o : Option Set). Means v ch o n) (sym zeroth) (λ d2 f2 there. subst (λ (y : Config). Derived v (Reached y)) (same_entry ch n d d2 f f2 e there) (leads d f e h).reached);
        }

    along : (g : List ℕ) → d.scene ≡ Some g → (y : IsAlong v ch c d b f x) → IsGood v ch P (item.Edge y.from y.to)
    along g is_scene y = record {
      fits = (y.from_within, y.to_within);
      meant = λ h i known. held_means v ch n d f y.part.key y.to i is e (y.aim ((leads d f e h).application g is_scene))
          (λ q names. (leads d f e h).passed g y.part q is_scene y.among (means_held v ch k c b y.part.key y.from i q is at y.source names known));
    }

    taken : (scene : Option (List ℕ)) → d.scene ≡ scene → Contains (if is_some scene then opening.taken_along b f else []) x → IsGood v ch P x
    taken None is_none l = absurd (no_member x l)
    taken (Some g) is_scene l =
        let one = along_is v ch k n c d b f x is at e l in
        subst (λ (y : Item). IsGood v ch P y) one.edge (along g is_scene one)

    by : (member 0 n ≡ x) ⊎ Contains (opening.passed b d f) x → IsGood v ch P x
    by (inl same) = subst (λ (y : Item). IsGood v ch P y) same reached
    by (inr l) = taken d.scene refl l

-- where a variable or list holds anything, the configuration is reached
abbrev WhereReached : Service → least.Fact → Type 0
WhereReached v (Held c r q) = Derived v (Reached c)
WhereReached v x = Unit {0}

where_reached : (v : Service) (x : least.Fact) → Derived v x → WhereReached v x
where_reached v _ start = tt
where_reached v _ (named c r) = tt
where_reached v _ (referred c w q is d) = tt
where_reached v _ (written c q) = tt
where_reached v _ (read c w q k is d) = tt
where_reached v _ (original_value c p q d among is e) = d
where_reached v _ (original_item c p q d among is e) = d
where_reached v _ (given c a n x r q d active says_it e comes takes reads hands) = d
where_reached v _ (filled c a r x q d active fill comes list receives is held) = d
where_reached v _ (led c a r d h active comes e) = tt
where_reached v _ (passed c a r d g p q h active comes e scene among held) = led c a r d h active comes e

pub reached_of_held : (v : Service) (c : Config) (r q : ObjRef) → Derived v (Held c r q) → Derived v (Reached c)
reached_of_held v c r q d = where_reached v (Held c r q) d

variable_good : (v : Service) (ch : Chart) (P : Type 0) (k : ℕ) (c : Config) (b : Bases) (w : ObjRef) (o : Option ObjRef) (x : Item) → IsChart v ch → IsAt ch k c b → ((r : ObjRef) → o ≡ Some r → P → Derived v (Held c w r)) → Contains (opening.by_variable v ch k c b w o) x → IsGood v ch P x
variable_good v ch P k c b w None x is at held m = absurd (no_member x m)
variable_good v ch P k c b w (Some r) x is at held m = by (is_reference_in (present v c) w) refl m
  where
    through : (a : Act) (t : Target) → is_reference_in (present v c) w ≡ true → a.target ≡ t → Contains (active_actions (present v c)) a → Contains (opening.does_through v ch k c b w r a t) x → IsGood v ch P x
    through a (target.Direct y) refers e active l = absurd (no_member x l)
    through a (target.Through y) refers e active l = same (same_ref y w) refl l
      where
        same : (z : Bool) → same_ref y w ≡ z → Contains (if z then opening.does v ch k c b a r else []) x → IsGood v ch P x
        same true it l =
            let target_is : target.Through w ≡ a.target = ap target.Through (sym (same_ref-same y w it)) ∙ sym e in
            does_good v ch P k c b a r x (record {
              chart = is;
              at = at;
              active = active;
              reached = λ h. reached_of_held v c w r (held r refl h);
              comes = λ h. subst (λ (t : Target). Derived v (Comes c t r)) target_is (referred c w r refers (held r refl h));
            }) l
        same false it l = absurd (no_member x l)

    by : (z : Bool) → is_reference_in (present v c) w ≡ z → Contains (if z then flat_map (λ (a : Act). opening.does_through v ch k c b w r a a.target) (active_actions (present v c)) else []) x → IsGood v ch P x
    by true refers l =
        let from = joined_from (λ (a : Act). opening.does_through v ch k c b w r a a.target) (active_actions (present v c)) x l in
        through from.0 from.0.target refers refl from.1 from.2
    by false refers l = absurd (no_member x l)

set_good : (v : Service) (ch : Chart) (q : ℕ) (s : Set) (x : Item) → IsChart v ch → Contains (opening.opened_in v ch q s) x → IsGood v ch (Means v ch (Some s) q) x
set_good v ch q set.Reached x is m = by (slice_get ch.configs q) refl m
  where
    by : (o : Option (Config × Bases)) → slice_get ch.configs q ≡ o → Contains (option_map_or (λ (e : Config × Bases). opening.by_config v ch q e.0 e.1) o []) x → IsGood v ch (Means v ch (Some set.Reached) q) x
    by None e l = absurd (no_member x l)
    by (Some (c, b)) e l = config_good v ch (Means v ch (Some set.Reached) q) q c b x is e (λ h. h c b e) l
set_good v ch q (set.Led k) x is m = by (slice_get ch.configs k) refl m
  where
    by : (o : Option (Config × Bases)) → slice_get ch.configs k ≡ o → Contains (option_map_or (λ (e : Config × Bases). opening.by_led e.1 q (slice_get ch.configs q)) o []) x → IsGood v ch (Means v ch (Some (set.Led k)) q) x
    by None e l = absurd (no_member x l)
    by (Some (c, b)) e l = led_on_good v ch (Means v ch (Some (set.Led k)) q) k c b q (slice_get ch.configs q) x is e refl (λ d f there h. h c d b f e there) l
set_good v ch q (set.Held k j) x is m = by (slice_get ch.configs k) refl m
  where
    by_part : (c : Config) (b : Bases) (o : Option Fixed) → IsAt ch k c b → slice_get (present v c) j ≡ o → Contains (opening.by_object v ch k c b (slice_get ch.members q) o) x → IsGood v ch (Means v ch (Some (set.Held k j)) q) x
    by_part c b None at e l = absurd (no_member x l)
    by_part c b (Some p) at e l = variable_good v ch (Means v ch (Some (set.Held k j)) q) k c b p.key (slice_get ch.members q) x is at (λ r names h. h c b p r at e names) l

    by : (o : Option (Config × Bases)) → slice_get ch.configs k ≡ o → Contains (option_map_or (λ (e : Config × Bases). opening.by_object v ch k e.0 e.1 (slice_get ch.members q) (slice_get (present v e.0) j)) o []) x → IsGood v ch (Means v ch (Some (set.Held k j)) q) x
    by None e l = absurd (no_member x l)
    by (Some (c, b)) e l = by_part c b (slice_get (present v c) j) e refl l

opened_good : (v : Service) (ch : Chart) (f : Fact) (x : Item) → IsChart v ch → Contains (opens v ch f) x → IsGood v ch (Means v ch (slice_get ch.sets f.node) f.member) x
opened_good v ch f x is m = by (slice_get ch.sets f.node) m
  where
    by : (o : Option Set) → Contains (option_map_or (opening.opened_in v ch f.member) o []) x → IsGood v ch (Means v ch o f.member) x
    by None l = absurd (no_member x l)
    by (Some s) l = set_good v ch f.member s x is l

start_good : (v : Service) (ch : Chart) (x : Item) → IsChart v ch → Contains (system_of v ch).starts x → IsGood v ch (Unit {0}) x
start_good v ch x is m = by (config_number ch (starting v)) refl m
  where
    zeroth : slice_get ch.sets 0 ≡ Some set.Reached
    zeroth = reached_set v ch is

    by : (o : Option ℕ) → config_number ch (starting v) ≡ o → Contains (member_at (Some 0) o) x → IsGood v ch (Unit {0}) x
    by None e l = absurd (no_member x l)
    by (Some n) e l =
        let number = is_numbered ch (starting v) n e in
        subst (λ (y : Item). IsGood v ch (Unit {0}) y) (lone (member 0 n) x l) (record {
          fits = (slice_get_within ch.sets 0 set.Reached zeroth, wider_right n (length ch.members) (length ch.configs) (slice_get_within ch.configs n (starting v, number.bases) number.at));
          meant = λ h. subst (λ (o : Option Set). Means v ch o n) (sym zeroth) (λ d f there. subst (λ (y : Config). Derived v (Reached y)) (same_entry ch n (starting v) d number.bases f number.at there) start);
        })

-- The laws

pub numbers_fit : (v : Service) (ch : Chart) → IsChart v ch → IsFit (system_of v ch)
numbers_fit v ch is = record {
  starts = λ x m. (start_good v ch x is m).fits;
  opened = λ f x m. (opened_good v ch f x is m).fits;
}

-- what is derived by the system means what is derived
pub derived_means : (v : Service) (ch : Chart) → IsChart v ch → (x : Item) → system.Derived (system_of v ch) x → IsMeant v ch x
derived_means v ch is _ (system.begun x m) = (start_good v ch x is m).meant tt
derived_means v ch is _ (system.opened f x d m) = (opened_good v ch f x is m).meant (derived_means v ch is (item.Member f) d)
derived_means v ch is _ (system.along u w q e d) = derived_means v ch is (item.Edge u w) e q (derived_means v ch is (member u q) d)
