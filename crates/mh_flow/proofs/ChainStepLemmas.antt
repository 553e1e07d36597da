-- The moves of references are what brings one of them: each move says so, and all that brings one is among them.
use Rattle.std.proofs.Common.{◌≡◌, ◌⊎◌, inl, inr, ℕ, Bool, true, false, ◌&&◌, ◌||◌, List, [], ◌∷◌, ◌++◌, Option, Some, None, refl, sym, subst, ap, ◌∙◌, append-nil}
use Rattle.std.specs.Prelude.{if◌then◌else◌, slice_get}
use Rattle.std.specs.List.{Contains, flat_map, list_any}
use Rattle.std.specs.Option.{option_to_list, option_map_or}
use Rattle.std.proofs.lemmas.List.Elements.{Contains-append_left, Contains-append_right, Contains-append_cases}
use Rattle.mh_base.specs.declared.obj_ref.ObjRef.{ObjRef}
use Rattle.mh_base.specs.declared.value.Value.TheVariants as value
use Rattle.mh_model.specs.declared.act.Argument.{Argument}
use Rattle.mh_model.specs.declared.act.Argument.TheVariants as argument
use Rattle.mh_model.specs.declared.act.Target.{Target}
use Rattle.mh_model.specs.declared.act.Target.TheVariants as target
use Rattle.mh_model.specs.declared.config.Config.{Config}
use Rattle.mh_model.specs.declared.object.Fixed.{Fixed}
use Rattle.mh_model.specs.Arguments.{receivers}
use Rattle.mh_model.specs.Configuration.{present}
use Rattle.mh_model.specs.Reference.{same_ref}
use Rattle.mh_model.specs.Service.{Service, group_parts}
use Rattle.mh_model.proofs.ListLemmas.{some_same}
use Rattle.mh_model.proofs.ServiceLemmas.{same_ref-same}
use Rattle.mh_laws.specs.Active.{leads_to}
use Rattle.mh_laws.specs.Describing.{Says, says}
use Rattle.mh_laws.specs.Describing as saying
use Rattle.mh_laws.specs.Flow.{Flow, fills, is_given, is_list_in, is_reference_in, reads_reference}
use Rattle.mh_laws.specs.Least.{Fact, Derived, Reached, Held, Comes, Hands}
use Rattle.mh_laws.specs.Least as least
use Rattle.mh_flow.specs.declared.chain.link.Link.{Link}
use Rattle.mh_flow.specs.declared.chain.moves.Holder.{Holder}
use Rattle.mh_flow.specs.declared.chain.moves.ActionSite.{ActionSite}
use Rattle.mh_flow.specs.declared.chain.moves.Move.{Move}
use Rattle.mh_flow.specs.Chains.{Brings, IsDone, original, written, read, filled, passed, link}
use Rattle.mh_flow.specs.Chart.{firsts, argument_of, handed_argument, read_by}
use Rattle.mh_group.specs.declared.action_name.ActionName.{ActionName}
use Rattle.mh_group.specs.declared.action_name.ActionName.TheVariants as action
use Rattle.mh_flow.specs.Moves.{links_by, Follows, begin, onward}
use Rattle.mh_flow.specs.Sites.{Site, sites_of}
use Rattle.mh_flow.specs.Steps.{holder_at, searched_in, first_action_site, action_site_at, comes, goes, stays, first_moves, handed_moves, given_moves, received_moves, filled_moves, kept_moves, passed_moves, led_moves, done_moves, targets, site_moves, moves_in, moves_of, is_one_of, IsExact}
use Rattle.mh_flow.proofs.ContainsLemmas.{both, halves, no_member, here, behind, first_or_behind, in_joined, joined_from}
use Rattle.mh_flow.proofs.ChainFirstLemmas.{ref_itself}
use Rattle.mh_flow.proofs.ChainLemmas.{brought_is_held}
use Rattle.mh_flow.proofs.PlaceLemmas.{any_member, member_any}
use Rattle.mh_model.specs.declared.act.Act.{Act}

-- References among others.

pub among : (q : ObjRef) (rs : List ObjRef) → list_any (same_ref q) rs ≡ true → Contains rs q
among q [] h = cc
among q (r ∷ rs) h = by (same_ref q r) refl h (among q rs)
  where
    by : (b : Bool) → same_ref q r ≡ b → (b || list_any (same_ref q) rs) ≡ true → (list_any (same_ref q) rs ≡ true → Contains rs q) → Contains (r ∷ rs) q
    by true e h ih = subst (λ (x : ObjRef). Contains (r ∷ rs) x) (sym (same_ref-same q r e)) (here r rs)
    by false e h ih = behind r rs q (ih h)

pub is_among : (q : ObjRef) (rs : List ObjRef) → Contains rs q → list_any (same_ref q) rs ≡ true
is_among q [] m = absurd (no_member q m)
is_among q (r ∷ rs) m = by (same_ref q r) refl (first_or_behind r rs q m) (is_among q rs)
  where
    by : (b : Bool) → same_ref q r ≡ b → (r ≡ q) ⊎ Contains rs q → (Contains rs q → list_any (same_ref q) rs ≡ true) → (b || list_any (same_ref q) rs) ≡ true
    by true e m ih = refl
    by false e (inl same) ih = let itself = subst (λ (x : ObjRef). same_ref q x ≡ true) (sym same) (ref_itself q) in cc
    by false e (inr k) ih = ih k

-- What each member of a list is.

abbrev Are : {X : Type 0} → (X → Type 0) → List X → Type 0
Are {X} P xs = (x : X) → Contains xs x → P x

are_none : {X : Type 0} (P : X → Type 0) → Are P []
are_none P x m = absurd (no_member x m)

are_one : {X : Type 0} (P : X → Type 0) (x : X) → P x → Are P (x ∷ [])
are_one {X} P x h y m = by (first_or_behind x [] y m)
  where
    by : (x ≡ y) ⊎ Contains [] y → P y
    by (inl e) = subst P e h
    by (inr none) = absurd (no_member y none)

are_both : {X : Type 0} (P : X → Type 0) (xs ys : List X) → Are P xs → Are P ys → Are P (xs ++ ys)
are_both P xs ys h k x m = elim (Contains-append_cases xs ys x m) [ inl a ↦ h x a | inr b ↦ k x b ]

are_joined : {X Y : Type 0} (P : Y → Type 0) (f : X → List Y) (xs : List X) → ((x : X) → Contains xs x → Are P (f x)) → Are P (flat_map f xs)
are_joined P f xs h y m = let found = joined_from f xs y m in h found.0 found.1 y found.2

are_if : {X : Type 0} (P : X → Type 0) (b : Bool) (xs : List X) → (b ≡ true → Are P xs) → Are P (if b then xs else [])
are_if P true xs h = h refl
are_if P false xs h = are_none P

pub where_true : {X : Type 0} (b : Bool) (xs : List X) (x : X) → b ≡ true → Contains xs x → Contains (if b then xs else []) x
where_true true xs x e m = m
where_true false xs x e m = cc

told : {X : Type 0} (m : Option X) (x : X) → Contains (option_to_list m) x → m ≡ Some x
told None x k = absurd (no_member x k)
told {X} (Some y) x k = elim (first_or_behind y [] x k) [ inl e ↦ ap (λ (z : X). Some z) e | inr none ↦ absurd (no_member x none) ]

tells : {X : Type 0} (m : Option X) (x : X) → m ≡ Some x → Contains (option_to_list m) x
tells {X} m x e = subst (λ (o : Option X). Contains (option_to_list o) x) (sym e) (here x [])

-- What an action hands on.

said_of : (ss : List Says) (xs : List Argument) (y : Argument) → argument_of ss xs ≡ Some y → (n : ℕ) × Contains ss (saying.Hands n) × (slice_get xs n ≡ Some y)
said_of [] xs y e = absurd cc
said_of (saying.Hands n ∷ ss) xs y e = (n, here (saying.Hands n) ss, e)

-- what is read is the argument that is there, and the action reads it
read_says : (n : ActionName) (m : Option Argument) (y : Argument) → read_by n m ≡ Some y → (m ≡ Some y) × (reads_reference y n ≡ true)
read_says n None y e = absurd cc
read_says n (Some x) y e = by (reads_reference x n) refl e
  where
    by : (b : Bool) → reads_reference x n ≡ b → (if b then Some x else None) ≡ Some y → (Some x ≡ Some y) × (reads_reference y n ≡ true)
    by true reads same = (same, subst (λ (m : Option Argument). option_map_or (λ z. reads_reference z n) m true ≡ true) same reads)
    by false reads same = absurd cc

pub handed_says : (a : Act) (y : Argument) → handed_argument a ≡ Some y → (n : ℕ) × Contains (says a.name) (saying.Hands n) × (slice_get a.arguments n ≡ Some y) × (reads_reference y a.name ≡ true)
handed_says a y e =
    let read = read_says a.name (argument_of (says a.name) a.arguments) y e in
    let said = said_of (says a.name) a.arguments y read.0 in
    (said.0, said.1, said.2, read.1)

hands_one : (a b : ℕ) → Contains (saying.Hands a ∷ []) (saying.Hands b) → a ≡ b
hands_one a b m = by (first_or_behind (saying.Hands a) [] (saying.Hands b) m)
  where
    number : Says → ℕ
    number (saying.Hands n) = n

    by : (saying.Hands a ≡ saying.Hands b) ⊎ Contains [] (saying.Hands b) → a ≡ b
    by (inl e) = ap number e
    by (inr none) = absurd (no_member (saying.Hands b) none)

said_is : (a : ActionName) (xs : List Argument) (n : ℕ) (y : Argument) → Contains (says a) (saying.Hands n) → slice_get xs n ≡ Some y → argument_of (says a) xs ≡ Some y
said_is action.SetVariable xs n y m e = ap (slice_get xs) (hands_one 0 n m) ∙ e
said_is action.AddItem xs n y m e = ap (slice_get xs) (hands_one 1 n m) ∙ e
said_is _ xs n y m e = absurd (no_member (saying.Hands n) m)

pub says_handed : (a : Act) (n : ℕ) (y : Argument) → Contains (says a.name) (saying.Hands n) → slice_get a.arguments n ≡ Some y → reads_reference y a.name ≡ true → handed_argument a ≡ Some y
says_handed a n y m e reads =
    ap (read_by a.name) (said_is a.name a.arguments n y m e) ∙ ap (λ (b : Bool). if b then Some y else None) reads

-- To what a target comes.

abbrev IsTarget : (v : Service) (w : Flow) → Fact → Type 0
IsTarget v w (Reached c) = Unit {0}
IsTarget v w (Held c r q) = Unit {0}
IsTarget v w (Comes c t r) = Contains (targets (present v c) (w.sets c) t) r
IsTarget v w (Hands c x q) = Unit {0}

module _ (v : Service) (w : Flow) (e : IsExact v w) where
  is_target : (f : Fact) → Derived v f → IsTarget v w f
  is_target f (least.start) = tt
  is_target f (least.named c r) = here r []
  is_target f (least.referred c y q is h) = where_true (is_reference_in (present v c) y) (w.sets c y) q is (among q (w.sets c y) (e.held c y q h))
  is_target f (least.written c q) = tt
  is_target f (least.read c y q k is h) = tt
  is_target f (least.original_value c p q at m is h) = tt
  is_target f (least.original_item c p q at m is h) = tt
  is_target f (least.given c a n x r q at m hands stands comes takes reads h) = tt
  is_target f (least.filled c a r y q at m fill comes list receives is h) = tt
  is_target f (least.led c a r d at m comes leads) = tt
  is_target f (least.passed c a r d g p q at m comes leads scene part h) = tt

  comes_to : (c : Config) (t : Target) (r : ObjRef) → Contains (targets (present v c) (w.sets c) t) r → Derived v (Comes c t r)
  comes_to c (target.Direct x) r m = are_one (λ (r : ObjRef). Derived v (Comes c (target.Direct x) r)) x (least.named c x) r m
  comes_to c (target.Through y) r m = are_if (λ (r : ObjRef). Derived v (Comes c (target.Through y) r)) (is_reference_in (present v c) y) (w.sets c y) (λ is r k. least.referred c y r is (e.only_held c y r (is_among r (w.sets c y) k))) r m

-- What a move does.

-- it brings one of these from nowhere, or takes whatever is brought along
record Serves (v : Service) (qs : List ObjRef) (m : Move) : Type 0 where
  begins : m.from ≡ None → (q : ObjRef) × Contains qs q × Brings v q (links_by m) m.to.config m.to.at
  goes_on : (q : ObjRef) (ls : List Link) (p : Holder) → m.from ≡ Some p → Brings v q ls p.config p.at → Brings v q (ls ++ links_by m) m.to.config m.to.at

serves_comes : (v : Service) (qs : List ObjRef) (q : ObjRef) (s : ActionSite) (p : Holder) → Contains qs q → Brings v q (link s.key s.index p.at ∷ []) p.config p.at → Serves v qs (comes s p)
serves_comes v qs q s p m h = record { begins = λ e. (q, m, h); goes_on = λ r ls o e k. absurd cc }

serves_goes : (v : Service) (qs : List ObjRef) (o : Holder) (s : ActionSite) (p : Holder) → ((q : ObjRef) (ls : List Link) → Brings v q ls o.config o.at → Brings v q (ls ++ link s.key s.index p.at ∷ []) p.config p.at) → Serves v qs (goes o s p)
serves_goes v qs o s p h = record { begins = λ e. absurd cc; goes_on = λ q ls x e k. h q ls (subst (λ (z : Holder). Brings v q ls z.config z.at) (sym (some_same e)) k) }

serves_stays : (v : Service) (qs : List ObjRef) (o p : Holder) → ((q : ObjRef) (ls : List Link) → Brings v q ls o.config o.at → Brings v q ls p.config p.at) → Serves v qs (stays o p)
serves_stays v qs o p h = record {
  begins = λ e. absurd cc;
  goes_on = λ q ls x e k. subst (λ (ks : List Link). Brings v q ks p.config p.at) (sym (append-nil ls)) (h q ls (subst (λ (z : Holder). Brings v q ls z.config z.at) (sym (some_same e)) k));
}

-- Each move serves.

module _ (v : Service) (w : Flow) (e : IsExact v w) (qs : List ObjRef) where
  abbrev AreServing : List Move → Type 0
  AreServing ms = Are (Serves v qs) ms

  firsts_serve : (c : Config) → Contains w.configs c → (p : Fixed) → Contains (present v c) p → AreServing (first_moves (searched_in v w qs c) p)
  firsts_serve c reached p among_parts = are_if (Serves v qs) (list_any (is_one_of qs) (firsts p)) (comes (first_action_site p) (holder_at c p.key) ∷ []) (λ h.
      let found = member_any (is_one_of qs) (firsts p) h in
      are_one (Serves v qs) (comes (first_action_site p) (holder_at c p.key)) (serves_comes v qs found.0 (first_action_site p) (holder_at c p.key) (among found.0 qs found.1) (original c p (e.only_reached c reached) among_parts found.2)))

  module _ (c : Config) (x : Site) (r : ObjRef) (done : IsDone v c x r) where
    argument_serves : (n : ℕ) (y : Argument) → Contains (says x.act.name) (saying.Hands n) → slice_get x.act.arguments n ≡ Some y → reads_reference y x.act.name ≡ true → is_given (present v c) x.act.name r ≡ true → AreServing (handed_moves (searched_in v w qs c) x r y)
    argument_serves n (argument.Direct (value.Object y)) hands stands reads takes = are_if (Serves v qs) (is_one_of qs y) (comes (action_site_at x) (holder_at c r) ∷ []) (λ h.
        are_one (Serves v qs) (comes (action_site_at x) (holder_at c r)) (serves_comes v qs y (action_site_at x) (holder_at c r) (among y qs h) (written c x r n done hands stands takes)))
    argument_serves n (argument.Through y k) hands stands reads takes = are_if (Serves v qs) (is_reference_in (present v c) y && list_any (is_one_of qs) (w.sets c y)) (goes (holder_at c y) (action_site_at x) (holder_at c r) ∷ []) (λ h.
        are_one (Serves v qs) (goes (holder_at c y) (action_site_at x) (holder_at c r)) (serves_goes v qs (holder_at c y) (action_site_at x) (holder_at c r) (λ q ls b. read ls c x r y n k done hands stands takes reads (halves _ _ h).0 b)))
    argument_serves n (argument.Receiver y) hands stands reads takes = are_none (Serves v qs)
    argument_serves n (argument.Direct y) hands stands reads takes = are_none (Serves v qs)

    given_serves : AreServing (given_moves (searched_in v w qs c) x r)
    given_serves = are_if (Serves v qs) (is_given (present v c) x.act.name r) (flat_map (handed_moves (searched_in v w qs c) x r) (option_to_list (handed_argument x.act))) (λ takes.
        are_joined (Serves v qs) (handed_moves (searched_in v w qs c) x r) (option_to_list (handed_argument x.act)) (λ y k.
        let said = handed_says x.act y (told (handed_argument x.act) y k) in
        argument_serves said.0 y said.1 said.2 said.3 takes))

    filled_serves : AreServing (filled_moves (searched_in v w qs c) x r)
    filled_serves = are_if (Serves v qs) (fills x.act.name && is_list_in (present v c) r && list_any (is_one_of qs) (w.sets c r)) (flat_map (received_moves (searched_in v w qs c) x r) (receivers x.act.arguments)) (λ h.
        let two = halves _ _ h in
        let fill_and_list = halves _ _ two.0 in
        are_joined (Serves v qs) (received_moves (searched_in v w qs c) x r) (receivers x.act.arguments) (λ y receives.
        are_if (Serves v qs) (is_reference_in (present v c) y) (goes (holder_at c r) (action_site_at x) (holder_at c y) ∷ []) (λ is.
        are_one (Serves v qs) (goes (holder_at c r) (action_site_at x) (holder_at c y)) (serves_goes v qs (holder_at c r) (action_site_at x) (holder_at c y) (λ q ls b. filled ls c x r y done fill_and_list.0 fill_and_list.1 receives is b)))))

    passed_serves : (d : Config) (scene : Option (List ℕ)) → leads_to v c x.act.name r ≡ Some d → d.scene ≡ scene → AreServing (passed_moves (searched_in v w qs c) d scene)
    passed_serves d None leads is = are_none (Serves v qs)
    passed_serves d (Some g) leads is = are_joined (Serves v qs) (kept_moves (searched_in v w qs c) d) (group_parts v c.app) (λ p part.
        are_if (Serves v qs) (list_any (is_one_of qs) (w.sets c p.key)) (stays (holder_at c p.key) (holder_at d p.key) ∷ []) (λ h.
        are_one (Serves v qs) (stays (holder_at c p.key) (holder_at d p.key)) (serves_stays v qs (holder_at c p.key) (holder_at d p.key) (λ q ls b. passed ls c x r d g p done leads is part b))))

    led_serves : (d : Option Config) → leads_to v c x.act.name r ≡ d → AreServing (led_moves (searched_in v w qs c) d)
    led_serves None leads = are_none (Serves v qs)
    led_serves (Some d) leads = passed_serves d d.scene leads refl

    done_serves : AreServing (done_moves (searched_in v w qs c) x r)
    done_serves = are_both (Serves v qs) (given_moves (searched_in v w qs c) x r ++ filled_moves (searched_in v w qs c) x r) (led_moves (searched_in v w qs c) (leads_to v c x.act.name r))
        (are_both (Serves v qs) (given_moves (searched_in v w qs c) x r) (filled_moves (searched_in v w qs c) x r) given_serves filled_serves)
        (led_serves (leads_to v c x.act.name r) refl)

  moves_serve : AreServing (moves_of v w qs)
  moves_serve = are_joined (Serves v qs) (λ c. moves_in (searched_in v w qs c)) w.configs (λ c reached.
      are_both (Serves v qs) (flat_map (first_moves (searched_in v w qs c)) (present v c)) (flat_map (site_moves (searched_in v w qs c)) (sites_of (present v c)))
      (are_joined (Serves v qs) (first_moves (searched_in v w qs c)) (present v c) (λ p k. firsts_serve c reached p k))
      (are_joined (Serves v qs) (site_moves (searched_in v w qs c)) (sites_of (present v c)) (λ x site.
      are_joined (Serves v qs) (done_moves (searched_in v w qs c) x) (targets (present v c) (w.sets c) x.act.target) (λ r comes_here.
      done_serves c x r (record { reached = e.only_reached c reached; site = site; comes = comes_to v w e c x.act.target r comes_here })))))

  pub follows_brings : (ls : List Link) (p : Holder) → Follows (moves_of v w qs) ls p → (q : ObjRef) × Contains qs q × Brings v q ls p.config p.at
  follows_brings ls p (begin m k from) = (moves_serve m k).begins from
  follows_brings ls p (onward ks o m f k from) =
      let found = follows_brings ks o f in
      (found.0, found.1, (moves_serve m k).goes_on found.0 ks o from found.2)

  -- What brings one of them is among the moves.

  in_config : (c : Config) (m : Move) → Derived v (Reached c) → Contains (moves_in (searched_in v w qs c)) m → Contains (moves_of v w qs) m
  in_config c m at k = in_joined (λ c. moves_in (searched_in v w qs c)) w.configs c m (e.reached c at) k

  first_is_in : (c : Config) (p : Fixed) → Derived v (Reached c) → Contains (present v c) p → list_any (is_one_of qs) (firsts p) ≡ true → Contains (moves_of v w qs) (comes (first_action_site p) (holder_at c p.key))
  first_is_in c p at k h = in_config c (comes (first_action_site p) (holder_at c p.key)) at
      (Contains-append_left (flat_map (first_moves (searched_in v w qs c)) (present v c)) (flat_map (site_moves (searched_in v w qs c)) (sites_of (present v c))) (comes (first_action_site p) (holder_at c p.key))
      (in_joined (first_moves (searched_in v w qs c)) (present v c) p (comes (first_action_site p) (holder_at c p.key)) k
      (where_true (list_any (is_one_of qs) (firsts p)) (comes (first_action_site p) (holder_at c p.key) ∷ []) (comes (first_action_site p) (holder_at c p.key)) h (here (comes (first_action_site p) (holder_at c p.key)) []))))

  module _ (c : Config) (x : Site) (r : ObjRef) (done : IsDone v c x r) where
    done_is_in : (m : Move) → Contains (done_moves (searched_in v w qs c) x r) m → Contains (moves_of v w qs) m
    done_is_in m k = in_config c m done.reached
        (Contains-append_right (flat_map (first_moves (searched_in v w qs c)) (present v c)) (flat_map (site_moves (searched_in v w qs c)) (sites_of (present v c))) m
        (in_joined (site_moves (searched_in v w qs c)) (sites_of (present v c)) x m done.site
        (in_joined (done_moves (searched_in v w qs c) x) (targets (present v c) (w.sets c) x.act.target) r m (is_target v w e (Comes c x.act.target r) done.comes) k)))

    given_is_in : (m : Move) (n : ℕ) (y : Argument) → Contains (says x.act.name) (saying.Hands n) → slice_get x.act.arguments n ≡ Some y → reads_reference y x.act.name ≡ true → is_given (present v c) x.act.name r ≡ true → Contains (handed_moves (searched_in v w qs c) x r y) m → Contains (moves_of v w qs) m
    given_is_in m n y hands stands reads takes k = done_is_in m
        (Contains-append_left (given_moves (searched_in v w qs c) x r ++ filled_moves (searched_in v w qs c) x r) (led_moves (searched_in v w qs c) (leads_to v c x.act.name r)) m
        (Contains-append_left (given_moves (searched_in v w qs c) x r) (filled_moves (searched_in v w qs c) x r) m
        (where_true (is_given (present v c) x.act.name r) (flat_map (handed_moves (searched_in v w qs c) x r) (option_to_list (handed_argument x.act))) m takes
        (in_joined (handed_moves (searched_in v w qs c) x r) (option_to_list (handed_argument x.act)) y m (tells (handed_argument x.act) y (says_handed x.act n y hands stands reads)) k))))

    filled_is_in : (y : ObjRef) → fills x.act.name ≡ true → is_list_in (present v c) r ≡ true → list_any (is_one_of qs) (w.sets c r) ≡ true → Contains (receivers x.act.arguments) y → is_reference_in (present v c) y ≡ true → Contains (moves_of v w qs) (goes (holder_at c r) (action_site_at x) (holder_at c y))
    filled_is_in y fill list holds receives is = done_is_in (goes (holder_at c r) (action_site_at x) (holder_at c y))
        (Contains-append_left (given_moves (searched_in v w qs c) x r ++ filled_moves (searched_in v w qs c) x r) (led_moves (searched_in v w qs c) (leads_to v c x.act.name r)) (goes (holder_at c r) (action_site_at x) (holder_at c y))
        (Contains-append_right (given_moves (searched_in v w qs c) x r) (filled_moves (searched_in v w qs c) x r) (goes (holder_at c r) (action_site_at x) (holder_at c y))
        (where_true (fills x.act.name && is_list_in (present v c) r && list_any (is_one_of qs) (w.sets c r)) (flat_map (received_moves (searched_in v w qs c) x r) (receivers x.act.arguments)) (goes (holder_at c r) (action_site_at x) (holder_at c y)) (both _ _ (both _ _ fill list) holds)
        (in_joined (received_moves (searched_in v w qs c) x r) (receivers x.act.arguments) y (goes (holder_at c r) (action_site_at x) (holder_at c y)) receives
        (where_true (is_reference_in (present v c) y) (goes (holder_at c r) (action_site_at x) (holder_at c y) ∷ []) (goes (holder_at c r) (action_site_at x) (holder_at c y)) is (here (goes (holder_at c r) (action_site_at x) (holder_at c y)) []))))))

    passed_is_in : (d : Config) (g : List ℕ) (p : Fixed) → leads_to v c x.act.name r ≡ Some d → d.scene ≡ Some g → Contains (group_parts v c.app) p → list_any (is_one_of qs) (w.sets c p.key) ≡ true → Contains (moves_of v w qs) (stays (holder_at c p.key) (holder_at d p.key))
    passed_is_in d g p leads scene part holds = done_is_in (stays (holder_at c p.key) (holder_at d p.key))
        (Contains-append_right (given_moves (searched_in v w qs c) x r ++ filled_moves (searched_in v w qs c) x r) (led_moves (searched_in v w qs c) (leads_to v c x.act.name r)) (stays (holder_at c p.key) (holder_at d p.key))
        (subst (λ (o : Option Config). Contains (led_moves (searched_in v w qs c) o) (stays (holder_at c p.key) (holder_at d p.key))) (sym leads)
        (subst (λ (o : Option (List ℕ)). Contains (passed_moves (searched_in v w qs c) d o) (stays (holder_at c p.key) (holder_at d p.key))) (sym scene)
        (in_joined (kept_moves (searched_in v w qs c) d) (group_parts v c.app) p (stays (holder_at c p.key) (holder_at d p.key)) part
        (where_true (list_any (is_one_of qs) (w.sets c p.key)) (stays (holder_at c p.key) (holder_at d p.key) ∷ []) (stays (holder_at c p.key) (holder_at d p.key)) holds (here (stays (holder_at c p.key) (holder_at d p.key)) []))))))

  -- one of them, wherever it stands
  one_of_them : (q : ObjRef) → Contains qs q → (rs : List ObjRef) → Contains rs q → list_any (is_one_of qs) rs ≡ true
  one_of_them q sought rs m = any_member (is_one_of qs) rs q (is_among q qs sought) m

  holds_it : (q : ObjRef) → Contains qs q → (ls : List Link) (c : Config) (r : ObjRef) → Brings v q ls c r → list_any (is_one_of qs) (w.sets c r) ≡ true
  holds_it q sought ls c r b = one_of_them q sought (w.sets c r) (among q (w.sets c r) (e.held c r q (brought_is_held v q ls c r b)))

  pub brings_follows : (q : ObjRef) → Contains qs q → (ls : List Link) (c : Config) (r : ObjRef) → Brings v q ls c r → Follows (moves_of v w qs) ls (holder_at c r)
  brings_follows q sought ls0 c0 r0 (original c p at k first) = begin (comes (first_action_site p) (holder_at c p.key)) (first_is_in c p at k (one_of_them q sought (firsts p) first)) refl
  brings_follows q sought ls0 c0 r0 (written c x r n done hands stands takes) =
      begin (comes (action_site_at x) (holder_at c r)) (given_is_in c x r done (comes (action_site_at x) (holder_at c r)) n (argument.Direct (value.Object q)) hands stands refl takes
      (where_true (is_one_of qs q) (comes (action_site_at x) (holder_at c r) ∷ []) (comes (action_site_at x) (holder_at c r)) (is_among q qs sought) (here (comes (action_site_at x) (holder_at c r)) []))) refl
  brings_follows q sought ls0 c0 r0 (read ls c x r y n k done hands stands takes reads is b) =
      onward ls (holder_at c y) (goes (holder_at c y) (action_site_at x) (holder_at c r)) (brings_follows q sought ls c y b) (given_is_in c x r done (goes (holder_at c y) (action_site_at x) (holder_at c r)) n (argument.Through y k) hands stands reads takes
      (where_true (is_reference_in (present v c) y && list_any (is_one_of qs) (w.sets c y)) (goes (holder_at c y) (action_site_at x) (holder_at c r) ∷ []) (goes (holder_at c y) (action_site_at x) (holder_at c r)) (both _ _ is (holds_it q sought ls c y b)) (here (goes (holder_at c y) (action_site_at x) (holder_at c r)) []))) refl
  brings_follows q sought ls0 c0 r0 (filled ls c x r y done fill list receives is b) =
      onward ls (holder_at c r) (goes (holder_at c r) (action_site_at x) (holder_at c y)) (brings_follows q sought ls c r b) (filled_is_in c x r done y fill list (holds_it q sought ls c r b) receives is) refl
  brings_follows q sought ls0 c0 r0 (passed ls c x r d g p done leads scene part b) =
      subst (λ (ks : List Link). Follows (moves_of v w qs) ks (holder_at d p.key)) (append-nil ls)
      (onward ls (holder_at c p.key) (stays (holder_at c p.key) (holder_at d p.key)) (brings_follows q sought ls c p.key b) (passed_is_in c x r done d g p leads scene part (holds_it q sought ls c p.key b)) refl)
