-- The links that bring a reference to a variable or a list show it: each of them is written so in the service, whatever
-- configurations are reached.
use Rattle.std.proofs.Common.{◌≡◌, ℕ, ◌≤◌, ◌==◌, Bool, true, false, ◌&&◌, ◌||◌, if◌then◌else◌, List, [], ◌∷◌, ◌++◌, slice_get, Option, Some, None, refl, ap, sym, ◌∙◌, subst, arith}
use Rattle.std.specs.List.{Contains, flat_map, list_any}
use Rattle.std.proofs.lemmas.Bool.{or_left, or_right}
use Rattle.std.proofs.lemmas.Bool.Decides.{Decides-eqb}
use Rattle.mh_base.specs.declared.obj_ref.ObjRef.{ObjRef}
use Rattle.mh_base.specs.declared.value.Kind.{Kind}
use Rattle.mh_base.specs.declared.value.Value.TheVariants as value
use Rattle.mh_group.specs.Table.{admits, is_list_group}
use Rattle.mh_model.specs.declared.act.Argument.TheVariants as argument
use Rattle.mh_model.specs.declared.config.Config.{Config}
use Rattle.mh_model.specs.declared.object.Fixed.{Fixed}
use Rattle.mh_model.specs.declared.program.Signature.{Signature}
use Rattle.mh_model.specs.Arguments.{receivers}
use Rattle.mh_model.specs.Configuration.{is_service, present}
use Rattle.mh_model.specs.Reference.{same_key}
use Rattle.mh_model.specs.Service.{Service, group_parts}
use Rattle.mh_model.proofs.ListLemmas.{some_same}
use Rattle.mh_laws.specs.Describing as saying
use Rattle.mh_laws.specs.Describing.{says}
use Rattle.mh_laws.specs.Flow.{fills, is_given, is_holder, is_list_in, is_reference_in, reads_reference, refers}
use Rattle.mh_laws.specs.Least as least
use Rattle.mh_laws.specs.Least.{Comes, Derived, Fact}
use Rattle.mh_flow.specs.declared.chain.link.Link.{Link}
use Rattle.mh_flow.specs.Chains.{Brings, IsDone, filled, first_link, original, passed, read, site_link, written}
use Rattle.mh_flow.specs.Chart.{firsts, handed_argument}
use Rattle.mh_flow.specs.Equipment.{equipped}
use Rattle.mh_flow.specs.Sites.{Site, sites, sites_of}
use Rattle.mh_flow.proofs.ChainStepLemmas.{says_handed}
use Rattle.mh_flow.proofs.ContainsLemmas.{both, halves, in_joined}
use Rattle.mh_flow.proofs.EquippedLemmas.{service_itself}
use Rattle.mh_flow.proofs.PlaceLemmas.{any_member}
use Rattle.mh_flow.proofs.PresentLemmas.{passing}
use Rattle.mh_verify.specs.Evidence.{answers, begins, brings, can_be, goes_on, is_first_at, is_link_at, is_read, is_written, last_written, leads_on, reads, sites_at, writes}
use Rattle.mh_verify.proofs.CandidateLemmas.{key_itself}
use Rattle.mh_verify.proofs.ShownPlaceLemmas.{in_own, passes_own, site_of}

-- Links behind links

abbrev last_from : ObjRef → List Link → ObjRef
last_from y [] = y
last_from y (l ∷ ls) = last_from l.written ls

last_is : (l : Link) (ls : List Link) → last_written (l ∷ ls) ≡ Some (last_from l.written ls)
last_is l [] = refl
last_is l (m ∷ ls) = last_is m ls

last_behind : (ls : List Link) (l : Link) → last_written (ls ++ l ∷ []) ≡ Some l.written
last_behind [] l = refl
last_behind (m ∷ []) l = refl
last_behind (m ∷ n ∷ ls) l = last_behind (n ∷ ls) l

leads_behind : (s : Service) (y : ObjRef) (ls : List Link) (l : Link) → leads_on s y ls ≡ true → goes_on s (last_from y ls) l ≡ true → leads_on s y (ls ++ l ∷ []) ≡ true
leads_behind s y [] l leads goes = both (goes_on s y l) true goes refl
leads_behind s y (m ∷ ls) l leads goes =
    let two = halves (goes_on s y m) (leads_on s m.written ls) leads in
    both (goes_on s y m) (leads_on s m.written (ls ++ l ∷ [])) two.0 (leads_behind s m.written ls l two.1 goes)

-- the links bring the reference there
pub record IsBrought (s : Service) (q : ObjRef) (ls : List Link) (r : ObjRef) : Type 0 where
  pub brings : brings s q ls ≡ true
  pub last : last_written ls ≡ Some r

-- and one more brings it on
brought_on : (s : Service) (q y : ObjRef) (ls : List Link) (l : Link) → IsBrought s q ls y → goes_on s y l ≡ true → IsBrought s q (ls ++ l ∷ []) l.written
brought_on s q y [] l so goes = absurd (never so.last)
  where
    never : None ≡ Some y → ⊥
    never e = cc
brought_on s q y (m ∷ ls) l so goes =
    let two = halves (begins s q m) (leads_on s m.written ls) so.brings in
    let last : y ≡ last_from m.written ls = some_same (sym so.last ∙ last_is m ls) in
    record {
      brings = both (begins s q m) (leads_on s m.written (ls ++ l ∷ [])) two.0 (leads_behind s m.written ls l two.1 (subst (λ (r : ObjRef). goes_on s r l ≡ true) last goes));
      last = last_behind (m ∷ ls) l;
    }

-- What an action writes and reads

abbrev CanBe : Fact → Type 0
CanBe (Comes c t r) = can_be t r ≡ true
CanBe _ = Unit {0}

can_come : (v : Service) (x : Fact) → Derived v x → CanBe x
can_come v _ least.start = tt
can_come v _ (least.named c r) = key_itself r
can_come v _ (least.referred c w q refers d) = refl
can_come v _ (least.written c q) = tt
can_come v _ (least.read c w q k refers d) = tt
can_come v _ (least.original_value c p q d among refers e) = tt
can_come v _ (least.original_item c p q d among list e) = tt
can_come v _ (least.given c a n x r q d active says_it e comes takes read_so hands) = tt
can_come v _ (least.filled c a r x q d active fill comes list receives refers held) = tt
can_come v _ (least.led c a r d h active comes e) = tt
can_come v _ (least.passed c a r d g p q h active comes e scene among held) = tt

later : (n : ℕ) → 1 ≤ n → (n == 0) ≡ false
later n h = by (n == 0) refl
  where
    by : (b : Bool) → (n == 0) ≡ b → b ≡ false
    by false e = refl
    by true e = let none : n ≡ 0 = (Decides-eqb n 0).0 e in absurd (omega (arith, none, h))

-- Links

module _ (s : Service) (programs : List Signature) (good : is_service s ≡ true) (q : ObjRef) where
  abbrev whole : Service
  whole = equipped s programs

  sound : is_service whole ≡ true
  sound = service_itself s programs ∙ good

  -- a site is one of its place
  at_place : (c : Config) (x : Site) (r : ObjRef) → Contains (sites_of (present whole c)) x → Contains (sites_at s (site_link x r)) x
  at_place c x r m =
      let of = site_of (present whole c) x m in
      let own = in_own whole c of.part sound of.there in
      let parts : Contains (group_parts s x.key.group) of.part = subst (λ (k : ObjRef). Contains (group_parts s k.group) of.part) (sym of.key) own in
      passing (is_link_at (site_link x r)) (flat_map sites (group_parts s x.key.group)) x
      (both (same_key x.key x.key) (x.index == x.index) (key_itself x.key) ((Decides-eqb x.index x.index).1 refl))
      (in_joined sites (group_parts s x.key.group) of.part x parts of.among)

  -- the action writes what it is done to
  writes_it : (c : Config) (x : Site) (r : ObjRef) → IsDone whole c x r → is_given (present whole c) x.act.name r ≡ true → writes s x r ≡ true
  writes_it c x r done takes =
      both (can_be x.act.target r) (is_given (group_parts s r.group) x.act.name r) (can_come whole (Comes c x.act.target r) done.comes)
      (passes_own (λ k. admits k x.act.name && is_holder k) whole c r sound takes)

  original_brought : (c : Config) (p : Fixed) → Contains (present whole c) p → Contains (firsts p) q → IsBrought s q (first_link p ∷ []) p.key
  original_brought c p there first =
      let at : is_first_at (first_link p) p ≡ true = both (same_key p.key p.key) (same_key p.key p.key) (key_itself p.key) (key_itself p.key) in
      let has : list_any (same_key q) (firsts p) ≡ true = any_member (same_key q) (firsts p) q (key_itself q) first in
      record {
        brings = both (begins s q (first_link p)) true
            (any_member (λ (x : Fixed). is_first_at (first_link p) x && list_any (same_key q) (firsts x)) (group_parts s p.key.group) p
            (both (is_first_at (first_link p) p) (list_any (same_key q) (firsts p)) at has) (in_own whole c p sound there)) refl;
        last = refl;
      }

  written_brought : (c : Config) (x : Site) (r : ObjRef) (n : ℕ) → IsDone whole c x r → Contains (says x.act.name) (saying.Hands n) → slice_get x.act.arguments n ≡ Some (argument.Direct (value.Object q)) → is_given (present whole c) x.act.name r ≡ true → IsBrought s q (site_link x r ∷ []) r
  written_brought c x r n done hands stands takes =
      let first : Bool = list_any (λ (p : Fixed). is_first_at (site_link x r) p && list_any (same_key q) (firsts p)) (group_parts s x.key.group) in
      let test : Site → Bool = λ y. writes s y r && is_written q (handed_argument y.act) in
      let named : is_written q (handed_argument x.act) ≡ true =
      ap (is_written q) (says_handed x.act n (argument.Direct (value.Object q)) hands stands refl) ∙ key_itself q in
      let some : list_any test (sites_at s (site_link x r)) ≡ true =
      any_member test (sites_at s (site_link x r)) x (both (writes s x r) (is_written q (handed_argument x.act)) (writes_it c x r done takes) named) (at_place c x r done.site) in
      record {
        brings = both (begins s q (site_link x r)) true
            (ap (λ (b : Bool). if b then first else list_any test (sites_at s (site_link x r))) (later x.index (site_of (present whole c) x done.site).counted) ∙ some) refl;
        last = refl;
      }

  -- the action goes on
  goes_by : (y : ObjRef) (c : Config) (x : Site) (r : ObjRef) → Contains (sites_of (present whole c)) x → ((writes s x r && reads s x y) || answers s x y r) ≡ true → goes_on s y (site_link x r) ≡ true
  goes_by y c x r there so =
      any_member (λ (z : Site). (writes s z r && reads s z y) || answers s z y r) (sites_at s (site_link x r)) x so (at_place c x r there)

  read_goes : (c : Config) (x : Site) (r y : ObjRef) (n : ℕ) (k : Option Kind) → IsDone whole c x r → Contains (says x.act.name) (saying.Hands n) → slice_get x.act.arguments n ≡ Some (argument.Through y k) → is_given (present whole c) x.act.name r ≡ true → reads_reference (argument.Through y k) x.act.name ≡ true → is_reference_in (present whole c) y ≡ true → goes_on s y (site_link x r) ≡ true
  read_goes c x r y n k done hands stands takes read_so is =
      let named : is_read y (handed_argument x.act) ≡ true =
      ap (is_read y) (says_handed x.act n (argument.Through y k) hands stands read_so) ∙ key_itself y in
      goes_by y c x r done.site
      (or_left (writes s x r && reads s x y) (answers s x y r)
      (both (writes s x r) (reads s x y) (writes_it c x r done takes)
      (both (is_read y (handed_argument x.act)) (is_reference_in (group_parts s y.group) y) named (passes_own refers whole c y sound is))))

  filled_goes : (c : Config) (x : Site) (r y : ObjRef) → IsDone whole c x r → fills x.act.name ≡ true → is_list_in (present whole c) r ≡ true → Contains (receivers x.act.arguments) y → is_reference_in (present whole c) y ≡ true → goes_on s r (site_link x y) ≡ true
  filled_goes c x r y done fill list receives is =
      let one = both (fills x.act.name) (can_be x.act.target r) fill (can_come whole (Comes c x.act.target r) done.comes) in
      let two = both (fills x.act.name && can_be x.act.target r) (is_list_in (group_parts s r.group) r) one (passes_own is_list_group whole c r sound list) in
      let three = both (fills x.act.name && can_be x.act.target r && is_list_in (group_parts s r.group) r) (list_any (same_key y) (receivers x.act.arguments)) two
      (any_member (same_key y) (receivers x.act.arguments) y (key_itself y) receives) in
      goes_by r c x y done.site
      (or_right (writes s x y && reads s x r) (answers s x r y)
      (both _ (is_reference_in (group_parts s y.group) y) three (passes_own refers whole c y sound is)))

  -- LINKS THAT BRING IT SHOW IT
  pub brought : (ls : List Link) (c : Config) (r : ObjRef) → Brings whole q ls c r → IsBrought s q ls r
  brought _ _ _ (original c p reached there first) = original_brought c p there first
  brought _ _ _ (written c x r n done hands stands takes) = written_brought c x r n done hands stands takes
  brought _ _ _ (read ls c x r y n k done hands stands takes read_so is b) =
      brought_on s q y ls (site_link x r) (brought ls c y b) (read_goes c x r y n k done hands stands takes read_so is)
  brought _ _ _ (filled ls c x r y done fill list receives is b) =
      brought_on s q r ls (site_link x y) (brought ls c r b) (filled_goes c x r y done fill list receives is)
  brought _ _ _ (passed ls c x r d g p done leads scene part b) = brought ls c p.key b
