-- What brings a reference begins where the reference is an origin.
use Rattle.std.proofs.Common.{◌≡◌, ◌⊎◌, inl, inr, ℕ, suc, ◌+◌, ◌==◌, true, List, [], ◌∷◌, ◌++◌, length, filter, Some, Vec, Result, Ok, Err, IfOk, refl, sym, ap, ◌∙◌, subst, eq-eqb, eqb-true}
use Rattle.std.specs.Prelude.{slice_get}
use Rattle.std.specs.declared.alloc.Global.{Global}
use Rattle.std.specs.declared.alloc.AllocError.{AllocError}
use Rattle.std.specs.List.{Contains, flat_map, list_any}
use Rattle.std.proofs.lemmas.List.Elements.{Contains-append_left, Contains-append_right, Contains-append_cases}
use Rattle.std.specs.declared.cmp.Ordering.{Ordering}
use Rattle.std.specs.declared.cmp.Ordering.TheVariants.{Less, Equal, Greater}
use Rattle.std.specs.Ordering.{nat_cmp, ordering_then}
use Rattle.std.specs.Cmp.{unsigned_po}
use Rattle.std.specs.Cmp.Lexicographic.{slice_cmp}
use Rattle.mh_base.specs.declared.obj_ref.ObjRef.{ObjRef}
use Rattle.mh_model.specs.declared.act.Act.{Act}
use Rattle.mh_model.specs.declared.config.Config.{Config}
use Rattle.mh_model.specs.declared.object.Fixed.{Fixed}
use Rattle.mh_model.specs.Configuration.{present}
use Rattle.mh_model.specs.Reference.{same_ref}
use Rattle.mh_model.specs.Service.{Service}
use Rattle.mh_model.proofs.ListLemmas.{some_same}
use Rattle.mh_model.proofs.ServiceLemmas.{same_ref-same}
use Rattle.mh_laws.specs.Active.{is_active}
use Rattle.mh_laws.specs.Costs.{effects}
use Rattle.mh_laws.specs.Describing.{says}
use Rattle.mh_laws.specs.Least.{by_reference}
use Rattle.mh_flow.specs.declared.chain.link.Link.{Link}
use Rattle.mh_flow.specs.Chains.{Brings, original, written, read, filled, passed, by_action_site, first_link, site_link}
use Rattle.mh_flow.specs.Chart.{all_parts, firsts, handed}
use Rattle.mh_flow.specs.Origins.{AreOrigins, begun, begun_at, begun_by, begun_in, first_begun}
use Rattle.mh_flow.specs.Sites.{Site, numbered, sites, sites_of, through_effects}
use Rattle.mh_flow.specs.Steps.{is_one_of}
use Rattle.mh_flow.proofs.ContainsLemmas.{no_member, first_or_behind, in_joined, joined_from}
use Rattle.mh_flow.proofs.ChainStepLemmas.{among, is_among, where_true}
use Rattle.mh_flow.proofs.MentionLemmas.{handed_among}
use Rattle.mh_flow.proofs.OrderLemmas.{level_same}
use Rattle.mh_flow.proofs.PresentLemmas.{passing, passing_from, present_part, same_itself}

-- A site has the reference of its object.

numbered_key : (k : ObjRef) (f i : ℕ) (acts : List Act) (x : Site) → Contains (numbered k f i acts) x → x.key ≡ k
numbered_key k f i [] x m = absurd (no_member x m)
numbered_key k f i (a ∷ acts) x m = by (first_or_behind (record { key = k; index = i; first = f; act = a }) (numbered k f (suc i) acts) x m) (numbered_key k f (suc i) acts x)
  where
    by : (record { key = k; index = i; first = f; act = a } ≡ x) ⊎ Contains (numbered k f (suc i) acts) x → (Contains (numbered k f (suc i) acts) x → x.key ≡ k) → x.key ≡ k
    by (inl e) ih = sym (ap (λ (y : Site). y.key) e)
    by (inr k) ih = ih k

through_key : (k : ObjRef) (i : ℕ) (es : List (List Act)) (x : Site) → Contains (through_effects k i es) x → x.key ≡ k
through_key k i [] x m = absurd (no_member x m)
through_key k i (e ∷ es) x m = by (Contains-append_cases (numbered k i i e) (through_effects k (i + length e) es) x m) (through_key k (i + length e) es x)
  where
    by : Contains (numbered k i i e) x ⊎ Contains (through_effects k (i + length e) es) x → (Contains (through_effects k (i + length e) es) x → x.key ≡ k) → x.key ≡ k
    by (inl n) ih = numbered_key k i i e x n
    by (inr n) ih = ih n

site_key : (p : Fixed) (x : Site) → Contains (sites p) x → x.key ≡ p.key
site_key p x m = through_key p.key 1 (effects p) x m

-- The first link names a place where the reference is brought from nowhere.

first_begins : (v : Service) (c : Config) (p : Fixed) (q : ObjRef) → Contains (present v c) p → Contains (firsts p) q → Contains (begun v (first_link p)) q
first_begins v c p q part first =
    in_joined (begun_by (first_link p)) (all_parts v) p q (present_part v c p part)
    (where_true (same_ref p.key p.key) (begun_in (first_link p) p) q (same_itself p.key)
    (Contains-append_left (first_begun (first_link p) p) (flat_map (begun_at (first_link p)) (sites p)) q first))

site_begins : (v : Service) (c : Config) (x : Site) (r q : ObjRef) → Contains (sites_of (present v c)) x → Contains (handed x.act) q → Contains (begun v (site_link x r)) q
site_begins v c x r q site writes =
    let from = joined_from sites (filter (is_active (present v c)) (present v c)) x site in
    let p = from.0 in
    let part = (passing_from (is_active (present v c)) (present v c) p from.1).1 in
    let own : same_ref p.key x.key ≡ true = subst (λ (k : ObjRef). same_ref p.key k ≡ true) (sym (site_key p x from.2)) (same_itself p.key) in
    in_joined (begun_by (site_link x r)) (all_parts v) p q (present_part v c p part)
    (where_true (same_ref p.key x.key) (begun_in (site_link x r) p) q own
    (Contains-append_right (first_begun (site_link x r) p) (flat_map (begun_at (site_link x r)) (sites p)) q
    (in_joined (begun_at (site_link x r)) (sites p) x q from.2
    (where_true (x.index == x.index) (handed x.act) q (eq-eqb x.index x.index refl) writes))))

-- these links have a first one, which can bring the reference
abbrev pub Begins : Service → ObjRef → List Link → Type 0
Begins v q ls = (l : Link) × (rest : List Link) × (ls ≡ l ∷ rest) × Contains (begun v l) q

longer : (v : Service) (q : ObjRef) (ls ms : List Link) → Begins v q ls → Begins v q (ls ++ ms)
longer v q ls ms b = (b.0, b.1 ++ ms, ap (λ (xs : List Link). xs ++ ms) b.2, b.3)

pub brings_begins : (v : Service) (q : ObjRef) (ls : List Link) (c : Config) (r : ObjRef) → Brings v q ls c r → Begins v q ls
brings_begins v q ls0 c0 r0 (original c p at part first) = (first_link p, [], refl, first_begins v c p q part first)
brings_begins v q ls0 c0 r0 (written c x r n done hands stands takes) =
    (site_link x r, [], refl, site_begins v c x r q done.site (handed_among (says x.act.name) x.act.arguments n q hands stands))
brings_begins v q ls0 c0 r0 (read ls c x r y n k done hands stands takes reads is b) = longer v q ls (site_link x r ∷ []) (brings_begins v q ls c y b)
brings_begins v q ls0 c0 r0 (filled ls c x r y done fill list receives is b) = longer v q ls (site_link x y ∷ []) (brings_begins v q ls c r b)
brings_begins v q ls0 c0 r0 (passed ls c x r d g p done leads scene part b) = brings_begins v q ls c p.key b

-- Links of one place bring the same.

pub both_level : (a b : Ordering) → ordering_then a b ≡ Equal → (a ≡ Equal) × (b ≡ Equal)
both_level Less b e = absurd cc
both_level Equal b e = (refl, e)
both_level Greater b e = absurd cc

level_number : (m n : ℕ) → nat_cmp m n ≡ Equal → m ≡ n
level_number m n e = eqb-true m n ((unsigned_po.matches_eq m n).1 (ap Some e))

pub level_begun : (v : Service) (k l : Link) → by_action_site k l ≡ Equal → begun v k ≡ begun v l
level_begun v k l e =
    let two = both_level (by_reference k.key l.key) (nat_cmp k.index l.index) e in
    let key : k.key ≡ l.key = same_ref-same k.key l.key (level_same k.key l.key two.0) in
    let index : k.index ≡ l.index = level_number k.index l.index two.1 in
    λ i. begun v (record { key = key i; index = index i; written = k.written })

pub first_level : (k l : Link) (ks ls : List Link) → slice_cmp by_action_site (k ∷ ks) (l ∷ ls) ≡ Equal → by_action_site k l ≡ Equal
first_level k l ks ls e = (both_level (by_action_site k l) (slice_cmp by_action_site ks ls) e).0

-- In the words of the code.

pub no_origins : (v : Service) (qs : List ObjRef) (ls : List Link) → ls ≡ [] → AreOrigins v qs ls []
no_origins v qs ls none = record {
  among = λ q m. absurd (no_member q m);
  each = λ l rest q e m b. absurd (let never : [] ≡ l ∷ rest = sym none ∙ e in cc);
}

pub told_origins : (v : Service) (qs : List ObjRef) (ls : List Link) (l : Link) (rest : List Link) (found os : List ObjRef) → ls ≡ l ∷ rest → ((q : ObjRef) → list_any (same_ref q) found ≡ list_any (same_ref q) (begun v l)) → os ≡ filter (is_one_of qs) found → AreOrigins v qs ls os
told_origins v qs ls l rest found os is same made = record {
  among = λ q m. among q qs (passing_from (is_one_of qs) found q (subst (λ (xs : List ObjRef). Contains xs q) made m)).0;
  each = λ k others q e m b.
      let heads : l ∷ rest ≡ k ∷ others = sym is ∙ e in
      let first : l ≡ k = cc in
      let begins : Contains (begun v l) q = subst (λ (x : Link). Contains (begun v x) q) (sym first) b in
      let there : Contains found q = among q found (same q ∙ is_among q (begun v l) begins) in
      subst (λ (xs : List ObjRef). Contains xs q) (sym made) (passing (is_one_of qs) found q (is_among q qs m) there);
}

pub told_found : (v : Service) (qs : List ObjRef) (ls : List Link) (l : Link) (found : List ObjRef) (o : Result (Vec ObjRef Global) AllocError) → slice_get ls 0 ≡ Some l → ((q : ObjRef) → list_any (same_ref q) found ≡ list_any (same_ref q) (begun v l)) → IfOk o (λ os. os.items ≡ filter (is_one_of qs) found) → IfOk o (λ os. AreOrigins v qs ls os.items)
told_found v qs [] l found o is same made = absurd cc
told_found v qs (k ∷ rest) l found (Err e) is same made = tt
told_found v qs (k ∷ rest) l found (Ok os) is same made =
    let first : k ≡ l = some_same is in
    told_origins v qs (k ∷ rest) l rest found os.items (ap (λ (x : Link). x ∷ rest) first) same made
