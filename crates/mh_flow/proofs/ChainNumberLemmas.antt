-- Numbers of what a list has: what has a number stands there, and numbers of what is in order are in that order.
use Rattle.std.proofs.Common.{◌≡◌, ◌⊎◌, inl, inr, ℕ, zero, suc, ◌+◌, ◌<◌, ◌≤◌, Bool, true, false, not, cond, ◌||◌, List, [], ◌∷◌, ◌++◌, length, Option, Some, None, refl, sym, ap, ◌∙◌, subst, arith, get_or, lt-ltb}
use Rattle.std.specs.Prelude.{slice_get, position, unwrap_or, if◌then◌else◌}
use Rattle.std.specs.List.{Contains, list_any, position_or_len}
use Rattle.std.specs.List.Sorted.{IsSorted}
use Rattle.std.specs.declared.cmp.Ordering.{Ordering}
use Rattle.std.specs.declared.cmp.Ordering.TheVariants.{Less, Equal, Greater}
use Rattle.std.specs.Ordering.{is_lt, nat_cmp, MatchOrdering, ordering_reverse, ordering_then}
use Rattle.std.specs.Cmp.{IsTotalOrder, then_total, on_total, nat_cmp_total, ranked, tied_itself}
use Rattle.std.specs.Cmp.Lexicographic.{slice_cmp, nat_list_cmp_total}
use Rattle.std.proofs.lemmas.List.Sorted.{ranks_by, sorted_far}
use Rattle.std.proofs.lemmas.List.Elements.{Contains-append_left, Contains-append_right}
use Rattle.std.proofs.Math.Bool.{or-true}
use Rattle.mh_model.proofs.ListLemmas.{some_same}
use Rattle.std.proofs.lemmas.Map.Lookups.{exact_bytes, exact_unsigned}
use Rattle.mh_base.specs.declared.obj_ref.ObjRef.{ObjRef}
use Rattle.mh_laws.specs.Least.{by_reference}
use Rattle.mh_flow.specs.declared.chain.moves.Holder.{Holder}
use Rattle.mh_flow.specs.declared.chain.moves.ActionSite.{ActionSite}
use Rattle.mh_flow.specs.declared.chain.moves.Move.{Move}
use Rattle.mh_flow.specs.Routes.{AreActionSites, same_holder, same_action_site, action_site_cmp, holder_number, action_site_number, with_holder, with_source, holders_from, holders_met, with_action_site, with_action_site_of, action_sites_from}
use Rattle.mh_model.specs.Reference.{same_key}
use Rattle.mh_flow.proofs.ContainsLemmas.{both, halves, no_member, here, behind, first_or_behind}
use Rattle.mh_flow.proofs.ConfigLemmas.{config_is, config_itself}
use Rattle.std.proofs.lemmas.Bool.Decides.{Decides-eqb}
use Rattle.std.proofs.lemmas.Slice.Eq.{bytes_eq-Decides}

-- What is the same is equal.

key_is : (a b : ObjRef) → same_key a b ≡ true → a ≡ b
key_is a b h =
    let two = halves _ _ h in
    let n : a.number ≡ b.number = (Decides-eqb a.number b.number).0 two.0 in
    let g : a.group ≡ b.group = (bytes_eq-Decides a.group b.group).0 two.1 in
    λ i. record { number = n i; group = g i }

key_itself : (a : ObjRef) → same_key a a ≡ true
key_itself a = both _ _ ((Decides-eqb a.number a.number).1 refl) ((bytes_eq-Decides a.group a.group).1 refl)

holder_is : (a b : Holder) → same_holder a b ≡ true → a ≡ b
holder_is a b h =
    let two = halves _ _ h in
    let c = config_is a.config b.config two.0 in
    let r = key_is a.at b.at two.1 in
    λ i. record { config = c i; at = r i }

holder_itself : (a : Holder) → same_holder a a ≡ true
holder_itself a = both _ _ (config_itself a.config) (key_itself a.at)

action_site_is : (a b : ActionSite) → same_action_site a b ≡ true → a ≡ b
action_site_is a b h =
    let two = halves _ _ h in
    let k = key_is a.key b.key two.0 in
    let n : a.index ≡ b.index = (Decides-eqb a.index b.index).0 two.1 in
    λ i. record { key = k i; index = n i }

action_site_itself : (a : ActionSite) → same_action_site a a ≡ true
action_site_itself a = both _ _ (key_itself a.key) ((Decides-eqb a.index a.index).1 refl)

-- Where something stands that passes a test.

stands : {X : Type 0} (p : X → Bool) (xs : List X) → list_any p xs ≡ true → (x : X) × (slice_get xs (position_or_len p xs) ≡ Some x) × (p x ≡ true) × (position_or_len p xs < length xs)
stands p [] h = cc
stands {X} p (y ∷ xs) h = by (p y) refl h (stands p xs)
  where
    by : (b : Bool) → p y ≡ b → (b || list_any p xs) ≡ true → (list_any p xs ≡ true → (x : X) × (slice_get xs (position_or_len p xs) ≡ Some x) × (p x ≡ true) × (position_or_len p xs < length xs))
        → (x : X) × (slice_get (y ∷ xs) (cond (not b) (1 + position_or_len p xs) 0) ≡ Some x) × (p x ≡ true) × (cond (not b) (1 + position_or_len p xs) 0 < length (y ∷ xs))
    by true e h ih = (y, refl, e, omega arith)
    by false e h ih =
        let found = ih h in
        let n : suc (position_or_len p xs) ≡ 1 + position_or_len p xs = omega arith in
        (found.0, subst (λ (k : ℕ). slice_get (y ∷ xs) k ≡ Some found.0) n found.1, found.2, omega (arith, found.3))

numbered : {X : Type 0} (p : X → Bool) (xs : List X) → position_or_len p xs < length xs → position p xs ≡ Some (position_or_len p xs)
numbered {X} p xs h = ap (λ (b : Bool). cond b (Some (position_or_len p xs)) None) (lt-ltb (position_or_len p xs) (length xs) h)

-- what is among them stands at its number
standing : {X : Type 0} (same : X → X → Bool) → ((a b : X) → same a b ≡ true → a ≡ b) → (xs : List X) (x : X) → list_any (same x) xs ≡ true → (slice_get xs (unwrap_or (position (same x) xs) 0) ≡ Some x) × (unwrap_or (position (same x) xs) 0 < length xs)
standing {X} same is xs x h =
    let found = stands (same x) xs h in
    let e : unwrap_or (position (same x) xs) 0 ≡ position_or_len (same x) xs = ap (λ (o : Option ℕ). unwrap_or o 0) (numbered (same x) xs found.3) in (
      ap (slice_get xs) e ∙ found.1 ∙ ap (λ (y : X). Some y) (sym (is x found.0 found.2)),
      subst (λ (n : ℕ). n < length xs) (sym e) found.3,
    )

pub holder_numbered : (ps : List Holder) (p : Holder) → list_any (same_holder p) ps ≡ true → (slice_get ps (holder_number ps p) ≡ Some p) × (holder_number ps p < length ps)
holder_numbered ps p h = standing same_holder holder_is ps p h

pub with_its_action_site : (ss : List ActionSite) (s : ActionSite) → list_any (same_action_site s) ss ≡ true → (slice_get ss (action_site_number ss s) ≡ Some s) × (action_site_number ss s < length ss)
with_its_action_site ss s h = standing same_action_site action_site_is ss s h

-- Membership by tests.

any_member : {X : Type 0} (same : X → X → Bool) → ((a : X) → same a a ≡ true) → (xs : List X) (x : X) → Contains xs x → list_any (same x) xs ≡ true
any_member same itself [] x m = absurd (no_member x m)
any_member {X} same itself (y ∷ xs) x m = by (first_or_behind y xs x m) (any_member same itself xs x)
  where
    by : (y ≡ x) ⊎ Contains xs x → (Contains xs x → list_any (same x) xs ≡ true) → (same x y || list_any (same x) xs) ≡ true
    by (inl e) ih = ap (λ (b : Bool). b || list_any (same x) xs) (subst (λ (z : X). same x z ≡ true) (sym e) (itself x))
    by (inr k) ih = ap (λ (b : Bool). same x y || b) (ih k) ∙ or-true (same x y)

member_any : {X : Type 0} (same : X → X → Bool) → ((a b : X) → same a b ≡ true → a ≡ b) → (xs : List X) (x : X) → list_any (same x) xs ≡ true → Contains xs x
member_any same is [] x h = cc
member_any {X} same is (y ∷ xs) x h = by (same x y) refl h (member_any same is xs x)
  where
    by : (b : Bool) → same x y ≡ b → (b || list_any (same x) xs) ≡ true → (list_any (same x) xs ≡ true → Contains xs x) → Contains (y ∷ xs) x
    by true e h ih = subst (λ (z : X). Contains (y ∷ xs) z) (sym (is x y e)) (here y xs)
    by false e h ih = behind y xs x (ih h)

-- what is put in is there, and what was there stays
put_there : {X : Type 0} (same : X → X → Bool) → ((a : X) → same a a ≡ true) → (xs : List X) (y : X) (b : Bool) → list_any (same y) xs ≡ b → list_any (same y) (if b then xs else xs ++ y ∷ []) ≡ true
put_there same itself xs y true e = e
put_there same itself xs y false e = any_member same itself (xs ++ y ∷ []) y (Contains-append_right xs (y ∷ []) y (here y []))

put_stays : {X : Type 0} (same : X → X → Bool) → ((a : X) → same a a ≡ true) → ((a b : X) → same a b ≡ true → a ≡ b) → (xs : List X) (x y : X) (b : Bool) → list_any (same x) xs ≡ true → list_any (same x) (if b then xs else xs ++ y ∷ []) ≡ true
put_stays same itself is xs x y true h = h
put_stays same itself is xs x y false h = any_member same itself (xs ++ y ∷ []) x (Contains-append_left xs (y ∷ []) x (member_any same is xs x h))

-- Places of moves.

abbrev HasHolder : List Holder → Holder → Type 0
HasHolder ps p = list_any (same_holder p) ps ≡ true

holder_there : (ps : List Holder) (p : Holder) → HasHolder (with_holder ps p) p
holder_there ps p = put_there same_holder holder_itself ps p (list_any (same_holder p) ps) refl

holder_stays : (ps : List Holder) (p q : Holder) → HasHolder ps p → HasHolder (with_holder ps q) p
holder_stays ps p q h = put_stays same_holder holder_itself holder_is ps p q (list_any (same_holder q) ps) h

source_there : (ps : List Holder) (o : Option Holder) (p : Holder) → o ≡ Some p → HasHolder (with_source ps o) p
source_there ps None p e = cc
source_there ps (Some q) p e = subst (λ (x : Holder). HasHolder (with_holder ps q) x) (some_same e) (holder_there ps q)

source_stays : (ps : List Holder) (o : Option Holder) (p : Holder) → HasHolder ps p → HasHolder (with_source ps o) p
source_stays ps None p h = h
source_stays ps (Some q) p h = holder_stays ps p q h

holders_stay : (ps : List Holder) (ms : List Move) (p : Holder) → HasHolder ps p → HasHolder (holders_from ps ms) p
holders_stay ps [] p h = h
holders_stay ps (m ∷ ms) p h = holders_stay (with_holder (with_source ps m.from) m.to) ms p (holder_stays (with_source ps m.from) p m.to (source_stays ps m.from p h))

holders_to : (ps : List Holder) (ms : List Move) (m : Move) → Contains ms m → HasHolder (holders_from ps ms) m.to
holders_to ps [] m k = absurd (no_member m k)
holders_to ps (x ∷ ms) m k = by (first_or_behind x ms m k) (holders_to (with_holder (with_source ps x.from) x.to) ms m)
  where
    by : (x ≡ m) ⊎ Contains ms m → (Contains ms m → HasHolder (holders_from ps (x ∷ ms)) m.to) → HasHolder (holders_from ps (x ∷ ms)) m.to
    by (inl e) ih = subst (λ (y : Move). HasHolder (holders_from ps (x ∷ ms)) y.to) e (holders_stay (with_holder (with_source ps x.from) x.to) ms x.to (holder_there (with_source ps x.from) x.to))
    by (inr k) ih = ih k

holders_source : (ps : List Holder) (ms : List Move) (m : Move) (p : Holder) → Contains ms m → m.from ≡ Some p → HasHolder (holders_from ps ms) p
holders_source ps [] m p k e = absurd (no_member m k)
holders_source ps (x ∷ ms) m p k e = by (first_or_behind x ms m k) (λ k. holders_source (with_holder (with_source ps x.from) x.to) ms m p k e)
  where
    by : (x ≡ m) ⊎ Contains ms m → (Contains ms m → HasHolder (holders_from ps (x ∷ ms)) p) → HasHolder (holders_from ps (x ∷ ms)) p
    by (inl same) ih =
        let mine : x.from ≡ Some p = ap (λ (y : Move). y.from) same ∙ e in
        holders_stay (with_holder (with_source ps x.from) x.to) ms p (holder_stays (with_source ps x.from) p x.to (source_there ps x.from p mine))
    by (inr k) ih = ih k

pub has_to : (ms : List Move) (m : Move) → Contains ms m → HasHolder (holders_met ms) m.to
has_to ms m k = holders_to [] ms m k

pub has_source : (ms : List Move) (m : Move) (p : Holder) → Contains ms m → m.from ≡ Some p → HasHolder (holders_met ms) p
has_source ms m p k e = holders_source [] ms m p k e

-- ActionSites of moves.

abbrev HasActionSite : List ActionSite → ActionSite → Type 0
HasActionSite ss s = list_any (same_action_site s) ss ≡ true

action_site_of_there : (ss : List ActionSite) (o : Option ActionSite) (s : ActionSite) → o ≡ Some s → HasActionSite (with_action_site_of ss o) s
action_site_of_there ss None s e = cc
action_site_of_there ss (Some t) s e = subst (λ (x : ActionSite). HasActionSite (with_action_site ss t) x) (some_same e) (put_there same_action_site action_site_itself ss t (list_any (same_action_site t) ss) refl)

action_site_of_stays : (ss : List ActionSite) (o : Option ActionSite) (s : ActionSite) → HasActionSite ss s → HasActionSite (with_action_site_of ss o) s
action_site_of_stays ss None s h = h
action_site_of_stays ss (Some t) s h = put_stays same_action_site action_site_itself action_site_is ss s t (list_any (same_action_site t) ss) h

action_sites_stay : (ss : List ActionSite) (ms : List Move) (s : ActionSite) → HasActionSite ss s → HasActionSite (action_sites_from ss ms) s
action_sites_stay ss [] s h = h
action_sites_stay ss (m ∷ ms) s h = action_sites_stay (with_action_site_of ss m.action_site) ms s (action_site_of_stays ss m.action_site s h)

has_action_site : (ss : List ActionSite) (ms : List Move) (m : Move) (s : ActionSite) → Contains ms m → m.action_site ≡ Some s → HasActionSite (action_sites_from ss ms) s
has_action_site ss [] m s k e = absurd (no_member m k)
has_action_site ss (x ∷ ms) m s k e = by (first_or_behind x ms m k) (λ k. has_action_site (with_action_site_of ss x.action_site) ms m s k e)
  where
    by : (x ≡ m) ⊎ Contains ms m → (Contains ms m → HasActionSite (action_sites_from ss (x ∷ ms)) s) → HasActionSite (action_sites_from ss (x ∷ ms)) s
    by (inl same) ih = action_sites_stay (with_action_site_of ss x.action_site) ms s (action_site_of_there ss x.action_site s (ap (λ (y : Move). y.action_site) same ∙ e))
    by (inr k) ih = ih k

-- Order.

pub action_site_total : IsTotalOrder action_site_cmp
action_site_total = then_total (on_total (λ (s : ActionSite). s.key) (then_total (on_total (λ (r : ObjRef). r.group) nat_list_cmp_total) (on_total (λ (r : ObjRef). r.number) nat_cmp_total))) (on_total (λ (s : ActionSite). s.index) nat_cmp_total)

both_equal : (a b : Ordering) → ordering_then a b ≡ Equal → (a ≡ Equal) × (b ≡ Equal)
both_equal Less b e = cc
both_equal Equal b e = (refl, e)
both_equal Greater b e = cc

tied_is : (a b : ActionSite) → action_site_cmp a b ≡ Equal → a ≡ b
tied_is a b e =
    let two = both_equal (by_reference a.key b.key) (nat_cmp a.index b.index) e in
    let ref = both_equal (slice_cmp nat_cmp a.key.group b.key.group) (nat_cmp a.key.number b.key.number) two.0 in
    let g = exact_bytes a.key.group b.key.group ref.0 in
    let n = exact_unsigned a.key.number b.key.number ref.1 in
    let i = exact_unsigned a.index b.index two.1 in
    λ j. record { key = record { number = n j; group = g j }; index = i j }

-- the action sites in order, and all of those of the moves
pub are_action_sites : (ms : List Move) (ss : List ActionSite) → IsSorted action_site_cmp ss → ((s : ActionSite) → list_any (same_action_site s) ss ≡ list_any (same_action_site s) (action_sites_from [] ms)) → AreActionSites ms ss
are_action_sites ms ss sorted same = record { sorted = sorted; each = λ m s k e. same s ∙ has_action_site [] ms m s k e }

-- numbers of action sites are in the order of action sites
got : {X : Type 0} (xs : List X) (n : ℕ) (x d : X) → slice_get xs n ≡ Some x → get_or xs n d ≡ x
got [] n x d e = cc
got (y ∷ xs) zero x d e = some_same e
got (y ∷ xs) (suc n) x d e = got xs n x d e

not_below : (ss : List ActionSite) → IsSorted action_site_cmp ss → (i j : ℕ) (a b : ActionSite) → i ≤ j → j < length ss → slice_get ss i ≡ Some a → slice_get ss j ≡ Some b → is_lt (action_site_cmp b a) ≡ false
not_below ss up i j a b less within at_i at_j =
    let far = sorted_far (λ x y. is_lt (action_site_cmp x y)) (ranks_by action_site_total (λ (s : ActionSite). s)) ss up i j a less within in
    subst (λ (z : ActionSite). is_lt (action_site_cmp z a) ≡ false) (got ss j b a at_j) (subst (λ (z : ActionSite). is_lt (action_site_cmp (get_or ss j a) z) ≡ false) (got ss i a a at_i) far)

pub sorted_numbers : (ms : List Move) (ss : List ActionSite) → AreActionSites ms ss → (a b : ActionSite) → HasActionSite ss a → HasActionSite ss b → nat_cmp (action_site_number ss a) (action_site_number ss b) ≡ action_site_cmp a b
sorted_numbers ms ss are a b ha hb = by (nat_cmp i j) refl (ranked i j (nat_cmp i j) refl)
  where
    i : ℕ
    i = action_site_number ss a

    j : ℕ
    j = action_site_number ss b

    at_a : (slice_get ss i ≡ Some a) × (i < length ss)
    at_a = with_its_action_site ss a ha

    at_b : (slice_get ss j ≡ Some b) × (j < length ss)
    at_b = with_its_action_site ss b hb

    before : (x y : ActionSite) → action_site_number ss x < action_site_number ss y → is_lt (action_site_cmp y x) ≡ false → (r : Ordering) → action_site_cmp x y ≡ r → r ≡ Less
    before x y less never Less e = refl
    before x y less never Equal e = let same = ap (action_site_number ss) (tied_is x y e) in absurd (omega (arith, same, less))
    before x y less never Greater e = let k : is_lt (action_site_cmp y x) ≡ true = ap is_lt (action_site_total.antisymm y x ∙ ap ordering_reverse e) in cc

    by : (r : Ordering) → nat_cmp i j ≡ r → MatchOrdering r (i < j) (i ≡ j) (j < i) → nat_cmp i j ≡ action_site_cmp a b
    by Less e h = e ∙ sym (before a b h (not_below ss are.sorted i j a b (omega (arith, h)) at_b.1 at_a.0 at_b.0) (action_site_cmp a b) refl)
    by Equal e h =
        let same : Some a ≡ Some b = sym at_a.0 ∙ ap (slice_get ss) h ∙ at_b.0 in
        e ∙ sym (tied_itself action_site_total a) ∙ ap (action_site_cmp a) (some_same same)
    by Greater e h = e ∙ ap ordering_reverse (sym (before b a h (not_below ss are.sorted j i b a (omega (arith, h)) at_a.1 at_b.0 at_a.0) (action_site_cmp b a) refl)) ∙ sym (action_site_total.antisymm a b)
