-- Steps of the search.
use Rattle.std.specs.Prelude.{◌≡◌, ◌⊎◌, ℕ, zero, suc, ◌+◌, ◌*◌, ◌/◌, ◌<◌, ◌≤◌, ◌&&◌, ◌||◌, not, nat_eq, Bool, true, false, List, [], ◌∷◌, length, take, slice_index_or, refl}
use Rattle.std.specs.List.{Contains, slice_index}
use Rattle.std.proofs.Common.{rules, arith, inl, inr, ap, ◌∙◌, sym, subst, eqb-true}
use Rattle.std.proofs.lemmas.Bool.Decides.{nat_tests}
use Rattle.std.proofs.lemmas.List.{take_more}
use Rattle.std.proofs.lemmas.List.Elements.{Contains-append_right, Contains-append_cases}
use Rattle.mh_flow.specs.declared.fixpoint.constraints.Fact.{Fact}
use Rattle.mh_flow.specs.declared.fixpoint.constraints.Item.{Item}
use Rattle.mh_flow.specs.declared.fixpoint.constraints.Item.TheVariants as item
use Rattle.mh_flow.specs.Rows.{row, is_at, has, places_from, Pushed}
use Rattle.mh_flow.specs.Edging.{ends, AreTabled, HasEdge}
use Rattle.mh_flow.specs.declared.fixpoint.edges.Edges.{Edges}
use Rattle.mh_flow.specs.Membership.{MemberRows, AreMembers, IsPut, words_of}
use Rattle.mh_flow.specs.Constraints.{ConstraintSystem, Derived, begun, opened, along, fits, IsFit}
use Rattle.mh_flow.specs.Gathering.{View, IsIn, IsSound, IsDue, IsClosed, IsStep, AreOpened, IsSpread}
use Rattle.mh_flow.proofs.RowLemmas.{longer_has}
use Rattle.mh_flow.proofs.MemberLemmas.{same_put}
use Rattle.mh_flow.proofs.SetLemmas.{members_contain, members_only}

pub same_step : (system : ConstraintSystem) (g : View) → IsStep system g g
same_step system g = record { grows = λ x h. h; keeps = λ n bits k. k; less = omega arith }

pub then_step : (system : ConstraintSystem) (a b c : View) → IsStep system a b → IsStep system b c → IsStep system a c
then_step system a b c s t = record {
  grows = λ x h. t.grows x (s.grows x h);
  keeps = λ n bits k. t.keeps n bits (s.keeps n bits k);
  less = omega (arith, s.less, t.less);
}

-- Members are put in, and it may be that an edge was.

put_or_fresh : (k f c : Bool) → (k || c) ≡ true → (k ≡ true) ⊎ ((f || (c && not k)) ≡ true)
put_or_fresh true f c e = inl refl
put_or_fresh false true c e = inr refl
put_or_fresh false false true e = inr refl
put_or_fresh false false false e = absurd cc

or_true : (a b : Bool) → a ≡ true → (a || b) ≡ true
or_true true b e = refl
or_true false b e = absurd cc

true_or : (a b : Bool) → b ≡ true → (a || b) ≡ true
true_or true b e = refl
true_or false b e = e

pub known_grows : (a b : MemberRows) (come : ℕ → ℕ → Bool) (u q : ℕ) → IsPut a b come → has a.known u q ≡ true → has b.known u q ≡ true
known_grows a b come u q p h = p.known u q ∙ or_true (has a.known u q) (come u q) h

pub known_comes : (a b : MemberRows) (come : ℕ → ℕ → Bool) (u q : ℕ) → IsPut a b come → come u q ≡ true → has b.known u q ≡ true
known_comes a b come u q p h = p.known u q ∙ true_or (has a.known u q) (come u q) h

new_fresh : (a b : MemberRows) (come : ℕ → ℕ → Bool) (u q : ℕ) → IsPut a b come → has b.known u q ≡ true → (has a.known u q ≡ true) ⊎ (has b.fresh u q ≡ true)
new_fresh a b come u q p h = by (put_or_fresh (has a.known u q) (has a.fresh u q) (come u q) (sym (p.known u q) ∙ h))
  where
    by : (has a.known u q ≡ true) ⊎ ((has a.fresh u q || (come u q && not (has a.known u q))) ≡ true) → (has a.known u q ≡ true) ⊎ (has b.fresh u q ≡ true)
    by (inl e) = inl e
    by (inr e) = inr (p.fresh u q ∙ e)

pub step_of : (system : ConstraintSystem) (a b : View) (come : ℕ → ℕ → Bool) → IsPut a.members b.members come → ((u v : ℕ) → Contains (row (ends a.edges) u) v → Contains (row (ends b.edges) u) v)
    → ((u v : ℕ) → Contains (row (ends b.edges) u) v → Contains (row (ends a.edges) u) v ⊎ ((q : ℕ) → has a.members.known u q ≡ true → has b.members.known v q ≡ true)) → IsStep system a b
step_of system a b come p kept only = record {
  grows = grows;
  keeps = λ n bits k. record { along = λ u v q e h. along_it n bits k u v q (only u v e) (new_fresh a.members b.members come u q p h); opened = λ f h. opened_it n bits k f (new_fresh a.members b.members come f.node f.member p h) };
  less = p.less;
}
  where
    grows : (x : Item) → IsIn a x → IsIn b x
    grows (item.Member f) h = known_grows a.members b.members come f.node f.member p h
    grows (item.Edge u v) h = kept u v h

    due : (n : ℕ) (bits : List Bool) (u q : ℕ) → IsDue a n bits u q → IsDue b n bits u q
    due n bits u q (inl h) = inl (p.fresh u q ∙ or_true (has a.members.fresh u q) (come u q && not (has a.members.known u q)) h)
    due n bits u q (inr h) = inr h

    along_it : (n : ℕ) (bits : List Bool) → IsClosed system a n bits → (u v q : ℕ) → Contains (row (ends a.edges) u) v ⊎ ((q : ℕ) → has a.members.known u q ≡ true → has b.members.known v q ≡ true)
        → (has a.members.known u q ≡ true) ⊎ (has b.members.fresh u q ≡ true) → (has b.members.known v q ≡ true) ⊎ IsDue b n bits u q
    along_it n bits k u v q e (inr fresh) = inr (inl fresh)
    along_it n bits k u v q (inr goes) (inl h) = inl (goes q h)
    along_it n bits k u v q (inl e) (inl h) = by (k.along u v q e h)
      where
        by : (has a.members.known v q ≡ true) ⊎ IsDue a n bits u q → (has b.members.known v q ≡ true) ⊎ IsDue b n bits u q
        by (inl h) = inl (known_grows a.members b.members come v q p h)
        by (inr h) = inr (due n bits u q h)

    opened_it : (n : ℕ) (bits : List Bool) → IsClosed system a n bits → (f : Fact) → (has a.members.known f.node f.member ≡ true) ⊎ (has b.members.fresh f.node f.member ≡ true)
        → ((x : Item) → Contains (system.opens f) x → IsIn b x) ⊎ IsDue b n bits f.node f.member
    opened_it n bits k f (inr fresh) = inr (inl fresh)
    opened_it n bits k f (inl h) = by (k.opened f h)
      where
        by : ((x : Item) → Contains (system.opens f) x → IsIn a x) ⊎ IsDue a n bits f.node f.member → ((x : Item) → Contains (system.opens f) x → IsIn b x) ⊎ IsDue b n bits f.node f.member
        by (inl all) = inl (λ x c. grows x (all x c))
        by (inr h) = inr (due n bits f.node f.member h)

either_true : (a b : Bool) → (a || b) ≡ true → (a ≡ true) ⊎ (b ≡ true)
either_true true b e = inl refl
either_true false b e = inr e

pub sound_of : (system : ConstraintSystem) (a b : View) (come : ℕ → ℕ → Bool) → IsSound system a → AreMembers b.members → IsPut a.members b.members come → AreTabled b.edges → length (ends b.edges) ≡ length (ends a.edges)
    → ((u v : ℕ) → Contains (row (ends b.edges) u) v → Derived system (item.Edge u v)) → ((u q : ℕ) → come u q ≡ true → Derived system (item.Member (record { node = u; member = q }))) → IsSound system b
sound_of system a b come k members p tabled height edges comes = record {
  members = members;
  words = p.words ∙ k.words;
  height = p.height ∙ k.height;
  edges = height ∙ k.edges;
  tabled = tabled;
  derived = derived;
}
  where
    member : (f : Fact) → (has a.members.known f.node f.member ≡ true) ⊎ (come f.node f.member ≡ true) → Derived system (item.Member f)
    member f (inl h) = k.derived (item.Member f) h
    member f (inr h) = comes f.node f.member h

    derived : (x : Item) → IsIn b x → Derived system x
    derived (item.Member f) h = member f (either_true (has a.members.known f.node f.member) (come f.node f.member) (sym (p.known f.node f.member) ∙ h))
    derived (item.Edge u v) h = edges u v h

-- Only members are put in.

pub members_step : (system : ConstraintSystem) (a b : View) (come : ℕ → ℕ → Bool) → IsPut a.members b.members come → ends b.edges ≡ ends a.edges → IsStep system a b
members_step system a b come p same =
    step_of system a b come p (λ u v h. subst (λ (es : List (List ℕ)). Contains (row es u) v) (sym same) h) (λ u v h. inl (subst (λ (es : List (List ℕ)). Contains (row es u) v) same h))

pub members_sound : (system : ConstraintSystem) (m : MemberRows) (a : View) (come : ℕ → ℕ → Bool) → IsSound system a → AreMembers m → IsPut a.members m come → ((u q : ℕ) → come u q ≡ true → Derived system (item.Member (record { node = u; member = q })))
    → IsSound system (record a { members = m })
members_sound system m a come k members p comes = sound_of system a (record a { members = m }) come k members p k.tabled refl (λ u v h. k.derived (item.Edge u v) h) comes

pub halves : (a b : Bool) → (a && b) ≡ true → (a ≡ true) × (b ≡ true)
halves true b e = (refl, e)
halves false b e = absurd cc

same_number : (u : ℕ) → nat_eq u u ≡ true
same_number u = let is : u ≡ u = refl in grind (arith, nat_tests, is)

pub both_true : (a b : Bool) → a ≡ true → b ≡ true → (a && b) ≡ true
both_true true b e f = f
both_true false b e f = absurd cc

-- one member
pub one_comes : (system : ConstraintSystem) (f : Fact) → Derived system (item.Member f) → (u q : ℕ) → (nat_eq u f.node && nat_eq q f.member) ≡ true → Derived system (item.Member (record { node = u; member = q }))
one_comes system f d u q e =
    let h = halves (nat_eq u f.node) (nat_eq q f.member) e in
    subst (λ (x : ℕ). Derived system (item.Member (record { node = x; member = q }))) (sym (eqb-true u f.node h.0))
    (subst (λ (y : ℕ). Derived system (item.Member (record { node = f.node; member = y }))) (sym (eqb-true q f.member h.1)) d)

pub one_there : (a b : MemberRows) (f : Fact) → IsPut a b (λ u q. nat_eq u f.node && nat_eq q f.member) → has b.known f.node f.member ≡ true
one_there a b f p = known_comes a b _ f.node f.member p (both_true (nat_eq f.node f.node) (nat_eq f.member f.member) (same_number f.node) (same_number f.member))

-- those of a row
pub row_comes : (system : ConstraintSystem) (to : ℕ) (bits : List Bool) → ((q : ℕ) → is_at bits q ≡ true → Derived system (item.Member (record { node = to; member = q })))
    → (u q : ℕ) → (nat_eq u to && is_at bits q) ≡ true → Derived system (item.Member (record { node = u; member = q }))
row_comes system to bits d u q e =
    let h = halves (nat_eq u to) (is_at bits q) e in
    subst (λ (x : ℕ). Derived system (item.Member (record { node = x; member = q }))) (sym (eqb-true u to h.0)) (d q h.1)

pub row_there : (a b : MemberRows) (to : ℕ) (bits : List Bool) → IsPut a b (λ u q. nat_eq u to && is_at bits q) → (q : ℕ) → is_at bits q ≡ true → has b.known to q ≡ true
row_there a b to bits p q h = known_comes a b _ to q p (both_true (nat_eq to to) (is_at bits q) (same_number to) h)

-- An edge, along which all goes that is known.

pub edge_step : (system : ConstraintSystem) (a b : View) (from to : ℕ) → Pushed from to (ends a.edges) (ends b.edges) → IsPut a.members b.members (λ u q. nat_eq u to && has a.members.known from q) → IsStep system a b
edge_step system a b from to pushed p = step_of system a b _ p (λ u v h. longer_has (ends a.edges) (ends b.edges) u v pushed.longer h) (λ u v h. only u v (pushed.only u v h))
  where
    only : (u v : ℕ) → Contains (row (ends a.edges) u) v ⊎ ((u ≡ from) × (v ≡ to)) → Contains (row (ends a.edges) u) v ⊎ ((q : ℕ) → has a.members.known u q ≡ true → has b.members.known v q ≡ true)
    only u v (inl h) = inl h
    only u v (inr e) = inr (λ q h. ap (λ (x : ℕ). has b.members.known x q) e.1 ∙ row_there a.members b.members to (row a.members.known from) p q (ap (λ (x : ℕ). has a.members.known x q) (sym e.0) ∙ h))

pub edge_sound : (system : ConstraintSystem) (a b : View) (from to : ℕ) → IsSound system a → Derived system (item.Edge from to) → AreTabled b.edges → AreMembers b.members → Pushed from to (ends a.edges) (ends b.edges)
    → IsPut a.members b.members (λ u q. nat_eq u to && has a.members.known from q) → IsSound system b
edge_sound system a b from to k d tabled members pushed p =
    sound_of system a b _ k members p tabled pushed.height (λ u v h. edge u v (pushed.only u v h))
    (row_comes system to (row a.members.known from) (λ q h. along from to q d (k.derived (item.Member (record { node = from; member = q })) h)))
  where
    edge : (u v : ℕ) → Contains (row (ends a.edges) u) v ⊎ ((u ≡ from) × (v ≡ to)) → Derived system (item.Edge u v)
    edge u v (inl h) = k.derived (item.Edge u v) h
    edge u v (inr e) = subst (λ (x : ℕ). Derived system (item.Edge x v)) (sym e.0) (subst (λ (y : ℕ). Derived system (item.Edge from y)) (sym e.1) d)

pub is_pushed : (from to : ℕ) (b : Bool) (old new : List (List ℕ)) → b ≡ true → HasEdge from to b old new → Pushed from to old new
is_pushed from to true old new e h = h
is_pushed from to false old new e h = absurd cc

pub is_there : (from to : ℕ) (b : Bool) (old new : List (List ℕ)) → b ≡ false → HasEdge from to b old new → (new ≡ old) × Contains (row old from) to
is_there from to true old new e h = absurd cc
is_there from to false old new e h = h

-- the edges are the same
pub edges_step : (system : ConstraintSystem) (a : View) (edges : Edges) → ends edges ≡ ends a.edges → IsStep system a (record a { edges = edges })
edges_step system a edges same = members_step system a (record a { edges = edges }) (λ u q. false) (same_put a.members (λ u q. false) (λ u q. refl)) same

pub edges_sound : (system : ConstraintSystem) (a : View) (edges : Edges) → IsSound system a → AreTabled edges → ends edges ≡ ends a.edges → IsSound system (record a { edges = edges })
edges_sound system a edges k tabled same =
    sound_of system a (record a { edges = edges }) (λ u q. false) k k.members (same_put a.members (λ u q. false) (λ u q. refl)) tabled (ap (λ (es : List (List ℕ)). length es) same)
    (λ u v h. k.derived (item.Edge u v) (subst (λ (es : List (List ℕ)). Contains (row es u) v) same h)) (λ u q h. absurd cc)

-- words of a width have room for all below it
pub room_for : (q width words : ℕ) → q < width → words ≡ words_of width → q < 64 * words
room_for q width words less is = let e : words ≡ (width + 63) / 64 = is in omega (arith, less, e)

-- Items one by one.

pub record IsPutting (system : ConstraintSystem) (items : List Item) (index : ℕ) (initial now : View) : Type 0 where
  pub sound : IsSound system now
  pub step : IsStep system initial now
  pub put : (x : Item) → Contains (take index items) x → IsIn now x

lone : {X : Type 0} (x y : X) → Contains (x ∷ []) y → x ≡ y
lone {X} x y (zero, less, e) = e
lone {X} x y (suc i, less, e) = absurd (omega (arith, less))

pub put_next : (system : ConstraintSystem) (items : List Item) (index : ℕ) (d : Item) (a b c : View) → index < length items → IsPutting system items index a b → IsSound system c → IsStep system b c → IsIn c (slice_index_or items index d) → IsPutting system items (index + 1) a c
put_next system items index d a b c less k sound step put = record {
  sound = sound;
  step = then_step system a b c k.step step;
  put = λ y h. by y (Contains-append_cases (take index items) (slice_index_or items index d ∷ []) y (subst (λ (t : List Item). Contains t y) (take_more items index d less) h));
}
  where
    by : (y : Item) → Contains (take index items) y ⊎ Contains (slice_index_or items index d ∷ []) y → IsIn c y
    by y (inl h) = step.grows y (k.put y h)
    by y (inr h) = subst (λ (z : Item). IsIn c z) (lone (slice_index_or items index d) y h) put

-- What the members of a row open, one by one.

pub record IsOpening (system : ConstraintSystem) (n : ℕ) (members : List ℕ) (index : ℕ) (initial now : View) : Type 0 where
  pub sound : IsSound system now
  pub step : IsStep system initial now
  pub put : (q : ℕ) → Contains (take index members) q → (x : Item) → Contains (system.opens (record { node = n; member = q })) x → IsIn now x

pub open_next : (system : ConstraintSystem) (n : ℕ) (members : List ℕ) (index d : ℕ) (a b c : View) → index < length members → IsOpening system n members index a b → IsSound system c → IsStep system b c
    → ((x : Item) → Contains (system.opens (record { node = n; member = slice_index_or members index d })) x → IsIn c x) → IsOpening system n members (index + 1) a c
open_next system n members index d a b c less k sound step all = record {
  sound = sound;
  step = then_step system a b c k.step step;
  put = λ q h. by q (Contains-append_cases (take index members) (slice_index_or members index d ∷ []) q (subst (λ (t : List ℕ). Contains t q) (take_more members index d less) h));
}
  where
    by : (q : ℕ) → Contains (take index members) q ⊎ Contains (slice_index_or members index d ∷ []) q → (x : Item) → Contains (system.opens (record { node = n; member = q })) x → IsIn c x
    by q (inl h) x o = step.grows x (k.put q h x o)
    by q (inr h) x o = all x (subst (λ (y : ℕ). Contains (system.opens (record { node = n; member = y })) x) (sym (lone (slice_index_or members index d) q h)) o)

pub among_at : (xs : List ℕ) (i d : ℕ) → i < length xs → Contains xs (slice_index_or xs i d)
among_at [] i d less = absurd (omega (arith, less))
among_at (x ∷ xs) zero d less = (0, search rules, refl)
among_at (x ∷ xs) (suc i) d less = Contains-append_right (x ∷ []) xs (slice_index_or xs i d) (among_at xs i d (omega (arith, less)))

-- the places of the bits that are set are its members
pub placed : (bits : List Bool) (members : List ℕ) (q : ℕ) → members ≡ places_from 0 bits → is_at bits q ≡ true → Contains members q
placed bits members q e h = subst (λ (t : List ℕ). Contains t q) (sym e) (members_contain (bits ∷ []) 0 q h)

pub unplaced : (bits : List Bool) (members : List ℕ) (q : ℕ) → members ≡ places_from 0 bits → Contains members q → is_at bits q ≡ true
unplaced bits members q e h = members_only (bits ∷ []) 0 q (subst (λ (t : List ℕ). Contains t q) e h)

pub nothing_opened : (system : ConstraintSystem) (g : View) (n : ℕ) (bits : List Bool) → ((q : ℕ) → system.opens (record { node = n; member = q }) ≡ []) → AreOpened system g n bits
nothing_opened system g n bits none q h x o = absurd (let less = (subst (λ (t : List Item). Contains t x) (none q) o).1 in omega (arith, less))

-- A row along edges, one by one.

pub record IsSpreading (system : ConstraintSystem) (n : ℕ) (bits : List Bool) (place : ℕ) (initial now : View) : Type 0 where
  pub sound : IsSound system now
  pub step : IsStep system initial now
  pub edges : ends now.edges ≡ ends initial.edges
  pub gone : (i : ℕ) → i < place → (q : ℕ) → is_at bits q ≡ true → has now.members.known (slice_index (row (ends initial.edges) n) i) q ≡ true

split_below : (i n : ℕ) → i < n + 1 → (i < n) ⊎ (i ≡ n)
split_below zero zero less = inr refl
split_below zero (suc n) less = inl (omega arith)
split_below (suc i) zero less = absurd (omega (arith, less))
split_below (suc i) (suc n) less = by (split_below i n (omega (arith, less)))
  where
    by : (i < n) ⊎ (i ≡ n) → (suc i < suc n) ⊎ (suc i ≡ suc n)
    by (inl h) = inl (omega (arith, h))
    by (inr e) = inr (ap suc e)

pub spread_next : (system : ConstraintSystem) (n : ℕ) (bits : List Bool) (place to : ℕ) (a b c : View) → IsSpreading system n bits place a b → to ≡ slice_index (row (ends a.edges) n) place → IsSound system c → IsStep system b c → ends c.edges ≡ ends b.edges
    → ((q : ℕ) → is_at bits q ≡ true → has c.members.known to q ≡ true) → IsSpreading system n bits (place + 1) a c
spread_next system n bits place to a b c k is sound step edges gone = record {
  sound = sound;
  step = then_step system a b c k.step step;
  edges = edges ∙ k.edges;
  gone = λ i less. by i (split_below i place less);
}
  where
    by : (i : ℕ) → (i < place) ⊎ (i ≡ place) → (q : ℕ) → is_at bits q ≡ true → has c.members.known (slice_index (row (ends a.edges) n) i) q ≡ true
    by i (inl less) q h = step.grows (item.Member (record { node = slice_index (row (ends a.edges) n) i; member = q })) (k.gone i less q h)
    by i (inr e) q h = subst (λ (v : ℕ). has c.members.known v q ≡ true) (is ∙ ap (λ (j : ℕ). slice_index (row (ends a.edges) n) j) (sym e)) (gone q h)

at_contains : (xs : List ℕ) (i : ℕ) → i < length xs → Contains xs (slice_index xs i)
at_contains [] i less = absurd (omega (arith, less))
at_contains (x ∷ xs) zero less = (0, search rules, refl)
at_contains (x ∷ xs) (suc i) less = Contains-append_right (x ∷ []) xs (slice_index xs i) (at_contains xs i (omega (arith, less)))

contains_at : (xs : List ℕ) (q : ℕ) → Contains xs q → (i : ℕ) × (i < length xs) × (slice_index xs i ≡ q)
contains_at [] q h = absurd (omega (arith, h.1))
contains_at (x ∷ xs) q (zero, less, e) = (0, less, e)
contains_at (x ∷ xs) q (suc i, less, e) =
    let below = contains_at xs q (i, omega (arith, less), e) in
    (suc below.0, omega (arith, below.1), below.2)

-- the edge at a place is one of the set's
pub edge_at : (es now : List (List ℕ)) (n i v : ℕ) → now ≡ es → i < length (row es n) → v ≡ slice_index (row now n) i → (v ≡ slice_index (row es n) i) × Contains (row now n) v
edge_at es now n i v same less e =
    let within = subst (λ (t : List (List ℕ)). i < length (row t n)) (sym same) less in
    (e ∙ ap (λ (t : List (List ℕ)). slice_index (row t n) i) same, subst (Contains (row now n)) (sym e) (at_contains (row now n) i within))

pub spread_all : (system : ConstraintSystem) (n : ℕ) (bits : List Bool) (place : ℕ) (a b : View) → IsSpreading system n bits place a b → length (row (ends a.edges) n) ≤ place → IsSpread b n bits
spread_all system n bits place a b k enough v h q on =
    let at = contains_at (row (ends a.edges) n) v (subst (λ (es : List (List ℕ)). Contains (row es n) v) k.edges h) in
    subst (λ (x : ℕ). has b.members.known x q ≡ true) at.2 (k.gone at.0 (omega (arith, at.1, enough)) q on)

-- What is followed is due no more.

pub followed : (system : ConstraintSystem) (g : View) (n : ℕ) (bits : List Bool) → AreOpened system g n bits → IsSpread g n bits → IsClosed system g n bits → IsClosed system g 0 []
followed system g n bits all spread k = record { along = λ u v q e h. along_it u v q e (k.along u v q e h); opened = λ f h. opened_it f (k.opened f h) }
  where
    along_it : (u v q : ℕ) → Contains (row (ends g.edges) u) v → (has g.members.known v q ≡ true) ⊎ IsDue g n bits u q → (has g.members.known v q ≡ true) ⊎ IsDue g 0 [] u q
    along_it u v q e (inl h) = inl h
    along_it u v q e (inr (inl h)) = inr (inl h)
    along_it u v q e (inr (inr h)) = inl (spread v (subst (λ (x : ℕ). Contains (row (ends g.edges) x) v) h.0 e) q h.1)

    opened_it : (f : Fact) → ((x : Item) → Contains (system.opens f) x → IsIn g x) ⊎ IsDue g n bits f.node f.member → ((x : Item) → Contains (system.opens f) x → IsIn g x) ⊎ IsDue g 0 [] f.node f.member
    opened_it f (inl h) = inl h
    opened_it f (inr (inl h)) = inr (inl h)
    opened_it f (inr (inr h)) = inl (subst (λ (u : ℕ). (x : Item) → Contains (system.opens (record { node = u; member = f.member })) x → IsIn g x) (sym h.0) (all f.member h.1))

-- all that is derived is within bounds
pub derived_fits : (system : ConstraintSystem) → IsFit system → (x : Item) → Derived system x → fits system x
derived_fits system k x (begun y h) = k.starts y h
derived_fits system k x (opened f y d h) = k.opened f y h
derived_fits system k x (along u v q e d) =
    ((derived_fits system k (item.Edge u v) e).1, (derived_fits system k (item.Member (record { node = u; member = q })) d).1)
