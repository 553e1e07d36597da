-- The search as a whole.
use Rattle.std.specs.Prelude.{◌≡◌, ◌⊎◌, ℕ, zero, suc, ◌+◌, ◌*◌, ◌/◌, ◌^◌, ◌<◌, ◌≤◌, nat_eq, Bool, true, false, List, [], length, replicate, refl}
use Rattle.std.specs.List.{Contains}
use Rattle.std.proofs.Common.{arith, inl, inr, ap, ◌∙◌, sym, subst, eqb-true}
use Rattle.std.proofs.lemmas.Bool.Decides.{nat_tests}
use Rattle.mh_flow.specs.declared.fixpoint.constraints.Fact.{Fact}
use Rattle.mh_flow.specs.declared.fixpoint.constraints.Item.{Item}
use Rattle.mh_flow.specs.declared.fixpoint.constraints.Item.TheVariants as item
use Rattle.mh_flow.specs.Rows.{row, is_at, has, width_at}
use Rattle.mh_flow.specs.Edging.{ends}
use Rattle.mh_flow.specs.Membership.{MemberRows, AreMembers, IsTaken, words_of}
use Rattle.mh_flow.specs.Membership as membership
use Rattle.mh_flow.specs.Constraints.{ConstraintSystem, Derived}
use Rattle.mh_flow.specs.Gathering.{View, IsBegun, IsIn, IsSound, IsDue, IsClosed, IsKnown}
use Rattle.mh_flow.specs.Sets.{IsLeast}

pub record IsSearching (system : ConstraintSystem) (g : View) : Type 0 where
  pub sound : IsSound system g
  pub starts : (x : Item) → Contains system.starts x → IsIn g x
  pub closed : IsClosed system g 0 []

-- Nothing

length_replicate : {X : Type 0} (n : ℕ) (x : X) → length (replicate n x) ≡ n
length_replicate {X} zero x = refl
length_replicate {X} (suc n) x = ap suc (length_replicate n x)

none_has : (n u q : ℕ) → has (replicate n []) u q ≡ true → false ≡ true
none_has zero u q e = e
none_has (suc n) zero q e = e
none_has (suc n) (suc u) q e = none_has n u q e

no_row : {X : Type 0} (n u : ℕ) (x : X) → Contains (row (replicate n []) u) x → false ≡ true
no_row {X} zero u x h = absurd (omega (arith, h.1))
no_row {X} (suc n) zero x h = absurd (omega (arith, h.1))
no_row {X} (suc n) (suc u) x h = no_row n u x h

no_width : (n u : ℕ) → width_at (replicate n []) u ≡ 0
no_width zero u = refl
no_width (suc n) zero = refl
no_width (suc n) (suc u) = no_width n u

nothing_members : (nodes width : ℕ) → width < 2 ^ 64 → AreMembers (membership.nothing nodes (words_of width))
nothing_members nodes width small = record {
  small = let e : words_of width ≡ (width + 63) / 64 = refl in omega (arith, small, e);
  height = refl;
  known_width = λ u. inl (no_width nodes u);
  fresh_width = λ u. inl (no_width nodes u);
  known = λ u q h. let never = none_has nodes u q h in absurd cc;
  waits = λ u. inl (no_width nodes u);
  within = λ u h. absurd (omega (arith, h.1));
}

unknown : (nodes words : ℕ) (m : MemberRows) (u q : ℕ) → m ≡ membership.nothing nodes words → has m.known u q ≡ true → false ≡ true
unknown nodes words m u q e h = none_has nodes u q (sym (ap (λ (r : MemberRows). has r.known u q) e) ∙ h)

no_edge : (nodes : ℕ) (es : List (List ℕ)) (u v : ℕ) → es ≡ replicate nodes [] → Contains (row es u) v → false ≡ true
no_edge nodes es u v e h = no_row nodes u v (subst (λ (t : List (List ℕ)). Contains (row t u) v) e h)

pub begun_sound : (system : ConstraintSystem) (g : View) → system.width < 2 ^ 64 → IsBegun system.nodes system.width g → IsSound system g
begun_sound system g small b = record {
  members = subst AreMembers (sym b.members) (nothing_members system.nodes system.width small);
  words = ap (λ (m : MemberRows). m.words) b.members;
  height = ap (λ (m : MemberRows). length m.known) b.members ∙ length_replicate system.nodes [];
  edges = ap (λ (es : List (List ℕ)). length es) b.edges ∙ length_replicate system.nodes [];
  tabled = b.tabled;
  derived = derived;
}
  where
    derived : (x : Item) → IsIn g x → Derived system x
    derived (item.Member f) h = let never = unknown system.nodes (words_of system.width) g.members f.node f.member b.members h in absurd cc
    derived (item.Edge u v) h = let never = no_edge system.nodes (ends g.edges) u v b.edges h in absurd cc

pub begun_closed : (system : ConstraintSystem) (g : View) → IsBegun system.nodes system.width g → IsClosed system g 0 []
begun_closed system g b = record {
  along = λ u v q e h. let never = unknown system.nodes (words_of system.width) g.members u q b.members h in absurd cc;
  opened = λ f h. let never = unknown system.nodes (words_of system.width) g.members f.node f.member b.members h in absurd cc;
}

-- One that waits is taken

pub taken_sound : (system : ConstraintSystem) (g : View) (m : MemberRows) (n : ℕ) (bits : List Bool) → IsTaken n bits g.members m → IsSound system g → IsSound system (record g { members = m })
taken_sound system g m n bits t k = record {
  members = t.members;
  words = t.words ∙ k.words;
  height = t.height ∙ k.height;
  edges = k.edges;
  tabled = k.tabled;
  derived = derived;
}
  where
    derived : (x : Item) → IsIn (record g { members = m }) x → Derived system x
    derived (item.Member f) h = k.derived (item.Member f) (sym (ap (λ (rows : List (List Bool)). has rows f.node f.member) t.known) ∙ h)
    derived (item.Edge u v) h = k.derived (item.Edge u v) h

pub taken_known : (system : ConstraintSystem) (g : View) (m : MemberRows) (n : ℕ) (bits : List Bool) → IsTaken n bits g.members m → IsSound system g → IsKnown (record g { members = m }) n bits
taken_known system g m n bits t k = (wide (k.members.fresh_width n), λ q h. ap (λ (rows : List (List Bool)). has rows n q) t.known ∙ k.members.known n q (ap (λ (bs : List Bool). is_at bs q) (sym t.found) ∙ h))
  where
    long : length bits ≡ width_at g.members.fresh n
    long = ap (λ (bs : List Bool). length bs) t.found

    wide : (width_at g.members.fresh n ≡ 0) ⊎ (width_at g.members.fresh n ≡ 64 * g.members.words) → length bits ≤ 64 * m.words
    wide (inl e) = omega (arith, long, e)
    wide (inr e) = omega (arith, long, e, t.words)

pub taken_within : (system : ConstraintSystem) (g : View) (m : MemberRows) (n : ℕ) (bits : List Bool) → IsTaken n bits g.members m → IsSound system g → n < system.nodes
taken_within system g m n bits t k = subst (λ (x : ℕ). n < x) k.height t.within

pub taken_in : (g : View) (m : MemberRows) (n : ℕ) (bits : List Bool) → IsTaken n bits g.members m → (x : Item) → IsIn g x → IsIn (record g { members = m }) x
taken_in g m n bits t (item.Member f) h = ap (λ (rows : List (List Bool)). has rows f.node f.member) t.known ∙ h
taken_in g m n bits t (item.Edge u v) h = h

pub taken_closed : (system : ConstraintSystem) (g : View) (m : MemberRows) (n : ℕ) (bits : List Bool) → IsTaken n bits g.members m → IsClosed system g 0 [] → IsClosed system (record g { members = m }) n bits
taken_closed system g m n bits t k = record {
  along = λ u v q e h. along_it u v q (k.along u v q e (before u q h));
  opened = λ f h. opened_it f (k.opened f (before f.node f.member h));
}
  where
    before : (u q : ℕ) → has m.known u q ≡ true → has g.members.known u q ≡ true
    before u q h = sym (ap (λ (rows : List (List Bool)). has rows u q) t.known) ∙ h

    fresh : (u q : ℕ) → (b : Bool) → nat_eq u n ≡ b → has g.members.fresh u q ≡ true → IsDue (record g { members = m }) n bits u q
    fresh u q true e h =
        let is : u ≡ n = eqb-true u n e in
        inr (is, ap (λ (bs : List Bool). is_at bs q) t.found ∙ sym (ap (λ (x : ℕ). has g.members.fresh x q) is) ∙ h)
    fresh u q false e h = inl (ap (λ (bs : List Bool). is_at bs q) (t.others u (λ is. absurd (grind (arith, nat_tests, e, is)))) ∙ h)

    due : (u q : ℕ) → IsDue g 0 [] u q → IsDue (record g { members = m }) n bits u q
    due u q (inl h) = fresh u q (nat_eq u n) refl h
    due u q (inr h) = let never = h.1 in absurd cc

    along_it : (u v q : ℕ) → (has g.members.known v q ≡ true) ⊎ IsDue g 0 [] u q → (has m.known v q ≡ true) ⊎ IsDue (record g { members = m }) n bits u q
    along_it u v q (inl h) = inl (ap (λ (rows : List (List Bool)). has rows v q) t.known ∙ h)
    along_it u v q (inr h) = inr (due u q h)

    opened_it : (f : Fact) → ((x : Item) → Contains (system.opens f) x → IsIn g x) ⊎ IsDue g 0 [] f.node f.member
        → ((x : Item) → Contains (system.opens f) x → IsIn (record g { members = m }) x) ⊎ IsDue (record g { members = m }) n bits f.node f.member
    opened_it f (inl h) = inl (λ x c. taken_in g m n bits t x (h x c))
    opened_it f (inr h) = inr (due f.node f.member h)

-- Nothing waits any more

pub solved : (system : ConstraintSystem) (g : View) → IsSearching system g → ((u q : ℕ) → has g.members.fresh u q ≡ false) → IsLeast system g.members.known
solved system g k none = record {
  edges = ends g.edges;
  height = k.sound.height;
  starts = k.starts;
  opened = λ f h x c. opened f x c (k.closed.opened f h);
  along = λ u v q edge h. along u v q (k.closed.along u v q edge h);
  derived = k.sound.derived;
}
  where
    never : (u q : ℕ) → IsDue g 0 [] u q → false ≡ true
    never u q (inl h) = sym (none u q) ∙ h
    never u q (inr h) = h.1

    opened : (f : Fact) (x : Item) → Contains (system.opens f) x → ((y : Item) → Contains (system.opens f) y → IsIn g y) ⊎ IsDue g 0 [] f.node f.member → IsIn g x
    opened f x c (inl all) = all x c
    opened f x c (inr due) = let n = never f.node f.member due in absurd cc

    along : (u v q : ℕ) → (has g.members.known v q ≡ true) ⊎ IsDue g 0 [] u q → has g.members.known v q ≡ true
    along u v q (inl h) = h
    along u v q (inr due) = let n = never u q due in absurd cc
