-- What is wrong where a variable refers to it alone is what is wrong through that variable where it may refer to more; so the
-- candidates of a refusal are just those references that are wrong where it says.
use Rattle.std.proofs.Common.{◌≡◌, ◌⊎◌, inl, inr, ℕ, Bool, true, false, ◌&&◌, ◌||◌, cond, List, [], ◌∷◌, ◌++◌, filter, map, Option, Some, None, refl, sym, ap, ◌∙◌, subst}
use Rattle.std.specs.List.{Contains, flat_map, list_any}
use Rattle.std.specs.Option.{is_some, option_map, option_to_list}
use Rattle.std.proofs.lemmas.Bool.Decides.{Decides-eqb}
use Rattle.std.proofs.lemmas.Slice.Eq.{bytes_eq-Decides}
use Rattle.std.proofs.lemmas.List.Elements.{Contains-append_left, Contains-append_right, Contains-append_cases, filter-append}
use Rattle.std.proofs.lemmas.List.Concat.{flat_map-append}
use Rattle.mh_base.specs.declared.obj_ref.ObjRef.{ObjRef}
use Rattle.mh_group.specs.Table.{is_list_group, is_visible}
use Rattle.mh_model.specs.declared.fault.Reason.{Reason}
use Rattle.mh_model.specs.declared.fault.Reason.TheVariants as reason
use Rattle.mh_model.specs.declared.object.Fixed.{Fixed}
use Rattle.mh_model.specs.Configuration.{present}
use Rattle.mh_model.specs.Faults.{Ranking, Wrong, is_named, least, object_wrongs, rank_of, unless, wrongs}
use Rattle.mh_model.specs.Known.{class_at}
use Rattle.mh_model.specs.Reference.{same_key, same_ref}
use Rattle.mh_model.specs.Service.{Service}
use Rattle.mh_model.specs.Tokens.{members}
use Rattle.mh_model.proofs.ListLemmas.{some_same}
use Rattle.mh_laws.specs.Active.{item_wrongs, known_with, member_wrongs}
use Rattle.mh_laws.specs.Flow.{Flow, Sets}
use Rattle.mh_flow.specs.Sites.{Site, sites_of}
use Rattle.mh_flow.proofs.ContainsLemmas.{both, halves, no_member, here, behind, first_or_behind, in_joined, joined_from}
use Rattle.mh_verify.specs.declared.refusal.Found.{Found}
use Rattle.mh_verify.specs.declared.refusal.Place.{Place}
use Rattle.mh_verify.specs.declared.refusal.RefusalKind.{RefusalKind}
use Rattle.mh_verify.specs.declared.refusal.RefusalKind.TheVariants as kind
use Rattle.mh_verify.specs.Held.{is_object_reason}
use Rattle.mh_verify.specs.Kinds.{kind_of, reason_number}
use Rattle.mh_verify.specs.Naming.{AreCandidates, IsWrongToo, absent_held, alone, candidates_at, candidates_from, candidates_in, candidates_of_parts, candidates_of_sites, candidates_through, class_held, is_at, is_part_at, is_site_at, is_wrong_alone, is_wrong_item, wrongs_at}
use Rattle.mh_verify.specs.Order.{IsFirst}
use Rattle.mh_verify.specs.Refusals.{found_at, found_of_part, kind_for, part_refused, part_wrongs, refusals_of_effects, refusals_of_members, wrong_at}
use Rattle.mh_verify.proofs.CarriedLemmas.{carried}

-- Keys and places

key_is : (a b : ObjRef) → same_key a b ≡ true → a ≡ b
key_is a b h =
    let two = halves _ _ h in
    let n : a.number ≡ b.number = (Decides-eqb a.number b.number).0 two.0 in
    let g : a.group ≡ b.group = (bytes_eq-Decides a.group b.group).0 two.1 in
    λ i. record { number = n i; group = g i }

pub key_itself : (a : ObjRef) → same_key a a ≡ true
key_itself a = both _ _ ((Decides-eqb a.number a.number).1 refl) ((bytes_eq-Decides a.group a.group).1 refl)

ref_itself : (a : ObjRef) → same_ref a a ≡ true
ref_itself a = both _ _ ((bytes_eq-Decides a.group a.group).1 refl) ((Decides-eqb a.number a.number).1 refl)

pub at_itself : (r : ObjRef) (n : ℕ) → is_at (record { group = r.group; object = r.number; index = n }) r n ≡ true
at_itself r n =
    both _ _ (both _ _ ((bytes_eq-Decides r.group r.group).1 refl) ((Decides-eqb r.number r.number).1 refl)) ((Decides-eqb n n).1 refl)

-- Lists

in_filter : {X : Type 0} (p : X → Bool) (xs : List X) (x : X) → Contains xs x → p x ≡ true → Contains (filter p xs) x
in_filter p [] x m e = absurd (no_member x m)
in_filter {X} p (y ∷ xs) x m e = by (first_or_behind y xs x m) (p y) refl (λ k. in_filter p xs x k e)
  where
    by : (y ≡ x) ⊎ Contains xs x → (b : Bool) → p y ≡ b → (Contains xs x → Contains (filter p xs) x) → Contains (cond b (y ∷ filter p xs) (filter p xs)) x
    by (inl same) true is ih = subst (λ (z : X). Contains (y ∷ filter p xs) z) same (here y (filter p xs))
    by (inl same) false is ih = absurd cc
    by (inr k) true is ih = behind y (filter p xs) x (ih k)
    by (inr k) false is ih = ih k

from_filter : {X : Type 0} (p : X → Bool) (xs : List X) (x : X) → Contains (filter p xs) x → Contains xs x × (p x ≡ true)
from_filter p [] x m = absurd (no_member x m)
from_filter {X} p (y ∷ xs) x m = by (p y) refl m (λ k. from_filter p xs x k)
  where
    by : (b : Bool) → p y ≡ b → Contains (cond b (y ∷ filter p xs) (filter p xs)) x → (Contains (filter p xs) x → Contains xs x × (p x ≡ true)) → Contains (y ∷ xs) x × (p x ≡ true)
    by true is m ih = elim (first_or_behind y (filter p xs) x m) [
      | inl same ↦ (subst (λ (z : X). Contains (y ∷ xs) z) same (here y xs), subst (λ (z : X). p z ≡ true) same is)
      | inr k ↦ let two = ih k in (behind y xs x two.0, two.1)
    ]
    by false is m ih = let two = ih m in (behind y xs x two.0, two.1)

has_of : (qs : List ObjRef) (q : ObjRef) → Contains qs q → list_any (same_ref q) qs ≡ true
has_of [] q m = absurd (no_member q m)
has_of (r ∷ qs) q m = elim (first_or_behind r qs q m) [
  | inl same ↦ subst (λ (x : ObjRef). (same_ref q x || list_any (same_ref q) qs) ≡ true) (sym same) (ap (λ (b : Bool). b || list_any (same_ref q) qs) (ref_itself q))
  | inr k ↦ or_right (same_ref q r) (list_any (same_ref q) qs) (has_of qs q k)
]
  where
    or_right : (a b : Bool) → b ≡ true → (a || b) ≡ true
    or_right true b e = refl
    or_right false b e = e

-- those of two lists of objects
pub parts_joined : (order : Ranking) (ps : List Fixed) (h : Sets) (v : ObjRef) (p : Place) (qs rs : List Fixed) → candidates_of_parts order ps h v p (qs ++ rs) ≡ candidates_of_parts order ps h v p qs ++ candidates_of_parts order ps h v p rs
parts_joined order ps h v p qs rs =
    ap (flat_map (candidates_in order ps h v)) (filter-append (is_part_at p) qs rs)
    ∙ flat_map-append (candidates_in order ps h v) (filter (is_part_at p) qs) (filter (is_part_at p) rs)

-- What is named of several is one of them, and has a rank; and something is named where one has a rank.

one_or_first : (rank : Ranking) (b u : Wrong) (ws : List Wrong) → least rank (Some b) ws ≡ Some u → (b ≡ u) ⊎ Contains ws u
one_or_first rank b u [] e = inl (some_same e)
one_or_first rank b u (w ∷ ws) e = by (is_named rank (Some b) (rank_of rank w)) (one_or_first rank w u ws) (one_or_first rank b u ws) e
  where
    by : (t : Bool) → (least rank (Some w) ws ≡ Some u → (w ≡ u) ⊎ Contains ws u) → (least rank (Some b) ws ≡ Some u → (b ≡ u) ⊎ Contains ws u) → least rank (cond t (Some w) (Some b)) ws ≡ Some u → (b ≡ u) ⊎ Contains (w ∷ ws) u
    by true new old e = inr (elim (new e) [ inl same ↦ subst (λ (z : Wrong). Contains (w ∷ ws) z) same (here w ws) | inr m ↦ behind w ws u m ])
    by false new old e = elim (old e) [ inl same ↦ inl same | inr m ↦ inr (behind w ws u m) ]

-- the rank of what is named
ranked_first : (rank : Ranking) (b u : Wrong) (ws : List Wrong) → is_some (rank_of rank b) ≡ true → least rank (Some b) ws ≡ Some u → is_some (rank_of rank u) ≡ true
ranked_first rank b u [] k e = subst (λ (z : Wrong). is_some (rank_of rank z) ≡ true) (some_same e) k
ranked_first rank b u (w ∷ ws) k e = by (rank_of rank w) refl (ranked_first rank w u ws) (ranked_first rank b u ws k) e
  where
    by : (o : Option ℕ) → rank_of rank w ≡ o → (is_some (rank_of rank w) ≡ true → least rank (Some w) ws ≡ Some u → is_some (rank_of rank u) ≡ true) → (least rank (Some b) ws ≡ Some u → is_some (rank_of rank u) ≡ true) → least rank (cond (is_named rank (Some b) o) (Some w) (Some b)) ws ≡ Some u → is_some (rank_of rank u) ≡ true
    by None is new old e = old e
    by (Some n) is new old e = by_test (is_named rank (Some b) (Some n)) (new (ap is_some is)) old e
      where
        by_test : (t : Bool) → (least rank (Some w) ws ≡ Some u → is_some (rank_of rank u) ≡ true) → (least rank (Some b) ws ≡ Some u → is_some (rank_of rank u) ≡ true) → least rank (cond t (Some w) (Some b)) ws ≡ Some u → is_some (rank_of rank u) ≡ true
        by_test true new old e = new e
        by_test false new old e = old e

pub record IsNamedOf (rank : Ranking) (ws : List Wrong) (u : Wrong) : Type 0 where
  pub among : Contains ws u
  pub ranked : is_some (rank_of rank u) ≡ true

named_of : (rank : Ranking) (ws : List Wrong) (u : Wrong) → least rank None ws ≡ Some u → IsNamedOf rank ws u
named_of rank [] u e = absurd cc
named_of rank (w ∷ ws) u e = by (rank_of rank w) refl (named_of rank ws u) e
  where
    by : (o : Option ℕ) → rank_of rank w ≡ o → (least rank None ws ≡ Some u → IsNamedOf rank ws u) → least rank (cond (is_named rank None o) (Some w) None) ws ≡ Some u → IsNamedOf rank (w ∷ ws) u
    by None is ih e = let k = ih e in record { among = behind w ws u k.among; ranked = k.ranked }
    by (Some n) is ih e = record {
      among = elim (one_or_first rank w u ws e) [ inl same ↦ subst (λ (z : Wrong). Contains (w ∷ ws) z) same (here w ws) | inr m ↦ behind w ws u m ];
      ranked = ranked_first rank w u ws (ap is_some is) e;
    }

still_some : (rank : Ranking) (b : Wrong) (ws : List Wrong) → is_some (least rank (Some b) ws) ≡ true
still_some rank b [] = refl
still_some rank b (w ∷ ws) = by (is_named rank (Some b) (rank_of rank w)) (still_some rank w ws) (still_some rank b ws)
  where
    by : (t : Bool) → is_some (least rank (Some w) ws) ≡ true → is_some (least rank (Some b) ws) ≡ true → is_some (least rank (cond t (Some w) (Some b)) ws) ≡ true
    by true new old = new
    by false new old = old

some_named : (rank : Ranking) (ws : List Wrong) (u : Wrong) → Contains ws u → is_some (rank_of rank u) ≡ true → is_some (least rank None ws) ≡ true
some_named rank [] u m k = absurd (no_member u m)
some_named rank (w ∷ ws) u m k = by (rank_of rank w) refl (first_or_behind w ws u m) (λ n. some_named rank ws u n k)
  where
    by : (o : Option ℕ) → rank_of rank w ≡ o → (w ≡ u) ⊎ Contains ws u → (Contains ws u → is_some (least rank None ws) ≡ true) → is_some (least rank (cond (is_named rank None o) (Some w) None) ws) ≡ true
    by (Some n) is where_it_is ih = still_some rank w ws
    by None is (inl same) ih = let wrong : is_some (rank_of rank w) ≡ true = subst (λ (z : Wrong). is_some (rank_of rank z) ≡ true) (sym same) k in absurd cc
    by None is (inr n) ih = ih n

some_is : {X : Type 0} (o : Option X) → is_some o ≡ true → (x : X) × (o ≡ Some x)
some_is None e = absurd cc
some_is (Some x) e = (x, refl)

-- A way in which something that is held can be wrong: what has a rank there is refused so, and the other way.
pub record IsWay (order : Ranking) (k : RefusalKind) : Type 0 where
  pub kind : (u : Wrong) → is_some (rank_of order u) ≡ true → kind_for u ≡ k
  pub ranked : (u : Wrong) → kind_for u ≡ k → is_some (rank_of order u) ≡ true
  pub object : (u : Wrong) → kind_for u ≡ k → is_object_reason u.reason ≡ true
  pub held : (u : Wrong) → kind_for u ≡ k → is_some u.through ≡ true

absent_kind : (w : Reason) (b : Bool) → is_some (absent_held w b) ≡ true → kind_of w b ≡ kind.HeldAbsent
absent_kind reason.Absent true e = refl
absent_kind reason.Absent false e = absurd cc
absent_kind reason.WrongClass b e = absurd cc
absent_kind reason.WrongKind b e = absurd cc
absent_kind reason.Misfit b e = absurd cc
absent_kind reason.TimerHeld b e = absurd cc

record IsHeldReason (order : Ranking) (w : Reason) (b : Bool) : Type 0 where
  ranked : is_some (order w b) ≡ true
  object : is_object_reason w ≡ true
  held : b ≡ true

absent_of : (w : Reason) (b : Bool) → kind_of w b ≡ kind.HeldAbsent → IsHeldReason absent_held w b
absent_of reason.Absent true e = record { ranked = refl; object = refl; held = refl }
absent_of reason.Absent false e = absurd cc
absent_of reason.WrongClass true e = absurd cc
absent_of reason.WrongClass false e = absurd cc
absent_of reason.WrongKind b e = absurd cc
absent_of reason.Misfit b e = absurd cc
absent_of reason.TimerHeld b e = absurd cc

pub absent_way : IsWay absent_held kind.HeldAbsent
absent_way = record {
  kind = λ u e. absent_kind u.reason (is_some u.through) e;
  ranked = λ u e. (absent_of u.reason (is_some u.through) e).ranked;
  object = λ u e. (absent_of u.reason (is_some u.through) e).object;
  held = λ u e. (absent_of u.reason (is_some u.through) e).held;
}

class_kind : (w : Reason) (b : Bool) → is_some (class_held w b) ≡ true → kind_of w b ≡ kind.HeldWrongClass
class_kind reason.WrongClass true e = refl
class_kind reason.WrongClass false e = absurd cc
class_kind reason.Absent b e = absurd cc
class_kind reason.WrongKind b e = absurd cc
class_kind reason.Misfit b e = absurd cc
class_kind reason.TimerHeld b e = absurd cc

class_of : (w : Reason) (b : Bool) → kind_of w b ≡ kind.HeldWrongClass → IsHeldReason class_held w b
class_of reason.WrongClass true e = record { ranked = refl; object = refl; held = refl }
class_of reason.WrongClass false e = absurd cc
class_of reason.Absent true e = absurd cc
class_of reason.Absent false e = absurd cc
class_of reason.WrongKind b e = absurd cc
class_of reason.Misfit b e = absurd cc
class_of reason.TimerHeld b e = absurd cc

pub class_way : IsWay class_held kind.HeldWrongClass
class_way = record {
  kind = λ u e. class_kind u.reason (is_some u.through) e;
  ranked = λ u e. (class_of u.reason (is_some u.through) e).ranked;
  object = λ u e. (class_of u.reason (is_some u.through) e).object;
  held = λ u e. (class_of u.reason (is_some u.through) e).held;
}

-- What was found stands at its place.

found_in_effects : (s : Service) (w : Flow) (x : Found) → Contains (refusals_of_effects s w x.config) x → IsWrongToo s w x x.object
found_in_effects s w x m =
    let ps = present s x.config in
    let h = w.sets x.config in
    let from = joined_from (wrong_at s ps h x.config) (sites_of ps) x m in
    by from.0 from.1 (least reason_number None (wrongs (known_with s ps h) from.0.act)) refl from.2
  where
    ps : List Fixed
    ps = present s x.config

    h : Sets
    h = w.sets x.config

    by : (y : Site) → Contains (sites_of ps) y → (o : Option Wrong) → least reason_number None (wrongs (known_with s ps h) y.act) ≡ o → Contains (option_to_list (option_map (found_at x.config y) o)) x → IsWrongToo s w x x.object
    by y there None e m = absurd (no_member x m)
    by y there (Some u) e m = elim (first_or_behind (found_at x.config y u) [] x m) [
      | inl same ↦
          let k = named_of reason_number (wrongs (known_with s ps h) y.act) u e in
          let at : is_site_at x.place y ≡ true = subst (λ (z : Found). is_site_at z.place y ≡ true) same (at_itself y.key y.index) in
          record {
            wrong = u;
            among = Contains-append_right (flat_map (part_wrongs ps h) (filter (is_part_at x.place) ps)) (flat_map (λ (z : Site). wrongs (known_with s ps h) z.act) (filter (is_site_at x.place) (sites_of ps))) u
                (in_joined (λ (z : Site). wrongs (known_with s ps h) z.act) (filter (is_site_at x.place) (sites_of ps)) y u (in_filter (is_site_at x.place) (sites_of ps) y there at) k.among);
            kind = ap (λ (z : Found). z.kind) same;
            through = ap (λ (z : Found). z.through) same;
            reference = ap (λ (z : Found). z.object) same;
          }
      | inr none ↦ absurd (no_member x none)
    ]

mapped_from : {X Y : Type 0} (f : X → Y) (xs : List X) (y : Y) → Contains (map f xs) y → (x : X) × Contains xs x × (f x ≡ y)
mapped_from f [] y m = absurd (no_member y m)
mapped_from f (x ∷ xs) y m = elim (first_or_behind (f x) (map f xs) y m) [
  | inl same ↦ (x, here x xs, same)
  | inr k ↦ let found = mapped_from f xs y k in (found.0, behind x xs found.0 found.1, found.2)
]

found_in_members : (s : Service) (w : Flow) (x : Found) → Contains (refusals_of_members s w x.config) x → IsWrongToo s w x x.object
found_in_members s w x m =
    let ps = present s x.config in
    let h = w.sets x.config in
    let from = joined_from (part_refused ps h x.config) ps x m in
    let p = from.0 in
    let one = mapped_from (found_of_part x.config p.key) (part_wrongs ps h p) x from.2 in
    let at : is_part_at x.place p ≡ true = subst (λ (z : Found). is_part_at z.place p ≡ true) one.2 (at_itself p.key 0) in
    record {
      wrong = one.0;
      among = Contains-append_left (flat_map (part_wrongs ps h) (filter (is_part_at x.place) ps)) (flat_map (λ (z : Site). wrongs (known_with s ps h) z.act) (filter (is_site_at x.place) (sites_of ps))) one.0
          (in_joined (part_wrongs ps h) (filter (is_part_at x.place) ps) p one.0 (in_filter (is_part_at x.place) ps p from.1 at) one.1);
      kind = ap (λ (z : Found). z.kind) one.2;
      through = ap (λ (z : Found). z.through) one.2;
      reference = ap (λ (z : Found). z.object) one.2;
    }

pub found_there : (s : Service) (w : Flow) (x : Found) → IsFirst s w x → IsWrongToo s w x x.object
found_there s w x first =
    elim (Contains-append_cases (refusals_of_members s w x.config) (refusals_of_effects s w x.config) x first.stands) [
      | inl m ↦ found_in_members s w x m
      | inr m ↦ found_in_effects s w x m
    ]

-- Candidates are wrong, and may be held

record IsOne (s : Service) (ps : List Fixed) (h : Sets) (order : Ranking) (p : Place) (v q : ObjRef) : Type 0 where
  wrong : Wrong
  among : Contains (wrongs_at s ps h p) wrong
  ranked : is_some (rank_of order wrong) ≡ true
  through : wrong.through ≡ Some v
  reference : wrong.at ≡ q
  held : Contains (h v) q

-- an item that is wrong
item_of : (order : Ranking) (ps : List Fixed) (r q : ObjRef) → is_wrong_item order ps r q ≡ true → (u : Wrong) × IsNamedOf order (item_wrongs ps r q) u
item_of order ps r q e =
    let one = some_is (least order None (item_wrongs ps r q)) e in
    (one.0, named_of order (item_wrongs ps r q) one.0 one.1)

of_unless : (b : Bool) (w : Reason) (v : Option ObjRef) (r : ObjRef) (u : Wrong) → Contains (unless b w v r) u → (u.through ≡ v) × (u.at ≡ r)
of_unless true w v r u m = absurd (no_member u m)
of_unless false w v r u m = elim (first_or_behind _ [] u m) [
  | inl same ↦ (sym (ap (λ (z : Wrong). z.through) same), sym (ap (λ (z : Wrong). z.at) same))
  | inr none ↦ absurd (no_member u none)
]

pub of_object : (ps : List Fixed) (v : Option ObjRef) (q : ObjRef) (u : Wrong) → Contains (object_wrongs is_visible v q (class_at q ps)) u → (u.through ≡ v) × (u.at ≡ q)
of_object ps v q u m = by (class_at q ps) m
  where
    by : (o : Option _) → Contains (object_wrongs is_visible v q o) u → (u.through ≡ v) × (u.at ≡ q)
    by None m = of_unless false reason.Absent v q u m
    by (Some c) m = of_unless (is_visible c) reason.WrongClass v q u m

one_of_parts : (s : Service) (ps : List Fixed) (h : Sets) (order : Ranking) (p : Place) (v q : ObjRef) → Contains (candidates_of_parts order ps h v p ps) q → IsOne s ps h order p v q
one_of_parts s ps h order p v q m =
    let from = joined_from (candidates_in order ps h v) (filter (is_part_at p) ps) q m in
    by from.0 from.1 (is_list_group from.0.class) refl (same_key from.0.key v) refl from.2
  where
    by : (x : Fixed) → Contains (filter (is_part_at p) ps) x → (b : Bool) → is_list_group x.class ≡ b → (t : Bool) → same_key x.key v ≡ t → Contains (cond (b && t) (candidates_from order ps h v) []) q → IsOne s ps h order p v q
    by x there true list true same m =
        let two = from_filter (is_wrong_item order ps v) (h v) q m in
        let one = item_of order ps v q two.1 in
        let is = of_object ps (Some v) q one.0 one.1.among in
        let key : x.key ≡ v = key_is x.key v same in
        let all : part_wrongs ps h x ≡ flat_map (item_wrongs ps v) (h v) =
        ap (λ (b : Bool). cond b (flat_map (item_wrongs ps x.key) (h x.key)) (flat_map (member_wrongs ps) (members x))) list
        ∙ ap (λ (r : ObjRef). flat_map (item_wrongs ps r) (h r)) key in
        record {
          wrong = one.0;
          among = Contains-append_left (flat_map (part_wrongs ps h) (filter (is_part_at p) ps)) (flat_map (λ (z : Site). wrongs (known_with s ps h) z.act) (filter (is_site_at p) (sites_of ps))) one.0
              (in_joined (part_wrongs ps h) (filter (is_part_at p) ps) x one.0 there
              (subst (λ (ws : List Wrong). Contains ws one.0) (sym all) (in_joined (item_wrongs ps v) (h v) q one.0 two.0 one.1.among)));
          ranked = one.1.ranked;
          through = is.0;
          reference = is.1;
          held = two.0;
        }
    by x there true list false same m = absurd (no_member q m)
    by x there false list t same m = absurd (no_member q m)

-- where one variable refers to one object, that is what it refers to
alone_is : (v q r x : ObjRef) → Contains (alone v q r) x → (r ≡ v) × (q ≡ x)
alone_is v q r x m = by (same_key r v) refl m
  where
    by : (b : Bool) → same_key r v ≡ b → Contains (cond b (q ∷ []) []) x → (r ≡ v) × (q ≡ x)
    by true e m = (key_is r v e, elim (first_or_behind q [] x m) [ inl same ↦ same | inr none ↦ absurd (no_member x none) ])
    by false e m = absurd (no_member x m)

alone_has : (v q : ObjRef) → Contains (alone v q v) q
alone_has v q = subst (λ (b : Bool). Contains (cond b (q ∷ []) []) q) (sym (key_itself v)) (here q [])

one_of_sites : (s : Service) (ps : List Fixed) (h : Sets) (order : Ranking) (k : RefusalKind) → IsWay order k → (p : Place) (v q : ObjRef) → Contains (candidates_of_sites order s ps h v p (sites_of ps)) q → IsOne s ps h order p v q
one_of_sites s ps h order k way p v q m =
    let from = joined_from (λ (z : Site). candidates_through order s ps h v z.act) (filter (is_site_at p) (sites_of ps)) q m in
    let y = from.0 in
    let two = from_filter (is_wrong_alone order s ps y.act v) (h v) q from.2 in
    let some = some_is (least order None (wrongs (known_with s ps (alone v q)) y.act)) two.1 in
    let u = some.0 in
    let named = named_of order (wrongs (known_with s ps (alone v q)) y.act) u some.1 in
    let refused = way.kind u named.ranked in
    let through = some_is u.through (way.held u refused) in
    let k = carried s ps (alone v q) y.act u through.0 named.among (way.object u refused) through.1 in
    let is = alone_is v q through.0 u.at k.among in
    let held : Contains (h through.0) u.at = subst (λ (r : ObjRef). Contains (h r) u.at) (sym is.0) (subst (λ (r : ObjRef). Contains (h v) r) is.1 two.0) in
    record {
      wrong = u;
      among = Contains-append_right (flat_map (part_wrongs ps h) (filter (is_part_at p) ps)) (flat_map (λ (z : Site). wrongs (known_with s ps h) z.act) (filter (is_site_at p) (sites_of ps))) u
          (in_joined (λ (z : Site). wrongs (known_with s ps h) z.act) (filter (is_site_at p) (sites_of ps)) y u from.1 (k.alike h held));
      ranked = named.ranked;
      through = through.1 ∙ ap (λ (r : ObjRef). Some r) is.0;
      reference = sym is.1;
      held = two.0;
    }

one_of : (s : Service) (ps : List Fixed) (h : Sets) (order : Ranking) (k : RefusalKind) → IsWay order k → (p : Place) (v q : ObjRef) → Contains (candidates_at order s ps h v p) q → IsOne s ps h order p v q
one_of s ps h order k way p v q m =
    elim (Contains-append_cases (candidates_of_parts order ps h v p ps) (candidates_of_sites order s ps h v p (sites_of ps)) q m) [
      | inl n ↦ one_of_parts s ps h order p v q n
      | inr n ↦ one_of_sites s ps h order k way p v q n
    ]

-- Whatever is wrong is a candidate

in_parts : (s : Service) (ps : List Fixed) (h : Sets) (order : Ranking) (p : Place) (v : ObjRef) (u : Wrong) → is_some (rank_of order u) ≡ true → u.through ≡ Some v → Contains (flat_map (part_wrongs ps h) (filter (is_part_at p) ps)) u → Contains (candidates_of_parts order ps h v p ps) u.at
in_parts s ps h order p v u ranked through m =
    let from = joined_from (part_wrongs ps h) (filter (is_part_at p) ps) u m in
    in_joined (candidates_in order ps h v) (filter (is_part_at p) ps) from.0 u.at from.1 (by from.0 (is_list_group from.0.class) refl from.2)
  where
    by : (x : Fixed) (b : Bool) → is_list_group x.class ≡ b → Contains (cond b (flat_map (item_wrongs ps x.key) (h x.key)) (flat_map (member_wrongs ps) (members x))) u → Contains (cond (b && same_key x.key v) (candidates_from order ps h v) []) u.at
    by x true list m =
        let item = joined_from (item_wrongs ps x.key) (h x.key) u m in
        let is = of_object ps (Some x.key) item.0 u item.2 in
        let key : x.key ≡ v = some_same (sym is.0 ∙ through) in
        let here_it_is : Contains (h v) u.at = subst (λ (r : ObjRef). Contains (h r) u.at) key (subst (λ (r : ObjRef). Contains (h x.key) r) (sym is.1) item.1) in
        let wrong : Contains (item_wrongs ps v u.at) u = subst (λ (r : ObjRef). Contains (item_wrongs ps r u.at) u) key (subst (λ (r : ObjRef). Contains (item_wrongs ps x.key r) u) (sym is.1) item.2) in
        subst (λ (t : Bool). Contains (cond t (candidates_from order ps h v) []) u.at) (sym (ap (λ (r : ObjRef). same_key r v) key ∙ key_itself v))
        (in_filter (is_wrong_item order ps v) (h v) u.at here_it_is (some_named order (item_wrongs ps v u.at) u wrong ranked))
    by x false list m =
        let member = joined_from (member_wrongs ps) (members x) u m in
        let is = of_object ps None member.0.object u member.2 in
        let none : None ≡ Some v = sym is.0 ∙ through in
        absurd cc

in_sites : (s : Service) (ps : List Fixed) (h : Sets) (order : Ranking) (p : Place) (v : ObjRef) (u : Wrong) → is_some (rank_of order u) ≡ true → is_object_reason u.reason ≡ true → u.through ≡ Some v → Contains (flat_map (λ (z : Site). wrongs (known_with s ps h) z.act) (filter (is_site_at p) (sites_of ps))) u → Contains (candidates_of_sites order s ps h v p (sites_of ps)) u.at
in_sites s ps h order p v u ranked object through m =
    let from = joined_from (λ (z : Site). wrongs (known_with s ps h) z.act) (filter (is_site_at p) (sites_of ps)) u m in
    let k = carried s ps h from.0.act u v from.2 object through in
    in_joined (λ (z : Site). candidates_through order s ps h v z.act) (filter (is_site_at p) (sites_of ps)) from.0 u.at from.1
    (in_filter (is_wrong_alone order s ps from.0.act v) (h v) u.at k.among
    (some_named order (wrongs (known_with s ps (alone v u.at)) from.0.act) u (k.alike (alone v u.at) (alone_has v u.at)) ranked))

-- The candidates of what was found

pub are_candidates : (s : Service) (w : Flow) (x : Found) (order : Ranking) (k : RefusalKind) → IsWay order k → x.kind ≡ k → IsFirst s w x → AreCandidates order s w x
are_candidates s w x order k way is first =
    let found = found_there s w x first in
    let holder = some_is found.wrong.through (way.held found.wrong (found.kind ∙ is)) in
    let through : x.through ≡ Some holder.0 = sym found.through ∙ holder.1 in
    let v = holder.0 in
    let ps = present s x.config in
    let h = w.sets x.config in
    record {
      holder = v;
      through = through;
      each = λ q m.
          let one = one_of s ps h order k way x.place v q m in
          record {
            wrong = one.wrong;
            among = one.among;
            kind = way.kind one.wrong one.ranked ∙ sym is;
            through = one.through ∙ sym through;
            reference = one.reference;
          };
      all = λ q too.
          let u = too.wrong in
          let ranked = way.ranked u (too.kind ∙ is) in
          let object = way.object u (too.kind ∙ is) in
          let held : u.through ≡ Some v = too.through ∙ through in
          subst (λ (r : ObjRef). Contains (candidates_at order s ps h v x.place) r) too.reference
          (elim (Contains-append_cases (flat_map (part_wrongs ps h) (filter (is_part_at x.place) ps)) (flat_map (λ (z : Site). wrongs (known_with s ps h) z.act) (filter (is_site_at x.place) (sites_of ps))) u too.among) [
            | inl m ↦ Contains-append_left (candidates_of_parts order ps h v x.place ps) (candidates_of_sites order s ps h v x.place (sites_of ps)) u.at (in_parts s ps h order x.place v u ranked held m)
            | inr m ↦ Contains-append_right (candidates_of_parts order ps h v x.place ps) (candidates_of_sites order s ps h v x.place (sites_of ps)) u.at (in_sites s ps h order x.place v u ranked object held m)
          ]);
      held = λ q m. has_of (h v) q (one_of s ps h order k way x.place v q m).held;
      found = found;
    }
