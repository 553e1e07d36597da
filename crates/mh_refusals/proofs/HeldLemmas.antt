-- What is refused since something that is held is wrong is held by the flow.
use Rattle.std.specs.Prelude.{◌≡◌, ℕ, Bool, true, false, ◌||◌, ◌&&◌, cond, List, [], ◌∷◌, ◌++◌, map, Option, Some, None, refl}
use Rattle.std.specs.List.{Contains, flat_map, list_any}
use Rattle.std.specs.Option.{is_some, option_map, option_to_list}
use Rattle.std.proofs.Common.{◌∙◌, ◌⊎◌, ap, inl, inr, subst, sym}
use Rattle.std.proofs.lemmas.Bool.Decides.{Decides-eqb}
use Rattle.std.proofs.lemmas.List.Elements.{Contains-append_cases}
use Rattle.std.proofs.lemmas.Slice.Eq.{bytes_eq-Decides}
use Rattle.mh_base.specs.declared.obj_ref.ObjRef.{ObjRef}
use Rattle.mh_group.specs.Table.{is_list_group}
use Rattle.mh_model.specs.declared.config.Config.{Config}
use Rattle.mh_model.specs.declared.object.Fixed.{Fixed}
use Rattle.mh_model.specs.Configuration.{present}
use Rattle.mh_model.specs.Faults.{Ranking, Wrong, is_named, least, rank_of, wrongs}
use Rattle.mh_model.specs.Reference.{same_ref}
use Rattle.mh_model.specs.Service.{Service}
use Rattle.mh_model.specs.Tokens.{members}
use Rattle.mh_laws.specs.Active.{item_wrongs, known_with, member_wrongs}
use Rattle.mh_laws.specs.Flow.{Flow, Sets}
use Rattle.mh_flow.specs.Sites.{Site, sites_of}
use Rattle.mh_flow.proofs.ContainsLemmas.{behind, first_or_behind, here, joined_from, no_member}
use Rattle.mh_verify.specs.declared.refusal.Found.{Found}
use Rattle.mh_verify.specs.declared.refusal.RefusalKind.{RefusalKind}
use Rattle.mh_verify.specs.Kinds.{reason_number}
use Rattle.mh_verify.specs.Refusals.{all_refusals, found_at, found_of_part, kind_for, part_refused, part_wrongs, refusals_in, refusals_of_effects, refusals_of_members, wrong_at}
use Rattle.mh_verify.proofs.CandidateLemmas.{IsWay, of_object}
use Rattle.mh_verify.proofs.CarriedLemmas.{carried}
use Rattle.mh_refusals.specs.Listed.{IsHeld}

-- a member of a list is found in it
has_of : (qs : List ObjRef) (q : ObjRef) → Contains qs q → list_any (same_ref q) qs ≡ true
has_of [] q m = absurd (no_member q m)
has_of (r ∷ qs) q m = elim (first_or_behind r qs q m) [
  | inl same ↦ subst (λ (x : ObjRef). (same_ref q x || list_any (same_ref q) qs) ≡ true) (sym same) (ap (λ (b : Bool). b || list_any (same_ref q) qs) (itself q))
  | inr k ↦ or_right (same_ref q r) (list_any (same_ref q) qs) (has_of qs q k)
]
  where
    both : (a b : Bool) → a ≡ true → b ≡ true → (a && b) ≡ true
    both true b p q = q
    both false b p q = p

    itself : (a : ObjRef) → same_ref a a ≡ true
    itself a = both _ _ ((bytes_eq-Decides a.group a.group).1 refl) ((Decides-eqb a.number a.number).1 refl)

    or_right : (a b : Bool) → b ≡ true → (a || b) ≡ true
    or_right true b e = refl
    or_right false b e = e

-- what is named of several is one of them

one_or_first : (rank : Ranking) (b u : Wrong) (ws : List Wrong) → least rank (Some b) ws ≡ Some u → (b ≡ u) ⊎ Contains ws u
one_or_first rank b u [] e = inl cc
one_or_first rank b u (w ∷ ws) e = by (is_named rank (Some b) (rank_of rank w)) (one_or_first rank w u ws) (one_or_first rank b u ws) e
  where
    by : (t : Bool) → (least rank (Some w) ws ≡ Some u → (w ≡ u) ⊎ Contains ws u) → (least rank (Some b) ws ≡ Some u → (b ≡ u) ⊎ Contains ws u) → least rank (cond t (Some w) (Some b)) ws ≡ Some u → (b ≡ u) ⊎ Contains (w ∷ ws) u
    by true new old e = inr (elim (new e) [ inl same ↦ subst (λ (z : Wrong). Contains (w ∷ ws) z) same (here w ws) | inr m ↦ behind w ws u m ])
    by false new old e = elim (old e) [ inl same ↦ inl same | inr m ↦ inr (behind w ws u m) ]

one_of : (rank : Ranking) (ws : List Wrong) (u : Wrong) → least rank None ws ≡ Some u → Contains ws u
one_of rank [] u e = absurd cc
one_of rank (w ∷ ws) u e = by (rank_of rank w) (one_of rank ws u) e
  where
    by : (o : Option ℕ) → (least rank None ws ≡ Some u → Contains ws u) → least rank (cond (is_named rank None o) (Some w) None) ws ≡ Some u → Contains (w ∷ ws) u
    by None ih e = behind w ws u (ih e)
    by (Some n) ih e = elim (one_or_first rank w u ws e) [ inl same ↦ subst (λ (z : Wrong). Contains (w ∷ ws) z) same (here w ws) | inr m ↦ behind w ws u m ]

some_is : {X : Type 0} (o : Option X) → is_some o ≡ true → (x : X) × (o ≡ Some x)
some_is None e = absurd cc
some_is (Some x) e = (x, refl)

mapped_from : {X Y : Type 0} (f : X → Y) (xs : List X) (y : Y) → Contains (map f xs) y → (x : X) × Contains xs x × (f x ≡ y)
mapped_from f [] y m = absurd (no_member y m)
mapped_from f (x ∷ xs) y m = elim (first_or_behind (f x) (map f xs) y m) [
  | inl same ↦ (x, here x xs, same)
  | inr k ↦ let found = mapped_from f xs y k in (found.0, behind x xs found.0 found.1, found.2)
]

-- Of an action it is held by the variable through which the action comes to it.

module _ {order : Ranking} {k : RefusalKind} (way : IsWay order k) (s : Service) (w : Flow) (c : Config) (x : Found) (is : x.kind ≡ k) where
  held_at : (y : Site) (o : Option Wrong) → least reason_number None (wrongs (known_with s (present s c) (w.sets c)) y.act) ≡ o → Contains (option_to_list (option_map (found_at c y) o)) x → IsHeld w x
  held_at y None e m = absurd (no_member x m)
  held_at y (Some u) e m = elim (first_or_behind (found_at c y u) [] x m) [
    | inl same ↦
        let kind : kind_for u ≡ k = ap (λ (z : Found). z.kind) same ∙ is in
        let through = some_is u.through (way.held u kind) in
        let found = carried s (present s c) (w.sets c) y.act u through.0 (one_of reason_number (wrongs (known_with s (present s c) (w.sets c)) y.act) u e) (way.object u kind) through.1 in
        subst (λ (z : Found). IsHeld w z) same (record {
          holder = through.0;
          through = through.1;
          held = has_of (w.sets c through.0) u.at found.among;
        })
    | inr none ↦ absurd (no_member x none)
  ]

  held_in_effects : Contains (refusals_of_effects s w c) x → IsHeld w x
  held_in_effects m =
      let from = joined_from (wrong_at s (present s c) (w.sets c) c) (sites_of (present s c)) x m in
      held_at from.0 (least reason_number None (wrongs (known_with s (present s c) (w.sets c)) from.0.act)) refl from.2

  -- and of a list by the list
  held_of_part : (p : Fixed) (u : Wrong) → found_of_part c p.key u ≡ x → (b : Bool) → Contains (cond b (flat_map (item_wrongs (present s c) p.key) (w.sets c p.key)) (flat_map (member_wrongs (present s c)) (members p))) u → IsHeld w x
  held_of_part p u same true m =
      let item = joined_from (item_wrongs (present s c) p.key) (w.sets c p.key) u m in
      let of = of_object (present s c) (Some p.key) item.0 u item.2 in
      subst (λ (z : Found). IsHeld w z) same (record {
        holder = p.key;
        through = of.0;
        held = has_of (w.sets c p.key) u.at (subst (λ (r : ObjRef). Contains (w.sets c p.key) r) (sym of.1) item.1);
      })
  held_of_part p u same false m =
      let member = joined_from (member_wrongs (present s c)) (members p) u m in
      let of = of_object (present s c) None member.0.object u member.2 in
      let kind : kind_for u ≡ k = ap (λ (z : Found). z.kind) same ∙ is in
      let none : is_some u.through ≡ false = ap is_some of.0 in
      let apart : true ≡ false = sym (way.held u kind) ∙ none in
      absurd cc

  held_in_members : Contains (refusals_of_members s w c) x → IsHeld w x
  held_in_members m =
      let from = joined_from (part_refused (present s c) (w.sets c) c) (present s c) x m in
      let one = mapped_from (found_of_part c from.0.key) (part_wrongs (present s c) (w.sets c) from.0) x from.2 in
      held_of_part from.0 one.0 one.2 (is_list_group from.0.class) one.1

  held_in : Contains (refusals_in s w c) x → IsHeld w x
  held_in m = elim (Contains-append_cases (refusals_of_members s w c) (refusals_of_effects s w c) x m) [
    | inl n ↦ held_in_members n
    | inr n ↦ held_in_effects n
  ]

pub held_there : {order : Ranking} {k : RefusalKind} → IsWay order k → (s : Service) (w : Flow) (x : Found) → x.kind ≡ k → Contains (all_refusals s w) x → IsHeld w x
held_there way s w x is m =
    let from = joined_from (refusals_in s w) w.configs x m in
    held_in way s w from.0 x is from.2
