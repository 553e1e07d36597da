-- What came soonest of those that may have come by the places of the first chain came soonest of all.
use Rattle.std.proofs.Common.{◌≡◌, ◌≢◌, inl, inr, ◌≤◌, ◌<◌, ◌+◌, ℕ, suc, Bool, true, false, ◌||◌, List, [], ◌∷◌, ◌++◌, length, take, get_or, Option, Some, None, Result, Ok, Err, IfOk, refl, sym, ap, ◌∙◌, subst, arith}
use Rattle.std.proofs.lemmas.List.{take_more}
use Rattle.std.proofs.lemmas.List.Elements.{Contains-append_left, Contains-append_cases}
use Rattle.std.specs.List.{Contains}
use Rattle.std.specs.declared.alloc.AllocError.{AllocError}
use Rattle.std.specs.declared.cmp.Ordering.{Ordering}
use Rattle.std.specs.declared.cmp.Ordering.TheVariants.{Less, Equal, Greater}
use Rattle.std.specs.Ordering.{MatchOrdering, is_lt, is_ne, nat_cmp, ordering_then}
use Rattle.std.specs.Cmp.{alike_right, ranked}
use Rattle.std.specs.Cmp.Lexicographic.{slice_cmp, lists_total}
use Rattle.mh_base.specs.declared.obj_ref.ObjRef.{ObjRef}
use Rattle.mh_model.specs.declared.config.Config.{Config}
use Rattle.mh_model.specs.Service.{Service}
use Rattle.mh_laws.specs.Flow.{has}
use Rattle.mh_laws.specs.Least.{Derived, Held, by_reference}
use Rattle.mh_flow.specs.declared.chain.link.Link.{Link}
use Rattle.mh_flow.specs.Chains.{Brings, by_action_site}
use Rattle.mh_flow.specs.Nearest.{IsNearest}
use Rattle.mh_flow.specs.Solved.{Solved, IsFlowOf, flow_in}
use Rattle.mh_flow.proofs.ContainsLemmas.{no_member, no_members, first_or_behind}
use Rattle.mh_flow.proofs.OriginLemmas.{both_level}
use Rattle.mh_verify.specs.declared.coming.Coming.{Coming}
use Rattle.mh_verify.specs.Least.{may_be_sooner}
use Rattle.mh_verify.specs.Naming.{AreHeld, AreNoSooner, IsBest, IsSoonestOf, is_sooner}
use Rattle.mh_verify.proofs.OrderLemmas.{not_before}
use Rattle.mh_verify.proofs.SoonestLemmas.{coming_total, action_site_total}

abbrev came : List Link → ObjRef → Coming
came ls q = record { chain = ls; at = q }

-- links that are no fewer, and whose places come no sooner, did not come sooner, unless the places are the same
no_sooner : (k b : Coming) → length b.chain ≤ length k.chain → (length k.chain ≡ length b.chain → slice_cmp by_action_site k.chain b.chain ≢ Less) → (slice_cmp by_action_site k.chain b.chain ≡ Equal → is_lt (by_reference k.at b.at) ≡ false) → is_sooner k b ≡ false
no_sooner k b long first level =
    by (nat_cmp (length k.chain) (length b.chain)) (ranked (length k.chain) (length b.chain) (nat_cmp (length k.chain) (length b.chain)) refl) (slice_cmp by_action_site k.chain b.chain) refl
  where
    by : (o : Ordering) → MatchOrdering o (length k.chain < length b.chain) (length k.chain ≡ length b.chain) (length b.chain < length k.chain) → (p : Ordering) → slice_cmp by_action_site k.chain b.chain ≡ p → is_lt (ordering_then (ordering_then o p) (by_reference k.at b.at)) ≡ false
    by Less h p e = absurd (omega (arith, h, long))
    by Greater h p e = refl
    by Equal h Less e = absurd (first h e)
    by Equal h Greater e = refl
    by Equal h Equal e = level e

-- the same places are as many
level_length : (xs ys : List Link) → slice_cmp by_action_site xs ys ≡ Equal → length xs ≡ length ys
level_length [] [] e = refl
level_length [] (y ∷ ys) e = cc
level_length (x ∷ xs) [] e = cc
level_length (x ∷ xs) (y ∷ ys) e = ap suc (level_length xs ys (both_level (by_action_site x y) (slice_cmp by_action_site xs ys) e).1)

-- Where nothing comes before these links, the best so far stays the best if it came by their places, and the next
-- reference is no smaller.

neither : (a b : Bool) → (a || b) ≡ false → (a ≡ false) × (b ≡ false)
neither true b e = cc
neither false b e = (refl, e)

level : (r : Ordering) → is_ne r ≡ false → r ≡ Equal
level Less e = cc
level Equal e = refl
level Greater e = cc

module _ (s : Service) (c : Config) (v : ObjRef) (ls : List Link) where
  stays_best : (qs : List ObjRef) (b : Coming) (q : ObjRef) → IsSoonestOf s c v qs b → slice_cmp by_action_site b.chain ls ≡ Equal → is_lt (by_reference q b.at) ≡ false → AreNoSooner s c v (q ∷ []) ls → IsSoonestOf s c v (qs ++ q ∷ []) b
  stays_best qs b q best level behind later = record {
    among = Contains-append_left qs (q ∷ []) b.at best.among;
    chain = best.chain;
    first = λ p ks m brings. elim (Contains-append_cases qs (q ∷ []) p m) [
      | inl old ↦ best.first p ks old brings
      | inr last ↦ new p ks last brings
    ];
  }
    where
      as_long : length b.chain ≡ length ls
      as_long = level_length b.chain ls level

      own : (ks : List Link) → Contains (q ∷ []) q → Brings s q ks c v → is_sooner (came ks q) b ≡ false
      own ks m brings =
          let long = later.shortest q ks m brings in
          no_sooner (came ks q) b (omega (arith, as_long, long))
          (λ same less. later.first q ks m brings (same ∙ as_long) (sym (alike_right (lists_total action_site_total) b.chain ls ks level) ∙ less))
          (λ e. behind)

      new : (p : ObjRef) (ks : List Link) → Contains (q ∷ []) p → Brings s p ks c v → is_sooner (came ks p) b ≡ false
      new p ks m brings = elim (first_or_behind q [] p m) [
        | inl same ↦ subst (λ (r : ObjRef). Contains (q ∷ []) r → Brings s r ks c v → is_sooner (came ks r) b ≡ false) same (own ks) m brings
        | inr none ↦ absurd (no_member p none)
      ]

  settled : (qs : List ObjRef) (o : Option Coming) (q : ObjRef) → IsBest s c v qs o → may_be_sooner o ls q ≡ false → AreNoSooner s c v (q ∷ []) ls → IsBest s c v (qs ++ q ∷ []) o
  settled qs None q best e later = cc
  settled qs (Some b) q best e later =
      let two = neither (is_ne (slice_cmp by_action_site b.chain ls)) (is_lt (by_reference q b.at)) e in
      stays_best qs b q best (level (slice_cmp by_action_site b.chain ls) two.0) two.1 later

  one_of : (qs : List ObjRef) (q : ObjRef) → Contains qs q → AreNoSooner s c v qs ls → AreNoSooner s c v (q ∷ []) ls
  one_of qs q m all = record {
    shortest = λ p ks k brings. all.shortest p ks (among p k) brings;
    first = λ p ks k brings. all.first p ks (among p k) brings;
  }
    where
      among : (p : ObjRef) → Contains (q ∷ []) p → Contains qs p
      among p k = elim (first_or_behind q [] p k) [ inl same ↦ subst (λ (r : ObjRef). Contains qs r) same m | inr none ↦ absurd (no_member p none) ]

  -- the next one of a list
  pub settled_next : (qs : List ObjRef) (i : ℕ) (q : ObjRef) (o : Option Coming) → i < length qs → get_or qs i q ≡ q → IsBest s c v (take i qs) o → may_be_sooner o ls q ≡ false → AreNoSooner s c v qs ls → IsBest s c v (take (i + 1) qs) o
  settled_next qs i q o lt here_q best e all =
      subst (λ (rs : List ObjRef). IsBest s c v rs o) (sym (take_more qs i q lt ∙ ap (λ (r : ObjRef). take i qs ++ r ∷ []) here_q))
      (settled (take i qs) o q best e (one_of qs q (i, lt, here_q) all))

  -- The best of the origins is the best of all.
  pub nearest_best : (qs os : List ObjRef) → IsNearest s c v qs ls os → (o : Option Coming) → IsBest s c v os o → IsBest s c v qs o
  nearest_best qs os near None none = absurd (no_member near.brought.0 (subst (λ (rs : List ObjRef). Contains rs near.brought.0) none near.brought.1))
  nearest_best qs os near (Some k) best = record {
    among = near.among k.at best.among;
    chain = best.chain;
    first = λ q ks m brings. by q ks m brings (slice_cmp by_action_site ks ls) refl;
  }
    where
      one : Coming
      one = came ls near.brought.0

      one_later : is_sooner one k ≡ false
      one_later = best.first near.brought.0 ls near.brought.1 near.brought.2

      apart : (q : ObjRef) (ks : List Link) → Contains qs q → Brings s q ks c v → (slice_cmp by_action_site ks ls ≡ Equal → ⊥) → is_sooner (came ks q) k ≡ false
      apart q ks m brings other =
          not_before coming_total (came ks q) one k
          (no_sooner (came ks q) one (near.shortest q ks m brings) (near.first q ks m brings) (λ e. absurd (other e))) one_later

      by : (q : ObjRef) (ks : List Link) → Contains qs q → Brings s q ks c v → (r : Ordering) → slice_cmp by_action_site ks ls ≡ r → is_sooner (came ks q) k ≡ false
      by q ks m brings Less e = apart q ks m brings (λ same. let never : Less ≡ Equal = sym e ∙ same in cc)
      by q ks m brings Equal e = best.first q ks (near.level q ks m brings e) brings
      by q ks m brings Greater e = apart q ks m brings (λ same. let never : Greater ≡ Equal = sym e ∙ same in cc)

  pub origins_later : (qs os : List ObjRef) → IsNearest s c v qs ls os → AreNoSooner s c v os ls
  origins_later qs os near = record {
    shortest = λ q ks m brings. near.shortest q ks (near.among q m) brings;
    first = λ q ks m brings. near.first q ks (near.among q m) brings;
  }

-- In the words of the code.

pub told_best : (s : Service) (c : Config) (v : ObjRef) (qs os : List ObjRef) (ls : List Link) → IsNearest s c v qs ls os → (r : Result (Option Coming) AllocError) → IfOk r (IsBest s c v os) → IfOk r (IsBest s c v qs)
told_best s c v qs os ls near (Ok o) h = nearest_best s c v ls qs os near o h
told_best s c v qs os ls near (Err e) h = tt

-- what may be held came by some chain
pub none_where_unheld : (s : Service) (f : Solved) (c : Config) (v : ObjRef) (qs : List ObjRef) → IsFlowOf s f → AreHeld ((flow_in s f).sets c) v qs → ((q : ObjRef) → Contains qs q → Derived s (Held c v q) → ⊥) → qs ≡ []
none_where_unheld s f c v qs flow held none = no_members qs (λ q m. none q m (flow.least.held c v q (held q m)))
