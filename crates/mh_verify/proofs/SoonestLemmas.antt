-- The order in which references came is total, so what came soonest of some stays so, or the next one takes its place.
use Rattle.std.proofs.Common.{◌≡◌, inl, inr, ◌≤◌, ◌<◌, ◌+◌, ℕ, Bool, true, false, cond, List, [], ◌∷◌, ◌++◌, length, take, get_or, Option, Some, None, refl, sym, ap, ◌∙◌, subst, arith}
use Rattle.std.proofs.lemmas.List.{take_more}
use Rattle.std.proofs.lemmas.List.Elements.{Contains-append_left, Contains-append_cases, Contains-push}
use Rattle.std.specs.List.{Contains}
use Rattle.std.specs.declared.cmp.Ordering.{Ordering}
use Rattle.std.specs.declared.cmp.Ordering.TheVariants.{Less, Equal, Greater}
use Rattle.std.specs.Ordering.{MatchOrdering, is_lt, nat_cmp, ordering_then}
use Rattle.std.specs.Cmp.{IsTotalOrder, then_total, on_total, nat_cmp_total, ranked, tied_itself}
use Rattle.std.specs.Cmp.Lexicographic.{slice_cmp, lists_total}
use Rattle.mh_base.specs.declared.obj_ref.ObjRef.{ObjRef}
use Rattle.mh_model.specs.declared.config.Config.{Config}
use Rattle.mh_model.specs.Configuration.{present}
use Rattle.mh_model.specs.Faults.{Ranking}
use Rattle.mh_model.specs.Service.{Service}
use Rattle.mh_model.proofs.ListLemmas.{some_same}
use Rattle.mh_laws.specs.Flow.{Flow}
use Rattle.mh_laws.specs.Least.{by_reference}
use Rattle.mh_flow.specs.declared.chain.link.Link.{Link}
use Rattle.mh_flow.specs.Chains.{Brings, IsFirstChain, by_action_site}
use Rattle.mh_flow.proofs.ContainsLemmas.{no_member, here, first_or_behind}
use Rattle.mh_flow.proofs.OrderLemmas.{reference_total}
use Rattle.mh_verify.specs.declared.coming.Coming.{Coming}
use Rattle.mh_verify.specs.declared.refusal.Found.{Found}
use Rattle.mh_verify.specs.Least.{sooner}
use Rattle.mh_verify.specs.Naming.{AreCandidates, IsBest, IsSoonest, IsSoonestOf, by_coming, candidates_at, is_sooner}
use Rattle.mh_verify.proofs.OrderLemmas.{after_less, not_before, not_before_itself}

pub action_site_total : IsTotalOrder by_action_site
action_site_total = then_total (on_total (λ (l : Link). l.key) reference_total) (on_total (λ (l : Link). l.index) nat_cmp_total)

pub coming_total : IsTotalOrder by_coming
coming_total = then_total (then_total (on_total (λ (k : Coming). length k.chain) nat_cmp_total) (on_total (λ (k : Coming). k.chain) (lists_total action_site_total))) (on_total (λ (k : Coming). k.at) reference_total)

-- no chain of a reference comes before its first one
never_sooner : (s : Service) (c : Config) (v : ObjRef) (k : Coming) (ls : List Link) → IsFirstChain s k.at c v k.chain → Brings s k.at ls c v → is_sooner (record { chain = ls; at = k.at }) k ≡ false
never_sooner s c v k ls first brings =
    by (nat_cmp (length ls) (length k.chain)) (ranked (length ls) (length k.chain) (nat_cmp (length ls) (length k.chain)) refl) (slice_cmp by_action_site ls k.chain) refl
  where
    long : length k.chain ≤ length ls
    long = first.shortest ls brings

    by : (o : Ordering) → MatchOrdering o (length ls < length k.chain) (length ls ≡ length k.chain) (length k.chain < length ls) → (p : Ordering) → slice_cmp by_action_site ls k.chain ≡ p → is_lt (ordering_then (ordering_then o p) (by_reference k.at k.at)) ≡ false
    by Less h p e = absurd (omega (arith, h, long))
    by Greater h p e = refl
    by Equal h Less e = absurd (first.first ls brings h e)
    by Equal h Greater e = refl
    by Equal h Equal e = ap is_lt (tied_itself reference_total k.at)

-- one more
pub next_best : (s : Service) (c : Config) (v : ObjRef) (qs : List ObjRef) (best : Option Coming) (k : Coming) → IsBest s c v qs best → IsFirstChain s k.at c v k.chain → IsBest s c v (qs ++ k.at ∷ []) (Some (sooner best k))
next_best s c v qs None k none first = subst (λ (rs : List ObjRef). IsSoonestOf s c v (rs ++ k.at ∷ []) k) (sym none) (record {
  among = here k.at [];
  chain = first;
  first = λ q ls m brings. elim (first_or_behind k.at [] q m) [
    | inl same ↦ new q ls same brings
    | inr none ↦ absurd (no_member q none)
  ];
})
  where
    new : (q : ObjRef) (ls : List Link) → k.at ≡ q → Brings s q ls c v → is_sooner (record { chain = ls; at = q }) k ≡ false
    new q ls same brings =
        subst (λ (r : ObjRef). is_sooner (record { chain = ls; at = r }) k ≡ false) same
        (never_sooner s c v k ls first (subst (λ (r : ObjRef). Brings s r ls c v) (sym same) brings))
next_best s c v qs (Some b) k best first = by (is_sooner k b) refl
  where
    new : (q : ObjRef) (ls : List Link) → Contains (k.at ∷ []) q → Brings s q ls c v → is_sooner (record { chain = ls; at = q }) k ≡ false
    new q ls m brings = elim (first_or_behind k.at [] q m) [
      | inl same ↦
          subst (λ (r : ObjRef). is_sooner (record { chain = ls; at = r }) k ≡ false) same
          (never_sooner s c v k ls first (subst (λ (r : ObjRef). Brings s r ls c v) (sym same) brings))
      | inr none ↦ absurd (no_member q none)
    ]

    by : (t : Bool) → is_sooner k b ≡ t → IsSoonestOf s c v (qs ++ k.at ∷ []) (cond t k b)
    by true e = record {
      among = Contains-push qs k.at;
      chain = first;
      first = λ q ls m brings. elim (Contains-append_cases qs (k.at ∷ []) q m) [
        | inl old ↦
            not_before coming_total (record { chain = ls; at = q }) b k (best.first q ls old brings)
            (after_less coming_total k b k e (not_before_itself coming_total k))
        | inr last ↦ new q ls last brings
      ];
    }
    by false e = record {
      among = Contains-append_left qs (k.at ∷ []) b.at best.among;
      chain = best.chain;
      first = λ q ls m brings. elim (Contains-append_cases qs (k.at ∷ []) q m) [
        | inl old ↦ best.first q ls old brings
        | inr last ↦ not_before coming_total (record { chain = ls; at = q }) k b (new q ls last brings) e
      ];
    }

-- the next one of a list, whose chain this is
pub best_next : (s : Service) (c : Config) (v : ObjRef) (qs : List ObjRef) (i : ℕ) (q : ObjRef) (best : Option Coming) (k : Coming) → i < length qs → get_or qs i q ≡ q → IsBest s c v (take i qs) best → k.at ≡ q → IsFirstChain s q c v k.chain → IsBest s c v (take (i + 1) qs) (Some (sooner best k))
best_next s c v qs i q best k lt here_q so_far at first =
    subst (λ (rs : List ObjRef). IsBest s c v rs (Some (sooner best k))) (sym (take_more qs i q lt ∙ ap (λ (r : ObjRef). take i qs ++ r ∷ []) (here_q ∙ sym at)))
    (next_best s c v (take i qs) best k so_far (subst (λ (r : ObjRef). IsFirstChain s r c v k.chain) (sym at) first))

-- What was found to be wrong is a candidate itself, so there is one that came soonest, and it is the one that is named.

holder_is : (order : Ranking) (s : Service) (w : Flow) (x : Found) (k : AreCandidates order s w x) (v : ObjRef) → x.through ≡ Some v → k.holder ≡ v
holder_is order s w x k v e = some_same (sym k.through ∙ e)

abbrev all_of : Ranking → Service → Flow → Found → ObjRef → List ObjRef
all_of order s w x v = candidates_at order s (present s x.config) (w.sets x.config) v x.place

pub some_best : (order : Ranking) (s : Service) (w : Flow) (x : Found) (k : AreCandidates order s w x) (v : ObjRef) (o : Option Coming) → x.through ≡ Some v → IsBest s x.config v (all_of order s w x v) o → o ≡ None → ⊥
some_best order s w x k v o e best none =
    let nothing : all_of order s w x v ≡ [] = subst (IsBest s x.config v (all_of order s w x v)) none best in
    let found : Contains (all_of order s w x v) x.object = subst (λ (r : ObjRef). Contains (all_of order s w x r) x.object) (holder_is order s w x k v e) (k.all x.object k.found) in
    no_member x.object (subst (λ (qs : List ObjRef). Contains qs x.object) nothing found)

pub named_best : (order : Ranking) (s : Service) (w : Flow) (x : Found) (k : AreCandidates order s w x) (v : ObjRef) (o : Option Coming) (coming : Coming) → x.through ≡ Some v → IsBest s x.config v (all_of order s w x v) o → o ≡ Some coming → IsSoonest s w x coming
named_best order s w x k v o coming e best some =
    let one : IsSoonestOf s x.config v (all_of order s w x v) coming = subst (IsBest s x.config v (all_of order s w x v)) some best in
    let same = holder_is order s w x k v e in
    record {
      holder = v;
      through = e;
      wrong = k.each coming.at (subst (λ (r : ObjRef). Contains (all_of order s w x r) coming.at) (sym same) one.among);
      chain = one.chain;
      first = λ q ls too brings. one.first q ls (subst (λ (r : ObjRef). Contains (all_of order s w x r) q) same (k.all q too)) brings;
    }
