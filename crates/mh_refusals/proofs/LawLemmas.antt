-- What a list by places says.
use Rattle.std.specs.Prelude.{◌≡◌, ℕ, Bool, true, false, ◌&&◌, cond, zero, suc, List, [], ◌∷◌, Option, Some, None, take, refl}
use Rattle.std.specs.List.{Contains}
use Rattle.std.specs.declared.cmp.Ordering.{Ordering}
use Rattle.std.specs.declared.cmp.Ordering.TheVariants.{Less, Equal, Greater}
use Rattle.std.specs.Option.{option_cmp}
use Rattle.std.specs.Ordering.{is_eq, is_lt, nat_cmp, ordering_reverse, ordering_then}
use Rattle.std.specs.Cmp.Lexicographic.{nat_list_cmp_total, options_total}
use Rattle.std.specs.Cmp.{IsTotalOrder, alike_right, nat_cmp_total, on_total, then_total, tied_itself}
use Rattle.std.proofs.Common.{◌∙◌, ◌⊎◌, ap, inl, inr, subst, sym}
use Rattle.mh_flow.specs.Orders.{by_config}
use Rattle.mh_laws.specs.Flow.{Flow}
use Rattle.mh_model.specs.Service.{Service}
use Rattle.mh_verify.specs.declared.refusal.Found.{Found}
use Rattle.mh_verify.specs.declared.refusal.Place.{Place}
use Rattle.mh_verify.specs.Kinds.{kind_number}
use Rattle.mh_verify.specs.Least.{least_of, lesser}
use Rattle.mh_verify.specs.Order.{by_place, is_before, order}
use Rattle.mh_verify.proofs.RefusalLemmas.{first_found}
use Rattle.mh_refusals.specs.Places.{is_at_place, placed, with_all, with_one}
use Rattle.mh_verify.specs.Refusals.{all_refusals}
use Rattle.mh_refusals.specs.Laws.{EachPlaceIsListed, FirstIsTheVerifiers, IsListed, ListedIsWrong, PlacesRise, are_rising}
use Rattle.mh_flow.proofs.ContainsLemmas.{behind, both, first_or_behind, halves, here, no_member}
use Rattle.mh_flow.proofs.OrderLemmas.{config_total}

places_total : IsTotalOrder by_place
places_total = then_total (then_total (on_total (λ (p : Place). p.group) nat_list_cmp_total) (on_total (λ (p : Place). p.object) nat_cmp_total)) (on_total (λ (p : Place). p.index) nat_cmp_total)

order_total : IsTotalOrder order
order_total = then_total (then_total (on_total (λ (x : Found). x.place) places_total) (on_total (λ (x : Found). kind_number x.kind) (options_total nat_cmp_total))) (on_total (λ (x : Found). x.config) config_total)

-- The first

abbrev first_of : List Found → Option Found
first_of [] = None
first_of (x ∷ xs) = Some x

-- where the places differ, so does the order
before_by : (x y : Found) → by_place x.place y.place ≡ Less → is_before x y ≡ true
before_by x y e = ap (λ (o : Ordering). is_lt (ordering_then (ordering_then o (option_cmp nat_cmp (kind_number x.kind) (kind_number y.kind))) (by_config x.config y.config))) e

behind_by : (x y : Found) → by_place x.place y.place ≡ Greater → is_before x y ≡ false
behind_by x y e = ap (λ (o : Ordering). is_lt (ordering_then (ordering_then o (option_cmp nat_cmp (kind_number x.kind) (kind_number y.kind))) (by_config x.config y.config))) e

first_with : (x : Found) (ys : List Found) → first_of (with_one x ys) ≡ Some (lesser (first_of ys) x)
first_with x [] = refl
first_with x (y ∷ ys) = by (by_place x.place y.place) refl
  where
    by : (o : Ordering) → by_place x.place y.place ≡ o → first_of (placed o x y ys (with_one x ys)) ≡ Some (lesser (Some y) x)
    by Less e = ap (λ (b : Bool). Some (cond b x y)) (sym (before_by x y e))
    by Equal e = refl
    by Greater e = ap (λ (b : Bool). Some (cond b x y)) (sym (behind_by x y e))

first_of_all : (ys zs : List Found) → first_of (with_all ys zs) ≡ least_of (first_of ys) zs
first_of_all ys [] = refl
first_of_all ys (z ∷ zs) =
    first_of_all (with_one z ys) zs ∙ ap (λ (o : Option Found). least_of o zs) (first_with z ys)

pub first_is_the_verifiers : FirstIsTheVerifiers
first_is_the_verifiers s w x xs e = first_found s w x (sym (first_of_all [] (all_refusals s w)) ∙ ap first_of e)

-- Members

one_of_two : (x y z : Found) (b : Bool) → Contains (cond b x y ∷ []) z → (z ≡ x) ⊎ (z ≡ y)
one_of_two x y z true m = elim (first_or_behind x [] z m) [ inl same ↦ inl (sym same) | inr none ↦ absurd (no_member z none) ]
one_of_two x y z false m = elim (first_or_behind y [] z m) [ inl same ↦ inr (sym same) | inr none ↦ absurd (no_member z none) ]

from_one : (x : Found) (ys : List Found) (z : Found) → Contains (with_one x ys) z → (z ≡ x) ⊎ Contains ys z
from_one x [] z m = elim (first_or_behind x [] z m) [ inl same ↦ inl (sym same) | inr none ↦ absurd (no_member z none) ]
from_one x (y ∷ ys) z m = by (by_place x.place y.place) (from_one x ys z) m
  where
    by : (o : Ordering) → (Contains (with_one x ys) z → (z ≡ x) ⊎ Contains ys z) → Contains (placed o x y ys (with_one x ys)) z → (z ≡ x) ⊎ Contains (y ∷ ys) z
    by Less ih m = elim (first_or_behind x (y ∷ ys) z m) [ inl same ↦ inl (sym same) | inr k ↦ inr k ]
    by Equal ih m = elim (first_or_behind (lesser (Some y) x) ys z m) [
      | inl same ↦ elim (one_of_two x y z (is_before x y) (subst (λ (w : Found). Contains (w ∷ []) z) (sym same) (here z []))) [
        | inl e ↦ inl e
        | inr e ↦ inr (subst (λ (w : Found). Contains (w ∷ ys) z) e (here z ys))
      ]
      | inr k ↦ inr (behind y ys z k)
    ]
    by Greater ih m = elim (first_or_behind y (with_one x ys) z m) [
      | inl same ↦ inr (subst (λ (w : Found). Contains (y ∷ ys) w) same (here y ys))
      | inr k ↦ elim (ih k) [ inl e ↦ inl e | inr n ↦ inr (behind y ys z n) ]
    ]

from_all : (ys zs : List Found) (x : Found) → Contains (with_all ys zs) x → Contains ys x ⊎ Contains zs x
from_all ys [] x m = inl m
from_all ys (z ∷ zs) x m = elim (from_all (with_one z ys) zs x m) [
  | inl k ↦ elim (from_one z ys x k) [
    | inl same ↦ inr (subst (λ (w : Found). Contains (w ∷ zs) x) same (here x zs))
    | inr n ↦ inl n
  ]
  | inr k ↦ inr (behind z zs x k)
]

pub all_from : (zs : List Found) (x : Found) → Contains (with_all [] zs) x → Contains zs x
all_from zs x m = elim (from_all [] zs x m) [ inl none ↦ absurd (no_member x none) | inr k ↦ k ]

pub listed_is_wrong : ListedIsWrong
listed_is_wrong s w x m = all_from (all_refusals s w) x m

-- Each place is listed

-- one at the same place that is not behind it
abbrev Stands : Found → Found → Type 0
Stands y x = (is_at_place y x ≡ true) × (is_before y x ≡ false)

equal_by : (o : Ordering) → is_eq o ≡ true → o ≡ Equal
equal_by Less e = absurd cc
equal_by Equal e = refl
equal_by Greater e = absurd cc

stands_itself : (x : Found) → Stands x x
stands_itself x = (ap is_eq (tied_itself places_total x.place), ap is_lt (tied_itself order_total x))

-- what is before another, and not behind a third, is before that
before_other : (z w y : Found) → is_before w y ≡ true → is_before z y ≡ false → is_before z w ≡ false
before_other z w y h k = by (is_before z w) refl
  where
    less : (o : Ordering) → is_lt o ≡ true → o ≡ Less
    less Less e = refl
    less Equal e = absurd cc
    less Greater e = absurd cc

    by : (t : Bool) → is_before z w ≡ t → is_before z w ≡ false
    by false e = e
    by true e =
        let before : is_before z y ≡ true = ap is_lt (order_total.trans z w y (less (order z w) e) (less (order w y) h)) in
        absurd (let apart : true ≡ false = sym before ∙ k in cc)

-- at the place of another stands whoever stands at that of a third which has the same
at_other : (z w y : Found) → by_place w.place y.place ≡ Equal → is_at_place z y ≡ true → is_at_place z w ≡ true
at_other z w y e k = ap is_eq (alike_right places_total w.place y.place z.place e) ∙ k

-- one of these stands at the place, and is not behind
record IsStood (ys : List Found) (z : Found) : Type 0 where
  found : Found
  among : Contains ys found
  stands : Stands z found

in_front : (x : Found) (ys : List Found) (z : Found) → Stands z x → IsStood (x ∷ ys) z
in_front x ys z s = record { found = x; among = here x ys; stands = s }

further : (y : Found) (ys : List Found) (z : Found) → IsStood ys z → IsStood (y ∷ ys) z
further y ys z s = record { found = s.found; among = behind y ys s.found s.among; stands = s.stands }

first_or_further : (y : Found) (ys : List Found) (z : Found) → IsStood (y ∷ ys) z → Stands z y ⊎ IsStood ys z
first_or_further y ys z s = elim (first_or_behind y ys s.found s.among) [
  | inl same ↦ inl (subst (λ (w : Found). Stands z w) (sym same) s.stands)
  | inr k ↦ inr (record { found = s.found; among = k; stands = s.stands })
]

-- one more is stood for
enters : (z : Found) (ys : List Found) → IsStood (with_one z ys) z
enters z [] = in_front z [] z (stands_itself z)
enters z (y ∷ ys) = by (by_place z.place y.place) refl (enters z ys)
  where
    either : by_place z.place y.place ≡ Equal → (b : Bool) → is_before z y ≡ b → Stands z (cond b z y)
    either e true k = stands_itself z
    either e false k = (ap is_eq e, k)

    by : (o : Ordering) → by_place z.place y.place ≡ o → IsStood (with_one z ys) z → IsStood (placed o z y ys (with_one z ys)) z
    by Less e ih = in_front z (y ∷ ys) z (stands_itself z)
    by Equal e ih = in_front (lesser (Some y) z) ys z (either e (is_before z y) refl)
    by Greater e ih = further y (with_one z ys) z ih

-- and who is stood for stays so
stays : (z w : Found) (ys : List Found) → IsStood ys z → IsStood (with_one w ys) z
stays z w [] s = absurd (no_member s.found s.among)
stays z w (y ∷ ys) s = by (by_place w.place y.place) refl (stays z w ys) (first_or_further y ys z s)
  where
    either : by_place w.place y.place ≡ Equal → Stands z y → (b : Bool) → is_before w y ≡ b → Stands z (cond b w y)
    either e k true h = (at_other z w y e k.0, before_other z w y h k.1)
    either e k false h = k

    by : (o : Ordering) → by_place w.place y.place ≡ o → (IsStood ys z → IsStood (with_one w ys) z) → Stands z y ⊎ IsStood ys z → IsStood (placed o w y ys (with_one w ys)) z
    by Less e ih k = further w (y ∷ ys) z s
    by Equal e ih (inl k) = in_front (lesser (Some y) w) ys z (either e k (is_before w y) refl)
    by Equal e ih (inr k) = further (lesser (Some y) w) ys z k
    by Greater e ih (inl k) = in_front y (with_one w ys) z k
    by Greater e ih (inr k) = further y (with_one w ys) z (ih k)

stays_with_all : (z : Found) (ys zs : List Found) → IsStood ys z → IsStood (with_all ys zs) z
stays_with_all z ys [] s = s
stays_with_all z ys (w ∷ zs) s = stays_with_all z (with_one w ys) zs (stays z w ys s)

stood_in_all : (z : Found) (ys zs : List Found) → Contains zs z → IsStood (with_all ys zs) z
stood_in_all z ys [] m = absurd (no_member z m)
stood_in_all z ys (w ∷ zs) m = elim (first_or_behind w zs z m) [
  | inl same ↦ stays_with_all z (with_one w ys) zs (subst (λ (x : Found). IsStood (with_one x ys) z) (sym same) (enters z ys))
  | inr k ↦ stood_in_all z (with_one w ys) zs k
]

pub each_place_is_listed : EachPlaceIsListed
each_place_is_listed s w y m =
    let stood = stood_in_all y [] (all_refusals s w) m in
    record { found = stood.found; among = stood.among; place = stood.stands.0; first = stood.stands.1 }

-- Places rise

-- one with the same place may stand in front
same_front : (x w : Found) (ws : List Found) → by_place x.place w.place ≡ Equal → are_rising (w ∷ ws) ≡ true → are_rising (x ∷ ws) ≡ true
same_front x w [] e h = refl
same_front x w (v ∷ vs) e h =
    let two = halves _ _ h in
    both _ _ (ap is_lt (places_total.congr x.place w.place v.place e) ∙ two.0) two.1

-- behind one that is before it
rises : (y x : Found) (ws : List Found) → is_lt (by_place y.place x.place) ≡ true → are_rising (y ∷ ws) ≡ true → are_rising (y ∷ with_one x ws) ≡ true
rises y x [] e h = both _ _ e refl
rises y x (w ∷ ws) e h = by (by_place x.place w.place) refl (halves _ _ h) (λ f. rises w x ws f (halves _ _ h).1)
  where
    either : by_place x.place w.place ≡ Equal → (is_lt (by_place y.place w.place) ≡ true) × (are_rising (w ∷ ws) ≡ true) → (b : Bool) → are_rising (y ∷ cond b x w ∷ ws) ≡ true
    either f two true = both _ _ e (same_front x w ws f two.1)
    either f two false = both _ _ two.0 two.1

    by : (o : Ordering) → by_place x.place w.place ≡ o → (is_lt (by_place y.place w.place) ≡ true) × (are_rising (w ∷ ws) ≡ true) → (is_lt (by_place w.place x.place) ≡ true → are_rising (w ∷ with_one x ws) ≡ true) → are_rising (y ∷ placed o x w ws (with_one x ws)) ≡ true
    by Less f two ih = both _ _ e (both _ _ (ap is_lt f) two.1)
    by Equal f two ih = either f two (is_before x w)
    by Greater f two ih = both _ _ two.0 (ih (ap is_lt (places_total.antisymm w.place x.place ∙ ap ordering_reverse f)))

rises_with : (x : Found) (ys : List Found) → are_rising ys ≡ true → are_rising (with_one x ys) ≡ true
rises_with x [] h = refl
rises_with x (y ∷ ys) h = by (by_place x.place y.place) refl
  where
    either : by_place x.place y.place ≡ Equal → (b : Bool) → are_rising (cond b x y ∷ ys) ≡ true
    either f true = same_front x y ys f h
    either f false = h

    by : (o : Ordering) → by_place x.place y.place ≡ o → are_rising (placed o x y ys (with_one x ys)) ≡ true
    by Less f = both _ _ (ap is_lt f) h
    by Equal f = either f (is_before x y)
    by Greater f = rises y x ys (ap is_lt (places_total.antisymm y.place x.place ∙ ap ordering_reverse f)) h

rises_with_all : (ys zs : List Found) → are_rising ys ≡ true → are_rising (with_all ys zs) ≡ true
rises_with_all ys [] h = h
rises_with_all ys (z ∷ zs) h = rises_with_all (with_one z ys) zs (rises_with z ys h)

pub places_rise : PlacesRise
places_rise s w = rises_with_all [] (all_refusals s w) refl
