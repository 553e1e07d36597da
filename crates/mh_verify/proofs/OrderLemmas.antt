-- The order of refusals is total, so none of a list comes before its first; and of those that are tied with that it stands first.
use Rattle.std.proofs.Common.{◌≡◌, inl, inr, Bool, true, false, cond, List, [], ◌∷◌, Some, None, refl, sym, ap, ◌∙◌, subst}
use Rattle.std.specs.List.{Contains, find}
use Rattle.std.specs.declared.cmp.Ordering.{Ordering}
use Rattle.std.specs.declared.cmp.Ordering.TheVariants.{Less, Equal, Greater}
use Rattle.std.specs.Ordering.{is_eq, is_lt, ordering_reverse}
use Rattle.std.specs.Cmp.{Equal-is, IsTotalOrder, then_total, on_total, nat_cmp_total, alike_right, tied_itself}
use Rattle.std.specs.Cmp.Lexicographic.{nat_list_cmp_total, options_total}
use Rattle.mh_verify.specs.declared.refusal.Found.{Found}
use Rattle.mh_verify.specs.declared.refusal.Place.{Place}
use Rattle.mh_verify.specs.Kinds.{kind_number}
use Rattle.mh_verify.specs.Order.{order, by_place, is_before}
use Rattle.mh_verify.specs.Least.{lesser, least_of}
use Rattle.mh_flow.proofs.ContainsLemmas.{no_member, first_or_behind}
use Rattle.mh_flow.proofs.OrderLemmas.{config_total}

places_total : IsTotalOrder by_place
places_total = then_total (then_total (on_total (λ (p : Place). p.group) nat_list_cmp_total) (on_total (λ (p : Place). p.object) nat_cmp_total)) (on_total (λ (p : Place). p.index) nat_cmp_total)

order_total : IsTotalOrder order
order_total = then_total (then_total (on_total (λ (x : Found). x.place) places_total) (on_total (λ (x : Found). kind_number x.kind) (options_total nat_cmp_total))) (on_total (λ (x : Found). x.config) config_total)

-- Any total order.
module _ {K : Type 0} {R : K → K → Ordering} (o : IsTotalOrder R) where
  less : (r : Ordering) → is_lt r ≡ true → r ≡ Less
  less Less h = refl
  less Equal h = cc
  less Greater h = cc

  -- what is before one that is not behind another is before the other
  before_level : (y x b : K) → is_lt (R y x) ≡ true → is_lt (R b x) ≡ false → is_lt (R y b) ≡ true
  before_level y x b h k = by (R b x) refl k
    where
      by : (r : Ordering) → R b x ≡ r → is_lt r ≡ false → is_lt (R y b) ≡ true
      by Less e k = cc
      by Equal e k = ap is_lt (alike_right o b x y e) ∙ h
      by Greater e k = ap is_lt (o.trans y x b (less (R y x) h) (o.antisymm x b ∙ ap ordering_reverse e))

  pub not_before_itself : (x : K) → is_lt (R x x) ≡ false
  not_before_itself x = ap is_lt (tied_itself o x)

  pub not_before : (y b x : K) → is_lt (R y b) ≡ false → is_lt (R b x) ≡ false → is_lt (R y x) ≡ false
  not_before y b x h k = by (is_lt (R y x)) refl
    where
      by : (t : Bool) → is_lt (R y x) ≡ t → is_lt (R y x) ≡ false
      by false e = e
      by true e = let f = before_level y x b e k in cc

  pub after_less : (y b x : K) → is_lt (R y b) ≡ true → is_lt (R y x) ≡ false → is_lt (R b x) ≡ false
  after_less y b x h k = by (is_lt (R b x)) refl
    where
      by : (t : Bool) → is_lt (R b x) ≡ t → is_lt (R b x) ≡ false
      by false e = e
      by true e = let f = ap is_lt (o.trans y b x (less (R y b) h) (less (R b x) e)) in cc

  -- what is behind one that is not before x is not tied with x
  untied : (y b x : K) → is_lt (R y b) ≡ true → is_lt (R y x) ≡ false → is_eq (R x b) ≡ false
  untied y b x h k = by (R x b) refl
    where
      by : (r : Ordering) → R x b ≡ r → is_eq r ≡ false
      by Less e = refl
      by Equal e = let same = ap is_lt (alike_right o x b y e) in cc
      by Greater e = refl

  -- what is not before x is tied with it where nothing that is tied with x comes before it
  tied_too : (y b x : K) → is_lt (R y b) ≡ false → is_lt (R b x) ≡ false → is_eq (R x y) ≡ true → is_eq (R x b) ≡ true
  tied_too y b x h k tied = by (R x b) refl
    where
      by : (r : Ordering) → R x b ≡ r → is_eq r ≡ true
      by Less e = let later = ap is_lt (o.congr x y b ((Equal-is (R x y)).0 tied)) ∙ h in cc
      by Equal e = refl
      by Greater e = let turned = ap is_lt (o.antisymm b x ∙ ap ordering_reverse e) in cc

-- x is the first of these and of b
record IsLeast (b : Found) (xs : List Found) (x : Found) : Type 0 where
  first : is_before b x ≡ false
  others : (y : Found) → Contains xs y → is_before y x ≡ false

least_more : (b y : Found) (ys : List Found) (x : Found) (t : Bool) → is_before y b ≡ t → IsLeast (cond t y b) ys x → IsLeast b (y ∷ ys) x
least_more b y ys x true e h = record {
  first = after_less order_total y b x e h.first;
  others = λ z m. elim (first_or_behind y ys z m) [ inl same ↦ subst (λ (w : Found). is_before w x ≡ false) same h.first | inr k ↦ h.others z k ];
}
least_more b y ys x false e h = record {
  first = h.first;
  others = λ z m. elim (first_or_behind y ys z m) [ inl same ↦ subst (λ (w : Found). is_before w x ≡ false) same (not_before order_total y b x e h.first) | inr k ↦ h.others z k ];
}

least_is : (b : Found) (xs : List Found) (x : Found) → least_of (Some b) xs ≡ Some x → IsLeast b xs x
least_is b [] x e =
    let same : b ≡ x = cc in
    record {
      first = subst (λ (z : Found). is_before b z ≡ false) same (not_before_itself order_total b);
      others = λ y m. absurd (no_member y m);
    }
least_is b (y ∷ ys) x e = least_more b y ys x (is_before y b) refl (least_is (lesser (Some b) y) ys x e)

-- the order does not tell them apart
abbrev pub is_tied : Found → Found → Bool
is_tied x y = is_eq (order x y)

-- of those that are tied with the first one it stands first
least_written : (b : Found) (xs : List Found) (x : Found) → least_of (Some b) xs ≡ Some x → find (is_tied x) (b ∷ xs) ≡ Some x
least_written b [] x e =
    let same : b ≡ x = cc in
    subst (λ (z : Found). cond (is_tied x z) (Some z) None ≡ Some x) (sym same)
    (ap (λ (t : Bool). cond t (Some x) None) (ap is_eq (tied_itself order_total x)))
least_written b (y ∷ ys) x e =
    by (is_before y b) refl (least_is (lesser (Some b) y) ys x e) (least_written (lesser (Some b) y) ys x e)
  where
    -- what is behind stays behind
    stays : is_before y b ≡ false → is_before b x ≡ false → is_tied x b ≡ false → (t : Bool) → is_tied x y ≡ t → t ≡ false
    stays later first apart false tied = refl
    stays later first apart true tied = let same = tied_too order_total y b x later first tied in cc

    either : is_before y b ≡ false → is_before b x ≡ false → (t : Bool) → is_tied x b ≡ t → cond t (Some b) (find (is_tied x) ys) ≡ Some x → cond t (Some b) (find (is_tied x) (y ∷ ys)) ≡ Some x
    either later first true tied found = found
    either later first false tied found =
        ap (λ (t : Bool). cond t (Some y) (find (is_tied x) ys)) (stays later first tied (is_tied x y) refl) ∙ found

    by : (t : Bool) → is_before y b ≡ t → IsLeast (cond t y b) ys x → find (is_tied x) (cond t y b ∷ ys) ≡ Some x → find (is_tied x) (b ∷ y ∷ ys) ≡ Some x
    by true e h found =
        ap (λ (t : Bool). cond t (Some b) (find (is_tied x) (y ∷ ys))) (untied order_total y b x e h.first) ∙ found
    by false e h found = either e h.first (is_tied x b) refl found

-- the first of a list: no other comes before it, and of those that are tied with it it stands first
pub record IsFirstOf (xs : List Found) (x : Found) : Type 0 where
  pub others : (y : Found) → Contains xs y → is_before y x ≡ false
  pub written : find (is_tied x) xs ≡ Some x

pub first_of : (xs : List Found) (x : Found) → least_of None xs ≡ Some x → IsFirstOf xs x
first_of [] x e = cc
first_of (y ∷ ys) x e =
    let h = least_is y ys x e in
    record {
      others = λ z m. elim (first_or_behind y ys z m) [ inl same ↦ subst (λ (w : Found). is_before w x ≡ false) same h.first | inr k ↦ h.others z k ];
      written = least_written y ys x e;
    }

some_least : (b : Found) (xs : List Found) → least_of (Some b) xs ≡ None → ⊥
some_least b [] e = cc
some_least b (x ∷ xs) e = some_least (lesser (Some b) x) xs e

-- where there is no first one there is none
pub none_of : (xs : List Found) → least_of None xs ≡ None → xs ≡ []
none_of [] e = refl
none_of (x ∷ xs) e = absurd (some_least x xs e)
