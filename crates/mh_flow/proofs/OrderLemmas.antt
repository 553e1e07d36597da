-- References and configurations in their order.
use Rattle.std.proofs.Common.{◌≡◌, ℕ, suc, ◌+◌, true, false, List, [], ◌∷◌, slice_index_or, Some, refl, ap, sym, ◌∙◌, subst, arith}
use Rattle.std.specs.List.{IsDistinct}
use Rattle.std.specs.List.Sorted.{IsSortedBy}
use Rattle.std.specs.declared.cmp.Ordering.{Ordering}
use Rattle.std.specs.declared.cmp.Ordering.TheVariants.{Less, Equal, Greater}
use Rattle.std.specs.Ordering.{is_lt, nat_cmp, ordering_reverse, ordering_then}
use Rattle.std.specs.Cmp.{IsTotalOrder, nat_cmp_total, on_total, then_total, unsigned_po}
use Rattle.std.specs.Cmp.Derive.{both_true}
use Rattle.std.specs.Cmp.Lexicographic.{nat_list_cmp_total, options_total, slice_cmp, texts_po}
use Rattle.std.proofs.lemmas.Map.Keys.{IsDistinct-head, IsDistinct-tail}
use Rattle.mh_base.specs.declared.obj_ref.ObjRef.{ObjRef}
use Rattle.mh_model.specs.declared.config.Config.{Config}
use Rattle.mh_model.specs.Reference.{same_key, same_ref}
use Rattle.mh_laws.specs.Least.{are_ascending, by_reference}
use Rattle.mh_flow.specs.Orders.{by_config}
use Rattle.mh_flow.proofs.ChartLemmas.{key_is}
use Rattle.mh_flow.proofs.ContainsLemmas.{halves}

pub reference_total : IsTotalOrder by_reference
reference_total = then_total (on_total (λ (r : ObjRef). r.group) nat_list_cmp_total) (on_total (λ (r : ObjRef). r.number) nat_cmp_total)

pub config_total : IsTotalOrder by_config
config_total = then_total (on_total (λ (c : Config). c.app) nat_list_cmp_total) (on_total (λ (c : Config). c.scene) (options_total nat_list_cmp_total))

less_is : (o : Ordering) → is_lt o ≡ true → o ≡ Less
less_is Less e = refl
less_is Equal e = absurd cc
less_is Greater e = absurd cc

less_less : (a b c : ObjRef) → is_lt (by_reference a b) ≡ true → is_lt (by_reference b c) ≡ true → is_lt (by_reference a c) ≡ true
less_less a b c e f = ap is_lt (reference_total.trans a b c (less_is (by_reference a b) e) (less_is (by_reference b c) f))

-- without the second
pub skipped : (q r : ObjRef) (rs : List ObjRef) → are_ascending (q ∷ r ∷ rs) ≡ true → are_ascending (q ∷ rs) ≡ true
skipped q r [] h = refl
skipped q r (s ∷ rs) h =
    let first = halves (is_lt (by_reference q r)) (are_ascending (r ∷ s ∷ rs)) h in
    let second = halves (is_lt (by_reference r s)) (are_ascending (s ∷ rs)) first.1 in
    both_true (less_less q r s first.0 second.0) second.1

pub tail_ascends : (q : ObjRef) (rs : List ObjRef) → are_ascending (q ∷ rs) ≡ true → are_ascending rs ≡ true
tail_ascends q [] h = refl
tail_ascends q (r ∷ rs) h = (halves (is_lt (by_reference q r)) (are_ascending (r ∷ rs)) h).1

-- neither is before the other only where both are one
pub level_same : (q r : ObjRef) → by_reference q r ≡ Equal → same_ref q r ≡ true
level_same q r h = by (slice_cmp nat_cmp q.group r.group) refl h
  where
    by : (a : Ordering) → slice_cmp nat_cmp q.group r.group ≡ a → ordering_then a (nat_cmp q.number r.number) ≡ Equal → same_ref q r ≡ true
    by Less e h = cc
    by Greater e h = cc
    by Equal e h = both_true ((texts_po.matches_eq q.group r.group).1 (ap Some e)) ((unsigned_po.matches_eq q.number r.number).1 (ap Some h))

before_next : (q r : ObjRef) → is_lt (by_reference r q) ≡ false → same_key q r ≡ false → is_lt (by_reference q r) ≡ true
before_next q r behind other = by (by_reference q r) refl
  where
    by : (a : Ordering) → by_reference q r ≡ a → is_lt a ≡ true
    by Less e = refl
    by Equal e = let other_ref = sym (key_is q r) ∙ other in let one = level_same q r e in cc
    by Greater e = let less = ap is_lt (reference_total.antisymm r q ∙ ap ordering_reverse e) in cc

-- what is sorted and has each reference once ascends
pub ascending : (qs : List ObjRef) → IsSortedBy (λ x y. is_lt (by_reference x y)) qs → IsDistinct same_key qs → are_ascending qs ≡ true
ascending [] up once = refl
ascending (q ∷ []) up once = refl
ascending (q ∷ r ∷ rs) up once =
    both_true
    (before_next q r (up 0 q (omega arith) (omega arith)) (IsDistinct-head same_key q (r ∷ rs) once).0)
    (ascending (r ∷ rs) (λ k d low h. subst (λ (n : ℕ). is_lt (by_reference (slice_index_or (q ∷ r ∷ rs) n d) (slice_index_or (r ∷ rs) k d)) ≡ false) (moved k) (up (suc k) d (omega arith) (omega (arith, h)))) (IsDistinct-tail same_key q (r ∷ rs) once))
  where
    moved : (k : ℕ) → suc k + 1 ≡ suc (k + 1)
    moved k = omega arith
