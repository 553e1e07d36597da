-- The least flow is within each solution: nothing stands more often in its sets, and it reaches no others.
use Rattle.std.specs.Prelude.{◌≡◌, ◌≤◌, ◌+◌, Bool, true, false, ◌||◌, List, [], ◌∷◌, refl}
use Rattle.std.specs.List.{list_any}
use Rattle.std.specs.Ordering.{is_lt, ordering_reverse}
use Rattle.std.specs.declared.cmp.Ordering.{Ordering}
use Rattle.std.specs.declared.cmp.Ordering.TheVariants.{Less, Equal, Greater}
use Rattle.std.proofs.Common.{◌∙◌, arith, ap, sym, subst}
use Rattle.mh_base.specs.declared.obj_ref.ObjRef.{ObjRef}
use Rattle.mh_model.specs.declared.config.Config.{Config}
use Rattle.mh_model.specs.Reference.{same_ref}
use Rattle.mh_model.specs.Service.{Service}
use Rattle.mh_model.proofs.ListLemmas.{and_left}
use Rattle.mh_model.proofs.ServiceLemmas.{same_ref-same}
use Rattle.mh_laws.specs.Flow.{Flow, IsSolution, has, reached}
use Rattle.mh_laws.specs.Least.{Held, IsLeast, Reached, are_ascending, by_reference}
use Rattle.mh_laws.specs.Ways.{count_of, once}
use Rattle.mh_laws.proofs.LeastLemmas.{derived_in_each}
use Rattle.mh_laws.proofs.NodeLemmas.{among_is, config_among}
use Rattle.mh_laws.proofs.OnceLemmas.{holds_count}
use Rattle.mh_laws.proofs.SetLemmas.{same_itself}
use Rattle.mh_laws.proofs.SumLemmas.{IsCount}
use Rattle.mh_flow.proofs.OrderLemmas.{reference_total, skipped, tail_ascends}
use Rattle.mh_layers.proofs.CheapListLemmas.{Within, counted_within}

pub record IsWithin (least w : Flow) : Type 0 where
  pub sets : (c : Config) (r q : ObjRef) → count_of q (least.sets c r) ≤ count_of q (w.sets c r)
  pub configs : (c : Config) → reached least c ≡ true → reached w c ≡ true

pub count_refs : IsCount same_ref count_of
count_refs = record { none = λ q. refl; more = λ q y ys. refl; itself = same_itself; alike = same_ref-same }

pub set_within : (least w : Flow) → IsWithin least w → (c : Config) (r : ObjRef) → Within (least.sets c r) (w.sets c r)
set_within least w k c r = counted_within same_ref count_of count_refs (least.sets c r) (w.sets c r) (k.sets c r)

pub configs_within : (least w : Flow) → IsWithin least w → Within least.configs w.configs
configs_within least w k c there = config_among w.configs c (k.configs c (among_is least.configs c there))

-- Lists in their order have each reference once

never_before : (q : ObjRef) → is_lt (by_reference q q) ≡ false
never_before q = by (by_reference q q) refl
  where
    by : (o : Ordering) → by_reference q q ≡ o → is_lt o ≡ false
    by Less e = let never : Less ≡ Greater = sym e ∙ reference_total.antisymm q q ∙ ap ordering_reverse e in absurd cc
    by Equal e = refl
    by Greater e = refl

-- the first does not stand again behind itself
first_once : (q : ObjRef) (rs : List ObjRef) → are_ascending (q ∷ rs) ≡ true → count_of q rs ≡ 0
first_once q [] h = refl
first_once q (r ∷ rs) h = by (same_ref q r) refl (first_once q rs (skipped q r rs h))
  where
    by : (b : Bool) → same_ref q r ≡ b → count_of q rs ≡ 0 → count_of q (r ∷ rs) ≡ 0
    by true e behind =
        let before : is_lt (by_reference q r) ≡ true = and_left (is_lt (by_reference q r)) (are_ascending (r ∷ rs)) h in
        let again : is_lt (by_reference q q) ≡ true = subst (λ (x : ObjRef). is_lt (by_reference q x) ≡ true) (sym (same_ref-same q r e)) before in
        let never : false ≡ true = sym (never_before q) ∙ again in
        absurd cc
    by false e behind =
        let none : once (same_ref q r) ≡ 0 = ap once e in
        omega (arith, none, behind)

each_once : (q : ObjRef) (rs : List ObjRef) → are_ascending rs ≡ true → count_of q rs ≤ 1
each_once q [] h = omega arith
each_once q (r ∷ rs) h = by (same_ref q r) refl (each_once q rs (tail_ascends r rs h))
  where
    by : (b : Bool) → same_ref q r ≡ b → count_of q rs ≤ 1 → count_of q (r ∷ rs) ≤ 1
    by true e behind =
        let none : count_of q rs ≡ 0 = ap (λ (x : ObjRef). count_of x rs) (same_ref-same q r e) ∙ first_once r rs h in
        let one : once (same_ref q r) ≡ 1 = ap once e in
        omega (arith, none, one)
    by false e behind =
        let none : once (same_ref q r) ≡ 0 = ap once e in
        omega (arith, none, behind)

-- what is not in a list stands there no time
none_there : (q : ObjRef) (rs : List ObjRef) → list_any (same_ref q) rs ≡ false → count_of q rs ≡ 0
none_there q [] h = refl
none_there q (r ∷ rs) h = by (same_ref q r) h (none_there q rs)
  where
    by : (b : Bool) → (b || list_any (same_ref q) rs) ≡ false → (list_any (same_ref q) rs ≡ false → count_of q rs ≡ 0) → once b + count_of q rs ≡ 0
    by true h behind = absurd cc
    by false h behind = let none = behind h in omega (arith, none)

-- The least flow

pub least_within : (v : Service) (least w : Flow) → IsLeast v least → IsSolution v w → IsWithin least w
least_within v least w k solution =
    record {
      sets = λ c r q. fewer c r q (has (least.sets c) r q) refl;
      configs = λ c there. derived_in_each v w solution (Reached c) (k.reached c there);
    }
  where
    fewer : (c : Config) (r q : ObjRef) (b : Bool) → has (least.sets c) r q ≡ b → count_of q (least.sets c r) ≤ count_of q (w.sets c r)
    fewer c r q true e =
        let single = each_once q (least.sets c r) (k.ascending c r) in
        let there = holds_count (w.sets c r) q (derived_in_each v w solution (Held c r q) (k.held c r q e)) in
        omega (arith, single, there)
    fewer c r q false e =
        let none = none_there q (least.sets c r) e in
        omega (arith, none)
