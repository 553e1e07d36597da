-- All timers, each once: as a set of them is made from the last on, and as they are counted from the first on.
use Rattle.std.specs.Prelude.{◌≡◌, Bool, true, false, ◌||◌, if◌then◌else◌, cond, List, [], ◌∷◌, ◌++◌, filter, reverse, refl}
use Rattle.std.specs.List.{list_any}
use Rattle.std.specs.Ordering.{int_eq}
use Rattle.std.specs.Str.{bytes_eq}
use Rattle.std.proofs.Common.{ap, ◌∙◌, sym, subst, true≢false}
use Rattle.std.proofs.lemmas.Bool.Decides.{Decides-int_eq}
use Rattle.std.proofs.lemmas.List.{reverse-append}
use Rattle.std.proofs.lemmas.List.Folds.{list_any-append}
use Rattle.std.proofs.lemmas.List.Sums.{fold-append}
use Rattle.std.proofs.lemmas.Slice.Eq.{bytes_eq-Decides}
use Rattle.indexmap.specs.IndexSet.{insert_key, insert_all}
use Rattle.mh_model.proofs.ListLemmas.{and_left, and_right}
use Rattle.mh_laws.specs.Costs.{TimerKey, each_once, same_timer}

timer_one : (x y : TimerKey) → same_timer x y ≡ true → x ≡ y
timer_one x y e =
    let group : x.0 ≡ y.0 = (bytes_eq-Decides x.0 y.0).0 (and_left (bytes_eq x.0 y.0) (int_eq x.1 y.1) e) in
    let id : x.1 ≡ y.1 = (Decides-int_eq x.1 y.1).0 (and_right (bytes_eq x.0 y.0) (int_eq x.1 y.1) e) in
    λ i. (group i, id i)

-- whatever is among them is among them once
any_once : (x : TimerKey) (ts : List TimerKey) → list_any (same_timer x) (each_once ts) ≡ list_any (same_timer x) ts
any_once x [] = refl
any_once x (t ∷ ts) = by (list_any (same_timer t) ts) refl (same_timer x t) refl (any_once x ts)
  where
    by : (b : Bool) → list_any (same_timer t) ts ≡ b → (c : Bool) → same_timer x t ≡ c → list_any (same_timer x) (each_once ts) ≡ list_any (same_timer x) ts → list_any (same_timer x) (if b then each_once ts else t ∷ each_once ts) ≡ (c || list_any (same_timer x) ts)
    by true there true same behind =
        behind ∙ subst (λ (z : TimerKey). list_any (same_timer z) ts ≡ true) (sym (timer_one x t same)) there
    by true there false same behind = behind
    by false there c same behind = λ i. same i || behind i

or_turned : (a b : Bool) → (a || (b || false)) ≡ (b || a)
or_turned true true = refl
or_turned true false = refl
or_turned false true = refl
or_turned false false = refl

any_reversed : {X : Type 0} (t : X → Bool) (xs : List X) → list_any t (reverse xs) ≡ list_any t xs
any_reversed t [] = refl
any_reversed {X} t (x ∷ xs) =
    ap (λ (zs : List X). list_any t zs) (reverse-append (x ∷ []) xs) ∙ list_any-append t (reverse xs) (x ∷ [])
    ∙ ap (λ (b : Bool). b || (t x || false)) (any_reversed t xs) ∙ or_turned (list_any t xs) (t x)

-- the set that is made from the last on is the list from the first on, turned round
pub every_once : (ts : List TimerKey) → insert_all same_timer [] (reverse ts) ≡ reverse (each_once ts)
every_once [] = refl
every_once (t ∷ ts) =
    ap (λ (zs : List TimerKey). insert_all same_timer [] zs) (reverse-append (t ∷ []) ts)
    ∙ fold-append (insert_key same_timer) [] (reverse ts) (t ∷ []) ∙ ap (λ (ks : List TimerKey). insert_key same_timer ks t) (every_once ts)
    ∙ by (list_any (same_timer t) ts) refl
  where
    put : Bool → List TimerKey
    put b = cond b (reverse (each_once ts)) (reverse (each_once ts) ++ t ∷ [])

    found : list_any (same_timer t) (reverse (each_once ts)) ≡ list_any (same_timer t) ts
    found = any_reversed (same_timer t) (each_once ts) ∙ any_once t ts

    by : (b : Bool) → list_any (same_timer t) ts ≡ b → put (list_any (same_timer t) (reverse (each_once ts))) ≡ reverse (if b then each_once ts else t ∷ each_once ts)
    by true e = ap put (found ∙ e)
    by false e = ap put (found ∙ e) ∙ sym (reverse-append (t ∷ []) (each_once ts))

-- a test picks timers whether or not each is there once
any_filtered : (is : TimerKey → Bool) (x : TimerKey) (ts : List TimerKey) → is x ≡ true → list_any (same_timer x) (filter is ts) ≡ list_any (same_timer x) ts
any_filtered is x [] passed = refl
any_filtered is x (t ∷ ts) passed = by (is t) refl (same_timer x t) refl (any_filtered is x ts passed)
  where
    by : (b : Bool) → is t ≡ b → (c : Bool) → same_timer x t ≡ c → list_any (same_timer x) (filter is ts) ≡ list_any (same_timer x) ts → list_any (same_timer x) (cond b (t ∷ filter is ts) (filter is ts)) ≡ (c || list_any (same_timer x) ts)
    by true e c same behind = λ i. same i || behind i
    by false e false same behind = behind
    by false e true same behind = absurd (true≢false (sym passed ∙ ap is (timer_one x t same) ∙ e))

pub once_filtered : (is : TimerKey → Bool) (ts : List TimerKey) → filter is (each_once ts) ≡ each_once (filter is ts)
once_filtered is [] = refl
once_filtered is (t ∷ ts) = by (list_any (same_timer t) ts) refl (is t) refl (once_filtered is ts)
  where
    picked : Bool → List TimerKey
    picked b = cond b (t ∷ filter is (each_once ts)) (filter is (each_once ts))

    put : Bool → List TimerKey
    put b = if b then each_once (filter is ts) else t ∷ each_once (filter is ts)

    by : (b : Bool) → list_any (same_timer t) ts ≡ b → (c : Bool) → is t ≡ c → filter is (each_once ts) ≡ each_once (filter is ts) → filter is (if b then each_once ts else t ∷ each_once ts) ≡ each_once (cond c (t ∷ filter is ts) (filter is ts))
    by true e true passed behind = behind ∙ sym (ap put (any_filtered is t ts passed ∙ e))
    by true e false passed behind = behind
    by false e true passed behind =
        ap picked passed ∙ ap (λ (zs : List TimerKey). t ∷ zs) behind ∙ sym (ap put (any_filtered is t ts passed ∙ e))
    by false e false passed behind = ap picked passed ∙ behind
