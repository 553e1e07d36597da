-- Timers in the order of setting, as they change.
use Rattle.std.specs.Prelude.{◌≡◌, ℕ, ◌+◌, Bool, true, false, cond, nat_lt, ⊤, List, [], ◌∷◌, ◌++◌, filter, length, map, refl}
use Rattle.std.specs.declared.cmp.Ordering.{Ordering}
use Rattle.std.specs.declared.cmp.Ordering.TheVariants.{Less, Equal, Greater}
use Rattle.std.specs.BTreeMap.{insert_entry}
use Rattle.std.specs.List.{AllByRecursion}
use Rattle.std.specs.Ordering.{match_ordering, nat_cmp, ordering_then}
use Rattle.std.proofs.Common.{ap, ◌∙◌, sym, arith}
use Rattle.std.proofs.lemmas.Bool.Decides.{nat_tests}
use Rattle.std.proofs.lemmas.List.{length-map}
use Rattle.std.proofs.lemmas.Map.Lookups.{exact_unsigned}
use Rattle.mh_events.proofs.EachLemmas.{all_filter, all_mapped}
use Rattle.mh_model.specs.declared.time.Timer.{Timer}
use Rattle.mh_events.specs.declared.turn.Turn.{Turn}
use Rattle.mh_events.specs.Turns.{by_age, in_setting_order, put, turn_cmp}

-- What holds of each

pub all_put : (P : Turn × Timer → Type 0) (e : Turn × Timer) (l : List (Turn × Timer)) → P e → AllByRecursion P l → AllByRecursion P (put e l)
all_put P e [] here all = (here, cc)
all_put P e (x ∷ xs) here all = by (nat_lt x.0.number e.0.number) (all_put P e xs here all.1)
  where
    by : (b : Bool) → AllByRecursion P (put e xs) → AllByRecursion P (cond b (e ∷ x ∷ xs) (x ∷ put e xs))
    by true rest = (here, all)
    by false rest = (all.0, rest)

-- A new one

abbrev pub AreOlder : ℕ → List (Turn × Timer) → Type 0
AreOlder n l = AllByRecursion (λ x. nat_lt n x.0.number ≡ true) l

turned : (m n : ℕ) → nat_lt m n ≡ true → nat_lt n m ≡ false
turned m n h = grind (arith, nat_tests)

put_last : (e : Turn × Timer) (l : List (Turn × Timer)) → AreOlder e.0.number l → put e l ≡ l ++ e ∷ []
put_last e [] older = refl
put_last e (x ∷ xs) older = rw (turned e.0.number x.0.number older.0) (ap (λ (l : List (Turn × Timer)). x ∷ l) (put_last e xs older.1))

put_before : (e new : Turn × Timer) (l : List (Turn × Timer)) → nat_lt new.0.number e.0.number ≡ true → put e (l ++ new ∷ []) ≡ put e l ++ new ∷ []
put_before e new [] newer = rw newer refl
put_before e new (x ∷ xs) newer = by (put_before e new xs newer) (nat_lt x.0.number e.0.number)
  where
    by : put e (xs ++ new ∷ []) ≡ put e xs ++ new ∷ [] → (b : Bool) → cond b (e ∷ x ∷ (xs ++ new ∷ [])) (x ∷ put e (xs ++ new ∷ [])) ≡ cond b (e ∷ x ∷ xs) (x ∷ put e xs) ++ new ∷ []
    by rest true = refl
    by rest false = ap (λ (l : List (Turn × Timer)). x ∷ l) rest

age_before : (new : Turn × Timer) (l es : List (Turn × Timer)) → AreOlder new.0.number es → by_age (l ++ new ∷ []) es ≡ by_age l es ++ new ∷ []
age_before new l [] older = refl
age_before new l (e ∷ es) older =
    ap (λ (m : List (Turn × Timer)). by_age m es) (put_before e new l older.0) ∙ age_before new (put e l) es older.1

pub both_equal : (o p : Ordering) → ordering_then o p ≡ Equal → (o ≡ Equal) × (p ≡ Equal)
both_equal Less p is = absurd cc
both_equal Equal p is = (refl, is)
both_equal Greater p is = absurd cc

pub unlike : (u v : Turn) → nat_lt u.number v.number ≡ true → turn_cmp u v ≡ Equal → ⊥
unlike u v less same =
    let one = exact_unsigned u.number v.number (both_equal (nat_cmp u.due v.due) (nat_cmp u.number v.number) same).1 in
    grind (arith, nat_tests)

-- the newest stands last
pub age_insert : (u : Turn) (t : Timer) (l es : List (Turn × Timer)) → AreOlder u.number l → AreOlder u.number es → by_age l (insert_entry turn_cmp es u t) ≡ by_age l es ++ (u, t) ∷ []
age_insert u t l [] first older = put_last (u, t) l first
age_insert u t l (e ∷ es) first older =
    by (age_insert u t (put e l) es (all_put (λ x. nat_lt u.number x.0.number ≡ true) e l older.0 first) older.1) (turn_cmp u e.0) refl
  where
    by : by_age (put e l) (insert_entry turn_cmp es u t) ≡ by_age (put e l) es ++ (u, t) ∷ [] → (o : Ordering) → turn_cmp u e.0 ≡ o
        → by_age l (match_ordering o ((u, t) ∷ e ∷ es) ((e.0, t) ∷ es) (e ∷ insert_entry turn_cmp es u t)) ≡ by_age l (e ∷ es) ++ (u, t) ∷ []
    by rest Less is = ap (λ (m : List (Turn × Timer)). by_age m (e ∷ es)) (put_last (u, t) l first) ∙ age_before (u, t) l (e ∷ es) older
    by rest Equal is = absurd (unlike u e.0 older.0 is)
    by rest Greater is = rest

-- Some that go

-- none stands in front of an older one
abbrev pub IsByAge : List (Turn × Timer) → Type 0
IsByAge [] = ⊤
IsByAge (x ∷ xs) = AllByRecursion (λ y. nat_lt x.0.number y.0.number ≡ false) xs × IsByAge xs

past : (x e y : ℕ) → nat_lt x e ≡ true → nat_lt x y ≡ false → nat_lt e y ≡ false
past x e y one two = grind (arith, nat_tests)

put_by_age : (e : Turn × Timer) (l : List (Turn × Timer)) → IsByAge l → IsByAge (put e l)
put_by_age e [] sorted = (cc, cc)
put_by_age e (x ∷ xs) sorted = by (put_by_age e xs sorted.1) (nat_lt x.0.number e.0.number) refl
  where
    by : IsByAge (put e xs) → (b : Bool) → nat_lt x.0.number e.0.number ≡ b → IsByAge (cond b (e ∷ x ∷ xs) (x ∷ put e xs))
    by rest true is = ((turned x.0.number e.0.number is, all_mapped (λ y. nat_lt x.0.number y.0.number ≡ false) (λ y. nat_lt e.0.number y.0.number ≡ false) xs (λ y h. past x.0.number e.0.number y.0.number is h) sorted.0), sorted)
    by rest false is = (all_put (λ y. nat_lt x.0.number y.0.number ≡ false) e xs is sorted.0, rest)

pub age_by_age : (l es : List (Turn × Timer)) → IsByAge l → IsByAge (by_age l es)
age_by_age l [] sorted = sorted
age_by_age l (e ∷ es) sorted = age_by_age (put e l) es (put_by_age e l sorted)

put_first : (e : Turn × Timer) (l : List (Turn × Timer)) → AllByRecursion (λ x. nat_lt x.0.number e.0.number ≡ true) l → put e l ≡ e ∷ l
put_first e [] newer = refl
put_first e (x ∷ xs) newer = rw newer.0 refl

behind : (x e y : ℕ) → nat_lt x e ≡ true → nat_lt x y ≡ false → nat_lt y e ≡ true
behind x e y one two = grind (arith, nat_tests)

filter_put : (p : Turn × Timer → Bool) (e : Turn × Timer) (l : List (Turn × Timer)) → IsByAge l → filter p (put e l) ≡ cond (p e) (put e (filter p l)) (filter p l)
filter_put p e [] sorted = by (p e)
  where
    by : (b : Bool) → cond b (e ∷ []) [] ≡ cond b (e ∷ []) []
    by b = refl
filter_put p e (x ∷ xs) sorted = by (nat_lt x.0.number e.0.number) refl (filter_put p e xs sorted.1)
  where
    stays : filter p (put e xs) ≡ cond (p e) (put e (filter p xs)) (filter p xs) → nat_lt x.0.number e.0.number ≡ false → (b c : Bool)
        → cond c (x ∷ cond b (put e (filter p xs)) (filter p xs)) (cond b (put e (filter p xs)) (filter p xs)) ≡ cond b (put e (cond c (x ∷ filter p xs) (filter p xs))) (cond c (x ∷ filter p xs) (filter p xs))
    stays rest is true true = rw is refl
    stays rest is true false = refl
    stays rest is false true = refl
    stays rest is false false = refl

    newer : nat_lt x.0.number e.0.number ≡ true → AllByRecursion (λ y. nat_lt y.0.number e.0.number ≡ true) (x ∷ xs)
    newer is = (is, all_mapped (λ y. nat_lt x.0.number y.0.number ≡ false) (λ y. nat_lt y.0.number e.0.number ≡ true) xs (λ y h. behind x.0.number e.0.number y.0.number is h) sorted.0)

    by : (b : Bool) → nat_lt x.0.number e.0.number ≡ b → filter p (put e xs) ≡ cond (p e) (put e (filter p xs)) (filter p xs)
        → filter p (cond b (e ∷ x ∷ xs) (x ∷ put e xs)) ≡ cond (p e) (put e (filter p (x ∷ xs))) (filter p (x ∷ xs))
    by true is rest = ap (λ (l : List (Turn × Timer)). cond (p e) l (filter p (x ∷ xs)))
        (sym (put_first e (filter p (x ∷ xs)) (all_filter (λ y. nat_lt y.0.number e.0.number ≡ true) p (x ∷ xs) (newer is))))
    by false is rest = ap (λ (l : List (Turn × Timer)). cond (p x) (x ∷ l) l) rest ∙ stays rest is (p e) (p x)

pub filter_age : (p : Turn × Timer → Bool) (l es : List (Turn × Timer)) → IsByAge l → filter p (by_age l es) ≡ by_age (filter p l) (filter p es)
filter_age p l [] sorted = refl
filter_age p l (e ∷ es) sorted =
    filter_age p (put e l) es (put_by_age e l sorted)
    ∙ ap (λ (m : List (Turn × Timer)). by_age m (filter p es)) (filter_put p e l sorted)
    ∙ by (p e)
  where
    by : (b : Bool) → by_age (cond b (put e (filter p l)) (filter p l)) (filter p es) ≡ by_age (filter p l) (cond b (e ∷ filter p es) (filter p es))
    by true = refl
    by false = refl

timers_filtered : (q : Timer → Bool) (l : List (Turn × Timer)) → map (λ e. e.1) (filter (λ e. q e.1) l) ≡ filter q (map (λ e. e.1) l)
timers_filtered q [] = refl
timers_filtered q (e ∷ es) = by (timers_filtered q es) (q e.1)
  where
    by : map (λ e. e.1) (filter (λ e. q e.1) es) ≡ filter q (map (λ e. e.1) es) → (b : Bool)
        → map (λ e. e.1) (cond b (e ∷ filter (λ e. q e.1) es) (filter (λ e. q e.1) es)) ≡ cond b (e.1 ∷ filter q (map (λ e. e.1) es)) (filter q (map (λ e. e.1) es))
    by rest true = ap (λ (l : List Timer). e.1 ∷ l) rest
    by rest false = rest

-- those that stay keep their order
pub order_kept : (q : Timer → Bool) (es : List (Turn × Timer)) → in_setting_order (filter (λ e. q e.1) es) ≡ filter q (in_setting_order es)
order_kept q es = ap (λ (l : List (Turn × Timer)). map (λ e. e.1) l) (sym (filter_age (λ e. q e.1) [] es cc)) ∙ timers_filtered q (by_age [] es)

length_put : (e : Turn × Timer) (l : List (Turn × Timer)) → length (put e l) ≡ 1 + length l
length_put e [] = refl
length_put e (x ∷ xs) = by (length_put e xs) (nat_lt x.0.number e.0.number)
  where
    by : length (put e xs) ≡ 1 + length xs → (b : Bool) → length (cond b (e ∷ x ∷ xs) (x ∷ put e xs)) ≡ 1 + length (x ∷ xs)
    by rest true = omega arith
    by rest false = omega (arith, rest)

length_age : (l es : List (Turn × Timer)) → length (by_age l es) ≡ length l + length es
length_age l [] = omega arith
length_age l (e ∷ es) = let rest = length_age (put e l) es in let one = length_put e l in omega (arith, rest, one)

pub length_in_order : (es : List (Turn × Timer)) → length (in_setting_order es) ≡ length es
length_in_order es =
    let one : length (in_setting_order es) ≡ length (by_age [] es) = length-map (by_age [] es) (λ e. e.1) in
    let whole = length_age [] es in
    omega (arith, one, whole)
