-- What prices come to.
use Rattle.std.specs.Prelude.{◌≡◌, ◌⊎◌, ℕ, ◌+◌, Option, Some, None, Result, Ok, Err, min, refl}
use Rattle.std.proofs.Common.{inl, inr, ap, ◌∙◌, sym, subst}
use Rattle.mh_laws.specs.Price.{Price, Nothing, One, Node, Plus, Most, Nodes}
use Rattle.mh_layers.specs.Known.{both, added, larger, known_worth, told, told_of, top}

-- what comes to something does so by its parts
parts_known : {E : Type 0} (f : ℕ → ℕ → ℕ) (x y : Result ℕ E) (c : ℕ) → both f x y ≡ Ok c → (a : ℕ) × (b : ℕ) × (x ≡ Ok a) × (y ≡ Ok b) × (f a b ≡ c)
parts_known f (Err e) y c h = absurd cc
parts_known f (Ok a) (Err e) c h = absurd cc
parts_known f (Ok a) (Ok b) c h = (a, b, refl, refl, cc)

part_waits : {E : Type 0} (f : ℕ → ℕ → ℕ) (x y : Result ℕ E) (e : E) → both f x y ≡ Err e → (x ≡ Err e) ⊎ (y ≡ Err e)
part_waits f (Err d) y e h = inl h
part_waits f (Ok a) (Err d) e h = inr h
part_waits f (Ok a) (Ok b) e h = absurd cc

pub known_same : {K E : Type 0} (f g : K → Result ℕ E) (p : Price K) → Nodes (λ k. f k ≡ g k) p → known_worth f p ≡ known_worth g p
known_same f g Nothing h = refl
known_same f g One h = refl
known_same f g (Node k) h = λ i. added (Ok 0) (h i)
known_same f g (Plus p q) h = λ i. added (known_same f g p h.0 i) (known_same f g q h.1 i)
known_same f g (Most p q) h = λ i. larger (known_same f g p h.0 i) (known_same f g q h.1 i)

one_sum : {E : Type 0} (x : Result ℕ E) (a b : ℕ) → x ≡ Ok a → x ≡ Ok b → a ≡ b
one_sum x a b h e = let both = sym h ∙ e in cc

-- what comes to something comes to it where no less is known
pub known_also : {K E F : Type 0} (f : K → Result ℕ E) (g : K → Result ℕ F) (p : Price K) (c : ℕ) → ((k : K) (a : ℕ) → f k ≡ Ok a → g k ≡ Ok a) → known_worth f p ≡ Ok c → known_worth g p ≡ Ok c
known_also f g Nothing c more e = ap Ok (one_sum (known_worth f Nothing) 0 c refl e)
known_also f g One c more e = ap Ok (one_sum (known_worth f One) 1 c refl e)
known_also f g (Node k) c more e =
    let h = parts_known (λ a b. min (a + b) top) (Ok 0) (f k) c e in
    (λ i. added (Ok (one_sum (Ok 0) 0 h.0 refl h.2 i)) (more k h.1 h.3 i)) ∙ ap Ok h.4
known_also f g (Plus p q) c more e =
    let h = parts_known _ (known_worth f p) (known_worth f q) c e in
    (λ i. added (known_also f g p h.0 more h.2 i) (known_also f g q h.1 more h.3 i)) ∙ ap Ok h.4
known_also f g (Most p q) c more e =
    let h = parts_known _ (known_worth f p) (known_worth f q) c e in
    (λ i. larger (known_also f g p h.0 more h.2 i) (known_also f g q h.1 more h.3 i)) ∙ ap Ok h.4

pub told_some : {K : Type 0} (k : K) (o : Option ℕ) (c : ℕ) → told_of k o ≡ Ok c → o ≡ Some c
told_some k (Some a) c e = let same : a ≡ c = cc in ap Some same
told_some k None c e = absurd cc

told_none : {K : Type 0} (k j : K) (o : Option ℕ) → told_of k o ≡ Err j → (k ≡ j) × (o ≡ None)
told_none k j (Some a) e = absurd cc
told_none k j None e = (cc, refl)

-- where a price comes to something, all that it counts is known
pub all_known : {K : Type 0} (cost : K → Option ℕ) (p : Price K) (c : ℕ) → known_worth (told cost) p ≡ Ok c → Nodes (λ k. (a : ℕ) × (cost k ≡ Some a)) p
all_known cost Nothing c e = tt
all_known cost One c e = tt
all_known cost (Node k) c e =
    let h = parts_known (λ a b. min (a + b) top) (Ok 0) (told cost k) c e in
    (h.1, told_some k (cost k) h.1 h.3)
all_known cost (Plus p q) c e =
    let h = parts_known _ (known_worth (told cost) p) (known_worth (told cost) q) c e in
    (all_known cost p h.0 h.2, all_known cost q h.1 h.3)
all_known cost (Most p q) c e =
    let h = parts_known _ (known_worth (told cost) p) (known_worth (told cost) q) c e in
    (all_known cost p h.0 h.2, all_known cost q h.1 h.3)

-- where it does not, what is told is one that it counts and that is not known
pub one_waits : {K : Type 0} (P : K → Type 0) (cost : K → Option ℕ) (p : Price K) (j : K) → Nodes P p → known_worth (told cost) p ≡ Err j → P j × (cost j ≡ None)
one_waits P cost Nothing j h e = absurd cc
one_waits P cost One j h e = absurd cc
one_waits {K} P cost (Node k) j h e = of (part_waits (λ a b. min (a + b) top) (Ok 0) (told cost k) j e)
  where
    by : (k ≡ j) × (cost k ≡ None) → P j × (cost j ≡ None)
    by s = subst (λ i. P i × (cost i ≡ None)) s.0 (h, s.1)

    first : Result ℕ K
    first = Ok 0

    of : (first ≡ Err j) ⊎ (told cost k ≡ Err j) → P j × (cost j ≡ None)
    of (inl never) = absurd cc
    of (inr waits) = by (told_none k j (cost k) waits)
one_waits P cost (Plus p q) j h e = of (part_waits _ (known_worth (told cost) p) (known_worth (told cost) q) j e) (one_waits P cost p j h.0) (one_waits P cost q j h.1)
  where
    of : (known_worth (told cost) p ≡ Err j) ⊎ (known_worth (told cost) q ≡ Err j) → (known_worth (told cost) p ≡ Err j → P j × (cost j ≡ None)) → (known_worth (told cost) q ≡ Err j → P j × (cost j ≡ None)) → P j × (cost j ≡ None)
    of (inl a) s t = s a
    of (inr b) s t = t b
one_waits P cost (Most p q) j h e = of (part_waits _ (known_worth (told cost) p) (known_worth (told cost) q) j e) (one_waits P cost p j h.0) (one_waits P cost q j h.1)
  where
    of : (known_worth (told cost) p ≡ Err j) ⊎ (known_worth (told cost) q ≡ Err j) → (known_worth (told cost) p ≡ Err j → P j × (cost j ≡ None)) → (known_worth (told cost) q ≡ Err j → P j × (cost j ≡ None)) → P j × (cost j ≡ None)
    of (inl a) s t = s a
    of (inr b) s t = t b
