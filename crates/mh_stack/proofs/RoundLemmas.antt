-- What the methods of a ring make of its links.
use Rattle.std.proofs.Common.{◌≡◌, ◌≢◌, ◌⊎◌, inl, inr, ℕ, ◌+◌, ◌-◌, ◌≤◌, ◌<◌, Bool, true, false, not, nat_eq, List, [], ◌∷◌, ◌++◌, length, reverse, set, slice_set, refl, sym, ap, ◌∙◌, subst, arith, eqb-true, length-append, length-set}
use Rattle.std.specs.List.{list_any}
use Rattle.std.proofs.lemmas.Bool.{both_ways, cases_eq, eqb-false}
use Rattle.mh_stack.specs.Rings.{AreIn, next, walk, order, IsApart, IsRing, IsRound, Round, without_number, put_below, put_above}
use Rattle.mh_stack.proofs.LineLemmas.{any_apart, apart_any, apart_zero, below_none, above_none, above_is_below, without_apart}
use Rattle.mh_stack.proofs.RingLemmas.{IsSetTwice, set_twice, touched, inside, grown, unlinked, linked, is_linked, is_alone, no_zero, few, all_within, downward}

-- What is told.

pub few_told : (r : Round) → IsRound r → r.count ≤ length r.above
few_told r known = few r.above (next r.below) r.count known.1

pub within_told : (r : Round) → IsRound r → AreIn (length r.above) (order r)
within_told r known = all_within r.above (next r.below) r.count known.1

pub down_told : (r : Round) → IsRound r → walk (next r.below) r.count 0 ≡ reverse (order r)
down_told r known = downward (next r.above) (next r.below) r.count known.1

pub has_told : (r : Round) (k v : ℕ) → IsRound r → k ≢ 0 → v ≡ next r.above k → not (nat_eq v k) ≡ list_any (nat_eq k) (order r)
has_told r k v known some is = by (nat_eq v k) refl
  where
    by : (b : Bool) → nat_eq v k ≡ b → not (nat_eq v k) ≡ list_any (nat_eq k) (order r)
    by true e = rw e (sym (is_alone (next r.above) (next r.below) r.count k known.1 some (sym is ∙ eqb-true v k e)))
    by false e = rw e (sym (is_linked (next r.above) (next r.below) r.count k known.1 some (λ same. eqb-false v k e (is ∙ same))))

pub zero_told : (r : Round) (k : ℕ) → IsRound r → k ≡ 0 → not (nat_eq k 0) ≡ list_any (nat_eq k) (order r)
zero_told r k known is = subst (λ (n : ℕ). not (nat_eq n 0) ≡ list_any (nat_eq n) (order r)) (sym is) (sym (no_zero (next r.above) (next r.below) r.count known.1))

-- what is in the order is not 0, and leads elsewhere
pub some_told : (r : Round) (k : ℕ) → IsRound r → list_any (nat_eq k) (order r) ≡ true → k ≢ 0
some_told r k known there low = both_ways _ (subst (λ (n : ℕ). list_any (nat_eq n) (order r) ≡ false) (sym low) (no_zero (next r.above) (next r.below) r.count known.1)) there

pub moves_told : (r : Round) (k : ℕ) → IsRound r → list_any (nat_eq k) (order r) ≡ true → next r.above k ≢ k
moves_told r k known there same = both_ways _ (is_alone (next r.above) (next r.below) r.count k known.1 (some_told r k known there) same) there

-- One more link.

pub pushed : (r s : Round) (k : ℕ) (xs ys : List ℕ) → s ≡ r → IsRound s → k ≡ length s.above → xs ≡ s.above ++ k ∷ [] → ys ≡ s.below ++ k ∷ [] → (length ys ≡ length xs) × IsRing (next xs) (next ys) s.count
pushed r s k xs ys same known is up down = (
  ap length down ∙ length-append s.below (k ∷ []) ∙ ap (λ (n : ℕ). n + 1) known.0 ∙ sym (length-append s.above (k ∷ [])) ∙ sym (ap length up),
  subst (λ (f : ℕ → ℕ). IsRing f (next ys) s.count) (sym above) (subst (λ (g : ℕ → ℕ). IsRing (next s.above) g s.count) (sym below) known.1),
)
  where
    above : next xs ≡ next s.above
    above = ap next (up ∙ ap (λ (n : ℕ). s.above ++ n ∷ []) is) ∙ grown s.above

    below : next ys ≡ next s.below
    below = ap next (down ∙ ap (λ (n : ℕ). s.below ++ n ∷ []) (is ∙ sym known.0)) ∙ grown s.below

-- One is taken out.

pub unlinked_round : (r s : Round) (k o u : ℕ) (xs1 xs ys1 ys : List ℕ) → s ≡ r → IsRound s → k ≢ 0 → next r.above k ≢ k → o ≡ next r.above k → u ≡ next r.below k
    → xs1 ≡ slice_set s.above u o → xs ≡ slice_set xs1 k k → ys1 ≡ slice_set s.below o u → ys ≡ slice_set ys1 k k
    → ((length ys ≡ length xs) × IsRing (next xs) (next ys) (s.count - 1)) × (walk (next xs) (s.count - 1) 0 ≡ without_number k (order r))
unlinked_round r s k o u xs1 xs ys1 ys same known some moves over under first up second down = ((long, done.0), done.1 ∙ ap (λ (t : Round). without_number k (order t)) same)
  where
    f : ℕ → ℕ
    f = next s.above

    g : ℕ → ℕ
    g = next s.below

    moving : f k ≡ k → ⊥
    moving e = moves (ap (λ (t : Round). next t.above k) (sym same) ∙ e)

    o_is : o ≡ f k
    o_is = over ∙ ap (λ (t : Round). next t.above k) (sym same)

    u_is : u ≡ g k
    u_is = under ∙ ap (λ (t : Round). next t.below k) (sym same)

    in_above : k < length s.above
    in_above = touched s.above k moving

    in_below : k < length s.below
    in_below = omega (arith, in_above, known.0)

    xs_is : xs ≡ set (set s.above (g k) (f k)) k k
    xs_is = up ∙ ap (λ (zs : List ℕ). set zs k k) (first ∙ λ i. set s.above (u_is i) (o_is i))

    ys_is : ys ≡ set (set s.below (f k) (g k)) k k
    ys_is = down ∙ ap (λ (zs : List ℕ). set zs k k) (second ∙ λ i. set s.below (o_is i) (u_is i))

    long : length ys ≡ length xs
    long = ap length ys_is ∙ length-set (set s.below (f k) (g k)) k k ∙ length-set s.below (f k) (g k) ∙ known.0
        ∙ sym (length-set s.above (g k) (f k)) ∙ sym (length-set (set s.above (g k) (f k)) k k) ∙ sym (ap length xs_is)

    g_in : g k < length s.above
    g_in = let h = inside s.below s.above k known.1.forth (sym known.0) in_below in omega (arith, h, known.0)

    f_in : f k < length s.below
    f_in = let h = inside s.above s.below k known.1.back known.0 in_above in omega (arith, h, known.0)

    done : IsRing (next xs) (next ys) (s.count - 1) × (walk (next xs) (s.count - 1) 0 ≡ without_number k (walk f s.count 0))
    done = unlinked f g (next xs) (next ys) s.count k known.1 some moving
        (subst (λ (zs : List ℕ). IsSetTwice f (next zs) (g k) (f k) k k) (sym xs_is) (set_twice s.above (g k) (f k) k k g_in in_above))
        (subst (λ (zs : List ℕ). IsSetTwice g (next zs) (f k) (g k) k k) (sym ys_is) (set_twice s.below (f k) (g k) k k f_in in_below))

-- One is put in.

over_in : (s : Round) (k b : ℕ) → IsRound s → k < length s.above → (list_any (nat_eq b) (order s) ≡ false → b ≡ 0) → b < length s.above
over_in s k b known low there = by (cases_eq b 0) (cases_eq (next s.above b) b)
  where
    by : (b ≡ 0) ⊎ (b ≡ 0 → ⊥) → (next s.above b ≡ b) ⊎ (next s.above b ≡ b → ⊥) → b < length s.above
    by (inl is) _ = omega (arith, is, low)
    by (inr some) (inl stays) = absurd (some (there (is_alone (next s.above) (next s.below) s.count b known.1 some stays)))
    by (inr some) (inr moves) = touched s.above b moves

turn : (r s : Round) (b : ℕ) → s ≡ r → (list_any (nat_eq b) (order r) ≡ false → b ≡ 0) → list_any (nat_eq b) (order s) ≡ false → b ≡ 0
turn r s b same there none = there (ap (λ (t : Round). list_any (nat_eq b) (order t)) (sym same) ∙ none)

pub link_bounds : (r s : Round) (k b u : ℕ) → s ≡ r → IsRound s → k < length r.above → (list_any (nat_eq b) (order r) ≡ false → b ≡ 0) → u ≡ next r.below b
    → (u < length s.above) × (b < length (slice_set s.below k u)) × (k < length s.above)
link_bounds r s k b u same known low there under = (
  subst (λ (n : ℕ). n < length s.above) (sym u_is) (omega (arith, inside s.below s.above b known.1.forth (sym known.0) in_below, known.0)),
  subst (λ (n : ℕ). b < n) (sym (length-set s.below k u)) in_below,
  here,
)
  where
    here : k < length s.above
    here = subst (λ (t : Round). k < length t.above) (sym same) low

    u_is : u ≡ next s.below b
    u_is = under ∙ ap (λ (t : Round). next t.below b) (sym same)

    in_below : b < length s.below
    in_below = let h = over_in s k b known here (turn r s b same there) in omega (arith, h, known.0)

pub linked_round : (r s : Round) (k b u : ℕ) (xs1 xs ys1 ys : List ℕ) → s ≡ r → IsRound s → k ≢ 0 → k < length r.above → list_any (nat_eq k) (order r) ≡ false
    → (list_any (nat_eq b) (order r) ≡ false → b ≡ 0) → u ≡ next r.below b
    → xs1 ≡ slice_set s.above u k → xs ≡ slice_set xs1 k b → ys1 ≡ slice_set s.below k u → ys ≡ slice_set ys1 b k
    → ((length ys ≡ length xs) × IsRing (next xs) (next ys) (s.count + 1)) × (walk (next xs) (s.count + 1) 0 ≡ put_below k b (order r)) × (s.count + 1 ≤ length s.above)
linked_round r s k b u xs1 xs ys1 ys same known some low new there under first up second down =
    ((long, done.0), done.1 ∙ ap (λ (t : Round). put_below k b (order t)) same, omega (arith, few xs (next ys) (s.count + 1) done.0, xs_long))
  where
    f : ℕ → ℕ
    f = next s.above

    g : ℕ → ℕ
    g = next s.below

    here : k < length s.above
    here = subst (λ (t : Round). k < length t.above) (sym same) low

    below : k < length s.below
    below = omega (arith, here, known.0)

    b_in : b < length s.above
    b_in = over_in s k b known here (turn r s b same there)

    b_below : b < length s.below
    b_below = omega (arith, b_in, known.0)

    g_in : g b < length s.above
    g_in = let h = inside s.below s.above b known.1.forth (sym known.0) b_below in omega (arith, h, known.0)

    u_is : u ≡ g b
    u_is = under ∙ ap (λ (t : Round). next t.below b) (sym same)

    xs_is : xs ≡ set (set s.above (g b) k) k b
    xs_is = up ∙ ap (λ (zs : List ℕ). set zs k b) (first ∙ ap (λ (n : ℕ). set s.above n k) u_is)

    ys_is : ys ≡ set (set s.below k (g b)) b k
    ys_is = down ∙ ap (λ (zs : List ℕ). set zs b k) (second ∙ ap (λ (n : ℕ). set s.below k n) u_is)

    xs_long : length xs ≡ length s.above
    xs_long = ap length xs_is ∙ length-set (set s.above (g b) k) k b ∙ length-set s.above (g b) k

    long : length ys ≡ length xs
    long = ap length ys_is ∙ length-set (set s.below k (g b)) b k ∙ length-set s.below k (g b) ∙ known.0 ∙ sym xs_long

    stays : f k ≡ k
    stays = known.1.alone k some (any_apart k (order s) (ap (λ (t : Round). list_any (nat_eq k) (order t)) same ∙ new))

    done : IsRing (next xs) (next ys) (s.count + 1) × (walk (next xs) (s.count + 1) 0 ≡ put_below k b (walk f s.count 0))
    done = linked f g (next xs) (next ys) s.count k b known.1 some stays (λ apart. turn r s b same there (apart_any b (order s) apart))
        (subst (λ (zs : List ℕ). IsSetTwice f (next zs) (g b) k k b) (sym xs_is) (set_twice s.above (g b) k k b g_in here))
        (subst (λ (zs : List ℕ). IsSetTwice g (next zs) k (g b) b k) (sym ys_is) (set_twice s.below k (g b) b k below b_below))

-- Where one is put.

zero_apart : (r : Round) → IsRound r → IsApart 0 (order r)
zero_apart r known = apart_zero (next r.above) 0 (order r) known.1.line

pub top_order : (r : Round) (k : ℕ) → IsRound r → put_below k 0 (order r) ≡ order r ++ k ∷ []
top_order r k known = below_none k 0 (order r) (zero_apart r known)

pub below_order : (r : Round) (k o : ℕ) → IsRound r → list_any (nat_eq o) (order r) ≡ false → put_below k 0 (order r) ≡ put_below k o (order r)
below_order r k o known none = top_order r k known ∙ sym (below_none k o (order r) (any_apart o (order r) none))

pub above_order : (r : Round) (k o v : ℕ) → IsRound r → list_any (nat_eq o) (order r) ≡ true → v ≡ next r.above o → put_below k v (order r) ≡ put_above k o (order r)
above_order r k o v known there is =
    ap (λ (n : ℕ). put_below k n (order r)) is
    ∙ above_is_below (next r.above) (next r.below) k o known.1.back 0 (order r) (λ same. some_told r o known there (sym same)) (λ apart. both_ways _ (apart_any o (order r) apart) there) known.1.line

pub above_none_order : (r : Round) (k o : ℕ) → IsRound r → list_any (nat_eq o) (order r) ≡ false → put_below k 0 (order r) ≡ put_above k o (order r)
above_none_order r k o known none = top_order r k known ∙ sym (above_none k o (order r) (any_apart o (order r) none))

pub none_order : (r : Round) (k : ℕ) → list_any (nat_eq k) (order r) ≡ false → order r ≡ without_number k (order r)
none_order r k none = sym (without_apart k (order r) (any_apart k (order r) none))
