-- The members of sets, and what is put in.
use Rattle.std.specs.Prelude.{◌≡◌, ◌≢◌, ◌⊎◌, ℕ, zero, suc, ◌+◌, ◌*◌, ◌/◌, ◌%◌, ◌^◌, ◌<◌, ◌≤◌, ◌==◌, ◌&&◌, ◌||◌, not, nat_eq, nat_lt, Bool, true, false, List, [], ◌∷◌, ◌++◌, length, refl}
use Rattle.std.specs.Int.{bit_at, trailing_zeros}
use Rattle.std.specs.List.{Contains}
use Rattle.std.proofs.Common.{rules, arith, inl, inr, ap, ◌∙◌, sym, subst, w64, eqb-true, length-append}
use Rattle.std.proofs.lemmas.Bool.Decides.{nat_tests}
use Rattle.std.proofs.lemmas.List.Elements.{Contains-append_left, Contains-append_right, Contains-append_cases}
use Rattle.std.proofs.lemmas.Nat.Bits.{bit_at-zero, bit_at-trailing_zeros, bit_at_set_same, bit_at_set_other}
use Rattle.mh_flow.specs.Rows.{row, width_at, is_at, has, free, in_word, IsWord, LaidOut, WordPut, Emptied}
use Rattle.mh_flow.specs.Membership.{MemberRows, AreMembers, IsPut, IsReady, IsTaken, IsNew}
use Rattle.mh_flow.proofs.BitLemmas.{elsewhere}

-- Truth values.

and_both : (n a b : Bool) → ((n && a) || (n && b)) ≡ (n && (a || b))
and_both true a b = refl
and_both false a b = refl

or_new : (k c : Bool) → (k || (c && not k)) ≡ (k || c)
or_new true c = refl
or_new false true = refl
or_new false false = refl

or_false : (k : Bool) → k ≡ (k || false)
or_false true = refl
or_false false = refl

and_false : (n : Bool) → (n && false) ≡ false
and_false true = refl
and_false false = refl

absorbed : (k n l : Bool) → (k || (n && (l && k))) ≡ k
absorbed true n l = refl
absorbed false true true = refl
absorbed false true false = refl
absorbed false false l = refl

joined : (k p q : Bool) → ((k || p) || q) ≡ (k || (p || q))
joined true p q = refl
joined false p q = refl

fresh_joined : (f k p q : Bool) → ((f || (p && not k)) || (q && not (k || p))) ≡ (f || ((p || q) && not k))
fresh_joined true k p q = refl
fresh_joined false true true true = refl
fresh_joined false true true false = refl
fresh_joined false true false true = refl
fresh_joined false true false false = refl
fresh_joined false false true true = refl
fresh_joined false false true false = refl
fresh_joined false false false true = refl
fresh_joined false false false false = refl

either_known : (f k c : Bool) → (f ≡ true → k ≡ true) → (f || c) ≡ true → (k || c) ≡ true
either_known f true c h e = refl
either_known true false c h e = let never = h refl in absurd cc
either_known false false c h e = e

-- What is put in.

pub same_put : (m : MemberRows) (come : ℕ → ℕ → Bool) → ((u q : ℕ) → come u q ≡ false) → IsPut m m come
same_put m come none = record {
  words = refl;
  height = refl;
  known = λ u q. or_false (has m.known u q) ∙ (λ i. has m.known u q || sym (none u q) i);
  fresh = λ u q. or_false (has m.fresh u q) ∙ (λ i. has m.fresh u q || (sym (none u q) i && not (has m.known u q)));
  less = omega arith;
}

pub then_put : (a b c : MemberRows) (f g : ℕ → ℕ → Bool) → IsPut a b f → IsPut b c g → IsPut a c (λ u q. f u q || g u q)
then_put a b c f g s t = record {
  words = t.words ∙ s.words;
  height = t.height ∙ s.height;
  known = λ u q. t.known u q ∙ (λ i. s.known u q i || g u q) ∙ joined (has a.known u q) (f u q) (g u q);
  fresh = λ u q. t.fresh u q ∙ (λ i. s.fresh u q i || (g u q && not (s.known u q i))) ∙ fresh_joined (has a.fresh u q) (has a.known u q) (f u q) (g u q);
  less = omega (arith, s.less, t.less);
}

pub put_as : (a b : MemberRows) (f g : ℕ → ℕ → Bool) → ((u q : ℕ) → f u q ≡ g u q) → IsPut a b f → IsPut a b g
put_as a b f g same s = record {
  words = s.words;
  height = s.height;
  known = λ u q. s.known u q ∙ (λ i. has a.known u q || same u q i);
  fresh = λ u q. s.fresh u q ∙ (λ i. has a.fresh u q || (same u q i && not (has a.known u q)));
  less = s.less;
}

-- A word.

pub at_word : (at q : ℕ) → q / 64 ≡ at → 64 * at + q % 64 ≡ q
at_word at q e = omega (arith, e)

new_word : (bits word new at q : ℕ) (bs : List Bool) → IsNew bits word new → IsWord bs at word → in_word at new q ≡ (in_word at bits q && not (is_at bs q))
new_word bits word new at q bs is there = by (nat_eq (q / 64) at) refl
  where
    by : (b : Bool) → nat_eq (q / 64) at ≡ b → (b && (bit_at new (q % 64) == 1)) ≡ ((b && (bit_at bits (q % 64) == 1)) && not (is_at bs q))
    by false e = refl
    by true e =
        let same : q / 64 ≡ at = eqb-true (q / 64) at e in
        let small : q % 64 < 64 = omega arith in
        is (q % 64) small
        ∙ ap (λ (b : Bool). (bit_at bits (q % 64) == 1) && not b) (sym (there (q % 64) small) ∙ ap (λ (x : ℕ). is_at bs x) (at_word at q same))

no_word : (at q : ℕ) → in_word at 0 q ≡ false
no_word at q = ap (λ (n : ℕ). nat_eq (q / 64) at && (n == 1)) (bit_at-zero (q % 64)) ∙ and_false (nat_eq (q / 64) at)

come_new : (rows : List (List Bool)) (node at bits word new u q : ℕ) → IsNew bits word new → IsWord (row rows node) at word
    → (nat_eq u node && in_word at new q) ≡ ((nat_eq u node && in_word at bits q) && not (has rows u q))
come_new rows node at bits word new u q is there = by (nat_eq u node) refl
  where
    by : (b : Bool) → nat_eq u node ≡ b → (b && in_word at new q) ≡ ((b && in_word at bits q) && not (has rows u q))
    by false e = refl
    by true e = new_word bits word new at q (row rows node) is there ∙ ap (λ (x : ℕ). in_word at bits q && not (has rows x q)) (sym (eqb-true u node e))

-- nothing of the word is new
pub put_none : (m : MemberRows) (node at bits word new : ℕ) → IsNew bits word new → IsWord (row m.known node) at word → new ≡ 0 → IsPut m m (λ u q. nat_eq u node && in_word at bits q)
put_none m node at bits word new is there e = record {
  words = refl;
  height = refl;
  known = λ u q. or_false (has m.known u q) ∙ (λ i. has m.known u q || sym (nothing u q) i) ∙ or_new (has m.known u q) (nat_eq u node && in_word at bits q);
  fresh = λ u q. or_false (has m.fresh u q) ∙ (λ i. has m.fresh u q || sym (nothing u q) i);
  less = omega arith;
}
  where
    nothing : (u q : ℕ) → ((nat_eq u node && in_word at bits q) && not (has m.known u q)) ≡ false
    nothing u q =
        sym (come_new m.known node at bits word new u q is there) ∙ ap (λ (n : ℕ). nat_eq u node && in_word at n q) e
        ∙ ap (λ (b : Bool). nat_eq u node && b) (no_word at q) ∙ and_false (nat_eq u node)

-- something of it is new
pub put_some : (m r : MemberRows) (known fresh : List (List Bool)) (node at bits word new : ℕ) → IsNew bits word new → IsWord (row m.known node) at word → 0 < new → new < 2 ^ 64
    → IsReady node m r → WordPut node at new r.known known → WordPut node at new r.fresh fresh → IsPut m (record r { known = known; fresh = fresh }) (λ u q. nat_eq u node && in_word at bits q)
put_some m r known fresh node at bits word new is there some small ready k f = record {
  words = ready.words;
  height = k.height ∙ ready.height;
  known = λ u q. k.set u q ∙ (λ i. ready.known u q i || come_new m.known node at bits word new u q is there i) ∙ or_new (has m.known u q) (nat_eq u node && in_word at bits q);
  fresh = λ u q. f.set u q ∙ (λ i. ready.fresh u q i || come_new m.known node at bits word new u q is there i);
  less = omega (arith, fewer, ready.less);
}
  where
    lowest : (trailing_zeros w64 new < 64) × (bit_at new (trailing_zeros w64 new) ≡ 1)
    lowest = let found = bit_at-trailing_zeros w64 new some small in (found.0, found.1)

    unknown : (b c : Bool) → (b && not c) ≡ true → c ≡ false
    unknown true true e = absurd cc
    unknown true false e = refl
    unknown false c e = absurd cc

    off : has r.known node (64 * at + trailing_zeros w64 new) ≡ false
    off =
        ready.known node (64 * at + trailing_zeros w64 new) ∙ there (trailing_zeros w64 new) lowest.0
        ∙ unknown (bit_at bits (trailing_zeros w64 new) == 1) (bit_at word (trailing_zeros w64 new) == 1)
        (sym (is (trailing_zeros w64 new) lowest.0) ∙ ap (λ (n : ℕ). n == 1) lowest.1)

    fewer : suc (free (64 * r.words) known) ≤ free (64 * r.words) r.known
    fewer = k.less (64 * r.words) (trailing_zeros w64 new) (ready.known_width ∙ ap (λ (n : ℕ). 64 * n) (sym ready.words)) lowest.0 lowest.1 off

pub put_members : (r : MemberRows) (known fresh : List (List Bool)) (node at new : ℕ) → AreMembers r → WordPut node at new r.known known → WordPut node at new r.fresh fresh → AreMembers (record r { known = known; fresh = fresh })
put_members r known fresh node at new m k f = record {
  small = m.small;
  height = f.height ∙ m.height ∙ sym k.height;
  known_width = λ u. width (k.width u) (m.known_width u);
  fresh_width = λ u. width (f.width u) (m.fresh_width u);
  known = λ u q h. k.set u q ∙ either_known (has r.fresh u q) (has r.known u q) (nat_eq u node && in_word at new q) (m.known u q) (sym (f.set u q) ∙ h);
  waits = λ u. waits u (m.waits u);
  within = λ u h. subst (λ (n : ℕ). u < n) (sym k.height) (m.within u h);
}
  where
    width : {a b : ℕ} → a ≡ b → (b ≡ 0) ⊎ (b ≡ 64 * r.words) → (a ≡ 0) ⊎ (a ≡ 64 * r.words)
    width e (inl h) = inl (e ∙ h)
    width e (inr h) = inr (e ∙ h)

    waits : (u : ℕ) → (width_at r.fresh u ≡ 0) ⊎ Contains r.waiting u → (width_at fresh u ≡ 0) ⊎ Contains r.waiting u
    waits u (inl h) = inl (f.width u ∙ h)
    waits u (inr h) = inr h

-- A set is made ready.

laid_width : (w u x : ℕ) (old new : List (List Bool)) → LaidOut w u old new → (width_at old x ≡ 0) ⊎ (width_at old x ≡ w) → (width_at new x ≡ 0) ⊎ (width_at new x ≡ w)
laid_width w u x old new l h = by (l.width x) h
  where
    by : (width_at new x ≡ width_at old x) ⊎ ((x ≡ u) × (width_at new x ≡ w)) → (width_at old x ≡ 0) ⊎ (width_at old x ≡ w) → (width_at new x ≡ 0) ⊎ (width_at new x ≡ w)
    by (inl same) (inl e) = inl (same ∙ e)
    by (inl same) (inr e) = inr (same ∙ e)
    by (inr is) h = inr is.1

pub ready_waits : (m : MemberRows) (u n : ℕ) (known : List (List Bool)) → AreMembers m → LaidOut (64 * m.words) u m.known known → 64 * n ≡ width_at m.fresh u → n ≢ 0 → IsReady u m (record m { known = known })
ready_waits m u n known k l wide some = record {
  members = record {
    small = k.small;
    height = k.height ∙ sym l.height;
    known_width = λ x. laid_width (64 * m.words) u x m.known known l (k.known_width x);
    fresh_width = k.fresh_width;
    known = λ x q h. l.same x q ∙ k.known x q h;
    waits = k.waits;
    within = λ x h. subst (λ (n : ℕ). x < n) (sym l.height) (k.within x h);
  };
  words = refl;
  height = l.height;
  known = l.same;
  fresh = λ x q. refl;
  known_width = l.laid;
  fresh_width = by (k.fresh_width u);
  less = omega (arith, l.rest);
}
  where
    by : (width_at m.fresh u ≡ 0) ⊎ (width_at m.fresh u ≡ 64 * m.words) → width_at m.fresh u ≡ 64 * m.words
    by (inl e) = absurd (some (omega (arith, e, wide)))
    by (inr e) = e

lone : (x y : ℕ) → Contains (x ∷ []) y → x ≡ y
lone x y (zero, less, e) = e
lone x y (suc i, less, e) = absurd (omega (arith, less))

pub ready_new : (m : MemberRows) (u : ℕ) (known fresh : List (List Bool)) (waiting : List ℕ) → AreMembers m → u < length m.known → LaidOut (64 * m.words) u m.known known → LaidOut (64 * m.words) u m.fresh fresh
    → waiting ≡ m.waiting ++ u ∷ [] → IsReady u m (record { words = m.words; known = known; fresh = fresh; waiting = waiting })
ready_new m u known fresh waiting k inside l f is = record {
  members = record {
    small = k.small;
    height = f.height ∙ k.height ∙ sym l.height;
    known_width = λ x. laid_width (64 * m.words) u x m.known known l (k.known_width x);
    fresh_width = λ x. laid_width (64 * m.words) u x m.fresh fresh f (k.fresh_width x);
    known = λ x q h. l.same x q ∙ k.known x q (sym (f.same x q) ∙ h);
    waits = λ x. waits x (f.width x) (k.waits x);
    within = λ x h. subst (λ (n : ℕ). x < n) (sym l.height) (within x (Contains-append_cases m.waiting (u ∷ []) x (subst (λ (t : List ℕ). Contains t x) is h)));
  };
  words = refl;
  height = l.height;
  known = l.same;
  fresh = f.same;
  known_width = l.laid;
  fresh_width = f.laid;
  less = let more = ap (λ (t : List ℕ). length t) is ∙ length-append m.waiting (u ∷ []) in omega (arith, l.rest, more);
}
  where
    waits : (x : ℕ) → (width_at fresh x ≡ width_at m.fresh x) ⊎ ((x ≡ u) × (width_at fresh x ≡ 64 * m.words)) → (width_at m.fresh x ≡ 0) ⊎ Contains m.waiting x → (width_at fresh x ≡ 0) ⊎ Contains waiting x
    waits x (inl same) (inl e) = inl (same ∙ e)
    waits x (inl same) (inr h) = inr (subst (λ (t : List ℕ). Contains t x) (sym is) (Contains-append_left m.waiting (u ∷ []) x h))
    waits x (inr e) h = inr (subst (λ (t : List ℕ). Contains t x) (sym is) (Contains-append_right m.waiting (u ∷ []) x (0, search rules, sym e.0)))

    within : (x : ℕ) → Contains m.waiting x ⊎ Contains (u ∷ []) x → x < length m.known
    within x (inl h) = k.within x h
    within x (inr h) = subst (λ (n : ℕ). n < length m.known) (lone u x h) inside

-- A member is put in.

pub one_bit : (m q : ℕ) → in_word (m / 64) (1 * 2 ^ (m % 64) % 18446744073709551616) q ≡ nat_eq q m
one_bit m q = by (nat_eq q m) refl
  where
    bit : ℕ
    bit = 1 * 2 ^ (m % 64) % 18446744073709551616

    same_word : (b : Bool) → nat_eq (q / 64) (m / 64) ≡ b → q ≢ m → in_word (m / 64) bit q ≡ false
    same_word false e other = elsewhere (m / 64) bit q (λ is. absurd (grind (arith, nat_tests, e, is)))
    same_word true e other =
        let is : q / 64 ≡ m / 64 = eqb-true (q / 64) (m / 64) e in
        let apart : q % 64 ≢ m % 64 = λ h. other (omega (arith, is, h)) in
        ap (λ (n : ℕ). nat_eq (q / 64) (m / 64) && (n == 1)) (bit_at_set_other w64 0 (m % 64) (omega arith) (q % 64) apart ∙ bit_at-zero (q % 64))
        ∙ and_false (nat_eq (q / 64) (m / 64))

    by : (b : Bool) → nat_eq q m ≡ b → in_word (m / 64) bit q ≡ b
    by true e =
        let is : q ≡ m = eqb-true q m e in
        let here : nat_eq (q / 64) (m / 64) ≡ true = grind (arith, nat_tests, is) in
        (λ i. here i && (bit_at bit (is i % 64) == 1)) ∙ ap (λ (n : ℕ). n == 1) (bit_at_set_same w64 0 (m % 64) (omega arith))
    by false e = same_word (nat_eq (q / 64) (m / 64)) refl (λ is. absurd (grind (arith, nat_tests, e, is)))

pub one_put : (a b : MemberRows) (node m : ℕ) → IsPut a b (λ u q. nat_eq u node && in_word (m / 64) (1 * 2 ^ (m % 64) % 18446744073709551616) q) → IsPut a b (λ u q. nat_eq u node && nat_eq q m)
one_put a b node m = put_as a b _ _ (λ u q. ap (λ (b : Bool). nat_eq u node && b) (one_bit m q))

-- A row, word by word.

pub record IsPassing (a b : MemberRows) (to : ℕ) (bs : List Bool) (at : ℕ) : Type 0 where
  pub members : AreMembers b
  pub put : IsPut a b (λ u q. nat_eq u to && (nat_lt q (64 * at) && is_at bs q))

pub pass_none : (a : MemberRows) (to : ℕ) (bs : List Bool) → AreMembers a → IsPassing a a to bs 0
pass_none a to bs k = record { members = k; put = same_put a _ (λ u q. ap (λ (b : Bool). nat_eq u to && (b && is_at bs q)) (below_none q) ∙ and_false (nat_eq u to)) }
  where
    below_none : (q : ℕ) → nat_lt q (64 * 0) ≡ false
    below_none q = let none : 64 * 0 ≤ q = omega arith in grind (arith, nat_tests, none)

more_words : (bs : List Bool) (at w q : ℕ) → IsWord bs at w → ((nat_lt q (64 * at) && is_at bs q) || in_word at w q) ≡ (nat_lt q (64 * (at + 1)) && is_at bs q)
more_words bs at w q is = by (nat_lt q (64 * at)) refl (nat_eq (q / 64) at) refl
  where
    by : (b : Bool) → nat_lt q (64 * at) ≡ b → (e : Bool) → nat_eq (q / 64) at ≡ e → ((b && is_at bs q) || (e && (bit_at w (q % 64) == 1))) ≡ (nat_lt q (64 * (at + 1)) && is_at bs q)
    by true less true same = let is_at_word : q / 64 ≡ at = eqb-true (q / 64) at same in absurd (let below : q < 64 * at = grind (arith, nat_tests, less) in omega (arith, below, is_at_word))
    by true less false other =
        let below : q < 64 * at = grind (arith, nat_tests, less) in
        let next : nat_lt q (64 * (at + 1)) ≡ true = grind (arith, nat_tests, below) in
        sym (or_false (is_at bs q)) ∙ ap (λ (b : Bool). b && is_at bs q) (sym next)
    by false past true same =
        let here : q / 64 ≡ at = eqb-true (q / 64) at same in
        let inside : q < 64 * (at + 1) = omega (arith, here) in
        let next : nat_lt q (64 * (at + 1)) ≡ true = grind (arith, nat_tests, inside) in
        sym (is (q % 64) (omega arith)) ∙ ap (λ (x : ℕ). is_at bs x) (at_word at q here) ∙ ap (λ (b : Bool). b && is_at bs q) (sym next)
    by false past false other =
        let low : 64 * at ≤ q = grind (arith, nat_tests, past) in
        let apart : q / 64 ≢ at = λ h. absurd (grind (arith, nat_tests, other, h)) in
        let high : 64 * (at + 1) ≤ q = above low apart in
        let next : nat_lt q (64 * (at + 1)) ≡ false = grind (arith, nat_tests, high) in
        ap (λ (b : Bool). b && is_at bs q) (sym next)
      where
        above : 64 * at ≤ q → q / 64 ≢ at → 64 * (at + 1) ≤ q
        above low apart = split (nat_lt q (64 * (at + 1))) refl
          where
            split : (b : Bool) → nat_lt q (64 * (at + 1)) ≡ b → 64 * (at + 1) ≤ q
            split true e = let less : q < 64 * (at + 1) = grind (arith, nat_tests, e) in absurd (apart (omega (arith, low, less)))
            split false e = grind (arith, nat_tests, e)

pub pass_next : (a b c : MemberRows) (to : ℕ) (bs : List Bool) (at w : ℕ) → IsPassing a b to bs at → IsWord bs at w → AreMembers c → IsPut b c (λ u q. nat_eq u to && in_word at w q) → IsPassing a c to bs (at + 1)
pass_next a b c to bs at w k is members put = record {
  members = members;
  put = put_as a c _ _
      (λ u q. and_both (nat_eq u to) (nat_lt q (64 * at) && is_at bs q) (in_word at w q) ∙ ap (λ (b : Bool). nat_eq u to && b) (more_words bs at w q is))
      (then_put a b c _ _ k.put put);
}

-- a row that is there already changes nothing
pub alike_put : (m : MemberRows) (to : ℕ) (bs : List Bool) → row m.known to ≡ bs → IsPut m m (λ u q. nat_eq u to && is_at bs q)
alike_put m to bs same = record {
  words = refl;
  height = refl;
  known = λ u q. known u q (nat_eq u to) refl;
  fresh = λ u q. fresh u q (nat_eq u to) refl;
  less = omega arith;
}
  where
    there : (u q : ℕ) → nat_eq u to ≡ true → is_at bs q ≡ has m.known u q
    there u q e = ap (λ (r : List Bool). is_at r q) (sym same) ∙ ap (λ (x : ℕ). has m.known x q) (sym (eqb-true u to e))

    twice : (k : Bool) → k ≡ (k || k)
    twice true = refl
    twice false = refl

    none_new : (f k : Bool) → f ≡ (f || (k && not k))
    none_new true k = refl
    none_new false true = refl
    none_new false false = refl

    known : (u q : ℕ) → (b : Bool) → nat_eq u to ≡ b → has m.known u q ≡ (has m.known u q || (b && is_at bs q))
    known u q true e = twice (has m.known u q) ∙ ap (λ (k : Bool). has m.known u q || k) (sym (there u q e))
    known u q false e = or_false (has m.known u q)

    fresh : (u q : ℕ) → (b : Bool) → nat_eq u to ≡ b → has m.fresh u q ≡ (has m.fresh u q || ((b && is_at bs q) && not (has m.known u q)))
    fresh u q true e = none_new (has m.fresh u q) (has m.known u q) ∙ ap (λ (k : Bool). has m.fresh u q || (k && not (has m.known u q))) (sym (there u q e))
    fresh u q false e = or_false (has m.fresh u q)

past_end : (bs : List Bool) (q : ℕ) → length bs ≤ q → is_at bs q ≡ false
past_end [] q e = refl
past_end (b ∷ bs) zero e = absurd (omega (arith, e))
past_end (b ∷ bs) (suc q) e = past_end bs q (omega (arith, e))

pub passed : (a b : MemberRows) (to : ℕ) (bs : List Bool) (at : ℕ) → IsPassing a b to bs at → length bs ≤ 64 * at → IsPut a b (λ u q. nat_eq u to && is_at bs q)
passed a b to bs at k enough = put_as a b _ _ (λ u q. ap (λ (b : Bool). nat_eq u to && b) (by q (nat_lt q (64 * at)) refl)) k.put
  where
    by : (q : ℕ) → (b : Bool) → nat_lt q (64 * at) ≡ b → (nat_lt q (64 * at) && is_at bs q) ≡ is_at bs q
    by q true e = ap (λ (b : Bool). b && is_at bs q) e
    by q false e = let past : 64 * at ≤ q = grind (arith, nat_tests, e) in ap (λ (b : Bool). b && is_at bs q) e ∙ sym (past_end bs q (omega (arith, past, enough)))

-- what a set had at the beginning is what it has now, where that goes into another or into itself
pub carried_word : (a b : MemberRows) (from to at w : ℕ) → IsPassing a b to (row a.known from) at → IsWord (row b.known from) at w → IsWord (row a.known from) at w
carried_word a b from to at w k is j small =
    sym (k.put.known from (64 * at + j) ∙ absorbed (has a.known from (64 * at + j)) (nat_eq from to) (nat_lt (64 * at + j) (64 * at))) ∙ is j small

-- A set that waits is taken.

pub taken : (m : MemberRows) (u : ℕ) (bits : List Bool) (fresh : List (List Bool)) (rest : List ℕ) → AreMembers m → m.waiting ≡ rest ++ u ∷ [] → bits ≡ row m.fresh u → Emptied u m.fresh fresh
    → IsTaken u bits m (record m { fresh = fresh; waiting = rest })
taken m u bits fresh rest k is same e = record {
  members = record {
    small = k.small;
    height = e.height ∙ k.height;
    known_width = k.known_width;
    fresh_width = λ x. width x (nat_eq x u) refl;
    known = λ x q h. known x q (nat_eq x u) refl h;
    waits = λ x. waits x (nat_eq x u) refl;
    within = λ x h. k.within x (subst (λ (t : List ℕ). Contains t x) (sym is) (Contains-append_left rest (u ∷ []) x h));
  };
  words = refl;
  height = refl;
  within = k.within u (subst (λ (t : List ℕ). Contains t u) (sym is) (Contains-append_right rest (u ∷ []) u (0, search rules, refl)));
  known = refl;
  found = same;
  others = e.others;
  less = let fewer = ap (λ (t : List ℕ). length t) is ∙ length-append rest (u ∷ []) in omega (arith, fewer);
}
  where
    apart : (x : ℕ) → nat_eq x u ≡ false → x ≢ u
    apart x f h = absurd (grind (arith, nat_tests, f, h))

    empty : (x : ℕ) → nat_eq x u ≡ true → row fresh x ≡ []
    empty x f = ap (λ (y : ℕ). row fresh y) (eqb-true x u f) ∙ e.empty

    width : (x : ℕ) → (b : Bool) → nat_eq x u ≡ b → (width_at fresh x ≡ 0) ⊎ (width_at fresh x ≡ 64 * m.words)
    width x true f = inl (ap (λ (t : List Bool). length t) (empty x f))
    width x false f = subst (λ (t : List Bool). (length t ≡ 0) ⊎ (length t ≡ 64 * m.words)) (sym (e.others x (apart x f))) (k.fresh_width x)

    known : (x q : ℕ) → (b : Bool) → nat_eq x u ≡ b → has fresh x q ≡ true → has m.known x q ≡ true
    known x q true f h = let never = sym h ∙ ap (λ (t : List Bool). is_at t q) (empty x f) in absurd cc
    known x q false f h = k.known x q (sym (ap (λ (t : List Bool). is_at t q) (e.others x (apart x f))) ∙ h)

    waits : (x : ℕ) → (b : Bool) → nat_eq x u ≡ b → (width_at fresh x ≡ 0) ⊎ Contains rest x
    waits x true f = inl (ap (λ (t : List Bool). length t) (empty x f))
    waits x false f = by (k.waits x)
      where
        behind : Contains rest x ⊎ Contains (u ∷ []) x → Contains rest x
        behind (inl h) = h
        behind (inr h) = absurd (apart x f (sym (lone u x h)))

        by : (width_at m.fresh x ≡ 0) ⊎ Contains m.waiting x → (width_at fresh x ≡ 0) ⊎ Contains rest x
        by (inl z) = inl (ap (λ (t : List Bool). length t) (e.others x (apart x f)) ∙ z)
        by (inr h) = inr (behind (Contains-append_cases rest (u ∷ []) x (subst (λ (t : List ℕ). Contains t x) is h)))

-- no set waits
pub no_fresh : (m : MemberRows) → AreMembers m → length m.waiting ≡ 0 → (u q : ℕ) → has m.fresh u q ≡ false
no_fresh m k none u q = by (k.waits u)
  where
    empty : (bs : List Bool) → length bs ≡ 0 → is_at bs q ≡ false
    empty [] e = refl
    empty (b ∷ bs) e = absurd (omega (arith, e))

    by : (width_at m.fresh u ≡ 0) ⊎ Contains m.waiting u → has m.fresh u q ≡ false
    by (inl e) = empty (row m.fresh u) e
    by (inr h) = absurd (omega (arith, h.1, none))

pub known_words : (m : MemberRows) (u : ℕ) → AreMembers m → width_at m.known u ≤ 64 * m.words
known_words m u k = by (k.known_width u)
  where
    by : (width_at m.known u ≡ 0) ⊎ (width_at m.known u ≡ 64 * m.words) → width_at m.known u ≤ 64 * m.words
    by (inl e) = omega (arith, e)
    by (inr e) = omega (arith, e)

pub last_waits : (m : MemberRows) (u : ℕ) (rest : List ℕ) → AreMembers m → m.waiting ≡ rest ++ u ∷ [] → u < length m.fresh
last_waits m u rest k is = subst (λ (n : ℕ). u < n) (sym k.height) (k.within u (subst (λ (t : List ℕ). Contains t u) (sym is) (Contains-append_right rest (u ∷ []) u (0, search rules, refl))))
