-- References in the order of their numbers: what becomes of them when the order changes.
use Rattle.std.proofs.Common.{◌≡◌, ◌≢◌, ◌⊎◌, inl, inr, ℕ, zero, suc, ◌+◌, ◌-◌, ◌≤◌, ◌<◌, Bool, true, false, ◌&&◌, ◌||◌, cond, nat_eq, max, List, [], ◌∷◌, ◌++◌, Some, length, reverse, get_or, refl, sym, ap, ◌∙◌, subst, arith, eqb-true}
use Rattle.std.specs.Prelude.{if◌then◌else◌, slice_get}
use Rattle.std.specs.Cmp.{IsEquivalence, nat_eq_equiv}
use Rattle.std.specs.Cmp.Derive.{both_true}
use Rattle.std.specs.Cmp.Lexicographic.{nat_list_eq_equiv}
use Rattle.std.specs.List.{list_any, position, IsDistinct}
use Rattle.std.specs.Str.{bytes_eq}
use Rattle.std.proofs.Math.Bool.{and_comm}
use Rattle.std.proofs.lemmas.Bool.{eq-eqb, ne_eqb, cases_order, or_parts, both_ways}
use Rattle.std.proofs.lemmas.List.Quantifiers.{position-Some}
use Rattle.std.proofs.lemmas.List.{get_or_append_left, map-append, reverse-append}
use Rattle.std.proofs.lemmas.Map.Keys.{apart_from_distinct}
use Rattle.std.proofs.lemmas.Option.{get_or_from_slice_get}
use Rattle.std.proofs.lemmas.Slice.Eq.{bytes_eq-Decides}
use Rattle.indexmap.specs.IndexSet.{insert_key}
use Rattle.mh_base.specs.declared.obj_ref.ObjRef.{ObjRef}
use Rattle.mh_model.specs.Reference.{group_ref, same_key, same_ref}
use Rattle.mh_model.specs.Stack.{without, just_above, just_below}
use Rattle.mh_stack.specs.References.{ref_at, refs_at, Tells}
use Rattle.mh_stack.specs.Rings.{AreIn, next, walk, without_number, put_above, put_below}

-- References are equal, or not, as values are.

both : (a b : Bool) → (a && b) ≡ true → (a ≡ true) × (b ≡ true)
both true b h = (refl, h)
both false b h = absurd cc

same_key-equiv : IsEquivalence same_key
same_key-equiv = record {
  refl = λ x. both_true (nat_eq_equiv.refl x.number) (nat_list_eq_equiv.refl x.group);
  symm = λ x y i. nat_eq_equiv.symm x.number y.number i && nat_list_eq_equiv.symm x.group y.group i;
  congr = λ x y z h.
      let parts = both (nat_eq x.number y.number) (bytes_eq x.group y.group) h in
      λ i. nat_eq_equiv.congr x.number y.number z.number parts.0 i && nat_list_eq_equiv.congr x.group y.group z.group parts.1 i;
}

same_ref-key : (a b : ObjRef) → same_ref a b ≡ same_key a b
same_ref-key a b = and_comm (bytes_eq a.group b.group) (nat_eq a.number b.number)

-- The number of a reference that is found.

pub tells_found : (r : ObjRef) (rs : List ObjRef) (i : ℕ) → IsDistinct same_key rs → position (same_key r) rs ≡ Some i → Tells r rs (i + 1)
tells_found r rs i distinct found = record { each = λ x low high. by x low high (cases_order (x - 1) i) }
  where
    place : (i < length rs) × (same_key r (get_or rs i (group_ref [])) ≡ true) × ((k : ℕ) → k < i → same_key r (get_or rs k (group_ref [])) ≡ false)
    place = position-Some (same_key r) rs i (group_ref []) found

    alike : (z : ObjRef) → same_key r z ≡ same_key (get_or rs i (group_ref [])) z
    alike z = same_key-equiv.congr r (get_or rs i (group_ref [])) z place.1

    by : (x : ℕ) → x ≢ 0 → x < suc (length rs) → (x - 1 ≡ i) ⊎ ((x - 1 < i) ⊎ (i < x - 1)) → same_ref r (ref_at rs x) ≡ nat_eq (i + 1) x
    by x low high (inl same) =
        same_ref-key r (ref_at rs x) ∙ ap (λ (n : ℕ). same_key r (get_or rs n (group_ref []))) same ∙ place.1 ∙ sym (eq-eqb (i + 1) x (omega (arith, low, same)))
    by x low high (inr (inl before)) =
        same_ref-key r (ref_at rs x) ∙ alike (ref_at rs x) ∙ same_key-equiv.symm (get_or rs i (group_ref [])) (ref_at rs x)
        ∙ apart_from_distinct same_key rs (x - 1) i (group_ref []) distinct before place.0
        ∙ sym (ne_eqb (i + 1) x (λ same. absurd (omega (arith, before, same))))
    by x low high (inr (inr behind)) =
        same_ref-key r (ref_at rs x) ∙ alike (ref_at rs x)
        ∙ apart_from_distinct same_key rs i (x - 1) (group_ref []) distinct behind (omega (arith, high, behind))
        ∙ sym (ne_eqb (i + 1) x (λ same. absurd (omega (arith, behind, same))))

none_at : (p : ObjRef → Bool) (rs : List ObjRef) (i : ℕ) (d : ObjRef) → list_any p rs ≡ false → i < length rs → p (get_or rs i d) ≡ false
none_at p [] i d none less = absurd (omega (arith, less))
none_at p (x ∷ xs) zero d none less = (or_parts (p x) (list_any p xs) none).0
none_at p (x ∷ xs) (suc i) d none less = none_at p xs i d (or_parts (p x) (list_any p xs) none).1 (omega (arith, less))

pub tells_none : (r : ObjRef) (rs : List ObjRef) → list_any (same_key r) rs ≡ false → Tells r rs 0
tells_none r rs none = record {
  each = λ x low high.
      same_ref-key r (ref_at rs x) ∙ none_at (same_key r) rs (x - 1) (group_ref []) none (omega (arith, low, high)) ∙ sym (ne_eqb 0 x (λ same. low (sym same)));
}

-- A reference that gets a number.

same_value : (a b : ObjRef) → same_key a b ≡ true → a ≡ b
same_value a b is =
    let parts = both (nat_eq a.number b.number) (bytes_eq a.group b.group) is in
    λ i. record { number = eqb-true a.number b.number parts.0 i; group = (bytes_eq-Decides a.group b.group).0 parts.1 i }

pub own_ref : (rs : List ObjRef) (r : ObjRef) (i : ℕ) → (k : ObjRef) × (slice_get rs i ≡ Some k) × (same_key r k ≡ true) → ref_at rs (i + 1) ≡ r
own_ref rs r i there =
    let place : i + 1 - 1 ≡ i = omega arith in
    ap (λ (n : ℕ). get_or rs n (group_ref [])) place ∙ get_or_from_slice_get rs i there.0 (group_ref []) there.1 ∙ sym (same_value r there.0 there.2)

kept_refs : (rs : List ObjRef) (r : ObjRef) (ys : List ℕ) → AreIn (suc (length rs)) ys → refs_at (rs ++ r ∷ []) ys ≡ refs_at rs ys
kept_refs rs r [] inside = refl
kept_refs rs r (y ∷ ys) inside =
    let less : y - 1 < length rs = omega (arith, inside.0, inside.1) in
    λ i. get_or_append_left rs (r ∷ []) (group_ref []) (y - 1) less i ∷ kept_refs rs r ys inside.2 i

pub entered : (rs : List ObjRef) (r : ObjRef) (ys : List ℕ) → AreIn (suc (length rs)) ys → refs_at (insert_key same_key rs r) ys ≡ refs_at rs ys
entered rs r ys inside = by (list_any (same_key r) rs)
  where
    by : (b : Bool) → refs_at (cond b rs (rs ++ r ∷ [])) ys ≡ refs_at rs ys
    by true = refl
    by false = kept_refs rs r ys inside

pub widened : (n m : ℕ) (ys : List ℕ) → n ≤ m → AreIn n ys → AreIn m ys
widened n m [] most inside = tt
widened n m (y ∷ ys) most inside = (inside.0, omega (arith, inside.1, most), widened n m ys most inside.2)

pub inside_told : (rs : List ObjRef) (n : ℕ) (ys : List ℕ) → length rs ≡ n - 1 → AreIn n ys → AreIn (suc (length rs)) ys
inside_told rs n ys long inside = widened n (suc (length rs)) ys (omega (arith, long)) inside

pub grown_inside : (k n m : ℕ) (b : Bool) (ys : List ℕ) → k ≡ n - 1 → m ≡ k + (if b then 1 else 0) → AreIn n ys → AreIn (suc m) ys
grown_inside k n m true ys fit long inside = widened n (suc m) ys (omega (arith, fit, long)) inside
grown_inside k n m false ys fit long inside = widened n (suc m) ys (omega (arith, fit, long)) inside

pub fitted : (b : Bool) (k n k' n' : ℕ) → k ≡ n - 1 → k' ≡ k + (if b then 1 else 0) → n' ≡ (if b then max 1 n + 1 else n) → k' ≡ n' - 1
fitted true k n k' n' fit more long = omega (arith, fit, more, long)
fitted false k n k' n' fit more long = omega (arith, fit, more, long)

-- The other way round.

in_both : (n : ℕ) (xs ys : List ℕ) → AreIn n xs → AreIn n ys → AreIn n (xs ++ ys)
in_both n [] ys front behind = behind
in_both n (x ∷ xs) ys front behind = (front.0, front.1, in_both n xs ys front.2 behind)

pub in_reverse : (n : ℕ) (ys : List ℕ) → AreIn n ys → AreIn n (reverse ys)
in_reverse n [] inside = tt
in_reverse n (y ∷ ys) inside = subst (λ (zs : List ℕ). AreIn n zs) (sym (reverse-append (y ∷ []) ys)) (in_both n (reverse ys) (y ∷ []) (in_reverse n ys inside.2) (inside.0, inside.1, tt))

pub refs_reverse : (rs : List ObjRef) (ys : List ℕ) → refs_at rs (reverse ys) ≡ reverse (refs_at rs ys)
refs_reverse rs [] = refl
refs_reverse rs (y ∷ ys) =
    ap (refs_at rs) (reverse-append (y ∷ []) ys)
    ∙ map-append (ref_at rs) (reverse ys) (y ∷ [])
    ∙ ap (λ (qs : List ObjRef). qs ++ ref_at rs y ∷ []) (refs_reverse rs ys)
    ∙ sym (reverse-append (ref_at rs y ∷ []) (refs_at rs ys))

-- What becomes of the references.

pub mapped_without : (r : ObjRef) (rs : List ObjRef) (k : ℕ) → Tells r rs k → (ys : List ℕ) → AreIn (suc (length rs)) ys → refs_at rs (without_number k ys) ≡ without r (refs_at rs ys)
mapped_without r rs k tells [] inside = refl
mapped_without r rs k tells (y ∷ ys) inside = by (nat_eq k y) refl (mapped_without r rs k tells ys inside.2)
  where
    by : (b : Bool) → nat_eq k y ≡ b → refs_at rs (without_number k ys) ≡ without r (refs_at rs ys) → refs_at rs (without_number k (y ∷ ys)) ≡ without r (refs_at rs (y ∷ ys))
    by true e rest = rw (e, tells.each y inside.0 inside.1 ∙ e) rest
    by false e rest = rw (e, tells.each y inside.0 inside.1 ∙ e) (ap (λ (qs : List ObjRef). ref_at rs y ∷ qs) rest)

pub mapped_any : (r : ObjRef) (rs : List ObjRef) (k : ℕ) → Tells r rs k → (ys : List ℕ) → AreIn (suc (length rs)) ys → list_any (nat_eq k) ys ≡ list_any (same_ref r) (refs_at rs ys)
mapped_any r rs k tells [] inside = refl
mapped_any r rs k tells (y ∷ ys) inside = λ i. sym (tells.each y inside.0 inside.1) i || mapped_any r rs k tells ys inside.2 i

pub mapped_below : (r q : ObjRef) (rs : List ObjRef) (k b : ℕ) → ref_at rs k ≡ r → Tells q rs b → (ys : List ℕ) → AreIn (suc (length rs)) ys → refs_at rs (put_below k b ys) ≡ just_below r q (refs_at rs ys)
mapped_below r q rs k b own tells [] inside = ap (λ (z : ObjRef). z ∷ []) own
mapped_below r q rs k b own tells (y ∷ ys) inside = by (nat_eq b y) refl (mapped_below r q rs k b own tells ys inside.2)
  where
    by : (t : Bool) → nat_eq b y ≡ t → refs_at rs (put_below k b ys) ≡ just_below r q (refs_at rs ys) → refs_at rs (put_below k b (y ∷ ys)) ≡ just_below r q (refs_at rs (y ∷ ys))
    by true e rest = rw (e, tells.each y inside.0 inside.1 ∙ e) (ap (λ (z : ObjRef). z ∷ refs_at rs (y ∷ ys)) own)
    by false e rest = rw (e, tells.each y inside.0 inside.1 ∙ e) (ap (λ (qs : List ObjRef). ref_at rs y ∷ qs) rest)

pub mapped_above : (r q : ObjRef) (rs : List ObjRef) (k b : ℕ) → ref_at rs k ≡ r → Tells q rs b → (ys : List ℕ) → AreIn (suc (length rs)) ys → refs_at rs (put_above k b ys) ≡ just_above r q (refs_at rs ys)
mapped_above r q rs k b own tells [] inside = ap (λ (z : ObjRef). z ∷ []) own
mapped_above r q rs k b own tells (y ∷ ys) inside = by (nat_eq b y) refl (mapped_above r q rs k b own tells ys inside.2)
  where
    by : (t : Bool) → nat_eq b y ≡ t → refs_at rs (put_above k b ys) ≡ just_above r q (refs_at rs ys) → refs_at rs (put_above k b (y ∷ ys)) ≡ just_above r q (refs_at rs (y ∷ ys))
    by true e rest = rw (e, tells.each y inside.0 inside.1 ∙ e) (ap (λ (z : ObjRef). ref_at rs y ∷ z ∷ refs_at rs ys) own)
    by false e rest = rw (e, tells.each y inside.0 inside.1 ∙ e) (ap (λ (qs : List ObjRef). ref_at rs y ∷ qs) rest)

-- a number that is in the order has its reference there
pub any_mapped : (r : ObjRef) (rs : List ObjRef) (k : ℕ) → ref_at rs k ≡ r → (ys : List ℕ) → list_any (same_ref r) (refs_at rs ys) ≡ false → list_any (nat_eq k) ys ≡ false
any_mapped r rs k own [] none = refl
any_mapped r rs k own (y ∷ ys) none = by (nat_eq k y) refl (λ h. any_mapped r rs k own ys h) none
  where
    same : k ≡ y → same_ref r (ref_at rs y) ≡ true
    same here = same_ref-key r (ref_at rs y) ∙ ap (λ (z : ObjRef). same_key r z) (ap (λ (n : ℕ). ref_at rs n) (sym here) ∙ own) ∙ same_key-equiv.refl r

    by : (b : Bool) → nat_eq k y ≡ b → (list_any (same_ref r) (refs_at rs ys) ≡ false → list_any (nat_eq k) ys ≡ false) → list_any (same_ref r) (refs_at rs (y ∷ ys)) ≡ false → list_any (nat_eq k) (y ∷ ys) ≡ false
    by true e rest is = absurd (both_ways _ (or_parts (same_ref r (ref_at rs y)) _ is).0 (same (eqb-true k y e)))
    by false e rest is = rw e (rest (or_parts (same_ref r (ref_at rs y)) _ is).1)

-- A reference is put in under a number that is new: from the numbers before, those with the new link, to the references.

pub free : (rs new : List ObjRef) (r : ObjRef) (k : ℕ) (a b : List ℕ) → b ≡ a → refs_at new a ≡ refs_at rs a → ref_at new k ≡ r → list_any (same_ref r) (refs_at rs a) ≡ false → list_any (nat_eq k) b ≡ false
free rs new r k a b same kept own none = ap (list_any (nat_eq k)) same ∙ any_mapped r new k own a (ap (list_any (same_ref r)) kept ∙ none)

pub put_on_top : (rs new : List ObjRef) (r : ObjRef) (k : ℕ) (a b c : List ℕ) → c ≡ b ++ k ∷ [] → b ≡ a → refs_at new a ≡ refs_at rs a → ref_at new k ≡ r → refs_at new c ≡ refs_at rs a ++ r ∷ []
put_on_top rs new r k a b c put same kept own =
    ap (refs_at new) (put ∙ ap (λ (zs : List ℕ). zs ++ k ∷ []) same) ∙ map-append (ref_at new) a (k ∷ []) ∙ (λ i. kept i ++ own i ∷ [])

pub put_first : (rs new : List ObjRef) (r : ObjRef) (k : ℕ) (a b c : List ℕ) → c ≡ k ∷ b → b ≡ a → refs_at new a ≡ refs_at rs a → ref_at new k ≡ r → refs_at new c ≡ r ∷ refs_at rs a
put_first rs new r k a b c put same kept own = ap (refs_at new) (put ∙ ap (λ (zs : List ℕ). k ∷ zs) same) ∙ (λ i. own i ∷ kept i)

pub put_over : (rs new : List ObjRef) (r q : ObjRef) (k o : ℕ) (a b c : List ℕ) → c ≡ put_above k o b → b ≡ a → refs_at new a ≡ refs_at rs a → ref_at new k ≡ r → Tells q new o → AreIn (suc (length new)) a
    → refs_at new c ≡ just_above r q (refs_at rs a)
put_over rs new r q k o a b c put same kept own tells inside =
    ap (refs_at new) (put ∙ ap (put_above k o) same) ∙ mapped_above r q new k o own tells a inside ∙ ap (just_above r q) kept

pub put_under : (rs new : List ObjRef) (r q : ObjRef) (k o : ℕ) (a b c : List ℕ) → c ≡ put_below k o b → b ≡ a → refs_at new a ≡ refs_at rs a → ref_at new k ≡ r → Tells q new o → AreIn (suc (length new)) a
    → refs_at new c ≡ just_below r q (refs_at rs a)
put_under rs new r q k o a b c put same kept own tells inside =
    ap (refs_at new) (put ∙ ap (put_below k o) same) ∙ mapped_below r q new k o own tells a inside ∙ ap (just_below r q) kept

-- References along links.

walk_on : (f : ℕ → ℕ) (n x : ℕ) → n ≢ 0 → walk f n x ≡ f x ∷ walk f (n - 1) (f x)
walk_on f zero x some = absurd (some refl)
walk_on f (suc n) x some = let back : suc n - 1 ≡ n = omega arith in rw back refl

pub next_link : (rs : List ObjRef) (xs : List ℕ) (n x v : ℕ) → AreIn (suc (length rs)) (walk (next xs) n x) → n ≢ 0 → v ≡ next xs x
    → (v ≢ 0) × (v < suc (length rs)) × AreIn (suc (length rs)) (walk (next xs) (n - 1) v) × (refs_at rs (walk (next xs) n x) ≡ ref_at rs v ∷ refs_at rs (walk (next xs) (n - 1) v))
next_link rs xs n x v inside some is =
    let on = walk_on (next xs) n x some in
    let parts : AreIn (suc (length rs)) (next xs x ∷ walk (next xs) (n - 1) (next xs x)) = subst (AreIn (suc (length rs))) on inside in
    subst (λ (w : ℕ). (w ≢ 0) × (w < suc (length rs)) × AreIn (suc (length rs)) (walk (next xs) (n - 1) w) × (refs_at rs (walk (next xs) n x) ≡ ref_at rs w ∷ refs_at rs (walk (next xs) (n - 1) w)))
    (sym is) (parts.0, parts.1, parts.2, ap (refs_at rs) on)

pub none_linked : (rs : List ObjRef) (xs : List ℕ) (n x : ℕ) → n ≡ 0 → refs_at rs (walk (next xs) n x) ≡ []
none_linked rs xs n x none = ap (λ (m : ℕ). refs_at rs (walk (next xs) m x)) none
