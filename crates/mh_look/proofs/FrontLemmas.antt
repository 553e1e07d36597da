-- What stands at the front of bytes.
use Rattle.std.specs.Prelude.{◌≡◌, ◌≢◌, ◌<◌, ◌≤◌, ◌&&◌, ℕ, zero, suc, ◌+◌, ◌-◌, Bool, true, false, not, List, [], ◌∷◌, ◌++◌, length, take, drop, Some, None, refl}
use Rattle.std.specs.List.{prefix_len, suffix_len}
use Rattle.std.specs.Str.{bytes_eq}
use Rattle.std.proofs.Common.{ap, ◌∙◌, sym, arith, subst, cond, get_or}
use Rattle.std.proofs.lemmas.Bool.Decides.{Decides-eqb}
use Rattle.std.proofs.lemmas.Slice.Eq.{starts_is}
use Rattle.std.proofs.lemmas.List.{length-append, length-drop, append_cancel_left, get_or-append-add}
use Rattle.std.proofs.lemmas.List.Sums.{suffix_len_is}
use Rattle.std.proofs.Math.Seq.{drop-append_seam, drop-append-add, take-append_seam, take-length, get_or-append_seam}
use Rattle.mh_look.specs.Reading.{Begins}
use Rattle.mh_look.specs.Front.{IsInFront, is_other, lacks, before, behind}

-- a text at the front and what is left behind it
pub begins : (bytes text rest : List ℕ) → bytes ≡ text ++ rest → Begins bytes text (length text)
begins bytes text rest e = record {
  whole = e ∙ ap (λ (xs : List ℕ). text ++ xs) (sym (ap (drop (length text)) e ∙ drop-append_seam text rest));
  long = refl;
}

-- what is left behind a text of this length
pub left_behind : (bytes text rest : List ℕ) (n : ℕ) → Begins bytes text n → bytes ≡ text ++ rest → drop n bytes ≡ rest
left_behind bytes text rest n b e = append_cancel_left text (drop n bytes) rest (sym b.whole ∙ e)

pub begins_within : (bytes text : List ℕ) (n : ℕ) → Begins bytes text n → n ≤ length bytes
begins_within bytes text n b = omega (arith, ap length b.whole ∙ length-append text (drop n bytes), b.long)

pub in_front : (bytes text : List ℕ) → bytes ≡ text ++ drop (length text) bytes → IsInFront bytes text (Some (length text))
in_front bytes text e = record {
  read = λ n same. let long : length text ≡ n = cc in subst (λ (k : ℕ). Begins bytes text k) long (begins bytes text (drop (length text) bytes) e);
  taken = λ rest whole. refl;
}

pub not_in_front : (bytes text : List ℕ) → ((rest : List ℕ) → bytes ≢ text ++ rest) → IsInFront bytes text None
not_in_front bytes text other = record {
  read = λ n same. absurd (cc);
  taken = λ rest whole. absurd (other rest whole);
}

pub tested_in_front : (bytes text : List ℕ) → bytes_eq text (take (length text) bytes) ≡ true → IsInFront bytes text (Some (length text))
tested_in_front bytes text same = in_front bytes text ((starts_is Decides-eqb bytes text true (sym same)).0 refl)

pub tested_elsewhere : (bytes text : List ℕ) → bytes_eq text (take (length text) bytes) ≡ false → IsInFront bytes text None
tested_elsewhere bytes text other =
    not_in_front bytes text (λ rest whole. let wrong : false ≡ true = (starts_is Decides-eqb bytes text false (sym other)).1 rest whole in cc)

-- a slice to the end
pub slice_to_end : (xs : List ℕ) (n : ℕ) → take (length xs - n) (drop n xs) ≡ drop n xs
slice_to_end xs n = ap (λ (k : ℕ). take k (drop n xs)) (sym (length-drop n xs)) ∙ take-length (drop n xs)

-- Cutting at a byte.

lacks_parts : (c x : ℕ) (xs : List ℕ) → lacks c (x ∷ xs) ≡ true → (is_other c x ≡ true) × (lacks c xs ≡ true)
lacks_parts c x xs h = by (is_other c x) h
  where
    by : (b : Bool) → (b && lacks c xs) ≡ true → (b ≡ true) × (lacks c xs ≡ true)
    by true e = (refl, e)
    by false e = absurd (cc)

same_is_no_other : (c : ℕ) → is_other c c ≡ false
same_is_no_other c = ap not ((Decides-eqb c c).1 refl)

count_is : (c : ℕ) (xs ys : List ℕ) → lacks c xs ≡ true → prefix_len (is_other c) (xs ++ c ∷ ys) ≡ length xs
count_is c [] ys h = ap (λ (b : Bool). cond b (1 + prefix_len (is_other c) ys) 0) (same_is_no_other c)
count_is c (x ∷ xs) ys h =
    let parts = lacks_parts c x xs h in
    let more : 1 + length xs ≡ suc (length xs) = omega arith in
    ap (λ (b : Bool). cond b (1 + prefix_len (is_other c) (xs ++ c ∷ ys)) 0) parts.0 ∙ ap (λ (n : ℕ). 1 + n) (count_is c xs ys parts.1) ∙ more

-- the words in front of a byte and behind it
pub before_is : (c : ℕ) (xs ys : List ℕ) → lacks c xs ≡ true → before c (xs ++ c ∷ ys) ≡ xs
unfolding before
before_is c xs ys h = ap (λ (n : ℕ). take n (xs ++ c ∷ ys)) (count_is c xs ys h) ∙ take-append_seam xs (c ∷ ys)

pub behind_is : (c : ℕ) (xs ys : List ℕ) → lacks c xs ≡ true → behind c (xs ++ c ∷ ys) ≡ ys
unfolding behind
behind_is c xs ys h = ap (λ (n : ℕ). drop (n + 1) (xs ++ c ∷ ys)) (count_is c xs ys h) ∙ drop-append-add xs (c ∷ ys) 1

pub lacks_both : (c : ℕ) (xs ys : List ℕ) → lacks c xs ≡ true → lacks c ys ≡ true → lacks c (xs ++ ys) ≡ true
lacks_both c [] ys h k = k
lacks_both c (x ∷ xs) ys h k =
    let parts = lacks_parts c x xs h in
    ap (λ (b : Bool). b && lacks c (xs ++ ys)) parts.0 ∙ lacks_both c xs ys parts.1 k

pub lacks_at : (c : ℕ) (xs : List ℕ) (k : ℕ) → lacks c xs ≡ true → k < length xs → is_other c (get_or xs k 0) ≡ true
lacks_at c [] k h l = absurd (omega arith)
lacks_at c (x ∷ xs) zero h l = (lacks_parts c x xs h).0
lacks_at c (x ∷ xs) (suc k) h l = lacks_at c xs k (lacks_parts c x xs h).1 (omega arith)

-- how many bytes stand behind the last one of a kind
pub count_behind_is : (c : ℕ) (xs ys : List ℕ) → lacks c ys ≡ true → suffix_len (is_other c) (xs ++ c ∷ ys) ≡ length ys
count_behind_is c xs ys h =
    let all = xs ++ c ∷ ys in
    let long : length (xs ++ c ∷ ys) ≡ length xs + suc (length ys) = length-append xs (c ∷ ys) in
    let others : (k : ℕ) → length xs + 1 ≤ k → k < length (xs ++ c ∷ ys) → is_other c (get_or (xs ++ c ∷ ys) k 0) ≡ true =
    λ k low high.
    let at : k ≡ length xs + suc (k - (length xs + 1)) = omega arith in
    ap (λ (i : ℕ). is_other c (get_or (xs ++ c ∷ ys) i 0)) at
    ∙ ap (is_other c) (get_or-append-add xs (c ∷ ys) (suc (k - (length xs + 1))) 0)
    ∙ lacks_at c ys (k - (length xs + 1)) h (omega arith) in
    let here : 0 < length xs + 1 → is_other c (get_or (xs ++ c ∷ ys) (length xs + 1 - 1) 0) ≡ false =
    λ some.
    let at : length xs + 1 - 1 ≡ length xs = omega arith in
    ap (λ (i : ℕ). is_other c (get_or (xs ++ c ∷ ys) i 0)) at ∙ ap (is_other c) (get_or-append_seam xs c ys 0) ∙ same_is_no_other c in
    let found : suffix_len (is_other c) (xs ++ c ∷ ys) ≡ length (xs ++ c ∷ ys) - (length xs + 1) = suffix_len_is (is_other c) (xs ++ c ∷ ys) (length xs + 1) 0 (omega arith) others here in
    omega (arith, found, long)
