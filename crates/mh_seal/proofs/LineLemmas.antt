-- Lines as prefixes: what bytes begin with is told by their first line feed.
use Rattle.std.specs.Prelude.{◌≡◌, ◌++◌, ◌∷◌, ◌==◌, ◌&&◌, ◌||◌, ◌<◌, ◌+◌, ◌-◌, Bool, List, None, Some, [], drop, false, length, not, nat_eq, suc, take, true, ℕ}
use Rattle.std.specs.List.{list_all, list_any, position, position_or_len}
use Rattle.std.specs.Str.{bytes_eq}
use Rattle.std.specs.Cmp.Derive.{both_true}
use Rattle.std.specs.Cmp.Lexicographic.{nat_list_eq_equiv}
use Rattle.std.specs.Prelude.{cond, nat_lt}
use Rattle.std.proofs.Common.{add-one, ap, arith, append-nil, length-append, refl, subst, sym, ◌∙◌}
use Rattle.std.proofs.Math.Seq.{take-append_seam}
use Rattle.std.proofs.lemmas.Bool.{cond-true, lt-ltb}
use Rattle.std.proofs.lemmas.Bool.Decides.{Decides-eqb}
use Rattle.std.proofs.lemmas.List.{append_assoc, append_cancel_left, take-append-drop, take_rest}
use Rattle.std.proofs.lemmas.List.Folds.{list_all-append}
use Rattle.std.proofs.lemmas.Slice.Eq.{bytes_eq-Decides}
use Rattle.mh_base.proofs.PathLemmas.{position-some}
use Rattle.mh_seal.specs.Lines.{HasLine, HasNoLine, IsLine, begins, is_plain}
use Rattle.mh_seal.specs.Text.{line, lines}
use Rattle.mh_seal.proofs.TruthLemmas.{and_left, and_right, some_same}

-- none of the bytes is this one
abbrev pub lacks : ℕ → List ℕ → Bool
lacks c bs = list_all (λ b. not (b == c)) bs

head_same : (x y : ℕ) (xs ys : List ℕ) → x ∷ xs ≡ y ∷ ys → (x ≡ y) × (xs ≡ ys)
head_same x y xs ys e = (ap (λ (zs : List ℕ). first zs) e, ap (drop 1) e)
  where
    first : List ℕ → ℕ
    first [] = x
    first (z ∷ zs) = z

same_itself : (c : ℕ) → (c == c) ≡ true
same_itself c = (Decides-eqb c c).1 refl

no_lack : (c : ℕ) (bs : List ℕ) → lacks c (c ∷ bs) ≡ true → false ≡ true
no_lack c bs h = ap (λ (b : Bool). not b && lacks c bs) (sym (same_itself c)) ∙ h

-- the first of these bytes parts what stands before it from what stands behind
pub cut_same : (c : ℕ) (a b x y : List ℕ) → lacks c a ≡ true → lacks c b ≡ true → a ++ c ∷ x ≡ b ++ c ∷ y → (a ≡ b) × (x ≡ y)
cut_same c [] [] x y p q e = (refl, (head_same c c x y e).1)
cut_same c [] (d ∷ b) x y p q e =
    let same = head_same c d x (b ++ c ∷ y) e in
    let none = no_lack c b (subst (λ (n : ℕ). lacks c (n ∷ b) ≡ true) (sym same.0) q) in
    absurd cc
cut_same c (d ∷ a) [] x y p q e =
    let same = head_same d c (a ++ c ∷ x) y e in
    let none = no_lack c a (subst (λ (n : ℕ). lacks c (n ∷ a) ≡ true) same.0 p) in
    absurd cc
cut_same c (d ∷ a) (f ∷ b) x y p q e =
    let same = head_same d f (a ++ c ∷ x) (b ++ c ∷ y) e in
    let rest = cut_same c a b x y (and_right (not (d == c)) (lacks c a) p) (and_right (not (f == c)) (lacks c b) q) same.1 in
    (λ i. same.0 i ∷ rest.0 i, rest.1)

pub lacks_joined : (c : ℕ) (a b : List ℕ) → lacks c a ≡ true → lacks c b ≡ true → lacks c (a ++ b) ≡ true
lacks_joined c a b p q = list_all-append (λ n. not (n == c)) a b ∙ both_true p q

-- a line, with what stands behind it
pub line_is : (word value rest : List ℕ) → line word value ++ rest ≡ (word ++ value) ++ 10 ∷ rest
unfolding line
line_is word value rest = append_assoc (word ++ value) (10 ∷ []) rest

pub line_same : (word a b x y : List ℕ) → is_plain word ≡ true → is_plain a ≡ true → is_plain b ≡ true → line word a ++ x ≡ line word b ++ y → (a ≡ b) × (x ≡ y)
line_same word a b x y w p q e =
    let cut = cut_same 10 (word ++ a) (word ++ b) x y (lacks_joined 10 word a w p) (lacks_joined 10 word b w q) (sym (line_is word a x) ∙ e ∙ line_is word b y) in
    (append_cancel_left word a b cut.0, cut.1)

-- Where the first line ends

position_is : {X : Type 0} (p : X → Bool) (xs : List X) (n : ℕ) → position_or_len p xs ≡ n → n < length xs → position p xs ≡ Some n
position_is p xs n same inside =
    ap (λ (m : ℕ). cond (nat_lt m (length xs)) (Some m) None) same ∙ ap (λ (b : Bool). cond b (Some n) None) (lt-ltb n (length xs) inside)

feed_at : (a r : List ℕ) → is_plain a ≡ true → position_or_len (λ b. b == 10) (a ++ 10 ∷ r) ≡ length a
feed_at [] r p = refl
feed_at (c ∷ a) r p =
    let rest = feed_at a r (and_right (not (c == 10)) (is_plain a) p) in
    cond-true (not (c == 10)) _ _ (and_left (not (c == 10)) (is_plain a) p) ∙ omega (arith, rest)

feed_found : (a r : List ℕ) → is_plain a ≡ true → position (λ b. b == 10) (a ++ 10 ∷ r) ≡ Some (length a)
feed_found a r p =
    let long = length-append a (10 ∷ r) in
    position_is (λ b. b == 10) (a ++ 10 ∷ r) (length a) (feed_at a r p) (omega (arith, long))

begins_itself : (word value : List ℕ) → begins word (word ++ value) ≡ true
begins_itself word value = ap (λ (t : List ℕ). bytes_eq t word) (take-append_seam word value) ∙ nat_list_eq_equiv.refl word

-- the bytes are cut where the first line feed stands
abbrev IsCut : List ℕ → ℕ → Type 0
IsCut bytes n = (bytes ≡ take n bytes ++ 10 ∷ drop (suc n) bytes) × (is_plain (take n bytes) ≡ true)

feed_cuts : (bytes : List ℕ) → position_or_len (λ b. b == 10) bytes < length bytes → IsCut bytes (position_or_len (λ b. b == 10) bytes)
feed_cuts [] h = absurd (omega (arith, h))
feed_cuts (c ∷ bs) inside =
    (elim (c == 10) as (λ b. (c == 10) ≡ b → cond (not b) (1 + position_or_len (λ n. n == 10) bs) 0 < suc (length bs) → IsCut (c ∷ bs) (cond (not b) (1 + position_or_len (λ n. n == 10) bs) 0)) [
      | true ↦ λ e h. (ap (λ (n : ℕ). n ∷ bs) ((Decides-eqb c 10).0 e), refl)
      | false ↦ λ e h. let shorter : position_or_len (λ n. n == 10) bs < length bs = omega (arith, h) in
          let one : 1 + position_or_len (λ n. n == 10) bs ≡ suc (position_or_len (λ n. n == 10) bs) = omega arith in
          let rest = feed_cuts bs shorter in
          subst (IsCut (c ∷ bs)) (sym one) (ap (λ (xs : List ℕ). c ∷ xs) rest.0, both_true (ap not e) rest.1)
    ]) refl inside

pub none_by_feed : (word bytes : List ℕ) → position (λ b. b == 10) bytes ≡ None → IsLine word bytes None
none_by_feed word bytes none w value rest p e =
    let found = feed_found (word ++ value) rest (lacks_joined 10 word value w p) in
    no_some (sym none ∙ ap (position (λ b. b == 10)) (e ∙ line_is word value rest) ∙ found)
  where
    no_some : {P : Type 0} {n : ℕ} → None ≡ Some n → P
    no_some h = absurd cc

pub none_by_word : (word bytes : List ℕ) (at : ℕ) → position (λ b. b == 10) bytes ≡ Some at → begins word (take at bytes) ≡ false → IsLine word bytes None
none_by_word word bytes at some not_begun w value rest p e =
    let whole = e ∙ line_is word value rest in
    let found = feed_found (word ++ value) rest (lacks_joined 10 word value w p) in
    let same : Some at ≡ Some (length (word ++ value)) = sym some ∙ ap (position (λ b. b == 10)) whole ∙ found in
    let front : take at bytes ≡ word ++ value = ap (λ (n : ℕ). take n bytes) (some_same same) ∙ ap (take (length (word ++ value))) whole ∙ take-append_seam (word ++ value) (10 ∷ rest) in
    no (sym not_begun ∙ ap (begins word) front ∙ begins_itself word value)
  where
    no : {P : Type 0} → false ≡ true → P
    no h = absurd cc

-- what stands behind the word in the first line, and behind its end
pub line_found : (word bytes value rest : List ℕ) (at : ℕ) → position (λ b. b == 10) bytes ≡ Some at → begins word (take at bytes) ≡ true → value ≡ drop (length word) (take at bytes) → rest ≡ take (length bytes - (at + 1)) (drop (at + 1) bytes) → IsLine word bytes (Some (value, rest))
line_found word bytes value rest at some begun value_is rest_is =
    let place = position-some (λ b. b == 10) bytes at some in
    let inside : position_or_len (λ b. b == 10) bytes < length bytes = subst (λ n. n < length bytes) (sym place.0) place.1 in
    let cut = subst (IsCut bytes) place.0 (feed_cuts bytes inside) in
    let front : word ++ value ≡ take at bytes = ap (λ (t : List ℕ). t ++ value) (sym ((bytes_eq-Decides (take (length word) (take at bytes)) word).0 begun)) ∙ ap (λ (t : List ℕ). take (length word) (take at bytes) ++ t) value_is ∙ take-append-drop (length word) (take at bytes) in
    let plain : is_plain (word ++ value) ≡ true = ap is_plain front ∙ cut.1 in (
      cut.0 ∙ ap (λ (t : List ℕ). t ++ 10 ∷ drop (suc at) bytes) (sym front) ∙ ap (λ (t : List ℕ). (word ++ value) ++ 10 ∷ t) (sym (rest_is ∙ take_rest bytes (at + 1) ∙ ap (λ (n : ℕ). drop n bytes) (add-one at))) ∙ sym (line_is word value rest),
      and_right (is_plain word) (is_plain value) (sym (list_all-append (λ n. not (n == 10)) word value) ∙ plain),
    )

-- Lines of one word, one behind the other

module _ {V : Type 0} (word : List ℕ) (good : V → Bool) (spelling : V → List ℕ) (w : is_plain word ≡ true) (plain : (x : V) → good x ≡ true → is_plain (spelling x) ≡ true) (one : (x y : V) → good x ≡ true → good y ≡ true → spelling x ≡ spelling y → x ≡ y) where
  -- a line that is there, and one that is not
  clash : {P : Type 0} (x : V) (xs : List V) (rest bytes : List ℕ) → good x ≡ true → HasNoLine good spelling word bytes → bytes ≡ lines word spelling (x ∷ xs) ++ rest → P
  clash x xs rest bytes fit none e = absurd (none w x (lines word spelling xs ++ rest) fit (plain x fit) (e ∙ append_assoc (line word (spelling x)) (lines word spelling xs) rest))

  pub lines_same : (gs hs : List V) (x y : List ℕ) → list_all good gs ≡ true → list_all good hs ≡ true → HasNoLine good spelling word x → HasNoLine good spelling word y → lines word spelling gs ++ x ≡ lines word spelling hs ++ y → (gs ≡ hs) × (x ≡ y)
  lines_same [] [] x y p q none other e = (refl, e)
  lines_same [] (h ∷ hs) x y p q none other e = clash h hs y x (and_left (good h) (list_all good hs) q) none e
  lines_same (g ∷ gs) [] x y p q none other e = clash g gs x y (and_left (good g) (list_all good gs) p) other (sym e)
  lines_same (g ∷ gs) (h ∷ hs) x y p q none other e =
      let fit = and_left (good g) (list_all good gs) p in
      let fits = and_left (good h) (list_all good hs) q in
      let both = line_same word (spelling g) (spelling h) (lines word spelling gs ++ x) (lines word spelling hs ++ y) w (plain g fit) (plain h fits)
      (sym (append_assoc (line word (spelling g)) (lines word spelling gs) x) ∙ e ∙ append_assoc (line word (spelling h)) (lines word spelling hs) y) in
      let rest = lines_same gs hs x y (and_right (good g) (list_all good gs) p) (and_right (good h) (list_all good hs) q) none other both.1 in
      (λ i. one g h fit fits both.0 i ∷ rest.0 i, rest.1)

-- What bytes begin with, by their first one

abbrev pub is_first : List ℕ → List ℕ → Bool
is_first cs [] = false
is_first cs (b ∷ bs) = list_any (nat_eq b) cs

pub wider : (c : ℕ) (cs bs : List ℕ) → is_first cs bs ≡ true → is_first (c ∷ cs) bs ≡ true
wider c cs [] h = h
wider c cs (b ∷ bs) h = or_second (nat_eq b c) (list_any (nat_eq b) cs) h
  where
    or_second : (p q : Bool) → q ≡ true → (p || q) ≡ true
    or_second true q e = refl
    or_second false q e = e

-- a line of another word does not stand there
pub no_line : {V : Type 0} (good : V → Bool) (spelling : V → List ℕ) (c : ℕ) (word cs y : List ℕ) → is_first cs y ≡ true → list_any (nat_eq c) cs ≡ false → HasNoLine good spelling (c ∷ word) y
unfolding line
no_line good spelling c word cs y first none w x rest fit plain e = no (sym none ∙ sym (ap (is_first cs) e) ∙ first)
  where
    no : {P : Type 0} → false ≡ true → P
    no h = absurd cc

pub first_lines : {V : Type 0} (spelling : V → List ℕ) (c : ℕ) (word cs y : List ℕ) (xs : List V) → list_any (nat_eq c) cs ≡ true → is_first cs y ≡ true → is_first cs (lines (c ∷ word) spelling xs ++ y) ≡ true
unfolding line
first_lines spelling c word cs y [] own first = first
first_lines spelling c word cs y (x ∷ xs) own first = own

-- one line more
pub one_more : {V : Type 0} (word : List ℕ) (good : V → Bool) (spelling : V → List ℕ) (xs : List V) (x : V) (bytes rest behind : List ℕ) → (list_all good xs ≡ true) × (bytes ≡ lines word spelling xs ++ rest) → HasLine good spelling word rest x behind → (list_all good (xs ++ x ∷ []) ≡ true) × (bytes ≡ lines word spelling (xs ++ x ∷ []) ++ behind)
one_more {V} word good spelling xs x bytes rest behind so more = (
  list_all-append good xs (x ∷ []) ∙ both_true so.0 (both_true more.0 refl),
  so.1 ∙ ap (λ (t : List ℕ). lines word spelling xs ++ t) more.1 ∙ sym (append_assoc (lines word spelling xs) (line word (spelling x)) behind) ∙ ap (λ (t : List ℕ). t ++ behind) (sym (joined xs)),
)
  where
    joined : (ys : List V) → lines word spelling (ys ++ x ∷ []) ≡ lines word spelling ys ++ line word (spelling x)
    joined [] = append-nil (line word (spelling x))
    joined (y ∷ ys) = ap (λ (t : List ℕ). line word (spelling y) ++ t) (joined ys) ∙ sym (append_assoc (line word (spelling y)) (lines word spelling ys) (line word (spelling x)))

-- what a reader of one line says where its value is read, or is not
pub said_line : {V : Type 0} (word : List ℕ) (good : V → Bool) (spelling : V → List ℕ) (bytes value behind : List ℕ) (x : V) → IsLine word bytes (Some (value, behind)) → (good x ≡ true) × (value ≡ spelling x) → HasLine good spelling word bytes x behind
said_line word good spelling bytes value behind x is said = (said.0, is.0 ∙ ap (λ (t : List ℕ). line word t ++ behind) said.1)

pub unsaid_line : {V : Type 0} (word : List ℕ) (good : V → Bool) (spelling : V → List ℕ) (bytes value behind : List ℕ) → IsLine word bytes (Some (value, behind)) → ((x : V) → good x ≡ true → value ≡ spelling x → ⊥) → HasNoLine good spelling word bytes
unsaid_line word good spelling bytes value behind is none w x rest fit plain e =
    none x fit (line_same word value (spelling x) behind rest w is.1 plain (sym is.0 ∙ e)).0

pub no_line_said : {V : Type 0} (word : List ℕ) (good : V → Bool) (spelling : V → List ℕ) (bytes : List ℕ) → IsLine word bytes None → HasNoLine good spelling word bytes
no_line_said word good spelling bytes none w x rest fit plain e = none w (spelling x) rest plain e
