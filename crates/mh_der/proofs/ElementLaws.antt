-- Where an element is read it stands as it is written, and each that is written is read.
use Rattle.std.proofs.Common.{◌≡◌, ℕ, ◌+◌, ◌-◌, ◌<◌, ◌≤◌, ◌^◌, List, ◌++◌, length, take, drop, Result, Ok, Err, refl, sym, ◌∙◌, ap, ap₂, subst, arith, append_assoc, length-append, length-take, take-append-drop}
use Rattle.std.proofs.Math.Seq.{take-append_seam}
use Rattle.std.specs.Int.Digits.{AllBelowBase}
use Rattle.mh_base.specs.Reading.{Rest, ◌>>=◌}
use Rattle.mh_der.specs.declared.tag.Tag.{Tag}
use Rattle.mh_der.specs.declared.der_error.Why.{Why}
use Rattle.mh_der.specs.declared.der_error.DerError.{DerError}
use Rattle.mh_der.specs.Element.{identifier, length_octets, element}
use Rattle.mh_der.specs.Laws.{BeginWithNone}
use Rattle.mh_der.specs.Reading.{tag_of, length_of, parts, element_at, found_at, next}
use Rattle.mh_der.specs.Rest.{Element}
use Rattle.mh_der.proofs.DigitLemmas.{AreBytes, bytes_below, below_bytes, below_front, below_behind}
use Rattle.mh_der.proofs.TagLemmas.{tag_given, tag_found, identifier_some, same_value, no_value}
use Rattle.mh_der.proofs.LengthLemmas.{length_given, length_found, octets_some, drop_seam}

-- an element is its contents and two octets in front at least
pub element_longer : (t : Tag) (contents : List ℕ) → length contents + 2 ≤ length (element t contents)
unfolding element
element_longer t c =
    omega (arith, length-append (identifier t) (length_octets (length c) ++ c), length-append (length_octets (length c)) c, identifier_some t, octets_some (length c))

element_behind : (t : Tag) (c r : List ℕ) → element t c ++ r ≡ identifier t ++ (length_octets (length c) ++ (c ++ r))
unfolding element
element_behind t c r =
    append_assoc (identifier t) (length_octets (length c) ++ c) r ∙ ap (λ (xs : List ℕ). identifier t ++ xs) (append_assoc (length_octets (length c)) c r)

-- the parts of an element
abbrev pub three : Tag → List ℕ → List ℕ → Result (Tag × List ℕ × List ℕ) Why
three t c r = Ok (t, c, r)

abbrev cut_at : Tag → ℕ × List ℕ → Result (Tag × List ℕ × List ℕ) Why
cut_at t n = Ok (t, take n.0 n.1, drop n.0 n.1)

abbrev measured : Tag × List ℕ → Result (Tag × List ℕ × List ℕ) Why
measured t = length_of t.1 >>= cut_at t.0

parts_are : (bs : List ℕ) → parts bs ≡ (tag_of bs >>= measured)
unfolding parts
parts_are bs = refl

pub parts_given : (t : Tag) (c r : List ℕ) → t.number < 2 ^ 16 → parts (element t c ++ r) ≡ three t c r
parts_given t c r small =
    let within : length c ≤ length (c ++ r) = omega (arith, length-append c r) in
    ap parts (element_behind t c r)
    ∙ parts_are (identifier t ++ (length_octets (length c) ++ (c ++ r)))
    ∙ ap (λ (x : Result (Tag × List ℕ) Why). x >>= measured) (tag_given t (length_octets (length c) ++ (c ++ r)) small)
    ∙ ap (λ (x : Result (ℕ × List ℕ) Why). x >>= cut_at t) (length_given (length c) (c ++ r) within)
    ∙ ap₂ (three t) (take-append_seam c r) (drop_seam c r)

same_place : (o : ℕ) (e c r : List ℕ) → length c ≤ length e → (o + (length (e ++ r) - length r) ≡ o + length e) × ((o + length e) - length c ≡ o + (length e - length c))
same_place o e c r h = (omega (arith, length-append e r), omega arith)

-- what stands where an element begins
abbrev here : ℕ → List ℕ → Rest
here o bs = record { offset = o; bytes = bs }

abbrev told : Tag → ℕ → ℕ → ℕ → List ℕ → List ℕ → Result (Element × Rest) DerError
told t o start end c r = Ok (record { tag = t; offset = o; contents = record { offset = start; bytes = c } }, record { offset = end; bytes = r })

placed : (o : ℕ) (bs : List ℕ) (t : Tag) (c r : List ℕ) → parts bs ≡ three t c r
    → next (here o bs) ≡ told t o ((o + (length bs - length r)) - length c) (o + (length bs - length r)) c r
unfolding next
placed o bs t c r e = ap (found_at (here o bs)) e

-- each element that is written is read
pub element_given : (o : ℕ) (t : Tag) (contents behind : List ℕ) → t.number < 2 ^ 16
    → next (record { offset = o; bytes = element t contents ++ behind })
    ≡ Ok (
      record { tag = t; offset = o; contents = record { offset = o + (length (element t contents) - length contents); bytes = contents } },
      record { offset = o + length (element t contents); bytes = behind },
    )
element_given o t c r small =
    let longer : length c ≤ length (element t c) = omega (arith, element_longer t c) in
    let p = same_place o (element t c) c r longer in
    placed o (element t c ++ r) t c r (parts_given t c r small)
    ∙ ap (λ (end : ℕ). told t o (end - length c) end c r) p.0
    ∙ ap (λ (start : ℕ). told t o start (o + length (element t c)) c r) p.1

-- where nothing is read no element stands
no_element : {A : Type 0} {w : DerError} {r : Result A DerError} {x : A} → r ≡ Err w → r ≡ Ok x → ⊥
no_element e is = cc

pub element_none : (left : Rest) (error : DerError) → next left ≡ Err error → BeginWithNone left.bytes
element_none left error e t c r small is =
    no_element (subst (λ (bs : List ℕ). next (here left.offset bs) ≡ Err error) is e) (element_given left.offset t c r small)

pub parts_none : (bs : List ℕ) (why : Why) → parts bs ≡ Err why → BeginWithNone bs
parts_none bs why error t c r small is = no_value error (ap parts is ∙ parts_given t c r small)

-- an element that was read
pub record Found (left : Rest) (e : Element) (behind : Rest) : Type 0 where
  pub written : left.bytes ≡ element e.tag e.contents.bytes ++ behind.bytes
  pub small : e.tag.number < 2 ^ 16
  pub offset : e.offset ≡ left.offset
  pub contents : AreBytes e.contents.bytes
  pub rest : AreBytes behind.bytes

-- the steps of a reading that went well
record Bound {A B : Type 0} (r : Result A Why) (f : A → Result B Why) (y : B) : Type 0 where
  pub value : A
  pub first : r ≡ Ok value
  pub then : f value ≡ Ok y

bound : {A B : Type 0} (r : Result A Why) (f : A → Result B Why) (y : B) → (r >>= f) ≡ Ok y → Bound r f y
bound (Ok x) f y e = record { value = x; first = refl; then = e }
bound (Err w) f y e = absurd cc

joined : (bs left rest : List ℕ) (t : Tag) (n : ℕ) → bs ≡ identifier t ++ left → left ≡ length_octets n ++ rest → n ≤ length rest
    → bs ≡ element t (take n rest) ++ drop n rest
joined bs left rest t n first second within =
    let count : length (take n rest) ≡ n = simp length-take (omega arith) in
    first ∙ ap (λ (xs : List ℕ). identifier t ++ xs) second
    ∙ ap (λ (xs : List ℕ). identifier t ++ (length_octets n ++ xs)) (sym (take-append-drop n rest))
    ∙ ap (λ (m : ℕ). identifier t ++ (length_octets m ++ (take n rest ++ drop n rest))) (sym count)
    ∙ sym (element_behind t (take n rest) (drop n rest))

-- the bytes begin with the element of these parts
abbrev pub Begins : List ℕ → Tag × List ℕ × List ℕ → Type 0
Begins bs x = (bs ≡ element x.0 x.1 ++ x.2) × (x.0.number < 2 ^ 16)

pub parts_found : (bs : List ℕ) (x : Tag × List ℕ × List ℕ) → AllBelowBase 256 bs → parts bs ≡ Ok x → Begins bs x
parts_found bs x below e =
    let a = bound (tag_of bs) measured x (sym (parts_are bs) ∙ e) in
    let t = a.value.0 in
    let tagged = tag_found bs t a.value.1 below a.first in
    let left = below_behind (identifier t) a.value.1 (subst (AllBelowBase 256) tagged.written below) in
    let b = bound (length_of a.value.1) (cut_at t) x a.then in
    let n = b.value.0 in
    let rest = b.value.1 in
    let lengthy = length_found a.value.1 n rest left b.first in
    subst (Begins bs) (same_value b.then) (joined bs a.value.1 rest t n tagged.written lengthy.written lengthy.within, tagged.small)

pub parts_stand : (bs : List ℕ) (t : Tag) (c r : List ℕ) → AreBytes bs → parts bs ≡ three t c r → bs ≡ element t c ++ r
parts_stand bs t c r bytes e = (parts_found bs (t, c, r) (bytes_below bs bytes) e).0

-- what the steps of a reading say
pub steps_stand : (bs : List ℕ) (t : Tag) (left : List ℕ) (n : ℕ) (rest : List ℕ) → AreBytes bs → tag_of bs ≡ Ok (t, left) → length_of left ≡ Ok (n, rest)
    → bs ≡ element t (take n rest) ++ drop n rest
steps_stand bs t left n rest bytes tag size =
    parts_stand bs t (take n rest) (drop n rest) bytes
    (parts_are bs ∙ ap (λ (x : Result (Tag × List ℕ) Why). x >>= measured) tag ∙ ap (λ (x : Result (ℕ × List ℕ) Why). x >>= cut_at t) size)

pub tag_none : (bs : List ℕ) (why : Why) → tag_of bs ≡ Err why → BeginWithNone bs
tag_none bs why tag = parts_none bs why (parts_are bs ∙ ap (λ (x : Result (Tag × List ℕ) Why). x >>= measured) tag)

pub length_none : (bs : List ℕ) (t : Tag) (left : List ℕ) (why : Why) → tag_of bs ≡ Ok (t, left) → length_of left ≡ Err why → BeginWithNone bs
length_none bs t left why tag size =
    parts_none bs why
    (parts_are bs ∙ ap (λ (x : Result (Tag × List ℕ) Why). x >>= measured) tag ∙ ap (λ (x : Result (ℕ × List ℕ) Why). x >>= cut_at t) size)

found_parts : (left : Rest) (x : Tag × List ℕ × List ℕ) → AllBelowBase 256 left.bytes → parts left.bytes ≡ Ok x
    → Found left (element_at left x.0 x.1 x.2).0 (element_at left x.0 x.1 x.2).1
found_parts left x below e =
    let found = parts_found left.bytes x below e in
    let inner = subst (AllBelowBase 256) found.0 below in
    let whole = subst (AllBelowBase 256) (element_behind x.0 x.1 x.2) inner in
    let contents = below_behind (length_octets (length x.1)) (x.1 ++ x.2) (below_behind (identifier x.0) _ whole) in
    record {
      written = found.0;
      small = found.1;
      offset = refl;
      contents = below_bytes x.1 (below_front x.1 x.2 contents);
      rest = below_bytes x.2 (below_behind x.1 x.2 contents);
    }

found_in : (left : Rest) (y : Element × Rest) (r : Result (Tag × List ℕ × List ℕ) Why) → AllBelowBase 256 left.bytes → parts left.bytes ≡ r
    → found_at left r ≡ Ok y → Found left y.0 y.1
found_in left y (Err w) below e is = absurd cc
found_in left y (Ok x) below e is =
    let same : element_at left x.0 x.1 x.2 ≡ y = cc in
    subst (λ (z : Element × Rest). Found left z.0 z.1) same (found_parts left x below e)

-- where an element was read it stands
pub element_found : (left : Rest) (e : Element) (behind : Rest) → AreBytes left.bytes → next left ≡ Ok (e, behind) → Found left e behind
unfolding next
element_found left e behind bytes is = found_in left (e, behind) (parts left.bytes) (bytes_below left.bytes bytes) refl is
