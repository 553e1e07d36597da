-- Elements of the notation: what was taken stands there, and what stands there is taken.
use Rattle.std.proofs.Common.{◌≡◌, ℕ, ◌<◌, ◌^◌, ◌⊎◌, inl, inr, Bool, true, false, ◌==◌, if◌then◌else◌, List, [], ◌∷◌, ◌++◌, Option, Some, Result, Ok, Err, refl, ap, sym, ◌∙◌, subst, arith, append-nil}
use Rattle.std.specs.List.{find}
use Rattle.std.proofs.lemmas.Bool.Decides.{nat_tests}
use Rattle.mh_base.specs.Reading.{Rest}
use Rattle.mh_der.specs.declared.tag.Tag.{Tag}
use Rattle.mh_der.specs.declared.tag.TagClass.{TagClass}
use Rattle.mh_der.specs.declared.tag.TagClass.TheVariants as class
use Rattle.mh_der.specs.declared.der_error.DerError.{DerError}
use Rattle.mh_der.specs.Tags.{boolean_tag, integer_tag, octet_string_tag, sequence_tag}
use Rattle.mh_der.specs.Element.{element}
use Rattle.mh_der.specs.Rest.{Element}
use Rattle.mh_der.specs.Reading.{next, ended as der_ended}
use Rattle.mh_der.proofs.DigitLemmas.{AreBytes}
use Rattle.mh_der.proofs.ElementLaws.{Found, element_found, element_given}
use Rattle.mh_codec.specs.declared.kind.Kind.{Kind}
use Rattle.mh_codec.specs.declared.kind.Kind.TheVariants as kind
use Rattle.mh_codec.specs.Tags.{kind_of, kind_in}
use Rattle.mh_codec.specs.Spelling.{own}
use Rattle.mh_codec.specs.Gives.{der}
use Rattle.mh_codec.specs.Reading.{taken, ended}

-- the octets of an element
abbrev pub written : Element → List ℕ
written e = element e.tag e.contents.bytes

-- octets in two parts, each of which is what another is
pub in_parts : (bs front rest first more : List ℕ) → bs ≡ front ++ rest → front ≡ first → rest ≡ more → bs ≡ first ++ more
in_parts bs front rest first more is f r = rw (is, f, r) refl

-- octets in one part, behind which nothing stands
pub last_part : (bs front rest first : List ℕ) → bs ≡ front ++ rest → rest ≡ [] → front ≡ first → bs ≡ first
last_part bs front rest first is none f = rw (is, none, f) (append-nil first)

-- an element as a source can hold it
pub record Good (e : Element) : Type 0 where
  pub small : e.tag.number < 2 ^ 16
  pub bytes : AreBytes e.contents.bytes

der_ok : {A : Type 0} (r : Result A DerError) (x : A) → der r ≡ Ok x → r ≡ Ok x
der_ok (Ok y) x e = cc
der_ok (Err w) x e = absurd cc

pub taken_found : (left : Rest) (e : Element) (behind : Rest) → AreBytes left.bytes → taken left ≡ Ok (e, behind) → Found left e behind
unfolding taken
taken_found left e behind bytes is = element_found left e behind bytes (der_ok (next left) (e, behind) is)

pub good_found : (left : Rest) (e : Element) (behind : Rest) → Found left e behind → Good e
good_found left e behind found = record { small = found.small; bytes = found.contents }

-- what stands at the front is taken
pub record Given (left : Rest) (t : Tag) (contents more : List ℕ) : Type 0 where
  pub found : Element
  pub rest : Rest
  pub takes : taken left ≡ Ok (found, rest)
  pub tag : found.tag ≡ t
  pub inner : found.contents.bytes ≡ contents
  pub small : found.tag.number < 2 ^ 16
  pub is : written found ≡ element t contents
  pub behind : rest.bytes ≡ more

abbrev at : ℕ → List ℕ → Rest
at o bs = record { offset = o; bytes = bs }

given_at : (o : ℕ) (t : Tag) (c r : List ℕ) → t.number < 2 ^ 16 → Given (at o (element t c ++ r)) t c r
unfolding taken
given_at o t c r small = record {
  found = _;
  rest = _;
  takes = ap der (element_given o t c r small);
  tag = refl;
  inner = refl;
  small = small;
  is = refl;
  behind = refl;
}

pub taken_given : (left : Rest) (t : Tag) (c r : List ℕ) → t.number < 2 ^ 16 → left.bytes ≡ element t c ++ r → Given left t c r
taken_given left t c r small e = subst (λ (bs : List ℕ). Given (at left.offset bs) t c r) (sym e) (given_at left.offset t c r small)

-- an element has one tag and one contents
pub record Same (t s : Tag) (c d : List ℕ) : Type 0 where
  pub tag : t ≡ s
  pub inner : c ≡ d

same_ok : (e f : Element) (x y : Rest) → ◌≡◌ {A = Result (Element × Rest) DerError} (Ok (e, x)) (Ok (f, y)) → Same e.tag f.tag e.contents.bytes f.contents.bytes
same_ok e f x y is =
    let both : ◌≡◌ {A = Element × Rest} (e, x) (f, y) = cc in
    record { tag = ap (λ (p : Element × Rest). p.0.tag) both; inner = ap (λ (p : Element × Rest). p.0.contents.bytes) both }

pub same_element : (t s : Tag) (c d : List ℕ) → t.number < 2 ^ 16 → s.number < 2 ^ 16 → element t c ≡ element s d → Same t s c d
same_element t s c d small less e =
    same_ok _ _ _ _
    (sym (element_given 0 t c [] small) ∙ ap (λ (bs : List ℕ). next (at 0 (bs ++ []))) e ∙ element_given 0 s d [] less)

none_left : (bs : List ℕ) (o : ℕ) → ended (at o bs) ≡ Ok tt → bs ≡ []
unfolding ended der_ended
none_left [] o e = refl
none_left (b ∷ bs) o e = absurd cc

pub nothing_left : (left : Rest) → ended left ≡ Ok tt → left.bytes ≡ []
nothing_left left e = none_left left.bytes left.offset e

pub ended_given : (left : Rest) → left.bytes ≡ [] → ended left ≡ Ok tt
unfolding ended der_ended
ended_given left e = rw e refl

-- what tags stand for

pub same_number : (n m : ℕ) → (n == m) ≡ true → n ≡ m
same_number n m h = grind (arith, nat_tests)

-- the tag of this number that is the notation's own and primitive
abbrev pub primitive : ℕ → Tag
primitive n = record { class = class.Context; is_constructed = false; number = n }

-- the tag of a kind
abbrev pub tag_of_kind : Kind → Tag → Type 0
tag_of_kind kind.Boolean t = t ≡ boolean_tag
tag_of_kind kind.Integer t = t ≡ integer_tag
tag_of_kind kind.Octets t = t ≡ octet_string_tag
tag_of_kind kind.Sequence t = t ≡ sequence_tag
tag_of_kind (kind.Own n) t = t ≡ own n
tag_of_kind (kind.Primitive n) t = t ≡ primitive n
tag_of_kind kind.Other t = Unit {0}

abbrev plain : ℕ → Tag
plain n = record { class = class.Universal; is_constructed = false; number = n }

abbrev inner_tag : ℕ → Tag
inner_tag n = record { class = class.Universal; is_constructed = true; number = n }

told_plain : (n : ℕ) (a b c : Bool) → (n == 1) ≡ a → (n == 2) ≡ b → (n == 4) ≡ c
    → tag_of_kind (if a then kind.Boolean else (if b then kind.Integer else (if c then kind.Octets else kind.Other))) (plain n)
told_plain n true b c h i j = ap plain (same_number n 1 h)
told_plain n false true c h i j = ap plain (same_number n 2 i)
told_plain n false false true h i j = ap plain (same_number n 4 j)
told_plain n false false false h i j = tt

told_inner : (n : ℕ) (a : Bool) → (n == 16) ≡ a → tag_of_kind (if a then kind.Sequence else kind.Other) (inner_tag n)
told_inner n true h = ap inner_tag (same_number n 16 h)
told_inner n false h = tt

told : (c : TagClass) (b : Bool) (n : ℕ) → tag_of_kind (kind_in c b n) (record { class = c; is_constructed = b; number = n })
told class.Universal false n = told_plain n (n == 1) (n == 2) (n == 4) refl refl refl
told class.Universal true n = told_inner n (n == 16) refl
told class.Context true n = refl
told class.Context false n = refl
told class.Application b n = tt
told class.Private b n = tt

pub told_by : (t : Tag) → tag_of_kind (kind_of t) t
unfolding kind_of
told_by t = told t.class t.is_constructed t.number

-- what is found passes the test
found_first : {A : Type 0} (p : A → Bool) (y : A) (b : Bool) (rest : Option A) (x : A) → p y ≡ b → (if b then Some y else rest) ≡ Some x → ((p x ≡ true) ⊎ (rest ≡ Some x))
found_first p y true rest x h e = inl (let same : y ≡ x = cc in subst (λ z. p z ≡ true) same h)
found_first p y false rest x h e = inr e

pub find_holds : {A : Type 0} (p : A → Bool) (xs : List A) (x : A) → find p xs ≡ Some x → p x ≡ true
find_holds p [] x e = absurd cc
find_holds p (y ∷ ys) x e = elim (found_first p y (p y) (find p ys) x refl e) [ inl h ↦ h | inr h ↦ find_holds p ys x h ]
