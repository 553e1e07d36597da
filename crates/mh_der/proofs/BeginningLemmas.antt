-- Octets that begin with those of a tag are the ones from which that tag is read.
use Rattle.std.proofs.Common.{◌≡◌, ℕ, ◌<◌, ◌^◌, ◌==◌, ◌&&◌, Bool, true, false, List, ◌++◌, length, drop, Ok, Err, refl, sym, ◌∙◌, ap, subst, arith}
use Rattle.std.proofs.lemmas.Bool.Decides.{Decides-eqb, nat_tests}
use Rattle.std.proofs.lemmas.Slice.Eq.{starts_is}
use denote.Enum.Bare.{sameb}
use mathlib.Core.Bool.{beq}
use Rattle.mh_der.specs.declared.tag.Tag.{Tag}
use Rattle.mh_der.specs.declared.tag.TagClass.{TagClass}
use Rattle.mh_der.specs.declared.tag.TagClass.TheVariants as class
use Rattle.mh_der.specs.contracts.tag.TagClass.{the_type}
use Rattle.mh_der.specs.declared.der_error.Why.{Why}
use Rattle.mh_der.specs.Element.{identifier, begins_with}
use Rattle.mh_der.specs.Reading.{tag_of}
use Rattle.mh_der.proofs.DigitLemmas.{AreBytes, bytes_below}
use Rattle.mh_der.proofs.TagLemmas.{tag_given, tag_found, first_same, no_value}

-- the test of two tags
abbrev same_tag : Tag → Tag → Bool
same_tag t u = sameb the_type t.class u.class && (beq t.is_constructed u.is_constructed && (t.number == u.number))

one_class : (c d : TagClass) → sameb the_type c d ≡ true → c ≡ d
one_class class.Universal class.Universal e = refl
one_class class.Application class.Application e = refl
one_class class.Context class.Context e = refl
one_class class.Private class.Private e = refl
one_class _ _ e = absurd cc

one_form : (a b : Bool) → beq a b ≡ true → a ≡ b
one_form true true e = refl
one_form false false e = refl
one_form _ _ e = absurd cc

one_number : (m n : ℕ) → (m == n) ≡ true → m ≡ n
one_number m n e = grind (arith, nat_tests)

both : (a b : Bool) → (a && b) ≡ true → (a ≡ true) × (b ≡ true)
both true b e = (refl, e)
both false b e = absurd cc

-- tags that pass the test are one
one_tag : (t u : Tag) → same_tag t u ≡ true → t ≡ u
one_tag t u e =
    let p = both (sameb the_type t.class u.class) (beq t.is_constructed u.is_constructed && (t.number == u.number)) e in
    let q = both (beq t.is_constructed u.is_constructed) (t.number == u.number) p.1 in
    let c = one_class t.class u.class p.0 in
    let f = one_form t.is_constructed u.is_constructed q.0 in
    let n = one_number t.number u.number q.1 in
    λ i. record { class = c i; is_constructed = f i; number = n i }

own_class : (c : TagClass) → sameb the_type c c ≡ true
own_class class.Universal = refl
own_class _ = refl

own_form : (b : Bool) → beq b b ≡ true
own_form true = refl
own_form false = refl

own_number : (n : ℕ) → (n == n) ≡ true
own_number n = grind (arith, nat_tests)

-- and each tag passes it with itself
own_tag : (t : Tag) → same_tag t t ≡ true
own_tag t = rw (own_class t.class, own_form t.is_constructed, own_number t.number) refl

begins : (octets : List ℕ) (t : Tag) (rest : List ℕ) → octets ≡ identifier t ++ rest → begins_with octets t ≡ true
unfolding begins_with
begins octets t rest is = (starts_is Decides-eqb octets (identifier t) (begins_with octets t) refl).1 rest is

-- where octets begin with those of a tag, it is read
begins_read : (octets : List ℕ) (t : Tag) → t.number < 2 ^ 16 → begins_with octets t ≡ true → tag_of octets ≡ Ok (t, drop (length (identifier t)) octets)
unfolding begins_with
begins_read octets t small is =
    ap tag_of ((starts_is Decides-eqb octets (identifier t) (begins_with octets t) refl).0 is) ∙ tag_given t (drop (length (identifier t)) octets) small

not_true : (b : Bool) → (b ≡ true → ⊥) → false ≡ b
not_true false never = refl
not_true true never = absurd (never refl)

-- where none is read, the octets begin with those of none
pub begins_none : (octets : List ℕ) (t : Tag) (why : Why) → t.number < 2 ^ 16 → tag_of octets ≡ Err why → false ≡ begins_with octets t
begins_none octets t why small none = not_true (begins_with octets t) (λ is. no_value none (begins_read octets t small is))

true_not_false : {b : Bool} → b ≡ false → b ≡ true → ⊥
true_not_false e f = cc

-- where one is read, they begin with those of that one
pub begins_found : (octets : List ℕ) (t found : Tag) (rest : List ℕ) → AreBytes octets → t.number < 2 ^ 16 → tag_of octets ≡ Ok (found, rest)
    → same_tag found t ≡ begins_with octets t
begins_found octets t found rest bytes small is = by (same_tag found t) refl
  where
    by : (b : Bool) → same_tag found t ≡ b → same_tag found t ≡ begins_with octets t
    by true e =
        let stands = (tag_found octets found rest (bytes_below octets bytes) is).written in
        e ∙ sym (begins octets t rest (subst (λ (u : Tag). octets ≡ identifier u ++ rest) (one_tag found t e) stands))
    by false e =
        e ∙ not_true (begins_with octets t) (λ starts.
        let one : found ≡ t = first_same (sym is ∙ begins_read octets t small starts) in
        true_not_false e (subst (λ (u : Tag). same_tag u t ≡ true) (sym one) (own_tag t)))
