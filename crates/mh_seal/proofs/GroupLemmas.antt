-- The value of a group: 64 digits, whether it is late, and a name.
use Rattle.std.specs.Prelude.{◌≡◌, ◌++◌, ◌∷◌, ◌==◌, not, Bool, List, None, Some, [], codes, false, length, refl, true, ℕ}
use Rattle.std.specs.Str.{bytes_eq}
use Rattle.std.specs.Cmp.Derive.{both_true}
use Rattle.std.proofs.Common.{ap, arith, sym, ◌∙◌}
use Rattle.std.proofs.lemmas.List.Folds.{list_all-append}
use Rattle.std.proofs.lemmas.Slice.Eq.{bytes_eq-Decides}
use Rattle.hex.specs.Hex.{encode_lower}
use Rattle.mh_base.specs.Path.{is_path}
use Rattle.mh_seal.specs.declared.seal.SealedGroup.{SealedGroup}
use Rattle.mh_seal.specs.Lines.{IsParted, IsValue, is_plain}
use Rattle.mh_seal.specs.Octets.{is_digest}
use Rattle.mh_seal.specs.Reading.{is_group, is_named}
use Rattle.mh_seal.specs.Text.{as_is, group_value, named_value, presence}
use Rattle.mh_seal.proofs.PartLemmas.{same_parts}
use Rattle.mh_seal.proofs.TruthLemmas.{and_left, and_right}
use Rattle.mh_seal.proofs.ValueLemmas.{digits_long, one_digest, plain_digest, plain_name}

presence_long : (b : Bool) → length (presence b) ≡ 4
presence_long true = refl
presence_long false = refl

plain_presence : (b : Bool) → is_plain (presence b) ≡ true
plain_presence true = refl
plain_presence false = refl

abbrev first : List ℕ → ℕ
first [] = 0
first (b ∷ bs) = b

one_presence : (a b : Bool) → presence a ≡ presence b → a ≡ b
one_presence true true e = refl
one_presence false false e = refl
one_presence true false e = let h : 108 ≡ 104 = ap first e in absurd (omega (arith, h))
one_presence false true e = let h : 104 ≡ 108 = ap first e in absurd (omega (arith, h))

pub said_late : (word : List ℕ) → bytes_eq word (codes "late") ≡ true → IsValue (λ (b : Bool). true) presence word (Some true)
said_late word h = (refl, (bytes_eq-Decides word (codes "late")).0 h)

pub said_here : (word : List ℕ) → bytes_eq word (codes "here") ≡ true → IsValue (λ (b : Bool). true) presence word (Some false)
said_here word h = (refl, (bytes_eq-Decides word (codes "here")).0 h)

pub unsaid : (word : List ℕ) → bytes_eq word (codes "late") ≡ false → bytes_eq word (codes "here") ≡ false → IsValue (λ (b : Bool). true) presence word None
unsaid word h k true g e = no (sym h ∙ (bytes_eq-Decides word (codes "late")).1 e)
  where
    no : false ≡ true → ⊥
    no n = absurd cc
unsaid word h k false g e = no (sym k ∙ (bytes_eq-Decides word (codes "here")).1 e)
  where
    no : false ≡ true → ⊥
    no n = absurd cc

-- Whether it is late, and its name

-- the name is read behind four letters
parted_name : (n : Bool × List ℕ) → IsParted 4 (named_value n) (Some (presence n.0, n.1))
unfolding named_value
parted_name n = (refl, presence_long n.0)

plain_named : (n : Bool × List ℕ) → is_named n ≡ true → is_plain (named_value n) ≡ true
unfolding named_value
plain_named n h = list_all-append (λ (c : ℕ). not (c == 10)) (presence n.0) (32 ∷ n.1) ∙ both_true (plain_presence n.0) (plain_name n.1 h)

named_is : (n : Bool × List ℕ) → named_value n ≡ presence n.0 ++ 32 ∷ n.1
unfolding named_value
named_is n = refl

pub named_so : (value a b n : List ℕ) (late : Bool) → IsParted 4 value (Some (a, b)) → (true ≡ true) × (a ≡ presence late) → (is_path n ≡ true) × (b ≡ as_is n) → IsValue is_named named_value value (Some (late, n))
named_so value a b n late parts word name =
    (name.0, parts.0 ∙ ap (λ (t : List ℕ). t ++ 32 ∷ b) word.1 ∙ ap (λ (t : List ℕ). presence late ++ 32 ∷ t) name.1 ∙ sym (named_is (late, n)))

pub not_named : (value : List ℕ) → IsParted 4 value None → IsValue is_named named_value value None
not_named value none n h e = none (presence n.0) n.1 (presence_long n.0) (e ∙ named_is n)

pub not_presence : (value a b : List ℕ) → IsParted 4 value (Some (a, b)) → IsValue (λ (c : Bool). true) presence a None → IsValue is_named named_value value None
not_presence value a b parts none n h e = none n.0 refl (same_parts 4 value a b (presence n.0) n.1 parts (presence_long n.0) (e ∙ named_is n)).0

pub no_name : (value a b : List ℕ) → IsParted 4 value (Some (a, b)) → IsValue is_path as_is b None → IsValue is_named named_value value None
no_name value a b parts none n h e = none n.1 h (same_parts 4 value a b (presence n.0) n.1 parts (presence_long n.0) (e ∙ named_is n)).1

one_named : (m n : Bool × List ℕ) → named_value m ≡ named_value n → m ≡ n
one_named m n e =
    let same = same_parts 4 (named_value m) (presence m.0) m.1 (presence n.0) n.1 (parted_name m) (presence_long n.0) (e ∙ named_is n) in
    λ i. (one_presence m.0 n.0 same.0 i, same.1 i)

-- The group

group_is : (g : SealedGroup) → group_value g ≡ encode_lower g.digest ++ 32 ∷ named_value (g.is_late, g.name)
unfolding group_value
group_is g = refl

-- its digest, and its name
of_digest : (g : SealedGroup) → is_group g ≡ true → is_digest g.digest ≡ true
of_digest g h = and_right (is_path g.name) (is_digest g.digest) h

of_name : (g : SealedGroup) → is_group g ≡ true → is_path g.name ≡ true
of_name g h = and_left (is_path g.name) (is_digest g.digest) h

pub plain_group : (g : SealedGroup) → is_group g ≡ true → is_plain (group_value g) ≡ true
plain_group g h =
    ap is_plain (group_is g) ∙ list_all-append (λ (c : ℕ). not (c == 10)) (encode_lower g.digest) (32 ∷ named_value (g.is_late, g.name))
    ∙ both_true (plain_digest g.digest (of_digest g h)) (plain_named (g.is_late, g.name) (of_name g h))

-- the digits, and what stands behind them
group_parts : (g : SealedGroup) (value a b : List ℕ) → is_group g ≡ true → IsParted 64 value (Some (a, b)) → value ≡ group_value g → (a ≡ encode_lower g.digest) × (b ≡ named_value (g.is_late, g.name))
group_parts g value a b h parts e = same_parts 64 value a b (encode_lower g.digest) (named_value (g.is_late, g.name)) parts (digits_long g.digest (of_digest g h)) (e ∙ group_is g)

pub one_group : (g f : SealedGroup) → is_group g ≡ true → is_group f ≡ true → group_value g ≡ group_value f → g ≡ f
one_group g f h k e =
    let same = group_parts f (group_value g) (encode_lower g.digest) (named_value (g.is_late, g.name)) k (group_is g, digits_long g.digest (of_digest g h)) e in
    let digests = one_digest g.digest f.digest (of_digest g h) (of_digest f k) same.0 in
    let named = one_named (g.is_late, g.name) (f.is_late, f.name) same.1 in
    λ i. record { name = (named i).1; digest = digests i; is_late = (named i).0 }

pub group_said : (value a b d n : List ℕ) (late : Bool) → IsParted 64 value (Some (a, b)) → IsValue is_digest encode_lower a (Some d) → IsValue is_named named_value b (Some (late, n)) → IsValue is_group group_value value (Some (record { name = n; digest = d; is_late = late }))
group_said value a b d n late parts digest named =
    (both_true named.0 digest.0, parts.0 ∙ ap (λ (t : List ℕ). t ++ 32 ∷ b) digest.1 ∙ ap (λ (t : List ℕ). encode_lower d ++ 32 ∷ t) named.1 ∙ sym (group_is (record { name = n; digest = d; is_late = late })))

pub group_ungiven : (value : List ℕ) → IsParted 64 value None → IsValue is_group group_value value None
group_ungiven value none g h e = none (encode_lower g.digest) (named_value (g.is_late, g.name)) (digits_long g.digest (of_digest g h)) (e ∙ group_is g)

pub group_undigested : (value a b : List ℕ) → IsParted 64 value (Some (a, b)) → IsValue is_digest encode_lower a None → IsValue is_group group_value value None
group_undigested value a b parts none g h e = none g.digest (of_digest g h) (group_parts g value a b h parts e).0

pub group_unnamed : (value a b : List ℕ) → IsParted 64 value (Some (a, b)) → IsValue is_named named_value b None → IsValue is_group group_value value None
group_unnamed value a b parts none g h e = none (g.is_late, g.name) (of_name g h) (group_parts g value a b h parts e).1
