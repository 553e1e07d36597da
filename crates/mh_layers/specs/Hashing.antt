-- Values as members of a set: what is hashed of a value is what it holds, as numbers and octets are hashed.
use Rattle.std.specs.Prelude.{◌≡◌, ℕ, Bool, true, false, ◌&&◌, List, ◌++◌, refl}
use Rattle.std.specs.Cmp.{IsEquivalence}
use Rattle.std.specs.Hash as fed
use Rattle.std.specs.Cmp.Lexicographic.{nat_list_eq_equiv}
use Rattle.std.proofs.Common.{ap, sym, subst}
use Rattle.std.proofs.lemmas.Bool.{false≢true}
use Rattle.std.proofs.lemmas.Bool.Decides.{Decides-int_eq, Decides-eqb}
use Rattle.std.proofs.lemmas.Slice.Eq.{bytes_eq-Decides}
use Rattle.mh_base.specs.Mixing.{mixed}
use Rattle.mh_base.specs.declared.value.Value.{Value}
use Rattle.mh_base.specs.declared.value.Value.TheVariants as value
use Rattle.mh_model.specs.Variables.{same_value}
use Rattle.mh_model.proofs.ServiceLemmas.{same_ref-same}

abbrev pub hash_words : Value → List (List ℕ)
hash_words (value.Bool b) = fed.bool b
hash_words (value.Int n) = fed.i32 n
hash_words (value.Octets os) = fed.slice fed.u8 os
hash_words (value.Object r) = fed.u32 r.number ++ fed.u64 (mixed r.group)
hash_words (value.Content g) = fed.u64 (mixed g)

-- values are the same or not
pub value_one : (a b : Value) → same_value a b ≡ true → a ≡ b
value_one (value.Bool true) (value.Bool true) e = refl
value_one (value.Bool false) (value.Bool false) e = refl
value_one (value.Bool true) (value.Bool false) e = absurd (false≢true e)
value_one (value.Bool false) (value.Bool true) e = absurd (false≢true e)
value_one (value.Int a) (value.Int b) e = ap value.Int ((Decides-int_eq a b).0 e)
value_one (value.Octets a) (value.Octets b) e = ap value.Octets ((bytes_eq-Decides a b).0 e)
value_one (value.Object a) (value.Object b) e = ap value.Object (same_ref-same a b e)
value_one (value.Content a) (value.Content b) e = ap value.Content ((bytes_eq-Decides a b).0 e)
value_one (value.Bool true) _ e = absurd (false≢true e)
value_one (value.Bool false) _ e = absurd (false≢true e)
value_one (value.Int a) _ e = absurd (false≢true e)
value_one (value.Octets a) _ e = absurd (false≢true e)
value_one (value.Object a) _ e = absurd (false≢true e)
value_one (value.Content a) _ e = absurd (false≢true e)

pub value_itself : (a : Value) → same_value a a ≡ true
value_itself (value.Bool true) = refl
value_itself (value.Bool false) = refl
value_itself (value.Int a) = (Decides-int_eq a a).1 refl
value_itself (value.Octets a) = nat_list_eq_equiv.refl a
value_itself (value.Object a) = λ i. nat_list_eq_equiv.refl a.group i && (Decides-eqb a.number a.number).1 refl i
value_itself (value.Content a) = nat_list_eq_equiv.refl a

turned : (a b : Value) → same_value a b ≡ true → same_value b a ≡ true
turned a b e = subst (λ (c : Value). same_value c a ≡ true) (value_one a b e) (value_itself a)

value_symm : (a b : Value) → same_value a b ≡ same_value b a
value_symm a b = by (same_value a b) (same_value b a) (turned a b) (turned b a)
  where
    by : (c d : Bool) → (c ≡ true → d ≡ true) → (d ≡ true → c ≡ true) → c ≡ d
    by true d h g = sym (h refl)
    by false true h g = g refl
    by false false h g = refl

pub value_equiv : IsEquivalence same_value
value_equiv = record {
  refl = value_itself;
  symm = value_symm;
  congr = λ a b c e. ap (λ (x : Value). same_value x c) (value_one a b e);
}

-- and what is the same is hashed alike
pub same_words : (a b : Value) → same_value a b ≡ true → hash_words a ≡ hash_words b
same_words a b e = ap hash_words (value_one a b e)
