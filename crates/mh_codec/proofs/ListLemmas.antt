-- Lists of members up to their end, and fields up to theirs, one at a time.
use Rattle.std.proofs.Common.{◌≡◌, ℕ, zero, suc, ◌+◌, ◌<◌, List, [], ◌∷◌, ◌++◌, Option, Some, None, Result, Ok, refl, arith}
use Rattle.mh_base.specs.Reading.{Rest}
use Rattle.mh_base.proofs.ReadingLemmas.{fails_bind}
use Rattle.mh_der.specs.Rest.{Element}
use Rattle.mh_group.specs.declared.class.Class.{Class}
use Rattle.mh_group.specs.declared.written.Field.{Field}
use Rattle.mh_group.specs.Table.{attribute_number}
use Rattle.mh_codec.specs.declared.codec_error.CodecError.{CodecError}
use Rattle.mh_codec.specs.declared.codec_error.Why.TheVariants.{Limit}
use Rattle.mh_codec.specs.Tags.{Tags}
use Rattle.mh_codec.specs.Gives.{Refusal, Fails, told}
use Rattle.mh_codec.specs.Reading.{exhausted, listed, next_member, fields, next_field}

module _ {A : Type 0} (member : Element → Result A Refusal) where
  pub listed_fails : (n : ℕ) (done : List A) (left : Rest) (error : CodecError) → 0 < n → Fails error (next_member member left) → Fails error (listed member n done left)
  unfolding listed
  listed_fails zero done left error some h = absurd (omega arith)
  listed_fails (suc n) done left error some h = fails_bind (told error) (next_member member left) _ h

  pub listed_done : (n : ℕ) (done : List A) (left rest : Rest) (o : Option A) → 0 < n → next_member member left ≡ Ok (o, rest) → o ≡ None → listed member n done left ≡ Ok done
  unfolding listed
  listed_done zero done left rest o some e h = absurd (omega arith)
  listed_done (suc n) done left rest o some e h = rw (e, h) refl

  pub listed_more : (n k : ℕ) (done more : List A) (left rest : Rest) (o : Option A) (x : A) → k + 1 ≡ n → next_member member left ≡ Ok (o, rest) → o ≡ Some x → more ≡ done ++ x ∷ []
      → listed member k more rest ≡ listed member n done left
  unfolding listed
  listed_more zero k done more left rest o x h e s m = absurd (omega arith)
  listed_more (suc n) k done more left rest o x h e s m =
      let same : k ≡ n = omega arith in
      rw (e, s, m, same) refl

  -- a list that may take no more members
  pub listed_full : (n : ℕ) (done : List A) (left : Rest) → n ≡ 0 → exhausted Limit left ≡ Ok tt → listed member n done left ≡ Ok done
  unfolding listed
  listed_full zero done left z e = rw e refl
  listed_full (suc n) done left z e = absurd (omega arith)

  pub listed_full_fails : (n : ℕ) (done : List A) (left : Rest) (error : CodecError) → n ≡ 0 → Fails error (exhausted Limit left) → Fails error (listed member n done left)
  unfolding listed
  listed_full_fails zero done left error z h = fails_bind (told error) (exhausted Limit left) _ h
  listed_full_fails (suc n) done left error z h = absurd (omega arith)

pub fields_fail : (tags : Tags) (c : Class) (n last : ℕ) (done : List Field) (left : Rest) (error : CodecError) → 0 < n → Fails error (next_field tags c last left) → Fails error (fields tags c n last done left)
unfolding fields
fields_fail tags c zero last done left error some h = absurd (omega arith)
fields_fail tags c (suc n) last done left error some h = fails_bind (told error) (next_field tags c last left) _ h

pub fields_done : (tags : Tags) (c : Class) (n last : ℕ) (done : List Field) (left rest : Rest) (o : Option Field) (i : Option Element) → 0 < n → next_field tags c last left ≡ Ok (o, i, rest) → o ≡ None → fields tags c n last done left ≡ Ok (done, i, rest)
unfolding fields
fields_done tags c zero last done left rest o i some e h = absurd (omega arith)
fields_done tags c (suc n) last done left rest o i some e h = rw (e, h) refl

pub fields_more : (tags : Tags) (c : Class) (n k last number : ℕ) (done more : List Field) (left rest : Rest) (o : Option Field) (f : Field) (i : Option Element) → k + 1 ≡ n → next_field tags c last left ≡ Ok (o, i, rest) → o ≡ Some f → number ≡ attribute_number f.attribute → more ≡ done ++ f ∷ []
    → fields tags c k number more rest ≡ fields tags c n last done left
unfolding fields
fields_more tags c zero k last number done more left rest o f i h e s m l = absurd (omega arith)
fields_more tags c (suc n) k last number done more left rest o f i h e s m l =
    let same : k ≡ n = omega arith in
    rw (e, s, m, l, same) refl
