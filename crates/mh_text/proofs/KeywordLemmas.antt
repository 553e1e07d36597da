-- A name that is the name of a keyword means that keyword, whichever of the tables has it.
use Rattle.std.proofs.Common.{◌≡◌, ℕ, ◌<◌, Bool, true, false, ◌&&◌, nat_eq, List, [], ◌∷◌, ◌++◌, length, get_or, Some, Ok, codes, bytes_eq, refl, ap, sym, ◌∙◌, subst, w64, arith}
use Rattle.std.specs.Bool.{one_answer}
use Rattle.std.specs.Int.{from_le_bytes, to_le_bytes}
use Rattle.std.proofs.lemmas.Bool.Decides.{nat_tests}
use Rattle.std.proofs.lemmas.Nat.{le_bytes_8}
use Rattle.std.proofs.lemmas.Slice.Eq.{bytes_eq-Decides}
use Rattle.mh_base.specs.declared.value.Kind.{Kind}
use Rattle.mh_group.specs.declared.class.Class.{Class}
use Rattle.mh_group.specs.declared.attribute.Attribute.{Attribute}
use Rattle.mh_group.specs.declared.action_name.ActionName.{ActionName}
use Rattle.mh_group.specs.Words.{class_word, attribute_word, action_word, kind_word}
use Rattle.mh_text.specs.declared.token.kind.TokenKind.TheVariants as kind
use Rattle.mh_text.specs.declared.sign.Sign.{Sign}
use Rattle.mh_text.specs.declared.sign.Sign.TheVariants as sign
use Rattle.mh_text.specs.declared.text_error.Why.TheVariants as why
use Rattle.mh_text.specs.Signs.{sign_of, name_sign}
use Rattle.mh_text.proofs.SignLemmas.{or_gives, class_means, attribute_means, action_means, kind_means, content_ref_means, indirect_ref_means}

-- what a keyword means, its name means without the colon
of_name : (word name : List ℕ) (s : Sign) → sign_of kind.Keyword (58 ∷ word) ≡ Ok s → bytes_eq word name ≡ true → name_sign name ≡ Some s
unfolding sign_of
of_name word name s means h = subst (λ n. name_sign n ≡ Some s) ((bytes_eq-Decides word name).0 h) (or_gives why.UnknownName (name_sign word) s means)

pub class_named : (c : Class) (name : List ℕ) → bytes_eq (class_word c) name ≡ true → name_sign name ≡ Some (sign.Class c)
class_named c name = of_name (class_word c) name (sign.Class c) (class_means c)

pub attribute_named : (a : Attribute) (name : List ℕ) → bytes_eq (attribute_word a) name ≡ true → name_sign name ≡ Some (sign.Attribute a)
attribute_named a name = of_name (attribute_word a) name (sign.Attribute a) (attribute_means a)

pub action_named : (a : ActionName) (name : List ℕ) → bytes_eq (action_word a) name ≡ true → name_sign name ≡ Some (sign.Action a)
action_named a name = of_name (action_word a) name (sign.Action a) (action_means a)

pub kind_named : (k : Kind) (name : List ℕ) → bytes_eq (kind_word k) name ≡ true → name_sign name ≡ Some (sign.Kind k)
kind_named k name = of_name (kind_word k) name (sign.Kind k) (kind_means k)

pub content_ref_named : (name : List ℕ) → bytes_eq (codes "ContentRef") name ≡ true → name_sign name ≡ Some sign.ContentRef
content_ref_named name = of_name (codes "ContentRef") name sign.ContentRef content_ref_means

pub indirect_ref_named : (name : List ℕ) → bytes_eq (codes "IndirectRef") name ≡ true → name_sign name ≡ Some sign.IndirectRef
indirect_ref_named name = of_name (codes "IndirectRef") name sign.IndirectRef indirect_ref_means

-- eight bytes are the same where the words are that they make
pub eight_same : (bs cs : List ℕ) (n m : ℕ) → length bs ≡ 8 → length cs ≡ 8 → ((i : ℕ) → get_or bs i 0 < 256) → ((i : ℕ) → get_or cs i 0 < 256)
    → n ≡ from_le_bytes w64 bs → m ≡ from_le_bytes w64 cs → nat_eq n m ≡ bytes_eq bs cs
eight_same bs cs n m l k small tiny is are = one_answer (nat_eq n m) (bytes_eq bs cs) (told, tells) (bytes_eq-Decides bs cs)
  where
    told : nat_eq n m ≡ true → bs ≡ cs
    told e =
        let word : n ≡ m = grind (arith, nat_tests) in
        sym (le_bytes_8 bs n l small is) ∙ ap (to_le_bytes w64) word ∙ le_bytes_8 cs m k tiny are

    tells : bs ≡ cs → nat_eq n m ≡ true
    tells same =
        let word : n ≡ m = is ∙ ap (from_le_bytes w64) same ∙ sym are in
        grind (arith, nat_tests)

-- lists are the same where their fronts, of one length, and what is behind these are
pub parts_same : (bs cs xs ys : List ℕ) → length bs ≡ length cs → (bytes_eq bs cs && bytes_eq xs ys) ≡ bytes_eq (bs ++ xs) (cs ++ ys)
parts_same [] [] xs ys l = refl
parts_same [] (c ∷ cs) xs ys l = absurd (omega arith)
parts_same (b ∷ bs) [] xs ys l = absurd (omega arith)
parts_same (b ∷ bs) (c ∷ cs) xs ys l = first (nat_eq b c) (parts_same bs cs xs ys (omega arith))
  where
    first : (t : Bool) → (bytes_eq bs cs && bytes_eq xs ys) ≡ bytes_eq (bs ++ xs) (cs ++ ys)
        → ((t && bytes_eq bs cs) && bytes_eq xs ys) ≡ (t && bytes_eq (bs ++ xs) (cs ++ ys))
    first true rest = rest
    first false rest = refl
