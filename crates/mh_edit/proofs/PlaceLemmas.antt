-- Where a token stands that was cut off, and which tokens are numbers.
use Rattle.std.proofs.Common.{◌≡◌, ℕ, suc, ◌+◌, ◌-◌, ◌<◌, inl, inr, Bool, true, false, if◌then◌else◌, List, [], ◌∷◌, ◌++◌, length, take, drop, min, Option, Some, None, refl, ap, ap₂, sym, ◌∙◌, arith, append_assoc, length-drop, length-take, take-append-drop}
use Rattle.std.proofs.Common.{codes, bytes_eq}
use Rattle.mh_base.specs.Reading.{Rest}
use Rattle.mh_base.specs.declared.obj_ref.ObjRef.{ObjRef}
use Rattle.mh_text.specs.declared.token.kind.TokenKind.{TokenKind}
use Rattle.mh_text.specs.declared.token.kind.TokenKind.TheVariants as kind
use Rattle.mh_text.specs.Left.{cut, token, lexed, lexed_at}
use Rattle.mh_text.specs.Lexing.{gap_length, token_at}
use Rattle.mh_text.specs.Words.{IsGap}
use Rattle.mh_text.proofs.GapLemmas.{gap_found, Outside}
use Rattle.mh_edit.specs.declared.sense.Sense.{Sense}
use Rattle.mh_edit.specs.declared.sense.Sense.TheVariants as sense
use Rattle.mh_edit.specs.declared.walk.Front.{Front}
use Rattle.mh_edit.specs.declared.walk.Front.TheVariants as front
use Rattle.mh_edit.specs.declared.walk.Stand.{Stand}
use Rattle.mh_edit.specs.declared.word.Extent.{Extent}
use Rattle.mh_edit.specs.Objects.{is_use}
use Rattle.mh_edit.specs.Senses.{action_named, attribute_named, class_named, inner_of, keyword_sense, kind_named, mark_sense, name_sense, or_else, sense_of}
use Rattle.mh_edit.specs.Walk.{role_in, text_role}
use Rattle.mh_edit.specs.Words.{text_of}

-- A TOKEN'S PLACE

pub record IsPlaced (r : Rest) (start : ℕ) (text : List ℕ) (rest : Rest) : Type 0 where
  pub gap : List ℕ
  pub is_gap : IsGap gap
  pub at : start ≡ r.offset + length gap
  pub bytes : r.bytes ≡ (gap ++ text) ++ rest.bytes
  pub behind : 0 < length rest.bytes → rest.offset ≡ start + length text

gap_in_front : (bs : List ℕ) (n b : ℕ) (rest : List ℕ) → drop n bs ≡ b ∷ rest → Outside bs n → IsGap (take n bs)
gap_in_front bs n b rest there (inl gap) = gap
gap_in_front bs n b rest there (inr (end, last)) = absurd (cc (sym there ∙ end))

placed_by : (n : ℕ) (r : Rest) (b : ℕ) (bs : List ℕ) (o : Option (TokenKind × ℕ)) → drop n r.bytes ≡ b ∷ bs → IsGap (take n r.bytes)
    → (k : TokenKind) (s : ℕ) (text : List ℕ) (rest : Rest) → cut (r.offset + n) (b ∷ bs) o ≡ token k s text rest → IsPlaced r s text rest
placed_by n r b bs None there gap k s text rest e = absurd cc
placed_by n r b bs (Some found) there gap k s text rest e =
    let texts : take found.1 (b ∷ bs) ≡ text = cc in
    let starts : r.offset + n ≡ s = cc in
    let rests : record { offset = r.offset + n + found.1; bytes = drop found.1 (b ∷ bs) } ≡ rest = cc in
    let offsets : r.offset + n + found.1 ≡ rest.offset = ap (λ (x : Rest). x.offset) rests in
    let left : drop found.1 (b ∷ bs) ≡ rest.bytes = ap (λ (x : Rest). x.bytes) rests in
    let sizes : length r.bytes - n ≡ suc (length bs) = sym (length-drop n r.bytes) ∙ ap length there in
    let front : length (take n r.bytes) ≡ n = length-take n r.bytes ∙ (omega (arith, sizes)) in
    let more : length rest.bytes ≡ suc (length bs) - found.1 = ap length (sym left) ∙ length-drop found.1 (b ∷ bs) in
    let long : length text ≡ min found.1 (suc (length bs)) = ap length (sym texts) ∙ length-take found.1 (b ∷ bs) in
    let whole : r.bytes ≡ take n r.bytes ++ (b ∷ bs) = sym (take-append-drop n r.bytes) ∙ ap (λ (l : List ℕ). take n r.bytes ++ l) there in
    let parts : b ∷ bs ≡ text ++ rest.bytes = sym (take-append-drop found.1 (b ∷ bs)) ∙ ap₂ (λ (x y : List ℕ). x ++ y) texts left in
    record {
      gap = take n r.bytes;
      is_gap = gap;
      at = sym starts ∙ ap (λ (x : ℕ). r.offset + x) (sym front);
      bytes = whole ∙ ap (λ (l : List ℕ). take n r.bytes ++ l) parts ∙ sym (append_assoc (take n r.bytes) text rest.bytes);
      behind = λ some. omega (arith, some, more, long, offsets, starts);
    }

placed_from : (n : ℕ) (r : Rest) (bs : List ℕ) → drop n r.bytes ≡ bs → Outside r.bytes n
    → (k : TokenKind) (s : ℕ) (text : List ℕ) (rest : Rest) → lexed_at (r.offset + n) bs ≡ token k s text rest → IsPlaced r s text rest
placed_from n r [] there out k s text rest e = absurd cc
placed_from n r (b ∷ bs) there out k s text rest e = placed_by n r b bs (token_at (b ∷ bs)) there (gap_in_front r.bytes n b bs there out) k s text rest e

pub token_placed : (r : Rest) (k : TokenKind) (s : ℕ) (text : List ℕ) (rest : Rest) → lexed r ≡ token k s text rest → IsPlaced r s text rest
unfolding lexed
token_placed r k s text rest e =
    placed_from (gap_length false r.bytes) r (drop (gap_length false r.bytes) r.bytes) refl (gap_found r.bytes) k s text rest e

-- NUMBERS

-- the token means anything but a number
abbrev IsNoNumber : Sense → Type 0
IsNoNumber (sense.Number n) = ⊥
IsNoNumber _ = Unit {0}

text_no_use : (from bs : List ℕ) (o : ObjRef) (f : Front) (inner : Extent) → is_use from bs o (text_role f inner) ≡ false
unfolding is_use
text_no_use from bs o front.ContentOpen inner = refl
text_no_use from bs o front.Open inner = refl
text_no_use from bs o _ inner = refl

no_use : (from bs : List ℕ) (o : ObjRef) (s : Stand) (x : Sense) → IsNoNumber x → is_use from bs o (role_in s x) ≡ false
unfolding is_use role_in
no_use from bs o s (sense.Number n) is = absurd is
no_use from bs o s (sense.Text inner) is = text_no_use from bs o s.front inner
no_use from bs o s (sense.Class c) is = refl
no_use from bs o s (sense.Attribute a) is = refl
no_use from bs o s (sense.Action a) is = refl
no_use from bs o s _ is = refl

or_no : {A : Type 0} (f : A → Sense) (o : Option A) (s : Sense) → ((a : A) → IsNoNumber (f a)) → IsNoNumber s → IsNoNumber (or_else f o s)
or_no f None s each other = other
or_no f (Some a) s each other = each a

either_no : (b : Bool) (x y : Sense) → IsNoNumber x → IsNoNumber y → IsNoNumber (if b then x else y)
either_no true x y first second = first
either_no false x y first second = second

mark_no : (name : List ℕ) → IsNoNumber (mark_sense name)
unfolding mark_sense
mark_no name =
    either_no (bytes_eq name (codes "IndirectRef")) sense.IndirectRef (if bytes_eq name (codes "ContentRef") then sense.ContentRef else sense.Unknown) tt
    (either_no (bytes_eq name (codes "ContentRef")) sense.ContentRef sense.Unknown tt tt)

name_no : (name : List ℕ) → IsNoNumber (name_sense name)
unfolding name_sense
name_no name =
    let kinds = or_else sense.Kind (kind_named name) (mark_sense name) in
    let classes = or_else sense.Class (class_named name) kinds in
    let actions = or_else sense.Action (action_named name) classes in
    or_no sense.Attribute (attribute_named name) actions (λ a. tt) (or_no sense.Action (action_named name) classes (λ a. tt)
    (or_no sense.Class (class_named name) kinds (λ a. tt) (or_no sense.Kind (kind_named name) (mark_sense name) (λ a. tt) (mark_no name))))

keyword_no : (name : List ℕ) → IsNoNumber (keyword_sense name)
keyword_no [] = tt
keyword_no (c ∷ name) = name_no name

unused : (from bs : List ℕ) (o : ObjRef) (s : Stand) (x : Sense) → IsNoNumber x → is_use from bs o (role_in s x) ≡ true → ⊥
unused from bs o s x other is =
    let clash : true ≡ false = sym is ∙ no_use from bs o s x other in
    absurd (cc clash)

-- a token that is the number of an object is a number
pub use_is_integer : (from bs : List ℕ) (o : ObjRef) (s : Stand) (k : TokenKind) (at : Extent)
    → is_use from bs o (role_in s (sense_of bs (record { kind = k; at = at }))) ≡ true → k ≡ kind.Integer
unfolding sense_of
use_is_integer from bs o s kind.Integer at is = refl
use_is_integer from bs o s kind.Keyword at is = absurd (unused from bs o s (keyword_sense (text_of bs at)) (keyword_no (text_of bs at)) is)
use_is_integer from bs o s kind.Text at is = absurd (unused from bs o s (sense.Text (inner_of at)) tt is)
use_is_integer from bs o s kind.OpenBrace at is = absurd (unused from bs o s sense.OpenBrace tt is)
use_is_integer from bs o s kind.CloseBrace at is = absurd (unused from bs o s sense.CloseBrace tt is)
use_is_integer from bs o s kind.OpenParenthesis at is = absurd (unused from bs o s sense.Open tt is)
use_is_integer from bs o s kind.CloseParenthesis at is = absurd (unused from bs o s sense.Close tt is)
use_is_integer from bs o s kind.Word at is = absurd (unused from bs o s sense.Value tt is)
use_is_integer from bs o s kind.Quoted at is = absurd (unused from bs o s sense.Value tt is)
