-- What was read is spelled so: values, from their tokens.
use Rattle.std.proofs.Common.{◌≡◌, ℕ, zero, suc, ◌+◌, ◌*◌, ◌≤◌, ◌⊎◌, inl, inr, Bool, true, false, ◌==◌, if◌then◌else◌, List, [], ◌∷◌, ◌++◌, length, Option, Some, None, Result, Ok, ℤ, pos, negsuc, int_lt, unsigned_abs, codes, refl, ap, sym, ◌∙◌, subst, arith, append_assoc, append-nil}
use Rattle.std.proofs.lemmas.Bool.Decides.{nat_tests}
use Rattle.mh_base.specs.declared.colour.Colour.{Colour}
use Rattle.mh_base.specs.declared.event.EventType.{EventType}
use Rattle.mh_base.specs.Reading.{◌>>=◌}
use Rattle.mh_base.specs.Limits.{longest_list}
use Rattle.mh_base.proofs.ReadingLemmas.{went, if_ok, if_not_ok, ok_same}
use Rattle.mh_group.specs.declared.reference.Ref.{Ref}
use Rattle.mh_group.specs.declared.reference.Ref.TheVariants as ref
use Rattle.mh_group.specs.declared.reference.Generic.{Generic}
use Rattle.mh_group.specs.declared.reference.Generic.TheVariants.{Direct, Indirect}
use Rattle.mh_group.specs.declared.justification.Justification.{Justification}
use Rattle.mh_group.specs.declared.action.Content.{Content}
use Rattle.mh_group.specs.declared.action.Content.TheVariants as of_content
use Rattle.mh_group.specs.declared.action.EventData.{EventData}
use Rattle.mh_group.specs.Holdable.{colour_octets}
use Rattle.mh_group.specs.Words.{event_word, justification_word}
use Rattle.mh_group.specs.Fit.{is_field_length}
use Rattle.mh_text.specs.declared.token.kind.TokenKind.TheVariants as kind
use Rattle.mh_text.specs.declared.sign.Sign.{Sign}
use Rattle.mh_text.specs.declared.sign.Sign.TheVariants as sign
use Rattle.mh_text.specs.declared.text_error.Why.{Why}
use Rattle.mh_text.specs.declared.text_error.Why.TheVariants as why
use Rattle.mh_text.specs.declared.octet_text.Escape.TheVariants.{Outside}
use Rattle.mh_text.specs.Escapes.{unescaped}
use Rattle.mh_text.specs.Bytes.{hexadecimal_value}
use Rattle.mh_text.specs.Rest.{Left, Piece}
use Rattle.mh_text.specs.Signs.{sign_of}
use Rattle.mh_text.specs.Words.{Written, IsWord, Quotes, nothing, plain, escaped}
use Rattle.mh_text.specs.Gives.{Refusal}
use Rattle.mh_text.specs.Spelling.{IsOpen, IsClose, IsOpenBrace, Writes, IsInteger, IsNumber, IsName, AreOctets, truth_word, IsTruth, IsRef, IsGeneric, IsContentName, IsContent, IsData, AreSeveral, IsListOf}
use Rattle.mh_text.specs.Reading.{next, past, is_open, is_close, is_open_brace, is_close_brace, is_indirect, is_content_ref, opened, closed, closed_list, braced, inner, refused_at, name_of, integer_of, natural_of, field_length_of, fixed_of, number_of, truth_of, event_of, justification_of, octets_of, colour_in, colour_of, named_reference, reference, made, alone, truth, integer, octets, data_of, event_data, content_name, content, generic, next_member, continued, listed, list}
use Rattle.mh_text.proofs.SignLemmas.{content_ref_spelled, indirect_ref_spelled, truth_spelled, event_spelled, justification_spelled, integer_spelled, inner_is}
use Rattle.mh_text.proofs.PieceLemmas.{kind_of, word_of, as_word, words, IsGood, AreGood, Passes, PassesFrom, turned, onward, went_on}

-- a token that passes a test, as it was read
record Passed (test : Sign → Bool) (left rest : Left) : Type 0 where
  pub piece : Piece
  pub written : words left ≡ word_of piece ∷ words rest
  pub is_good : IsGood piece
  pub good : AreGood rest.pieces
  pub wrong : rest.wrong ≡ left.wrong
  pub test_ok : test piece.sign ≡ true

past_found : (test : Sign → Bool) (w : Why) (left rest : Left) → AreGood left.pieces → past test w left ≡ Ok rest → Passed test left rest
past_found test w left rest good e =
    let n = went_on left (λ x. if test x.0.sign then Ok x.1 else refused_at w x.0) rest good e in
    let t = if_ok (test n.piece.sign) (Ok n.rest) w n.piece.start rest n.behind in
    let same : n.rest ≡ rest = ok_same t.1 in
    record {
      piece = n.piece;
      written = n.written ∙ ap (λ r. word_of n.piece ∷ words r) same;
      is_good = n.is_good;
      good = subst (λ r. AreGood r.pieces) same n.good;
      wrong = subst (λ r. r.wrong ≡ left.wrong) same n.wrong;
      test_ok = t.0;
    }

open_word : (s : Sign) (text : List ℕ) → is_open s ≡ true → IsWord (kind_of s) text → as_word (kind_of s) text ≡ as_word kind.OpenParenthesis (40 ∷ [])
open_word sign.OpenParenthesis text h word = ap (λ t. as_word kind.OpenParenthesis t) word
open_word _ text h word = absurd cc

close_word : (s : Sign) (text : List ℕ) → is_close s ≡ true → IsWord (kind_of s) text → as_word (kind_of s) text ≡ as_word kind.CloseParenthesis (41 ∷ [])
close_word sign.CloseParenthesis text h word = ap (λ t. as_word kind.CloseParenthesis t) word
close_word _ text h word = absurd cc

open_brace_word : (s : Sign) (text : List ℕ) → is_open_brace s ≡ true → IsWord (kind_of s) text → as_word (kind_of s) text ≡ as_word kind.OpenBrace (123 ∷ [])
open_brace_word sign.OpenBrace text h word = ap (λ t. as_word kind.OpenBrace t) word
open_brace_word _ text h word = absurd cc

close_brace_word : (s : Sign) (text : List ℕ) → is_close_brace s ≡ true → IsWord (kind_of s) text → as_word (kind_of s) text ≡ as_word kind.CloseBrace (125 ∷ [])
close_brace_word sign.CloseBrace text h word = ap (λ t. as_word kind.CloseBrace t) word
close_brace_word _ text h word = absurd cc

pub is_open_word : (p : Piece) → IsGood p → is_open p.sign ≡ true → word_of p ≡ as_word kind.OpenParenthesis (40 ∷ [])
is_open_word p good h = open_word p.sign p.text h good.word

pub is_close_word : (p : Piece) → IsGood p → is_close p.sign ≡ true → word_of p ≡ as_word kind.CloseParenthesis (41 ∷ [])
is_close_word p good h = close_word p.sign p.text h good.word

pub is_open_brace_word : (p : Piece) → IsGood p → is_open_brace p.sign ≡ true → word_of p ≡ as_word kind.OpenBrace (123 ∷ [])
is_open_brace_word p good h = open_brace_word p.sign p.text h good.word

pub is_close_brace_word : (p : Piece) → IsGood p → is_close_brace p.sign ≡ true → word_of p ≡ as_word kind.CloseBrace (125 ∷ [])
is_close_brace_word p good h = close_brace_word p.sign p.text h good.word

indirect_word : (s : Sign) (text : List ℕ) → is_indirect s ≡ true → IsWord (kind_of s) text → sign_of (kind_of s) text ≡ Ok s → as_word (kind_of s) text ≡ as_word kind.Keyword (58 ∷ codes "IndirectRef")
indirect_word sign.IndirectRef text h word means = ap (λ t. as_word kind.Keyword t) (indirect_ref_spelled text word means)
indirect_word _ text h word means = absurd cc

content_ref_word : (s : Sign) (text : List ℕ) → is_content_ref s ≡ true → IsWord (kind_of s) text → sign_of (kind_of s) text ≡ Ok s → as_word (kind_of s) text ≡ as_word kind.Keyword (58 ∷ codes "ContentRef")
content_ref_word sign.ContentRef text h word means = ap (λ t. as_word kind.Keyword t) (content_ref_spelled text word means)
content_ref_word _ text h word means = absurd cc

pub opened_found : (left rest : Left) → AreGood left.pieces → opened left ≡ Ok rest → Passes IsOpen left rest
unfolding opened
opened_found left rest good e =
    let p = past_found is_open why.Syntax left rest good e in
    record { spells = p.written ∙ ap (λ w. w ∷ words rest) (is_open_word p.piece p.is_good p.test_ok); good = p.good; wrong = p.wrong }

pub closed_found : (left rest : Left) → AreGood left.pieces → closed left ≡ Ok rest → Passes IsClose left rest
unfolding closed
closed_found left rest good e =
    let p = past_found is_close why.Syntax left rest good e in
    record { spells = p.written ∙ ap (λ w. w ∷ words rest) (is_close_word p.piece p.is_good p.test_ok); good = p.good; wrong = p.wrong }

pub closed_list_found : (left rest : Left) → AreGood left.pieces → closed_list left ≡ Ok rest → Passes IsClose left rest
unfolding closed_list
closed_list_found left rest good e =
    let p = past_found is_close why.Limit left rest good e in
    record { spells = p.written ∙ ap (λ w. w ∷ words rest) (is_close_word p.piece p.is_good p.test_ok); good = p.good; wrong = p.wrong }

pub braced_found : (left rest : Left) → AreGood left.pieces → braced left ≡ Ok rest → Passes IsOpenBrace left rest
unfolding braced
braced_found left rest good e =
    let p = past_found is_open_brace why.Syntax left rest good e in
    record { spells = p.written ∙ ap (λ w. w ∷ words rest) (is_open_brace_word p.piece p.is_good p.test_ok); good = p.good; wrong = p.wrong }

-- names
text_inner : (text name : List ℕ) → IsWord kind.Text text → inner text ≡ name → text ≡ 34 ∷ (name ++ 34 ∷ [])
text_inner text name (within, is, _) e =
    let same : within ≡ name = sym (ap inner is ∙ inner_is 34 within) ∙ e in
    is ∙ ap (λ (n : List ℕ). 34 ∷ (n ++ 34 ∷ [])) same

named_word : (s : Sign) (start : ℕ) (text name : List ℕ) → name_of (record { sign = s; start = start; text = text }) ≡ Ok name → IsWord (kind_of s) text
    → as_word (kind_of s) text ≡ as_word kind.Text (34 ∷ (name ++ 34 ∷ []))
unfolding name_of
named_word sign.Text start text name e word =
    ap (λ t. as_word kind.Text t) (text_inner text name word (ok_same (if_ok _ _ _ _ name e).1))
named_word _ start text name e word = absurd cc

pub name_found : (p : Piece) (name : List ℕ) → IsGood p → name_of p ≡ Ok name → word_of p ≡ as_word kind.Text (34 ∷ (name ++ 34 ∷ []))
name_found p name good e = named_word p.sign p.start p.text name e good.word

-- the word writes this integer
abbrev pub IsIntegerWord : ℤ → Written → Type 0
IsIntegerWord x w = (text : List ℕ) × Writes text x × (w ≡ as_word kind.Integer text)

integer_word : (s : Sign) (start : ℕ) (text : List ℕ) (x : ℤ) → integer_of (record { sign = s; start = start; text = text }) ≡ Ok x
    → sign_of (kind_of s) text ≡ Ok s → IsWord (kind_of s) text → IsIntegerWord x (as_word (kind_of s) text)
unfolding integer_of
integer_word (sign.Integer y) start text x e means word =
    let same : y ≡ x = ok_same e in
    (text, subst (Writes text) same (integer_spelled text y word means), refl)
integer_word _ start text x e means word = absurd cc

pub integer_found : (p : Piece) (x : ℤ) → IsGood p → integer_of p ≡ Ok x → IsIntegerWord x (word_of p)
integer_found p x good e = integer_word p.sign p.start p.text x e good.means good.word

natural_is : (p : Piece) (x : ℤ) → natural_of p ≡ Ok x → (integer_of p ≡ Ok x) × (int_lt x (pos 0) ≡ false)
unfolding natural_of
natural_is p x e =
    let w = went (integer_of p) (λ y. if int_lt y (pos 0) then refused_at why.Range p else Ok y) x e in
    let t = if_not_ok (int_lt w.value (pos 0)) (Ok w.value) why.Range p.start x w.behind in
    let same : w.value ≡ x = ok_same t.1 in
    (w.first ∙ ap Ok same, subst (λ y. int_lt y (pos 0) ≡ false) same t.0)

pub natural_found : (p : Piece) (x : ℤ) → IsGood p → natural_of p ≡ Ok x → IsIntegerWord x (word_of p)
natural_found p x good e = integer_found p x good (natural_is p x e).0

pub field_length_found : (p : Piece) (x : ℤ) → IsGood p → field_length_of p ≡ Ok x → IsIntegerWord x (word_of p)
unfolding field_length_of
field_length_found p x good e =
    let w = went (integer_of p) _ x e in
    let t = if_ok (is_field_length w.value) (Ok w.value) why.Range p.start x w.behind in
    integer_found p x good (w.first ∙ ap Ok (ok_same t.1))

pub fixed_found : (wanted : ℤ) (p : Piece) (x : ℤ) → IsGood p → fixed_of wanted p ≡ Ok x → IsIntegerWord x (word_of p)
unfolding fixed_of
fixed_found wanted p x good e =
    let w = went (integer_of p) _ x e in
    let t = if_ok _ (Ok w.value) why.Range p.start x w.behind in
    integer_found p x good (w.first ∙ ap Ok (ok_same t.1))

not_below : (x : ℤ) → int_lt x (pos 0) ≡ false → x ≡ pos (unsigned_abs x)
not_below (pos n) h = refl
not_below (negsuc n) h = absurd cc

pub number_found : (p : Piece) (n : ℕ) → IsGood p → number_of p ≡ Ok n → IsIntegerWord (pos n) (word_of p)
unfolding number_of
number_found p n good e =
    let w = went (natural_of p) (λ x. Ok (unsigned_abs x)) n e in
    let t = natural_is p w.value w.first in
    let same : w.value ≡ pos n = not_below w.value t.1 ∙ ap pos (ok_same w.behind) in
    integer_found p (pos n) good (t.0 ∙ ap Ok same)

truth_word_of : (s : Sign) (start : ℕ) (text : List ℕ) (b : Bool) → truth_of (record { sign = s; start = start; text = text }) ≡ Ok b → sign_of (kind_of s) text ≡ Ok s
    → as_word (kind_of s) text ≡ as_word kind.Word (truth_word b)
unfolding truth_of
truth_word_of (sign.Truth c) start text b e means =
    let same : c ≡ b = ok_same e in
    ap (λ t. as_word kind.Word t) (truth_spelled text c means ∙ ap truth_word same)
truth_word_of _ start text b e means = absurd cc

pub truth_found : (p : Piece) (b : Bool) → IsGood p → truth_of p ≡ Ok b → word_of p ≡ as_word kind.Word (truth_word b)
truth_found p b good e = truth_word_of p.sign p.start p.text b e good.means

event_word_of : (s : Sign) (start : ℕ) (text : List ℕ) (b : EventType) → event_of (record { sign = s; start = start; text = text }) ≡ Ok b → sign_of (kind_of s) text ≡ Ok s
    → as_word (kind_of s) text ≡ as_word kind.Word (event_word b)
unfolding event_of
event_word_of (sign.Event c) start text b e means =
    let same : c ≡ b = ok_same e in
    ap (λ t. as_word kind.Word t) (event_spelled text c means ∙ ap event_word same)
event_word_of _ start text b e means = absurd cc

pub event_found : (p : Piece) (b : EventType) → IsGood p → event_of p ≡ Ok b → word_of p ≡ as_word kind.Word (event_word b)
event_found p b good e = event_word_of p.sign p.start p.text b e good.means

justification_word_of : (s : Sign) (start : ℕ) (text : List ℕ) (b : Justification) → justification_of (record { sign = s; start = start; text = text }) ≡ Ok b → sign_of (kind_of s) text ≡ Ok s
    → as_word (kind_of s) text ≡ as_word kind.Word (justification_word b)
unfolding justification_of
justification_word_of (sign.Justification c) start text b e means =
    let same : c ≡ b = ok_same e in
    ap (λ t. as_word kind.Word t) (justification_spelled text c means ∙ ap justification_word same)
justification_word_of _ start text b e means = absurd cc

pub justification_found : (p : Piece) (b : Justification) → IsGood p → justification_of p ≡ Ok b → word_of p ≡ as_word kind.Word (justification_word b)
justification_found p b good e = justification_word_of p.sign p.start p.text b e good.means

-- octets
pub quotes_unescaped : (bs os : List ℕ) → Quotes bs os → unescaped Outside bs ≡ os
quotes_unescaped bs os nothing = refl
quotes_unescaped bs os (plain b bs' os' q ne h) =
    let other : (b == 61) ≡ false = grind (arith, nat_tests) in
    rw other (ap (λ (l : List ℕ). b ∷ l) (quotes_unescaped bs' os' h))
quotes_unescaped bs os (escaped high low bs' os' q r h) = ap (λ (l : List ℕ). (hexadecimal_value high * 16 + hexadecimal_value low) ∷ l) (quotes_unescaped bs' os' h)

-- the word is that of a string or of a quoted string
abbrev pub IsOctetsWord : List ℕ → Written → Type 0
IsOctetsWord octets w =
    (w ≡ as_word kind.Text (34 ∷ (octets ++ 34 ∷ [])))
    ⊎ ((within : List ℕ) × Quotes within octets × (w ≡ as_word kind.Quoted (39 ∷ (within ++ 39 ∷ []))))

octets_word : (s : Sign) (start : ℕ) (text octets : List ℕ) → octets_of (record { sign = s; start = start; text = text }) ≡ Ok octets → IsWord (kind_of s) text
    → IsOctetsWord octets (as_word (kind_of s) text)
unfolding octets_of
octets_word sign.Text start text octets e word = inl (ap (λ t. as_word kind.Text t) (text_inner text octets word (ok_same e)))
octets_word sign.Quoted start text octets e (within, os, is, quotes) =
    let inside : inner text ≡ within = ap inner is ∙ inner_is 39 within in
    let same : os ≡ octets = sym (quotes_unescaped within os quotes) ∙ ap (unescaped Outside) (sym inside) ∙ ok_same e in
    inr (within, subst (Quotes within) same quotes, ap (λ t. as_word kind.Quoted t) is)
octets_word _ start text octets e word = absurd cc

pub octets_found : (p : Piece) (octets : List ℕ) → IsGood p → octets_of p ≡ Ok octets → IsOctetsWord octets (word_of p)
octets_found p octets good e = octets_word p.sign p.start p.text octets e good.word

four_octets : (p : Piece) (octets : List ℕ) (c : Colour) → colour_in p octets ≡ Ok c → octets ≡ colour_octets c
four_octets p (red ∷ green ∷ blue ∷ transparency ∷ []) c e = ap colour_octets (ok_same e)
four_octets p _ c e = absurd cc

pub colour_found : (p : Piece) (c : Colour) → IsGood p → colour_of p ≡ Ok c → IsOctetsWord (colour_octets c) (word_of p)
unfolding colour_of
colour_found p c good e =
    let w = went (octets_of p) (colour_in p) c e in
    octets_found p (colour_octets c) good (w.first ∙ ap Ok (four_octets p w.value c w.behind))

-- the first word, by its token
pub first_word : (ws : List Written) (w v : Written) (rest : List Written) → ws ≡ w ∷ rest → w ≡ v → ws ≡ v ∷ rest
first_word ws w v rest e same = e ∙ ap (λ x. x ∷ rest) same

pub first_integer : (x : ℤ) (ws : List Written) (w : Written) (rest : List Written) → ws ≡ w ∷ rest → IsIntegerWord x w → IsInteger x ws rest
first_integer x ws w rest e (text, writes, same) = (text, writes, first_word ws w _ rest e same)

pub first_octets : (octets : List ℕ) (w : Written) (ws : List Written) → IsOctetsWord octets w → AreOctets octets (w ∷ ws) ws
first_octets octets w ws (inl same) = inl (ap (λ v. v ∷ ws) same)
first_octets octets w ws (inr (within, quotes, same)) = inr (within, quotes, ap (λ v. v ∷ ws) same)

-- a value with the place behind it
pub pair_same : {A B : Type 0} {a c : A} {b d : B} → ◌≡◌ {A = Result (A × B) Refusal} (Ok (a, b)) (Ok (c, d)) → (a ≡ c) × (b ≡ d)
pair_same e =
    let same = ok_same e in
    (ap (λ x. x.0) same, ap (λ x. x.1) same)

-- a value with the place behind it, where the reading named them otherwise
pub moved : {A : Type 0} (R : A → List Written → List Written → Type 0) (left : Left) (x y : A) (r s : Left) → ◌≡◌ {A = Result (A × Left) Refusal} (Ok (x, r)) (Ok (y, s))
    → Passes (R x) left r → Passes (R y) left s
moved {A} R left x y r s e p = subst (λ (z : A × Left). Passes (R z.0) left z.1) (ok_same e) p

pub moved_from : {A : Type 0} (R : A → List Written → List Written → Type 0) (p : Piece) (left : Left) (x y : A) (r s : Left) → ◌≡◌ {A = Result (A × Left) Refusal} (Ok (x, r)) (Ok (y, s))
    → PassesFrom (R x) p left r → PassesFrom (R y) p left s
moved_from {A} R p left x y r s e h = subst (λ (z : A × Left). PassesFrom (R z.0) p left z.1) (ok_same e) h

-- references
abbrev IsBehindOpen : Ref → List Written → List Written → Type 0
IsBehindOpen (ref.Here n) ws rest = ⊥
IsBehindOpen (ref.In name n) ws rest = (b : List Written) × (c : List Written) × IsName name ws b × IsNumber n b c × IsClose c rest

named_reference_found : (left : Left) (r : Ref) (rest : Left) → AreGood left.pieces → named_reference left ≡ Ok (r, rest) → Passes (IsBehindOpen r) left rest
unfolding named_reference
named_reference_found left r rest good e =
    let a = went_on left _ (r, rest) good e in
    let name = went (name_of a.piece) _ (r, rest) a.behind in
    let b = went_on a.rest _ (r, rest) a.good name.behind in
    let number = went (number_of b.piece) _ (r, rest) b.behind in
    let close = went (closed b.rest) _ (r, rest) number.behind in
    let closes = closed_found b.rest close.value b.good close.first in
    moved IsBehindOpen left (ref.In name.value number.value) r close.value rest close.behind (record {
      spells = (
        words a.rest,
        words b.rest,
        first_word (words left) _ _ (words a.rest) a.written (name_found a.piece name.value a.is_good name.first),
        first_integer (pos number.value) (words a.rest) _ (words b.rest) b.written (number_found b.piece number.value b.is_good number.first),
        closes.spells,
      );
      good = closes.good;
      wrong = onward left a.rest close.value a.wrong (onward a.rest b.rest close.value b.wrong closes.wrong);
    })

behind_open : (r : Ref) (ws a rest : List Written) → IsOpen ws a → IsBehindOpen r a rest → IsRef r ws rest
behind_open (ref.Here n) ws a rest opens h = absurd h
behind_open (ref.In name n) ws a rest opens (b, c, named, number, close) = (a, b, c, opens, named, number, close)

reference_from : (s : Sign) (start : ℕ) (text : List ℕ) (left : Left) (r : Ref) (rest : Left) → IsGood (record { sign = s; start = start; text = text }) → AreGood left.pieces
    → reference (record { sign = s; start = start; text = text }) left ≡ Ok (r, rest) → PassesFrom (IsRef r) (record { sign = s; start = start; text = text }) left rest
unfolding reference
reference_from (sign.Integer y) start text left r rest is_good good e =
    let p : Piece = record { sign = sign.Integer y; start = start; text = text } in
    let number = went (number_of p) _ (r, rest) e in
    moved_from IsRef p left (ref.Here number.value) r left rest number.behind (record {
      spells = first_integer (pos number.value) (word_of p ∷ words left) (word_of p) (words left) refl (number_found p number.value is_good number.first);
      good = good;
      wrong = refl;
    })
reference_from sign.OpenParenthesis start text left r rest is_good good e =
    let p : Piece = record { sign = sign.OpenParenthesis; start = start; text = text } in
    let behind = named_reference_found left r rest good e in
    record {
      spells = behind_open r (word_of p ∷ words left) (words left) (words rest) (first_word _ (word_of p) _ (words left) refl (is_open_word p is_good refl)) behind.spells;
      good = behind.good;
      wrong = behind.wrong;
    }
reference_from _ start text left r rest is_good good e = absurd cc

pub reference_found : (p : Piece) (left : Left) (r : Ref) (rest : Left) → IsGood p → AreGood left.pieces → reference p left ≡ Ok (r, rest) → PassesFrom (IsRef r) p left rest
reference_found p left r rest is_good good e = reference_from p.sign p.start p.text left r rest is_good good e

-- what a token and what is behind it spell, from where the token was taken
pub from_piece : (R : List Written → List Written → Type 0) (left behind rest : Left) (p : Piece) → words left ≡ word_of p ∷ words behind → behind.wrong ≡ left.wrong
    → PassesFrom R p behind rest → Passes R left rest
from_piece R left behind rest p e wrong h = record { spells = subst (λ ws. R ws (words rest)) (sym e) h.spells; good = h.good; wrong = h.wrong ∙ wrong }

-- what is read from a token is spelled so
abbrev pub Finds : {A : Type 0} → (Piece → Left → Result (A × Left) Refusal) → (A → List Written → List Written → Type 0) → Type 0
Finds {A} read Is = (p : Piece) (left : Left) (x : A) (rest : Left) → IsGood p → AreGood left.pieces → read p left ≡ Ok (x, rest) → PassesFrom (Is x) p left rest

-- a value, as a part of what f makes of it
pub made_found : {A B : Type 0} (Is : B → List Written → List Written → Type 0) (f : A → B) (read : Result (A × Left) Refusal) (p : Piece) (left : Left) (y : B) (rest : Left)
    → ((x : A) (r : Left) → read ≡ Ok (x, r) → PassesFrom (Is (f x)) p left r) → made f read ≡ Ok (y, rest) → PassesFrom (Is y) p left rest
made_found Is f read p left y rest one e =
    let w = went read (λ x. Ok (f x.0, x.1)) (y, rest) e in
    moved_from Is p left (f w.value.0) y w.value.1 rest w.behind (one w.value.0 w.value.1 w.first)

-- what is read as a part is spelled as the whole
pub made_finds : {A B : Type 0} (Is : A → List Written → List Written → Type 0) (IsWhole : B → List Written → List Written → Type 0) (f : A → B) (read : Piece → Left → Result (A × Left) Refusal)
    → Finds read Is → ((x : A) (ws rs : List Written) → Is x ws rs → IsWhole (f x) ws rs) → Finds (λ p left. made f (read p left)) IsWhole
made_finds Is IsWhole f read finds whole p left y rest is_good good e =
    made_found IsWhole f (read p left) p left y rest (λ x r h.
    let g = finds p left x r is_good good h in
    record { spells = whole x (word_of p ∷ words left) (words r) g.spells; good = g.good; wrong = g.wrong }) e

-- a value of one token
pub alone_found : {A : Type 0} (Is : A → List Written → List Written → Type 0) (read : Result A Refusal) (p : Piece) (left : Left) (y : A) (rest : Left) → AreGood left.pieces
    → ((x : A) → read ≡ Ok x → Is x (word_of p ∷ words left) (words left)) → alone read left ≡ Ok (y, rest) → PassesFrom (Is y) p left rest
alone_found Is read p left y rest good one e =
    let w = went read (λ x. Ok (x, left)) (y, rest) e in
    moved_from Is p left w.value y left rest w.behind (record { spells = one w.value w.first; good = good; wrong = refl })

pub truth_finds : Finds truth IsTruth
truth_finds p left x rest is_good good e = alone_found IsTruth (truth_of p) p left x rest good (λ y h. ap (λ w. w ∷ words left) (truth_found p y is_good h)) e

pub integer_finds : Finds integer IsInteger
integer_finds p left x rest is_good good e = alone_found IsInteger (integer_of p) p left x rest good (λ y h. first_integer y _ (word_of p) (words left) refl (integer_found p y is_good h)) e

pub octets_finds : Finds octets AreOctets
octets_finds p left x rest is_good good e = alone_found AreOctets (octets_of p) p left x rest good (λ y h. first_octets y (word_of p) (words left) (octets_found p y is_good h)) e

data_from : (s : Sign) (start : ℕ) (text : List ℕ) (x : EventData) (ws : List Written) → IsGood (record { sign = s; start = start; text = text })
    → data_of (record { sign = s; start = start; text = text }) ≡ Ok x → IsData x (as_word (kind_of s) text ∷ ws) ws
unfolding data_of
data_from (sign.Truth b) start text x ws good e =
    subst (λ y. IsData y (as_word kind.Word text ∷ ws) ws) (ok_same e) (ap (λ t. as_word kind.Word t ∷ ws) (truth_spelled text b good.means))
data_from (sign.Integer y) start text x ws good e =
    subst (λ y. IsData y (as_word kind.Integer text ∷ ws) ws) (ok_same e) (text, integer_spelled text y good.word good.means, refl)
data_from _ start text x ws good e = absurd cc

pub data_found : (p : Piece) (x : EventData) (ws : List Written) → IsGood p → data_of p ≡ Ok x → IsData x (word_of p ∷ ws) ws
data_found p x ws good e = data_from p.sign p.start p.text x ws good e

pub data_finds : Finds event_data IsData
data_finds p left x rest is_good good e = alone_found IsData (data_of p) p left x rest good (λ y h. data_found p y (words left) is_good h) e

-- contents
pub content_name_found : Finds content_name IsContentName
unfolding content_name
content_name_found p left x rest is_good good e =
    let t = if_ok (is_content_ref p.sign) _ why.Syntax p.start (x, rest) e in
    let a = went (opened left) _ (x, rest) t.1 in
    let opens = opened_found left a.value good a.first in
    let b = went_on a.value _ (x, rest) opens.good a.behind in
    let name = went (name_of b.piece) _ (x, rest) b.behind in
    let close = went (closed b.rest) _ (x, rest) name.behind in
    let closes = closed_found b.rest close.value b.good close.first in
    moved_from IsContentName p left name.value x close.value rest close.behind (record {
      spells = (
        words left,
        words a.value,
        words b.rest,
        first_word _ (word_of p) _ (words left) refl (content_ref_word p.sign p.text t.0 is_good.word is_good.means),
        opens.spells,
        first_word (words a.value) _ _ (words b.rest) b.written (name_found b.piece name.value b.is_good name.first),
        closes.spells,
      );
      good = closes.good;
      wrong = onward left a.value close.value opens.wrong (onward a.value b.rest close.value b.wrong closes.wrong);
    })

content_if : (b : Bool) (p : Piece) (left : Left) (x : Content) (rest : Left) → IsGood p → AreGood left.pieces
    → (if b then made of_content.Referenced (content_name p left) else made of_content.Included (octets p left)) ≡ Ok (x, rest) → PassesFrom (IsContent x) p left rest
content_if true p left x rest is_good good e = made_finds IsContentName IsContent of_content.Referenced content_name content_name_found (λ y ws rs h. h) p left x rest is_good good e
content_if false p left x rest is_good good e = made_finds AreOctets IsContent of_content.Included octets octets_finds (λ y ws rs h. h) p left x rest is_good good e

pub content_found : Finds content IsContent
unfolding content
content_found p left x rest is_good good e = content_if (is_content_ref p.sign) p left x rest is_good good e

-- values that a variable may hold
module _ {A : Type 0} (value : Piece → Left → Result (A × Left) Refusal) (Is : A → List Written → List Written → Type 0) (one : Finds value Is) where
  indirect_found : (p : Piece) (left : Left) (r : Ref) (rest : Left) → is_indirect p.sign ≡ true → IsGood p → AreGood left.pieces → (next left >>= λ a. reference a.0 a.1) ≡ Ok (r, rest)
      → PassesFrom (IsGeneric Is (Indirect r)) p left rest
  indirect_found p left r rest h is_good good e =
      let a = went_on left (λ a. reference a.0 a.1) (r, rest) good e in
      let found = from_piece (IsRef r) left a.rest rest a.piece a.written a.wrong (reference_found a.piece a.rest r rest a.is_good a.good a.behind) in
      record {
        spells = (words left, first_word _ (word_of p) _ (words left) refl (indirect_word p.sign p.text h is_good.word is_good.means), found.spells);
        good = found.good;
        wrong = found.wrong;
      }

  generic_if : (b : Bool) (p : Piece) (left : Left) (x : Generic A) (rest : Left) → is_indirect p.sign ≡ b → IsGood p → AreGood left.pieces
      → (if b then made Indirect (next left >>= λ a. reference a.0 a.1) else made Direct (value p left)) ≡ Ok (x, rest) → PassesFrom (IsGeneric Is x) p left rest
  generic_if true p left x rest h is_good good e =
      made_found (IsGeneric Is) Indirect (next left >>= λ a. reference a.0 a.1) p left x rest (λ r s g. indirect_found p left r s h is_good good g) e
  generic_if false p left x rest h is_good good e =
      made_finds Is (IsGeneric Is) Direct value one (λ y ws rs g. g) p left x rest is_good good e

  pub generic_found : Finds (generic value) (IsGeneric Is)
  unfolding generic
  generic_found p left x rest is_good good e = generic_if (is_indirect p.sign) p left x rest refl is_good good e

-- lists
module _ {A : Type 0} (member : Piece → Left → Result (A × Left) Refusal) (IsOne : A → List Written → List Written → Type 0)
    (one : Finds member IsOne) where
  abbrev pub IsMember : Option A → List Written → List Written → Type 0
  IsMember None ws rest = IsClose ws rest
  IsMember (Some x) ws rest = IsOne x ws rest

  member_if : (b : Bool) (left behind : Left) (p : Piece) (o : Option A) (rest : Left) → is_close p.sign ≡ b → IsGood p → AreGood behind.pieces
      → if◌then◌else◌ {A = Result (Option A × Left) Refusal} b (Ok (None, behind)) (member p behind >>= λ x. Ok (Some x.0, x.1)) ≡ Ok (o, rest) → PassesFrom (IsMember o) p behind rest
  member_if true left behind p o rest h is_good good e =
      moved_from IsMember p behind None o behind rest e (record {
        spells = first_word _ (word_of p) _ (words behind) refl (is_close_word p is_good h);
        good = good;
        wrong = refl;
      })
  member_if false left behind p o rest h is_good good e =
      let x = went (member p behind) (λ y. Ok (Some y.0, y.1)) (o, rest) e in
      moved_from IsMember p behind (Some x.value.0) o x.value.1 rest x.behind (one p behind x.value.0 x.value.1 is_good good x.first)

  next_member_found : (left : Left) (o : Option A) (rest : Left) → AreGood left.pieces → next_member member left ≡ Ok (o, rest) → Passes (IsMember o) left rest
  unfolding next_member
  next_member_found left o rest good e =
      let a = went_on left _ (o, rest) good e in
      from_piece (IsMember o) left a.rest rest a.piece a.written a.wrong (member_if (is_close a.piece.sign) left a.rest a.piece o rest refl a.is_good a.good a.behind)

  -- members were read behind those that came before, and then a closing parenthesis
  pub record Listed (n : ℕ) (done xs : List A) (left rest : Left) : Type 0 where
    pub new : List A
    pub same : xs ≡ done ++ new
    pub few : length new ≤ n
    pub end : List Written
    pub several : AreSeveral IsOne new (words left) end
    pub closes : IsClose end (words rest)
    pub good : AreGood rest.pieces
    pub wrong : rest.wrong ≡ left.wrong

  listed_ended : (n : ℕ) (done xs : List A) (left behind rest : Left) → ◌≡◌ {A = Result (List A × Left) Refusal} (Ok (done, behind)) (Ok (xs, rest)) → Passes IsClose left behind → Listed n done xs left rest
  listed_ended n done xs left behind rest e p =
      subst (λ (z : List A × Left). Listed n done z.0 left z.1) (ok_same e) (record {
        new = [];
        same = sym (append-nil done);
        few = omega arith;
        end = words left;
        several = refl;
        closes = p.spells;
        good = p.good;
        wrong = p.wrong;
      })

  listed_on : (n : ℕ) (done xs : List A) (left behind rest : Left) (o : Option A)
      → ((done : List A) (behind : Left) → AreGood behind.pieces → listed member n done behind ≡ Ok (xs, rest) → Listed n done xs behind rest)
      → Passes (IsMember o) left behind → continued (listed member n) done o behind ≡ Ok (xs, rest) → Listed (suc n) done xs left rest
  listed_on n done xs left behind rest None further p e = listed_ended (suc n) done xs left behind rest e (record { spells = p.spells; good = p.good; wrong = p.wrong })
  listed_on n done xs left behind rest (Some x) further p e =
      let l = further (done ++ x ∷ []) behind p.good e in
      record {
        new = x ∷ l.new;
        same = l.same ∙ append_assoc done (x ∷ []) l.new;
        few = omega (arith, l.few);
        end = l.end;
        several = (words behind, p.spells, l.several);
        closes = l.closes;
        good = l.good;
        wrong = l.wrong ∙ p.wrong;
      }

  pub listed_found : (n : ℕ) (done xs : List A) (left rest : Left) → AreGood left.pieces → listed member n done left ≡ Ok (xs, rest) → Listed n done xs left rest
  unfolding listed
  listed_found zero done xs left rest good e =
      let close = went (closed_list left) _ (xs, rest) e in
      listed_ended zero done xs left close.value rest close.behind (closed_list_found left close.value good close.first)
  listed_found (suc n) done xs left rest good e =
      let x = went (next_member member left) _ (xs, rest) e in
      listed_on n done xs left x.value.1 rest x.value.0 (λ d b g. listed_found n d xs b rest g) (next_member_found left x.value.0 x.value.1 good x.first) x.behind

  -- a list between parentheses
  pub list_found : (most : ℕ) → most ≤ longest_list → Finds (list member most) (IsListOf IsOne)
  unfolding list
  list_found most few p left xs rest is_good good e =
      let t = if_ok (is_open p.sign) _ why.Syntax p.start (xs, rest) e in
      let l = listed_found most [] xs left rest good t.1 in
      record {
        spells = (
          turned (λ ys. length ys ≤ longest_list) xs l.new l.same (omega (arith, l.few)),
          words left,
          l.end,
          first_word _ (word_of p) _ (words left) refl (is_open_word p is_good t.0),
          turned (λ ys. AreSeveral IsOne ys (words left) l.end) xs l.new l.same l.several,
          l.closes,
        );
        good = l.good;
        wrong = l.wrong;
      }
