-- What was read is spelled so: parameters, actions, and the values of attributes.
use Rattle.std.proofs.Common.{◌≡◌, ℕ, ◌≤◌, Bool, true, false, ◌&&◌, nat_le, if◌then◌else◌, List, [], ◌∷◌, ◌++◌, length, Result, Ok, ℤ, pos, refl, ap, sym, ◌∙◌, subst, arith, append_assoc, append-nil}
use Rattle.std.proofs.lemmas.Bool.{and_parts}
use Rattle.mh_base.specs.declared.value.Kind.{Kind}
use Rattle.mh_base.specs.declared.value.Kind.TheVariants as of_kind
use Rattle.mh_base.specs.Reading.{◌>>=◌}
use Rattle.mh_base.specs.Limits.{longest_list}
use Rattle.mh_base.proofs.ReadingLemmas.{went, if_ok, ok_same}
use Rattle.mh_group.specs.declared.action.Typed.{Typed}
use Rattle.mh_group.specs.declared.action.Typed.TheVariants as of_typed
use Rattle.mh_group.specs.declared.action.Parameter.{Parameter}
use Rattle.mh_group.specs.declared.action.Parameter.TheVariants as of_parameter
use Rattle.mh_group.specs.declared.action_name.ActionName.{ActionName}
use Rattle.mh_group.specs.declared.shape.Shape.{Shape}
use Rattle.mh_group.specs.declared.shape.Shape.TheVariants as shape
use Rattle.mh_group.specs.declared.shape.Need.{Need}
use Rattle.mh_group.specs.declared.shape.Need.TheVariants as need
use Rattle.mh_group.specs.declared.written.Setting.{Setting}
use Rattle.mh_group.specs.declared.written.Setting.TheVariants as of_setting
use Rattle.mh_group.specs.Holdable.{colour_octets}
use Rattle.mh_group.specs.Words.{action_word, kind_word}
use Rattle.mh_group.specs.Table.{needs_of, optional_of}
use Rattle.mh_text.specs.declared.token.kind.TokenKind.TheVariants as kind
use Rattle.mh_text.specs.declared.sign.Sign.{Sign}
use Rattle.mh_text.specs.declared.sign.Sign.TheVariants as sign
use Rattle.mh_text.specs.declared.text_error.Why.TheVariants as why
use Rattle.mh_text.specs.Rest.{Left, Piece}
use Rattle.mh_text.specs.Words.{Written}
use Rattle.mh_text.specs.Gives.{Refusal}
use Rattle.mh_text.specs.Spelling.{IsClose, IsInteger, IsTruth, AreOctets, IsRef, IsGeneric, IsContentName, IsContent, IsData, IsTyped, IsParameter, AreSeveral, IsListOf, IsAction, IsMember, IsPosition, IsNextScene, IsSetting}
use Rattle.mh_text.specs.Reading.{is_open, is_close, opened, closed, integer_of, natural_of, field_length_of, name_of, truth_of, event_of, justification_of, octets_of, colour_of, reference, alone, truth, integer, octets, data_of, event_data, content_name, content, generic, listed, list, value_of, typed, generic_parameter, parameter, parameters, action_name_of, action, effect, row, member, list_item, position, next_scene, single, part, pair, several, setting_at, setting}
use Rattle.mh_text.proofs.SignLemmas.{action_spelled, kind_spelled}
use Rattle.mh_text.proofs.PieceLemmas.{kind_of, word_of, as_word, words, IsGood, AreGood, Passes, PassesFrom, turned, onward, went_on}
use Rattle.mh_text.proofs.FoundLemmas.{Finds, IsIntegerWord, first_word, first_integer, first_octets, moved_from, from_piece, made_found, made_finds, alone_found, is_open_word, is_close_word, opened_found, closed_found, name_found, integer_found, natural_found, field_length_found, fixed_found, truth_found, event_found, justification_found, octets_found, colour_found, data_found, reference_found, truth_finds, integer_finds, octets_finds, data_finds, content_name_found, content_found, generic_found, listed_found, list_found}

-- a value with its kind in front
value_found : (k : Kind) (before : Written) → before ≡ as_word kind.Keyword (58 ∷ kind_word k) → Finds (value_of k) (λ t ws rs. IsTyped t (before ∷ ws) rs)
unfolding value_of
value_found of_kind.Bool before is p left t rest is_good good e =
    made_finds (IsGeneric IsTruth) (λ t ws rs. IsTyped t (before ∷ ws) rs) of_typed.Bool (generic truth) (generic_found truth IsTruth truth_finds) (λ x ws rs h. (ws, ap (λ w. w ∷ ws) is, h)) p left t rest is_good good e
value_found of_kind.Int before is p left t rest is_good good e =
    made_finds (IsGeneric IsInteger) (λ t ws rs. IsTyped t (before ∷ ws) rs) of_typed.Int (generic integer) (generic_found integer IsInteger integer_finds) (λ x ws rs h. (ws, ap (λ w. w ∷ ws) is, h)) p left t rest is_good good e
value_found of_kind.Octets before is p left t rest is_good good e =
    made_finds (IsGeneric AreOctets) (λ t ws rs. IsTyped t (before ∷ ws) rs) of_typed.Octets (generic octets) (generic_found octets AreOctets octets_finds) (λ x ws rs h. (ws, ap (λ w. w ∷ ws) is, h)) p left t rest is_good good e
value_found of_kind.Object before is p left t rest is_good good e =
    made_finds (IsGeneric IsRef) (λ t ws rs. IsTyped t (before ∷ ws) rs) of_typed.Ref (generic reference) (generic_found reference IsRef reference_found) (λ x ws rs h. (ws, ap (λ w. w ∷ ws) is, h)) p left t rest is_good good e
value_found of_kind.Content before is p left t rest is_good good e =
    made_finds (IsGeneric IsContentName) (λ t ws rs. IsTyped t (before ∷ ws) rs) of_typed.ContentRef (generic content_name) (generic_found content_name IsContentName content_name_found) (λ x ws rs h. (ws, ap (λ w. w ∷ ws) is, h)) p left t rest is_good good e

typed_from : (s : Sign) (start : ℕ) (text : List ℕ) (left : Left) (t : Typed) (rest : Left) → IsGood (record { sign = s; start = start; text = text }) → AreGood left.pieces
    → typed (record { sign = s; start = start; text = text }) left ≡ Ok (t, rest) → PassesFrom (IsTyped t) (record { sign = s; start = start; text = text }) left rest
unfolding typed
typed_from (sign.Kind k) start text left t rest is_good good e =
    let a = went_on left (λ a. value_of k a.0 a.1) (t, rest) good e in
    let v = value_found k (as_word kind.Keyword text) (ap (λ n. as_word kind.Keyword n) (kind_spelled text k is_good.word is_good.means)) a.piece a.rest t rest a.is_good a.good a.behind in
    record {
      spells = turned (λ ws. IsTyped t (as_word kind.Keyword text ∷ ws) (words rest)) (words left) (word_of a.piece ∷ words a.rest) a.written v.spells;
      good = v.good;
      wrong = v.wrong ∙ a.wrong;
    }
typed_from _ start text left t rest is_good good e = absurd cc

typed_found : Finds typed IsTyped
typed_found p left t rest is_good good e = typed_from p.sign p.start p.text left t rest is_good good e

-- parameters
generic_parameter_found : (n : Need) → Finds (generic_parameter n) IsParameter
unfolding generic_parameter
generic_parameter_found need.Bool p left x rest is_good good e =
    made_finds (IsGeneric IsTruth) IsParameter of_parameter.Bool (generic truth) (generic_found truth IsTruth truth_finds) (λ y ws rs h. h) p left x rest is_good good e
generic_parameter_found need.Int p left x rest is_good good e =
    made_finds (IsGeneric IsInteger) IsParameter of_parameter.Int (generic integer) (generic_found integer IsInteger integer_finds) (λ y ws rs h. h) p left x rest is_good good e
generic_parameter_found need.Octets p left x rest is_good good e =
    made_finds (IsGeneric AreOctets) IsParameter of_parameter.Octets (generic octets) (generic_found octets AreOctets octets_finds) (λ y ws rs h. h) p left x rest is_good good e
generic_parameter_found need.Ref p left x rest is_good good e =
    made_finds (IsGeneric IsRef) IsParameter of_parameter.Ref (generic reference) (generic_found reference IsRef reference_found) (λ y ws rs h. h) p left x rest is_good good e
generic_parameter_found need.Content p left x rest is_good good e =
    made_finds (IsGeneric IsContent) IsParameter of_parameter.Content (generic content) (generic_found content IsContent content_found) (λ y ws rs h. h) p left x rest is_good good e
generic_parameter_found need.Data p left x rest is_good good e =
    made_finds (IsGeneric IsData) IsParameter of_parameter.Data (generic event_data) (generic_found event_data IsData data_finds) (λ y ws rs h. h) p left x rest is_good good e
generic_parameter_found _ p left x rest is_good good e = absurd cc

-- one word, by its token
word_finds : (w v : Written) (ws : List Written) → w ≡ v → ◌≡◌ {A = List Written} (w ∷ ws) (v ∷ ws)
word_finds w v ws e = ap (λ x. x ∷ ws) e

parameter_found : (n : Need) → Finds (parameter n) IsParameter
unfolding parameter
parameter_found need.Event p left x rest is_good good e =
    made_found IsParameter of_parameter.Event (alone (event_of p) left) p left x rest
    (λ y r h. alone_found (λ z. IsParameter (of_parameter.Event z)) (event_of p) p left y r good (λ z g. word_finds (word_of p) _ (words left) (event_found p z is_good g)) h) e
parameter_found (need.Receiver k) p left x rest is_good good e =
    made_finds IsRef IsParameter of_parameter.Receiver reference reference_found (λ y ws rs h. h) p left x rest is_good good e
parameter_found need.Typed p left x rest is_good good e =
    made_finds IsTyped IsParameter of_parameter.Typed typed typed_found (λ y ws rs h. h) p left x rest is_good good e
parameter_found need.Arguments p left x rest is_good good e =
    made_finds (IsListOf IsTyped) IsParameter of_parameter.Arguments (list typed longest_list) (list_found typed IsTyped typed_found longest_list (omega arith)) (λ y ws rs h. h) p left x rest is_good good e
parameter_found need.Bool p left x rest is_good good e = generic_parameter_found need.Bool p left x rest is_good good e
parameter_found need.Int p left x rest is_good good e = generic_parameter_found need.Int p left x rest is_good good e
parameter_found need.Octets p left x rest is_good good e = generic_parameter_found need.Octets p left x rest is_good good e
parameter_found need.Ref p left x rest is_good good e = generic_parameter_found need.Ref p left x rest is_good good e
parameter_found need.Content p left x rest is_good good e = generic_parameter_found need.Content p left x rest is_good good e
parameter_found need.Data p left x rest is_good good e = generic_parameter_found need.Data p left x rest is_good good e

-- parameters were read behind those that came before, and then a closing parenthesis
record Given (done xs : List Parameter) (left rest : Left) : Type 0 where
  new : List Parameter
  same : xs ≡ done ++ new
  end : List Written
  several : AreSeveral IsParameter new (words left) end
  closes : IsClose end (words rest)
  good : AreGood rest.pieces
  wrong : rest.wrong ≡ left.wrong

no_more : (done xs : List Parameter) (left behind rest : Left) → ◌≡◌ {A = Result (List Parameter × Left) Refusal} (Ok (done, behind)) (Ok (xs, rest)) → Passes IsClose left behind → Given done xs left rest
no_more done xs left behind rest e p =
    subst (λ (z : List Parameter × Left). Given done z.0 left z.1) (ok_same e) (record {
      new = [];
      same = sym (append-nil done);
      end = words left;
      several = refl;
      closes = p.spells;
      good = p.good;
      wrong = p.wrong;
    })

one_more : (n : Need) (done xs : List Parameter) (left behind rest : Left) (p : Piece) → words left ≡ word_of p ∷ words behind → behind.wrong ≡ left.wrong → IsGood p → AreGood behind.pieces
    → (further : List Parameter → Left → Result (List Parameter × Left) Refusal)
    → ((done : List Parameter) (l : Left) → AreGood l.pieces → further done l ≡ Ok (xs, rest) → Given done xs l rest)
    → (parameter n p behind >>= λ x. further (done ++ x.0 ∷ []) x.1) ≡ Ok (xs, rest) → Given done xs left rest
one_more n done xs left behind rest p written wrong is_good good further onward e =
    let y = went (parameter n p behind) (λ x. further (done ++ x.0 ∷ []) x.1) (xs, rest) e in
    let found = from_piece (IsParameter y.value.0) left behind y.value.1 p written wrong (parameter_found n p behind y.value.0 y.value.1 is_good good y.first) in
    let g = onward (done ++ y.value.0 ∷ []) y.value.1 found.good y.behind in
    record {
      new = y.value.0 ∷ g.new;
      same = g.same ∙ append_assoc done (y.value.0 ∷ []) g.new;
      end = g.end;
      several = (words y.value.1, found.spells, g.several);
      closes = g.closes;
      good = g.good;
      wrong = g.wrong ∙ found.wrong;
    }

more_if : (b : Bool) (n : Need) (done xs : List Parameter) (left behind rest : Left) (p : Piece) → (b ≡ true → is_close p.sign ≡ true) → words left ≡ word_of p ∷ words behind → behind.wrong ≡ left.wrong → IsGood p
    → AreGood behind.pieces → (further : List Parameter → Left → Result (List Parameter × Left) Refusal)
    → ((done : List Parameter) (l : Left) → AreGood l.pieces → further done l ≡ Ok (xs, rest) → Given done xs l rest)
    → if◌then◌else◌ {A = Result (List Parameter × Left) Refusal} b (Ok (done, behind)) (parameter n p behind >>= λ x. further (done ++ x.0 ∷ []) x.1) ≡ Ok (xs, rest) → Given done xs left rest
more_if true n done xs left behind rest p h written wrong is_good good further onward e =
    no_more done xs left behind rest e (record { spells = first_word (words left) (word_of p) _ (words behind) written (is_close_word p is_good (h refl)); good = good; wrong = wrong })
more_if false n done xs left behind rest p h written wrong is_good good further onward e =
    one_more n done xs left behind rest p written wrong is_good good further onward e

parameters_found : (optional : ℕ) (ns : List Need) (done xs : List Parameter) (left rest : Left) → AreGood left.pieces → parameters optional ns done left ≡ Ok (xs, rest) → Given done xs left rest
parameters_found optional [] done xs left rest good e =
    let close = went (closed left) _ (xs, rest) e in
    no_more done xs left close.value rest close.behind (closed_found left close.value good close.first)
parameters_found optional (n ∷ ns) done xs left rest good e =
    let a = went_on left _ (xs, rest) good e in
    more_if (nat_le (length (n ∷ ns)) optional && is_close a.piece.sign) n done xs left a.rest rest a.piece (λ h. (and_parts (nat_le (length (n ∷ ns)) optional) (is_close a.piece.sign) h).1) a.written a.wrong a.is_good a.good
    (parameters optional ns) (λ d l g h. parameters_found optional ns d xs l rest g h) a.behind

-- actions
action_name_from : (s : Sign) (start : ℕ) (text : List ℕ) (name : ActionName) → IsGood (record { sign = s; start = start; text = text })
    → action_name_of (record { sign = s; start = start; text = text }) ≡ Ok name → as_word (kind_of s) text ≡ as_word kind.Keyword (58 ∷ action_word name)
unfolding action_name_of
action_name_from (sign.Action a) start text name good e =
    let same : a ≡ name = ok_same e in
    ap (λ t. as_word kind.Keyword t) (action_spelled text a good.word good.means ∙ ap (λ x. 58 ∷ action_word x) same)
action_name_from _ start text name good e = absurd cc

action_name_found : (p : Piece) (name : ActionName) → IsGood p → action_name_of p ≡ Ok name → word_of p ≡ as_word kind.Keyword (58 ∷ action_word name)
action_name_found p name good e = action_name_from p.sign p.start p.text name good e

pub action_found : Finds action IsAction
unfolding action
action_found p left x rest is_good good e =
    let name = went (action_name_of p) _ (x, rest) e in
    let a = went (opened left) _ (x, rest) name.behind in
    let opens = opened_found left a.value good a.first in
    let b = went_on a.value _ (x, rest) opens.good a.behind in
    let target = went (generic reference b.piece b.rest) _ (x, rest) b.behind in
    let targeted = from_piece (IsGeneric IsRef target.value.0) a.value b.rest target.value.1 b.piece b.written b.wrong
    (generic_found reference IsRef reference_found b.piece b.rest target.value.0 target.value.1 b.is_good b.good target.first) in
    let given = went (parameters (optional_of name.value) (needs_of name.value) [] target.value.1) _ (x, rest) target.behind in
    let g = parameters_found (optional_of name.value) (needs_of name.value) [] given.value.0 target.value.1 given.value.1 targeted.good given.first in
    moved_from IsAction p left (record { name = name.value; target = target.value.0; parameters = given.value.0 }) x given.value.1 rest given.behind (record {
      spells = (
        words left,
        words a.value,
        words target.value.1,
        g.end,
        first_word _ (word_of p) _ (words left) refl (action_name_found p name.value is_good name.first),
        opens.spells,
        targeted.spells,
        turned (λ ps. AreSeveral IsParameter ps (words target.value.1) g.end) given.value.0 g.new g.same g.several,
        g.closes,
      );
      good = g.good;
      wrong = onward left a.value given.value.1 opens.wrong (onward a.value target.value.1 given.value.1 targeted.wrong g.wrong);
    })

effect_found : Finds effect (IsListOf IsAction)
effect_found p left xs rest is_good good e = list_found action IsAction action_found longest_list (omega arith) p left xs rest is_good good e

row_found : Finds row (IsListOf IsInteger)
row_found p left xs rest is_good good e = list_found integer IsInteger integer_finds longest_list (omega arith) p left xs rest is_good good e

-- members, positions and scenes
member_found : Finds member IsMember
unfolding member
member_found p left x rest is_good good e =
    let t = if_ok (is_open p.sign) _ why.Syntax p.start (x, rest) e in
    let a = went_on left _ (x, rest) good t.1 in
    let object = went (reference a.piece a.rest) _ (x, rest) a.behind in
    let referred = from_piece (IsRef object.value.0) left a.rest object.value.1 a.piece a.written a.wrong (reference_found a.piece a.rest object.value.0 object.value.1 a.is_good a.good object.first) in
    let slots = went (listed effect longest_list [] object.value.1) _ (x, rest) object.behind in
    let l = listed_found effect (IsListOf IsAction) effect_found longest_list [] slots.value.0 object.value.1 slots.value.1 referred.good slots.first in
    moved_from IsMember p left (record { object = object.value.0; slots = slots.value.0 }) x slots.value.1 rest slots.behind (record {
      spells = (
        turned (λ ys. length ys ≤ longest_list) slots.value.0 l.new l.same l.few,
        words left,
        words object.value.1,
        l.end,
        first_word _ (word_of p) _ (words left) refl (is_open_word p is_good t.0),
        referred.spells,
        turned (λ ys. AreSeveral (IsListOf IsAction) ys (words object.value.1) l.end) slots.value.0 l.new l.same l.several,
        l.closes,
      );
      good = l.good;
      wrong = onward left object.value.1 slots.value.1 referred.wrong l.wrong;
    })

list_item_found : Finds list_item IsMember
unfolding list_item
list_item_found p left x rest is_good good e =
    let t = if_ok (is_open p.sign) _ why.Syntax p.start (x, rest) e in
    let a = went_on left _ (x, rest) good t.1 in
    let object = went (reference a.piece a.rest) _ (x, rest) a.behind in
    let referred = from_piece (IsRef object.value.0) left a.rest object.value.1 a.piece a.written a.wrong (reference_found a.piece a.rest object.value.0 object.value.1 a.is_good a.good object.first) in
    let close = went (closed object.value.1) _ (x, rest) object.behind in
    let closes = closed_found object.value.1 close.value referred.good close.first in
    moved_from IsMember p left (record { object = object.value.0; slots = [] }) x close.value rest close.behind (record {
      spells = (
        omega arith,
        words left,
        words object.value.1,
        words object.value.1,
        first_word _ (word_of p) _ (words left) refl (is_open_word p is_good t.0),
        referred.spells,
        refl,
        closes.spells,
      );
      good = closes.good;
      wrong = onward left object.value.1 close.value referred.wrong closes.wrong;
    })

position_found : Finds position IsPosition
unfolding position
position_found p left z rest is_good good e =
    let t = if_ok (is_open p.sign) _ why.Syntax p.start (z, rest) e in
    let a = went_on left _ (z, rest) good t.1 in
    let x = went (integer_of a.piece) _ (z, rest) a.behind in
    let b = went_on a.rest _ (z, rest) a.good x.behind in
    let y = went (integer_of b.piece) _ (z, rest) b.behind in
    let close = went (closed b.rest) _ (z, rest) y.behind in
    let closes = closed_found b.rest close.value b.good close.first in
    moved_from IsPosition p left (record { x = x.value; y = y.value }) z close.value rest close.behind (record {
      spells = (
        words left,
        words a.rest,
        words b.rest,
        first_word _ (word_of p) _ (words left) refl (is_open_word p is_good t.0),
        first_integer x.value (words left) _ (words a.rest) a.written (integer_found a.piece x.value a.is_good x.first),
        first_integer y.value (words a.rest) _ (words b.rest) b.written (integer_found b.piece y.value b.is_good y.first),
        closes.spells,
      );
      good = closes.good;
      wrong = onward left a.rest close.value a.wrong (onward a.rest b.rest close.value b.wrong closes.wrong);
    })

next_scene_found : Finds next_scene IsNextScene
unfolding next_scene
next_scene_found p left z rest is_good good e =
    let t = if_ok (is_open p.sign) _ why.Syntax p.start (z, rest) e in
    let a = went_on left _ (z, rest) good t.1 in
    let name = went (name_of a.piece) _ (z, rest) a.behind in
    let b = went_on a.rest _ (z, rest) a.good name.behind in
    let weight = went (integer_of b.piece) _ (z, rest) b.behind in
    let close = went (closed b.rest) _ (z, rest) weight.behind in
    let closes = closed_found b.rest close.value b.good close.first in
    moved_from IsNextScene p left (record { name = name.value; weight = weight.value }) z close.value rest close.behind (record {
      spells = (
        words left,
        words a.rest,
        words b.rest,
        first_word _ (word_of p) _ (words left) refl (is_open_word p is_good t.0),
        first_word (words left) _ _ (words a.rest) a.written (name_found a.piece name.value a.is_good name.first),
        first_integer weight.value (words a.rest) _ (words b.rest) b.written (integer_found b.piece weight.value b.is_good weight.first),
        closes.spells,
      );
      good = closes.good;
      wrong = onward left a.rest close.value a.wrong (onward a.rest b.rest close.value b.wrong closes.wrong);
    })

-- values of one token
single_found : (s : Shape) (p : Piece) (x : Setting) (ws : List Written) → IsGood p → single s p ≡ Ok x → IsSetting x (word_of p ∷ ws) ws
unfolding single
single_found shape.Bool p x ws good e =
    let y = went (truth_of p) _ x e in
    subst (λ z. IsSetting z (word_of p ∷ ws) ws) (ok_same y.behind) (ap (λ v. v ∷ ws) (truth_found p y.value good y.first))
single_found shape.Int p x ws good e =
    let y = went (integer_of p) _ x e in
    subst (λ z. IsSetting z (word_of p ∷ ws) ws) (ok_same y.behind) (first_integer y.value _ (word_of p) ws refl (integer_found p y.value good y.first))
single_found shape.Natural p x ws good e =
    let y = went (natural_of p) _ x e in
    subst (λ z. IsSetting z (word_of p ∷ ws) ws) (ok_same y.behind) (first_integer y.value _ (word_of p) ws refl (natural_found p y.value good y.first))
single_found shape.Length p x ws good e =
    let y = went (field_length_of p) _ x e in
    subst (λ z. IsSetting z (word_of p ∷ ws) ws) (ok_same y.behind) (first_integer y.value _ (word_of p) ws refl (field_length_found p y.value good y.first))
single_found shape.Event p x ws good e =
    let y = went (event_of p) _ x e in
    subst (λ z. IsSetting z (word_of p ∷ ws) ws) (ok_same y.behind) (ap (λ v. v ∷ ws) (event_found p y.value good y.first))
single_found shape.Data p x ws good e =
    let y = went (data_of p) _ x e in
    subst (λ z. IsSetting z (word_of p ∷ ws) ws) (ok_same y.behind) (data_found p y.value ws good y.first)
single_found shape.Octets p x ws good e =
    let y = went (octets_of p) _ x e in
    subst (λ z. IsSetting z (word_of p ∷ ws) ws) (ok_same y.behind) (first_octets y.value (word_of p) ws (octets_found p y.value good y.first))
single_found shape.Colour p x ws good e =
    let y = went (colour_of p) _ x e in
    subst (λ z. IsSetting z (word_of p ∷ ws) ws) (ok_same y.behind) (first_octets (colour_octets y.value) (word_of p) ws (colour_found p y.value good y.first))
single_found shape.Justification p x ws good e =
    let y = went (justification_of p) _ x e in
    subst (λ z. IsSetting z (word_of p ∷ ws) ws) (ok_same y.behind) (ap (λ v. v ∷ ws) (justification_found p y.value good y.first))
single_found _ p x ws good e = absurd cc

part_found : (s : Shape) (screen : ℤ) (p : Piece) (x : ℤ) → IsGood p → part s screen p ≡ Ok x → IsIntegerWord x (word_of p)
unfolding part
part_found shape.Size screen p x good e = natural_found p x good e
part_found shape.Screen screen p x good e = fixed_found screen p x good e
part_found _ screen p x good e = integer_found p x good e

pair_found : (s : Shape) (p : Piece) (left : Left) (x : Setting) (rest : Left) → IsGood p → AreGood left.pieces → pair s p left ≡ Ok (x, rest) → PassesFrom (IsSetting x) p left rest
unfolding pair
pair_found s p left x rest is_good good e =
    let y = went (part s (pos 720) p) _ (x, rest) e in
    let a = went_on left _ (x, rest) good y.behind in
    let z = went (part s (pos 576) a.piece) _ (x, rest) a.behind in
    moved_from IsSetting p left (of_setting.Pair y.value z.value) x a.rest rest z.behind (record {
      spells = (
        words left,
        first_integer y.value _ (word_of p) (words left) refl (part_found s (pos 720) p y.value is_good y.first),
        first_integer z.value _ _ (words a.rest) a.written (part_found s (pos 576) a.piece z.value a.is_good z.first),
      );
      good = a.good;
      wrong = a.wrong;
    })

-- values that are lists
several_found : (s : Shape) → Finds (several s) IsSetting
unfolding several
several_found shape.Effect p left x rest is_good good e =
    made_finds (IsListOf IsAction) IsSetting of_setting.Effect effect effect_found (λ y ws rs h. h) p left x rest is_good good e
several_found shape.MovementTable p left x rest is_good good e =
    made_finds (IsListOf (IsListOf IsInteger)) IsSetting of_setting.MovementTable (list row longest_list) (list_found row (IsListOf IsInteger) row_found longest_list (omega arith)) (λ y ws rs h. h) p left x rest is_good good e
several_found shape.Members p left x rest is_good good e =
    made_finds (IsListOf IsMember) IsSetting of_setting.Members (list member longest_list) (list_found member IsMember member_found longest_list (omega arith)) (λ y ws rs h. h) p left x rest is_good good e
several_found shape.ListItems p left x rest is_good good e =
    made_finds (IsListOf IsMember) IsSetting of_setting.Members (list list_item 256) (list_found list_item IsMember list_item_found 256 (omega arith)) (λ y ws rs h. h) p left x rest is_good good e
several_found shape.Positions p left x rest is_good good e =
    made_finds (IsListOf IsPosition) IsSetting of_setting.Positions (list position longest_list) (list_found position IsPosition position_found longest_list (omega arith)) (λ y ws rs h. h) p left x rest is_good good e
several_found shape.NextScenes p left x rest is_good good e =
    made_finds (IsListOf IsNextScene) IsSetting of_setting.NextScenes (list next_scene longest_list) (list_found next_scene IsNextScene next_scene_found longest_list (omega arith)) (λ y ws rs h. h) p left x rest is_good good e
several_found _ p left x rest is_good good e = absurd cc

setting_at_found : (s : Shape) → Finds (setting_at s) IsSetting
unfolding setting_at
setting_at_found shape.Ref p left x rest is_good good e =
    made_finds IsRef IsSetting of_setting.Ref reference reference_found (λ y ws rs h. h) p left x rest is_good good e
setting_at_found shape.Pair p left x rest is_good good e = pair_found shape.Pair p left x rest is_good good e
setting_at_found shape.Size p left x rest is_good good e = pair_found shape.Size p left x rest is_good good e
setting_at_found shape.Screen p left x rest is_good good e = pair_found shape.Screen p left x rest is_good good e
setting_at_found shape.Content p left x rest is_good good e =
    made_finds IsContent IsSetting of_setting.Content content content_found (λ y ws rs h. h) p left x rest is_good good e
setting_at_found shape.ContentRef p left x rest is_good good e =
    made_finds IsContentName IsSetting of_setting.ContentRef content_name content_name_found (λ y ws rs h. h) p left x rest is_good good e
setting_at_found shape.Effect p left x rest is_good good e = several_found shape.Effect p left x rest is_good good e
setting_at_found shape.MovementTable p left x rest is_good good e = several_found shape.MovementTable p left x rest is_good good e
setting_at_found shape.Members p left x rest is_good good e = several_found shape.Members p left x rest is_good good e
setting_at_found shape.ListItems p left x rest is_good good e = several_found shape.ListItems p left x rest is_good good e
setting_at_found shape.Positions p left x rest is_good good e = several_found shape.Positions p left x rest is_good good e
setting_at_found shape.NextScenes p left x rest is_good good e = several_found shape.NextScenes p left x rest is_good good e
setting_at_found s p left x rest is_good good e = alone_found IsSetting (single s p) p left x rest good (λ y h. single_found s p y (words left) is_good h) e

pub setting_found : (s : Shape) (left : Left) (x : Setting) (rest : Left) → AreGood left.pieces → setting s left ≡ Ok (x, rest) → Passes (IsSetting x) left rest
unfolding setting
setting_found s left x rest good e =
    let a = went_on left (λ a. setting_at s a.0 a.1) (x, rest) good e in
    from_piece (IsSetting x) left a.rest rest a.piece a.written a.wrong (setting_at_found s a.piece a.rest x rest a.is_good a.good a.behind)
