-- What is spelled is read: fields, ingredients and groups.
use Rattle.std.proofs.Common.{◌≡◌, ℕ, zero, suc, ◌<◌, inl, inr, Bool, true, false, ◌&&◌, not, ◌==◌, if◌then◌else◌, List, [], ◌∷◌, ◌++◌, length, Option, Some, None, Result, Ok, pos, refl, ap, sym, ◌∙◌, subst, arith}
use Rattle.std.proofs.lemmas.Bool.{and_from}
use Rattle.mh_base.specs.Reading.{whole, is_same}
use Rattle.mh_base.specs.Limits.{longest_list}
use Rattle.mh_base.proofs.ReadingLemmas.{then_is, file_is}
use Rattle.mh_group.specs.declared.class.Class.{Class}
use Rattle.mh_group.specs.declared.attribute.Attribute.{Attribute}
use Rattle.mh_group.specs.declared.attribute.Attribute.TheVariants as attribute
use Rattle.mh_group.specs.declared.written.Setting.{Setting}
use Rattle.mh_group.specs.declared.written.Field.{Field}
use Rattle.mh_group.specs.declared.written.Ingredient.{Ingredient}
use Rattle.mh_group.specs.declared.written.Written.{Written as Group}
use Rattle.mh_group.specs.Words.{class_word, attribute_word}
use Rattle.mh_group.proofs.MisfitLemmas.{if_no_none, or_none, AreRight, are_right, is_right}
use Rattle.mh_group.proofs.ShapeLemmas.{items_unfit}
use Rattle.mh_group.specs.Table.{attribute_number, shape_of, takes, is_group_class, is_items_shape}
use Rattle.mh_group.specs.Fit.{fits, has_required, ingredient_misfit, ingredients_misfit, written_items, is_group, has_attribute}
use Rattle.mh_text.specs.declared.token.kind.TokenKind.TheVariants as kind
use Rattle.mh_text.specs.declared.sign.Sign.{Sign}
use Rattle.mh_text.specs.declared.sign.Sign.TheVariants as sign
use Rattle.mh_text.specs.declared.text_error.Why.TheVariants as why
use Rattle.mh_text.specs.Rest.{Left, Piece}
use Rattle.mh_text.specs.Words.{Written}
use Rattle.mh_text.specs.Signs.{sign_of}
use Rattle.mh_text.specs.Gives.{Refusal}
use Rattle.mh_text.specs.Spelling.{IsKeyword, IsCloseBrace, IsNamed, AreSeveral, IsListOf, IsField, NoneTwice, AreFieldsOf, IsIngredient, IsBody, IsGroup, Spells}
use Rattle.mh_text.specs.Left.{left}
use Rattle.mh_text.specs.Reading.{next, ended, opened, closed, braced, refused_at, name_of, number_of, ingredient_number_of, setting, attribute_of, placed, is_items, next_field, fields, fields_behind_items, complete, class_of, ingredient, items, identifier, body, group, read}
use Rattle.mh_text.proofs.SignLemmas.{class_means, attribute_means, integer_means}
use Rattle.mh_text.proofs.FieldLemmas.{FitsIn, Has, Apart, has_contained, contains_had, has_left, has_right, none_passes, passes_none, same_turned}
use Rattle.mh_text.proofs.OrderLemmas.{gathered_in, gathered_both, gathered_parts, gathered_same, free_first, apart_next, few_fields, all_had}
use Rattle.mh_text.proofs.OnlyLemmas.{StandsAt, first, at_end, Reads, Takes, open_read, close_read, brace_read, name_is, number_is, AllFit, list_takes}
use Rattle.mh_text.proofs.OnlySettings.{setting_read}

-- the attribute of a field is not that of the items
other_number : (c : Class) (a : Attribute) → is_items_shape (shape_of c a) ≡ false → (attribute_number a == attribute_number attribute.Items) ≡ false
other_number c attribute.Items h = absurd cc
other_number c _ h = refl

no_items_number : (c : Class) (a : Attribute) (s : Setting) → fits (shape_of c a) s ≡ true → (attribute_number a == attribute_number attribute.Items) ≡ false
no_items_number c a s h = other_number c a (items_unfit (shape_of c a) s h)

attribute_is : (c : Class) (done : List Field) (a : Attribute) (start : ℕ) (text : List ℕ) → takes c a ≡ true → has_attribute done a ≡ false
    → attribute_of c done (record { sign = sign.Attribute a; start = start; text = text }) ≡ Ok a
unfolding attribute_of
attribute_is c done a start text taken free =
    let both : (takes c a && not (has_attribute done a)) ≡ true = and_from _ _ taken (ap not free) in
    ap (λ (b : Bool). if b then Ok a else refused_at why.Syntax (record { sign = sign.Attribute a; start = start; text = text })) both

-- the next field was read
record FieldRead (c : Class) (done : List Field) (f : Field) (l : Left) (ws : List Written) : Type 0 where
  pub head : Piece
  pub rest : Left
  pub is : next_field c done l ≡ Ok (Some f, head, rest)
  pub at : StandsAt rest ws

field_read : (c : Class) (done : List Field) (f : Field) (l : Left) (ws rest : List Written) → FitsIn c f → has_attribute done f.attribute ≡ false → StandsAt l ws → IsField f ws rest
    → FieldRead c done f l rest
unfolding next_field
field_read c done f l ws rest fit free at (a, named, value) =
    let s = first l ws a kind.Keyword (58 ∷ attribute_word f.attribute) (sign.Attribute f.attribute) at named (attribute_means f.attribute) in
    let v = setting_read (shape_of c f.attribute) f.setting s.rest a rest fit.1 s.at value in
    let p : Piece = record { sign = sign.Attribute f.attribute; start = s.start; text = 58 ∷ attribute_word f.attribute } in
    record {
      head = p;
      rest = v.rest;
      is = then_is (next l) _ _ (Some f, p, v.rest) s.first
          (then_is (attribute_of c done p) _ f.attribute (Some f, p, v.rest) (attribute_is c done f.attribute s.start (58 ∷ attribute_word f.attribute) fit.0 free)
          (rw (items_unfit (shape_of c f.attribute) f.setting fit.1) (then_is (setting (shape_of c f.attribute) s.rest) _ _ (Some f, p, v.rest) v.is refl)));
      at = v.at;
    }

-- fields end at a token
record Ended (c : Class) (done : List Field) (l : Left) (ws : List Written) (Q : Sign → Type 0) : Type 0 where
  pub head : Piece
  pub rest : Left
  pub is : next_field c done l ≡ Ok (None, head, rest)
  pub at : StandsAt rest ws
  pub test : Q head.sign

record FieldsRead (result : Result (List Field × Piece × Left) Refusal) (xs : List Field) (ws : List Written) (Q : Sign → Type 0) : Type 0 where
  pub head : Piece
  pub rest : Left
  pub is : result ≡ Ok (xs, head, rest)
  pub at : StandsAt rest ws
  pub test : Q head.sign

fields_read : (c : Class) (n : ℕ) (done fs : List Field) (l : Left) (ws end rest : List Written) (Q : Sign → Type 0) → length fs < n → Apart done fs → NoneTwice fs
    → ((x : Field) → Has fs x → FitsIn c x) → StandsAt l ws → AreSeveral IsField fs ws end → ((m : Left) → StandsAt m end → Ended c (gathered_in fs done) m rest Q)
    → FieldsRead (fields c n done l) (gathered_in fs done) rest Q
unfolding fields
fields_read c zero done fs l ws end rest Q few apart once fit at several ends = absurd (omega arith)
fields_read c (suc n) done [] l ws end rest Q few apart once fit at several ends =
    let e = ends l (subst (StandsAt l) several at) in
    record { head = e.head; rest = e.rest; is = then_is (next_field c done l) _ _ (done, e.head, e.rest) e.is refl; at = e.at; test = e.test }
fields_read c (suc n) done (f ∷ fs) l ws end rest Q few apart once fit at (a, here, behind) ends =
    let r = field_read c done f l ws a (fit f (inl refl)) (free_first f fs done apart) at here in
    let m = fields_read c n (placed f done) fs r.rest a end rest Q (omega arith) (apart_next f fs done apart once) once.1 (λ x h. fit x (inr h)) r.at behind ends in
    record { head = m.head; rest = m.rest; is = then_is (next_field c done l) _ _ (gathered_in fs (placed f done), m.head, m.rest) r.is m.is; at = m.at; test = m.test }

-- fields that were read are known by another name
fields_named : (result : Result (List Field × Piece × Left) Refusal) (xs ys : List Field) (head : Piece) (rest : Left) → result ≡ Ok (xs, head, rest) → xs ≡ ys → result ≡ Ok (ys, head, rest)
fields_named result xs ys head rest is same = is ∙ ap (λ zs. Ok (zs, head, rest)) same

abbrev IsBrace : Sign → Type 0
IsBrace s = s ≡ sign.CloseBrace

abbrev IsItems : Sign → Type 0
IsItems s = s ≡ sign.Attribute attribute.Items

ends_brace : (c : Class) (done : List Field) (end rest : List Written) → IsCloseBrace end rest → (m : Left) → StandsAt m end → Ended c done m rest IsBrace
unfolding next_field sign_of
ends_brace c done end rest e m at =
    let s = first m end rest kind.CloseBrace (125 ∷ []) sign.CloseBrace at e refl in
    record { head = record { sign = sign.CloseBrace; start = s.start; text = 125 ∷ [] }; rest = s.rest; is = then_is (next m) _ _ (None, record { sign = sign.CloseBrace; start = s.start; text = 125 ∷ [] }, s.rest) s.first refl; at = s.at; test = refl }

ends_items : (c : Class) (done : List Field) (end rest : List Written) → is_group_class c ≡ true → ((x : Field) → Has done x → FitsIn c x) → IsKeyword (attribute_word attribute.Items) end rest
    → (m : Left) → StandsAt m end → Ended c done m rest IsItems
unfolding next_field
ends_items c done end rest group_class fit e m at =
    let s = first m end rest kind.Keyword (58 ∷ attribute_word attribute.Items) (sign.Attribute attribute.Items) at e (attribute_means attribute.Items) in
    let p : Piece = record { sign = sign.Attribute attribute.Items; start = s.start; text = 58 ∷ attribute_word attribute.Items } in
    let free : has_attribute done attribute.Items ≡ false =
    none_passes (λ (g : Field). attribute_number g.attribute == attribute_number attribute.Items) done (λ g h. no_items_number c g.attribute g.setting (fit g h).1) in
    record {
      head = p;
      rest = s.rest;
      is = then_is (next m) _ _ (None, p, s.rest) s.first
          (then_is (attribute_of c done p) _ attribute.Items (None, p, s.rest) (attribute_is c done attribute.Items s.start (58 ∷ attribute_word attribute.Items) group_class free) refl);
      at = s.at;
      test = refl;
    }

fits_in : (c : Class) (fs : List Field) → AreRight c fs → (x : Field) → Has fs x → FitsIn c x
fits_in c fs right x h = (all_had (λ f. takes c f.attribute) fs x right.take h, all_had (λ f. fits (shape_of c f.attribute) f.setting) fs x right.fit h)

written_fit : (c : Class) (xs fs : List Field) → AreRight c xs → AreFieldsOf xs fs → (x : Field) → Has fs x → FitsIn c x
written_fit c xs fs right (once, same) x h = fits_in c xs right x (has_contained xs x ((same x).0 (contains_had fs x h)))

complete_is : (c : Class) (xs : List Field) (p : Piece) → has_required c xs ≡ true → complete c xs p ≡ Ok xs
unfolding complete
complete_is c xs p h = ap (λ (b : Bool). if b then Ok xs else refused_at why.Syntax p) h

class_is : (wanted : Bool) (c : Class) (start : ℕ) (text : List ℕ) → is_group_class c ≡ wanted → class_of wanted (record { sign = sign.Class c; start = start; text = text }) ≡ Ok c
unfolding class_of
class_is true c start text h = ap (λ (b : Bool). if is_same b true then Ok c else refused_at why.Syntax (record { sign = sign.Class c; start = start; text = text })) h
class_is false c start text h = ap (λ (b : Bool). if is_same b false then Ok c else refused_at why.Syntax (record { sign = sign.Class c; start = start; text = text })) h

ingredient_number_is : (n start : ℕ) (text : List ℕ) → (n == 0) ≡ false → ingredient_number_of (record { sign = sign.Integer (pos n); start = start; text = text }) ≡ Ok n
unfolding ingredient_number_of
ingredient_number_is n start text h =
    then_is (number_of (record { sign = sign.Integer (pos n); start = start; text = text })) _ n n (number_is start text n)
    (ap (λ (b : Bool). if b then refused_at why.Range (record { sign = sign.Integer (pos n); start = start; text = text }) else Ok n) h)

-- ingredients
abbrev FitsIngredient : Ingredient → Type 0
FitsIngredient x = ingredient_misfit x ≡ None

ingredient_takes : Takes ingredient IsIngredient FitsIngredient
unfolding ingredient sign_of
ingredient_takes l x ws rest fit at (a, b, c, d, fs, opens, named, (text, writes, number), several, same, close) =
    let g = if_no_none (is_group_class x.class) _ _ fit in
    let n = if_no_none (x.number == 0) _ _ g.1 in
    let right = are_right x.class x.fields n.1 in
    let s = first l ws a kind.OpenBrace (123 ∷ []) sign.OpenBrace at opens refl in
    let t = first s.rest a b kind.Keyword (58 ∷ class_word x.class) (sign.Class x.class) s.at named (class_means x.class) in
    let u = first t.rest b c kind.Integer text (sign.Integer (pos x.number)) t.at number (integer_means text (pos x.number) writes) in
    let f = fields_read x.class longest_list [] fs u.rest c d rest IsBrace (few_fields fs same.0) (λ y z h. absurd h) same.0 (written_fit x.class x.fields fs right same) u.at several
    (ends_brace x.class (gathered_in fs []) d rest close) in
    let kept : gathered_in fs [] ≡ x.fields = gathered_same x.fields fs right.rising same in
    record {
      head = record { sign = sign.OpenBrace; start = s.start; text = 123 ∷ [] };
      behind = s.rest;
      first = s.first;
      rest = f.rest;
      is = then_is (next s.rest) _ _ (x, f.rest) t.first
          (then_is (class_of false (record { sign = sign.Class x.class; start = t.start; text = 58 ∷ class_word x.class })) _ x.class (x, f.rest) (class_is false x.class t.start (58 ∷ class_word x.class) g.0)
          (then_is (next t.rest) _ _ (x, f.rest) u.first
          (then_is (ingredient_number_of (record { sign = sign.Integer (pos x.number); start = u.start; text = text })) _ x.number (x, f.rest) (ingredient_number_is x.number u.start text n.0)
          (then_is (fields x.class longest_list [] u.rest) _ (x.fields, f.head, f.rest) (x, f.rest) (fields_named (fields x.class longest_list [] u.rest) (gathered_in fs []) x.fields f.head f.rest f.is kept)
          (then_is (complete x.class x.fields f.head) _ x.fields (x, f.rest) (complete_is x.class x.fields f.head right.required) refl)))));
      at = f.at;
      no_close = refl;
    }

all_fit : (xs : List Ingredient) → ingredients_misfit xs ≡ None → AllFit FitsIngredient xs
all_fit [] h = tt
all_fit (x ∷ xs) h =
    let both = or_none (ingredient_misfit x) (ingredients_misfit xs) h in
    (both.0, all_fit xs both.1)

items_read : (l : Left) (xs : List Ingredient) (ws rest : List Written) → ingredients_misfit xs ≡ None → StandsAt l ws → IsListOf IsIngredient xs ws rest → Reads (items l) xs rest
unfolding items
items_read l xs ws rest fit at h =
    let b = list_takes ingredient IsIngredient FitsIngredient ingredient_takes longest_list l xs ws rest (λ few. few, all_fit xs fit) at h in
    record { rest = b.rest; is = then_is (next l) _ _ (xs, b.rest) b.first b.is; at = b.at }

-- the group
identifier_read : (l : Left) (name : List ℕ) (ws rest : List Written) → StandsAt l ws → IsNamed name 0 ws rest → Reads (identifier l) name rest
unfolding identifier sign_of
identifier_read l name ws rest at (a, b, c, opens, named, (text, writes, number), close) =
    let o = open_read l ws a at opens in
    let s = first o.rest a b kind.Text (34 ∷ (name ++ 34 ∷ [])) sign.Text o.at named refl in
    let t = first s.rest b c kind.Integer text (sign.Integer (pos 0)) s.at number (integer_means text (pos 0) writes) in
    let g = close_read t.rest c rest t.at close in
    record {
      rest = g.rest;
      is = then_is (opened l) _ o.rest (name, g.rest) o.is
          (then_is (next o.rest) _ _ (name, g.rest) s.first
          (then_is (name_of (record { sign = sign.Text; start = s.start; text = 34 ∷ (name ++ 34 ∷ []) })) _ name (name, g.rest) (name_is s.start name s.word)
          (then_is (next s.rest) _ _ (name, g.rest) t.first
          (then_is (number_of (record { sign = sign.Integer (pos 0); start = t.start; text = text })) _ 0 (name, g.rest) (number_is t.start text 0)
          (then_is (closed t.rest) _ g.rest (name, g.rest) g.is refl)))));
      at = g.at;
    }

record BodyRead (c : Class) (l : Left) (xs : List Field) (its : Option (List Ingredient)) (ws : List Written) : Type 0 where
  pub head : Piece
  pub rest : Left
  pub is : body c l ≡ Ok (xs, its, head, rest)
  pub at : StandsAt rest ws

brace_no_items : (c : Class) (s : Sign) → IsBrace s → is_items c s ≡ false
unfolding is_items
brace_no_items c s h = ap (is_items c) h

items_are : (c : Class) (s : Sign) → IsItems s → is_items c s ≡ true
unfolding is_items
items_are c s h = ap (is_items c) h

behind_items_read : (c : Class) (done : List Field) (l : Left) (xs : List Field) (ws : List Written) → FieldsRead (fields c longest_list done l) xs ws IsBrace → FieldsRead (fields_behind_items c done l) xs ws IsBrace
unfolding fields_behind_items
behind_items_read c done l xs ws f = record {
  head = f.head;
  rest = f.rest;
  is = then_is (fields c longest_list done l) _ _ (xs, f.head, f.rest) f.is (ap (λ (b : Bool). if b then refused_at why.Syntax f.head else Ok (xs, f.head, f.rest)) (brace_no_items c f.head.sign f.test));
  at = f.at;
  test = f.test;
}

-- of fields before and behind the items
once_front : (fs gs : List Field) → NoneTwice (fs ++ gs) → NoneTwice fs × NoneTwice gs × Apart fs gs
once_front [] gs once = (tt, once, λ x y h g. absurd h)
once_front (f ∷ fs) gs once =
    let rest = once_front fs gs once.1 in (
      (
        none_passes (λ (g : Field). attribute_number g.attribute == attribute_number f.attribute) fs
            (λ g h. passes_none (λ (g : Field). attribute_number g.attribute == attribute_number f.attribute) (fs ++ gs) g once.0 (has_left fs gs g h)),
        rest.0,
      ),
      rest.1,
      λ x y h g. elim h [
        | inl is ↦ subst (λ (z : Field). (attribute_number z.attribute == attribute_number y.attribute) ≡ false) is
            (same_turned (attribute_number y.attribute) (attribute_number f.attribute)
            (passes_none (λ (g : Field). attribute_number g.attribute == attribute_number f.attribute) (fs ++ gs) y once.0 (has_right fs gs y g)))
        | inr later ↦ rest.2 x y later g
      ],
    )

body_read : (c : Class) (l : Left) (xs fs : List Field) (its : Option (List Ingredient)) (ws end rest : List Written) → is_group_class c ≡ true → AreRight c xs → AreFieldsOf xs fs
    → ingredients_misfit (written_items its) ≡ None → StandsAt l ws → IsBody its fs ws end → IsCloseBrace end rest → BodyRead c l xs its rest
unfolding body
body_read c l xs fs None ws end rest group_class right same fit at several close =
    let f = fields_read c longest_list [] fs l ws end rest IsBrace (few_fields fs same.0) (λ y z h. absurd h) same.0 (written_fit c xs fs right same) at several (ends_brace c (gathered_in fs []) end rest close) in
    let kept : gathered_in fs [] ≡ xs = gathered_same xs fs right.rising same in
    record {
      head = f.head;
      rest = f.rest;
      is = then_is (fields c longest_list [] l) _ (xs, f.head, f.rest) (xs, None, f.head, f.rest) (fields_named (fields c longest_list [] l) (gathered_in fs []) xs f.head f.rest f.is kept)
          (rw (brace_no_items c f.head.sign f.test) refl);
      at = f.at;
    }
body_read c l xs fs (Some its) ws end rest group_class right same fit at (front, back, a, b, d, parts, before, named, listed_items, behind) close =
    let once = once_front front back (subst NoneTwice parts same.0) in
    let all_fits = written_fit c xs fs right same in
    let fit_front : (x : Field) → Has front x → FitsIn c x = λ x h. all_fits x (subst (λ l. Has l x) (sym parts) (has_left front back x h)) in
    let fit_back : (x : Field) → Has back x → FitsIn c x = λ x h. all_fits x (subst (λ l. Has l x) (sym parts) (has_right front back x h)) in
    let from_front : (x : Field) → Has (gathered_in front []) x → Has front x = λ x h. elim (gathered_parts front [] x h) [ inl none ↦ absurd none | inr r ↦ r ] in
    let f = fields_read c longest_list [] front l ws a b IsItems (few_fields front once.0) (λ y z h. absurd h) once.0 fit_front at before
    (ends_items c (gathered_in front []) a b group_class (λ x h. fit_front x (from_front x h)) named) in
    let it = items_read f.rest its b d fit f.at listed_items in
    let g = behind_items_read c (gathered_in front []) it.rest (gathered_in back (gathered_in front [])) rest
    (fields_read c longest_list (gathered_in front []) back it.rest d end rest IsBrace (few_fields back once.1) (λ x y h k. once.2 x y (from_front x h) k) once.1 fit_back it.at behind
    (ends_brace c (gathered_in back (gathered_in front [])) end rest close)) in
    let kept : gathered_in back (gathered_in front []) ≡ xs = sym (gathered_both front back []) ∙ ap (λ l. gathered_in l []) (sym parts) ∙ gathered_same xs fs right.rising same in
    record {
      head = g.head;
      rest = g.rest;
      is = then_is (fields c longest_list [] l) _ (gathered_in front [], f.head, f.rest) (xs, Some its, g.head, g.rest) f.is
          (rw (items_are c f.head.sign f.test)
          (then_is (items f.rest) _ (its, it.rest) (xs, Some its, g.head, g.rest) it.is
          (then_is (fields_behind_items c (gathered_in front []) it.rest) _ (xs, g.head, g.rest) (xs, Some its, g.head, g.rest)
          (fields_named (fields_behind_items c (gathered_in front []) it.rest) (gathered_in back (gathered_in front [])) xs g.head g.rest g.is kept) (refl {a = Ok (xs, Some its, g.head, g.rest)}))));
      at = g.at;
    }

group_read : (l : Left) (g : Group) (ws rest : List Written) → is_group g ≡ true → StandsAt l ws → IsGroup g ws rest → Reads (group l) g rest
unfolding group
group_read l g ws rest fit at (a, b, c, d, fs, opens, named, identity, between, same, close) =
    let right = is_right g fit in
    let o = brace_read l ws a at opens in
    let t = first o.rest a b kind.Keyword (58 ∷ class_word g.class) (sign.Class g.class) o.at named (class_means g.class) in
    let i = identifier_read t.rest g.identifier b c t.at identity in
    let x = body_read g.class i.rest g.fields fs g.items c d rest right.class right.fields same right.items i.at between close in
    record {
      rest = x.rest;
      is = then_is (braced l) _ o.rest (g, x.rest) o.is
          (then_is (next o.rest) _ _ (g, x.rest) t.first
          (then_is (class_of true (record { sign = sign.Class g.class; start = t.start; text = 58 ∷ class_word g.class })) _ g.class (g, x.rest) (class_is true g.class t.start (58 ∷ class_word g.class) right.class)
          (then_is (identifier t.rest) _ _ (g, x.rest) i.is
          (then_is (body g.class i.rest) _ (g.fields, g.items, x.head, x.rest) (g, x.rest) x.is
          (then_is (complete g.class g.fields x.head) _ g.fields (g, x.rest) (complete_is g.class g.fields x.head right.fields.required) refl)))));
      at = x.at;
    }

-- a text that spells a group is read as that group
pub read_only : (bytes : List ℕ) (g : Group) → is_group g ≡ true → Spells bytes g → read bytes ≡ Ok g
unfolding read Spells
read_only bytes g fit (short, words, are_words, is_group_spelled) =
    let at : StandsAt (left false (whole bytes)) words = record { wants = false; place = whole bytes; is = refl; words = are_words } in
    let r = group_read (left false (whole bytes)) g words [] fit at is_group_spelled in
    rw (file_is (length bytes) short)
    (then_is (group (left false (whole bytes))) _ _ g r.is
    (then_is (ended r.rest) _ tt g (at_end r.rest r.at) refl))
