-- What was read is spelled so: fields, ingredients and groups.
use Rattle.std.proofs.Common.{◌≡◌, ℕ, zero, suc, ◌⊎◌, inl, inr, Bool, true, false, ◌&&◌, not, ◌==◌, if◌then◌else◌, List, [], ◌∷◌, ◌++◌, Option, Some, None, Result, Ok, pos, refl, ap, sym, ◌∙◌, subst, arith}
use Rattle.std.proofs.lemmas.Bool.{and_parts}
use Rattle.std.proofs.lemmas.Bool.Decides.{nat_tests}
use Rattle.mh_base.specs.Reading.{◌>>=◌, is_same}
use Rattle.mh_base.specs.Limits.{longest_list}
use Rattle.mh_base.proofs.ReadingLemmas.{went, if_ok, if_not_ok, ok_same}
use Rattle.mh_group.specs.declared.class.Class.{Class}
use Rattle.mh_group.specs.declared.attribute.Attribute.{Attribute}
use Rattle.mh_group.specs.declared.attribute.Attribute.TheVariants as attribute
use Rattle.mh_group.specs.declared.written.Field.{Field}
use Rattle.mh_group.specs.declared.written.Ingredient.{Ingredient}
use Rattle.mh_group.specs.declared.written.Written.{Written as Group}
use Rattle.mh_group.specs.Words.{class_word, attribute_word}
use Rattle.mh_group.proofs.ShapeLemmas.{items_shape}
use Rattle.mh_group.specs.Table.{shape_of, takes, is_group_class, is_items_shape}
use Rattle.mh_group.specs.Fit.{has_attribute}
use Rattle.mh_text.specs.declared.token.kind.TokenKind.TheVariants as kind
use Rattle.mh_text.specs.declared.sign.Sign.{Sign}
use Rattle.mh_text.specs.declared.sign.Sign.TheVariants as sign
use Rattle.mh_text.specs.declared.text_error.Why.TheVariants as why
use Rattle.mh_text.specs.Rest.{Left, Piece}
use Rattle.mh_text.specs.Gives.{Refusal}
use Rattle.mh_text.specs.Spelling.{IsNamed, IsNumber, AreSeveral, IsListOf, IsField, NoneTwice, AreFieldsOf, IsIngredient, IsBody, IsGroup}
use Rattle.mh_text.specs.Reading.{next, is_close_brace, is_open_brace, opened, closed, braced, refused_at, name_of, number_of, ingredient_number_of, setting, attribute_of, placed, is_items, next_field, gathered, fields, fields_behind_items, complete, class_of, ingredient, items, identifier, body, group}
use Rattle.mh_text.proofs.SignLemmas.{class_spelled, attribute_spelled}
use Rattle.mh_text.proofs.PieceLemmas.{kind_of, word_of, as_word, words, IsGood, AreGood, Passes, PassesFrom, turned, onward, went_on}
use Rattle.mh_text.proofs.FoundLemmas.{first_word, first_integer, moved, moved_from, opened_found, closed_found, braced_found, is_open_brace_word, is_close_brace_word, name_found, number_found, from_piece, list_found}
use Rattle.mh_text.proofs.FoundSettings.{setting_found}
use Rattle.mh_text.proofs.FieldLemmas.{Has, Apart, has_contained, contains_had, has_left, has_right, has_either, has_placed_parts, has_placed_new, has_placed_old, apart_first, once_first, once_both}

-- the attribute that a token names
record Names (c : Class) (done : List Field) (p : Piece) (a : Attribute) : Type 0 where
  pub is : p.sign ≡ sign.Attribute a
  pub taken : takes c a ≡ true
  pub free : has_attribute done a ≡ false
  pub written : word_of p ≡ as_word kind.Keyword (58 ∷ attribute_word a)

pub not_true : (b : Bool) → not b ≡ true → b ≡ false
not_true true h = absurd cc
not_true false h = refl

attribute_from : (c : Class) (done : List Field) (s : Sign) (start : ℕ) (text : List ℕ) (a : Attribute) → IsGood (record { sign = s; start = start; text = text })
    → attribute_of c done (record { sign = s; start = start; text = text }) ≡ Ok a → Names c done (record { sign = s; start = start; text = text }) a
unfolding attribute_of
attribute_from c done (sign.Attribute b) start text a good e =
    let t = if_ok (takes c b && not (has_attribute done b)) (Ok b) why.Syntax start a e in
    let both = and_parts (takes c b) (not (has_attribute done b)) t.0 in
    subst (λ x. Names c done (record { sign = sign.Attribute b; start = start; text = text }) x) (ok_same t.1) (record {
      is = refl;
      taken = both.0;
      free = not_true (has_attribute done b) both.1;
      written = ap (λ n. as_word kind.Keyword n) (attribute_spelled text b good.word good.means);
    })
attribute_from c done _ start text a good e = absurd cc

attribute_found : (c : Class) (done : List Field) (p : Piece) (a : Attribute) → IsGood p → attribute_of c done p ≡ Ok a → Names c done p a
attribute_found c done p a good e = attribute_from c done p.sign p.start p.text a good e

-- the token at which fields end
abbrev Ends : Class → Piece → Type 0
Ends c p = (is_close_brace p.sign ≡ true) ⊎ ((a : Attribute) × (p.sign ≡ sign.Attribute a) × (is_items_shape (shape_of c a) ≡ true) × (takes c a ≡ true) × (word_of p ≡ as_word kind.Keyword (58 ∷ attribute_word a)))

record EndsAt (c : Class) (p : Piece) (left rest : Left) : Type 0 where
  pub ends : Ends c p
  pub is_good : IsGood p
  pub written : words left ≡ word_of p ∷ words rest
  pub good : AreGood rest.pieces
  pub wrong : rest.wrong ≡ left.wrong

record FieldAt (done : List Field) (f : Field) (left rest : Left) : Type 0 where
  pub spells : IsField f (words left) (words rest)
  pub free : has_attribute done f.attribute ≡ false
  pub good : AreGood rest.pieces
  pub wrong : rest.wrong ≡ left.wrong

abbrev StepAt : Class → List Field → Option Field → Piece → Left → Left → Type 0
StepAt c done None p left rest = EndsAt c p left rest
StepAt c done (Some f) p left rest = FieldAt done f left rest

field_if : (c : Class) (done : List Field) (b : Bool) (a : Attribute) (q : Piece) (left behind : Left) (o : Option Field) (p : Piece) (rest : Left)
    → is_items_shape (shape_of c a) ≡ b → Names c done q a → IsGood q → words left ≡ word_of q ∷ words behind → AreGood behind.pieces → behind.wrong ≡ left.wrong
    → if◌then◌else◌ {A = Result (Option Field × Piece × Left) Refusal} b (Ok (None, q, behind)) (setting (shape_of c a) behind >>= λ x. Ok (Some (record { attribute = a; setting = x.0 }), q, x.1)) ≡ Ok (o, p, rest)
    → StepAt c done o p left rest
field_if c done true a q left behind o p rest h names is_good written good wrong e =
    subst (λ (z : Option Field × Piece × Left). StepAt c done z.0 z.1 left z.2) (ok_same e) (record {
      ends = inr (a, names.is, h, names.taken, names.written);
      is_good = is_good;
      written = written;
      good = good;
      wrong = wrong;
    })
field_if c done false a q left behind o p rest h names is_good written good wrong e =
    let x = went (setting (shape_of c a) behind) (λ x. Ok (Some (record { attribute = a; setting = x.0 }), q, x.1)) (o, p, rest) e in
    let found = setting_found (shape_of c a) behind x.value.0 x.value.1 good x.first in
    subst (λ (z : Option Field × Piece × Left). StepAt c done z.0 z.1 left z.2) (ok_same x.behind) (record {
      spells = (words behind, first_word (words left) (word_of q) _ (words behind) written names.written, found.spells);
      free = names.free;
      good = found.good;
      wrong = found.wrong ∙ wrong;
    })

brace_if : (c : Class) (done : List Field) (b : Bool) (q : Piece) (left behind : Left) (o : Option Field) (p : Piece) (rest : Left)
    → is_close_brace q.sign ≡ b → IsGood q → words left ≡ word_of q ∷ words behind → AreGood behind.pieces → behind.wrong ≡ left.wrong
    → if◌then◌else◌ {A = Result (Option Field × Piece × Left) Refusal} b (Ok (None, q, behind))
    (attribute_of c done q >>= λ name. if◌then◌else◌ {A = Result (Option Field × Piece × Left) Refusal} (is_items_shape (shape_of c name)) (Ok (None, q, behind))
    (setting (shape_of c name) behind >>= λ x. Ok (Some (record { attribute = name; setting = x.0 }), q, x.1))) ≡ Ok (o, p, rest)
    → StepAt c done o p left rest
brace_if c done true q left behind o p rest h is_good written good wrong e =
    subst (λ (z : Option Field × Piece × Left). StepAt c done z.0 z.1 left z.2) (ok_same e) (record {
      ends = inl h;
      is_good = is_good;
      written = written;
      good = good;
      wrong = wrong;
    })
brace_if c done false q left behind o p rest h is_good written good wrong e =
    let a = went (attribute_of c done q) _ (o, p, rest) e in
    field_if c done (is_items_shape (shape_of c a.value)) a.value q left behind o p rest refl (attribute_found c done q a.value is_good a.first) is_good written good wrong a.behind

next_field_found : (c : Class) (done : List Field) (left : Left) (o : Option Field) (p : Piece) (rest : Left) → AreGood left.pieces → next_field c done left ≡ Ok (o, p, rest) → StepAt c done o p left rest
unfolding next_field
next_field_found c done left o p rest good e =
    let a = went_on left _ (o, p, rest) good e in
    brace_if c done (is_close_brace a.piece.sign) a.piece left a.rest o p rest refl a.is_good a.written a.good a.wrong a.behind

-- fields were read up to a token, and put among those that came before
record FieldsAt (c : Class) (done xs : List Field) (p : Piece) (left rest : Left) : Type 0 where
  pub new : List Field
  pub several : AreSeveral IsField new (words left) (word_of p ∷ words rest)
  pub ends : Ends c p
  pub is_good : IsGood p
  pub good : AreGood rest.pieces
  pub wrong : rest.wrong ≡ left.wrong
  pub once : NoneTwice new
  pub apart : Apart done new
  pub parts : (x : Field) → Has xs x → Has done x ⊎ Has new x
  pub old_in : (x : Field) → Has done x → Has xs x
  pub new_in : (x : Field) → Has new x → Has xs x

fields_on : (c : Class) (n : ℕ) (done xs : List Field) (q p : Piece) (left behind rest : Left) (o : Option Field)
    → ((done : List Field) (behind : Left) → AreGood behind.pieces → fields c n done behind ≡ Ok (xs, p, rest) → FieldsAt c done xs p behind rest)
    → StepAt c done o q left behind → gathered (fields c n) done o q behind ≡ Ok (xs, p, rest) → FieldsAt c done xs p left rest
fields_on c n done xs q p left behind rest None further step e =
    subst (λ (z : List Field × Piece × Left). FieldsAt c done z.0 z.1 left z.2) (ok_same e) (record {
      new = [];
      several = step.written;
      ends = step.ends;
      is_good = step.is_good;
      good = step.good;
      wrong = step.wrong;
      once = tt;
      apart = λ f g hf hg. absurd hg;
      parts = λ x h. inl h;
      old_in = λ x h. h;
      new_in = λ x h. absurd h;
    })
fields_on c n done xs q p left behind rest (Some f) further step e =
    let l = further (placed f done) behind step.good e in
    record {
      new = f ∷ l.new;
      several = (words behind, step.spells, l.several);
      ends = l.ends;
      is_good = l.is_good;
      good = l.good;
      wrong = l.wrong ∙ step.wrong;
      once = once_first f done l.new l.apart l.once;
      apart = apart_first f done l.new step.free l.apart;
      parts = λ x h. elim (l.parts x h) [ inl old ↦ elim (has_placed_parts f done x old) [ inl is ↦ inr (inl is) | inr d ↦ inl d ] | inr new ↦ inr (inr new) ];
      old_in = λ x h. l.old_in x (has_placed_old f done x h);
      new_in = λ x h. elim h [ inl is ↦ subst (λ y. Has xs y) is (l.old_in f (has_placed_new f done)) | inr g ↦ l.new_in x g ];
    }

fields_found : (c : Class) (n : ℕ) (done xs : List Field) (p : Piece) (left rest : Left) → AreGood left.pieces → fields c n done left ≡ Ok (xs, p, rest) → FieldsAt c done xs p left rest
unfolding fields
fields_found c zero done xs p left rest good e =
    let a = went (next left) _ (xs, p, rest) e in
    absurd (cc a.behind)
fields_found c (suc n) done xs p left rest good e =
    let a = went (next_field c done left) _ (xs, p, rest) e in
    fields_on c n done xs a.value.1 p left a.value.2 rest a.value.0 (λ d b g. fields_found c n d xs p b rest g)
    (next_field_found c done left a.value.0 a.value.1 a.value.2 good a.first) a.behind

are_fields : (xs new : List Field) → NoneTwice new → ((x : Field) → Has xs x → Has new x) → ((x : Field) → Has new x → Has xs x) → AreFieldsOf xs new
are_fields xs new once parts new_in =
    (once, λ f. (λ h. contains_had xs f (new_in f (has_contained new f h)), λ h. contains_had new f (parts f (has_contained xs f h))))

complete_is : (c : Class) (done xs : List Field) (p : Piece) → complete c done p ≡ Ok xs → xs ≡ done
unfolding complete
complete_is c done xs p e = sym (ok_same (if_ok _ (Ok done) why.Syntax p.start xs e).1)

-- classes
class_from : (wanted : Bool) (s : Sign) (start : ℕ) (text : List ℕ) (c : Class) → IsGood (record { sign = s; start = start; text = text })
    → class_of wanted (record { sign = s; start = start; text = text }) ≡ Ok c → (as_word (kind_of s) text ≡ as_word kind.Keyword (58 ∷ class_word c)) × (is_same (is_group_class c) wanted ≡ true)
unfolding class_of
class_from wanted (sign.Class d) start text c good e =
    let t = if_ok (is_same (is_group_class d) wanted) (Ok d) why.Syntax start c e in
    let same : d ≡ c = ok_same t.1 in
    (ap (λ n. as_word kind.Keyword n) (class_spelled text d good.word good.means ∙ ap (λ x. 58 ∷ class_word x) same), subst (λ x. is_same (is_group_class x) wanted ≡ true) same t.0)
class_from wanted _ start text c good e = absurd cc

class_found : (wanted : Bool) (p : Piece) (c : Class) → IsGood p → class_of wanted p ≡ Ok c → (word_of p ≡ as_word kind.Keyword (58 ∷ class_word c)) × (is_same (is_group_class c) wanted ≡ true)
class_found wanted p c good e = class_from wanted p.sign p.start p.text c good e

same_false : (b : Bool) → is_same b false ≡ true → b ≡ false
same_false true h = absurd cc
same_false false h = refl

items_taken : (a : Attribute) (c : Class) → is_items_shape (shape_of c a) ≡ true → (takes c a ≡ is_group_class c) × (a ≡ attribute.Items)
items_taken a c h =
    let same = items_shape c a h in
    (subst (λ (b : Attribute). takes c b ≡ is_group_class c) (sym same) refl, same)

ends_brace : (c : Class) (p : Piece) → Ends c p → is_group_class c ≡ false → is_close_brace p.sign ≡ true
ends_brace c p (inl h) other = h
ends_brace c p (inr (a, is, of_items, takes_it, word)) other =
    let taken = (items_taken a c of_items).0 in
    absurd cc

ingredient_number_found : (p : Piece) (n : ℕ) → ingredient_number_of p ≡ Ok n → number_of p ≡ Ok n
unfolding ingredient_number_of
ingredient_number_found p n e =
    let w = went (number_of p) _ n e in
    w.first ∙ ap Ok (ok_same (if_not_ok _ (Ok w.value) why.Range p.start n w.behind).1)

-- ingredients
ingredient_found : (p : Piece) (left : Left) (x : Ingredient) (rest : Left) → IsGood p → AreGood left.pieces → ingredient p left ≡ Ok (x, rest) → PassesFrom (IsIngredient x) p left rest
unfolding ingredient
ingredient_found p left x rest is_good good e =
    let t = if_ok (is_open_brace p.sign) _ why.Syntax p.start (x, rest) e in
    let a = went_on left _ (x, rest) good t.1 in
    let class = went (class_of false a.piece) _ (x, rest) a.behind in
    let classed = class_found false a.piece class.value a.is_good class.first in
    let b = went_on a.rest _ (x, rest) a.good class.behind in
    let number = went (ingredient_number_of b.piece) _ (x, rest) b.behind in
    let f = went (fields class.value longest_list [] b.rest) _ (x, rest) number.behind in
    let fs = fields_found class.value longest_list [] f.value.0 f.value.1 b.rest f.value.2 b.good f.first in
    let done = went (complete class.value f.value.0 f.value.1) _ (x, rest) f.behind in
    let same : done.value ≡ f.value.0 = complete_is class.value f.value.0 done.value f.value.1 done.first in
    moved_from IsIngredient p left (record { class = class.value; number = number.value; fields = done.value }) x f.value.2 rest done.behind (record {
      spells = (
        words left,
        words a.rest,
        words b.rest,
        word_of f.value.1 ∷ words f.value.2,
        fs.new,
        first_word _ (word_of p) _ (words left) refl (is_open_brace_word p is_good t.0),
        first_word (words left) _ _ (words a.rest) a.written classed.0,
        first_integer (pos number.value) (words a.rest) _ (words b.rest) b.written (number_found b.piece number.value b.is_good (ingredient_number_found b.piece number.value number.first)),
        fs.several,
        turned (λ xs. AreFieldsOf xs fs.new) done.value f.value.0 same (are_fields f.value.0 fs.new fs.once (λ y h. elim (fs.parts y h) [ inl l ↦ absurd l | inr r ↦ r ]) fs.new_in),
        first_word _ (word_of f.value.1) _ (words f.value.2) refl (is_close_brace_word f.value.1 fs.is_good (ends_brace class.value f.value.1 fs.ends (same_false _ classed.1))),
      );
      good = fs.good;
      wrong = onward left a.rest f.value.2 a.wrong (onward a.rest b.rest f.value.2 b.wrong fs.wrong);
    })

items_found : (left : Left) (xs : List Ingredient) (rest : Left) → AreGood left.pieces → items left ≡ Ok (xs, rest) → Passes (IsListOf IsIngredient xs) left rest
unfolding items
items_found left xs rest good e =
    let a = went_on left _ (xs, rest) good e in
    from_piece (IsListOf IsIngredient xs) left a.rest rest a.piece a.written a.wrong
    (list_found ingredient IsIngredient ingredient_found longest_list (omega arith) a.piece a.rest xs rest a.is_good a.good a.behind)

-- the group
is_zero : (n : ℕ) → (n == 0) ≡ true → 0 ≡ n
is_zero n h = grind (arith, nat_tests)

identifier_found : (left : Left) (name : List ℕ) (rest : Left) → AreGood left.pieces → identifier left ≡ Ok (name, rest) → Passes (IsNamed name 0) left rest
unfolding identifier
identifier_found left name rest good e =
    let o = went (opened left) _ (name, rest) e in
    let opens = opened_found left o.value good o.first in
    let b = went_on o.value _ (name, rest) opens.good o.behind in
    let named = went (name_of b.piece) _ (name, rest) b.behind in
    let c = went_on b.rest _ (name, rest) b.good named.behind in
    let number = went (number_of c.piece) _ (name, rest) c.behind in
    let close = went (if◌then◌else◌ (number.value == 0) (closed c.rest) (refused_at why.Range c.piece)) _ (name, rest) number.behind in
    let t = if_ok (number.value == 0) (closed c.rest) why.Range c.piece.start close.value close.first in
    let closes = closed_found c.rest close.value c.good t.1 in
    let none : 0 ≡ number.value = is_zero number.value t.0 in
    moved (λ n ws rs. IsNamed n 0 ws rs) left named.value name close.value rest close.behind (record {
      spells = (
        words o.value,
        words b.rest,
        words c.rest,
        opens.spells,
        first_word (words o.value) _ _ (words b.rest) b.written (name_found b.piece named.value b.is_good named.first),
        turned (λ n. IsNumber n (words b.rest) (words c.rest)) 0 number.value none (first_integer (pos number.value) (words b.rest) _ (words c.rest) c.written (number_found c.piece number.value c.is_good number.first)),
        closes.spells,
      );
      good = closes.good;
      wrong = onward left o.value close.value opens.wrong (onward o.value b.rest close.value b.wrong (onward b.rest c.rest close.value c.wrong closes.wrong));
    })

brace_no_items : (c : Class) (s : Sign) → is_close_brace s ≡ true → is_items c s ≡ true → ⊥
unfolding is_items
brace_no_items c sign.CloseBrace h g = cc
brace_no_items c _ h g = cc

items_shaped : (c : Class) (s : Sign) (a : Attribute) → s ≡ sign.Attribute a → is_items c s ≡ is_items_shape (shape_of c a)
unfolding is_items
items_shaped c s a is = ap (is_items c) is

ends_items : (c : Class) (p : Piece) → Ends c p → is_items c p.sign ≡ true → word_of p ≡ as_word kind.Keyword (58 ∷ attribute_word attribute.Items)
ends_items c p (inl h) g = absurd (brace_no_items c p.sign h g)
ends_items c p (inr (a, is, of_items, takes_it, word)) g = word ∙ ap (λ x. as_word kind.Keyword (58 ∷ attribute_word x)) (items_taken a c of_items).1

ends_no_items : (c : Class) (p : Piece) → Ends c p → is_items c p.sign ≡ false → is_close_brace p.sign ≡ true
ends_no_items c p (inl h) g = h
ends_no_items c p (inr (a, is, of_items, takes_it, word)) g =
    let shaped = items_shaped c p.sign a is in
    absurd cc

behind_items_is : (c : Class) (done xs : List Field) (p : Piece) (left rest : Left) → AreGood left.pieces → fields_behind_items c done left ≡ Ok (xs, p, rest)
    → FieldsAt c done xs p left rest × (is_items c p.sign ≡ false)
unfolding fields_behind_items
behind_items_is c done xs p left rest good e =
    let f = went (fields c longest_list done left) _ (xs, p, rest) e in
    let found = fields_found c longest_list done f.value.0 f.value.1 left f.value.2 good f.first in
    let t = if_not_ok (is_items c f.value.1.sign) (Ok (f.value.0, f.value.1, f.value.2)) why.Syntax f.value.1.start (xs, p, rest) f.behind in
    subst (λ (z : List Field × Piece × Left). FieldsAt c done z.0 z.1 left z.2 × (is_items c z.1.sign ≡ false)) (ok_same t.1) (found, t.0)

record BodyAt (xs : List Field) (its : Option (List Ingredient)) (p : Piece) (left rest : Left) : Type 0 where
  pub new : List Field
  pub spells : IsBody its new (words left) (word_of p ∷ words rest)
  pub same : AreFieldsOf xs new
  pub ends : is_close_brace p.sign ≡ true
  pub is_good : IsGood p
  pub good : AreGood rest.pieces
  pub wrong : rest.wrong ≡ left.wrong

-- the fields before the items and those behind them
both_fields : (c : Class) (fs xs : List Field) (q p : Piece) (left at behind rest : Left) (l : FieldsAt c [] fs q left at) (m : FieldsAt c fs xs p behind rest) → AreFieldsOf xs (l.new ++ m.new)
both_fields c fs xs q p left at behind rest l m =
    are_fields xs (l.new ++ m.new)
    (once_both l.new m.new l.once m.once (λ x y hx hy. m.apart x y (l.new_in x hx) hy))
    (λ x h. elim (m.parts x h) [ inl old ↦ has_left l.new m.new x (elim (l.parts x old) [ inl none ↦ absurd none | inr new ↦ new ]) | inr new ↦ has_right l.new m.new x new ])
    (λ x h. elim (has_either l.new m.new x h) [ inl a ↦ m.old_in x (l.new_in x a) | inr b ↦ m.new_in x b ])

body_if : (c : Class) (b : Bool) (fs xs : List Field) (its : Option (List Ingredient)) (q p : Piece) (left behind rest : Left) → is_items c q.sign ≡ b → FieldsAt c [] fs q left behind
    → if◌then◌else◌ {A = Result (List Field × Option (List Ingredient) × Piece × Left) Refusal} b
    (items behind >>= λ y. fields_behind_items c fs y.1 >>= λ z. Ok (z.0, Some y.0, z.1, z.2)) (Ok (fs, None, q, behind)) ≡ Ok (xs, its, p, rest)
    → BodyAt xs its p left rest
body_if c true fs xs its q p left behind rest h l e =
    let y = went (items behind) _ (xs, its, p, rest) e in
    let listed_items = items_found behind y.value.0 y.value.1 l.good y.first in
    let z = went (fields_behind_items c fs y.value.1) _ (xs, its, p, rest) y.behind in
    let m = behind_items_is c fs z.value.0 z.value.1 y.value.1 z.value.2 listed_items.good z.first in
    subst (λ (v : List Field × Option (List Ingredient) × Piece × Left). BodyAt v.0 v.1 v.2 left v.3) (ok_same z.behind) (record {
      new = l.new ++ m.0.new;
      spells = (
        l.new,
        m.0.new,
        word_of q ∷ words behind,
        words behind,
        words y.value.1,
        refl,
        l.several,
        first_word _ (word_of q) _ (words behind) refl (ends_items c q l.ends h),
        listed_items.spells,
        m.0.several,
      );
      same = both_fields c fs z.value.0 q z.value.1 left behind y.value.1 z.value.2 l m.0;
      ends = ends_no_items c z.value.1 m.0.ends m.1;
      is_good = m.0.is_good;
      good = m.0.good;
      wrong = onward left behind z.value.2 l.wrong (onward behind y.value.1 z.value.2 listed_items.wrong m.0.wrong);
    })
body_if c false fs xs its q p left behind rest h l e =
    subst (λ (v : List Field × Option (List Ingredient) × Piece × Left). BodyAt v.0 v.1 v.2 left v.3) (ok_same e) (record {
      new = l.new;
      spells = l.several;
      same = are_fields fs l.new l.once (λ y g. elim (l.parts y g) [ inl none ↦ absurd none | inr r ↦ r ]) l.new_in;
      ends = ends_no_items c q l.ends h;
      is_good = l.is_good;
      good = l.good;
      wrong = l.wrong;
    })

body_found : (c : Class) (left : Left) (xs : List Field) (its : Option (List Ingredient)) (p : Piece) (rest : Left) → AreGood left.pieces → body c left ≡ Ok (xs, its, p, rest) → BodyAt xs its p left rest
unfolding body
body_found c left xs its p rest good e =
    let f = went (fields c longest_list [] left) _ (xs, its, p, rest) e in
    body_if c (is_items c f.value.1.sign) f.value.0 xs its f.value.1 p left f.value.2 rest refl (fields_found c longest_list [] f.value.0 f.value.1 left f.value.2 good f.first) f.behind

pub group_found : (left : Left) (g : Group) (rest : Left) → AreGood left.pieces → group left ≡ Ok (g, rest) → Passes (IsGroup g) left rest
unfolding group
group_found left g rest good e =
    let o = went (braced left) _ (g, rest) e in
    let opens = braced_found left o.value good o.first in
    let b = went_on o.value _ (g, rest) opens.good o.behind in
    let class = went (class_of true b.piece) _ (g, rest) b.behind in
    let classed = class_found true b.piece class.value b.is_good class.first in
    let identity = went (identifier b.rest) _ (g, rest) class.behind in
    let identified = identifier_found b.rest identity.value.0 identity.value.1 b.good identity.first in
    let x = went (body class.value identity.value.1) _ (g, rest) identity.behind in
    let f = body_found class.value identity.value.1 x.value.0 x.value.1 x.value.2 x.value.3 identified.good x.first in
    let done = went (complete class.value x.value.0 x.value.2) _ (g, rest) x.behind in
    let same : done.value ≡ x.value.0 = complete_is class.value x.value.0 done.value x.value.2 done.first in
    moved IsGroup left (record { class = class.value; identifier = identity.value.0; fields = done.value; items = x.value.1 }) g x.value.3 rest done.behind (record {
      spells = (
        words o.value,
        words b.rest,
        words identity.value.1,
        word_of x.value.2 ∷ words x.value.3,
        f.new,
        opens.spells,
        first_word (words o.value) _ _ (words b.rest) b.written classed.0,
        identified.spells,
        f.spells,
        turned (λ xs. AreFieldsOf xs f.new) done.value x.value.0 same f.same,
        first_word _ (word_of x.value.2) _ (words x.value.3) refl (is_close_brace_word x.value.2 f.is_good f.ends),
      );
      good = f.good;
      wrong = onward left o.value x.value.3 opens.wrong (onward o.value b.rest x.value.3 b.wrong (onward b.rest identity.value.1 x.value.3 identified.wrong f.wrong));
    })
