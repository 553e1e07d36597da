-- The printed form of a group is one of its spellings.
use Rattle.std.proofs.Common.{◌≡◌, ◌||◌, Result, Ok, ℕ, ◌<◌, ◌≤◌, ℤ, Bool, true, false, ◌&&◌, not, ◌==◌, nat_lt, nat_le, List, [], ◌∷◌, ◌++◌, length, take, drop, Option, Some, None, refl, ap, sym, ◌∙◌, subst, inl, arith}
use Rattle.std.specs.Prelude.{is_none, if◌then◌else◌}
use Rattle.std.specs.List.{list_all, list_any, flat_map}
use Rattle.std.specs.Option.{option_or}
use Rattle.std.proofs.lemmas.Bool.{and_parts, and_from}
use Rattle.std.proofs.lemmas.Bool.Decides.{nat_tests}
use Rattle.std.proofs.lemmas.List.{take-append-drop}
use Rattle.std.proofs.lemmas.List.Folds.{list_all-append}
use Rattle.mh_base.specs.Path.{is_name_byte}
use Rattle.mh_base.specs.Limits.{largest_file, longest_list}
use Rattle.mh_base.proofs.ReadingLemmas.{is_file}
use Rattle.mh_group.specs.declared.class.Class.{Class}
use Rattle.mh_group.specs.declared.misfit.MisfitWhy.{MisfitWhy}
use Rattle.mh_group.specs.declared.misfit.MisfitWhy.TheVariants as misfit
use Rattle.mh_group.specs.declared.attribute.Attribute.TheVariants as attribute
use Rattle.mh_group.specs.declared.action.Action.{Action}
use Rattle.mh_group.specs.declared.action.Parameter.{Parameter}
use Rattle.mh_group.specs.declared.action.Parameter.TheVariants as of_parameter
use Rattle.mh_group.specs.declared.written.Member.{Member}
use Rattle.mh_group.specs.declared.written.Position.{Position}
use Rattle.mh_group.specs.declared.written.NextScene.{NextScene}
use Rattle.mh_group.specs.declared.written.Setting.{Setting}
use Rattle.mh_group.specs.declared.written.Setting.TheVariants as of_setting
use Rattle.mh_group.specs.declared.written.Field.{Field}
use Rattle.mh_group.specs.declared.written.Ingredient.{Ingredient}
use Rattle.mh_group.specs.declared.written.Written.{Written as Group}
use Rattle.mh_group.specs.Holdable.{colour_octets, is_plain, is_integer, is_number, is_name, is_octets, is_reference, is_generic, is_typed, is_content, is_data, is_parameter, is_action, is_list, is_member, is_position, is_next_scene, is_setting, has_settings, is_ingredient, is_holdable}
use Rattle.mh_group.specs.Words.{class_word, attribute_word, action_word, event_word, justification_word}
use Rattle.mh_group.specs.Table.{attribute_number, is_group_class}
use Rattle.mh_group.specs.Fit.{rises_above, is_rising, before_items, is_group, misfit_of, fields_misfit, ingredient_misfit, ingredients_misfit, items_of, written_items}
use Rattle.mh_text.specs.declared.token.kind.TokenKind.TheVariants as kind
use Rattle.mh_text.specs.Words.{Written}
use Rattle.mh_text.specs.Words.IsGap.{blank, nothing as no_gap}
use Rattle.mh_text.specs.Spelling.{IsOpenBrace, IsCloseBrace, IsKeyword, IsInteger, AreOctets, IsTruth, IsRef, IsTyped, IsContent, IsData, IsParameter, IsAction, AreSeveral, IsListOf, IsMember, IsPosition, IsNextScene, IsSetting, IsField, NoneTwice, AreFieldsOf, IsIngredient, IsBody, Spells}
use Rattle.mh_text.specs.Gives.{Refusal}
use Rattle.mh_text.specs.Reading.{read}
use Rattle.mh_text.proofs.OnlyGroups.{read_only}
use Rattle.mh_text.specs.Printed.{passes_limit, opening, closing, opening_brace, closing_brace, keyword, truth, integer, natural, name, octets, list, named, reference, generic, typed_value, content_value, data_value, parameter_value, action, member, position, next_scene, value, field, ingredient, items, body, printed}
use Rattle.mh_text.proofs.TableWords.{class_keyword, attribute_keyword, action_keyword, event_letters, justification_letters}
use Rattle.mh_text.proofs.PrintedLemmas.{SpacedWords, Prints, word_prints, two, three, four, five, each_prints, opening_prints, closing_prints, list_prints, keyword_prints, letters_print, truth_prints, integer_prints, natural_prints, name_prints, octets_print, named_prints, reference_prints, generic_prints, content_name_prints, typed_prints, content_prints, data_prints, few}

parameter_prints : (x : Parameter) → is_parameter x ≡ true → Prints (IsParameter x) (parameter_value x)
parameter_prints (of_parameter.Bool x) h = generic_prints IsTruth truth is_plain truth_prints x h
parameter_prints (of_parameter.Int x) h = generic_prints IsInteger integer is_integer integer_prints x h
parameter_prints (of_parameter.Octets x) h = generic_prints AreOctets octets is_octets octets_print x h
parameter_prints (of_parameter.Ref x) h = generic_prints IsRef reference is_reference reference_prints x h
parameter_prints (of_parameter.Content x) h = generic_prints IsContent content_value is_content content_prints x h
parameter_prints (of_parameter.Data x) h = generic_prints IsData data_value is_data data_prints x h
parameter_prints (of_parameter.Event e) h = letters_print (event_word e) (event_letters e)
parameter_prints (of_parameter.Receiver r) h = reference_prints r h
parameter_prints (of_parameter.Typed x) h = typed_prints x h
parameter_prints (of_parameter.Arguments xs) h = list_prints IsTyped typed_value is_typed typed_prints xs h

action_prints : (x : Action) → is_action x ≡ true → Prints (IsAction x) (action x)
unfolding action
action_prints x h =
    let parts = and_parts (is_generic is_reference x.target) (list_all is_parameter x.parameters) h in
    five (keyword (action_word x.name)) opening (generic reference x.target) (flat_map parameter_value x.parameters) closing
    (keyword_prints (action_word x.name) (action_keyword x.name)) opening_prints (generic_prints IsRef reference is_reference reference_prints x.target parts.0)
    (each_prints IsParameter parameter_value is_parameter parameter_prints x.parameters parts.1) closing_prints

effect_prints : (xs : List Action) → is_list is_action xs ≡ true → Prints (IsListOf IsAction xs) (list action xs)
effect_prints xs h = list_prints IsAction action is_action action_prints xs h

member_prints : (m : Member) → is_member m ≡ true → Prints (IsMember m) (member m)
unfolding member
member_prints m h tail rest spaced =
    let parts = and_parts (is_reference m.object) (is_list (is_list is_action) m.slots) h in
    let slots = and_parts (nat_le (length m.slots) longest_list) (list_all (is_list is_action) m.slots) parts.1 in
    let z = four opening (reference m.object) (flat_map (list action) m.slots) closing opening_prints (reference_prints m.object parts.0)
    (each_prints (IsListOf IsAction) (list action) (is_list is_action) effect_prints m.slots slots.1) closing_prints tail rest spaced in
    (z.0, z.1, (few (length m.slots) longest_list slots.0, z.2.0, z.2.1, z.2.2, z.2.3, z.2.4, z.2.5, z.2.6))

position_prints : (p : Position) → is_position p ≡ true → Prints (IsPosition p) (position p)
unfolding position
position_prints p h =
    let parts = and_parts (is_integer p.x) (is_integer p.y) h in
    four opening (integer p.x) (integer p.y) closing opening_prints (integer_prints p.x parts.0) (integer_prints p.y parts.1) closing_prints

next_scene_prints : (s : NextScene) → is_next_scene s ≡ true → Prints (IsNextScene s) (next_scene s)
unfolding next_scene
next_scene_prints s h =
    let parts = and_parts (is_name s.name) (is_integer s.weight) h in
    four opening (name s.name) (integer s.weight) closing opening_prints (name_prints s.name parts.0) (integer_prints s.weight parts.1) closing_prints

row_prints : (xs : List ℤ) → is_list is_integer xs ≡ true → Prints (IsListOf IsInteger xs) (list integer xs)
row_prints xs h = list_prints IsInteger integer is_integer integer_prints xs h

setting_prints : (x : Setting) → is_setting x ≡ true → Prints (IsSetting x) (value x)
unfolding value
setting_prints (of_setting.Bool b) h = truth_prints b refl
setting_prints (of_setting.Int x) h = integer_prints x h
setting_prints (of_setting.Pair x y) h = let parts = and_parts (is_integer x) (is_integer y) h in two (integer x) (integer y) (integer_prints x parts.0) (integer_prints y parts.1)
setting_prints (of_setting.Octets bs) h = octets_print bs h
setting_prints (of_setting.Colour c) h = octets_print (colour_octets c) h
setting_prints (of_setting.Ref r) h = reference_prints r h
setting_prints (of_setting.Content x) h = content_prints x h
setting_prints (of_setting.ContentRef bs) h = content_name_prints bs h
setting_prints (of_setting.Event e) h = letters_print (event_word e) (event_letters e)
setting_prints (of_setting.Data x) h = data_prints x h
setting_prints (of_setting.Justification j) h = letters_print (justification_word j) (justification_letters j)
setting_prints (of_setting.Effect xs) h = effect_prints xs h
setting_prints (of_setting.MovementTable rows) h = list_prints (IsListOf IsInteger) (list integer) (is_list is_integer) row_prints rows h
setting_prints (of_setting.Members ms) h = list_prints IsMember member is_member member_prints ms h
setting_prints (of_setting.Positions ps) h = list_prints IsPosition position is_position position_prints ps h
setting_prints (of_setting.NextScenes ss) h = list_prints IsNextScene next_scene is_next_scene next_scene_prints ss h

field_prints : (f : Field) → is_setting f.setting ≡ true → Prints (IsField f) (field f)
unfolding field
field_prints f h = two (keyword (attribute_word f.attribute)) (value f.setting) (keyword_prints (attribute_word f.attribute) (attribute_keyword f.attribute)) (setting_prints f.setting h)

fields_print : (fs : List Field) → has_settings fs ≡ true → Prints (AreSeveral IsField fs) (flat_map field fs)
fields_print fs h = each_prints IsField field (λ f. is_setting f.setting) field_prints fs h

-- Fields that rise are written none twice.

none_below : (n : ℕ) (fs : List Field) (k : ℕ) → rises_above n fs ≡ true → k ≤ n → list_any (λ g. attribute_number g.attribute == k) fs ≡ false
none_below n [] k h le = refl
none_below n (f ∷ fs) k h le =
    let parts = and_parts (nat_lt n (attribute_number f.attribute)) (rises_above (attribute_number f.attribute) fs) h in
    let above : n < attribute_number f.attribute = is_above n (attribute_number f.attribute) parts.0 in
    let other : (attribute_number f.attribute == k) ≡ false = are_two (attribute_number f.attribute) k (omega (arith, above, le)) in
    rw other (none_below (attribute_number f.attribute) fs k parts.1 (omega (arith, above, le)))
  where
    is_above : (n m : ℕ) → nat_lt n m ≡ true → n < m
    is_above n m h = grind (arith, nat_tests)

    are_two : (n m : ℕ) → m < n → (n == m) ≡ false
    are_two n m h = grind (arith, nat_tests)

once : (n : ℕ) (fs : List Field) → rises_above n fs ≡ true → NoneTwice fs
once n [] h = tt
once n (f ∷ fs) h =
    let parts = and_parts (nat_lt n (attribute_number f.attribute)) (rises_above (attribute_number f.attribute) fs) h in
    (none_below (attribute_number f.attribute) fs (attribute_number f.attribute) parts.1 (omega arith), once (attribute_number f.attribute) fs parts.1)

fields_of : (fs : List Field) → is_rising fs ≡ true → AreFieldsOf fs fs
fields_of fs h = (once 0 fs h, λ f. ((λ x. x), (λ x. x)))

-- Fields of a group that the tables allow rise.

none_both : (a b : Option MisfitWhy) → is_none (option_or a b) ≡ true → (is_none a ≡ true) × (is_none b ≡ true)
none_both None b h = (refl, h)
none_both (Some x) b h = cc

none_else : (t : Bool) (w : MisfitWhy) (o : Option MisfitWhy) → is_none (if t then Some w else o) ≡ true → is_none o ≡ true
none_else true w o h = cc
none_else false w o h = h

fields_rise : (c : Class) (fs : List Field) → is_none (fields_misfit c fs) ≡ true → is_rising fs ≡ true
fields_rise c fs h = by (is_rising fs) refl
  where
    by : (t : Bool) → is_rising fs ≡ t → t ≡ true
    by true e = refl
    by false e = let k = rw e at h in cc

ingredients_rise : (is : List Ingredient) → is_none (ingredients_misfit is) ≡ true → list_all (λ i. is_rising i.fields) is ≡ true
ingredients_rise [] h = refl
ingredients_rise (i ∷ is) h =
    let parts = none_both (ingredient_misfit i) (ingredients_misfit is) h in
    let numbered = none_else (is_group_class i.class) misfit.NotAnIngredient _ parts.0 in
    let first : is_rising i.fields ≡ true = fields_rise i.class i.fields (none_else (i.number == 0) misfit.Unnumbered _ numbered) in
    rw first (ingredients_rise is parts.1)

-- Ingredients and groups.

brace_prints : Prints IsOpenBrace opening_brace
brace_prints = word_prints kind.OpenBrace (123 ∷ []) refl

closing_brace_prints : Prints IsCloseBrace closing_brace
closing_brace_prints = word_prints kind.CloseBrace (125 ∷ []) refl

abbrev is_ready : Ingredient → Bool
is_ready i = is_ingredient i && is_rising i.fields

ingredient_prints : (i : Ingredient) → is_ready i ≡ true → Prints (IsIngredient i) (ingredient i)
unfolding ingredient
ingredient_prints i h tail rest spaced =
    let parts = and_parts (is_ingredient i) (is_rising i.fields) h in
    let held = and_parts (is_number i.number) (has_settings i.fields) parts.0 in
    let z = five opening_brace (keyword (class_word i.class)) (natural i.number) (flat_map field i.fields) closing_brace
    brace_prints (keyword_prints (class_word i.class) (class_keyword i.class)) (natural_prints i.number held.0) (fields_print i.fields held.1) closing_brace_prints
    tail rest spaced in
    (z.0, z.1, (z.2.0, z.2.1, z.2.2, z.2.3, i.fields, z.2.4, z.2.5, z.2.6, z.2.7, fields_of i.fields parts.1, z.2.8))

all_ready : (is : List Ingredient) → list_all is_ingredient is ≡ true → list_all (λ i. is_rising i.fields) is ≡ true → list_all is_ready is ≡ true
all_ready [] h k = refl
all_ready (i ∷ is) h k =
    let first = and_parts (is_ingredient i) (list_all is_ingredient is) h in
    let second = and_parts (is_rising i.fields) (list_all (λ (x : Ingredient). is_rising x.fields) is) k in
    rw (first.0, second.0) (all_ready is first.1 second.1)

items_print : (is : List Ingredient) → is_list is_ready is ≡ true
    → Prints (λ ws rest. (m : List Written) × IsKeyword (attribute_word attribute.Items) ws m × IsListOf IsIngredient is m rest) (items is)
unfolding items
items_print is h =
    two (keyword (attribute_word attribute.Items)) (list ingredient is) (keyword_prints (attribute_word attribute.Items) (attribute_keyword attribute.Items))
    (list_prints IsIngredient ingredient is_ready ingredient_prints is h)

body_prints : (is : Option (List Ingredient)) (fs : List Field) → is_list is_ready (written_items is) ≡ true → has_settings fs ≡ true → Prints (IsBody is fs) (body is fs)
unfolding body
body_prints None fs h k tail rest spaced = fields_print fs k tail rest spaced
body_prints (Some is) fs h k tail rest spaced =
    let n = before_items fs in
    let whole : take n fs ++ drop n fs ≡ fs = take-append-drop n fs in
    let both : list_all (λ (f : Field). is_setting f.setting) (take n fs ++ drop n fs) ≡ true = ap (λ (l : List Field). has_settings l) whole ∙ k in
    let parts = and_parts (has_settings (take n fs)) (has_settings (drop n fs)) (sym (list_all-append (λ (f : Field). is_setting f.setting) (take n fs) (drop n fs)) ∙ both) in
    let z = three (flat_map field (take n fs)) (items is) (flat_map field (drop n fs)) (fields_print (take n fs) parts.0) (items_print is h) (fields_print (drop n fs) parts.1) tail rest spaced in
    (z.0, z.1, (take n fs, drop n fs, z.2.0, z.2.3.0, z.2.1, sym whole, z.2.2, z.2.3.1, z.2.3.2, z.2.4))

line_end : SpacedWords (10 ∷ []) []
line_end wants = inl (blank 10 [] refl no_gap)

pub printed_spells : (g : Group) → is_group g ≡ true → is_holdable g ≡ true → length (printed g) ≤ largest_file → Spells (printed g) g
unfolding Spells printed is_holdable misfit_of
printed_spells g fits held short =
    let allowed = none_both (fields_misfit g.class g.fields) (ingredients_misfit (items_of g)) (none_else (not (is_group_class g.class)) misfit.NotAGroup _ fits) in
    let parts = and_parts (list_all is_name_byte g.identifier) (has_settings g.fields && is_list is_ingredient (items_of g)) held in
    let inner = and_parts (has_settings g.fields) (is_list is_ingredient (items_of g)) parts.1 in
    let listed = and_parts (nat_le (length (items_of g)) longest_list) (list_all is_ingredient (items_of g)) inner.1 in
    let ready : list_all is_ready (items_of g) ≡ true = all_ready (items_of g) listed.1 (ingredients_rise (items_of g) allowed.1) in
    let ready_list : is_list is_ready (items_of g) ≡ true = and_from (nat_le (length (items_of g)) longest_list) (list_all is_ready (items_of g)) listed.0 ready in
    let z = four (keyword (class_word g.class)) (named g.identifier 0) (body g.items g.fields) closing_brace
    (keyword_prints (class_word g.class) (class_keyword g.class)) (named_prints g.identifier 0 parts.0 refl) (body_prints g.items g.fields ready_list inner.0) closing_brace_prints
    (10 ∷ []) [] line_end in
    let brace : Written = record { kind = kind.OpenBrace; text = 123 ∷ [] } in (
      short,
      brace ∷ z.0,
      ([], _, no_gap, refl, refl, (λ e. cc), z.1 false),
      (z.0, z.2.0, z.2.1, z.2.2, g.fields, refl, z.2.3, z.2.4, z.2.5, fields_of g.fields (fields_rise g.class g.fields allowed.0), z.2.6),
    )

-- the same, of a buffer that was empty
pub buffer_spells : (text before : List ℕ) (g : Group) → text ≡ before ++ printed g → before ≡ [] → is_group g ≡ true → is_holdable g ≡ true → length text ≤ largest_file → Spells text g
buffer_spells text before g whole empty fits held short =
    let same : text ≡ printed g = whole ∙ ap (λ (l : List ℕ). l ++ printed g) empty in
    let size : length text ≡ length (printed g) = ap (λ (l : List ℕ). length l) same in
    subst (λ (l : List ℕ). Spells l g) (sym same) (printed_spells g fits held (omega (arith, size, short)))

pub reads_printed : (g : Group) → is_group g ≡ true → passes_limit g ≡ false → read (printed g) ≡ Ok g
unfolding passes_limit
reads_printed g fits within = read_only (printed g) g fits (printed_spells g fits (held (is_holdable g) (nat_lt largest_file (length (printed g))) within) (short (is_holdable g) (length (printed g)) within))
  where
    held : (a b : Bool) → (not a || b) ≡ false → a ≡ true
    held true b h = refl
    held false b h = cc

    short : (a : Bool) (n : ℕ) → (not a || nat_lt largest_file n) ≡ false → n ≤ largest_file
    short true n h = is_file n h
    short false n h = cc

pub spells_one : (bytes : List ℕ) (g h : Group) → is_group g ≡ true → is_group h ≡ true → Spells bytes g → Spells bytes h → g ≡ h
spells_one bytes g h gf hf gs hs = same (read bytes) (read_only bytes g gf gs) (read_only bytes h hf hs)
  where
    same : (r : Result Group Refusal) → r ≡ Ok g → r ≡ Ok h → g ≡ h
    same r e f = cc
