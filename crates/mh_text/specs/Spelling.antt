-- Which words spell which group, by cases. Each relation says: the first words are the value, and then
-- come the second words. Fields come in any order and none twice; a group holds them in the order of
-- their numbers. It is said apart from the reader.
use Rattle.std.specs.Prelude.{◌≡◌, ℕ, ◌<◌, ◌≤◌, ◌^◌, ◌⊎◌, ◌↔◌, Bool, true, false, ◌==◌, List, [], ◌∷◌, ◌++◌, length, Option, Some, None, ℤ, pos, Contains, codes}
use Rattle.std.specs.List.{list_any}
use Rattle.mh_base.specs.declared.colour.Colour.{Colour}
use Rattle.mh_base.specs.declared.value.Kind.TheVariants as value_kind
use Rattle.mh_base.specs.Limits.{largest_file, longest_list}
use Rattle.mh_group.specs.declared.attribute.Attribute.TheVariants as attribute
use Rattle.mh_group.specs.declared.reference.Ref.{Ref}
use Rattle.mh_group.specs.declared.reference.Ref.TheVariants as ref
use Rattle.mh_group.specs.declared.reference.Generic.{Generic}
use Rattle.mh_group.specs.declared.reference.Generic.TheVariants.{Direct, Indirect}
use Rattle.mh_group.specs.declared.action.Action.{Action}
use Rattle.mh_group.specs.declared.action.Content.{Content}
use Rattle.mh_group.specs.declared.action.Content.TheVariants as content
use Rattle.mh_group.specs.declared.action.EventData.{EventData}
use Rattle.mh_group.specs.declared.action.EventData.TheVariants as event_data
use Rattle.mh_group.specs.declared.action.Typed.{Typed}
use Rattle.mh_group.specs.declared.action.Typed.TheVariants as typed
use Rattle.mh_group.specs.declared.action.Parameter.{Parameter}
use Rattle.mh_group.specs.declared.action.Parameter.TheVariants as parameter
use Rattle.mh_group.specs.declared.written.Member.{Member}
use Rattle.mh_group.specs.declared.written.Position.{Position}
use Rattle.mh_group.specs.declared.written.NextScene.{NextScene}
use Rattle.mh_group.specs.declared.written.Setting.{Setting}
use Rattle.mh_group.specs.declared.written.Setting.TheVariants as setting
use Rattle.mh_group.specs.declared.written.Field.{Field}
use Rattle.mh_group.specs.declared.written.Ingredient.{Ingredient}
use Rattle.mh_group.specs.declared.written.Written.{Written as Group}
use Rattle.mh_group.specs.Holdable.{colour_octets}
use Rattle.mh_group.specs.Words.{class_word, attribute_word, action_word, event_word, justification_word, kind_word}
use Rattle.mh_group.specs.Table.{attribute_number}
use Rattle.mh_group.specs.Fit.{is_group}
use Rattle.mh_text.specs.declared.token.kind.TokenKind.{TokenKind}
use Rattle.mh_text.specs.declared.token.kind.TokenKind.TheVariants as kind
use Rattle.mh_text.specs.Bytes.{number_behind, negated}
use Rattle.mh_text.specs.Words.{Written, AreWords, AreDigits, Quotes}

-- the first word has this kind and these bytes
abbrev pub IsFirst : TokenKind → List ℕ → List Written → List Written → Type 0
IsFirst k text ws rest = ws ≡ record { kind = k; text = text } ∷ rest

abbrev pub IsOpen : List Written → List Written → Type 0
IsOpen ws rest = IsFirst kind.OpenParenthesis (40 ∷ []) ws rest

abbrev pub IsClose : List Written → List Written → Type 0
IsClose ws rest = IsFirst kind.CloseParenthesis (41 ∷ []) ws rest

abbrev pub IsOpenBrace : List Written → List Written → Type 0
IsOpenBrace ws rest = IsFirst kind.OpenBrace (123 ∷ []) ws rest

abbrev pub IsCloseBrace : List Written → List Written → Type 0
IsCloseBrace ws rest = IsFirst kind.CloseBrace (125 ∷ []) ws rest

-- the keyword of this name
abbrev pub IsKeyword : List ℕ → List Written → List Written → Type 0
IsKeyword name ws rest = IsFirst kind.Keyword (58 ∷ name) ws rest

-- the text writes this integer, which 32 bits hold
abbrev pub Writes : List ℕ → ℤ → Type 0
Writes text x =
    (AreDigits text × (x ≡ pos (number_behind 0 text)) × (number_behind 0 text < 2 ^ 31))
    ⊎ ((ds : List ℕ) × (text ≡ 45 ∷ ds) × AreDigits ds × (x ≡ negated (number_behind 0 ds)) × (number_behind 0 ds ≤ 2 ^ 31))

abbrev pub IsInteger : ℤ → List Written → List Written → Type 0
IsInteger x ws rest = (text : List ℕ) × Writes text x × IsFirst kind.Integer text ws rest

-- the number of an object
abbrev pub IsNumber : ℕ → List Written → List Written → Type 0
IsNumber n ws rest = IsInteger (pos n) ws rest

-- a name: the bytes of a string
abbrev pub IsName : List ℕ → List Written → List Written → Type 0
IsName name ws rest = IsFirst kind.Text (34 ∷ (name ++ 34 ∷ [])) ws rest

-- octets: the bytes of a string, or what a quoted string stands for
abbrev pub AreOctets : List ℕ → List Written → List Written → Type 0
AreOctets octets ws rest =
    IsFirst kind.Text (34 ∷ (octets ++ 34 ∷ [])) ws rest
    ⊎ ((inner : List ℕ) × Quotes inner octets × IsFirst kind.Quoted (39 ∷ (inner ++ 39 ∷ [])) ws rest)

-- a colour: its four octets
abbrev pub IsColour : Colour → List Written → List Written → Type 0
IsColour c ws rest = AreOctets (colour_octets c) ws rest

abbrev pub truth_word : Bool → List ℕ
truth_word true = codes "true"
truth_word false = codes "false"

abbrev pub IsTruth : Bool → List Written → List Written → Type 0
IsTruth b ws rest = IsFirst kind.Word (truth_word b) ws rest

-- a name and a number between parentheses
abbrev pub IsNamed : List ℕ → ℕ → List Written → List Written → Type 0
IsNamed name n ws rest = (a : List Written) × (b : List Written) × (c : List Written)
    × IsOpen ws a × IsName name a b × IsNumber n b c × IsClose c rest

abbrev pub IsRef : Ref → List Written → List Written → Type 0
IsRef (ref.Here n) ws rest = IsNumber n ws rest
IsRef (ref.In name n) ws rest = IsNamed name n ws rest

-- a value that is written directly, or the reference of the variable that holds it
abbrev pub IsGeneric : {A : Type 0} → (A → List Written → List Written → Type 0) → Generic A → List Written → List Written → Type 0
IsGeneric IsValue (Direct x) ws rest = IsValue x ws rest
IsGeneric IsValue (Indirect r) ws rest = (a : List Written) × IsKeyword (codes "IndirectRef") ws a × IsRef r a rest

-- the name of a content file
abbrev pub IsContentName : List ℕ → List Written → List Written → Type 0
IsContentName name ws rest = (a : List Written) × (b : List Written) × (c : List Written)
    × IsKeyword (codes "ContentRef") ws a × IsOpen a b × IsName name b c × IsClose c rest

-- a value behind the keyword of its kind
abbrev pub IsOfKind : {A : Type 0} → List ℕ → (A → List Written → List Written → Type 0) → Generic A → List Written → List Written → Type 0
IsOfKind name IsValue x ws rest = (a : List Written) × IsKeyword name ws a × IsGeneric IsValue x a rest

abbrev pub IsTyped : Typed → List Written → List Written → Type 0
IsTyped (typed.Bool x) ws rest = IsOfKind (kind_word value_kind.Bool) IsTruth x ws rest
IsTyped (typed.Int x) ws rest = IsOfKind (kind_word value_kind.Int) IsInteger x ws rest
IsTyped (typed.Octets x) ws rest = IsOfKind (kind_word value_kind.Octets) AreOctets x ws rest
IsTyped (typed.Ref x) ws rest = IsOfKind (kind_word value_kind.Object) IsRef x ws rest
IsTyped (typed.ContentRef x) ws rest = IsOfKind (kind_word value_kind.Content) IsContentName x ws rest

-- content: in the file, or in a file of this name
abbrev pub IsContent : Content → List Written → List Written → Type 0
IsContent (content.Included octets) ws rest = AreOctets octets ws rest
IsContent (content.Referenced name) ws rest = IsContentName name ws rest

-- the data of an event
abbrev pub IsData : EventData → List Written → List Written → Type 0
IsData (event_data.Bool b) ws rest = IsTruth b ws rest
IsData (event_data.Int x) ws rest = IsInteger x ws rest

-- values one after the other
abbrev pub AreSeveral : {A : Type 0} → (A → List Written → List Written → Type 0) → List A → List Written → List Written → Type 0
AreSeveral IsOne [] ws rest = ws ≡ rest
AreSeveral IsOne (x ∷ xs) ws rest = (a : List Written) × IsOne x ws a × AreSeveral IsOne xs a rest

-- values between parentheses, as many as a list may have
abbrev pub IsListOf : {A : Type 0} → (A → List Written → List Written → Type 0) → List A → List Written → List Written → Type 0
IsListOf IsOne xs ws rest = (length xs ≤ longest_list) × (a : List Written) × (b : List Written)
    × IsOpen ws a × AreSeveral IsOne xs a b × IsClose b rest

abbrev pub IsParameter : Parameter → List Written → List Written → Type 0
IsParameter (parameter.Bool x) ws rest = IsGeneric IsTruth x ws rest
IsParameter (parameter.Int x) ws rest = IsGeneric IsInteger x ws rest
IsParameter (parameter.Octets x) ws rest = IsGeneric AreOctets x ws rest
IsParameter (parameter.Ref x) ws rest = IsGeneric IsRef x ws rest
IsParameter (parameter.Content x) ws rest = IsGeneric IsContent x ws rest
IsParameter (parameter.Data x) ws rest = IsGeneric IsData x ws rest
IsParameter (parameter.Event e) ws rest = IsFirst kind.Word (event_word e) ws rest
IsParameter (parameter.Receiver r) ws rest = IsRef r ws rest
IsParameter (parameter.Typed x) ws rest = IsTyped x ws rest
IsParameter (parameter.Arguments xs) ws rest = IsListOf IsTyped xs ws rest

abbrev pub IsAction : Action → List Written → List Written → Type 0
IsAction x ws rest = (a : List Written) × (b : List Written) × (c : List Written) × (d : List Written)
    × IsKeyword (action_word x.name) ws a × IsOpen a b × IsGeneric IsRef x.target b c
    × AreSeveral IsParameter x.parameters c d × IsClose d rest

-- a member: its object, and the effect of each slot
abbrev pub IsMember : Member → List Written → List Written → Type 0
IsMember m ws rest = (length m.slots ≤ longest_list) × (a : List Written) × (b : List Written) × (c : List Written)
    × IsOpen ws a × IsRef m.object a b × AreSeveral (IsListOf IsAction) m.slots b c × IsClose c rest

abbrev pub IsPosition : Position → List Written → List Written → Type 0
IsPosition p ws rest = (a : List Written) × (b : List Written) × (c : List Written)
    × IsOpen ws a × IsInteger p.x a b × IsInteger p.y b c × IsClose c rest

abbrev pub IsNextScene : NextScene → List Written → List Written → Type 0
IsNextScene s ws rest = (a : List Written) × (b : List Written) × (c : List Written)
    × IsOpen ws a × IsName s.name a b × IsInteger s.weight b c × IsClose c rest

-- the value of an attribute, which tells its shape
abbrev pub IsSetting : Setting → List Written → List Written → Type 0
IsSetting (setting.Bool b) ws rest = IsTruth b ws rest
IsSetting (setting.Int x) ws rest = IsInteger x ws rest
IsSetting (setting.Pair x y) ws rest = (a : List Written) × IsInteger x ws a × IsInteger y a rest
IsSetting (setting.Octets octets) ws rest = AreOctets octets ws rest
IsSetting (setting.Colour c) ws rest = IsColour c ws rest
IsSetting (setting.Ref r) ws rest = IsRef r ws rest
IsSetting (setting.Content x) ws rest = IsContent x ws rest
IsSetting (setting.Event e) ws rest = IsFirst kind.Word (event_word e) ws rest
IsSetting (setting.Data x) ws rest = IsData x ws rest
IsSetting (setting.ContentRef name) ws rest = IsContentName name ws rest
IsSetting (setting.Justification j) ws rest = IsFirst kind.Word (justification_word j) ws rest
IsSetting (setting.Effect actions) ws rest = IsListOf IsAction actions ws rest
IsSetting (setting.MovementTable rows) ws rest = IsListOf (IsListOf IsInteger) rows ws rest
IsSetting (setting.Members members) ws rest = IsListOf IsMember members ws rest
IsSetting (setting.Positions positions) ws rest = IsListOf IsPosition positions ws rest
IsSetting (setting.NextScenes scenes) ws rest = IsListOf IsNextScene scenes ws rest

abbrev pub IsField : Field → List Written → List Written → Type 0
IsField f ws rest = (a : List Written) × IsKeyword (attribute_word f.attribute) ws a × IsSetting f.setting a rest

-- no two of the fields have one attribute
abbrev pub NoneTwice : List Field → Type 0
NoneTwice [] = Unit {0}
NoneTwice (f ∷ fs) = (list_any (λ g. attribute_number g.attribute == attribute_number f.attribute) fs ≡ false) × NoneTwice fs

-- the same fields, in another order
abbrev pub AreSame : List Field → List Field → Type 0
AreSame fs gs = (f : Field) → Contains fs f ↔ Contains gs f

-- the fields of an object, in the order in which they are written
abbrev pub AreFieldsOf : List Field → List Field → Type 0
AreFieldsOf fields written = NoneTwice written × AreSame written fields

abbrev pub IsIngredient : Ingredient → List Written → List Written → Type 0
IsIngredient x ws rest = (a : List Written) × (b : List Written) × (c : List Written) × (d : List Written) × (written : List Field)
    × IsOpenBrace ws a × IsKeyword (class_word x.class) a b × IsNumber x.number b c
    × AreSeveral IsField written c d × AreFieldsOf x.fields written × IsCloseBrace d rest

-- what stands between the identifier of a group and its closing brace: fields, and perhaps the items
-- between them
abbrev pub IsBody : Option (List Ingredient) → List Field → List Written → List Written → Type 0
IsBody None written ws rest = AreSeveral IsField written ws rest
IsBody (Some items) written ws rest = (before : List Field) × (behind : List Field) × (a : List Written) × (b : List Written) × (c : List Written)
    × (written ≡ before ++ behind) × AreSeveral IsField before ws a
    × IsKeyword (attribute_word attribute.Items) a b × IsListOf IsIngredient items b c × AreSeveral IsField behind c rest

abbrev pub IsGroup : Group → List Written → List Written → Type 0
IsGroup x ws rest = (a : List Written) × (b : List Written) × (c : List Written) × (d : List Written) × (written : List Field)
    × IsOpenBrace ws a × IsKeyword (class_word x.class) a b × IsNamed x.identifier 0 b c
    × IsBody x.items written c d × AreFieldsOf x.fields written × IsCloseBrace d rest

-- the bytes spell the group, and nothing else
unfoldable pub Spells : List ℕ → Group → Type 0
Spells bytes x = (length bytes ≤ largest_file) × (words : List Written) × AreWords false bytes words × IsGroup x words []

-- the bytes spell no group that the tables allow
abbrev pub SpellsNone : List ℕ → Type 0
SpellsNone bytes = (x : Group) → is_group x ≡ true → Spells bytes x → ⊥

-- the bytes spell no group that the tables allow but this one
abbrev pub SpellsNoOther : List ℕ → Group → Type 0
SpellsNoOther bytes x = (y : Group) → is_group y ≡ true → Spells bytes y → y ≡ x
