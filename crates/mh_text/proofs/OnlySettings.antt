-- What is spelled is read: parameters, actions, and the values of attributes.
use Rattle.std.proofs.Common.{◌≡◌, ℕ, suc, ◌<◌, ◌≤◌, Bool, true, false, ◌&&◌, ◌==◌, nat_lt, nat_le, if◌then◌else◌, List, [], ◌∷◌, ◌++◌, length, Ok, ℤ, pos, negsuc, int_lt, int_eq, refl, ap, sym, ◌∙◌, subst, arith, append_assoc, append-nil}
use Rattle.std.specs.List.{list_all}
use Rattle.std.proofs.lemmas.Bool.{and_parts}
use Rattle.std.proofs.lemmas.Bool.Decides.{nat_tests}
use Rattle.mh_base.specs.declared.value.Kind.{Kind}
use Rattle.mh_base.specs.declared.value.Kind.TheVariants as of_kind
use Rattle.mh_base.specs.Reading.{◌>>=◌}
use Rattle.mh_base.specs.Limits.{longest_list}
use Rattle.mh_base.proofs.ReadingLemmas.{then_is}
use Rattle.mh_group.specs.declared.action.Action.{Action}
use Rattle.mh_group.specs.declared.action.Typed.{Typed}
use Rattle.mh_group.specs.declared.action.Typed.TheVariants as of_typed
use Rattle.mh_group.specs.declared.action.Parameter.{Parameter}
use Rattle.mh_group.specs.declared.action.Parameter.TheVariants as of_parameter
use Rattle.mh_group.specs.declared.shape.Shape.{Shape}
use Rattle.mh_group.specs.declared.shape.Shape.TheVariants as shape
use Rattle.mh_group.specs.declared.shape.Need.{Need}
use Rattle.mh_group.specs.declared.shape.Need.TheVariants as need
use Rattle.mh_group.specs.declared.written.Member.{Member}
use Rattle.mh_group.specs.declared.written.Setting.{Setting}
use Rattle.mh_group.specs.declared.written.Setting.TheVariants as of_setting
use Rattle.mh_group.specs.Words.{action_word, kind_word}
use Rattle.mh_group.specs.Table.{needs_of, optional_of}
use Rattle.mh_group.specs.Fit.{fits, fits_parameter, fits_parameters, fits_action, fits_effect, fits_member, is_list_item, is_natural, is_field_length}
use Rattle.mh_text.specs.declared.token.kind.TokenKind.TheVariants as kind
use Rattle.mh_text.specs.declared.sign.Sign.TheVariants as sign
use Rattle.mh_text.specs.declared.text_error.Why.TheVariants as why
use Rattle.mh_text.specs.Rest.{Left}
use Rattle.mh_text.specs.Signs.{sign_of}
use Rattle.mh_text.specs.Words.{Written}
use Rattle.mh_text.specs.Spelling.{IsClose, IsKeyword, IsInteger, IsTruth, AreOctets, IsRef, IsContentName, IsContent, IsData, IsTyped, IsParameter, AreSeveral, IsListOf, IsAction, IsMember, IsPosition, IsNextScene, IsSetting}
use Rattle.mh_text.specs.Reading.{next, is_close, opened, closed, refused_at, name_of, integer_of, natural_of, field_length_of, fixed_of, truth_of, event_of, justification_of, octets_of, colour_of, data_of, reference, alone, truth, integer, octets, event_data, content_name, content, generic, listed, list, value_of, typed, generic_parameter, parameter, parameters, action_name_of, action, effect, row, member, list_item, position, next_scene, single, part, pair, several, setting_at, setting}
use Rattle.mh_text.proofs.SignLemmas.{action_means, kind_means}
use Rattle.mh_text.proofs.OnlyLemmas.{StandsAt, first, Reads, Begun, Takes, Any, number_one, one_made, alone_taken, made_taken, truth_one, event_one, justification_one, integer_one, octets_one, colour_one, data_one, open_read, close_read, name_is, integer_is, natural_is, truth_takes, integer_takes, octets_takes, data_takes, reference_takes, content_name_takes, content_takes, generic_takes, AllFit, any_list, listed_read, list_takes}

-- a value with its kind in front
kinded : (k : Kind) (t : Typed) (l : Left) (ws a rest : List Written) → StandsAt l ws → IsKeyword (kind_word k) ws a → ((m : Left) → StandsAt m a → Begun m (value_of k) t rest) → Begun l typed t rest
unfolding typed
kinded k t l ws a rest at keyed behind =
    let s = first l ws a kind.Keyword (58 ∷ kind_word k) (sign.Kind k) at keyed (kind_means k) in
    let b = behind s.rest s.at in
    record {
      head = record { sign = sign.Kind k; start = s.start; text = 58 ∷ kind_word k };
      behind = s.rest;
      first = s.first;
      rest = b.rest;
      is = then_is (next s.rest) _ _ (t, b.rest) b.first b.is;
      at = b.at;
      no_close = refl;
    }

typed_takes : Takes typed IsTyped Any
unfolding value_of
typed_takes l (of_typed.Bool x) ws rest fit at (a, keyed, value) =
    kinded of_kind.Bool (of_typed.Bool x) l ws a rest at keyed (λ m h. made_taken of_typed.Bool (generic truth) x m rest (generic_takes truth IsTruth truth_takes m x a rest tt h value))
typed_takes l (of_typed.Int x) ws rest fit at (a, keyed, value) =
    kinded of_kind.Int (of_typed.Int x) l ws a rest at keyed (λ m h. made_taken of_typed.Int (generic integer) x m rest (generic_takes integer IsInteger integer_takes m x a rest tt h value))
typed_takes l (of_typed.Octets x) ws rest fit at (a, keyed, value) =
    kinded of_kind.Octets (of_typed.Octets x) l ws a rest at keyed (λ m h. made_taken of_typed.Octets (generic octets) x m rest (generic_takes octets AreOctets octets_takes m x a rest tt h value))
typed_takes l (of_typed.Ref x) ws rest fit at (a, keyed, value) =
    kinded of_kind.Object (of_typed.Ref x) l ws a rest at keyed (λ m h. made_taken of_typed.Ref (generic reference) x m rest (generic_takes reference IsRef reference_takes m x a rest tt h value))
typed_takes l (of_typed.ContentRef x) ws rest fit at (a, keyed, value) =
    kinded of_kind.Content (of_typed.ContentRef x) l ws a rest at keyed (λ m h. made_taken of_typed.ContentRef (generic content_name) x m rest (generic_takes content_name IsContentName content_name_takes m x a rest tt h value))

-- parameters
parameter_takes : (n : Need) → Takes (parameter n) IsParameter (λ x. fits_parameter n x ≡ true)
unfolding parameter generic_parameter
parameter_takes need.Bool l (of_parameter.Bool x) ws rest fit at h = made_taken of_parameter.Bool (generic truth) x l rest (generic_takes truth IsTruth truth_takes l x ws rest tt at h)
parameter_takes need.Int l (of_parameter.Int x) ws rest fit at h = made_taken of_parameter.Int (generic integer) x l rest (generic_takes integer IsInteger integer_takes l x ws rest tt at h)
parameter_takes need.Octets l (of_parameter.Octets x) ws rest fit at h = made_taken of_parameter.Octets (generic octets) x l rest (generic_takes octets AreOctets octets_takes l x ws rest tt at h)
parameter_takes need.Ref l (of_parameter.Ref x) ws rest fit at h = made_taken of_parameter.Ref (generic reference) x l rest (generic_takes reference IsRef reference_takes l x ws rest tt at h)
parameter_takes need.Content l (of_parameter.Content x) ws rest fit at h = made_taken of_parameter.Content (generic content) x l rest (generic_takes content IsContent content_takes l x ws rest tt at h)
parameter_takes need.Data l (of_parameter.Data x) ws rest fit at h = made_taken of_parameter.Data (generic event_data) x l rest (generic_takes event_data IsData data_takes l x ws rest tt at h)
parameter_takes need.Event l (of_parameter.Event x) ws rest fit at h = made_taken of_parameter.Event (λ p left. alone (event_of p) left) x l rest (alone_taken event_of x l rest (event_one x l ws rest at h))
parameter_takes (need.Receiver k) l (of_parameter.Receiver x) ws rest fit at h = made_taken of_parameter.Receiver reference x l rest (reference_takes l x ws rest at h).0
parameter_takes need.Typed l (of_parameter.Typed x) ws rest fit at h = made_taken of_parameter.Typed typed x l rest (typed_takes l x ws rest tt at h)
parameter_takes need.Arguments l (of_parameter.Arguments xs) ws rest fit at h =
    made_taken of_parameter.Arguments (list typed longest_list) xs l rest (list_takes typed IsTyped Any typed_takes longest_list l xs ws rest (any_list xs) at h)
parameter_takes _ l _ ws rest fit at h = absurd cc

and_not : (a b : Bool) → b ≡ false → (a && b) ≡ false
and_not true b h = h
and_not false b h = refl

parameters_read : (optional : ℕ) (ns : List Need) (done ps : List Parameter) (l : Left) (ws end rest : List Written) → fits_parameters optional ns ps ≡ true → StandsAt l ws → AreSeveral IsParameter ps ws end
    → IsClose end rest → Reads (parameters optional ns done l) (done ++ ps) rest
unfolding sign_of
parameters_read optional [] done [] l ws end rest fit at h close =
    let g = close_read l end rest (subst (StandsAt l) h at) close in
    record { rest = g.rest; is = then_is (closed l) _ g.rest (done ++ [], g.rest) g.is (ap (λ ys. Ok (ys, g.rest)) (sym (append-nil done))); at = g.at }
parameters_read optional [] done (p ∷ ps) l ws end rest fit at h close = absurd cc
parameters_read optional (n ∷ ns) done [] l ws end rest fit at h close =
    let s = first l end rest kind.CloseParenthesis (41 ∷ []) sign.CloseParenthesis (subst (StandsAt l) h at) close refl in
    record { rest = s.rest; is = then_is (next l) _ _ (done ++ [], s.rest) s.first (rw fit (ap (λ ys. Ok (ys, s.rest)) (sym (append-nil done)))); at = s.at }
parameters_read optional (n ∷ ns) done (p ∷ ps) l ws end rest fit at (a, here, behind) close =
    let both = and_parts (fits_parameter n p) (fits_parameters optional ns ps) fit in
    let b = parameter_takes n l p ws a both.0 at here in
    let s = parameters_read optional ns (done ++ p ∷ []) ps b.rest a end rest both.1 b.at behind close in
    record {
      rest = s.rest;
      is = then_is (next l) _ _ (done ++ p ∷ ps, s.rest) b.first
          (rw (and_not (nat_le (length (n ∷ ns)) optional) (is_close b.head.sign) b.no_close)
          (then_is (parameter n b.head b.behind) _ _ (done ++ p ∷ ps, s.rest) b.is (s.is ∙ ap (λ ys. Ok (ys, s.rest)) (append_assoc done (p ∷ []) ps))));
      at = s.at;
    }

-- actions
abbrev pub FitsAction : Action → Type 0
FitsAction x = fits_action x ≡ true

action_takes : Takes action IsAction FitsAction
unfolding action action_name_of
action_takes l x ws rest fit at (a, b, c, d, named, opens, target, given, close) =
    let s = first l ws a kind.Keyword (58 ∷ action_word x.name) (sign.Action x.name) at named (action_means x.name) in
    let o = open_read s.rest a b s.at opens in
    let t = generic_takes reference IsRef reference_takes o.rest x.target b c tt o.at target in
    let g = parameters_read (optional_of x.name) (needs_of x.name) [] x.parameters t.rest c d rest fit t.at given close in
    record {
      head = record { sign = sign.Action x.name; start = s.start; text = 58 ∷ action_word x.name };
      behind = s.rest;
      first = s.first;
      rest = g.rest;
      is = then_is (opened s.rest) _ o.rest (x, g.rest) o.is
          (then_is (next o.rest) _ _ (x, g.rest) t.first
          (then_is (generic reference t.head t.behind) _ _ (x, g.rest) t.is
          (then_is (parameters (optional_of x.name) (needs_of x.name) [] t.rest) _ _ (x, g.rest) g.is refl)));
      at = g.at;
      no_close = refl;
    }

-- what is true of each
all_true : {A : Type 0} (p : A → Bool) (xs : List A) → list_all p xs ≡ true → AllFit (λ x. p x ≡ true) xs
all_true p [] h = tt
all_true p (x ∷ xs) h =
    let both = and_parts (p x) (list_all p xs) h in
    (both.0, all_true p xs both.1)

effect_takes : Takes effect (IsListOf IsAction) (λ xs. fits_effect xs ≡ true)
effect_takes l xs ws rest fit at h = list_takes action IsAction FitsAction action_takes longest_list l xs ws rest (λ few. few, all_true fits_action xs fit) at h

row_takes : Takes row (IsListOf IsInteger) Any
row_takes l xs ws rest fit at h = list_takes integer IsInteger Any (λ m x vs us fine here is. (integer_takes m x vs us here is).0) longest_list l xs ws rest (any_list xs) at h

-- members, positions and scenes
member_takes : Takes member IsMember (λ x. fits_member x ≡ true)
unfolding member sign_of
member_takes l x ws rest fit at (few, a, b, c, opens, referred, slotted, close) =
    let s = first l ws a kind.OpenParenthesis (40 ∷ []) sign.OpenParenthesis at opens refl in
    let r = reference_takes s.rest x.object a b s.at referred in
    let g = listed_read effect (IsListOf IsAction) (λ xs. fits_effect xs ≡ true) effect_takes longest_list [] x.slots r.0.rest b c rest few (all_true fits_effect x.slots fit) r.0.at slotted close in
    record {
      head = record { sign = sign.OpenParenthesis; start = s.start; text = 40 ∷ [] };
      behind = s.rest;
      first = s.first;
      rest = g.rest;
      is = then_is (next s.rest) _ _ (x, g.rest) r.0.first
          (then_is (reference r.0.head r.0.behind) _ _ (x, g.rest) r.0.is
          (then_is (listed effect longest_list [] r.0.rest) _ _ (x, g.rest) g.is refl));
      at = g.at;
      no_close = refl;
    }

no_slots : (xs : List (List Action)) → (length xs == 0) ≡ true → xs ≡ []
no_slots [] h = refl
no_slots (x ∷ xs) h = absurd (never (suc (length xs)) (omega arith) h)
  where
    never : (n : ℕ) → 0 < n → (n == 0) ≡ true → ⊥
    never n some none = grind (arith, nat_tests)

list_item_takes : Takes list_item IsMember (λ x. is_list_item x ≡ true)
unfolding list_item sign_of
list_item_takes l x ws rest fit at (few, a, b, c, opens, referred, slotted, close) =
    let none : x.slots ≡ [] = no_slots x.slots fit in
    let same : b ≡ c = subst (λ xs. AreSeveral (IsListOf IsAction) xs b c) none slotted in
    let s = first l ws a kind.OpenParenthesis (40 ∷ []) sign.OpenParenthesis at opens refl in
    let r = reference_takes s.rest x.object a b s.at referred in
    let g = close_read r.0.rest c rest (subst (StandsAt r.0.rest) same r.0.at) close in
    let whole : record { object = x.object; slots = [] } ≡ x = ap (λ (xs : List (List Action)). record { object = x.object; slots = xs }) (sym none) in
    record {
      head = record { sign = sign.OpenParenthesis; start = s.start; text = 40 ∷ [] };
      behind = s.rest;
      first = s.first;
      rest = g.rest;
      is = then_is (next s.rest) _ _ (x, g.rest) r.0.first
          (then_is (reference r.0.head r.0.behind) _ _ (x, g.rest) r.0.is
          (then_is (closed r.0.rest) _ g.rest (x, g.rest) g.is (ap (λ (y : Member). Ok (y, g.rest)) whole)));
      at = g.at;
      no_close = refl;
    }

position_takes : Takes position IsPosition Any
unfolding position sign_of
position_takes l z ws rest fit at (a, b, c, opens, first_is, second_is, close) =
    let s = first l ws a kind.OpenParenthesis (40 ∷ []) sign.OpenParenthesis at opens refl in
    let x = integer_one z.x s.rest a b s.at first_is in
    let y = integer_one z.y x.behind b c x.at second_is in
    let g = close_read y.behind c rest y.at close in
    record {
      head = record { sign = sign.OpenParenthesis; start = s.start; text = 40 ∷ [] };
      behind = s.rest;
      first = s.first;
      rest = g.rest;
      is = then_is (next s.rest) _ _ (z, g.rest) x.first
          (then_is (integer_of x.head) _ z.x (z, g.rest) x.is
          (then_is (next x.behind) _ _ (z, g.rest) y.first
          (then_is (integer_of y.head) _ z.y (z, g.rest) y.is
          (then_is (closed y.behind) _ g.rest (z, g.rest) g.is refl))));
      at = g.at;
      no_close = refl;
    }

next_scene_takes : Takes next_scene IsNextScene Any
unfolding next_scene sign_of
next_scene_takes l z ws rest fit at (a, b, c, opens, named, weighed, close) =
    let s = first l ws a kind.OpenParenthesis (40 ∷ []) sign.OpenParenthesis at opens refl in
    let t = first s.rest a b kind.Text (34 ∷ (z.name ++ 34 ∷ [])) sign.Text s.at named refl in
    let y = integer_one z.weight t.rest b c t.at weighed in
    let g = close_read y.behind c rest y.at close in
    record {
      head = record { sign = sign.OpenParenthesis; start = s.start; text = 40 ∷ [] };
      behind = s.rest;
      first = s.first;
      rest = g.rest;
      is = then_is (next s.rest) _ _ (z, g.rest) t.first
          (then_is (name_of (record { sign = sign.Text; start = t.start; text = 34 ∷ (z.name ++ 34 ∷ []) })) _ z.name (z, g.rest) (name_is t.start z.name t.word)
          (then_is (next t.rest) _ _ (z, g.rest) y.first
          (then_is (integer_of y.head) _ z.weight (z, g.rest) y.is
          (then_is (closed y.behind) _ g.rest (z, g.rest) g.is refl))));
      at = g.at;
      no_close = refl;
    }

-- values of one token
natural_low : (x : ℤ) → is_natural x ≡ true → int_lt x (pos 0) ≡ false
natural_low (pos n) h =
    let none : nat_lt n 0 ≡ false = grind (arith, nat_tests) in
    none
natural_low (negsuc n) h = absurd cc

fixed_is : (wanted : ℤ) (start : ℕ) (text : List ℕ) (x : ℤ) → int_eq x wanted ≡ true → fixed_of wanted (record { sign = sign.Integer x; start = start; text = text }) ≡ Ok x
unfolding fixed_of integer_of
fixed_is wanted start text x h = rw h refl

field_length_is : (start : ℕ) (text : List ℕ) (x : ℤ) → is_field_length x ≡ true → field_length_of (record { sign = sign.Integer x; start = start; text = text }) ≡ Ok x
unfolding field_length_of integer_of
field_length_is start text x h = ap (λ (b : Bool). if b then Ok x else refused_at why.Range (record { sign = sign.Integer x; start = start; text = text })) h

-- two integers
abbrev FitsPart : Shape → ℤ → ℤ → Type 0
FitsPart s screen x = (start : ℕ) (text : List ℕ) → part s screen (record { sign = sign.Integer x; start = start; text = text }) ≡ Ok x

pair_takes : (s : Shape) (x y : ℤ) (l : Left) (ws rest : List Written) → FitsPart s (pos 720) x → FitsPart s (pos 576) y → StandsAt l ws → IsSetting (of_setting.Pair x y) ws rest
    → Begun l (pair s) (of_setting.Pair x y) rest
unfolding pair
pair_takes s x y l ws rest fx fy at (a, hx, hy) =
    let p = number_one (part s (pos 720)) x l ws a at hx fx in
    let q = number_one (part s (pos 576)) y p.behind a rest p.at hy fy in
    record {
      head = p.head;
      behind = p.behind;
      first = p.first;
      rest = q.behind;
      is = then_is (part s (pos 720) p.head) _ x (of_setting.Pair x y, q.behind) p.is
          (then_is (next p.behind) _ _ (of_setting.Pair x y, q.behind) q.first
          (then_is (part s (pos 576) q.head) _ y (of_setting.Pair x y, q.behind) q.is refl));
      at = q.at;
      no_close = p.plain.0;
    }

at_most : (n m : ℕ) → nat_le n m ≡ true → n ≤ m
at_most n m h = grind (arith, nat_tests)

setting_takes : (s : Shape) → Takes (setting_at s) IsSetting (λ x. fits s x ≡ true)
unfolding setting_at single several part
setting_takes shape.Bool l (of_setting.Bool b) ws rest fit at h =
    alone_taken (λ p. truth_of p >>= λ y. Ok (of_setting.Bool y)) (of_setting.Bool b) l rest (one_made of_setting.Bool truth_of b l rest (truth_one b l ws rest at h))
setting_takes shape.Int l (of_setting.Int x) ws rest fit at h =
    alone_taken (λ p. integer_of p >>= λ y. Ok (of_setting.Int y)) (of_setting.Int x) l rest (one_made of_setting.Int integer_of x l rest (integer_one x l ws rest at h))
setting_takes shape.Natural l (of_setting.Int x) ws rest fit at h =
    alone_taken (λ p. natural_of p >>= λ y. Ok (of_setting.Int y)) (of_setting.Int x) l rest (one_made of_setting.Int natural_of x l rest (number_one natural_of x l ws rest at h (λ start text. natural_is start text x (natural_low x fit))))
setting_takes shape.Length l (of_setting.Int x) ws rest fit at h =
    alone_taken (λ p. field_length_of p >>= λ y. Ok (of_setting.Int y)) (of_setting.Int x) l rest (one_made of_setting.Int field_length_of x l rest (number_one field_length_of x l ws rest at h (λ start text. field_length_is start text x fit)))
setting_takes shape.Pair l (of_setting.Pair x y) ws rest fit at h = pair_takes shape.Pair x y l ws rest (λ start text. integer_is start text x) (λ start text. integer_is start text y) at h
setting_takes shape.Size l (of_setting.Pair x y) ws rest fit at h =
    let both = and_parts (is_natural x) (is_natural y) fit in
    pair_takes shape.Size x y l ws rest (λ start text. natural_is start text x (natural_low x both.0)) (λ start text. natural_is start text y (natural_low y both.1)) at h
setting_takes shape.Screen l (of_setting.Pair x y) ws rest fit at h =
    let both = and_parts (int_eq x (pos 720)) (int_eq y (pos 576)) fit in
    pair_takes shape.Screen x y l ws rest (λ start text. fixed_is (pos 720) start text x both.0) (λ start text. fixed_is (pos 576) start text y both.1) at h
setting_takes shape.Ref l (of_setting.Ref r) ws rest fit at h = made_taken of_setting.Ref reference r l rest (reference_takes l r ws rest at h).0
setting_takes shape.Event l (of_setting.Event x) ws rest fit at h =
    alone_taken (λ p. event_of p >>= λ y. Ok (of_setting.Event y)) (of_setting.Event x) l rest (one_made of_setting.Event event_of x l rest (event_one x l ws rest at h))
setting_takes shape.Data l (of_setting.Data x) ws rest fit at h =
    alone_taken (λ p. data_of p >>= λ y. Ok (of_setting.Data y)) (of_setting.Data x) l rest (one_made of_setting.Data data_of x l rest (data_one x l ws rest at h))
setting_takes shape.Octets l (of_setting.Octets o) ws rest fit at h =
    alone_taken (λ p. octets_of p >>= λ y. Ok (of_setting.Octets y)) (of_setting.Octets o) l rest (one_made of_setting.Octets octets_of o l rest (octets_one o l ws rest at h))
setting_takes shape.Colour l (of_setting.Colour c) ws rest fit at h =
    alone_taken (λ p. colour_of p >>= λ y. Ok (of_setting.Colour y)) (of_setting.Colour c) l rest (one_made of_setting.Colour colour_of c l rest (colour_one c l ws rest at h))
setting_takes shape.Content l (of_setting.Content x) ws rest fit at h = made_taken of_setting.Content content x l rest (content_takes l x ws rest at h).0
setting_takes shape.ContentRef l (of_setting.ContentRef n) ws rest fit at h = made_taken of_setting.ContentRef content_name n l rest (content_name_takes l n ws rest at h).0
setting_takes shape.Justification l (of_setting.Justification j) ws rest fit at h =
    alone_taken (λ p. justification_of p >>= λ y. Ok (of_setting.Justification y)) (of_setting.Justification j) l rest (one_made of_setting.Justification justification_of j l rest (justification_one j l ws rest at h))
setting_takes shape.Effect l (of_setting.Effect xs) ws rest fit at h = made_taken of_setting.Effect effect xs l rest (effect_takes l xs ws rest fit at h)
setting_takes shape.MovementTable l (of_setting.MovementTable xs) ws rest fit at h =
    made_taken of_setting.MovementTable (list row longest_list) xs l rest (list_takes row (IsListOf IsInteger) Any row_takes longest_list l xs ws rest (any_list xs) at h)
setting_takes shape.Members l (of_setting.Members xs) ws rest fit at h =
    made_taken of_setting.Members (list member longest_list) xs l rest (list_takes member IsMember (λ x. fits_member x ≡ true) member_takes longest_list l xs ws rest (λ few. few, all_true fits_member xs fit) at h)
setting_takes shape.ListItems l (of_setting.Members xs) ws rest fit at h =
    let both = and_parts (nat_le (length xs) 256) (list_all is_list_item xs) fit in
    made_taken of_setting.Members (list list_item 256) xs l rest
    (list_takes list_item IsMember (λ x. is_list_item x ≡ true) list_item_takes 256 l xs ws rest (λ few. at_most (length xs) 256 both.0, all_true is_list_item xs both.1) at h)
setting_takes shape.Positions l (of_setting.Positions xs) ws rest fit at h =
    made_taken of_setting.Positions (list position longest_list) xs l rest (list_takes position IsPosition Any position_takes longest_list l xs ws rest (any_list xs) at h)
setting_takes shape.NextScenes l (of_setting.NextScenes xs) ws rest fit at h =
    made_taken of_setting.NextScenes (list next_scene longest_list) xs l rest (list_takes next_scene IsNextScene Any next_scene_takes longest_list l xs ws rest (any_list xs) at h)
setting_takes _ l _ ws rest fit at h = absurd cc

pub setting_read : (s : Shape) (x : Setting) (l : Left) (ws rest : List Written) → fits s x ≡ true → StandsAt l ws → IsSetting x ws rest → Reads (setting s l) x rest
unfolding setting
setting_read s x l ws rest fit at h =
    let b = setting_takes s l x ws rest fit at h in
    record { rest = b.rest; is = then_is (next l) _ _ (x, b.rest) b.first b.is; at = b.at }
