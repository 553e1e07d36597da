-- What is read of a shape fits it: values, parameters, actions, and lists of what fits.
use Rattle.std.proofs.Common.{◌≡◌, ℕ, zero, suc, ◌+◌, ◌≤◌, Bool, true, false, ◌&&◌, nat_le, if◌then◌else◌, List, [], ◌∷◌, ◌++◌, length, Option, Some, None, Result, Ok, Err, ℤ, pos, negsuc, int_lt, refl, sym, ◌∙◌, subst, arith, append_assoc, append-nil, length-append}
use Rattle.std.specs.Ordering.{int_eq}
use Rattle.std.specs.List.{list_all}
use Rattle.std.proofs.lemmas.Bool.{and_parts, and_from}
use Rattle.std.proofs.lemmas.Bool.Decides.{nat_tests}
use Rattle.std.proofs.lemmas.List.Folds.{list_all-append}
use Rattle.mh_base.specs.Reading.{◌>>=◌}
use Rattle.mh_base.specs.Limits.{longest_list}
use Rattle.mh_group.specs.declared.action.Parameter.{Parameter}
use Rattle.mh_group.specs.declared.action.Parameter.TheVariants as of_parameter
use Rattle.mh_group.specs.declared.shape.Shape.{Shape}
use Rattle.mh_group.specs.declared.shape.Shape.TheVariants as shape
use Rattle.mh_group.specs.declared.shape.Need.{Need}
use Rattle.mh_group.specs.declared.shape.Need.TheVariants as need
use Rattle.mh_group.specs.declared.written.Setting.TheVariants as of_setting
use Rattle.mh_group.specs.Table.{needs_of, optional_of}
use Rattle.mh_group.specs.Fit.{fits_parameter, fits_parameters, fits_action, fits_effect, fits_member, is_list_item, is_natural, is_field_length, fits}
use Rattle.mh_text.specs.Rest.{Left, Piece}
use Rattle.mh_text.specs.Gives.{Refusal}
use Rattle.mh_text.specs.Reading.{next, is_open, is_close, opened, closed, closed_list, integer_of, natural_of, field_length_of, fixed_of, truth_of, event_of, justification_of, octets_of, colour_of, data_of, made, alone, truth, integer, octets, event_data, content_name, content, reference, generic, next_member, continued, listed, list, typed, generic_parameter, parameter, parameters, action_name_of, action, effect, row, member, list_item, position, next_scene, single, part, pair, several, setting_at, setting}

-- what a reading gives, where it gives something, is so
abbrev pub Only : {A : Type 0} → (A → Type 0) → Result A Refusal → Type 0
Only Is (Ok x) = Is x
Only Is (Err e) = Unit {0}

-- what a reading gives, apart from what is left, passes the test
abbrev pub Fit : {A : Type 0} → (A → Bool) → Result (A × Left) Refusal → Type 0
Fit good read = Only (λ x. good x.0 ≡ true) read

pub weaker : {A : Type 0} (Was Is : A → Type 0) (read : Result A Refusal) → ((x : A) → Was x → Is x) → Only Was read → Only Is read
weaker Was Is (Ok x) h was = h x was
weaker Was Is (Err e) h was = tt

-- reading goes on
pub after : {A B : Type 0} (Is : B → Type 0) (read : Result A Refusal) (f : A → Result B Refusal) → ((x : A) → Only Is (f x)) → Only Is (read >>= f)
after Is (Ok x) f h = h x
after Is (Err e) f h = tt

-- reading goes on from what is known
pub knowing : {A B : Type 0} (Was : A → Type 0) (Is : B → Type 0) (read : Result A Refusal) (f : A → Result B Refusal) → Only Was read → ((x : A) → Was x → Only Is (f x)) → Only Is (read >>= f)
knowing Was Is (Ok x) f was h = h x was
knowing Was Is (Err e) f was h = tt

-- reading goes on by a test
pub either : {A : Type 0} (Is : A → Type 0) (b : Bool) (yes no : Result A Refusal) → (b ≡ true → Only Is yes) → (b ≡ false → Only Is no) → Only Is (if b then yes else no)
either Is true one other h g = h refl
either Is false one other h g = g refl

made_fits : {A B : Type 0} (good : B → Bool) (f : A → B) (read : Result (A × Left) Refusal) → ((x : A) → good (f x) ≡ true) → Fit good (made f read)
made_fits good f (Ok x) h = h x.0
made_fits good f (Err e) h = tt

made_from : {A B : Type 0} (was : A → Bool) (good : B → Bool) (f : A → B) (read : Result (A × Left) Refusal) → Fit was read → ((x : A) → was x ≡ true → good (f x) ≡ true) → Fit good (made f read)
made_from was good f (Ok x) fit h = h x.0 fit
made_from was good f (Err e) fit h = tt

at_most : (n most : ℕ) → n ≤ most → nat_le n most ≡ true
at_most n most h = grind (arith, nat_tests)

-- integers in their ranges
not_below : (x : ℤ) → int_lt x (pos 0) ≡ false → is_natural x ≡ true
not_below (pos n) h = at_most 0 n (omega arith)
not_below (negsuc n) h = absurd cc

natural_fits : (p : Piece) → Only (λ x. is_natural x ≡ true) (natural_of p)
unfolding natural_of
natural_fits p = after _ (integer_of p) _ (λ x. either _ (int_lt x (pos 0)) _ _ (λ h. tt) (λ h. not_below x h))

field_length_fits : (p : Piece) → Only (λ x. is_field_length x ≡ true) (field_length_of p)
unfolding field_length_of
field_length_fits p = after _ (integer_of p) _ (λ x. either _ (is_field_length x) _ _ (λ h. h) (λ h. tt))

fixed_fits : (wanted : ℤ) (p : Piece) → Only (λ x. int_eq x wanted ≡ true) (fixed_of wanted p)
unfolding fixed_of
fixed_fits wanted p = after _ (integer_of p) _ (λ x. either _ (int_eq x wanted) _ _ (λ h. h) (λ h. tt))

-- lists
module _ {A : Type 0} (member : Piece → Left → Result (A × Left) Refusal) (good : A → Bool) (one : (p : Piece) (left : Left) → Fit good (member p left)) where
  abbrev IsMember : Option A → Type 0
  IsMember None = Unit {0}
  IsMember (Some x) = good x ≡ true

  next_fits : (left : Left) → Only (λ x. IsMember x.0) (next_member member left)
  unfolding next_member
  next_fits left = after _ (next left) _ (λ a. either _ (is_close a.0.sign) _ _ (λ h. tt) (λ h. knowing _ _ (member a.0 a.1) _ (one a.0 a.1) (λ x fit. fit)))

  pub record Members (most : ℕ) (xs : List A) : Type 0 where
    pub all : list_all good xs ≡ true
    pub few : length xs ≤ most

  one_more : (done : List A) (x : A) → list_all good done ≡ true → good x ≡ true → list_all good (done ++ x ∷ []) ≡ true
  one_more done x all fit = list_all-append good done (x ∷ []) ∙ and_from _ _ all (and_from _ _ fit refl)

  listed_on : (most : ℕ) (done : List A) (o : Option A) (left : Left) (further : List A → Left → Result (List A × Left) Refusal) → Members most done → IsMember o
      → ((x : A) → good x ≡ true → Only (λ y. Members most y.0) (further (done ++ x ∷ []) left)) → Only (λ y. Members most y.0) (continued further done o left)
  listed_on most done None left further members fit h = members
  listed_on most done (Some x) left further members fit h = h x fit

  pub listed_fit : (most n : ℕ) (done : List A) (left : Left) → list_all good done ≡ true → length done + n ≤ most → Only (λ x. Members most x.0) (listed member n done left)
  unfolding listed
  listed_fit most zero done left all few = after _ (closed_list left) _ (λ behind. record { all = all; few = omega arith })
  listed_fit most (suc n) done left all few =
      knowing _ _ (next_member member left) _ (next_fits left)
      (λ o fit. listed_on most done o.0 o.1 (listed member n) (record { all = all; few = omega arith }) fit
      (λ x is_good. listed_fit most n (done ++ x ∷ []) o.1 (one_more done x all is_good) (omega (arith, length-append done (x ∷ [])))))

  list_few : (most : ℕ) (p : Piece) (left : Left) → Only (λ x. Members most x.0) (list member most p left)
  unfolding list
  list_few most p left = either _ (is_open p.sign) _ _ (λ h. listed_fit most most [] left refl (omega arith)) (λ h. tt)

  pub list_fits : (most : ℕ) (p : Piece) (left : Left) → Fit (list_all good) (list member most p left)
  list_fits most p left = weaker _ _ (list member most p left) (λ x members. members.all) (list_few most p left)

  short_list_fits : (most : ℕ) (p : Piece) (left : Left) → Fit (λ xs. nat_le (length xs) most && list_all good xs) (list member most p left)
  short_list_fits most p left = weaker _ _ (list member most p left) (λ x members. and_from _ _ (at_most (length x.0) most members.few) members.all) (list_few most p left)

-- parameters
generic_parameter_fits : (n : Need) (p : Piece) (left : Left) → Fit (fits_parameter n) (generic_parameter n p left)
unfolding generic_parameter
generic_parameter_fits need.Bool p left = made_fits (fits_parameter need.Bool) of_parameter.Bool (generic truth p left) (λ x. refl)
generic_parameter_fits need.Int p left = made_fits (fits_parameter need.Int) of_parameter.Int (generic integer p left) (λ x. refl)
generic_parameter_fits need.Octets p left = made_fits (fits_parameter need.Octets) of_parameter.Octets (generic octets p left) (λ x. refl)
generic_parameter_fits need.Ref p left = made_fits (fits_parameter need.Ref) of_parameter.Ref (generic reference p left) (λ x. refl)
generic_parameter_fits need.Content p left = made_fits (fits_parameter need.Content) of_parameter.Content (generic content p left) (λ x. refl)
generic_parameter_fits need.Data p left = made_fits (fits_parameter need.Data) of_parameter.Data (generic event_data p left) (λ x. refl)
generic_parameter_fits _ p left = tt

parameter_fits : (n : Need) (p : Piece) (left : Left) → Fit (fits_parameter n) (parameter n p left)
unfolding parameter
parameter_fits need.Event p left = made_fits (fits_parameter need.Event) of_parameter.Event (alone (event_of p) left) (λ x. refl)
parameter_fits (need.Receiver k) p left = made_fits (fits_parameter (need.Receiver k)) of_parameter.Receiver (reference p left) (λ x. refl)
parameter_fits need.Typed p left = made_fits (fits_parameter need.Typed) of_parameter.Typed (typed p left) (λ x. refl)
parameter_fits need.Arguments p left = made_fits (fits_parameter need.Arguments) of_parameter.Arguments (list typed longest_list p left) (λ x. refl)
parameter_fits need.Bool p left = generic_parameter_fits need.Bool p left
parameter_fits need.Int p left = generic_parameter_fits need.Int p left
parameter_fits need.Octets p left = generic_parameter_fits need.Octets p left
parameter_fits need.Ref p left = generic_parameter_fits need.Ref p left
parameter_fits need.Content p left = generic_parameter_fits need.Content p left
parameter_fits need.Data p left = generic_parameter_fits need.Data p left

-- the parameters behind those that came before are what is needed
record Given (optional : ℕ) (ns : List Need) (done xs : List Parameter) : Type 0 where
  new : List Parameter
  same : xs ≡ done ++ new
  fit : fits_parameters optional ns new ≡ true

parameters_fit : (optional : ℕ) (ns : List Need) (done : List Parameter) (left : Left) → Only (λ x. Given optional ns done x.0) (parameters optional ns done left)
parameters_fit optional [] done left = after _ (closed left) _ (λ behind. record { new = []; same = sym (append-nil done); fit = at_most 0 optional (omega arith) })
parameters_fit optional (n ∷ ns) done left =
    after _ (next left) _ (λ a. either _ (nat_le (length (n ∷ ns)) optional && is_close a.0.sign) _ _
    (λ h. record { new = []; same = sym (append-nil done); fit = (and_parts (nat_le (length (n ∷ ns)) optional) (is_close a.0.sign) h).0 })
    (λ h. knowing _ _ (parameter n a.0 a.1) _ (parameter_fits n a.0 a.1)
    (λ x fit. weaker _ _ (parameters optional ns (done ++ x.0 ∷ []) x.1)
    (λ y g. record { new = x.0 ∷ g.new; same = g.same ∙ append_assoc done (x.0 ∷ []) g.new; fit = and_from _ _ fit g.fit })
    (parameters_fit optional ns (done ++ x.0 ∷ []) x.1))))

-- actions
action_fits : (p : Piece) (left : Left) → Fit fits_action (action p left)
unfolding action
action_fits p left =
    after _ (action_name_of p) _ (λ name. after _ (opened left) _ (λ a. after _ (next a) _ (λ b. after _ (generic reference b.0 b.1) _ (λ target.
    knowing _ _ (parameters (optional_of name) (needs_of name) [] target.1) _ (parameters_fit (optional_of name) (needs_of name) [] target.1)
    (λ given g. subst (λ (ps : List Parameter). fits_parameters (optional_of name) (needs_of name) ps ≡ true) (sym g.same) g.fit)))))

effect_fits : (p : Piece) (left : Left) → Fit fits_effect (effect p left)
effect_fits p left = list_fits action fits_action action_fits longest_list p left

member_fits : (p : Piece) (left : Left) → Fit fits_member (member p left)
unfolding member
member_fits p left = either _ (is_open p.sign) _ _
    (λ h. after _ (next left) _ (λ a. after _ (reference a.0 a.1) _ (λ object.
    knowing _ _ (listed effect longest_list [] object.1) _ (listed_fit effect fits_effect effect_fits longest_list longest_list [] object.1 refl (omega arith)) (λ slots members. members.all))))
    (λ h. tt)

list_item_fits : (p : Piece) (left : Left) → Fit is_list_item (list_item p left)
unfolding list_item
list_item_fits p left = either _ (is_open p.sign) _ _
    (λ h. after _ (next left) _ (λ a. after _ (reference a.0 a.1) _ (λ object. after _ (closed object.1) _ (λ behind. refl))))
    (λ h. tt)

-- the values of attributes
single_fits : (s : Shape) (p : Piece) → Only (λ x. fits s x ≡ true) (single s p)
unfolding single
single_fits shape.Bool p = after _ (truth_of p) _ (λ x. refl)
single_fits shape.Int p = after _ (integer_of p) _ (λ x. refl)
single_fits shape.Natural p = knowing _ _ (natural_of p) _ (natural_fits p) (λ x h. h)
single_fits shape.Length p = knowing _ _ (field_length_of p) _ (field_length_fits p) (λ x h. h)
single_fits shape.Event p = after _ (event_of p) _ (λ x. refl)
single_fits shape.Data p = after _ (data_of p) _ (λ x. refl)
single_fits shape.Octets p = after _ (octets_of p) _ (λ x. refl)
single_fits shape.Colour p = after _ (colour_of p) _ (λ x. refl)
single_fits shape.Justification p = after _ (justification_of p) _ (λ x. refl)
single_fits _ p = tt

pair_fits : (p : Piece) (left : Left) → Fit (fits shape.Pair) (pair shape.Pair p left)
unfolding pair
pair_fits p left = after _ (part shape.Pair (pos 720) p) _ (λ x. after _ (next left) _ (λ a. after _ (part shape.Pair (pos 576) a.0) _ (λ y. refl)))

size_fits : (p : Piece) (left : Left) → Fit (fits shape.Size) (pair shape.Size p left)
unfolding pair part
size_fits p left = knowing _ _ (natural_of p) _ (natural_fits p) (λ x w. after _ (next left) _ (λ a. knowing _ _ (natural_of a.0) _ (natural_fits a.0) (λ y h. and_from _ _ w h)))

screen_fits : (p : Piece) (left : Left) → Fit (fits shape.Screen) (pair shape.Screen p left)
unfolding pair part
screen_fits p left = knowing _ _ (fixed_of (pos 720) p) _ (fixed_fits (pos 720) p) (λ x w. after _ (next left) _ (λ a. knowing _ _ (fixed_of (pos 576) a.0) _ (fixed_fits (pos 576) a.0) (λ y h. and_from _ _ w h)))

several_fits : (s : Shape) (p : Piece) (left : Left) → Fit (fits s) (several s p left)
unfolding several
several_fits shape.Effect p left = made_from fits_effect (fits shape.Effect) of_setting.Effect (effect p left) (effect_fits p left) (λ x h. h)
several_fits shape.MovementTable p left = made_fits (fits shape.MovementTable) of_setting.MovementTable (list row longest_list p left) (λ x. refl)
several_fits shape.Members p left = made_from (list_all fits_member) (fits shape.Members) of_setting.Members (list member longest_list p left) (list_fits member fits_member member_fits longest_list p left) (λ x h. h)
several_fits shape.ListItems p left =
    made_from (λ ms. nat_le (length ms) 256 && list_all is_list_item ms) (fits shape.ListItems) of_setting.Members (list list_item 256 p left) (short_list_fits list_item is_list_item list_item_fits 256 p left) (λ x h. h)
several_fits shape.Positions p left = made_fits (fits shape.Positions) of_setting.Positions (list position longest_list p left) (λ x. refl)
several_fits shape.NextScenes p left = made_fits (fits shape.NextScenes) of_setting.NextScenes (list next_scene longest_list p left) (λ x. refl)
several_fits _ p left = tt

setting_at_fits : (s : Shape) (p : Piece) (left : Left) → Fit (fits s) (setting_at s p left)
unfolding setting_at
setting_at_fits shape.Ref p left = made_fits (fits shape.Ref) of_setting.Ref (reference p left) (λ x. refl)
setting_at_fits shape.Pair p left = pair_fits p left
setting_at_fits shape.Size p left = size_fits p left
setting_at_fits shape.Screen p left = screen_fits p left
setting_at_fits shape.Content p left = made_fits (fits shape.Content) of_setting.Content (content p left) (λ x. refl)
setting_at_fits shape.ContentRef p left = made_fits (fits shape.ContentRef) of_setting.ContentRef (content_name p left) (λ x. refl)
setting_at_fits shape.Effect p left = several_fits shape.Effect p left
setting_at_fits shape.MovementTable p left = several_fits shape.MovementTable p left
setting_at_fits shape.Members p left = several_fits shape.Members p left
setting_at_fits shape.ListItems p left = several_fits shape.ListItems p left
setting_at_fits shape.Positions p left = several_fits shape.Positions p left
setting_at_fits shape.NextScenes p left = several_fits shape.NextScenes p left
setting_at_fits s p left = knowing (λ x. fits s x ≡ true) _ (single s p) _ (single_fits s p) (λ x h. h)

pub setting_fits : (s : Shape) (left : Left) → Fit (fits s) (setting s left)
unfolding setting
setting_fits s left = after _ (next left) _ (λ a. setting_at_fits s a.0 a.1)
