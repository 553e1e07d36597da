-- Values of variables: their kinds, how one kind is written as another, and how two are compared.
use Rattle.std.specs.Prelude.{ℕ, ◌==◌, ◌&&◌, Bool, true, false, not, nat_le, if◌then◌else◌, List, [], ◌∷◌, length, Option, Some, None, ℤ, pos, negsuc, neg_ℤ, int_le, int_lt}
use Rattle.std.specs.Fmt.{signed_decimal}
use Rattle.std.specs.List.{list_all}
use Rattle.std.specs.Option.{option_map_or}
use Rattle.std.specs.Ordering.{int_eq}
use Rattle.std.specs.Str.{bytes_eq}
use Rattle.std.specs.Str.Parse.{digits_value}
use Rattle.mh_base.specs.declared.value.Kind.{Kind}
use Rattle.mh_base.specs.declared.value.Kind.TheVariants as kind
use Rattle.mh_base.specs.declared.value.Value.{Value}
use Rattle.mh_base.specs.declared.value.Value.TheVariants as value
use Rattle.mh_group.specs.declared.class.Class.{Class}
use Rattle.mh_group.specs.declared.class.Class.TheVariants as class
use Rattle.mh_model.specs.declared.operator.Operator.{Operator}
use Rattle.mh_model.specs.declared.operator.Operator.TheVariants as operator
use Rattle.mh_model.specs.Reference.{same_ref}
use Rattle.mh_model.specs.Limits.{most_octets}

-- Kinds

-- the kind of the values that a variable of the class holds
abbrev pub variable_kind : Class → Option Kind
variable_kind class.BooleanVar = Some kind.Bool
variable_kind class.IntegerVar = Some kind.Int
variable_kind class.OStringVar = Some kind.Octets
variable_kind class.ObjectRefVar = Some kind.Object
variable_kind class.ContentRefVar = Some kind.Content
variable_kind _ = None

abbrev pub kind_of : Value → Kind
kind_of (value.Bool b) = kind.Bool
kind_of (value.Int n) = kind.Int
kind_of (value.Octets os) = kind.Octets
kind_of (value.Object r) = kind.Object
kind_of (value.Content c) = kind.Content

abbrev pub same_kind : Kind → Kind → Bool
same_kind kind.Bool kind.Bool = true
same_kind kind.Int kind.Int = true
same_kind kind.Octets kind.Octets = true
same_kind kind.Object kind.Object = true
same_kind kind.Content kind.Content = true
same_kind _ _ = false

-- a variable of the one kind can be set to a value of the other: where they are the same, and numbers and
-- octets are written as each other
abbrev pub converts : Kind → Kind → Bool
converts kind.Int kind.Octets = true
converts kind.Octets kind.Int = true
converts to from = same_kind to from

-- Limits

abbrev pub fits_int : ℤ → Bool
fits_int x = int_le (negsuc 2147483647) x && int_le x (pos 2147483647)

abbrev pub fits_octets : List ℕ → Bool
fits_octets os = nat_le (length os) most_octets

-- Numbers in octets: an optional minus, and then one or more decimal digits; anything else, and what is out of
-- range, is 0.

abbrev pub is_digit : ℕ → Bool
is_digit c = nat_le 48 c && nat_le c 57

abbrev pub numeral : List ℕ → Option ℕ
numeral [] = None
numeral (c ∷ cs) = if list_all is_digit (c ∷ cs) then Some (digits_value 10 (c ∷ cs)) else None

abbrev pub ranged : ℤ → ℤ
ranged x = if fits_int x then x else pos 0

abbrev pub number_in : List ℕ → ℤ
number_in [] = pos 0
number_in (c ∷ cs) =
    ranged (if c == 45 then option_map_or (λ n. neg_ℤ (pos n)) (numeral cs) (pos 0)
    else option_map_or (λ n. pos n) (numeral (c ∷ cs)) (pos 0))

-- a value as a variable of the class holds it
abbrev pub converted : Class → Value → Value
converted class.OStringVar (value.Int n) = value.Octets (signed_decimal n)
converted class.IntegerVar (value.Octets os) = value.Int (number_in os)
converted _ v = v

-- Comparing

-- values are the same where their kinds are, too
abbrev pub same_value : Value → Value → Bool
same_value (value.Bool a) (value.Bool b) = if a then b else not b
same_value (value.Int a) (value.Int b) = int_eq a b
same_value (value.Octets a) (value.Octets b) = bytes_eq a b
same_value (value.Object a) (value.Object b) = same_ref a b
same_value (value.Content a) (value.Content b) = bytes_eq a b
same_value _ _ = false

-- the operators of TestVariable, by their numbers
abbrev pub operator_of : ℤ → Option Operator
operator_of n =
    if int_eq n (pos 1) then Some operator.Equal
    else if int_eq n (pos 2) then Some operator.NotEqual
    else if int_eq n (pos 3) then Some operator.Less
    else if int_eq n (pos 4) then Some operator.LessOrEqual
    else if int_eq n (pos 5) then Some operator.Greater
    else if int_eq n (pos 6) then Some operator.GreaterOrEqual
    else None

-- numbers have an order, other values are the same or not
abbrev pub compares : Kind → Operator → Bool
compares k operator.Equal = true
compares k operator.NotEqual = true
compares kind.Int o = true
compares _ o = false

-- the operator, and what a variable of the kind does with it
abbrev pub is_operator : Kind → ℤ → Bool
is_operator k n = option_map_or (compares k) (operator_of n) false

-- what the test says of the value that is held and the one that is given
abbrev pub test : Operator → Value → Value → Bool
test operator.Equal a b = same_value a b
test operator.NotEqual a b = not (same_value a b)
test operator.Less (value.Int a) (value.Int b) = int_lt a b
test operator.LessOrEqual (value.Int a) (value.Int b) = int_le a b
test operator.Greater (value.Int a) (value.Int b) = int_lt b a
test operator.GreaterOrEqual (value.Int a) (value.Int b) = int_le b a
test _ a b = false
