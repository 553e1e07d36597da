-- Resident programs: their names and parameters, how a call fits them, and what the six answer that each engine has.
use Rattle.std.specs.Prelude.{ℕ, suc, codes, nat_le, ◌+◌, ◌-◌, ◌/◌, ◌%◌, Bool, true, false, ◌&&◌, if◌then◌else◌, List, [], ◌∷◌, ◌++◌, length, take, drop, Option, Some, None, ℤ, pos, negsuc, ◌+ℤ◌}
use Rattle.std.specs.Int.{int_rem_euclid}
use Rattle.std.specs.List.{find}
use Rattle.std.specs.Option.{option_map, option_or}
use Rattle.std.specs.Str.{bytes_eq}
use Rattle.mh_base.specs.declared.obj_ref.ObjRef.{ObjRef}
use Rattle.mh_base.specs.declared.value.Kind.{Kind}
use Rattle.mh_base.specs.declared.value.Kind.TheVariants as kind
use Rattle.mh_base.specs.declared.value.Value.{Value}
use Rattle.mh_base.specs.declared.value.Value.TheVariants as value
use Rattle.mh_model.specs.declared.act.Argument.{Argument}
use Rattle.mh_model.specs.declared.act.Argument.TheVariants as argument
use Rattle.mh_model.specs.declared.program.Plain.{Plain}
use Rattle.mh_model.specs.declared.program.Plain.TheVariants as plain
use Rattle.mh_model.specs.declared.program.Param.{Param}
use Rattle.mh_model.specs.declared.program.Param.TheVariants as param
use Rattle.mh_model.specs.declared.program.Signature.{Signature}
use Rattle.mh_model.specs.declared.program.Now.{Now}
use Rattle.mh_model.specs.declared.program.Outcome.{Outcome}
use Rattle.mh_model.specs.declared.program.Outcome.TheVariants as outcome
use Rattle.mh_model.specs.declared.program.Builtin.{Builtin}
use Rattle.mh_model.specs.declared.program.Builtin.TheVariants as builtin
use Rattle.mh_model.specs.Variables.{kind_of}

abbrev pub kind_in : Plain → Kind
kind_in plain.Bool = kind.Bool
kind_in plain.Int = kind.Int
kind_in plain.Octets = kind.Octets

-- Names. Those of the built-in programs go before all others, and of two that are the same the first counts.

abbrev pub word : Builtin → List ℕ
word builtin.CurrentDate = codes "GCD"
word builtin.DayOfWeek = codes "GDW"
word builtin.StringLength = codes "GSL"
word builtin.Substring = codes "GSS"
word builtin.ExtractSubstring = codes "SES"
word builtin.SearchSubstring = codes "SSS"

abbrev pub builtins : List Builtin
builtins =
    builtin.CurrentDate ∷ builtin.DayOfWeek ∷ builtin.StringLength ∷ builtin.Substring ∷ builtin.ExtractSubstring
    ∷ builtin.SearchSubstring
    ∷ []

abbrev pub builtin_named : List ℕ → Option Builtin
builtin_named name = find (λ b. bytes_eq name (word b)) builtins

abbrev pub params_of : Builtin → List Param
params_of builtin.CurrentDate = param.Out plain.Int ∷ param.Out plain.Int ∷ []
params_of builtin.DayOfWeek = param.In plain.Int ∷ param.Out plain.Int ∷ []
params_of builtin.StringLength = param.In plain.Octets ∷ param.Out plain.Int ∷ []
params_of builtin.Substring =
    param.In plain.Octets ∷ param.In plain.Int ∷ param.In plain.Int ∷ param.Out plain.Octets ∷ []
params_of builtin.ExtractSubstring =
    param.In plain.Octets ∷ param.In plain.Int ∷ param.In plain.Octets ∷ param.Out plain.Octets ∷ param.Out plain.Int ∷ []
params_of builtin.SearchSubstring =
    param.In plain.Octets ∷ param.In plain.Int ∷ param.In plain.Octets ∷ param.Out plain.Int ∷ []

-- the parameters of the program with this name, where these stand beside the built-in ones
abbrev pub params_for : List Signature → List ℕ → Option (List Param)
params_for ss name =
    option_or (option_map params_of (builtin_named name))
    (option_map (λ s. s.params) (find (λ s. bytes_eq name s.name) ss))

-- Calls. A value goes in as it is written, or through a variable that is written with its kind; what comes out goes
-- into such a variable.

abbrev pub same_plain : Plain → Kind → Bool
same_plain plain.Bool kind.Bool = true
same_plain plain.Int kind.Int = true
same_plain plain.Octets kind.Octets = true
same_plain p k = false

abbrev pub fits_param : Param → Argument → Bool
fits_param (param.In p) (argument.Direct v) = same_plain p (kind_of v)
fits_param (param.In p) (argument.Through v (Some k)) = same_plain p k
fits_param (param.Out p) (argument.Through v (Some k)) = same_plain p k
fits_param p x = false

abbrev pub fits_params : List Param → List Argument → Bool
fits_params [] [] = true
fits_params (p ∷ ps) (x ∷ xs) = fits_param p x && fits_params ps xs
fits_params ps xs = false

-- what goes in
abbrev pub ins : List Param → List Argument → List Argument
ins (param.In p ∷ ps) (x ∷ xs) = x ∷ ins ps xs
ins (param.Out p ∷ ps) (x ∷ xs) = ins ps xs
ins ps xs = []

-- the variable that is written
abbrev pub variable_of : Argument → List ObjRef
variable_of (argument.Through v k) = v ∷ []
variable_of x = []

-- the variables that receive what comes out
abbrev pub outs : List Param → List Argument → List ObjRef
outs (param.In p ∷ ps) (x ∷ xs) = outs ps xs
outs (param.Out p ∷ ps) (x ∷ xs) = variable_of x ++ outs ps xs
outs ps xs = []

-- what the variables of a call are given: whether it went well, and then what it answered
abbrev pub said_by : Outcome → List Value
said_by (outcome.Answered vs) = value.Bool true ∷ vs
said_by outcome.Failed = value.Bool false ∷ []

-- The built-in programs. Octets are counted from 1, and a place before the first is the first.

-- a count as a number of 32 bits, the largest where it is larger
abbrev pub counted : ℕ → ℤ
counted n = if nat_le n 2147483647 then pos n else pos 2147483647

-- how many octets stand in front of a place
abbrev pub in_front : ℤ → ℕ
in_front (pos n) = n - 1
in_front (negsuc n) = 0

-- how many octets there are up to a place
abbrev pub up_to : ℤ → ℕ
up_to (pos n) = n
up_to (negsuc n) = 0

-- from one place to another
abbrev pub substring : List ℕ → ℤ → ℤ → List ℕ
substring os begin end = drop (in_front begin) (take (up_to end) os)

-- how many octets stand in front of the first place at which the searched ones do
abbrev pub searched : List ℕ → List ℕ → Option ℕ
searched what [] = None
searched what (c ∷ cs) =
    if bytes_eq (take (length what) (c ∷ cs)) what then Some 0 else option_map suc (searched what cs)

-- the same from a place on
abbrev pub searched_from : List ℕ → ℤ → List ℕ → Option ℕ
searched_from os start what = searched what (drop (in_front start) os)

-- the place so many octets behind another one, or -1
abbrev pub place_of : ℤ → Option ℕ → ℤ
place_of start None = negsuc 0
place_of start (Some n) = counted (in_front start + n + 1)

-- what stands in front of the target, and the place behind it
abbrev pub extracted : List ℕ → ℤ → List ℕ → Option ℕ → List Value
extracted os start what None = value.Octets (drop (in_front start) os) ∷ value.Int (negsuc 0) ∷ []
extracted os start what (Some n) =
    value.Octets (take n (drop (in_front start) os)) ∷ value.Int (counted (in_front start + n + length what + 1)) ∷ []

-- the day, and the seconds since it began

abbrev pub day_of : Now → ℕ
day_of now = now.mjd + now.moment / 86400000

abbrev pub seconds_of : Now → ℕ
seconds_of now = now.moment / 1000 % 86400

-- 0 is Sunday
abbrev pub weekday : ℤ → ℤ
weekday day = int_rem_euclid (day +ℤ pos 3) (pos 7)

abbrev pub answer : Builtin → Now → List Value → List Value
answer builtin.CurrentDate now vs = value.Int (counted (day_of now)) ∷ value.Int (counted (seconds_of now)) ∷ []
answer builtin.DayOfWeek now (value.Int day ∷ []) = value.Int (weekday day) ∷ []
answer builtin.StringLength now (value.Octets os ∷ []) = value.Int (counted (length os)) ∷ []
answer builtin.Substring now (value.Octets os ∷ value.Int begin ∷ value.Int end ∷ []) =
    value.Octets (substring os begin end) ∷ []
answer builtin.ExtractSubstring now (value.Octets os ∷ value.Int start ∷ value.Octets what ∷ []) =
    extracted os start what (searched_from os start what)
answer builtin.SearchSubstring now (value.Octets os ∷ value.Int start ∷ value.Octets what ∷ []) =
    value.Int (place_of start (searched_from os start what)) ∷ []
answer b now vs = []

-- what comes of a call: a built-in program answers, and another one has said what comes of it
abbrev pub outcome_of : Option Builtin → Outcome → Now → List Value → Outcome
outcome_of None said now vs = said
outcome_of (Some b) said now vs = outcome.Answered (answer b now vs)
