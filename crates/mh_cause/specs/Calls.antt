-- Calls of programs that do not fit (V9).
use Rattle.std.specs.Prelude.{ℕ, ◌+◌, ◌==◌, Bool, false, if◌then◌else◌, List, [], ◌∷◌, ◌++◌, codes, Option, Some, None}
use Rattle.std.specs.Fmt.{decimal}
use Rattle.std.specs.List.{find}
use Rattle.mh_base.specs.declared.value.Kind.{Kind}
use Rattle.mh_misread.specs.Likeness.{is_like}
use Rattle.mh_model.specs.declared.act.Act.{Act}
use Rattle.mh_model.specs.declared.act.Argument.{Argument}
use Rattle.mh_model.specs.declared.act.Argument.TheVariants as argument
use Rattle.mh_model.specs.declared.object.Fixed.{Fixed}
use Rattle.mh_model.specs.declared.program.Builtin.{Builtin}
use Rattle.mh_model.specs.declared.program.Builtin.TheVariants as builtin
use Rattle.mh_model.specs.declared.program.Param.{Param}
use Rattle.mh_model.specs.declared.program.Param.TheVariants as param
use Rattle.mh_model.specs.Faults.{passed}
use Rattle.mh_model.specs.Known.{program_name}
use Rattle.mh_model.specs.Programs.{builtins, kind_in, params_for, params_of, same_plain, word}
use Rattle.mh_model.specs.Service.{Service, group_parts}
use Rattle.mh_model.specs.Variables.{kind_of}
use Rattle.mh_cause.specs.declared.phrases.TheConstants as told
use Rattle.mh_cause.specs.Acts.{act_of, numbered}
use Rattle.mh_cause.specs.Lists.{kind_told, kinds_counted}
use Rattle.mh_cause.specs.Refusing.{Refused}

-- so many values of a kind
abbrev pub counted : ℕ → Kind → List ℕ
counted n k = if n == 1 then kind_told k else decimal n ++ kinds_counted k

abbrev pub param_words : ℕ → Param → List ℕ
param_words n (param.In p) = codes "takes " ++ counted n (kind_in p)
param_words n (param.Out p) = codes "gives " ++ counted n (kind_in p)

abbrev pub same_param : Param → Param → Bool
same_param (param.In p) (param.In q) = same_plain p (kind_in q)
same_param (param.Out p) (param.Out q) = same_plain p (kind_in q)
same_param p q = false

-- so many parameters of one sort, and those behind them; those of one sort that stand side by side are told as one
abbrev pub params_from : List ℕ → ℕ → Param → List Param → List ℕ
params_from front n p [] = front ++ param_words n p
params_from front n p (q ∷ qs) =
    if same_param p q then params_from front (n + 1) p qs else front ++ param_words n p ++ params_from (codes ", ") 1 q qs

abbrev pub params_told : List Param → List ℕ
params_told [] = []
params_told (p ∷ ps) = params_from [] 1 p ps

abbrev pub held_kind : Option Kind → List ℕ
held_kind None = codes "a variable"
held_kind (Some k) = kind_told k ++ codes " in a variable"

abbrev pub argument_words : Argument → List ℕ
argument_words (argument.Direct v) = kind_told (kind_of v)
argument_words (argument.Through v k) = held_kind k
argument_words (argument.Receiver v) = codes "a variable"

abbrev pub arguments_from : List ℕ → List Argument → List ℕ
arguments_from front [] = []
arguments_from front (x ∷ xs) = front ++ argument_words x ++ arguments_from (codes ", ") xs

abbrev pub arguments_told : List Argument → List ℕ
arguments_told [] = codes "nothing"
arguments_told (x ∷ xs) = arguments_from [] (x ∷ xs)

abbrev pub arguments_of : Option Act → List Argument
arguments_of None = []
arguments_of (Some act) = passed act.arguments

abbrev pub or_builtin : Option Builtin → Option Builtin → Option Builtin
or_builtin (Some b) other = Some b
or_builtin None other = other

abbrev pub like_builtin : ℕ → List ℕ → Option Builtin
like_builtin n name = find (λ b. is_like n name (word b)) builtins

-- the program with the name that is most like this one
unfoldable pub near_builtin : List ℕ → Option Builtin
near_builtin name = or_builtin (like_builtin 0 name) (like_builtin 1 name)

unfoldable pub builtin_words : Builtin → List ℕ
builtin_words b = codes "; " ++ word b ++ codes " is, and " ++ params_told (params_of b)

unfoldable pub near_words : Option Builtin → List ℕ
near_words None = []
near_words (Some b) = builtin_words b

unfoldable pub unknown_call : List ℕ → List ℕ
unknown_call name = told.NO_PROGRAM.now ++ name ++ near_words (near_builtin name)

unfoldable pub misfit_call : List ℕ → List Param → List Argument → List ℕ
misfit_call name ps xs = name ++ codes " " ++ params_told ps ++ told.IS_CALLED_WITH.now ++ arguments_told xs

abbrev pub call_of : Service → Refused → List ℕ → Option (List Param) → List ℕ
call_of s r name None = unknown_call name
call_of s r name (Some ps) = misfit_call name ps (arguments_of (act_of s r))

abbrev pub named_call : Service → Refused → Option (List ℕ) → List ℕ
named_call s r None = []
named_call s r (Some name) = call_of s r name (params_for s.programs name)

abbrev pub name_in : Option Fixed → Option (List ℕ)
name_in None = None
name_in (Some p) = program_name p

-- the name of the program that is called
unfoldable pub called_name : Service → Refused → Option (List ℕ)
called_name s r = name_in (numbered r.at.number (group_parts s r.at.group))

abbrev pub call_cause : Service → Refused → List ℕ
call_cause s r = named_call s r (called_name s r)

-- the mend

-- what it is for
unfoldable pub purpose : Builtin → List ℕ
purpose builtin.CurrentDate = codes " (the day and the time)"
purpose builtin.DayOfWeek = codes " (the weekday of a day)"
purpose builtin.StringLength = codes " (the length of a string)"
purpose builtin.Substring = codes " (a part of a string)"
purpose builtin.ExtractSubstring = codes " (what stands in front of a string in another)"
purpose builtin.SearchSubstring = codes " (where a string stands in another)"

abbrev pub words_from : List ℕ → List Builtin → List ℕ
words_from front [] = []
words_from front (b ∷ bs) = front ++ word b ++ purpose b ++ words_from (codes ", ") bs

unfoldable pub builtin_mend : Builtin → List ℕ
builtin_mend b = told.WRITE_NAME.now ++ word b ++ codes "'`"

unfoldable pub any_builtin : List ℕ
any_builtin = told.ONE_OF_PROGRAMS.now ++ words_from [] builtins

abbrev pub near_mend : Option Builtin → List ℕ
near_mend None = any_builtin
near_mend (Some b) = builtin_mend b

abbrev pub call_mend_by : List ℕ → Option (List Param) → List ℕ
call_mend_by name None = near_mend (near_builtin name)
call_mend_by name (Some ps) = told.AS_IT_TAKES.now

abbrev pub named_mend : Service → Option (List ℕ) → List ℕ
named_mend s None = []
named_mend s (Some name) = call_mend_by name (params_for s.programs name)

abbrev pub call_mend : Service → Refused → List ℕ
call_mend s r = named_mend s (called_name s r)
