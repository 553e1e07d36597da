-- Lists of words: of classes, kinds, actions and operators.
use Rattle.std.specs.Prelude.{ℕ, ◌==◌, ◌||◌, Bool, if◌then◌else◌, List, [], ◌∷◌, ◌++◌, codes}
use Rattle.mh_base.specs.Kinds.{kinds}
use Rattle.mh_base.specs.declared.value.Kind.{Kind}
use Rattle.mh_base.specs.declared.value.Kind.TheVariants as kind
use Rattle.mh_group.specs.declared.action_name.ActionName.{ActionName}
use Rattle.mh_group.specs.declared.class.Class.{Class}
use Rattle.mh_group.specs.Table.{admits}
use Rattle.mh_group.specs.Words.{action_word, actions, class_word, classes}
use Rattle.mh_model.specs.declared.operator.Operator.{Operator}
use Rattle.mh_model.specs.declared.operator.Operator.TheVariants as operator
use Rattle.mh_model.specs.Variables.{compares}
use Rattle.mh_cause.specs.declared.passing.Passing.{Passing}
use Rattle.mh_cause.specs.declared.passing.Wanted.{Wanted}
use Rattle.mh_cause.specs.Passing.{is_wanted, passes}

-- a word with its article

abbrev pub is_vowel : ℕ → Bool
is_vowel b = (((b == 65 || b == 69) || b == 73) || b == 79) || b == 85

abbrev pub article : List ℕ → List ℕ
article [] = codes "a "
article (b ∷ bs) = if is_vowel b then codes "an " else codes "a "

unfoldable pub with_article : Class → List ℕ
with_article c = article (class_word c) ++ class_word c

-- those of the classes that are wanted, with words in front of the first
abbrev pub classes_from : List ℕ → Wanted → List Class → List ℕ
classes_from front w [] = []
classes_from front w (c ∷ cs) =
    if is_wanted w c then front ++ with_article c ++ classes_from (codes ", ") w cs else classes_from front w cs

unfoldable pub classes_told : Wanted → List ℕ
classes_told w = classes_from [] w classes

-- the actions that are done to objects of the class, with words in front of the first
abbrev pub actions_from : List ℕ → Class → List ActionName → List ℕ
actions_from front c [] = []
actions_from front c (a ∷ more) =
    if admits c a then front ++ action_word a ++ actions_from (codes ", ") c more else actions_from front c more

unfoldable pub actions_told : Class → List ℕ
actions_told c = actions_from [] c actions

unfoldable pub kind_told : Kind → List ℕ
kind_told kind.Bool = codes "a truth value"
kind_told kind.Int = codes "an integer"
kind_told kind.Octets = codes "an octet string"
kind_told kind.Object = codes "a reference"
kind_told kind.Content = codes "the name of a file"

-- the word for several of a kind
unfoldable pub kinds_counted : Kind → List ℕ
kinds_counted kind.Bool = codes " truth values"
kinds_counted kind.Int = codes " integers"
kinds_counted kind.Octets = codes " octet strings"
kinds_counted kind.Object = codes " references"
kinds_counted kind.Content = codes " names of files"

abbrev pub kinds_from : List ℕ → Passing → List Kind → List ℕ
kinds_from front p [] = []
kinds_from front p (k ∷ ks) =
    if passes p k then front ++ kind_told k ++ kinds_from (codes " or ") p ks else kinds_from front p ks

unfoldable pub kinds_told : Passing → List ℕ
kinds_told p = kinds_from [] p kinds

unfoldable pub operator_told : Operator → List ℕ
operator_told operator.Equal = codes "1 (equal)"
operator_told operator.NotEqual = codes "2 (not equal)"
operator_told operator.Less = codes "3 (less)"
operator_told operator.LessOrEqual = codes "4 (less or equal)"
operator_told operator.Greater = codes "5 (greater)"
operator_told operator.GreaterOrEqual = codes "6 (greater or equal)"

abbrev pub operators : List Operator
operators =
    operator.Equal ∷ operator.NotEqual ∷ operator.Less ∷ operator.LessOrEqual ∷ operator.Greater ∷ operator.GreaterOrEqual ∷ []

abbrev pub operators_from : List ℕ → Kind → List Operator → List ℕ
operators_from front k [] = []
operators_from front k (o ∷ os) =
    if compares k o then front ++ operator_told o ++ operators_from (codes " or ") k os else operators_from front k os

-- the operators by which values of the kind are compared
unfoldable pub operators_told : Kind → List ℕ
operators_told k = operators_from [] k operators
