-- What a line names: an action of an object, or the object alone.
use Rattle.std.specs.Prelude.{ℕ, List, ◌++◌, codes}
use Rattle.mh_why.specs.LineWords.{last_word, before_last}

-- what a line names: a group, and two numbers behind it, of which the first is mostly that of an object and the second that of an action
pub record Spot : Type 0 where
  pub group : List ℕ
  pub object : List ℕ
  pub index : List ℕ

abbrev pub spot : List ℕ → Spot
spot ws = record { group = before_last (before_last ws); object = last_word (before_last ws); index = last_word ws }

-- an object by its group and its number
unfoldable pub object_words : List ℕ → List ℕ → List ℕ
object_words group number = codes "object " ++ number ++ codes " of " ++ group

unfoldable pub action_words : Spot → List ℕ
action_words s = codes "action " ++ s.index ++ codes " of " ++ object_words s.group s.object
