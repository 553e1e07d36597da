-- How the action of a refusal comes to the object that is wrong: through a variable, or since it is itself a variable through which the
-- action goes.
use Rattle.std.specs.Prelude.{ℕ, ◌-◌, ◌==◌, ◌&&◌, ◌||◌, Bool, if◌then◌else◌, List, [], ◌∷◌, ◌++◌, length, slice_get, codes, Option}
use Rattle.std.specs.Fmt.{decimal}
use Rattle.std.specs.List.{list_any}
use Rattle.std.specs.Option.{option_map_or}
use Rattle.std.specs.Str.{bytes_eq}
use Rattle.mh_base.specs.declared.obj_ref.ObjRef.{ObjRef}
use Rattle.mh_flow.specs.declared.chain.link.Link.{Link}
use Rattle.mh_text.specs.Landmarks.{Through, variables_at}
use Rattle.mh_text.specs.declared.mark.Mark.{Mark}
use Rattle.mh_text.specs.Marks.{mark_of}
use Rattle.mh_why.specs.declared.explanation.through.TheConstants.{REACHES_IT, REACHES_BY_ONE, GOES_THROUGH_IT}
use Rattle.mh_why.specs.LineWords.{first_word, behind_first, last_word, before_last}
use Rattle.mh_why.specs.Sources.{Source, by_number, by_numbers, in_source, is_marked, more_variables, through_path, variable_words}
use Rattle.mh_why.specs.Spots.{Spot, spot}
use Rattle.mh_why.specs.Wrapping.{paragraph}

-- the variables through which the action of this name goes, if it stands there
abbrev pub variables_if_marked : List ℕ → Source → Mark → List Through
variables_if_marked word s m = if is_marked word m then variables_at s.text m.start else []

abbrev pub variables_numbered : List ℕ → ℕ → ℕ → Source → List Through
variables_numbered word object index s = option_map_or (variables_if_marked word s) (mark_of s.marks object index) []

-- a variable and others, behind these words
abbrev pub several : List ℕ → List ℕ → Through → List Through → List ℕ
several front from t ts = paragraph (front ++ variable_words from t ++ more_variables from ts ++ codes ".")

-- what a variable holds is reached through one of these

abbrev pub reaches : List Through → List ℕ
reaches [] = REACHES_IT.now
reaches (t ∷ ts) = REACHES_BY_ONE.now

abbrev pub reached_by : List ℕ → List Through → List ℕ
reached_by from [] = []
reached_by from (t ∷ ts) = several (reaches ts) from t ts

-- the text names this variable
abbrev pub is_variable : List ℕ → List ℕ → ℕ → Through → Bool
is_variable from group number t = t.number == number && bytes_eq (through_path from t.name) group

abbrev pub own_text : List ℕ → List Through → List ℕ → ℕ → List ℕ
own_text from ts group number = if list_any (is_variable from group number) ts then paragraph GOES_THROUGH_IT.now else []

-- a refusal with this number is told of what a variable or a list holds
abbrev pub is_held : List ℕ → Bool
is_held number = bytes_eq number (codes "V4") || bytes_eq number (codes "V5")

-- by the variables of the action, behind a refusal with this number, of the object with these words
abbrev pub through_by : List ℕ → List ℕ → List ℕ → List Through → List ℕ
through_by number words from ts =
    if is_held number then reached_by from ts else by_number (own_text from ts (before_last words)) (last_word words)

abbrev pub through_numbered : List ℕ → List ℕ → ℕ → ℕ → Source → List ℕ
through_numbered refusal words object index s =
    through_by (first_word refusal) words s.name (variables_numbered (last_word refusal) object index s)

abbrev pub through_at : List Source → List ℕ → List ℕ → Spot → List ℕ
through_at ss refusal words s = by_numbers (λ object index. in_source (through_numbered refusal words object index) ss s.group) s.object s.index

unfoldable pub held_words : ObjRef → List ℕ
held_words r = codes "variable " ++ decimal r.number ++ codes " of " ++ r.group

-- the variable that holds it, by the chain that brought it; a member is held by its list
abbrev pub holder_text : List ℕ → Link → List ℕ
holder_text refusal l =
    if bytes_eq (last_word refusal) (codes "-") then [] else paragraph (REACHES_IT.now ++ held_words l.written ++ codes ".")

-- the last link of a chain, if it is known
abbrev pub last_link : List Link → Option Link
last_link ls = slice_get ls (length ls - 1)

unfoldable pub through_told : List Source → List Link → List ℕ → List ℕ → List ℕ
through_told ss chain refusal words =
    option_map_or (holder_text refusal) (last_link chain) (through_at ss refusal words (spot (before_last (behind_first refusal))))
