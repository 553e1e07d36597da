-- Content, as values: what an action gives, what an object holds, and what is told by a value.
use Rattle.std.specs.Prelude.{if◌then◌else◌, List, [], ◌∷◌, Option, Some, None}
use Rattle.mh_base.specs.declared.value.Value.{Value}
use Rattle.mh_model.specs.Files.{is_loadable}

-- what becomes content, of the values of an action that loads: one value, if it can
abbrev pub new_content : List Value → Option Value
new_content (v ∷ []) = if is_loadable v then Some v else None
new_content vs = None
