-- Keys by the names that scripts have for them. A service names a key by its number.
use Rattle.std.specs.Prelude.{ℕ, List, Option}
use Rattle.std.specs.List.{find}
use Rattle.mh_model.specs.Key.{keys}
use Rattle.mh_model.specs.declared.key.Key.{Key}
use Rattle.mh_script.specs.Script.{key_name}
use Rattle.mh_misread.specs.Likeness.{is_near}

-- the key with this name; whether letters are small is no matter
unfoldable pub key_named : List ℕ → Option Key
key_named word = find (λ k. is_near word 0 (key_name k)) keys
