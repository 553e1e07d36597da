-- A recorded script is read as what was posted, whatever the service is.
use Rattle.std.specs.Prelude.{◌≡◌, ℕ, ◌<◌, ◌≤◌, true, List, [], ◌∷◌, ◌++◌, length, Option, Some, None, ℤ, pos}
use Rattle.std.specs.List.{flat_map}
use Rattle.hex.specs.Hex.{IsBytes}
use Rattle.mh_base.specs.Path.{is_path}
use Rattle.mh_codec.specs.Tags.{Tags}
use Rattle.mh_group.specs.declared.written.Written.{Written}
use Rattle.mh_model.specs.declared.input.Input.{Input}
use Rattle.mh_model.specs.Late.{written_at}
use Rattle.mh_script.specs.declared.script.Command.{Command}
use Rattle.mh_script.specs.declared.script.Command.TheVariants as command
use Rattle.mh_script.specs.Script.{commands, first_wrong, largest, lines, run_limit}
use Rattle.mh_service.specs.Refusals.{File}
use Rattle.mh_live.specs.declared.post.Post.{Post}
use Rattle.mh_live.specs.declared.post.Post.TheVariants as post
use Rattle.mh_live.specs.Posts.{input_by, is_sayable, opening, recorded}

-- the picture is printed, unless only time has passed
abbrev pub shows : Post → List Command
shows (post.Tick n) = []
shows _ = command.Show ∷ []

abbrev pub posts : Option Input → List Command
posts (Some i) = command.Post i ∷ []
posts None = []

-- an input is posted, and steps are made until nothing is left to do; the file of a scene is that of the service
abbrev pub commands_of : List File → Post → List Command
commands_of files p = posts (input_by files p) ++ command.Step run_limit ∷ shows p

-- what a script can say: numbers that are not too large, paths without spaces, scenes of the service, and octets

abbrev pub IsInteger : ℤ → Type 0
IsInteger z = (n : ℕ) × (z ≡ pos n) × (n ≤ 2147483647)

abbrev pub IsName : List ℕ → Type 0
IsName name = (is_path name ≡ true) × (is_sayable name ≡ true)

abbrev pub IsSayable : List File → Post → Type 0
IsSayable files (post.Key k) = Unit {0}
IsSayable files (post.Tick n) = n ≤ largest
IsSayable files (post.Stream z) = IsInteger z
IsSayable files (post.Engine z) = IsInteger z
IsSayable files (post.Scene g) = IsName g × (w : Written) × (written_at g files ≡ Some w)
IsSayable files (post.File f) = IsName f.name × IsBytes f.content × (0 < length f.content)

abbrev pub AreSayable : List File → List Post → Type 0
AreSayable files [] = Unit {0}
AreSayable files (p ∷ ps) = IsSayable files p × AreSayable files ps

-- no line of the bytes is wrong, and they say just these commands
abbrev pub IsReadAs : Tags → List File → List ℕ → List Command → Type 0
IsReadAs tags files bs cs = (first_wrong tags files 1 (lines bs) ≡ None) × (commands tags files (lines bs) ≡ cs)

-- what is recorded from the start on says to make the steps of the start, and then just what was posted, in order
abbrev pub RecordsAreScripts : Type 0
RecordsAreScripts =
    (tags : Tags) (files : List File) (ps : List Post) → AreSayable files ps
    → IsReadAs tags files (opening ++ flat_map recorded ps)
    (command.Step run_limit ∷ command.Show ∷ flat_map (commands_of files) ps)
