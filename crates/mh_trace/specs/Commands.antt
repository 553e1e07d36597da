-- What is told of the commands of a script beside their steps, in lines, or as objects.
use Rattle.std.specs.Prelude.{ℕ, List, [], ◌∷◌, ◌++◌, codes, Option, Some, None}
use Rattle.std.specs.Fmt.{decimal}
use Rattle.mh_model.specs.declared.file.File.{File}
use Rattle.mh_model.specs.declared.input.Input.{Input}
use Rattle.mh_model.specs.declared.input.Obstacle.{Obstacle}
use Rattle.mh_model.specs.declared.input.Obstacle.TheVariants as obstacle
use Rattle.mh_model.specs.declared.rest.Rest.{Rest}
use Rattle.mh_model.specs.declared.rest.Rest.TheVariants as rest
use Rattle.mh_told.specs.Told.{did_line, total_line}
use Rattle.mh_trace.specs.declared.form.Form.{Form}
use Rattle.mh_trace.specs.declared.form.Form.TheVariants as form
use Rattle.mh_trace.specs.Json.{member_text, more_text, name_text}
use Rattle.mh_trace.specs.Words.{input_text}

-- why an input is refused

unfoldable pub obstacle_text : Obstacle → List ℕ
obstacle_text obstacle.Ended = codes "the application has quit"
obstacle_text obstacle.TickRange = codes "a tick has 1 to 60000 milliseconds"
obstacle_text obstacle.Begun = codes "the play has begun"
obstacle_text obstacle.NotLate = codes "the scene is not late, or its file waits already"
obstacle_text obstacle.Differs = codes "the group is not that of the service"
obstacle_text obstacle.TooLarge = codes "the file is too large"
obstacle_text obstacle.TooMany = codes "there are too many files"
obstacle_text obstacle.ClockFull = codes "the clock is full"
obstacle_text obstacle.QueueFull = codes "as many inputs wait as may"

abbrev pub refused_note : Option Obstacle → List ℕ
refused_note None = []
refused_note (Some o) = codes "; refused: " ++ obstacle_text o

unfoldable pub post_line : Input → Option Obstacle → List ℕ
post_line i o = codes "post " ++ input_text i ++ refused_note o ++ 10 ∷ []

abbrev pub refused_json : Option Obstacle → List ℕ
refused_json None = []
refused_json (Some o) = more_text (codes "refused") (obstacle_text o)

unfoldable pub post_json : Input → Option Obstacle → List ℕ
post_json i o = codes "{" ++ member_text (codes "post") (input_text i) ++ refused_json o ++ codes "}" ++ 10 ∷ []

abbrev pub post_by : Form → Input → Option Obstacle → List ℕ
post_by form.Text i o = post_line i o
post_by form.Json i o = post_json i o

-- Content files that are there before the first command

unfoldable pub preset_line : File → Obstacle → List ℕ
preset_line f o = codes "file " ++ f.name ++ codes "; refused: " ++ obstacle_text o ++ 10 ∷ []

unfoldable pub preset_json : File → Obstacle → List ℕ
preset_json f o =
    codes "{" ++ member_text (codes "file") f.name ++ more_text (codes "refused") (obstacle_text o) ++ codes "}" ++ 10 ∷ []

abbrev pub preset_by : Form → File → Obstacle → List ℕ
preset_by form.Text f o = preset_line f o
preset_by form.Json f o = preset_json f o

-- what the report says behind the steps of a command, and of all

abbrev pub rest_name : Rest → List ℕ
rest_name rest.Idle = codes "idle"
rest_name rest.More = codes "more"
rest_name rest.Ended = codes "ended"

unfoldable pub did_json : ℕ → Rest → List ℕ
did_json n left =
    codes "{" ++ name_text (codes "did") ++ decimal n ++ more_text (codes "left") (rest_name left) ++ codes "}" ++ 10 ∷ []

abbrev pub did_by : Form → ℕ → Rest → List ℕ
did_by form.Text n left = did_line n left
did_by form.Json n left = did_json n left

unfoldable pub total_json : ℕ → List ℕ
total_json n = codes "{" ++ name_text (codes "total") ++ decimal n ++ codes "}" ++ 10 ∷ []

abbrev pub total_by : Form → ℕ → List ℕ
total_by form.Text n = total_line n
total_by form.Json n = total_json n

unfoldable pub show_json : List ℕ
show_json = codes "{" ++ name_text (codes "show") ++ codes "true}" ++ 10 ∷ []

abbrev pub show_by : Form → List ℕ
show_by form.Text = codes "show" ++ 10 ∷ []
show_by form.Json = show_json
