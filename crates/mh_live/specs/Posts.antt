-- What is posted from a terminal, and what of it a script says.
use Rattle.std.specs.Prelude.{ℕ, ◌==◌, ◌&&◌, Bool, true, false, not, if◌then◌else◌, List, [], ◌∷◌, ◌++◌, codes, Option, Some, None, ℤ, pos}
use Rattle.std.specs.Fmt.{decimal, signed_decimal}
use Rattle.std.specs.List.{list_all}
use Rattle.std.specs.Option.{option_map}
use Rattle.hex.specs.Hex.{encode_lower}
use Rattle.mh_base.specs.declared.event.EventType.TheVariants as event
use Rattle.mh_group.specs.declared.written.Written.{Written}
use Rattle.mh_model.specs.declared.file.File.{File}
use Rattle.mh_model.specs.declared.input.Input.{Input}
use Rattle.mh_model.specs.declared.input.Input.TheVariants as input
use Rattle.mh_model.specs.declared.object.Object.{Object}
use Rattle.mh_model.specs.declared.transition.Transition.{Transition}
use Rattle.mh_model.specs.declared.transition.Transition.TheVariants as transition
use Rattle.mh_model.specs.Late.{written_at}
use Rattle.mh_model.specs.Service.{Service}
use Rattle.mh_model.specs.State.{State, all}
use Rattle.mh_script.specs.Script.{key_name}
use Rattle.mh_service.specs.Refusals.{File as Source}
use Rattle.mh_live.specs.declared.asks.Ask.{Ask}
use Rattle.mh_live.specs.declared.asks.Ask.TheVariants as ask
use Rattle.mh_live.specs.declared.post.Post.{Post}
use Rattle.mh_live.specs.declared.post.Post.TheVariants as post
use Rattle.mh_live.specs.Hearing.{first_heard}

-- The input that is posted; of a scene the group that the service has under its name, if it has one.

abbrev pub scene_input : List ℕ → Option Written → Option Input
scene_input g w = option_map (λ x. input.Scene g x) w

abbrev pub input_by : List Source → Post → Option Input
input_by files (post.Key k) = Some (input.Key k)
input_by files (post.Tick n) = Some (input.Tick n)
input_by files (post.Stream n) = Some (input.Stream n)
input_by files (post.Engine n) = Some (input.Engine n)
input_by files (post.Scene g) = scene_input g (written_at g files)
input_by files (post.File f) = Some (input.Arrive f)

abbrev pub input_of : Post → Service → Option Input
input_of p v = input_by v.files p

-- only time passes
abbrev pub is_tick : Post → Bool
is_tick (post.Tick n) = true
is_tick _ = false

-- What is posted where something is asked for.

abbrev pub stream_by : Option ℤ → Option Post
stream_by (Some n) = Some (post.Stream n)
stream_by None = None

-- the stream event for which a link waits, if one does
abbrev pub stream_post : List Object → Option Post
stream_post os = stream_by (first_heard event.StreamEvent os)

abbrev pub engine_by : Option ℤ → Post
engine_by (Some n) = post.Engine n
engine_by None = post.Engine (pos 0)

-- the event of the engine for which a link waits, or that with number 0
abbrev pub engine_post : List Object → Post
engine_post os = engine_by (first_heard event.EngineEvent os)

-- a script can say the name: no space and no end of a line stands in it

abbrev pub is_sayable_byte : ℕ → Bool
is_sayable_byte b = not (b == 32) && not (b == 10)

unfoldable pub is_sayable : List ℕ → Bool
is_sayable name = list_all is_sayable_byte name

-- the file of the scene for which a transition waits, if one does
abbrev pub scene_post : Transition → Option Post
scene_post (transition.Awaits g) = if is_sayable g then Some (post.Scene g) else None
scene_post transition.Rests = None
scene_post transition.Begun = None

abbrev pub post_of : Ask → State → Option Post
post_of (ask.Key k) s = Some (post.Key k)
post_of ask.Stream s = stream_post (all s.objects)
post_of ask.Engine s = Some (engine_post (all s.objects))
post_of ask.Scene s = scene_post s.transition
post_of ask.File s = None
post_of ask.Back s = None
post_of ask.Forth s = None
post_of ask.Redraw s = None
post_of ask.Quit s = None

-- The lines of the script that is recorded: at first the steps of the start and the picture, and then posts, with the steps
-- until nothing is left to do behind each, and with the picture, unless only time has passed.

unfoldable pub opening : List ℕ
opening = codes "run" ++ 10 ∷ codes "show" ++ 10 ∷ []

unfoldable pub tick_text : ℕ → List ℕ
tick_text n = codes "tick " ++ decimal n

-- a content file with its octets, two hexadecimal digits each
unfoldable pub file_text : File → List ℕ
file_text f = codes "file " ++ f.name ++ codes " " ++ encode_lower f.content

abbrev pub post_text : Post → List ℕ
post_text (post.Key k) = codes "key " ++ key_name k
post_text (post.Tick n) = tick_text n
post_text (post.Stream n) = codes "stream " ++ signed_decimal n
post_text (post.Engine n) = codes "engine " ++ signed_decimal n
post_text (post.Scene g) = codes "scene " ++ g
post_text (post.File f) = file_text f

abbrev pub show_line : Post → List ℕ
show_line (post.Tick n) = []
show_line _ = codes "show" ++ 10 ∷ []

unfoldable pub recorded : Post → List ℕ
recorded p = post_text p ++ (10 ∷ codes "run" ++ 10 ∷ []) ++ show_line p
