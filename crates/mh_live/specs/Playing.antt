-- A play at a terminal: what the clock, what is asked for, steps back and forth, and files that have changed make of it.
use Rattle.std.specs.Prelude.{ℕ, ◌+◌, ◌-◌, ◌==◌, Bool, true, nat_le, nat_lt, min, if◌then◌else◌, List, [], ◌∷◌, ◌++◌, drop, length, slice_get, take, Option, Some, None}
use Rattle.std.specs.List.{list_any}
use Rattle.std.specs.Option.{option_and_then}
use Rattle.mh_laws.specs.Budget.{bound_of}
use Rattle.mh_model.specs.declared.input.Input.{Input}
use Rattle.mh_model.specs.declared.input.Obstacle.{Obstacle}
use Rattle.mh_model.specs.declared.time.Timer.{Timer}
use Rattle.mh_model.specs.Limits.{longest_tick, most_moment}
use Rattle.mh_model.specs.State.{State}
use Rattle.mh_model.specs.Step.{advanced, obstacle, posted as queued}
use Rattle.mh_model.specs.Time.{due}
use Rattle.mh_script.specs.Script.{run_limit}
use Rattle.mh_engine.specs.Play.{Play, with_more}
use Rattle.mh_live.specs.declared.asks.Ask.{Ask}
use Rattle.mh_live.specs.declared.post.Post.{Post}
use Rattle.mh_live.specs.declared.post.Post.TheVariants as post
use Rattle.mh_live.specs.Posts.{input_of, is_tick, opening, post_of, recorded}
use Rattle.mh_live.specs.Screen.{Screen}

pub record Playing : Type 0 where
  pub play : Play
  -- what the terminal shows, if anything was drawn, and how many columns of it a line has
  pub shown : Option Screen
  pub columns : ℕ
  -- the script so far
  pub script : List ℕ
  -- the milliseconds that were ticked
  pub ticked : ℕ
  -- what was posted from the start on, and how much of it is behind the play: a step back leaves the rest
  pub asked : List Post
  pub at : ℕ
  -- where the actions stand that were faults, and what is told below everything
  pub places : List (List ℕ)
  pub notice : List ℕ

-- as many characters as a line has where nobody has told how wide the terminal is
abbrev pub usual_columns : ℕ
usual_columns = 78

abbrev pub begun : Play → Playing
begun p = record {
  play = p;
  shown = None;
  columns = usual_columns;
  script = [];
  ticked = 0;
  asked = [];
  at = 0;
  places = [];
  notice = [];
}

-- as many steps are made as `run` makes in a script
abbrev pub run_through : Play → Play
run_through p = record p { state = advanced run_limit p.state }

-- the steps of the start are made
abbrev pub entered : Playing → Playing
entered l = record l { play = run_through l.play; script = l.script ++ opening }

-- Posts.

-- an input that nothing stands against is in the queue, and adds what it is bound to to the budget
abbrev pub accepted : Input → Play → Play
accepted i p = record p { state = queued i p.state; budget = with_more p.budget (bound_of p.bounds i) }

-- what is played of a post: it is in the queue, and as many steps are made as `run` makes
abbrev pub played : Input → Play → Play
played i p = run_through (accepted i p)

-- An input is posted, run, and recorded. One that is refused changes nothing, and is not recorded; nor does the scene of which
-- the service has no file.

abbrev pub done_by : Option Obstacle → Input → Post → Playing → Playing
done_by None i p l = record l { play = played i l.play; script = l.script ++ recorded p }
done_by (Some o) i p l = l

abbrev pub done_if : Option Input → Post → Playing → Playing
done_if None p l = l
done_if (Some i) p l = done_by (obstacle i l.play.state) i p l

abbrev pub done : Post → Playing → Playing
done p l = done_if (input_of p l.play.state.service) p l

-- What is posted comes behind what is behind the play: what a step back has left is forgotten.

abbrev pub followed : Post → Playing → Playing
followed p l = record l { asked = take l.at l.asked ++ p ∷ []; at = length (take l.at l.asked) + 1 }

abbrev pub posted_by : Option Obstacle → Input → Post → Playing → Playing
posted_by None i p l = followed p (done_by None i p l)
posted_by (Some o) i p l = l

abbrev pub posted_if : Option Input → Post → Playing → Playing
posted_if None p l = l
posted_if (Some i) p l = posted_by (obstacle i l.play.state) i p l

abbrev pub posted : Post → Playing → Playing
posted p l = posted_if (input_of p l.play.state.service) p l

-- The clock: what has passed since the last tick is ticked, as far as one tick goes.

abbrev pub tick_length : ℕ → ℕ → ℕ
tick_length ticked now = min (now - ticked) longest_tick

abbrev pub ticked_by : ℕ → Playing → Playing
ticked_by n l = if n == 0 then l else record (posted (post.Tick n) l) { ticked = l.ticked + n }

abbrev pub passed : ℕ → Playing → Playing
passed now l = ticked_by (tick_length l.ticked now) l

-- Something can come of what has passed: a timer is due, or it is as long as a tick may be.

abbrev pub is_due_by : ℕ → Timer → Bool
is_due_by moment t = nat_le t.due moment

abbrev pub is_any_due : ℕ → State → Bool
is_any_due n s = list_any (is_due_by (s.moments.present + n)) (due most_moment s.application s.timers)

abbrev pub is_time_by : ℕ → State → Bool
is_time_by n s = if n == longest_tick then true else is_any_due n s

abbrev pub is_time : ℕ → Playing → Bool
is_time now l = is_time_by (tick_length l.ticked now) l.play.state

-- time stands still: what has passed is passed over
abbrev pub skipped : ℕ → Playing → Playing
skipped now l = record l { ticked = now }

-- Asks.

abbrev pub took_by : Option Post → Playing → Playing
took_by (Some p) l = posted p l
took_by None l = l

abbrev pub took : Ask → Playing → Playing
took a l = took_by (post_of a l.play.state) l

-- Steps back and forth: the play is that of what was posted first.

abbrev pub input_at : ℕ → Playing → Option Input
input_at n l = option_and_then (λ p. input_of p l.play.state.service) (slice_get l.asked n)

abbrev pub done_where : Option Post → Playing → Playing
done_where None l = l
done_where (Some p) l = done p l

abbrev pub done_at : ℕ → Playing → Playing
done_at n l = done_where (slice_get l.asked n) l

abbrev pub done_all : List Post → Playing → Playing
done_all [] l = l
done_all (p ∷ ps) l = done_all ps (done p l)

-- from the start of a play, so much of what was posted is played again
abbrev pub restarted : ℕ → Play → Playing → Playing
restarted n p l = record (done_all (take n l.asked) (entered (record l { play = p; script = [] }))) { at = n }

-- what a step back has left is played, up to a place
abbrev pub gone_to : ℕ → Playing → Playing
gone_to n l = record (done_all (drop l.at (take n l.asked)) l) { at = n }

-- the place of the last input that is no tick, where the first has this place; else where the count was
abbrev pub last_input : ℕ → ℕ → List Post → ℕ
last_input found n [] = found
last_input found n (p ∷ ps) = last_input (if is_tick p then found else n) (n + 1) ps

-- a step back is to the play before the last input
abbrev pub place_back : Playing → ℕ
place_back l = last_input 0 0 (take l.at l.asked)

-- the place behind the first input that is no tick, or behind all
abbrev pub next_input : ℕ → List Post → ℕ
next_input n [] = n
next_input n (p ∷ ps) = if is_tick p then next_input (n + 1) ps else n + 1

-- a step forth is to the play behind the next input
abbrev pub place_forth : Playing → ℕ
place_forth l = next_input l.at (drop l.at l.asked)

-- a step back has left something
abbrev pub is_back : Playing → Bool
is_back l = nat_lt l.at (length l.asked)
