-- What is shown, by the definitions alone: a text with its lay-out, a drawn line, and a locked screen.
use Rattle.std.specs.Prelude.{◌≡◌, ℕ, List, [], ◌∷◌, ◌++◌, true, map, pos, codes}
use Rattle.mh_base.specs.declared.value.Value.TheVariants as value
use Rattle.mh_base.specs.declared.event.EventType.TheVariants as event
use Rattle.mh_group.specs.declared.class.Class.TheVariants as class
use Rattle.mh_group.specs.declared.action_name.ActionName.TheVariants as action
use Rattle.mh_group.specs.declared.attribute.Attribute.TheVariants as attribute
use Rattle.mh_group.specs.declared.justification.Justification.TheVariants as justification
use Rattle.mh_model.specs.declared.act.Act.{Act}
use Rattle.mh_model.specs.declared.act.Argument.{Argument}
use Rattle.mh_model.specs.declared.act.Argument.TheVariants as argument
use Rattle.mh_model.specs.declared.act.Target.TheVariants as target
use Rattle.mh_model.specs.declared.held.Held.TheVariants as of
use Rattle.mh_model.specs.declared.object.Fixed.{Fixed}
use Rattle.mh_model.specs.declared.input.Input.TheVariants as input
use Rattle.mh_model.specs.declared.input.Move.TheVariants as move
use Rattle.mh_model.specs.declared.key.Key.TheVariants as key
use Rattle.mh_model.specs.Reference.{group_ref}
use Rattle.mh_model.specs.State.{State, begun}
use Rattle.mh_model.specs.Step.{run, is_idle}
use Rattle.mh_model.specs.Layout.{laid}
use Rattle.mh_model.specs.Picture.{shown, cell_of}
use Rattle.mh_laws.specs.ExampleFirst.{a, s, application, scene, rectangle, move_it, steps, back_of}

-- A text with spaces, paragraphs, an escape and a byte at which no scalar begins, in ten columns and four rows.

abbrev pub news : List ℕ
news = codes "one two three" ++ 13 ∷ codes "abcdefghijklm " ++ 27 ∷ 67 ∷ 4 ∷ 0 ∷ 255 ∷ 0 ∷ 0 ∷ 120 ∷ 255 ∷ 121 ∷ []

unfoldable pub news_lines : List (List ℕ)
news_lines =
    map (λ l. l.scalars) (laid news (record { x = pos 0; y = pos 0; width = pos 120; height = pos 64 }) true justification.Start)

-- A line from (0, 0) to (48, 16) goes through two cells of the first row and three of the second.

abbrev pub art : Fixed
art = record {
  key = record { group = a; number = 1 };
  class = class.DynamicLineArt;
  properties =
      record { attribute = attribute.OrigBoxSize; held = of.Pair (pos 60) (pos 32) }
      ∷ record { attribute = attribute.OrigRefLineColour; held = of.Colour (record { red = 0; green = 255; blue = 0; transparency = 0 }) }
      ∷ [];
}

abbrev pub number : ℕ → Argument
number n = argument.Direct (value.Int (pos n))

abbrev pub line_drawn : Act
line_drawn = record {
  name = action.DrawLine;
  target = target.Direct (record { group = a; number = 1 });
  arguments = number 0 ∷ number 0 ∷ number 48 ∷ number 16 ∷ [];
}

abbrev pub drawing_link : Fixed
drawing_link = record {
  key = record { group = a; number = 2 };
  class = class.Link;
  properties =
      record { attribute = attribute.EventSource; held = of.Value (value.Object (group_ref a)) }
      ∷ record { attribute = attribute.EventType; held = of.Event event.IsRunning }
      ∷ record { attribute = attribute.LinkEffect; held = of.Effect (line_drawn ∷ []) }
      ∷ [];
}

unfoldable pub drew : State
drew =
    run (steps 9)
    (begun (record { groups = (a, record application { properties = [] } ∷ art ∷ drawing_link ∷ []) ∷ []; start = a; programs = []; files = []; late = [] }) 60000)

-- The first example, whose link locks the screen before it moves the rectangle.

abbrev pub lock : Act
lock = record { name = action.LockScreen; target = target.Direct (group_ref a); arguments = [] }

abbrev pub locking_link : Fixed
locking_link = record {
  key = record { group = s; number = 11 };
  class = class.Link;
  properties =
      record { attribute = attribute.EventSource; held = of.Value (value.Object (group_ref s)) }
      ∷ record { attribute = attribute.EventType; held = of.Event event.UserInput }
      ∷ record { attribute = attribute.EventData; held = of.Value (value.Int (pos 100)) }
      ∷ record { attribute = attribute.LinkEffect; held = of.Effect (lock ∷ move_it 10 ∷ []) }
      ∷ [];
}

unfoldable pub locked_still : State
locked_still =
    run (move.Post (input.Key key.Red) ∷ steps 3)
    (run (steps 11)
    (begun (record { groups = (a, application ∷ []) ∷ (s, scene ∷ rectangle ∷ locking_link ∷ []) ∷ []; start = a; programs = []; files = []; late = [] }) 60000))

unfoldable pub back_shown : State → ℕ → ℕ
back_shown x c = (cell_of (shown x) c).back

pub record Shows : Type 0 where
  pub lines : news_lines ≡ codes "one two" ∷ codes "three" ∷ codes "abcdefghij" ∷ (codes "klm x" ++ 65533 ∷ 121 ∷ []) ∷ []
  pub drawn_idle : is_idle drew ≡ true
  pub drawn_taken : drew.taken ≡ 9
  pub drawn_cells : map (back_of drew) (0 ∷ 1 ∷ 2 ∷ 60 ∷ 61 ∷ 62 ∷ 63 ∷ 64 ∷ 65 ∷ []) ≡ 65280 ∷ 65280 ∷ 0 ∷ 0 ∷ 0 ∷ 65280 ∷ 65280 ∷ 65280 ∷ 0 ∷ []
  pub locked_idle : is_idle locked_still ≡ true
  pub locked_taken : locked_still.taken ≡ 14
  -- the rectangle has moved, and is shown where it was
  pub moved : back_of locked_still 61 ≡ 0
  pub still_shown : back_shown locked_still 61 ≡ 16711680
