-- The tables of the profile: numbers, what may stand where, what an action is written with, and what it
-- can emit.
use Rattle.std.specs.Prelude.{ℕ, Bool, true, false, not, ◌||◌, if◌then◌else◌, List, [], ◌∷◌}
use Rattle.mh_base.specs.Event.{event_types}
use Rattle.mh_base.specs.declared.event.EventType.{EventType}
use Rattle.mh_base.specs.declared.event.EventType.TheVariants as event
use Rattle.mh_base.specs.declared.value.Kind.TheVariants as kind
use Rattle.mh_group.specs.declared.class.Class.{Class}
use Rattle.mh_group.specs.declared.class.Class.TheVariants as class
use Rattle.mh_group.specs.declared.attribute.Attribute.{Attribute}
use Rattle.mh_group.specs.declared.attribute.Attribute.TheVariants as attribute
use Rattle.mh_group.specs.declared.action_name.ActionName.{ActionName}
use Rattle.mh_group.specs.declared.action_name.ActionName.TheVariants as action
use Rattle.mh_group.specs.declared.shape.Shape.{Shape}
use Rattle.mh_group.specs.declared.shape.Shape.TheVariants as shape
use Rattle.mh_group.specs.declared.shape.Need.{Need}
use Rattle.mh_group.specs.declared.shape.Need.TheVariants as need

abbrev pub class_number : Class → ℕ
class_number class.Application = 0
class_number class.Scene = 1
class_number class.Link = 2
class_number class.BooleanVar = 3
class_number class.IntegerVar = 4
class_number class.OStringVar = 5
class_number class.ObjectRefVar = 6
class_number class.ContentRefVar = 7
class_number class.Rectangle = 8
class_number class.Text = 9
class_number class.DynamicLineArt = 10
class_number class.ListGroup = 11
class_number class.TokenGroup = 12
class_number class.EntryField = 13
class_number class.PushButton = 14
class_number class.ResidentPrg = 15
class_number class.Stream = 16

abbrev pub attribute_number : Attribute → ℕ
attribute_number attribute.OnStartUp = 1
attribute_number attribute.OnCloseDown = 2
attribute_number attribute.Items = 3
attribute_number attribute.InputEventReg = 4
attribute_number attribute.SceneCs = 5
attribute_number attribute.InitiallyActive = 6
attribute_number attribute.Shared = 7
attribute_number attribute.EventSource = 8
attribute_number attribute.EventType = 9
attribute_number attribute.EventData = 10
attribute_number attribute.LinkEffect = 11
attribute_number attribute.OrigValue = 12
attribute_number attribute.OrigBoxSize = 13
attribute_number attribute.OrigPosition = 14
attribute_number attribute.OrigLineWidth = 15
attribute_number attribute.OrigRefLineColour = 16
attribute_number attribute.OrigRefFillColour = 17
attribute_number attribute.OrigContent = 18
attribute_number attribute.TextColour = 19
attribute_number attribute.BackgroundColour = 20
attribute_number attribute.HJustification = 21
attribute_number attribute.TextWrapping = 22
attribute_number attribute.MaxLength = 23
attribute_number attribute.OrigLabel = 24
attribute_number attribute.MovementTable = 25
attribute_number attribute.TokenGroupItems = 26
attribute_number attribute.Positions = 27
attribute_number attribute.WrapAround = 28
attribute_number attribute.MultipleSelection = 29
attribute_number attribute.Name = 30
attribute_number attribute.CHook = 31
attribute_number attribute.OrigFont = 32
attribute_number attribute.FontAttributes = 33
attribute_number attribute.OrigGcPriority = 34
attribute_number attribute.ObjectInfo = 35
attribute_number attribute.StdId = 36
attribute_number attribute.StdVersion = 37
attribute_number attribute.NextScenes = 38

abbrev pub action_number : ActionName → ℕ
action_number action.Run = 0
action_number action.Stop = 1
action_number action.Preload = 2
action_number action.Unload = 3
action_number action.GetAvailabilityStatus = 4
action_number action.GetRunningStatus = 5
action_number action.SendEvent = 6
action_number action.SetTimer = 7
action_number action.Launch = 8
action_number action.Quit = 9
action_number action.LockScreen = 10
action_number action.UnlockScreen = 11
action_number action.TransitionTo = 12
action_number action.SetInputRegister = 13
action_number action.Activate = 14
action_number action.Deactivate = 15
action_number action.SetVariable = 16
action_number action.TestVariable = 17
action_number action.Add = 18
action_number action.Subtract = 19
action_number action.Multiply = 20
action_number action.Divide = 21
action_number action.Modulo = 22
action_number action.Append = 23
action_number action.Call = 24
action_number action.Fork = 25
action_number action.SetPosition = 26
action_number action.GetPosition = 27
action_number action.SetBoxSize = 28
action_number action.GetBoxSize = 29
action_number action.BringToFront = 30
action_number action.SendToBack = 31
action_number action.PutBefore = 32
action_number action.PutBehind = 33
action_number action.SetFillColour = 34
action_number action.SetLineColour = 35
action_number action.SetLineWidth = 36
action_number action.Clear = 37
action_number action.DrawLine = 38
action_number action.DrawRectangle = 39
action_number action.SetData = 40
action_number action.GetTextData = 41
action_number action.SetTextColour = 42
action_number action.SetInteractionStatus = 43
action_number action.GetInteractionStatus = 44
action_number action.SetHighlightStatus = 45
action_number action.GetHighlightStatus = 46
action_number action.SetEntryPoint = 47
action_number action.GetEntryPoint = 48
action_number action.SetOverwriteMode = 49
action_number action.Select = 50
action_number action.Deselect = 51
action_number action.SetLabel = 52
action_number action.GetLabel = 53
action_number action.Move = 54
action_number action.MoveTo = 55
action_number action.GetTokenPosition = 56
action_number action.CallActionSlot = 57
action_number action.AddItem = 58
action_number action.DelItem = 59
action_number action.ScrollItems = 60
action_number action.SetFirstItem = 61
action_number action.GetFirstItem = 62
action_number action.SelectItem = 63
action_number action.DeselectItem = 64
action_number action.ToggleItem = 65
action_number action.GetItemStatus = 66
action_number action.GetListItem = 67
action_number action.GetListSize = 68
action_number action.GetCellItem = 69

-- Sets of classes

-- the class is that of a group
abbrev pub is_group_class : Class → Bool
is_group_class class.Application = true
is_group_class class.Scene = true
is_group_class _ = false

-- objects of the class are variables
abbrev pub is_variable : Class → Bool
is_variable class.BooleanVar = true
is_variable class.IntegerVar = true
is_variable class.OStringVar = true
is_variable class.ObjectRefVar = true
is_variable class.ContentRefVar = true
is_variable _ = false

-- what can be seen on the screen
abbrev pub is_visible : Class → Bool
is_visible class.Rectangle = true
is_visible class.Text = true
is_visible class.DynamicLineArt = true
is_visible class.EntryField = true
is_visible class.PushButton = true
is_visible _ = false

-- visibles that are drawn with lines and fills
abbrev pub is_line_art : Class → Bool
is_line_art class.Rectangle = true
is_line_art class.DynamicLineArt = true
is_line_art _ = false

-- visibles whose text is content, in the file or apart from it
abbrev pub has_content : Class → Bool
has_content class.Text = true
has_content class.EntryField = true
has_content _ = false

-- visibles that show text
abbrev pub shows_text : Class → Bool
shows_text class.Text = true
shows_text class.EntryField = true
shows_text class.PushButton = true
shows_text _ = false

-- what a viewer can interact with
abbrev pub is_interactible : Class → Bool
is_interactible class.EntryField = true
is_interactible class.PushButton = true
is_interactible _ = false

-- what hands a token among its members
abbrev pub is_token_manager : Class → Bool
is_token_manager class.ListGroup = true
is_token_manager class.TokenGroup = true
is_token_manager _ = false

abbrev pub is_application : Class → Bool
is_application class.Application = true
is_application _ = false

abbrev pub is_scene : Class → Bool
is_scene class.Scene = true
is_scene _ = false

abbrev pub is_link : Class → Bool
is_link class.Link = true
is_link _ = false

abbrev pub is_boolean_variable : Class → Bool
is_boolean_variable class.BooleanVar = true
is_boolean_variable _ = false

abbrev pub is_integer_variable : Class → Bool
is_integer_variable class.IntegerVar = true
is_integer_variable _ = false

abbrev pub is_octets_variable : Class → Bool
is_octets_variable class.OStringVar = true
is_octets_variable _ = false

abbrev pub is_rectangle : Class → Bool
is_rectangle class.Rectangle = true
is_rectangle _ = false

abbrev pub is_dynamic_line_art : Class → Bool
is_dynamic_line_art class.DynamicLineArt = true
is_dynamic_line_art _ = false

abbrev pub is_list_group : Class → Bool
is_list_group class.ListGroup = true
is_list_group _ = false

abbrev pub is_token_group : Class → Bool
is_token_group class.TokenGroup = true
is_token_group _ = false

abbrev pub is_entry_field : Class → Bool
is_entry_field class.EntryField = true
is_entry_field _ = false

abbrev pub is_push_button : Class → Bool
is_push_button class.PushButton = true
is_push_button _ = false

abbrev pub is_resident_program : Class → Bool
is_resident_program class.ResidentPrg = true
is_resident_program _ = false

abbrev pub is_stream : Class → Bool
is_stream class.Stream = true
is_stream _ = false

-- what a scene presents: it can become available and run
abbrev pub is_presentable : Class → Bool
is_presentable c = is_visible c || (is_token_manager c || is_stream c)

-- what can run
abbrev pub is_runnable : Class → Bool
is_runnable c = is_link c || is_presentable c

-- Attributes

-- the shape of a variable's value
abbrev pub value_shape : Class → Shape
value_shape class.BooleanVar = shape.Bool
value_shape class.OStringVar = shape.Octets
value_shape class.ObjectRefVar = shape.Ref
value_shape class.ContentRefVar = shape.ContentRef
value_shape _ = shape.Int

-- the shape of an attribute's value, where objects of the class are written with it
abbrev pub shape_of : Class → Attribute → Shape
shape_of c attribute.OnStartUp = shape.Effect
shape_of c attribute.OnCloseDown = shape.Effect
shape_of c attribute.Items = shape.Items
shape_of c attribute.InputEventReg = shape.Int
shape_of c attribute.SceneCs = shape.Screen
shape_of c attribute.InitiallyActive = shape.Bool
shape_of c attribute.Shared = shape.Bool
shape_of c attribute.EventSource = shape.Ref
shape_of c attribute.EventType = shape.Event
shape_of c attribute.EventData = shape.Data
shape_of c attribute.LinkEffect = shape.Effect
shape_of c attribute.OrigValue = value_shape c
shape_of c attribute.OrigBoxSize = shape.Size
shape_of c attribute.OrigPosition = shape.Pair
shape_of c attribute.OrigLineWidth = shape.Natural
shape_of c attribute.OrigRefLineColour = shape.Colour
shape_of c attribute.OrigRefFillColour = shape.Colour
shape_of c attribute.OrigContent = shape.Content
shape_of c attribute.TextColour = shape.Colour
shape_of c attribute.BackgroundColour = shape.Colour
shape_of c attribute.HJustification = shape.Justification
shape_of c attribute.TextWrapping = shape.Bool
shape_of c attribute.MaxLength = shape.Length
shape_of c attribute.OrigLabel = shape.Octets
shape_of c attribute.MovementTable = shape.MovementTable
shape_of c attribute.TokenGroupItems = if is_list_group c then shape.ListItems else shape.Members
shape_of c attribute.Positions = shape.Positions
shape_of c attribute.WrapAround = shape.Bool
shape_of c attribute.MultipleSelection = shape.Bool
shape_of c attribute.Name = shape.Octets
shape_of c attribute.CHook = shape.Int
shape_of c attribute.OrigFont = shape.Octets
shape_of c attribute.FontAttributes = shape.Octets
shape_of c attribute.OrigGcPriority = shape.Int
shape_of c attribute.ObjectInfo = shape.Octets
shape_of c attribute.StdId = shape.Octets
shape_of c attribute.StdVersion = shape.Int
shape_of c attribute.NextScenes = shape.NextScenes

-- the shape is that of a group's items
abbrev pub is_items_shape : Shape → Bool
is_items_shape shape.Items = true
is_items_shape _ = false

-- objects of the class may be written with the attribute
abbrev pub takes : Class → Attribute → Bool
takes c attribute.OnStartUp = is_group_class c
takes c attribute.OnCloseDown = is_group_class c
takes c attribute.Items = is_group_class c
takes c attribute.InputEventReg = is_scene c
takes c attribute.SceneCs = is_scene c
takes c attribute.InitiallyActive = not (is_group_class c)
takes c attribute.Shared = not (is_group_class c)
takes c attribute.EventSource = is_link c
takes c attribute.EventType = is_link c
takes c attribute.EventData = is_link c
takes c attribute.LinkEffect = is_link c
takes c attribute.OrigValue = is_variable c
takes c attribute.OrigBoxSize = is_visible c
takes c attribute.OrigPosition = is_visible c
takes c attribute.OrigLineWidth = is_line_art c
takes c attribute.OrigRefLineColour = is_line_art c
takes c attribute.OrigRefFillColour = is_line_art c
takes c attribute.OrigContent = has_content c
takes c attribute.TextColour = shows_text c
takes c attribute.BackgroundColour = shows_text c
takes c attribute.HJustification = shows_text c
takes c attribute.TextWrapping = shows_text c
takes c attribute.MaxLength = is_entry_field c
takes c attribute.OrigLabel = is_push_button c
takes c attribute.MovementTable = is_token_manager c
takes c attribute.TokenGroupItems = is_token_manager c
takes c attribute.Positions = is_list_group c
takes c attribute.WrapAround = is_list_group c
takes c attribute.MultipleSelection = is_list_group c
takes c attribute.Name = is_resident_program c
takes c attribute.CHook = true
takes c attribute.OrigFont = true
takes c attribute.FontAttributes = true
takes c attribute.OrigGcPriority = true
takes c attribute.ObjectInfo = true
takes c attribute.StdId = true
takes c attribute.StdVersion = true
takes c attribute.NextScenes = true

-- the attributes with which objects of the class have to be written
abbrev pub required_of : Class → List Attribute
required_of class.Link = attribute.EventSource ∷ attribute.EventType ∷ attribute.LinkEffect ∷ []
required_of class.BooleanVar = attribute.OrigValue ∷ []
required_of class.IntegerVar = attribute.OrigValue ∷ []
required_of class.OStringVar = attribute.OrigValue ∷ []
required_of class.ObjectRefVar = attribute.OrigValue ∷ []
required_of class.ContentRefVar = attribute.OrigValue ∷ []
required_of class.Rectangle = attribute.OrigBoxSize ∷ []
required_of class.Text = attribute.OrigBoxSize ∷ []
required_of class.DynamicLineArt = attribute.OrigBoxSize ∷ []
required_of class.ListGroup = attribute.Positions ∷ []
required_of class.EntryField = attribute.OrigBoxSize ∷ []
required_of class.PushButton = attribute.OrigBoxSize ∷ []
required_of class.ResidentPrg = attribute.Name ∷ []
required_of _ = []

-- Actions

-- the action has a rule for targets of the class
abbrev pub admits : Class → ActionName → Bool
admits c action.Run = is_presentable c
admits c action.Stop = is_presentable c
admits c action.Preload = is_presentable c
admits c action.Unload = is_presentable c
admits c action.GetAvailabilityStatus = is_runnable c
admits c action.GetRunningStatus = is_runnable c
admits c action.SendEvent = is_group_class c
admits c action.SetTimer = is_group_class c
admits c action.Launch = is_application c
admits c action.Quit = is_application c
admits c action.LockScreen = is_application c
admits c action.UnlockScreen = is_application c
admits c action.TransitionTo = is_scene c
admits c action.SetInputRegister = is_scene c
admits c action.Activate = is_link c
admits c action.Deactivate = is_link c
admits c action.SetVariable = is_variable c
admits c action.TestVariable = is_variable c
admits c action.Add = is_integer_variable c
admits c action.Subtract = is_integer_variable c
admits c action.Multiply = is_integer_variable c
admits c action.Divide = is_integer_variable c
admits c action.Modulo = is_integer_variable c
admits c action.Append = is_octets_variable c
admits c action.Call = is_resident_program c
admits c action.Fork = is_resident_program c
admits c action.SetPosition = is_visible c
admits c action.GetPosition = is_visible c
admits c action.SetBoxSize = is_visible c
admits c action.GetBoxSize = is_visible c
admits c action.BringToFront = is_visible c
admits c action.SendToBack = is_visible c
admits c action.PutBefore = is_visible c
admits c action.PutBehind = is_visible c
admits c action.SetFillColour = is_line_art c
admits c action.SetLineColour = is_line_art c
admits c action.SetLineWidth = is_line_art c
admits c action.Clear = is_dynamic_line_art c
admits c action.DrawLine = is_dynamic_line_art c
admits c action.DrawRectangle = is_dynamic_line_art c
admits c action.SetData = has_content c
admits c action.GetTextData = has_content c
admits c action.SetTextColour = shows_text c
admits c action.SetInteractionStatus = is_interactible c
admits c action.GetInteractionStatus = is_interactible c
admits c action.SetHighlightStatus = is_interactible c
admits c action.GetHighlightStatus = is_interactible c
admits c action.SetEntryPoint = is_entry_field c
admits c action.GetEntryPoint = is_entry_field c
admits c action.SetOverwriteMode = is_entry_field c
admits c action.Select = is_push_button c
admits c action.Deselect = is_push_button c
admits c action.SetLabel = is_push_button c
admits c action.GetLabel = is_push_button c
admits c action.Move = is_token_manager c
admits c action.MoveTo = is_token_manager c
admits c action.GetTokenPosition = is_token_manager c
admits c action.CallActionSlot = is_token_group c
admits c action.AddItem = is_list_group c
admits c action.DelItem = is_list_group c
admits c action.ScrollItems = is_list_group c
admits c action.SetFirstItem = is_list_group c
admits c action.GetFirstItem = is_list_group c
admits c action.SelectItem = is_list_group c
admits c action.DeselectItem = is_list_group c
admits c action.ToggleItem = is_list_group c
admits c action.GetItemStatus = is_list_group c
admits c action.GetListItem = is_list_group c
admits c action.GetListSize = is_list_group c
admits c action.GetCellItem = is_list_group c

-- the parameters that the action is written with
abbrev pub needs_of : ActionName → List Need
needs_of action.Run = []
needs_of action.Stop = []
needs_of action.Preload = []
needs_of action.Unload = []
needs_of action.GetAvailabilityStatus = need.Receiver kind.Bool ∷ []
needs_of action.GetRunningStatus = need.Receiver kind.Bool ∷ []
needs_of action.SendEvent = need.Ref ∷ need.Event ∷ need.Data ∷ []
needs_of action.SetTimer = need.Int ∷ need.Int ∷ need.Bool ∷ []
needs_of action.Launch = []
needs_of action.Quit = []
needs_of action.LockScreen = []
needs_of action.UnlockScreen = []
needs_of action.TransitionTo = []
needs_of action.SetInputRegister = need.Int ∷ []
needs_of action.Activate = []
needs_of action.Deactivate = []
needs_of action.SetVariable = need.Typed ∷ []
needs_of action.TestVariable = need.Int ∷ need.Typed ∷ []
needs_of action.Add = need.Int ∷ []
needs_of action.Subtract = need.Int ∷ []
needs_of action.Multiply = need.Int ∷ []
needs_of action.Divide = need.Int ∷ []
needs_of action.Modulo = need.Int ∷ []
needs_of action.Append = need.Octets ∷ []
needs_of action.Call = need.Receiver kind.Bool ∷ need.Arguments ∷ []
needs_of action.Fork = need.Receiver kind.Bool ∷ need.Arguments ∷ []
needs_of action.SetPosition = need.Int ∷ need.Int ∷ []
needs_of action.GetPosition = need.Receiver kind.Int ∷ need.Receiver kind.Int ∷ []
needs_of action.SetBoxSize = need.Int ∷ need.Int ∷ []
needs_of action.GetBoxSize = need.Receiver kind.Int ∷ need.Receiver kind.Int ∷ []
needs_of action.BringToFront = []
needs_of action.SendToBack = []
needs_of action.PutBefore = need.Ref ∷ []
needs_of action.PutBehind = need.Ref ∷ []
needs_of action.SetFillColour = need.Octets ∷ []
needs_of action.SetLineColour = need.Octets ∷ []
needs_of action.SetLineWidth = need.Int ∷ []
needs_of action.Clear = []
needs_of action.DrawLine = need.Int ∷ need.Int ∷ need.Int ∷ need.Int ∷ []
needs_of action.DrawRectangle = need.Int ∷ need.Int ∷ need.Int ∷ need.Int ∷ []
needs_of action.SetData = need.Content ∷ []
needs_of action.GetTextData = need.Receiver kind.Octets ∷ []
needs_of action.SetTextColour = need.Octets ∷ []
needs_of action.SetInteractionStatus = need.Bool ∷ []
needs_of action.GetInteractionStatus = need.Receiver kind.Bool ∷ []
needs_of action.SetHighlightStatus = need.Bool ∷ []
needs_of action.GetHighlightStatus = need.Receiver kind.Bool ∷ []
needs_of action.SetEntryPoint = need.Int ∷ []
needs_of action.GetEntryPoint = need.Receiver kind.Int ∷ []
needs_of action.SetOverwriteMode = need.Bool ∷ []
needs_of action.Select = []
needs_of action.Deselect = []
needs_of action.SetLabel = need.Octets ∷ []
needs_of action.GetLabel = need.Receiver kind.Octets ∷ []
needs_of action.Move = need.Int ∷ []
needs_of action.MoveTo = need.Int ∷ []
needs_of action.GetTokenPosition = need.Receiver kind.Int ∷ []
needs_of action.CallActionSlot = need.Int ∷ []
needs_of action.AddItem = need.Int ∷ need.Ref ∷ []
needs_of action.DelItem = need.Ref ∷ []
needs_of action.ScrollItems = need.Int ∷ []
needs_of action.SetFirstItem = need.Int ∷ []
needs_of action.GetFirstItem = need.Receiver kind.Int ∷ []
needs_of action.SelectItem = need.Int ∷ []
needs_of action.DeselectItem = need.Int ∷ []
needs_of action.ToggleItem = need.Int ∷ []
needs_of action.GetItemStatus = need.Int ∷ need.Receiver kind.Bool ∷ []
needs_of action.GetListItem = need.Int ∷ need.Receiver kind.Object ∷ []
needs_of action.GetListSize = need.Receiver kind.Int ∷ []
needs_of action.GetCellItem = need.Int ∷ need.Receiver kind.Object ∷ []

-- how many of them may be missing at the end
abbrev pub optional_of : ActionName → ℕ
optional_of action.SendEvent = 1
optional_of action.SetTimer = 2
optional_of _ = 0

-- What an action can emit where its target is of a class that it has a rule for: what its own rule emits, and
-- what the target emits when by that rule it becomes available, runs, stops, is dropped or is entered. What
-- other objects emit, as those that are entered with a scene, is emitted by rules of their own.

-- becoming available; with its content, if it has one
abbrev pub prepare_events : Class → List EventType
prepare_events c = if has_content c then event.IsAvailable ∷ event.ContentAvailable ∷ [] else event.IsAvailable ∷ []

-- the window of a list of items
abbrev pub window_events : List EventType
window_events = event.FirstItemPresented ∷ event.LastItemPresented ∷ event.HeadItems ∷ event.TailItems ∷ []

-- becoming available, then running
abbrev pub run_events : Class → List EventType
run_events class.Text = event.IsAvailable ∷ event.ContentAvailable ∷ event.IsRunning ∷ []
run_events class.EntryField = event.IsAvailable ∷ event.ContentAvailable ∷ event.IsRunning ∷ []
run_events class.ListGroup = event.IsAvailable ∷ event.FirstItemPresented ∷ event.LastItemPresented ∷ event.HeadItems ∷ event.TailItems ∷ event.IsRunning ∷ []
run_events class.TokenGroup = event.IsAvailable ∷ event.IsRunning ∷ event.TokenMovedTo ∷ []
run_events _ = event.IsAvailable ∷ event.IsRunning ∷ []

abbrev pub emits : ActionName → Class → List EventType
emits action.Run c = run_events c
emits action.Stop c = event.IsStopped ∷ []
emits action.Preload c = prepare_events c
emits action.Unload c = event.IsStopped ∷ event.IsDeleted ∷ []
emits action.SendEvent c = event_types
emits action.Launch c = event.IsRunning ∷ []
emits action.TransitionTo c = event.IsRunning ∷ []
emits action.Activate c = run_events c
emits action.Deactivate c = event.IsStopped ∷ []
emits action.TestVariable c = event.TestEvent ∷ []
emits action.Fork c = event.AsyncStopped ∷ []
emits action.SetData c = event.ContentAvailable ∷ []
emits action.SetInteractionStatus c = event.InteractionCompleted ∷ []
emits action.SetHighlightStatus c = event.HighlightOn ∷ event.HighlightOff ∷ []
emits action.Select c = event.IsSelected ∷ []
emits action.Deselect c = event.IsDeselected ∷ []
emits action.Move c = event.TokenMovedFrom ∷ event.TokenMovedTo ∷ []
emits action.MoveTo c = event.TokenMovedFrom ∷ event.TokenMovedTo ∷ []
emits action.AddItem c = window_events
emits action.DelItem c = window_events
emits action.ScrollItems c = window_events
emits action.SetFirstItem c = window_events
emits action.SelectItem c = event.ItemDeselected ∷ event.ItemSelected ∷ []
emits action.DeselectItem c = event.ItemDeselected ∷ []
emits action.ToggleItem c = event.ItemDeselected ∷ event.ItemSelected ∷ []
emits _ c = []

-- the events that the action can emit of a target of the class; none where it has no rule for it
abbrev pub may_emit : ActionName → Class → List EventType
may_emit a c = if admits c a then emits a c else []
