-- The words of the textual notation.
use Rattle.std.specs.Prelude.{ℕ, List, [], ◌∷◌, codes}
use Rattle.mh_base.specs.Event.{event_types}
use Rattle.mh_base.specs.declared.event.EventType.{EventType}
use Rattle.mh_base.specs.declared.event.EventType.TheVariants as event
use Rattle.mh_base.specs.declared.value.Kind.{Kind}
use Rattle.mh_base.specs.declared.value.Kind.TheVariants as kind
use Rattle.mh_group.specs.declared.class.Class.{Class}
use Rattle.mh_group.specs.declared.class.Class.TheVariants as class
use Rattle.mh_group.specs.declared.attribute.Attribute.{Attribute}
use Rattle.mh_group.specs.declared.attribute.Attribute.TheVariants as attribute
use Rattle.mh_group.specs.declared.action_name.ActionName.{ActionName}
use Rattle.mh_group.specs.declared.action_name.ActionName.TheVariants as action
use Rattle.mh_group.specs.declared.action.Typed.{Typed}
use Rattle.mh_group.specs.declared.action.Typed.TheVariants as typed
use Rattle.mh_group.specs.declared.justification.Justification.{Justification}
use Rattle.mh_group.specs.declared.justification.Justification.TheVariants as justification

-- the classes
abbrev pub classes : List Class
classes = class.Application ∷ class.Scene ∷ class.Link ∷ class.BooleanVar ∷ class.IntegerVar ∷ class.OStringVar ∷ class.ObjectRefVar ∷ class.ContentRefVar ∷ class.Rectangle ∷ class.Text ∷ class.DynamicLineArt ∷ class.ListGroup ∷ class.TokenGroup ∷ class.EntryField ∷ class.PushButton ∷ class.ResidentPrg ∷ class.Stream ∷ []

unfoldable pub class_word : Class → List ℕ
class_word class.Application = codes "Application"
class_word class.Scene = codes "Scene"
class_word class.Link = codes "Link"
class_word class.BooleanVar = codes "BooleanVar"
class_word class.IntegerVar = codes "IntegerVar"
class_word class.OStringVar = codes "OStringVar"
class_word class.ObjectRefVar = codes "ObjectRefVar"
class_word class.ContentRefVar = codes "ContentRefVar"
class_word class.Rectangle = codes "Rectangle"
class_word class.Text = codes "Text"
class_word class.DynamicLineArt = codes "DynamicLineArt"
class_word class.ListGroup = codes "ListGroup"
class_word class.TokenGroup = codes "TokenGroup"
class_word class.EntryField = codes "EntryField"
class_word class.PushButton = codes "PushButton"
class_word class.ResidentPrg = codes "ResidentPrg"
class_word class.Stream = codes "Stream"

-- the attributes, in the order of their numbers
abbrev pub attributes : List Attribute
attributes = attribute.OnStartUp ∷ attribute.OnCloseDown ∷ attribute.Items ∷ attribute.InputEventReg ∷ attribute.SceneCs ∷ attribute.InitiallyActive ∷ attribute.Shared ∷ attribute.EventSource ∷ attribute.EventType ∷ attribute.EventData ∷ attribute.LinkEffect ∷ attribute.OrigValue ∷ attribute.OrigBoxSize ∷ attribute.OrigPosition ∷ attribute.OrigLineWidth ∷ attribute.OrigRefLineColour ∷ attribute.OrigRefFillColour ∷ attribute.OrigContent ∷ attribute.TextColour ∷ attribute.BackgroundColour ∷ attribute.HJustification ∷ attribute.TextWrapping ∷ attribute.MaxLength ∷ attribute.OrigLabel ∷ attribute.MovementTable ∷ attribute.TokenGroupItems ∷ attribute.Positions ∷ attribute.WrapAround ∷ attribute.MultipleSelection ∷ attribute.Name ∷ attribute.CHook ∷ attribute.OrigFont ∷ attribute.FontAttributes ∷ attribute.OrigGcPriority ∷ attribute.ObjectInfo ∷ attribute.StdId ∷ attribute.StdVersion ∷ attribute.NextScenes ∷ []

unfoldable pub attribute_word : Attribute → List ℕ
attribute_word attribute.OnStartUp = codes "OnStartUp"
attribute_word attribute.OnCloseDown = codes "OnCloseDown"
attribute_word attribute.Items = codes "Items"
attribute_word attribute.InputEventReg = codes "InputEventReg"
attribute_word attribute.SceneCs = codes "SceneCS"
attribute_word attribute.InitiallyActive = codes "InitiallyActive"
attribute_word attribute.Shared = codes "Shared"
attribute_word attribute.EventSource = codes "EventSource"
attribute_word attribute.EventType = codes "EventType"
attribute_word attribute.EventData = codes "EventData"
attribute_word attribute.LinkEffect = codes "LinkEffect"
attribute_word attribute.OrigValue = codes "OrigValue"
attribute_word attribute.OrigBoxSize = codes "OrigBoxSize"
attribute_word attribute.OrigPosition = codes "OrigPosition"
attribute_word attribute.OrigLineWidth = codes "OrigLineWidth"
attribute_word attribute.OrigRefLineColour = codes "OrigRefLineColour"
attribute_word attribute.OrigRefFillColour = codes "OrigRefFillColour"
attribute_word attribute.OrigContent = codes "OrigContent"
attribute_word attribute.TextColour = codes "TextColour"
attribute_word attribute.BackgroundColour = codes "BackgroundColour"
attribute_word attribute.HJustification = codes "HJustification"
attribute_word attribute.TextWrapping = codes "TextWrapping"
attribute_word attribute.MaxLength = codes "MaxLength"
attribute_word attribute.OrigLabel = codes "OrigLabel"
attribute_word attribute.MovementTable = codes "MovementTable"
attribute_word attribute.TokenGroupItems = codes "TokenGroupItems"
attribute_word attribute.Positions = codes "Positions"
attribute_word attribute.WrapAround = codes "WrapAround"
attribute_word attribute.MultipleSelection = codes "MultipleSelection"
attribute_word attribute.Name = codes "Name"
attribute_word attribute.CHook = codes "CHook"
attribute_word attribute.OrigFont = codes "OrigFont"
attribute_word attribute.FontAttributes = codes "FontAttributes"
attribute_word attribute.OrigGcPriority = codes "OrigGCPriority"
attribute_word attribute.ObjectInfo = codes "ObjectInfo"
attribute_word attribute.StdId = codes "StdID"
attribute_word attribute.StdVersion = codes "StdVersion"
attribute_word attribute.NextScenes = codes "NextScenes"

-- the elementary actions, in the order of their numbers
abbrev pub actions : List ActionName
actions = action.Run ∷ action.Stop ∷ action.Preload ∷ action.Unload ∷ action.GetAvailabilityStatus ∷ action.GetRunningStatus ∷ action.SendEvent ∷ action.SetTimer ∷ action.Launch ∷ action.Quit ∷ action.LockScreen ∷ action.UnlockScreen ∷ action.TransitionTo ∷ action.SetInputRegister ∷ action.Activate ∷ action.Deactivate ∷ action.SetVariable ∷ action.TestVariable ∷ action.Add ∷ action.Subtract ∷ action.Multiply ∷ action.Divide ∷ action.Modulo ∷ action.Append ∷ action.Call ∷ action.Fork ∷ action.SetPosition ∷ action.GetPosition ∷ action.SetBoxSize ∷ action.GetBoxSize ∷ action.BringToFront ∷ action.SendToBack ∷ action.PutBefore ∷ action.PutBehind ∷ action.SetFillColour ∷ action.SetLineColour ∷ action.SetLineWidth ∷ action.Clear ∷ action.DrawLine ∷ action.DrawRectangle ∷ action.SetData ∷ action.GetTextData ∷ action.SetTextColour ∷ action.SetInteractionStatus ∷ action.GetInteractionStatus ∷ action.SetHighlightStatus ∷ action.GetHighlightStatus ∷ action.SetEntryPoint ∷ action.GetEntryPoint ∷ action.SetOverwriteMode ∷ action.Select ∷ action.Deselect ∷ action.SetLabel ∷ action.GetLabel ∷ action.Move ∷ action.MoveTo ∷ action.GetTokenPosition ∷ action.CallActionSlot ∷ action.AddItem ∷ action.DelItem ∷ action.ScrollItems ∷ action.SetFirstItem ∷ action.GetFirstItem ∷ action.SelectItem ∷ action.DeselectItem ∷ action.ToggleItem ∷ action.GetItemStatus ∷ action.GetListItem ∷ action.GetListSize ∷ action.GetCellItem ∷ []

unfoldable pub action_word : ActionName → List ℕ
action_word action.Run = codes "Run"
action_word action.Stop = codes "Stop"
action_word action.Preload = codes "Preload"
action_word action.Unload = codes "Unload"
action_word action.GetAvailabilityStatus = codes "GetAvailabilityStatus"
action_word action.GetRunningStatus = codes "GetRunningStatus"
action_word action.SendEvent = codes "SendEvent"
action_word action.SetTimer = codes "SetTimer"
action_word action.Launch = codes "Launch"
action_word action.Quit = codes "Quit"
action_word action.LockScreen = codes "LockScreen"
action_word action.UnlockScreen = codes "UnlockScreen"
action_word action.TransitionTo = codes "TransitionTo"
action_word action.SetInputRegister = codes "SetInputRegister"
action_word action.Activate = codes "Activate"
action_word action.Deactivate = codes "Deactivate"
action_word action.SetVariable = codes "SetVariable"
action_word action.TestVariable = codes "TestVariable"
action_word action.Add = codes "Add"
action_word action.Subtract = codes "Subtract"
action_word action.Multiply = codes "Multiply"
action_word action.Divide = codes "Divide"
action_word action.Modulo = codes "Modulo"
action_word action.Append = codes "Append"
action_word action.Call = codes "Call"
action_word action.Fork = codes "Fork"
action_word action.SetPosition = codes "SetPosition"
action_word action.GetPosition = codes "GetPosition"
action_word action.SetBoxSize = codes "SetBoxSize"
action_word action.GetBoxSize = codes "GetBoxSize"
action_word action.BringToFront = codes "BringToFront"
action_word action.SendToBack = codes "SendToBack"
action_word action.PutBefore = codes "PutBefore"
action_word action.PutBehind = codes "PutBehind"
action_word action.SetFillColour = codes "SetFillColour"
action_word action.SetLineColour = codes "SetLineColour"
action_word action.SetLineWidth = codes "SetLineWidth"
action_word action.Clear = codes "Clear"
action_word action.DrawLine = codes "DrawLine"
action_word action.DrawRectangle = codes "DrawRectangle"
action_word action.SetData = codes "SetData"
action_word action.GetTextData = codes "GetTextData"
action_word action.SetTextColour = codes "SetTextColour"
action_word action.SetInteractionStatus = codes "SetInteractionStatus"
action_word action.GetInteractionStatus = codes "GetInteractionStatus"
action_word action.SetHighlightStatus = codes "SetHighlightStatus"
action_word action.GetHighlightStatus = codes "GetHighlightStatus"
action_word action.SetEntryPoint = codes "SetEntryPoint"
action_word action.GetEntryPoint = codes "GetEntryPoint"
action_word action.SetOverwriteMode = codes "SetOverwriteMode"
action_word action.Select = codes "Select"
action_word action.Deselect = codes "Deselect"
action_word action.SetLabel = codes "SetLabel"
action_word action.GetLabel = codes "GetLabel"
action_word action.Move = codes "Move"
action_word action.MoveTo = codes "MoveTo"
action_word action.GetTokenPosition = codes "GetTokenPosition"
action_word action.CallActionSlot = codes "CallActionSlot"
action_word action.AddItem = codes "AddItem"
action_word action.DelItem = codes "DelItem"
action_word action.ScrollItems = codes "ScrollItems"
action_word action.SetFirstItem = codes "SetFirstItem"
action_word action.GetFirstItem = codes "GetFirstItem"
action_word action.SelectItem = codes "SelectItem"
action_word action.DeselectItem = codes "DeselectItem"
action_word action.ToggleItem = codes "ToggleItem"
action_word action.GetItemStatus = codes "GetItemStatus"
action_word action.GetListItem = codes "GetListItem"
action_word action.GetListSize = codes "GetListSize"
action_word action.GetCellItem = codes "GetCellItem"

-- the justifications
abbrev pub justifications : List Justification
justifications = justification.Start ∷ justification.End ∷ justification.Centre ∷ []

abbrev pub justification_number : Justification → ℕ
justification_number justification.Start = 1
justification_number justification.End = 2
justification_number justification.Centre = 3

unfoldable pub justification_word : Justification → List ℕ
justification_word justification.Start = codes "start"
justification_word justification.End = codes "end"
justification_word justification.Centre = codes "centre"

-- the types of events
abbrev pub events : List EventType
events = event_types

unfoldable pub event_word : EventType → List ℕ
event_word event.IsAvailable = codes "IsAvailable"
event_word event.ContentAvailable = codes "ContentAvailable"
event_word event.IsDeleted = codes "IsDeleted"
event_word event.IsRunning = codes "IsRunning"
event_word event.IsStopped = codes "IsStopped"
event_word event.UserInput = codes "UserInput"
event_word event.TimerFired = codes "TimerFired"
event_word event.AsyncStopped = codes "AsyncStopped"
event_word event.InteractionCompleted = codes "InteractionCompleted"
event_word event.TokenMovedFrom = codes "TokenMovedFrom"
event_word event.TokenMovedTo = codes "TokenMovedTo"
event_word event.StreamEvent = codes "StreamEvent"
event_word event.HighlightOn = codes "HighlightOn"
event_word event.HighlightOff = codes "HighlightOff"
event_word event.IsSelected = codes "IsSelected"
event_word event.IsDeselected = codes "IsDeselected"
event_word event.TestEvent = codes "TestEvent"
event_word event.FirstItemPresented = codes "FirstItemPresented"
event_word event.LastItemPresented = codes "LastItemPresented"
event_word event.HeadItems = codes "HeadItems"
event_word event.TailItems = codes "TailItems"
event_word event.ItemSelected = codes "ItemSelected"
event_word event.ItemDeselected = codes "ItemDeselected"
event_word event.EntryFieldFull = codes "EntryFieldFull"
event_word event.EngineEvent = codes "EngineEvent"

-- the keyword in front of a value of a kind
unfoldable pub kind_word : Kind → List ℕ
kind_word kind.Bool = codes "GBoolean"
kind_word kind.Int = codes "GInteger"
kind_word kind.Octets = codes "GOctetString"
kind_word kind.Object = codes "GObjectRef"
kind_word kind.Content = codes "GContentRef"

-- the kind of a value that has its kind in front
abbrev pub kind_of : Typed → Kind
kind_of (typed.Bool _) = kind.Bool
kind_of (typed.Int _) = kind.Int
kind_of (typed.Octets _) = kind.Octets
kind_of (typed.Ref _) = kind.Object
kind_of (typed.ContentRef _) = kind.Content
