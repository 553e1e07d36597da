-- The types of events: their numbers and which are synchronous.
use Rattle.std.specs.Prelude.{ℕ, Bool, true, false, ◌==◌, List, [], ◌∷◌, Option}
use Rattle.std.specs.List.{find}
use Rattle.mh_base.specs.declared.event.EventType.{EventType}
use Rattle.mh_base.specs.declared.event.EventType.TheVariants.{IsAvailable, ContentAvailable, IsDeleted, IsRunning, IsStopped, UserInput, TimerFired, AsyncStopped, InteractionCompleted, TokenMovedFrom, TokenMovedTo, StreamEvent, HighlightOn, HighlightOff, IsSelected, IsDeselected, TestEvent, FirstItemPresented, LastItemPresented, HeadItems, TailItems, ItemSelected, ItemDeselected, EntryFieldFull, EngineEvent}

-- the number of an event type
abbrev pub number_of : EventType → ℕ
number_of IsAvailable = 1
number_of ContentAvailable = 2
number_of IsDeleted = 3
number_of IsRunning = 4
number_of IsStopped = 5
number_of UserInput = 6
number_of TimerFired = 8
number_of AsyncStopped = 9
number_of InteractionCompleted = 10
number_of TokenMovedFrom = 11
number_of TokenMovedTo = 12
number_of StreamEvent = 13
number_of HighlightOn = 17
number_of HighlightOff = 18
number_of IsSelected = 21
number_of IsDeselected = 22
number_of TestEvent = 23
number_of FirstItemPresented = 24
number_of LastItemPresented = 25
number_of HeadItems = 26
number_of TailItems = 27
number_of ItemSelected = 28
number_of ItemDeselected = 29
number_of EntryFieldFull = 30
number_of EngineEvent = 31

-- all event types, in order of their numbers
abbrev pub event_types : List EventType
event_types = IsAvailable ∷ ContentAvailable ∷ IsDeleted ∷ IsRunning ∷ IsStopped ∷ UserInput ∷ TimerFired ∷ AsyncStopped ∷ InteractionCompleted ∷ TokenMovedFrom ∷ TokenMovedTo ∷ StreamEvent ∷ HighlightOn ∷ HighlightOff ∷ IsSelected ∷ IsDeselected ∷ TestEvent ∷ FirstItemPresented ∷ LastItemPresented ∷ HeadItems ∷ TailItems ∷ ItemSelected ∷ ItemDeselected ∷ EntryFieldFull ∷ EngineEvent ∷ []

-- the event type with this number, if there is one
abbrev pub event_of : ℕ → Option EventType
event_of n = find (λ e. number_of e == n) event_types

-- an event of this type does not go by way of the queue
abbrev pub is_sync : EventType → Bool
is_sync IsAvailable = true
is_sync ContentAvailable = false
is_sync IsDeleted = true
is_sync IsRunning = true
is_sync IsStopped = true
is_sync UserInput = false
is_sync TimerFired = false
is_sync AsyncStopped = false
is_sync InteractionCompleted = false
is_sync TokenMovedFrom = true
is_sync TokenMovedTo = true
is_sync StreamEvent = false
is_sync HighlightOn = true
is_sync HighlightOff = true
is_sync IsSelected = true
is_sync IsDeselected = true
is_sync TestEvent = true
is_sync FirstItemPresented = true
is_sync LastItemPresented = true
is_sync HeadItems = true
is_sync TailItems = true
is_sync ItemSelected = true
is_sync ItemDeselected = true
is_sync EntryFieldFull = false
is_sync EngineEvent = false
