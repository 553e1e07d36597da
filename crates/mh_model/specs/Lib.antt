-- What an object is, and what a service says of it
pub mod First
pub mod Limits
pub mod Reference
pub mod Property
pub mod Listed
pub mod ListItems
pub mod Service
-- The state of the machine
pub mod Planes
pub mod State
pub mod Time
pub mod Files
pub mod Programs
pub mod Variables
pub mod Key
-- What an action is given, and what is wrong with one
pub mod Arguments
pub mod Known
pub mod Faults
pub mod Stuck
-- What is done to objects, and what follows
pub mod Items
pub mod Groups
pub mod Bodies
pub mod Widget
pub mod Tokens
pub mod Effects
pub mod Lists
pub mod EntryFields
pub mod Worked
pub mod Lifecycle
pub mod Stack
pub mod Saying
pub mod Sort
-- The picture, and how it is printed
pub mod Looks
pub mod Boxes
pub mod Scalars
pub mod Lines
pub mod Layout
pub mod Drawn
pub mod Picture
-- Rules, steps and runs
pub mod Late
pub mod Rules
pub mod Step
pub mod Receiver
-- What is accepted, and the headline
pub mod Configuration
pub mod Edits

-- Examples
