-- What a machine keeps beside its state, and what it knows of it.
use Rattle.std.specs.Prelude.{◌≡◌, ◌≤◌, ℕ, List}
use Rattle.mh_model.specs.Service.{Service, group_parts, parts}
use Rattle.mh_model.specs.State.{Objects, all}
use Rattle.mh_work.specs.Links.{IsIndex}
use Rattle.mh_work.specs.Listening.{Index}

pub record Holds (v : Service) (application : List ℕ) (os : Objects) (links : Index) (locks taken : ℕ) : Type 0 where
  -- the objects of the application are those that its file writes
  pub own : parts os.application ≡ group_parts v application
  pub index : IsIndex links (parts (all os))
  -- each lock was a step
  pub counted : locks ≤ taken
