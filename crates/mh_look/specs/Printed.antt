-- What `redplay` prints where it plays nothing, told from a report by how it begins.
use Rattle.std.specs.Prelude.{ℕ, Bool, List, map}
use Rattle.std.specs.List.{list_any}
use Rattle.mh_why.specs.Painting.{begins_with}
use Rattle.mh_look.specs.declared.report.printed.TheConstants.{BEGINNINGS}

unfoldable pub beginnings : List (List ℕ)
beginnings = map (λ x. x.now) BEGINNINGS

-- a verdict, or what is told of a service that cannot be read
abbrev pub is_verdict : List ℕ → Bool
is_verdict bytes = list_any (λ word. begins_with word bytes) beginnings
