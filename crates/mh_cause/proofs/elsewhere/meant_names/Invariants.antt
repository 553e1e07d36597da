use Rattle.std.proofs.Common.{◌≡◌, ℕ, List, map, Bor}
use Rattle.std.specs.List.{filter}
use Rattle.mh_cause.specs.Elsewhere.{is_meant}
use Rattle.mh_cause.proofs.elsewhere.meant_names.Given as goal

abbrev pub invariant-loop-name : goal.invariant-loop-name
invariant-loop-name l = l.names.items ≡ filter (is_meant l.service l.action) (map (λ (x : Bor (List ℕ)). x.now) l.yielded)
