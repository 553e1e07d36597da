use Rattle.std.specs.Prelude.{ℕ}
use Rattle.std.proofs.Common.{◌≡◌, ◌++◌, drop}
use Rattle.mh_model.specs.Service.{parts}
use Rattle.mh_model.specs.State.{all}
use Rattle.mh_trace.specs.Listening.{listed, places_from}
use Rattle.mh_trace.proofs.ears.listening.listening_of.Given as goal

abbrev pub invariant-loop-place : goal.invariant-loop-place
invariant-loop-place l =
    (n : ℕ) → listed n l.index.entries ++ places_from n l.place (parts (drop l.place (all l.objects))) ≡ places_from n 0 (parts (all l.objects))
