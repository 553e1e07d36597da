-- What a picture is lent from stays as it is: cells are painted, and nothing else changes.
use Rattle.std.specs.Prelude.{◌≡◌}
use Rattle.std.specs.Borrow.{Fml, MutBor}
use Rattle.std.specs.Io.BufRead.{Rests}
use Rattle.mh_model.specs.State.{State}
use Rattle.mh_machine.specs.Stage.{Staged}
use Rattle.mh_machine.specs.Working.{Working}
use Rattle.mh_machine.specs.contracts.machine.Machine.{the_row as machine_row}
use Rattle.mh_machine.specs.contracts.stage.Stage.{the_row as stage_row}
use Rattle.mh_machine.specs.contracts.works.Works.{the_row as works_row}

abbrev pub StageStays : MutBor Staged → Fml
StageStays s = Rests stage_row s (λ n. (n.objects ≡ s.now.objects) × (n.stack ≡ s.now.stack))

abbrev pub WorksStay : MutBor Working → Fml
WorksStay w = Rests works_row w (λ n. n.state ≡ w.now.state)

abbrev pub MachineStays : MutBor State → Fml
MachineStays m = Rests machine_row m (λ n. n ≡ m.now)
