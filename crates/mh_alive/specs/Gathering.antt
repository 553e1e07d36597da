-- What is gathered in one pass over the configurations: what may run, what is sent, what is told, which timers are set and by
-- what, and which registers scenes may have.
use Rattle.std.specs.Prelude.{List, [], ◌++◌}
use Rattle.std.specs.List.{flat_map}
use Rattle.indexmap.specs.IndexSet.{insert_all}
use Rattle.mh_base.specs.declared.obj_ref.ObjRef.{ObjRef}
use Rattle.mh_model.specs.declared.config.Config.{Config}
use Rattle.mh_model.specs.declared.object.Fixed.{Fixed}
use Rattle.mh_model.specs.Configuration.{present}
use Rattle.mh_model.specs.Reference.{same_key}
use Rattle.mh_model.specs.Service.{Service}
use Rattle.mh_laws.specs.Active.{active_actions}
use Rattle.mh_laws.specs.Flow.{Flow, Sets}
use Rattle.mh_flow.specs.Sites.{Site}
use Rattle.mh_alive.specs.declared.registers.Register.{Register}
use Rattle.mh_alive.specs.declared.sendings.Sending.{Sending}
use Rattle.mh_alive.specs.declared.settings.Setting.{Setting}
use Rattle.mh_alive.specs.declared.tellings.Telling.{Telling}
use Rattle.mh_alive.specs.Hearing.{settings, settings_among}
use Rattle.mh_alive.specs.Registers.{registers, registers_by, registers_with, same_register, written_registers}
use Rattle.mh_alive.specs.Runners.{run_by, run_with, runners, runners_with}
use Rattle.mh_alive.specs.Sendings.{same_sending, sent, sent_by}
use Rattle.mh_alive.specs.Tellings.{same_telling, told, told_by, told_itself, told_there}

pub record Gathered : Type 0 where
  pub runners : List ObjRef
  pub sent : List Sending
  pub told : List Telling
  pub settings : List Setting
  pub registers : List Register

abbrev pub nothing : Gathered
nothing = record { runners = []; sent = []; told = []; settings = []; registers = [] }

-- with what these objects tell and run of themselves, the registers that are written at them, and the timers that their effects
-- set, where all these are present
abbrev pub with_parts : Sets → List Fixed → Gathered → List Fixed → Gathered
with_parts h all g ps = record g {
  runners = insert_all same_key g.runners (flat_map (run_with h) ps);
  told = insert_all same_telling g.told (flat_map told_itself ps);
  settings = g.settings ++ settings_among h all ps;
  registers = insert_all same_register g.registers (flat_map written_registers ps);
}

-- with what the actions at these sites do
abbrev pub with_sites : Sets → Gathered → List Site → Gathered
with_sites h g xs = record g {
  runners = insert_all same_key g.runners (flat_map (λ x. run_by h x.act) xs);
  sent = insert_all same_sending g.sent (flat_map (λ x. sent_by x.act) xs);
  told = insert_all same_telling g.told (flat_map (λ x. told_by h x.act) xs);
  registers = insert_all same_register g.registers (flat_map (λ x. registers_by h x.act) xs);
}

-- with what there is where these are present
unfoldable pub with_present : Sets → Gathered → List Fixed → Gathered
with_present h g ps = record {
  runners = insert_all same_key g.runners (runners_with h ps);
  sent = insert_all same_sending g.sent (flat_map sent_by (active_actions ps));
  told = insert_all same_telling g.told (told_there h ps);
  settings = g.settings ++ settings_among h ps ps;
  registers = insert_all same_register g.registers (registers_with h ps);
}

-- with what there is in a configuration
unfoldable pub with_config : Service → Flow → Gathered → Config → Gathered
with_config v w g c = with_present (w.sets c) g (present v c)

-- all
abbrev pub gathered : Service → Flow → Gathered
gathered v w = record {
  runners = insert_all same_key [] (runners v w);
  sent = insert_all same_sending [] (sent v w);
  told = insert_all same_telling [] (told v w);
  settings = settings v w;
  registers = insert_all same_register [] (registers v w);
}
