use Rattle.std.proofs.Common.{refl}
use Rattle.mh_model.specs.Lines.{lines_in}
use Rattle.mh_model.specs.Scalars.{piece, scalars_in}
use Rattle.mh_model.specs.Drawn.{gone}
use Rattle.mh_model.specs.Picture.{plane}
use Rattle.mh_laws.specs.ExampleHanding.{waited, handed, handed_before, sized, ready, called, failed, asked, doubled}
use Rattle.mh_laws.proofs.example.hands.Goals as goal

pub returns : goal.returns
unfolding waited handed handed_before sized ready called failed asked doubled lines_in piece scalars_in gone plane
returns c = record {
  waited_taken = refl;
  waited_idle = refl;
  waited_shows = refl;
  handed_taken = refl;
  handed_idle = refl;
  handed_shows = refl;
  handed_faultless = refl;
  before_taken = refl;
  before_idle = refl;
  before_shows = refl;
  before_faultless = refl;
  other_taken = refl;
  other_idle = refl;
  other_shows = refl;
  large_posted = refl;
  large_preset = refl;
  largest_preset = refl;
  preset_late = refl;
  ready_taken = refl;
  ready_idle = refl;
  called_taken = refl;
  called_idle = refl;
  called_moves = refl;
  called_well = refl;
  called_faultless = refl;
  failed_taken = refl;
  failed_moves = refl;
  failed_well = refl;
  failed_faultless = refl;
  asked_next = refl;
  doubled_taken = refl;
  doubled_moves = refl;
  doubled_well = refl;
  substring = refl;
  substring_before = refl;
  searched = refl;
  searched_none = refl;
  extracted = refl;
  length = refl;
  wednesday = refl;
  sunday = refl;
  date = refl;
}
