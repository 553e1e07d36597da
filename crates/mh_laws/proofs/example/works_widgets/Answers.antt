use Rattle.std.proofs.Common.{refl}
use Rattle.mh_laws.specs.ExampleWidgets.{scrolled, scrolled_again, deleted, added, chosen, chosen_again, turned_once, turned_twice, turned_off, typed_one, typed_two, typed_over, asked_for, typed_in, group_runs_it, group_moves_it, group_stops_it}
use Rattle.mh_model.specs.Lines.{lines_in}
use Rattle.mh_model.specs.Scalars.{piece, scalars_in}
use Rattle.mh_model.specs.Picture.{plane}
use Rattle.mh_laws.proofs.example.works_widgets.Goals as goal

pub returns : goal.returns
unfolding scrolled scrolled_again deleted added chosen chosen_again turned_once turned_twice turned_off typed_one typed_two typed_over asked_for typed_in group_runs_it group_moves_it group_stops_it lines_in piece scalars_in plane
returns c = record {
  begun_items = refl;
  scrolled_items = refl;
  scrolled_placed = refl;
  again_items = refl;
  no_further = refl;
  no_further_placed = refl;
  wrapped = refl;
  deleted_shows = refl;
  deleted_items = refl;
  added_shows = refl;
  added_twice = refl;
  stopped = refl;
  chosen_items = refl;
  chosen_again_items = refl;
  chosen_twice = refl;
  turned_once_items = refl;
  turned_twice_items = refl;
  no_row = refl;
  no_place = refl;
  turned_off_items = refl;
  off_stays = refl;
  typed_one_items = refl;
  typed_two_text = refl;
  typed_two_items = refl;
  typed_three = refl;
  typed_over_text = refl;
  typed_over_items = refl;
  cancelled = refl;
  cancelled_ends = refl;
  button_on = refl;
  asked_taken = refl;
  asked_idle = refl;
  typed_taken = refl;
  typed_idle = refl;
  typed_shows = refl;
  typed_faultless = refl;
  group_idle = refl;
  group_shows = refl;
  group_moves = refl;
  group_stops = refl;
  group_stops_idle = refl;
  group_faultless = refl;
  button_stays = refl;
}
