use Rattle.std.proofs.Common.{refl}
use Rattle.mh_model.specs.Lines.{lines_in}
use Rattle.mh_model.specs.Scalars.{piece, scalars_in}
use Rattle.mh_model.specs.Drawn.{gone}
use Rattle.mh_model.specs.Picture.{plane}
use Rattle.mh_laws.specs.ExampleShowing.{news_lines, drew, locked_still, back_shown}
use Rattle.mh_laws.proofs.example.shows.Goals as goal

pub returns : goal.returns
unfolding news_lines drew locked_still back_shown lines_in piece scalars_in gone plane
returns c = record {
  lines = refl;
  drawn_idle = refl;
  drawn_taken = refl;
  drawn_cells = refl;
  locked_idle = refl;
  locked_taken = refl;
  moved = refl;
  still_shown = refl;
}
