-- What a contract sees of a session: its engine, the seal by which it goes, if it goes by one, and the picture that its caller saw
-- last.
use Rattle.std.specs.Prelude.{false, Option, Some, None}
use Rattle.mh_engine.specs.Play.{Play}
use Rattle.mh_engine.specs.Sealed.{SealedPlay}
use Rattle.mh_model.specs.Planes.{Planes}
use Rattle.mh_seal.specs.declared.seal.Seal.{Seal}
use Rattle.mh_seal_laws.specs.Told.{bounds_in}
use Rattle.redplay_c.specs.declared.player.Kind.{Kind}
use Rattle.redplay_c.specs.declared.player.Kind.TheVariants as kind

-- an engine, and the seal by which it goes, if it goes by one: then no verifier was asked here, and the bounds are the seal's
pub record Engined : Type 0 where
  pub play : Play
  pub seal : Option Seal

-- one that has all files
abbrev pub of_whole : Play → Engined
of_whole e = record { play = e; seal = None }

-- one that goes by a seal
abbrev pub of_sealed : SealedPlay → Engined
of_sealed e = record {
  play = record { state = e.state; accepted = false; bounds = bounds_in e.seal.bounds; budget = e.budget };
  seal = Some e.seal;
}

abbrev pub engined : Kind → Engined
engined (kind.Whole e) = of_whole e
engined (kind.Sealed e) = of_sealed e

pub record Playing : Type 0 where
  pub engine : Play
  pub seal : Option Seal
  pub seen : Planes

-- what plays in a session
abbrev pub player_of : Playing → Engined
player_of s = record { play = s.engine; seal = s.seal }
