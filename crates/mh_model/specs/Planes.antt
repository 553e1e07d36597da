-- Three planes of as many numbers as the picture has cells.
use Rattle.std.specs.Prelude.{◌≡◌, ℕ, List, length, replicate, slice_set}
use Rattle.mh_model.specs.declared.picture.cell.Cell.{Cell}

-- the characters, their colours and the colours behind them, row by row
pub record Planes : Type 0 where
  pub scalars : List ℕ
  pub fores : List ℕ
  pub backs : List ℕ

pub record IsWhole (p : Planes) : Type 0 where
  pub scalars : length p.scalars ≡ 2160
  pub fores : length p.fores ≡ 2160
  pub backs : length p.backs ≡ 2160

-- a plane of one number
unfoldable pub flat : ℕ → List ℕ
flat n = replicate 2160 n

-- black spaces
abbrev pub blank : Planes
blank = record { scalars = flat 32; fores = flat 0; backs = flat 0 }

-- the planes with this cell put at a place
abbrev pub with_cell : Planes → ℕ → Cell → Planes
with_cell p c x = record { scalars = slice_set p.scalars c x.scalar; fores = slice_set p.fores c x.fore; backs = slice_set p.backs c x.back }
