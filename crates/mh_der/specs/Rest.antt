-- How contracts see an element that was read.
use Rattle.std.specs.Prelude.{ℕ}
use Rattle.mh_base.specs.Reading.{Rest}
use Rattle.mh_der.specs.declared.tag.Tag.{Tag}

-- an element: its tag, the offset of its first byte, and its contents
pub record Element : Type 0 where
  pub tag : Tag
  pub offset : ℕ
  pub contents : Rest
