-- The numbers of attributes.
use Rattle.std.proofs.Common.{◌<◌, ◌≤◌, arith}
use Rattle.mh_group.specs.declared.attribute.Attribute.{Attribute}
use Rattle.mh_group.specs.declared.attribute.Attribute.TheVariants as attribute
use Rattle.mh_group.specs.Table.{attribute_number}

pub number_above : (a : Attribute) → 0 < attribute_number a
number_above attribute.Items = omega arith
number_above _ = omega arith

pub number_small : (a : Attribute) → attribute_number a ≤ 38
number_small attribute.Items = omega arith
number_small _ = omega arith
