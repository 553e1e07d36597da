use Rattle.mh_codec.proofs.tag_column.are_small.Goals as goal

pub returns : goal.returns
returns c = λ k. (c.type_inv.tags k).fits
