use Rattle.std.proofs.Common.{◌≡◌, ◌+◌, ◌-◌, ◌<◌, drop}
use Rattle.mh_model.specs.Lines.{last_space}
use Rattle.mh_model.specs.Scalars.{scalars_of}
use Rattle.mh_layout.proofs.TextLemmas.{IsRead}
use Rattle.mh_layout.proofs.breaking.wrap_first.Given as goal

abbrev pub invariant-loop-index : goal.invariant-loop-index
invariant-loop-index l = record {
  read : IsRead (scalars_of l.text) l.index (scalars_of l.rest);
  space : l.space ≡ last_space (l.index - 1) (scalars_of l.text);
  next : 0 < l.space → scalars_of l.next ≡ drop (l.space + 1) (scalars_of l.text);
}
