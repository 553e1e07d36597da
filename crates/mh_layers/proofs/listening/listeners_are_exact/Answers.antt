use Rattle.mh_layers.proofs.LinkSumLemmas.{links_sum}
use Rattle.mh_layers.proofs.ListeningLemmas.{heard_is, hears_all, objects_numbered, values_numbered}
use Rattle.mh_layers.proofs.listening.listeners_are_exact.Goals as goal

pub returns : goal.returns
returns c = record {
  heard = heard_is;
  all = hears_all;
  objects = objects_numbered;
  values = values_numbered;
  sums = links_sum;
}
