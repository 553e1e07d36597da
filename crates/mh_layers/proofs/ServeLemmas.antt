-- Numbers serve where a service was read.
use Rattle.mh_layers.specs.Bridge.{IsRead, NumbersServe}
use Rattle.mh_layers.specs.Reading.{IsReading, Reading, flow_read, heard_read, name, number, price}
use Rattle.mh_layers.proofs.ListeningLemmas.{hears_all}
use Rattle.mh_layers.proofs.NumbersLemmas.{laid_by_number}
use Rattle.mh_layers.proofs.ReadingLemmas.{numbers_are_names}

pub read_of : (r : Reading) → IsReading r → IsRead r.service (flow_read r) (heard_read r)
read_of r read = record {
  service = read.flow.chart.service;
  keys = read.flow.chart.keys;
  hears = hears_all r.service (flow_read r) r.listeners read.listening;
}

pub serves : (r : Reading) → IsReading r → NumbersServe r.service (flow_read r) (heard_read r) (number r) (name r) (price r)
serves r read = laid_by_number r.service (flow_read r) (heard_read r) (read_of r read) (number r) (name r) (price r) (numbers_are_names r read)
