use Rattle.std.proofs.Common.{◌≡◌, []}
use Rattle.std.specs.List.{flat_map}
use Rattle.indexmap.specs.IndexSet.{insert_all}
use Rattle.mh_model.specs.Reference.{same_key}
use Rattle.mh_alive.specs.Puts.{all_puts, puts_of}
use Rattle.mh_alive.proofs.puts.Web.puts.Given as goal

abbrev pub invariant-loop-parts : goal.invariant-loop-parts
invariant-loop-parts l =
    insert_all same_key l.puts.keys (flat_map (puts_of l.self) l.parts-iterator) ≡ insert_all same_key [] (all_puts l.service l.self)
