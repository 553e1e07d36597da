use Rattle.std.proofs.Common.{◌≡◌, ◌++◌, drop}
use Rattle.std.specs.List.{filter, flat_map}
use Rattle.mh_why.specs.Sources.{is_meant, shown_mark}
use Rattle.mh_why.proofs.explanation.place.named.put_named_in.Given as goal

abbrev pub invariant-loop-mark : goal.invariant-loop-mark
invariant-loop-mark l =
    l.text ++ flat_map (shown_mark l.source) (filter (is_meant l.sought l.source.text) (drop l.mark-index l.marks))
    ≡ l.initial.text ++ flat_map (shown_mark l.source) (filter (is_meant l.sought l.source.text) l.marks)
