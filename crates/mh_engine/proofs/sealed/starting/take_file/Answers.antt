use Rattle.mh_engine.proofs.SealedLemmas.{found_at, found_nowhere}
use Rattle.mh_engine.proofs.sealed.starting.take_file.Goals as goal

pub returns-in-Some-clause-found : goal.returns-in-Some-clause-found
returns-in-Some-clause-found c =
    (found_at c.args.name.now c.args.files.now.items c.as_slice.result.now c.place_of.result c.in-Some.place c.remove.result c.as_slice.ensures.value c.place_of.ensures c.in-Some.is
    c.remove.ensures.value).0

pub returns-in-Some-clause-named : goal.returns-in-Some-clause-named
returns-in-Some-clause-named c =
    (found_at c.args.name.now c.args.files.now.items c.as_slice.result.now c.place_of.result c.in-Some.place c.remove.result c.as_slice.ensures.value c.place_of.ensures c.in-Some.is
    c.remove.ensures.value).1

pub returns-in-None-clause-found : goal.returns-in-None-clause-found
returns-in-None-clause-found c =
    found_nowhere c.args.name.now c.args.files.now.items c.as_slice.result.now c.place_of.result c.as_slice.ensures.value c.place_of.ensures c.in-None.is
