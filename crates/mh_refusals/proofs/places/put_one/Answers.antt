use Rattle.std.specs.Prelude.{None, List}
use Rattle.std.specs.List.{position}
use Rattle.std.proofs.Common.{◌∙◌, ap, sym}
use Rattle.mh_verify.specs.declared.refusal.Found.{Found}
use Rattle.mh_refusals.specs.Places.{reaches}
use Rattle.mh_refusals.proofs.PlaceLemmas.{put_last}
use Rattle.mh_refusals.proofs.places.put_one.Goals as goal

pub returns-in_ok-push-in-None : goal.returns-in_ok-push-in-None
returns-in_ok-push-in-None c =
    c.in_ok-push-in-None.ensures.items
    ∙ sym (put_last c.args.found c.args.list.now.items (ap (position (reaches c.args.found)) (sym c.as_slice.ensures.value) ∙ sym c.in-None.ensures))
