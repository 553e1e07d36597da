use Rattle.std.proofs.Common.{◌∙◌, ap, filter}
use Rattle.std.specs.Str.{bytes_eq}
use Rattle.mh_stack.specs.Shelf.{Shelf}
use Rattle.mh_stack.proofs.ShelfLemmas.{kept_both}
use Rattle.mh_stack.proofs.stack.Stack.keep.Goals as goal

pub returns : goal.returns
returns c =
    kept_both c.args.application.now _ _ _ _ c.keep.ensures c.keep_of.ensures ∙ ap (λ (s : Shelf). filter (λ r. bytes_eq r.group c.args.application.now) s.places) c.self.view_is
