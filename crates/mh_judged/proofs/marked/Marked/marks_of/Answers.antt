use Rattle.std.proofs.Common.{rules, ◌≡◌, List, ap, subst, sym, ◌∙◌}
use Rattle.std.specs.Option.{option_copied}
use Rattle.std.specs.Prelude.{Option, slice_get}
use Rattle.mh_text.specs.declared.mark.Mark.{Mark}
use Rattle.mh_told.specs.Reading.{Source}
use Rattle.mh_places.specs.Directory.{AreBeside, IsFound, file_of}
use Rattle.mh_places.proofs.DirectoryLemmas.{none_found, one_found}
use Rattle.mh_judged.specs.Places.{IsMarked}
use Rattle.mh_judged.proofs.marked.Marked.marks_of.Goals as goal

pub returns-in-Some : goal.returns-in-Some
returns-in-Some c =
    let g = c.args.group.now in
    let here = c.self.inside.marks.items in
    let found : option_copied c.marks_at.result ≡ slice_get here c.in-Some.number = c.marks_at.ensures ∙ ap (λ (ms : List (List Mark)). slice_get ms c.in-Some.number) c.as_slice.ensures.value in
    let are : AreBeside IsMarked c.args.self.now here = subst (λ (fs : List Source). AreBeside IsMarked fs here) c.self.view_is c.self.invariant in
    subst (λ (o : Option (List Mark)). IsFound IsMarked (file_of c.args.self.now g) o) (sym found)
    (one_found IsMarked c.args.self.now here g c.in-Some.number are (search rules))

pub returns-in-None : goal.returns-in-None
returns-in-None c = none_found {T = List Mark} IsMarked c.args.self.now c.args.group.now (search rules)
