-- The first of the moves of several references that lead to a holder is the first of their chains.
use Rattle.std.proofs.Common.{◌≡◌, List, [], ◌∷◌, sym, subst, ◌∙◌}
use Rattle.std.specs.List.{Contains}
use Rattle.std.specs.declared.cmp.Ordering.TheVariants.{Equal}
use Rattle.std.specs.Cmp.Lexicographic.{slice_cmp}
use Rattle.mh_base.specs.declared.obj_ref.ObjRef.{ObjRef}
use Rattle.mh_model.specs.declared.config.Config.{Config}
use Rattle.mh_model.specs.Service.{Service}
use Rattle.mh_laws.specs.Flow.{Flow}
use Rattle.mh_laws.specs.Least.{Derived, Held, IsLeast}
use Rattle.mh_flow.specs.declared.chain.link.Link.{Link}
use Rattle.mh_flow.specs.declared.chain.moves.Move.{Move}
use Rattle.mh_flow.specs.declared.chain.moves.Holder.{Holder}
use Rattle.mh_flow.specs.Chains.{Brings, by_action_site}
use Rattle.mh_flow.specs.Chart.{with_references}
use Rattle.mh_flow.specs.Moves.{Follows, IsFirstOf}
use Rattle.mh_flow.specs.Nearest.{IsNearest}
use Rattle.mh_flow.specs.Origins.{AreOrigins}
use Rattle.mh_flow.specs.Steps.{moves_of, holder_at}
use Rattle.mh_flow.proofs.ChainExactLemmas.{is_exact}
use Rattle.mh_flow.proofs.ChainLemmas.{held_is_brought}
use Rattle.mh_flow.proofs.ChainStepLemmas.{among, is_among, brings_follows, follows_brings}
use Rattle.mh_flow.proofs.ChartLemmas.{any_references}
use Rattle.mh_flow.proofs.OriginLemmas.{Begins, brings_begins, first_level, level_begun}

-- References that are put together, each once, are those.

once_among : (qs : List ObjRef) (q : ObjRef) → Contains (with_references [] qs) q → Contains qs q
once_among qs q m = among q qs (sym (any_references q [] qs) ∙ is_among q (with_references [] qs) m)

among_once : (qs : List ObjRef) (q : ObjRef) → Contains qs q → Contains (with_references [] qs) q
among_once qs q m = among q (with_references [] qs) (any_references q [] qs ∙ is_among q qs m)

-- Links that are level begin with links of one place.

level_origin : (v : Service) (os qs : List ObjRef) (ls : List Link) → AreOrigins v qs ls os → (p q : ObjRef) → Begins v p ls → (ks : List Link) → Begins v q ks → Contains qs q → slice_cmp by_action_site ks ls ≡ Equal → Contains os q
level_origin v os qs ls origins p q (l, rest, is, there) ks (k, others, at, own) m level =
    let heads : slice_cmp by_action_site (k ∷ others) (l ∷ rest) ≡ Equal = subst (λ (xs : List Link). slice_cmp by_action_site xs (l ∷ rest) ≡ Equal) at (subst (λ (xs : List Link). slice_cmp by_action_site ks xs ≡ Equal) is level) in
    origins.each l rest q is m (subst (λ (xs : List ObjRef). Contains xs q) (level_begun v k l (first_level k l others rest heads)) own)

module _ (v : Service) (w : Flow) (least : IsLeast v w) (qs : List ObjRef) (c : Config) (r : ObjRef) where
  follows : (q : ObjRef) (ks : List Link) → Contains qs q → Brings v q ks c r → Follows (moves_of v w (with_references [] qs)) ks (holder_at c r)
  follows q ks m b = brings_follows v w (is_exact v w least) (with_references [] qs) q (among_once qs q m) ks c r b

  nearest_is : (ls : List Link) (os : List ObjRef) → IsFirstOf (moves_of v w (with_references [] qs)) (holder_at c r) ls → AreOrigins v (with_references [] qs) ls os → IsNearest v c r qs ls os
  nearest_is ls os first origins =
      let one = follows_brings v w (is_exact v w least) (with_references [] qs) ls (holder_at c r) first.follows in
      let begins = brings_begins v one.0 ls c r one.2 in
      record {
        among = λ q m. once_among qs q (origins.among q m);
        brought = (one.0, origins.each begins.0 begins.1 one.0 begins.2 one.1 begins.3, one.2);
        shortest = λ q ks m b. first.shortest ks (follows q ks m b);
        first = λ q ks m b. first.first ks (follows q ks m b);
        level = λ q ks m b level. level_origin v os (with_references [] qs) ls origins one.0 q begins ks (brings_begins v q ks c r b) (among_once qs q m) level;
      }

  none_held : ((ls : List Link) → Follows (moves_of v w (with_references [] qs)) ls (holder_at c r) → ⊥) → (q : ObjRef) → Contains qs q → Derived v (Held c r q) → ⊥
  none_held none q m d =
      let found = held_is_brought v q c r d in
      none found.0 (follows q found.0 m found.1)

  -- In the words of the code.

  module _ (keys : List ObjRef) (ms : List Move) (p : Holder) (once : keys ≡ with_references [] qs) (same : ms ≡ moves_of v w keys) (at : p ≡ holder_at c r) where
    moves_are : ms ≡ moves_of v w (with_references [] qs)
    moves_are = same ∙ (λ i. moves_of v w (once i))

    pub told_nearest : (ls : List Link) (os : List ObjRef) → IsFirstOf ms p ls → AreOrigins v keys ls os → IsNearest v c r qs ls os
    told_nearest ls os first origins =
        nearest_is ls os
        (subst (λ (x : Holder). IsFirstOf (moves_of v w (with_references [] qs)) x ls) at (subst (λ (xs : List Move). IsFirstOf xs p ls) moves_are first))
        (subst (λ (ks : List ObjRef). AreOrigins v ks ls os) once origins)

    pub told_unheld : ((ls : List Link) → Follows ms ls p → ⊥) → (q : ObjRef) → Contains qs q → Derived v (Held c r q) → ⊥
    told_unheld none = none_held (λ ls f.
        none ls (subst (λ (x : Holder). Follows ms ls x) (sym at) (subst (λ (xs : List Move). Follows xs ls (holder_at c r)) (sym moves_are) f)))
