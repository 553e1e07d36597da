-- The least flow is exact, and the first of the moves that lead to a holder is the first chain.
use Rattle.std.proofs.Common.{◌≡◌, List, [], ◌∷◌, Option, Some, None, Vec, Result, Ok, Err, IfOk, IfSome, IfNone, sym, subst}
use Rattle.std.specs.declared.alloc.Global.{Global}
use Rattle.std.specs.declared.alloc.AllocError.{AllocError}
use Rattle.mh_base.specs.declared.obj_ref.ObjRef.{ObjRef}
use Rattle.mh_model.specs.declared.config.Config.{Config}
use Rattle.mh_model.specs.Service.{Service}
use Rattle.mh_laws.specs.Flow.{Flow}
use Rattle.mh_laws.specs.Least.{Derived, Held, IsLeast, Reached}
use Rattle.mh_flow.specs.declared.chain.link.Link.{Link}
use Rattle.mh_flow.specs.declared.chain.moves.Move.{Move}
use Rattle.mh_flow.specs.declared.chain.moves.Holder.{Holder}
use Rattle.mh_flow.specs.Chains.{Brings, IsFirstChain}
use Rattle.mh_flow.specs.Moves.{Follows, IsFirstOf}
use Rattle.mh_flow.specs.Steps.{IsExact, moves_of, holder_at}
use Rattle.mh_flow.proofs.ConfigLemmas.{among_of, member_of}
use Rattle.mh_flow.proofs.ContainsLemmas.{here}
use Rattle.mh_flow.proofs.PlaceLemmas.{lone}
use Rattle.mh_flow.proofs.ChainLemmas.{held_is_brought}
use Rattle.mh_flow.proofs.ChainStepLemmas.{brings_follows, follows_brings}
use Rattle.mh_laws.proofs.LeastLemmas.{derived_in_each}

pub is_exact : (v : Service) (w : Flow) → IsLeast v w → IsExact v w
is_exact v w least = record {
  reached = λ c d. member_of w.configs c (derived_in_each v w least.solution (Reached c) d);
  only_reached = λ c m. least.reached c (among_of w.configs c m);
  held = λ c r q d. derived_in_each v w least.solution (Held c r q) d;
  only_held = least.held;
}

pub first_chain : (v : Service) (w : Flow) → IsLeast v w → (q : ObjRef) (c : Config) (r : ObjRef) (ls : List Link) → IsFirstOf (moves_of v w (q ∷ [])) (holder_at c r) ls → IsFirstChain v q c r ls
first_chain v w least q c r ls first =
    let e = is_exact v w least in
    record {
      brings =
          let found = follows_brings v w e (q ∷ []) ls (holder_at c r) first.follows in
          subst (λ (x : ObjRef). Brings v x ls c r) (sym (lone q found.0 found.1)) found.2;
      shortest = λ ks b. first.shortest ks (brings_follows v w e (q ∷ []) q (here q []) ks c r b);
      first = λ ks b. first.first ks (brings_follows v w e (q ∷ []) q (here q []) ks c r b);
    }

pub no_chain : (v : Service) (w : Flow) → IsLeast v w → (q : ObjRef) (c : Config) (r : ObjRef) → ((ls : List Link) → Follows (moves_of v w (q ∷ [])) ls (holder_at c r) → ⊥) → Derived v (Held c r q) → ⊥
no_chain v w least q c r none d =
    let found = held_is_brought v q c r d in
    none found.0 (brings_follows v w (is_exact v w least) (q ∷ []) q (here q []) found.0 c r found.1)

-- In the words of the code.

abbrev Told : Type 0
Told = Result (Option (Vec Link Global)) AllocError

module _ (v : Service) (w : Flow) (least : IsLeast v w) (q : ObjRef) (c : Config) (r : ObjRef) (ms : List Move) (p : Holder) (same : ms ≡ moves_of v w (q ∷ [])) (at : p ≡ holder_at c r) where
  pub told_some : (x : Told) → IfOk x (λ found. IfSome found (λ links. IsFirstOf ms p links.items)) → IfOk x (λ found. IfSome found (λ links. IsFirstChain v q c r links.items))
  told_some (Ok (Some links)) h = first_chain v w least q c r links.items (subst (λ (x : Holder). IsFirstOf (moves_of v w (q ∷ [])) x links.items) at (subst (λ (xs : List Move). IsFirstOf xs p links.items) same h))
  told_some (Ok None) h = tt
  told_some (Err e) h = tt

  pub told_none : (x : Told) → IfOk x (λ found. IfNone found ((ls : List Link) → Follows ms ls p → ⊥)) → IfOk x (λ found. IfNone found (Derived v (Held c r q) → ⊥))
  told_none (Ok (Some links)) h = tt
  told_none (Ok None) h = no_chain v w least q c r (λ ls f. h ls (subst (λ (x : Holder). Follows ms ls x) (sym at) (subst (λ (xs : List Move). Follows xs ls (holder_at c r)) (sym same) f)))
  told_none (Err e) h = tt
