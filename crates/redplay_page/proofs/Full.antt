-- What is known of an address by what is owned at it.
use mathlib.Core.Path.{◌≡◌, refl, sym, subst}
use mathlib.Core.Bool.{true, false}
use mathlib.Core.List.{[], ◌∷◌}
use lib.Dec.{lit<}
use seplogic.Ra.Ura.{Ura}
use mir.Raw.{raw as bare}
use mir.Syntax.{ptr_eq}
use mir.Val.{vbool, vnull, op2_val}
use base.Logic.{ent, via, never, never_e, fst∗, snd∗}
use types.Logic.{Logic, sem}
use types.Kit.{‵, ◌$◌, ◌∵◌, !, qed, by, feq_l}
use contract.Monad.{fact, fact_i, fact_mono}
use denote.Memory.{lone}
use denote.RawPtr.{Ptr, block_ptr, null_ptr, ptr_val, Testable}
use Rattle.core.specs.Ptr.{points_to}
use Rattle.std.specs.Prelude.{Option, Some, None, is_none}
use Rattle.std.specs.declared.alloc.Global.{Global}
use Rattle.std.specs.contracts.impls.GlobalAllocator.TheImpl.{ghosts}
use Rattle.std.proofs.GlobalToken.{dealloc_token-Testable}
use Rattle.redplay_page.specs.Owned.{owned}
use Rattle.redplay_page.specs.Playing.{Playing}
use Rattle.redplay_page.specs.contracts.session.Session.{the_row}

-- a session that is there
pub there : (o : Option Playing) → is_none o ≡ false → (s : Playing) × (o ≡ Some s)
there None e = absurd cc
there (Some s) e = (s, refl)

-- a session that is missing
pub missing : (o : Option Playing) → is_none o ≡ true → o ≡ None
missing None e = refl
missing (Some s) e = absurd cc

-- the address may be compared with null, and is null where nothing is there
abbrev pub Tests : Ptr → Option Playing → Type 0
Tests p o = Testable p × (op2_val ptr_eq (ptr_val p) vnull ≡ vbool (is_none o))

module _ {M : Type 1} {𝓤 : Ura M} (𝓛 : Logic 𝓤) (alloc : Global) where
  at_null : Tests null_ptr None
  at_null = (lit< tt, refl)

  pub tested : (p : Ptr) (o : Option Playing) → ent 𝓤 (sem 𝓛 (owned alloc p o)) (fact 𝓤 (Tests p o))
  tested p None = qed 𝓛 (‵ (owned alloc p None) ∷ []) ∵ feq_l ! (λ e. by ! (fact_i 𝓤 (Tests p None) _ (subst (λ (q : Ptr). Tests q None) (sym e) at_null)))
  tested null_ptr (Some s) = via 𝓤 (never 𝓤) (fst∗ 𝓤 (never 𝓤) (sem 𝓛 (ghosts.dealloc_token alloc (bare (lone the_row.mir)) null_ptr))) (never_e 𝓤 _)
  tested (block_ptr b o) (Some s) =
      let p : Ptr = block_ptr b o in let held = sem 𝓛 (ghosts.dealloc_token alloc (bare (lone the_row.mir)) p) in
      via 𝓤 held (snd∗ 𝓤 (sem 𝓛 (points_to the_row p s)) held)
      (via 𝓤 (fact 𝓤 (Testable p)) (dealloc_token-Testable 𝓛 alloc (bare (lone the_row.mir)) p) (fact_mono 𝓤 (Testable p) (Tests p (Some s)) (λ t. (t, refl))))
