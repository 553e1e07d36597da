-- Lists of members up to a closing parenthesis, and fields up to a closing brace, one at a time.
use Rattle.std.proofs.Common.{◌≡◌, ℕ, zero, suc, ◌+◌, ◌-◌, ◌<◌, Bool, true, false, ◌&&◌, nat_le, if◌then◌else◌, List, [], ◌∷◌, ◌++◌, length, get_or, drop, Option, Some, None, Result, Ok, refl, ap, sym, ◌∙◌, subst, arith, length-drop}
use Rattle.std.proofs.Math.Seq.{drop-cons}
use Rattle.mh_base.specs.Reading.{refused, ◌>>=◌}
use Rattle.mh_base.proofs.ReadingLemmas.{fails_bind}
use Rattle.mh_group.specs.declared.class.Class.{Class}
use Rattle.mh_group.specs.declared.shape.Need.{Need}
use Rattle.mh_group.specs.declared.action.Parameter.{Parameter}
use Rattle.mh_group.specs.declared.written.Field.{Field}
use Rattle.mh_text.specs.declared.text_error.TextError.{TextError}
use Rattle.mh_text.specs.declared.text_error.Why.TheVariants.{Limit}
use Rattle.mh_text.specs.Rest.{Left, Piece}
use Rattle.mh_text.specs.Gives.{Refusal, Fails, told}
use Rattle.mh_text.specs.Reading.{next, is_close, parameter, parameters, closed_list, listed, next_member, fields, next_field, placed}

module _ {A : Type 0} (member : Piece → Left → Result (A × Left) Refusal) where
  pub listed_fails : (n : ℕ) (done : List A) (left : Left) (error : TextError) → 0 < n → Fails error (next_member member left) → Fails error (listed member n done left)
  unfolding listed
  listed_fails zero done left error some h = absurd (omega arith)
  listed_fails (suc n) done left error some h = fails_bind (told error) (next_member member left) _ h

  pub listed_done : (n : ℕ) (done : List A) (left rest : Left) (o : Option A) → 0 < n → next_member member left ≡ Ok (o, rest) → o ≡ None → listed member n done left ≡ Ok (done, rest)
  unfolding listed
  listed_done zero done left rest o some e h = absurd (omega arith)
  listed_done (suc n) done left rest o some e h = rw (e, h) refl

  pub listed_more : (n k : ℕ) (done more : List A) (left rest : Left) (o : Option A) (x : A) → k + 1 ≡ n → next_member member left ≡ Ok (o, rest) → o ≡ Some x → more ≡ done ++ x ∷ []
      → listed member k more rest ≡ listed member n done left
  unfolding listed
  listed_more zero k done more left rest o x h e s m = absurd (omega arith)
  listed_more (suc n) k done more left rest o x h e s m =
      let same : k ≡ n = omega arith in
      rw (e, s, m, same) refl

  -- a list that may take no more members
  pub listed_full : (n : ℕ) (done : List A) (left behind : Left) → n ≡ 0 → closed_list left ≡ Ok behind → listed member n done left ≡ Ok (done, behind)
  unfolding listed
  listed_full zero done left behind z e = rw e refl
  listed_full (suc n) done left behind z e = absurd (omega arith)

  pub listed_full_fails : (n : ℕ) (done : List A) (left : Left) (error : TextError) → n ≡ 0 → Fails error (closed_list left) → Fails error (listed member n done left)
  unfolding listed
  listed_full_fails zero done left error z h = fails_bind (told error) (closed_list left) _ h
  listed_full_fails (suc n) done left error z h = absurd (omega arith)

pub fields_fail : (c : Class) (n : ℕ) (done : List Field) (left : Left) (error : TextError) → 0 < n → Fails error (next_field c done left) → Fails error (fields c n done left)
unfolding fields
fields_fail c zero done left error some h = absurd (omega arith)
fields_fail c (suc n) done left error some h = fails_bind (told error) (next_field c done left) _ h

pub fields_done : (c : Class) (n : ℕ) (done : List Field) (left rest : Left) (o : Option Field) (p : Piece) → 0 < n → next_field c done left ≡ Ok (o, p, rest) → o ≡ None → fields c n done left ≡ Ok (done, p, rest)
unfolding fields
fields_done c zero done left rest o p some e h = absurd (omega arith)
fields_done c (suc n) done left rest o p some e h = rw (e, h) refl

pub fields_more : (c : Class) (n k : ℕ) (done more : List Field) (left rest : Left) (o : Option Field) (f : Field) (p : Piece) → k + 1 ≡ n → next_field c done left ≡ Ok (o, p, rest) → o ≡ Some f → more ≡ placed f done
    → fields c k more rest ≡ fields c n done left
unfolding fields
fields_more c zero k done more left rest o f p h e s m = absurd (omega arith)
fields_more c (suc n) k done more left rest o f p h e s m =
    let same : k ≡ n = omega arith in
    rw (e, s, m, same) refl

-- fields that may be no more
pub fields_over : (c : Class) (n : ℕ) (done : List Field) (left rest : Left) (p : Piece) → n ≡ 0 → next left ≡ Ok (p, rest) → fields c n done left ≡ refused Limit p.start
unfolding fields
fields_over c zero done left rest p z e = rw e refl
fields_over c (suc n) done left rest p z e = absurd (omega arith)

pub fields_over_fail : (c : Class) (n : ℕ) (done : List Field) (left : Left) (error : TextError) → n ≡ 0 → Fails error (next left) → Fails error (fields c n done left)
unfolding fields
fields_over_fail c zero done left error z h = fails_bind (told error) (next left) _ h
fields_over_fail c (suc n) done left error z h = absurd (omega arith)

-- The parameters that are needed from a place on. That place has one.
pub at_place : {A : Type 0} (xs : List A) (i : ℕ) (d : A) → i < length xs → drop i xs ≡ get_or xs i d ∷ drop (i + 1) xs
at_place xs i d below =
    let next : i + 1 ≡ suc i = omega arith in
    drop-cons xs i d below ∙ ap (λ (n : ℕ). get_or xs i d ∷ drop n xs) (sym next)

module _ (optional : ℕ) (needs : List Need) (i : ℕ) (d : Need) (done : List Parameter) (left : Left) (below : i < length needs) where
  abbrev may_end : Piece → Bool
  may_end p = nat_le (length needs - i) optional && is_close p.sign

  -- what is read there, as the reader sees it
  step : parameters optional (drop i needs) done left
      ≡ (next left >>= λ a. if may_end a.0 then Ok (done, a.1) else (parameter (get_or needs i d) a.0 a.1 >>= λ x. parameters optional (drop (i + 1) needs) (done ++ x.0 ∷ []) x.1))
  step =
      let here = at_place needs i d below in
      let long : length (get_or needs i d ∷ drop (i + 1) needs) ≡ length needs - i = ap length (sym here) ∙ length-drop i needs in
      ap (λ ns. parameters optional ns done left) here
      ∙ ap (λ (m : ℕ). next left >>= λ a. if nat_le m optional && is_close a.0.sign then Ok (done, a.1)
      else (parameter (get_or needs i d) a.0 a.1 >>= λ x. parameters optional (drop (i + 1) needs) (done ++ x.0 ∷ []) x.1)) long

  pub parameters_fail : (error : TextError) → Fails error (next left) → Fails error (parameters optional (drop i needs) done left)
  parameters_fail error h = subst (Fails error) (sym step) (fails_bind (told error) (next left) _ h)

  pub parameters_done : (p : Piece) (rest : Left) → next left ≡ Ok (p, rest) → true ≡ may_end p → parameters optional (drop i needs) done left ≡ Ok (done, rest)
  parameters_done p rest e h = step ∙ rw (e, sym h) refl

  pub parameter_fails : (error : TextError) (p : Piece) (rest : Left) → next left ≡ Ok (p, rest) → false ≡ may_end p → Fails error (parameter (get_or needs i d) p rest)
      → Fails error (parameters optional (drop i needs) done left)
  parameter_fails error p rest e h fails = subst (Fails error) (sym step) (rw (e, sym h) (fails_bind (told error) (parameter (get_or needs i d) p rest) _ fails))

  pub parameters_more : (p : Piece) (rest behind : Left) (x : Parameter) (more : List Parameter) → next left ≡ Ok (p, rest) → false ≡ may_end p
      → parameter (get_or needs i d) p rest ≡ Ok (x, behind) → more ≡ done ++ x ∷ []
      → parameters optional (drop (i + 1) needs) more behind ≡ parameters optional (drop i needs) done left
  parameters_more p rest behind x more e h f m = sym (step ∙ rw (e, sym h, f, m) refl)
