-- Where a text breaks off, line by line: at a line that is not there, or behind one that is.
use Rattle.std.specs.Prelude.{◌≡◌, ◌+◌, ◌++◌, ◌∷◌, ◌&&◌, Bool, List, [], length, suc, refl, true, ℕ}
use Rattle.std.specs.List.{list_all}
use Rattle.std.specs.Cmp.Derive.{both_true}
use Rattle.std.proofs.Common.{ap, append-nil, arith, subst, sym, ◌∙◌}
use Rattle.std.proofs.lemmas.List.{append_assoc}
use Rattle.mh_seal.specs.declared.seal_error.SealError.{SealError}
use Rattle.mh_seal.specs.declared.seal_error.SealError.TheVariants as error
use Rattle.mh_seal.specs.Breaking.{Begins, BreaksOff, IsBreak, joined}
use Rattle.mh_seal.specs.Lines.{AreLines, HasLine, HasNoLine, IsMissing, is_plain}
use Rattle.mh_seal.specs.Text.{line, lines}
use Rattle.mh_seal.proofs.LineLemmas.{cut_same, lacks_joined, line_is, line_same}
use Rattle.mh_seal.proofs.TruthLemmas.{and_left, and_right}

-- One text that begins with a line, and another behind it

module _ {X Y : Type 0} (good_x : X → Bool) (text_x : X → List ℕ) (good_y : Y → Bool) (text_y : Y → List ℕ) where
  -- what stands behind the line goes on as before
  pub shifted : (head bytes rest : List ℕ) (n : ℕ) → is_plain head ≡ true → bytes ≡ (head ++ 10 ∷ []) ++ rest →
      ((x : X) → good_x x ≡ true → (y : Y) × (good_y y ≡ true) × (text_y y ≡ (head ++ 10 ∷ []) ++ text_x x)) →
      ((y : Y) (t : List ℕ) → good_y y ≡ true → text_y y ≡ (head ++ 10 ∷ []) ++ t → (x : X) × (good_x x ≡ true) × (text_x x ≡ t)) →
      BreaksOff good_x text_x rest n → BreaksOff good_y text_y bytes (suc n)
  shifted head bytes rest n plain is to back b = record {
    before = head ∷ b.before;
    behind = b.behind;
    parted = is ∙ ap (λ (t : List ℕ). (head ++ 10 ∷ []) ++ t) b.parted ∙ sym (append_assoc (head ++ 10 ∷ []) (joined b.before) b.behind);
    are_lines = both_true plain b.are_lines;
    count = ap (λ (m : ℕ). suc m) b.count;
    begun = begun_so b.begun;
    wrong = λ l more p e begins. b.wrong l more p e (unbegun l begins);
    none = λ y g e. unread (back y rest g (sym e ∙ is));
  }
    where
      begun_so : Begins good_x text_x (joined b.before) → Begins good_y text_y ((head ++ 10 ∷ []) ++ joined b.before)
      begun_so x =
          let y = to x.0 x.2 in
          (y.0, x.1, y.1, y.2 ∙ ap (λ (t : List ℕ). (head ++ 10 ∷ []) ++ t) x.3 ∙ sym (append_assoc (head ++ 10 ∷ []) (joined b.before) x.1))

      unbegun : (l : List ℕ) → Begins good_y text_y (((head ++ 10 ∷ []) ++ joined b.before) ++ (l ++ 10 ∷ [])) → Begins good_x text_x (joined b.before ++ (l ++ 10 ∷ []))
      unbegun l y =
          let x = back y.0 ((joined b.before ++ (l ++ 10 ∷ [])) ++ y.1) y.2 (y.3 ∙ ap (λ (t : List ℕ). t ++ y.1) (append_assoc (head ++ 10 ∷ []) (joined b.before) (l ++ 10 ∷ [])) ∙ append_assoc (head ++ 10 ∷ []) (joined b.before ++ (l ++ 10 ∷ [])) y.1) in
          (x.0, y.1, x.1, x.2)

      unread : (x : X) × (good_x x ≡ true) × (text_x x ≡ rest) → ⊥
      unread x = b.none x.0 x.1 (sym x.2)

  -- the same texts of other values
  pub carried : (bytes : List ℕ) (n : ℕ) →
      ((x : X) → good_x x ≡ true → (y : Y) × (good_y y ≡ true) × (text_y y ≡ text_x x)) →
      ((y : Y) → good_y y ≡ true → (x : X) × (good_x x ≡ true) × (text_x x ≡ text_y y)) →
      BreaksOff good_x text_x bytes n → BreaksOff good_y text_y bytes n
  carried bytes n to back b = record {
    before = b.before;
    behind = b.behind;
    parted = b.parted;
    are_lines = b.are_lines;
    count = b.count;
    begun = begun_so b.begun;
    wrong = λ l more p e begins. b.wrong l more p e (unbegun l begins);
    none = λ y g e. unread y e (back y g);
  }
    where
      begun_so : Begins good_x text_x (joined b.before) → Begins good_y text_y (joined b.before)
      begun_so x = let y = to x.0 x.2 in (y.0, x.1, y.1, y.2 ∙ x.3)

      unbegun : (l : List ℕ) → Begins good_y text_y (joined b.before ++ (l ++ 10 ∷ [])) → Begins good_x text_x (joined b.before ++ (l ++ 10 ∷ []))
      unbegun l y = let x = back y.0 y.2 in (x.0, y.1, x.1, x.2 ∙ y.3)

      unread : (y : Y) → bytes ≡ text_y y → (x : X) × (good_x x ≡ true) × (text_x x ≡ text_y y) → ⊥
      unread y e x = b.none x.0 x.1 (e ∙ sym x.2)

  pub carried_break : (first : ℕ) (bytes : List ℕ) (e : SealError) →
      ((x : X) → good_x x ≡ true → (y : Y) × (good_y y ≡ true) × (text_y y ≡ text_x x)) →
      ((y : Y) → good_y y ≡ true → (x : X) × (good_x x ≡ true) × (text_x x ≡ text_y y)) →
      IsBreak good_x text_x first bytes e → IsBreak good_y text_y first bytes e
  carried_break first bytes (error.Line m) to back h = (h.0, h.1, carried bytes h.0 to back h.2)
  carried_break first bytes error.Version to back h = h
  carried_break first bytes error.NoMemory to back h = h

-- Texts that go on behind one line, or behind so many

abbrev pub one_good : {V X : Type 0} → (V → Bool) → (X → Bool) → V × X → Bool
one_good good good_x p = good p.0 && good_x p.1

abbrev pub one_text : {V X : Type 0} → List ℕ → (V → List ℕ) → (X → List ℕ) → V × X → List ℕ
one_text word spelling text_x p = line word (spelling p.0) ++ text_x p.1

abbrev pub many_good : {V X : Type 0} → (V → Bool) → (X → Bool) → List V × X → Bool
many_good good good_x p = list_all good p.0 && good_x p.1

abbrev pub many_text : {V X : Type 0} → List ℕ → (V → List ℕ) → (X → List ℕ) → List V × X → List ℕ
many_text word spelling text_x p = lines word spelling p.0 ++ text_x p.1

-- the first of some lines, and what stands behind it
first_of : (ls : List (List ℕ)) (l : List ℕ) → list_all is_plain ls ≡ true → is_plain l ≡ true → (f t : List ℕ) × (is_plain f ≡ true) × (joined ls ++ (l ++ 10 ∷ []) ≡ (f ++ 10 ∷ []) ++ t)
first_of [] l p q = (l, [], q, sym (append-nil (l ++ 10 ∷ [])))
first_of (k ∷ ls) l p q = (k, joined ls ++ (l ++ 10 ∷ []), and_left (is_plain k) (list_all is_plain ls) p, append_assoc (k ++ 10 ∷ []) (joined ls) (l ++ 10 ∷ []))

line_ended : (word value : List ℕ) → line word value ≡ (word ++ value) ++ 10 ∷ []
unfolding line
line_ended word value = refl

module _ {V X : Type 0} (word : List ℕ) (good : V → Bool) (spelling : V → List ℕ) (w : is_plain word ≡ true) (plain : (x : V) → good x ≡ true → is_plain (spelling x) ≡ true) (good_x : X → Bool) (text_x : X → List ℕ) where
  -- a line of this word that begins so is that line
  lines_clash : (u : V) (f s t more rest bytes : List ℕ) → good u ≡ true → is_plain f ≡ true → line word (spelling u) ++ s ≡ ((f ++ 10 ∷ []) ++ t) ++ more → bytes ≡ ((f ++ 10 ∷ []) ++ t) ++ rest → HasNoLine good spelling word bytes → ⊥
  lines_clash u f s t more rest bytes g p e is none =
      let cut = cut_same 10 (word ++ spelling u) f s (t ++ more) (lacks_joined 10 word (spelling u) w (plain u g)) p (sym (line_is word (spelling u) s) ∙ e ∙ append_assoc (f ++ 10 ∷ []) t more ∙ append_assoc f (10 ∷ []) (t ++ more)) in
      none w u (t ++ rest) g (plain u g) (is ∙ append_assoc (f ++ 10 ∷ []) t rest ∙ append_assoc f (10 ∷ []) (t ++ rest) ∙ ap (λ (h : List ℕ). h ++ 10 ∷ (t ++ rest)) (sym cut.0) ∙ sym (line_is word (spelling u) (t ++ rest)))

  -- the line is not there
  at_line : (v : V) (x : X) (bytes : List ℕ) → good v ≡ true → good_x x ≡ true → HasNoLine good spelling word bytes → BreaksOff (one_good good good_x) (one_text word spelling text_x) bytes 0
  at_line v x bytes fit fits none = record {
    before = [];
    behind = bytes;
    parted = refl;
    are_lines = refl;
    count = refl;
    begun = ((v, x), one_text word spelling text_x (v, x), both_true fit fits, refl);
    wrong = λ l rest p e b. lines_clash (b.0).0 l (text_x (b.0).1) [] b.1 rest bytes (and_left (good (b.0).0) (good_x (b.0).1) b.2) p (b.3 ∙ ap (λ (t : List ℕ). t ++ b.1) (sym (append-nil (l ++ 10 ∷ [])))) (e ∙ sym (append_assoc l (10 ∷ []) rest) ∙ ap (λ (t : List ℕ). t ++ rest) (sym (append-nil (l ++ 10 ∷ [])))) none;
    none = λ p g e. none w p.0 (text_x p.1) (and_left (good p.0) (good_x p.1) g) (plain p.0 (and_left (good p.0) (good_x p.1) g)) e;
  }

  pub here_break : (v : V) (x : X) (first : ℕ) (bytes : List ℕ) (e : SealError) → good v ≡ true → good_x x ≡ true → IsMissing good spelling word first bytes e → IsBreak (one_good good good_x) (one_text word spelling text_x) first bytes e
  here_break v x first bytes (error.Line m) fit fits h = (0, h.0 ∙ omega arith, at_line v x bytes fit fits h.1)
  here_break v x first bytes error.Version fit fits h = h
  here_break v x first bytes error.NoMemory fit fits h = h

  -- the line is there
  past_line : (v : V) (bytes rest : List ℕ) (n : ℕ) → HasLine good spelling word bytes v rest → BreaksOff good_x text_x rest n → BreaksOff (one_good good good_x) (one_text word spelling text_x) bytes (suc n)
  past_line v bytes rest n has b =
      shifted good_x text_x (one_good good good_x) (one_text word spelling text_x) (word ++ spelling v) bytes rest n (lacks_joined 10 word (spelling v) w (plain v has.0)) (has.1 ∙ ap (λ (t : List ℕ). t ++ rest) (line_ended word (spelling v)))
      (λ x g. ((v, x), both_true has.0 g, ap (λ (t : List ℕ). t ++ text_x x) (line_ended word (spelling v))))
      (λ p t g e. (p.1, and_right (good p.0) (good_x p.1) g, (line_same word (spelling p.0) (spelling v) (text_x p.1) t w (plain p.0 (and_left (good p.0) (good_x p.1) g)) (plain v has.0) (e ∙ ap (λ (s : List ℕ). s ++ t) (sym (line_ended word (spelling v))))).1))
      b

  pub behind_break : (v : V) (first second : ℕ) (bytes rest : List ℕ) (e : SealError) → HasLine good spelling word bytes v rest → second ≡ first + 1 → IsBreak good_x text_x second rest e → IsBreak (one_good good good_x) (one_text word spelling text_x) first bytes e
  behind_break v first second bytes rest (error.Line m) has next h =
      let k = h.0 in let at = h.1 in (suc k, omega (arith, at, next), past_line v bytes rest k has h.2)
  behind_break v first second bytes rest error.Version has next h = h
  behind_break v first second bytes rest error.NoMemory has next h = h

  -- as many lines as there are
  module _ (apart : (x : X) → good_x x ≡ true → HasNoLine good spelling word (text_x x)) where
    none_there : (bytes : List ℕ) (n : ℕ) → HasNoLine good spelling word bytes → BreaksOff good_x text_x bytes n → BreaksOff (many_good good good_x) (many_text word spelling text_x) bytes n
    none_there bytes n no_line b = record {
      before = b.before;
      behind = b.behind;
      parted = b.parted;
      are_lines = b.are_lines;
      count = b.count;
      begun = (([], (b.begun).0), (b.begun).1, (b.begun).2, (b.begun).3);
      wrong = λ l rest p e begins. unbegun l rest p e (begins.0).0 (begins.0).1 begins.1 begins.2 begins.3;
      none = λ p g e. unread p.0 p.1 g e;
    }
      where
        unbegun : (l rest : List ℕ) → is_plain l ≡ true → b.behind ≡ l ++ 10 ∷ rest → (us : List V) (x : X) (more : List ℕ) → many_good good good_x (us, x) ≡ true → many_text word spelling text_x (us, x) ≡ (joined b.before ++ (l ++ 10 ∷ [])) ++ more → ⊥
        unbegun l rest p e [] x more g is = b.wrong l rest p e (x, more, g, is)
        unbegun l rest p e (u ∷ us) x more g is =
            let f = first_of b.before l b.are_lines p in
            lines_clash u f.0 (lines word spelling us ++ text_x x) f.1 more rest bytes (and_left (good u) (list_all good us) (and_left (good u && list_all good us) (good_x x) g)) f.2
            (sym (append_assoc (line word (spelling u)) (lines word spelling us) (text_x x)) ∙ is ∙ ap (λ (t : List ℕ). t ++ more) f.3)
            (b.parted ∙ ap (λ (t : List ℕ). joined b.before ++ t) (e ∙ sym (append_assoc l (10 ∷ []) rest)) ∙ sym (append_assoc (joined b.before) (l ++ 10 ∷ []) rest) ∙ ap (λ (t : List ℕ). t ++ rest) f.3)
            no_line

        unread : (us : List V) (x : X) → many_good good good_x (us, x) ≡ true → bytes ≡ many_text word spelling text_x (us, x) → ⊥
        unread [] x g e = b.none x g e
        unread (u ∷ us) x g e =
            let fit = and_left (good u) (list_all good us) (and_left (good u && list_all good us) (good_x x) g) in
            no_line w u (lines word spelling us ++ text_x x) fit (plain u fit) (e ∙ append_assoc (line word (spelling u)) (lines word spelling us) (text_x x))

    one_there : (v : V) (bytes rest : List ℕ) (n : ℕ) → HasLine good spelling word bytes v rest → BreaksOff (many_good good good_x) (many_text word spelling text_x) rest n → BreaksOff (many_good good good_x) (many_text word spelling text_x) bytes (suc n)
    one_there v bytes rest n has b =
        shifted (many_good good good_x) (many_text word spelling text_x) (many_good good good_x) (many_text word spelling text_x) (word ++ spelling v) bytes rest n (lacks_joined 10 word (spelling v) w (plain v has.0)) (has.1 ∙ ap (λ (t : List ℕ). t ++ rest) (line_ended word (spelling v)))
        (λ p g. ((v ∷ p.0, p.1), both_true (both_true has.0 (and_left (list_all good p.0) (good_x p.1) g)) (and_right (list_all good p.0) (good_x p.1) g), append_assoc (line word (spelling v)) (lines word spelling p.0) (text_x p.1) ∙ ap (λ (t : List ℕ). t ++ (lines word spelling p.0 ++ text_x p.1)) (line_ended word (spelling v))))
        (λ p t g e. back p.0 p.1 t g (e ∙ ap (λ (s : List ℕ). s ++ t) (sym (line_ended word (spelling v)))))
        b
      where
        back : (us : List V) (x : X) (t : List ℕ) → many_good good good_x (us, x) ≡ true → many_text word spelling text_x (us, x) ≡ line word (spelling v) ++ t → (p : List V × X) × (many_good good good_x p ≡ true) × (many_text word spelling text_x p ≡ t)
        back [] x t g e = absurd (apart x g w v t has.0 (plain v has.0) e)
        back (u ∷ us) x t g e =
            let fits = and_left (good u && list_all good us) (good_x x) g in
            let fit = and_left (good u) (list_all good us) fits in
            ((us, x), both_true (and_right (good u) (list_all good us) fits) (and_right (good u && list_all good us) (good_x x) g), (line_same word (spelling u) (spelling v) (lines word spelling us ++ text_x x) t w (plain u fit) (plain v has.0) (sym (append_assoc (line word (spelling u)) (lines word spelling us) (text_x x)) ∙ e)).1)

    pub all_there : (vs : List V) (bytes rest : List ℕ) (n k : ℕ) → k ≡ length vs + n → list_all good vs ≡ true → bytes ≡ lines word spelling vs ++ rest → HasNoLine good spelling word rest → BreaksOff good_x text_x rest n → BreaksOff (many_good good good_x) (many_text word spelling text_x) bytes k
    all_there [] bytes rest n k many p is no_line b =
        let same : n ≡ k = omega (arith, many) in
        subst (λ (m : ℕ). BreaksOff (many_good good good_x) (many_text word spelling text_x) bytes m) same
        (subst (λ (t : List ℕ). BreaksOff (many_good good good_x) (many_text word spelling text_x) t n) (sym is) (none_there rest n no_line b))
    all_there (v ∷ vs) bytes rest n k many p is no_line b =
        let same : suc (length vs + n) ≡ k = omega (arith, many) in
        subst (λ (m : ℕ). BreaksOff (many_good good good_x) (many_text word spelling text_x) bytes m) same
        (one_there v bytes (lines word spelling vs ++ rest) (length vs + n) (and_left (good v) (list_all good vs) p, is ∙ append_assoc (line word (spelling v)) (lines word spelling vs) rest)
        (all_there vs (lines word spelling vs ++ rest) rest n (length vs + n) refl (and_right (good v) (list_all good vs) p) refl no_line b))

    pub all_break : (vs : List V) (first second : ℕ) (bytes rest : List ℕ) (e : SealError) → AreLines good spelling word bytes vs rest → second ≡ first + length vs → IsBreak good_x text_x second rest e → IsBreak (many_good good good_x) (many_text word spelling text_x) first bytes e
    all_break vs first second bytes rest (error.Line m) are next h =
        let k = h.0 in let at = h.1 in (length vs + k, omega (arith, at, next), all_there vs bytes rest k (length vs + k) refl are.0 are.1 are.2 h.2)
    all_break vs first second bytes rest error.Version are next h = h
    all_break vs first second bytes rest error.NoMemory are next h = h
