-- The words of a text are those of its lines, one behind the other, since no word goes over a line.
use Rattle.std.proofs.Common.{◌≡◌, ◌≢◌, ℕ, ◌⊎◌, inl, inr, Bool, true, false, List, [], ◌∷◌, ◌++◌, refl, ap, ap₂, sym, ◌∙◌, subst, arith, append_assoc}
use Rattle.mh_text.specs.Bytes.{is_space}
use Rattle.mh_text.specs.Words.{IsLine, IsGap, nothing, blank, comment, IsLastGap, IsWord, needs_gap, Written, AreWords}
use Rattle.mh_text.proofs.GapLemmas.{last_behind}
use Rattle.mh_text.proofs.WordLemmas.{begins}
use Rattle.mh_edit.proofs.WordLines.{feed_within, line_behind, line_rest, one_line, word_line}

-- A LINE FEED IN A LIST OF TWO PARTS

abbrev IsCutAt : List ℕ → List ℕ → List ℕ → List ℕ → Type 0
IsCutAt l rest xs ys = ((more : List ℕ) × (xs ≡ l ++ 10 ∷ more) × (rest ≡ more ++ ys)) ⊎ ((more : List ℕ) × (l ≡ xs ++ more) × (ys ≡ more ++ 10 ∷ rest))

cut_more : (b x : ℕ) (l rest xs ys : List ℕ) → b ≡ x → IsCutAt l rest xs ys → IsCutAt (b ∷ l) rest (x ∷ xs) ys
cut_more b x l rest xs ys is (inl (more, e, h)) = inl (more, ap₂ (λ (n : ℕ) (ns : List ℕ). n ∷ ns) (sym is) e, h)
cut_more b x l rest xs ys is (inr (more, e, h)) = inr (more, ap₂ (λ (n : ℕ) (ns : List ℕ). n ∷ ns) is e, h)

cut_at : (l rest xs ys : List ℕ) → l ++ 10 ∷ rest ≡ xs ++ ys → IsCutAt l rest xs ys
cut_at l rest [] ys e = inr (l, refl, sym e)
cut_at [] rest (x ∷ xs) ys e =
    let is : x ≡ 10 = cc in
    let behind : rest ≡ xs ++ ys = cc in
    inl (xs, ap (λ (n : ℕ). n ∷ xs) is, behind)
cut_at (b ∷ l) rest (x ∷ xs) ys e =
    let is : b ≡ x = cc in
    let behind : l ++ 10 ∷ rest ≡ xs ++ ys = cc in
    cut_more b x l rest xs ys is (cut_at l rest xs ys behind)

-- A TEXT THAT IS CUT BEHIND ITS FIRST LINE

slashes : (c d : ℕ) (l : List ℕ) → c ≡ 47 → d ≡ 47 → IsLine l → IsLastGap (c ∷ d ∷ l)
slashes c d l is also line = inr ([], l, nothing, line, ap₂ (λ (n m : ℕ). n ∷ m ∷ l) is also)

gap_cut : (g l rest : List ℕ) → IsGap g → g ≡ l ++ 10 ∷ rest → IsLine l → IsLastGap l × IsGap rest
gap_cut g [] rest nothing e line = absurd cc
gap_cut g (c ∷ l) rest nothing e line = absurd cc
gap_cut g [] rest (blank b bs h gap) e line = let behind : bs ≡ rest = cc in (inl nothing, subst IsGap behind gap)
gap_cut g (c ∷ l) rest (blank b bs h gap) e line =
    let is : b ≡ c = cc in
    let behind : bs ≡ l ++ 10 ∷ rest = cc in
    let found = gap_cut bs l rest gap behind (line_behind c l line) in
    (last_behind c l (subst (λ (x : ℕ). is_space x ≡ true) is h) found.0, found.1)
gap_cut g [] rest (comment above bs is_above gap) e line = let clash : ◌≡◌ {A = ℕ} 47 10 = cc in absurd (omega (arith, clash))
gap_cut g (c ∷ []) rest (comment above bs is_above gap) e line = let clash : ◌≡◌ {A = ℕ} 47 10 = cc in absurd (omega (arith, clash))
gap_cut g (c ∷ d ∷ l) rest (comment above bs is_above gap) e line =
    let first : c ≡ 47 = cc in
    let second : d ≡ 47 = cc in
    let behind : above ++ 10 ∷ bs ≡ l ++ 10 ∷ rest = cc in
    let is_line = line_behind d l (line_behind c (d ∷ l) line) in
    let same = one_line above l bs rest is_above is_line behind in
    (slashes c d l first second is_line, subst IsGap same.1 gap)

last_cut : (g last l rest : List ℕ) → IsGap g → IsLine last → g ++ 47 ∷ 47 ∷ last ≡ l ++ 10 ∷ rest → IsLine l → IsLastGap l × IsLastGap rest
last_cut g last [] rest nothing is_last e line = let clash : ◌≡◌ {A = ℕ} 47 10 = cc in absurd (omega (arith, clash))
last_cut g last (c ∷ []) rest nothing is_last e line = let clash : ◌≡◌ {A = ℕ} 47 10 = cc in absurd (omega (arith, clash))
last_cut g last (c ∷ d ∷ l) rest nothing is_last e line =
    let behind : last ≡ l ++ 10 ∷ rest = cc in
    absurd (feed_within l rest last behind is_last)
last_cut g last [] rest (blank b bs h gap) is_last e line =
    let behind : rest ≡ bs ++ 47 ∷ 47 ∷ last = cc in
    (inl nothing, inr (bs, last, gap, is_last, behind))
last_cut g last (c ∷ l) rest (blank b bs h gap) is_last e line =
    let is : b ≡ c = cc in
    let behind : bs ++ 47 ∷ 47 ∷ last ≡ l ++ 10 ∷ rest = cc in
    let found = last_cut bs last l rest gap is_last behind (line_behind c l line) in
    (last_behind c l (subst (λ (x : ℕ). is_space x ≡ true) is h) found.0, found.1)
last_cut g last [] rest (comment above bs is_above gap) is_last e line = let clash : ◌≡◌ {A = ℕ} 47 10 = cc in absurd (omega (arith, clash))
last_cut g last (c ∷ []) rest (comment above bs is_above gap) is_last e line = let clash : ◌≡◌ {A = ℕ} 47 10 = cc in absurd (omega (arith, clash))
last_cut g last (c ∷ d ∷ l) rest (comment above bs is_above gap) is_last e line =
    let first : c ≡ 47 = cc in
    let second : d ≡ 47 = cc in
    let behind : (above ++ 10 ∷ bs) ++ 47 ∷ 47 ∷ last ≡ l ++ 10 ∷ rest = cc in
    let is_line = line_behind d l (line_behind c (d ∷ l) line) in
    let same = one_line above l (bs ++ 47 ∷ 47 ∷ last) rest is_above is_line (sym (append_assoc above (10 ∷ bs) (47 ∷ 47 ∷ last)) ∙ behind) in
    (slashes c d l first second is_line, inr (bs, last, gap, is_last, sym same.1))

gap_parts : (bs l rest : List ℕ) → IsLastGap bs → bs ≡ l ++ 10 ∷ rest → IsLine l → IsLastGap l × IsLastGap rest
gap_parts bs l rest (inl gap) e line = let found = gap_cut bs l rest gap e line in (found.0, inl found.1)
gap_parts bs l rest (inr (gap, last, is_gap, is_last, h)) e line = last_cut gap last l rest is_gap is_last (sym h ∙ e) line

-- the words of the first line, and those of what is behind it
pub record IsParted (wants : Bool) (l rest : List ℕ) (ws : List Written) : Type 0 where
  pub front : List Written
  pub behind : List Written
  pub is : ws ≡ front ++ behind
  pub line : AreWords wants l front
  pub others : AreWords false rest behind

text_in : (wants : Bool) (l rest gap more after : List ℕ) (w : Written) (ws : List Written) → IsGap gap → IsWord w.kind w.text
    → (wants ≡ true → needs_gap w.kind ≡ true → gap ≢ []) → IsLine l → l ≡ gap ++ after
    → ((last : List ℕ) → more ≡ last ++ 10 ∷ rest → IsLine last → IsParted (needs_gap w.kind) last rest ws)
    → IsCutAt after rest w.text more → IsParted wants l rest (w ∷ ws)
text_in wants l rest gap more after w ws is_gap word parted line e further (inl (inside, h, _)) =
    absurd (feed_within after inside w.text h (word_line w.kind w.text word))
text_in wants l rest gap more after w ws is_gap word parted line e further (inr (last, h, there)) =
    let whole : l ≡ (gap ++ w.text) ++ last = e ∙ ap (λ (x : List ℕ). gap ++ x) h ∙ sym (append_assoc gap w.text last) in
    let found = further last there (line_rest (gap ++ w.text) last (subst IsLine whole line)) in
    record {
      front = w ∷ found.front;
      behind = found.behind;
      is = ap (λ (x : List Written). w ∷ x) found.is;
      line = (gap, last, is_gap, whole, word, parted, found.line);
      others = found.others;
    }

gap_in : (wants : Bool) (l rest gap more : List ℕ) (w : Written) (ws : List Written) → IsGap gap → IsWord w.kind w.text
    → (wants ≡ true → needs_gap w.kind ≡ true → gap ≢ []) → AreWords (needs_gap w.kind) more ws → IsLine l
    → ((last : List ℕ) → more ≡ last ++ 10 ∷ rest → IsLine last → IsParted (needs_gap w.kind) last rest ws)
    → IsCutAt l rest gap (w.text ++ more) → IsParted wants l rest (w ∷ ws)
gap_in wants l rest gap more w ws is_gap word parted behind line further (inl (inside, e, h)) =
    let found = gap_cut gap l inside is_gap e line in
    record {
      front = [];
      behind = w ∷ ws;
      is = refl;
      line = found.0;
      others = (inside, more, found.1, h ∙ sym (append_assoc inside w.text more), word, (λ t n none. absurd cc), behind);
    }
gap_in wants l rest gap more w ws is_gap word parted behind line further (inr (after, e, h)) =
    text_in wants l rest gap more after w ws is_gap word parted line e further (cut_at after rest w.text more (sym h))

pub words_cut : (wants : Bool) (bs l rest : List ℕ) (ws : List Written) → AreWords wants bs ws → bs ≡ l ++ 10 ∷ rest → IsLine l → IsParted wants l rest ws
words_cut wants bs l rest [] last e line =
    let found = gap_parts bs l rest last e line in
    record { front = []; behind = []; is = refl; line = found.0; others = found.1 }
words_cut wants bs l rest (w ∷ ws) (gap, more, is_gap, h, word, parted, behind) e line =
    gap_in wants l rest gap more w ws is_gap word parted behind line (λ last there is_last. words_cut (needs_gap w.kind) more last rest ws behind there is_last)
    (cut_at l rest gap (w.text ++ more) (sym e ∙ h ∙ append_assoc gap w.text more))

-- A TEXT THAT IS PUT TOGETHER OF LINES

gap_join : (g h : List ℕ) → IsGap g → IsGap h → IsGap (g ++ h)
gap_join g h nothing more = more
gap_join g h (blank b bs is gap) more = blank b (bs ++ h) is (gap_join bs h gap more)
gap_join g h (comment line bs is_line gap) more =
    subst (λ (x : List ℕ). IsGap (47 ∷ 47 ∷ x)) (sym (append_assoc line (10 ∷ bs) h)) (comment line (bs ++ h) is_line (gap_join bs h gap more))

line_gap : (l : List ℕ) → IsLastGap l → IsGap (l ++ 10 ∷ [])
line_gap l (inl gap) = gap_join l (10 ∷ []) gap (blank 10 [] refl nothing)
line_gap l (inr (gap, line, is_gap, is_line, e)) =
    subst (λ (x : List ℕ). IsGap (x ++ 10 ∷ [])) (sym e)
    (subst IsGap (sym (append_assoc gap (47 ∷ 47 ∷ line) (10 ∷ []))) (gap_join gap (47 ∷ 47 ∷ (line ++ 10 ∷ [])) is_gap (comment line [] is_line nothing)))

last_join : (g bs : List ℕ) → IsGap g → IsLastGap bs → IsLastGap (g ++ bs)
last_join g bs is_gap (inl gap) = inl (gap_join g bs is_gap gap)
last_join g bs is_gap (inr (gap, line, also, is_line, e)) =
    inr (g ++ gap, line, gap_join g gap is_gap also, is_line, ap (λ (x : List ℕ). g ++ x) e ∙ sym (append_assoc g gap (47 ∷ 47 ∷ line)))

some_gap : (l gap : List ℕ) → (l ++ 10 ∷ []) ++ gap ≢ []
some_gap [] gap none = absurd cc
some_gap (b ∷ l) gap none = absurd cc

front_join : (wants : Bool) (l rest : List ℕ) (ws : List Written) → IsLastGap l → AreWords false rest ws → AreWords wants (l ++ 10 ∷ rest) ws
front_join wants l rest [] last words = subst IsLastGap (append_assoc l (10 ∷ []) rest) (last_join (l ++ 10 ∷ []) rest (line_gap l last) words)
front_join wants l rest (w ∷ ws) last (gap, more, is_gap, e, word, parted, behind) =
    let front = l ++ 10 ∷ [] in (
      front ++ gap,
      more,
      gap_join front gap (line_gap l last) is_gap,
      sym (append_assoc l (10 ∷ []) rest) ∙ ap (λ (x : List ℕ). front ++ x) e ∙ sym (append_assoc front (gap ++ w.text) more)
          ∙ ap (λ (x : List ℕ). x ++ more) (sym (append_assoc front gap w.text)),
      word,
      (λ t n none. some_gap l gap none),
      behind,
    )

pub words_join : (wants : Bool) (l rest : List ℕ) (front behind : List Written) → AreWords wants l front → AreWords false rest behind
    → AreWords wants (l ++ 10 ∷ rest) (front ++ behind)
words_join wants l rest [] behind last words = front_join wants l rest behind last words
words_join wants l rest (w ∷ front) behind (gap, more, is_gap, e, word, parted, others) words = (
  gap,
  more ++ 10 ∷ rest,
  is_gap,
  ap (λ (x : List ℕ). x ++ 10 ∷ rest) e ∙ append_assoc (gap ++ w.text) more (10 ∷ rest),
  word,
  parted,
  words_join (needs_gap w.kind) more rest front behind others words,
)

-- BLANKS IN FRONT

pub space_put : (b : ℕ) (bs : List ℕ) (ws : List Written) → is_space b ≡ true → AreWords false bs ws → AreWords false (b ∷ bs) ws
space_put b bs [] is last = last_behind b bs is last
space_put b bs (w ∷ ws) is (gap, more, is_gap, e, word, parted, behind) =
    (b ∷ gap, more, blank b gap is is_gap, ap (λ (x : List ℕ). b ∷ x) e, word, (λ t n none. absurd cc), behind)

no_slash : (b : ℕ) → b ≡ 47 → is_space b ≡ true → ⊥
no_slash b is space = let clash : false ≡ true = subst (λ (x : ℕ). is_space x ≡ true) is space in absurd (cc clash)

gap_behind : (g : List ℕ) (b : ℕ) (bs : List ℕ) → IsGap g → g ≡ b ∷ bs → is_space b ≡ true → IsGap bs
gap_behind g b bs nothing e is = absurd cc
gap_behind g b bs (blank c cs h gap) e is = let behind : cs ≡ bs = cc in subst IsGap behind gap
gap_behind g b bs (comment line cs is_line gap) e is = let slash : b ≡ 47 = cc in absurd (no_slash b slash is)

last_left : (b : ℕ) (bs gap line : List ℕ) → is_space b ≡ true → IsGap gap → IsLine line → b ∷ bs ≡ gap ++ 47 ∷ 47 ∷ line → IsLastGap bs
last_left b bs [] line is is_gap is_line e = let slash : b ≡ 47 = cc in absurd (no_slash b slash is)
last_left b bs (c ∷ gap) line is is_gap is_line e =
    let same : c ≡ b = cc in
    let behind : bs ≡ gap ++ 47 ∷ 47 ∷ line = cc in
    inr (gap, line, gap_behind (c ∷ gap) b gap is_gap (ap (λ (x : ℕ). x ∷ gap) same) is, is_line, behind)

word_left : (b : ℕ) (bs gap more : List ℕ) (w : Written) (ws : List Written) → is_space b ≡ true → IsGap gap → IsWord w.kind w.text
    → b ∷ bs ≡ (gap ++ w.text) ++ more → AreWords (needs_gap w.kind) more ws → AreWords false bs (w ∷ ws)
word_left b bs [] more w ws is is_gap word e behind =
    let first = begins w.kind w.text word in
    let whole : b ∷ bs ≡ (first.first ∷ first.others) ++ more = e ∙ ap (λ (x : List ℕ). x ++ more) first.is in
    let same : first.first ≡ b = cc in
    let clash : true ≡ false = sym is ∙ subst (λ (x : ℕ). is_space x ≡ false) same first.no_space in
    absurd (cc clash)
word_left b bs (c ∷ gap) more w ws is is_gap word e behind =
    let same : c ≡ b = cc in
    let rest : bs ≡ (gap ++ w.text) ++ more = cc in
    (gap, more, gap_behind (c ∷ gap) b gap is_gap (ap (λ (x : ℕ). x ∷ gap) same) is, rest, word, (λ t n none. absurd cc), behind)

pub space_taken : (b : ℕ) (bs : List ℕ) (ws : List Written) → is_space b ≡ true → AreWords false (b ∷ bs) ws → AreWords false bs ws
space_taken b bs [] is (inl gap) = inl (gap_behind (b ∷ bs) b bs gap refl is)
space_taken b bs [] is (inr (gap, line, is_gap, is_line, e)) = last_left b bs gap line is is_gap is_line e
space_taken b bs (w ∷ ws) is (gap, more, is_gap, e, word, parted, behind) = word_left b bs gap more w ws is is_gap word e behind
