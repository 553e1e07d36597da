use Rattle.std.proofs.Common.{arith, ◌≤◌, ◌<◌, ◌++◌, ◌+◌, ◌*◌, ℕ, length, drop, ap, ◌∙◌, sym, subst}
use Rattle.std.specs.Prelude.{Vec}
use Rattle.std.specs.declared.alloc.Global.{Global}
use Rattle.mh_flow.specs.Rows.{places_from, IsWord}
use Rattle.mh_flow.proofs.RowLemmas.{found_number}
use Rattle.mh_flow.proofs.BitLemmas.{lent_length, lent_word, places_end, next_word, word_passed}
use Rattle.mh_flow.proofs.fixpoint.bits.Bits.places.Goals.{then-index-ne0+in_ok-put_places, else-index-ne0}
use Rattle.mh_flow.proofs.fixpoint.bits.Bits.places.Goals as goal

pub put_places-requires : goal.put_places-requires
put_places-requires c =
    let wide = lent_length c.args.self.now c.self.inside.words.items (64 * length c.self.inside.words.items) c.self.view_is in
    let less = subst (λ (n : ℕ). c.loop-at.at < n) (c.len-at-end.ensures ∙ c.self.inside.words.ok.0) c.loop-at-test.true in
    omega (arith, less, wide)

pub loop-at-preserved : goal.loop-at-preserved
loop-at-preserved c =
    let wide = lent_length c.args.self.now c.self.inside.words.items (64 * length c.self.inside.words.items) c.self.view_is in
    let there = subst (λ (n : ℕ). c.loop-at.at < n) (c.len-at-end.ensures ∙ c.self.inside.words.ok.0) c.loop-at-test.true in
    let within : 64 * c.loop-at.at + 64 ≤ length c.args.self.now = omega (arith, there, wide) in
    let word = lent_word c.args.self.now c.self.inside.words.items c.loop-at.at c.index.result.now c.self.view_is there
    (c.index.ensures ∙ found_number c.self.inside.words.items c.loop-at.at c.index.result.now there) in
    elim c.if-index-ne0.branch [
      | then-index-ne0+in_ok-put_places w ↦
          ap (λ (v : Vec ℕ Global). v.items ++ places_from (64 * (c.loop-at.at + 1)) (drop (64 * (c.loop-at.at + 1)) c.args.self.now)) w.found-is
          ∙ next_word c.args.self.now c.loop-at.at w.put_places.new.found.items
          ∙ w.in_ok-put_places.ensures ∙ c.loop-at.invariant
      | else-index-ne0 w ↦
          ap (λ (v : Vec ℕ Global). v.items ++ places_from (64 * (c.loop-at.at + 1)) (drop (64 * (c.loop-at.at + 1)) c.args.self.now)) w.found-is
          ∙ next_word c.args.self.now c.loop-at.at c.loop-at.found.items
          ∙ word_passed c.args.self.now c.loop-at.at c.loop-at.found.items within (subst (λ (n : ℕ). IsWord c.args.self.now c.loop-at.at n) w.if-index-ne0.false word)
          ∙ c.loop-at.invariant
    ]

pub returns : goal.returns
returns c =
    let wide = lent_length c.args.self.now c.self.inside.words.items (64 * length c.self.inside.words.items) c.self.view_is in
    let past = subst (λ (n : ℕ). n ≤ c.loop-at.at) (c.len-at-end.ensures ∙ c.self.inside.words.ok.0) c.loop-at-test.false in
    sym (places_end c.args.self.now (64 * c.loop-at.at) c.loop-at.found.items (omega (arith, past, wide))) ∙ c.loop-at.invariant
