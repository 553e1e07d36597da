use Rattle.std.proofs.Common.{arith, ◌≡◌, ◌++◌, ◌<◌, ◌≤◌, ℕ, ◌+◌, ◌*◌, ◌^◌, List, length, drop, ap, ◌∙◌, sym, subst}
use Rattle.std.specs.Prelude.{Vec}
use Rattle.std.specs.declared.alloc.Global.{Global}
use Rattle.mh_flow.specs.Rows.{places_from}
use Rattle.mh_flow.proofs.RowLemmas.{found_number}
use Rattle.mh_flow.proofs.BitLemmas.{lent_length, lent_word, bit_found, bit_none, start_place, end_place}
use Rattle.mh_flow.proofs.fixpoint.bits.Bits.put_places.Goals.{then-is_set+in_ok-push, else-is_set}
use Rattle.mh_flow.proofs.fixpoint.bits.Bits.put_places.Goals as goal

pub index-word-requires : goal.index-word-requires
index-word-requires c =
    let wide = lent_length c.args.self.now c.self.inside.words.items (64 * length c.self.inside.words.items) c.self.view_is in
    let within : c.args.at < length c.self.inside.words.items = omega (arith, c.requires, wide) in
    subst (λ (n : ℕ). c.args.at < n) (sym c.self.inside.words.ok.0) within

pub overflow_mul-at : goal.overflow_mul-at
overflow_mul-at c =
    let wide = lent_length c.args.self.now c.self.inside.words.items (64 * length c.self.inside.words.items) c.self.view_is in
    let small : 64 * length c.self.inside.words.items ≤ 2 ^ 64 = c.self.invariant in
    omega (arith, c.requires, wide, small)

pub overflow_add-at : goal.overflow_add-at
overflow_add-at c =
    let wide = lent_length c.args.self.now c.self.inside.words.items (64 * length c.self.inside.words.items) c.self.view_is in
    let small : 64 * length c.self.inside.words.items ≤ 2 ^ 64 = c.self.invariant in
    omega (arith, c.requires, wide, small, c.loop-bit-test.true)

pub loop-bit-init : goal.loop-bit-init
loop-bit-init c = start_place c.args.self.now c.args.at c.args.found.now.items

pub loop-bit-preserved : goal.loop-bit-preserved
loop-bit-preserved c =
    let wide = lent_length c.args.self.now c.self.inside.words.items (64 * length c.self.inside.words.items) c.self.view_is in
    let there : c.args.at < length c.self.inside.words.items = omega (arith, c.requires, wide) in
    let within : 64 * c.args.at + 64 ≤ length c.args.self.now = omega (arith, there, wide) in
    let word = lent_word c.args.self.now c.self.inside.words.items c.args.at c.index-word.result.now c.self.view_is there
    (c.index-word.ensures ∙ found_number c.self.inside.words.items c.args.at c.index-word.result.now there) in
    elim c.if-is_set.branch [
      | then-is_set+in_ok-push w ↦
          ap (λ (xs : List ℕ). xs ++ places_from (64 * c.args.at + (c.loop-bit.bit + 1)) (drop (64 * c.args.at + (c.loop-bit.bit + 1)) c.args.self.now))
          (ap (λ (v : Vec ℕ Global). v.items) w.found-is ∙ w.in_ok-push.ensures.items)
          ∙ bit_found c.args.self.now c.args.at c.loop-bit.bit c.index-word.result.now c.loop-bit.found.items within c.loop-bit-test.true word (sym c.is_set.ensures ∙ w.if-is_set.true)
          ∙ c.loop-bit.invariant
      | else-is_set w ↦
          ap (λ (v : Vec ℕ Global). v.items ++ places_from (64 * c.args.at + (c.loop-bit.bit + 1)) (drop (64 * c.args.at + (c.loop-bit.bit + 1)) c.args.self.now)) w.found-is
          ∙ bit_none c.args.self.now c.args.at c.loop-bit.bit c.index-word.result.now c.loop-bit.found.items within c.loop-bit-test.true word (sym c.is_set.ensures ∙ w.if-is_set.false)
          ∙ c.loop-bit.invariant
    ]

pub returns : goal.returns
returns c =
    let last : c.loop-bit.bit ≡ 64 = omega (arith, c.loop-bit-test.false, c.loop-bit.auto.bit-end) in
    end_place c.args.self.now c.args.at c.loop-bit.bit c.loop-bit.found.items last ∙ c.loop-bit.invariant
