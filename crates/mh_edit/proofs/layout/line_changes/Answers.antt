use Rattle.std.proofs.Common.{◌≡◌, ◌≢◌, ℕ, ◌+◌, ◌-◌, ◌++◌, List, [], drop, length, ap, ap₂, ◌∙◌, sym, arith, append-nil, length-drop}
use Rattle.std.specs.List.{prefix_len}
use Rattle.mh_edit.specs.declared.layout.Change.{Change}
use Rattle.mh_edit.specs.Layout.{capped, change_at, depth_at, is_no_feed, next_behind}
use Rattle.mh_edit.proofs.LayoutLemmas.{ended, line_further, none_left, some_left}
use Rattle.mh_edit.proofs.layout.line_changes.Goals as goal

pub returns-then-is_empty : goal.returns-then-is_empty
returns-then-is_empty c =
    let none : c.loop.rest.now ≡ [] = none_left c.loop.rest.now (sym c.is_empty.ensures ∙ c.if-is_empty.true) in
    sym (append-nil c.loop.found.items)
    ∙ ap (λ (cs : List Change). c.loop.found.items ++ cs)
    (sym (ended (length c.args.bytes.now - c.loop.counter) c.loop.start c.loop.kept (c.loop.depth, c.loop.left.now) c.loop.rest.now none))
    ∙ c.loop.invariant.is

pub loop-preserved : goal.loop-preserved
loop-preserved c =
    let some : c.loop.rest.now ≢ [] = some_left c.loop.rest.now (sym c.is_empty.ensures ∙ c.if-is_empty.false) in
    let ends : c.saturating_add-end.result ≡ capped (c.loop.start + prefix_len is_no_feed c.loop.rest.now) =
    c.saturating_add-end.ensures ∙ ap (λ (n : ℕ). capped (c.loop.start + n)) c.line_size-size.ensures.is in
    let there : c.behind-rest.result.now ≡ drop (prefix_len is_no_feed c.loop.rest.now + 1) c.loop.rest.now =
    c.behind-rest.ensures ∙ ap (λ (n : ℕ). drop (n + 1) c.loop.rest.now) c.line_size-size.ensures.is in
    let sizes : length c.behind-rest.result.now ≡ length c.loop.rest.now - (prefix_len is_no_feed c.loop.rest.now + 1) =
    ap length there ∙ length-drop (prefix_len is_no_feed c.loop.rest.now + 1) c.loop.rest.now in
    record {
      few = omega (arith, sizes, c.loop.invariant.few);
      is = line_further (length c.args.bytes.now) c.loop.counter c.loop.start c.loop.kept (c.loop.depth, c.loop.left.now)
          (c.next_behind-next.result.depth, c.next_behind-next.result.left.now) c.loop.rest.now c.behind-rest.result.now c.loop.found.items
          c.push.new.self.items c.change_at-change.result c.saturating_add-start.result (c.saturating_sub-kept.result + 1) c.loop-test.true some
          (c.change_at-change.ensures ∙ ap (change_at c.loop.rest.now c.loop.kept)
          (c.depth_at.ensures ∙ ap (λ (n : ℕ). depth_at n c.loop.depth c.loop.left.now) ends))
          (c.next_behind-next.ensures ∙ ap (λ (n : ℕ). next_behind n c.loop.depth c.loop.left.now) ends)
          there
          (c.saturating_add-start.ensures ∙ ap (λ (n : ℕ). capped (n + 1)) ends)
          (ap (λ (n : ℕ). n + 1) (c.saturating_sub-kept.ensures
          ∙ ap₂ (λ (n m : ℕ). n - m) c.line_size-size.ensures.is (ap (λ (x : Change). x.old) c.change_at-change.ensures)))
          c.in_ok-push.ensures.items
          ∙ c.loop.invariant.is;
    }
