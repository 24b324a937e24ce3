use Rattle.niss_search.proofs.Words.{arith, ◌≡◌, ◌≢◌, ◌+◌, ◌-◌, ℕ, List, drop, slice_index, get_or, sym, ap, ◌∙◌, subst, get_or-drop}
use Rattle.niss_search.proofs.ScanLemmas.{told-block, joined}
use Rattle.niss_search.proofs.scan.next_at.Goals as goal

pub returns-then-place-lt8-clause-found : goal.returns-then-place-lt8-clause-found
returns-then-place-lt8-clause-found c =
    let inv = c.loop-block.invariant in
    let block = told-block c.args.table.now c.args.from c.loop-block.block-index c.loop-block.at _ c.args.level c.as_chunks.result.0.now c.requires inv.blocks c.loop-block-test.true inv.at c.first_in_block-place.ensures in
    (omega arith, omega (arith, block.room), block.here c.if-place-lt8.true)

pub returns-then-place-lt8-clause-least : goal.returns-then-place-lt8-clause-least
returns-then-place-lt8-clause-least c =
    let inv = c.loop-block.invariant in
    let block = told-block c.args.table.now c.args.from c.loop-block.block-index c.loop-block.at _ c.args.level c.as_chunks.result.0.now c.requires inv.blocks c.loop-block-test.true inv.at c.first_in_block-place.ensures in
    joined (λ k. slice_index c.args.table.now k ≢ c.args.level) c.args.from c.loop-block.at c.first_in_block-place.result inv.passed block.differ

pub loop-block-preserved : goal.loop-block-preserved
loop-block-preserved c =
    let inv = c.loop-block.invariant in
    let block = told-block c.args.table.now c.args.from c.loop-block.block-index c.loop-block.at _ c.args.level c.as_chunks.result.0.now c.requires inv.blocks c.loop-block-test.true inv.at c.first_in_block-place.ensures in
    record {
      blocks = inv.blocks;
      rest = inv.rest;
      at = omega arith;
      passed = joined (λ k. slice_index c.args.table.now k ≢ c.args.level) c.args.from c.loop-block.at 8 inv.passed (λ k low high. block.differ k low (omega arith));
    }

pub loop-byte-preserved : goal.loop-byte-preserved
loop-byte-preserved c =
    let inv = c.loop-byte.invariant in
    let table = c.args.table.now in
    let same : c.loop-byte.at - c.loop-byte.byte-index ≡ c.loop-byte.at + 1 - (c.loop-byte.byte-index + 1) = omega arith in
    let back : c.loop-byte.at - c.loop-byte.byte-index + c.loop-byte.byte-index ≡ c.loop-byte.at = omega arith in
    let byte : get_or c.as_chunks.result.1.now c.loop-byte.byte-index 0 ≡ slice_index table c.loop-byte.at =
    ap (λ (l : List ℕ). get_or l c.loop-byte.byte-index 0) inv.rest ∙ get_or-drop (c.loop-byte.at - c.loop-byte.byte-index) table c.loop-byte.byte-index 0 ∙ ap (slice_index table) back in
    record {
      rest = inv.rest ∙ ap (λ n. drop n table) same;
      at = omega arith;
      passed = joined (λ k. slice_index table k ≢ c.args.level) c.args.from c.loop-byte.at 1 inv.passed (λ k low high.
          let here : k ≡ c.loop-byte.at = omega arith in
          subst (λ (j : ℕ). slice_index table j ≢ c.args.level) (sym here) (λ e. c.if-byte-level.false (byte ∙ e)));
    }
