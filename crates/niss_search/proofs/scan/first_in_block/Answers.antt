use Rattle.niss_search.proofs.Words.{arith, ◌≡◌, ◌==◌, ◌<◌, ℕ, eqb, sym, ap, ◌∙◌}
use Rattle.std.proofs.lemmas.Simd.{bitmask_splat, leading_from_mask_l, trailing_mask_l}
use mir.Syntax.{w8}
use lib.Count.{count_trailing_zeros}
use Rattle.niss_search.proofs.scan.first_in_block.Goals as goal

pub returns-then-mask-eq0 : goal.returns-then-mask-eq0
returns-then-mask-eq0 c =
    let m = bitmask_splat w8 eqb c.args.block.now 8 c.args.level c.told-block (omega arith) in
    sym (leading_from_mask_l (λ x. x == c.args.level) c.args.block.now (sym m ∙ c.if-mask-eq0.true) ∙ c.told-block)

pub returns-else-mask-eq0 : goal.returns-else-mask-eq0
returns-else-mask-eq0 c =
    let m = bitmask_splat w8 eqb c.args.block.now 8 c.args.level c.told-block (omega arith) in
    ap (count_trailing_zeros 64) m ∙ trailing_mask_l (λ x. x == c.args.level) 64 c.args.block.now (omega (arith, c.told-block)) (positive _ (λ e. c.if-mask-eq0.false (m ∙ e))) where
      positive : (n : ℕ) → (n ≡ 0 → ⊥) → 0 < n
      positive n h = grind arith
