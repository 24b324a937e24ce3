use Rattle.std.proofs.Common.{ℕ, ◌<◌, ◌+◌, List, length, sym, subst, arith}
use Rattle.niss_text.proofs.KnownLemmas.{CountNone, CountAlone, SaidNone, SaidOnce, none_counted, alone_counted, none_beyond, alone_beyond, none_said, once_said, none_unsaid, once_unsaid}
use Rattle.niss_text.proofs.known.count_numbers.Goals.{then-part-counts, else-part-counts}
use Rattle.niss_text.proofs.known.count_numbers.Goals as goal

pub loop-part-preserved : goal.loop-part-preserved
loop-part-preserved c =
    let inv = c.loop-part.invariant in
    let parts = c.args.parts.now in
    let counts : List ℕ = c.loop-part.counts in
    let n : ℕ = c.loop-part.part-index in
    let room : n < length parts = c.loop-part-test.true in
    elim c.if-part-counts.branch [
      | then-part-counts w ↦ record {
        none = subst (λ (cs : List ℕ). SaidNone parts cs (n + 1)) (sym w.counts-is)
            (none_said parts counts n w.saturating_add.result _ room inv.none w.if-part-counts.true (λ e. omega (arith, e, w.saturating_add.ensures)));
        once = subst (λ (cs : List ℕ). SaidOnce parts cs (n + 1)) (sym w.counts-is)
            (once_said parts counts n w.saturating_add.result _ room inv.none inv.once w.if-part-counts.true (λ e. omega (arith, e, w.saturating_add.ensures)));
        zero = subst (λ (cs : List ℕ). CountNone parts cs (n + 1)) (sym w.counts-is) (none_counted parts counts n w.saturating_add.result room inv.zero _);
        one = subst (λ (cs : List ℕ). CountAlone parts cs (n + 1)) (sym w.counts-is)
            (alone_counted parts counts n w.saturating_add.result _ room inv.zero inv.one w.if-part-counts.true (λ e. omega (arith, e, w.saturating_add.ensures)));
      }
      | else-part-counts w ↦ record {
        none = subst (λ (cs : List ℕ). SaidNone parts cs (n + 1)) (sym w.counts-is) (none_unsaid parts counts n _ room w.if-part-counts.false inv.none);
        once = subst (λ (cs : List ℕ). SaidOnce parts cs (n + 1)) (sym w.counts-is) (once_unsaid parts counts n _ room w.if-part-counts.false inv.once);
        zero = subst (λ (cs : List ℕ). CountNone parts cs (n + 1)) (sym w.counts-is) (none_beyond parts counts n inv.zero);
        one = subst (λ (cs : List ℕ). CountAlone parts cs (n + 1)) (sym w.counts-is) (alone_beyond parts counts n _ room w.if-part-counts.false inv.one);
      }
    ]
