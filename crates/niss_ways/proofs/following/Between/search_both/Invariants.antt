use Rattle.std.proofs.Common.{◌≡◌}
use Rattle.niss_ways.proofs.following.Between.search_both.Given as goal

abbrev pub invariant-loop-length : goal.invariant-loop-length
invariant-loop-length g l = l.looks.most ≡ l.initial.looks.most
