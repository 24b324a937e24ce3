use Rattle.std.proofs.Common.{◌≡◌, ap, ◌∙◌, subst, List}
use Rattle.niss_moves.specs.declared.turn.Turn.{Turn}
use Rattle.niss_search.specs.BothSides.{Pair, pair}
use Rattle.niss_ways.specs.Listing.{PutOne}
use Rattle.niss_ways.proofs.ListingLemmas.{put_one, counted_one}
use Rattle.niss_ways.proofs.listing.RowsPairSink.take.Goals as goal

pub returns-then-self-2-clause-ok : goal.returns-then-self-2-clause-ok
returns-then-self-2-clause-ok c =
    let solution : c.of.result ≡ pair c.args.normal.now.turns c.args.inverse.now.turns =
    c.of.ensures ∙ ap (λ (ts : List Turn). pair ts c.turns-then-self-2.result.now) c.turns.ensures.value
    ∙ ap (λ (ts : List Turn). pair c.args.normal.now.turns ts) c.turns-then-self-2.ensures.value in
    put_one c.args.self.now c.put.new.self c.count-then-self-2.new.self (pair c.args.normal.now.turns c.args.inverse.now.turns)
    (subst (λ (p : Pair). PutOne c.args.self.now p c.put.new.self) solution c.put.ensures) c.count-then-self-2.ensures c.if-self.false c.if-self-2.true

pub returns-then-self-3-clause-ok : goal.returns-then-self-3-clause-ok
returns-then-self-3-clause-ok c =
    counted_one c.args.self.now c.count-then-self-3.new.self (pair c.args.normal.now.turns c.args.inverse.now.turns)
    c.count-then-self-3.ensures c.if-self-3.true c.if-self.false c.if-self-2.false
