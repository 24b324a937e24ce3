use Rattle.std.proofs.Common.{subst, refl}
use Rattle.niss_ways.specs.Truth.{Origin, IsWay}
use Rattle.niss_ways.proofs.RoomLemmas.{keeps_taken}
use Rattle.niss_ways.proofs.first_steps.FirstSteps.take_row_of.Goals as goal

pub returns : goal.returns
returns g c =
    let s = c.args.self.now in
    let is : IsWay s.start.now c.in-Some-row_of_reduction.way = subst (λ (o : Origin). IsWay o c.in-Some-row_of_reduction.way) c.requires c.in-Some-row_of_reduction.ensures in
    keeps_taken s.start.now s.looks.most s.looks.most s.room.ghost_name s.count s.room.now c.in-Some-row_of_reduction.way c.take-self.result c.take-self.new.room refl is
    c.take-self.ensures.from c.take-self.ensures.sorted c.take-self.ensures.within c.take-self.ensures.length c.take-self.ensures.no_fewer c.take-self.ensures.kept c.take-self.ensures.in_turn c.take-self.ensures.no_worse
