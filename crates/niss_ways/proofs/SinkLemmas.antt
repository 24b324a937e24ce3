-- A sink that keeps its room, and keeps it again, keeps it.
use Rattle.niss_ways.specs.declared.first_steps.FirstSteps.{FirstSteps}
use Rattle.niss_ways.specs.Sinks.{Keeps, KeepsRows}
use Rattle.niss_ways.proofs.RoomLemmas.{keeps_none, keeps_more}

module _ {A : Type 0} where
  pub sink_none : (a : FirstSteps A) → Keeps a a
  sink_none a = keeps_none a.start.now a.looks.most a.room.ghost_name a.count a.room.now

  pub sink_more : (a m b : FirstSteps A) → Keeps a m → Keeps m b → Keeps a b
  sink_more a m b x y =
      keeps_more a.start.now a.looks.most a.room.ghost_name a.count a.room.now m.start.now m.looks.most m.room.ghost_name m.count m.room.now
      b.start.now b.looks.most b.room.ghost_name b.count b.room.now x y

  pub rows_more : (a m b : FirstSteps A) → KeepsRows a m → KeepsRows m b → KeepsRows a b
  rows_more a m b x y =
      keeps_more a.start.now 0 a.room.ghost_name a.count a.room.now m.start.now 0 m.room.ghost_name m.count m.room.now
      b.start.now 0 b.room.ghost_name b.count b.room.now x y
