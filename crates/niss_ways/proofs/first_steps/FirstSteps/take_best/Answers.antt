use Rattle.niss_ways.proofs.RoomLemmas.{keeps_looks, keeps_more}
use Rattle.niss_ways.proofs.first_steps.FirstSteps.take_best.Goals as goal

pub returns-in_err-best : goal.returns-in_err-best
returns-in_err-best g c =
    let s = c.args.self.now in keeps_looks s.start.now s.looks.most c.best.new.looks.most s.room.ghost_name s.count s.room.now c.best.ensures

pub returns : goal.returns
returns g c =
    let s = c.args.self.now in
    let t = c.take_row.new.self in
    let u = c.take_row-2.new.self in
    keeps_more s.start.now s.looks.most s.room.ghost_name s.count s.room.now t.start.now t.looks.most t.room.ghost_name t.count t.room.now
    u.start.now u.looks.most u.room.ghost_name u.count u.room.now
    (keeps_more s.start.now s.looks.most s.room.ghost_name s.count s.room.now s.start.now c.best.new.looks.most s.room.ghost_name s.count s.room.now
    t.start.now t.looks.most t.room.ghost_name t.count t.room.now
    (keeps_looks s.start.now s.looks.most c.best.new.looks.most s.room.ghost_name s.count s.room.now c.best.ensures) c.take_row.ensures)
    c.take_row-2.ensures
