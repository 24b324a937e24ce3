use Rattle.std.proofs.Common.{◌≡◌, true, take, refl, sym, arith}
use Rattle.std.proofs.lemmas.List.{length-take-le}
use Rattle.niss_text.specs.declared.piece.Place.TheVariants.{Among}
use Rattle.niss_text.proofs.PlainLemmas.{later_behind}
use Rattle.niss_text.proofs.MovesLemmas.{one_line}
use Rattle.niss_text.proofs.moves.Joined.with_line.Goals as goal

pub returns-clause-adds : goal.returns-clause-adds
returns-clause-adds c room =
    let put : c.put_part.result.0.has_room ≡ true = c.end_line-pen.ensures.had room in
    let begun : c.begin_line-begun.result.has_room ≡ true = c.put_part.ensures.had put in
    one_line c.args.text.now c.part_of-part.result.now c.args.line.now (record { at = c.args.line.now.moves; place = Among }) c.args.self.gap c.args.self.before
    (take c.args.self.pen.length c.args.out.now) (take c.begin_line-begun.result.length c.begin_line-begun.new.out)
    (take c.put_part.result.0.length c.put_part.new.out) (take c.end_line-pen.result.length c.end_line-pen.new.out)
    (take c.args.self.pen.length c.args.places.now) (take c.begin_line-begun.result.length c.begin_line-begun.new.places)
    (take c.put_part.result.0.length c.put_part.new.places) (take c.end_line-pen.result.length c.end_line-pen.new.places)
    c.args.self.left_out c.left_around.result c.put_part.result.1 c.and-own.result c.and.result
    (record { begin = c.next_begin.result; end = c.end_line-pen.result.length; left_out = c.bits.result })
    refl refl c.part_of-part.ensures.is (c.begin_line-begun.ensures.written begun) (c.begin_line-begun.ensures.placed begun) (c.put_part.ensures.reads put)
    (c.end_line-pen.ensures.written room) (c.end_line-pen.ensures.placed room) c.left_around.ensures c.and-own.ensures c.and.ensures
    (omega (arith, c.next_begin.ensures, length-take-le c.args.self.pen.length c.args.out.now c.requires.0))
    (sym (length-take-le c.end_line-pen.result.length c.end_line-pen.new.out (omega (arith, c.end_line-pen.ensures.within.0, c.end_line-pen.auto.out))))
    c.bits.ensures

pub returns-clause-behind : goal.returns-clause-behind
returns-clause-behind c =
    later_behind c.put_part.result.0.length c.end_line-pen.result.length c.put_part.new.out c.end_line-pen.new.out c.args.out.now c.end_line-pen.ensures.further.0
    c.end_line-pen.ensures.behind
    (later_behind c.begin_line-begun.result.length c.put_part.result.0.length c.begin_line-begun.new.out c.put_part.new.out c.args.out.now
    c.put_part.ensures.further.0 c.put_part.ensures.behind c.begin_line-begun.ensures.behind)

pub returns-clause-behind_places : goal.returns-clause-behind_places
returns-clause-behind_places c =
    later_behind c.put_part.result.0.length c.end_line-pen.result.length c.put_part.new.places c.end_line-pen.new.places c.args.places.now c.end_line-pen.ensures.further.0
    c.end_line-pen.ensures.behind_places
    (later_behind c.begin_line-begun.result.length c.put_part.result.0.length c.begin_line-begun.new.places c.put_part.new.places c.args.places.now
    c.put_part.ensures.further.0 c.put_part.ensures.behind_places c.begin_line-begun.ensures.behind_places)
