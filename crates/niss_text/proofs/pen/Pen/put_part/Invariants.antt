use Rattle.std.proofs.Common.{◌≡◌, ◌+◌, ◌*◌, ◌≤◌, true, length, take, drop}
use Rattle.niss_text.specs.declared.piece.Place.TheVariants.{Among}
use Rattle.niss_text.proofs.PlainLemmas.{SoFar}
use Rattle.niss_text.proofs.pen.Pen.put_part.Given as goal

abbrev pub invariant-loop-rest : goal.invariant-loop-rest
invariant-loop-rest l = record {
  read : SoFar l.part l.rest l.from l.place (take l.fn.self.length l.initial.out) (take l.pen.length l.out) (take l.fn.self.length l.initial.places)
      (take l.pen.length l.places) l.gone;
  among : l.from.place ≡ Among → l.place ≡ Among;
  left : length l.rest ≤ length l.part;
  had : l.pen.has_room ≡ true;
  fits : l.pen.length ≤ l.room;
  further : l.fn.self.length ≤ l.pen.length;
  enough : l.pen.length + 3 * length l.rest ≤ l.fn.self.length + 3 * length l.part;
  behind : drop l.pen.length l.out ≡ drop l.pen.length l.initial.out;
  behind_places : drop l.pen.length l.places ≡ drop l.pen.length l.initial.places;
}

abbrev pub decreases-loop-rest : goal.decreases-loop-rest
decreases-loop-rest l = length l.rest
