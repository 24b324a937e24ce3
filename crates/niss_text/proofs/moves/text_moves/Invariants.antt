use Rattle.std.proofs.Common.{◌≡◌, ◌+◌, ◌≤◌, true, length, take, drop}
use Rattle.std.specs.List.{filter}
use Rattle.niss_text.specs.Moves.{is_wanted, gap_of, most_bytes}
use Rattle.niss_text.proofs.MovesLemmas.{SoMany}
use Rattle.niss_text.proofs.moves.text_moves.Given as goal

abbrev pub invariant-loop-line : goal.invariant-loop-line
invariant-loop-line l = record {
  gap : l.joined.gap ≡ gap_of l.of;
  joined : l.joined.pen.has_room ≡ true → SoMany l.text l.of l.lines l.rest l.joined.before (take l.joined.pen.length l.out)
      (take l.joined.pen.length l.places) l.joined.left_out l.count l.parts;
  spent : l.joined.pen.length + most_bytes (filter (is_wanted l.of) l.rest) ≤ most_bytes (filter (is_wanted l.of) l.lines);
  room : most_bytes (filter (is_wanted l.of) l.lines) ≤ length l.out → most_bytes (filter (is_wanted l.of) l.lines) ≤ length l.places →
      l.joined.pen.has_room ≡ true;
  fits : l.joined.pen.length ≤ length l.out;
  fits_places : l.joined.pen.length ≤ length l.places;
  behind : drop l.joined.pen.length l.out ≡ drop l.joined.pen.length l.initial.out;
  behind_places : drop l.joined.pen.length l.places ≡ drop l.joined.pen.length l.initial.places;
  counted : l.count + length (filter (is_wanted l.of) l.rest) ≡ length (filter (is_wanted l.of) l.lines);
  few : l.count + length l.rest ≤ length l.lines;
  behind_parts : drop l.count l.parts ≡ drop l.count l.initial.parts;
}

abbrev pub decreases-loop-line : goal.decreases-loop-line
decreases-loop-line l = length l.rest
