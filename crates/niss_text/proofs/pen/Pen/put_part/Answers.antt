use Rattle.std.proofs.Common.{◌≡◌, ◌+◌, ◌-◌, ◌≤◌, ◌++◌, ℕ, List, length, take, drop, replicate, refl, sym, ap, ◌∙◌, arith, rules}
use Rattle.std.proofs.lemmas.List.{length-take-le, length-drop, get_or-take}
use Rattle.niss_text.specs.declared.piece.Piece.{Piece}
use Rattle.niss_text.specs.Pieces.{IsFirst, written, is_before_moves}
use Rattle.niss_text.specs.LeftOut.{left_of, both}
use Rattle.niss_text.proofs.PlainLemmas.{nothing_read, one_more, so_far_is, same_behind}
use Rattle.niss_text.proofs.pen.Pen.put_part.Goals as goal

pub loop-rest-init : goal.loop-rest-init
loop-rest-init c = record {
  read = nothing_read c.args.part.now c.args.from (take c.args.self.length c.args.out.now) (take c.args.self.length c.args.places.now)
      c.none-gone.result c.none-gone.ensures;
  among = λ is. is;
  left = omega arith;
  had = search rules;
  fits = omega arith;
  further = omega arith;
  enough = omega arith;
  behind = refl;
  behind_places = refl;
}

pub loop-rest-preserved : goal.loop-rest-preserved
loop-rest-preserved c =
    let part : List ℕ = c.args.part.now in
    let rest : List ℕ = c.loop-rest.rest.now in
    let out : List ℕ = c.loop-rest.out in
    let places : List ℕ = c.loop-rest.places in
    let kind : Piece = c.first_piece-piece.result.0 in
    let n : ℕ = c.first_piece-piece.result.1 in
    let count : ℕ = c.written-count.result.1 in
    let begun : ℕ = c.args.self.length in
    let far : ℕ = c.loop-rest.pen.length in
    let inv = c.loop-rest.invariant in
    let w : List ℕ = take count c.written-count.result.0 in
    let first : IsFirst rest kind n = c.first_piece-piece.ensures.first in
    let is : w ≡ written kind (take n rest) = c.written-count.ensures.is (take n rest) first.is (get_or-take n rest 0 0 first.some) in
    let short : count ≤ 3 = c.written-count.ensures.short in
    let long : length w ≡ count = length-take-le count c.written-count.result.0 (omega arith) in
    let at : ℕ = c.args.from.at + (length part - length rest) in
    let one = one_more part rest c.args.from c.loop-rest.place c.after-place.result (take begun c.args.out.now) (take far out) (take begun c.args.places.now) (take far places) c.loop-rest.gone
    kind n at w inv.read first (λ among. c.first_piece-piece.ensures.untitled (ap is_before_moves (inv.among among)))
    c.first_piece-piece.ensures.number c.after-place.ensures.begin c.first_piece-piece.ensures.title c.after-place.ensures.before c.after-place.ensures.apart
    is refl in
    let left : length c.behind_piece-rest.result.now ≡ length rest - n = ap length c.behind_piece-rest.ensures ∙ length-drop n rest in
    let room : count ≤ c.min-room.result - far = c.if-room-pen.false in
    record {
      read = so_far_is part c.args.from c.after-place.result (take begun c.args.out.now) (take begun c.args.places.now)
          (drop n rest) (take far out ++ w) (take far places ++ replicate (length w) at)
          c.behind_piece-rest.result.now (take (far + count) c.put_bytes.new.out) (take (far + count) c.put_places.new.places)
          (both c.loop-rest.gone (left_of kind)) c.and-gone.result
          c.behind_piece-rest.ensures c.put_bytes.ensures.written
          (c.put_places.ensures.written ∙ ap (λ k. take far places ++ replicate k at) (sym long))
          (c.and-gone.ensures ∙ ap (λ v. both c.loop-rest.gone v) c.of.ensures) one;
      among = λ among. c.after-place.ensures.among (inv.among among);
      left = omega (arith, left, inv.left);
      had = inv.had;
      fits = omega (arith, room, inv.fits);
      further = omega (arith, inv.further);
      enough = omega (arith, left, short, first.some, first.fits, inv.enough);
      behind = same_behind count far out c.put_bytes.new.out c.args.out.now c.put_bytes.ensures.behind inv.behind;
      behind_places = same_behind count far places c.put_places.new.places c.args.places.now c.put_places.ensures.behind inv.behind_places;
    }
