-- The moves of some lines as far as they are written, and those of one more line.
use Rattle.std.proofs.Common.{◌≡◌, ℕ, zero, suc, ◌+◌, ◌*◌, ◌-◌, ◌<◌, ◌≤◌, ◌⊎◌, inl, inr, true, false, cond, Option, None, Some, List, [], ◌∷◌, ◌++◌, length, take, drop, set, map, slice_range, add-zero, zero-add, refl, sym, ap, ◌∙◌, append_assoc, length-append, arith}
use Rattle.std.specs.List.{All, filter}
use Rattle.std.proofs.Math.Seq.{set_out}
use Rattle.std.proofs.lemmas.Bool.{cases_lt}
use Rattle.std.proofs.lemmas.List.{append-nil, take_all, take-append-le, take_more_set, length-set, drop-set-lt, drop-drop}
use Rattle.std.proofs.lemmas.List.Elements.{All-append}
use Rattle.std.proofs.lemmas.Option.{slice_get_past}
use Rattle.niss_text.specs.declared.left_out.LeftOut.{LeftOut}
use Rattle.niss_text.specs.declared.moves.MovesOf.{MovesOf}
use Rattle.niss_text.specs.declared.moves.MovesPart.{MovesPart}
use Rattle.niss_text.specs.declared.pen.Beginning.{Beginning}
use Rattle.niss_text.specs.declared.piece.Place.TheVariants.{Among}
use Rattle.niss_text.specs.declared.text_line.TextLine.{TextLine}
use Rattle.niss_text.specs.Pieces.{line_of, places_of}
use Rattle.niss_text.specs.LeftOut.{left_none, left_of_all, both, bits_of}
use Rattle.niss_text.specs.Moves.{LineMoves, AreMoves, AreJoined, opening, closing, opening_place, closing_place, bytes_of_moves, places_of_moves, gap_of, gap_after, place_after, left_around, left_of_moves, part_of, is_wanted, moves_of_number, numbered_moves}
use Rattle.niss_text.specs.Written.{PutsPart, AddsLine}
use Rattle.niss_text.proofs.PlainLemmas.{both_assoc, both_none}
unfoldable use Rattle.niss_text.specs.Moves.{bytes_after, places_after, parts_after, left_of_lines, most_bytes}

-- no moves have a number beyond these
pub no_moves : (n : ℕ) → 3 < n → None ≡ moves_of_number n
no_moves n high = sym (slice_get_past numbered_moves n (omega (arith, high)))

-- what stands around the moves of a line, and these, make them with their brackets
four : (a b c d e : List ℕ) → ((a ++ (b ++ c)) ++ d) ++ e ≡ a ++ (b ++ (c ++ d ++ e))
four a b c d e = simp append_assoc

pub one_line : (text part : List ℕ) (line : TextLine) (from : Beginning) (gap : ℕ) (before : Option ℕ) (b0 b1 b2 b3 p0 p1 p2 p3 : List ℕ) (l0 around l1 rest l2 : LeftOut) (last : MovesPart) →
    from.at ≡ line.moves → from.place ≡ Among → part ≡ slice_range text line.moves line.comment →
    b1 ≡ b0 ++ (gap_after gap before ++ opening line) → p1 ≡ p0 ++ (place_after before ++ opening_place line) → PutsPart part from b1 b2 p1 p2 l1 →
    b3 ≡ b2 ++ closing line → p3 ≡ p2 ++ closing_place line → around ≡ left_around text line → rest ≡ both around l1 → l2 ≡ both l0 rest →
    last.begin ≡ length b0 + length (gap_after gap before) → last.end ≡ length b3 → last.left_out ≡ bits_of rest →
    AddsLine text line gap before b0 b3 p0 p3 l0 l2 last
one_line text part line from gap before b0 b1 b2 b3 p0 p1 p2 p3 l0 around l1 rest l2 last at among is begun placed puts ended closed told joined all first far without = record {
  parts = puts.parts;
  are_moves = record { are_pieces = puts.are_pieces; stay = puts.stay; untitled = puts.untitled among; whole = puts.whole ∙ is };
  bytes_are = whole;
  places_are = sym (four p0 (place_after before) (opening_place line) (places_of line.moves puts.parts) (closing_place line))
      ∙ ap (λ v. (v ++ places_of line.moves puts.parts) ++ closing_place line) (sym placed)
      ∙ ap (λ n. (p1 ++ places_of n puts.parts) ++ closing_place line) (sym at) ∙ ap (λ v. v ++ closing_place line) puts.places_are ∙ sym closed;
  left_is = ap (λ v. both l0 (both v (left_of_all puts.parts))) (sym told) ∙ ap (λ v. both l0 (both around v)) puts.left_is
      ∙ ap (λ v. both l0 v) (sym joined) ∙ sym all;
  last_is = λ i. record {
    begin = sym first i;
    end = (ap (λ n. n) (sym (length-append b0 (gap_after gap before ++ bytes_of_moves (record { line = line; parts = puts.parts })))) ∙ ap length whole ∙ sym far) i;
    left_out = (ap bits_of (ap (λ v. both v (left_of_all puts.parts)) (sym told) ∙ ap (λ v. both around v) puts.left_is ∙ sym joined) ∙ sym without) i;
  };
}
  where
    whole : b0 ++ (gap_after gap before ++ bytes_of_moves (record { line = line; parts = puts.parts })) ≡ b3
    whole =
        sym (four b0 (gap_after gap before) (opening line) (line_of puts.parts) (closing line))
        ∙ ap (λ v. (v ++ line_of puts.parts) ++ closing line) (sym begun) ∙ ap (λ v. v ++ closing line) puts.bytes_are ∙ sym ended

-- where the last of some lines ends, or one before them if there is none
unfoldable pub end_after : Option ℕ → List LineMoves → Option ℕ
end_after before [] = before
end_after before (m ∷ ms) = end_after (Some m.line.end) ms

bytes_more : (gap : ℕ) (before : Option ℕ) (ms : List LineMoves) (m : LineMoves) →
    bytes_after gap before (ms ++ m ∷ []) ≡ bytes_after gap before ms ++ (gap_after gap (end_after before ms) ++ bytes_of_moves m)
unfolding bytes_after end_after
bytes_more gap before [] m = append-nil (gap_after gap before ++ bytes_of_moves m)
bytes_more gap before (n ∷ ms) m =
    ap (λ v. (gap_after gap before ++ bytes_of_moves n) ++ v) (bytes_more gap (Some n.line.end) ms m)
    ∙ sym (append_assoc (gap_after gap before ++ bytes_of_moves n) (bytes_after gap (Some n.line.end) ms)
    (gap_after gap (end_after (Some n.line.end) ms) ++ bytes_of_moves m))

places_more : (before : Option ℕ) (ms : List LineMoves) (m : LineMoves) →
    places_after before (ms ++ m ∷ []) ≡ places_after before ms ++ (place_after (end_after before ms) ++ places_of_moves m)
unfolding places_after end_after
places_more before [] m = append-nil (place_after before ++ places_of_moves m)
places_more before (n ∷ ms) m =
    ap (λ v. (place_after before ++ places_of_moves n) ++ v) (places_more (Some n.line.end) ms m)
    ∙ sym (append_assoc (place_after before ++ places_of_moves n) (places_after (Some n.line.end) ms)
    (place_after (end_after (Some n.line.end) ms) ++ places_of_moves m))

end_more : (before : Option ℕ) (ms : List LineMoves) (m : LineMoves) → end_after before (ms ++ m ∷ []) ≡ Some m.line.end
unfolding end_after
end_more before [] m = refl
end_more before (n ∷ ms) m = end_more (Some n.line.end) ms m

left_more : (text : List ℕ) (ms : List LineMoves) (m : LineMoves) → left_of_lines text (ms ++ m ∷ []) ≡ both (left_of_lines text ms) (left_of_moves text m)
unfolding left_of_lines
left_more text [] m = both_none (left_of_moves text m)
left_more text (n ∷ ms) m =
    ap (λ v. both (left_of_moves text n) v) (left_more text ms m) ∙ sym (both_assoc (left_of_moves text n) (left_of_lines text ms) (left_of_moves text m))

-- where the moves of one more line stand
parts_more : (text : List ℕ) (gap at : ℕ) (before : Option ℕ) (ms : List LineMoves) (m : LineMoves) →
    parts_after text gap at before (ms ++ m ∷ []) ≡ parts_after text gap at before ms ++ part_of text gap (at + length (bytes_after gap before ms)) (end_after before ms) m ∷ []
unfolding parts_after bytes_after end_after
parts_more text gap at before [] m = ap (λ n. part_of text gap n before m ∷ []) (sym (add-zero at))
parts_more text gap at before (n ∷ ms) m =
    let own : List ℕ = gap_after gap before ++ bytes_of_moves n in
    let there : at + length own + length (bytes_after gap (Some n.line.end) ms) ≡ at + length (own ++ bytes_after gap (Some n.line.end) ms) =
    omega (arith, length-append own (bytes_after gap (Some n.line.end) ms)) in
    ap (λ v. part_of text gap at before n ∷ v)
    (parts_more text gap (at + length own) (Some n.line.end) ms m
    ∙ ap (λ k. parts_after text gap (at + length own) (Some n.line.end) ms ++ part_of text gap k (end_after (Some n.line.end) ms) m ∷ []) there)

-- as many as there are lines
parts_many : (text : List ℕ) (gap at : ℕ) (before : Option ℕ) (ms : List LineMoves) → length (parts_after text gap at before ms) ≡ length ms
unfolding parts_after
parts_many text gap at before [] = refl
parts_many text gap at before (m ∷ ms) =
    ap suc (parts_many text gap (at + length (gap_after gap before ++ bytes_of_moves m)) (Some m.line.end) ms)

-- One more is told, as far as there is room.
told_more : (parts told : List MovesPart) (count : ℕ) (last : MovesPart) → length told ≡ count → take count parts ≡ take (length parts) told →
    take (count + 1) (set parts count last) ≡ take (length parts) (told ++ last ∷ [])
told_more parts told count last many far = by_room (cases_lt count (length parts))
  where
    by_room : (count < length parts) ⊎ (length parts ≤ count) → take (count + 1) (set parts count last) ≡ take (length parts) (told ++ last ∷ [])
    by_room (inl fits) =
        take_more_set parts count last fits ∙ ap (λ v. v ++ last ∷ []) (far ∙ take_all (length parts) told (omega (arith, many, fits)))
        ∙ sym (take_all (length parts) (told ++ last ∷ []) (omega (arith, length-append told (last ∷ []), many, fits)))
    by_room (inr full) =
        ap (λ v. take (count + 1) v) (set_out parts count last full) ∙ take_all (count + 1) parts (omega (arith, full))
        ∙ sym (take_all count parts full) ∙ far ∙ sym (take-append-le (length parts) told (last ∷ []) (omega (arith, many, full)))

all_one : (text : List ℕ) (m : LineMoves) → AreMoves text m → All (AreMoves text) (m ∷ [])
all_one text m one zero d lt = one
all_one text m one (suc k) d lt = absurd (omega arith)

lines_more : (ms : List LineMoves) (m : LineMoves) (rest : List TextLine) → map (λ n. n.line) (ms ++ m ∷ []) ++ rest ≡ map (λ n. n.line) ms ++ m.line ∷ rest
lines_more [] m rest = refl
lines_more (n ∷ ms) m rest = ap (λ v. n.line ∷ v) (lines_more ms m rest)

-- The moves of the wanted ones of some lines are written so far, and these lines are left.
pub record SoMany (text : List ℕ) (of : MovesOf) (lines rest : List TextLine) (before : Option ℕ) (bytes places : List ℕ) (left : LeftOut) (count : ℕ)
    (parts : List MovesPart) : Type 0 where
  pub moves : List LineMoves
  pub are_moves : All (AreMoves text) moves
  pub are_wanted : map (λ m. m.line) moves ++ filter (is_wanted of) rest ≡ filter (is_wanted of) lines
  pub before_is : end_after None moves ≡ before
  pub bytes_are : bytes_after (gap_of of) None moves ≡ bytes
  pub places_are : places_after None moves ≡ places
  pub left_is : left_of_lines text moves ≡ left
  pub so_many : length moves ≡ count
  pub parts_are : take count parts ≡ take (length parts) (parts_after text (gap_of of) 0 None moves)

pub no_line : (text : List ℕ) (of : MovesOf) (lines : List TextLine) (bytes places : List ℕ) (left : LeftOut) (parts : List MovesPart) → bytes ≡ [] → places ≡ [] → left ≡ left_none →
    SoMany text of lines lines None bytes places left 0 parts
unfolding bytes_after places_after parts_after left_of_lines end_after
no_line text of lines bytes places left parts no_bytes no_places none = record {
  moves = [];
  are_moves = λ k d lt. absurd (omega arith);
  are_wanted = refl;
  before_is = refl;
  bytes_are = sym no_bytes;
  places_are = sym no_places;
  left_is = sym none;
  so_many = refl;
  parts_are = sym (take_all (length parts) [] (omega arith));
}

filter_with : (of : MovesOf) (line : TextLine) (others : List TextLine) → is_wanted of line ≡ true → filter (is_wanted of) (line ∷ others) ≡ line ∷ filter (is_wanted of) others
filter_with of line others is = ap (λ b. cond b (line ∷ filter (is_wanted of) others) (filter (is_wanted of) others)) is

filter_without : (of : MovesOf) (line : TextLine) (others : List TextLine) → is_wanted of line ≡ false → filter (is_wanted of) (line ∷ others) ≡ filter (is_wanted of) others
filter_without of line others is = ap (λ b. cond b (line ∷ filter (is_wanted of) others) (filter (is_wanted of) others)) is

pub one_passed : (text : List ℕ) (of : MovesOf) (lines rest others : List TextLine) (line : TextLine) (before : Option ℕ) (bytes places : List ℕ) (left : LeftOut) (count : ℕ) (parts : List MovesPart) →
    rest ≡ line ∷ others → is_wanted of line ≡ false → SoMany text of lines rest before bytes places left count parts →
    SoMany text of lines others before bytes places left count parts
one_passed text of lines rest others line before bytes places left count parts is not far = record {
  moves = far.moves;
  are_moves = far.are_moves;
  are_wanted = ap (λ v. map (λ m. m.line) far.moves ++ v) (sym (filter_without of line others not))
      ∙ ap (λ v. map (λ m. m.line) far.moves ++ filter (is_wanted of) v) (sym is) ∙ far.are_wanted;
  before_is = far.before_is;
  bytes_are = far.bytes_are;
  places_are = far.places_are;
  left_is = far.left_is;
  so_many = far.so_many;
  parts_are = far.parts_are;
}

pub one_joined : (text : List ℕ) (of : MovesOf) (lines rest others : List TextLine) (line : TextLine) (gap : ℕ) (before before' : Option ℕ) (bytes bytes' places places' : List ℕ)
    (left left' : LeftOut) (count : ℕ) (parts parts' : List MovesPart) (last : MovesPart) → gap ≡ gap_of of → rest ≡ line ∷ others → is_wanted of line ≡ true →
    SoMany text of lines rest before bytes places left count parts → AddsLine text line gap before bytes bytes' places places' left left' last → before' ≡ Some line.end →
    parts' ≡ set parts count last → SoMany text of lines others before' bytes' places' left' (count + 1) parts'
one_joined text of lines rest others line gap before before' bytes bytes' places places' left left' count parts parts' last same is wanted far adds ends set_is =
    let m : LineMoves = record { line = line; parts = adds.parts } in
    let ms : List LineMoves = far.moves in
    record {
      moves = ms ++ m ∷ [];
      are_moves = All-append (AreMoves text) ms (m ∷ []) far.are_moves (all_one text m adds.are_moves);
      are_wanted = lines_more ms m (filter (is_wanted of) others) ∙ ap (λ v. map (λ n. n.line) ms ++ v) (sym (filter_with of line others wanted))
          ∙ ap (λ v. map (λ n. n.line) ms ++ filter (is_wanted of) v) (sym is) ∙ far.are_wanted;
      before_is = end_more None ms m ∙ sym ends;
      bytes_are = bytes_more (gap_of of) None ms m ∙ ap (λ v. v ++ (gap_after (gap_of of) (end_after None ms) ++ bytes_of_moves m)) far.bytes_are
          ∙ ap (λ b. bytes ++ (gap_after (gap_of of) b ++ bytes_of_moves m)) far.before_is
          ∙ ap (λ g. bytes ++ (gap_after g before ++ bytes_of_moves m)) (sym same) ∙ adds.bytes_are;
      places_are = places_more None ms m ∙ ap (λ v. v ++ (place_after (end_after None ms) ++ places_of_moves m)) far.places_are
          ∙ ap (λ b. places ++ (place_after b ++ places_of_moves m)) far.before_is ∙ adds.places_are;
      left_is = left_more text ms m ∙ ap (λ v. both v (left_of_moves text m)) far.left_is ∙ adds.left_is;
      so_many = omega (arith, length-append ms (m ∷ []), far.so_many);
      parts_are =
          let told : List MovesPart = parts_after text (gap_of of) 0 None ms in
          let long : length parts' ≡ length parts = ap length set_is ∙ length-set parts count last in
          let own : part_of text (gap_of of) (0 + length (bytes_after (gap_of of) None ms)) (end_after None ms) m ≡ last =
          ap (λ n. part_of text (gap_of of) n (end_after None ms) m) (zero-add (length (bytes_after (gap_of of) None ms)) ∙ ap length far.bytes_are)
          ∙ ap (λ b. part_of text (gap_of of) (length bytes) b m) far.before_is ∙ ap (λ g. part_of text g (length bytes) before m) (sym same) ∙ adds.last_is in
          ap (λ v. take (count + 1) v) set_is ∙ told_more parts told count last (parts_many text (gap_of of) 0 None ms ∙ far.so_many) far.parts_are
          ∙ ap (λ p. take (length parts) (told ++ p ∷ [])) (sym own) ∙ ap (λ v. take (length parts) v) (sym (parts_more text (gap_of of) 0 None ms m))
          ∙ ap (λ n. take n (parts_after text (gap_of of) 0 None (ms ++ m ∷ []))) (sym long);
    }

pub all_joined : (text : List ℕ) (of : MovesOf) (lines rest : List TextLine) (before : Option ℕ) (bytes places : List ℕ) (left : LeftOut) (count : ℕ) (parts : List MovesPart) → rest ≡ [] →
    SoMany text of lines rest before bytes places left count parts → AreJoined text of lines bytes places left (length parts) parts
all_joined text of lines rest before bytes places left count parts none far = record {
  moves = far.moves;
  are_moves = far.are_moves;
  are_wanted = sym (append-nil (map (λ m. m.line) far.moves)) ∙ ap (λ v. map (λ m. m.line) far.moves ++ filter (is_wanted of) v) (sym none) ∙ far.are_wanted;
  bytes_are = far.bytes_are;
  places_are = far.places_are;
  left_is = far.left_is;
  parts_are = ap (λ n. take n parts) far.so_many ∙ far.parts_are;
}

-- what the moves of the wanted ones of some lines may take, by the first line
pub most_with : (of : MovesOf) (rest others : List TextLine) (line : TextLine) → rest ≡ line ∷ others → is_wanted of line ≡ true →
    most_bytes (filter (is_wanted of) rest) ≡ 3 * (line.comment - line.moves) + 3 + most_bytes (filter (is_wanted of) others)
unfolding most_bytes
most_with of rest others line is wanted = ap (λ v. most_bytes (filter (is_wanted of) v)) is ∙ ap most_bytes (filter_with of line others wanted)

pub most_without : (of : MovesOf) (rest others : List TextLine) (line : TextLine) → rest ≡ line ∷ others → is_wanted of line ≡ false →
    most_bytes (filter (is_wanted of) rest) ≡ most_bytes (filter (is_wanted of) others)
most_without of rest others line is not = ap (λ v. most_bytes (filter (is_wanted of) v)) is ∙ ap most_bytes (filter_without of line others not)

-- how many of some lines are wanted, by the first line
pub count_with : (of : MovesOf) (rest others : List TextLine) (line : TextLine) → rest ≡ line ∷ others → is_wanted of line ≡ true →
    length (filter (is_wanted of) rest) ≡ 1 + length (filter (is_wanted of) others)
count_with of rest others line is wanted = ap (λ v. length (filter (is_wanted of) v)) is ∙ ap length (filter_with of line others wanted) ∙ omega arith

pub count_without : (of : MovesOf) (rest others : List TextLine) (line : TextLine) → rest ≡ line ∷ others → is_wanted of line ≡ false →
    length (filter (is_wanted of) rest) ≡ length (filter (is_wanted of) others)
count_without of rest others line is not = ap (λ v. length (filter (is_wanted of) v)) is ∙ ap length (filter_without of line others not)

-- what follows as many of these as there are is the same after one more
pub behind_more : (parts parts' first : List MovesPart) (count : ℕ) (last : MovesPart) → parts' ≡ set parts count last → drop count parts ≡ drop count first →
    drop (count + 1) parts' ≡ drop (count + 1) first
behind_more parts parts' first count last is far =
    ap (λ v. drop (count + 1) v) is ∙ drop-set-lt (count + 1) parts count last (omega arith) ∙ sym (drop-drop 1 count parts) ∙ ap (λ v. drop 1 v) far
    ∙ drop-drop 1 count first
