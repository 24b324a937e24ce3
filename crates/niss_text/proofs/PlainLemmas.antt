-- A text as far as it is read, and one more piece of it.
use Rattle.std.proofs.Common.{◌≡◌, ℕ, ◌+◌, ◌-◌, ◌<◌, ◌≤◌, Bool, true, false, List, [], ◌∷◌, ◌++◌, length, take, drop, replicate, refl, sym, subst, ap, ◌∙◌, append_assoc, add-zero, arith, length-append}
use Rattle.std.proofs.lemmas.Bool.{false≢true}
use Rattle.std.proofs.Math.Bool.{or_assoc, or_comm}
use Rattle.std.proofs.lemmas.List.{append-nil, take-append-drop, length-take-le, drop-drop}
use Rattle.niss_text.specs.declared.piece.Piece.{Piece}
use Rattle.niss_text.specs.declared.piece.Place.{Place}
use Rattle.niss_text.specs.declared.piece.Place.TheVariants.{Among, Begin}
use Rattle.niss_text.specs.declared.left_out.LeftOut.{LeftOut}
use Rattle.niss_text.specs.declared.pen.Beginning.{Beginning}
use Rattle.niss_text.specs.declared.piece.Piece.TheVariants.{Kept, Label, LineNumber}
use Rattle.niss_text.specs.Kept.{BeginsWithTitle}
use Rattle.niss_text.specs.Pieces.{Part, part, IsPiece, IsFirst, MayStay, StandsBefore, written, is_before_moves, is_begun, is_title, stays_before}
use Rattle.niss_text.specs.LeftOut.{left_none, left_of, both, bits_of}
use Rattle.niss_text.specs.Plain.{IsPlain}
use Rattle.niss_text.specs.Written.{PutsPart}
unfoldable use Rattle.niss_text.specs.Pieces.{text_of, line_of, places_of, ArePieces, StayRightly, BeginLines, HasNoTitle, LeaveTitles}
unfoldable use Rattle.niss_text.specs.LeftOut.{left_of_all}

text_more : (ps : List Part) (p : Part) → text_of (ps ++ p ∷ []) ≡ text_of ps ++ p.bytes
unfolding text_of
text_more [] p = append-nil p.bytes
text_more (q ∷ ps) p = ap (λ v. q.bytes ++ v) (text_more ps p) ∙ sym (append_assoc q.bytes (text_of ps) p.bytes)

line_more : (ps : List Part) (p : Part) → line_of (ps ++ p ∷ []) ≡ line_of ps ++ written p.kind p.bytes
unfolding line_of
line_more [] p = append-nil (written p.kind p.bytes)
line_more (q ∷ ps) p =
    ap (λ v. written q.kind q.bytes ++ v) (line_more ps p) ∙ sym (append_assoc (written q.kind q.bytes) (line_of ps) (written p.kind p.bytes))

-- the places that a piece's bytes have, of which the first is here
abbrev own : Part → ℕ → List ℕ
own p at = replicate (length (written p.kind p.bytes)) at

places_more : (at : ℕ) (ps : List Part) (p : Part) → places_of at (ps ++ p ∷ []) ≡ places_of at ps ++ own p (at + length (text_of ps))
unfolding places_of text_of
places_more at [] p = append-nil (own p at) ∙ ap (λ k. own p k) (sym (add-zero at))
places_more at (q ∷ ps) p =
    let more = places_more (at + length q.bytes) ps p in
    let here : (at + length q.bytes) + length (text_of ps) ≡ at + length (q.bytes ++ text_of ps) = omega (arith, length-append q.bytes (text_of ps)) in
    ap (λ v. own q at ++ v) (more ∙ ap (λ k. places_of (at + length q.bytes) ps ++ own p k) here)
    ∙ sym (append_assoc (own q at) (places_of (at + length q.bytes) ps) (own p (at + length (q.bytes ++ text_of ps))))

pieces_more : (ps : List Part) (p : Part) → ArePieces ps → 0 < length p.bytes → IsPiece p.kind p.bytes → ArePieces (ps ++ p ∷ [])
unfolding ArePieces
pieces_more [] p all some one = (some, one, tt)
pieces_more (q ∷ ps) p all some one = (all.0, all.1, pieces_more ps p all.2 some one)

stay_more : (ps : List Part) (p : Part) (rest : List ℕ) → StayRightly ps (p.bytes ++ rest) → StandsBefore p rest →
    StayRightly (ps ++ p ∷ []) rest
unfolding StayRightly text_of
stay_more [] p rest all one = (one, tt)
stay_more (q ∷ ps) p rest all one =
    let same : text_of ps ++ (p.bytes ++ rest) ≡ text_of (ps ++ p ∷ []) ++ rest =
    sym (append_assoc (text_of ps) p.bytes rest) ∙ ap (λ v. v ++ rest) (sym (text_more ps p)) in
    (subst (λ v. StandsBefore q v) same all.0, stay_more ps p rest all.1 one)

-- whether one is at the beginning of a line after some pieces
unfoldable pub begun_after : Bool → List Part → Bool
begun_after begun [] = begun
begun_after begun (p ∷ ps) = begun_after (is_begun begun p.kind) ps

begun_more : (begun : Bool) (ps : List Part) (p : Part) → begun_after begun (ps ++ p ∷ []) ≡ is_begun (begun_after begun ps) p.kind
unfolding begun_after
begun_more begun [] p = refl
begun_more begun (q ∷ ps) p = begun_more (is_begun begun q.kind) ps p

lines_more : (begun : Bool) (ps : List Part) (p : Part) → BeginLines begun ps → (p.kind ≡ LineNumber → begun_after begun ps ≡ true) → BeginLines begun (ps ++ p ∷ [])
unfolding BeginLines begun_after
lines_more begun [] p all one = (one, tt)
lines_more begun (q ∷ ps) p all one = (all.0, lines_more (is_begun begun q.kind) ps p all.1 one)

untitled_more : (ps : List Part) (p : Part) → HasNoTitle ps → is_title p.kind ≡ false → HasNoTitle (ps ++ p ∷ [])
unfolding HasNoTitle
untitled_more [] p all one = (one, tt)
untitled_more (q ∷ ps) p all one = (all.0, untitled_more ps p all.1 one)

-- whether one is before the moves of a line after some pieces
unfoldable pub before_after : Bool → List Part → Bool
before_after before [] = before
before_after before (p ∷ ps) = before_after (stays_before before p.kind) ps

before_more : (before : Bool) (ps : List Part) (p : Part) → before_after before (ps ++ p ∷ []) ≡ stays_before (before_after before ps) p.kind
unfolding before_after
before_more before [] p = refl
before_more before (q ∷ ps) p = before_more (stays_before before q.kind) ps p

titles_more : (before : Bool) (ps : List Part) (p : Part) (rest : List ℕ) → LeaveTitles before ps (p.bytes ++ rest) →
    (before_after before ps ≡ true → BeginsWithTitle (p.bytes ++ rest) → p.kind ≡ Label) → LeaveTitles before (ps ++ p ∷ []) rest
unfolding LeaveTitles before_after text_of
titles_more before [] p rest all one = (λ is title. one is (subst (λ v. BeginsWithTitle (v ++ rest)) (append-nil p.bytes) title), tt)
titles_more before (q ∷ ps) p rest all one =
    let same : text_of (q ∷ (ps ++ p ∷ [])) ++ rest ≡ text_of (q ∷ ps) ++ (p.bytes ++ rest) =
    ap (λ v. v ++ rest) (text_more (q ∷ ps) p) ∙ append_assoc (text_of (q ∷ ps)) p.bytes rest in
    (λ is title. all.0 is (subst (λ v. BeginsWithTitle v) same title), titles_more (stays_before before q.kind) ps p rest all.1 one)

pub both_none : (a : LeftOut) → both a left_none ≡ both left_none a
both_none a = λ i. record {
  labels = or_comm a.labels false i;
  move_counts = or_comm a.move_counts false i;
  comments = or_comm a.comments false i;
  line_numbers = or_comm a.line_numbers false i;
  commas = or_comm a.commas false i;
  unseen = or_comm a.unseen false i;
}

pub both_assoc : (a b c : LeftOut) → both (both a b) c ≡ both a (both b c)
both_assoc a b c = λ i. record {
  labels = or_assoc a.labels b.labels c.labels i;
  move_counts = or_assoc a.move_counts b.move_counts c.move_counts i;
  comments = or_assoc a.comments b.comments c.comments i;
  line_numbers = or_assoc a.line_numbers b.line_numbers c.line_numbers i;
  commas = or_assoc a.commas b.commas c.commas i;
  unseen = or_assoc a.unseen b.unseen c.unseen i;
}

left_more : (ps : List Part) (p : Part) → left_of_all (ps ++ p ∷ []) ≡ both (left_of_all ps) (left_of p.kind)
unfolding left_of_all
left_more [] p = both_none (left_of p.kind)
left_more (q ∷ ps) p = ap (λ v. both (left_of q.kind) v) (left_more ps p) ∙ sym (both_assoc (left_of q.kind) (left_of_all ps) (left_of p.kind))

-- So much of a part of a text is read, and this is left.
pub record SoFar (part rest : List ℕ) (from : Beginning) (place : Place) (before bytes places_before places : List ℕ) (left : LeftOut) : Type 0 where
  pub parts : List Part
  pub are_pieces : ArePieces parts
  pub stay : StayRightly parts rest
  pub begin : BeginLines true parts
  pub begun : place ≡ Begin → begun_after true parts ≡ true
  pub untitled : from.place ≡ Among → HasNoTitle parts
  pub titles : (from.place ≡ Among → ⊥) → LeaveTitles (is_before_moves from.place) parts rest
  pub before_moves : (from.place ≡ Among → ⊥) → is_before_moves place ≡ before_after (is_before_moves from.place) parts
  pub apart : place ≡ Among → from.place ≡ Among
  pub whole : text_of parts ++ rest ≡ part
  pub bytes_are : before ++ line_of parts ≡ bytes
  pub places_are : places_before ++ places_of from.at parts ≡ places
  pub left_is : left_of_all parts ≡ left

pub nothing_read : (text : List ℕ) (from : Beginning) (before places_before : List ℕ) (left : LeftOut) → left ≡ left_none →
    SoFar text text from from.place before before places_before places_before left
unfolding text_of line_of places_of ArePieces StayRightly BeginLines begun_after before_after HasNoTitle LeaveTitles left_of_all
nothing_read text from before places_before left none = record {
  parts = [];
  are_pieces = tt;
  stay = tt;
  begin = tt;
  begun = λ is. refl;
  untitled = λ among. tt;
  titles = λ other. tt;
  before_moves = λ other. refl;
  apart = λ among. among;
  whole = refl;
  bytes_are = append-nil before;
  places_are = append-nil places_before;
  left_is = sym none;
}

pub one_more : (part rest : List ℕ) (from : Beginning) (place next : Place) (before bytes places_before places : List ℕ) (left : LeftOut) (kind : Piece) (n at : ℕ) (w : List ℕ) →
    SoFar part rest from place before bytes places_before places left → IsFirst rest kind n → (from.place ≡ Among → is_title kind ≡ false) →
    (kind ≡ LineNumber → place ≡ Begin) → (next ≡ Begin → (begun : Bool) → (place ≡ Begin → begun ≡ true) → is_begun begun kind ≡ true) →
    (is_before_moves place ≡ true → BeginsWithTitle rest → kind ≡ Label) → ((place ≡ Among → ⊥) → is_before_moves next ≡ stays_before (is_before_moves place) kind) →
    (next ≡ Among → place ≡ Among) → w ≡ written kind (take n rest) → at ≡ from.at + (length part - length rest) →
    SoFar part (drop n rest) from next before (bytes ++ w) places_before (places ++ replicate (length w) at) (both left (left_of kind))
one_more text rest from place next before bytes places_before places left kind n at w far first untitled number goes title stays apart is here =
    let p : Part = part kind (take n rest) in
    let ps : List Part = far.parts in
    let long : at ≡ from.at + length (text_of ps) = omega (arith, here, ap length far.whole, length-append (text_of ps) rest) in
    record {
      parts = ps ++ p ∷ [];
      are_pieces = pieces_more ps p far.are_pieces (omega (arith, length-take-le n rest first.fits, first.some)) first.is;
      stay = stay_more ps p (drop n rest) (subst (λ v. StayRightly ps v) (sym (take-append-drop n rest)) far.stay)
          (record { stays = subst (λ v. kind ≡ Kept → MayStay v) (sym (take-append-drop n rest)) first.stays; ends = first.ends });
      begin = lines_more true ps p far.begin (λ is. far.begun (number is));
      begun = λ is. begun_more true ps p ∙ goes is (begun_after true ps) far.begun;
      untitled = λ among. untitled_more ps p (far.untitled among) (untitled among);
      titles = λ other. titles_more (is_before_moves from.place) ps p (drop n rest)
          (subst (λ v. LeaveTitles (is_before_moves from.place) ps v) (sym (take-append-drop n rest)) (far.titles other))
          (λ is begun. title (far.before_moves other ∙ is) (subst (λ v. BeginsWithTitle v) (take-append-drop n rest) begun));
      before_moves = λ other. stays (λ among. other (far.apart among)) ∙ ap (λ b. stays_before b kind) (far.before_moves other)
          ∙ sym (before_more (is_before_moves from.place) ps p);
      apart = λ among. far.apart (apart among);
      whole = ap (λ v. v ++ drop n rest) (text_more ps p) ∙ append_assoc (text_of ps) (take n rest) (drop n rest)
          ∙ ap (λ v. text_of ps ++ v) (take-append-drop n rest) ∙ far.whole;
      bytes_are = ap (λ v. before ++ v) (line_more ps p) ∙ sym (append_assoc before (line_of ps) (written kind (take n rest)))
          ∙ ap (λ v. v ++ written kind (take n rest)) far.bytes_are ∙ ap (λ v. bytes ++ v) (sym is);
      places_are = ap (λ v. places_before ++ v) (places_more from.at ps p)
          ∙ sym (append_assoc places_before (places_of from.at ps) (own p (from.at + length (text_of ps))))
          ∙ ap (λ v. v ++ own p (from.at + length (text_of ps))) far.places_are
          ∙ ap (λ v. places ++ replicate (length v) (from.at + length (text_of ps))) (sym is) ∙ ap (λ k. places ++ replicate (length w) k) (sym long);
      left_is = left_more ps p ∙ ap (λ v. both v (left_of kind)) far.left_is;
    }

pub all_read : (part : List ℕ) (from : Beginning) (place : Place) (before bytes places_before places : List ℕ) (left : LeftOut) →
    SoFar part [] from place before bytes places_before places left → PutsPart part from before bytes places_before places left
all_read text from place before bytes places_before places left far = record {
  parts = far.parts;
  are_pieces = far.are_pieces;
  stay = far.stay;
  begin = far.begin;
  untitled = far.untitled;
  titles = far.titles;
  whole = sym (append-nil (text_of far.parts)) ∙ far.whole;
  bytes_are = far.bytes_are;
  places_are = far.places_are;
  left_is = far.left_is;
}

pub so_far_is : (part : List ℕ) (from : Beginning) (place : Place) (before places_before rest bytes places rest' bytes' places' : List ℕ) (left left' : LeftOut) → rest' ≡ rest → bytes' ≡ bytes →
    places' ≡ places → left' ≡ left → SoFar part rest from place before bytes places_before places left → SoFar part rest' from place before bytes' places_before places' left'
so_far_is text from place before places_before rest bytes places rest' bytes' places' left left' r l p g far = record {
  parts = far.parts;
  are_pieces = far.are_pieces;
  stay = subst (λ v. StayRightly far.parts v) (sym r) far.stay;
  begin = far.begin;
  begun = far.begun;
  untitled = far.untitled;
  titles = λ other. subst (λ v. LeaveTitles (is_before_moves from.place) far.parts v) (sym r) (far.titles other);
  before_moves = far.before_moves;
  apart = far.apart;
  whole = ap (λ v. text_of far.parts ++ v) r ∙ far.whole;
  bytes_are = far.bytes_are ∙ sym l;
  places_are = far.places_are ∙ sym p;
  left_is = far.left_is ∙ sym g;
}

begin_apart : Begin ≡ Among → ⊥
begin_apart same = false≢true (sym (ap is_before_moves same))

-- a text that is written at the beginning of a line is read as that line
pub whole_text : (text : List ℕ) (from : Beginning) (bytes places : List ℕ) (left : LeftOut) (out : ℕ) → from.at ≡ 0 → from.place ≡ Begin → PutsPart text from [] bytes [] places left →
    out ≡ bits_of left → IsPlain text bytes places out
whole_text text from bytes places left out begins top puts told = record {
  parts = puts.parts;
  are_pieces = puts.are_pieces;
  stay = puts.stay;
  begin = puts.begin;
  titles = subst (λ (place : Place). LeaveTitles (is_before_moves place) puts.parts []) top (puts.titles (λ among. begin_apart (sym top ∙ among)));
  whole = puts.whole;
  line_is = puts.bytes_are;
  places_are = ap (λ at. places_of at puts.parts) (sym begins) ∙ puts.places_are;
  left_is = ap bits_of puts.left_is ∙ sym told;
}

-- what is after more of a list that is the same after some
pub same_behind : (m n : ℕ) (old now first : List ℕ) → drop (n + m) now ≡ drop (n + m) old → drop n old ≡ drop n first → drop (n + m) now ≡ drop (n + m) first
same_behind m n old now first new far = new ∙ sym (drop-drop m n old) ∙ ap (λ v. drop m v) far ∙ drop-drop m n first

-- what is after a place is the same, if it was so after one before
pub later_behind : (n more : ℕ) (old now first : List ℕ) → n ≤ more → drop more now ≡ drop more old → drop n old ≡ drop n first → drop more now ≡ drop more first
later_behind n more old now first le new far =
    let split : n + (more - n) ≡ more = omega arith in
    ap (λ k. drop k now) (sym split) ∙ same_behind (more - n) n old now first (ap (λ k. drop k now) split ∙ new ∙ ap (λ k. drop k old) (sym split)) far
    ∙ ap (λ k. drop k first) split
