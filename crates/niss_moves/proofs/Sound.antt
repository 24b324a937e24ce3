-- What is read is spelled; whole lines, and which fault they have.
use Rattle.niss_moves.proofs.Names.{◌≡◌, ℕ, ◌+◌, ◌-◌, ◌≤◌, Bool, true, false, cond, nat_lt, eqb, refl, ap, sym, ◌∙◌, subst, subst₂, List}
use Rattle.niss_moves.proofs.Names.{[], ◌∷◌, ◌++◌, length, flat_map, append_assoc, append-nil, Option, None, Some, is_some, Result, Ok, Err}
use Rattle.niss_moves.proofs.Names.{arith, length-append, piece_moves, Whole, start, count, Quarter, Half, Counter, Token, Base, Symbol}
use Rattle.niss_moves.proofs.Names.{LastMove, ReadFault, NotAMove, TooLong, ◌<◌, ◌&&◌, take, drop, get_or, inl, inr, ◌==◌, ◌||◌, not}
use Rattle.niss_moves.proofs.Names.{CanContinue, Stops, Lacks, run, U, Rl, M, Unclosed, item_bytes, ltb-true, eqb-true, take-append-le}
use Rattle.niss_moves.proofs.Names.{take-append-drop, list_all, AllPass-from_list_all, list_all-from_AllPass}
use Rattle.niss_moves.specs.Line.{piece_bytes, token_of, base_bytes, Typographic, Plain, Nothing, Two, Prime, TwoPrime, Moves, Piece, Gap}
use Rattle.niss_moves.specs.Line.{Spelled, Item, Outside, Bracket, item_normal, item_bracketed, Spells, IsLine, Suffix, suffix_bytes, Space}
use Rattle.niss_moves.specs.Symbols.{symbol_of}
use Rattle.niss_moves.specs.Machine.{State, step_within, cut_of, with_more, settled, with_last, fed_to, step_by, step_at, step, and_then}
use Rattle.std.proofs.Math.Path.{subst₃}
use Rattle.std.proofs.lemmas.List.Concat.{flat_map-append}
use Rattle.std.proofs.lemmas.List.Folds.{list_all-append}
use Rattle.std.proofs.Math.Seq.{take-append_seam, take-append-add, get_or-append_seam}
use Rattle.niss_moves.specs.Faults.{EndsEarly, OpensAt, Cut, LacksOne, LacksTwo, cut_ending, cut_length, bracket_ending, Continues, StopsAt}
use Rattle.niss_moves.proofs.Completes.{moves_in, fault_by, fault_at, state, counted, count_more, more_none, IsSymbol, symbol_is, symbol_of_brackets, first_symbol}
use Rattle.niss_moves.proofs.Completes.{run-append, run_after, read_line_of}
use Rattle.niss_moves.proofs.Finite.{and_both, and_left}

-- the bytes so far as whole items, with these moves, and an open bracket with its pieces if there is one
pub data WholeItems : Option ℕ → List ℕ → Moves → Type 0 where
  Closed : (items : List Item) → WholeItems None (flat_map item_bytes items) (moves_in items)
  Opened : (items : List Item) (ps : List Piece) → WholeItems (Some (length (flat_map item_bytes items) + 1)) (flat_map item_bytes items ++ 40 ∷ flat_map piece_bytes ps) (with_more (Some 0) (moves_in items) (flat_map piece_moves ps))

flat_push : {X A : Type 0} (f : X → List A) (xs : List X) (x : X) → flat_map f (xs ++ x ∷ []) ≡ flat_map f xs ++ f x
flat_push f xs x = flat_map-append f xs (x ∷ []) ∙ ap (λ y. flat_map f xs ++ y) (append-nil (f x))

pub front_piece : (o : Option ℕ) (bytes : List ℕ) (m : Moves) (p : Piece) → WholeItems o bytes m → WholeItems o (bytes ++ piece_bytes p) (with_more o m (piece_moves p))
front_piece o bytes m p (Closed items) =
    subst₃ (λ (x : List ℕ) (n b : List Token). WholeItems None x (record { normal = n; bracketed = b })) (flat_push item_bytes items (Outside p)) (flat_push item_normal items (Outside p)) (flat_push item_bracketed items (Outside p) ∙ append-nil _) (Closed (items ++ Outside p ∷ []))
front_piece o bytes m p (Opened items ps) =
    let bytes_are = ap (λ x. flat_map item_bytes items ++ 40 ∷ x) (flat_push piece_bytes ps p) ∙ sym (append_assoc (flat_map item_bytes items) (40 ∷ flat_map piece_bytes ps) (piece_bytes p)) in
    let moves_are = ap (λ x. flat_map item_bracketed items ++ x) (flat_push piece_moves ps p) ∙ sym (append_assoc (flat_map item_bracketed items) (flat_map piece_moves ps) (piece_moves p)) in
    subst₂ (λ (x : List ℕ) (b : List Token). WholeItems o x (record (moves_in items) { bracketed = b })) bytes_are moves_are (Opened items (ps ++ p ∷ []))

pub front_open : (o : Option ℕ) (c : ℕ) (bytes : List ℕ) (m : Moves) → o ≡ None → c ≡ length bytes + 1 → WholeItems o bytes m → WholeItems (Some c) (bytes ++ 40 ∷ []) m
front_open o c bytes m none col (Closed items) =
    subst₂ (λ (c : ℕ) (b : List Token). WholeItems (Some c) (bytes ++ 40 ∷ []) (record (moves_in items) { bracketed = b })) (sym col) (append-nil _) (Opened items [])
front_open o c bytes m none col (Opened items ps) = absurd (cc)

pub front_close : (o : Option ℕ) (c : ℕ) (bytes : List ℕ) (m : Moves) → o ≡ Some c → WholeItems o bytes m → WholeItems None (bytes ++ 41 ∷ []) m
front_close o c bytes m some (Closed items) = absurd (cc)
front_close o c bytes m some (Opened items ps) =
    let bytes_are = flat_push item_bytes items (Bracket ps) ∙ sym (append_assoc (flat_map item_bytes items) (40 ∷ flat_map piece_bytes ps) (41 ∷ [])) in
    subst₃ (λ (x : List ℕ) (n b : List Token). WholeItems None x (record { normal = n; bracketed = b })) bytes_are (flat_push item_normal items (Bracket ps) ∙ append-nil _) (flat_push item_bracketed items (Bracket ps)) (Closed (items ++ Bracket ps ∷ []))

-- The bytes end in a cut U+2019, and with the rest of it they are this move.
pub record IsCutMove (t : Token) (c : Cut) (bytes : List ℕ) : Type 0 where
  pub piece : Piece
  pub bytes_are : bytes ++ cut_ending c ≡ piece_bytes piece
  pub moves_are : piece_moves piece ≡ t ∷ []
  pub long : cut_length c ≤ length bytes

-- the bytes of the last move as far as it goes
abbrev pub IsLast : LastMove → List ℕ → Type 0
IsLast LastMove.Finished bytes = bytes ≡ []
IsLast (LastMove.Bare b) bytes = bytes ≡ base_bytes b
IsLast (LastMove.Doubled b) bytes = bytes ≡ base_bytes b ++ 50 ∷ []
IsLast (LastMove.FirstByte t) bytes = IsCutMove t LacksTwo bytes
IsLast (LastMove.SecondByte t) bytes = IsCutMove t LacksOne bytes

-- The state is what is read of the bytes.
pub record Reads (s : State) (bytes : List ℕ) : Type 0 where
  pub front : List ℕ
  pub rest : List ℕ
  pub bytes_are : bytes ≡ front ++ rest
  pub is_front : WholeItems s.bracket front s.moves
  pub is_last : IsLast s.last rest
  pub fed : s.fed ≡ length bytes
  pub room : count (settled s) ≤ 256

-- the bytes with the end of their last piece
piece_ends : (s : State) (bytes : List ℕ) (p : Piece) (ending : List ℕ) (ms : List Token) (h : Reads s bytes) → h.rest ++ ending ≡ piece_bytes p → piece_moves p ≡ ms → WholeItems s.bracket (bytes ++ ending) (with_more s.bracket s.moves ms)
piece_ends s bytes p ending ms h same moves =
    let is : bytes ++ ending ≡ h.front ++ piece_bytes p = ap (λ x. x ++ ending) h.bytes_are ∙ append_assoc h.front h.rest ending ∙ ap (λ x. h.front ++ x) same in
    subst₂ (λ (x : List ℕ) (ms : List Token). WholeItems s.bracket x (with_more s.bracket s.moves ms)) (sym is) moves (front_piece _ _ _ p h.is_front)

-- the bytes with the end of a cut U+2019, as whole pieces
pub settled_front : (s : State) (bytes : List ℕ) → Reads s bytes → WholeItems s.bracket (bytes ++ cut_ending (cut_of s.last)) (settled s).moves
settled_front s bytes h = by_last s.last h.is_last
  where
    by_last : (t : LastMove) → IsLast t h.rest → WholeItems s.bracket (bytes ++ cut_ending (cut_of t)) (settled (with_last t s)).moves
    by_last LastMove.Finished e =
        subst (λ (x : List ℕ). WholeItems s.bracket x s.moves) (sym (append-nil _ ∙ h.bytes_are ∙ ap (λ x. h.front ++ x) e ∙ append-nil _)) h.is_front
    by_last (LastMove.Bare b) e = piece_ends s bytes (Spelled b Nothing) [] _ h (ap (λ x. x ++ []) e) refl
    by_last (LastMove.Doubled b) e = piece_ends s bytes (Spelled b Two) [] _ h (append-nil _ ∙ e) refl
    by_last t k = piece_ends s bytes k.piece (cut_ending (cut_of t)) _ h k.bytes_are k.moves_are

pub whole_front : (s : State) (bytes : List ℕ) → cut_of s.last ≡ Whole → Reads s bytes → WholeItems s.bracket bytes (settled s).moves
whole_front s bytes w h =
    subst (λ (x : List ℕ). WholeItems s.bracket x (settled s).moves) (ap (λ c. bytes ++ cut_ending c) w ∙ append-nil bytes) (settled_front s bytes h)

-- the bytes that a cut U+2019 has
pub cut_fits : (s : State) (bytes : List ℕ) → Reads s bytes → cut_length (cut_of s.last) ≤ length bytes
cut_fits s bytes h =
    let here = by_last s.last h.is_last in omega (arith, here, ap length h.bytes_are, length-append h.front h.rest)
  where
    by_last : (t : LastMove) → IsLast t h.rest → cut_length (cut_of t) ≤ length h.rest
    by_last (LastMove.FirstByte t) k = k.long
    by_last (LastMove.SecondByte t) k = k.long
    by_last _ k = omega arith

-- what a step comes to: a state of these bytes, or this fault
abbrev pub Outcome : ReadFault → List ℕ → Result State ReadFault → Type 0
Outcome fault bytes (Ok t) = Reads t bytes
Outcome fault bytes (Err f) = f ≡ fault

front_reads : (s : State) (bytes : List ℕ) → WholeItems s.bracket bytes s.moves → s.last ≡ LastMove.Finished → s.fed ≡ length bytes → count (settled s) ≤ 256 → Reads s bytes
front_reads s bytes h e k r =
    record { front = bytes; rest = []; bytes_are = sym (append-nil bytes); is_front = h; is_last = subst (λ (t : LastMove). IsLast t []) (sym e) refl; fed = k; room = r }

pub reads_start : Reads start []
reads_start = front_reads start [] (Closed []) refl refl (omega arith)

fed_more : (k byte : ℕ) (bytes : List ℕ) → k ≡ length bytes → k + 1 ≡ length (bytes ++ byte ∷ [])
fed_more k byte bytes e = omega (arith, length-append bytes (byte ∷ []))

-- a step that goes on where its test is true
by_test : (c : Bool) (fault f : ReadFault) (bytes : List ℕ) (k : ℕ) (t : State) → (c ≡ true → Reads (record t { fed = k }) bytes) → f ≡ fault → Outcome fault bytes (fed_to k (cond c (Ok t) (Err f)))
by_test true fault f bytes k t h e = h refl
by_test false fault f bytes k t h e = e

-- a move begins
begins : (s : State) (bytes : List ℕ) (byte : ℕ) (b : Base) → cut_of s.last ≡ Whole → Reads s bytes → base_bytes b ≡ byte ∷ [] → nat_lt (count (settled s)) 256 ≡ true → Reads (counted (with_last (LastMove.Bare b) (settled s))) (bytes ++ byte ∷ [])
begins s bytes byte b r h k e =
    record {
      front = bytes;
      rest = byte ∷ [];
      bytes_are = refl;
      is_front = whole_front s bytes r h;
      is_last = sym k;
      fed = fed_more _ _ _ h.fed;
      room = omega (arith, ltb-true _ _ e, count_more s.bracket (settled s).moves (token_of b Quarter ∷ []));
    }

-- the last move goes on
goes_on : (m : Moves) (o : Option ℕ) (t u : LastMove) (k : ℕ) (bytes : List ℕ) (byte : ℕ) (h : Reads (state m o t k) bytes) → IsLast u (h.rest ++ byte ∷ [])
    → count (settled (state m o u (k + 1))) ≤ 256 → Reads (state m o u (k + 1)) (bytes ++ byte ∷ [])
unfolding state
goes_on m o t u k bytes byte h is_last room =
    record {
      front = h.front;
      rest = h.rest ++ byte ∷ [];
      bytes_are = ap (λ x. x ++ byte ∷ []) h.bytes_are ∙ append_assoc h.front h.rest (byte ∷ []);
      is_front = h.is_front;
      is_last = is_last;
      fed = fed_more _ _ _ h.fed;
      room = room;
    }

-- a byte after bytes
follows : {xs ys : List ℕ} {x y : ℕ} → xs ≡ ys → x ≡ y → xs ++ x ∷ [] ≡ ys ++ y ∷ []
follows e k i = e i ++ k i ∷ []

begins_cut : (xs ys : List ℕ) (x : ℕ) (p : Piece) (t : Token) → xs ≡ ys → x ≡ 0xE2 → ys ++ 0xE2 ∷ 0x80 ∷ 0x99 ∷ [] ≡ piece_bytes p → piece_moves p ≡ t ∷ [] → IsCutMove t LacksTwo (xs ++ x ∷ [])
begins_cut xs ys x p t e k same moves =
    record {
      piece = p;
      bytes_are = ap (λ z. z ++ 0x80 ∷ 0x99 ∷ []) (follows e k) ∙ append_assoc ys (0xE2 ∷ []) (0x80 ∷ 0x99 ∷ []) ∙ same;
      moves_are = moves;
      long = omega (arith, length-append xs (x ∷ []));
    }

symbol_means : (x : Symbol) (m : Moves) (o : Option ℕ) (t : LastMove) (k : ℕ) (bytes : List ℕ) (byte : ℕ) → IsSymbol x byte → cut_of t ≡ Whole → Reads (state m o t k) bytes → Outcome (fault_by x (is_some o) (k + 1)) (bytes ++ byte ∷ []) (fed_to (k + 1) (step_by 256 x (state m o t k)))
unfolding state
symbol_means Symbol.Blank m o t k bytes byte i r h =
    front_reads _ _ (subst₂ (λ (x : ℕ) (m : Moves). WholeItems o (bytes ++ x ∷ []) m) (sym i.1) (sym (more_none o _)) (front_piece _ _ _ (Gap i.0) (whole_front _ bytes r h))) refl (fed_more _ _ _ h.fed) h.room
symbol_means Symbol.Open m None t k bytes byte i r h =
    front_reads _ _ (subst (λ (x : ℕ). WholeItems (Some (k + 1)) (bytes ++ x ∷ []) (settled (state m None t k)).moves) (sym i) (front_open _ (k + 1) _ _ refl (ap (λ n. n + 1) h.fed) (whole_front _ bytes r h))) refl (fed_more _ _ _ h.fed) h.room
symbol_means Symbol.Close m (Some c) t k bytes byte i r h =
    front_reads _ _ (subst (λ (x : ℕ). WholeItems None (bytes ++ x ∷ []) (settled (state m (Some c) t k)).moves) (sym i) (front_close _ c _ _ refl (whole_front _ bytes r h))) refl (fed_more _ _ _ h.fed) h.room
symbol_means (Symbol.Base x) m o t k bytes byte i r h =
    by_test (nat_lt (count (settled (state m o t k))) 256) (TooLong (k + 1)) (TooLong (k + 1)) (bytes ++ byte ∷ []) (k + 1) (with_last (LastMove.Bare x) (settled (state m o t k))) (begins _ bytes byte x r h i) refl
symbol_means Symbol.Wide m o (LastMove.Bare (Base.Face f)) k bytes byte i r h =
    goes_on m o _ (LastMove.Bare (Base.Wide f)) k bytes byte h (follows h.is_last i) (omega (arith, h.room, count_more o m (token_of (Base.Face f) Quarter ∷ []), count_more o m (token_of (Base.Wide f) Quarter ∷ [])))
symbol_means Symbol.Two m o (LastMove.Bare f) k bytes byte i r h =
    goes_on m o _ (LastMove.Doubled f) k bytes byte h (follows h.is_last i) (omega (arith, h.room, count_more o m (token_of f Quarter ∷ []), count_more o m (token_of f Half ∷ [])))
symbol_means Symbol.Apostrophe m o (LastMove.Bare f) k bytes byte i r h =
    front_reads _ _ (piece_ends _ bytes (Spelled f (Prime Plain)) (byte ∷ []) _ h (follows h.is_last i) refl) refl (fed_more _ _ _ h.fed) (omega (arith, h.room, count_more o m (token_of f Quarter ∷ []), count_more o m (token_of f Counter ∷ [])))
symbol_means Symbol.Apostrophe m o (LastMove.Doubled f) k bytes byte i r h =
    front_reads _ _ (piece_ends _ bytes (Spelled f (TwoPrime Plain)) (byte ∷ []) _ h (follows h.is_last i ∙ append_assoc (base_bytes f) (50 ∷ []) (39 ∷ [])) refl) refl (fed_more _ _ _ h.fed) h.room
symbol_means Symbol.Cut m o (LastMove.Bare f) k bytes byte i r h =
    goes_on m o _ (LastMove.FirstByte (token_of f Counter)) k bytes byte h (begins_cut _ _ _ (Spelled f (Prime Typographic)) _ h.is_last i refl refl) (omega (arith, h.room, count_more o m (token_of f Quarter ∷ []), count_more o m (token_of f Counter ∷ [])))
symbol_means Symbol.Cut m o (LastMove.Doubled f) k bytes byte i r h =
    goes_on m o _ (LastMove.FirstByte (token_of f Half)) k bytes byte h (begins_cut _ _ _ (Spelled f (TwoPrime Typographic)) _ h.is_last i (append_assoc (base_bytes f) (50 ∷ []) (0xE2 ∷ 0x80 ∷ 0x99 ∷ [])) refl) h.room
symbol_means x m o t k bytes byte i r h = refl

-- a U+2019 of which two bytes stand there
goes_cut : (t : Token) (bytes : List ℕ) (byte : ℕ) → IsCutMove t LacksTwo bytes → byte ≡ 0x80 → IsCutMove t LacksOne (bytes ++ byte ∷ [])
goes_cut t bytes byte h e =
    record {
      piece = h.piece;
      bytes_are = append_assoc bytes (byte ∷ []) (0x99 ∷ []) ∙ ap (λ z. bytes ++ z ∷ 0x99 ∷ []) e ∙ h.bytes_are;
      moves_are = h.moves_are;
      long = omega (arith, h.long, length-append bytes (byte ∷ []));
    }

-- A step keeps what the state stands for, or refuses the byte by its fault there.
pub step_means : (s : State) (bytes : List ℕ) (byte : ℕ) → Reads s bytes → Outcome (fault_at (cut_of s.last) (is_some s.bracket) byte (s.fed + 1)) (bytes ++ byte ∷ []) (step s byte)
unfolding step_within state
step_means s bytes byte h = by_last s.moves s.bracket s.last s.fed h
  where
    by_last : (m : Moves) (o : Option ℕ) (t : LastMove) (k : ℕ) → Reads (state m o t k) bytes → Outcome (fault_at (cut_of t) (is_some o) byte (k + 1)) (bytes ++ byte ∷ []) (fed_to (k + 1) (step_at 256 t (state m o t k) byte))
    by_last m o (LastMove.FirstByte t) k h =
        by_test (eqb byte 0x80) (NotAMove (k + 1 - 1)) (NotAMove k) (bytes ++ byte ∷ []) (k + 1) (with_last (LastMove.SecondByte t) (state m o (LastMove.FirstByte t) k))
        (λ e. goes_on m o _ (LastMove.SecondByte t) k bytes byte h (goes_cut t h.rest byte h.is_last (eqb-true _ _ e)) h.room) (ap NotAMove (omega arith))
    by_last m o (LastMove.SecondByte t) k h =
        by_test (eqb byte 0x99) (NotAMove (k + 1 - 2)) (NotAMove (k - 1)) (bytes ++ byte ∷ []) (k + 1) (settled (state m o (LastMove.SecondByte t) k))
        (λ e. front_reads _ _ (subst (λ (z : ℕ). WholeItems o (bytes ++ z ∷ []) (with_more o m (t ∷ []))) (sym (eqb-true _ _ e)) (settled_front _ bytes h)) refl (fed_more _ _ _ h.fed) h.room)
        (ap NotAMove (omega arith))
    by_last m o t k h = symbol_means (symbol_of byte) m o t k bytes byte (symbol_is byte) refl h

-- the state after more bytes
reads_run : (more bytes : List ℕ) (s t : State) → Reads s bytes → run s more ≡ Ok t → Reads t (bytes ++ more)
reads_run [] bytes s t h e =
    let q : s ≡ t = cc in
    subst (λ (x : List ℕ). Reads t x) (sym (append-nil bytes)) (subst (λ (x : State). Reads x bytes) q h)
reads_run (x ∷ more) bytes s t h e =
    by_step (step s x) (step_means s bytes x h) e (λ u k r. reads_run more (bytes ++ x ∷ []) u t k r)
  where
    by_step : (r : Result State ReadFault) → Outcome (fault_at (cut_of s.last) (is_some s.bracket) x (s.fed + 1)) (bytes ++ x ∷ []) r → and_then r (λ u. run u more) ≡ Ok t → ((u : State) → Reads u (bytes ++ x ∷ []) → run u more ≡ Ok t → Reads t ((bytes ++ x ∷ []) ++ more)) → Reads t (bytes ++ x ∷ more)
    by_step (Ok u) k e f = subst (λ (y : List ℕ). Reads t y) (append_assoc bytes (x ∷ []) more) (f u k e)
    by_step (Err g) k e f = cc

pub reads_all : (bytes : List ℕ) (s : State) → run start bytes ≡ Ok s → Reads s bytes
reads_all bytes s e = reads_run bytes [] start s reads_start e

-- whole items spell a line
front_spells : (bytes : List ℕ) (m : Moves) → WholeItems None bytes m → Spells bytes m.normal m.bracketed
front_spells bytes m (Closed items) = record { items = items; bytes_are = refl; normal_are = refl; bracketed_are = refl }

closed_front : (o : Option ℕ) (bytes : List ℕ) (m : Moves) → WholeItems o bytes m → WholeItems None (bytes ++ bracket_ending (is_some o)) m
closed_front None bytes m h = subst (λ (x : List ℕ). WholeItems None x m) (sym (append-nil bytes)) h
closed_front (Some c) bytes m h = front_close (Some c) c bytes m refl h

pub continues : (s : State) (bytes : List ℕ) → Reads s bytes → Continues bytes (cut_of s.last) (is_some s.bracket)
continues s bytes h =
    record {
      normal = (settled s).moves.normal;
      bracketed = (settled s).moves.bracketed;
      spells = front_spells _ _ (closed_front s.bracket _ _ (settled_front s bytes h));
      fits = h.room;
    }

pub can_continue : (bytes : List ℕ) (s : State) → run start bytes ≡ Ok s → CanContinue bytes
can_continue bytes s e = (cut_of s.last, is_some s.bracket, continues s bytes (reads_all bytes s e))

-- what can be continued is read without a fault
front_ok : (r : Result State ReadFault) (f : State → Result State ReadFault) (t : State) → and_then r f ≡ Ok t → (s : State) × (r ≡ Ok s)
front_ok (Ok s) f t e = (s, refl)
front_ok (Err x) f t e = cc

pub run_front : (a b : List ℕ) (s t : State) → run s (a ++ b) ≡ Ok t → (u : State) × (run s a ≡ Ok u)
run_front a b s t e = front_ok (run s a) (λ u. run u b) t (sym (run-append 256 s a b) ∙ e)

pub continued_ok : (bytes : List ℕ) → CanContinue bytes → (s : State) × (run start bytes ≡ Ok s)
continued_ok bytes h =
    let r = read_line_of _ h.2 in
    let one = run_front (bytes ++ cut_ending h.0) (bracket_ending h.1) start r.end r.ran in
    run_front bytes (cut_ending h.0) start one.0 one.1

-- a byte that is refused
pub stop_at : (front rest : List ℕ) (byte : ℕ) (s : State) (f : ReadFault) → run start front ≡ Ok s → step s byte ≡ Err f → StopsAt (front ++ byte ∷ rest) (length front + 1) (cut_of s.last) (is_some s.bracket) byte
stop_at front rest byte s f e g =
    let here : length front + 1 - 1 ≡ length front = omega arith in
    let whole : take (length front + 1 - 1) (front ++ byte ∷ rest) ≡ front = ap (λ n. take n (front ++ byte ∷ rest)) here ∙ take-append_seam front (byte ∷ rest) in
    record {
      positive = omega arith;
      within = omega (arith, length-append front (byte ∷ rest));
      byte_is = sym (ap (λ n. get_or (front ++ byte ∷ rest) n 0) here ∙ get_or-append_seam front byte rest 0);
      before = λ k h.
          let t = run_front (take k front) (drop k front) start s (ap (run start) (take-append-drop k front) ∙ e) in
          subst CanContinue (sym (take-append-le k front (byte ∷ rest) (omega arith))) (can_continue (take k front) t.0 t.1);
      ends_so = subst (λ (x : List ℕ). Continues x (cut_of s.last) (is_some s.bracket)) (sym whole) (continues s front (reads_all front s e));
      stops = λ h.
          let w = continued_ok (front ++ byte ∷ []) (subst CanContinue (take-append-add front (byte ∷ rest) 1) h) in
          let r : Err f ≡ Ok w.0 = sym (run_after 256 start s front (byte ∷ []) e ∙ ap (λ r. and_then r (λ t. Ok t)) g) ∙ w.1 in
          cc;
    }

-- no bracket that has a fault of its own there, and no base
abbrev IsOther : Symbol → Bool → Type 0
IsOther Symbol.Open true = ⊥
IsOther Symbol.Close false = ⊥
IsOther (Symbol.Base b) o = ⊥
IsOther _ o = Unit {0}

-- Where bytes stop, the fault is that of the byte there.
fault_stops : (c : Cut) (o : Bool) (byte column : ℕ) (bytes : List ℕ) → cut_length c < column → StopsAt bytes column c o byte → Stops bytes (fault_at c o byte column)
fault_stops Whole o byte column bytes lt h = by_symbol (symbol_of byte) o refl (symbol_is byte) h
  where
    by_symbol : (x : Symbol) (o : Bool) → symbol_of byte ≡ x → IsSymbol x byte → StopsAt bytes column Whole o byte → Stops bytes (fault_by x o column)
    by_symbol Symbol.Open true e i h = subst (λ (b : ℕ). StopsAt bytes column Whole true b) i h
    by_symbol Symbol.Close false e i h = subst (λ (b : ℕ). StopsAt bytes column Whole false b) i h
    by_symbol (Symbol.Base b) o e i h = (byte, o, (b, [], i), h)
    by_symbol x o e i h =
        inl (byte, o, h, λ k. subst₂ IsOther (sym e ∙ ap symbol_of k.0 ∙ symbol_of_brackets.0) k.1 tt, λ k. subst₂ IsOther (sym e ∙ ap symbol_of k.0 ∙ symbol_of_brackets.1) k.1 tt, λ k. subst (λ (x : Symbol). IsOther x o) (sym e ∙ first_symbol k.0 byte k.1 k.2) tt)
fault_stops c o byte column bytes lt h =
    inr (byte, o, c, omega arith, subst (λ (x : ℕ). StopsAt bytes x c o byte) (omega arith) h)

pub step_stops : (front rest : List ℕ) (byte : ℕ) (s : State) (f : ReadFault) → run start front ≡ Ok s → step s byte ≡ Err f → Stops (front ++ byte ∷ rest) f
step_stops front rest byte s f e g =
    let h = reads_all front s e in
    let is = subst (λ (r : Result State ReadFault). Outcome (fault_at (cut_of s.last) (is_some s.bracket) byte (s.fed + 1)) (front ++ byte ∷ []) r) g (step_means s front byte h) in
    subst (λ (f : ReadFault). Stops (front ++ byte ∷ rest) f) (sym (is ∙ ap (λ n. fault_at (cut_of s.last) (is_some s.bracket) byte (n + 1)) h.fed))
    (fault_stops (cut_of s.last) (is_some s.bracket) byte (length front + 1) _ (let fits = cut_fits s front h in omega arith) (stop_at front rest byte s f e g))

-- Where a run was refused, it stops.
stops_after : (rest front : List ℕ) (s : State) (f : ReadFault) → run start front ≡ Ok s → run s rest ≡ Err f → Stops (front ++ rest) f
stops_after [] front s f e k = cc
stops_after (x ∷ rest) front s f e k = by_step (step s x) refl k (λ t q. stops_after rest (front ++ x ∷ []) t f q)
  where
    by_step : (r : Result State ReadFault) → step s x ≡ r → and_then r (λ t. run t rest) ≡ Err f → ((t : State) → run start (front ++ x ∷ []) ≡ Ok t → run t rest ≡ Err f → Stops ((front ++ x ∷ []) ++ rest) f) → Stops (front ++ x ∷ rest) f
    by_step (Ok t) q k on =
        subst (λ (y : List ℕ). Stops y f) (append_assoc front (x ∷ []) rest) (on t (run_after 256 start s front (x ∷ []) e ∙ ap (λ r. and_then r (λ t. Ok t)) q) k)
    by_step (Err g) q k on = step_stops front rest x s f e (q ∙ k)

pub run_stops : (bytes : List ℕ) (f : ReadFault) → run start bytes ≡ Err f → Stops bytes f
run_stops bytes f e = stops_after bytes [] start f refl e

-- the end of a line
pub ends_whole : (bytes : List ℕ) (s : State) → run start bytes ≡ Ok s → cut_of s.last ≡ Whole → s.bracket ≡ None → Spells bytes (settled s).moves.normal (settled s).moves.bracketed
ends_whole bytes s e c o =
    let h = reads_all bytes s e in
    front_spells _ _ (subst (λ (o : Option ℕ). WholeItems o bytes (settled s).moves) o (whole_front s bytes c h))

pub line_ends : (bytes : List ℕ) (s : State) → run start bytes ≡ Ok s → IsLine bytes → (cut_of s.last ≡ Whole) × (s.bracket ≡ None)
line_ends bytes s e h =
    let r = read_line_of _ h in
    let q : r.end ≡ s = (let w : Ok r.end ≡ Ok s = sym r.ran ∙ e in cc) in
    (ap (λ t. cut_of t.last) (sym q) ∙ r.ready, ap (λ t. t.bracket) (sym q) ∙ r.bracket)

ends_early : (bytes : List ℕ) (s : State) → run start bytes ≡ Ok s → ((cut_of s.last ≡ Whole) × (s.bracket ≡ None) → ⊥) → EndsEarly bytes (cut_of s.last) (is_some s.bracket)
ends_early bytes s e n =
    record {
      before = λ k h.
          let t = run_front (take k bytes) (drop k bytes) start s (ap (run start) (take-append-drop k bytes) ∙ e) in
          can_continue (take k bytes) t.0 t.1;
      ends_so = continues s bytes (reads_all bytes s e);
      no_line = λ h. n (line_ends bytes s e h);
    }

-- neither a bracket nor a line feed
abbrev pub is_plain : ℕ → Bool
is_plain b = not (b == 40 || b == 41) && not (b == 10)

plain_base : (b : Base) → list_all is_plain (base_bytes b) ≡ true
plain_base (Base.Face U) = refl
plain_base (Base.Wide U) = refl
plain_base (Base.LowerCase U) = refl
plain_base (Base.Slice M) = refl
plain_base (Base.Rotation Rl) = refl
plain_base _ = refl

plain_suffix : (s : Suffix) → list_all is_plain (suffix_bytes s) ≡ true
plain_suffix (Prime Plain) = refl
plain_suffix (TwoPrime Plain) = refl
plain_suffix _ = refl

pub plain_pieces : (ps : List Piece) → list_all is_plain (flat_map piece_bytes ps) ≡ true
plain_pieces [] = refl
plain_pieces (Gap Space ∷ ps) = plain_pieces ps
plain_pieces (Gap _ ∷ ps) = plain_pieces ps
plain_pieces (Spelled b s ∷ ps) =
    rw (list_all-append is_plain (base_bytes b ++ suffix_bytes s) (flat_map piece_bytes ps), list_all-append is_plain (base_bytes b) (suffix_bytes s))
    (and_both _ _ (and_both _ _ (plain_base b) (plain_suffix s)) (plain_pieces ps))

opens_front : (o : Option ℕ) (bytes : List ℕ) (m : Moves) (c : ℕ) → WholeItems o bytes m → o ≡ Some c → OpensAt bytes c
opens_front o bytes m c (Closed items) e = absurd (cc)
opens_front o bytes m c (Opened items ps) e =
    (flat_map item_bytes items, flat_map piece_bytes ps, refl, list_all-from_AllPass (λ b. not (b == 40 || b == 41)) (flat_map piece_bytes ps) (λ k d lt. and_left _ _ (AllPass-from_list_all is_plain (flat_map piece_bytes ps) (plain_pieces ps) k d lt)), (let k : c ≡ length (flat_map item_bytes items) + 1 = cc in k))

pub opens_at : (bytes : List ℕ) (s : State) (c : ℕ) → cut_of s.last ≡ Whole → Reads s bytes → s.bracket ≡ Some c → OpensAt bytes c
opens_at bytes s c w h o = opens_front s.bracket bytes _ c (whole_front s bytes w h) o

-- the faults of the end
pub lacks_bracket : (bytes : List ℕ) (s : State) (c : ℕ) → run start bytes ≡ Ok s → cut_of s.last ≡ Whole → s.bracket ≡ Some c → Lacks bytes (Unclosed c)
lacks_bracket bytes s c e w o =
    let h = ends_early bytes s e (λ r. let q : Some c ≡ None = sym o ∙ r.1 in cc) in
    (subst₂ (λ (x : Cut) (y : Bool). EndsEarly bytes x y) w (ap is_some o) h, opens_at bytes s c w (reads_all bytes s e) o)

pub lacks_apostrophe : (bytes : List ℕ) (s : State) (c : Cut) (column : ℕ) → run start bytes ≡ Ok s → cut_of s.last ≡ c → 0 < cut_length c → column + cut_length c ≡ length bytes + 1 → Lacks bytes (NotAMove column)
lacks_apostrophe bytes s c column e q w k =
    let early = ends_early bytes s e (λ r. let n = ap cut_length (sym q ∙ r.0) in omega (arith, w)) in
    (is_some s.bracket, c, w, subst (λ (x : Cut). EndsEarly bytes x (is_some s.bracket)) q early, k)
