-- What each byte may be, by the letters of the grammar and in the table of the code; what is spelled is read.
use Rattle.niss_moves.proofs.Names.{◌≡◌, ℕ, ◌<◌, Bool, true, false, cond, eqb, refl, ap, sym, ◌∙◌, subst, List, [], ◌∷◌, get_or, map, arith}
use Rattle.niss_moves.proofs.Names.{U, Rl, M, Base, Symbol, append_assoc, append-nil, length-append, ◌+◌, ◌≤◌, ◌++◌, length, flat_map}
use Rattle.niss_moves.proofs.Names.{Option, None, Some, Result, Ok, Err, face_letter, Whole, piece_moves, start, count, Face, Half, Counter}
use Rattle.niss_moves.proofs.Names.{Token, LastMove, ReadFault, TooLong, NotAMove, Nested, Unopened, ◌-◌, item_bytes, range_with_len, eqb-true, lt-ltb}
use Rattle.niss_moves.specs.Symbols.{symbol_of, bytes_of_a_line, look_up}
use Rattle.niss_moves.specs.Line.{piece_bytes, base_bytes, Blank, Space, Tab, Return, blank_byte, token_of, Plain, Typographic, Suffix}
use Rattle.niss_moves.specs.Line.{Nothing, Two, Prime, TwoPrime, suffix_bytes, suffix_power, Piece, Gap, Spelled, Item, Outside, Bracket}
use Rattle.niss_moves.specs.Line.{item_normal, item_bracketed, Spells, IsLine, Moves}
use Rattle.niss_moves.specs.Machine.{State, opened, step_within, cut_of, with_more, added, settled, closed, with_last, fed_to, step_by}
use Rattle.niss_moves.specs.Machine.{step_at, and_then, run_within}
use Rattle.std.proofs.lemmas.List.FromFn.{get_or-map-range_with_len}
use Rattle.niss_moves.specs.Faults.{Cut, cut_length}
use Rattle.niss_moves.specs.declared.symbol.TheConstants.{SYMBOLS}

-- the moves of items
abbrev pub moves_in : List Item → Moves
moves_in xs = record { normal = flat_map item_normal xs; bracketed = flat_map item_bracketed xs }

-- the fault of a symbol that can't stand at a column
abbrev pub fault_by : Symbol → Bool → ℕ → ReadFault
fault_by Symbol.Open true column = Nested column
fault_by Symbol.Close false column = Unopened column
fault_by (Symbol.Base b) o column = TooLong column
fault_by _ o column = NotAMove column

-- the fault of a byte that can't: of a U+2019 that it cuts, the first byte
abbrev pub fault_at : Cut → Bool → ℕ → ℕ → ReadFault
fault_at Whole o byte column = fault_by (symbol_of byte) o column
fault_at c o byte column = NotAMove (column - cut_length c)

-- the base that the first byte of a base is by itself
abbrev pub letter : Base → Base
letter (Base.Wide f) = Base.Face f
letter b = b

-- what each byte is
pub symbol_of_letter : (b : Base) → symbol_of (get_or (base_bytes b) 0 0) ≡ Symbol.Base (letter b)
unfolding symbol_of
symbol_of_letter (Base.Face U) = refl
symbol_of_letter (Base.Wide U) = refl
symbol_of_letter (Base.LowerCase U) = refl
symbol_of_letter (Base.Slice M) = refl
symbol_of_letter (Base.Rotation Rl) = refl
symbol_of_letter _ = refl

pub symbol_of_blank : (b : Blank) → symbol_of (blank_byte b) ≡ Symbol.Blank
unfolding symbol_of
symbol_of_blank Space = refl
symbol_of_blank _ = refl

pub symbol_of_brackets : (symbol_of 40 ≡ Symbol.Open) × (symbol_of 41 ≡ Symbol.Close)
unfolding symbol_of
symbol_of_brackets = (refl, refl)

pub first_symbol : (b : Base) (byte : ℕ) (more : List ℕ) → base_bytes b ≡ byte ∷ more → symbol_of byte ≡ Symbol.Base (letter b)
first_symbol b byte more e = ap (λ xs. symbol_of (get_or xs 0 0)) (sym e) ∙ symbol_of_letter b

-- what a symbol says of its byte
abbrev pub IsSymbol : Symbol → ℕ → Type 0
IsSymbol Symbol.Blank b = (x : Blank) × (b ≡ blank_byte x)
IsSymbol Symbol.Open b = b ≡ 40
IsSymbol Symbol.Close b = b ≡ 41
IsSymbol (Symbol.Base x) b = (base_bytes x ≡ b ∷ [])
IsSymbol Symbol.Wide b = b ≡ 119
IsSymbol Symbol.Two b = b ≡ 50
IsSymbol Symbol.Apostrophe b = b ≡ 39
IsSymbol Symbol.Cut b = b ≡ 0xE2
IsSymbol Symbol.Other b = Unit {0}

abbrev IsTable : List (ℕ × Symbol) → Type 0
IsTable [] = Unit {0}
IsTable (e ∷ es) = IsSymbol e.1 e.0 × IsTable es

look_up_is : (es : List (ℕ × Symbol)) → IsTable es → (b : ℕ) → IsSymbol (look_up es b) b
look_up_is [] h b = tt
look_up_is (e ∷ es) h b = chosen (eqb b e.0) refl (look_up_is es h.1 b)
  where
    chosen : (c : Bool) → eqb b e.0 ≡ c → IsSymbol (look_up es b) b → IsSymbol (cond c e.1 (look_up es b)) b
    chosen true q k = subst (λ (x : ℕ). IsSymbol e.1 x) (sym (eqb-true b e.0 q)) h.0
    chosen false q k = k

table : IsTable bytes_of_a_line
table = ((Space, refl), ((Tab, refl), ((Return, refl), (refl, (refl, (refl, (refl, (refl, (refl, (refl, (refl, (refl, (refl, (refl, (refl, (refl, (refl, (refl, (refl, (refl, (refl, (refl, (refl, (refl, (refl, (refl, (refl, tt)))))))))))))))))))))))))))

pub symbol_is : (b : ℕ) → IsSymbol (symbol_of b) b
unfolding symbol_of
symbol_is b = look_up_is bytes_of_a_line table b

pub base_is : (byte : ℕ) (b : Base) → symbol_of byte ≡ Symbol.Base b → base_bytes b ≡ byte ∷ []
base_is byte b e = subst (λ (x : Symbol). IsSymbol x byte) e (symbol_is byte)

pub blank_is : (byte : ℕ) → symbol_of byte ≡ Symbol.Blank → (x : Blank) × (byte ≡ blank_byte x)
blank_is byte e = subst (λ (x : Symbol). IsSymbol x byte) e (symbol_is byte)

-- the table of the code, by its 256 values
symbols_are : SYMBOLS ≡ map symbol_of (range_with_len 0 256)
unfolding symbol_of
symbols_are = refl

pub symbol_at : (b : ℕ) (d : Symbol) → b < 256 → get_or SYMBOLS b d ≡ symbol_of b
symbol_at b d lt =
    ap (λ (xs : List Symbol). get_or xs b d) symbols_are ∙ get_or-map-range_with_len symbol_of 0 256 b b d lt (omega arith)

pub and_then-assoc : (r : Result State ReadFault) (f g h : State → Result State ReadFault) → ((t : State) → h t ≡ and_then (f t) g) → and_then r h ≡ and_then (and_then r f) g
and_then-assoc (Ok t) f g h e = e t
and_then-assoc (Err x) f g h e = refl

pub run-append : (limit : ℕ) → (s : State) (a b : List ℕ) → run_within limit s (a ++ b) ≡ and_then (run_within limit s a) (λ t. run_within limit t b)
run-append limit s [] b = refl
run-append limit s (x ∷ a) b =
    and_then-assoc (step_within limit s x) (λ t. run_within limit t a) (λ t. run_within limit t b) (λ t. run_within limit t (a ++ b)) (λ t. run-append limit t a b)

pub run_after : (limit : ℕ) → (s t : State) (a b : List ℕ) → run_within limit s a ≡ Ok t → run_within limit s (a ++ b) ≡ run_within limit t b
run_after limit s t a b e = run-append limit s a b ∙ ap (λ r. and_then r (λ t. run_within limit t b)) e

-- a state by its parts
unfoldable pub state : Moves → Option ℕ → LastMove → ℕ → State
state m o t k = record { moves = m; bracket = o; last = t; fed = k }

-- one more byte was fed
abbrev pub counted : State → State
counted s = record s { fed = s.fed + 1 }

pub step_ready : (limit : ℕ) → (s : State) (byte : ℕ) → cut_of s.last ≡ Whole → step_within limit s byte ≡ fed_to (s.fed + 1) (step_by limit (symbol_of byte) s)
unfolding step_within
step_ready limit s byte h = ap (fed_to (s.fed + 1)) (at s.last h)
  where
    at : (t : LastMove) → cut_of t ≡ Whole → step_at limit t s byte ≡ step_by limit (symbol_of byte) s
    at (LastMove.FirstByte t) h = absurd (cc)
    at (LastMove.SecondByte t) h = absurd (cc)
    at _ h = refl

-- a base is read
begun_ready : (limit : ℕ) → (s : State) (byte : ℕ) (b : Base) → cut_of s.last ≡ Whole → count (settled s) < limit → symbol_of byte ≡ Symbol.Base b → step_within limit s byte ≡ Ok (counted (with_last (LastMove.Bare b) (settled s)))
begun_ready limit s byte b h room e =
    step_ready limit s byte h ∙ ap (λ k. fed_to (s.fed + 1) (step_by limit k s)) e ∙ ap (λ c. fed_to (s.fed + 1) (cond c (Ok (with_last (LastMove.Bare b) (settled s))) (Err (TooLong (s.fed + 1))))) (lt-ltb _ _ room)

run_on : (limit : ℕ) → (s t : State) (x : ℕ) (bs : List ℕ) → step_within limit s x ≡ Ok t → run_within limit s (x ∷ bs) ≡ run_within limit t bs
run_on limit s t x bs e = ap (λ r. and_then r (λ s. run_within limit s bs)) e

abbrev based : State → Base → ℕ → State
based s b n = record (settled s) { last = LastMove.Bare b; fed = n }

step_wide : (limit : ℕ) → (s : State) (f : Face) (n : ℕ) → step_within limit (based s (Base.Face f) n) 119 ≡ Ok (based s (Base.Wide f) (n + 1))
unfolding step_within symbol_of
step_wide limit s f n = refl

run_base : (limit : ℕ) → (s : State) (b : Base) → cut_of s.last ≡ Whole → count (settled s) < limit → run_within limit s (base_bytes b) ≡ Ok (based s b (s.fed + length (base_bytes b)))
run_base limit s (Base.Wide f) h room =
    run_on limit s _ (face_letter f) (119 ∷ []) (begun_ready limit s _ (Base.Face f) h room (symbol_of_letter (Base.Face f)))
    ∙ run_on limit _ _ 119 [] (step_wide limit s f (s.fed + 1)) ∙ ap (λ n. Ok (based s (Base.Wide f) n)) (omega arith)
run_base limit s b h room = run_on limit s _ _ [] (begun_ready limit s _ b h room (symbol_of_letter b))

-- the state after a move, with so many bytes fed
abbrev pub at_fed : State → Token → ℕ → State
at_fed s t n = record (added s (Some t)) { fed = n }

-- what was read from a state on: a move as it is spelled
pub record RanMove (limit : ℕ) (s : State) (bytes : List ℕ) (t : Token) : Type 0 where
  pub end : State
  pub ran : run_within limit s bytes ≡ Ok end
  pub ready : cut_of end.last ≡ Whole
  pub fed : end.fed ≡ s.fed + length bytes
  pub settles : settled end ≡ at_fed (settled s) t end.fed

run_suffix : (limit : ℕ) → (s : State) (b : Base) (n : ℕ) (x : Suffix) → (end : State) × (run_within limit (based s b n) (suffix_bytes x) ≡ Ok end) × cut_of end.last ≡ Whole × (end.fed ≡ n + length (suffix_bytes x)) × (settled end ≡ at_fed (settled s) (token_of b (suffix_power x)) end.fed)
unfolding step_within symbol_of
run_suffix limit s b n Nothing = (based s b n, refl, refl, omega arith, refl)
run_suffix limit s b n Two = (counted (with_last (LastMove.Doubled b) (based s b n)), refl, refl, refl, refl)
run_suffix limit s b n (Prime Plain) = (counted (added (based s b n) (Some (token_of b Counter))), refl, refl, refl, refl)
run_suffix limit s b n (Prime Typographic) =
    (counted (counted (counted (added (based s b n) (Some (token_of b Counter))))), refl, refl, omega arith, refl)
run_suffix limit s b n (TwoPrime Plain) = (counted (counted (added (based s b n) (Some (token_of b Half)))), refl, refl, omega arith, refl)
run_suffix limit s b n (TwoPrime Typographic) =
    (counted (counted (counted (counted (added (based s b n) (Some (token_of b Half)))))), refl, refl, omega arith, refl)

ran_move : (limit : ℕ) → (s : State) (b : Base) (x : Suffix) → cut_of s.last ≡ Whole → count (settled s) < limit → RanMove limit s (base_bytes b ++ suffix_bytes x) (token_of b (suffix_power x))
ran_move limit s b x h room =
    let rest = run_suffix limit s b (s.fed + length (base_bytes b)) x in
    record {
      end = rest.0;
      ran = run_after limit s _ (base_bytes b) (suffix_bytes x) (run_base limit s b h room) ∙ rest.1;
      ready = rest.2;
      fed = let e = rest.3 in omega (arith, e, length-append (base_bytes b) (suffix_bytes x));
      settles = rest.4;
    }

step_blank : (limit : ℕ) → (s : State) (b : Blank) → cut_of s.last ≡ Whole → step_within limit s (blank_byte b) ≡ Ok (counted (settled s))
step_blank limit s b h = step_ready limit s (blank_byte b) h ∙ ap (λ k. fed_to (s.fed + 1) (step_by limit k s)) (symbol_of_blank b)

-- a move and a blank
pub run_move : (limit : ℕ) → (s : State) (b : Base) (x : Suffix) (k : Blank) → cut_of s.last ≡ Whole → count (settled s) < limit
    → run_within limit s (base_bytes b ++ suffix_bytes x ++ blank_byte k ∷ []) ≡ Ok (at_fed (settled s) (token_of b (suffix_power x)) (s.fed + length (base_bytes b ++ suffix_bytes x ++ blank_byte k ∷ [])))
run_move limit s b x k h room =
    let one = ran_move limit s b x h room in
    let front = base_bytes b ++ suffix_bytes x in
    let sum : one.end.fed + 1 ≡ s.fed + length (front ++ blank_byte k ∷ []) = omega (arith, one.fed, length-append front (blank_byte k ∷ [])) in
    run_after limit s one.end front (blank_byte k ∷ []) one.ran
    ∙ run_on limit one.end _ (blank_byte k) [] (step_blank limit one.end k one.ready) ∙ ap (λ t. Ok (counted t)) one.settles ∙ ap (λ n. Ok (at_fed (settled s) (token_of b (suffix_power x)) n)) sum

pub more_none : (o : Option ℕ) (m : Moves) → m ≡ with_more o m []
more_none None m = λ i. record m { normal = sym (append-nil m.normal) i }
more_none (Some c) m = λ i. record m { bracketed = sym (append-nil m.bracketed) i }

pub count_more : (o : Option ℕ) (m : Moves) (ts : List Token) → length (with_more o m ts).normal + length (with_more o m ts).bracketed ≡ length m.normal + length m.bracketed + length ts
count_more None m ts = omega (arith, length-append m.normal ts)
count_more (Some c) m ts = omega (arith, length-append m.bracketed ts)

-- moves and others after them
abbrev joined : Moves → Moves → Moves
joined m k = record { normal = m.normal ++ k.normal; bracketed = m.bracketed ++ k.bracketed }

abbrev no_moves : Moves
no_moves = record { normal = []; bracketed = [] }

more_is : (o : Option ℕ) (m : Moves) (ts : List Token) → with_more o m ts ≡ joined m (with_more o no_moves ts)
more_is None m ts = λ i. record { normal = m.normal ++ ts; bracketed = sym (append-nil m.bracketed) i }
more_is (Some c) m ts = λ i. record { normal = sym (append-nil m.normal) i; bracketed = m.bracketed ++ ts }

-- what was read from a state on: these moves, and then a bracket is open or none is
pub record Read (limit : ℕ) (s : State) (bytes : List ℕ) (m : Moves) (o : Option ℕ) : Type 0 where
  pub end : State
  pub ran : run_within limit s bytes ≡ Ok end
  pub ready : cut_of end.last ≡ Whole
  pub moves : (settled end).moves ≡ joined (settled s).moves m
  pub bracket : end.bracket ≡ o

read_none : (limit : ℕ) → (s : State) (o : Option ℕ) → cut_of s.last ≡ Whole → s.bracket ≡ o → Read limit s [] no_moves o
read_none limit s o h e =
    record { end = s; ran = refl; ready = h; moves = more_none None _ ∙ more_is None _ []; bracket = e }

read_more : (limit : ℕ) → (s : State) (a b : List ℕ) (m k : Moves) (o r : Option ℕ) (h : Read limit s a m o) → Read limit h.end b k r → Read limit s (a ++ b) (joined m k) r
read_more limit s a b m k o r h g =
    let at = (settled s).moves in
    let assoc : joined (joined at m) k ≡ joined at (joined m k) = λ i. record { normal = append_assoc at.normal m.normal k.normal i; bracketed = append_assoc at.bracketed m.bracketed k.bracketed i } in
    record {
      end = g.end;
      ran = run_after limit s h.end a b h.ran ∙ g.ran;
      ready = g.ready;
      moves = g.moves ∙ ap (λ n. joined n k) h.moves ∙ assoc;
      bracket = g.bracket;
    }

read_count : (limit : ℕ) → (s : State) (a : List ℕ) (m : Moves) (o : Option ℕ) (h : Read limit s a m o) → count (settled h.end) ≡ count (settled s) + length m.normal + length m.bracketed
read_count limit s a m o h =
    let e = ap (λ (m : Moves). length m.normal) h.moves in
    let f = ap (λ (m : Moves). length m.bracketed) h.moves in
    omega (arith, length-append (settled s).moves.normal m.normal, length-append (settled s).moves.bracketed m.bracketed)

read_piece : (limit : ℕ) → (s : State) (p : Piece) (o : Option ℕ) → cut_of s.last ≡ Whole → s.bracket ≡ o → count (settled s) + length (piece_moves p) ≤ limit
    → Read limit s (piece_bytes p) (with_more o no_moves (piece_moves p)) o
read_piece limit s (Gap b) o h e room =
    record {
      end = counted (settled s);
      ran = run_on limit s _ (blank_byte b) [] (step_blank limit s b h);
      ready = refl;
      moves = more_none o _ ∙ more_is o _ [];
      bracket = e;
    }
read_piece limit s (Spelled b x) o h e room =
    let one = ran_move limit s b x h (omega arith) in
    let t = token_of b (suffix_power x) ∷ [] in
    record {
      end = one.end;
      ran = one.ran;
      ready = one.ready;
      moves = ap (λ (t : State). t.moves) one.settles ∙ ap (λ o. with_more o (settled s).moves t) e ∙ more_is o _ t;
      bracket = ap (λ (t : State). t.bracket) one.settles ∙ e;
    }

read_pieces : (limit : ℕ) → (s : State) (ps : List Piece) (c : ℕ) → cut_of s.last ≡ Whole → s.bracket ≡ Some c → count (settled s) + length (flat_map piece_moves ps) ≤ limit
    → Read limit s (flat_map piece_bytes ps) (with_more (Some c) no_moves (flat_map piece_moves ps)) (Some c)
read_pieces limit s [] c h e room = read_none limit s (Some c) h e
read_pieces limit s (p ∷ ps) c h e room =
    let l = length-append (piece_moves p) (flat_map piece_moves ps) in
    let one = read_piece limit s p (Some c) h e (omega arith) in
    read_more limit s (piece_bytes p) (flat_map piece_bytes ps) _ _ _ _ one (read_pieces limit one.end ps c one.ready one.bracket (omega (arith, read_count limit s _ _ _ one)))

abbrev entered : State → State
entered s = counted (record (settled s) { bracket = Some (s.fed + 1) })

step_open : (limit : ℕ) → (s : State) → cut_of s.last ≡ Whole → s.bracket ≡ None → step_within limit s 40 ≡ Ok (entered s)
unfolding symbol_of
step_open limit s h o = step_ready limit s 40 h ∙ ap (λ b. fed_to (s.fed + 1) (opened b s)) o

step_close : (limit : ℕ) → (s : State) (c : ℕ) → cut_of s.last ≡ Whole → s.bracket ≡ Some c → step_within limit s 41 ≡ Ok (counted (record (settled s) { bracket = None }))
unfolding symbol_of
step_close limit s c h o = step_ready limit s 41 h ∙ ap (λ b. fed_to (s.fed + 1) (closed b s)) o

read_item : (limit : ℕ) → (s : State) (x : Item) → cut_of s.last ≡ Whole → s.bracket ≡ None → count (settled s) + length (item_normal x) + length (item_bracketed x) ≤ limit
    → Read limit s (item_bytes x) (record { normal = item_normal x; bracketed = item_bracketed x }) None
read_item limit s (Outside p) h o room = read_piece limit s p None h o (omega arith)
read_item limit s (Bracket ps) h o room =
    let r = read_pieces limit (entered s) ps (s.fed + 1) refl refl (omega arith) in
    record {
      end = counted (record (settled r.end) { bracket = None });
      ran = run_on limit s (entered s) 40 (flat_map piece_bytes ps ++ 41 ∷ []) (step_open limit s h o) ∙ run_after limit (entered s) r.end (flat_map piece_bytes ps) (41 ∷ []) r.ran ∙ run_on limit r.end _ 41 [] (step_close limit r.end (s.fed + 1) r.ready r.bracket);
      ready = refl;
      moves = r.moves;
      bracket = refl;
    }

read_items : (limit : ℕ) → (s : State) (xs : List Item) → cut_of s.last ≡ Whole → s.bracket ≡ None → count (settled s) + length (flat_map item_normal xs) + length (flat_map item_bracketed xs) ≤ limit
    → Read limit s (flat_map item_bytes xs) (moves_in xs) None
read_items limit s [] h o room = read_none limit s None h o
read_items limit s (x ∷ xs) h o room =
    let l = length-append (item_normal x) (flat_map item_normal xs) in
    let k = length-append (item_bracketed x) (flat_map item_bracketed xs) in
    let one = read_item limit s x h o (omega arith) in
    read_more limit s (item_bytes x) (flat_map item_bytes xs) _ _ _ _ one (read_items limit one.end xs one.ready one.bracket (omega (arith, read_count limit s _ _ _ one)))

-- A line that is spelled by at most 256 moves is read as these.
pub completes : (limit : ℕ) → (bytes : List ℕ) (m : Moves) → Spells bytes m.normal m.bracketed → length m.normal + length m.bracketed ≤ limit → Read limit start bytes m None
completes limit bytes m h room =
    let e = ap length h.normal_are in
    let f = ap length h.bracketed_are in
    let r = read_items limit start h.items refl refl (omega arith) in
    record {
      end = r.end;
      ran = ap (run_within limit start) h.bytes_are ∙ r.ran;
      ready = r.ready;
      moves = r.moves ∙ (λ i. record { normal = sym h.normal_are i; bracketed = sym h.bracketed_are i });
      bracket = r.bracket;
    }

pub read_line_of : (bytes : List ℕ) (line : IsLine bytes) → Read 256 start bytes (record { normal = line.normal; bracketed = line.bracketed }) None
read_line_of bytes line = completes 256 bytes (record { normal = line.normal; bracketed = line.bracketed }) line.spells line.fits
