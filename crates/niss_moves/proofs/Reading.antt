-- Each line has one reading: its moves, or its one fault.
use Rattle.niss_moves.proofs.Names.{refl, ap, sym, ◌∙◌, arith, inl, inr, ◌≡◌, ℕ, ◌+◌, ◌-◌, ◌<◌, Bool, true, false, List, [], ◌∷◌, ◌++◌}
use Rattle.niss_moves.proofs.Names.{length, take, drop, Option, None, Some, Result, Ok, Err, suc, ◌==◌, ◌||◌, not, has_no_bracket, Whole}
use Rattle.niss_moves.proofs.Names.{CanContinue, Stops, Lacks, start, run, ended, is_some, Symbol, LastMove, ReadFault, NotAMove, Nested}
use Rattle.niss_moves.proofs.Names.{Unopened, Unclosed, TooLong, IsReading, Token, take-append-drop, take_more, length-take-le}
use Rattle.niss_moves.specs.Symbols.{symbol_of}
use Rattle.niss_moves.specs.Machine.{State, step_within, step, and_then, ended_by, cut_of, ended_in, settled}
use Rattle.niss_moves.specs.Faults.{Cut, LacksOne, LacksTwo, cut_length, cut_ending, bracket_ending, Continues, BeginsBase, StopsAt, Faults}
use Rattle.niss_moves.specs.Line.{Moves, Spells, IsLine}
use Rattle.niss_moves.proofs.Finite.{and_right}
use Rattle.niss_moves.proofs.Completes.{fault_by, fault_at, state, run-append, run_after, read_line_of, IsSymbol, symbol_is, first_symbol, completes}
use Rattle.niss_moves.proofs.Sound.{Reads, Outcome, step_means, reads_all, can_continue, continued_ok, opens_at, cut_fits, run_stops}
use Rattle.niss_moves.proofs.Sound.{ends_whole, lacks_bracket, lacks_apostrophe}

-- A beginning of a line ends in one cut, and a bracket is open or none is.
no_fault : {f : ReadFault} {end : State} → ◌≡◌ {A = Result State ReadFault} (Err f) (Ok end) → ⊥
no_fault e = cc

state_is : {s end : State} → ◌≡◌ {A = Result State ReadFault} (Ok s) (Ok end) → s ≡ end
state_is e = cc

-- with no cut apostrophe the ending is a bracket or nothing
ready_ending : (m : Moves) (o : Option ℕ) (t : LastMove) (k : ℕ) (q : Bool) (end : State) → run (state m o t k) (bracket_ending q) ≡ Ok end → cut_of end.last ≡ Whole → end.bracket ≡ None → (cut_of t ≡ Whole) × (is_some o ≡ q)
unfolding step_within symbol_of state
ready_ending m o t k false end e r h =
    let x : state m o t k ≡ end = state_is e in
    (ap (λ (s : State). cut_of s.last) x ∙ r, ap (λ (s : State). is_some s.bracket) x ∙ ap is_some h)
ready_ending m (Some c) LastMove.Finished k true end e r h = (refl, refl)
ready_ending m (Some c) (LastMove.Bare x) k true end e r h = (refl, refl)
ready_ending m (Some c) (LastMove.Doubled x) k true end e r h = (refl, refl)
ready_ending m None LastMove.Finished k true end e r h = absurd (no_fault e)
ready_ending m _ _ k true end e r h = absurd (no_fault e)

cut_ending_is : (m : Moves) (o : Option ℕ) (t : LastMove) (k : ℕ) (c : Cut) (q : Bool) (end : State) → and_then (run (state m o t k) (cut_ending c)) (λ u. run u (bracket_ending q)) ≡ Ok end → cut_of end.last ≡ Whole → end.bracket ≡ None → (cut_of t ≡ c) × (is_some o ≡ q)
unfolding step_within symbol_of state
cut_ending_is m o t k Whole q end e r h = ready_ending m o t k q end e r h
cut_ending_is m o (LastMove.SecondByte t) k LacksOne q end e r h = (refl, (ready_ending _ o LastMove.Finished _ q end e r h).1)
cut_ending_is m o (LastMove.FirstByte t) k LacksTwo q end e r h = (refl, (ready_ending _ o LastMove.Finished _ q end e r h).1)
cut_ending_is m o _ k _ q end e r h = absurd (no_fault e)

one_ending : (bytes : List ℕ) (s : State) (c : Cut) (q : Bool) → run start bytes ≡ Ok s → Continues bytes c q → (cut_of s.last ≡ c) × (is_some s.bracket ≡ q)
unfolding state
one_ending bytes s c q e line =
    let d = read_line_of _ line in
    let x : and_then (run s (cut_ending c)) (λ u. run u (bracket_ending q)) ≡ Ok d.end = sym (run-append 256 start (bytes ++ cut_ending c) (bracket_ending q) ∙ ap (λ r. and_then r (λ u. run u (bracket_ending q))) (run_after 256 start s bytes (cut_ending c) e)) ∙ d.ran in
    cut_ending_is s.moves s.bracket s.last s.fed c q d.end x d.ready d.bracket

-- Where bytes stop, the run has the fault of the byte there.
stopped : (bytes : List ℕ) (column : ℕ) (c : Cut) (q : Bool) (byte : ℕ) → StopsAt bytes column c q byte → run start bytes ≡ Err (fault_at c q byte column)
stopped bytes column c q byte h =
    let front = take (column - 1) bytes in
    let w = continued_ok front (h.before (column - 1) (omega (arith, h.positive))) in
    let one = one_ending _ w.0 c q w.1 h.ends_so in
    let lt : column - 1 < length bytes = omega (arith, h.positive, h.within) in
    let split : take column bytes ≡ front ++ byte ∷ [] = ap (λ n. take n bytes) (omega (arith, h.positive)) ∙ take_more bytes (column - 1) 0 lt ∙ ap (λ b. front ++ b ∷ []) (sym h.byte_is) in
    let step_is = ap (run start) split ∙ run_after 256 start w.0 front (byte ∷ []) w.1 in
    let reads = reads_all front w.0 w.1 in
    let at : w.0.fed + 1 ≡ column = (let long = length-take-le (column - 1) bytes (omega (arith, lt)) in omega (arith, reads.fed, long, h.positive)) in
    by_step _ _ (step w.0 byte) (step_means w.0 front byte reads) step_is ∙ (λ i. Err (fault_at (one.0 i) (one.1 i) byte (at i)))
  where
    by_step : (fault : ReadFault) (front : List ℕ) (r : Result State ReadFault) → Outcome fault front r → run start (take column bytes) ≡ and_then r (λ t. Ok t) → run start bytes ≡ Err fault
    by_step fault front (Ok t) k f = absurd (h.stops (can_continue (take column bytes) t f))
    by_step fault front (Err g) k f =
        ap (run start) (sym (take-append-drop column bytes)) ∙ run-append 256 start (take column bytes) (drop column bytes) ∙ ap (λ r. and_then r (λ t. run t (drop column bytes))) f ∙ ap Err k

other_fault : (x : Symbol) (o : Bool) (byte column : ℕ) → IsSymbol x byte → ((byte ≡ 40) × (o ≡ true) → ⊥) → ((byte ≡ 41) × (o ≡ false) → ⊥) → (BeginsBase byte → ⊥) → fault_by x o column ≡ NotAMove column
other_fault Symbol.Open true byte column i nested unopened long = absurd (nested (i, refl))
other_fault Symbol.Close false byte column i nested unopened long = absurd (unopened (i, refl))
other_fault (Symbol.Base b) o byte column i nested unopened long = absurd (long (b, [], i))
other_fault _ _ byte column i nested unopened long = refl

cut_fault : (c : Cut) (o : Bool) (byte column : ℕ) → 0 < cut_length c → fault_at c o byte (column + cut_length c) ≡ NotAMove column
cut_fault Whole o byte column p = absurd (omega (arith, p))
cut_fault _ o byte column p = ap NotAMove (omega arith)

stops_run : (bytes : List ℕ) (f : ReadFault) → Stops bytes f → run start bytes ≡ Err f
unfolding symbol_of
stops_run bytes (NotAMove column) h =
    elim h [
      | inl w ↦ stopped bytes column Whole w.1 w.0 w.2 ∙ ap Err (other_fault (symbol_of w.0) w.1 w.0 column (symbol_is w.0) w.3 w.4 w.5)
      | inr w ↦ stopped bytes (column + cut_length w.2) w.2 w.1 w.0 w.4 ∙ ap Err (cut_fault w.2 w.1 w.0 column w.3)
    ]
stops_run bytes (Nested column) h = stopped bytes column Whole true 40 h
stops_run bytes (Unopened column) h = stopped bytes column Whole false 41 h
stops_run bytes (TooLong column) h =
    stopped bytes column Whole h.1 h.0 h.3 ∙ ap (λ x. Err (fault_by x h.1 column)) (first_symbol h.2.0 h.0 h.2.1 h.2.2)
stops_run bytes (Unclosed column) h = absurd h

-- the last opening bracket is one
has_opening : (a b : List ℕ) → has_no_bracket (a ++ 40 ∷ b) ≡ true → ⊥
has_opening [] b e = cc
has_opening (x ∷ a) b e = has_opening a b (and_right (not (x == 40 || x == 41)) _ e)

one_opening : (a b c d : List ℕ) → a ++ 40 ∷ b ≡ c ++ 40 ∷ d → has_no_bracket b ≡ true → has_no_bracket d ≡ true → length a ≡ length c
one_opening [] b [] d e p q = refl
one_opening [] b (y ∷ c) d e p q =
    let t : b ≡ c ++ 40 ∷ d = cc in absurd (has_opening c d (ap has_no_bracket (sym t) ∙ p))
one_opening (x ∷ a) b [] d e p q =
    let t : a ++ 40 ∷ b ≡ d = cc in absurd (has_opening a b (ap has_no_bracket t ∙ q))
one_opening (x ∷ a) b (y ∷ c) d e p q =
    let t : a ++ 40 ∷ b ≡ c ++ 40 ∷ d = cc in ap suc (one_opening a b c d t p q)

-- the fault of a cut at the end
cut_ended : (c : Cut) (s : State) (column : ℕ) → 0 < cut_length c → column + cut_length c ≡ s.fed + 1 → ended_by c s ≡ Err (NotAMove column)
cut_ended Whole s column p e = absurd (omega (arith, p))
cut_ended _ s column p e = ap (λ n. Err (NotAMove n)) (omega (arith, e))

lacks_continue : (bytes : List ℕ) (f : ReadFault) → Lacks bytes f → CanContinue bytes
lacks_continue bytes (NotAMove column) h = (h.1, h.0, h.3.ends_so)
lacks_continue bytes (Unclosed column) h = (Whole, true, h.0.ends_so)
lacks_continue bytes _ h = absurd h

lacks_ended : (bytes : List ℕ) (f : ReadFault) → Lacks bytes f → ended (run start bytes) ≡ Err f
lacks_ended bytes (NotAMove column) h =
    let w = continued_ok bytes (lacks_continue bytes (NotAMove column) h) in
    let one = one_ending bytes w.0 h.1 h.0 w.1 h.3.ends_so in
    ap ended w.1 ∙ ap (λ c. ended_by c w.0) one.0 ∙ cut_ended h.1 w.0 column h.2 (omega (arith, h.4, (reads_all bytes w.0 w.1).fed))
lacks_ended bytes (Unclosed column) h =
    let w = continued_ok bytes (lacks_continue bytes (Unclosed column) h) in
    let one = one_ending bytes w.0 Whole true w.1 h.0.ends_so in
    ap ended w.1 ∙ ap (λ c. ended_by c w.0) one.0 ∙ by_bracket w.0 w.0.bracket refl one.1 one.0 (reads_all bytes w.0 w.1)
  where
    by_bracket : (s : State) (o : Option ℕ) → s.bracket ≡ o → is_some o ≡ true → cut_of s.last ≡ Whole → Reads s bytes → ended_in o s ≡ Err (Unclosed column)
    by_bracket s None b e k r = absurd (cc)
    by_bracket s (Some c) b e k r =
        let x = opens_at bytes s c k r b in
        let y = h.1 in
        let l = one_opening x.0 x.1 y.0 y.1 (sym x.2 ∙ y.2) x.3 y.3 in
        ap (λ n. Err (Unclosed n)) (omega (arith, x.4, y.4))
lacks_ended bytes _ h = absurd h

pub fault_ended : (bytes : List ℕ) (f : ReadFault) → Faults bytes f → ended (run start bytes) ≡ Err f
fault_ended bytes f h = elim h [ inl s ↦ ap ended (stops_run bytes f s) | inr l ↦ lacks_ended bytes f l ]

pub one_fault : (bytes : List ℕ) (f g : ReadFault) → Faults bytes f → Faults bytes g → f ≡ g
one_fault bytes f g h k =
    let e : Err f ≡ Err g = sym (fault_ended bytes f h) ∙ fault_ended bytes g k in cc

pub one_ending_of_two : (bytes : List ℕ) (c d : Cut) (p q : Bool) → Continues bytes c p → Continues bytes d q → (c ≡ d) × (p ≡ q)
one_ending_of_two bytes c d p q h k =
    let w = continued_ok bytes (c, p, h) in
    let x = one_ending bytes w.0 c p w.1 h in
    let y = one_ending bytes w.0 d q w.1 k in
    (sym x.0 ∙ y.0, sym x.1 ∙ y.1)

-- What a run over the bytes comes to is a reading.
final : (bytes : List ℕ) (r : Result State ReadFault) → r ≡ run start bytes → IsReading bytes (ended r)
final bytes (Err f) e = inl (run_stops bytes f (sym e))
final bytes (Ok s) e = by_cut (cut_of s.last) refl
  where
    by_bracket : (o : Option ℕ) → cut_of s.last ≡ Whole → s.bracket ≡ o → IsReading bytes (ended_in o s)
    by_bracket None w o = (ends_whole bytes s (sym e) w o, (reads_all bytes s (sym e)).room)
    by_bracket (Some c) w o = inr (lacks_bracket bytes s c (sym e) w o)

    by_cut : (c : Cut) → cut_of s.last ≡ c → IsReading bytes (ended_by c s)
    by_cut Whole w = by_bracket s.bracket w refl
    by_cut c w =
        let h = reads_all bytes s (sym e) in
        inr (lacks_apostrophe bytes s c (s.fed - (cut_length c - 1)) (sym e) w (omega arith) (omega (arith, h.fed, cut_fits s bytes h, ap cut_length w)))

pub run_reads : (bytes : List ℕ) → IsReading bytes (ended (run start bytes))
run_reads bytes = final bytes (run start bytes) refl

-- A reading is what the run comes to, and so there is one.
pub ends_as : (bytes : List ℕ) (line : Result Moves ReadFault) → IsReading bytes line → ended (run start bytes) ≡ line
ends_as bytes (Ok m) h =
    let d = completes 256 bytes m h.0 h.1 in
    ap ended d.ran ∙ ap (λ c. ended_by c d.end) d.ready ∙ ap (λ o. ended_in o d.end) d.bracket ∙ ap Ok d.moves
ends_as bytes (Err f) h = fault_ended bytes f h

pub no_line : (bytes : List ℕ) (f : ReadFault) → IsReading bytes (Err f) → IsLine bytes → ⊥
no_line bytes f h line =
    let k = ends_as bytes (Ok (record { normal = line.normal; bracketed = line.bracketed })) (line.spells, line.fits) in
    let e : ended (run start bytes) ≡ Err f = ends_as bytes (Err f) h in
    cc

-- two readings are one
pub one_reading : (bytes : List ℕ) (n b m c : List Token) → Spells bytes n b → Spells bytes m c → (n ≡ m) × (b ≡ c)
one_reading bytes n b m c h k =
    let limit = length n + length b + (length m + length c) in
    let x = completes limit bytes (record { normal = n; bracketed = b }) h (omega arith) in
    let y = completes limit bytes (record { normal = m; bracketed = c }) k (omega arith) in
    let e : Ok x.end ≡ Ok y.end = sym x.ran ∙ y.ran in
    let q : x.end ≡ y.end = cc in
    let same = sym x.moves ∙ ap (λ s. (settled s).moves) q ∙ y.moves in
    (ap (λ (m : Moves). m.normal) same, ap (λ (m : Moves). m.bracketed) same)
