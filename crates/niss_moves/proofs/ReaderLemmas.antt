-- What the reader's answers mean, and what a move that is read at once does.
use Rattle.niss_moves.proofs.Names.{LastMove, ◌≡◌, ℕ, ◌+◌, refl, ap, sym, ◌∙◌, subst, List, [], ◌∷◌, ◌++◌, length, Option, None, Some}
use Rattle.niss_moves.proofs.Names.{Result, Ok, Err, arith, length-append, CanContinue, Stops, IsReading, ReadFault, start, run, ended, ◌<◌, take}
use Rattle.niss_moves.proofs.Names.{between, between_to_end, append_assoc, length-drop, ◌≤◌, drop, get_or, inl, inr, ◌==◌, ◌*◌, nat_lt, Bool, true, false, count, IsSuffix, IsMove}
use Rattle.niss_moves.proofs.Names.{BeginsApostrophe, Power, Quarter, Half, Counter, Token, Base, ◌↔◌, IsOk, IfErr, take-add, ap₂}
use Rattle.niss_moves.proofs.Names.{bool_byte, take_more, lt-ltb, eqb-true, Reader, IsFed}
use Rattle.niss_moves.specs.Machine.{State, state_or, IsStep, step, and_then, added, settled, with_last, cut_of}
use Rattle.niss_moves.specs.Line.{token_of, base_bytes, Nothing, Two, Prime, TwoPrime, Blank, blank_byte}
use Rattle.std.specs.Result.{result_err}
use Rattle.niss_moves.specs.Reader.{line_of, read_line}
use Rattle.niss_moves.proofs.Completes.{run-append, run_after, at_fed, run_move}
use Rattle.niss_moves.proofs.Sound.{can_continue, continued_ok, run_stops}
use Rattle.niss_moves.proofs.Reading.{run_reads}
use Rattle.niss_moves.specs.Line.{Moves}

-- what a caller gets of an outcome
abbrev pub answer : Result State ReadFault → Result (Unit {0}) ReadFault
answer (Ok s) = Ok tt
answer (Err f) = Err f

-- A byte is taken where a line can go on, and else is where it stops.
run_means : (r : Result State ReadFault) (bytes : List ℕ) → r ≡ run start bytes → (IsOk (answer r) ↔ CanContinue bytes) × IfErr (answer r) (λ f. Stops bytes f)
run_means (Ok s) bytes e = ((λ _. can_continue bytes s (sym e), λ _. refl), tt)
run_means (Err f) bytes e =
    ((λ k. absurd (cc), λ k. let w = continued_ok bytes k in let q : Err f ≡ Ok w.0 = e ∙ w.1 in absurd (cc)), run_stops bytes f (sym e))

pub answer_means : (r : Reader) (result : Result (Unit {0}) ReadFault) (bytes : List ℕ) → result ≡ answer (state_or r.fault r.so_far) → IsFed r bytes → (IsOk result ↔ CanContinue bytes) × IfErr result (λ f. Stops bytes f)
answer_means r result bytes e h =
    subst (λ (x : Result (Unit {0}) ReadFault). (IsOk x ↔ CanContinue bytes) × IfErr x (λ f. Stops bytes f)) (sym e) (run_means (state_or r.fault r.so_far) bytes h.holds)

-- what a reader answers at the end: the line of what was fed
pub ended_well : (r : Reader) → r.fault ≡ None → line_of r ≡ ended (Ok r.so_far)
unfolding line_of
ended_well r e = ap (λ o. ended (state_or o r.so_far)) e

pub ended_ill : (r : Reader) (f : ReadFault) → r.fault ≡ Some f → line_of r ≡ Err f
unfolding line_of
ended_ill r f e = ap (λ o. ended (state_or o r.so_far)) e

pub line_of_fed : (r : Reader) (bytes : List ℕ) → IsFed r bytes → line_of r ≡ read_line bytes
unfolding line_of read_line
line_of_fed r bytes h = ap ended h.holds

-- the line of some bytes is their reading
pub reads_so : (bytes : List ℕ) (line : Result Moves ReadFault) → line ≡ read_line bytes → IsReading bytes line
unfolding read_line
reads_so bytes line e = subst (IsReading bytes) (sym e) (run_reads bytes)

pub ruleset at_the_end = (ended_well, ended_ill)

-- bytes fed to a reader
pub record IsFedOn (old : Reader) (xs : List ℕ) (new : Reader) : Type 0 where
  pub fed : new.fed ≡ old.fed + length xs
  pub outcome : state_or new.fault new.so_far ≡ and_then (state_or old.fault old.so_far) (λ s. run s xs)

-- a byte, and what is answered
pub record IsAnswered (old : Reader) (byte : ℕ) (new : Reader) (result : Result (Unit {0}) ReadFault) : Type 0 where
  pub on : IsFedOn old (byte ∷ []) new
  pub answered : result ≡ answer (state_or new.fault new.so_far)

-- a reader, by the line that it reads
abbrev pub reader : Option ReadFault → State → Reader
reader fault line = record { fed = line.fed; fault = fault; so_far = line }

pub fed_on : (fault next : Option ReadFault) (p q t : State) (byte : ℕ) (result r : Result (Unit {0}) ReadFault) → fault ≡ None → IsStep (λ s. step s byte) p r t → t.fed ≡ p.fed + 1 → result ≡ r → next ≡ result_err result → q ≡ t → IsAnswered (reader fault p) byte (reader next q) result
fed_on fault next p q t byte result (Ok u) none h counts er en eq =
    rw (none, en, er, eq) (record { on = record { fed = counts; outcome = sym (ap (λ r. and_then r (λ s. Ok s)) h) }; answered = refl })
fed_on fault next p q t byte result r none h counts er en eq =
    rw (none, en, er, eq) (record { on = record { fed = counts; outcome = sym (ap (λ r. and_then r (λ s. Ok s)) h) }; answered = refl })

pub fed_again : (fault next : Option ReadFault) (p q t : State) (byte : ℕ) (result : Result (Unit {0}) ReadFault) (f : ReadFault) → fault ≡ Some f → t.fed ≡ p.fed + 1 → result ≡ Err f → next ≡ result_err result → q ≡ t → IsAnswered (reader fault p) byte (reader next q) result
fed_again fault next p q t byte result f some counts er en eq =
    rw (some, en, er, eq) (record { on = record { fed = counts; outcome = refl }; answered = refl })

pub fed_moves : (fault : Option ReadFault) (p q : State) (xs : List ℕ) → fault ≡ None → q.fed ≡ p.fed + length xs → run p xs ≡ Ok q → IsFedOn (reader fault p) xs (reader fault q)
fed_moves fault p q xs none k r =
    record { fed = k; outcome = subst (λ (o : Option ReadFault). state_or o q ≡ and_then (state_or o p) (λ s. run s xs)) (sym none) (sym r) }

pub is_fed_on : (old new : Reader) (xs bytes : List ℕ) → IsFedOn old xs new → IsFed old bytes → IsFed new (bytes ++ xs)
is_fed_on old new xs bytes h k =
    record {
      fed = let e = k.fed in omega (arith, h.fed, length-append bytes xs);
      holds = h.outcome ∙ ap (λ r. and_then r (λ s. run s xs)) k.holds ∙ sym (run-append 256 start bytes xs);
    }

-- the next bytes of all
pub all_more : (r : Reader) (front bytes : List ℕ) (i k : ℕ) → IsFed r ((front ++ take i bytes) ++ take k (between i (length bytes) bytes)) → IsFed r (front ++ take (i + k) bytes)
all_more r front bytes i k h =
    let rest : between i (length bytes) bytes ≡ drop i bytes = between_to_end bytes i (length bytes) (omega arith) in
    subst (IsFed r) (append_assoc front (take i bytes) _ ∙ ap (λ xs. front ++ xs) (ap (λ xs. take i bytes ++ take k xs) rest ∙ sym (take-add i k bytes))) h

pub all_within : (bytes : List ℕ) (i k : ℕ) → i < length bytes → k ≤ length (between i (length bytes) bytes) → i + k ≤ length bytes
all_within bytes i k h l =
    let rest : between i (length bytes) bytes ≡ drop i bytes = between_to_end bytes i (length bytes) (omega arith) in
    omega (arith, l, ap length rest, length-drop i bytes)

pub new_fed : (s : State) → s ≡ start → IsFed (reader None s) []
new_fed s e = record { fed = ap (λ (s : State). s.fed) e; holds = ap Ok e }

-- the first bytes
pub take_one : (bytes : List ℕ) (x : ℕ) → 0 < length bytes → get_or bytes 0 0 ≡ x → take 1 bytes ≡ x ∷ []
take_one bytes x lt e = take_more bytes 0 0 lt ∙ ap (λ y. y ∷ []) e

-- a suffix, by whether a `2` stands there and how long the apostrophe after it is
pub suffix_at : (two : Bool) (bytes : List ℕ) (n : ℕ) → 0 < length bytes → (get_or bytes 0 0 == 50) ≡ two → BeginsApostrophe (drop (bool_byte two) bytes) n
    → IsSuffix (take (bool_byte two + n) bytes) (get_or (Quarter ∷ Half ∷ Counter ∷ Half ∷ []) (bool_byte two + 2 * bool_byte (nat_lt 0 n)) Quarter)
suffix_at false bytes n lt e (inl none) =
    record { suffix = Nothing; bytes_are = ap (λ k. take (0 + k) bytes) none; power_is = ap (λ k. get_or (Quarter ∷ Half ∷ Counter ∷ Half ∷ []) (0 + 2 * bool_byte (nat_lt 0 k)) Quarter) none }
suffix_at false bytes n lt e (inr (a, some, is)) =
    record { suffix = Prime a; bytes_are = take-add 0 n bytes ∙ is; power_is = ap (λ k. get_or (Quarter ∷ Half ∷ Counter ∷ Half ∷ []) (0 + 2 * bool_byte k) Quarter) (lt-ltb 0 n some) }
suffix_at true bytes n lt e (inl none) =
    record { suffix = Two; bytes_are = ap (λ k. take (1 + k) bytes) none ∙ take_one bytes 50 lt (eqb-true _ 50 e); power_is = ap (λ k. get_or (Quarter ∷ Half ∷ Counter ∷ Half ∷ []) (1 + 2 * bool_byte (nat_lt 0 k)) Quarter) none }
suffix_at true bytes n lt e (inr (a, some, is)) =
    record { suffix = TwoPrime a; bytes_are = take-add 1 n bytes ∙ ap₂ (λ (x y : List ℕ). x ++ y) (take_one bytes 50 lt (eqb-true _ 50 e)) is; power_is = ap (λ k. get_or (Quarter ∷ Half ∷ Counter ∷ Half ∷ []) (1 + 2 * bool_byte k) Quarter) (lt-ltb 0 n some) }

-- a move, by its parts
pub move_at : (bytes : List ℕ) (b : Base) (power : Power) (i k : ℕ) (blank : Blank) (t : Token) → take i bytes ≡ base_bytes b → IsSuffix (take k (drop i bytes)) power → i + k < length bytes → get_or bytes (i + k) 0 ≡ blank_byte blank → t ≡ token_of b power
    → IsMove (take (i + k + 1) bytes) t
move_at bytes b power i k blank t base suffix lt is token =
    record {
      base = b;
      suffix = suffix.suffix;
      blank = blank;
      bytes_are = take_more bytes (i + k) 0 lt ∙ ap₂ (λ (xs : List ℕ) (x : ℕ). xs ++ x ∷ []) (take-add i k bytes ∙ ap₂ (λ (x y : List ℕ). x ++ y) base suffix.bytes_are) is;
      token_is = token ∙ ap (token_of b) suffix.power_is;
    }

settled_finished : (s : State) → s.last ≡ LastMove.Finished → settled s ≡ s
settled_finished s e = ap (λ t. settled (with_last t s)) e ∙ ap (λ t. with_last t s) (sym e)

move_run : (s : State) (bytes : List ℕ) (t : Token) → s.last ≡ LastMove.Finished → count s < 256 → IsMove bytes t → run s bytes ≡ Ok (at_fed s t (s.fed + length bytes))
move_run s bytes t e room h =
    let here = settled_finished s e in
    ap (run s) h.bytes_are ∙ run_move 256 s h.base h.suffix h.blank (ap cut_of e) (subst (λ (x : State). count x < 256) (sym here) room)
    ∙ (λ i. Ok (at_fed (here i) (sym h.token_is i) (s.fed + length (sym h.bytes_are i))))

-- A line took these bytes as whole moves, and counts them later.
pub record HasTaken (old new : State) (bytes : List ℕ) : Type 0 where
  pub runs : run old bytes ≡ Ok (record new { fed = old.fed + length bytes })
  pub uncounted : new.fed ≡ old.fed
  pub finished : new.last ≡ LastMove.Finished

-- a move of a piece of the bytes
pub taken_next : (old mid new : State) (bytes rest : List ℕ) (i k : ℕ) (t : Token) → rest ≡ drop i bytes → HasTaken old mid (take i bytes)
    → count mid < 256 → IsMove (take k rest) t → new ≡ added mid (Some t)
    → HasTaken old new (take (i + k) bytes)
taken_next old mid new bytes rest i k t e h few is pushed =
    let a = take i bytes in
    let b = take k rest in
    let same : a ++ b ≡ take (i + k) bytes = ap (λ (xs : List ℕ). a ++ take k xs) e ∙ sym (take-add i k bytes) in
    let sum : old.fed + length a + length b ≡ old.fed + length (a ++ b) = omega (arith, length-append a b) in
    subst (λ (xs : List ℕ). HasTaken old new xs) same
    (record {
      runs =
          run_after 256 old _ a b h.runs ∙ move_run (record mid { fed = old.fed + length a }) b t h.finished few is ∙ (λ i. Ok (record (sym pushed i) { fed = sum i }));
      uncounted = ap (λ (s : State). s.fed) pushed ∙ h.uncounted;
      finished = ap (λ (s : State). s.last) pushed;
    })
