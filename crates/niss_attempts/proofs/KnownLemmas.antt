-- What is told of a solution that may be of another scramble.
use Rattle.std.proofs.Common.{◌≡◌, ℕ, zero, suc, ◌+◌, ◌<◌, Bool, true, false, cond, ◌||◌, Result, Ok, Err, length, List, refl, subst}
use Rattle.std.specs.List.{list_any, range_with_len}
use Rattle.std.proofs.lemmas.Bool.{and_right, lt-ltb}
use Rattle.std.specs.Prelude.{min, nat_lt}
use Rattle.niss_moves.specs.Line.{Moves}
use Rattle.niss_moves.specs.Reader.{read_line}
use Rattle.niss_moves.specs.declared.fault.ReadFault.{ReadFault}
use Rattle.niss_shell.specs.Words.{most_bytes}
use Rattle.niss_lines.specs.LineFacts.{check_of, check_read, forms_of, unchecked}
use Rattle.niss_lines.specs.declared.answer.Status.TheVariants.{Stopped}
use Rattle.niss_attempts.specs.declared.attempts.judged.Judged.{Judged}
use Rattle.niss_attempts.specs.Attempts.{AskedPart, IsOfSome, IsTriedElsewhere, is_open, most_tried, scramble_of, solves_known, solves_some}

-- A line that is too long, or has a fault, solves no scramble.
none_of : (test : ℕ → Bool) (n first : ℕ) → ((k : ℕ) → test k ≡ false) → list_any test (range_with_len first n) ≡ false
none_of test zero first fails = refl
none_of test (suc n) first fails = λ i. fails first i || none_of test n (first + 1) fails i

long_line : (scramble line : List ℕ) → nat_lt most_bytes (length line) ≡ true → (check_of scramble line).solved ≡ false
long_line scramble line long = by_tests (nat_lt most_bytes (length scramble)) (nat_lt most_bytes (length line)) long
  where
    by_tests : (a b : Bool) → b ≡ true →
        (cond a (unchecked Stopped 1 0 0) (cond b (unchecked Stopped 2 0 0) (check_read (read_line scramble) (read_line line) (forms_of line)))).solved ≡ false
    by_tests true b e = refl
    by_tests false true e = refl
    by_tests false false e = absurd (cc e)

pub long_solves_none : (scrambles ends line : List ℕ) → most_bytes < length line → solves_some scrambles ends line ≡ false
long_solves_none scrambles ends line long =
    none_of (solves_known scrambles ends line) (min most_tried (length ends)) 0
    (λ n. and_right (nat_lt n (length ends)) _ (long_line (scramble_of scrambles ends n) line (lt-ltb most_bytes (length line) long)))

faulty_line : (scramble line : List ℕ) (f : ReadFault) → read_line line ≡ Err f → (check_of scramble line).solved ≡ false
faulty_line scramble line f is = by_tests (nat_lt most_bytes (length scramble)) (nat_lt most_bytes (length line))
  where
    by_reading : (r q : Result Moves ReadFault) → q ≡ Err f → (check_read r q (forms_of line)).solved ≡ false
    by_reading (Err g) q e = refl
    by_reading (Ok m) (Err g) e = refl
    by_reading (Ok m) (Ok n) e = absurd (cc e)

    by_tests : (a b : Bool) →
        (cond a (unchecked Stopped 1 0 0) (cond b (unchecked Stopped 2 0 0) (check_read (read_line scramble) (read_line line) (forms_of line)))).solved ≡ false
    by_tests true b = refl
    by_tests false true = refl
    by_tests false false = by_reading (read_line scramble) (read_line line) is

pub faulty_solves_none : (scrambles ends line : List ℕ) (f : ReadFault) → read_line line ≡ Err f → solves_some scrambles ends line ≡ false
faulty_solves_none scrambles ends line f is =
    none_of (solves_known scrambles ends line) (min most_tried (length ends)) 0
    (λ n. and_right (nat_lt n (length ends)) _ (faulty_line (scramble_of scrambles ends n) line f is))

-- what is told if another scramble may be meant
pub tried_open : (part : AskedPart) (judged it : Judged) (b : Bool) → b ≡ is_open judged → b ≡ true → IsOfSome part judged it →
    IsTriedElsewhere (is_open judged) part judged it
tried_open part judged it true same is some = subst (λ (v : Bool). IsTriedElsewhere v part judged it) same some
tried_open part judged it false same is some = absurd (cc is)
