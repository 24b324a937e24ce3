-- The number of a head, read byte by byte.
use Rattle.std.proofs.Common.{◌≡◌, ℕ, ◌+◌, ◌<◌, ◌≤◌, ◌||◌, ◌&&◌, not, Bool, true, false, if◌then◌else◌, Option, None, Some, is_some, List, [], ◌∷◌, length, get_or, drop, refl, sym, ap, ◌∙◌}
use Rattle.std.proofs.lemmas.Bool.{false≢true}
use Rattle.std.proofs.lemmas.List.{drop_more, drop_all}
use Rattle.niss_text.specs.Signs.{is_digit}
use Rattle.niss_text.specs.Doubts.{is_letter}
use Rattle.niss_text.specs.Known.{with_digit, is_extra}
unfoldable use Rattle.niss_text.specs.Known.{number_on, first_number, head_number}

-- the number of the rest, after a number or none, and letters or none
abbrev pub going_on : Option ℕ → Bool → List ℕ → Option ℕ
going_on (Some n) has_letters bytes = Some (number_on n bytes)
going_on None true bytes = first_number bytes
going_on None false bytes = head_number bytes

pub going_ends : (number : Option ℕ) (has_letters : Bool) → going_on number has_letters [] ≡ number
unfolding number_on first_number head_number
going_ends (Some n) has_letters = refl
going_ends None true = refl
going_ends None false = refl

-- a digit
pub going_digit : (number : Option ℕ) (has_letters after : Bool) (b : ℕ) (bytes : List ℕ) → is_digit b ≡ true →
    going_on number has_letters (b ∷ bytes) ≡ going_on (Some (with_digit number b)) after bytes
unfolding number_on first_number head_number
going_digit (Some n) has_letters after b bytes is = ap (λ (t : Bool). Some (if t then number_on (with_digit (Some n) b) bytes else n)) is
going_digit None true after b bytes is = ap (λ (t : Bool). if t then Some (number_on (with_digit None b) bytes) else first_number bytes) is
going_digit None false after b bytes is = ap (λ (t : Bool). if t then Some (number_on (with_digit None b) bytes)
    else (if is_extra b then None else (if is_letter b then first_number bytes else head_number bytes))) is

-- what ends a number, or an E before it
pub going_over : (number : Option ℕ) (has_letters : Bool) (b : ℕ) (bytes : List ℕ) → is_digit b ≡ false →
    (is_some number || (not has_letters && is_extra b)) ≡ true → going_on number has_letters (b ∷ bytes) ≡ number
unfolding number_on first_number head_number
going_over (Some n) has_letters b bytes is over = ap (λ (t : Bool). Some (if t then number_on (with_digit (Some n) b) bytes else n)) is
going_over None true b bytes is over = absurd (false≢true over)
going_over None false b bytes is over = ap (λ (t : Bool). if t then Some (number_on (with_digit None b) bytes)
    else (if is_extra b then None else (if is_letter b then first_number bytes else head_number bytes))) is
    ∙ ap (λ (t : Bool). if t then None else (if is_letter b then first_number bytes else head_number bytes)) over

-- another byte before a number
pub going_further : (number : Option ℕ) (has_letters : Bool) (b : ℕ) (bytes : List ℕ) → is_digit b ≡ false →
    (is_some number || (not has_letters && is_extra b)) ≡ false → going_on number has_letters (b ∷ bytes) ≡ going_on number (has_letters || is_letter b) bytes
unfolding number_on first_number head_number
going_further (Some n) has_letters b bytes is over = absurd (false≢true (sym over))
going_further None true b bytes is over = ap (λ (t : Bool). if t then Some (number_on (with_digit None b) bytes) else first_number bytes) is
going_further None false b bytes is over = ap (λ (t : Bool). if t then Some (number_on (with_digit None b) bytes)
    else (if is_extra b then None else (if is_letter b then first_number bytes else head_number bytes))) is
    ∙ ap (λ (t : Bool). if t then None else (if is_letter b then first_number bytes else head_number bytes)) over ∙ by_letter (is_letter b)
  where
    by_letter : (t : Bool) → (if t then first_number bytes else head_number bytes) ≡ going_on None t bytes
    by_letter true = refl
    by_letter false = refl

-- the same at a place of the bytes
pub going_at : (bytes : List ℕ) (number : Option ℕ) (has_letters : Bool) (i : ℕ) → i < length bytes → head_number bytes ≡ going_on number has_letters (drop i bytes) →
    head_number bytes ≡ going_on number has_letters (get_or bytes i 0 ∷ drop (i + 1) bytes)
going_at bytes number has_letters i lt far = far ∙ ap (λ v. going_on number has_letters v) (drop_more bytes i 0 lt)

pub gone : (bytes : List ℕ) (number : Option ℕ) (has_letters : Bool) (i : ℕ) → length bytes ≤ i → head_number bytes ≡ going_on number has_letters (drop i bytes) →
    number ≡ head_number bytes
gone bytes number has_letters i le far = sym (far ∙ ap (λ v. going_on number has_letters v) (drop_all i bytes le) ∙ going_ends number has_letters)
