-- Digits in a base and the number that they write: each determines the other; and the loop that writes them, step by step.
use Rattle.niss_cube.proofs.Words.{◌≡◌, ℕ, zero, suc, ◌+◌, ◌*◌, ◌/◌, ◌%◌, ◌<◌, ◌≤◌, List, [], ◌∷◌, ◌++◌, refl, sym, ap, ◌∙◌}
use Rattle.niss_cube.proofs.Words.{arith, length, get_or, take, number, digits_of_number}
use Rattle.std.proofs.Common.{length-append}
use Rattle.niss_cube.proofs.Words.{◌-◌, set, drop, sum, sum_by-cons, append_assoc, length-set, drop-set_at, take-length, take-suc-set, orientations_of_rank}
use Rattle.std.proofs.Math.Nat.{mod-add-mod}
use Rattle.std.proofs.Math.Nat.{div-add-mod, div-lt_iff_lt-mul, mul_comm, mod-lt, pow-suc, pow-succ', pow-zero}
use Rattle.std.proofs.Math.Seq.{take-suc}
use Rattle.std.proofs.lemmas.List.Sums.{fold-append}
use Rattle.std.proofs.lemmas.Nat.{div-mul-add, mod-mul-add, mul-add-lt}
use Rattle.std.specs.Prelude.{◌^◌}

-- all digits are below the base, with one more at the end too
pub below-more : (b : ℕ) (ds : List ℕ) (d : ℕ) → ((k : ℕ) → k < length ds → get_or ds k 0 < b) → d < b →
    (k : ℕ) → k < length ds + 1 → get_or (ds ++ d ∷ []) k 0 < b
below-more b [] d h l zero lk = l
below-more b [] d h l (suc k) lk = absurd (omega arith)
below-more b (x ∷ ds) d h l zero lk = h 0 (omega arith)
below-more b (x ∷ ds) d h l (suc k) lk = below-more b ds d (λ k lk. h (suc k) (omega arith)) l k (omega arith)

number-more : (b : ℕ) (ds : List ℕ) (d : ℕ) → number b (ds ++ d ∷ []) ≡ b * number b ds + d
number-more b ds d = fold-append (λ n d. b * n + d) 0 ds (d ∷ [])

pub length-digits : (b n i : ℕ) → length (digits_of_number b n i) ≡ n
length-digits b zero i = refl
length-digits b (suc n) i = omega (arith, length-append (digits_of_number b n (i / b)) (i % b ∷ []), length-digits b n (i / b))

pub digits-below : (b n i : ℕ) → 0 < b → (k : ℕ) → k < n → get_or (digits_of_number b n i) k 0 < b
digits-below b zero i s k l = absurd (omega arith)
digits-below b (suc n) i s k l =
    let len : length (digits_of_number b n (i / b)) ≡ n = length-digits b n (i / b) in
    below-more b (digits_of_number b n (i / b)) (i % b) (λ k lk. digits-below b n (i / b) s k (omega (arith, lk, len))) (mod-lt i s) k (omega (arith, l, len))

-- the digits of a number write it
pub number-of_digits : (b n i : ℕ) → 0 < b → i < b ^ n → number b (digits_of_number b n i) ≡ i
number-of_digits b zero i s l = omega (arith, pow-zero b)
number-of_digits b (suc n) i s l =
    let rest : i / b < b ^ n = (div-lt_iff_lt-mul {k = b} {x = i} {y = b ^ n} s).1 (omega (arith, l, pow-suc b n)) in
    number-more b (digits_of_number b n (i / b)) (i % b)
    ∙ ap (λ m. b * m + i % b) (number-of_digits b n (i / b) s rest)
    ∙ div-add-mod i b

-- the first n digits of a list are those of the number that they write
pub digits-of_list : (b : ℕ) (xs : List ℕ) (n : ℕ) → n ≤ length xs → ((k : ℕ) → k < length xs → get_or xs k 0 < b) →
    (number b (take n xs) < b ^ n) × (digits_of_number b n (number b (take n xs)) ≡ take n xs)
digits-of_list b xs zero l r = (omega (arith, pow-zero b), refl)
digits-of_list b xs (suc n) l r =
    let m : ℕ = number b (take n xs) in
    let d : ℕ = get_or xs n 0 in
    let below : d < b = r n (omega arith) in
    let rest = digits-of_list b xs n (omega arith) r in
    let split : take (suc n) xs ≡ take n xs ++ d ∷ [] = take-suc xs n 0 (omega arith) in
    let is : number b (take (suc n) xs) ≡ m * b + d = ap (number b) split ∙ number-more b (take n xs) d ∙ ap (λ k. k + d) (mul_comm b m) in (
      omega (arith, is, mul-add-lt m b d (b ^ n) rest.0 below, pow-succ' b n),
      ap (λ k. digits_of_number b n (k / b) ++ (k % b) ∷ []) is
          ∙ ap (λ k. digits_of_number b n k ++ ((m * b + d) % b) ∷ []) (div-mul-add m b d below)
          ∙ ap (λ k. digits_of_number b n m ++ k ∷ []) (mod-mul-add m b d below)
          ∙ ap (λ ds. ds ++ d ∷ []) rest.1
          ∙ sym split,
    )

-- the last digits of n
abbrev last_digits : (n met : ℕ) → List ℕ → List ℕ
last_digits n met xs = take met (drop (n - met) xs)

last_digits-set : (n met : ℕ) (xs : List ℕ) (d : ℕ) → met < n → length xs ≡ suc n → last_digits n (met + 1) (set xs (n - 1 - met) d) ≡ d ∷ last_digits n met xs
last_digits-set n met xs d h l =
    ap (λ k. take k (drop (n - (met + 1)) (set xs (n - 1 - met) d))) (let a : met + 1 ≡ suc met = omega arith in a)
    ∙ ap (take (suc met)) (drop-set_at xs (n - 1 - met) (n - (met + 1)) d (omega arith) (omega arith))
    ∙ ap (λ k. d ∷ take met (drop k xs)) (let a : (n - 1 - met) + 1 ≡ n - met = omega arith in a)

-- what the loop keeps: the digits still to come and those written are those of the number, and the sum of those written
pub record Written (b n number met rest total : ℕ) (xs : List ℕ) : Type 0 where
  pub places : length xs ≡ suc n
  pub digits : digits_of_number b (n - met) rest ++ last_digits n met xs ≡ digits_of_number b n number
  pub total_is : sum (last_digits n met xs) % b ≡ total

pub written-step : (b n number met rest total : ℕ) (xs : List ℕ) → met < n → Written b n number met rest total xs → Written b n number (met + 1) (rest / b) ((total + rest % b) % b) (set xs (n - 1 - met) (rest % b))
written-step b n number met rest total xs h w =
    let d : ℕ = rest % b in
    let e : last_digits n (met + 1) (set xs (n - 1 - met) d) ≡ d ∷ last_digits n met xs = last_digits-set n met xs d h w.places in
    record {
      places = length-set xs (n - 1 - met) d ∙ w.places;
      digits =
          ap (λ ys. digits_of_number b (n - (met + 1)) (rest / b) ++ ys) e
          ∙ sym (append_assoc (digits_of_number b (n - (met + 1)) (rest / b)) (d ∷ []) (last_digits n met xs))
          ∙ ap (λ k. digits_of_number b k rest ++ last_digits n met xs) (let a : suc (n - (met + 1)) ≡ n - met = omega arith in a)
          ∙ w.digits;
      total_is =
          ap (λ ys. sum ys % b) e
          ∙ ap (λ k. k % b) (sum_by-cons (λ x. x) d (last_digits n met xs))
          ∙ ap (λ k. k % b) (let a : d + sum (last_digits n met xs) ≡ sum (last_digits n met xs) + d = omega arith in a)
          ∙ sym (mod-add-mod (sum (last_digits n met xs)) b d)
          ∙ ap (λ k. (k + d) % b) w.total_is;
    }

set_last : (n : ℕ) (xs : List ℕ) (d : ℕ) → length xs ≡ suc n → set xs n d ≡ take n xs ++ d ∷ []
set_last n xs d l =
    sym (take-length (set xs n d))
    ∙ ap (λ k. take k (set xs n d)) (length-set xs n d ∙ l)
    ∙ take-suc-set xs n d (omega arith)

pub written-end : (b n number met rest total : ℕ) (xs : List ℕ) → met ≡ n → Written b n number met rest total xs → set xs n ((b - total) % b) ≡ orientations_of_rank b n number
written-end b n number met rest total xs e w =
    let none : n - met ≡ 0 = omega arith in
    let all : take n xs ≡ digits_of_number b n number =
    ap (λ k. take k xs) (sym e)
    ∙ ap (λ k. take met (drop k xs)) (sym none)
    ∙ ap (λ k. digits_of_number b k rest ++ last_digits n met xs) (sym none)
    ∙ w.digits in
    let total_of : total ≡ sum (digits_of_number b n number) % b =
    sym w.total_is
    ∙ ap (λ k. sum (take met (drop k xs)) % b) none
    ∙ ap (λ k. sum (take k xs) % b) e
    ∙ ap (λ ys. sum ys % b) all in
    set_last n xs ((b - total) % b) w.places
    ∙ ap (λ ys. ys ++ ((b - total) % b) ∷ []) all
    ∙ ap (λ k. digits_of_number b n number ++ ((b - k) % b) ∷ []) total_of
