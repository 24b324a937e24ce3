-- What a target in memory takes, and what stands in the memory then.
use Rattle.std.proofs.Common.{◌≡◌, ◌⊎◌, inl, inr, ℕ, zero, suc, ◌+◌, ◌-◌, ◌<◌, ◌≤◌, Bool, true, false, ◌||◌, Option, Some, None, Result, Ok, Err, List, [], ◌∷◌, ◌++◌, take, drop, length, length-append, append-nil, append_assoc, refl, sym, ap, ◌∙◌, subst, arith}
use Rattle.std.specs.Prelude.{nat_lt}
use Rattle.std.proofs.Math.Bool.{or-false, or-true}
use Rattle.std.proofs.lemmas.List.{take_all, take-append-le, take_at, take-append-drop, drop_all, drop-drop, length-drop, length-take-le}
use Rattle.std.proofs.lemmas.Grind.{common_steps}
use Rattle.niss_shell.specs.Device.{TargetCall, Write, Flush, IsPiece, left_after, is_empty_answer}
use Rattle.niss_shell.specs.Device.{Calls, Sends}
use Rattle.niss_shell.specs.declared.device.DeviceFault.{DeviceFault}
use Rattle.niss_embed.specs.Memory.{Memory, memory, Puts, Lent, lent, Appended, Fills}

-- what a run appends, call by call

pub no_front : (bytes : List ℕ) → take 0 bytes ≡ []
no_front [] = refl
no_front (b ∷ bytes) = refl

appended_nothing : (a : Lent) → Appended [] a a
appended_nothing a = record { text = sym (append-nil (take a.written a.bytes)); left = refl; fits = omega arith; same_reference = refl }

appended_more : (x y : List ℕ) (a b c : Lent) → Appended x a b → Appended y b c → Appended (x ++ y) a c
appended_more x y a b c p q = record {
  text = q.text ∙ ap (λ t. t ++ y) p.text ∙ append_assoc (take a.written a.bytes) x y;
  left = q.left ∙ ap (drop (length y)) p.left ∙ drop-drop (length y) (length x) (drop a.written a.bytes)
      ∙ ap (λ n. drop n (drop a.written a.bytes)) (sym (length-append x y));
  fits = omega (arith, p.fits, q.fits, ap (length {A = ℕ}) p.left, length-drop (length x) (drop a.written a.bytes), length-append x y);
  same_reference = q.same_reference ∙ p.same_reference;
}

-- how it ends: this is left of the text, or a write was refused
abbrev EndsAs : Option (List ℕ) → List ℕ → Bool → Bool → Type 0
EndsAs (Some left) rest refused refused_now = (rest ≡ left) × (refused_now ≡ refused)
EndsAs None rest refused refused_now = (0 < length rest) × (refused_now ≡ true)

pub record Took (text : List ℕ) (left : Option (List ℕ)) (old new : Lent) : Type 0 where
  pub part : List ℕ
  pub rest : List ℕ
  pub whole : part ++ rest ≡ text
  pub appended : Appended part old new
  pub ends : EndsAs left rest old.refused new.refused

front_of_piece : (n : ℕ) (piece text : List ℕ) → IsPiece piece text → n ≤ length piece → take n piece ++ drop n text ≡ text
front_of_piece n piece text p h =
    ap (λ t. t ++ drop n text) (sym (take-append-le n piece p.rest h) ∙ ap (take n) p.whole) ∙ take-append-drop n text

calls_split : {D C : Type 0} (call : D → C → D → Type 0) (xs ys : List C) (a c : D) → Calls call a c (xs ++ ys)
    → (b : D) × (Calls call a b xs × Calls call b c ys)
unfolding Calls
calls_split call [] ys a c made = (a, (refl, made))
calls_split call (x ∷ xs) ys a c made =
    let rest = calls_split call xs ys made.0 c made.1.1 in
    (rest.0, ((made.0, (made.1.0, rest.1.0)), rest.1.1))

after_flush : (flushed : Result (Unit {0}) DeviceFault) (text : List ℕ) (left : Option (List ℕ)) (a b c : Lent) → Fills (Flush flushed) b c
    → Took text left a b → (flushed ≡ Ok tt) × Took text left a c
after_flush (Err fault) text left a b c did t = absurd did.flushes
after_flush (Ok u) text left a b c did t = (
  refl,
  record {
    part = t.part;
    rest = t.rest;
    whole = t.whole;
    appended = subst (λ p. Appended p a c) (append-nil t.part) (appended_more t.part [] a b c t.appended did.filled);
    ends = end_after left t.rest a.refused (did.shown.failed ∙ or-false b.refused) t.ends;
  },
)
  where
    end_after : (left : Option (List ℕ)) (rest : List ℕ) (x : Bool) {y z : Bool} → z ≡ y → EndsAs left rest x y → EndsAs left rest x z
    end_after None rest x e h = (h.0, e ∙ h.1)
    end_after (Some l) rest x e h = (h.0, e ∙ h.1)

module _ {D : Type 0} (state : D → Lent) where
  abbrev pub Does : D → TargetCall → D → Type 0
  Does old call new = Fills call (state old) (state new)

  -- a refused write
  took_none : (piece text : List ℕ) (a b : D) → IsPiece piece text → Appended [] (state a) (state b) → (state b).refused ≡ true → Took text None (state a) (state b)
  took_none piece text a b p appended full = record {
    part = [];
    rest = text;
    whole = refl;
    appended = appended;
    ends = (omega (arith, p.some, ap (length {A = ℕ}) p.whole, length-append piece p.rest), full);
  }

  pub took : (calls : List TargetCall) (text : List ℕ) (left : Option (List ℕ)) (a c : D) → Calls Does a c calls → Sends calls text left
      → Took text left (state a) (state c)
  unfolding Calls Sends
  took [] text left a c made sends =
      subst (λ d. Took text left (state a) (state d)) made (subst (λ l. Took text l (state a) (state a)) (sym sends)
      (record { part = []; rest = text; whole = refl; appended = appended_nothing (state a); ends = (refl, refl) }))
  took (Flush result ∷ calls) text left a c made sends = absurd sends
  took (Write piece (Ok zero) ∷ calls) text left a c made sends =
      let done : made.0 ≡ c = subst (λ cs. Calls Does made.0 c cs) sends.1 made.1.1 in
      subst (λ l. Took text l (state a) (state c)) (sym sends.2)
      (subst (λ d. Took text None (state a) (state d)) done
      (took_none piece text a made.0 sends.0 (subst (λ p. Appended p (state a) (state made.0)) (no_front piece) made.1.0.filled)
      (made.1.0.shown.failed ∙ refused_by piece sends.0.some (state a).refused)))
    where
      refused_by : (piece : List ℕ) → 0 < length piece → (b : Bool) → (b || is_empty_answer 0 piece) ≡ true
      refused_by [] some b = absurd (omega (arith, some))
      refused_by (byte ∷ piece) some b = or-true b
  took (Write piece (Err fault) ∷ calls) text left a c made sends =
      let done : made.0 ≡ c = subst (λ cs. Calls Does made.0 c cs) sends.1 made.1.1 in
      subst (λ l. Took text l (state a) (state c)) (sym sends.2)
      (subst (λ d. Took text None (state a) (state d)) done
      (took_none piece text a made.0 sends.0 made.1.0.filled (made.1.0.shown.failed ∙ or-true (state a).refused)))
  took (Write piece (Ok (suc n)) ∷ calls) text left a c made sends =
      let more = took calls (drop (suc n) text) left made.0 c made.1.1 sends.2 in
      record {
        part = take (suc n) piece ++ more.part;
        rest = more.rest;
        whole = append_assoc (take (suc n) piece) more.part more.rest ∙ ap (λ t. take (suc n) piece ++ t) more.whole
            ∙ front_of_piece (suc n) piece text sends.0 sends.1;
        appended = appended_more (take (suc n) piece) more.part (state a) (state made.0) (state c) made.1.0.filled more.appended;
        ends = same_end left more.rest (state c).refused (made.1.0.shown.failed ∙ or-false (state a).refused) more.ends;
      }
    where
      same_end : (left : Option (List ℕ)) (rest : List ℕ) {x y : Bool} (z : Bool) → y ≡ x → EndsAs left rest y z → EndsAs left rest x z
      same_end None rest z e h = h
      same_end (Some l) rest z e h = (h.0, h.1 ∙ e)

  -- the same with a flush at the end
  pub took_flushed : (calls : List TargetCall) (flushed : Result (Unit {0}) DeviceFault) (text : List ℕ) (left : Option (List ℕ)) (a c : D)
      → Calls Does a c (calls ++ Flush flushed ∷ []) → Sends calls text left → (flushed ≡ Ok tt) × Took text left (state a) (state c)
  unfolding Calls
  took_flushed calls flushed text left a c made sends =
      let split = calls_split Does calls (Flush flushed ∷ []) a c made in
      let did : Fills (Flush flushed) (state split.0) (state c) = subst (λ d. Fills (Flush flushed) (state split.0) (state d)) split.1.1.1.1 split.1.1.1.0 in
      after_flush flushed text left (state a) (state split.0) (state c) did (took calls text left a split.0 split.1.0 sends)

-- a text that was taken whole, and one that was cut

after_part : (before after part : List ℕ) (count : ℕ) → take count after ≡ part → drop count after ≡ drop (length part) before
    → after ≡ part ++ drop (length part) before
after_part before after part count e l =
    sym (take-append-drop count after) ∙ ap (λ v. v ++ drop count after) e ∙ ap (λ v. part ++ v) l

pub puts_whole : (before after text : List ℕ) (count : ℕ) → take count after ≡ text → drop count after ≡ drop (length text) before
    → length text ≤ length before → count ≤ length after → Puts text (memory before after) count false
puts_whole before after text count e l fits within =
    let whole : take (length before) text ≡ text = take_all (length before) text fits in
    let count_is : length text ≡ count = ap (length {A = ℕ}) (sym e) ∙ length-take-le count after within in
    record {
      written = after_part before after text count e l ∙ ap (λ v. v ++ drop (length text) before) (sym whole);
      count_is = sym count_is ∙ ap (length {A = ℕ}) (sym whole);
      too_small_is = room_is_enough (length before) (length text) fits;
    }
  where
    room_is_enough : (room n : ℕ) → n ≤ room → false ≡ nat_lt room n
    room_is_enough room n h = grind (arith, common_steps)

puts_cut : (before after part rest : List ℕ) (count : ℕ) → take count after ≡ part → drop count after ≡ drop (length part) before
    → length part ≤ length before → count ≡ length after → 0 < length rest → Puts (part ++ rest) (memory before after) count true
puts_cut before after part rest count e l fits full some =
    let count_is : length part ≡ count = ap (length {A = ℕ}) (sym e) ∙ length-take-le count after (omega (arith, full)) in
    let left : length after - count ≡ length before - length part =
    sym (length-drop count after) ∙ ap (length {A = ℕ}) l ∙ length-drop (length part) before in
    let filled : length part ≡ length before = omega (arith, count_is, left, full, fits) in
    let cut : take (length before) (part ++ rest) ≡ part = take_at part rest (length before) filled in
    let long : length before < length (part ++ rest) = omega (arith, length-append part rest, filled, some) in
    let none : drop (length (part ++ rest)) before ≡ [] = drop_all (length (part ++ rest)) before (omega (arith, long)) in
    let none_left : drop (length part) before ≡ [] = drop_all (length part) before (omega (arith, filled)) in
    record {
      written = after_part before after part count e l ∙ ap (λ v. part ++ v) (none_left ∙ sym none)
          ∙ ap (λ v. v ++ drop (length (part ++ rest)) before) (sym cut);
      count_is = sym count_is ∙ ap (length {A = ℕ}) (sym cut);
      too_small_is = room_is_too_small (length before) (length (part ++ rest)) long;
    }
  where
    room_is_too_small : (room n : ℕ) → room < n → true ≡ nat_lt room n
    room_is_too_small room n h = grind (arith, common_steps)

-- the same of a target, by what it took since it was new

pub all_left : (bytes : List ℕ) → drop 0 bytes ≡ bytes
all_left [] = refl
all_left (b ∷ bytes) = refl

-- A target in memory, new and after a run.
pub record Filling : Type 0 where
  pub before : List ℕ
  pub after : List ℕ
  pub reference : ℕ
  pub reference_now : ℕ
  pub count : ℕ
  pub refused : Bool
  pub within : count ≤ length after
  pub full : refused ≡ true → count ≡ length after

abbrev pub state_before : Filling → Lent
state_before f = lent f.before f.reference 0 false

abbrev pub state_after : Filling → Lent
state_after f = lent f.after f.reference_now f.count f.refused

-- what the text is that was put into its memory
abbrev pub PutBy : Filling → List ℕ → Type 0
PutBy f text = Puts text (memory f.before f.after) f.count f.refused

module _ (f : Filling) (part : List ℕ) (took_part : Appended part (state_before f) (state_after f)) where
  front_is : take f.count f.after ≡ part
  front_is = took_part.text ∙ ap (λ v. v ++ part) (no_front f.before)

  left_is : drop f.count f.after ≡ drop (length part) f.before
  left_is = took_part.left ∙ ap (λ v. drop (length part) v) (all_left f.before)

  had_room : length part ≤ length f.before
  had_room = omega (arith, took_part.fits, ap (length {A = ℕ}) (all_left f.before))

  pub puts_all : f.refused ≡ false → PutBy f part
  puts_all works =
      subst (λ v. Puts part (memory f.before f.after) f.count v) (sym works)
      (puts_whole f.before f.after part f.count front_is left_is had_room f.within)

  pub puts_front : (rest text : List ℕ) → f.refused ≡ true → part ++ rest ≡ text → 0 < length rest → PutBy f text
  puts_front rest text refused whole some =
      subst (λ v. Puts text (memory f.before f.after) f.count v) (sym refused)
      (subst (λ v. Puts v (memory f.before f.after) f.count true) whole
      (puts_cut f.before f.after part rest f.count front_is left_is had_room (f.full refused) some))

pub puts_took : (f : Filling) (refused : Bool) (text : List ℕ) → Took text (left_after refused []) (state_before f) (state_after f)
    → (f.refused ≡ refused) × PutBy f text
puts_took f true text t = (t.ends.1, puts_front f t.part t.appended t.rest text t.ends.1 t.whole t.ends.0)
puts_took f false text t =
    let whole : t.part ≡ text = sym (append-nil t.part) ∙ ap (λ v. t.part ++ v) (sym t.ends.0) ∙ t.whole in
    (t.ends.1, subst (λ v. PutBy f v) whole (puts_all f t.part t.appended t.ends.1))

-- a text that is put at the beginning of some memory

pub puts_nothing : (bytes : List ℕ) → Puts [] (memory bytes bytes) 0 false
puts_nothing bytes = puts_whole bytes bytes [] 0 (no_front bytes) refl (omega arith) (omega arith)

not_below : (n m : ℕ) → m ≤ n → nat_lt n m ≡ false
not_below n m h = grind (arith, common_steps)

-- a room is enough that has as many bytes as the text at most has
pub has_room : {text : List ℕ} {room : Memory} {count : ℕ} {too_small : Bool} {most : ℕ} → Puts text room count too_small
    → length text ≤ most → most ≤ length room.before → too_small ≡ false
has_room {text = text} {room = room} p short enough =
    p.too_small_is ∙ not_below (length room.before) (length text) (omega (arith, short, enough))

pub puts_text : (before after text : List ℕ) (count : ℕ) → count ≤ length text → count ≤ length before - 0
    → (count ≡ length text) ⊎ (count ≡ length before - 0)
    → take (0 + count) after ≡ take 0 before ++ take count text → drop (0 + count) after ≡ drop (0 + count) before → length after ≡ length before
    → Puts text (memory before after) count (nat_lt count (length text))
puts_text before after text count bound fits most written left same = by_length (nat_lt count (length text)) refl
  where
    none : 0 + count ≡ count
    none = omega arith

    front : take count after ≡ take count text
    front = ap (λ n. take n after) (sym none) ∙ written ∙ ap (λ v. v ++ take count text) (no_front before)

    behind : drop count after ≡ drop count before
    behind = ap (λ n. drop n after) (sym none) ∙ left ∙ ap (λ n. drop n before) none

    taken : length (take count text) ≡ count
    taken = length-take-le count text bound

    by_length : (c : Bool) → nat_lt count (length text) ≡ c → Puts text (memory before after) count c
    by_length false e =
        let all : length text ≤ count = grind (arith, common_steps) in
        let whole : take count text ≡ text = take_all count text all in
        puts_whole before after text count (front ∙ whole) (behind ∙ ap (λ n. drop n before) {x = count} {y = length text} (omega (arith, all, bound)))
        (omega (arith, all, bound, fits)) (omega (arith, fits, same))
    by_length true e =
        let cut : count < length text = grind (arith, common_steps) in
        let full : count ≡ length before = full_room most cut in
        subst (λ v. Puts v (memory before after) count true) (take-append-drop count text)
        (puts_cut before after (take count text) (drop count text) count front (behind ∙ ap (λ n. drop n before) (sym taken))
        (omega (arith, taken, full)) (omega (arith, full, same)) (omega (arith, cut, length-drop count text)))
      where
        full_room : (count ≡ length text) ⊎ (count ≡ length before - 0) → count < length text → count ≡ length before
        full_room (inl m) h = absurd (omega (arith, m, h))
        full_room (inr m) h = omega (arith, m)
