-- The names of parts, and which scrambles these say.
use Rattle.std.proofs.Common.{◌≡◌, ℕ, zero, suc, ◌+◌, ◌-◌, ◌<◌, ◌≤◌, ◌⊎◌, inl, inr, ◌||◌, ◌&&◌, not, ◌==◌, Bool, true, false, if◌then◌else◌, Option, None, Some, MatchOption, is_some, List, [], ◌∷◌, ◌++◌, length, take, drop, set, get_or, slice_range, refl, sym, subst, ap, ◌∙◌, arith}
use Rattle.std.specs.List.{list_any}
use Rattle.std.proofs.lemmas.Bool.{cases_eq, eqb-true, eq-eqb, ne_eqb, and_parts}
use Rattle.std.proofs.lemmas.List.{get_or_default, get_or-set_same, get_or-set_other, get_or-drop, drop-drop, take_more}
use Rattle.std.proofs.lemmas.Option.{none-some}
use Rattle.std.proofs.lemmas.List.Elements.{All-get_or}
use Rattle.niss_text.specs.declared.known.KnownPart.{KnownPart}
use Rattle.niss_text.specs.declared.parts.Part.{Part}
use Rattle.niss_text.specs.declared.text_line.TextLine.{TextLine}
unfoldable use Rattle.niss_text.specs.Known.{head_number, first_headed}
use Rattle.niss_text.specs.Known.{number_of_name, scramble_with, have_numbers, are_in_order, IsNamed, IsNumbered, AreSaid, AreNamedAs, AreAssigned, AreOf, IsAlone, SaysAlone}

-- nothing has no name, and no number
pub numbered_none : (text : List ℕ) (part : Part) → part.number ≡ None → part.name_begin ≡ 0 → part.name_end ≡ 0 → IsNumbered text part
unfolding head_number
numbered_none text part none begin end =
    none ∙ ap (λ (n : ℕ). head_number (slice_range text 0 n)) (sym end) ∙ ap (λ (n : ℕ). head_number (slice_range text n part.name_end)) (sym begin)

-- a part that is said to be of another scramble has the same name
pub named_next : (parts now : List KnownPart) (at scramble : ℕ) (d : KnownPart) → at < length now → AreNamedAs parts now →
    AreNamedAs parts (set now at (record (get_or now at d) { scramble = scramble }))
named_next parts now at scramble d room far k none = by_place (cases_eq at k)
  where
    part : KnownPart
    part = record (get_or now at d) { scramble = scramble }

    by_place : (at ≡ k) ⊎ (at ≡ k → ⊥) →
        ((get_or (set now at part) k none).name_begin ≡ (get_or parts k none).name_begin)
        × ((get_or (set now at part) k none).name_end ≡ (get_or parts k none).name_end)
    by_place (inl here) = subst
        (λ (n : ℕ). ((get_or (set now at part) n none).name_begin ≡ (get_or parts n none).name_begin)
        × ((get_or (set now at part) n none).name_end ≡ (get_or parts n none).name_end)) here
        (let same : get_or (set now at part) at none ≡ part = get_or-set_same now at part none room in
        let old : get_or now at d ≡ get_or now at none = get_or_default now at d none room in (
          ap (λ (p : KnownPart). p.name_begin) same ∙ ap (λ (p : KnownPart). p.name_begin) old ∙ (far at none).0,
          ap (λ (p : KnownPart). p.name_end) same ∙ ap (λ (p : KnownPart). p.name_end) old ∙ (far at none).1,
        ))
    by_place (inr other) =
        let same : get_or (set now at part) k none ≡ get_or now k none = get_or-set_other now at k part none (λ e. other (sym e)) in
        (ap (λ (p : KnownPart). p.name_begin) same ∙ (far k none).0, ap (λ (p : KnownPart). p.name_end) same ∙ (far k none).1)

-- the number of a scramble that isn't the highest number
said_back : (number : Option ℕ) (scramble : ℕ) → scramble_with number ≡ scramble → (scramble ≡ 18446744073709551615 → ⊥) → number ≡ Some (scramble + 1)
said_back None scramble is low = absurd (low (sym is))
said_back (Some zero) scramble is low = absurd (low (sym is))
said_back (Some (suc n)) scramble is low = ap (λ (m : ℕ). Some m) (let e : suc n ≡ scramble + 1 = omega (arith, is) in e)

said_on : (number : Option ℕ) (scramble : ℕ) → number ≡ Some (scramble + 1) → scramble_with number ≡ scramble
said_on number scramble is =
    let next : scramble + 1 ≡ suc scramble = omega arith in
    ap (λ (o : Option ℕ). scramble_with o) is ∙ ap (λ (n : ℕ). scramble_with (Some n)) next

-- lists whose elements pass a test alike
same_any : (test : KnownPart → Bool) (old new : List KnownPart) → length new ≡ length old →
    ((k : ℕ) (d : KnownPart) → test (get_or new k d) ≡ test (get_or old k d)) → list_any test new ≡ list_any test old
same_any test [] [] long same = refl
same_any test [] (n ∷ new) long same = absurd (omega (arith, long))
same_any test (o ∷ old) [] long same = absurd (omega (arith, long))
same_any test (o ∷ old) (n ∷ new) long same =
    ap (λ (b : Bool). b || list_any test new) (same 0 o)
    ∙ ap (λ (b : Bool). test o || b) (same_any test old new (omega (arith, long)) (λ k d. same (suc k) d))

-- Parts that are assigned by what their names say are of their scrambles.
pub are_of : (text : List ℕ) (is_in_order : Bool) (count : ℕ) (none : KnownPart) (old new : List KnownPart) → count ≤ 18446744073709551615 →
    length new ≡ length old → AreSaid text old → AreNamedAs old new → is_in_order ≡ are_in_order text count old →
    AreAssigned is_in_order count (λ k. (get_or old k none).scramble) new → AreOf text count new
are_of text is_in_order count none old new low long says named order assigned = record {
  in_order = λ is k d lt. assigned.in_order (same_order ∙ is) k d lt (omega (arith, lt, counted is));
  only = λ is k d lt. by_scramble k d lt (assigned.only (same_order ∙ is) k d lt) (cases_eq (get_or new k d).scramble 18446744073709551615);
  all = λ is k scramble d lt few alone. assigned.all (same_order ∙ is) k d lt
      (omega (arith, few, said_on (number_of_name text (get_or new k none)) scramble (alone.says none), said k lt))
      (λ j le same. alone.alone j none le (said_back (number_of_name text (get_or new j none)) scramble
      (sym (said j le) ∙ same ∙ said k lt ∙ said_on (number_of_name text (get_or new k none)) scramble (alone.says none)) (λ e. omega (arith, e, few, low))))
      ∙ said k lt ∙ said_on (number_of_name text (get_or new k none)) scramble (alone.says none);
}
  where
    same_number : (k : ℕ) (d : KnownPart) → number_of_name text (get_or new k d) ≡ number_of_name text (get_or old k d)
    same_number k d =
        ap (λ (n : ℕ). head_number (slice_range text n (get_or new k d).name_end)) (named k d).0
        ∙ ap (λ (n : ℕ). head_number (slice_range text (get_or old k d).name_begin n)) (named k d).1

    same_order : is_in_order ≡ are_in_order text count new
    same_order = order
        ∙ ap (λ (b : Bool). not b && (length old == count))
        (sym (same_any (λ p. is_some (number_of_name text p)) old new long (λ k d. ap (λ (o : Option ℕ). is_some o) (same_number k d))))
        ∙ ap (λ (n : ℕ). not (have_numbers text new) && (n == count)) (sym long)

    counted : are_in_order text count new ≡ true → length new ≡ count
    counted is = eqb-true (length new) count (and_parts (not (have_numbers text new)) (length new == count) is).1

    said : (k : ℕ) → k < length new → (get_or old k none).scramble ≡ scramble_with (number_of_name text (get_or new k none))
    said k lt = All-get_or (λ (p : KnownPart). p.scramble ≡ scramble_with (number_of_name text p)) old k none (omega (arith, lt, long)) says
        ∙ ap (λ (o : Option ℕ). scramble_with o) (sym (same_number k none))

    same_part : (k : ℕ) (d : KnownPart) → k < length new → number_of_name text (get_or new k none) ≡ number_of_name text (get_or new k d)
    same_part k d lt = ap (λ (p : KnownPart). number_of_name text p) (get_or_default new k none d lt)

    by_scramble : (k : ℕ) (d : KnownPart) → k < length new →
        ((get_or new k d).scramble ≡ 18446744073709551615)
        ⊎ (((get_or new k d).scramble ≡ (get_or old k none).scramble) × IsAlone (λ j. (get_or old j none).scramble) (length new) k) →
        ((get_or new k d).scramble ≡ 18446744073709551615) ⊎ ((get_or new k d).scramble ≡ 18446744073709551615 → ⊥) →
        ((get_or new k d).scramble ≡ 18446744073709551615) ⊎ SaysAlone text new k (get_or new k d).scramble
    by_scramble k d lt (inl top) _ = inl top
    by_scramble k d lt (inr own) (inl top) = inl top
    by_scramble k d lt (inr own) (inr other) = inr (record {
      says = λ e. sym (same_part k e lt)
          ∙ said_back (number_of_name text (get_or new k none)) (get_or new k d).scramble (sym (said k lt) ∙ sym own.0) other;
      alone = λ j e le is. own.1 j le (said j le
          ∙ said_on (number_of_name text (get_or new j none)) (get_or new k d).scramble (same_part j e le ∙ is) ∙ own.0);
    })

-- the first head of lines, with one more line
first_some : (lines : List TextLine) (line first : TextLine) → first_headed lines ≡ Some first → first_headed (lines ++ line ∷ []) ≡ Some first
unfolding first_headed
first_some [] line first is = absurd (none-some first is)
first_some (l ∷ ls) line first is = by_head (l.is_headed == 0) (λ far. first_some ls line first far) is
  where
    by_head : (b : Bool) → (first_headed ls ≡ Some first → first_headed (ls ++ line ∷ []) ≡ Some first) → (if b then first_headed ls else Some l) ≡ Some first →
        (if b then first_headed (ls ++ line ∷ []) else Some l) ≡ Some first
    by_head true later is = later is
    by_head false later is = is

first_none : (lines : List TextLine) (line : TextLine) → first_headed lines ≡ None →
    first_headed (lines ++ line ∷ []) ≡ (if line.is_headed == 0 then None else Some line)
unfolding first_headed
first_none [] line is = refl
first_none (l ∷ ls) line is = by_head (l.is_headed == 0) (λ far. first_none ls line far) is
  where
    by_head : (b : Bool) → (first_headed ls ≡ None → first_headed (ls ++ line ∷ []) ≡ (if line.is_headed == 0 then None else Some line)) →
        (if b then first_headed ls else Some l) ≡ None →
        (if b then first_headed (ls ++ line ∷ []) else Some l) ≡ (if line.is_headed == 0 then None else Some line)
    by_head true later is = later is
    by_head false later is = absurd (none-some l (sym is))

-- no line has no head
pub named_none : (part : Part) → part.has_head ≡ false → part.name_begin ≡ 0 → part.name_end ≡ 0 → IsNamed [] part
unfolding first_headed
named_none part none begin end = (none, begin, end)

-- a part that has the name of its lines, with one more line
named_more : (lines : List TextLine) (line : TextLine) (number : Option ℕ) (part next : Part) →
    ((line.is_headed ≡ 0 → ⊥) → part.has_head ≡ false → (next.name_begin ≡ line.begin) × (next.name_end ≡ line.head_end) × (next.number ≡ number)) →
    ((line.is_headed ≡ 0) ⊎ (part.has_head ≡ true) →
    (next.name_begin ≡ part.name_begin) × (next.name_end ≡ part.name_end) × (next.number ≡ part.number)) →
    next.has_head ≡ (part.has_head || not (line.is_headed == 0)) → IsNamed lines part → IsNamed (lines ++ line ∷ []) next
named_more lines line number part next named kept has far = by_first (first_headed lines) refl
  where
    Told : Part → Option TextLine → Type 0
    Told p first = MatchOption first ((p.has_head ≡ false) × (p.name_begin ≡ 0) × (p.name_end ≡ 0))
        (λ l. (p.has_head ≡ true) × (p.name_begin ≡ l.begin) × (p.name_end ≡ l.head_end))

    by_line : first_headed lines ≡ None → Told part None → (line.is_headed ≡ 0) ⊎ (line.is_headed ≡ 0 → ⊥) → IsNamed (lines ++ line ∷ []) next
    by_line is old (inl bare) =
        let same = kept (inl bare) in
        let zero_is : (line.is_headed == 0) ≡ true = eq-eqb line.is_headed 0 bare in
        subst (λ o. Told next o) (sym (first_none lines line is ∙ ap (λ (b : Bool). if b then None else Some line) zero_is))
        (has ∙ ap (λ (b : Bool). b || not (line.is_headed == 0)) old.0 ∙ ap (λ (b : Bool). not b) zero_is, same.0 ∙ old.1, same.1 ∙ old.2)
    by_line is old (inr headed) =
        let same = named headed old.0 in
        let zero_is : (line.is_headed == 0) ≡ false = ne_eqb line.is_headed 0 headed in
        subst (λ o. Told next o) (sym (first_none lines line is ∙ ap (λ (b : Bool). if b then None else Some line) zero_is))
        (has ∙ ap (λ (b : Bool). b || not (line.is_headed == 0)) old.0 ∙ ap (λ (b : Bool). not b) zero_is, same.0, same.1)

    by_first : (first : Option TextLine) → first_headed lines ≡ first → IsNamed (lines ++ line ∷ []) next
    by_first None is = by_line is (subst (λ o. Told part o) is far) (cases_eq line.is_headed 0)
    by_first (Some l) is =
        let old : Told part (Some l) = subst (λ o. Told part o) is far in
        let same = kept (inr old.0) in
        subst (λ o. Told next o) (sym (first_some lines line l is))
        (has ∙ ap (λ (b : Bool). b || not (line.is_headed == 0)) old.0, same.0 ∙ old.1, same.1 ∙ old.2)

-- the same in memory, with what is left of the lines
pub heads_next : (lines rest others : List TextLine) (line : TextLine) (number : Option ℕ) (part next : Part) → length rest ≤ length lines →
    rest ≡ drop (length lines - length rest) lines → rest ≡ line ∷ others →
    ((line.is_headed ≡ 0 → ⊥) → part.has_head ≡ false → (next.name_begin ≡ line.begin) × (next.name_end ≡ line.head_end) × (next.number ≡ number)) →
    ((line.is_headed ≡ 0) ⊎ (part.has_head ≡ true) →
    (next.name_begin ≡ part.name_begin) × (next.name_end ≡ part.name_end) × (next.number ≡ part.number)) →
    next.has_head ≡ (part.has_head || not (line.is_headed == 0)) → IsNamed (take (length lines - length rest) lines) part →
    IsNamed (take (length lines - length others) lines) next × (others ≡ drop (length lines - length others) lines)
heads_next lines rest others line number part next fits left first named kept has far = (
  subst (λ n. IsNamed (take n lines) next) there (subst (λ v. IsNamed v next) (sym front) (named_more (take i lines) line number part next named kept has far)),
  ap (λ v. drop 1 v) (sym first ∙ left) ∙ drop-drop 1 i lines ∙ ap (λ n. drop n lines) there,
)
  where
    i : ℕ
    i = length lines - length rest

    long : length rest ≡ length others + 1
    long = ap length first ∙ (let one : suc (length others) ≡ length others + 1 = omega arith in one)

    there : i + 1 ≡ length lines - length others
    there = omega (arith, fits, long)

    here : get_or lines i line ≡ line
    here =
        let none : i ≡ i + 0 = omega arith in
        ap (λ k. get_or lines k line) none ∙ sym (get_or-drop i lines 0 line) ∙ ap (λ v. get_or v 0 line) (sym left ∙ first)

    front : take (i + 1) lines ≡ take i lines ++ line ∷ []
    front = take_more lines i line (omega (arith, fits, long)) ∙ ap (λ l. take i lines ++ l ∷ []) here
