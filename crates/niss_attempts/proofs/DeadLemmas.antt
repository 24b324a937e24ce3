-- Bytes that can't be read wherever they stand after whole moves: as at the begin of a line they can't.
use Rattle.std.proofs.Common.{◌≡◌, ◌∙◌, ℕ, ◌+◌, ◌-◌, ◌<◌, ◌≤◌, ◌==◌, Bool, true, false, cond, List, [], ◌∷◌, ◌++◌, length, Option, None, Some, Result, Ok, Err, refl, sym, ap, subst, arith, length-append, append-nil, append_assoc, inl, inr, map, take, drop, get_or}
use Rattle.std.specs.Prelude.{nat_lt}
use Rattle.std.proofs.lemmas.Bool.{eqb-true, lt-ltb, ltb-true}
use Rattle.std.proofs.lemmas.Grind.{take_at_read}
use Rattle.std.proofs.lemmas.List.{map-append, take-append-drop}
use Rattle.niss_moves.specs.Line.{Moves, token_of}
use Rattle.niss_moves.specs.Machine.{State, start, count, settled, added, with_more, with_last, last_token, opened, closed, widened, doubled, primed, cut, begun, step_by, step_at, step_within, fed_to, and_then, run, ended, state_or}
use Rattle.niss_moves.specs.Reader.{Reader, IsFed, read_line}
use Rattle.niss_moves.specs.Symbols.{symbol_of}
use Rattle.niss_moves.specs.declared.fault.ReadFault.{ReadFault}
use Rattle.niss_moves.specs.declared.partial_line.LastMove.{LastMove}
use Rattle.niss_moves.specs.declared.symbol.Symbol.{Symbol}
use Rattle.niss_moves.specs.declared.token.Base.{Base}
use Rattle.niss_moves.specs.declared.token.Token.{Token}
use Rattle.niss_moves.specs.declared.turn.Power.TheVariants.{Half, Counter}
use Rattle.niss_attempts.specs.DeadSteps.{Rests, IsDead, IsStopped, StaysDead, IsParted, EndsWhole}
use Rattle.niss_attempts.specs.Parts.{read_byte, repeated}
use Rattle.niss_attempts.specs.declared.steps.reading.Reading.{Reading}
use Rattle.niss_attempts.specs.declared.steps.reading.Reading.TheVariants.{AsWritten, WithoutBrackets, InCapitals}

abbrev is_in : Option ℕ → Bool
is_in None = false
is_in (Some c) = true

-- Two states read the same bytes, the first one at least as many.
record Leads (s t : State) : Type 0 where
  pub last : s.last ≡ t.last
  pub bracket : is_in s.bracket ≡ is_in t.bracket
  pub fewer : count s ≤ count t

-- What the second reads the first does.
abbrev Follow : Result State ReadFault → Result State ReadFault → Type 0
Follow r (Err f) = Unit {0}
Follow (Ok s) (Ok t) = Leads s t
Follow (Err f) (Ok t) = ⊥

-- no move is half read, if all is read
abbrev Holds : Result State ReadFault → Type 0
Holds (Ok s) = s.last ≡ LastMove.Finished
Holds (Err f) = Unit {0}

abbrev more_count : Option Token → ℕ
more_count None = 0
more_count (Some t) = 1

count_with : (o : Option ℕ) (m : Moves) (t : Token) → length (with_more o m (t ∷ [])).normal + length (with_more o m (t ∷ [])).bracketed ≡ length m.normal + length m.bracketed + 1
count_with None m t = omega (arith, length-append m.normal (t ∷ []))
count_with (Some c) m t = omega (arith, length-append m.bracketed (t ∷ []))

count_added : (s : State) (o : Option Token) → count (added s o) ≡ count s + more_count o
count_added s None = omega arith
count_added s (Some t) = count_with s.bracket s.moves t

added_leads : (s t : State) (o : Option Token) → Leads s t → Leads (added s o) (added t o)
added_leads s t o it = record {
  last = refl;
  bracket = it.bracket;
  fewer = omega (arith, it.fewer, count_added s o, count_added t o);
}

settled_leads : (s t : State) → Leads s t → Leads (settled s) (settled t)
settled_leads s t it = subst (λ (l : LastMove). Leads (settled s) (added t (last_token l))) it.last (added_leads s t (last_token s.last) it)

last_leads : (s t : State) (l : LastMove) → Leads s t → Leads (with_last l s) (with_last l t)
last_leads s t l it = record { last = refl; bracket = it.bracket; fewer = it.fewer }

opened_follows : (o p : Option ℕ) (s t : State) → is_in o ≡ is_in p → Leads s t → Follow (opened o s) (opened p t)
opened_follows None None s t same it = record { last = refl; bracket = refl; fewer = (settled_leads s t it).fewer }
opened_follows o (Some d) s t same it = tt
opened_follows (Some c) None s t same it = absurd (cc same)

closed_follows : (o p : Option ℕ) (s t : State) → is_in o ≡ is_in p → Leads s t → Follow (closed o s) (closed p t)
closed_follows o None s t same it = tt
closed_follows (Some c) (Some d) s t same it = record { last = refl; bracket = refl; fewer = (settled_leads s t it).fewer }
closed_follows None (Some d) s t same it = absurd (cc same)

widened_follows : (l : LastMove) (s t : State) → Leads s t → Follow (widened l s) (widened l t)
widened_follows LastMove.Finished s t it = tt
widened_follows (LastMove.Bare (Base.Face f)) s t it = last_leads s t (LastMove.Bare (Base.Wide f)) it
widened_follows (LastMove.Bare (Base.Wide f)) s t it = tt
widened_follows (LastMove.Bare (Base.LowerCase f)) s t it = tt
widened_follows (LastMove.Bare (Base.Slice f)) s t it = tt
widened_follows (LastMove.Bare (Base.Rotation f)) s t it = tt
widened_follows (LastMove.Doubled b) s t it = tt
widened_follows (LastMove.FirstByte b) s t it = tt
widened_follows (LastMove.SecondByte b) s t it = tt

doubled_follows : (l : LastMove) (s t : State) → Leads s t → Follow (doubled l s) (doubled l t)
doubled_follows LastMove.Finished s t it = tt
doubled_follows (LastMove.Bare b) s t it = last_leads s t (LastMove.Doubled b) it
doubled_follows (LastMove.Doubled b) s t it = tt
doubled_follows (LastMove.FirstByte b) s t it = tt
doubled_follows (LastMove.SecondByte b) s t it = tt

primed_follows : (l : LastMove) (s t : State) → Leads s t → Follow (primed l s) (primed l t)
primed_follows LastMove.Finished s t it = tt
primed_follows (LastMove.Bare b) s t it = added_leads s t (Some (token_of b Counter)) it
primed_follows (LastMove.Doubled b) s t it = added_leads s t (Some (token_of b Half)) it
primed_follows (LastMove.FirstByte b) s t it = tt
primed_follows (LastMove.SecondByte b) s t it = tt

cut_follows : (l : LastMove) (s t : State) → Leads s t → Follow (cut l s) (cut l t)
cut_follows LastMove.Finished s t it = tt
cut_follows (LastMove.Bare b) s t it = last_leads s t _ it
cut_follows (LastMove.Doubled b) s t it = last_leads s t _ it
cut_follows (LastMove.FirstByte b) s t it = tt
cut_follows (LastMove.SecondByte b) s t it = tt

begun_follows : (b : Base) (s t : State) → Leads s t → Follow (begun 256 b s) (begun 256 b t)
begun_follows b s t it = by_tests (nat_lt (count (settled s)) 256) (nat_lt (count (settled t)) 256) fewer
  where
    fewer : nat_lt (count (settled t)) 256 ≡ true → nat_lt (count (settled s)) 256 ≡ true
    fewer e = lt-ltb (count (settled s)) 256 (omega (arith, ltb-true (count (settled t)) 256 e, (settled_leads s t it).fewer))

    by_tests : (x y : Bool) → (y ≡ true → x ≡ true) →
        Follow (cond x (Ok (with_last (LastMove.Bare b) (settled s))) (Err (ReadFault.TooLong (s.fed + 1)))) (cond y (Ok (with_last (LastMove.Bare b) (settled t))) (Err (ReadFault.TooLong (t.fed + 1))))
    by_tests x false so = tt
    by_tests true true so = last_leads (settled s) (settled t) (LastMove.Bare b) (settled_leads s t it)
    by_tests false true so = absurd (cc (so refl))

-- by the last move of the one, which is that of the other
same_last : (f : LastMove → State → Result State ReadFault) → ((l : LastMove) (s t : State) → Leads s t → Follow (f l s) (f l t)) → (s t : State) → Leads s t →
    Follow (f s.last s) (f t.last t)
same_last f follows s t it = subst (λ (l : LastMove). Follow (f s.last s) (f l t)) it.last (follows s.last s t it)

symbol_follows : (symbol : Symbol) (s t : State) → Leads s t → Follow (step_by 256 symbol s) (step_by 256 symbol t)
symbol_follows Symbol.Blank s t it = settled_leads s t it
symbol_follows Symbol.Open s t it = opened_follows s.bracket t.bracket s t it.bracket it
symbol_follows Symbol.Close s t it = closed_follows s.bracket t.bracket s t it.bracket it
symbol_follows (Symbol.Base b) s t it = begun_follows b s t it
symbol_follows Symbol.Wide s t it = same_last widened widened_follows s t it
symbol_follows Symbol.Two s t it = same_last doubled doubled_follows s t it
symbol_follows Symbol.Apostrophe s t it = same_last primed primed_follows s t it
symbol_follows Symbol.Cut s t it = same_last cut cut_follows s t it
symbol_follows Symbol.Other s t it = tt

at_follows : (byte : ℕ) (l : LastMove) (s t : State) → Leads s t → Follow (step_at 256 l s byte) (step_at 256 l t byte)
at_follows byte LastMove.Finished s t it = symbol_follows (symbol_of byte) s t it
at_follows byte (LastMove.Bare b) s t it = symbol_follows (symbol_of byte) s t it
at_follows byte (LastMove.Doubled b) s t it = symbol_follows (symbol_of byte) s t it
at_follows byte (LastMove.FirstByte b) s t it = by_test (byte == 128)
  where
    by_test : (x : Bool) → Follow (cond x (Ok (with_last (LastMove.SecondByte b) s)) (Err (ReadFault.NotAMove s.fed))) (cond x (Ok (with_last (LastMove.SecondByte b) t)) (Err (ReadFault.NotAMove t.fed)))
    by_test true = last_leads s t _ it
    by_test false = tt
at_follows byte (LastMove.SecondByte b) s t it = by_test (byte == 153)
  where
    by_test : (x : Bool) → Follow (cond x (Ok (settled s)) (Err (ReadFault.NotAMove (s.fed - 1)))) (cond x (Ok (settled t)) (Err (ReadFault.NotAMove (t.fed - 1))))
    by_test true = settled_leads s t it
    by_test false = tt

fed_follows : (n m : ℕ) (r q : Result State ReadFault) → Follow r q → Follow (fed_to n r) (fed_to m q)
fed_follows n m r (Err f) it = tt
fed_follows n m (Ok s) (Ok t) it = record { last = it.last; bracket = it.bracket; fewer = it.fewer }
fed_follows n m (Err f) (Ok t) it = absurd it

step_follows : (byte : ℕ) (s t : State) → Leads s t → Follow (step_within 256 s byte) (step_within 256 t byte)
unfolding step_within
step_follows byte s t it =
    fed_follows (s.fed + 1) (t.fed + 1) (step_at 256 s.last s byte) (step_at 256 t.last t byte)
    (same_last (λ l u. step_at 256 l u byte) (at_follows byte) s t it)

run_follows : (bytes : List ℕ) (s t : State) → Leads s t → Follow (run s bytes) (run t bytes)
run_follows [] s t it = it
run_follows (byte ∷ bytes) s t it = go (step_within 256 s byte) (step_within 256 t byte) (step_follows byte s t it) (run_follows bytes)
  where
    go : (r q : Result State ReadFault) → Follow r q → ((s t : State) → Leads s t → Follow (run s bytes) (run t bytes)) →
        Follow (and_then r (λ s. run s bytes)) (and_then q (λ s. run s bytes))
    go r (Err f) it rest = tt
    go (Ok s) (Ok t) it rest = rest s t it
    go (Err f) (Ok t) it rest = absurd it

-- what can't be read, though less stands before it
never : (r q : Result State ReadFault) (f : ReadFault) (t : State) → Follow r q → r ≡ Err f → q ≡ Ok t → ⊥
never r (Err g) f t it e h = cc h
never (Ok s) (Ok u) f t it e h = cc e
never (Err g) (Ok u) f t it e h = it

-- Bytes that can't be read at the begin of a line nor after a bracket that opens there.
pub two_dead : (bytes : List ℕ) (f g : ReadFault) → run start bytes ≡ Err f → run start (40 ∷ bytes) ≡ Err g → IsDead bytes
unfolding step_within symbol_of
two_dead bytes f g out within s t between is = by_bracket s.bracket refl
  where
    inner : State
    inner = record start { bracket = Some 1; fed = 1 }

    by_bracket : (o : Option ℕ) → s.bracket ≡ o → ⊥
    by_bracket None e = never (run start bytes) (run s bytes) f t
        (run_follows bytes start s (record { last = sym between; bracket = sym (ap is_in e); fewer = omega arith })) out is
    by_bracket (Some c) e = never (run inner bytes) (run s bytes) g t
        (run_follows bytes inner s (record { last = sym between; bracket = sym (ap is_in e); fewer = omega arith })) within is

-- bytes and then others
run_both : (xs ys : List ℕ) (s : State) → run s (xs ++ ys) ≡ and_then (run s xs) (λ t. run t ys)
run_both [] ys s = refl
run_both (x ∷ xs) ys s = by_step (step_within 256 s x) (run_both xs ys)
  where
    by_step : (r : Result State ReadFault) → ((s : State) → run s (xs ++ ys) ≡ and_then (run s xs) (λ t. run t ys)) →
        and_then r (λ t. run t (xs ++ ys)) ≡ and_then (and_then r (λ t. run t xs)) (λ t. run t ys)
    by_step (Ok t) rest = rest t
    by_step (Err f) rest = refl

-- what is read of both is read of the first and then of the others
between_both : (r : Result State ReadFault) (ys : List ℕ) (t : State) → and_then r (λ u. run u ys) ≡ Ok t → (u : State) × (r ≡ Ok u) × (run u ys ≡ Ok t)
between_both (Ok u) ys t is = (u, refl, is)
between_both (Err f) ys t is = absurd (cc is)

pub dead_before : (xs ys : List ℕ) → IsDead xs → IsDead (xs ++ ys)
dead_before xs ys dead s t last is =
    let w = between_both (run s xs) ys t (sym (run_both xs ys s) ∙ is) in
    dead s w.0 last w.1

pub dead_after : (xs ys : List ℕ) → Rests xs → IsDead ys → IsDead (xs ++ ys)
dead_after xs ys rests dead s t last is =
    let w = between_both (run s xs) ys t (sym (run_both xs ys s) ∙ is) in
    dead w.0 t (rests s w.0 last w.1) w.2

pub rests_nothing : Rests []
rests_nothing s t last is = by_state (Ok t) is
  where
    by_state : (r : Result State ReadFault) → Ok s ≡ r → Holds r
    by_state r e = subst Holds e last

pub rests_both : (xs ys : List ℕ) → Rests xs → Rests ys → Rests (xs ++ ys)
rests_both xs ys first rest s t last is =
    let w = between_both (run s xs) ys t (sym (run_both xs ys s) ∙ is) in
    rest w.0 t (first s w.0 last w.1) w.2

pub nothing_lives : IsDead [] → ⊥
nothing_lives dead = dead start start refl refl

-- After a blank and a bracket no move is half read.
symbol_holds : (byte : ℕ) (symbol : Symbol) → symbol_of byte ≡ symbol → (byte == 128) ≡ false → (byte == 153) ≡ false → ((s : State) → Holds (step_by 256 symbol s)) →
    (l : LastMove) (s : State) → Holds (step_at 256 l s byte)
symbol_holds byte symbol is one other holds LastMove.Finished s = subst (λ (b : Symbol). Holds (step_by 256 b s)) (sym is) (holds s)
symbol_holds byte symbol is one other holds (LastMove.Bare b) s = subst (λ (b : Symbol). Holds (step_by 256 b s)) (sym is) (holds s)
symbol_holds byte symbol is one other holds (LastMove.Doubled b) s = subst (λ (b : Symbol). Holds (step_by 256 b s)) (sym is) (holds s)
symbol_holds byte symbol is one other holds (LastMove.FirstByte b) s = subst (λ (x : Bool). Holds (cond x (Ok (with_last (LastMove.SecondByte b) s)) (Err (ReadFault.NotAMove s.fed)))) (sym one) tt
symbol_holds byte symbol is one other holds (LastMove.SecondByte b) s = subst (λ (x : Bool). Holds (cond x (Ok (settled s)) (Err (ReadFault.NotAMove (s.fed - 1))))) (sym other) tt

fed_holds : (n : ℕ) (r : Result State ReadFault) → Holds r → Holds (fed_to n r)
fed_holds n (Ok s) it = it
fed_holds n (Err f) it = tt

-- whatever is read before this byte, no move is half read after it
abbrev EndsSo : ℕ → Type 0
EndsSo byte = (s t : State) → run s (byte ∷ []) ≡ Ok t → t.last ≡ LastMove.Finished

byte_rests : (byte : ℕ) (symbol : Symbol) → symbol_of byte ≡ symbol → (byte == 128) ≡ false → (byte == 153) ≡ false → ((s : State) → Holds (step_by 256 symbol s)) →
    EndsSo byte
unfolding step_within
byte_rests byte symbol is one other holds s t ran =
    subst Holds (by_result (step_within 256 s byte) refl ∙ ran) (fed_holds (s.fed + 1) (step_at 256 s.last s byte) (symbol_holds byte symbol is one other holds s.last s))
  where
    by_result : (r : Result State ReadFault) → step_within 256 s byte ≡ r → r ≡ and_then r (λ s. Ok s)
    by_result (Ok u) e = refl
    by_result (Err f) e = refl

open_holds : (o : Option ℕ) (s : State) → Holds (opened o s)
open_holds None s = refl
open_holds (Some c) s = tt

close_holds : (o : Option ℕ) (s : State) → Holds (closed o s)
close_holds None s = tt
close_holds (Some c) s = refl

blank_rests : EndsSo 32
unfolding symbol_of
blank_rests = byte_rests 32 Symbol.Blank refl refl refl (λ s. refl)

open_rests : EndsSo 40
unfolding symbol_of
open_rests = byte_rests 40 Symbol.Open refl refl refl (λ s. open_holds s.bracket s)

close_rests : EndsSo 41
unfolding symbol_of
close_rests = byte_rests 41 Symbol.Close refl refl refl (λ s. close_holds s.bracket s)

-- what ends in a blank or a bracket, whatever stands before it
rests_last : (xs : List ℕ) (byte : ℕ) → EndsSo byte → Rests (xs ++ byte ∷ [])
rests_last xs byte holds s t last is =
    let w = between_both (run s xs) (byte ∷ []) t (sym (run_both xs (byte ∷ []) s) ∙ is) in
    holds w.0 t w.2

pub rests_blank : (xs : List ℕ) → Rests (xs ++ 32 ∷ [])
rests_blank xs = rests_last xs 32 blank_rests

pub rests_brackets : (xs : List ℕ) → Rests (40 ∷ xs ++ 41 ∷ [])
rests_brackets xs = rests_last (40 ∷ xs) 41 close_rests

-- in brackets of their own
pub dead_in_brackets : (xs ys : List ℕ) → IsDead xs → IsDead ((40 ∷ xs ++ 41 ∷ []) ++ ys)
dead_in_brackets xs ys dead =
    dead_before (40 ∷ xs ++ 41 ∷ []) ys (dead_after (40 ∷ []) (xs ++ 41 ∷ []) (rests_last [] 40 open_rests) (dead_before xs (41 ∷ []) dead))

-- A line that can't be read has a fault.
pub dead_fails : (bytes : List ℕ) (m : Moves) → IsDead bytes → read_line bytes ≡ Ok m → ⊥
unfolding read_line
dead_fails bytes m dead is = by_run (run start bytes) refl is
  where
    by_run : (r : Result State ReadFault) → run start bytes ≡ r → ended r ≡ Ok m → ⊥
    by_run (Ok t) e h = dead start t refl e
    by_run (Err f) e h = cc h

brackets_live : IsDead (40 ∷ 41 ∷ []) → ⊥
unfolding step_within symbol_of
brackets_live dead = dead start (record start { fed = 2 }) refl refl

both_none : (xs ys : List ℕ) → xs ++ ys ≡ [] → (xs ≡ []) × (ys ≡ [])
both_none [] ys e = (refl, e)
both_none (x ∷ xs) ys e = absurd (cc e)

-- Bytes from which no move goes on stand before others that can't be read: so all can't.
pub stays_dead : (bytes more : List ℕ) → IsParted bytes more → StaysDead bytes more
stays_dead bytes more (inl rests) dead = dead_after bytes more rests dead
stays_dead bytes more (inr none) dead = absurd (nothing_lives (subst IsDead none dead))

pub stays_left_out : (before own after : List ℕ) → IsParted before (own ++ after) → StaysDead before after
stays_left_out before own after (inl rests) dead = dead_after before after rests dead
stays_left_out before own after (inr none) dead = absurd (nothing_lives (subst IsDead (both_none own after none).1 dead))

pub stays_in_brackets : (before own after : List ℕ) → IsParted before (own ++ after) → StaysDead before ((40 ∷ own ++ 41 ∷ []) ++ after)
stays_in_brackets before own after (inl rests) dead = dead_after before ((40 ∷ own ++ 41 ∷ []) ++ after) rests dead
stays_in_brackets before own after (inr none) dead =
    let w = both_none own after none in
    let same : (40 ∷ own ++ 41 ∷ []) ++ after ≡ 40 ∷ 41 ∷ [] = λ i. (40 ∷ w.0 i ++ 41 ∷ []) ++ w.1 i in
    absurd (brackets_live (subst IsDead same dead))

pub stays_repeated : (before own after bare : List ℕ) (thrice : Bool) → (own ≡ [] → bare ≡ []) → IsParted before (own ++ after) →
    StaysDead before (repeated thrice bare ++ after)
stays_repeated before own after bare thrice so (inl rests) dead = dead_after before (repeated thrice bare ++ after) rests dead
stays_repeated before own after bare thrice so (inr none) dead =
    let w = both_none own after none in
    let same : repeated thrice bare ++ after ≡ [] = (λ i. repeated thrice (so w.0 i) ++ w.1 i) ∙ empty thrice in
    absurd (nothing_lives (subst IsDead same dead))
  where
    empty : (t : Bool) → repeated t [] ++ [] ≡ []
    empty true = refl
    empty false = refl

pub stays_twice : (bytes more : List ℕ) → IsParted bytes more → StaysDead bytes (bytes ++ more)
stays_twice bytes more (inl rests) dead = dead_after bytes (bytes ++ more) rests dead
stays_twice bytes more (inr none) dead =
    let one : bytes ++ more ≡ bytes = ap (λ v. bytes ++ v) none ∙ append-nil bytes in
    dead_before bytes (bytes ++ more) (subst IsDead one dead)

pub stays_thrice : (bytes more : List ℕ) → IsParted bytes more → StaysDead bytes (bytes ++ (bytes ++ more))
stays_thrice bytes more (inl rests) dead = dead_after bytes (bytes ++ (bytes ++ more)) rests dead
stays_thrice bytes more (inr none) dead =
    let one : bytes ++ more ≡ bytes = ap (λ v. bytes ++ v) none ∙ append-nil bytes in
    let two : IsDead (bytes ++ bytes) = subst (λ (v : List ℕ). IsDead (bytes ++ v)) one dead in
    let same : (bytes ++ bytes) ++ bytes ≡ bytes ++ (bytes ++ bytes) = simp append_assoc in
    subst IsDead (same ∙ ap (λ v. bytes ++ (bytes ++ v)) (sym one)) (dead_before (bytes ++ bytes) bytes two)

-- what ends in a line feed, and what has no bytes
pub whole_line : (bytes front : List ℕ) (last : ℕ) → bytes ≡ front ++ last ∷ [] → (last == 10) ≡ true → EndsWhole bytes
whole_line bytes front last is feed reading =
    let line : bytes ≡ front ++ 10 ∷ [] = is ∙ ap (λ b. front ++ b ∷ []) (eqb-true last 10 feed) in
    subst Rests (sym (ap (map (read_byte reading)) line ∙ ends front reading)) (rests_blank (map (read_byte reading) front))
  where
    blank : (reading : Reading) → read_byte reading 10 ≡ 32
    blank AsWritten = refl
    blank WithoutBrackets = refl
    blank InCapitals = refl

    ends : (front : List ℕ) (reading : Reading) → map (read_byte reading) (front ++ 10 ∷ []) ≡ map (read_byte reading) front ++ 32 ∷ []
    ends [] reading = λ i. blank reading i ∷ []
    ends (x ∷ xs) reading = λ i. read_byte reading x ∷ ends xs reading i

-- one byte more is read
pub read_more : (f : ℕ → ℕ) (xs : List ℕ) (i d byte : ℕ) → i < length xs → byte ≡ f (get_or xs i d) → map f (take (i + 1) xs) ≡ map f (take i xs) ++ byte ∷ []
read_more f xs i d byte l is =
    ap (map f) (take_at_read xs i d l).1 ∙ map-append f (take i xs) (get_or xs i d ∷ []) ∙ ap (λ b. map f (take i xs) ++ b ∷ []) (sym is)

pub fed_more : (front : List ℕ) (f : ℕ → ℕ) (xs : List ℕ) (i d byte : ℕ) → i < length xs → byte ≡ f (get_or xs i d) →
    (front ++ map f (take i xs)) ++ byte ∷ [] ≡ front ++ map f (take (i + 1) xs)
fed_more front f xs i d byte l is = append_assoc front (map f (take i xs)) (byte ∷ []) ∙ ap (λ v. front ++ v) (sym (read_more f xs i d byte l is))

-- what has a fault has it whatever follows
stopped_more : (xs ys : List ℕ) (f : ReadFault) → run start xs ≡ Err f → run start (xs ++ ys) ≡ Err f
stopped_more xs ys f is = run_both xs ys start ∙ ap (λ r. and_then r (λ t. run t ys)) is

pub stops_here : (reader : Reader) (front : List ℕ) (f : ℕ → ℕ) (xs : List ℕ) (i d byte : ℕ) (fault : ReadFault) → i < length xs → byte ≡ f (get_or xs i d) →
    reader.fault ≡ Some fault → IsFed reader ((front ++ map f (take i xs)) ++ byte ∷ []) → IsStopped (front ++ map f xs)
stops_here reader front f xs i d byte fault l is has fed =
    let seen : List ℕ = front ++ map f (take (i + 1) xs) in
    let more : List ℕ = map f (drop (i + 1) xs) in
    let stopped : run start seen ≡ Err fault =
    ap (run start) (sym (fed_more front f xs i d byte l is)) ∙ sym fed.holds ∙ ap (λ o. state_or o reader.so_far) has in
    let all : seen ++ more ≡ front ++ map f xs =
    append_assoc front (map f (take (i + 1) xs)) more
    ∙ ap (λ v. front ++ v) (sym (map-append f (take (i + 1) xs) (drop (i + 1) xs)) ∙ ap (map f) (take-append-drop (i + 1) xs)) in
    (fault, ap (run start) (sym all) ∙ stopped_more seen more fault stopped)
