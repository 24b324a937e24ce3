-- How the calls of a device join, what they give and send, and how answers join.
use Rattle.niss_shell.proofs.Names.{◌≡◌, ◌≢◌, ℕ, ◌+◌, ◌<◌, ◌≤◌, zero, suc, Bool, true, false, if◌then◌else◌, Option, Some, None}
use Rattle.niss_shell.proofs.Names.{Result, Ok, Err, List, [], ◌∷◌, ◌++◌, take, drop, length, length-append, refl, sym, ap, ◌∙◌, subst}
use Rattle.niss_shell.proofs.Names.{append_assoc, append-nil, arith, drop-append-le, SourceCall, TargetCall, Read, Write, Flush, Calls}
use Rattle.niss_shell.proofs.Names.{Reads, ReadsWhile, Sends, IsPiece, Ending, More, End, Fail, left_after, Writes, WasRead, DeviceFault, Stop}
use Rattle.niss_shell.proofs.Names.{is_end, ReadShows, SourceState, ◌||◌, AnswersAfter}
use Rattle.niss_shell.proofs.Names.{Answer, unsearched, joined_answer, then_answer, AnswerState, Delivered, Answers, Output, output_state}
use Rattle.niss_shell.proofs.Names.{outcome_before, Looked}

-- calls, and more calls

pub calls_more : {D C : Type 0} (call : D → C → D → Type 0) (xs ys : List C) (a b c : D) → Calls call a b xs → Calls call b c ys → Calls call a c (xs ++ ys)
unfolding Calls
calls_more call [] ys a b c p q = subst (λ d. Calls call d c ys) (sym p) q
calls_more call (x ∷ xs) ys a b c p q = (p.0, (p.1.0, calls_more call xs ys p.0 b c p.1.1 q))

pub no_call : {D C : Type 0} (call : D → C → D → Type 0) (a : D) → Calls call a a []
unfolding Calls
no_call call a = refl

pub one_call : {D C : Type 0} (call : D → C → D → Type 0) (a b : D) {c : C} → call a c b → Calls call a b (c ∷ [])
unfolding Calls
one_call call a b p = (b, (p, refl))

-- a text and more text behind it

abbrev with_more : Option (List ℕ) → List ℕ → Option (List ℕ)
with_more None more = None
with_more (Some rest) more = Some (rest ++ more)

piece_front : {piece text : List ℕ} (more : List ℕ) → IsPiece piece text → IsPiece piece (text ++ more)
piece_front {piece = piece} more p = record {
  rest = p.rest ++ more;
  whole = sym (append_assoc piece p.rest more) ∙ ap (λ t. t ++ more) p.whole;
  some = p.some;
}

piece_fits : {piece text : List ℕ} → IsPiece piece text → length piece ≤ length text
piece_fits {piece = piece} p = omega (arith, ap (length {A = ℕ}) p.whole, length-append piece p.rest)

pub sends_front : (calls : List TargetCall) (text more : List ℕ) (left : Option (List ℕ)) → Sends calls text left → Sends calls (text ++ more) (with_more left more)
unfolding Sends
sends_front [] text more left p = ap (λ l. with_more l more) p
sends_front (Flush result ∷ calls) text more left p = absurd p
sends_front (Write piece (Ok zero) ∷ calls) text more left p = (piece_front more p.0, p.1, ap (λ l. with_more l more) p.2)
sends_front (Write piece (Err fault) ∷ calls) text more left p = (piece_front more p.0, p.1, ap (λ l. with_more l more) p.2)
sends_front (Write piece (Ok (suc n)) ∷ calls) text more left p = (
  piece_front more p.0,
  p.1,
  subst (λ t. Sends calls t (with_more left more)) (sym (drop-append-le (suc n) text more (omega (arith, p.1, piece_fits p.0))))
      (sends_front calls (drop (suc n) text) more left p.2),
)

pub sends_more : (xs ys : List TargetCall) (text mid : List ℕ) (left : Option (List ℕ)) → Sends xs text (Some mid) → Sends ys mid left → Sends (xs ++ ys) text left
unfolding Sends
sends_more [] ys text mid left p q = let e : mid ≡ text = cc p in subst (λ t. Sends ys t left) e q
sends_more (Flush result ∷ calls) ys text mid left p q = absurd p
sends_more (Write piece (Ok zero) ∷ calls) ys text mid left p q = absurd (cc p.2)
sends_more (Write piece (Err fault) ∷ calls) ys text mid left p q = absurd (cc p.2)
sends_more (Write piece (Ok (suc n)) ∷ calls) ys text mid left p q = (p.0, p.1, sends_more calls ys (drop (suc n) text) mid left p.2 q)

whole_piece : (piece : List ℕ) → 0 < length piece → IsPiece piece piece
whole_piece piece h = record { rest = []; whole = append-nil piece; some = h }

sends_one : (piece : List ℕ) (n : ℕ) → n ≢ 0 → n ≤ length piece → Sends (Write piece (Ok n) ∷ []) piece (Some (drop n piece))
unfolding Sends
sends_one piece zero some fits = absurd (some refl)
sends_one piece (suc n) some fits = (whole_piece piece (omega (arith, fits)), fits, refl)

sends_none : (piece : List ℕ) (n : ℕ) → n ≡ 0 → 0 < length piece → Sends (Write piece (Ok n) ∷ []) piece None
unfolding Sends
sends_none piece zero none some = (whole_piece piece some, refl, refl)
sends_none piece (suc n) none some = absurd (cc none)

sends_fault : (piece : List ℕ) (fault : DeviceFault) → 0 < length piece → Sends (Write piece (Err fault) ∷ []) piece None
unfolding Sends
sends_fault piece fault some = (whole_piece piece some, refl, refl)

-- the same with the device

module _ {W : Type 0} (call : W → TargetCall → W → Type 0) where
  pub writes_none : (text : List ℕ) (a : W) → Writes call false text text a a
  unfolding Sends
  writes_none text a = record { calls = []; made = no_call call a; sends = refl }

  pub writes_more : (refused : Bool) (text mid rest : List ℕ) (a b c : W)
      → Writes call false text mid a b → Writes call refused mid rest b c → Writes call refused text rest a c
  writes_more refused text mid rest a b c p q = record {
    calls = p.calls ++ q.calls;
    made = calls_more call p.calls q.calls a b c p.made q.made;
    sends = sends_more p.calls q.calls text mid (left_after refused rest) p.sends q.sends;
  }

  pub writes_front : (refused : Bool) (text rest more : List ℕ) (a b : W) → Writes call refused text rest a b
      → Writes call refused (text ++ more) (rest ++ more) a b
  writes_front true text rest more a b p =
      record { calls = p.calls; made = p.made; sends = sends_front p.calls text more None p.sends }
  writes_front false text rest more a b p =
      record { calls = p.calls; made = p.made; sends = sends_front p.calls text more (Some rest) p.sends }

  -- one write, which took some bytes or none

  pub writes_some : {piece : List ℕ} (n : ℕ) (a b : W) → n ≢ 0 → n ≤ length piece → call a (Write piece (Ok n)) b → Writes call false piece (drop n piece) a b
  writes_some {piece = piece} n a b some fits p =
      record { calls = Write piece (Ok n) ∷ []; made = one_call call a b p; sends = sends_one piece n some fits }

  pub refuses_none : {piece : List ℕ} (n : ℕ) (a b : W) → n ≡ 0 → 0 < length piece → call a (Write piece (Ok n)) b → Writes call true piece [] a b
  refuses_none {piece = piece} n a b none some p =
      record { calls = Write piece (Ok n) ∷ []; made = one_call call a b p; sends = sends_none piece n none some }

  pub refuses_fault : {piece : List ℕ} (fault : DeviceFault) (a b : W) → 0 < length piece → call a (Write piece (Err fault)) b → Writes call true piece [] a b
  refuses_fault {piece = piece} fault a b some p =
      record { calls = Write piece (Err fault) ∷ []; made = one_call call a b p; sends = sends_fault piece fault some }

-- reads, and more reads

pub no_read : Reads [] [] More
unfolding Reads
no_read = (refl, refl)

pub reads_more : (xs ys : List SourceCall) (x y : List ℕ) (ended : Ending) → Reads xs x More → Reads ys y ended → Reads (xs ++ ys) (x ++ y) ended
unfolding Reads
reads_more [] ys x y ended p q = subst (λ v. Reads ys (v ++ y) ended) (sym p.0) q
reads_more (Read asked (Ok []) ∷ xs) ys x y ended p q = absurd (cc p.3)
reads_more (Read asked (Err fault) ∷ xs) ys x y ended p q = absurd (cc p.2)
reads_more (Read asked (Ok (b ∷ bytes)) ∷ xs) ys x y ended p q =
    (p.0 ++ y, ap (λ v. v ++ y) p.1 ∙ append_assoc (b ∷ bytes) p.0 y, reads_more xs ys p.0 y ended p.2 q)

-- what held before each of some reads, and before one more

nothing_is_more : (before after : List SourceCall) (call : SourceCall) → before ++ call ∷ after ≢ []
nothing_is_more [] after call e = absurd (cc e)
nothing_is_more (b ∷ before) after call e = absurd (cc e)

pub while_none : (P : List ℕ → Type 0) → ReadsWhile P []
while_none P = λ before after call input e gave. absurd (nothing_is_more before after call e)

pub while_more : (P : List ℕ → Type 0) (reads : List SourceCall) (whole : List ℕ) (last : SourceCall)
    → ReadsWhile P reads → Reads reads whole More → P whole → ReadsWhile P (reads ++ last ∷ [])
unfolding Reads
while_more P [] whole last held all here [] after call input e gave = subst P (all.0 ∙ sym gave.0) here
while_more P [] whole last held all here (b ∷ before) after call input e gave =
    let none : before ++ call ∷ after ≡ [] = cc e in absurd (nothing_is_more before after call none)
while_more P (r ∷ reads) whole last held all here [] after call input e gave = held [] reads r input refl gave
while_more P (Read asked (Ok []) ∷ reads) whole last held all here (b ∷ before) after call input e gave = absurd (cc all.3)
while_more P (Read asked (Err fault) ∷ reads) whole last held all here (b ∷ before) after call input e gave = absurd (cc all.2)
while_more P (Read asked (Ok (x ∷ xs)) ∷ reads) whole last held all here (b ∷ before) after call input e gave =
    let first : SourceCall = Read asked (Ok (x ∷ xs)) in
    let same : b ≡ first = cc e in
    let others : before ++ call ∷ after ≡ reads ++ last ∷ [] = cc e in
    let p = subst (λ c. Reads (c ∷ before) input More) same gave in
    subst P (sym p.1) (while_more (λ i. P ((x ∷ xs) ++ i)) reads all.0 last
    (λ front more next given f g. held (first ∷ front) more next ((x ∷ xs) ++ given) (ap (λ v. first ∷ v) f) (given, refl, g))
    all.2 (subst P all.1 here) before after call p.0 others p.2)

pub reads_some : (asked : ℕ) (bytes : List ℕ) → 0 < length bytes → Reads (Read asked (Ok bytes) ∷ []) bytes More
unfolding Reads
reads_some asked [] some = absurd (omega (arith, some))
reads_some asked (b ∷ bytes) some = ([], sym (append-nil (b ∷ bytes)), (refl, refl))

pub reads_end : (asked : ℕ) (bytes : List ℕ) → 0 < asked → length bytes ≡ 0 → Reads (Read asked (Ok bytes) ∷ []) [] End
unfolding Reads
reads_end asked [] some none = (some, refl, refl, refl)
reads_end asked (b ∷ bytes) some none = absurd (omega (arith, none))

pub reads_fault : (asked : ℕ) (fault : DeviceFault) → Reads (Read asked (Err fault) ∷ []) [] Fail
unfolding Reads
reads_fault asked fault = (refl, refl, refl)

-- a read that gave some bytes didn't find the end
some_is_no_end : (n : ℕ) (buf : List ℕ) → n ≢ 0 → n ≤ length buf → is_end (Read (length buf) (Ok (take n buf))) ≡ false
some_is_no_end zero buf some fits = absurd (some refl)
some_is_no_end (suc n) [] some fits = absurd (omega (arith, fits))
some_is_no_end (suc n) (b ∷ buf) some fits = refl

-- nor does it raise the flag
pub still_open : (n : ℕ) (buf : List ℕ) (old new : SourceState) → n ≢ 0 → n ≤ length buf → old.has_ended ≡ false
    → ReadShows (Read (length buf) (Ok (take n buf))) old new → new.has_ended ≡ false
still_open n buf old new some fits e shown = shown.ended ∙ ap (λ f. f || is_end (Read (length buf) (Ok (take n buf)))) e ∙ some_is_no_end n buf some fits

abbrev pub nothing_read : {R : Type 0} (call : R → SourceCall → R → Type 0) (a : R) → WasRead (Calls call a a)
nothing_read call a = record { reads = []; made = no_call call a; input = []; ended = More; gave = no_read }

-- what an output takes, and what it takes after it

looked_more : (refused : Bool) (l k n a b c : ℕ) → l + k ≡ n → Looked false l a b → Looked refused k b c → Looked refused n a c
looked_more true l k n a b c e p q = (omega (arith, p, q.0), omega (arith, e, p, q.1))
looked_more false l k n a b c e p q = omega (arith, e, p, q)

module _ {W : Type 0} (call : W → TargetCall → W → Type 0) where
  pub delivers_nothing : (a : AnswerState W) → Delivered call false [] 0 a a
  delivers_nothing a = record {
    same_target = refl;
    writes = subst (λ t. Writes call false t a.pending a.target a.target) (sym (append-nil a.pending)) (writes_none call a.pending a.target);
    looked = omega arith;
  }

  -- a text waits after what waited
  pub waits : (text : List ℕ) (a b : AnswerState W) → b.reference ≡ a.reference → b.target ≡ a.target → b.pending ≡ a.pending ++ text → b.looks ≡ a.looks
      → Delivered call false text 0 a b
  waits text a b same target e looks = record {
    same_target = same;
    writes = subst (λ w. Writes call false (a.pending ++ text) b.pending a.target w) (sym target)
        (subst (λ t. Writes call false t b.pending a.target a.target) e (writes_none call b.pending a.target));
    looked = omega (arith, looks);
  }

  pub delivers_more : (refused : Bool) (x y text : List ℕ) (l k looks : ℕ) (a b c : AnswerState W) → x ++ y ≡ text → l + k ≡ looks
      → Delivered call false x l a b → Delivered call refused y k b c → Delivered call refused text looks a c
  delivers_more refused x y text l k looks a b c e f p q = record {
    same_target = q.same_target ∙ p.same_target;
    writes = writes_more call refused (a.pending ++ text) (b.pending ++ y) c.pending a.target b.target c.target
        (subst (λ t. Writes call false t (b.pending ++ y) a.target b.target) (append_assoc a.pending x y ∙ ap (λ t. a.pending ++ t) e)
        (writes_front call false (a.pending ++ x) b.pending y a.target b.target p.writes)) q.writes;
    looked = looked_more refused l k looks a.looks b.looks c.looks f p.looked q.looked;
  }

  -- a refused write of a beginning
  pub refuses_front : (x y text : List ℕ) (l looks : ℕ) (a c : AnswerState W) → x ++ y ≡ text → l ≤ looks
      → Delivered call true x l a c → Delivered call true text looks a c
  refuses_front x y text l looks a c e f p = record {
    same_target = p.same_target;
    writes =
        let w = writes_front call true (a.pending ++ x) c.pending y a.target c.target p.writes in
        subst (λ t. Writes call true t c.pending a.target c.target) (append_assoc a.pending x y ∙ ap (λ t. a.pending ++ t) e)
        (record { calls = w.calls; made = w.made; sends = w.sends });
    looked = (p.looked.0, omega (arith, f, p.looked.1));
  }

  -- the same with looks that were made meanwhile
  pub looks_meanwhile : (refused : Bool) (text : List ℕ) (looks now before after : ℕ) (a b : Output W) → Looked refused looks before after
      → Delivered call refused text 0 (output_state a now) (output_state b now) → Delivered call refused text looks (output_state a before) (output_state b after)
  looks_meanwhile refused text looks now before after a b looked p = record { same_target = p.same_target; writes = p.writes; looked = looked }

-- an answer, and the one after it

same_answer : {a b : Answer} → a.output ≡ b.output → a.outcome ≡ b.outcome → a.looks ≡ b.looks → a.most_looks ≡ b.most_looks → a ≡ b
same_answer p q r s = λ i. record { output = p i; outcome = q i; looks = r i; most_looks = s i }

pub nothing_then : (a : Answer) → then_answer (unsearched [] (Ok tt)) a ≡ a
nothing_then a = same_answer refl refl (omega arith) (omega arith)

then_none : (a : Answer) (o : Result (Unit {0}) Stop) → a.outcome ≡ o → joined_answer o a (unsearched [] (Ok tt)) ≡ a
then_none a (Ok u) e = same_answer (append-nil a.output) (sym e) (omega arith) (omega arith)
then_none a (Err stop) e = refl

pub then_nothing : (a : Answer) → then_answer a (unsearched [] (Ok tt)) ≡ a
then_nothing a = then_none a a.outcome refl

-- nothing comes after a fault
after_fault : (a b : Answer) (o : Result (Unit {0}) Stop) {stop : Stop} → o ≡ Err stop → joined_answer o a b ≡ a
after_fault a b (Ok u) e = absurd (cc e)
after_fault a b (Err stop) e = refl

then_joined : (a b c : Answer) (o p : Result (Unit {0}) Stop) → a.outcome ≡ o → b.outcome ≡ p
    → then_answer (joined_answer o a b) c ≡ joined_answer o a (joined_answer p b c)
then_joined a b c (Ok u) (Ok v) e f =
    ap (λ o. joined_answer o (joined_answer (Ok u) a b) c) f
    ∙ same_answer (append_assoc a.output b.output c.output) refl (omega arith) (omega arith)
then_joined a b c (Ok u) (Err stop) e f = ap (λ o. joined_answer o (joined_answer (Ok u) a b) c) f
then_joined a b c (Err stop) p e f = after_fault a c a.outcome e

pub then_then : (a b c : Answer) → then_answer (then_answer a b) c ≡ then_answer a (then_answer b c)
then_then a b c = then_joined a b c a.outcome b.outcome refl refl

-- what is answered, and what is answered after it

good_first : (refused : Bool) (o : Result (Unit {0}) Stop) → Ok tt ≡ outcome_before refused o → (refused ≡ false) × (o ≡ Ok tt)
good_first true o e = absurd (cc e)
good_first false o e = (refl, sym e)

module _ {W : Type 0} (call : W → TargetCall → W → Type 0) where
  pub answered : (refused : Bool) (a : Answer) (o : Result (Unit {0}) Stop) (x y : AnswerState W)
      → o ≡ outcome_before refused a.outcome → Delivered call refused a.output a.looks x y → Answers call a o x y
  answered refused a o x y e p = record { refused = refused; outcome_is = e; delivered = p }

  good_delivered : (a : Answer) (x y : AnswerState W) → Answers call a (Ok tt) x y → Delivered call false a.output a.looks x y
  good_delivered a x y p = subst (λ r. Delivered call r a.output a.looks x y) (good_first p.refused a.outcome p.outcome_is).0 p.delivered

  pub answers_more : (a b : Answer) (r : Result (Unit {0}) Stop) (x y z : AnswerState W)
      → Answers call a (Ok tt) x y → Answers call b r y z → Answers call (then_answer a b) r x z
  answers_more a b r x y z p q =
      subst (λ o. Answers call (joined_answer o a b) r x z) (sym (good_first p.refused a.outcome p.outcome_is).1)
      (answered q.refused (joined_answer (Ok tt) a b) r x z q.outcome_is
      (delivers_more call q.refused a.output b.output (a.output ++ b.output) a.looks b.looks (a.looks + b.looks) x y z refl refl
      (good_delivered a x y p) q.delivered))

  nothing_waits : (refused : Bool) (text : List ℕ) (x y : AnswerState W) → x.pending ≡ [] → y.pending ≡ []
      → Writes call refused (x.pending ++ text) y.pending x.target y.target → Writes call refused text [] x.target y.target
  nothing_waits refused text x y e f w =
      subst (λ t. Writes call refused text t x.target y.target) f
      (subst (λ t. Writes call refused (t ++ text) y.pending x.target y.target) e w)

  -- the same where nothing waits: what was answered first was taken whole
  pub answers_after : (a b : Answer) (r : Result (Unit {0}) Stop) (x y z : AnswerState W)
      → x.pending ≡ [] → y.pending ≡ [] → z.pending ≡ []
      → Answers call a (Ok tt) x y → Answers call b r y z → AnswersAfter call a.output (then_answer a b) r x z
  answers_after a b r x y z e f g p q =
      let first = good_delivered a x y p in
      subst (λ o. AnswersAfter call a.output (joined_answer o a b) r x z) (sym (good_first p.refused a.outcome p.outcome_is).1)
      (record {
        answers = record {
          refused = q.refused;
          outcome_is = q.outcome_is;
          delivered = delivers_more call q.refused a.output b.output (a.output ++ b.output) a.looks b.looks (a.looks + b.looks)
              x y z refl refl first q.delivered;
        };
        writes = record {
          middle = y.target;
          rest = b.output;
          whole = refl;
          first = nothing_waits false a.output x y e f first.writes;
          others = nothing_waits q.refused b.output y z f g q.delivered.writes;
        };
      })

  refused_first : (a b : Answer) (o : Result (Unit {0}) Stop) (x z : AnswerState W)
      → Delivered call true a.output a.looks x z → Delivered call true (joined_answer o a b).output (joined_answer o a b).looks x z
  refused_first a b (Ok u) x z p =
      refuses_front call a.output b.output (a.output ++ b.output) a.looks (a.looks + b.looks) x z refl (omega arith) p
  refused_first a b (Err stop) x z p = p

  pub answers_stopped : (a b : Answer) (stop : Stop) (x z : AnswerState W) → Answers call a (Err stop) x z → Answers call (then_answer a b) (Err stop) x z
  answers_stopped a b stop x z p = by_refusal p.refused p.outcome_is p.delivered
    where
      by_refusal : (refused : Bool) → Err stop ≡ outcome_before refused a.outcome → Delivered call refused a.output a.looks x z
          → Answers call (then_answer a b) (Err stop) x z
      by_refusal true e d = answered true (then_answer a b) (Err stop) x z e (refused_first a b a.outcome x z d)
      by_refusal false e d =
          subst (λ v. Answers call v (Err stop) x z) (sym (after_fault a b a.outcome (sym e))) (answered false a (Err stop) x z e d)

  -- what waited is written after it, or a write is refused
  pub answers_sent : (a : Answer) (refused : Bool) (o : Result (Unit {0}) Stop) (x y z : AnswerState W) → o ≡ outcome_before refused (Ok tt)
      → Answers call a (Ok tt) x y → Delivered call refused [] 0 y z → Answers call a o x z
  answers_sent a refused o x y z e p q =
      answered refused a o x z (e ∙ ap (outcome_before refused) (sym (good_first p.refused a.outcome p.outcome_is).1))
      (delivers_more call refused a.output [] a.output a.looks 0 a.looks x y z (append-nil a.output) (omega arith) (good_delivered a x y p) q)

-- what is chosen by a test whose answer is known

pub choose_false : {A : Type 0} (c : Bool) (x y : A) → c ≡ false → (if c then x else y) ≡ y
choose_false true x y e = absurd (cc e)
choose_false false x y e = refl

pub choose_true : {A : Type 0} (c : Bool) (x y : A) → c ≡ true → (if c then x else y) ≡ x
choose_true true x y e = refl
choose_true false x y e = absurd (cc e)
