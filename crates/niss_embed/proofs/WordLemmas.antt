-- The words of bytes, one after the other.
use Rattle.std.proofs.Common.{◌≡◌, ◌≢◌, ℕ, ◌<◌, ◌==◌, Bool, true, false, ◌&&◌, if◌then◌else◌, ◌⊎◌, inl, inr, List, [], ◌∷◌, ◌++◌, length, refl, sym, ap, ◌∙◌, subst, append_assoc, append-nil, arith}
use Rattle.std.proofs.Common.{Result, Ok, Err, String, map, length-append}
use Rattle.std.specs.Prelude.{flat_map, IsUtf8, OnErr, string_bytes}
use Rattle.std.specs.List.{list_all}
use Rattle.std.specs.Str.{is_utf8}
use Rattle.std.proofs.lemmas.Str.{IsUtf8-from_is_utf8, is_utf8-from_IsUtf8}
use Rattle.std.proofs.lemmas.Bool.{eqb-true}
use Rattle.std.proofs.lemmas.List.{map-append}
use Rattle.std.proofs.lemmas.List.Elements.{All-nil, All-cons, All-head, All-tail}
use Rattle.std.proofs.lemmas.List.Folds.{list_all-append}
use Rattle.niss_shell.specs.Output.{line_with_bytes}
use Rattle.niss_shell.specs.Lines.{HasNo, IsCutAt, ended_by}
use Rattle.niss_embed.specs.Run.{AreWords, TakesWords, IsFirstWord}

abbrev IsNotZero : ℕ → Type 0
IsNotZero byte = byte ≢ 0

-- no bytes have no words

nothing_ends : (word rest : List ℕ) → (word ++ 0 ∷ []) ++ rest ≢ []
nothing_ends [] rest e = absurd (cc e)
nothing_ends (b ∷ word) rest e = absurd (cc e)

no_cut : (ended : List (List ℕ)) (last : List ℕ) → flat_map (ended_by 0) ended ++ last ≡ [] → ended ++ line_with_bytes last ≡ []
no_cut [] [] e = refl
no_cut [] (b ∷ last) e = absurd (cc e)
no_cut (word ∷ ended) last e =
    absurd (nothing_ends word (flat_map (ended_by 0) ended ++ last) (sym (append_assoc (word ++ 0 ∷ []) (flat_map (ended_by 0) ended) last) ∙ e))

pub no_words : {words : List (List ℕ)} → AreWords [] words → words ≡ []
no_words p = p.all ∙ no_cut p.ended p.last p.cut.whole

nil_cut : IsCutAt 0 [] [] []
nil_cut = record { unbroken_parts = All-nil (HasNo 0); unbroken_last = All-nil IsNotZero; whole = refl }

nil_words : AreWords [] []
nil_words = record { ended = []; last = []; cut = nil_cut; all = refl }

-- all bytes have words

abbrev Cut : List ℕ → Type 0
Cut bytes = (ended : List (List ℕ)) × ((last : List ℕ) × IsCutAt 0 bytes ended last)

not_zero : {b : ℕ} → (b == 0) ≡ false → b ≢ 0
not_zero e h = cc (e, ap (λ n. n == 0) h)

longer_first : (b : ℕ) (bytes : List ℕ) → b ≢ 0 → (ended : List (List ℕ)) (last : List ℕ) → IsCutAt 0 bytes ended last → Cut (b ∷ bytes)
longer_first b bytes h [] last p = (
  [],
  (
    b ∷ last,
    record {
      unbroken_parts = All-nil (HasNo 0);
      unbroken_last = All-cons IsNotZero b last h p.unbroken_last;
      whole = ap (λ v. b ∷ v) p.whole;
    },
  ),
)
longer_first b bytes h (word ∷ words) last p = (
  (b ∷ word) ∷ words,
  (
    last,
    record {
      unbroken_parts = All-cons (HasNo 0) (b ∷ word) words
          (All-cons IsNotZero b word h (All-head (HasNo 0) word words p.unbroken_parts)) (All-tail (HasNo 0) word words p.unbroken_parts);
      unbroken_last = p.unbroken_last;
      whole = ap (λ v. b ∷ v) p.whole;
    },
  ),
)

one_more : (c : Bool) (b : ℕ) (bytes : List ℕ) → (b == 0) ≡ c → Cut bytes → Cut (b ∷ bytes)
one_more true b bytes e p = (
  [] ∷ p.0,
  (
    p.1.0,
    record {
      unbroken_parts = All-cons (HasNo 0) [] p.0 (All-nil IsNotZero) p.1.1.unbroken_parts;
      unbroken_last = p.1.1.unbroken_last;
      whole = ap (λ v. 0 ∷ v) p.1.1.whole ∙ ap (λ n. n ∷ bytes) (sym (eqb-true b 0 e));
    },
  ),
)
one_more false b bytes e p = longer_first b bytes (not_zero e) p.0 p.1.0 p.1.1

cut_all : (bytes : List ℕ) → Cut bytes
cut_all [] = ([], ([], nil_cut))
cut_all (b ∷ bytes) = one_more (b == 0) b bytes refl (cut_all bytes)

pub all_words : (bytes : List ℕ) → (words : List (List ℕ)) × AreWords bytes words
all_words bytes =
    let p = cut_all bytes in
    (p.0 ++ line_with_bytes p.1.0, record { ended = p.0; last = p.1.0; cut = p.1.1; all = refl })

-- the first word, and those after it

one_line : (word : List ℕ) → 0 < length word → word ∷ [] ≡ line_with_bytes word
one_line [] h = absurd (omega (arith, h))
one_line (b ∷ word) h = refl

word_before : (bytes word after : List ℕ) (more : List (List ℕ)) → HasNo 0 word → AreWords after more
    → (word ++ 0 ∷ after ≡ bytes) ⊎ ((word ≡ bytes) × (after ≡ []) × (0 < length bytes)) → AreWords bytes (word ∷ more)
word_before bytes word after more h m (inl e) = record {
  ended = word ∷ m.ended;
  last = m.last;
  cut = record {
    unbroken_parts = All-cons (HasNo 0) word m.ended h m.cut.unbroken_parts;
    unbroken_last = m.cut.unbroken_last;
    whole = append_assoc (word ++ 0 ∷ []) (flat_map (ended_by 0) m.ended) m.last ∙ ap (λ v. (word ++ 0 ∷ []) ++ v) m.cut.whole
        ∙ append_assoc word (0 ∷ []) after ∙ e;
  };
  all = ap (λ v. word ∷ v) m.all;
}
word_before bytes word after more h m (inr p) = record {
  ended = [];
  last = word;
  cut = record { unbroken_parts = All-nil (HasNo 0); unbroken_last = h; whole = p.0 };
  all = ap (λ v. word ∷ v) (no_words (subst (λ v. AreWords v more) p.1 m)) ∙ one_line word (subst (λ v. 0 < length v) (sym p.0) p.2);
}

first_then : {bytes word after : List ℕ} {more : List (List ℕ)} → IsFirstWord bytes word after → AreWords after more → AreWords bytes (word ∷ more)
first_then {bytes = bytes} {word = word} {after = after} {more = more} p m = word_before bytes word after more p.unbroken m p.ends

-- while words are taken: with those of the rest they are the words of all

abbrev pub WithRest : List ℕ → List ℕ → List (List ℕ) → Type 0
WithRest bytes rest done = (more : List (List ℕ)) → AreWords rest more → AreWords bytes (done ++ more)

pub with_next : {bytes rest word after : List ℕ} (done : List (List ℕ)) {done_now : List (List ℕ)}
    → WithRest bytes rest done → IsFirstWord rest word after → done_now ≡ done ++ word ∷ [] → WithRest bytes after done_now
with_next {bytes = bytes} {word = word} done kept p e more m =
    subst (λ v. AreWords bytes v) (sym (ap (λ v. v ++ more) e ∙ append_assoc done (word ∷ []) more)) (kept (word ∷ more) (first_then p m))

abbrev pub AreText : List (List ℕ) → Type 0
AreText words = list_all is_utf8 words ≡ true

pub text_with_next : {word : List ℕ} (done : List (List ℕ)) {done_now : List (List ℕ)} → AreText done → IsUtf8 word → done_now ≡ done ++ word ∷ [] → AreText done_now
text_with_next {word = word} done t u e =
    ap (λ v. list_all is_utf8 v) e ∙ list_all-append is_utf8 done (word ∷ []) ∙ ap (λ c. c && (is_utf8 word && true)) t
    ∙ ap (λ c. c && true) (is_utf8-from_IsUtf8 word u)

-- all of them are taken
pub takes_all : {bytes rest : List ℕ} {done : List (List ℕ)} → WithRest bytes rest done → AreText done → rest ≡ [] → TakesWords bytes done
takes_all {bytes = bytes} {rest = rest} {done = done} kept t e = record {
  words = done;
  are_words = subst (λ v. AreWords bytes v) (append-nil done) (kept [] (subst (λ v. AreWords v []) (sym e) nil_words));
  taken_is = sym (ap (λ c. if c then done else []) t);
}

-- one of them is no text

no_text : (c : Bool) (word : List ℕ) → is_utf8 word ≡ c → (IsUtf8 word → ⊥) → is_utf8 word ≡ false
no_text true word e h = absurd (h (IsUtf8-from_is_utf8 word e))
no_text false word e h = e

pub takes_none : {bytes rest word after : List ℕ} (done : List (List ℕ))
    → WithRest bytes rest done → AreText done → IsFirstWord rest word after → (IsUtf8 word → ⊥) → TakesWords bytes []
takes_none {word = word} {after = after} done kept t p h =
    let others = all_words after in
    let words = done ++ word ∷ others.0 in
    let none : list_all is_utf8 words ≡ false =
    list_all-append is_utf8 done (word ∷ others.0) ∙ ap (λ c. c && list_all is_utf8 (word ∷ others.0)) t
    ∙ ap (λ c. c && list_all is_utf8 others.0) (no_text (is_utf8 word) word refl h) in
    record {
      words = words;
      are_words = kept (word ∷ others.0) (first_then p others.1);
      taken_is = sym (ap (λ c. if c then words else []) none);
    }

-- the rest is shorter than it was

shorter_by : (rest word after : List ℕ) → (word ++ 0 ∷ after ≡ rest) ⊎ ((word ≡ rest) × (after ≡ []) × (0 < length rest)) → length after < length rest
shorter_by rest word after (inl e) = omega (arith, ap (length {A = ℕ}) e, length-append word (0 ∷ after))
shorter_by rest word after (inr p) = omega (arith, ap (length {A = ℕ}) p.1, p.2)

pub shorter_after : {rest word after : List ℕ} → IsFirstWord rest word after → length after < length rest
shorter_after {rest = rest} {word = word} {after = after} p = shorter_by rest word after p.ends

-- a word that was pushed
pub pushed_word : {Z : Type 0} (items items_now : List (String Z)) (text : String Z) {word : List ℕ}
    → items_now ≡ items ++ text ∷ [] → string_bytes text ≡ word → map string_bytes items_now ≡ map string_bytes items ++ word ∷ []
pushed_word items items_now text e f =
    ap (map string_bytes) e ∙ map-append string_bytes items (text ∷ []) ∙ ap (λ v. map string_bytes items ++ v ∷ []) f

pub on_err : {T E P : Type 0} (r : Result T E) → P → OnErr r P
on_err (Ok x) p = tt
on_err (Err e) p = p

-- before anything is taken
pub with_all : (bytes : List ℕ) → WithRest bytes bytes []
with_all bytes more m = m
