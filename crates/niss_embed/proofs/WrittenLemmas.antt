-- What a search wrote into its lines in memory: all its solutions, those before one that was refused, or some of the first.
use Rattle.std.proofs.Common.{◌≡◌, inl, inr, ℕ, suc, ◌+◌, ◌<◌, ◌≤◌, Option, Some, None, List, [], ◌∷◌, ◌++◌}
use Rattle.std.proofs.Common.{take, drop, length, length-append, append_assoc, append-nil, refl, sym, ap, ◌∙◌, subst, arith}
use Rattle.std.specs.Prelude.{◌*◌, flat_map}
use Rattle.std.specs.Option.{option_or}
use Rattle.std.proofs.lemmas.List.{drop-drop, length-drop}
use Rattle.niss_search.specs.Delivery.{WentThrough, StoppedIn, WentInto}
use Rattle.niss_shell.specs.Names.{Turn}
use Rattle.niss_shell.specs.Output.{solution_line}
use Rattle.niss_embed.specs.declared.line.search.SolutionLines.{SolutionLines}
use Rattle.niss_embed.specs.LineSearch.{LinesState, lines_state, Takes, Refuses, most_of_line, first_lines}
use Rattle.niss_embed.proofs.TargetLemmas.{all_left}

-- how many turns the first of some solutions has, if none came before or one did
abbrev pub first_of : Option ℕ → List (List Turn) → Option ℕ
first_of o [] = o
first_of o (p ∷ ps) = option_or o (Some (length p))

pub first_of-more : (o : Option ℕ) (p : List Turn) (ps : List (List Turn)) → first_of (option_or o (Some (length p))) ps ≡ option_or o (Some (length p))
first_of-more o p [] = refl
first_of-more None p (q ∷ qs) = refl
first_of-more (Some k) p (q ∷ qs) = refl

-- Some solutions were written one after another.
pub record Took (ps : List (List Turn)) (old new : LinesState) : Type 0 where
  pub same_reference : new.reference ≡ old.reference
  pub held : new.held ≡ old.held ++ flat_map solution_line ps
  pub free : new.free ≡ drop (length (flat_map solution_line ps)) old.free
  pub fits : length (flat_map solution_line ps) ≤ length old.free
  pub short : length (flat_map solution_line ps) ≤ length ps * most_of_line
  pub counted : new.solutions ≡ old.solutions + length ps
  pub same_most : new.most ≡ old.most
  pub first : new.first ≡ first_of old.first ps
  pub same_room : new.too_small ≡ old.too_small

pub took_none : (a : LinesState) → Took [] a a
took_none a = record {
  same_reference = refl;
  held = sym (append-nil a.held);
  free = sym (all_left a.free);
  fits = omega arith;
  short = omega arith;
  counted = omega arith;
  same_most = refl;
  first = refl;
  same_room = refl;
}

took_more : (p : List Turn) (ps : List (List Turn)) (a m b : LinesState) → Takes p a m → Took ps m b → Took (p ∷ ps) a b
took_more p ps a m b t w =
    let line = solution_line p in
    let rest = flat_map solution_line ps in
    let all : length (line ++ rest) ≡ length line + length rest = length-append line rest in
    record {
      same_reference = w.same_reference ∙ t.same_reference;
      held = w.held ∙ ap (λ v. v ++ rest) t.held ∙ append_assoc a.held line rest;
      free = w.free ∙ ap (λ v. drop (length rest) v) t.free ∙ drop-drop (length rest) (length line) a.free ∙ ap (λ k. drop k a.free) (sym all);
      fits = omega (arith, all, t.fits, w.fits, ap (length {A = ℕ}) t.free, length-drop (length line) a.free);
      short = omega (arith, all, t.short, w.short);
      counted = omega (arith, w.counted, t.counted);
      same_most = w.same_most ∙ t.same_most;
      first = w.first ∙ ap (λ o. first_of o ps) t.first ∙ first_of-more a.first p ps;
      same_room = w.same_room ∙ t.same_room;
    }

abbrev pub state_of : SolutionLines → LinesState
state_of l = lines_state l.bytes.now l.bytes.ghost_name l.written l.solutions l.most l.first l.too_small

abbrev pub TakesPath : SolutionLines → List Turn → SolutionLines → Type 0
TakesPath old turns new = Takes turns (state_of old) (state_of new)

abbrev pub RefusesPath : SolutionLines → List Turn → SolutionLines → Type 0
RefusesPath old turns new = Refuses turns (state_of old) (state_of new)

pub went : (ps : List (List Turn)) (a b : SolutionLines) → WentThrough TakesPath a ps b → Took ps (state_of a) (state_of b)
went [] a b h = subst (λ k. Took [] (state_of a) (state_of k)) h (took_none (state_of a))
went (p ∷ ps) a b h = took_more p ps (state_of a) (state_of h.0) (state_of b) h.1.0 (went ps h.0 b h.1.1)

-- Some of the first solutions were written, and the next one was refused.
pub record Stopped (ps : List (List Turn)) (old new : LinesState) : Type 0 where
  pub count : ℕ
  pub next : List Turn
  pub within : count < length ps
  pub line : first_lines (suc count) ps ≡ first_lines count ps ++ solution_line next
  pub between : LinesState
  pub took : Took (take count ps) old between
  pub refused : Refuses next between new
  pub first : new.first ≡ first_of old.first ps

stopped_here : (p : List Turn) (ps : List (List Turn)) (a b : LinesState) → Refuses p a b → Stopped (p ∷ ps) a b
stopped_here p ps a b r = record {
  count = 0;
  next = p;
  within = omega arith;
  line = ap (λ (q : List (List Turn)). solution_line p ++ flat_map solution_line q) (none ps) ∙ append-nil (solution_line p);
  between = a;
  took = took_none a;
  refused = r;
  first = r.first;
} where
  none : (ps : List (List Turn)) → take 0 ps ≡ []
  none [] = refl
  none (q ∷ qs) = refl

stopped_later : (p : List Turn) (ps : List (List Turn)) (a m b : LinesState) → Takes p a m → Stopped ps m b → Stopped (p ∷ ps) a b
stopped_later p ps a m b t s = record {
  count = suc s.count;
  next = s.next;
  within = omega (arith, s.within);
  line = ap (λ v. solution_line p ++ v) s.line ∙ sym (append_assoc (solution_line p) (first_lines s.count ps) (solution_line s.next));
  between = s.between;
  took = took_more p (take s.count ps) a m s.between t s.took;
  refused = s.refused;
  first = s.first ∙ ap (λ o. first_of o ps) t.first ∙ first_of-more a.first p ps;
}

pub stop : (ps : List (List Turn)) (a b : SolutionLines) → StoppedIn TakesPath RefusesPath a ps b → Stopped ps (state_of a) (state_of b)
stop [] a b h = absurd h
stop (p ∷ ps) a b (inl h) = stopped_here p ps (state_of a) (state_of b) h
stop (p ∷ ps) a b (inr h) = stopped_later p ps (state_of a) (state_of h.0) (state_of b) h.1.0 (stop ps h.0 b h.1.1)

-- Some of the first solutions were written, and no other came.
pub record Into (ps : List (List Turn)) (old new : LinesState) : Type 0 where
  pub count : ℕ
  pub within : count ≤ length ps
  pub took : Took (take count ps) old new

pub into : (ps : List (List Turn)) (a b : SolutionLines) → WentInto TakesPath a ps b → Into ps (state_of a) (state_of b)
into [] a b h = record { count = 0; within = omega arith; took = subst (λ k. Took [] (state_of a) (state_of k)) h (took_none (state_of a)) }
into (p ∷ ps) a b (inl h) = record { count = 0; within = omega arith; took = subst (λ k. Took [] (state_of a) (state_of k)) h (took_none (state_of a)) }
into (p ∷ ps) a b (inr h) =
    let r = into ps h.0 b h.1.1 in
    record { count = suc r.count; within = omega (arith, r.within); took = took_more p (take r.count ps) (state_of a) (state_of h.0) (state_of b) h.1.0 r.took }
