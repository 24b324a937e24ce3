-- From where one stands after two lines to what the calls on both leave and tell.
use Rattle.std.proofs.Common.{◌≡◌, ◌⊎◌, inl, inr, ℕ, ◌≤◌, Bool, true, false, if◌then◌else◌, Result, Ok, Err, List, length, min, refl, ap, ◌∙◌, subst, sym}
use Rattle.niss_ways.specs.Rooms.{Grows}
use Rattle.niss_ways.specs.Truth.{Origin}
use Rattle.niss_ways.specs.declared.finding.FoundWays.{FoundWays}
use Rattle.niss_ways.specs.declared.way.Way.{Way}
use Rattle.niss_embed.specs.BestWays.{FindsWays, FindsAfter, Tells, nowhere_answer}
use Rattle.niss_embed.specs.TwoLines.{Both, StartsAfter}
use Rattle.niss_embed.specs.BestWays.{WritesTurns, WritesLineAfter, unwritten_line}
use Rattle.niss_embed.specs.Memory.{Memory}
use Rattle.niss_lines.specs.LineCalls.{status_number}
use Rattle.niss_lines.specs.declared.answer.Status.TheVariants.{Done, Cut}
use Rattle.niss_embed.specs.declared.two_lines.ways_answer.LineAfterAnswer.{LineAfterAnswer}
use Rattle.niss_embed.specs.declared.two_lines.Nowhere.{Nowhere}
use Rattle.niss_embed.specs.declared.two_lines.ways_answer.WaysAnswer.{WaysAnswer}
use Rattle.niss_embed.specs.declared.two_lines.ways_answer.WaysWanted.{WaysWanted}

by_cut : (b : Bool) (n : ℕ) → n ≡ (if b then status_number Cut else status_number Done) → (n ≡ status_number Done) ⊎ (n ≡ status_number Cut)
by_cut true n e = inr e
by_cut false n e = inl e

finds : (o : Origin) (w : WaysWanted) (room room_now : List Way) (found : FoundWays) (told : WaysAnswer)
    → Grows o (min w.there (length room)) room found.rows room_now → found.looks ≤ w.most_nodes → Tells found told → FindsWays o w room room_now told
finds o w room room_now found told grows looks tells = record {
  grows = subst (λ (n : ℕ). Grows o (min w.there (length room)) room n room_now) (sym tells.rows) grows;
  looked = subst (λ (n : ℕ). n ≤ w.most_nodes) (sym tells.nodes) looks;
  ended = by_cut found.cut told.status tells.status;
  no_fault = tells.no_fault;
  no_line = tells.no_line;
  no_column = tells.no_column;
}

after : (lines : Result Both Nowhere) (o : Origin) (w : WaysWanted) (room room_now : List Way) (told : WaysAnswer) → StartsAfter lines (Ok o)
    → FindsWays o w room room_now told → FindsAfter lines w room room_now told
after (Ok lines) o w room room_now told stands is = inr (o, stands, is)
after (Err why) o w room room_now told stands is = absurd stands

-- what is asked is in range, so the search does what it is to do, or there is no cube to begin at
pub found_after : (lines : Result Both Nowhere) (o : Origin) (w : WaysWanted) (room room_now : List Way) (found : FoundWays) (told : WaysAnswer)
    → StartsAfter lines (Ok o) → Grows o (min w.there (length room)) room found.rows room_now → found.looks ≤ w.most_nodes → Tells found told
    → FindsAfter lines w room room_now told
found_after lines o w room room_now found told stands grows looks tells =
    after lines o w room room_now told stands (finds o w room room_now found told grows looks tells)

pub not_found : (lines : Result Both Nowhere) (why : Nowhere) (w : WaysWanted) (room : List Way) (told : WaysAnswer) → StartsAfter lines (Err why)
    → told ≡ nowhere_answer why → FindsAfter lines w room room told
not_found (Ok lines) why w room told stands is = inl (stands.1, record { same = refl; told_is = is ∙ ap nowhere_answer stands.0 })
not_found (Err due) why w room told stands is = record { same = refl; told_is = is ∙ ap nowhere_answer stands }

-- the line of where one stands is written, or there is none
pub line_written : (lines : Result Both Nowhere) (o : Origin) (out : Memory) (told : LineAfterAnswer) → StartsAfter lines (Ok o)
    → WritesTurns o.line out told → WritesLineAfter lines out told
line_written (Ok lines) o out told stands is = inr (o, stands, is)
line_written (Err why) o out told stands is = absurd stands

pub line_not_written : (lines : Result Both Nowhere) (why : Nowhere) (out : Memory) (told : LineAfterAnswer) → StartsAfter lines (Err why)
    → told ≡ unwritten_line why → out.after ≡ out.before → WritesLineAfter lines out told
line_not_written (Ok lines) why out told stands is same = inl (stands.1, (is ∙ ap unwritten_line stands.0), same)
line_not_written (Err due) why out told stands is same = (is ∙ ap unwritten_line stands, same)
