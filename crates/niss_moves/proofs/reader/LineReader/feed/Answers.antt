use Rattle.niss_moves.proofs.Names.{ap, sym, subst, Reader, IsFed}
use Rattle.niss_moves.proofs.ReaderLemmas.{IsAnswered, reader, fed_on, fed_again, is_fed_on, answer_means}
use Rattle.niss_moves.proofs.reader.LineReader.feed.Goals.{in-Some, in-None}
use Rattle.niss_moves.proofs.reader.LineReader.feed.Goals as goal

-- what the fields are after the byte
on : (c : goal.After-self-1) → IsAnswered (reader c.self.inside.fault c.self.inside.line) c.args.byte (reader c.err-self-inside.result c.match-self.self-inside.line) c.match-self.taken
on c =
    elim c.match-self.branch [
      | in-Some w ↦ fed_again _ _ _ _ w.skip.new.self _ _ w.in-Some.fault w.in-Some.is (ap (λ s. s.fed) w.skip.ensures) w.taken-is c.err-self-inside.ensures.value (ap (λ r. r.line) w.self-inside-is)
      | in-None w ↦ fed_on _ _ _ _ w.step-taken.new.self _ _ w.step-taken.result w.in-None.is w.step-taken.ensures.steps w.step-taken.ensures.fed w.taken-is c.err-self-inside.ensures.value (ap (λ r. r.line) w.self-inside-is)
    ]

pub returns-clause-bytes : goal.returns-clause-bytes
returns-clause-bytes c bytes h =
    is_fed_on _ _ _ bytes (on c).on (subst (λ (r : Reader). IsFed r bytes) (sym c.self.view_is) h)

pub returns-clause-taken : goal.returns-clause-taken
returns-clause-taken c bytes h = (answer_means _ _ _ (on c).answered (returns-clause-bytes c bytes h)).0

pub returns-clause-fault : goal.returns-clause-fault
returns-clause-fault c bytes h = (answer_means _ _ _ (on c).answered (returns-clause-bytes c bytes h)).1
