use Rattle.std.proofs.Common.{◌≡◌, ℕ, List, ◌++◌, map, subst, append_assoc}
use Rattle.niss_moves.specs.Reader.{Reader, IsFed}
use Rattle.niss_attempts.specs.declared.steps.reading.Reading.TheVariants.{WithoutBrackets}
use Rattle.niss_attempts.specs.Parts.{read_byte}
use Rattle.niss_attempts.proofs.steps.repeated.feed_times.Goals as goal

twice : (front bytes : List ℕ) (reader : Reader) → IsFed reader (front ++ bytes ++ bytes) → IsFed reader (front ++ (bytes ++ bytes))
twice front bytes reader fed =
    let same : front ++ bytes ++ bytes ≡ front ++ (bytes ++ bytes) = simp append_assoc in
    subst (IsFed reader) same fed

three_times : (front bytes : List ℕ) (reader : Reader) → IsFed reader (front ++ bytes ++ bytes ++ bytes) → IsFed reader (front ++ (bytes ++ bytes ++ bytes))
three_times front bytes reader fed =
    let same : front ++ bytes ++ bytes ++ bytes ≡ front ++ (bytes ++ bytes ++ bytes) = simp append_assoc in
    subst (IsFed reader) same fed

pub returns-then-thrice-clause-bytes : goal.returns-then-thrice-clause-bytes
returns-then-thrice-clause-bytes c front fed =
    rw c.if-thrice.true (three_times front (map (read_byte WithoutBrackets) c.args.step.now) c.feed-then-thrice.new.reader
    (c.feed-then-thrice.ensures.bytes _ (c.feed-2.ensures.bytes _ (c.feed.ensures.bytes front fed))))

pub returns-else-thrice-clause-bytes : goal.returns-else-thrice-clause-bytes
returns-else-thrice-clause-bytes c front fed =
    rw c.if-thrice.false (twice front (map (read_byte WithoutBrackets) c.args.step.now) c.feed-2.new.reader
    (c.feed-2.ensures.bytes _ (c.feed.ensures.bytes front fed)))
