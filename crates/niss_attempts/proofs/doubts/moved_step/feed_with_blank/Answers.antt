use Rattle.std.proofs.Common.{◌∷◌, [], ℕ, List, map, subst, append_assoc}
use Rattle.niss_moves.specs.Reader.{IsFed}
use Rattle.niss_attempts.specs.Parts.{read_byte}
use Rattle.niss_attempts.specs.declared.steps.reading.Reading.TheVariants.{AsWritten}
use Rattle.niss_attempts.proofs.doubts.moved_step.feed_with_blank.Goals as goal

pub returns-clause-bytes : goal.returns-clause-bytes
returns-clause-bytes c front fed =
    subst (λ (bytes : List ℕ). IsFed c.feed_all.new.self bytes) (append_assoc front (map (read_byte AsWritten) c.args.steps.now) (32 ∷ []))
    (c.feed_all.ensures.bytes _ (c.feed.ensures.bytes front fed))
