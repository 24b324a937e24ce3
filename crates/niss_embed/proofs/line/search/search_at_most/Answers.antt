use Rattle.niss_embed.proofs.line.search.search_at_most.Goals as goal

pub returns-clause-found : goal.returns-clause-found
returns-clause-found g c = λ e made here is. rw c.new-path.ensures at (c.search_within.ensures.found e made here is)
