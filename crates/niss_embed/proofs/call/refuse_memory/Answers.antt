use Rattle.std.proofs.Common.{arith}
use Rattle.niss_embed.proofs.TargetLemmas.{puts_nothing, puts_text, has_room}
use Rattle.niss_embed.proofs.call.refuse_memory.Goals as goal

pub returns : goal.returns
returns c =
    let put = c.put-err_length.ensures in
    let error = puts_text c.args.err.now _ _ c.put-err_length.result put.bound put.fits put.most put.written put.left put.same_length in
    record {
      answers = record {
        output = puts_nothing c.args.out.now;
        error = error;
        room = has_room error (omega arith);
        status = c.number.ensures;
      };
    }
