use Rattle.std.proofs.Common.{arith}
use Rattle.swf_text.proofs.Writings.{fields_within}
use Rattle.swf_text.proofs.writer.line_text.Goals as goal

pub returns-clause-fields : goal.returns-clause-fields
returns-clause-fields c = fields_within c.args.fields.now.0 c.split_at.result.1.now c.loop-value.value-index (omega (arith, c.split_at.ensures.front_len, c.split_at.ensures.back_len)) c.loop-value.invariant.rest (omega arith) c.loop-value.invariant.first c.loop-value.invariant.within
