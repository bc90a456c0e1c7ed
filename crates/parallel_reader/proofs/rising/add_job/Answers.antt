use Rattle.std.proofs.Common.{sym, refl, []}
use Rattle.swf_text.specs.Packed.{unpacked}
use Rattle.swf_text.proofs.Lemmas.{entry_sound}
use Rattle.parallel_reader.proofs.rising.add_job.Goals as goal

pub of_packed-requires : goal.of_packed-requires
of_packed-requires g c = entry_sound (unpacked c.args.job.now) [] c.in_ok-number.number c.job_number.ensures.values (sym c.in_ok-number.ensures.number) c.in_ok-number.ensures.limit (sym c.if-is_before_start.ensures.submit) c.if-is_before_start.ensures.limit (sym c.if-is_partial.ensures) refl
