use Rattle.std.proofs.Common.{sym, ◌∙◌, arith, refl, []}
use Rattle.swf_text.specs.Entry.{has_number}
use Rattle.swf_text.proofs.Entries.{entry_sound, any_same, log_kept}
use Rattle.swf_text.proofs.builder.Builder.add_job.Goals as goal

pub invariant_of-self : goal.invariant_of-self
invariant_of-self g c = record {
  log = log_kept c.self.inside.entries.items c.add_part.new.entries.items c.self.invariant.log c.add_part.ensures.sound c.add_part.ensures.count c.add_part.ensures.numbers;
  index = record { rise = c.self.invariant.index.rise; known = λ n. c.self.invariant.index.known n ∙ sym (any_same (has_number n) c.add_part.new.entries.items c.self.inside.entries.items (c.add_part.ensures.numbers n)) };
}

pub of_main-requires : goal.of_main-requires
of_main-requires g c = entry_sound c.args.job.0 [] c.in-Some.number (omega arith) (sym c.in-Some.ensures.value) c.in-Some.ensures.limit (sym c.if-is_before_start.ensures.value) c.if-is_before_start.ensures.limit (sym c.if-is_partial_line.ensures) refl
