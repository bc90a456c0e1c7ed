use Rattle.std.proofs.Common.{◌+◌, sym, ◌∙◌}
use Rattle.std.specs.Prelude.{nat_le}
use Rattle.scenarios.specs.Placed.{real_end}
use Rattle.metrics.specs.Days.{from_day}
use Rattle.metrics.proofs.Falls.{before-append, both_fit}
use Rattle.metrics.proofs.days.Days.merge.Goals as goal

pub merge_falls-requires-clause-fits : goal.merge_falls-requires-clause-fits
merge_falls-requires-clause-fits g c = rw (c.as_slice.ensures.value, c.as_slice-2.ensures.value) (both_fit (λ p. p.start) c.requires.0 c.requires.1 c.args.self.now.starts.items c.args.other.now.starts.items c.requires.2 (c.requires.3.at_starts 0) (c.requires.4.at_starts 0))

pub merge_falls-requires-2-clause-fits : goal.merge_falls-requires-2-clause-fits
merge_falls-requires-2-clause-fits g c = rw (c.as_slice-3.ensures.value, c.as_slice-4.ensures.value) (both_fit real_end c.requires.0 c.requires.1 c.args.self.now.ends.items c.args.other.now.ends.items c.requires.2 (c.requires.3.at_ends 0) (c.requires.4.at_ends 0))

pub returns : goal.returns
returns g c = λ ps qs h k. record {
  starts_list = c.in_ok-starts.ensures.list;
  ends_list = c.in_ok-ends.ensures.list;
  at_starts = λ d. c.in_ok-starts.ensures.sums (nat_le d) ∙ (λ i. from_day d (c.as_slice.ensures.value i) + from_day d (c.as_slice-2.ensures.value i)) ∙ (λ i. h.at_starts d i + k.at_starts d i) ∙ sym (before-append (λ p. p.start) d ps qs);
  at_ends = λ d. c.in_ok-ends.ensures.sums (nat_le d) ∙ (λ i. from_day d (c.as_slice-3.ensures.value i) + from_day d (c.as_slice-4.ensures.value i)) ∙ (λ i. h.at_ends d i + k.at_ends d i) ∙ sym (before-append real_end d ps qs);
}
