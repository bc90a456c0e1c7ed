use Rattle.std.proofs.Common.{sym, ◌∙◌}
use Rattle.commands.proofs.EntryWords.{job_value-is}
use Rattle.commands.proofs.values.job_value.Goals as goal

pub returns : goal.returns
returns c = c.value_of.ensures ∙ job_value-is c.args.word.now c.in_ok-number_between.field-0 (sym c.in_ok-number_between.ensures.value)
