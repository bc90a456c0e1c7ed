use Rattle.job_table.proofs.LogOrder.{log-is-rising, log-is-the-only-one}
use Rattle.job_table.proofs.laws.a_log_is_the_one_rising_arrangement.Goals as goal

pub returns-clause-rising : goal.returns-clause-rising
returns-clause-rising c = log-is-rising

pub returns-clause-only : goal.returns-clause-only
returns-clause-only c = log-is-the-only-one
