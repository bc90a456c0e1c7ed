-- What crates above cite of these proofs, passed on from one place: the shadow time and what is available by a second, the job that starts next,
-- a backfill that keeps the shadow time, a decision where nobody is next, and all starts of one second. Declares nothing.
pub use Rattle.easy_rule.proofs.RuleLemmas.{back_by-le, back-le-busy, back-each, shadow_time-IsLeast, shadow_time-small, seen-more, seen-all, available-le}
pub use Rattle.easy_rule.proofs.NextLemmas.{Member, found-member, find-member, found-passes, next-facts, next-found, next-fits, decided-start, decided-stop, decisions-start, decisions-stop}
pub use Rattle.easy_rule.proofs.PassLemmas.{time-kept, find-none, none-passes, state_after-done, starts_at-done}
pub use Rattle.easy_rule.proofs.Decisions.{cases_option, decided-keeps, decided-done, nobody-waits, starts-now, outcome, next-later, arrivals-unsettle-nobody}
