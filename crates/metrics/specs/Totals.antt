-- Sums over all jobs.
use Rattle.std.specs.Prelude.{ℕ, ◌+◌, ◌^◌, ◌<◌, min, max, cond, List, [], ◌∷◌, length, sum_by, count_by, Option, Some, None}
use Rattle.scenarios.specs.declared.placed.Placed.{Placed}
use Rattle.metrics.specs.declared.totals.Totals.{Totals}
use Rattle.scenarios.specs.Placed.{real_end}
use Rattle.metrics.specs.Measures.{wait, slowdown, busy}

-- the greatest of a measure, 0 where there is no job
abbrev pub greatest : (Placed → ℕ) → List Placed → ℕ
greatest f [] = 0
greatest f (p ∷ ps) = max (f p) (greatest f ps)

-- the lesser of two numbers that may be missing
abbrev pub earlier_of : Option ℕ → Option ℕ → Option ℕ
earlier_of None b = b
earlier_of (Some a) None = Some a
earlier_of (Some a) (Some b) = Some (min a b)

-- the greater of two numbers that may be missing
abbrev pub later_of : Option ℕ → Option ℕ → Option ℕ
later_of None b = b
later_of (Some a) None = Some a
later_of (Some a) (Some b) = Some (max a b)

-- the least second of submission, none where there is no job
abbrev pub least_submit : List Placed → Option ℕ
least_submit [] = None
least_submit (p ∷ ps) = earlier_of (Some p.job.submit) (least_submit ps)

-- the greatest second of an end, none where there is no job
abbrev pub greatest_end : List Placed → Option ℕ
greatest_end [] = None
greatest_end (p ∷ ps) = later_of (Some (real_end p)) (greatest_end ps)

-- the sums over some jobs
abbrev pub totals : List Placed → Totals
totals ps = record {
  count = length ps;
  killed = count_by (λ p. p.job.killed) ps;
  wait = sum_by wait ps;
  length = sum_by (λ p. p.job.length) ps;
  slowdown = sum_by slowdown ps;
  busy = sum_by busy ps;
  greatest_wait = greatest wait ps;
  least_submit = least_submit ps;
  greatest_end = greatest_end ps;
}

abbrev pub no_totals : Totals
no_totals = record { count = 0; killed = 0; wait = 0; length = 0; slowdown = 0; busy = 0; greatest_wait = 0; least_submit = None; greatest_end = None }

-- the sums over one job
abbrev pub totals_alone : Placed → Totals
totals_alone p = record { count = 1; killed = cond p.job.killed 1 0; wait = wait p; length = p.job.length; slowdown = slowdown p; busy = busy p; greatest_wait = wait p; least_submit = Some p.job.submit; greatest_end = Some (real_end p) }

-- the sums over the jobs of both
abbrev pub joined : Totals → Totals → Totals
joined a b = record {
  count = a.count + b.count;
  killed = a.killed + b.killed;
  wait = a.wait + b.wait;
  length = a.length + b.length;
  slowdown = a.slowdown + b.slowdown;
  busy = a.busy + b.busy;
  greatest_wait = max a.greatest_wait b.greatest_wait;
  least_submit = earlier_of a.least_submit b.least_submit;
  greatest_end = later_of a.greatest_end b.greatest_end;
}

-- the sums of both fit their types
pub record FitsJoined (a b : Totals) : Type 0 where
  pub count : a.count + b.count < 2 ^ 64
  pub killed : a.killed + b.killed < 2 ^ 64
  pub wait : a.wait + b.wait < 2 ^ 128
  pub length : a.length + b.length < 2 ^ 128
  pub slowdown : a.slowdown + b.slowdown < 2 ^ 128
  pub busy : a.busy + b.busy < 2 ^ 128
