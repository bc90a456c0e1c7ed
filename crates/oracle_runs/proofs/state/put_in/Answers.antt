use Rattle.std.proofs.Common.{sym}
use Rattle.cluster_state.proofs.Lemmas.{placed-position}
use Rattle.oracle_runs.proofs.state.put_in.Goals as goal

pub returns-clause-ok : goal.returns-clause-ok
returns-clause-ok g c =
    rw (c.in_ok-insert.ensures.items, c.unwrap_or-place.ensures, c.place_before.ensures, c.number.ensures.value, c.job.ensures, c.len.ensures, ← c.deref.ensures.len, c.deref.ensures.value) (sym (placed-position c.args.r c.args.running.now.items))
