use Rattle.std.proofs.Common.{◌≡◌, ◌<◌, ◌+◌, set, ◌∷◌, ◌++◌, [], List, ℕ, length, map, take, ap, refl, subst, sym, ◌∙◌, arith, false-eqb, length-set}
use Rattle.std.specs.List.{before_first}
use Rattle.swf_text.specs.Text.{is_feed}
use Rattle.std.proofs.lemmas.List.{take_more_set, map-append, length-append}
use Rattle.swf_text.proofs.Lemmas.{after-shorter}
use Rattle.swf_text.specs.declared.packed.PackedLine.{PackedLine}
use Rattle.parallel_reader.specs.Jobs.{AreJobs, job_of}
use Rattle.parallel_reader.proofs.Jobs.{line_taken, blank_more, job_line_more}
use Rattle.parallel_reader.proofs.portion.read_jobs.Goals as goal

pub lines-preserved-else-count-jobs : goal.lines-preserved-else-count-jobs
lines-preserved-else-count-jobs c =
    let h = c.lines.invariant in
    let some : 0 < length c.lines.rest.now = omega (arith, false-eqb _ 0 c.lines-test.ensures) in
    let line : List ℕ = c.split_line.result.0.now in
    let job : PackedLine = c.in-Some-packed_line.job in
    let jobs : List PackedLine = c.read_front.new.jobs in
    let written : map job_of (take (c.lines.count + 1) (set jobs c.lines.count job)) ≡ map job_of (take c.lines.count c.lines.jobs) ++ job_of job ∷ [] =
    ap (map job_of) (take_more_set jobs c.lines.count job (omega arith) ∙ ap (λ (ps : List PackedLine). ps ++ job ∷ []) c.read_front.ensures.kept) ∙ map-append job_of (take c.lines.count c.lines.jobs) (job ∷ []) in
    record {
      front = h.front ++ line ∷ [];
      whole = line_taken _ h.front c.lines.rest.now line c.split_line.result.1.now some c.split_line.ensures.line c.split_line.ensures.rest h.whole;
      read = subst (AreJobs (h.front ++ line ∷ [])) (sym written) (job_line_more h.front line (map job_of (take c.lines.count c.lines.jobs)) (job_of job) h.read c.in-Some-packed_line.ensures);
      within = omega (arith, length-set {A = PackedLine});
      same = omega (arith, h.same, c.read_front.ensures.same, length-set {A = PackedLine});
      counted = omega (arith, h.counted, length-append h.front (line ∷ []));
      bound = omega (arith, h.bound, ap length c.split_line.ensures.rest, after-shorter c.lines.rest.now some);
    }

pub lines-preserved : goal.lines-preserved
lines-preserved c =
    let h = c.lines.invariant in
    let some : 0 < length c.lines.rest.now = omega (arith, false-eqb _ 0 c.lines-test.ensures) in
    record {
      front = h.front ++ c.split_line.result.0.now ∷ [];
      whole = line_taken _ h.front c.lines.rest.now c.split_line.result.0.now c.split_line.result.1.now some c.split_line.ensures.line c.split_line.ensures.rest h.whole;
      read = subst (λ (ps : List PackedLine). AreJobs (h.front ++ c.split_line.result.0.now ∷ []) (map job_of ps)) (sym c.read_front.ensures.kept)
          (blank_more h.front c.split_line.result.0.now (map job_of (take c.lines.count c.lines.jobs)) h.read (c.if-not-is_blank.ensures refl));
      within = omega (arith, h.within, c.read_front.ensures.same);
      same = omega (arith, h.same, c.read_front.ensures.same);
      counted = omega (arith, h.counted, length-append h.front (c.split_line.result.0.now ∷ []));
      bound = omega (arith, h.bound, ap length c.split_line.ensures.rest, after-shorter c.lines.rest.now some);
    }

pub lines-preserved-in-Some : goal.lines-preserved-in-Some
lines-preserved-in-Some c =
    let h = c.lines.invariant in
    let some : 0 < length c.lines.rest.now = omega (arith, false-eqb _ 0 c.lines-test.ensures) in
    let line : List ℕ = before_first is_feed c.lines.rest.now in
    let took = c.in-Some.ensures.line in
    let job : PackedLine = took.0 in
    let written : map job_of (take (c.lines.count + 1) c.read_front.new.jobs) ≡ map job_of (take c.lines.count c.lines.jobs) ++ job_of job ∷ [] =
    ap (map job_of) took.2 ∙ map-append job_of (take c.lines.count c.lines.jobs) (job ∷ []) in
    record {
      front = h.front ++ line ∷ [];
      whole = line_taken _ h.front c.lines.rest.now line c.in-Some.after.now some refl c.in-Some.ensures.rest h.whole;
      read = subst (AreJobs (h.front ++ line ∷ [])) (sym written) (job_line_more h.front line (map job_of (take c.lines.count c.lines.jobs)) (job_of job) h.read took.3);
      within = let l = took.1 in omega (arith, l);
      same = omega (arith, h.same, c.read_front.ensures.same);
      counted = omega (arith, h.counted, length-append h.front (line ∷ []));
      bound = omega (arith, h.bound, ap length c.in-Some.ensures.rest, after-shorter c.lines.rest.now some);
    }
