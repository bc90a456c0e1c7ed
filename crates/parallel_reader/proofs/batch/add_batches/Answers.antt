use Rattle.std.proofs.Common.{◌≡◌, ◌+◌, [], ◌++◌, List, ℕ, Bor, length, refl, sym, ap, ◌∙◌, arith, false-eqb, Ok}
use Rattle.std.proofs.lemmas.Bool.{eqb-true}
use Rattle.std.proofs.lemmas.List.{length-append, length-map}
use Rattle.swf_text.specs.Text.{lines}
use Rattle.parallel_reader.specs.Adding.{texts, read_texts}
use Rattle.parallel_reader.proofs.Adding.{left_over, reached_first, batch_refused, batch_reached, batch_added, batch_split, adds_same, smaller, none_left, none_added, some_left}
use Rattle.parallel_reader.proofs.batch.add_batches.Goals as goal

pub batches-init : goal.batches-init
batches-init g c =
    let none = c.new-ready.ensures.lines in
    record {
      front = [];
      whole = ap (λ (ls : List (Bor (List ℕ))). texts ls ++ lines c.args.bytes.now) (sym none);
      place = omega arith;
      done = none_added _ _ ∙ ap Ok (sym c.reserve-refused.ensures);
      read = c.new-ready.ensures.readings ∙ ap read_texts (sym none);
      within = omega (arith, ap length none);
    }

pub returns-in_default : goal.returns-in_default
returns-in_default g c =
    let h = c.batches.invariant in
    let some = some_left c.batches.ready.lines.items c.batches.rest.now (omega (arith, false-eqb _ 0 c.batches-test.ensures)) in
    (tt, reached_first (c.args.count + 1) c.args.text.now (lines c.args.bytes.now) (omega (arith, ap length h.whole, length-append h.front (texts c.batches.ready.lines.items ++ lines c.batches.rest.now), some)))

pub returns-in_err-read_beside : goal.returns-in_err-read_beside
returns-in_err-read_beside g c =
    let h = c.batches.invariant in
    let fault = c.in_err-read_beside.field-0.0 in
    let first = c.args.count + 1 in
    let ready = texts c.batches.ready.lines.items in
    let rest = lines c.batches.rest.now in
    adds_same c.from_residual.result fault first c.args.text.now (lines c.args.bytes.now) _ c.from_residual.ensures.1
    (batch_refused first c.args.text.now (lines c.args.bytes.now) h.front (ready ++ rest) c.batches.text c.batches.line h.whole h.place h.done ready rest refl fault c.in_err-read_beside.ensures.added.0)
    (batch_reached first c.args.text.now (lines c.args.bytes.now) h.front (ready ++ rest) c.batches.text c.batches.line h.whole h.place h.done ready rest refl fault.line c.in_err-read_beside.ensures.added.1)

pub batches-smaller : goal.batches-smaller
batches-smaller g c =
    let taken = ap (λ b. b.lines.items) c.swap.ensures.x_after ∙ c.read_beside.ensures.lines in
    let less = smaller (length c.batches.rest.now) (length c.batches.ready.lines.items) (length c.take.new.self.lines.items) (length c.in-Ok.after.now) c.in-Ok.ensures.count c.in-Ok.ensures.some (omega (arith, false-eqb _ 0 c.batches-test.ensures)) in
    omega (arith, less, ap length taken)

pub batches-preserved : goal.batches-preserved
batches-preserved g c =
    let h = c.batches.invariant in
    let first = c.args.count + 1 in
    let ready = c.batches.ready.lines.items in
    let rest = lines c.batches.rest.now in
    let taken = ap (λ b. b.lines.items) c.swap.ensures.x_after ∙ c.read_beside.ensures.lines in
    let split : rest ≡ texts c.swap.new.x.lines.items ++ lines c.in-Ok.after.now = sym c.in-Ok.ensures.lines ∙ ap (λ (ls : List (Bor (List ℕ))). texts ls ++ lines c.in-Ok.after.now) (sym taken) in
    record {
      front = h.front ++ texts ready;
      whole =
          batch_split first c.args.text.now (lines c.args.bytes.now) h.front (texts ready ++ rest) c.batches.text c.batches.line h.whole h.place h.done (texts ready) rest refl
          ∙ ap (λ (ls : List (List ℕ)). (h.front ++ texts ready) ++ ls) split;
      place = omega (arith, h.place, c.count-line.ensures, length-append h.front (texts ready), length-map ready (λ l. l.now));
      done = batch_added first c.args.text.now (lines c.args.bytes.now) h.front (texts ready ++ rest) c.batches.text c.batches.line h.whole h.place h.done (texts ready) rest refl c.read_beside.new.text c.in_ok-read_beside.ensures.added;
      read = ap (λ b. b.readings.items) c.swap.ensures.x_after ∙ c.read_beside.ensures.read ∙ ap read_texts (sym taken);
      within = omega (arith, h.within, c.count-line.ensures, c.in-Ok.ensures.count, ap length taken);
    }

pub returns : goal.returns
returns g c =
    let h = c.batches.invariant in
    let ready = c.batches.ready.lines.items in
    let rest = c.batches.rest.now in
    left_over (c.args.count + 1) c.args.text.now (lines c.args.bytes.now) h.front (texts ready ++ lines rest) c.batches.text c.batches.line h.whole h.place h.done
    ∙ none_left c.batches.line c.batches.text ready rest (eqb-true _ 0 (sym c.batches-test.ensures))
