use Rattle.std.proofs.Common.{◌≡◌, ℕ, List, Vec, Ok, Err, map, take, length, sym, ap, subst, ◌∙◌, arith}
use Rattle.swf_text.specs.Entry.{LogEntry}
use Rattle.parallel_reader.specs.Fronts.{IsFront, Progress}
use Rattle.parallel_reader.specs.Jobs.{Below}
use Rattle.parallel_reader.proofs.Fronts.{batches_reading, lines_few, memory_reading, one_reading, rising_log, rising_reading}
use Rattle.parallel_reader.proofs.Jobs.{cut_back}
use Rattle.parallel_reader.proofs.front.LogFront.read_behind.Goals as goal

pub returns-then-is_for_one : goal.returns-then-is_for_one
returns-then-is_for_one g c = λ front is.
    one_reading front c.args.bytes.now c.args.self c.read_swf.result is (sym (ap (λ (p : Progress). p.bytes) c.self.view_is) ∙ c.if-self-eq0.true) (record {
      text = c.read_swf.ensures.text;
      only = c.read_swf.ensures.only;
      fault = c.read_swf.ensures.fault;
      reached = c.read_swf.ensures.reached;
      comments = c.read_swf.ensures.comments;
    })

pub of_parts-requires : goal.of_parts-requires
of_parts-requires g c =
    let r = c.requires.front in
    rising_log r.0 c.args.bytes.now _ c.add_lines.new.entries.items (subst (IsFront r.0) (sym c.front.view_is) r.1) c.in-Some.ensures.added

pub returns-in-Some : goal.returns-in-Some
returns-in-Some g c = λ front is.
    rising_reading front c.args.bytes.now _ c.of_parts.result c.add_lines.new.entries.items (subst (IsFront front) (sym c.front.view_is) is) c.in-Some.ensures.added c.of_parts.ensures.comments c.of_parts.ensures.entries

pub invariant_of-front : goal.invariant_of-front
invariant_of-front g c =
    let count : c.len-count.result ≡ length c.front.inside.entries.items = omega (arith, c.len-count.ensures, c.front.inside.entries.ok.0) in
    let same : c.truncate.new.self.items ≡ c.front.inside.entries.items = c.truncate.ensures.items ∙ ap (λ (n : ℕ). take n c.add_lines.new.entries.items) count ∙ cut_back c.front.inside.entries.items c.add_lines.new.entries.items c.add_lines.ensures.kept in
    record {
      below = subst (Below c.front.inside.next) (sym same) c.front.invariant.below;
      within = omega (arith, c.front.invariant.within, ap length same);
      head = c.front.invariant.head ∙ ap (λ (es : List LogEntry). Ok (record { comments = map (λ (v : Vec ℕ g.row.A.Denot). v.items) c.front.inside.comments.items; entries = take c.front.inside.headed es })) (sym same);
    }

pub returns-in_default : goal.returns-in_default
returns-in_default g c = λ front is. memory_reading front c.args.bytes.now c.in-None.ensures.some

pub add_batches-requires-after_bounds : goal.add_batches-requires-after_bounds
add_batches-requires-after_bounds g c κs within =
    let r = c.requires.front in
    let view = c.front.view_is in
    omega (arith, c.requires.size, r.1.counted, r.1.size, lines_few r.0, ap (λ (p : Progress). p.lines) view)

pub returns-in-Ok : goal.returns-in-Ok
returns-in-Ok g c = λ front is.
    let here = subst (IsFront front) (sym c.front.view_is) is in
    let count : c.len-count.result ≡ length c.front.inside.entries.items = omega (arith, c.len-count.ensures, c.front.inside.entries.ok.0) in
    let same : c.truncate.new.self.items ≡ c.front.inside.entries.items = c.truncate.ensures.items ∙ ap (λ (n : ℕ). take n c.add_lines.new.entries.items) count ∙ cut_back c.front.inside.entries.items c.add_lines.new.entries.items c.add_lines.ensures.kept in
    let text = c.in-Some-builder.ensures ∙ ap (λ (es : List LogEntry). record { comments = map (λ (v : Vec ℕ g.row.A.Denot). v.items) c.front.inside.comments.items; entries = es }) same in
    batches_reading front c.args.bytes.now _ c.in-Some-builder.text (Ok c.finish.result) here text (c.in-Ok.ensures ∙ ap Ok (sym c.finish.ensures)) tt

pub returns : goal.returns
returns g c = λ front is.
    let here = subst (IsFront front) (sym c.front.view_is) is in
    let count : c.len-count.result ≡ length c.front.inside.entries.items = omega (arith, c.len-count.ensures, c.front.inside.entries.ok.0) in
    let same : c.truncate.new.self.items ≡ c.front.inside.entries.items = c.truncate.ensures.items ∙ ap (λ (n : ℕ). take n c.add_lines.new.entries.items) count ∙ cut_back c.front.inside.entries.items c.add_lines.new.entries.items c.add_lines.ensures.kept in
    let text = c.in-Some-builder.ensures ∙ ap (λ (es : List LogEntry). record { comments = map (λ (v : Vec ℕ g.row.A.Denot). v.items) c.front.inside.comments.items; entries = es }) same in
    batches_reading front c.args.bytes.now _ c.in-Some-builder.text (Err c.in-Err.fault) here text c.in-Err.ensures.0 c.in-Err.ensures.1
