use Rattle.std.proofs.Common.{◌<◌, [], ◌++◌, length, refl, arith, false-eqb}
use Rattle.swf_text.specs.Text.{lines}
use Rattle.parallel_reader.proofs.Jobs.{all_none, extends_none, extends_then, portion_behind}
use Rattle.parallel_reader.proofs.rising.add_lines.Goals as goal

pub portions-init : goal.portions-init
portions-init g c = record {
  front = [];
  whole = refl;
  within = omega arith;
  kept = extends_none c.args.entries.now.items;
  below = c.requires;
  added = all_none c.args.entries.now.items;
}

pub portions-preserved : goal.portions-preserved
portions-preserved g c =
    let h = c.portions.invariant in
    let some : 0 < length c.portions.rest.now = omega (arith, false-eqb _ 0 c.portions-test.ensures) in
    let ls = lines c.split_portion.result.0.now in
    let both =
    portion_behind c.args.entries.now.items c.portions.entries.items c.add_portion.new.entries.items (lines c.args.bytes.now) h.front ls c.portions.rest.now h.whole h.added (c.in_ok-next.ensures.added ls c.read.ensures) c.split_portion.result.1.now
    c.split_portion.ensures.lines in
    record {
      front = h.front ++ ls;
      whole = both.0;
      within = omega (arith, h.within, c.split_portion.ensures.less some);
      kept = extends_then c.args.entries.now.items c.portions.entries.items c.add_portion.new.entries.items h.kept c.add_portion.ensures.kept;
      below = c.in_ok-next.ensures.below;
      added = both.1;
    }
