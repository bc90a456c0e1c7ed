use Rattle.std.proofs.Common.{refl, sym, ◌∙◌, arith}
use Rattle.easybook.proofs.Cuts.{passed, cut_found, cut_last, none_last}
use Rattle.easybook.proofs.Unmarked.{none-behind}
use Rattle.easybook.proofs.split.split_input.Goals as goal

pub returns-in_default : goal.returns-in_default
returns-in_default c = (refl, none-behind c.args.input.now c.lines.at _ c.lines.invariant.whole refl c.in_default.ensures)

pub returns-then-is_mark : goal.returns-then-is_mark
returns-then-is_mark c = cut_last c.args.input.now c.lines.at _ c.lines-test.true c.lines.invariant.whole refl c.in_default-memchr.ensures (sym c.is_mark.ensures ∙ c.if-is_mark.true)

pub returns-in_default-memchr : goal.returns-in_default-memchr
returns-in_default-memchr c = (refl, none_last c.args.input.now c.lines.at _ c.lines-test.true c.lines.invariant.whole refl c.in_default-memchr.ensures (sym c.is_mark.ensures ∙ c.if-is_mark.false))

pub returns-then-is_mark-2 : goal.returns-then-is_mark-2
returns-then-is_mark-2 c = cut_found c.args.input.now c.lines.at _ c.in-Some-memchr.end c.lines.invariant.whole refl c.in-Some-memchr.ensures (sym c.is_mark-in-lines.ensures ∙ c.if-is_mark-2.true)

pub lines-preserved : goal.lines-preserved
lines-preserved c = record {
  within = omega (arith, c.in-Some-memchr.ensures.0.high);
  whole = passed c.args.input.now c.lines.at _ c.in-Some-memchr.end c.lines.invariant.whole refl c.in-Some-memchr.ensures (sym c.is_mark-in-lines.ensures ∙ c.if-is_mark-2.false);
}
