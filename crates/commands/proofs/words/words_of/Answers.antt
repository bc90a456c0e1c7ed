use Rattle.std.proofs.Common.{map, sym, ◌∙◌, arith, false-eqb}
use Rattle.std.proofs.lemmas.Bool.{eqb-true}
use Rattle.std.proofs.lemmas.List.{map-append, length-map}
use Rattle.commands.proofs.LineWords.{words_next, words_end, words_full}
use Rattle.commands.proofs.words.words_of.Goals as goal

pub returns-then-is_empty : goal.returns-then-is_empty
returns-then-is_empty c = words_end (map (λ w. w.now) c.loop-rest.words.items) c.loop-rest.rest.now _ c.args.bytes.now c.loop-rest.invariant c.next_word.ensures.word (eqb-true _ 0 (sym c.if-is_empty.ensures)) (omega (arith, length-map c.loop-rest.words.items (λ w. w.now), c.is_full.ensures.fits))

pub loop-rest-preserved : goal.loop-rest-preserved
loop-rest-preserved c = rw (c.push.ensures.items, map-append) (words_next (map (λ w. w.now) c.loop-rest.words.items) c.loop-rest.rest.now _ _ c.args.bytes.now c.loop-rest.invariant c.next_word.ensures.word c.next_word.ensures.rest (omega (arith, false-eqb _ 0 c.if-is_empty.ensures)))

pub returns : goal.returns
returns c = words_full (map (λ w. w.now) c.loop-rest.words.items) c.loop-rest.rest.now c.args.bytes.now c.loop-rest.invariant (length-map c.loop-rest.words.items (λ w. w.now) ∙ eqb-true _ 20 (sym c.loop-rest-test.ensures.value))
