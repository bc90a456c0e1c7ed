use Rattle.std.proofs.Common.{◌≡◌, ◌∷◌, ◌++◌, ◌+◌, ◌*◌, ◌-◌, List, ℕ, length, take, drop, ap, sym, ◌∙◌, arith}
use Rattle.std.proofs.lemmas.List.{take_all, length-drop, take-append-drop}
use Rattle.std.specs.List.{list_all}
use Rattle.std.specs.Char.{is_ascii_digit}
use Rattle.swf_text.specs.Number.{signed}
use Rattle.swf_text.proofs.Walks.{word_whole, word_point}
use Rattle.swf_text.proofs.walk.word_at.Goals as goal

pub returns-then-is_ended : goal.returns-then-is_ended
returns-then-is_ended c =
    let unsigned : List ℕ = c.split_sign-is_negative.result.1.now in
    let count : ℕ = c.leading_digits-whole.result.1 in
    let whole : take (length unsigned - count) (drop count unsigned) ≡ drop count unsigned = take_all (length unsigned - count) (drop count unsigned) (omega (arith, length-drop count unsigned)) in
    word_whole c.args.bytes.now unsigned c.split_sign-is_negative.result.0 count c.leading_digits-whole.result.0 c.split_sign-is_negative.ensures.negative c.split_sign-is_negative.ensures.rest c.leading_digits-whole.ensures.within c.leading_digits-whole.ensures.digits c.leading_digits-whole.ensures.value (omega arith) (omega (arith, c.leading_digits-whole.ensures.limit))
    _ c.signed_value-then-is_ended.result whole (sym c.if-is_ended.ensures) c.signed_value-then-is_ended.ensures

pub returns : goal.returns
returns c =
    let unsigned : List ℕ = c.split_sign-is_negative.result.1.now in
    let count : ℕ = c.leading_digits-whole.result.1 in
    let whole : take (length unsigned - count) (drop count unsigned) ≡ drop count unsigned = take_all (length unsigned - count) (drop count unsigned) (omega (arith, length-drop count unsigned)) in
    let rest : List ℕ = c.in-Some-after_byte.rest.now in
    let digits : ℕ = c.digit_count-count.result in
    word_point c.args.bytes.now unsigned c.split_sign-is_negative.result.0 count c.leading_digits-whole.result.0 c.split_sign-is_negative.ensures.negative c.split_sign-is_negative.ensures.rest c.leading_digits-whole.ensures.within c.leading_digits-whole.ensures.digits c.leading_digits-whole.ensures.value (omega arith) (omega (arith, c.leading_digits-whole.ensures.limit))
    c.split_at.result.0.now c.split_at.result.1.now c.signed_value-2.result
    (sym whole ∙ c.in-Some-after_byte.ensures ∙ ap (λ (l : List ℕ). 46 ∷ l) (sym (take-append-drop digits rest) ∙ ap (λ (l : List ℕ). l ++ drop digits rest) (sym c.split_at.ensures.front) ∙ ap (λ (l : List ℕ). c.split_at.result.0.now ++ l) (sym c.split_at.ensures.back)))
    (ap (list_all is_ascii_digit) c.split_at.ensures.front ∙ c.digit_count-count.ensures.digits)
    (omega (arith, c.split_at.ensures.front_len))
    (omega (arith, c.if-magnitude-gt-LIMIT.false, c.millionths.ensures.value))
    (sym c.if-not-is_ended.ensures)
    (c.signed_value-2.ensures ∙ ap (λ (m : ℕ). signed c.split_sign-is_negative.result.0 (1000000 * c.leading_digits-whole.result.0 + m)) c.millionths.ensures.value)
