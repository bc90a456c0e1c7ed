use Rattle.std.proofs.Common.{◌≡◌, drop, map}
use Rattle.swf_text.specs.Header.{header_number}
use Rattle.swf_text.proofs.header.first_number.Given as goal

abbrev pub invariant-loop-comment : goal.invariant-loop-comment
invariant-loop-comment g l = header_number l.label (map (λ c. c.items) (drop l.comment-index l.comment-items)) ≡ header_number l.label l.text.comments
