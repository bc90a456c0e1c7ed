use Rattle.std.proofs.Common.{ℕ, List, [], ◌++◌, drop, ap, subst, ◌∙◌}
use Rattle.std.proofs.lemmas.List.{take_rest}
use Rattle.parallel_reader.specs.Fronts.{IsReading}
use Rattle.parallel_reader.proofs.Fronts.{memory_reading, split_front}
use Rattle.parallel_reader.proofs.reader.read_parallel.Goals as goal

read : (g : _) (c : goal.After-drop-read g) → IsReading c.args.bytes.now c.read_behind.result
read g c =
    let bytes = c.args.bytes.now in
    let is = c.in-Ok.ensures.read in
    let split = split_front bytes _ c.in-Ok.read.front c.in-Ok.read.rest.items is in
    let whole = ap (λ (l : List ℕ). is.front ++ l) (take_rest bytes c.bytes-at.result ∙ ap (λ (n : ℕ). drop n bytes) c.bytes-at.ensures) ∙ split.0 in
    subst (λ (l : List ℕ). IsReading l c.read_behind.result) whole (c.read_behind.ensures is.front is.is_front)

pub returns-in-Ok-clause-text : goal.returns-in-Ok-clause-text
returns-in-Ok-clause-text g c = (read g c).text

pub returns-in-Ok-clause-only : goal.returns-in-Ok-clause-only
returns-in-Ok-clause-only g c = (read g c).only

pub returns-in-Ok-clause-fault : goal.returns-in-Ok-clause-fault
returns-in-Ok-clause-fault g c = (read g c).fault

pub returns-in-Ok-clause-reached : goal.returns-in-Ok-clause-reached
returns-in-Ok-clause-reached g c = (read g c).reached

pub returns-in-Ok-clause-comments : goal.returns-in-Ok-clause-comments
returns-in-Ok-clause-comments g c = (read g c).comments

pub returns-in-Err-clause-reached : goal.returns-in-Err-clause-reached
returns-in-Err-clause-reached g c = (memory_reading [] c.args.bytes.now (c.is_for_one.ensures c.if-is_for_one.false)).reached
