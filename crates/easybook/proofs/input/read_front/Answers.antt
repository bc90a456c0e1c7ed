use Rattle.std.proofs.Common.{◌≡◌, ◌+◌, IfSome, Option, Some, None, List, [], ◌++◌, ℕ, take, subst}
use Rattle.std.specs.Option.{option_map}
use Rattle.easybook.proofs.input.read_front.Goals as goal

taken : {R : Type 0} (remaining : R → Option (List ℕ)) (inner reader : R) (limit n : ℕ) (old bytes : List ℕ) → inner ≡ reader → limit ≡ n → old ≡ [] → IfSome (option_map (take limit) (remaining inner)) (λ xs. bytes ≡ old ++ xs) → IfSome (option_map (take n) (remaining reader)) (λ front. bytes ≡ front)
taken {R} remaining inner reader limit n old bytes same_reader same_limit none h =
    let at_limit = subst (λ (m : ℕ). IfSome (option_map (take m) (remaining inner)) (λ xs. bytes ≡ old ++ xs)) same_limit h in
    let at_reader = subst (λ (r : R). IfSome (option_map (take n) (remaining r)) (λ xs. bytes ≡ old ++ xs)) same_reader at_limit in
    subst (λ (l : List ℕ). IfSome (option_map (take n) (remaining reader)) (λ xs. bytes ≡ l ++ xs)) none at_reader

of_front : (known : Option (List ℕ)) (n : ℕ) (bytes : List ℕ) → IfSome (option_map (take n) known) (λ front. bytes ≡ front) → IfSome known (λ all. bytes ≡ take n all)
of_front None n bytes h = tt
of_front (Some all) n bytes h = h

pub returns-clause-front : goal.returns-clause-front
returns-clause-front g c =
    of_front (g.R.Read.remaining c.args.reader) (c.args.limit + 1) c.read_to_end.new.buf.items (taken (g.R.Read.remaining) c.take.result.inner c.args.reader c.take.result.limit (c.args.limit + 1) c.new-bytes.result.items c.read_to_end.new.buf.items c.take.ensures.inner c.take.ensures.limit c.new-bytes.ensures.items c.in_ok-read_to_end.ensures.bytes)
