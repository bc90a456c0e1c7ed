use Rattle.std.proofs.Common.{◌≡◌, ◌++◌, [], List, ℕ, sym, ap, subst, ◌∙◌}
use Rattle.std.proofs.lemmas.List.{append-nil}
use Rattle.parallel_reader.specs.Fronts.{IsFront}
use Rattle.parallel_reader.proofs.Fronts.{ok_by, ok_map, read_none, read_whole}
use Rattle.parallel_reader.proofs.pieces.begin_log.Goals as goal

pub returns-then-is_end-clause-read : goal.returns-then-is_end-clause-read
returns-then-is_end-clause-read g c =
    let f = c.in_ok-is_end.ensures.given in
    ok_by _ _ _ c.with_rest.result (λ read same_front same_rest. read_none f.0 _ _ _ _ (subst (IsFront []) (sym same_front) c.new-then-is_end.ensures) f.1 (same_rest ∙ append-nil c.all.result.now ∙ c.all.ensures ∙ f.2))
    c.with_rest.ensures.front c.with_rest.ensures.rest

pub returns-in-Some-clause-read : goal.returns-in-Some-clause-read
returns-in-Some-clause-read g c =
    let f = c.in_ok-is_end.ensures.given in
    let had : List ℕ = c.lines.result.now ++ c.tail.result.now in
    let same : had ≡ f.0 = ap (λ (l : List ℕ). l ++ c.tail.result.now) c.lines.ensures.lines ∙ ap (λ (l : List ℕ). c.fill.new.self.lines ++ l) c.tail.ensures ∙ f.2 in
    ok_map _ _ c.read_pieces.result (λ read behind. read_whole had f.0 _ _ _ _ _ f.1 same (behind c.lines.result.now c.in-Some.ensures)) c.read_pieces.ensures.read

pub returns-clause-read : goal.returns-clause-read
returns-clause-read g c =
    let f = c.in_ok-is_end.ensures.given in
    ok_by _ _ _ c.with_rest-in-None.result (λ read same_front same_rest. read_none f.0 _ _ _ _ (subst (IsFront []) (sym same_front) c.new-in-None.ensures) f.1 (same_rest ∙ append-nil c.all-in-None.result.now ∙ c.all-in-None.ensures ∙ f.2))
    c.with_rest-in-None.ensures.front c.with_rest-in-None.ensures.rest
