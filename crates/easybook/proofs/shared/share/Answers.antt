use Rattle.std.proofs.Common.{rules, ◌≡◌, ℕ, List, length, map, take, true, nat_le, Err, ap, ◌∙◌}
use Rattle.std.specs.Io.KnownBytes.{Appends}
use Rattle.std.proofs.lemmas.List.Folds.{list_all-map}
use Rattle.easybook.specs.Alone.{script_limit}
use Rattle.easybook.specs.Shared.{are_within, headed}
use Rattle.easybook.specs.declared.fault.ProgramFault.TheVariants as faults
use Rattle.easybook.proofs.Beguns.{err-is}
use Rattle.easybook.proofs.Shareds.{shared_failed, shared_stopped, shared_written}
use Rattle.easybook.proofs.shared.share.Goals as goal

pub returns-in_err-write_all : goal.returns-in_err-write_all
returns-in_err-write_all g c =
    let scripts : List (List ℕ) = map (λ s. s.items) c.args.scripts.now in
    let texts : List (List ℕ) = map (λ t. t.items) c.in_ok-texts.texts.items in
    let outcome : c.from_residual-in_err-write_all.result ≡ Err faults.Write = search rules in
    let within : are_within scripts ≡ true = list_all-map (λ (s : List ℕ). nat_le (length s) script_limit) (λ s. s.items) c.args.scripts.now ∙ c.requires in
    let wrote : (n : ℕ) × Appends (g.W.Write.contents c.args.writer.now) (g.W.Write.contents c.write_all.new.writer) (take n (headed 1 texts)) = rw (← c.as_slice.ensures.value) c.in_err-write_all.ensures in
    λ log procs spacing book. shared_stopped c.from_residual-in_err-write_all.result g.row.A.Denot log procs spacing _ _ _ scripts texts _ _ outcome book (ap (map (λ k. k.items)) c.as_slice-comments.ensures.value) within c.in_ok-texts.ensures.along wrote

pub returns : goal.returns
returns g c =
    let scripts : List (List ℕ) = map (λ s. s.items) c.args.scripts.now in
    let texts : List (List ℕ) = map (λ t. t.items) c.in_ok-texts.texts.items in
    let within : are_within scripts ≡ true = list_all-map (λ (s : List ℕ). nat_le (length s) script_limit) (λ s. s.items) c.args.scripts.now ∙ c.requires in
    let wrote : Appends (g.W.Write.contents c.args.writer.now) (g.W.Write.contents c.write_all.new.writer) (headed 1 texts) = rw (← c.as_slice.ensures.value) c.in_ok-write_all.ensures in
    λ log procs spacing book. shared_written (tt {0}) g.row.A.Denot log procs spacing _ _ _ scripts texts _ _ book (ap (map (λ k. k.items)) c.as_slice-comments.ensures.value) within c.in_ok-texts.ensures.along wrote

pub returns-in_err-texts : goal.returns-in_err-texts
returns-in_err-texts g c =
    let outcome = err-is c.from_residual.result c.in_err-texts.field-0.0 c.from_residual.ensures.1 in
    λ log procs spacing book. shared_failed c.from_residual.result g.row.A.Denot log procs (map (λ s. s.items) c.args.scripts.now) _ c.in_err-texts.field-0.0 outcome c.in_err-texts.ensures.fault
