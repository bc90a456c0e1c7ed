use Rattle.std.proofs.Common.{rules, ◌≡◌, ℕ, List, length, map, true, false, nat_le, Err, sym, ◌∙◌}
use Rattle.std.specs.List.{list_all}
use Rattle.std.proofs.lemmas.List.Folds.{list_all-map}
use Rattle.std.proofs.lemmas.Bool.{true≢false}
use Rattle.easybook.specs.Alone.{script_limit}
use Rattle.easybook.specs.Shared.{are_within}
use Rattle.easybook.proofs.Shareds.{shared_long_script, shared_unopened}
use Rattle.easybook.proofs.shared.run_shared_gated.Goals as goal

pub returns : goal.returns
returns g c = c.share.ensures c.args.log.now c.args.options.procs c.args.options.spacing c.in_ok-opened.ensures.book

pub returns-then-not-are_within : goal.returns-then-not-are_within
returns-then-not-are_within g c =
    let some : list_all (λ s. nat_le (length s.items) script_limit) c.args.scripts.now ≡ false = search rules in
    let whole = list_all-map (λ (s : List ℕ). nat_le (length s) script_limit) (λ s. s.items) c.args.scripts.now in
    shared_long_script (Unit {0}) g.row.A.Denot c.args.log.now c.args.options.procs (map (λ s. s.items) c.args.scripts.now) _ (λ within. true≢false (sym within ∙ (whole ∙ some)))

pub returns-in_err-opened : goal.returns-in_err-opened
returns-in_err-opened g c =
    let scripts : List (List ℕ) = map (λ s. s.items) c.args.scripts.now in
    let outcome : c.from_residual.result ≡ Err c.in_err-opened.field-0.0 = search rules in
    let few : list_all (λ s. nat_le (length s.items) script_limit) c.args.scripts.now ≡ true = search rules in
    let within : are_within scripts ≡ true = list_all-map (λ (s : List ℕ). nat_le (length s) script_limit) (λ s. s.items) c.args.scripts.now ∙ few in
    shared_unopened c.from_residual.result g.row.A.Denot c.args.log.now c.args.options.procs scripts _ c.in_err-opened.field-0.0 outcome within c.in_err-opened.ensures.fault
