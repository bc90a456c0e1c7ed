use Rattle.std.proofs.Common.{◌++◌, ℕ, Bor, Global, List, Vec, map, subst, sym}
use Rattle.std.specs.Option.{option_map}
use Rattle.easybook.specs.Program.{AreFronts, log_known}
use Rattle.easybook.proofs.Besides.{beside_ends}
use Rattle.easybook.proofs.program.run_beside.Goals as goal

pub returns : goal.returns
returns g c =
    let sources = g.S.Sources.known c.args.sources.now in
    let names = map (λ s. s.now) c.args.words.now.scripts.items in
    let known = log_known sources (option_map (λ p. p.now) c.args.words.now.log) (g.R.Read.remaining c.args.reader) in
    let u = c.in_ok-begun.ensures.front in
    beside_ends sources names c.args.words.now.options.procs known _ _ (u.front ++ c.in_ok-begun.begun.rest.items) (map (λ s. s.items) c.as_slice-2.result.now) c.run_shared_begun.result
    u.whole
    (subst (λ (ns : List (Bor (List ℕ))). AreFronts sources (map (λ s. s.now) ns) (map (λ s. s.items) c.as_slice-2.result.now)) c.as_slice.ensures.value
    (subst (λ (ss : List (Vec ℕ Global)). AreFronts sources (map (λ s. s.now) c.as_slice.result.now) (map (λ s. s.items) ss)) (sym c.as_slice-2.ensures.value) c.in_ok-scripts.ensures.fronts))
    (c.run_shared_begun.ensures u.front u.is_front)
