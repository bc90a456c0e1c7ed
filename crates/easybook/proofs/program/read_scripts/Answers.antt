use Rattle.std.proofs.Common.{◌≡◌, ◌+◌, ◌++◌, [], ◌∷◌, map, take, ap, sym, subst, ◌∙◌}
use Rattle.std.proofs.lemmas.List.{map_push}
use Rattle.easybook.specs.Program.{AreFronts}
use Rattle.easybook.proofs.Besides.{fronts_next}
use Rattle.easybook.proofs.program.read_scripts.Goals as goal

pub loop-name-preserved : goal.loop-name-preserved
loop-name-preserved g c =
    let pushed : map (λ s. s.items) c.push.new.self.items ≡ map (λ s. s.items) c.loop-name.scripts.items ++ c.in_ok-script.script.items ∷ [] = ap (map (λ s. s.items)) c.in_ok-push.ensures.items ∙ map_push (λ s. s.items) c.loop-name.scripts.items c.in_ok-script.script in
    subst (AreFronts (g.S.Sources.known c.args.sources.now) (take (c.loop-name.name-index + 1) (map (λ n. n.now) c.args.names.now))) (sym pushed)
    (fronts_next (g.S.Sources.known c.args.sources.now) c.args.names.now c.loop-name.name-index (map (λ s. s.items) c.loop-name.scripts.items) c.in_ok-script.script.items _ c.loop-name-test.true c.loop-name.invariant c.in_ok-script.ensures.front)
