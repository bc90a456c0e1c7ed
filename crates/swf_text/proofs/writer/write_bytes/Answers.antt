use Rattle.std.proofs.Common.{◌≡◌, ◌-◌, ℕ, List, length, take, drop, subst, arith}
use Rattle.std.proofs.lemmas.List.{take_all, length-take, length-drop}
use Rattle.std.specs.Io.KnownBytes.{Appends}
use Rattle.swf_text.proofs.Writings.{appends_more}
use Rattle.swf_text.proofs.writer.write_bytes.Goals as goal

pub loop-written-preserved : goal.loop-written-preserved
loop-written-preserved g c =
    let bytes = c.args.bytes.now in
    let written = c.loop-written.written in
    let whole : take (length bytes - written) (drop written bytes) ≡ drop written bytes = take_all (length bytes - written) (drop written bytes) (omega (arith, length-drop written bytes)) in
    record {
      within = omega (arith, c.in-Ok.ensures.bound, length-take (length bytes - written) (drop written bytes), length-drop written bytes);
      outcome = appends_more _ _ _ written c.in-Ok.count bytes c.loop-written.invariant.outcome (subst (λ (l : List ℕ). Appends (g.W.Write.contents c.loop-written.writer) (g.W.Write.contents c.write.new.self) (take c.in-Ok.count l)) whole c.in-Ok.ensures.bytes);
    }
