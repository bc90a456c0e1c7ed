use Rattle.std.proofs.Common.{Bool, Some, Global, subst, sym}
use Rattle.easybook.specs.Program.{EndsFrom}
use Rattle.easybook.proofs.Lives.{talk_from}
use Rattle.easybook.proofs.program.run_on_named.Goals as goal

pub returns-then-words : goal.returns-then-words
returns-then-words g c =
    subst (λ (live : Bool). EndsFrom (g.S.Sources.known c.args.sources.now) (Some c.args.name.now) live c.args.words.now.options.procs (g.R.Read.remaining c.args.reader) (g.W.Write.contents c.args.writer.now) (g.W.Write.contents c.talk_on_file.new.writer) c.talk_on_file.result) (sym c.if-words.true)
    (talk_from Global _ (g.S.Sources.known c.args.sources.now c.args.name.now) _ _ _ _ _ c.in_ok-log.ensures c.talk_on_file.ensures)
