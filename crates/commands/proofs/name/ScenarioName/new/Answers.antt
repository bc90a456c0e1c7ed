use Rattle.std.proofs.Common.{sym}
use Rattle.commands.proofs.LineWords.{IsUtf8-name, ok_unless}
use Rattle.commands.proofs.name.ScenarioName.new.Goals as goal

pub unwrap-requires : goal.unwrap-requires
unwrap-requires c = ok_unless _ _ _ c.from_utf8.ensures.cases (λ e h. h.0 (IsUtf8-name c.args.bytes.now (sym c.if-not-is_name.ensures)))
