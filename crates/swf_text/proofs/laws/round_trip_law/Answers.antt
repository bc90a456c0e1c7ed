use Rattle.std.proofs.Common.{ap}
use Rattle.swf_text.specs.Text.{lines}
use Rattle.swf_text.specs.Writing.{text_bytes}
use Rattle.swf_text.proofs.Kept.{read_comments, text_again, one_text}
use Rattle.swf_text.proofs.laws.round_trip_law.Goals as goal

pub returns-clause-one_text : goal.returns-clause-one_text
returns-clause-one_text c = one_text

pub returns-clause-comments : goal.returns-clause-comments
returns-clause-comments c = read_comments

pub returns-clause-read_again : goal.returns-clause-read_again
returns-clause-read_again c = text_again

pub returns-clause-same_bytes : goal.returns-clause-same_bytes
returns-clause-same_bytes c bytes t u read again = ap text_bytes (one_text (lines (text_bytes t)) t u (text_again bytes t read) again)
