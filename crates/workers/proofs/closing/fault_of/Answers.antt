use Rattle.std.proofs.Common.{rules, ◌≡◌, false, IsTrue}
use Rattle.workers.proofs.closing.fault_of.Goals as goal

pub returns-then-is_theirs : goal.returns-then-is_theirs
returns-then-is_theirs g c =
    let all : IsTrue c.are_opened.result = search rules in
    let yes : IsTrue c.is_theirs.result = search rules in
    (c.are_opened.ensures.0 all, c.is_theirs.ensures.0 yes)

pub returns-else-is_theirs : goal.returns-else-is_theirs
returns-else-is_theirs g c =
    let all : IsTrue c.are_opened.result = search rules in
    let no : c.is_theirs.result ≡ false = search rules in
    (c.are_opened.ensures.0 all, (λ t. let yes : IsTrue c.is_theirs.result = c.is_theirs.ensures.1 t in cc))
