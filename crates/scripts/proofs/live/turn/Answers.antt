use Rattle.std.proofs.Common.{rules, ◌≡◌, ℕ, List, map, subst, Err}
use Rattle.commands.specs.Commands.{command_of_line}
use Rattle.scripts.specs.Transcript.{IsLine}
use Rattle.scripts.specs.declared.live.LiveFault.TheVariants as faults
use Rattle.scripts.proofs.Conversations.{at_quit_outcome, cut_off, followed, unheard, unread}
use Rattle.scripts.proofs.live.turn.Goals as goal

pub returns-in_err-end : goal.returns-in_err-end
returns-in_err-end g c = λ first from old said.
    let outcome : c.from_residual.result ≡ Err faults.Read = search rules in
    unheard g.row.A.Denot (map (λ c'. c'.items) c.args.comments.now) first from _ old _ _ _ said c.from_residual.result _ _ _ outcome c.in_err-end.ensures

pub returns-in_err-quits : goal.returns-in_err-quits
returns-in_err-quits g c = λ first from old said.
    let outcome : c.from_residual-in_err-quits.result ≡ Err faults.Write = search rules in
    let (text, so, part) = c.in_err-quits.ensures.outcome in
    let answers = subst (λ (line : List ℕ). IsLine (map (λ c'. c'.items) c.args.comments.now) c.args.analyst.now c.args.number (command_of_line {A = g.row.A.Denot} line) text c.answer.new.analyst) c.as_slice.ensures so in
    cut_off g.row.A.Denot (map (λ c'. c'.items) c.args.comments.now) first from _ old _ _ _ said _ _ _ text _ _ c.in_ok-end.ensures answers c.from_residual-in_err-quits.result outcome part

pub returns-then-quits : goal.returns-then-quits
returns-then-quits g c = λ first from old said.
    let (text, so, all) = c.in_ok-quits.ensures.outcome in
    let answers = subst (λ (line : List ℕ). IsLine (map (λ c'. c'.items) c.args.comments.now) c.args.analyst.now c.args.number (command_of_line {A = g.row.A.Denot} line) text c.answer.new.analyst) c.as_slice.ensures so in
    at_quit_outcome g.row.A.Denot (map (λ c'. c'.items) c.args.comments.now) first from _ old _ _ _ said _ _ _ text _ _ c.in_ok-end.ensures answers (search rules) all

pub returns-in_err-follows : goal.returns-in_err-follows
returns-in_err-follows g c = λ first from old said.
    let outcome : c.from_residual-in_err-follows.result ≡ Err faults.Read = search rules in
    let (text, so, all) = c.in_ok-quits.ensures.outcome in
    let answers = subst (λ (line : List ℕ). IsLine (map (λ c'. c'.items) c.args.comments.now) c.args.analyst.now c.args.number (command_of_line {A = g.row.A.Denot} line) text c.answer.new.analyst) c.as_slice.ensures so in
    unread g.row.A.Denot (map (λ c'. c'.items) c.args.comments.now) first from _ old _ _ _ said _ _ _ text _ _ c.in_ok-end.ensures answers c.from_residual-in_err-follows.result _ _ outcome all c.in_err-follows.ensures

pub returns : goal.returns
returns g c = λ first from old said.
    let (text, so, all) = c.in_ok-quits.ensures.outcome in
    let answers = subst (λ (line : List ℕ). IsLine (map (λ c'. c'.items) c.args.comments.now) c.args.analyst.now c.args.number (command_of_line {A = g.row.A.Denot} line) text c.answer.new.analyst) c.as_slice.ensures so in
    followed g.row.A.Denot (map (λ c'. c'.items) c.args.comments.now) first from _ old _ _ _ said _ _ _ text _ _ c.in_ok-end.ensures answers _ c.in_ok-follows.follows (search rules) all c.in_ok-follows.ensures
