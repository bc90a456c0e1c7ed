use Rattle.std.proofs.Common.{rules, ◌≡◌, ◌<◌, length, map, vec_len, Err, arith}
use Rattle.std.proofs.lemmas.Bool.Decides.{nat_tests}
use Rattle.std.proofs.lemmas.List.{length-map}
use Rattle.easybook.specs.Words.{Choice, choice_of}
use Rattle.easybook.specs.declared.stop.Stop.TheVariants.{Fault}
use Rattle.easybook.proofs.Shareds.{ends_so, ends_with}
use Rattle.easybook.proofs.program.run_named_words.Goals as goal

pub returns-in_err-run_beside : goal.returns-in_err-run_beside
returns-in_err-run_beside g c =
    let choice : Choice = choice_of c.in_ok-words.words in
    let outcome : c.from_residual-in_err-run_beside.result ≡ Err (Fault c.in_err-run_beside.field-0.0) = search rules in
    let some : 0 < vec_len c.in_ok-words.words.scripts = grind (arith, nat_tests, c.is_empty.ensures, c.if-not-is_empty.ensures, c.if-not-is_empty.true) in
    let filled : 0 < length choice.scripts = omega (arith, some, length-map c.in_ok-words.words.scripts.items (λ s. s.now), c.in_ok-words.words.scripts.ok.0) in
    ends_so (g.S.Sources.known c.args.sources.now) c.from_residual-in_err-run_beside.result (map (λ w. w.now) c.args.words.now) choice c.in_err-run_beside.field-0.0 (g.R.Read.remaining c.args.reader) _ _ outcome c.in_ok-words.ensures.chosen
    (ends_with (g.S.Sources.known c.args.sources.now) choice.scripts choice.log choice.live choice.procs (g.R.Read.remaining c.args.reader) _ _ (Err c.in_err-run_beside.field-0.0) filled c.in_err-run_beside.ensures)

pub returns-then-not-is_empty : goal.returns-then-not-is_empty
returns-then-not-is_empty g c =
    let choice : Choice = choice_of c.in_ok-words.words in
    let some : 0 < vec_len c.in_ok-words.words.scripts = grind (arith, nat_tests, c.is_empty.ensures, c.if-not-is_empty.ensures, c.if-not-is_empty.true) in
    let filled : 0 < length choice.scripts = omega (arith, some, length-map c.in_ok-words.words.scripts.items (λ s. s.now), c.in_ok-words.words.scripts.ok.0) in
    (choice, c.in_ok-words.ensures.chosen, ends_with (g.S.Sources.known c.args.sources.now) choice.scripts choice.log choice.live choice.procs (g.R.Read.remaining c.args.reader) _ _ _ filled c.in_ok-run_beside.ensures)
