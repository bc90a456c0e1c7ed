use Rattle.std.proofs.Common.{rules, ◌≡◌, ◌≤◌, length, map, vec_len, None, sym, ap, ◌∙◌, arith}
use Rattle.std.proofs.lemmas.List.{length-map}
use Rattle.std.specs.Option.{option_map}
use Rattle.clap.specs.Words.{found_of}
use Rattle.easybook.specs.Words.{Choice, found_scripts, scripts_of}
use Rattle.easybook.proofs.Choices.{all-taken, chosen-found, many-scripts, none-taken}
use Rattle.easybook.proofs.words.read_words.Goals as goal

pub returns-in_err-procs-clause-refused : goal.returns-in_err-procs-clause-refused
returns-in_err-procs-clause-refused c =
    let found = chosen-found (map (λ w. w.now) c.args.words.now) (found_of c.in_ok-matches.matches) c.in_ok-matches.ensures.taken c.in_ok-matches.ensures.rows in
    search (rules, found)

pub returns-in_err-spacing-clause-refused : goal.returns-in_err-spacing-clause-refused
returns-in_err-spacing-clause-refused c =
    let found = chosen-found (map (λ w. w.now) c.args.words.now) (found_of c.in_ok-matches.matches) c.in_ok-matches.ensures.taken c.in_ok-matches.ensures.rows in
    search (rules, found)

pub returns-in_err-workers-clause-refused : goal.returns-in_err-workers-clause-refused
returns-in_err-workers-clause-refused c =
    let found = chosen-found (map (λ w. w.now) c.args.words.now) (found_of c.in_ok-matches.matches) c.in_ok-matches.ensures.taken c.in_ok-matches.ensures.rows in
    search (rules, found)

pub returns-then-len-gt-MAX_CALLERS-clause-refused : goal.returns-then-len-gt-MAX_CALLERS-clause-refused
returns-then-len-gt-MAX_CALLERS-clause-refused c =
    let found = chosen-found (map (λ w. w.now) c.args.words.now) (found_of c.in_ok-matches.matches) c.in_ok-matches.ensures.taken c.in_ok-matches.ensures.rows in
    let paths = map (λ p. p.now) c.in_ok-scripts.scripts.items in
    let many : scripts_of (found_scripts (found_of c.in_ok-matches.matches)) ≡ None = ap scripts_of (sym c.in_ok-scripts.ensures) ∙ many-scripts paths (omega (arith, length-map c.in_ok-scripts.scripts.items (λ p. p.now), c.in_ok-scripts.scripts.ok.0, c.len.ensures, c.if-len-gt-MAX_CALLERS.true)) in
    search (rules, found, many)

pub returns-then-not-is_allowed-clause-refused : goal.returns-then-not-is_allowed-clause-refused
returns-then-not-is_allowed-clause-refused c =
    let paths = map (λ p. p.now) c.in_ok-scripts.scripts.items in
    let len : length paths ≡ vec_len c.in_ok-scripts.scripts = omega (arith, length-map c.in_ok-scripts.scripts.items (λ p. p.now), c.in_ok-scripts.scripts.ok.0) in
    let few : length paths ≤ 64 = omega (arith, len, c.len.ensures, c.if-len-gt-MAX_CALLERS.false) in
    let all : Choice = record { log = option_map (λ t. t.now) c.get_str-log.result; procs = c.in_ok-procs.procs; spacing = c.in_ok-spacing.spacing; workers = c.in_ok-workers.workers; scripts = paths; live = c.is_live-live.result } in
    none-taken (map (λ w. w.now) c.args.words.now) (found_of c.in_ok-matches.matches) all c.in_ok-matches.ensures.taken c.in_ok-matches.ensures.rows
    (search rules) (search rules) (search rules) (search rules) (sym c.in_ok-scripts.ensures) few (search rules) (search (rules, len))

pub returns-clause-chosen : goal.returns-clause-chosen
returns-clause-chosen c =
    let paths = map (λ p. p.now) c.in_ok-scripts.scripts.items in
    let len : length paths ≡ vec_len c.in_ok-scripts.scripts = omega (arith, length-map c.in_ok-scripts.scripts.items (λ p. p.now), c.in_ok-scripts.scripts.ok.0) in
    let few : length paths ≤ 64 = omega (arith, len, c.len.ensures, c.if-len-gt-MAX_CALLERS.false) in
    let all : Choice = record { log = option_map (λ t. t.now) c.get_str-log.result; procs = c.in_ok-procs.procs; spacing = c.in_ok-spacing.spacing; workers = c.in_ok-workers.workers; scripts = paths; live = c.is_live-live.result } in
    all-taken (map (λ w. w.now) c.args.words.now) (found_of c.in_ok-matches.matches) all c.in_ok-matches.ensures.taken c.in_ok-matches.ensures.rows
    (search rules) (search rules) (search rules) (search rules) (sym c.in_ok-scripts.ensures) few (search rules) (search (rules, len))
